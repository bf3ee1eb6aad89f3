-- The grammar of stored forms, as data.
use Rattle.std.specs.Prelude.{ℕ, Option, Some, None, nat_eq, if◌then◌else◌}
use Rattle.slang_names.specs.declared.form_codes.FormCode.{FormCode}
use Rattle.slang_names.specs.declared.form_codes.FormCode.TheVariants.{BadMagic, BadVersion, NotCanonical}

-- The productions that count as nested.
pub data Class : Type 0 where
  Term Evidence Stat Expr Place : Class

-- `exactly` has the code of the refusal of any other byte. `tag n f` is that byte and then f; `alt n f g` is
-- that, or what g says where another byte stands.
pub data Form : Type 0 where
  unit : Form
  exactly : FormCode → ℕ → Form
  range : ℕ → ℕ → Form
  num : Form
  name : Form
  ◌▹◌ : Form → Form → Form
  tag : ℕ → Form → Form
  alt : ℕ → Form → Form → Form
  list : Form → Form
  part : Class → Form

infixr 20 ◌▹◌
-- nothing, or what the form says
abbrev pub opt : Form → Form
opt f = alt 0 unit (tag 1 f)

-- a declaration: its module, and its path
abbrev pub ref : Form
ref = name ▹ name

-- public, internal or private
abbrev pub acc : Form
acc = range 0 2

-- static, mutating, or both
abbrev pub flags : Form
flags = range 0 3

-- a number in a type
abbrev pub value : Form
value = alt 0 num (tag 1 num)

abbrev pub arg : Form
arg = alt 0 (part Term) (tag 1 value)

abbrev pub type_form : Form
type_form =
    alt 0 unit (alt 1 unit (alt 2 unit (alt 3 unit (alt 4 (range 2 3 ▹ range 2 4) (alt 5 (part Term ▹ value)
    (alt 6 (ref ▹ list arg) (alt 7 num (alt 8 (part Term ▹ ref ▹ name) (alt 9 (part Term) (alt 10 (part Term)
    (alt 11 (part Term) (tag 12 (part Term)))))))))))))

abbrev pub evidence_form : Form
evidence_form = alt 0 num (alt 1 (part Evidence ▹ ref ▹ name) (tag 2 (ref ▹ ref ▹ list arg ▹ list (part Evidence))))

abbrev pub given : Form
given = alt 0 (part Expr) (tag 1 (part Place))

abbrev pub call : Form
call =
    alt 0 (ref ▹ list arg ▹ list (part Evidence) ▹ list given)
    (tag 1 (part Evidence ▹ ref ▹ name ▹ list given))

abbrev pub unary : Form
unary = range 0 2

abbrev pub binary : Form
binary = range 0 15

abbrev pub conv : Form
conv = range 0 1

abbrev pub stat_form : Form
stat_form =
    alt 0 (list (part Stat)) (alt 1 (num ▹ part Expr) (alt 2 (part Place ▹ part Expr)
    (alt 3 (binary ▹ conv ▹ conv ▹ part Place ▹ part Expr) (alt 4 (part Expr ▹ part Stat ▹ part Stat)
    (alt 5 (part Expr ▹ part Stat ▹ part Stat) (alt 6 unit (alt 7 (part Expr) (alt 8 unit (alt 9 unit (tag 10 call))))))))))

abbrev pub expr_form : Form
expr_form =
    alt 0 num (alt 1 num (alt 2 unit (alt 3 unit (alt 4 (part Place) (alt 5 (unary ▹ part Expr)
    (alt 6 (binary ▹ part Expr ▹ part Expr) (alt 7 (part Expr ▹ part Expr) (alt 8 (part Expr ▹ part Expr)
    (alt 9 (part Expr ▹ part Expr ▹ part Expr) (alt 10 (part Expr) (alt 11 (part Term ▹ list (part Expr))
    (alt 12 (range 0 255 ▹ part Expr) (alt 13 (list (range 0 255) ▹ part Expr) (alt 14 (num ▹ part Expr)
    (alt 15 (part Expr ▹ part Expr) (alt 16 call (alt 17 (part Term ▹ list (part Expr)) (alt 18 (part Term)
    (tag 19 value)))))))))))))))))))

abbrev pub place_form : Form
place_form =
    alt 0 num (alt 1 unit (alt 2 ref (alt 3 (num ▹ part Place) (alt 4 (range 0 255 ▹ part Place) (tag 5 (part Place ▹ part Expr))))))

-- what a nested production is
abbrev pub grammar : Class → Form
grammar Term = type_form
grammar Evidence = evidence_form
grammar Stat = stat_form
grammar Expr = expr_form
grammar Place = place_form

abbrev pub params : Form
params = list (alt 0 name (tag 1 name)) ▹ list (num ▹ ref)

abbrev pub field : Form
field = name ▹ acc ▹ part Term

abbrev pub bind : Form
bind = name ▹ acc ▹ part Term

abbrev pub conf : Form
conf = ref ▹ list (part Term) ▹ list (part Evidence) ▹ list ref

-- copied in, out, or both
abbrev pub par : Form
par = range 0 2 ▹ part Term

abbrev pub req : Form
req = name ▹ flags ▹ list par ▹ part Term

abbrev pub entry : Form
entry = num ▹ num ▹ num ▹ list (range 0 3)

abbrev pub function : Form
function = name ▹ acc ▹ opt ref ▹ flags ▹ params ▹ list par ▹ part Term ▹ opt entry

abbrev pub decl : Form
decl =
    alt 1 (name ▹ acc ▹ params ▹ list field ▹ list conf ▹ list bind)
    (alt 2 (name ▹ acc ▹ list (name ▹ opt ref) ▹ list req)
    (alt 3 (ref ▹ params ▹ list conf ▹ list bind)
    (alt 4 function
    (alt 5 (name ▹ acc ▹ part Term)
    (alt 6 (name ▹ acc ▹ range 2 3 ▹ num)
    (tag 7 (name ▹ acc ▹ part Term ▹ opt (num ▹ num))))))))

abbrev pub interface : Form
interface = name ▹ list name ▹ list decl

abbrev pub body : Form
body = list (part Term) ▹ list (part Stat)

-- a whole module: four bytes, the version, the interfaces that it reaches, its own, and its bodies
abbrev pub module_form : Form
module_form =
    exactly BadMagic 0x53 ▹ exactly BadMagic 0x4C ▹ exactly BadMagic 0x4D ▹ exactly BadMagic 0x4F ▹ exactly BadVersion 1
    ▹ list interface ▹ interface ▹ list body

-- what stands behind that tag
abbrev pub chosen : Form → ℕ → Option Form
chosen (tag n f) k = if nat_eq k n then Some f else None
chosen (alt n f g) k = if nat_eq k n then Some f else chosen g k
chosen _ k = None
