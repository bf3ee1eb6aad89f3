-- Short texts and what they break first. The token at index n lies at n to n + 1.
use Rattle.std.proofs.Common.{◌≡◌, ℕ, ◌+◌, false, List, [], ◌∷◌, codes, drop, Option, Some, None, refl}
use Rattle.slang_names.specs.declared.places.Place.{Place}
use Rattle.slang_names.specs.declared.codes.ModuleCode.{ModuleCode}
use Rattle.slang_names.specs.declared.codes.ModuleCode.TheVariants as code
use Rattle.slang_tree.specs.declared.types.Identifier.{Identifier}
use Rattle.slang_tree.specs.declared.file.File.{File}
use Rattle.slang_tree.specs.declared.file.ItemNode.{ItemNode}
use Rattle.slang_tokens.specs.declared.tokens.Kind.{Kind}
use Rattle.slang_tokens.specs.declared.tokens.Kind.TheVariants as k
use Rattle.slang_tokens.specs.declared.tokens.Mark.{Mark}
use Rattle.slang_tokens.specs.declared.tokens.Mark.TheVariants as m
use Rattle.slang_tokens.specs.declared.tokens.Word.{Word}
use Rattle.slang_tokens.specs.declared.tokens.Word.TheVariants as w
use Rattle.slang_reading.specs.Lexed.{Lexed}
use Rattle.slang_reading.specs.Reading.{first}
use Rattle.slang_reading.specs.Kinds.{sees, sees_word}
use Rattle.slang_grammar.specs.Standing.{Stands, NameStands, IsNot}
use Rattle.slang_grammar.specs.Types as ty
use Rattle.slang_grammar.specs.Descent.{Limits}
use Rattle.statement_grammar.specs.AttributeTables.{attribute_of}
use Rattle.statement_grammar.specs.Attributes as a
use Rattle.statement_grammar.specs.Statements as st
use Rattle.statement_grammar.specs.Statements.{IsNoWord}
use Rattle.declaration_grammar.specs.Parts as p
use Rattle.declaration_grammar.specs.Parts.{access_at}
use Rattle.declaration_grammar.specs.Declarations as t
use Rattle.declaration_grammar.specs.Declarations.{FileAt, ItemNodeAt}
use Rattle.expression_limits.specs.Breaks.{Break}
use Rattle.declaration_limits.specs.Declarations.{file_break, file_breaks}

abbrev lies : ℕ → ℕ → Place
lies from to = record { start = from; end = to }

abbrev token : Kind → List ℕ → ℕ → Lexed
token kind bytes at = record { kind = kind; place = lies at (at + 1); bytes = bytes }

abbrev word : Word → ℕ → Lexed
word x = token (k.Word x) []

abbrev mark : Mark → ℕ → Lexed
mark x = token (k.Mark x) []

abbrev named_token : List ℕ → ℕ → Lexed
named_token bytes = token k.Name bytes

-- each token at its index
abbrev placed : ℕ → List (ℕ → Lexed) → List Lexed
placed at [] = []
placed at (t ∷ ts) = t at ∷ placed (at + 1) ts

-- with so many items in a list and bytes in a name
abbrev within : ℕ → ℕ → Limits
within items names = record { turns = 14; items = items; names = names; free = false }

-- that code at the token of that index
abbrev told : ModuleCode → ℕ → Option Break
told c at = Some (record { code = c; place = lies at (at + 1); at = at })

-- a rule on the attribute whose name has that index, which is broken at the token of the other
abbrev disobeyed : ℕ → ℕ → Option Break
disobeyed name at = Some (record { code = code.Unsupported; place = lies name (name + 1); at = at })

abbrev a_name : ℕ → Lexed
a_name = named_token (codes "a")

abbrev b_name : ℕ → Lexed
b_name = named_token (codes "bb")

-- ---- tokens that stand where they are seen

abbrev there : {ts : List Lexed} {at : ℕ} {kind : Kind} {q : Place} → first (drop at ts) ≡ Some (record { kind = kind; place = q; bytes = [] }) → Stands ts at kind q
there e = record { bytes = []; is = e }

abbrev called : {ts : List Lexed} {at : ℕ} {id : Identifier} → first (drop at ts) ≡ Some (record { kind = k.Name; place = id.place; bytes = id.name }) → NameStands ts at id
called e = record { is = e }

abbrev no_mark : {ts : List Lexed} {x : Mark} {at : ℕ} → sees x (first (drop at ts)) ≡ false → IsNot ts x at
no_mark e = record { is = e }

abbrev no_word : {ts : List Lexed} {x : Word} {at : ℕ} → sees_word x (first (drop at ts)) ≡ false → IsNoWord ts x at
no_word e = record { is = e }

-- one item without attributes and access word
abbrev alone : {ts : List Lexed} {x : ItemNode} {at : ℕ} → IsNoWord ts w.Module 0 → IsNoWord ts w.Import 0 → IsNot ts m.OpenBracket 0 → access_at (first (drop 0 ts)) ≡ None → ItemNodeAt ts x 0 at → first (drop at ts) ≡ None → (x : File) × FileAt ts x
alone i j b v x e = (_, t.file (t.no_module i) (t.end j) (t.more (a.end b) (p.no_access v) refl x (t.end e)))

-- ---- files

-- module bb;
abbrev module_tokens : List Lexed
module_tokens = placed 0 (word w.Module ∷ b_name ∷ mark m.Semicolon ∷ [])

abbrev module_only : (x : File) × FileAt module_tokens x
module_only = (_, t.file (t.module_line (t.line (there refl) (called refl) (there refl))) (t.end (no_word refl)) (t.end refl))

module_fits : file_break module_tokens (within 0 2) module_only.1 0 ≡ None
module_fits = refl

module_too_long : file_break module_tokens (within 0 1) module_only.1 0 ≡ told code.TooLong 1
module_too_long = refl

-- int a;
abbrev global_tokens : List Lexed
global_tokens = placed 0 (word w.Int ∷ a_name ∷ mark m.Semicolon ∷ [])

abbrev global : (x : File) × FileAt global_tokens x
global = alone (no_word refl) (no_word refl) (no_mark refl) refl (t.global (t.global (ty.plain (ty.builtin (there refl) refl) ty.whole) (called refl) (there refl))) refl

global_fits : file_break global_tokens (within 0 1) global.1 1 ≡ None
global_fits = refl

global_too_deep : file_break global_tokens (within 0 1) global.1 0 ≡ told code.TooNested 0
global_too_deep = refl

global_too_long : file_break global_tokens (within 0 0) global.1 1 ≡ told code.TooLong 1
global_too_long = refl

-- void a(int a) {}
abbrev function_tokens : List Lexed
function_tokens = placed 0 (word w.Void ∷ a_name ∷ mark m.OpenParen ∷ word w.Int ∷ a_name ∷ mark m.CloseParen ∷ mark m.OpenBrace ∷ mark m.CloseBrace ∷ [])

abbrev function : (x : File) × FileAt function_tokens x
function = alone (no_word refl) (no_word refl) (no_mark refl) refl
    (t.function (t.function (t.plain (ty.plain (ty.builtin (there refl) refl) ty.whole)) (called refl) (p.no_generics (no_mark refl))
    (p.parameters (there refl) (p.parameter (p.plain (ty.plain (ty.builtin (there refl) refl) ty.whole)) (st.declared_name (called refl) (st.end (no_mark refl))) (p.no_semantic (no_mark refl))) p.end (there refl))
    (p.end (no_word refl)) (st.block (there refl) (st.end (there refl)))) refl) refl

function_fits : file_break function_tokens (within 1 1) function.1 1 ≡ None
function_fits = refl

too_many_parameters : file_break function_tokens (within 0 1) function.1 1 ≡ told code.TooLong 3
too_many_parameters = refl

-- ---- members and requirements

-- struct a<a, bb> {}
abbrev generic_tokens : List Lexed
generic_tokens = placed 0 (word w.Struct ∷ a_name ∷ mark m.Less ∷ a_name ∷ mark m.Comma ∷ b_name ∷ mark m.Greater ∷ mark m.OpenBrace ∷ mark m.CloseBrace ∷ [])

abbrev generic : (x : File) × FileAt generic_tokens x
generic = alone (no_word refl) (no_word refl) (no_mark refl) refl
    (t.struct (t.struct (there refl) (t.head (called refl) (p.generics (there refl) (p.plain (called refl) (no_mark refl)) (p.more (there refl) (p.plain (called refl) (no_mark refl)) p.end) (there refl)) (p.no_heads (no_mark refl)) (p.end (no_word refl)) (there refl))
    (t.end (there refl)) (p.brace (there refl) (no_mark refl)))) refl

generic_fits : file_break generic_tokens (within 2 2) generic.1 0 ≡ None
generic_fits = refl

too_many_generics : file_break generic_tokens (within 1 2) generic.1 0 ≡ told code.TooLong 5
too_many_generics = refl

generic_too_long : file_break generic_tokens (within 2 1) generic.1 0 ≡ told code.TooLong 5
generic_too_long = refl

-- struct a { [mutating] int a; }
abbrev field_tokens : List Lexed
field_tokens = placed 0 (word w.Struct ∷ a_name ∷ mark m.OpenBrace ∷ mark m.OpenBracket ∷ named_token (codes "mutating") ∷ mark m.CloseBracket ∷ word w.Int ∷ a_name ∷ mark m.Semicolon ∷ mark m.CloseBrace ∷ [])

abbrev field : (x : File) × FileAt field_tokens x
field = alone (no_word refl) (no_word refl) (no_mark refl) refl
    (t.struct (t.struct (there refl) (t.head (called refl) (p.no_generics (no_mark refl)) (p.no_heads (no_mark refl)) (p.end (no_word refl)) (there refl))
    (t.more (a.more (a.named (there refl) (called refl) (a.no_literals (there refl))) (a.end (no_mark refl))) (p.no_access refl)
    (t.field (t.field (ty.plain (ty.builtin (there refl) refl) ty.whole) (st.declared_name (called refl) (st.end (no_mark refl))) t.end (there refl))) (t.end (there refl))) (p.brace (there refl) (no_mark refl)))) refl

-- that it is a field is known behind its name
no_method : file_break field_tokens (within 1 8) field.1 1 ≡ disobeyed 4 8
unfolding attribute_of
no_method = refl

type_goes_first : file_break field_tokens (within 1 8) field.1 0 ≡ told code.TooNested 6
unfolding attribute_of
type_goes_first = refl

attribute_goes_first : file_break field_tokens (within 1 1) field.1 0 ≡ told code.TooLong 4
attribute_goes_first = refl

-- a member begins at its attributes
too_many_members : file_break field_tokens (within 0 8) field.1 1 ≡ told code.TooLong 3
too_many_members = refl

-- all that it breaks
what_it_breaks : file_breaks field_tokens (within 0 1) field.1 0
    ≡ record { code = code.TooLong; place = lies 3 4; at = 3 } ∷ record { code = code.TooLong; place = lies 4 5; at = 4 }
    ∷ record { code = code.TooNested; place = lies 6 7; at = 6 } ∷ record { code = code.Unsupported; place = lies 4 5; at = 8 } ∷ []
unfolding attribute_of
what_it_breaks = refl

-- interface a { associatedtype a; associatedtype bb : a; }
abbrev interface_tokens : List Lexed
interface_tokens = placed 0 (word w.Interface ∷ a_name ∷ mark m.OpenBrace ∷ word w.AssociatedType ∷ a_name ∷ mark m.Semicolon ∷ word w.AssociatedType ∷ b_name ∷ mark m.Colon ∷ a_name ∷ mark m.Semicolon ∷ mark m.CloseBrace ∷ [])

abbrev interface : (x : File) × FileAt interface_tokens x
interface = alone (no_word refl) (no_word refl) (no_mark refl) refl
    (t.interface (t.interface (there refl) (called refl) (there refl) (t.more (t.associated (there refl) (called refl) (t.no_bound (no_mark refl)) (there refl))
    (t.more (t.associated (there refl) (called refl) (t.bound (there refl) (called refl)) (there refl)) (t.end (there refl)))) (p.brace (there refl) (no_mark refl)))) refl

interface_fits : file_break interface_tokens (within 2 2) interface.1 0 ≡ None
interface_fits = refl

too_many_requirements : file_break interface_tokens (within 1 1) interface.1 0 ≡ told code.TooLong 6
too_many_requirements = refl

requirement_too_long : file_break interface_tokens (within 2 1) interface.1 0 ≡ told code.TooLong 7
requirement_too_long = refl

-- interface a { [mutating] static int a(); }
abbrev required_tokens : List Lexed
required_tokens = placed 0 (word w.Interface ∷ a_name ∷ mark m.OpenBrace ∷ mark m.OpenBracket ∷ named_token (codes "mutating") ∷ mark m.CloseBracket ∷ word w.Static ∷ word w.Int ∷ a_name ∷ mark m.OpenParen ∷ mark m.CloseParen ∷ mark m.Semicolon ∷ mark m.CloseBrace ∷ [])

abbrev required : (x : File) × FileAt required_tokens x
required = alone (no_word refl) (no_word refl) (no_mark refl) refl
    (t.interface (t.interface (there refl) (called refl) (there refl)
    (t.more (t.function (a.more (a.named (there refl) (called refl) (a.no_literals (there refl))) (a.end (no_mark refl))) (t.static (there refl) (ty.plain (ty.builtin (there refl) refl) ty.whole)) (called refl) (p.no_parameters (there refl) (there refl)) (there refl)) (t.end (there refl)))
    (p.brace (there refl) (no_mark refl)))) refl

-- that it is static is known by its word
no_static : file_break required_tokens (within 1 8) required.1 0 ≡ disobeyed 4 6
unfolding attribute_of
no_static = refl
