-- Trees that are of a form exactly where they are plain, by their parts.
use Rattle.std.proofs.Common.{◌≡◌, ℕ, ◌<◌, ◌≤◌, List, [], ◌∷◌, Option, Some, None, map, refl, sym, subst, arith}
use Rattle.std.specs.Prelude.{⊤, IsSomeAnd}
use Rattle.slang_names.specs.declared.names.Ref.{Ref}
use Rattle.slang_names.specs.declared.places.Value.{Value}
use Rattle.slang_names.specs.declared.places.Value.TheVariants.{Number, Parameter}
use Rattle.slang_core.specs.declared.types.Scalar.{Scalar}
use Rattle.slang_core.specs.declared.types.Scalar.TheVariants as scalar
use Rattle.slang_core.specs.TypeTrees.{option_of, ref_tree, value_tree, scalar_tree}
use Rattle.form_grammar.specs.Trees.{Tree, nothing, byte, number, text, ◌▸◌, tagged, nested, many, chain, list_of}
use Rattle.form_grammar.specs.Grammar.{Form, Class, unit, range, num, name, ◌▹◌, list, part, opt, ref, value, chosen, grammar}
use Rattle.form_laws.specs.Forms.{IsForm, AreForm}
use Rattle.core_laws.specs.Plain.{HasLanes, IsPlain}

pub record Agrees (x : Tree) (f : Form) : Type 0 where
  pub to : IsForm x f → IsPlain x
  pub from : IsPlain x → IsForm x f

pub nothing_is : Agrees nothing unit
nothing_is = record { to = λ p. tt; from = λ p. tt }

pub num_is : (n : ℕ) → Agrees (number n) num
num_is n = record { to = λ p. p; from = λ p. p }

pub name_is : (n : List ℕ) → Agrees (text n) name
name_is n = record { to = λ p. p; from = λ p. p }

pub byte_is : (b low high : ℕ) → low ≤ b → b ≤ high → high < 256 → Agrees (byte b) (range low high)
byte_is b low high p q r = record { to = λ h. omega arith; from = λ h. (p, q) }

pub any_byte : (b : ℕ) → Agrees (byte b) (range 0 255)
any_byte b = record { to = λ h. omega (arith, h.1); from = λ h. (omega arith, omega arith) }

pub pair_is : {x y : Tree} {f g : Form} → Agrees x f → Agrees y g → Agrees (x ▸ y) (f ▹ g)
pair_is a b = record { to = λ p. (a.to p.0, b.to p.1); from = λ p. (a.from p.0, b.from p.1) }

pub part_is : {x : Tree} {c : Class} → Agrees x (grammar c) → Agrees (nested x) (part c)
part_is a = record { to = λ p. a.to p; from = λ p. a.from p }

abbrev IsChosen : Option Form → Tree → Type 0
IsChosen o x = IsSomeAnd o (λ g. IsForm x g)

-- behind a tag that the form has
pub tag_is : {k : ℕ} {x : Tree} {f g : Form} → HasLanes x → chosen f k ≡ Some g → Agrees x g → Agrees (tagged k x) f
tag_is {k = k} {x = x} {f = f} {g = g} l e a = record {
  to = λ p. (l, a.to (subst (λ o. IsChosen o x) e p));
  from = λ p. subst (λ o. IsChosen o x) (sym e) (a.from p.1);
}

-- ---- lists

abbrev pub AllAgree : Form → List Tree → Type 0
AllAgree f [] = ⊤
AllAgree f (t ∷ ts) = Agrees t f × AllAgree f ts

chain_to : (f : Form) (ts : List Tree) → AllAgree f ts → AreForm (chain ts) f → IsPlain (chain ts)
chain_to f [] a p = tt
chain_to f (t ∷ ts) a p = (a.0.to p.0, chain_to f ts a.1 p.1)

chain_from : (f : Form) (ts : List Tree) → AllAgree f ts → IsPlain (chain ts) → AreForm (chain ts) f
chain_from f [] a p = tt
chain_from f (t ∷ ts) a p = (a.0.from p.0, chain_from f ts a.1 p.1)

pub chain_is : (f : Form) (ts : List Tree) → AllAgree f ts → Agrees (many (chain ts)) (list f)
chain_is f ts a = record { to = λ p. (p.0, chain_to f ts a p.1); from = λ p. (p.0, chain_from f ts a p.1) }

pub each_agrees : {A : Type 0} (view : A → Tree) (f : Form) → ((a : A) → Agrees (view a) f) → (xs : List A) → AllAgree f (map view xs)
each_agrees view f each [] = tt
each_agrees view f each (x ∷ xs) = (each x, each_agrees view f each xs)

pub list_is : {A : Type 0} (view : A → Tree) (f : Form) → ((a : A) → Agrees (view a) f) → (xs : List A) → Agrees (list_of view xs) (list f)
list_is view f each xs = chain_is f (map view xs) (each_agrees view f each xs)

-- values whose trees agree with the form
abbrev pub Fine : {A : Type 0} → (A → Tree) → Form → Type 0
Fine {A = A} view f = (a : A) × Agrees (view a) f

pub fine_each : {A : Type 0} (view : A → Tree) (f : Form) (xs : List (Fine view f)) → AllAgree f (map view (map (λ e. e.0) xs))
fine_each view f [] = tt
fine_each view f (x ∷ xs) = (x.1, fine_each view f xs)

pub fine_parts : {A : Type 0} (view : A → Tree) (c : Class) (xs : List (Fine view (grammar c))) → AllAgree (part c) (map (λ t. nested t) (map view (map (λ e. e.0) xs)))
fine_parts view c [] = tt
fine_parts view c (x ∷ xs) = (part_is x.1, fine_parts view c xs)

-- ---- leaves

pub option_is : {A : Type 0} (view : A → Tree) (f : Form) → ((a : A) → HasLanes (view a)) → ((a : A) → Agrees (view a) f) → (o : Option A) → Agrees (option_of view o) (opt f)
option_is view f lanes each None = tag_is tt refl nothing_is
option_is view f lanes each (Some a) = tag_is (lanes a) refl (each a)

pub ref_is : (r : Ref) → Agrees (ref_tree r) ref
ref_is r = pair_is (name_is r.«module») (name_is r.path)

pub value_is : (v : Value) → Agrees (value_tree v) value
value_is (Number n) = tag_is tt refl (num_is n)
value_is (Parameter n) = tag_is tt refl (num_is n)

pub value_lanes : (v : Value) → HasLanes (value_tree v)
value_lanes (Number n) = tt
value_lanes (Parameter n) = tt

pub before_value : (x : Tree) (v : Value) → HasLanes (x ▸ value_tree v)
before_value x (Number n) = tt
before_value x (Parameter n) = tt

pub scalar_is : (s : Scalar) → Agrees (scalar_tree s) (range 2 3)
scalar_is scalar.Int = byte_is 2 2 3 (omega arith) (omega arith) (omega arith)
scalar_is scalar.Uint = byte_is 3 2 3 (omega arith) (omega arith) (omega arith)
