-- How many words operands, variables and built-in values have.
use Rattle.std.proofs.Common.{◌≡◌, ◌≢◌, ℕ, zero, suc, ◌+◌, ◌*◌, Bool, true, false, cond, nat_eq, List, [], ◌∷◌, ◌++◌, length, Option, Some, None, refl, sym, ap, subst, ◌∙◌, zero-mul, suc-mul, arith}
use Rattle.std.proofs.lemmas.List.{length-append}
use Rattle.std.proofs.lemmas.Bool.{false_from_ne_true}
use Rattle.std.specs.Prelude.{MatchOption}
use Rattle.std.specs.Option.{option_map}
use Rattle.behavior.specs.Values.{Value, Values, Truth, Word, Whole, NoMore, Then}
use Rattle.spirv_words.specs.declared.images.Instruction.{Instruction}
use Rattle.spirv_words.specs.Machine.{Shape, Shapes, Nothing, Truths, Words, Repeated, Unbounded, Fields, PointerTo, NoField, Field, Root, Local, Input, Operand, Plain, Path, InBuffer, if_some, pointed}
use Rattle.flat_values.specs.Flat.{flat, flats, width, widths, IsData}
use Rattle.image_lookup.specs.Lookups.{operand}
use Rattle.image_declarations.specs.Holdings.{is_data}
use Rattle.image_declarations.specs.Reach.{is_buffer_class}
use Rattle.image_operands.specs.Memory.{is_pointer}
use Rattle.image_facts.specs.Alike.{IsLike, AllLike, FieldsLike}
use Rattle.image_facts.specs.Operands.{shape, type_id, is_local, root_shape, IsClassOf, Suits}
use Rattle.run_rooms.specs.Rooms.{Rooms, size_of, slot_size, room_size}
use Rattle.run_plans.specs.Plans.{words_of}
use Rattle.typed_runs.specs.States.{AreHeld}
use Rattle.run_laws.proofs.Known.{Known, IsLocal}

mutual
  pub like_count : (v : Value) (s : Shape) → IsLike v s → length (flat v) ≡ width s
  like_count (Truth b) Truths h = refl
  like_count (Word w) (Words signed) h = refl
  like_count (Whole vs) (Repeated n stride of) h = likes_count vs n of h
  like_count (Whole vs) (Fields fs) h = fields_count vs fs h
  like_count v s h = absurd h

  pub likes_count : (vs : Values) (n : ℕ) (of : Shape) → AllLike vs n of → length (flats vs) ≡ n * width of
  likes_count NoMore zero of h = sym (zero-mul (width of))
  likes_count (Then v vs) (suc n) of h =
      length-append (flat v) (flats vs) ∙ omega (arith, like_count v of h.0, likes_count vs n of h.1, suc-mul n (width of))
  likes_count vs n of h = absurd h

  pub fields_count : (vs : Values) (fs : Shapes) → FieldsLike vs fs → length (flats vs) ≡ widths fs
  fields_count NoMore NoField h = refl
  fields_count (Then v vs) (Field offset of rest) h = length-append (flat v) (flats vs) ∙ omega (arith, like_count v of h.0, fields_count vs rest h.1)
  fields_count vs fs h = absurd h

-- ---- types

pub some_is : {A : Type 0} {a b : A} → Some a ≡ Some b → a ≡ b
some_is e = cc

pub data_size : (code : List Instruction) (t : ℕ) (s : Shape) → Known code → is_data code t ≡ true → shape code t ≡ Some s
    → size_of code t ≡ width s
data_size code t s known d e =
    ap (λ b. cond b (cond (is_buffer_class (operand code t 1)) 2 1) (if_some (shape code t) 0 width)) (false_from_ne_true (is_pointer code t) (known.facts.no_pointer t d))
    ∙ ap (λ o. if_some o 0 width) e

-- a pointer that leads into no buffer has one word, and another has two
pub pointer_size : (code : List Instruction) (t : ℕ) (b : Bool) → is_pointer code t ≡ true → is_buffer_class (operand code t 1) ≡ b
    → size_of code t ≡ cond b 2 1
pointer_size code t b p e =
    ap (λ c. cond c (cond (is_buffer_class (operand code t 1)) 2 1) (if_some (shape code t) 0 width)) p
    ∙ ap (λ c. cond c 2 1) e

pub class_of_root : (code : List Instruction) (root : Root) (class : ℕ) → IsClassOf code root class → is_buffer_class class ≡ false
class_of_root code (Local level x) class h = ap is_buffer_class h.0
class_of_root code (Input b) class h = ap is_buffer_class h.0

-- an operand has as many words as its type says
pub words_count : (code : List Instruction) (L : Rooms) (o : Operand) (t : ℕ) → Known code → Suits code o t
    → length (words_of code L o) ≡ size_of code t
words_count code L (Plain v) t known s = like_count v s.form s.like ∙ sym (data_size code t s.form known s.has_values s.is)
words_count code L (Path root path) t known s =
    sym (pointer_size code t false s.leads (class_of_root code root (operand code t 1) s.class))
words_count code L (InBuffer set binding byte of) t known s = sym (pointer_size code t true s.leads s.class)

pub room_count : (code : List Instruction) (x : ℕ) (l : IsLocal code x) → room_size code x ≡ width l.form
room_count code x l = ap (λ o. if_some o 0 width) l.target

-- a variable holds a value of its shape
pub held_like : (code : List Instruction) (memory : ℕ → ℕ → Value) (level x : ℕ) (l : IsLocal code x) → AreHeld code memory
    → is_local code x ≡ true → IsLike (memory level x) l.form
held_like code memory level x l held h =
    subst (λ (o : Option Shape). MatchOption o ⊥ (λ s. IsLike (memory level x) s)) (ap (option_map pointed) l.of) (held level x h)

pub held_count : (code : List Instruction) (memory : ℕ → ℕ → Value) (level x : ℕ) → Known code → AreHeld code memory
    → is_local code x ≡ true → length (flat (memory level x)) ≡ room_size code x
held_count code memory level x known held h =
    let l = known.local_is x h in
    like_count (memory level x) l.form (held_like code memory level x l held h) ∙ sym (room_count code x l)
