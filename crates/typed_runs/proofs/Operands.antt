-- What the operands of an instruction stand for in a typed state, by the types that its rule gives them.
use Rattle.std.proofs.Common.{◌≡◌, ℕ, Bool, true, false, nat_eq, List, Option, Some, slice_get, refl, sym, ap, subst, ◌∙◌}
use Rattle.behavior.specs.Values.{Value, Truth, Word, Whole, Way, Found, Outside, Wrong}
use Rattle.spirv_words.specs.declared.opcodes.Op.{Op}
use Rattle.spirv_words.specs.declared.images.Instruction.{Instruction}
use Rattle.spirv_words.specs.Machine.{Shape, Truths, Words, Operand, Plain, Path, InBuffer}
use Rattle.spirv_words.specs.Step.{State, Turn, with_plain, with_word, with_truth, with_some, with_found}
use Rattle.image_lookup.specs.Lookups.{sort, operand, is_value}
use Rattle.image_places.specs.Roles.{role_of, text_end}
use Rattle.image_places.specs.declared.roles.Role.TheVariants.{Use}
use Rattle.image_declarations.specs.Holdings.{is_data}
use Rattle.image_operands.specs.Memory.{is_pointer}
use Rattle.image_operands.specs.Operators.{is_bool, is_int}
use Rattle.image_types.specs.Functions.{is_void}
use Rattle.image_facts.specs.Alike.{IsLike}
use Rattle.image_facts.specs.Operands.{shape, type_id, IsValueOf, Suits}
use Rattle.image_scopes.specs.Scopes.{IsSeen}
use Rattle.typed_runs.specs.States.{IsTyped, Keeps}
use Rattle.typed_runs.proofs.Facts.{Facts}
use Rattle.typed_runs.proofs.Types.{of_bool, of_int, pointer_not_void}
use Rattle.typed_runs.proofs.Going.{At, seen, value_of}
use Rattle.typed_runs.proofs.Lanes.{GivesLike}

-- ---- turns

pub keeps_some : {A : Type 0} (code : List Instruction) (o : Option A) (a : A) (go : A → Turn) → o ≡ Some a → Keeps code (go a) → Keeps code (with_some o go)
keeps_some code o a go e k = subst (λ y. Keeps code (with_some y go)) (sym e) k

pub keeps_plain : (code : List Instruction) (o : Option Operand) (v : Value) (go : Value → Turn) → o ≡ Some (Plain v) → Keeps code (go v) → Keeps code (with_plain o go)
keeps_plain code o v go e k = subst (λ y. Keeps code (with_plain y go)) (sym e) k

pub keeps_word : (code : List Instruction) (o : Option Operand) (w : ℕ) (go : ℕ → Turn) → o ≡ Some (Plain (Word w)) → Keeps code (go w) → Keeps code (with_word o go)
keeps_word code o w go e k = subst (λ y. Keeps code (with_word y go)) (sym e) k

pub keeps_truth : (code : List Instruction) (o : Option Operand) (b : Bool) (go : Bool → Turn) → o ≡ Some (Plain (Truth b)) → Keeps code (go b) → Keeps code (with_truth o go)
keeps_truth code o b go e k = subst (λ y. Keeps code (with_truth y go)) (sym e) k

pub keeps_found : (code : List Instruction) (way : Way) (s : Shape) (go : Value → Turn) → GivesLike way s → ((v : Value) → IsLike v s → Keeps code (go v))
    → Keeps code (with_found way go)
keeps_found code (Found v) s go g k = k v g
keeps_found code Outside s go g k = tt
keeps_found code Wrong s go g k = absurd g

-- ---- values

pub record IsDatum (code : List Instruction) (o : Option Operand) (t : ℕ) : Type 0 where
  pub value : Value
  pub is : o ≡ Some (Plain value)
  pub typed : IsValueOf code value t

-- a value like one shape
pub record IsLikely (o : Option Operand) (s : Shape) : Type 0 where
  pub value : Value
  pub is : o ≡ Some (Plain value)
  pub like : IsLike value s

a_word : (o : Option Operand) (v : Value) (b : Bool) → o ≡ Some (Plain v) → IsLike v (Words b) → (w : ℕ) × (o ≡ Some (Plain (Word w)))
a_word o (Word w) b e h = (w, e)
a_word o (Truth x) b e h = absurd h
a_word o (Whole vs) b e h = absurd h

a_truth : (o : Option Operand) (v : Value) → o ≡ Some (Plain v) → IsLike v Truths → (b : Bool) × (o ≡ Some (Plain (Truth b)))
a_truth o (Truth b) e h = (b, e)
a_truth o (Word w) e h = absurd h
a_truth o (Whole vs) e h = absurd h

-- an operand of this number is used
pub record Uses (op : Op) (os : List ℕ) (j x : ℕ) : Type 0 where
  pub stands : slice_get os j ≡ Some x
  pub role : role_of op (text_end op os) j ≡ Use

module _ (code : List Instruction) (facts : Facts code) where
  plain_from : (o : Operand) (t : ℕ) → Suits code o t → is_data code t ≡ true → (v : Value) × (o ≡ Plain v) × IsValueOf code v t
  plain_from (Plain v) t h d = (v, refl, h)
  plain_from (Path root path) t h d = absurd (facts.no_pointer t d h.leads)
  plain_from (InBuffer set binding byte s) t h d = absurd (facts.no_pointer t d h.leads)

  pub datum : (s : State) (x t : ℕ) → IsTyped code s → IsSeen code s.place x → type_id code x ≡ t → is_data code t ≡ true → IsDatum code (s.ids x) t
  datum s x t typed q e d =
      let n : is_void code (type_id code x) ≡ false = ap (is_void code) e ∙ facts.not_void t d in
      let o = value_of code facts s x typed q n in
      let p = plain_from o.0 t (subst (Suits code o.0) e o.2) d in
      record { value = p.0; is = o.1 ∙ ap (λ y. Some y) p.1; typed = p.2 }

  pub likely_seen : (s : State) (x t : ℕ) (form : Shape) → IsTyped code s → IsSeen code s.place x → type_id code x ≡ t → is_data code t ≡ true
      → shape code t ≡ Some form → IsLikely (s.ids x) form
  likely_seen s x t form typed q e d f =
      let p = datum s x t typed q e d in
      let g : Some p.typed.form ≡ Some form = sym p.typed.is ∙ f in
      let h : p.typed.form ≡ form = cc in
      record { value = p.value; is = p.is; like = subst (IsLike p.value) h p.typed.like }

  pub likely : (s : State) (op : Op) (os : List ℕ) (j x t : ℕ) (form : Shape) → At code s op os → Uses op os j x → is_value code x ≡ true
      → type_id code x ≡ t → is_data code t ≡ true → shape code t ≡ Some form → IsLikely (s.ids x) form
  likely s op os j x t form a u v e d f = likely_seen s x t form a.typed (seen code facts s op os j x a u.stands u.role v) e d f

  pub word_seen : (s : State) (x t : ℕ) → IsTyped code s → IsSeen code s.place x → type_id code x ≡ t → is_int code t ≡ true
      → (w : ℕ) × (s.ids x ≡ Some (Plain (Word w)))
  word_seen s x t typed q e i =
      let k = of_int (sort code t) i in
      let p = likely_seen s x t (Words (nat_eq (operand code t 2) 1)) typed q e (facts.int_data t k) (facts.shape_int t k) in
      a_word (s.ids x) p.value (nat_eq (operand code t 2) 1) p.is p.like

  pub word_of : (s : State) (op : Op) (os : List ℕ) (j x t : ℕ) → At code s op os → Uses op os j x → is_value code x ≡ true
      → type_id code x ≡ t → is_int code t ≡ true → (w : ℕ) × (s.ids x ≡ Some (Plain (Word w)))
  word_of s op os j x t a u v e i = word_seen s x t a.typed (seen code facts s op os j x a u.stands u.role v) e i

  pub truth_of : (s : State) (op : Op) (os : List ℕ) (j x t : ℕ) → At code s op os → Uses op os j x → is_value code x ≡ true
      → type_id code x ≡ t → is_bool code t ≡ true → (b : Bool) × (s.ids x ≡ Some (Plain (Truth b)))
  truth_of s op os j x t a u v e i =
      let k = of_bool (sort code t) i in
      let p = likely s op os j x t Truths a u v e (facts.bool_data t k) (facts.shape_bool t k) in
      a_truth (s.ids x) p.value p.is p.like

  pub pointer_of : (s : State) (op : Op) (os : List ℕ) (j x t : ℕ) → At code s op os → Uses op os j x → is_value code x ≡ true
      → type_id code x ≡ t → is_pointer code t ≡ true → (o : Operand) × (s.ids x ≡ Some o) × Suits code o t
  pointer_of s op os j x t a u v e p =
      let n : is_void code (type_id code x) ≡ false = ap (is_void code) e ∙ pointer_not_void code facts t p in
      let o = value_of code facts s x a.typed (seen code facts s op os j x a u.stands u.role v) n in
      (o.0, o.1, subst (Suits code o.0) e o.2)

  -- ---- results

  pub suits_truth : (t : ℕ) (b : Bool) → is_bool code t ≡ true → Suits code (Plain (Truth b)) t
  suits_truth t b i =
      let k = of_bool (sort code t) i in
      record { has_values = facts.bool_data t k; form = Truths; is = facts.shape_bool t k; like = tt }

  pub suits_word : (t w : ℕ) → is_int code t ≡ true → Suits code (Plain (Word w)) t
  suits_word t w i =
      let k = of_int (sort code t) i in
      record { has_values = facts.int_data t k; form = Words (nat_eq (operand code t 2) 1); is = facts.shape_int t k; like = tt }

  pub suits_like : (t : ℕ) (v : Value) (form : Shape) → is_data code t ≡ true → shape code t ≡ Some form → IsLike v form → Suits code (Plain v) t
  suits_like t v form d e l = record { has_values = d; form = form; is = e; like = l }
