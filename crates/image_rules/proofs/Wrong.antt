-- Wrong ids, from the words of the code to those of the definition, and the first of them.
use Rattle.std.proofs.Common.{◌≡◌, ℕ, suc, ◌+◌, ◌<◌, ◌≤◌, Bool, false, IsTrue, List, Option, Some, length, slice_get, slice_index, sym, ap, subst, inl, inr, arith, ◌∙◌}
use Rattle.std.proofs.lemmas.Bool.{cases_lt}
use Rattle.std.proofs.lemmas.Option.{slice_get_within}
use Rattle.spirv_words.specs.declared.images.Instruction.{Instruction}
use Rattle.spirv_words.specs.declared.images.Image.{Image}
use Rattle.image_places.specs.declared.cursor.Cursor.{Cursor}
use Rattle.image_places.specs.Places.{word_of, function_of, cursor_at, IsFirst}
use Rattle.image_rules.specs.declared.table.Definition.{Definition}
use Rattle.image_rules.specs.Ids.{definition, is_wrong_id, role_in, is_wrong_operand, is_wrong_in, WrongId}
use Rattle.image_rules.proofs.Walking.{Next, Grow}

clash : (b : Bool) → IsTrue b → b ≡ false → ⊥
clash b t f = cc

-- the test of the code is that of the definition
pub same_test : (image : Image) (f : ℕ → Option Definition) (i : Instruction) (k n : ℕ) (x : Cursor) (j : ℕ)
    → ((id : ℕ) → f id ≡ definition image.instructions id) → x ≡ cursor_at image.instructions (suc k) → n ≡ k
    → is_wrong_operand f image.bound i n x.function x.block j ≡ is_wrong_in image i k j
same_test image f i k n x j e at here =
    ap (λ (d : Option Definition). is_wrong_id image.bound d (role_in i j) (slice_index i.operands j) n x.function x.block) (e (slice_index i.operands j))
    ∙ ap (λ (t : ℕ). is_wrong_operand (definition image.instructions) image.bound i t x.function x.block j) here
    ∙ ap (λ (t : ℕ). is_wrong_operand (definition image.instructions) image.bound i k t x.block j) (ap (λ c. c.function) at)
    ∙ ap (λ (t : ℕ). is_wrong_operand (definition image.instructions) image.bound i k (function_of image.instructions (suc k)) t j) (ap (λ c. c.block) at)

same_instruction : (is : List Instruction) (k : ℕ) (i j : Instruction) → slice_get is k ≡ Some i → slice_get is k ≡ Some j → i ≡ j
same_instruction is k i j e f = cc

-- no operand of any instruction so far is a wrong id
abbrev pub CleanBelow : Image → ℕ → Type 0
CleanBelow image k = (m : ℕ) → m < k → (i : Instruction) → slice_get image.instructions m ≡ Some i → (j : ℕ) → j < length i.operands → is_wrong_in image i m j ≡ false

pub clean_next : (image : Image) (k : ℕ) (i : Instruction) → slice_get image.instructions k ≡ Some i → CleanBelow image k
    → ((j : ℕ) → j < length i.operands → is_wrong_in image i k j ≡ false) → CleanBelow image (k + 1)
clean_next image k i here before now m h i' at j within = elim (cases_lt m k) [
  | inl l ↦ before m l i' at j within
  | inr g ↦
      (let same : k ≡ m = omega arith in
      let at_k : slice_get image.instructions k ≡ Some i' = subst (λ (t : ℕ). slice_get image.instructions t ≡ Some i') (sym same) at in
      let e = same_instruction image.instructions k i i' here at_k in
      let P : Instruction → Type 0 = λ y. j < length y.operands → is_wrong_in image y m j ≡ false in
      let Q : ℕ → Type 0 = λ t. j < length i.operands → is_wrong_in image i t j ≡ false in
      subst P e (subst Q same (now j)) within)
]

-- where nothing is wrong up to the end
pub none_wrong : (image : Image) (k : ℕ) → length image.instructions ≤ k → CleanBelow image k → (place : ℕ) → WrongId image place → ⊥
none_wrong image k h clean place w =
    let within : w.number < length image.instructions = slice_get_within image.instructions w.number w.instruction w.stands in
    let below : w.number < k = omega arith in
    clash (is_wrong_in image w.instruction w.number w.operand) w.is_wrong (clean w.number below w.instruction w.stands w.operand w.within)

-- where the first wrong operand is this one
pub first_wrong : Next → Grow → (image : Image) (k : ℕ) (i : Instruction) (j : ℕ) (place : ℕ) → slice_get image.instructions k ≡ Some i
    → j < length i.operands → IsTrue (is_wrong_in image i k j) → CleanBelow image k → ((m : ℕ) → m < j → is_wrong_in image i k m ≡ false)
    → place ≡ word_of image.instructions k + suc j → IsFirst (WrongId image) (Some place)
first_wrong next grow image k i j place here within wrong clean before place_is = (
  record { number = k; operand = j; instruction = i; stands = here; within = within; place_is = place_is; is_wrong = wrong },
  λ q less w.
      elim (cases_lt w.number k) [
        | inl l ↦ clash (is_wrong_in image w.instruction w.number w.operand) w.is_wrong (clean w.number l w.instruction w.stands w.operand w.within)
        | inr g ↦ elim (cases_lt k w.number) [
          | inl l ↦ absurd (let more : suc k ≤ w.number = omega arith in
              omega (arith, grow image.instructions (suc k) w.number more, next image.instructions k i here, w.place_is))
          | inr g' ↦
              (let same : w.number ≡ k = omega arith in
              let at_k : slice_get image.instructions k ≡ Some w.instruction = subst (λ (t : ℕ). slice_get image.instructions t ≡ Some w.instruction) same w.stands in
              let e = same_instruction image.instructions k w.instruction i at_k here in
              let there : word_of image.instructions w.number ≡ word_of image.instructions k = ap (word_of image.instructions) same in
              let earlier : w.operand < j = omega (arith, w.place_is, there) in
              let P : Instruction → Type 0 = λ y. IsTrue (is_wrong_in image y k w.operand) in
              let Q : ℕ → Type 0 = λ t. IsTrue (is_wrong_in image w.instruction t w.operand) in
              clash (is_wrong_in image i k w.operand) (subst P e (subst Q same w.is_wrong)) (before w.operand earlier))
        ]
      ],
)

pub defined_in : (xs is : List Instruction) (f : ℕ → Option Definition) → xs ≡ is → ((id : ℕ) → f id ≡ definition xs id) → (id : ℕ) → f id ≡ definition is id
defined_in xs is f same e id = e id ∙ ap (λ (zs : List Instruction). definition zs id) same
