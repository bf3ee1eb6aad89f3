-- Actions, one after another.
use Rattle.std.proofs.Common.{◌≡◌, ℕ, zero, suc, ◌+◌, ◌<◌, ◌⊎◌, inl, inr, add-one, List, [], ◌∷◌, ◌++◌, length, slice_get, Option, Some, refl, sym, ap, ◌∙◌, subst, arith}
use Rattle.std.proofs.lemmas.Option.{slice_get_within}
use Rattle.std.proofs.lemmas.List.{length-append}
use Rattle.spirv_words.specs.declared.images.Instruction.{Instruction}
use Rattle.std.specs.Option.{option_map}
use Rattle.image_places.specs.Places.{function_of, under_function}
use Rattle.run_actions.specs.declared.actions.Action.{Action}
use Rattle.run_rooms.specs.Rooms.{Rooms}
use Rattle.run_plans.specs.declared.kinds.Kind.{Kind}
use Rattle.run_plans.specs.Actions.{act_by, action_of}
use Rattle.run_plans.specs.Plans.{AreActions}
use Rattle.run_plans.proofs.Placed.{some_same}

pub get_early : {A : Type 0} (xs ys : List A) (k : ℕ) → k < length xs → slice_get (xs ++ ys) k ≡ slice_get xs k
get_early [] ys k lt = absurd (omega arith)
get_early (x ∷ xs) ys zero lt = refl
get_early (x ∷ xs) ys (suc k) lt = get_early xs ys k (omega arith)

pub get_last : {A : Type 0} (xs : List A) (y : A) → slice_get (xs ++ y ∷ []) (length xs) ≡ Some y
get_last [] y = refl
get_last (x ∷ xs) y = get_last xs y

pub below_or_last : (k n : ℕ) → k < n + 1 → (k < n) ⊎ (k ≡ n)
below_or_last zero zero lt = inr refl
below_or_last zero (suc n) lt = inl (omega arith)
below_or_last (suc k) zero lt = absurd (omega arith)
below_or_last (suc k) (suc n) lt = higher (below_or_last k n (omega arith))
  where
    higher : (k < n) ⊎ (k ≡ n) → (suc k < suc n) ⊎ (suc k ≡ suc n)
    higher (inl below) = inl (omega arith)
    higher (inr same) = inr (ap suc same)

-- the actions of the first so many instructions
pub record AreFirst (code : List Instruction) (L : Rooms) (n : ℕ) (actions : List Action) : Type 0 where
  pub as_many : length actions ≡ n
  pub each : (k : ℕ) (i : Instruction) → k < n → slice_get code k ≡ Some i → slice_get actions k ≡ Some (action_of code L k i)

module _ (code : List Instruction) (L : Rooms) where
  pub act_next : (n : ℕ) (i : Instruction) (actions now : List Action) (a : Action) → AreFirst code L n actions → slice_get code n ≡ Some i
      → now ≡ actions ++ a ∷ [] → a ≡ action_of code L n i → AreFirst code L (n + 1) now
  act_next n i actions now a f at e is = record { as_many = ap (λ (xs : List Action). length xs) e ∙ counted; each = each }
    where
      longer : (xs : List Action) (a : Action) → length (xs ++ a ∷ []) ≡ length xs + 1
      longer xs a = length-append xs (a ∷ [])

      counted : length (actions ++ a ∷ []) ≡ n + 1
      counted = longer actions a ∙ ap (λ k. k + 1) f.as_many

      last : (k : ℕ) (j : Instruction) → k ≡ n → slice_get code k ≡ Some j → slice_get (actions ++ a ∷ []) k ≡ Some (action_of code L k j)
      last k j same there =
          let here : i ≡ j = some_same (sym at ∙ ap (λ k. slice_get code k) (sym same) ∙ there) in
          ap (λ k. slice_get (actions ++ a ∷ []) k) (same ∙ sym f.as_many) ∙ get_last actions a
          ∙ ap (λ (a : Action). Some a) (is ∙ ap (action_of code L n) here ∙ ap (λ k. action_of code L k j) (sym same))

      each : (k : ℕ) (j : Instruction) → k < n + 1 → slice_get code k ≡ Some j → slice_get now k ≡ Some (action_of code L k j)
      each k j lt there = ap (λ (xs : List Action). slice_get xs k) e ∙ (elim (below_or_last k n lt) [
        | inl below ↦ get_early actions (a ∷ []) k (subst (λ (m : ℕ). k < m) (sym f.as_many) below) ∙ f.each k j below there
        | inr same ↦ last k j same there
      ])

  pub act_all : (n : ℕ) (actions : List Action) → AreFirst code L n actions → n ≡ length code → AreActions code L actions
  act_all n actions f e = record {
    as_many = f.as_many ∙ e;
    each = λ k i at. f.each k i (subst (λ (m : ℕ). k < m) (sym e) (slice_get_within code k i at)) at;
  }

-- an instruction's kind is this one
pub acts_so : (code : List Instruction) (L : Rooms) (n : ℕ) (os : List ℕ) (kind this : Kind) (a : Action) → kind ≡ this → a ≡ act_by code L n this os
    → a ≡ act_by code L n kind os
acts_so code L n os kind this a e f = f ∙ ap (λ (kind : Kind). act_by code L n kind os) (sym e)

-- the function behind an instruction
pub function_next : (code : List Instruction) (n before now : ℕ) (i : Instruction) → slice_get code n ≡ Some i → before ≡ function_of code n
    → now ≡ under_function (Some i.op) (n + 1) before → now ≡ function_of code (n + 1)
function_next code n before now i at e f =
    f ∙ ap (under_function (Some i.op) (n + 1)) e
    ∙ ap (λ k. under_function (Some i.op) k (function_of code n)) (add-one n)
    ∙ ap (λ (o : Option Instruction). under_function (option_map (λ (i : Instruction). i.op) o) (suc n) (function_of code n)) (sym at)
    ∙ ap (function_of code) (sym (add-one n))
