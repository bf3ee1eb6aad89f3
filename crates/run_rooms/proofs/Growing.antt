-- Tables grow by one number.
use Rattle.std.proofs.Common.{◌≡◌, ℕ, ◌+◌, ◌<◌, List, [], ◌∷◌, ◌++◌, length, get_or, slice_index, refl, sym, ap, ◌∙◌, arith, inl, inr, length-append, Some, slice_get}
use Rattle.std.proofs.lemmas.Grind.{common_steps}
use Rattle.std.proofs.lemmas.Bool.{cases_lt}
use Rattle.std.proofs.lemmas.Option.{slice_get_read}
use Rattle.spirv_words.specs.declared.images.Instruction.{Instruction}
use Rattle.spirv_words.specs.Machine.{if_some}
use Rattle.run_rooms.specs.Layout.{IsTable}

pub table-more : (f : ℕ → ℕ) (k w : ℕ) (xs : List ℕ) → IsTable f k xs → w ≡ f k → IsTable f (k + 1) (xs ++ w ∷ [])
table-more f k w xs t e = record {
  as_many = omega (arith, length-append xs (w ∷ []), t.as_many);
  tells = λ j l. elim (cases_lt j k) [
    | inl lt ↦ let a : slice_index (xs ++ w ∷ []) j ≡ slice_index xs j = grind (arith, common_steps, t.as_many) in a ∙ t.tells j lt
    | inr ge ↦ let same : j ≡ k = omega arith in let a : slice_index (xs ++ w ∷ []) j ≡ w = grind (arith, common_steps, t.as_many) in a ∙ e ∙ ap f (sym same)
  ];
}

-- a table of words of instructions, by one instruction more
pub words-more : (code items : List Instruction) (words : Instruction → ℕ) (k w : ℕ) (i : Instruction) (xs : List ℕ) → items ≡ code → k < length code
    → i ≡ get_or items k i → w ≡ words i → IsTable (λ k. if_some (slice_get code k) 0 words) k xs
    → IsTable (λ k. if_some (slice_get code k) 0 words) (k + 1) (xs ++ w ∷ [])
words-more code items words k w i xs e lt it is t =
    let at : slice_get code k ≡ Some i = slice_get_read code (length code) k i refl lt (it ∙ ap (λ (l : List Instruction). get_or l k i) e) in
    table-more (λ k. if_some (slice_get code k) 0 words) k w xs t (is ∙ sym (ap (λ o. if_some o 0 words) at))
