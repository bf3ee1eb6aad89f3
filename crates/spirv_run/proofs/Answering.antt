-- What a dispatch answers.
use Rattle.std.proofs.Common.{◌≡◌, inl, inr, ℕ, ◌*◌, ◌<◌, ◌≤◌, List, Result, Ok, Err, refl, sym, subst, ◌∙◌}
use Rattle.std.proofs.lemmas.Bool.{cases_lt}
use Rattle.slang_names.specs.declared.faults.RunCause.{RunCause}
use Rattle.slang_names.specs.declared.faults.RunCause.TheVariants.{DispatchLimit, BufferMissing}
use Rattle.spirv_words.specs.declared.images.Image.{Image}
use Rattle.run_buffers.specs.declared.buffer.Buffer.{Buffer}
use Rattle.run_buffers.specs.declared.faults.RunFault.{RunFault}
use Rattle.run_buffers.specs.declared.faults.RunFault.TheVariants.{Refused}
use Rattle.run_buffers.specs.Invocations.{volume}
use Rattle.spirv_check.specs.Entry.{entry_name, group_size}
use Rattle.spirv_run.specs.declared.ran.Ran.{Ran}
use Rattle.spirv_run.specs.Dispatch.{FirstMissing, HasAll, IsRun, IsDispatch, Lacking, Runs, product}

-- a number of invocations that is taken
pub record Counts (size groups : List ℕ) (count : ℕ) : Type 0 where
  pub few : volume groups * volume size ≤ 65536
  pub is : volume groups * volume size ≡ count

same_count : (a b : ℕ) → (let p : Result ℕ RunCause = Ok a in let q : Result ℕ RunCause = Ok b in p ≡ q) → a ≡ b
same_count a b e = cc

pub counted : (size groups : List ℕ) (r : Result ℕ RunCause) (count : ℕ) → (volume groups * volume size ≤ 65536 → r ≡ Ok (volume groups * volume size))
    → (65536 < volume groups * volume size → r ≡ Err (DispatchLimit (volume groups * volume size))) → r ≡ Ok count → Counts size groups count
counted size groups r count few many is = elim (cases_lt 65536 (volume groups * volume size)) [
  | inl more ↦ absurd (let clash = sym (many more) ∙ is in cc)
  | inr less ↦ record { few = less; is = same_count (volume groups * volume size) count (sym (few less) ∙ is) }
]

module _ (image : Image) (entry size groups : List ℕ) (steps count : ℕ) (before : List Buffer) (named : entry ≡ entry_name image.instructions) (sized : size ≡ group_size image.instructions)
    (c : Counts size groups count) where
  few : product image.instructions groups ≤ 65536
  few = subst (λ (s : List ℕ). volume groups * volume s ≤ 65536) sized c.few

  pub lacks : (set binding : ℕ) → FirstMissing image.instructions before set binding → IsDispatch image entry groups steps before (Err (Refused (BufferMissing set binding))) before
  lacks set binding first = Lacking set binding named few first refl refl

  pub runs : (answer : Result Ran RunFault) (after : List Buffer) → HasAll image.instructions before → IsRun image size groups steps count before answer after
      → IsDispatch image entry groups steps before answer after
  runs answer after all run =
      let P : List ℕ → ℕ → Type 0 = λ s n. IsRun image s groups steps n before answer after in
      Runs named few all (subst (λ (s : List ℕ). P s (volume groups * volume s)) sized (subst (λ (n : ℕ). P size n) (sym c.is) run))
