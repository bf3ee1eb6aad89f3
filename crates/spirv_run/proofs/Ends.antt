-- When a dispatch comes to its end.
use Rattle.std.proofs.Common.{◌≡◌, ℕ, ◌<◌, ◌≤◌, List, Result, Ok, Err, sym, subst, arith}
use Rattle.slang_names.specs.declared.faults.RunCause.{RunCause}
use Rattle.spirv_words.specs.declared.images.Image.{Image}
use Rattle.run_buffers.specs.declared.buffer.Buffer.{Buffer}
use Rattle.run_buffers.specs.declared.faults.RunFault.{RunFault}
use Rattle.run_buffers.specs.declared.faults.RunFault.TheVariants.{Refused, Undefined, Budget, Memory}
use Rattle.spirv_check.specs.Entry.{entry_name, group_size}
use Rattle.spirv_run.specs.declared.ran.Ran.{Ran}
use Rattle.spirv_run.specs.Dispatch.{HasAll, FirstUndefined, FirstUnfinished, IsRun, product, IsDispatch, OtherEntry, TooMany, Lacking, Runs, HasRun, IsNoWant}

run_no_want : (image : Image) (size groups : List ℕ) (steps count : ℕ) (before after : List Buffer) (answer : Result Ran RunFault) → IsRun image size groups steps count before answer after → IsNoWant answer
run_no_want image size groups steps count before after (Ok ran) r = tt
run_no_want image size groups steps count before after (Err (Refused cause)) r = tt
run_no_want image size groups steps count before after (Err (Undefined n step)) r = tt
run_no_want image size groups steps count before after (Err (Budget n)) r = tt
run_no_want image size groups steps count before after (Err (Memory e)) r = absurd r

pub no_want : (image : Image) (entry groups : List ℕ) (steps : ℕ) (before after : List Buffer) (answer : Result Ran RunFault) → IsDispatch image entry groups steps before answer after → IsNoWant answer
no_want image entry groups steps before after answer (OtherEntry ne e m) = subst IsNoWant (sym e) tt
no_want image entry groups steps before after answer (TooMany is many e m) = subst IsNoWant (sym e) tt
no_want image entry groups steps before after answer (Lacking s b is few first e m) = subst IsNoWant (sym e) tt
no_want image entry groups steps before after answer (Runs is few all run) =
    run_no_want image (group_size image.instructions) groups steps (product image.instructions groups) before after answer run

pub refused : (image : Image) (entry groups : List ℕ) (steps : ℕ) (before after : List Buffer) (cause : RunCause) → IsDispatch image entry groups steps before (Err (Refused cause)) after → after ≡ before
refused image entry groups steps before after cause (OtherEntry ne e m) = m
refused image entry groups steps before after cause (TooMany is many e m) = m
refused image entry groups steps before after cause (Lacking s b is few first e m) = m
refused image entry groups steps before after cause (Runs is few all run) = absurd run

module _ (image : Image) (groups : List ℕ) (steps : ℕ) (before after : List Buffer)
    (undefined : (n step : ℕ) (last : List Buffer) → n < product image.instructions groups → FirstUndefined image (group_size image.instructions) groups steps n step before last → ⊥)
    (unfinished : (n : ℕ) (last : List Buffer) → n < product image.instructions groups → FirstUnfinished image (group_size image.instructions) groups steps n before last → ⊥) where
  ends : (answer : Result Ran RunFault) → IsRun image (group_size image.instructions) groups steps (product image.instructions groups) before answer after → HasRun answer
  ends (Ok ran) r = tt
  ends (Err (Refused cause)) r = absurd r
  ends (Err (Undefined n step)) r = absurd (undefined n step after r.0 r.1)
  ends (Err (Budget n)) r = absurd (unfinished n after r.0 r.1)
  ends (Err (Memory e)) r = absurd r

  pub runs : (entry : List ℕ) (answer : Result Ran RunFault) → entry ≡ entry_name image.instructions → product image.instructions groups ≤ 65536 → HasAll image.instructions before
      → IsDispatch image entry groups steps before answer after → HasRun answer
  runs entry answer named few all (OtherEntry ne e m) = absurd (ne named)
  runs entry answer named few all (TooMany is many e m) = absurd (omega arith)
  runs entry answer named few all (Lacking s b is le first e m) = absurd (all s b first.missing)
  runs entry answer named few all (Runs is le every run) = ends answer run
