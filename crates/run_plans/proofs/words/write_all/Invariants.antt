use Rattle.std.proofs.Common.{◌≡◌}
use Rattle.image_places.specs.Places.{function_of}
use Rattle.run_plans.specs.Ground.{rooms_of}
use Rattle.run_plans.proofs.Written.{AreWritten}
use Rattle.run_plans.proofs.words.write_all.Given as goal

abbrev pub invariant-loop-number : goal.invariant-loop-number
invariant-loop-number l =
    (l.function ≡ function_of l.base.places.code l.number) × AreWritten l.base.places.code (rooms_of l.base) l.number l.words
