-- What fails first fails as a whole.
use Rattle.std.proofs.Common.{Err, ap}
use Rattle.slang_reading.specs.declared.faults.Fault.{Fault}
use Rattle.slang_reading.specs.declared.faults.Fault.TheVariants as f
use Rattle.slang_reading.specs.Reading.{Parser, and_then, bind}
use Rattle.slang_reading.specs.Cursor.{Cursor, Runs}

pub runs_fail : {A B : Type 0} (p : Parser A) (g : A → Parser B) (e : Fault) (old new : Cursor) → Runs p old (Err e) new → Runs (bind p g) old (Err e) new
unfolding bind
runs_fail p g (f.Memory m) old new h = (tt, h.1)
runs_fail p g f.Stopped old new h = (ap (λ o. and_then o (λ a at seen. g a old.tokens at seen)) h.0, h.1)
runs_fail p g (f.Past code place) old new h = (ap (λ o. and_then o (λ a at seen. g a old.tokens at seen)) h.0, h.1)
