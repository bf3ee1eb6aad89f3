-- A fact of what a call gave, from another.
use Rattle.std.proofs.Common.{Result, Ok, Err, IfOk}

pub if_ok_to : {A E : Type 0} (P Q : A → Type 0) (r : Result A E) → IfOk r P → ((a : A) → P a → Q a) → IfOk r Q
if_ok_to P Q (Ok a) h f = f a h
if_ok_to P Q (Err e) h f = tt
