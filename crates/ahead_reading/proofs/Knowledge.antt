-- What is known, changed at one token.
use Rattle.std.proofs.Common.{◌≡◌, ℕ, zero, suc, List, [], ◌∷◌, ◌++◌, drop, Some, sym, subst, IfSome}
use Rattle.std.proofs.Math.ListN.{set}
use Rattle.slang_reading.specs.Lexed.{Lexed}
use Rattle.slang_reading.specs.Reading.{first}
use Rattle.type_reading.specs.Scanning.{scanned}
use Rattle.ahead_reading.specs.declared.scans.Known.{Known}
use Rattle.ahead_reading.specs.declared.scans.Known.TheVariants.{Unknown}
use Rattle.ahead_reading.specs.declared.scans.Scans.{Scans}
use Rattle.ahead_reading.specs.Knowing.{Tells, Knows}

each_pushed : (l : List Known) (k : Known) (Q : ℕ → Known → Type 0) → ((at : ℕ) → IfSome (first (drop at l)) (Q at)) → ((at : ℕ) → Q at k) → (at : ℕ) → IfSome (first (drop at (l ++ k ∷ []))) (Q at)
each_pushed [] k Q h q zero = q 0
each_pushed [] k Q h q (suc zero) = tt
each_pushed [] k Q h q (suc (suc at)) = tt
each_pushed (x ∷ l) k Q h q zero = h 0
each_pushed (x ∷ l) k Q h q (suc at) = each_pushed l k (λ n. Q (suc n)) (λ n. h (suc n)) (λ n. q (suc n)) at

each_set : (l : List Known) (j : ℕ) (k : Known) (Q : ℕ → Known → Type 0) → ((at : ℕ) → IfSome (first (drop at l)) (Q at)) → Q j k → (at : ℕ) → IfSome (first (drop at (set l j k))) (Q at)
each_set [] zero k Q h q at = h at
each_set [] (suc j) k Q h q at = h at
each_set (x ∷ l) zero k Q h q zero = q
each_set (x ∷ l) zero k Q h q (suc at) = h (suc at)
each_set (x ∷ l) (suc j) k Q h q zero = h 0
each_set (x ∷ l) (suc j) k Q h q (suc at) = each_set l j k (λ n. Q (suc n)) (λ n. h (suc n)) q at

pub knows_none : (ts : List Lexed) → Knows (record { known = [] }) ts
unfolding Knows
knows_none ts zero seen = tt
knows_none ts (suc at) seen = tt

pub knows_pushed : (ts : List Lexed) (l : List Known) → Knows (record { known = l }) ts → Knows (record { known = l ++ Unknown ∷ [] }) ts
unfolding Knows
knows_pushed ts l h at seen = each_pushed l Unknown (λ n k. Tells k seen (scanned ts n seen)) (λ n. h n seen) (λ n. tt) at

pub knows_set : (ts : List Lexed) (l : List Known) (j : ℕ) (k : Known) → Knows (record { known = l }) ts → ((seen : ℕ) → Tells k seen (scanned ts j seen)) → Knows (record { known = set l j k }) ts
unfolding Knows
knows_set ts l j k h q at seen = each_set l j k (λ n k. Tells k seen (scanned ts n seen)) (λ n. h n seen) (q seen) at

pub known_told : (ts : List Lexed) (s : Scans) (at seen : ℕ) (k : Known) → Some k ≡ first (drop at s.known) → Knows s ts → Tells k seen (scanned ts at seen)
unfolding Knows
known_told ts s at seen k e h = subst (λ o. IfSome o (λ k. Tells k seen (scanned ts at seen))) (sym e) (h at seen)
