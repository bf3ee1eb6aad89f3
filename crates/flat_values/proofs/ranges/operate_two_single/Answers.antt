use Rattle.std.proofs.Common.{◌≡◌, ℕ, List, [], ◌∷◌, Option, Some, true, false, refl, sym, subst, arith}
use Rattle.std.specs.Prelude.{MatchOption}
use Rattle.flat_values.specs.Operators.{binary_of}
use Rattle.flat_values.specs.Ranges.{written}
use Rattle.flat_values.proofs.Growing.{both_one, set_one}
use Rattle.flat_values.proofs.ranges.operate_two_single.Goals as goal

done : (o : Option (List ℕ)) (ws vs xs : List ℕ) (to : ℕ) → o ≡ Some xs → vs ≡ written ws to xs
    → MatchOption o (true ≡ false) (λ ys. (true ≡ true) × (vs ≡ written ws to ys))
done o ws vs xs to e h = subst (λ p. MatchOption p (true ≡ false) (λ ys. (true ≡ true) × (vs ≡ written ws to ys))) (sym e) (refl, h)

pub returns-in-Some : goal.returns-in-Some
returns-in-Some c =
    let ws = c.args.words.now in
    done _ ws _ (c.in-Some.x ∷ []) c.args.to
    (both_one (binary_of c.args.op) ws c.args.left c.args.right c.in-Some.x (omega arith) (omega arith) c.in-Some.ensures)
    (set_one ws c.args.to c.in-Some.x (omega arith))
