use Rattle.std.proofs.Common.{◌≡◌, ◌≢◌, ℕ, List, length, ◌+◌, ◌<◌, sym, ◌∙◌, ap, arith, true, false, ◌&&◌, ◌==◌, get_or, drop, refl, Option, Bool, inl, inr}
use Rattle.std.proofs.lemmas.Bool.Decides.{eqb_tells}
use Rattle.slang_tokens.specs.Lexemes.{close}
use Rattle.slang_tokens.proofs.Runs.{close_found, close_on, close_end, option_plus, plus_suc}
use Rattle.slang_tokens.proofs.lexemes.close.Goals as goal
use Rattle.slang_tokens.proofs.lexemes.close.Goals.{else-star-via-then-star+else-b-eq47, else-star-via-else-star}

pub returns-then-b-eq47-clause-value : goal.returns-then-b-eq47-clause-value
returns-then-b-eq47-clause-value c =
    let e = close_found c.loop-i.star c.args.bytes.now c.loop-i.i (omega arith) c.if-star.true c.if-b-eq47.true in
    sym (c.loop-i.invariant ∙ ap (option_plus c.loop-i.i) e)

goes : (xs : List ℕ) (i : ℕ) (star : Bool) (whole : Option ℕ) → i < length xs → (star && get_or xs i 0 == 47) ≡ false → whole ≡ option_plus i (close star (drop i xs)) →
    whole ≡ option_plus (i + 1) (close (get_or xs i 0 == 42) (drop (i + 1) xs))
goes xs i star whole h e w = w ∙ (ap (option_plus i) (close_on star xs i h e) ∙ plus_suc i (close (get_or xs i 0 == 42) (drop (i + 1) xs)))

no_end : (star : Bool) (b : ℕ) → b ≢ 47 → (star && b == 47) ≡ false
no_end true b h = elim (eqb_tells b 47) [ inl t ↦ absurd (h t.1) | inr t ↦ t.0 ]
no_end false b h = refl

no_star : (star : Bool) (b : ℕ) → star ≡ false → (star && b == 47) ≡ false
no_star star b e = ap (λ s. s && b == 47) e

pub loop-i-preserved : goal.loop-i-preserved
loop-i-preserved c = elim c.else-star.branch [
  | else-star-via-then-star+else-b-eq47 w ↦ goes c.args.bytes.now c.loop-i.i c.loop-i.star _ (omega arith) (no_end c.loop-i.star (get_or c.args.bytes.now c.loop-i.i 0) w.if-b-eq47.false) c.loop-i.invariant
  | else-star-via-else-star w ↦ goes c.args.bytes.now c.loop-i.i c.loop-i.star _ (omega arith) (no_star c.loop-i.star (get_or c.args.bytes.now c.loop-i.i 0) w.if-star.false) c.loop-i.invariant
]

pub returns-clause-value : goal.returns-clause-value
returns-clause-value c =
    let e = close_end c.loop-i.star c.args.bytes.now c.loop-i.i (omega arith) in
    sym (c.loop-i.invariant ∙ ap (option_plus c.loop-i.i) e)
