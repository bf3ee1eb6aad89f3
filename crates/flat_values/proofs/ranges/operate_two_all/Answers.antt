use Rattle.std.proofs.Common.{◌≡◌, ℕ, ◌+◌, ◌<◌, ◌≤◌, List, [], ◌∷◌, ◌++◌, length, get_or, set, Option, Some, None, false, refl, sym, ap, ◌∙◌, arith}
use Rattle.std.specs.Prelude.{MatchOption}
use Rattle.std.proofs.lemmas.List.{length_push}
use Rattle.flat_values.specs.Operators.{binary_of}
use Rattle.flat_values.specs.Ranges.{range_at, written}
use Rattle.flat_values.specs.Lanes.{both_of}
use Rattle.flat_values.proofs.Growing.{read_on, written_more, both_more, both_fails}
use Rattle.flat_values.proofs.ranges.operate_two_all.Goals as goal

-- what is operated on is what stood there at first
from_first : (f : ℕ → ℕ → Option ℕ) (ws vs xs : List ℕ) (left right to k count : ℕ) (o : Option ℕ) → k < count → to + count ≤ length ws
    → length xs ≡ k → (left < to → left + count ≤ to) → (right < to → right + count ≤ to) → vs ≡ written ws to xs
    → o ≡ f (get_or vs (left + k) 0) (get_or vs (right + k) 0) → f (get_or ws (left + k) 0) (get_or ws (right + k) 0) ≡ o
from_first f ws vs xs left right to k count o h t n a b e r =
    sym (r ∙ (ap (λ w. f (get_or w (left + k) 0) (get_or w (right + k) 0)) e
    ∙ (ap (λ x. f x (get_or (written ws to xs) (right + k) 0)) (read_on ws xs left to k count h t n a)
    ∙ ap (f (get_or ws (left + k) 0)) (read_on ws xs right to k count h t n b))))

fails : (o : Option (List ℕ)) (P : List ℕ → Type 0) → o ≡ None → MatchOption o (false ≡ false) P
fails None P e = refl
fails (Some xs) P e = cc

pub returns-in-None : goal.returns-in-None
returns-in-None c =
    let i = c.loop-k.invariant in
    let ws = c.args.words.now in
    let r = from_first (binary_of c.args.op) ws c.loop-k.words i.0 c.args.left c.args.right c.args.to c.loop-k.k c.args.count None
    (omega arith) c.requires.to_inside i.2 c.requires.left_apart c.requires.right_apart i.3 c.in-None.ensures in
    fails (both_of (binary_of c.args.op) (range_at ws c.args.left c.args.count) (range_at ws c.args.right c.args.count)) _
    (both_fails (binary_of c.args.op) ws i.0 c.args.left c.args.right c.loop-k.k c.args.count (omega arith) c.requires.left_inside
    c.requires.right_inside i.1 r)

pub loop-k-preserved : goal.loop-k-preserved
loop-k-preserved c =
    let i = c.loop-k.invariant in
    let ws = c.args.words.now in
    let xs = i.0 in
    let n = i.2 in
    let m = length_push xs c.in-Some.x in
    let r = from_first (binary_of c.args.op) ws c.loop-k.words xs c.args.left c.args.right c.args.to c.loop-k.k c.args.count (Some c.in-Some.x)
    (omega arith) c.requires.to_inside n c.requires.left_apart c.requires.right_apart i.3 c.in-Some.ensures in (
      xs ++ c.in-Some.x ∷ [],
      both_more (binary_of c.args.op) ws xs c.args.left c.args.right c.loop-k.k c.in-Some.x (omega arith) (omega arith) i.1 r,
      omega arith,
      ap (λ w. set w (c.args.to + c.loop-k.k) c.in-Some.x) i.3
          ∙ written_more ws xs c.args.to (c.args.to + c.loop-k.k) c.in-Some.x (omega arith) (omega arith),
    )
