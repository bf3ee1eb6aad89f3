-- Types: some type begins with the tokens before the one at which the descent stops.
use Rattle.std.proofs.Common.{true, ◌≡◌, ℕ, ◌+◌, ◌≤◌, List, ◌++◌, length, take, refl, ap, subst, arith}
use Rattle.slang_tree.specs.declared.types.TypeTree.{TypeTree}
use Rattle.slang_reading.specs.Lexed.{Lexed}
use Rattle.slang_reading.specs.Reading.{Stop}
use Rattle.slang_reading.proofs.Tame.{seen_of, Bounded}
use Rattle.slang_reading.proofs.Exact.{Post}
use Rattle.slang_reading.proofs.Wrong.{goes_on}
use Rattle.slang_grammar.specs.Types.{TypeAt}
use Rattle.slang_grammar.specs.Descent.{Limits}
use Rattle.slang_grammar.specs.TypesDescent.{Type_, types}
use Rattle.slang_grammar.proofs.TypesSpelled.{post_types}
use Rattle.slang_grammar.proofs.TypesReady.{Ends, Wider, ready_types}

-- the same limits, and none of lists, names and chains
abbrev freed : Limits → Limits
freed limits = record { turns = limits.turns; items = limits.items; names = limits.names; free = true }

freed_wider : (limits : Limits) → Wider limits (freed limits)
freed_wider limits = record { turns = omega arith; free = refl }

pub types_go_on : (ts : List Lexed) (limits : Limits) (d at : ℕ) → types limits d ts 0 0 ≡ Stop (at + 1) →
    (more : List Lexed) × (x : TypeTree) × TypeAt (take at ts ++ more) x 0 (length (take at ts ++ more))
types_go_on ts limits d at e =
    let large = freed limits in
    let r = ready_types limits large (freed_wider limits) (d + 2) d (omega arith) in
    let b : Bounded {A = Type_} (length ts) (Stop (at + 1)) = subst (Bounded (length ts)) e (r.viable.tame.bounded ts 0 0 (omega arith) (omega arith)) in
    let within : at ≤ length ts = omega (arith, b) in
    let g = goes_on (types limits d) ts at Ends (types large (d + 2)) r.viable (refl, refl, refl) (ap seen_of e) within in
    let us = take at ts ++ g.0 in
    (g.0, g.1.tree.0, subst (Post (λ (y : Type_) (end : ℕ). TypeAt us y.0 0 end)) g.1.is (post_types us large (d + 2) 0 0))
