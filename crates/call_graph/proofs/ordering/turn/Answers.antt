use Rattle.std.proofs.Common.{◌≡◌, ℕ, ◌+◌, ◌≤◌, Bool, true, false, not, nat_eq, List, ◌∷◌, ◌++◌, [], sym, ◌∙◌, ap, subst, refl}
use Rattle.std.specs.HashSet.{contains}
use Rattle.call_graph.specs.declared.ordering.Visit.{Visit}
use Rattle.call_graph.specs.declared.ordering.Visit.TheVariants.{Enter, Leave}
use Rattle.call_graph.specs.Order.{IsSearched, IsTurned, callers, entering, grown, turns}
use Rattle.call_graph.proofs.Searches.{left, passed, cycle, entered, was-done, fewer-left, fewer-passed, fewer-entered}
use Rattle.call_graph.proofs.ordering.turn.Goals as goal

negated : (b c : Bool) → b ≡ not c → b ≡ true → c ≡ false
negated b true e h = cc
negated b false e h = cc

asserted : (b c : Bool) → b ≡ not c → b ≡ false → c ≡ true
asserted b true e h = cc
asserted b false e h = cc

pub returns-in_ok-leave-in-Leave-clause-turned : goal.returns-in_ok-leave-in-Leave-clause-turned
returns-in_ok-leave-in-Leave-clause-turned c = λ es listing h.
    let f = c.in-Leave.function in
    let old = c.args.search.now in
    let new = c.leave.new.search in
    let e = c.in_ok-leave-in-Leave.ensures in
    let was = subst (λ v. IsSearched es (contains nat_eq old.seen) (contains nat_eq old.done) old.order.items (old.stack.items ++ v ∷ [])) c.in-Leave.is h in
    let is = left es (contains nat_eq old.seen) (contains nat_eq old.done) (contains nat_eq new.done) old.order.items f old.stack.items was e.done in
    rw (e.seen, e.order, e.stack) is

pub returns-in_ok-leave-in-Leave-clause-fewer : goal.returns-in_ok-leave-in-Leave-clause-fewer
returns-in_ok-leave-in-Leave-clause-fewer c = λ es listing.
    let f = c.in-Leave.function in
    let old = c.args.search.now in
    let e = c.in_ok-leave-in-Leave.ensures in
    rw (e.seen, e.stack, c.in-Leave.is) (fewer-left es (contains nat_eq old.seen) f old.stack.items)

pub returns-else-branch-clause-turned : goal.returns-else-branch-clause-turned
returns-else-branch-clause-turned c = λ es listing h.
    let f = c.in-Enter.function in
    let old = c.args.search.now in
    let seen = contains nat_eq old.seen in
    let done = contains nat_eq old.done in
    let now = contains nat_eq c.insert.new.self in
    let was = subst (λ v. IsSearched es seen done old.order.items (old.stack.items ++ v ∷ [])) c.in-Enter.is h in
    let there = asserted c.in_ok-insert-in-Enter.field-0 (seen f) c.in_ok-insert-in-Enter.ensures.added c.if-branch.false in
    let same : (q : ℕ) → now q ≡ seen q = λ q. c.in_ok-insert-in-Enter.ensures.updates.0 q ∙ was-done (nat_eq f q) (seen q) f q seen refl refl there in
    by es was there same (done f) refl
  where
    by : (es : List (ℕ × ℕ)) → IsSearched es (contains nat_eq c.args.search.now.seen) (contains nat_eq c.args.search.now.done) c.args.search.now.order.items (c.args.search.now.stack.items ++ Enter c.in-Enter.function ∷ [])
        → contains nat_eq c.args.search.now.seen c.in-Enter.function ≡ true
        → ((q : ℕ) → contains nat_eq c.insert.new.self q ≡ contains nat_eq c.args.search.now.seen q)
        → (b : Bool) → contains nat_eq c.args.search.now.done c.in-Enter.function ≡ b
        → IsTurned c.contains.result es (contains nat_eq c.insert.new.self) (contains nat_eq c.args.search.now.done) c.args.search.now.order.items c.args.search.now.stack.items
    by es was there same b d =
        subst (λ b. IsTurned b es (contains nat_eq c.insert.new.self) (contains nat_eq c.args.search.now.done) c.args.search.now.order.items c.args.search.now.stack.items) (sym (c.contains.ensures ∙ d))
        (elim b as (λ b. contains nat_eq c.args.search.now.done c.in-Enter.function ≡ b → IsTurned b es (contains nat_eq c.insert.new.self) (contains nat_eq c.args.search.now.done) c.args.search.now.order.items c.args.search.now.stack.items) [
          | true ↦ λ d. passed es (contains nat_eq c.args.search.now.seen) (contains nat_eq c.args.search.now.done) c.args.search.now.order.items c.in-Enter.function c.args.search.now.stack.items was
              (contains nat_eq c.insert.new.self) (λ q s. sym (same q) ∙ s) d
          | false ↦ λ d. cycle es (contains nat_eq c.args.search.now.seen) (contains nat_eq c.args.search.now.done) c.args.search.now.order.items c.in-Enter.function c.args.search.now.stack.items was there d
        ] d)

pub returns-else-branch-clause-fewer : goal.returns-else-branch-clause-fewer
returns-else-branch-clause-fewer c = λ es listing.
    let f = c.in-Enter.function in
    let old = c.args.search.now in
    rw (c.in-Enter.is) (fewer-passed es (contains nat_eq old.seen) (contains nat_eq c.insert.new.self) f old.stack.items c.in_ok-insert-in-Enter.ensures.updates.0)

pub returns-then-branch-clause-turned : goal.returns-then-branch-clause-turned
returns-then-branch-clause-turned c = λ es listing h.
    let f = c.in-Enter.function in
    let old = c.args.search.now in
    let seen = contains nat_eq old.seen in
    let done = contains nat_eq old.done in
    let now = contains nat_eq c.insert.new.self in
    let was = subst (λ v. IsSearched es seen done old.order.items (old.stack.items ++ v ∷ [])) c.in-Enter.is h in
    let e = c.in_ok-enter-in-Enter.ensures in
    let is = entered es seen done old.order.items f old.stack.items was now c.in_ok-insert-in-Enter.ensures.updates.0 in
    let cs = c.callees_of.ensures ∙ listing f in
    rw (e.seen, e.done, e.order, e.stack, cs) is

pub returns-then-branch-clause-fewer : goal.returns-then-branch-clause-fewer
returns-then-branch-clause-fewer c = λ es listing.
    let f = c.in-Enter.function in
    let old = c.args.search.now in
    let seen = contains nat_eq old.seen in
    let new = negated c.in_ok-insert-in-Enter.field-0 (seen f) c.in_ok-insert-in-Enter.ensures.added c.if-branch.true in
    let e = c.in_ok-enter-in-Enter.ensures in
    let cs = c.callees_of.ensures ∙ listing f in
    rw (e.seen, e.stack, cs, c.in-Enter.is) (fewer-entered es seen (contains nat_eq c.insert.new.self) f old.stack.items c.in_ok-insert-in-Enter.ensures.updates.0 new)
