use Rattle.std.proofs.Common.{◌≡◌, ℕ, ◌||◌, ◌&&◌, Bool, true, false, not, cond, subst, nat_eq, [], ◌∷◌, ◌++◌, refl, sym, ◌∙◌, ap, arith}
use Rattle.std.proofs.lemmas.Grind.{common_steps}
use Rattle.std.specs.List.{list_any}
use Rattle.std.specs.HashSet.{contains}
use Rattle.call_graph.specs.Edges.{calls_it}
use Rattle.call_graph.proofs.Turns.{Searched, searched-first, searched-more}
use Rattle.call_graph.proofs.Walks.{closed-has}
use Rattle.call_graph.proofs.Visits.{or-false}
use Rattle.call_graph.proofs.reach.leads.Goals as goal

itself : (b : Bool) → cond b true false ≡ b
itself true = refl
itself false = refl

pub loop-function-init : goal.loop-function-init
loop-function-init c =
    let from = c.args.from in
    let none : (q : ℕ) → contains nat_eq c.new-seen.result q ≡ false = λ q. grind (arith, common_steps) in
    let stack : from ∷ [] ≡ c.push.new.self.items = sym (c.in_ok-push.ensures.items ∙ ap (λ l. l ++ from ∷ []) c.new-stack.ensures.items) in
    subst (λ l. Searched c.args.edges.now from (contains nat_eq c.insert.new.self) l) stack
    (searched-first c.args.edges.now from (contains nat_eq c.insert.new.self)
    (λ q. c.in_ok-insert.ensures.updates.0 q ∙ ap (λ b. cond (nat_eq from q) true b) (none q) ∙ itself (nat_eq from q)))

pub loop-function-smaller : goal.loop-function-smaller
loop-function-smaller c =
    let x = c.in-Some.function in
    let listing = c.callees_of.ensures ∙ c.requires x in
    let fewer = c.in_ok-visit.ensures.fewer c.args.edges.now x (λ q h. ap (λ l. list_any (nat_eq q) l) (sym listing) ∙ h) in
    omega (arith, fewer, c.in-Some.ensures.cases)

pub loop-function-preserved : goal.loop-function-preserved
loop-function-preserved c =
    let x = c.in-Some.function in
    let listing = c.callees_of.ensures ∙ c.requires x in
    let seen = contains nat_eq c.loop-function.seen in
    searched-more c.args.edges.now c.args.from seen (contains nat_eq c.visit.new.seen) c.loop-function.stack.items c.pop.new.self.items c.visit.new.stack.items x
    c.loop-function.invariant c.in-Some.ensures.items
    (λ q. c.in_ok-visit.ensures.seen q ∙ ap (λ l. list_any (nat_eq q) l || seen q) listing)
    (λ q. c.in_ok-visit.ensures.stack q ∙ ap (λ l. list_any (nat_eq q) c.pop.new.self.items || (list_any (nat_eq q) l && not (seen q))) listing)

pub returns : goal.returns
returns c =
    let v = c.loop-function.invariant in
    let empty : c.loop-function.stack.items ≡ [] = grind (arith, common_steps) in
    let seen = contains nat_eq c.loop-function.seen in
    let closed : (x y : ℕ) → seen x ≡ true → calls_it c.args.edges.now x y ≡ true → seen y ≡ true =
    λ x y s e. sym (ap (λ l. seen y || list_any (nat_eq x) l) empty ∙ or-false (seen y)) ∙ v.closed x y s e in (
      λ t. v.sound c.args.to (sym c.contains.ensures ∙ t),
      λ w. c.contains.ensures ∙ closed-has c.args.edges.now seen closed c.args.from c.args.to v.begun w.0 w.1,
    )
