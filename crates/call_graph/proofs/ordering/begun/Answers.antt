use Rattle.std.proofs.Common.{◌≡◌, ◌++◌, ℕ, false, nat_eq, [], List, sym, ◌∙◌, ap, subst, arith}
use Rattle.std.proofs.lemmas.Grind.{common_steps}
use Rattle.std.specs.HashSet.{contains}
use Rattle.call_graph.specs.declared.ordering.Visit.{Visit}
use Rattle.call_graph.specs.Order.{IsSearched, called, entering}
use Rattle.call_graph.proofs.Searches.{searched-none, called-waits, entering-closed, entering-opened}
use Rattle.call_graph.proofs.ordering.begun.Goals as goal

pub returns : goal.returns
returns c =
    let es = c.args.edges.now in
    let none : (q : ℕ) → contains nat_eq c.new.result q ≡ false = λ q. grind (arith, common_steps) in
    let none-done : (q : ℕ) → contains nat_eq c.new-2.result q ≡ false = λ q. grind (arith, common_steps) in
    let stack : c.wait.new.stack.items ≡ entering (called es) =
    c.in_ok-wait.ensures ∙ ap (λ (l : List Visit). l ++ entering c.as_slice.result.now) c.new-stack.ensures.items
    ∙ ap entering (c.as_slice.ensures.value ∙ c.in_ok-called.ensures) in
    rw (stack, c.new-3.ensures.items)
    (searched-none es (contains nat_eq c.new.result) (contains nat_eq c.new-2.result) (entering (called es)) none none-done (called-waits es) (λ q. entering-closed q (called es))
    (entering-opened (called es)))
