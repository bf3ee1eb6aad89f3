use Rattle.std.proofs.Common.{◌≡◌, ◌<◌, nat_eq, ℕ, List, take, get_or, length, subst, sym, ap, ◌∙◌}
use Rattle.std.proofs.lemmas.List.{take_more}
use Rattle.std.proofs.lemmas.Result.{err_from_is_err_and}
use Rattle.std.specs.List.{list_any}
use Rattle.call_graph.specs.Order.{IsOrder, callers}
use Rattle.call_graph.proofs.Calling.{callers-call}
use Rattle.call_layout.specs.Chains.{AreNumbered}
use Rattle.call_layout.specs.Moves.{AreBegun, IsNext}
use Rattle.call_layout.proofs.layout.begins.Goals as goal

-- the next function of the order
is-next : (words : List ℕ) (es : List (ℕ × ℕ)) (order cs : List ℕ) (k : ℕ) → AreNumbered words es → IsOrder es order → k < length order → cs ≡ callers es (get_or order k 0)
    → IsNext words es (take k order) cs (get_or order k 0)
is-next words es order cs k n o l e = record {
  numbered = n;
  callers_are = λ c. ap (list_any (nat_eq c)) e ∙ callers-call es c (get_or order k 0);
  callers_done = λ c h. o.behind k c l h;
  new = o.once k l;
}

pub loop-function-init : goal.loop-function-init
loop-function-init c = c.in_ok-begins.ensures.begun c.args.edges.now

pub move_behind-requires-clause-known : goal.move_behind-requires-clause-known
move_behind-requires-clause-known c = λ q h.
    let es = c.args.edges.now in
    let f = get_or c.args.order.now c.loop-function.function-index 0 in
    let e : c.callees_of.result.now ≡ callers es f = c.callees_of.ensures ∙ c.in_ok-map.ensures f in
    (c.requires.known q f (sym (callers-call es q f) ∙ ap (list_any (nat_eq q)) (sym e) ∙ h)).0.1

pub returns-in_err-move_behind-clause-too_large : goal.returns-in_err-move_behind-clause-too_large
returns-in_err-move_behind-clause-too_large c =
    let es = c.args.edges.now in
    let k = c.loop-function.function-index in
    let order = c.args.order.now in
    let e : c.callees_of.result.now ≡ callers es (get_or order k 0) = c.callees_of.ensures ∙ c.in_ok-map.ensures (get_or order k 0) in
    let n = is-next c.args.words.now es order c.callees_of.result.now k c.requires.known c.requires.order c.loop-function-test.true e in
    let t = c.in_err-move_behind.ensures.too_large es (take k order) n c.loop-function.invariant in
    let p = err_from_is_err_and c.from_residual-in_err-move_behind.result c.from_residual-in_err-move_behind.ensures.1 in
    rw (p.1, p.2) t

pub loop-function-preserved : goal.loop-function-preserved
loop-function-preserved c =
    let es = c.args.edges.now in
    let k = c.loop-function.function-index in
    let order = c.args.order.now in
    let e : c.callees_of.result.now ≡ callers es (get_or order k 0) = c.callees_of.ensures ∙ c.in_ok-map.ensures (get_or order k 0) in
    let n = is-next c.args.words.now es order c.callees_of.result.now k c.requires.known c.requires.order c.loop-function-test.true e in
    let m = c.in_ok-move_behind.ensures.moved es (take k order) n c.loop-function.invariant in
    subst (λ (done : List ℕ). AreBegun c.args.words.now es done c.move_behind.new.begins.items) (sym (take_more order k 0 c.loop-function-test.true)) m
