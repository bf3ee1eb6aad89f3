use Rattle.std.proofs.Common.{◌≡◌, ℕ, ◌||◌, ◌&&◌, Bool, true, false, not, cond, nat_eq, take, get_or, vec_len, Vec, sym, ◌∙◌, ap, arith}
use Rattle.std.specs.Global.{Global}
use Rattle.std.specs.List.{list_any}
use Rattle.std.specs.HashSet.{contains}
use Rattle.std.proofs.lemmas.Bool.{eqb-true}
use Rattle.call_graph.proofs.Seen.{unseen-more, unseen-fewer}
use Rattle.call_graph.proofs.Visits.{any-push, any-more, any-has, flip, seen-by, waits-new, waits-old}
use Rattle.call_graph.proofs.reach.visit.Goals as goal
use Rattle.call_graph.proofs.reach.visit.Goals.{then-branch+in_ok-push, else-branch}

negated : (b : Bool) (c : Bool) → b ≡ not c → b ≡ true → c ≡ false
negated b true e h = cc
negated b false e h = cc

asserted : (b : Bool) (c : Bool) → b ≡ not c → b ≡ false → c ≡ true
asserted b true e h = cc
asserted b false e h = cc

pub loop-function-preserved : goal.loop-function-preserved
loop-function-preserved c =
    let xs = c.args.functions.now in
    let k = c.loop-function.function-index in
    let lt = c.loop-function-test.true in
    let y = get_or xs k 0 in
    let f = contains nat_eq c.loop-function.seen in
    let f0 = contains nat_eq c.args.seen.now in
    let t0 : ℕ → Bool = λ q. list_any (nat_eq q) c.args.stack.now.items in
    let v = c.loop-function.invariant in
    let adds = c.in_ok-insert.ensures.updates.0 in (
      (λ q. adds q
          ∙ ap (λ b. cond (nat_eq y q) true b) (v.0 q) ∙ ap (λ b. cond b true (list_any (nat_eq q) (take k xs) || f0 q)) (flip y q)
          ∙ seen-by (nat_eq q y) (list_any (nat_eq q) (take k xs)) (f0 q)
          ∙ ap (λ b. b || f0 q) (sym (any-more q xs k lt))),
      elim c.if-branch.branch [
        | then-branch+in_ok-push w ↦ λ q.
            ap (λ (s : Vec ℕ Global). list_any (nat_eq q) s.items) w.stack-is ∙ ap (λ l. list_any (nat_eq q) l) w.in_ok-push.ensures.items
            ∙ any-push q c.loop-function.stack.items y ∙ ap (λ b. b || nat_eq q y) (v.1 q)
            ∙ waits-new (t0 q) (list_any (nat_eq q) (take k xs)) (f0 q) (nat_eq q y)
            (λ e. sym (v.0 q) ∙ ap f (eqb-true q y e) ∙ negated c.in_ok-insert.field-0 (f y) c.in_ok-insert.ensures.added w.if-branch.true)
            ∙ ap (λ b. t0 q || (b && not (f0 q))) (sym (any-more q xs k lt))
        | else-branch w ↦ λ q.
            ap (λ (s : Vec ℕ Global). list_any (nat_eq q) s.items) w.stack-is ∙ v.1 q
            ∙ waits-old (t0 q) (list_any (nat_eq q) (take k xs)) (f0 q) (nat_eq q y)
            (λ e. sym (v.0 q) ∙ ap f (eqb-true q y e) ∙ asserted c.in_ok-insert.field-0 (f y) c.in_ok-insert.ensures.added w.if-branch.false)
            ∙ ap (λ b. t0 q || (b && not (f0 q))) (sym (any-more q xs k lt))
      ],
      elim c.if-branch.branch [
        | then-branch+in_ok-push w ↦ λ es x h.
            let less = unseen-fewer f (contains nat_eq c.insert.new.self) y adds (negated c.in_ok-insert.field-0 (f y) c.in_ok-insert.ensures.added w.if-branch.true) es x (h y (any-has xs k lt)) in
            let len = ap (λ (s : Vec ℕ Global). vec_len s) w.stack-is in
            omega (arith, less, len, w.in_ok-push.ensures.len, v.2 es x h)
        | else-branch w ↦ λ es x h.
            let less = unseen-more es f (contains nat_eq c.insert.new.self) y adds in
            let len = ap (λ (s : Vec ℕ Global). vec_len s) w.stack-is in
            omega (arith, less, len, v.2 es x h)
      ],
    )
