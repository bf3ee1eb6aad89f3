-- Each turn takes some first bytes of the rest.
use Rattle.std.proofs.Common.{◌≡◌, ℕ, ◌+◌, ◌-◌, ◌≤◌, ◌++◌, Result, Ok, Err, OnErr, Some, List, length, take, drop, sym, ap, ◌∙◌, arith, take-append-drop, append_assoc, take-add, length-drop}
use Rattle.std.proofs.lemmas.List.{take_rest}
use Rattle.slang_store.proofs.sink.write_all.Goals as goal

-- a fact holds where there is an error
on_err : {T E Q : Type 0} (r : Result T E) → Q → OnErr r Q
on_err (Ok x) q = tt
on_err (Err e) q = q

-- some bytes of the rest are not past the end
within : (xs : List ℕ) (i n : ℕ) → i ≤ length xs → n ≤ length (take (length xs - i) (drop i xs)) → i + n ≤ length xs
within xs i n in_list h = let rest = rw take_rest at h in omega (arith, length-drop i xs, rest)

-- the bytes before i and some first bytes of the rest
joined : (b xs : List ℕ) (i n : ℕ) → (b ++ take i xs) ++ take n (take (length xs - i) (drop i xs)) ≡ b ++ take (i + n) xs
joined b xs i n =
    append_assoc b (take i xs) _ ∙ ap (λ p. b ++ p) (ap (λ r. take i xs ++ take n r) (take_rest xs i) ∙ sym (take-add i n xs))

pub returns-in_err-done-clause-partly : goal.returns-in_err-done-clause-partly
returns-in_err-done-clause-partly g c b told =
    on_err c.from_residual.result (take c.loop-done.done c.args.bytes.now, (drop c.loop-done.done c.args.bytes.now, sym (take-append-drop c.loop-done.done c.args.bytes.now)), c.in_err-done.ensures.err ∙ c.loop-done.invariant.2 b told)

pub loop-done-preserved : goal.loop-done-preserved
loop-done-preserved g c =
    let bytes = c.args.bytes.now in
    let done = c.loop-done.done in
    let n = c.in_ok-done.field-0 in
    (within bytes done n c.loop-done.invariant.0 c.in_ok-done.ensures.within, omega arith, λ b told. c.in_ok-done.ensures.ok _ (c.loop-done.invariant.2 b told) ∙ ap Some (joined b bytes done n))
