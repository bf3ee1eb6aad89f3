-- A dispatch has one answer, and leaves one memory.
use Rattle.std.proofs.Common.{◌≡◌, ◌≢◌, ◌⊎◌, inl, inr, ℕ, zero, suc, ◌<◌, ◌≤◌, List, Result, Ok, Err, sym, ap, subst, ◌∙◌, arith}
use Rattle.std.proofs.lemmas.Bool.{cases_order, cases_lt}
use Rattle.behavior.specs.Meanings.{End, Done, Out, Undefined as IsUndefined}
use Rattle.spirv_words.specs.declared.images.Instruction.{Instruction}
use Rattle.spirv_words.specs.declared.images.Image.{Image}
use Rattle.spirv_words.specs.Runs.{start}
use Rattle.run_buffers.specs.declared.buffer.Buffer.{Buffer}
use Rattle.run_buffers.specs.declared.faults.RunFault.{RunFault}
use Rattle.run_buffers.specs.declared.faults.RunFault.TheVariants.{Refused, Undefined, Budget, Memory}
use Rattle.run_buffers.specs.declared.ids.Ids.{Ids}
use Rattle.run_buffers.specs.Invocations.{ids_of}
use Rattle.spirv_check.specs.Entry.{group_size}
use Rattle.spirv_run.specs.declared.ran.Ran.{Ran}
use Rattle.spirv_run.specs.Shared.{Within, EndsAt}
use Rattle.spirv_run.specs.Dispatch.{FirstMissing, AreDone, FirstUndefined, FirstUnfinished, IsRun, product, IsDispatch, OtherEntry, TooMany, Lacking, Runs}
use Rattle.spirv_run.proofs.Playing.{Left, play, setting_of, within_is_played, stays}

-- ---- one invocation

not_out : (end : End) → (end ≡ Done) ⊎ (end ≡ IsUndefined) → end ≢ Out
not_out end (inl d) o = cc
not_out end (inr u) o = cc

-- an end and a bound at which it has not ended
pub end_and_out : (image : Image) (ids : Ids) (before a b : List Buffer) (k n : ℕ) (e : End) → e ≢ Out → k ≤ n
    → Within image ids before k a e → Within image ids before n b Out → ⊥
end_and_out image ids before a b k n e ne le done out =
    let m = setting_of image ids before in
    let p = within_is_played image ids before k a e done in
    let q = within_is_played image ids before n b Out out in
    let ended : (play m k (start m) before).1 ≢ Out = λ h. ne (sym (ap (λ (x : Left). x.1) p) ∙ h) in
    let r = stays m k n le (start m) before ended in
    ended (sym (ap (λ (x : Left). x.1) r) ∙ ap (λ (x : Left). x.1) q)

same_within : (image : Image) (ids : Ids) (before a b : List Buffer) (n : ℕ) (e f : End) → Within image ids before n a e → Within image ids before n b f → (a ≡ b) × (e ≡ f)
same_within image ids before a b n e f p q =
    let r = sym (within_is_played image ids before n a e p) ∙ within_is_played image ids before n b f q in
    (ap (λ (x : Left). x.0) r, ap (λ (x : Left). x.1) r)

pub one_end : (image : Image) (ids : Ids) (before a b : List Buffer) (k l : ℕ) (e f : End) → e ≢ Out → f ≢ Out
    → EndsAt image ids before k a e → EndsAt image ids before l b f → (k ≡ l) × (a ≡ b) × (e ≡ f)
one_end image ids before a b k l e f ne nf p q = elim (cases_order k l) [
  | inl same ↦
      let r = same_within image ids before a b l e f (subst (λ (n : ℕ). Within image ids before n a e) same p.finished) q.finished in
      (same, r.0, r.1)
  | inr (inl less) ↦ absurd (end_and_out image ids before a q.memory k q.earlier e ne (let h = q.last in omega arith) p.finished q.unfinished)
  | inr (inr more) ↦ absurd (end_and_out image ids before b p.memory l p.earlier f nf (let h = p.last in omega arith) q.finished p.unfinished)
]

done : Done ≢ Out
done h = cc

undefined : IsUndefined ≢ Out
undefined h = cc

-- ---- the invocations that are done

-- an invocation that is not done within its steps
abbrev pub NotDone : Image → Ids → ℕ → List Buffer → Type 0
NotDone image ids steps before = (after : List Buffer) (step : ℕ) → step ≤ steps → EndsAt image ids before step after Done → ⊥

module _ (image : Image) (size groups : List ℕ) (steps : ℕ) where
  pub one_row : (n : ℕ) (before a b : List Buffer) (s t : ℕ) → AreDone image size groups steps n before a s → AreDone image size groups steps n before b t → (a ≡ b) × (s ≡ t)
  one_row zero before a b s t p q = (p.0 ∙ sym q.0, p.1 ∙ sym q.1)
  one_row (suc n) before a b s t p q =
      let ids = ids_of size groups n in
      let earlier = one_row n before p.between q.between p.so_far q.so_far p.earlier q.earlier in
      let last = one_end image ids q.between a b p.step q.step Done Done done done (subst (λ (w : List Buffer). EndsAt image ids w p.step a Done) earlier.0 p.done) q.done in
      let sum = p.sum in let sum' = q.sum in let so = earlier.1 in let steps_are = last.0 in
      (last.1, omega arith)

  -- the memory after the first of them
  record Front (n : ℕ) (before : List Buffer) : Type 0 where
    memory : List Buffer
    total : ℕ
    are_done : AreDone image size groups steps n before memory total

  front : (n count : ℕ) (before after : List Buffer) (total : ℕ) → n ≤ count → AreDone image size groups steps count before after total → Front n before
  front n zero before after total le p = record {
    memory = after;
    total = total;
    are_done = subst (λ (k : ℕ). AreDone image size groups steps k before after total) (let e : zero ≡ n = omega arith in e) p;
  }
  front n (suc count) before after total le p = elim (cases_lt n (suc count)) [
    | inl less ↦ front n count before p.between p.so_far (omega arith) p.earlier
    | inr more ↦ record {
      memory = after;
      total = total;
      are_done = subst (λ (k : ℕ). AreDone image size groups steps k before after total) (let e : suc count ≡ n = omega arith in e) p;
    }
  ]

  -- where one is not done, no more are
  pub no_more : (n count : ℕ) (before between after : List Buffer) (s t : ℕ) → AreDone image size groups steps n before between s → NotDone image (ids_of size groups n) steps between
      → n < count → AreDone image size groups steps count before after t → ⊥
  no_more n count before between after s t p stop less q =
      let f = front (suc n) count before after t (omega arith) q in
      let o = f.are_done in
      let same = one_row n before o.between between o.so_far s o.earlier p in
      stop f.memory o.step o.within (subst (λ (w : List Buffer). EndsAt image (ids_of size groups n) w o.step f.memory Done) same.0 o.done)

  -- the first that is not done is one
  pub one_stop : (n m : ℕ) (before a b : List Buffer) (s t : ℕ) → AreDone image size groups steps n before a s → NotDone image (ids_of size groups n) steps a
      → AreDone image size groups steps m before b t → NotDone image (ids_of size groups m) steps b → n ≡ m
  one_stop n m before a b s t p stop q stop' = elim (cases_order n m) [
    | inl same ↦ same
    | inr (inl less) ↦ absurd (no_more n m before a b s t p stop less q)
    | inr (inr more) ↦ absurd (no_more m n before b a t s q stop' more p)
  ]

  undefined_stops : (n step : ℕ) (before after : List Buffer) (u : FirstUndefined image size groups steps n step before after) → NotDone image (ids_of size groups n) steps u.between
  undefined_stops n step before after u last k within ends =
      let r = one_end image (ids_of size groups n) u.between after last step k IsUndefined Done undefined done u.stops ends in
      let clash : IsUndefined ≡ Done = r.2 in cc

  unfinished_stops : (n : ℕ) (before after : List Buffer) (u : FirstUnfinished image size groups steps n before after) → NotDone image (ids_of size groups n) steps u.between
  unfinished_stops n before after u last k within ends =
      end_and_out image (ids_of size groups n) u.between last after k steps Done done within ends.finished u.unfinished

  -- ---- one answer

  abbrev Same : Result Ran RunFault → Result Ran RunFault → List Buffer → List Buffer → Type 0
  Same p q a b = (p ≡ q) × (a ≡ b)

  same_ran : (p q : Ran) → p.invocations ≡ q.invocations → p.steps ≡ q.steps → p ≡ q
  same_ran p q i s =
      ap (λ (n : ℕ). let r : Ran = record { invocations = n; steps = p.steps } in r) i
      ∙ ap (λ (n : ℕ). let r : Ran = record { invocations = q.invocations; steps = n } in r) s

  both_done : (count : ℕ) (before a b : List Buffer) (p q : Ran) → IsRun image size groups steps count before (Ok p) a → IsRun image size groups steps count before (Ok q) b
      → Same (Ok p) (Ok q) a b
  both_done count before a b p q x y =
      let r = one_row count before a b p.steps q.steps x.1 y.1 in
      (ap Ok (same_ran p q (x.0 ∙ sym y.0) r.1), r.0)

  both_undefined : (count : ℕ) (before a b : List Buffer) (n k m l : ℕ) → IsRun image size groups steps count before (Err (Undefined n k)) a
      → IsRun image size groups steps count before (Err (Undefined m l)) b → Same (Err (Undefined n k)) (Err (Undefined m l)) a b
  both_undefined count before a b n k m l x y =
      let u = x.1 in let w = y.1 in
      let at : n ≡ m = one_stop n m before u.between w.between u.so_far w.so_far u.earlier (undefined_stops n k before a u) w.earlier (undefined_stops m l before b w) in
      let row = one_row m before u.between w.between u.so_far w.so_far (subst (λ (i : ℕ). AreDone image size groups steps i before u.between u.so_far) at u.earlier) w.earlier in
      let ids = ids_of size groups m in
      let stops = subst (λ (w : List Buffer). EndsAt image ids w k a IsUndefined) row.0
      (subst (λ (i : ℕ). EndsAt image (ids_of size groups i) u.between k a IsUndefined) at u.stops) in
      let r = one_end image ids w.between a b k l IsUndefined IsUndefined undefined undefined stops w.stops in
      let steps_are : k ≡ l = r.0 in
      (cc, r.1)

  both_unfinished : (count : ℕ) (before a b : List Buffer) (n m : ℕ) → IsRun image size groups steps count before (Err (Budget n)) a
      → IsRun image size groups steps count before (Err (Budget m)) b → Same (Err (Budget n)) (Err (Budget m)) a b
  both_unfinished count before a b n m x y =
      let u = x.1 in let w = y.1 in
      let at : n ≡ m = one_stop n m before u.between w.between u.so_far w.so_far u.earlier (unfinished_stops n before a u) w.earlier (unfinished_stops m before b w) in
      let row = one_row m before u.between w.between u.so_far w.so_far (subst (λ (i : ℕ). AreDone image size groups steps i before u.between u.so_far) at u.earlier) w.earlier in
      let ids = ids_of size groups m in
      let out = subst (λ (w : List Buffer). Within image ids w steps a Out) row.0
      (subst (λ (i : ℕ). Within image (ids_of size groups i) u.between steps a Out) at u.unfinished) in
      let r = same_within image ids w.between a b steps Out Out out w.unfinished in
      (cc, r.0)

  -- what is undefined within its steps has ended
  undefined_and_unfinished : (before a b : List Buffer) (n k m : ℕ) → FirstUndefined image size groups steps n k before a → FirstUnfinished image size groups steps m before b → ⊥
  undefined_and_unfinished before a b n k m u w =
      let at : n ≡ m = one_stop n m before u.between w.between u.so_far w.so_far u.earlier (undefined_stops n k before a u) w.earlier (unfinished_stops m before b w) in
      let row = one_row m before u.between w.between u.so_far w.so_far (subst (λ (i : ℕ). AreDone image size groups steps i before u.between u.so_far) at u.earlier) w.earlier in
      let ids = ids_of size groups m in
      let stops = subst (λ (w : List Buffer). EndsAt image ids w k a IsUndefined) row.0
      (subst (λ (i : ℕ). EndsAt image (ids_of size groups i) u.between k a IsUndefined) at u.stops) in
      end_and_out image ids w.between a b k steps IsUndefined undefined u.within stops.finished w.unfinished

  pub one_run : (count : ℕ) (before a b : List Buffer) (p q : Result Ran RunFault) → IsRun image size groups steps count before p a → IsRun image size groups steps count before q b → Same p q a b
  one_run count before a b (Ok p) (Ok q) x y = both_done count before a b p q x y
  one_run count before a b (Ok p) (Err (Undefined n k)) x y =
      let u = y.1 in absurd (no_more n count before u.between a u.so_far p.steps u.earlier (undefined_stops n k before b u) y.0 x.1)
  one_run count before a b (Ok p) (Err (Budget n)) x y =
      let u = y.1 in absurd (no_more n count before u.between a u.so_far p.steps u.earlier (unfinished_stops n before b u) y.0 x.1)
  one_run count before a b (Ok p) (Err (Refused cause)) x y = absurd y
  one_run count before a b (Ok p) (Err (Memory e)) x y = absurd y
  one_run count before a b (Err (Undefined n k)) (Ok q) x y =
      let u = x.1 in absurd (no_more n count before u.between b u.so_far q.steps u.earlier (undefined_stops n k before a u) x.0 y.1)
  one_run count before a b (Err (Undefined n k)) (Err (Undefined m l)) x y = both_undefined count before a b n k m l x y
  one_run count before a b (Err (Undefined n k)) (Err (Budget m)) x y = absurd (undefined_and_unfinished before a b n k m x.1 y.1)
  one_run count before a b (Err (Undefined n k)) (Err (Refused cause)) x y = absurd y
  one_run count before a b (Err (Undefined n k)) (Err (Memory e)) x y = absurd y
  one_run count before a b (Err (Budget n)) (Ok q) x y =
      let u = x.1 in absurd (no_more n count before u.between b u.so_far q.steps u.earlier (unfinished_stops n before a u) x.0 y.1)
  one_run count before a b (Err (Budget n)) (Err (Undefined m l)) x y = absurd (undefined_and_unfinished before b a m l n y.1 x.1)
  one_run count before a b (Err (Budget n)) (Err (Budget m)) x y = both_unfinished count before a b n m x y
  one_run count before a b (Err (Budget n)) (Err (Refused cause)) x y = absurd y
  one_run count before a b (Err (Budget n)) (Err (Memory e)) x y = absurd y
  one_run count before a b (Err (Refused cause)) q x y = absurd x
  one_run count before a b (Err (Memory e)) q x y = absurd x

-- ---- refusals

one_missing : (code : List Instruction) (memory : List Buffer) (s b t c : ℕ) → FirstMissing code memory s b → FirstMissing code memory t c → (s ≡ t) × (b ≡ c)
one_missing code memory s b t c p q = elim (cases_order s t) [
  | inl same ↦ elim (cases_order b c) [
    | inl also ↦ (same, also)
    | inr (inl less) ↦ absurd (q.first s b p.missing (inr (same, less)))
    | inr (inr more) ↦ absurd (p.first t c q.missing (inr (sym same, more)))
  ]
  | inr (inl less) ↦ absurd (q.first s b p.missing (inl less))
  | inr (inr more) ↦ absurd (p.first t c q.missing (inl more))
]

pub one_dispatch : (image : Image) (entry groups : List ℕ) (steps : ℕ) (before a b : List Buffer) (p q : Result Ran RunFault)
    → IsDispatch image entry groups steps before p a → IsDispatch image entry groups steps before q b → (p ≡ q) × (a ≡ b)
one_dispatch image entry groups steps before a b p q (OtherEntry ne e m) (OtherEntry ne' e' m') = (e ∙ sym e', m ∙ sym m')
one_dispatch image entry groups steps before a b p q (OtherEntry ne e m) (TooMany is many e' m') = absurd (ne is)
one_dispatch image entry groups steps before a b p q (OtherEntry ne e m) (Lacking s c is few first e' m') = absurd (ne is)
one_dispatch image entry groups steps before a b p q (OtherEntry ne e m) (Runs is few all run) = absurd (ne is)
one_dispatch image entry groups steps before a b p q (TooMany is many e m) (OtherEntry ne e' m') = absurd (ne is)
one_dispatch image entry groups steps before a b p q (TooMany is many e m) (TooMany is' many' e' m') = (e ∙ sym e', m ∙ sym m')
one_dispatch image entry groups steps before a b p q (TooMany is many e m) (Lacking s c is' few first e' m') = absurd (omega arith)
one_dispatch image entry groups steps before a b p q (TooMany is many e m) (Runs is' few all run) = absurd (omega arith)
one_dispatch image entry groups steps before a b p q (Lacking s c is few first e m) (OtherEntry ne e' m') = absurd (ne is)
one_dispatch image entry groups steps before a b p q (Lacking s c is few first e m) (TooMany is' many e' m') = absurd (omega arith)
one_dispatch image entry groups steps before a b p q (Lacking s c is few first e m) (Lacking t d is' few' first' e' m') =
    let same = one_missing image.instructions before s c t d first first' in
    let sets : s ≡ t = same.0 in
    let bindings : c ≡ d = same.1 in
    (cc, m ∙ sym m')
one_dispatch image entry groups steps before a b p q (Lacking s c is few first e m) (Runs is' few' all run) = absurd (all s c first.missing)
one_dispatch image entry groups steps before a b p q (Runs is few all run) (OtherEntry ne e' m') = absurd (ne is)
one_dispatch image entry groups steps before a b p q (Runs is few all run) (TooMany is' many e' m') = absurd (omega arith)
one_dispatch image entry groups steps before a b p q (Runs is few all run) (Lacking t d is' few' first e' m') = absurd (all t d first.missing)
one_dispatch image entry groups steps before a b p q (Runs is few all run) (Runs is' few' all' run') =
    one_run image (group_size image.instructions) groups steps (product image.instructions groups) before a b p q run run'
