-- One law for each template of a statement, and one induction over the statements.
use Rattle.std.proofs.Common.{ℕ, ◌+◌, ◌≤◌, ◌≡◌, Bool, true, List, [], ◌∷◌, ◌++◌, length, Some, None, ap, ◌∙◌, subst, arith, length-append}
use Rattle.std.specs.Prelude.{nat_lt}
use Rattle.behavior.specs.Values.{Value}
use Rattle.behavior.specs.Meanings.{Write, Undefined}
use Rattle.behavior.specs.Running.{World, Result, Went, Ends, Flow, Next, Broke, Continued, Returned, then_next, and_event, on_word, choose}
use Rattle.spirv_words.specs.declared.opcodes.Op.TheVariants.{AccessChain, Store}
use Rattle.spirv_words.specs.Machine.{Plain}
use Rattle.spirv_words.specs.Step.{State, gives, next}
use Rattle.first_form.specs.declared.shader.Statement.{Statement}
use Rattle.first_image.specs.Source.{sum_means, write_means, statement_means, statements_mean}
use Rattle.first_image.specs.Templates.{ins, Code, Piece, pair_code, sum_code, write_code, statement_code, sequence_code, statements_code}
use Rattle.first_image.proofs.Standing.{has_front, has_back}
use Rattle.first_image.proofs.Acts.{word_at, at_same, at_other, store_writes, chain_cell, chain_beyond}
use Rattle.first_image.proofs.Comes.{Follows, over_on, follows_on, word_follows, choose_follows, is_undefined}
use Rattle.first_image.proofs.Relation.{Context, IsReady, Reaches, Arrives, ExprRuns, Exits, Lands, StmtRuns, reaches_here, begins_on, reaches_on, reaches_at, here, result_reaches, write_reaches}
use Rattle.first_image.proofs.Exprs.{SumUsed, pair_follows, pair_more_ids, pair_more_temps, constant_known, not_signed, sum_runs}

-- the numbers that statements name are among the constants, and so is the number of the buffer's one member
abbrev pub StatementUsed : (ℕ → Bool) → Statement → Type 0
StatementUsed used s = (used 0 ≡ true) × SumUsed used s.index × SumUsed used s.value

abbrev pub StatementsUsed : (ℕ → Bool) → List Statement → Type 0
StatementsUsed used [] = Unit {0}
StatementsUsed used (s ∷ ss) = StatementUsed used s × StatementsUsed used ss

-- ---- how what a statement lands on is carried along

module _ (c : Context) where
  lands_from : {s s1 : State} {w w1 : World} {id temp q : ℕ} (id1 temp1 p : ℕ) {l1 : List Value} (x : Exits) → Reaches c s w id temp q l1 w1 s1 → id ≤ id1 → temp ≤ temp1 → (flow : Flow) (l : List Value) (w2 : World) → Lands c s1 w1 id1 temp1 p x flow l w2 → Lands c s w id temp p x flow l w2
  lands_from id1 temp1 p x a i t Next l w2 h = record { to = h.to; there = reaches_on c a i t h.there }
  lands_from id1 temp1 p x a i t Broke l w2 h = λ q at_q. let b = h q at_q in record { to = b.to; there = reaches_on c a i t b.there }
  lands_from id1 temp1 p x a i t Continued l w2 h = λ q at_q. let b = h q at_q in record { to = b.to; there = reaches_on c a i t b.there }
  lands_from id1 temp1 p x a i t (Returned None) l w2 h = record { to = h.to; place = h.place; there = reaches_on c a i t h.there; is = h.is }
  lands_from id1 temp1 p x a i t (Returned (Some v)) l w2 h = record { to = h.to; place = h.place; value = h.value; there = reaches_on c a i t h.there; is = h.is; has = h.has }

  -- code that follows, from where the run has come to
  lands_on : {s s1 : State} {w w1 : World} {id temp q : ℕ} (id1 temp1 p : ℕ) {l1 : List Value} (x : Exits) (r : Result Flow) → Reaches c s w id temp q l1 w1 s1 → id ≤ id1 → temp ≤ temp1 → Follows c.m s1 w1 (Lands c s1 w1 id1 temp1 p x) r → Follows c.m s w (Lands c s w id temp p x) r
  lands_on {s = s} {s1 = s1} {w = w} {w1 = w1} {id = id} {temp = temp} id1 temp1 p x r a i t h = follows_on c.m s s1 w w1 (Lands c s1 w1 id1 temp1 p x) (Lands c s w id temp p x) r a.comes (lands_from id1 temp1 p x a i t) h

  -- where the first statement goes on, the second follows
  next_follows : (s : State) (w : World) (id temp p1 p2 : ℕ) (x : Exits) (r : Result Flow) (go : List Value → World → Result Flow) → Follows c.m s w (Lands c s w id temp p1 x) r → ((l : List Value) (w1 : World) → Arrives c s w id temp p1 l w1 → Follows c.m s w (Lands c s w id temp p2 x) (go l w1)) → Follows c.m s w (Lands c s w id temp p2 x) (then_next r go)
  next_follows s w id temp p1 p2 x (Ends events ending) go h f = h
  next_follows s w id temp p1 p2 x (Went Next l w1) go h f = f l w1 h
  next_follows s w id temp p1 p2 x (Went Broke l w1) go h f = h
  next_follows s w id temp p1 p2 x (Went Continued l w1) go h f = h
  next_follows s w id temp p1 p2 x (Went (Returned None) l w1) go h f = h
  next_follows s w id temp p1 p2 x (Went (Returned (Some v)) l w1) go h f = h

  -- the place that a statement goes on to, counted in another way
  lands_at : (s : State) (w : World) (id temp p1 p2 : ℕ) (x : Exits) (r : Result Flow) → p1 ≡ p2 → Follows c.m s w (Lands c s w id temp p1 x) r → Follows c.m s w (Lands c s w id temp p2 x) r
  lands_at s w id temp p1 p2 x r e h = subst (λ p. Follows c.m s w (Lands c s w id temp p x) r) e h

module _ (c : Context) (ready : IsReady c) where
  -- no statement
  none_run : StmtRuns c (λ x. statements_code c.t []) (statements_mean c.m.lengths [])
  none_run = record {
    more_ids = λ x id temp. omega arith;
    more_temps = λ x id temp. omega arith;
    runs = λ x id temp p s w l from has fit. record { to = s; there = reaches_at c (omega arith) (reaches_here c temp from) };
  }

  -- a word is written at an index, if the buffer has it
  abbrev wrote : ℕ → ℕ → List Value → World → Result Flow
  wrote n m l w = choose (nat_lt n (c.m.lengths 0 0)) (Went Next l (and_event w (Write 0 0 n m))) (Ends w.events Undefined)

  -- a write to the buffer
  write_runs : (ca cb : ℕ → ℕ → Code) (ma mb : List Value → World → Result Value) → c.used 0 ≡ true → ExprRuns c c.t.word ca ma → ExprRuns c c.t.word cb mb → StmtRuns c (λ x id temp. write_code c.t (pair_code (ca id temp) cb)) (write_means c.m.lengths ma mb)
  write_runs ca cb ma mb u ra rb = record {
    more_ids = λ x id temp. omega (arith, pair_more_ids c ready c.t.word c.t.word ca cb ma mb ra rb id temp);
    more_temps = λ x id temp. pair_more_temps c ready c.t.word c.t.word ca cb ma mb ra rb id temp;
    runs = λ x id temp p s w l from has fit.
        let a = ca id temp in
        let q = pair_code a cb in
        let chain = ins AccessChain (c.t.cell_pointer ∷ q.id ∷ c.t.buffer ∷ c.t.constant 0 ∷ q.left ∷ []) in
        let tail = chain ∷ ins Store (q.id ∷ q.right ∷ []) ∷ [] in
        let end = p + length (q.instructions ++ tail) in
        let place : p + length q.instructions + 1 + 1 ≡ end = omega (arith, length-append q.instructions tail) in
        let P = Lands c s w id temp end x in
        let front = has_front c.m.code p q.instructions tail has in
        let h = has_back c.m.code p q.instructions tail has in
        let unsigned = not_signed c ready q.left (ra.typed id temp p (has_front c.m.code p a.instructions (cb a.id a.temp).instructions front)) in
        let zero_unsigned = not_signed c ready (c.t.constant 0) (ready.linked.constant_typed 0 u) in
        pair_follows c ready c.t.word c.t.word ca cb ma mb ra rb id temp p s w l from front fit P (λ v y l2 w2. on_word v w2 (λ n. on_word y w2 (λ m. wrote n m l2 w2))) (λ v y l2 w2 g.
        word_follows c.m s w P v w2 (λ n. on_word y w2 (λ m. wrote n m l2 w2)) (λ n is_n.
        word_follows c.m s w P y w2 (λ m. wrote n m l2 w2) (λ m is_m.
        let buffer = g.there.sound.known c.t.buffer ready.buffer_low ∙ ready.buffer in
        let nought = constant_known c ready g.to l2 0 g.there.sound u in
        let index = g.has_left ∙ ap (λ v. Some (Plain v)) is_n in
        choose_follows c.m s w P (nat_lt n (c.m.lengths 0 0)) (Went Next l2 (and_event w2 (Write 0 0 n m))) (Ends w2.events Undefined)
        (λ lt.
        let o = word_at n in
        let cell = result_reaches c chain q.id o g.there h.0 g.more (omega (arith, g.more, from.low)) (chain_cell c.m g.to c.t.cell_pointer q.id c.t.buffer (c.t.constant 0) q.left n buffer nought zero_unsigned index unsigned lt) in
        let s1 = gives g.to q.id o in
        let value = at_other g.to.ids q.id o q.right (λ e. absurd (omega (arith, g.low))) ∙ g.has_right ∙ ap (λ v. Some (Plain v)) is_m in
        record { to = next s1; there = reaches_at c place (write_reaches c _ 0 0 n m cell h.1.0 (store_writes c.m s1 q.id q.right n m (at_same g.to.ids q.id o) value)) })
        (λ ge. over_on c.m s g.to w w2 w2.events Undefined g.there.comes (is_undefined c.m g.to w2 chain (here c g.there h.0) (chain_beyond c.m g.to c.t.cell_pointer q.id c.t.buffer (c.t.constant 0) q.left n buffer nought zero_unsigned index unsigned ge))))));
  }

  statement_runs : (s : Statement) → StatementUsed c.used s → StmtRuns c (λ x. statement_code c.t s) (statement_means c.m.lengths s)
  statement_runs s u = write_runs (sum_code c.t s.index) (sum_code c.t s.value) (sum_means s.index) (sum_means s.value) u.0 (sum_runs c ready s.index u.1) (sum_runs c ready s.value u.2)

  -- one statement after the other
  sequence_runs : (ca cb : Exits → ℕ → ℕ → Piece) (ma mb : List Value → World → Result Flow) → StmtRuns c ca ma → StmtRuns c cb mb → StmtRuns c (λ x id temp. sequence_code (ca x id temp) (cb x)) (λ l w. then_next (ma l w) mb)
  sequence_runs ca cb ma mb ra rb = record {
    more_ids = λ x id temp. let a = ca x id temp in omega (arith, ra.more_ids x id temp, rb.more_ids x a.id a.temp);
    more_temps = λ x id temp. let a = ca x id temp in omega (arith, ra.more_temps x id temp, rb.more_temps x a.id a.temp);
    runs = λ x id temp p s w l from has fit.
        let a = ca x id temp in
        let b = cb x a.id a.temp in
        let more = ra.more_ids x id temp in
        let p1 = p + length a.instructions in
        let p2 = p + length (a.instructions ++ b.instructions) in
        let place : p1 + length b.instructions ≡ p2 = omega (arith, length-append a.instructions b.instructions) in
        next_follows c s w id temp p1 p2 x (ma l w) mb
        (ra.runs x id temp p s w l from (has_front c.m.code p a.instructions b.instructions has) (omega (arith, rb.more_temps x a.id a.temp)))
        (λ l1 w1 g. lands_on c a.id a.temp p2 x (mb l1 w1) g.there more (ra.more_temps x id temp)
        (lands_at c g.to w1 a.id a.temp (p1 + length b.instructions) p2 x (mb l1 w1) place
        (rb.runs x a.id a.temp p1 g.to w1 l1 (begins_on c a.id from more g.there) (has_back c.m.code p a.instructions b.instructions has) fit)));
  }

  pub statements_run : (ss : List Statement) → StatementsUsed c.used ss → StmtRuns c (λ x. statements_code c.t ss) (statements_mean c.m.lengths ss)
  statements_run [] u = none_run
  statements_run (s ∷ ss) u = sequence_runs (λ x. statement_code c.t s) (λ x. statements_code c.t ss) (statement_means c.m.lengths s) (statements_mean c.m.lengths ss) (statement_runs s u.0) (statements_run ss u.1)
