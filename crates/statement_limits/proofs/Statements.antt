-- Statements and blocks: what is broken first is told.
use Rattle.std.proofs.Common.{true, false, ◌≡◌, ℕ, zero, suc, ◌+◌, ◌≤◌, List, [], ◌∷◌, ◌++◌, drop, length, Option, Some, not, refl, sym, ap, subst, arith}
use Rattle.slang_names.specs.declared.places.Place.{Place}
use Rattle.slang_names.specs.declared.codes.ModuleCode.TheVariants as code
use Rattle.slang_tree.specs.declared.expressions.ExprTree.{ExprTree}
use Rattle.slang_tree.specs.declared.statements.Attribute.{Attribute}
use Rattle.slang_tree.specs.declared.statements.Change.{Change}
use Rattle.slang_tree.specs.declared.statements.LoopStart.{LoopStart}
use Rattle.slang_tree.specs.declared.statements.StatTree.{StatTree}
use Rattle.slang_tree.specs.declared.statements.StatNode.TheVariants as s
use Rattle.slang_tree.specs.declared.statements.Block.{Block}
use Rattle.slang_tokens.specs.declared.tokens.Kind.{Kind}
use Rattle.slang_tokens.specs.declared.tokens.Kind.TheVariants as k
use Rattle.slang_tokens.specs.declared.tokens.Mark.TheVariants as m
use Rattle.slang_tokens.specs.declared.tokens.Word.TheVariants as w
use Rattle.slang_reading.specs.Lexed.{Lexed}
use Rattle.slang_reading.specs.Reading.{Parser, Choice, Leave, Take, Pass, place_of, first, pure, next, turns}
use Rattle.slang_reading.specs.Kinds.{sees, sees_word, span}
use Rattle.slang_reading.proofs.Exact.{Reads, reads_pure, reads_bind, reads_next}
use Rattle.slang_grammar.specs.Standing.{Stands}
use Rattle.slang_grammar.specs.Descent.{Limits, expect}
use Rattle.slang_grammar.proofs.Shared.{reads_expect, is_there}
use Rattle.statement_grammar.specs.declared.tables.StatementUse.{StatementUse}
use Rattle.statement_grammar.specs.declared.tables.StatementUse.TheVariants as u
use Rattle.statement_grammar.specs.Tables.{statement_use}
use Rattle.statement_grammar.specs.Attributes as a
use Rattle.statement_grammar.specs.Attributes.{AttributeAt, AttributesAt, begin_of}
use Rattle.statement_grammar.specs.AttributesDescent.{Given, Noted, attributes, loops}
use Rattle.statement_grammar.specs.Statements as t
use Rattle.statement_grammar.specs.Statements.{ConditionAt, HeadAt, stated, StatAt, StatsAt, BlockAt}
use Rattle.statement_grammar.specs.StatementsDescent.{IsLocal, IsChange, simple, maybe, condition, head, stat_more, in_block, stats, block_rest, simple_stat, if_else, else_by, if_rest, for_rest, while_rest, loop_at, loop_rest, return_rest, break_rest, continue_rest, node, stat_as, stat_at, stat, body_rest, body_by, body, no_statements, statements, blocks}
use Rattle.statement_laws.proofs.Parts.{Starts, starts_not, type_starts, local_starts, change_begins}
use Rattle.statement_fits.proofs.Moves.{left_none, stat_moves}
use Rattle.expression_limits.specs.Breaks.{Break, broken}
use Rattle.expression_limits.proofs.Telling.{Tells, tells_first, TellsChoice, tells_reads, tells_bind, tells_last, tells_next, tells_turns_end, tells_turns_more}
use Rattle.statement_limits.specs.Attributes.{attributes_breaks}
use Rattle.statement_limits.specs.Statements.{head_breaks, condition_breaks, stat_breaks, stats_breaks, block_breaks}
use Rattle.statement_limits.proofs.Attributes.{noted_in, tells_attributes}
use Rattle.statement_limits.proofs.Parts.{tells_local_stat, tells_change_stat, tells_maybe, tells_condition, tells_head}

-- ---- what begins a statement

attribute_starts : {ts : List Lexed} {x : Attribute} {from to : ℕ} → AttributeAt ts x from to → Starts ts from u.Attributes
attribute_starts (a.named {p = p} o i r) = record { tok = record { kind = k.Mark m.OpenBracket; place = p; bytes = o.bytes }; is = o.is; serves = refl }
attribute_starts (a.binding {p = p} o q b) = record { tok = record { kind = k.Mark m.OpenBracket; place = p; bytes = o.bytes }; is = o.is; serves = refl }

stands_starts : {ts : List Lexed} {kind : Kind} {p : Place} {at : ℕ} → Stands ts at kind p → Starts ts at (statement_use kind)
stands_starts {kind = kind} {p = p} s = record { tok = record { kind = kind; place = p; bytes = s.bytes }; is = s.is; serves = refl }

-- the token with which a statement begins, which is no closing brace
record Begun (ts : List Lexed) (at : ℕ) : Type 0 where
  use_ : StatementUse
  starts : Starts ts at use_
  open_ : u.Nothing ≡ use_ → ⊥

begun : {ts : List Lexed} {at : ℕ} (use_ : StatementUse) → Starts ts at use_ → (u.Nothing ≡ use_ → ⊥) → Begun ts at
begun use_ b n = record { use_ = use_; starts = b; open_ = n }

stat_begins : {ts : List Lexed} {x : StatTree} {from to : ℕ} → StatAt ts x from to → Begun ts from
stat_begins (t.block o r) = begun u.Block (stands_starts o) (λ q. cc)
stat_begins (t.local r z) = begun u.Simple (local_starts r) (λ q. cc)
stat_begins (t.change r z) = begun u.Simple (type_starts (change_begins r)) (λ q. cc)
stat_begins (t.empty o) = begun u.Empty (stands_starts o) (λ q. cc)
stat_begins (t.if_alone o r v n) = begun u.If (stands_starts o) (λ q. cc)
stat_begins (t.if_else o r v w c) = begun u.If (stands_starts o) (λ q. cc)
stat_begins (t.for_loop (a.end n) o r v) = begun u.For (stands_starts o) (λ q. cc)
stat_begins (t.for_loop (a.more x l) o r v) = begun u.Attributes (attribute_starts x) (λ q. cc)
stat_begins (t.while_loop (a.end n) o r v) = begun u.While (stands_starts o) (λ q. cc)
stat_begins (t.while_loop (a.more x l) o r v) = begun u.Attributes (attribute_starts x) (λ q. cc)
stat_begins (t.return_value o r z) = begun u.Return (stands_starts o) (λ q. cc)
stat_begins (t.break_loop o z) = begun u.Break (stands_starts o) (λ q. cc)
stat_begins (t.continue_loop o z) = begun u.Continue (stands_starts o) (λ q. cc)

stat_open : {ts : List Lexed} {x : StatTree} {from to : ℕ} → StatAt ts x from to → sees m.CloseBrace (first (drop from ts)) ≡ false
stat_open v = let b = stat_begins v in starts_not m.CloseBrace b.starts b.open_

module _ (ts : List Lexed) (limits : Limits) where
  -- ---- with no node left

  stat_zero : {x : StatTree} {from to : ℕ} → (s : StatAt ts x from to) → first (stat_breaks ts limits s zero) ≡ Some (broken ts code.TooNested from)
  stat_zero (t.block o r) = refl
  stat_zero (t.local r z) = refl
  stat_zero (t.change r z) = refl
  stat_zero (t.empty o) = refl
  stat_zero (t.if_alone o r v n) = refl
  stat_zero (t.if_else o r v w c) = refl
  stat_zero (t.for_loop l o r v) = refl
  stat_zero (t.while_loop l o r v) = refl
  stat_zero (t.return_value o r z) = refl
  stat_zero (t.break_loop o z) = refl
  stat_zero (t.continue_loop o z) = refl

  passes : (tok : Lexed) (use_ : StatementUse) → (u.Nothing ≡ use_ → ⊥) → stat_as limits false zero no_statements tok use_ ≡ Pass code.TooNested tok.place
  passes tok u.Block n = refl
  passes tok u.Empty n = refl
  passes tok u.Attributes n = refl
  passes tok u.Simple n = refl
  passes tok u.If n = refl
  passes tok u.For n = refl
  passes tok u.While n = refl
  passes tok u.Return n = refl
  passes tok u.Break n = refl
  passes tok u.Continue n = refl
  passes tok u.Nothing n = absurd (n refl)

  tells_nothing : {x : StatTree} {from to : ℕ} → StatAt ts x from to → (seen : ℕ) → Tells (broken ts code.TooNested from ∷ []) (stat limits false zero no_statements) ts from seen x to
  unfolding stat
  tells_nothing {x = x} {from = from} {to = to} v seen =
      let b = stat_begins v in
      let tok = b.starts.tok in
      tells_next ts (stat_at limits false zero no_statements) from seen x to (Some tok) (Pass code.TooNested tok.place) b.starts.is
      (subst (λ use_. stat_as limits false zero no_statements tok use_ ≡ Pass code.TooNested tok.place) (sym b.starts.serves) (passes tok b.use_ b.open_)) (refl, ap place_of (sym b.starts.is))

  module _ (free : limits.free ≡ false) (long : length ts ≤ limits.turns) where
    -- inner tells what a statement breaks first
    module _ (d : ℕ) (inner : Parser StatTree) (hs : (x : StatTree) (from to : ℕ) → (s : StatAt ts x from to) → (seen : ℕ) → Tells (stat_breaks ts limits s d) inner ts from seen x to) where
      -- ---- what stands between braces

      tells_one : (list : List StatTree) {x : StatTree} {from to : ℕ} → (v : StatAt ts x from to) → (seen : ℕ) → Tells (stat_breaks ts limits v d) (stat_more limits true d inner list) ts from seen (list ++ x ∷ []) to
      unfolding stat_more
      tells_one list {x = x} {from = from} {to = to} v seen = tells_last ts inner _ from seen to to x (list ++ x ∷ []) (hs _ _ _ v seen) (λ s1. reads_pure ⊥ ts (list ++ x ∷ []) to s1)

      -- the statements up to a closing brace, and where it stands
      record Ends (bs : List Break) (list all : List StatTree) (p : Place) (from to : ℕ) : Type 0 where
        mid : ℕ
        is : mid + 1 ≡ to
        brace : Stands ts mid (k.Mark m.CloseBrace) p
        tells : (count seen : ℕ) → length ts ≤ from + count → Tells bs (turns (in_block limits true d inner) (stat_more limits true d inner) count list) ts from seen all mid

      tells_more : (bs : List Break) (list all : List StatTree) {x : StatTree} {from mid : ℕ} (last : ℕ) → (v : StatAt ts x from mid) →
          ((count seen : ℕ) → length ts ≤ mid + count → Tells bs (turns (in_block limits true d inner) (stat_more limits true d inner) count (list ++ x ∷ [])) ts mid seen all last) → (count seen : ℕ) → length ts ≤ from + count →
          Tells (stat_breaks ts limits v d ++ bs) (turns (in_block limits true d inner) (stat_more limits true d inner) count list) ts from seen all last
      tells_more bs list all {from = from} last v r zero seen l = absurd (let b = stat_begins v in left_none ts from b.starts.tok b.starts.is l)
      tells_more bs list all {x = x} {from = from} {mid = mid} last v r (suc count) seen l =
          tells_turns_more ts (in_block limits true d inner) (stat_more limits true d inner) count list (list ++ x ∷ []) all from seen mid last (ap not (stat_open v)) (λ s1. tells_one list v s1)
          (λ s1. r count s1 (let h = stat_moves ts v in omega (arith, h, l)))

      tells_list : {list all : List StatTree} {p : Place} {from to : ℕ} → (r : StatsAt ts list all p from to) → Ends (stats_breaks ts limits r d) list all p from to
      tells_list {list = list} {p = p} (t.end {at = at} c) = record {
        mid = at;
        is = refl;
        brace = c;
        tells = λ count seen l. tells_turns_end ts (in_block limits true d inner) (stat_more limits true d inner) count list at seen (ap not (is_there ts m.CloseBrace at p c));
      }
      tells_list {list = list} {all = all} (t.more {x = x} v r) =
          let after = tells_list r in
          record { mid = after.mid; is = after.is; brace = after.brace; tells = tells_more (stats_breaks ts limits r d) list all after.mid v after.tells }

      tells_stats : {all : List StatTree} {p : Place} {from to : ℕ} → (r : StatsAt ts [] all p from to) → (seen : ℕ) → Tells (stats_breaks ts limits r d) (stats limits true d inner) ts from seen (all, p) to
      unfolding stats
      tells_stats {all = all} {p = p} {from = from} {to = to} r seen =
          let q = tells_list r in
          let b : List StatTree × Place = (all, p) in
          subst (Tells (stats_breaks ts limits r d) (stats limits true d inner) ts from seen b) q.is
          (tells_last ts (turns (in_block limits true d inner) (stat_more limits true d inner) limits.turns []) _ from seen q.mid (q.mid + 1) all b (q.tells limits.turns seen (omega (arith, long)))
          (λ s1. reads_bind ⊥ ts (expect m.CloseBrace) _ q.mid s1 (q.mid + 1) (q.mid + 1) p b (reads_expect ⊥ ts m.CloseBrace p q.mid s1 q.brace) (λ s2. reads_pure ⊥ ts b (q.mid + 1) s2)))

      -- ---- behind the word of a statement

      tells_else : (begin : Place) (x : ExprTree) (y : StatTree) {z : StatTree} {from to : ℕ} → (v : StatAt ts z from to) → (seen : ℕ) →
          Tells (stat_breaks ts limits v d) (if_else limits true d inner begin x y) ts from seen (stated (span begin z.place) (s.IfElse x y z)) to
      unfolding if_else
      tells_else begin x y {z = z} {from = from} {to = to} v seen = let b = stated (span begin z.place) (s.IfElse x y z) in
          tells_last ts inner _ from seen to to z b (hs _ _ _ v seen) (λ s1. reads_pure ⊥ ts b to s1)

      -- an `if`, to before what may be its `else`
      tells_if : {cs : List Break} (begin : Place) {x : ExprTree} {y : StatTree} {from mid at to : ℕ} (b : StatTree) → (r : ConditionAt ts x from mid) → (v : StatAt ts y mid at) →
          ((s1 : ℕ) → Tells cs (next (λ t. else_by limits true d inner begin x y (sees_word w.Else t))) ts at s1 b to) → (seen : ℕ) →
          Tells (condition_breaks ts limits r d ++ (stat_breaks ts limits v d ++ cs)) (if_rest limits true d inner begin) ts from seen b to
      unfolding if_rest
      tells_if begin {x = x} {y = y} {from = from} {mid = mid} {at = at} {to = to} b r v f seen =
          tells_bind ts (condition limits d) _ from seen mid to x b (tells_condition ts limits free long d r seen)
          (λ s1. tells_bind ts inner _ mid s1 at to y b (hs _ _ _ v s1) f)

      -- and there is none
      tells_if_alone : (begin : Place) {x : ExprTree} {y : StatTree} {from mid to : ℕ} (b : StatTree) → (r : ConditionAt ts x from mid) → (v : StatAt ts y mid to) →
          ((s1 : ℕ) → Reads ⊥ (next (λ t. else_by limits true d inner begin x y (sees_word w.Else t))) ts to s1 b to) → (seen : ℕ) →
          Tells (condition_breaks ts limits r d ++ stat_breaks ts limits v d) (if_rest limits true d inner begin) ts from seen b to
      unfolding if_rest
      tells_if_alone begin {x = x} {y = y} {from = from} {mid = mid} {to = to} b r v f seen =
          tells_bind ts (condition limits d) _ from seen mid to x b (tells_condition ts limits free long d r seen)
          (λ s1. tells_last ts inner _ mid s1 to to y b (hs _ _ _ v s1) f)

      tells_for : (list : List Attribute) (begin : Place) {start : LoopStart} {x : Option ExprTree} {step : Option Change} {y : StatTree} {from mid to : ℕ} → (h : HeadAt ts start x step from mid) → (v : StatAt ts y mid to) → (seen : ℕ) →
          Tells (head_breaks ts limits h d ++ stat_breaks ts limits v d) (for_rest limits true d inner list begin) ts from seen (stated (span (begin_of list begin) y.place) (s.For list start x step y)) to
      unfolding for_rest
      tells_for list begin {start = start} {x = x} {step = step} {y = y} {from = from} {mid = mid} {to = to} h v seen =
          let b = stated (span (begin_of list begin) y.place) (s.For list start x step y) in
          tells_bind ts (head limits d) _ from seen mid to (start, x, step) b (tells_head ts limits free long d h seen)
          (λ s1. tells_last ts inner _ mid s1 to to y b (hs _ _ _ v s1) (λ s2. reads_pure ⊥ ts b to s2))

      tells_while : (list : List Attribute) (begin : Place) {x : ExprTree} {y : StatTree} {from mid to : ℕ} → (r : ConditionAt ts x from mid) → (v : StatAt ts y mid to) → (seen : ℕ) →
          Tells (condition_breaks ts limits r d ++ stat_breaks ts limits v d) (while_rest limits true d inner list begin) ts from seen (stated (span (begin_of list begin) y.place) (s.While list x y)) to
      unfolding while_rest
      tells_while list begin {x = x} {y = y} {from = from} {mid = mid} {to = to} r v seen =
          let b = stated (span (begin_of list begin) y.place) (s.While list x y) in
          tells_bind ts (condition limits d) _ from seen mid to x b (tells_condition ts limits free long d r seen)
          (λ s1. tells_last ts inner _ mid s1 to to y b (hs _ _ _ v s1) (λ s2. reads_pure ⊥ ts b to s2))

      -- ---- statements

      -- a statement that begins with that token
      tells_node : {bs : List Break} (x : StatTree) {from to : ℕ} (tok : Lexed) (c : Choice StatTree) → first (drop from ts) ≡ Some tok → stat_at limits true d inner (Some tok) ≡ node limits true d inner tok c →
          TellsChoice ts bs from x to (Some tok) c → (seen : ℕ) → Tells bs (stat limits true d inner) ts from seen x to
      unfolding stat
      tells_node x {from = from} {to = to} tok c i q h seen = tells_next ts (stat_at limits true d inner) from seen x to (Some tok) (node limits true d inner tok c) i q h

      -- a loop with attributes
      tells_loop : {bs : List Break} (x : StatTree) {list : List Attribute} {p : Place} {kind : Kind} {y : Attribute} {from first_ mid to : ℕ} → AttributeAt ts y from first_ → (l : AttributesAt ts [] list from mid) → (o : Stands ts mid kind p) (c : Parser StatTree) →
          ((given : Noted) → loop_at limits true d inner (list, given) (Some (record { kind = kind; place = p; bytes = o.bytes })) ≡ Take c) → ((s1 : ℕ) → Tells bs c ts (mid + 1) s1 x to) → (seen : ℕ) →
          Tells (attributes_breaks ts limits loops l [] ++ bs) (stat limits true d inner) ts from seen x to
      unfolding loop_rest
      tells_loop x {list = list} {p = p} {kind = kind} {from = from} {mid = mid} {to = to} y l o c q h seen =
          let b = attribute_starts y in
          let g : Given = (list, noted_in ts l) in
          tells_node x b.tok (Leave (loop_rest limits true d inner)) b.is (ap (stat_as limits true d inner b.tok) b.serves)
          (λ s1. tells_bind ts (attributes limits loops) _ from s1 mid to g x (tells_attributes ts limits free long loops l s1)
          (λ s2. tells_next ts (loop_at limits true d inner g) mid s2 x to (Some (record { kind = kind; place = p; bytes = o.bytes })) (Take c) o.is (q (noted_in ts l)) h)) seen

      tells_stat : {x : StatTree} {from to : ℕ} → (s : StatAt ts x from to) → (seen : ℕ) → Tells (stat_breaks ts limits s (suc d)) (stat limits true d inner) ts from seen x to
      unfolding block_rest simple_stat return_rest break_rest continue_rest
      tells_stat {x = x} {from = from} {to = to} (t.block {p = p} {end = end} {list = list} o r) seen =
          tells_node x (record { kind = k.Mark m.OpenBrace; place = p; bytes = o.bytes }) (Take (block_rest limits true d inner p)) o.is refl
          (λ s1. tells_last ts (stats limits true d inner) _ (from + 1) s1 to to (list, end) x (tells_stats r s1) (λ s2. reads_pure ⊥ ts x to s2)) seen
      tells_stat {x = y} {from = from} (t.local {at = at} {end = end} {x = x} r z) seen =
          let b = local_starts r in
          tells_node y b.tok (Leave (simple_stat limits true d inner)) b.is (ap (stat_as limits true d inner b.tok) b.serves)
          (λ s1. tells_last ts (simple limits d) _ from s1 at (at + 1) (IsLocal x) y (tells_local_stat ts limits free long d r z s1)
          (λ s2. reads_bind ⊥ ts (expect m.Semicolon) _ at s2 (at + 1) (at + 1) end y (reads_expect ⊥ ts m.Semicolon end at s2 z) (λ s3. reads_pure ⊥ ts y (at + 1) s3))) seen
      tells_stat {x = y} {from = from} (t.change {at = at} {end = end} {x = x} r z) seen =
          let b = type_starts (change_begins r) in
          tells_node y b.tok (Leave (simple_stat limits true d inner)) b.is (ap (stat_as limits true d inner b.tok) b.serves)
          (λ s1. tells_last ts (simple limits d) _ from s1 at (at + 1) (IsChange x) y (tells_change_stat ts limits free long d r z s1)
          (λ s2. reads_bind ⊥ ts (expect m.Semicolon) _ at s2 (at + 1) (at + 1) end y (reads_expect ⊥ ts m.Semicolon end at s2 z) (λ s3. reads_pure ⊥ ts y (at + 1) s3))) seen
      tells_stat {x = x} (t.empty {at = at} {p = p} o) seen =
          tells_node x (record { kind = k.Mark m.Semicolon; place = p; bytes = o.bytes }) (Take (pure x)) o.is refl (λ s1. tells_reads (pure x) ts (at + 1) s1 x (at + 1) (reads_pure ⊥ ts x (at + 1) s1)) seen
      tells_stat {x = b} {from = from} {to = to} (t.if_alone {p = p} {x = x} {y = y} o r v n) seen =
          tells_node b (record { kind = k.Word w.If; place = p; bytes = o.bytes }) (Take (if_rest limits true d inner p)) o.is refl
          (λ s1. tells_if_alone p b r v (λ s2. reads_next ⊥ ts (λ t. else_by limits true d inner p x y (sees_word w.Else t)) to s2 b to (first (drop to ts)) (Leave (pure b)) refl
          (ap (else_by limits true d inner p x y) n.is) (λ s3. reads_pure ⊥ ts b to s3)) s1) seen
      tells_stat {x = b} {from = from} {to = to} (t.if_else {at = at} {p = p} {q = q} {x = x} {y = y} {z = z} o r v c e) seen =
          tells_node b (record { kind = k.Word w.If; place = p; bytes = o.bytes }) (Take (if_rest limits true d inner p)) o.is refl
          (λ s1. tells_if p b r v (λ s2. tells_next ts (λ t. else_by limits true d inner p x y (sees_word w.Else t)) at s2 b to (Some (record { kind = k.Word w.Else; place = q; bytes = c.bytes }))
          (Take (if_else limits true d inner p x y)) c.is refl (λ s3. tells_else p x y e s3)) s1) seen
      tells_stat {x = b} (t.for_loop {p = p} (a.end n) o h v) seen =
          tells_node b (record { kind = k.Word w.For; place = p; bytes = o.bytes }) (Take (for_rest limits true d inner [] p)) o.is refl (λ s1. tells_for [] p h v s1) seen
      tells_stat {x = b} (t.for_loop {p = p} {attributes = list} (a.more y l) o h v) seen =
          tells_loop b y (a.more y l) o (for_rest limits true d inner list p) (λ given. refl) (λ s1. tells_for list p h v s1) seen
      tells_stat {x = b} (t.while_loop {p = p} (a.end n) o r v) seen =
          tells_node b (record { kind = k.Word w.While; place = p; bytes = o.bytes }) (Take (while_rest limits true d inner [] p)) o.is refl (λ s1. tells_while [] p r v s1) seen
      tells_stat {x = b} (t.while_loop {p = p} {attributes = list} (a.more y l) o r v) seen =
          tells_loop b y (a.more y l) o (while_rest limits true d inner list p) (λ given. refl) (λ s1. tells_while list p r v s1) seen
      tells_stat {x = b} {from = from} (t.return_value {at = at} {p = p} {end = end} {x = x} o r z) seen =
          tells_node b (record { kind = k.Word w.Return; place = p; bytes = o.bytes }) (Take (return_rest limits true d inner p)) o.is refl
          (λ s1. tells_last ts (maybe limits d) _ (from + 1) s1 at (at + 1) x b (tells_maybe ts limits free long d r z s1)
          (λ s2. reads_bind ⊥ ts (expect m.Semicolon) _ at s2 (at + 1) (at + 1) end b (reads_expect ⊥ ts m.Semicolon end at s2 z) (λ s3. reads_pure ⊥ ts b (at + 1) s3))) seen
      tells_stat {x = b} {from = from} (t.break_loop {p = p} {end = end} o z) seen =
          tells_node b (record { kind = k.Word w.Break; place = p; bytes = o.bytes }) (Take (break_rest limits true d inner p)) o.is refl
          (λ s1. tells_reads (break_rest limits true d inner p) ts (from + 1) s1 b (from + 1 + 1)
          (reads_bind ⊥ ts (expect m.Semicolon) _ (from + 1) s1 (from + 1 + 1) (from + 1 + 1) end b (reads_expect ⊥ ts m.Semicolon end (from + 1) s1 z) (λ s2. reads_pure ⊥ ts b (from + 1 + 1) s2))) seen
      tells_stat {x = b} {from = from} (t.continue_loop {p = p} {end = end} o z) seen =
          tells_node b (record { kind = k.Word w.Continue; place = p; bytes = o.bytes }) (Take (continue_rest limits true d inner p)) o.is refl
          (λ s1. tells_reads (continue_rest limits true d inner p) ts (from + 1) s1 b (from + 1 + 1)
          (reads_bind ⊥ ts (expect m.Semicolon) _ (from + 1) s1 (from + 1 + 1) (from + 1 + 1) end b (reads_expect ⊥ ts m.Semicolon end (from + 1) s1 z) (λ s2. reads_pure ⊥ ts b (from + 1 + 1) s2))) seen

      tells_body : {x : Block} {from to : ℕ} → (s : BlockAt ts x from to) → (seen : ℕ) → Tells (block_breaks ts limits s (suc d)) (body limits true d inner) ts from seen x to
      unfolding body body_rest
      tells_body {x = x} {from = from} {to = to} (t.block {p = p} {end = end} {list = list} o r) seen =
          let tok : Lexed = record { kind = k.Mark m.OpenBrace; place = p; bytes = o.bytes } in
          tells_next ts (λ t. body_by limits true d inner t (sees m.OpenBrace t)) from seen x to (Some tok) (body_by limits true d inner (Some tok) true) o.is refl
          (λ s1. tells_last ts (stats limits true d inner) _ (from + 1) s1 to to (list, end) x (tells_stats r s1) (λ s2. reads_pure ⊥ ts x to s2))

    pub tells_statements : (d : ℕ) (x : StatTree) (from to : ℕ) → (s : StatAt ts x from to) → (seen : ℕ) → Tells (stat_breaks ts limits s d) (statements limits d) ts from seen x to
    unfolding statements
    tells_statements zero x from to v seen = tells_first (broken ts code.TooNested from) (stat_breaks ts limits v zero) (statements limits zero) ts from seen x to (stat_zero v) (tells_nothing v seen)
    tells_statements (suc d) x from to v seen = tells_stat d (statements limits d) (tells_statements d) v seen

    pub tells_blocks : (d : ℕ) (x : Block) (from to : ℕ) → (s : BlockAt ts x from to) → (seen : ℕ) → Tells (block_breaks ts limits s d) (blocks limits d) ts from seen x to
    unfolding blocks body
    tells_blocks zero x from to (t.block {p = p} o r) seen =
        let tok : Lexed = record { kind = k.Mark m.OpenBrace; place = p; bytes = o.bytes } in
        tells_next ts (λ t. body_by limits false zero no_statements t (sees m.OpenBrace t)) from seen x to (Some tok) (Pass code.TooNested p) o.is refl (refl, ap place_of (sym o.is))
    tells_blocks (suc d) x from to v seen = tells_body d (statements limits d) (tells_statements d) v seen
