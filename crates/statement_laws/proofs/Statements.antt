-- Statements and blocks: what is spelled is read, but where a limit is passed.
use Rattle.std.proofs.Common.{Bool, true, false, ◌≡◌, ℕ, zero, suc, ◌+◌, List, [], ◌∷◌, ◌++◌, drop, Option, Some, not, refl, ap, subst}
use Rattle.slang_names.specs.declared.places.Place.{Place}
use Rattle.slang_names.specs.declared.codes.ModuleCode.TheVariants as code
use Rattle.slang_tree.specs.declared.expressions.ExprTree.{ExprTree}
use Rattle.slang_tree.specs.declared.statements.Attribute.{Attribute}
use Rattle.slang_tree.specs.declared.statements.Change.{Change}
use Rattle.slang_tree.specs.declared.statements.LoopStart.{LoopStart}
use Rattle.slang_tree.specs.declared.statements.StatTree.{StatTree}
use Rattle.slang_tree.specs.declared.statements.StatNode.TheVariants as s
use Rattle.slang_tree.specs.declared.statements.Block.{Block}
use Rattle.slang_tokens.specs.declared.tokens.Kind.{Kind}
use Rattle.slang_tokens.specs.declared.tokens.Kind.TheVariants as k
use Rattle.slang_tokens.specs.declared.tokens.Mark.TheVariants as m
use Rattle.slang_tokens.specs.declared.tokens.Word.TheVariants as w
use Rattle.slang_reading.specs.Lexed.{Lexed}
use Rattle.slang_reading.specs.Reading.{Parser, Choice, Leave, Take, first, pure, next, turns}
use Rattle.slang_reading.specs.Kinds.{sees, sees_word, span}
use Rattle.slang_reading.proofs.Exact.{Reads, ReadsChoice, reads_pure, reads_bind, reads_next, reads_fits, reads_turns_end, reads_turns_more, reads_turns_full}
use Rattle.slang_grammar.specs.Standing.{Stands}
use Rattle.slang_grammar.specs.Descent.{Limits, expect}
use Rattle.slang_grammar.proofs.Shared.{reads_expect, is_there}
use Rattle.statement_grammar.specs.declared.tables.StatementUse.{StatementUse}
use Rattle.statement_grammar.specs.declared.tables.StatementUse.TheVariants as u
use Rattle.statement_grammar.specs.Tables.{statement_use}
use Rattle.statement_grammar.specs.Attributes as a
use Rattle.statement_grammar.specs.Attributes.{AttributeAt, AttributesAt, begin_of}
use Rattle.statement_grammar.specs.AttributesDescent.{Given, attributes, loops}
use Rattle.statement_grammar.specs.Statements as t
use Rattle.statement_grammar.specs.Statements.{ConditionAt, HeadAt, MaybeAt, stated, StatAt, StatsAt, BlockAt}
use Rattle.statement_grammar.specs.StatementsDescent.{IsLocal, IsChange, simple, maybe, condition, head, stat_more, in_block, stats, block_rest, simple_stat, if_else, else_by, if_rest, for_rest, while_rest, loop_at, loop_rest, return_rest, break_rest, continue_rest, node, stat_as, stat_at, stat, body_rest, body_by, body, no_statements, statements, blocks}
use Rattle.statement_grammar.proofs.AttributesRead.{notes, reads_attributes}
use Rattle.statement_laws.proofs.Parts.{Starts, starts_not, type_starts, local_starts, change_begins, reads_local_stat, reads_change_stat, reads_maybe, reads_condition, reads_head}

-- ---- what begins a statement

attribute_starts : {ts : List Lexed} {x : Attribute} {from to : ℕ} → AttributeAt ts x from to → Starts ts from u.Attributes
attribute_starts (a.named {p = p} o i r) = record { tok = record { kind = k.Mark m.OpenBracket; place = p; bytes = o.bytes }; is = o.is; serves = refl }
attribute_starts (a.binding {p = p} o q b) = record { tok = record { kind = k.Mark m.OpenBracket; place = p; bytes = o.bytes }; is = o.is; serves = refl }

stands_starts : {ts : List Lexed} {kind : Kind} {p : Place} {at : ℕ} → Stands ts at kind p → Starts ts at (statement_use kind)
stands_starts {kind = kind} {p = p} s = record { tok = record { kind = kind; place = p; bytes = s.bytes }; is = s.is; serves = refl }

-- a closing brace begins no statement
open_starts : {ts : List Lexed} {use_ : StatementUse} {from : ℕ} → Starts ts from use_ → (u.Nothing ≡ use_ → ⊥) → sees m.CloseBrace (first (drop from ts)) ≡ false
open_starts s n = starts_not m.CloseBrace s n

stat_open : {ts : List Lexed} {x : StatTree} {from to : ℕ} → StatAt ts x from to → sees m.CloseBrace (first (drop from ts)) ≡ false
stat_open (t.block o r) = open_starts (stands_starts o) (λ q. cc)
stat_open (t.local r z) = open_starts (local_starts r) (λ q. cc)
stat_open (t.change r z) = open_starts (type_starts (change_begins r)) (λ q. cc)
stat_open (t.empty o) = open_starts (stands_starts o) (λ q. cc)
stat_open (t.if_alone o r v n) = open_starts (stands_starts o) (λ q. cc)
stat_open (t.if_else o r v w c) = open_starts (stands_starts o) (λ q. cc)
stat_open (t.for_loop (a.end n) o r v) = open_starts (stands_starts o) (λ q. cc)
stat_open (t.for_loop (a.more x l) o r v) = open_starts (attribute_starts x) (λ q. cc)
stat_open (t.while_loop (a.end n) o r v) = open_starts (stands_starts o) (λ q. cc)
stat_open (t.while_loop (a.more x l) o r v) = open_starts (attribute_starts x) (λ q. cc)
stat_open (t.return_value o r z) = open_starts (stands_starts o) (λ q. cc)
stat_open (t.break_loop o z) = open_starts (stands_starts o) (λ q. cc)
stat_open (t.continue_loop o z) = open_starts (stands_starts o) (λ q. cc)

-- E holds, and any limit may be passed
module _ (E : Type 0) (e : E) (ts : List Lexed) (limits : Limits) where
  -- inner reads what is spelled
  module _ (room : Bool) (d : ℕ) (inner : Parser StatTree) (hs : (x : StatTree) (from to : ℕ) → StatAt ts x from to → (seen : ℕ) → Reads E inner ts from seen x to) where
    -- ---- what stands between braces

    reads_one : (list : List StatTree) {x : StatTree} {from to : ℕ} → StatAt ts x from to → (seen : ℕ) → Reads E (stat_more limits room d inner list) ts from seen (list ++ x ∷ []) to
    unfolding stat_more
    reads_one list {x = x} {from = from} {to = to} v seen = reads_bind E ts inner _ from seen to to x (list ++ x ∷ []) (hs _ _ _ v seen) (λ s1. reads_pure E ts (list ++ x ∷ []) to s1)

    -- the statements up to a closing brace, and where it stands
    record Ends (list all : List StatTree) (p : Place) (from to : ℕ) : Type 0 where
      mid : ℕ
      is : mid + 1 ≡ to
      brace : Stands ts mid (k.Mark m.CloseBrace) p
      reads : (count seen : ℕ) → Reads E (turns (in_block limits room d inner) (stat_more limits room d inner) count list) ts from seen all mid

    reads_rest : (list all : List StatTree) {x : StatTree} {from mid : ℕ} (last : ℕ) → StatAt ts x from mid →
        ((count seen : ℕ) → Reads E (turns (in_block limits room d inner) (stat_more limits room d inner) count (list ++ x ∷ [])) ts mid seen all last) → (count seen : ℕ) →
        Reads E (turns (in_block limits room d inner) (stat_more limits room d inner) count list) ts from seen all last
    reads_rest list all {from = from} last v r zero seen = reads_turns_full E ts (in_block limits room d inner) (stat_more limits room d inner) list all from seen last (ap not (stat_open v)) e
    reads_rest list all {x = x} {from = from} {mid = mid} last v r (suc count) seen =
        reads_turns_more E ts (in_block limits room d inner) (stat_more limits room d inner) count list (list ++ x ∷ []) all from seen mid last (ap not (stat_open v)) (λ s1. reads_one list v s1) (λ s1. r count s1)

    reads_list : {list all : List StatTree} {p : Place} {from to : ℕ} → StatsAt ts list all p from to → Ends list all p from to
    reads_list {list = list} {p = p} (t.end {at = at} c) = record {
      mid = at;
      is = refl;
      brace = c;
      reads = λ count seen. reads_turns_end E ts (in_block limits room d inner) (stat_more limits room d inner) count list at seen (ap not (is_there ts m.CloseBrace at p c));
    }
    reads_list {list = list} {all = all} (t.more v r) =
        let after = reads_list r in
        record { mid = after.mid; is = after.is; brace = after.brace; reads = reads_rest list all after.mid v after.reads }

    reads_stats : {all : List StatTree} {p : Place} {from to : ℕ} → StatsAt ts [] all p from to → (seen : ℕ) → Reads E (stats limits room d inner) ts from seen (all, p) to
    unfolding stats
    reads_stats {all = all} {p = p} {from = from} {to = to} r seen =
        let q = reads_list r in
        let b : List StatTree × Place = (all, p) in
        subst (Reads E (stats limits room d inner) ts from seen b) q.is
        (reads_bind E ts (turns (in_block limits room d inner) (stat_more limits room d inner) limits.turns []) _ from seen q.mid (q.mid + 1) all b (q.reads limits.turns seen)
        (λ s1. reads_bind E ts (expect m.CloseBrace) _ q.mid s1 (q.mid + 1) (q.mid + 1) p b (reads_expect E ts m.CloseBrace p q.mid s1 q.brace) (λ s2. reads_pure E ts b (q.mid + 1) s2)))

    -- ---- behind the word of a statement

    reads_else : (begin : Place) (x : ExprTree) (y : StatTree) {z : StatTree} {from to : ℕ} → StatAt ts z from to → (seen : ℕ) →
        Reads E (if_else limits room d inner begin x y) ts from seen (stated (span begin z.place) (s.IfElse x y z)) to
    unfolding if_else
    reads_else begin x y {z = z} {from = from} {to = to} v seen = let b = stated (span begin z.place) (s.IfElse x y z) in
        reads_bind E ts inner _ from seen to to z b (hs _ _ _ v seen) (λ s1. reads_pure E ts b to s1)

    -- an `if`, to before what may be its `else`
    reads_if : (begin : Place) {x : ExprTree} {y : StatTree} {from mid at to : ℕ} (b : StatTree) → ConditionAt ts x from mid → StatAt ts y mid at →
        ((s1 : ℕ) → Reads E (next (λ t. else_by limits room d inner begin x y (sees_word w.Else t))) ts at s1 b to) → (seen : ℕ) → Reads E (if_rest limits room d inner begin) ts from seen b to
    unfolding if_rest
    reads_if begin {x = x} {y = y} {from = from} {mid = mid} {at = at} {to = to} b r v f seen =
        reads_bind E ts (condition limits d) _ from seen mid to x b (reads_condition E e ts limits d r seen)
        (λ s1. reads_bind E ts inner _ mid s1 at to y b (hs _ _ _ v s1) f)

    reads_for : (list : List Attribute) (begin : Place) {start : LoopStart} {x : Option ExprTree} {step : Option Change} {y : StatTree} {from mid to : ℕ} → HeadAt ts start x step from mid → StatAt ts y mid to → (seen : ℕ) →
        Reads E (for_rest limits room d inner list begin) ts from seen (stated (span (begin_of list begin) y.place) (s.For list start x step y)) to
    unfolding for_rest
    reads_for list begin {start = start} {x = x} {step = step} {y = y} {from = from} {mid = mid} {to = to} h v seen =
        let b = stated (span (begin_of list begin) y.place) (s.For list start x step y) in
        reads_bind E ts (head limits d) _ from seen mid to (start, x, step) b (reads_head E e ts limits d h seen)
        (λ s1. reads_bind E ts inner _ mid s1 to to y b (hs _ _ _ v s1) (λ s2. reads_pure E ts b to s2))

    reads_while : (list : List Attribute) (begin : Place) {x : ExprTree} {y : StatTree} {from mid to : ℕ} → ConditionAt ts x from mid → StatAt ts y mid to → (seen : ℕ) →
        Reads E (while_rest limits room d inner list begin) ts from seen (stated (span (begin_of list begin) y.place) (s.While list x y)) to
    unfolding while_rest
    reads_while list begin {x = x} {y = y} {from = from} {mid = mid} {to = to} r v seen =
        let b = stated (span (begin_of list begin) y.place) (s.While list x y) in
        reads_bind E ts (condition limits d) _ from seen mid to x b (reads_condition E e ts limits d r seen)
        (λ s1. reads_bind E ts inner _ mid s1 to to y b (hs _ _ _ v s1) (λ s2. reads_pure E ts b to s2))

    -- ---- statements

    -- a statement that begins with that token
    reads_node : (x : StatTree) {from to : ℕ} (tok : Lexed) (c : Choice StatTree) → first (drop from ts) ≡ Some tok → stat_at limits room d inner (Some tok) ≡ node limits room d inner tok c →
        ReadsChoice E ts from x to (Some tok) c → (seen : ℕ) → Reads E (stat limits room d inner) ts from seen x to
    unfolding stat
    reads_node x {from = from} {to = to} tok c i q h seen = reads_next E ts (stat_at limits room d inner) from seen x to (Some tok) (node limits room d inner tok c) i q (reads_fits E ts from x to (Some tok) room code.TooNested c (λ f. e) h)

    -- a loop with attributes
    reads_loop : (x : StatTree) {list : List Attribute} {p : Place} {kind : Kind} {y : Attribute} {from first_ mid to : ℕ} → AttributeAt ts y from first_ → (l : AttributesAt ts [] list from mid) → (o : Stands ts mid kind p) (c : Parser StatTree) →
        loop_at limits room d inner (list, notes E e ts limits loops l []) (Some (record { kind = kind; place = p; bytes = o.bytes })) ≡ Take c → ((s1 : ℕ) → Reads E c ts (mid + 1) s1 x to) → (seen : ℕ) → Reads E (stat limits room d inner) ts from seen x to
    unfolding loop_rest
    reads_loop x {list = list} {p = p} {kind = kind} {from = from} {mid = mid} {to = to} y l o c q h seen =
        let b = attribute_starts y in
        let g : Given = (list, notes E e ts limits loops l []) in
        reads_node x b.tok (Leave (loop_rest limits room d inner)) b.is (ap (stat_as limits room d inner b.tok) b.serves)
        (λ s1. reads_bind E ts (attributes limits loops) _ from s1 mid to g x (reads_attributes E e ts limits loops l s1)
        (λ s2. reads_next E ts (loop_at limits room d inner g) mid s2 x to (Some (record { kind = kind; place = p; bytes = o.bytes })) (Take c) o.is q h)) seen

    pub reads_stat : {x : StatTree} {from to : ℕ} → StatAt ts x from to → (seen : ℕ) → Reads E (stat limits room d inner) ts from seen x to
    unfolding block_rest simple_stat return_rest break_rest continue_rest
    reads_stat {x = x} {from = from} {to = to} (t.block {p = p} {end = end} {list = list} o r) seen =
        reads_node x (record { kind = k.Mark m.OpenBrace; place = p; bytes = o.bytes }) (Take (block_rest limits room d inner p)) o.is refl
        (λ s1. reads_bind E ts (stats limits room d inner) _ (from + 1) s1 to to (list, end) x (reads_stats r s1) (λ s2. reads_pure E ts x to s2)) seen
    reads_stat {x = y} {from = from} (t.local {at = at} {end = end} {x = x} r z) seen =
        let b = local_starts r in
        reads_node y b.tok (Leave (simple_stat limits room d inner)) b.is (ap (stat_as limits room d inner b.tok) b.serves)
        (λ s1. reads_bind E ts (simple limits d) _ from s1 at (at + 1) (IsLocal x) y (reads_local_stat E e ts limits d r z s1)
        (λ s2. reads_bind E ts (expect m.Semicolon) _ at s2 (at + 1) (at + 1) end y (reads_expect E ts m.Semicolon end at s2 z) (λ s3. reads_pure E ts y (at + 1) s3))) seen
    reads_stat {x = y} {from = from} (t.change {at = at} {end = end} {x = x} r z) seen =
        let b = type_starts (change_begins r) in
        reads_node y b.tok (Leave (simple_stat limits room d inner)) b.is (ap (stat_as limits room d inner b.tok) b.serves)
        (λ s1. reads_bind E ts (simple limits d) _ from s1 at (at + 1) (IsChange x) y (reads_change_stat E e ts limits d r z s1)
        (λ s2. reads_bind E ts (expect m.Semicolon) _ at s2 (at + 1) (at + 1) end y (reads_expect E ts m.Semicolon end at s2 z) (λ s3. reads_pure E ts y (at + 1) s3))) seen
    reads_stat {x = x} (t.empty {at = at} {p = p} o) seen =
        reads_node x (record { kind = k.Mark m.Semicolon; place = p; bytes = o.bytes }) (Take (pure x)) o.is refl (λ s1. reads_pure E ts x (at + 1) s1) seen
    reads_stat {x = b} {from = from} {to = to} (t.if_alone {p = p} {x = x} {y = y} o r v n) seen =
        reads_node b (record { kind = k.Word w.If; place = p; bytes = o.bytes }) (Take (if_rest limits room d inner p)) o.is refl
        (λ s1. reads_if p b r v (λ s2. reads_next E ts (λ t. else_by limits room d inner p x y (sees_word w.Else t)) to s2 b to (first (drop to ts)) (Leave (pure b)) refl
        (ap (else_by limits room d inner p x y) n.is) (λ s3. reads_pure E ts b to s3)) s1) seen
    reads_stat {x = b} {from = from} {to = to} (t.if_else {at = at} {p = p} {q = q} {x = x} {y = y} {z = z} o r v c u) seen =
        reads_node b (record { kind = k.Word w.If; place = p; bytes = o.bytes }) (Take (if_rest limits room d inner p)) o.is refl
        (λ s1. reads_if p b r v (λ s2. reads_next E ts (λ t. else_by limits room d inner p x y (sees_word w.Else t)) at s2 b to (Some (record { kind = k.Word w.Else; place = q; bytes = c.bytes }))
        (Take (if_else limits room d inner p x y)) c.is refl (λ s3. reads_else p x y u s3)) s1) seen
    reads_stat {x = b} (t.for_loop {p = p} (a.end n) o h v) seen =
        reads_node b (record { kind = k.Word w.For; place = p; bytes = o.bytes }) (Take (for_rest limits room d inner [] p)) o.is refl (λ s1. reads_for [] p h v s1) seen
    reads_stat {x = b} (t.for_loop {p = p} {attributes = list} (a.more y l) o h v) seen = reads_loop b y (a.more y l) o (for_rest limits room d inner list p) refl (λ s1. reads_for list p h v s1) seen
    reads_stat {x = b} (t.while_loop {p = p} (a.end n) o r v) seen =
        reads_node b (record { kind = k.Word w.While; place = p; bytes = o.bytes }) (Take (while_rest limits room d inner [] p)) o.is refl (λ s1. reads_while [] p r v s1) seen
    reads_stat {x = b} (t.while_loop {p = p} {attributes = list} (a.more y l) o r v) seen = reads_loop b y (a.more y l) o (while_rest limits room d inner list p) refl (λ s1. reads_while list p r v s1) seen
    reads_stat {x = b} {from = from} (t.return_value {at = at} {p = p} {end = end} {x = x} o r z) seen =
        reads_node b (record { kind = k.Word w.Return; place = p; bytes = o.bytes }) (Take (return_rest limits room d inner p)) o.is refl
        (λ s1. reads_bind E ts (maybe limits d) _ (from + 1) s1 at (at + 1) x b (reads_maybe E e ts limits d r z s1)
        (λ s2. reads_bind E ts (expect m.Semicolon) _ at s2 (at + 1) (at + 1) end b (reads_expect E ts m.Semicolon end at s2 z) (λ s3. reads_pure E ts b (at + 1) s3))) seen
    reads_stat {x = b} {from = from} (t.break_loop {p = p} {end = end} o z) seen =
        reads_node b (record { kind = k.Word w.Break; place = p; bytes = o.bytes }) (Take (break_rest limits room d inner p)) o.is refl
        (λ s1. reads_bind E ts (expect m.Semicolon) _ (from + 1) s1 (from + 1 + 1) (from + 1 + 1) end b (reads_expect E ts m.Semicolon end (from + 1) s1 z) (λ s2. reads_pure E ts b (from + 1 + 1) s2)) seen
    reads_stat {x = b} {from = from} (t.continue_loop {p = p} {end = end} o z) seen =
        reads_node b (record { kind = k.Word w.Continue; place = p; bytes = o.bytes }) (Take (continue_rest limits room d inner p)) o.is refl
        (λ s1. reads_bind E ts (expect m.Semicolon) _ (from + 1) s1 (from + 1 + 1) (from + 1 + 1) end b (reads_expect E ts m.Semicolon end (from + 1) s1 z) (λ s2. reads_pure E ts b (from + 1 + 1) s2)) seen

    pub reads_body : {x : Block} {from to : ℕ} → BlockAt ts x from to → (seen : ℕ) → Reads E (body limits room d inner) ts from seen x to
    unfolding body body_rest
    reads_body {x = x} {from = from} {to = to} (t.block {p = p} {end = end} {list = list} o r) seen =
        let tok : Lexed = record { kind = k.Mark m.OpenBrace; place = p; bytes = o.bytes } in
        reads_next E ts (λ t. body_by limits room d inner t (sees m.OpenBrace t)) from seen x to (Some tok) (body_by limits room d inner (Some tok) true) o.is refl
        (reads_fits E ts from x to (Some tok) room code.TooNested (Take (body_rest limits room d inner p)) (λ f. e)
        (λ s1. reads_bind E ts (stats limits room d inner) _ (from + 1) s1 to to (list, end) x (reads_stats r s1) (λ s2. reads_pure E ts x to s2)))

  reads_nothing : (x : StatTree) (from to : ℕ) → StatAt ts x from to → (seen : ℕ) → Reads E no_statements ts from seen x to
  reads_nothing x from to r seen = record { is = e }

  pub reads_statements : (d : ℕ) (x : StatTree) (from to : ℕ) → StatAt ts x from to → (seen : ℕ) → Reads E (statements limits d) ts from seen x to
  unfolding statements
  reads_statements zero x from to r seen = reads_stat false zero no_statements reads_nothing r seen
  reads_statements (suc d) x from to r seen = reads_stat true d (statements limits d) (reads_statements d) r seen

  pub reads_blocks : (d : ℕ) (x : Block) (from to : ℕ) → BlockAt ts x from to → (seen : ℕ) → Reads E (blocks limits d) ts from seen x to
  unfolding blocks
  reads_blocks zero x from to r seen = reads_body false zero no_statements reads_nothing r seen
  reads_blocks (suc d) x from to r seen = reads_body true d (statements limits d) (reads_statements d) r seen
