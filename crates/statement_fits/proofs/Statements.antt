-- Statements and blocks: what is spelled within the limits is read.
use Rattle.std.proofs.Common.{◌||◌, true, false, ◌≡◌, ℕ, zero, suc, ◌+◌, List, [], ◌∷◌, ◌++◌, drop, Option, Some, not, refl, ap, subst, arith}
use Rattle.slang_names.specs.declared.places.Place.{Place}
use Rattle.slang_tree.specs.declared.expressions.ExprTree.{ExprTree}
use Rattle.slang_tree.specs.declared.statements.Attribute.{Attribute}
use Rattle.slang_tree.specs.declared.statements.Change.{Change}
use Rattle.slang_tree.specs.declared.statements.LoopStart.{LoopStart}
use Rattle.slang_tree.specs.declared.statements.StatTree.{StatTree}
use Rattle.slang_tree.specs.declared.statements.StatNode.TheVariants as s
use Rattle.slang_tree.specs.declared.statements.Block.{Block}
use Rattle.slang_tokens.specs.declared.tokens.Kind.{Kind}
use Rattle.slang_tokens.specs.declared.tokens.Kind.TheVariants as k
use Rattle.slang_tokens.specs.declared.tokens.Mark.TheVariants as m
use Rattle.slang_tokens.specs.declared.tokens.Word.TheVariants as w
use Rattle.slang_reading.specs.Lexed.{Lexed}
use Rattle.slang_reading.specs.Reading.{Parser, Choice, Leave, Take, first, pure, next, turns}
use Rattle.slang_reading.specs.Kinds.{sees, sees_word, span}
use Rattle.slang_reading.proofs.Exact.{Reads, ReadsChoice, reads_pure, reads_bind, reads_next, reads_turns_end, reads_turns_more, reads_turns_full}
use Rattle.slang_grammar.specs.Standing.{Stands}
use Rattle.slang_grammar.specs.Descent.{Limits, expect}
use Rattle.slang_grammar.proofs.Shared.{reads_expect, is_there}
use Rattle.statement_grammar.specs.declared.tables.StatementUse.{StatementUse}
use Rattle.statement_grammar.specs.declared.tables.StatementUse.TheVariants as u
use Rattle.statement_grammar.specs.Tables.{statement_use}
use Rattle.statement_grammar.specs.Attributes as a
use Rattle.statement_grammar.specs.Attributes.{AttributeAt, AttributesAt, begin_of}
use Rattle.statement_grammar.specs.AttributesDescent.{Given, Noted, attributes, loops}
use Rattle.statement_grammar.specs.Statements as t
use Rattle.statement_grammar.specs.Statements.{ConditionAt, HeadAt, MaybeAt, stated, StatAt, StatsAt, BlockAt}
use Rattle.statement_grammar.specs.StatementsDescent.{IsLocal, IsChange, simple, maybe, condition, head, stat_more, in_block, stats, block_rest, simple_stat, if_else, else_by, if_rest, for_rest, while_rest, loop_at, loop_rest, return_rest, break_rest, continue_rest, node, stat_as, stat_at, stat, body_rest, body_by, body, statements, blocks}
use Rattle.expression_grammar.specs.Sizes.{Fits}
use Rattle.statement_grammar.specs.declared.attributes.Target.TheVariants as target
use Rattle.statement_grammar.specs.AttributeRules.{obeys}
use Rattle.statement_laws.proofs.Parts.{Starts, starts_not, type_starts, local_starts, change_begins}
use Rattle.statement_fits.specs.Sizes.{in_attributes, in_head, Keeps, StatFits, BlockFits}
use Rattle.statement_fits.proofs.Moves.{Enough, fewer, Left, left_all, left_next, left_none, stat_moves}
use Rattle.statement_fits.proofs.Fitting.{value_fits}
use Rattle.statement_fits.proofs.Nodes.{stat_positive, StatsFit, stats_last, stats_fit, block_fits, in_block_fits, local_fits, change_fits, return_fits, if_fits, else_fits, for_fits, while_fits}
use Rattle.statement_fits.proofs.Attributes.{attributes_read, before_loops}
use Rattle.statement_fits.proofs.Parts.{reads_local_stat, reads_change_stat, reads_maybe, reads_condition, reads_head}

-- ---- what begins a statement

attribute_starts : {ts : List Lexed} {x : Attribute} {from to : ℕ} → AttributeAt ts x from to → Starts ts from u.Attributes
attribute_starts (a.named {p = p} o i r) = record { tok = record { kind = k.Mark m.OpenBracket; place = p; bytes = o.bytes }; is = o.is; serves = refl }
attribute_starts (a.binding {p = p} o q b) = record { tok = record { kind = k.Mark m.OpenBracket; place = p; bytes = o.bytes }; is = o.is; serves = refl }

stands_starts : {ts : List Lexed} {kind : Kind} {p : Place} {at : ℕ} → Stands ts at kind p → Starts ts at (statement_use kind)
stands_starts {kind = kind} {p = p} s = record { tok = record { kind = kind; place = p; bytes = s.bytes }; is = s.is; serves = refl }

-- the token with which a statement begins, which is no closing brace
record Begun (ts : List Lexed) (at : ℕ) : Type 0 where
  use_ : StatementUse
  starts : Starts ts at use_
  open_ : u.Nothing ≡ use_ → ⊥

begun : {ts : List Lexed} {at : ℕ} (use_ : StatementUse) → Starts ts at use_ → (u.Nothing ≡ use_ → ⊥) → Begun ts at
begun use_ b n = record { use_ = use_; starts = b; open_ = n }

stat_begins : {ts : List Lexed} {x : StatTree} {from to : ℕ} → StatAt ts x from to → Begun ts from
stat_begins (t.block o r) = begun u.Block (stands_starts o) (λ q. cc)
stat_begins (t.local r z) = begun u.Simple (local_starts r) (λ q. cc)
stat_begins (t.change r z) = begun u.Simple (type_starts (change_begins r)) (λ q. cc)
stat_begins (t.empty o) = begun u.Empty (stands_starts o) (λ q. cc)
stat_begins (t.if_alone o r v n) = begun u.If (stands_starts o) (λ q. cc)
stat_begins (t.if_else o r v w c) = begun u.If (stands_starts o) (λ q. cc)
stat_begins (t.for_loop (a.end n) o r v) = begun u.For (stands_starts o) (λ q. cc)
stat_begins (t.for_loop (a.more x l) o r v) = begun u.Attributes (attribute_starts x) (λ q. cc)
stat_begins (t.while_loop (a.end n) o r v) = begun u.While (stands_starts o) (λ q. cc)
stat_begins (t.while_loop (a.more x l) o r v) = begun u.Attributes (attribute_starts x) (λ q. cc)
stat_begins (t.return_value o r z) = begun u.Return (stands_starts o) (λ q. cc)
stat_begins (t.break_loop o z) = begun u.Break (stands_starts o) (λ q. cc)
stat_begins (t.continue_loop o z) = begun u.Continue (stands_starts o) (λ q. cc)

stat_open : {ts : List Lexed} {x : StatTree} {from to : ℕ} → StatAt ts x from to → sees m.CloseBrace (first (drop from ts)) ≡ false
stat_open v = let b = stat_begins v in starts_not m.CloseBrace b.starts b.open_

module _ (ts : List Lexed) (limits : Limits) where
  -- inner reads what is spelled within the limits
  module _ (d : ℕ) (enough : Enough ts limits d) (inner : Parser StatTree) (hs : (x : StatTree) (from to : ℕ) → StatAt ts x from to → StatFits limits d x → (seen : ℕ) → Reads ⊥ inner ts from seen x to) where
    -- ---- what stands between braces

    reads_one : (list : List StatTree) {x : StatTree} {from to : ℕ} → StatAt ts x from to → StatFits limits d x → (seen : ℕ) → Reads ⊥ (stat_more limits true d inner list) ts from seen (list ++ x ∷ []) to
    unfolding stat_more
    reads_one list {x = x} {from = from} {to = to} v f seen = reads_bind ⊥ ts inner _ from seen to to x (list ++ x ∷ []) (hs _ _ _ v f seen) (λ s1. reads_pure ⊥ ts (list ++ x ∷ []) to s1)

    -- the statements up to a closing brace, and where it stands
    record Ends (list all : List StatTree) (p : Place) (from to : ℕ) : Type 0 where
      mid : ℕ
      is : mid + 1 ≡ to
      brace : Stands ts mid (k.Mark m.CloseBrace) p
      reads : (count seen : ℕ) → Left ts count from → Reads ⊥ (turns (in_block limits true d inner) (stat_more limits true d inner) count list) ts from seen all mid

    reads_rest : (list all : List StatTree) {x : StatTree} {from mid : ℕ} (last : ℕ) → StatAt ts x from mid → StatFits limits d x →
        ((count seen : ℕ) → Left ts count mid → Reads ⊥ (turns (in_block limits true d inner) (stat_more limits true d inner) count (list ++ x ∷ [])) ts mid seen all last) → (count seen : ℕ) → Left ts count from →
        Reads ⊥ (turns (in_block limits true d inner) (stat_more limits true d inner) count list) ts from seen all last
    reads_rest list all {from = from} last v f r zero seen l = reads_turns_full ⊥ ts (in_block limits true d inner) (stat_more limits true d inner) list all from seen last (ap not (stat_open v)) (let b = stat_begins v in left_none ts from b.starts.tok b.starts.is l)
    reads_rest list all {x = x} {from = from} {mid = mid} last v f r (suc count) seen l =
        reads_turns_more ⊥ ts (in_block limits true d inner) (stat_more limits true d inner) count list (list ++ x ∷ []) all from seen mid last (ap not (stat_open v)) (λ s1. reads_one list v f s1) (λ s1. r count s1 (left_next ts count from mid (stat_moves ts v) l))

    reads_list : {list all : List StatTree} {p : Place} {from to : ℕ} → StatsAt ts list all p from to → StatsFit limits d all → Ends list all p from to
    reads_list {list = list} {p = p} (t.end {at = at} c) f = record {
      mid = at;
      is = refl;
      brace = c;
      reads = λ count seen l. reads_turns_end ⊥ ts (in_block limits true d inner) (stat_more limits true d inner) count list at seen (ap not (is_there ts m.CloseBrace at p c));
    }
    reads_list {list = list} {all = all} (t.more {x = x} v r) f =
        let after = reads_list r f in
        let here = stats_last limits d list x (stats_fit limits d r f) in
        record { mid = after.mid; is = after.is; brace = after.brace; reads = reads_rest list all after.mid v here after.reads }

    reads_stats : {all : List StatTree} {p : Place} {from to : ℕ} → StatsAt ts [] all p from to → StatsFit limits d all → (seen : ℕ) → Reads ⊥ (stats limits true d inner) ts from seen (all, p) to
    unfolding stats
    reads_stats {all = all} {p = p} {from = from} {to = to} r f seen =
        let q = reads_list r f in
        let b : List StatTree × Place = (all, p) in
        subst (Reads ⊥ (stats limits true d inner) ts from seen b) q.is
        (reads_bind ⊥ ts (turns (in_block limits true d inner) (stat_more limits true d inner) limits.turns []) _ from seen q.mid (q.mid + 1) all b (q.reads limits.turns seen (left_all enough from))
        (λ s1. reads_bind ⊥ ts (expect m.CloseBrace) _ q.mid s1 (q.mid + 1) (q.mid + 1) p b (reads_expect ⊥ ts m.CloseBrace p q.mid s1 q.brace) (λ s2. reads_pure ⊥ ts b (q.mid + 1) s2)))

    -- ---- behind the word of a statement

    reads_else : (begin : Place) (x : ExprTree) (y : StatTree) {z : StatTree} {from to : ℕ} → StatAt ts z from to → StatFits limits d z → (seen : ℕ) →
        Reads ⊥ (if_else limits true d inner begin x y) ts from seen (stated (span begin z.place) (s.IfElse x y z)) to
    unfolding if_else
    reads_else begin x y {z = z} {from = from} {to = to} v f seen = let b = stated (span begin z.place) (s.IfElse x y z) in
        reads_bind ⊥ ts inner _ from seen to to z b (hs _ _ _ v f seen) (λ s1. reads_pure ⊥ ts b to s1)

    -- an `if`, to before what may be its `else`
    reads_if : (begin : Place) {x : ExprTree} {y : StatTree} {from mid at to : ℕ} (b : StatTree) → ConditionAt ts x from mid → StatAt ts y mid at → Fits limits d x → StatFits limits d y →
        ((s1 : ℕ) → Reads ⊥ (next (λ t. else_by limits true d inner begin x y (sees_word w.Else t))) ts at s1 b to) → (seen : ℕ) → Reads ⊥ (if_rest limits true d inner begin) ts from seen b to
    unfolding if_rest
    reads_if begin {x = x} {y = y} {from = from} {mid = mid} {at = at} {to = to} b r v fx fy f seen =
        reads_bind ⊥ ts (condition limits d) _ from seen mid to x b (reads_condition ts limits d enough r fx seen)
        (λ s1. reads_bind ⊥ ts inner _ mid s1 at to y b (hs _ _ _ v fy s1) f)

    reads_for : (list : List Attribute) (begin : Place) {start : LoopStart} {x : Option ExprTree} {step : Option Change} {y : StatTree} {from mid to : ℕ} → HeadAt ts start x step from mid → StatAt ts y mid to → Keeps limits d (λ count. in_head count start x step) → StatFits limits d y → (seen : ℕ) →
        Reads ⊥ (for_rest limits true d inner list begin) ts from seen (stated (span (begin_of list begin) y.place) (s.For list start x step y)) to
    unfolding for_rest
    reads_for list begin {start = start} {x = x} {step = step} {y = y} {from = from} {mid = mid} {to = to} h v fx fy seen =
        let b = stated (span (begin_of list begin) y.place) (s.For list start x step y) in
        reads_bind ⊥ ts (head limits d) _ from seen mid to (start, x, step) b (reads_head ts limits d enough h fx seen)
        (λ s1. reads_bind ⊥ ts inner _ mid s1 to to y b (hs _ _ _ v fy s1) (λ s2. reads_pure ⊥ ts b to s2))

    reads_while : (list : List Attribute) (begin : Place) {x : ExprTree} {y : StatTree} {from mid to : ℕ} → ConditionAt ts x from mid → StatAt ts y mid to → Fits limits d x → StatFits limits d y → (seen : ℕ) →
        Reads ⊥ (while_rest limits true d inner list begin) ts from seen (stated (span (begin_of list begin) y.place) (s.While list x y)) to
    unfolding while_rest
    reads_while list begin {x = x} {y = y} {from = from} {mid = mid} {to = to} r v fx fy seen =
        let b = stated (span (begin_of list begin) y.place) (s.While list x y) in
        reads_bind ⊥ ts (condition limits d) _ from seen mid to x b (reads_condition ts limits d enough r fx seen)
        (λ s1. reads_bind ⊥ ts inner _ mid s1 to to y b (hs _ _ _ v fy s1) (λ s2. reads_pure ⊥ ts b to s2))

    -- ---- statements

    -- a statement that begins with that token
    reads_node : (x : StatTree) {from to : ℕ} (tok : Lexed) (c : Choice StatTree) → first (drop from ts) ≡ Some tok → stat_at limits true d inner (Some tok) ≡ node limits true d inner tok c →
        ReadsChoice ⊥ ts from x to (Some tok) c → (seen : ℕ) → Reads ⊥ (stat limits true d inner) ts from seen x to
    unfolding stat
    reads_node x {from = from} {to = to} tok c i q h seen = reads_next ⊥ ts (stat_at limits true d inner) from seen x to (Some tok) (node limits true d inner tok c) i q h

    -- a loop with attributes
    reads_loop : (x : StatTree) {list : List Attribute} {p : Place} {kind : Kind} {y : Attribute} {from first_ mid to : ℕ} → AttributeAt ts y from first_ → (l : AttributesAt ts [] list from mid) → (o : Stands ts mid kind p) (c : Parser StatTree) → (limits.free || obeys target.Loop list) ≡ true → Keeps limits d (λ count. in_attributes count list) →
        ((given : Noted) → loop_at limits true d inner (list, given) (Some (record { kind = kind; place = p; bytes = o.bytes })) ≡ Take c) → ((s1 : ℕ) → Reads ⊥ c ts (mid + 1) s1 x to) → (seen : ℕ) → Reads ⊥ (stat limits true d inner) ts from seen x to
    unfolding loop_rest
    reads_loop x {list = list} {p = p} {kind = kind} {from = from} {mid = mid} {to = to} y l o c obeyed w q h seen =
        let b = attribute_starts y in
        let read = attributes_read ts limits target.Loop loops before_loops l enough obeyed w.short in
        let g : Given = (list, read.0) in
        reads_node x b.tok (Leave (loop_rest limits true d inner)) b.is (ap (stat_as limits true d inner b.tok) b.serves)
        (λ s1. reads_bind ⊥ ts (attributes limits loops) _ from s1 mid to g x (read.2 s1)
        (λ s2. reads_next ⊥ ts (loop_at limits true d inner g) mid s2 x to (Some (record { kind = kind; place = p; bytes = o.bytes })) (Take c) o.is (q read.0) h)) seen

    pub reads_stat : {x : StatTree} {from to : ℕ} → StatAt ts x from to → StatFits limits (suc d) x → (seen : ℕ) → Reads ⊥ (stat limits true d inner) ts from seen x to
    unfolding block_rest simple_stat return_rest break_rest continue_rest
    reads_stat {x = x} {from = from} {to = to} (t.block {p = p} {end = end} {list = list} o r) f seen =
        reads_node x (record { kind = k.Mark m.OpenBrace; place = p; bytes = o.bytes }) (Take (block_rest limits true d inner p)) o.is refl
        (λ s1. reads_bind ⊥ ts (stats limits true d inner) _ (from + 1) s1 to to (list, end) x (reads_stats r (in_block_fits limits d (span p end) list f) s1) (λ s2. reads_pure ⊥ ts x to s2)) seen
    reads_stat {x = y} {from = from} (t.local {at = at} {end = end} {x = x} r z) f seen =
        let b = local_starts r in
        reads_node y b.tok (Leave (simple_stat limits true d inner)) b.is (ap (stat_as limits true d inner b.tok) b.serves)
        (λ s1. reads_bind ⊥ ts (simple limits d) _ from s1 at (at + 1) (IsLocal x) y (reads_local_stat ts limits d enough r z (local_fits limits d (span x.place end) x f) s1)
        (λ s2. reads_bind ⊥ ts (expect m.Semicolon) _ at s2 (at + 1) (at + 1) end y (reads_expect ⊥ ts m.Semicolon end at s2 z) (λ s3. reads_pure ⊥ ts y (at + 1) s3))) seen
    reads_stat {x = y} {from = from} (t.change {at = at} {end = end} {x = x} r z) f seen =
        let b = type_starts (change_begins r) in
        reads_node y b.tok (Leave (simple_stat limits true d inner)) b.is (ap (stat_as limits true d inner b.tok) b.serves)
        (λ s1. reads_bind ⊥ ts (simple limits d) _ from s1 at (at + 1) (IsChange x) y (reads_change_stat ts limits d enough r z (change_fits limits d (span x.place end) x f) s1)
        (λ s2. reads_bind ⊥ ts (expect m.Semicolon) _ at s2 (at + 1) (at + 1) end y (reads_expect ⊥ ts m.Semicolon end at s2 z) (λ s3. reads_pure ⊥ ts y (at + 1) s3))) seen
    reads_stat {x = x} (t.empty {at = at} {p = p} o) f seen =
        reads_node x (record { kind = k.Mark m.Semicolon; place = p; bytes = o.bytes }) (Take (pure x)) o.is refl (λ s1. reads_pure ⊥ ts x (at + 1) s1) seen
    reads_stat {x = b} {from = from} {to = to} (t.if_alone {p = p} {x = x} {y = y} o r v n) f seen =
        let inner_fits = if_fits limits d (span p y.place) x y f in
        reads_node b (record { kind = k.Word w.If; place = p; bytes = o.bytes }) (Take (if_rest limits true d inner p)) o.is refl
        (λ s1. reads_if p b r v inner_fits.0 inner_fits.1 (λ s2. reads_next ⊥ ts (λ t. else_by limits true d inner p x y (sees_word w.Else t)) to s2 b to (first (drop to ts)) (Leave (pure b)) refl
        (ap (else_by limits true d inner p x y) n.is) (λ s3. reads_pure ⊥ ts b to s3)) s1) seen
    reads_stat {x = b} {from = from} {to = to} (t.if_else {at = at} {p = p} {q = q} {x = x} {y = y} {z = z} o r v c e) f seen =
        let inner_fits = else_fits limits d (span p z.place) x y z f in
        reads_node b (record { kind = k.Word w.If; place = p; bytes = o.bytes }) (Take (if_rest limits true d inner p)) o.is refl
        (λ s1. reads_if p b r v inner_fits.0 inner_fits.1 (λ s2. reads_next ⊥ ts (λ t. else_by limits true d inner p x y (sees_word w.Else t)) at s2 b to (Some (record { kind = k.Word w.Else; place = q; bytes = c.bytes }))
        (Take (if_else limits true d inner p x y)) c.is refl (λ s3. reads_else p x y e inner_fits.2 s3)) s1) seen
    reads_stat {x = b} (t.for_loop {p = p} {start = start} {condition = x} {step = step} {body = body} (a.end n) o h v) f seen =
        let inner_fits = for_fits limits d (span (begin_of [] p) body.place) [] start x step body f in
        reads_node b (record { kind = k.Word w.For; place = p; bytes = o.bytes }) (Take (for_rest limits true d inner [] p)) o.is refl (λ s1. reads_for [] p h v inner_fits.head_fits inner_fits.body_fits s1) seen
    reads_stat {x = b} (t.for_loop {p = p} {attributes = list} {start = start} {condition = x} {step = step} {body = body} (a.more y l) o h v) f seen =
        let inner_fits = for_fits limits d (span (begin_of list p) body.place) list start x step body f in
        reads_loop b y (a.more y l) o (for_rest limits true d inner list p) inner_fits.obeyed inner_fits.attributes (λ given. refl) (λ s1. reads_for list p h v inner_fits.head_fits inner_fits.body_fits s1) seen
    reads_stat {x = b} (t.while_loop {p = p} {x = x} {body = body} (a.end n) o r v) f seen =
        let inner_fits = while_fits limits d (span (begin_of [] p) body.place) [] x body f in
        reads_node b (record { kind = k.Word w.While; place = p; bytes = o.bytes }) (Take (while_rest limits true d inner [] p)) o.is refl (λ s1. reads_while [] p r v (value_fits limits d x inner_fits.head_fits) inner_fits.body_fits s1) seen
    reads_stat {x = b} (t.while_loop {p = p} {attributes = list} {x = x} {body = body} (a.more y l) o r v) f seen =
        let inner_fits = while_fits limits d (span (begin_of list p) body.place) list x body f in
        reads_loop b y (a.more y l) o (while_rest limits true d inner list p) inner_fits.obeyed inner_fits.attributes (λ given. refl) (λ s1. reads_while list p r v (value_fits limits d x inner_fits.head_fits) inner_fits.body_fits s1) seen
    reads_stat {x = b} {from = from} (t.return_value {at = at} {p = p} {end = end} {x = x} o r z) f seen =
        reads_node b (record { kind = k.Word w.Return; place = p; bytes = o.bytes }) (Take (return_rest limits true d inner p)) o.is refl
        (λ s1. reads_bind ⊥ ts (maybe limits d) _ (from + 1) s1 at (at + 1) x b (reads_maybe ts limits d enough r z (return_fits limits d (span p end) x f) s1)
        (λ s2. reads_bind ⊥ ts (expect m.Semicolon) _ at s2 (at + 1) (at + 1) end b (reads_expect ⊥ ts m.Semicolon end at s2 z) (λ s3. reads_pure ⊥ ts b (at + 1) s3))) seen
    reads_stat {x = b} {from = from} (t.break_loop {p = p} {end = end} o z) f seen =
        reads_node b (record { kind = k.Word w.Break; place = p; bytes = o.bytes }) (Take (break_rest limits true d inner p)) o.is refl
        (λ s1. reads_bind ⊥ ts (expect m.Semicolon) _ (from + 1) s1 (from + 1 + 1) (from + 1 + 1) end b (reads_expect ⊥ ts m.Semicolon end (from + 1) s1 z) (λ s2. reads_pure ⊥ ts b (from + 1 + 1) s2)) seen
    reads_stat {x = b} {from = from} (t.continue_loop {p = p} {end = end} o z) f seen =
        reads_node b (record { kind = k.Word w.Continue; place = p; bytes = o.bytes }) (Take (continue_rest limits true d inner p)) o.is refl
        (λ s1. reads_bind ⊥ ts (expect m.Semicolon) _ (from + 1) s1 (from + 1 + 1) (from + 1 + 1) end b (reads_expect ⊥ ts m.Semicolon end (from + 1) s1 z) (λ s2. reads_pure ⊥ ts b (from + 1 + 1) s2)) seen

    pub reads_body : {x : Block} {from to : ℕ} → BlockAt ts x from to → BlockFits limits (suc d) x → (seen : ℕ) → Reads ⊥ (body limits true d inner) ts from seen x to
    unfolding body body_rest
    reads_body {x = x} {from = from} {to = to} (t.block {p = p} {end = end} {list = list} o r) f seen =
        let tok : Lexed = record { kind = k.Mark m.OpenBrace; place = p; bytes = o.bytes } in
        reads_next ⊥ ts (λ t. body_by limits true d inner t (sees m.OpenBrace t)) from seen x to (Some tok) (body_by limits true d inner (Some tok) true) o.is refl
        (λ s1. reads_bind ⊥ ts (stats limits true d inner) _ (from + 1) s1 to to (list, end) x (reads_stats r (block_fits limits d (span p end) list f) s1) (λ s2. reads_pure ⊥ ts x to s2))

  pub reads_statements : (d : ℕ) → Enough ts limits d → (x : StatTree) (from to : ℕ) → StatAt ts x from to → StatFits limits d x → (seen : ℕ) → Reads ⊥ (statements limits d) ts from seen x to
  unfolding statements
  reads_statements zero u x from to r f seen = absurd (stat_positive limits x f)
  reads_statements (suc d) u x from to r f seen = reads_stat d (fewer u) (statements limits d) (reads_statements d (fewer u)) r f seen

  pub reads_blocks : (d : ℕ) → Enough ts limits d → (x : Block) (from to : ℕ) → BlockAt ts x from to → BlockFits limits d x → (seen : ℕ) → Reads ⊥ (blocks limits d) ts from seen x to
  unfolding blocks
  reads_blocks zero u x from to r f seen = absurd (omega (arith, f.sizes.depth))
  reads_blocks (suc d) u x from to r f seen = reads_body d (fewer u) (statements limits d) (reads_statements d (fewer u)) r f seen
