-- Statements: what the descent reads is spelled, where it is so of expressions and of operands.
use Rattle.std.proofs.Common.{Bool, true, false, ◌≡◌, ℕ, zero, suc, ◌+◌, List, [], ◌∷◌, ◌++◌, drop, Option, Some, None, refl, sym, ◌∙◌, ap, subst}
use Rattle.slang_names.specs.declared.places.Place.{Place}
use Rattle.slang_names.specs.declared.codes.ModuleCode.TheVariants as code
use Rattle.slang_tree.specs.declared.expressions.ExprTree.{ExprTree}
use Rattle.slang_tree.specs.declared.statements.Attribute.{Attribute}
use Rattle.slang_tree.specs.declared.statements.StatTree.{StatTree}
use Rattle.slang_tree.specs.declared.statements.StatNode.TheVariants as s
use Rattle.slang_tree.specs.declared.statements.Block.{Block}
use Rattle.slang_tokens.specs.declared.tokens.Kind.{Kind}
use Rattle.slang_tokens.specs.declared.tokens.Kind.TheVariants as k
use Rattle.slang_tokens.specs.declared.tokens.Mark.TheVariants as m
use Rattle.slang_tokens.specs.declared.tokens.Word.TheVariants as w
use Rattle.slang_reading.specs.Lexed.{Lexed}
use Rattle.slang_reading.specs.Reading.{Parser, Choice, Leave, Take, first, pure, place_of, next, turns}
use Rattle.slang_reading.specs.Kinds.{is_mark, sees, sees_word, span}
use Rattle.slang_reading.proofs.Exact.{Post, PostChoice, post_bind, post_next, post_fits, post_turns}
use Rattle.slang_grammar.specs.Standing.{Stands, IsNot}
use Rattle.slang_grammar.specs.Expressions.{ExprAt, PostfixAt}
use Rattle.slang_grammar.specs.Descent.{Limits, expect}
use Rattle.slang_grammar.specs.ExpressionsDescent.{expressions}
use Rattle.slang_grammar.proofs.Shared.{stands, not_there, IsMarkAt, post_expect}
use Rattle.statement_grammar.specs.declared.tables.StatementUse.{StatementUse}
use Rattle.statement_grammar.specs.declared.tables.StatementUse.TheVariants as u
use Rattle.statement_grammar.specs.Tables.{statement_use}
use Rattle.statement_grammar.specs.Attributes as a
use Rattle.statement_grammar.specs.Attributes.{AttributesAt, begin_of}
use Rattle.statement_grammar.specs.AttributesDescent.{Given, attributes, loops}
use Rattle.statement_grammar.specs.Statements as t
use Rattle.statement_grammar.specs.Statements.{LocalAt, ChangeAt, MaybeAt, HeadAt, ConditionAt, stated, StatAt, StatsAt, BlockAt}
use Rattle.statement_grammar.specs.StatementsDescent.{operands, Simple, IsLocal, IsChange, simple, maybe, condition, Head, head, simple_stated, stat_more, in_block, stats, block_rest, simple_stat, if_else, else_by, if_rest, for_rest, while_rest, loop_as, loop_at, loop_rest, return_rest, break_rest, continue_rest, node, stat_as, stat_at, stat, body_rest, body_by, body, no_statements, statements, blocks}
use Rattle.statement_grammar.proofs.Uses.{StatementUseIs, statement_use_is}
use Rattle.statement_grammar.proofs.Shared.{mark_stands, word_stands, post_take}
use Rattle.statement_grammar.proofs.AttributesSpelled.{post_attributes}
use Rattle.statement_grammar.proofs.LocalsSpelled.{post_initials, IsSimple, post_simple, post_maybe, post_condition, post_head}

module _ (ts : List Lexed) (limits : Limits) (he : (d at seen : ℕ) → Post (λ x to. ExprAt ts x.0 at to) (expressions limits d ts at seen))
    (ho : (d at seen : ℕ) → Post (λ x to. PostfixAt ts x.0 at to) (operands limits d ts at seen)) where
  module _ (room : Bool) (d : ℕ) (inner : Parser StatTree) (hs : (at seen : ℕ) → Post (λ x to. StatAt ts x at to) (inner ts at seen)) where
    abbrev IsStat : ℕ → StatTree → ℕ → Type 0
    IsStat at x to = StatAt ts x at to

    -- one more statement
    IsMore : List StatTree → List StatTree → ℕ → ℕ → Type 0
    IsMore list longer from to = (x : StatTree) × StatAt ts x from to × (longer ≡ list ++ x ∷ [])

    post_stat_more : (list : List StatTree) (at seen : ℕ) → Post (λ longer to. IsMore list longer at to) (stat_more limits room d inner list ts at seen)
    unfolding stat_more IsMore
    post_stat_more list at seen = post_bind ts (IsStat at) (λ longer to. IsMore list longer at to) inner _ at seen (hs at seen)
        (λ x to s1 r. let q : IsMore list (list ++ x ∷ []) at to = (x, r, refl) in q)

    -- up to a closing brace
    abbrev Ends : List StatTree → List StatTree → ℕ → ℕ → Type 0
    Ends list all from to = (p : Place) → Stands ts to (k.Mark m.CloseBrace) p → StatsAt ts list all p from (to + 1)

    post_stats : (at seen : ℕ) → Post (λ x to. StatsAt ts [] x.0 x.1 at to) (stats limits room d inner ts at seen)
    unfolding stats IsMore
    post_stats at seen = let Q : List StatTree × Place → ℕ → Type 0 = λ x to. StatsAt ts [] x.0 x.1 at to in
        post_bind ts (λ all to. Ends [] all at to) Q (turns (in_block limits room d inner) (stat_more limits room d inner) limits.turns []) _ at seen
        (post_turns ts Ends IsMore (in_block limits room d inner) (stat_more limits room d inner) (λ list at p z. t.end z)
        (λ list longer all from mid to o r p z. t.more o.1 (subst (λ list. StatsAt ts list all p mid (to + 1)) o.2 (r p z))) (λ list from s1 e. post_stat_more list from s1) limits.turns [] at seen)
        (λ all mid s1 r. post_bind ts (IsMarkAt ts m.CloseBrace mid) Q (expect m.CloseBrace) _ mid s1 (post_expect ts m.CloseBrace mid s1)
        (λ p to s2 z. subst (λ i. StatsAt ts [] all p at i) (sym z.1) (r p z.0)))

    post_block_rest : (begin : Place) (at seen : ℕ) → Stands ts at (k.Mark m.OpenBrace) begin → Post (IsStat at) (block_rest limits room d inner begin ts (at + 1) seen)
    unfolding block_rest
    post_block_rest begin at seen o = post_bind ts (λ x to. StatsAt ts [] x.0 x.1 (at + 1) to) (IsStat at) (stats limits room d inner) _ (at + 1) seen (post_stats (at + 1) seen) (λ x to s1 r. t.block o r)

    post_simple_stat : (at seen : ℕ) → Post (IsStat at) (simple_stat limits room d inner ts at seen)
    unfolding simple_stat
    post_simple_stat at seen = post_bind ts (IsSimple ts limits d (he d) (ho d) at) (IsStat at) (simple limits d) _ at seen (post_simple ts limits d (he d) (ho d) (post_initials ts limits he d) at seen)
        (λ x mid s1 r. post_bind ts (IsMarkAt ts m.Semicolon mid) (IsStat at) (expect m.Semicolon) _ mid s1 (post_expect ts m.Semicolon mid s1) (λ end to s2 z. subst (λ i. StatAt ts (simple_stated limits d x end) at i) (sym z.1) (by x mid r end z.0)))
      where
        by : (x : Simple) (mid : ℕ) → IsSimple ts limits d (he d) (ho d) at x mid → (end : Place) → Stands ts mid (k.Mark m.Semicolon) end → StatAt ts (simple_stated limits d x end) at (mid + 1)
        by (IsLocal x) mid r end z = t.local r z
        by (IsChange x) mid r end z = t.change r z

    post_if_rest : (begin : Place) (at seen : ℕ) → Stands ts at (k.Word w.If) begin → Post (IsStat at) (if_rest limits room d inner begin ts (at + 1) seen)
    unfolding if_rest if_else
    post_if_rest begin at seen o = post_bind ts (λ x to. ConditionAt ts x (at + 1) to) (IsStat at) (condition limits d) _ (at + 1) seen
        (post_condition ts limits d (he d) (ho d) (post_initials ts limits he d) (at + 1) seen)
        (λ x mid s1 r. post_bind ts (IsStat mid) (IsStat at) inner _ mid s1 (hs mid s1) (λ y to s2 v. post_next ts (IsStat at) _ to s2 (λ z e. by x mid r y to v z e (sees_word w.Else z) refl)))
      where
        by : (x : ExprTree) (mid : ℕ) → ConditionAt ts x (at + 1) mid → (y : StatTree) (to : ℕ) → StatAt ts y mid to → (z : Option Lexed) → first (drop to ts) ≡ z → (b : Bool) → sees_word w.Else z ≡ b →
            PostChoice ts (IsStat at) to z (else_by limits room d inner begin x y b)
        by x mid r y to v z e true q = post_take ts (IsStat at) to z _ (λ s3. post_bind ts (IsStat (to + 1)) (IsStat at) inner _ (to + 1) s3 (hs (to + 1) s3)
            (λ z1 last s4 c. t.if_else o r v (word_stands ts to z w.Else e q) c))
        by x mid r y to v z e false q = λ s3. t.if_alone o r v (record { is = ap (sees_word w.Else) e ∙ q })

    post_for_rest : (list : List Attribute) (begin : Place) (from at seen : ℕ) → AttributesAt ts [] list from at → Stands ts at (k.Word w.For) begin →
        Post (IsStat from) (for_rest limits room d inner list begin ts (at + 1) seen)
    unfolding for_rest
    post_for_rest list begin from at seen l o = post_bind ts (λ (h : Head limits d) to. HeadAt ts h.0 h.1 h.2 (at + 1) to) (IsStat from) (head limits d) _ (at + 1) seen
        (post_head ts limits d (he d) (ho d) (post_initials ts limits he d) (at + 1) seen)
        (λ h mid s1 r. post_bind ts (IsStat mid) (IsStat from) inner _ mid s1 (hs mid s1) (λ y to s2 v. t.for_loop l o r v))

    post_while_rest : (list : List Attribute) (begin : Place) (from at seen : ℕ) → AttributesAt ts [] list from at → Stands ts at (k.Word w.While) begin →
        Post (IsStat from) (while_rest limits room d inner list begin ts (at + 1) seen)
    unfolding while_rest
    post_while_rest list begin from at seen l o = post_bind ts (λ x to. ConditionAt ts x (at + 1) to) (IsStat from) (condition limits d) _ (at + 1) seen
        (post_condition ts limits d (he d) (ho d) (post_initials ts limits he d) (at + 1) seen)
        (λ x mid s1 r. post_bind ts (IsStat mid) (IsStat from) inner _ mid s1 (hs mid s1) (λ y to s2 v. t.while_loop l o r v))

    post_loop_as : (g : Given) (from at : ℕ) → AttributesAt ts [] g.0 from at → (tok : Lexed) → first (drop at ts) ≡ Some tok → (v : StatementUse) → StatementUseIs tok.kind v →
        PostChoice ts (IsStat from) at (Some tok) (loop_as limits room d inner g tok v)
    post_loop_as g from at l tok e u.For h = λ s1. post_for_rest g.0 tok.place from at s1 l (stands ts at tok (k.Word w.For) e h)
    post_loop_as g from at l tok e u.While h = λ s1. post_while_rest g.0 tok.place from at s1 l (stands ts at tok (k.Word w.While) e h)
    post_loop_as g from at l tok e u.Block h = tt
    post_loop_as g from at l tok e u.Empty h = tt
    post_loop_as g from at l tok e u.Attributes h = tt
    post_loop_as g from at l tok e u.Simple h = tt
    post_loop_as g from at l tok e u.If h = tt
    post_loop_as g from at l tok e u.Return h = tt
    post_loop_as g from at l tok e u.Break h = tt
    post_loop_as g from at l tok e u.Continue h = tt
    post_loop_as g from at l tok e u.Nothing h = tt

    post_loop_rest : (at seen : ℕ) → Post (IsStat at) (loop_rest limits room d inner ts at seen)
    unfolding loop_rest
    post_loop_rest at seen = post_bind ts (λ g to. AttributesAt ts [] g.0 at to) (IsStat at) (attributes limits loops) _ at seen (post_attributes ts limits loops at seen)
        (λ g mid s1 l. post_next ts (IsStat at) (loop_at limits room d inner g) mid s1 (λ x e. go g mid l x e))
      where
        go : (g : Given) (mid : ℕ) → AttributesAt ts [] g.0 at mid → (x : Option Lexed) → first (drop mid ts) ≡ x → PostChoice ts (IsStat at) mid x (loop_at limits room d inner g x)
        go g mid l (Some tok) e = post_loop_as g at mid l tok e (statement_use tok.kind) (statement_use_is tok.kind)
        go g mid l None e = tt

    post_return_rest : (begin : Place) (at seen : ℕ) → Stands ts at (k.Word w.Return) begin → Post (IsStat at) (return_rest limits room d inner begin ts (at + 1) seen)
    unfolding return_rest
    post_return_rest begin at seen o = post_bind ts (λ x to. MaybeAt ts x (at + 1) to) (IsStat at) (maybe limits d) _ (at + 1) seen
        (post_maybe ts limits d (he d) (ho d) (post_initials ts limits he d) (at + 1) seen)
        (λ x mid s1 r. post_bind ts (IsMarkAt ts m.Semicolon mid) (IsStat at) (expect m.Semicolon) _ mid s1 (post_expect ts m.Semicolon mid s1)
        (λ end to s2 z. subst (λ i. StatAt ts (stated (span begin end) (s.Return x)) at i) (sym z.1) (t.return_value o r z.0)))

    post_break_rest : (begin : Place) (at seen : ℕ) → Stands ts at (k.Word w.Break) begin → Post (IsStat at) (break_rest limits room d inner begin ts (at + 1) seen)
    unfolding break_rest
    post_break_rest begin at seen o = post_bind ts (IsMarkAt ts m.Semicolon (at + 1)) (IsStat at) (expect m.Semicolon) _ (at + 1) seen (post_expect ts m.Semicolon (at + 1) seen)
        (λ end to s1 z. subst (λ i. StatAt ts (stated (span begin end) s.Break) at i) (sym z.1) (t.break_loop o z.0))

    post_continue_rest : (begin : Place) (at seen : ℕ) → Stands ts at (k.Word w.Continue) begin → Post (IsStat at) (continue_rest limits room d inner begin ts (at + 1) seen)
    unfolding continue_rest
    post_continue_rest begin at seen o = post_bind ts (IsMarkAt ts m.Semicolon (at + 1)) (IsStat at) (expect m.Semicolon) _ (at + 1) seen (post_expect ts m.Semicolon (at + 1) seen)
        (λ end to s1 z. subst (λ i. StatAt ts (stated (span begin end) s.Continue) at i) (sym z.1) (t.continue_loop o z.0))

    post_node : (at : ℕ) (tok : Lexed) (c : Choice StatTree) → PostChoice ts (IsStat at) at (Some tok) c → PostChoice ts (IsStat at) at (Some tok) (node limits room d inner tok c)
    post_node at tok c p = post_fits ts (IsStat at) at (Some tok) room code.TooNested c (λ f. p)

    -- no attributes stand before a loop that begins with its word
    no_attributes : (at : ℕ) (tok : Lexed) (kind : Kind) → Stands ts at kind tok.place → is_mark m.OpenBracket kind ≡ false → AttributesAt ts [] [] at at
    no_attributes at tok kind o e = a.end (not_there ts m.OpenBracket at kind tok.place o e)

    post_stat_as : (at : ℕ) (tok : Lexed) → first (drop at ts) ≡ Some tok → (v : StatementUse) → StatementUseIs tok.kind v → PostChoice ts (IsStat at) at (Some tok) (stat_as limits room d inner tok v)
    post_stat_as at tok e u.Block h = post_node at tok (Take (block_rest limits room d inner tok.place)) (λ s1. post_block_rest tok.place at s1 (stands ts at tok (k.Mark m.OpenBrace) e h))
    post_stat_as at tok e u.Empty h = post_node at tok (Take (pure (stated tok.place s.Empty))) (λ s1. t.empty (stands ts at tok (k.Mark m.Semicolon) e h))
    post_stat_as at tok e u.Attributes h = post_node at tok (Leave (loop_rest limits room d inner)) (λ s1. post_loop_rest at s1)
    post_stat_as at tok e u.Simple h = post_node at tok (Leave (simple_stat limits room d inner)) (λ s1. post_simple_stat at s1)
    post_stat_as at tok e u.If h = post_node at tok (Take (if_rest limits room d inner tok.place)) (λ s1. post_if_rest tok.place at s1 (stands ts at tok (k.Word w.If) e h))
    post_stat_as at tok e u.For h = let o = stands ts at tok (k.Word w.For) e h in
        post_node at tok (Take (for_rest limits room d inner [] tok.place)) (λ s1. post_for_rest [] tok.place at at s1 (no_attributes at tok (k.Word w.For) o refl) o)
    post_stat_as at tok e u.While h = let o = stands ts at tok (k.Word w.While) e h in
        post_node at tok (Take (while_rest limits room d inner [] tok.place)) (λ s1. post_while_rest [] tok.place at at s1 (no_attributes at tok (k.Word w.While) o refl) o)
    post_stat_as at tok e u.Return h = post_node at tok (Take (return_rest limits room d inner tok.place)) (λ s1. post_return_rest tok.place at s1 (stands ts at tok (k.Word w.Return) e h))
    post_stat_as at tok e u.Break h = post_node at tok (Take (break_rest limits room d inner tok.place)) (λ s1. post_break_rest tok.place at s1 (stands ts at tok (k.Word w.Break) e h))
    post_stat_as at tok e u.Continue h = post_node at tok (Take (continue_rest limits room d inner tok.place)) (λ s1. post_continue_rest tok.place at s1 (stands ts at tok (k.Word w.Continue) e h))
    post_stat_as at tok e u.Nothing h = tt

    pub post_stat : (at seen : ℕ) → Post (λ x to. StatAt ts x at to) (stat limits room d inner ts at seen)
    unfolding stat
    post_stat at seen = post_next ts (IsStat at) (stat_at limits room d inner) at seen go
      where
        go : (x : Option Lexed) → first (drop at ts) ≡ x → PostChoice ts (IsStat at) at x (stat_at limits room d inner x)
        go (Some tok) e = post_stat_as at tok e (statement_use tok.kind) (statement_use_is tok.kind)
        go None e = tt

    pub post_body : (at seen : ℕ) → Post (λ x to. BlockAt ts x at to) (body limits room d inner ts at seen)
    unfolding body body_rest
    post_body at seen = post_next ts (λ x to. BlockAt ts x at to) _ at seen (λ x e. by x e (sees m.OpenBrace x) refl)
      where
        by : (x : Option Lexed) → first (drop at ts) ≡ x → (b : Bool) → sees m.OpenBrace x ≡ b → PostChoice ts (λ y to. BlockAt ts y at to) at x (body_by limits room d inner x b)
        by x e true q = post_fits ts (λ y to. BlockAt ts y at to) at x room code.TooNested (Take (body_rest limits room d inner (place_of x))) (λ f. post_take ts (λ y to. BlockAt ts y at to) at x (body_rest limits room d inner (place_of x))
            (λ s1. post_bind ts (λ v to. StatsAt ts [] v.0 v.1 (at + 1) to) (λ y to. BlockAt ts y at to) (stats limits room d inner) _ (at + 1) s1 (post_stats (at + 1) s1)
            (λ v to s2 r. t.block (mark_stands ts at x m.OpenBrace e q) r)))
        by x e false q = tt

  pub post_statements : (d at seen : ℕ) → Post (λ x to. StatAt ts x at to) (statements limits d ts at seen)
  unfolding statements
  post_statements zero at seen = post_stat false zero no_statements (λ at seen. tt) at seen
  post_statements (suc d) at seen = post_stat true d (statements limits d) (post_statements d) at seen

  pub post_blocks : (d at seen : ℕ) → Post (λ x to. BlockAt ts x at to) (blocks limits d ts at seen)
  unfolding blocks
  post_blocks zero at seen = post_body false zero no_statements (λ at seen. tt) at seen
  post_blocks (suc d) at seen = post_body true d (statements limits d) (post_statements d) at seen
