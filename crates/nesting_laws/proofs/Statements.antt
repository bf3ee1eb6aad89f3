-- Statements and blocks: no node of what is read is too deep, where as many fit as were given.
use Rattle.std.proofs.Common.{Bool, true, false, ◌≡◌, ℕ, zero, suc, ◌+◌, ◌≤◌, List, [], map, Option, Some, None, refl, sym, subst, arith}
use Rattle.slang_names.specs.declared.places.Place.{Place}
use Rattle.slang_names.specs.declared.codes.ModuleCode.TheVariants as code
use Rattle.slang_tree.specs.declared.expressions.ExprTree.{ExprTree}
use Rattle.slang_tree.specs.declared.statements.Attribute.{Attribute}
use Rattle.slang_tree.specs.declared.statements.StatTree.{StatTree}
use Rattle.slang_tree.specs.declared.statements.StatNode.TheVariants as s
use Rattle.slang_tree.specs.declared.statements.Block.{Block}
use Rattle.slang_tree.specs.Nesting.{Deep, nothing, before, first_of, node, optional, deep_expr, deep_local, deep_change, deep_start, deep_stat, deep_block}
use Rattle.slang_tokens.specs.declared.tokens.Mark.TheVariants as m
use Rattle.slang_tokens.specs.declared.tokens.Word.TheVariants as w
use Rattle.slang_reading.specs.Lexed.{Lexed}
use Rattle.slang_reading.specs.Reading.{Parser, Choice, Leave, Take, pure, place_of, turns}
use Rattle.slang_reading.specs.Kinds.{sees, sees_word, span}
use Rattle.slang_reading.proofs.Exact.{Post, PostChoice, post_bind, post_next, post_fits, post_turns, post_unit}
use Rattle.slang_grammar.specs.Descent.{Limits, expect}
use Rattle.statement_grammar.specs.declared.tables.StatementUse.{StatementUse}
use Rattle.statement_grammar.specs.declared.tables.StatementUse.TheVariants as u
use Rattle.statement_grammar.specs.Tables.{statement_use}
use Rattle.statement_grammar.specs.Attributes.{begin_of}
use Rattle.statement_grammar.specs.AttributesDescent.{Given, attributes, loops}
use Rattle.statement_grammar.specs.Statements.{stated}
use Rattle.statement_grammar.specs.StatementsDescent.{Simple, IsLocal, IsChange, simple, maybe, condition, Head, head, simple_stated, stat_more, in_block, stats, block_rest, simple_stat, if_else, else_by, if_rest, for_rest, while_rest, loop_as, loop_at, loop_rest, return_rest, break_rest, continue_rest, stat_as, stat_at, stat, body_rest, body_by, body, no_statements, statements, blocks}
use Rattle.statement_grammar.specs.StatementsDescent as step
use Rattle.statement_grammar.proofs.Shared.{post_take}
use Rattle.nesting_laws.proofs.Depths.{Clear, clear_node}
use Rattle.nesting_laws.proofs.Trees.{deep_inner_block, deep_local_stat, deep_change_stat, deep_empty, deep_if, deep_if_else, deep_for, deep_while, deep_return, deep_break, deep_continue}
use Rattle.nesting_laws.proofs.TypesLow.{Any}
use Rattle.nesting_laws.proofs.Reading.{clear_before, clear_less, All, clear_none, clear_more}
use Rattle.nesting_laws.proofs.Locals.{no_fit, one_fits, IsSimple, clear_simple, IsMaybe, clear_maybe, IsCondition, clear_condition, IsHead, clear_head}

-- a statement at that place with these parts
stands : (d top : ℕ) (p : Place) (x : StatTree) (f : Deep) → suc d ≤ top → deep_stat x ≡ node p f → Clear d f → Clear top (deep_stat x)
stands d top p x f g e a = subst (λ f. Clear top f) (sym e) (clear_less (d + 1) top (node p f) (omega (arith, g)) (clear_node p d f a))

module _ (ts : List Lexed) (limits : Limits) (is_free : limits.free ≡ false) where
  module _ (room : Bool) (d : ℕ) (inner : Parser StatTree) (top : ℕ) (fits : room ≡ true → suc d ≤ top) (hs : (at seen : ℕ) → Post (λ (x : StatTree) (to : ℕ). Clear d (deep_stat x)) (inner ts at seen)) where
    abbrev Inner : StatTree → ℕ → Type 0
    Inner x to = Clear d (deep_stat x)

    abbrev IsStat : StatTree → ℕ → Type 0
    IsStat x to = Clear top (deep_stat x)

    abbrev HasMore : List StatTree → List StatTree → ℕ → ℕ → Type 0
    HasMore a b from to = All deep_stat d a → All deep_stat d b

    clear_stat_more : (list : List StatTree) (at seen : ℕ) → Post (λ longer to. HasMore list longer at to) (stat_more limits room d inner list ts at seen)
    unfolding stat_more
    clear_stat_more list at seen = post_bind ts Inner (λ longer to. HasMore list longer at to) inner _ at seen (hs at seen) (λ x to s1 r a. clear_more deep_stat d list x a r)

    abbrev HasStats : List StatTree × Place → ℕ → Type 0
    HasStats x to = All deep_stat d x.0

    clear_stats : (at seen : ℕ) → Post HasStats (stats limits room d inner ts at seen)
    unfolding stats
    clear_stats at seen = post_bind ts (λ all to. HasMore [] all at to) HasStats (turns (in_block limits room d inner) (stat_more limits room d inner) limits.turns []) _ at seen
        (post_turns ts HasMore HasMore (in_block limits room d inner) (stat_more limits room d inner) (λ list at r. r) (λ a b c from mid to o r q. r (o q)) (λ list from s1 e. clear_stat_more list from s1) limits.turns [] at seen)
        (λ all mid s1 r. post_bind ts Any HasStats (expect m.CloseBrace) _ mid s1 (post_unit (expect m.CloseBrace ts mid s1)) (λ p to s2 z. r (clear_none deep_stat d)))

    module _ (g : suc d ≤ top) where
      clear_block_rest : (begin : Place) (at seen : ℕ) → Post IsStat (block_rest limits room d inner begin ts at seen)
      unfolding block_rest
      clear_block_rest begin at seen = post_bind ts HasStats IsStat (stats limits room d inner) _ at seen (clear_stats at seen)
          (λ x to s1 r. stands d top (span begin x.1) (stated (span begin x.1) (s.Block x.0)) (first_of (map deep_stat x.0)) g (deep_inner_block (span begin x.1) x.0) r)

      of_simple : (x : Simple) (to : ℕ) (end : Place) → IsSimple ts limits is_free d x to → Clear top (deep_stat (simple_stated limits d x end))
      of_simple (IsLocal x) to end r = let p = span x.place end in stands d top p (stated p (s.Local x)) (deep_local x) g (deep_local_stat p x) r
      of_simple (IsChange x) to end r = let p = span x.place end in stands d top p (stated p (s.Change x)) (deep_change x) g (deep_change_stat p x) r

      clear_simple_stat : (at seen : ℕ) → Post IsStat (simple_stat limits room d inner ts at seen)
      unfolding simple_stat
      clear_simple_stat at seen = post_bind ts (IsSimple ts limits is_free d) IsStat (simple limits d) _ at seen (clear_simple ts limits is_free d at seen)
          (λ x mid s1 r. post_bind ts Any IsStat (expect m.Semicolon) _ mid s1 (post_unit (expect m.Semicolon ts mid s1)) (λ end to s2 z. of_simple x mid end r))

      clear_if_rest : (begin : Place) (at seen : ℕ) → Post IsStat (if_rest limits room d inner begin ts at seen)
      unfolding if_rest if_else
      clear_if_rest begin at seen = post_bind ts (IsCondition ts limits is_free d) IsStat (condition limits d) _ at seen (clear_condition ts limits is_free d at seen)
          (λ x mid s1 r. post_bind ts Inner IsStat inner _ mid s1 (hs mid s1) (λ y to s2 v. post_next ts IsStat _ to s2 (λ z e. by x r y to v z (sees_word w.Else z))))
        where
          by : (x : ExprTree) → Clear d (deep_expr x) → (y : StatTree) (to : ℕ) → Clear d (deep_stat y) → (z : Option Lexed) (b : Bool) → PostChoice ts IsStat to z (else_by limits room d inner begin x y b)
          by x r y to v z true = post_take ts IsStat to z _ (λ s3. post_bind ts Inner IsStat inner _ (to + 1) s3 (hs (to + 1) s3)
              (λ c last s4 h. let p = span begin c.place in stands d top p (stated p (s.IfElse x y c)) (before (deep_expr x) (before (deep_stat y) (deep_stat c))) g (deep_if_else p x y c)
              (clear_before d (deep_expr x) (before (deep_stat y) (deep_stat c)) r (clear_before d (deep_stat y) (deep_stat c) v h))))
          by x r y to v z false = λ s3. let p = span begin y.place in stands d top p (stated p (s.If x y)) (before (deep_expr x) (deep_stat y)) g (deep_if p x y) (clear_before d (deep_expr x) (deep_stat y) r v)

      clear_for_rest : (list : List Attribute) (begin : Place) (at seen : ℕ) → Post IsStat (for_rest limits room d inner list begin ts at seen)
      unfolding for_rest
      clear_for_rest list begin at seen = post_bind ts (IsHead ts limits is_free d) IsStat (head limits d) _ at seen (clear_head ts limits is_free d at seen)
          (λ h mid s1 r. post_bind ts Inner IsStat inner _ mid s1 (hs mid s1)
          (λ y to s2 v. let p = span (begin_of list begin) y.place in let last = before (optional deep_change h.2) (deep_stat y) in
          stands d top p (stated p (s.For list h.0 h.1 h.2 y)) (before (deep_start h.0) (before (optional deep_expr h.1) last)) g (deep_for p list h.0 h.1 h.2 y)
          (clear_before d (deep_start h.0) (before (optional deep_expr h.1) last) r.0 (clear_before d (optional deep_expr h.1) last r.1 (clear_before d (optional deep_change h.2) (deep_stat y) r.2 v)))))

      clear_while_rest : (list : List Attribute) (begin : Place) (at seen : ℕ) → Post IsStat (while_rest limits room d inner list begin ts at seen)
      unfolding while_rest
      clear_while_rest list begin at seen = post_bind ts (IsCondition ts limits is_free d) IsStat (condition limits d) _ at seen (clear_condition ts limits is_free d at seen)
          (λ x mid s1 r. post_bind ts Inner IsStat inner _ mid s1 (hs mid s1)
          (λ y to s2 v. let p = span (begin_of list begin) y.place in stands d top p (stated p (s.While list x y)) (before (deep_expr x) (deep_stat y)) g (deep_while p list x y) (clear_before d (deep_expr x) (deep_stat y) r v)))

      clear_loop_as : (a : Given) (at : ℕ) (tok : Lexed) (v : StatementUse) → PostChoice ts IsStat at (Some tok) (loop_as limits room d inner a tok v)
      clear_loop_as a at tok u.For = λ s1. clear_for_rest a.0 tok.place (at + 1) s1
      clear_loop_as a at tok u.While = λ s1. clear_while_rest a.0 tok.place (at + 1) s1
      clear_loop_as a at tok u.Block = tt
      clear_loop_as a at tok u.Empty = tt
      clear_loop_as a at tok u.Attributes = tt
      clear_loop_as a at tok u.Simple = tt
      clear_loop_as a at tok u.If = tt
      clear_loop_as a at tok u.Return = tt
      clear_loop_as a at tok u.Break = tt
      clear_loop_as a at tok u.Continue = tt
      clear_loop_as a at tok u.Nothing = tt

      clear_loop_rest : (at seen : ℕ) → Post IsStat (loop_rest limits room d inner ts at seen)
      unfolding loop_rest
      clear_loop_rest at seen = post_bind ts Any IsStat (attributes limits loops) _ at seen (post_unit (attributes limits loops ts at seen)) (λ a mid s1 l. post_next ts IsStat (loop_at limits room d inner a) mid s1 (λ x e. go a mid x))
        where
          go : (a : Given) (mid : ℕ) (x : Option Lexed) → PostChoice ts IsStat mid x (loop_at limits room d inner a x)
          go a mid (Some tok) = clear_loop_as a mid tok (statement_use tok.kind)
          go a mid None = tt

      clear_return_rest : (begin : Place) (at seen : ℕ) → Post IsStat (return_rest limits room d inner begin ts at seen)
      unfolding return_rest
      clear_return_rest begin at seen = post_bind ts (IsMaybe ts limits is_free d) IsStat (maybe limits d) _ at seen (clear_maybe ts limits is_free d at seen)
          (λ x mid s1 r. post_bind ts Any IsStat (expect m.Semicolon) _ mid s1 (post_unit (expect m.Semicolon ts mid s1))
          (λ end to s2 z. let p = span begin end in stands d top p (stated p (s.Return x)) (optional deep_expr x) g (deep_return p x) r))

      clear_break_rest : (begin : Place) (at seen : ℕ) → Post IsStat (break_rest limits room d inner begin ts at seen)
      unfolding break_rest
      clear_break_rest begin at seen = post_bind ts Any IsStat (expect m.Semicolon) _ at seen (post_unit (expect m.Semicolon ts at seen))
          (λ end to s1 z. let p = span begin end in stands d top p (stated p s.Break) nothing g (deep_break p) (λ n l. refl))

      clear_continue_rest : (begin : Place) (at seen : ℕ) → Post IsStat (continue_rest limits room d inner begin ts at seen)
      unfolding continue_rest
      clear_continue_rest begin at seen = post_bind ts Any IsStat (expect m.Semicolon) _ at seen (post_unit (expect m.Semicolon ts at seen))
          (λ end to s1 z. let p = span begin end in stands d top p (stated p s.Continue) nothing g (deep_continue p) (λ n l. refl))

    clear_fitting : (at : ℕ) (tok : Lexed) (c : Choice StatTree) → (suc d ≤ top → PostChoice ts IsStat at (Some tok) c) → PostChoice ts IsStat at (Some tok) (step.node limits room d inner tok c)
    clear_fitting at tok c p = post_fits ts IsStat at (Some tok) room code.TooNested c (λ f. p (fits f))

    clear_stat_as : (at : ℕ) (tok : Lexed) (v : StatementUse) → PostChoice ts IsStat at (Some tok) (stat_as limits room d inner tok v)
    clear_stat_as at tok u.Block = clear_fitting at tok (Take (block_rest limits room d inner tok.place)) (λ g s1. clear_block_rest g tok.place (at + 1) s1)
    clear_stat_as at tok u.Empty = clear_fitting at tok (Take (pure (stated tok.place s.Empty))) (λ g s1. stands d top tok.place (stated tok.place s.Empty) nothing g (deep_empty tok.place) (λ n l. refl))
    clear_stat_as at tok u.Attributes = clear_fitting at tok (Leave (loop_rest limits room d inner)) (λ g s1. clear_loop_rest g at s1)
    clear_stat_as at tok u.Simple = clear_fitting at tok (Leave (simple_stat limits room d inner)) (λ g s1. clear_simple_stat g at s1)
    clear_stat_as at tok u.If = clear_fitting at tok (Take (if_rest limits room d inner tok.place)) (λ g s1. clear_if_rest g tok.place (at + 1) s1)
    clear_stat_as at tok u.For = clear_fitting at tok (Take (for_rest limits room d inner [] tok.place)) (λ g s1. clear_for_rest g [] tok.place (at + 1) s1)
    clear_stat_as at tok u.While = clear_fitting at tok (Take (while_rest limits room d inner [] tok.place)) (λ g s1. clear_while_rest g [] tok.place (at + 1) s1)
    clear_stat_as at tok u.Return = clear_fitting at tok (Take (return_rest limits room d inner tok.place)) (λ g s1. clear_return_rest g tok.place (at + 1) s1)
    clear_stat_as at tok u.Break = clear_fitting at tok (Take (break_rest limits room d inner tok.place)) (λ g s1. clear_break_rest g tok.place (at + 1) s1)
    clear_stat_as at tok u.Continue = clear_fitting at tok (Take (continue_rest limits room d inner tok.place)) (λ g s1. clear_continue_rest g tok.place (at + 1) s1)
    clear_stat_as at tok u.Nothing = tt

    clear_stat : (at seen : ℕ) → Post IsStat (stat limits room d inner ts at seen)
    unfolding stat
    clear_stat at seen = post_next ts IsStat (stat_at limits room d inner) at seen (λ x e. go x)
      where
        go : (x : Option Lexed) → PostChoice ts IsStat at x (stat_at limits room d inner x)
        go (Some tok) = clear_stat_as at tok (statement_use tok.kind)
        go None = tt

    abbrev IsBlock : Block → ℕ → Type 0
    IsBlock x to = Clear top (deep_block x)

    of_block : (p : Place) (list : List StatTree) → suc d ≤ top → All deep_stat d list → Clear top (node p (first_of (map deep_stat list)))
    of_block p list g a = clear_less (d + 1) top (node p (first_of (map deep_stat list))) (omega (arith, g)) (clear_node p d (first_of (map deep_stat list)) a)

    clear_body : (at seen : ℕ) → Post IsBlock (body limits room d inner ts at seen)
    unfolding body body_rest
    clear_body at seen = post_next ts IsBlock _ at seen (λ x e. by x (sees m.OpenBrace x))
      where
        by : (x : Option Lexed) (b : Bool) → PostChoice ts IsBlock at x (body_by limits room d inner x b)
        by x true = post_fits ts IsBlock at x room code.TooNested (Take (body_rest limits room d inner (place_of x))) (λ f. post_take ts IsBlock at x (body_rest limits room d inner (place_of x))
            (λ s1. post_bind ts HasStats IsBlock (stats limits room d inner) _ (at + 1) s1 (clear_stats (at + 1) s1) (λ v to s2 r. of_block (span (place_of x) v.1) v.0 (fits f) r)))
        by x false = tt

  pub clear_statements : (d at seen : ℕ) → Post (λ (x : StatTree) (to : ℕ). Clear d (deep_stat x)) (statements limits d ts at seen)
  unfolding statements
  clear_statements zero at seen = clear_stat false zero no_statements zero (no_fit zero) (λ at seen. tt) at seen
  clear_statements (suc d) at seen = clear_stat true d (statements limits d) (suc d) (λ e. one_fits d) (clear_statements d) at seen

  pub clear_blocks : (d at seen : ℕ) → Post (λ (x : Block) (to : ℕ). Clear d (deep_block x)) (blocks limits d ts at seen)
  unfolding blocks
  clear_blocks zero at seen = clear_body false zero no_statements zero (no_fit zero) (λ at seen. tt) at seen
  clear_blocks (suc d) at seen = clear_body true d (statements limits d) (suc d) (λ e. one_fits d) (clear_statements d) at seen
