-- Statements and blocks: what is read is within the limits, and its attributes obey the rules.
use Rattle.std.proofs.Common.{Bool, true, false, ◌≡◌, ℕ, zero, suc, ◌+◌, ◌≤◌, ◌||◌, max, List, [], ◌∷◌, ◌++◌, map, Option, Some, None, refl, ◌∙◌, rules}
use Rattle.std.specs.List.{list_all}
use Rattle.slang_names.specs.declared.places.Place.{Place}
use Rattle.slang_names.specs.declared.codes.ModuleCode.TheVariants as code
use Rattle.slang_tree.specs.declared.expressions.ExprTree.{ExprTree}
use Rattle.slang_tree.specs.declared.statements.Attribute.{Attribute}
use Rattle.slang_tree.specs.declared.statements.Local.{Local}
use Rattle.slang_tree.specs.declared.statements.Change.{Change}
use Rattle.slang_tree.specs.declared.statements.StatTree.{StatTree, the_lemmas}
use Rattle.slang_tree.specs.declared.statements.StatNode.TheVariants as s
use Rattle.slang_tree.specs.declared.statements.Block.{Block}
use Rattle.slang_tokens.specs.declared.tokens.Mark.TheVariants as m
use Rattle.slang_tokens.specs.declared.tokens.Word.TheVariants as w
use Rattle.slang_reading.specs.Lexed.{Lexed}
use Rattle.slang_reading.specs.Reading.{Parser, Choice, Leave, Take, pure, place_of, turns}
use Rattle.slang_reading.specs.Kinds.{sees, sees_word, span}
use Rattle.slang_reading.proofs.Exact.{Post, PostChoice, post_bind, post_next, post_fits, post_turns, post_unit}
use Rattle.slang_grammar.specs.Descent.{Limits, expect}
use Rattle.slang_grammar.specs.Heights.{greatest}
use Rattle.statement_grammar.specs.declared.tables.StatementUse.{StatementUse}
use Rattle.statement_grammar.specs.declared.tables.StatementUse.TheVariants as u
use Rattle.statement_grammar.specs.Tables.{statement_use}
use Rattle.statement_grammar.specs.Attributes.{begin_of}
use Rattle.statement_grammar.specs.AttributesDescent.{Given, attributes, loops}
use Rattle.statement_grammar.specs.Statements.{stated}
use Rattle.statement_grammar.specs.StatementsDescent.{Simple, IsLocal, IsChange, simple, maybe, condition, head, simple_stated, stat_more, in_block, stats, block_rest, simple_stat, if_else, else_by, if_rest, for_rest, while_rest, loop_as, loop_at, loop_rest, return_rest, break_rest, continue_rest, stat_as, stat_at, stat, body_rest, body_by, body, no_statements, statements, blocks}
use Rattle.statement_grammar.specs.StatementsDescent as step
use Rattle.statement_grammar.proofs.Shared.{post_take}
use Rattle.statement_grammar.specs.declared.attributes.Target.TheVariants as target
use Rattle.statement_grammar.specs.AttributeTables.{may_stand}
use Rattle.statement_grammar.specs.AttributeRules.{obeys, all_true, stat_obeys}
use Rattle.statement_fits.specs.Sizes.{Count, optional, in_local, in_change, in_attributes, in_head, in_stat, Keeps, StatFits, BlockFits}
use Rattle.statement_fits.proofs.Fitting.{and_left, and_right, and_both}
use Rattle.statement_fits.proofs.Attributes.{free_or}
use Rattle.statement_fits.proofs.Nodes.{of_block, of_local, of_change, of_if, of_else, of_for, of_while, of_return, rules_block, rules_if, rules_else, rules_for, rules_while, StatsFit}
use Rattle.nesting_laws.proofs.TypesLow.{or_is, Any}
use Rattle.nesting_laws.proofs.Locals.{no_fit, one_fits}
use Rattle.fitting_laws.proofs.Within.{nothing_keeps, more_room, both_keep, node_keeps, keep_none, keep_more}
use Rattle.fitting_laws.proofs.Attributes.{Taken, taken_obeys, taken_attributes, attributes_keep}
use Rattle.fitting_laws.proofs.Locals.{IsSimple, keep_simple, IsMaybe, keep_maybe, IsCondition, keep_condition, IsHead, keep_head}

-- ---- the rules on what is read

module _ (count : Count) (p : Place) where
  of_empty : in_stat count (stated p s.Empty) ≡ count.over 0
  of_empty = search (rules, the_lemmas)

  of_break : in_stat count (stated p s.Break) ≡ count.over 0
  of_break = search (rules, the_lemmas)

  of_continue : in_stat count (stated p s.Continue) ≡ count.over 0
  of_continue = search (rules, the_lemmas)

module _ (p : Place) where
  rules_local : (x : Local) → stat_obeys (stated p (s.Local x)) ≡ true
  rules_local x = search (rules, the_lemmas)

  rules_change : (x : Change) → stat_obeys (stated p (s.Change x)) ≡ true
  rules_change x = search (rules, the_lemmas)

  rules_empty : stat_obeys (stated p s.Empty) ≡ true
  rules_empty = search (rules, the_lemmas)

  rules_return : (x : Option ExprTree) → stat_obeys (stated p (s.Return x)) ≡ true
  rules_return x = search (rules, the_lemmas)

  rules_break : stat_obeys (stated p s.Break) ≡ true
  rules_break = search (rules, the_lemmas)

  rules_continue : stat_obeys (stated p s.Continue) ≡ true
  rules_continue = search (rules, the_lemmas)

true_longer : (xs : List StatTree) (x : StatTree) → all_true (map stat_obeys xs) ≡ true → stat_obeys x ≡ true → all_true (map stat_obeys (xs ++ x ∷ [])) ≡ true
true_longer [] x h g = and_both (stat_obeys x) true g refl
true_longer (y ∷ ys) x h g = and_both (stat_obeys y) (all_true (map stat_obeys (ys ++ x ∷ []))) (and_left (stat_obeys y) (all_true (map stat_obeys ys)) h) (true_longer ys x (and_right (stat_obeys y) (all_true (map stat_obeys ys)) h) g)

or_none : (b : Bool) → (b || false) ≡ true → b ≡ true
or_none true h = refl
or_none false h = h

or_two : (f a b c : Bool) → (a ≡ true → b ≡ true → c ≡ true) → (f || a) ≡ true → (f || b) ≡ true → (f || c) ≡ true
or_two true a b c g h i = refl
or_two false a b c g h i = g h i

module _ (limits : Limits) where
  stats_longer : (d : ℕ) (xs : List StatTree) (x : StatTree) → StatsFit limits d xs → StatFits limits d x → StatsFit limits d (xs ++ x ∷ [])
  stats_longer d xs x v w = record { sizes = keep_more limits in_stat d xs x v.sizes w.sizes; rules_ = or_two limits.free (all_true (map stat_obeys xs)) (stat_obeys x) (all_true (map stat_obeys (xs ++ x ∷ []))) (true_longer xs x) v.rules_ w.rules }

  -- attributes before a loop
  abbrev Before : ℕ → List Attribute → Type 0
  Before d list = Keeps limits d (λ count. in_attributes count list) × (obeys target.Loop list ≡ true)

  before_none : (d : ℕ) → Before d []
  before_none d = (nothing_keeps limits d, refl)

  before_given : (d : ℕ) (a : Given) → Taken limits loops a → Before d a.0
  before_given d a t = (attributes_keep limits d a.0 t.short, taken_obeys limits loops a target.Loop t (or_none (list_all (λ y. may_stand y.0 target.Loop) a.1) t.some))

  -- a statement with these parts
  stands : (d top : ℕ) (x : StatTree) (f : Count → ℕ) → suc d ≤ top → ((count : Count) → in_stat count x ≡ count.over (f count)) → stat_obeys x ≡ true → Keeps limits d f → StatFits limits top x
  stands d top x f g e o w = record { sizes = more_room limits (suc d) top (λ count. in_stat count x) g (node_keeps limits d f (λ count. in_stat count x) e w); rules = free_or limits.free (stat_obeys x) o }

module _ (ts : List Lexed) (limits : Limits) (is_free : limits.free ≡ false) where
  module _ (room : Bool) (d : ℕ) (inner : Parser StatTree) (top : ℕ) (fits : room ≡ true → suc d ≤ top) (hs : (at seen : ℕ) → Post (λ (x : StatTree) (to : ℕ). StatFits limits d x) (inner ts at seen)) where
    abbrev Inner : StatTree → ℕ → Type 0
    Inner x to = StatFits limits d x

    abbrev IsStat : StatTree → ℕ → Type 0
    IsStat x to = StatFits limits top x

    abbrev HasMore : List StatTree → List StatTree → ℕ → ℕ → Type 0
    HasMore a b from to = StatsFit limits d a → StatsFit limits d b

    fit_stat_more : (list : List StatTree) (at seen : ℕ) → Post (λ longer to. HasMore list longer at to) (stat_more limits room d inner list ts at seen)
    unfolding stat_more
    fit_stat_more list at seen = post_bind ts Inner (λ longer to. HasMore list longer at to) inner _ at seen (hs at seen) (λ x to s1 r a. stats_longer limits d list x a r)

    abbrev HasStats : List StatTree × Place → ℕ → Type 0
    HasStats x to = StatsFit limits d x.0

    fit_stats : (at seen : ℕ) → Post HasStats (stats limits room d inner ts at seen)
    unfolding stats
    fit_stats at seen = post_bind ts (λ all to. HasMore [] all at to) HasStats (turns (in_block limits room d inner) (stat_more limits room d inner) limits.turns []) _ at seen
        (post_turns ts HasMore HasMore (in_block limits room d inner) (stat_more limits room d inner) (λ list at r. r) (λ a b c from mid to o r q. r (o q)) (λ list from s1 e. fit_stat_more list from s1) limits.turns [] at seen)
        (λ all mid s1 r. post_bind ts Any HasStats (expect m.CloseBrace) _ mid s1 (post_unit (expect m.CloseBrace ts mid s1)) (λ p to s2 z. r (record { sizes = keep_none limits in_stat d; rules_ = free_or limits.free true refl })))

    module _ (g : suc d ≤ top) where
      fit_block_rest : (begin : Place) (at seen : ℕ) → Post IsStat (block_rest limits room d inner begin ts at seen)
      unfolding block_rest
      fit_block_rest begin at seen = post_bind ts HasStats IsStat (stats limits room d inner) _ at seen (fit_stats at seen)
          (λ x to s1 r. let p = span begin x.1 in stands limits d top (stated p (s.Block x.0)) (λ count. greatest (map (in_stat count) x.0)) g (λ count. of_block count p x.0) (rules_block p x.0 ∙ or_is limits.free (all_true (map stat_obeys x.0)) is_free r.rules_) r.sizes)

      of_simple : (x : Simple) (to : ℕ) (end : Place) → IsSimple ts limits is_free d x to → StatFits limits top (simple_stated limits d x end)
      of_simple (IsLocal x) to end r = let p = span x.place end in stands limits d top (stated p (s.Local x)) (λ count. in_local count x) g (λ count. of_local count p x) (rules_local p x) r
      of_simple (IsChange x) to end r = let p = span x.place end in stands limits d top (stated p (s.Change x)) (λ count. in_change count x) g (λ count. of_change count p x) (rules_change p x) r

      fit_simple_stat : (at seen : ℕ) → Post IsStat (simple_stat limits room d inner ts at seen)
      unfolding simple_stat
      fit_simple_stat at seen = post_bind ts (IsSimple ts limits is_free d) IsStat (simple limits d) _ at seen (keep_simple ts limits is_free d at seen)
          (λ x mid s1 r. post_bind ts Any IsStat (expect m.Semicolon) _ mid s1 (post_unit (expect m.Semicolon ts mid s1)) (λ end to s2 z. of_simple x mid end r))

      fit_if_rest : (begin : Place) (at seen : ℕ) → Post IsStat (if_rest limits room d inner begin ts at seen)
      unfolding if_rest if_else
      fit_if_rest begin at seen = post_bind ts (IsCondition ts limits is_free d) IsStat (condition limits d) _ at seen (keep_condition ts limits is_free d at seen)
          (λ x mid s1 r. post_bind ts Inner IsStat inner _ mid s1 (hs mid s1) (λ y to s2 v. post_next ts IsStat _ to s2 (λ z e. by x r y to v z (sees_word w.Else z))))
        where
          by : (x : ExprTree) → Keeps limits d (λ count. count.of_value x) → (y : StatTree) (to : ℕ) → StatFits limits d y → (z : Option Lexed) (b : Bool) → PostChoice ts IsStat to z (else_by limits room d inner begin x y b)
          by x r y to v z true = post_take ts IsStat to z _ (λ s3. post_bind ts Inner IsStat inner _ (to + 1) s3 (hs (to + 1) s3)
              (λ c last s4 h. let p = span begin c.place in stands limits d top (stated p (s.IfElse x y c)) (λ count. max (count.of_value x) (max (in_stat count y) (in_stat count c))) g
              (λ count. of_else count p x y c) (rules_else p x y c ∙ and_both (stat_obeys y) (stat_obeys c) (or_is limits.free (stat_obeys y) is_free v.rules) (or_is limits.free (stat_obeys c) is_free h.rules))
              (both_keep limits d (λ count. count.of_value x) (λ count. max (in_stat count y) (in_stat count c)) r (both_keep limits d (λ count. in_stat count y) (λ count. in_stat count c) v.sizes h.sizes))))
          by x r y to v z false = λ s3. let p = span begin y.place in stands limits d top (stated p (s.If x y)) (λ count. max (count.of_value x) (in_stat count y)) g (λ count. of_if count p x y) (rules_if p x y ∙ or_is limits.free (stat_obeys y) is_free v.rules)
              (both_keep limits d (λ count. count.of_value x) (λ count. in_stat count y) r v.sizes)

      fit_for_rest : (list : List Attribute) (begin : Place) (at seen : ℕ) → Before limits d list → Post IsStat (for_rest limits room d inner list begin ts at seen)
      unfolding for_rest
      fit_for_rest list begin at seen o = post_bind ts (IsHead ts limits is_free d) IsStat (head limits d) _ at seen (keep_head ts limits is_free d at seen)
          (λ h mid s1 r. post_bind ts Inner IsStat inner _ mid s1 (hs mid s1)
          (λ y to s2 v. let p = span (begin_of list begin) y.place in
          stands limits d top (stated p (s.For list h.0 h.1 h.2 y)) (λ count. max (in_attributes count list) (max (in_head count h.0 h.1 h.2) (in_stat count y))) g (λ count. of_for count p list h.0 h.1 h.2 y)
          (rules_for p list h.0 h.1 h.2 y ∙ and_both (obeys target.Loop list) (stat_obeys y) o.1 (or_is limits.free (stat_obeys y) is_free v.rules))
          (both_keep limits d (λ count. in_attributes count list) (λ count. max (in_head count h.0 h.1 h.2) (in_stat count y)) o.0 (both_keep limits d (λ count. in_head count h.0 h.1 h.2) (λ count. in_stat count y) r v.sizes))))

      fit_while_rest : (list : List Attribute) (begin : Place) (at seen : ℕ) → Before limits d list → Post IsStat (while_rest limits room d inner list begin ts at seen)
      unfolding while_rest
      fit_while_rest list begin at seen o = post_bind ts (IsCondition ts limits is_free d) IsStat (condition limits d) _ at seen (keep_condition ts limits is_free d at seen)
          (λ x mid s1 r. post_bind ts Inner IsStat inner _ mid s1 (hs mid s1)
          (λ y to s2 v. let p = span (begin_of list begin) y.place in
          stands limits d top (stated p (s.While list x y)) (λ count. max (in_attributes count list) (max (count.of_value x) (in_stat count y))) g (λ count. of_while count p list x y)
          (rules_while p list x y ∙ and_both (obeys target.Loop list) (stat_obeys y) o.1 (or_is limits.free (stat_obeys y) is_free v.rules))
          (both_keep limits d (λ count. in_attributes count list) (λ count. max (count.of_value x) (in_stat count y)) o.0 (both_keep limits d (λ count. count.of_value x) (λ count. in_stat count y) r v.sizes))))

      fit_loop_as : (a : Given) → Before limits d a.0 → (at : ℕ) (tok : Lexed) (v : StatementUse) → PostChoice ts IsStat at (Some tok) (loop_as limits room d inner a tok v)
      fit_loop_as a o at tok u.For = λ s1. fit_for_rest a.0 tok.place (at + 1) s1 o
      fit_loop_as a o at tok u.While = λ s1. fit_while_rest a.0 tok.place (at + 1) s1 o
      fit_loop_as a o at tok u.Block = tt
      fit_loop_as a o at tok u.Empty = tt
      fit_loop_as a o at tok u.Attributes = tt
      fit_loop_as a o at tok u.Simple = tt
      fit_loop_as a o at tok u.If = tt
      fit_loop_as a o at tok u.Return = tt
      fit_loop_as a o at tok u.Break = tt
      fit_loop_as a o at tok u.Continue = tt
      fit_loop_as a o at tok u.Nothing = tt

      fit_loop_rest : (at seen : ℕ) → Post IsStat (loop_rest limits room d inner ts at seen)
      unfolding loop_rest
      fit_loop_rest at seen = post_bind ts (λ (a : Given) (to : ℕ). Taken limits loops a) IsStat (attributes limits loops) _ at seen (taken_attributes limits loops ts is_free refl at seen)
          (λ a mid s1 l. post_next ts IsStat (loop_at limits room d inner a) mid s1 (λ x e. go a (before_given limits d a l) mid x))
        where
          go : (a : Given) → Before limits d a.0 → (mid : ℕ) (x : Option Lexed) → PostChoice ts IsStat mid x (loop_at limits room d inner a x)
          go a o mid (Some tok) = fit_loop_as a o mid tok (statement_use tok.kind)
          go a o mid None = tt

      fit_return_rest : (begin : Place) (at seen : ℕ) → Post IsStat (return_rest limits room d inner begin ts at seen)
      unfolding return_rest
      fit_return_rest begin at seen = post_bind ts (IsMaybe ts limits is_free d) IsStat (maybe limits d) _ at seen (keep_maybe ts limits is_free d at seen)
          (λ x mid s1 r. post_bind ts Any IsStat (expect m.Semicolon) _ mid s1 (post_unit (expect m.Semicolon ts mid s1))
          (λ end to s2 z. let p = span begin end in stands limits d top (stated p (s.Return x)) (λ count. optional count.of_value x) g (λ count. of_return count p x) (rules_return p x) r))

      fit_break_rest : (begin : Place) (at seen : ℕ) → Post IsStat (break_rest limits room d inner begin ts at seen)
      unfolding break_rest
      fit_break_rest begin at seen = post_bind ts Any IsStat (expect m.Semicolon) _ at seen (post_unit (expect m.Semicolon ts at seen))
          (λ end to s1 z. let p = span begin end in stands limits d top (stated p s.Break) (λ count. 0) g (λ count. of_break count p) (rules_break p) (nothing_keeps limits d))

      fit_continue_rest : (begin : Place) (at seen : ℕ) → Post IsStat (continue_rest limits room d inner begin ts at seen)
      unfolding continue_rest
      fit_continue_rest begin at seen = post_bind ts Any IsStat (expect m.Semicolon) _ at seen (post_unit (expect m.Semicolon ts at seen))
          (λ end to s1 z. let p = span begin end in stands limits d top (stated p s.Continue) (λ count. 0) g (λ count. of_continue count p) (rules_continue p) (nothing_keeps limits d))

    fit_fitting : (at : ℕ) (tok : Lexed) (c : Choice StatTree) → (suc d ≤ top → PostChoice ts IsStat at (Some tok) c) → PostChoice ts IsStat at (Some tok) (step.node limits room d inner tok c)
    fit_fitting at tok c p = post_fits ts IsStat at (Some tok) room code.TooNested c (λ f. p (fits f))

    fit_stat_as : (at : ℕ) (tok : Lexed) (v : StatementUse) → PostChoice ts IsStat at (Some tok) (stat_as limits room d inner tok v)
    fit_stat_as at tok u.Block = fit_fitting at tok (Take (block_rest limits room d inner tok.place)) (λ g s1. fit_block_rest g tok.place (at + 1) s1)
    fit_stat_as at tok u.Empty = fit_fitting at tok (Take (pure (stated tok.place s.Empty))) (λ g s1. stands limits d top (stated tok.place s.Empty) (λ count. 0) g (λ count. of_empty count tok.place) (rules_empty tok.place) (nothing_keeps limits d))
    fit_stat_as at tok u.Attributes = fit_fitting at tok (Leave (loop_rest limits room d inner)) (λ g s1. fit_loop_rest g at s1)
    fit_stat_as at tok u.Simple = fit_fitting at tok (Leave (simple_stat limits room d inner)) (λ g s1. fit_simple_stat g at s1)
    fit_stat_as at tok u.If = fit_fitting at tok (Take (if_rest limits room d inner tok.place)) (λ g s1. fit_if_rest g tok.place (at + 1) s1)
    fit_stat_as at tok u.For = fit_fitting at tok (Take (for_rest limits room d inner [] tok.place)) (λ g s1. fit_for_rest g [] tok.place (at + 1) s1 (before_none limits d))
    fit_stat_as at tok u.While = fit_fitting at tok (Take (while_rest limits room d inner [] tok.place)) (λ g s1. fit_while_rest g [] tok.place (at + 1) s1 (before_none limits d))
    fit_stat_as at tok u.Return = fit_fitting at tok (Take (return_rest limits room d inner tok.place)) (λ g s1. fit_return_rest g tok.place (at + 1) s1)
    fit_stat_as at tok u.Break = fit_fitting at tok (Take (break_rest limits room d inner tok.place)) (λ g s1. fit_break_rest g tok.place (at + 1) s1)
    fit_stat_as at tok u.Continue = fit_fitting at tok (Take (continue_rest limits room d inner tok.place)) (λ g s1. fit_continue_rest g tok.place (at + 1) s1)
    fit_stat_as at tok u.Nothing = tt

    fit_stat : (at seen : ℕ) → Post IsStat (stat limits room d inner ts at seen)
    unfolding stat
    fit_stat at seen = post_next ts IsStat (stat_at limits room d inner) at seen (λ x e. go x)
      where
        go : (x : Option Lexed) → PostChoice ts IsStat at x (stat_at limits room d inner x)
        go (Some tok) = fit_stat_as at tok (statement_use tok.kind)
        go None = tt

    abbrev IsBlock : Block → ℕ → Type 0
    IsBlock x to = BlockFits limits top x

    block_stands : (p : Place) (list : List StatTree) → suc d ≤ top → StatsFit limits d list → BlockFits limits top (record { place = p; statements = list })
    block_stands p list g a = record {
      sizes = more_room limits (suc d) top (λ count. count.over (greatest (map (in_stat count) list))) g (node_keeps limits d (λ count. greatest (map (in_stat count) list)) (λ count. count.over (greatest (map (in_stat count) list))) (λ count. refl) a.sizes);
      rules = a.rules_;
    }

    fit_body : (at seen : ℕ) → Post IsBlock (body limits room d inner ts at seen)
    unfolding body body_rest
    fit_body at seen = post_next ts IsBlock _ at seen (λ x e. by x (sees m.OpenBrace x))
      where
        by : (x : Option Lexed) (b : Bool) → PostChoice ts IsBlock at x (body_by limits room d inner x b)
        by x true = post_fits ts IsBlock at x room code.TooNested (Take (body_rest limits room d inner (place_of x))) (λ f. post_take ts IsBlock at x (body_rest limits room d inner (place_of x))
            (λ s1. post_bind ts HasStats IsBlock (stats limits room d inner) _ (at + 1) s1 (fit_stats (at + 1) s1) (λ v to s2 r. block_stands (span (place_of x) v.1) v.0 (fits f) r)))
        by x false = tt

  pub fit_statements : (d at seen : ℕ) → Post (λ (x : StatTree) (to : ℕ). StatFits limits d x) (statements limits d ts at seen)
  unfolding statements
  fit_statements zero at seen = fit_stat false zero no_statements zero (no_fit zero) (λ at seen. tt) at seen
  fit_statements (suc d) at seen = fit_stat true d (statements limits d) (suc d) (λ e. one_fits d) (fit_statements d) at seen

  pub fit_blocks : (d at seen : ℕ) → Post (λ (x : Block) (to : ℕ). BlockFits limits d x) (blocks limits d ts at seen)
  unfolding blocks
  fit_blocks zero at seen = fit_body false zero no_statements zero (no_fit zero) (λ at seen. tt) at seen
  fit_blocks (suc d) at seen = fit_body true d (statements limits d) (suc d) (λ e. one_fits d) (fit_statements d) at seen
