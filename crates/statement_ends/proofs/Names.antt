-- Declared names and what they begin with: what was looked at, but for the last token, goes on to be one.
use Rattle.std.proofs.Common.{Bool, true, false, ◌≡◌, ℕ, zero, suc, ◌+◌, ◌<◌, List, [], ◌∷◌, ◌++◌, length, Option, Some, refl, ap, if◌then◌else◌, arith}
use Rattle.std.specs.Prelude.{nat_lt}
use Rattle.std.proofs.lemmas.Bool.Decides.{nat_tests}
use Rattle.slang_names.specs.declared.places.Place.{Place}
use Rattle.slang_names.specs.declared.codes.ModuleCode.TheVariants as code
use Rattle.slang_tree.specs.declared.statements.Initializer.{Initializer}
use Rattle.slang_tree.specs.declared.statements.Initializer.TheVariants as i
use Rattle.slang_tokens.specs.declared.tokens.Kind.TheVariants as k
use Rattle.slang_tokens.specs.declared.tokens.Mark.TheVariants as m
use Rattle.slang_reading.specs.Lexed.{Lexed}
use Rattle.slang_reading.specs.Reading.{Parser, Leave, Take, Refuse, if_fits, ◌>>=◌, pure, place_of, next, turns}
use Rattle.slang_reading.specs.Kinds.{sees, span}
use Rattle.slang_reading.proofs.Tame.{Tame, tame_pure, tame_past, tame_bind, Each, each_fits, tame_next, tame_turns}
use Rattle.slang_reading.proofs.Viable.{Finishes, Viable, viable_past, EachPair, finishes_next_leave, viable_next, pair_fits, Ready, ready_bind, ready_last, ready_turns}
use Rattle.slang_grammar.specs.Expressions.{loosest}
use Rattle.slang_grammar.specs.Descent.{Limits, fits_in, expect, name, bracketed}
use Rattle.slang_grammar.specs.ExpressionsDescent.{Value, expressions}
use Rattle.slang_grammar.proofs.TypesReady.{token, mark, zero_number, Any, ready_expect, ready_name, ready_bracketed, tame_expect, pair_items}
use Rattle.expression_grammar.proofs.Ready.{Ends, call_path, zero_call, tame_leveled, ready_leveled}
use Rattle.statement_grammar.specs.Statements.{declared, listed}
use Rattle.statement_grammar.specs.StatementsDescent.{Lengths, length_more, declared_name, Initial, begins_item, item_of, item, item_more, items_rest, no_items, list_by, list_rest, initial_by, initial, no_initial, initials}
use Rattle.statement_ends.proofs.Roomy.{roomy, roomier, wider}

module _ (limits : Limits) where
  abbrev large : Limits
  large = roomy limits

  -- ---- declared names

  pub viable_length_more : (list : Lengths) → Viable Any (length_more limits list) (length_more large list)
  unfolding length_more
  viable_length_more list = (ready_bind Any Any (mark m.OpenBracket ∷ []) (zero_number ∷ mark m.CloseBracket ∷ []) (expect m.OpenBracket) (expect m.OpenBracket) _ _ (λ rest f. tt) (ready_expect Any m.OpenBracket)
      (λ p. ready_bind Any Any (zero_number ∷ []) (mark m.CloseBracket ∷ []) (bracketed limits) (bracketed large) _ _ (λ rest f. tt) (ready_bracketed limits large (wider limits) Any)
      (λ x. ready_last Any (mark m.CloseBracket ∷ []) (expect m.CloseBracket) (expect m.CloseBracket) (λ end. (list.0 ++ x ∷ [], end)) (ready_expect Any m.CloseBracket)))).viable

  abbrev Unlengthened : Option Lexed → Type 0
  Unlengthened x = sees m.OpenBracket x ≡ false

  pub ready_declared : Ready Unlengthened (token k.Name ∷ []) (declared_name limits) (declared_name large)
  unfolding declared_name
  ready_declared = ready_bind Unlengthened Any (token k.Name ∷ []) [] (name limits) (name large) _ _ (λ rest f. tt) (ready_name limits large (wider limits) Any)
      (λ id. ready_last Unlengthened [] (turns (sees m.OpenBracket) (length_more limits) limits.turns ([], id.place)) (turns (sees m.OpenBracket) (length_more large) large.turns ([], id.place)) (λ list. (declared id list.0 list.1, list.1))
      (ready_turns Unlengthened Any (sees m.OpenBracket) (length_more limits) (length_more large) limits.turns large.turns ([], id.place) (omega arith) (λ y c. tt) (λ y c. c) viable_length_more))

  -- ---- what has more room is tame, whatever it holds

  module _ (room : Bool) (e : ℕ) (value : Parser Value) (inner : Parser Initial) (hv : Tame value) (hi : Tame inner) where
    tame_item : (count : ℕ) → Tame (item large room e value inner count)
    unfolding item
    tame_item count = tame_next _ (λ x. each_fits Tame (fits_in large count large.items) code.TooLong x (item_of large room e value inner x) (by x (begins_item large room e value inner x)))
      where
        by : (x : Option Lexed) (b : Bool) → Each Tame (if b then if_fits (nat_lt 0 e) code.TooNested x (Leave inner) else Refuse)
        by x true = each_fits Tame (nat_lt 0 e) code.TooNested x (Leave inner) hi
        by x false = tt

    closing : {A : Type 0} (f : Place → A) → Tame (expect m.CloseBrace >>= (λ end. pure (f end)))
    closing f = tame_bind _ (λ end. tame_pure _) (expect m.CloseBrace) (tame_expect limits large (wider limits) m.CloseBrace)

    tame_item_more : (list : List Initializer) → Tame (item_more large room e value inner list)
    unfolding item_more
    tame_item_more list = tame_bind _ (λ p. tame_bind _ (λ x. tame_pure _) (item large room e value inner (length list)) (tame_item (length list))) (expect m.Comma) (tame_expect limits large (wider limits) m.Comma)

    tame_list_rest : (begin : Place) → Tame (list_rest large room e value inner begin)
    unfolding list_rest items_rest no_items
    tame_list_rest begin = tame_next _ (λ x. by (sees m.CloseBrace x))
      where
        by : (b : Bool) → Each Tame (list_by large room e value inner begin b)
        by true = closing _
        by false = tame_bind _ (λ x. tame_bind _ (λ list. closing _) (turns (sees m.Comma) (item_more large room e value inner) large.turns (x.0 ∷ []))
            (tame_turns (sees m.Comma) (item_more large room e value inner) tame_item_more large.turns (x.0 ∷ []))) (item large room e value inner 0) (tame_item 0)

    tame_initial : Tame (initial large room e value inner)
    unfolding initial
    tame_initial = tame_next _ (λ x. by x (sees m.OpenBrace x))
      where
        by : (x : Option Lexed) (b : Bool) → Each Tame (initial_by large room e value inner x b)
        by x true = each_fits Tame room code.TooNested x (Take (list_rest large room e value inner (place_of x) >>= (λ y. pure (i.List y, y.place)))) (tame_bind _ (λ y. tame_pure _) (list_rest large room e value inner (place_of x)) (tame_list_rest (place_of x)))
        by x false = tame_bind _ (λ v. tame_pure _) value hv

  tame_value : (e : ℕ) → Tame (expressions large e)
  tame_value e = tame_leveled limits large (roomier limits) e (suc loosest)

  tame_initials : (e : ℕ) → Tame (initials large e)
  unfolding initials
  tame_initials zero = tame_initial false zero (expressions large zero) no_initial (tame_value zero) (tame_past _ _)
  tame_initials (suc e) = tame_initial true e (expressions large (suc e)) (initials large e) (tame_value (suc e)) (tame_initials e)

  -- ---- expressions and lists

  pub ready_value : (e d : ℕ) → large.turns + 2 + d < e → Ready Ends zero_call (expressions limits d) (expressions large e)
  ready_value e d h = ready_leveled limits large (roomier limits) e d (suc loosest) h

  module _ (room : Bool) (d e : ℕ) (more : 0 < e) (v u : Parser Value) (hv : Ready Ends zero_call v u) (p q : Parser Initial) (h : Ready Ends zero_call p q) where
    ready_item : (count : ℕ) → Ready Ends zero_call (item limits room d v p count) (item large true e u q count)
    unfolding item
    ready_item count = record {
      viable = viable_next Ends (λ x. if_fits (fits_in large count large.items) code.TooLong x (item_of large true e u q x)) (λ x. if_fits (fits_in limits count limits.items) code.TooLong x (item_of limits room d v p x)) zero_call finishes
          (λ x. pair_items limits large (wider limits) Ends x count limits.items large.items (item_of limits room d v p x) (item_of large true e u q x) (by x (begins_item limits room d v p x)));
      finishes = finishes;
    }
      where
        fits : nat_lt 0 e ≡ true
        fits = grind (arith, nat_tests, more)

        finishes : Finishes Ends zero_call (next (λ x. if_fits (fits_in large count large.items) code.TooLong x (item_of large true e u q x)))
        finishes = finishes_next_leave Ends (λ x. if_fits (fits_in large count large.items) code.TooLong x (item_of large true e u q x)) zero_number call_path q
            (ap (λ b. if_fits b code.TooNested (Some zero_number) (Leave q)) fits) h.finishes

        by : (x : Option Lexed) (b : Bool) → EachPair (Viable Ends) (if b then if_fits (nat_lt 0 d) code.TooNested x (Leave p) else Refuse) (if b then if_fits (nat_lt 0 e) code.TooNested x (Leave q) else Refuse)
        by x true = pair_fits Ends (nat_lt 0 d) (nat_lt 0 e) code.TooNested x (Leave p) (Leave q) (λ t. fits) h.viable
        by x false = tt

    -- behind the items so far: nothing that goes on an expression, and no comma
    abbrev Closes : Option Lexed → Type 0
    Closes x = Ends x × (sees m.Comma x ≡ false)

    viable_item_more : (list : List Initializer) → Viable Ends (item_more limits room d v p list) (item_more large true e u q list)
    unfolding item_more
    viable_item_more list = (ready_bind Ends Any (mark m.Comma ∷ []) zero_call (expect m.Comma) (expect m.Comma) _ _ (λ rest f. tt) (ready_expect Any m.Comma)
        (λ o. ready_last Ends zero_call (item limits room d v p (length list)) (item large true e u q (length list)) (λ x. list ++ x.0 ∷ []) (ready_item (length list)))).viable

    viable_items_rest : (F : Option Lexed → Type 0) (begin : Place) → Viable F (items_rest limits room d v p begin) (items_rest large true e u q begin)
    unfolding items_rest
    viable_items_rest F begin = (ready_bind F Ends zero_call (mark m.CloseBrace ∷ []) (item limits room d v p 0) (item large true e u q 0) _ _ (λ rest f. refl) (ready_item 0)
        (λ x. ready_bind F Closes [] (mark m.CloseBrace ∷ []) (turns (sees m.Comma) (item_more limits room d v p) limits.turns (x.0 ∷ [])) (turns (sees m.Comma) (item_more large true e u q) large.turns (x.0 ∷ [])) _ _ (λ rest f. (refl, refl))
        (ready_turns Closes Ends (sees m.Comma) (item_more limits room d v p) (item_more large true e u q) limits.turns large.turns (x.0 ∷ []) (omega arith) (λ y c. c.0) (λ y c. c.1) viable_item_more)
        (λ list. ready_last F (mark m.CloseBrace ∷ []) (expect m.CloseBrace) (expect m.CloseBrace) (λ end. listed (span begin end) list) (ready_expect F m.CloseBrace)))).viable

    ready_list_rest : (F : Option Lexed → Type 0) (begin : Place) → Ready F (mark m.CloseBrace ∷ []) (list_rest limits room d v p begin) (list_rest large true e u q begin)
    unfolding list_rest no_items
    ready_list_rest F begin = record {
      viable = viable_next F (λ x. list_by large true e u q begin (sees m.CloseBrace x)) (λ x. list_by limits room d v p begin (sees m.CloseBrace x)) (mark m.CloseBrace ∷ []) finishes (λ x. by (sees m.CloseBrace x));
      finishes = finishes;
    }
      where
        none : Ready F (mark m.CloseBrace ∷ []) (expect m.CloseBrace >>= (λ end. pure (listed (span begin end) []))) (expect m.CloseBrace >>= (λ end. pure (listed (span begin end) [])))
        none = ready_last F (mark m.CloseBrace ∷ []) (expect m.CloseBrace) (expect m.CloseBrace) (λ end. listed (span begin end) []) (ready_expect F m.CloseBrace)

        finishes : Finishes F (mark m.CloseBrace ∷ []) (next (λ x. list_by large true e u q begin (sees m.CloseBrace x)))
        finishes = finishes_next_leave F (λ x. list_by large true e u q begin (sees m.CloseBrace x)) (mark m.CloseBrace) [] _ refl none.finishes

        by : (b : Bool) → EachPair (Viable F) (list_by limits room d v p begin b) (list_by large true e u q begin b)
        by true = none.viable
        by false = viable_items_rest F begin

    ready_initial : Ready Ends zero_call (initial limits room d v p) (initial large true e u q)
    unfolding initial
    ready_initial = record {
      viable = viable_next Ends (λ x. initial_by large true e u q x (sees m.OpenBrace x)) (λ x. initial_by limits room d v p x (sees m.OpenBrace x)) zero_call finishes (λ x. by x (sees m.OpenBrace x));
      finishes = finishes;
    }
      where
        alone : Ready {A = Initial} Ends zero_call (v >>= (λ x. pure (i.Expression x.0, x.0.place))) (u >>= (λ x. pure (i.Expression x.0, x.0.place)))
        alone = ready_last Ends zero_call v u (λ x. (i.Expression x.0, x.0.place)) hv

        finishes : Finishes Ends zero_call (next (λ x. initial_by large true e u q x (sees m.OpenBrace x)))
        finishes = finishes_next_leave Ends (λ x. initial_by large true e u q x (sees m.OpenBrace x)) zero_number call_path _ refl alone.finishes

        by : (x : Option Lexed) (b : Bool) → EachPair (Viable Ends) (initial_by limits room d v p x b) (initial_by large true e u q x b)
        by x true = pair_fits Ends room true code.TooNested x (Take (list_rest limits room d v p (place_of x) >>= (λ y. pure (i.List y, y.place)))) (Take (list_rest large true e u q (place_of x) >>= (λ y. pure (i.List y, y.place)))) (λ t. refl)
            (ready_last Ends (mark m.CloseBrace ∷ []) (list_rest limits room d v p (place_of x)) (list_rest large true e u q (place_of x)) (λ y. (i.List y, y.place)) (ready_list_rest Ends (place_of x))).viable
        by x false = alone.viable

  finishes_initials : (e : ℕ) → large.turns + 2 < e → Finishes Ends zero_call (initials large e)
  unfolding initials initial
  finishes_initials zero h = absurd (omega arith)
  finishes_initials (suc e) h = finishes_next_leave Ends (λ x. initial_by large true e (expressions large (suc e)) (initials large e) x (sees m.OpenBrace x)) zero_number call_path _ refl
      (ready_last Ends zero_call (expressions limits zero) (expressions large (suc e)) (λ x. (i.Expression x.0, x.0.place)) (ready_value (suc e) zero (omega (arith, h)))).finishes

  pub ready_initials : (e d : ℕ) → large.turns + 3 + d < e → Ready Ends zero_call (initials limits d) (initials large e)
  unfolding initials
  ready_initials zero d h = absurd (omega arith)
  ready_initials (suc e) zero h = ready_initial false zero e (omega (arith, h)) (expressions limits zero) (expressions large (suc e)) (ready_value (suc e) zero (omega (arith, h))) no_initial (initials large e)
      (record { viable = viable_past Ends _ _ (initials large e) (tame_initials e); finishes = finishes_initials e (omega (arith, h)) })
  ready_initials (suc e) (suc d) h = ready_initial true d e (omega (arith, h)) (expressions limits (suc d)) (expressions large (suc e)) (ready_value (suc e) (suc d) (omega (arith, h))) (initials limits d) (initials large e)
      (ready_initials e d (omega (arith, h)))
