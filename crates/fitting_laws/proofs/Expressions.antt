-- Expressions: no list and no name of what is read is too long.
use Rattle.std.proofs.Common.{Bool, true, false, ◌≡◌, ℕ, zero, suc, ◌+◌, ◌≤◌, List, [], ◌∷◌, length, Option, Some, None, refl, sym, subst, ◌==◌, if◌then◌else◌}
use Rattle.std.specs.Prelude.{nat_lt}
use Rattle.slang_names.specs.declared.places.Place.{Place}
use Rattle.slang_names.specs.declared.codes.ModuleCode.TheVariants as code
use Rattle.slang_tree.specs.declared.types.Identifier.{Identifier}
use Rattle.slang_tree.specs.declared.types.Builtin.{Builtin}
use Rattle.slang_tree.specs.declared.expressions.UnaryOperator.{UnaryOperator}
use Rattle.slang_tree.specs.declared.expressions.BinaryOperator.{BinaryOperator}
use Rattle.slang_tree.specs.declared.expressions.BinaryOperator.TheVariants as o
use Rattle.slang_tokens.specs.declared.tokens.Kind.{Kind}
use Rattle.slang_tokens.specs.declared.tokens.Kind.TheVariants as k
use Rattle.slang_tokens.specs.declared.tokens.Mark.{Mark}
use Rattle.slang_tokens.specs.declared.tokens.Mark.TheVariants as m
use Rattle.slang_tokens.specs.declared.tokens.Word.{Word}
use Rattle.slang_reading.specs.Lexed.{Lexed}
use Rattle.slang_reading.specs.Reading.{Parser, Leave, Take, Refuse, Pass, if_fits, pure, past, place_of, next, attempt, turns}
use Rattle.slang_reading.specs.Kinds.{is_mark, sees, span}
use Rattle.slang_reading.proofs.Marks.{same_mark}
use Rattle.slang_reading.proofs.Exact.{Post, PostChoice, post_bind, post_next, post_fits, post_turns, post_unit, post_attempt, post_weaken}
use Rattle.slang_grammar.specs.Tables.{builtin_of, unary_of, binary_of, level_of}
use Rattle.slang_grammar.specs.Expressions.{loosest}
use Rattle.slang_grammar.specs.Descent.{Limits, fits_in, expect, identifier, is_short}
use Rattle.slang_grammar.specs.TypesDescent.{Arguments, arguments, types}
use Rattle.slang_grammar.specs.ExpressionsDescent.{Value, Values, arguments_ahead, Given, given_by, given_at, given, repeats, begins, joined, shift_ahead, cast_ahead, whole, over, value_of, value, value_more, values_by, values, construct, primary_word, named, paren, primary_by, member_name, member_by, member_at, index, call, chain_by, chain_at, chain, chains, chain_rest, primary_at, postfix, prefix, cast_by, unary_mark, unary_by, unary_at, unary, operand, greater, shift_by, operator_mark, operator_by, operator_at, operator, level, choice, choice_by, choice_rest, at_level, leveled, expressions}
use Rattle.expression_grammar.specs.Heights.{expr_height}
use Rattle.expression_grammar.specs.Sizes.{Fits}
use Rattle.expression_grammar.proofs.Tall.{tall_leveled}
use Rattle.expression_grammar.proofs.Parts.{post_ahead, TurnIs, post_repeats}
use Rattle.expression_grammar.proofs.Tables.{operator_other, unary_other, primary_other, chain_other, WordOf, true_word, false_word, this_value, this_type, other, word_of}
use Rattle.statement_grammar.specs.StatementsDescent.{operand_begins, operand_past, no_values, operands}
use Rattle.statement_grammar.proofs.Shared.{post_both}
use Rattle.nesting_laws.proofs.TypesLow.{fits_less, Any}
use Rattle.nesting_laws.proofs.ExpressionsLow.{low_leveled, low_operands}
use Rattle.nesting_laws.proofs.Reading.{tall_operands}
use Rattle.fitting_laws.proofs.Sizes.{short_enough, SmallArguments, small_none, SmallExpr, SmallValues, small_value, small_true, small_false, small_this_value, small_this_type_value, small_name, small_construct, small_paren, small_member, small_index, small_call, small_unary, small_cast, small_binary, small_choice, small_no_values, small_one_value, small_more_values}
use Rattle.fitting_laws.proofs.Types.{choice_weaken, fit_arguments, small_types}

module _ (ts : List Lexed) (limits : Limits) (is_free : limits.free ≡ false) (d : ℕ) where
  -- an expression, values in parentheses, and what stands behind a name
  abbrev IsSmall : Value → ℕ → Type 0
  IsSmall x to = SmallExpr limits x.0

  abbrev IsValues : Values × Place → ℕ → Type 0
  IsValues r to = SmallValues limits r.0.0

  abbrev IsGiven : Given → ℕ → Type 0
  IsGiven a to = SmallArguments limits a.0

  fit_given_by : (place : Place) (at seen : ℕ) (b : Bool) → Post IsGiven (given_by limits d place b ts at seen)
  fit_given_by place at seen true = post_bind ts (λ (r : Arguments × Place) (to : ℕ). SmallArguments limits r.0.0) IsGiven (arguments limits true d (types limits d)) _ at seen
      (fit_arguments ts limits is_free true d (types limits d) (λ from seen1. small_types ts limits is_free d from seen1) at seen) (λ a to seen1 r. r)
  fit_given_by place at seen false = small_none limits

  pub fit_given : (place : Place) (at seen : ℕ) → Post IsGiven (given limits d place ts at seen)
  unfolding given
  fit_given place at seen = post_next ts IsGiven _ at seen (λ x e. by x (sees m.Less x))
    where
      by : (x : Option Lexed) (b : Bool) → PostChoice ts IsGiven at x (given_at limits d place b)
      by x true = λ seen1. post_ahead ts (arguments_ahead limits) (given_by limits d place) at seen1 IsGiven
          (λ b mid seen2 r. fit_given_by place at seen2 true) (λ seen2 r. fit_given_by place at seen2 false)
      by x false = λ seen1. small_none limits

  module _ (inner : ℕ → Parser Value) (h : (l at seen : ℕ) → Post (λ (x : Value) (to : ℕ). SmallExpr limits x.0) (inner l ts at seen)) where
    -- ---- values between parentheses

    -- behind so many others
    abbrev Behind : ℕ → Value → ℕ → Type 0
    Behind count x to = (count + 1 ≤ limits.items) × SmallExpr limits x.0

    fit_value : (count at seen : ℕ) → Post (Behind count) (value limits d inner count ts at seen)
    unfolding value
    fit_value count at seen = post_next ts (Behind count) _ at seen
        (λ x e. post_fits ts (Behind count) at x (fits_in limits count limits.items) code.TooLong (value_of limits d inner x)
        (λ f. choice_weaken ts IsSmall (Behind count) (λ a to r. (fits_less limits count limits.items is_free f, r)) at x (value_of limits d inner x) (by x (begins x))))
      where
        by : (x : Option Lexed) (b : Bool) → PostChoice ts IsSmall at x (if b then if_fits (nat_lt 0 d) code.TooNested x (Leave (whole limits d inner)) else Refuse)
        by x true = post_fits ts IsSmall at x (nat_lt 0 d) code.TooNested (Leave (whole limits d inner)) (λ f seen1. h (suc loosest) at seen1)
        by x false = tt

    abbrev Stays : Values → Values → ℕ → ℕ → Type 0
    Stays a b from to = SmallValues limits a.0 → SmallValues limits b.0

    fit_value_more : (list : Values) (at seen : ℕ) → Post (λ b mid. Stays list b at mid) (value_more limits d inner list ts at seen)
    unfolding value_more
    fit_value_more list at seen = post_bind ts Any (λ b mid. Stays list b at mid) (expect m.Comma) _ at seen (post_unit (expect m.Comma ts at seen))
        (λ p mid seen1 u. post_bind ts (Behind (length list.0)) (λ b to. Stays list b at to) (value limits d inner (length list.0)) _ mid seen1 (fit_value (length list.0) mid seen1)
        (λ x to seen2 r s. small_more_values limits list.0 x.0 r.0 s r.1))

    fit_values : (at seen : ℕ) → Post IsValues (values limits d inner ts at seen)
    unfolding values
    fit_values at seen = post_next ts IsValues _ at seen (λ x e. by x (sees m.CloseParen x))
      where
        by : (x : Option Lexed) (b : Bool) → PostChoice ts IsValues at x (values_by limits d inner b)
        by x true = λ seen1. post_bind ts Any IsValues (expect m.CloseParen) _ at seen1 (post_unit (expect m.CloseParen ts at seen1)) (λ end to seen2 u. small_no_values limits)
        by x false = λ seen1. post_bind ts (Behind 0) IsValues (value limits d inner 0) _ at seen1 (fit_value 0 at seen1)
            (λ x mid seen2 r. post_bind ts (λ b to. Stays (x.0 ∷ [], x.1) b mid to) IsValues (turns (sees m.Comma) (value_more limits d inner) limits.turns (x.0 ∷ [], x.1)) _ mid seen2
            (post_turns ts Stays Stays (sees m.Comma) (value_more limits d inner) (λ a at s. s) (λ a b c from mid to o q s. q (o s)) (λ a from seen3 e. fit_value_more a from seen3) limits.turns (x.0 ∷ [], x.1) mid seen2)
            (λ all mid2 seen3 q. post_bind ts Any IsValues (expect m.CloseParen) _ mid2 seen3 (post_unit (expect m.CloseParen ts mid2 seen3))
            (λ end to seen4 u. q (small_one_value limits x.0 r.0 r.1))))

    -- ---- primaries

    fit_construct : (begin : Place) (b : Builtin) (at seen : ℕ) → Post IsSmall (construct limits d inner begin b ts at seen)
    unfolding construct
    fit_construct begin b at seen = post_bind ts Any IsSmall (expect m.OpenParen) _ at seen (post_unit (expect m.OpenParen ts at seen))
        (λ p mid seen1 u. post_bind ts IsValues IsSmall (values limits d inner) _ mid seen1 (fit_values mid seen1)
        (λ v to seen2 r. small_construct limits (span begin v.1) b v.0.0 r))

    fit_paren : (begin : Place) (at seen : ℕ) → Post IsSmall (paren limits d inner begin ts at seen)
    unfolding paren
    fit_paren begin at seen = post_bind ts IsSmall IsSmall (whole limits d inner) _ at seen (h (suc loosest) at seen)
        (λ x mid seen1 r. post_bind ts Any IsSmall (expect m.CloseParen) _ mid seen1 (post_unit (expect m.CloseParen ts mid seen1))
        (λ end to seen2 u. small_paren limits (span begin end) x.0 r))

    fit_named : (id : Identifier) (at seen : ℕ) → length id.name ≤ limits.names → Post IsSmall (named limits d inner id ts at seen)
    unfolding named
    fit_named id at seen k = post_bind ts IsGiven IsSmall (given limits d id.place) _ at seen (fit_given id.place at seen)
        (λ a to seen1 r. small_name limits (span id.place a.2) id a.0 k r)

    fit_primary_word : (at : ℕ) (tok : Lexed) (word : Word) (b : Option Builtin) → PostChoice ts IsSmall at (Some tok) (primary_word limits d inner tok word b)
    fit_primary_word at tok word (Some b) = λ seen1. fit_construct tok.place b (at + 1) seen1
    fit_primary_word at tok word None = by (word_of limits d inner word tok)
      where
        by : WordOf limits d inner word tok → PostChoice ts IsSmall at (Some tok) (primary_word limits d inner tok word None)
        by (true_word e) = subst (λ a. PostChoice ts IsSmall at (Some tok) (primary_word limits d inner tok a None)) (sym e) (λ seen1. small_true limits tok.place)
        by (false_word e) = subst (λ a. PostChoice ts IsSmall at (Some tok) (primary_word limits d inner tok a None)) (sym e) (λ seen1. small_false limits tok.place)
        by (this_value e) = subst (λ a. PostChoice ts IsSmall at (Some tok) (primary_word limits d inner tok a None)) (sym e) (λ seen1. small_this_value limits tok.place)
        by (this_type e) = subst (λ a. PostChoice ts IsSmall at (Some tok) (primary_word limits d inner tok a None)) (sym e) (λ seen1. small_this_type_value limits tok.place)
        by (other e) = subst (PostChoice ts IsSmall at (Some tok)) (sym e) tt

    fit_primary_by : (at : ℕ) (tok : Lexed) (kind : Kind) → PostChoice ts IsSmall at (Some tok) (primary_by limits d inner tok kind)
    fit_primary_by at tok (k.Number v) = λ seen1. small_value limits tok.place v
    fit_primary_by at tok k.Name = post_fits ts IsSmall at (Some tok) (is_short limits tok) code.TooLong (Take (named limits d inner (identifier tok))) (λ f seen1. fit_named (identifier tok) (at + 1) seen1 (short_enough limits tok is_free f))
    fit_primary_by at tok (k.Word word) = fit_primary_word at tok word (builtin_of word)
    fit_primary_by at tok k.String = tt
    fit_primary_by at tok (k.Mark mark) = by (is_mark m.OpenParen (k.Mark mark)) refl
      where
        by : (b : Bool) → is_mark m.OpenParen (k.Mark mark) ≡ b → PostChoice ts IsSmall at (Some tok) (primary_by limits d inner tok (k.Mark mark))
        by true r = subst (λ a. PostChoice ts IsSmall at (Some tok) (primary_by limits d inner tok (k.Mark a))) (same_mark m.OpenParen mark r) (λ seen1. fit_paren tok.place (at + 1) seen1)
        by false r = subst (PostChoice ts IsSmall at (Some tok)) (sym (primary_other limits d inner tok mark r)) tt

    -- ---- members, indices and calls

    abbrev StaysSmall : Value → Value → ℕ → ℕ → Type 0
    StaysSmall x y from to = SmallExpr limits x.0 → SmallExpr limits y.0

    fit_member : (x : Value) (from at seen : ℕ) → Post (λ y to. StaysSmall x y from to) (next (member_at limits d inner x) ts at seen)
    unfolding member_name
    fit_member x from at seen = post_next ts (λ y to. StaysSmall x y from to) (member_at limits d inner x) at seen (λ o e. go o)
      where
        by : (tok : Lexed) (kind : Kind) → PostChoice ts (λ y to. StaysSmall x y from to) at (Some tok) (member_by limits d inner x tok kind)
        by tok k.Name = post_fits ts (λ y to. StaysSmall x y from to) at (Some tok) (is_short limits tok) code.TooLong (Take (member_name limits d inner x (identifier tok)))
            (λ f seen1. post_bind ts IsGiven (λ y to. StaysSmall x y from to) (given limits d tok.place) _ (at + 1) seen1 (fit_given tok.place (at + 1) seen1)
            (λ a to seen2 r s. small_member limits (span x.0.place a.2) x.0 (identifier tok) a.0 (short_enough limits tok is_free f) s r))
        by tok (k.Word word) = tt
        by tok (k.Number v) = tt
        by tok k.String = tt
        by tok (k.Mark mark) = tt

        go : (o : Option Lexed) → PostChoice ts (λ y to. StaysSmall x y from to) at o (member_at limits d inner x o)
        go (Some tok) = by tok tok.kind
        go None = tt

    fit_index : (x : Value) (from at seen : ℕ) → Post (λ y to. StaysSmall x y from to) (index limits d inner x ts at seen)
    unfolding index
    fit_index x from at seen = post_bind ts IsSmall (λ y to. StaysSmall x y from to) (whole limits d inner) _ at seen (h (suc loosest) at seen)
        (λ i mid seen1 r. post_bind ts Any (λ y to. StaysSmall x y from to) (expect m.CloseBracket) _ mid seen1 (post_unit (expect m.CloseBracket ts mid seen1))
        (λ end to seen2 u s. small_index limits (span x.0.place end) x.0 i.0 s r))

    fit_call : (x : Value) (from at seen : ℕ) → Post (λ y to. StaysSmall x y from to) (call limits d inner x ts at seen)
    unfolding call
    fit_call x from at seen = post_bind ts IsValues (λ y to. StaysSmall x y from to) (values limits d inner) _ at seen (fit_values at seen)
        (λ v to seen1 r s. small_call limits (span x.0.place v.1) x.0 v.0.0 s r)

    fit_over : (x : Value) (from at : ℕ) (tok : Lexed) (p : Parser Value) → ((seen1 : ℕ) → Post (λ y to. StaysSmall x y from to) (p ts (at + 1) seen1)) →
        PostChoice ts (λ y to. StaysSmall x y from to) at (Some tok) (over limits d inner x (Some tok) (Take p))
    fit_over x from at tok p r = post_fits ts (λ y to. StaysSmall x y from to) at (Some tok) (fits_in limits x.1 (suc d)) code.TooNested (Take p) (λ f. r)

    fit_chain : (x : Value) (at seen : ℕ) → Post (λ y to. StaysSmall x y at to) (chain limits d inner x ts at seen)
    unfolding chain
    fit_chain x at seen = post_next ts (λ y to. StaysSmall x y at to) (chain_at limits d inner x) at seen (λ t e. go t)
      where
        goes : (tok : Lexed) (mark : Mark) (a b c : Bool) → is_mark m.Dot (k.Mark mark) ≡ a → is_mark m.OpenBracket (k.Mark mark) ≡ b → is_mark m.OpenParen (k.Mark mark) ≡ c →
            PostChoice ts (λ y to. StaysSmall x y at to) at (Some tok) (chain_by limits d inner x (Some tok) (k.Mark mark))
        goes tok mark true b c r s t = subst (λ a. PostChoice ts (λ y to. StaysSmall x y at to) at (Some tok) (chain_by limits d inner x (Some tok) (k.Mark a))) (same_mark m.Dot mark r)
            (fit_over x at at tok (next (member_at limits d inner x)) (λ seen1. fit_member x at (at + 1) seen1))
        goes tok mark false true c r s t = subst (λ a. PostChoice ts (λ y to. StaysSmall x y at to) at (Some tok) (chain_by limits d inner x (Some tok) (k.Mark a))) (same_mark m.OpenBracket mark s)
            (fit_over x at at tok (index limits d inner x) (λ seen1. fit_index x at (at + 1) seen1))
        goes tok mark false false true r s t = subst (λ a. PostChoice ts (λ y to. StaysSmall x y at to) at (Some tok) (chain_by limits d inner x (Some tok) (k.Mark a))) (same_mark m.OpenParen mark t)
            (fit_over x at at tok (call limits d inner x) (λ seen1. fit_call x at (at + 1) seen1))
        goes tok mark false false false r s t = subst (PostChoice ts (λ y to. StaysSmall x y at to) at (Some tok)) (sym (chain_other limits d inner x (Some tok) mark r s t)) tt

        by : (tok : Lexed) (kind : Kind) → PostChoice ts (λ y to. StaysSmall x y at to) at (Some tok) (chain_by limits d inner x (Some tok) kind)
        by tok (k.Mark mark) = goes tok mark (is_mark m.Dot (k.Mark mark)) (is_mark m.OpenBracket (k.Mark mark)) (is_mark m.OpenParen (k.Mark mark)) refl refl refl
        by tok k.Name = tt
        by tok (k.Word word) = tt
        by tok (k.Number v) = tt
        by tok k.String = tt

        go : (t : Option Lexed) → PostChoice ts (λ y to. StaysSmall x y at to) at t (chain_at limits d inner x t)
        go (Some tok) = by tok tok.kind
        go None = tt

    pub fit_chain_rest : (x : Value) (at seen : ℕ) → SmallExpr limits x.0 → Post IsSmall (chain_rest limits d inner x ts at seen)
    unfolding chain_rest
    fit_chain_rest x at seen s = post_weaken (λ y to. StaysSmall x y at to) IsSmall (λ y to r. r s) (turns (chains limits d inner) (chain limits d inner) limits.turns x ts at seen)
        (post_turns ts StaysSmall StaysSmall (chains limits d inner) (chain limits d inner) (λ a at s. s) (λ a b c from mid to o q s. q (o s)) (λ a from seen1 e. fit_chain a from seen1) limits.turns x at seen)

    pub fit_postfix : (at seen : ℕ) → Post IsSmall (postfix limits d inner ts at seen)
    unfolding postfix
    fit_postfix at seen = post_bind ts IsSmall IsSmall (next (primary_at limits d inner)) (chain_rest limits d inner) at seen (post_next ts IsSmall (primary_at limits d inner) at seen (λ x e. go x))
        (λ x mid seen1 r. fit_chain_rest x mid seen1 r)
      where
        go : (t : Option Lexed) → PostChoice ts IsSmall at t (primary_at limits d inner t)
        go (Some tok) = fit_primary_by at tok tok.kind
        go None = tt

    -- ---- operators before an operand, and casts

    fit_opened : (begin : Place) (at seen : ℕ) → Post IsSmall (attempt cast_ahead (cast_by limits d inner begin) ts at seen)
    fit_opened begin at seen = post_attempt ts cast_ahead (cast_by limits d inner begin) at seen Any IsSmall (post_unit (cast_ahead ts at seen))
        (λ b mid seen1 u. post_bind ts IsSmall IsSmall (inner zero) _ mid seen1 (h zero mid seen1) (λ x to seen2 r. small_cast limits (span begin x.0.place) b x.0 r))
        (λ never seen1. post_bind ts IsSmall IsSmall (paren limits d inner begin) (chain_rest limits d inner) at seen1 (fit_paren begin at seen1) (λ x mid seen2 r. fit_chain_rest x mid seen2 r))

    fit_unary_mark : (at : ℕ) (tok : Lexed) (op : Option UnaryOperator) → PostChoice ts IsSmall at (Some tok) (unary_mark limits d inner tok op)
    unfolding prefix
    fit_unary_mark at tok (Some op) = λ seen1. post_bind ts IsSmall IsSmall (inner zero) _ (at + 1) seen1 (h zero (at + 1) seen1) (λ x to seen2 r. small_unary limits (span tok.place x.0.place) op x.0 r)
    fit_unary_mark at tok None = λ seen1. fit_postfix at seen1

    fit_unary_by : (at : ℕ) (tok : Lexed) (kind : Kind) → PostChoice ts IsSmall at (Some tok) (unary_by limits d inner tok kind)
    fit_unary_by at tok (k.Mark mark) = by (is_mark m.OpenParen (k.Mark mark)) refl
      where
        by : (b : Bool) → is_mark m.OpenParen (k.Mark mark) ≡ b → PostChoice ts IsSmall at (Some tok) (unary_by limits d inner tok (k.Mark mark))
        by true r = subst (λ a. PostChoice ts IsSmall at (Some tok) (unary_by limits d inner tok (k.Mark a))) (same_mark m.OpenParen mark r) (λ seen1. fit_opened tok.place (at + 1) seen1)
        by false r = subst (PostChoice ts IsSmall at (Some tok)) (sym (unary_other limits d inner tok mark r)) (fit_unary_mark at tok (unary_of mark))
    fit_unary_by at tok k.Name = λ seen1. fit_postfix at seen1
    fit_unary_by at tok (k.Word word) = λ seen1. fit_postfix at seen1
    fit_unary_by at tok (k.Number v) = λ seen1. fit_postfix at seen1
    fit_unary_by at tok k.String = λ seen1. fit_postfix at seen1

    fit_unary : (at seen : ℕ) → Post IsSmall (unary limits d inner ts at seen)
    unfolding unary
    fit_unary at seen = post_next ts IsSmall (unary_at limits d inner) at seen (λ x e. go x)
      where
        go : (t : Option Lexed) → PostChoice ts IsSmall at t (unary_at limits d inner t)
        go (Some tok) = fit_unary_by at tok tok.kind
        go None = tt

    -- ---- operators between operands

    abbrev SmallTurn : Value → ℕ → Option Value → ℕ → Type 0
    SmallTurn x at = TurnIs (λ y mid. StaysSmall x y at mid) at

    fit_operand : (l : ℕ) (op : BinaryOperator) (x : Value) (from at seen : ℕ) → Post (SmallTurn x from) (operand limits d inner l op x ts at seen)
    unfolding operand
    fit_operand l op x from at seen = post_bind ts IsSmall (SmallTurn x from) (inner l) _ at seen (h l at seen)
        (λ z to seen1 r s. small_binary limits (span x.0.place z.0.place) op x.0 z.0 s r)

    fit_none : (x : Value) (at : ℕ) (t : Option Lexed) → PostChoice ts (SmallTurn x at) at t (Leave (pure None))
    fit_none x at (Some t) = λ seen1. refl
    fit_none x at None = λ seen1. refl

    fit_greater : (l : ℕ) (p : Place) (x : Value) (from at seen : ℕ) → Post (SmallTurn x from) (greater limits d inner l p x ts at seen)
    unfolding greater
    fit_greater l p x from at seen = post_next ts (SmallTurn x from) _ at seen (λ t e. by t (joined m.Equal p t))
      where
        by : (t : Option Lexed) (b : Bool) → PostChoice ts (SmallTurn x from) at t (if b then Take (operand limits d inner l o.GreaterEqual x) else Leave (operand limits d inner l o.Greater x))
        by (Some t) true = λ seen1. fit_operand l o.GreaterEqual x from (at + 1) seen1
        by None true = tt
        by t false = λ seen1. fit_operand l o.Greater x from at seen1

    fit_shift : (l : ℕ) (x : Value) (p : Place) (from at seen : ℕ) → Post (SmallTurn x from) (shift_by limits d inner l x (Some p) ts at seen)
    fit_shift l x p from at seen = by (fits_in limits x.1 (suc d)) refl
      where
        by : (b : Bool) → fits_in limits x.1 (suc d) ≡ b → Post (SmallTurn x from) ((if b then operand limits d inner l o.ShiftRight x else past code.TooNested p) ts at seen)
        by true f = fit_operand l o.ShiftRight x from at seen
        by false f = tt

    fit_operator_mark : (l : ℕ) (x : Value) (at : ℕ) (tok : Lexed) (op : Option BinaryOperator) → PostChoice ts (SmallTurn x at) at (Some tok) (operator_mark limits d inner l x tok op)
    fit_operator_mark l x at tok None = λ seen1. refl
    fit_operator_mark l x at tok (Some op) = by (level_of op == l)
      where
        by : (b : Bool) → PostChoice ts (SmallTurn x at) at (Some tok) (if b then over limits d inner x (Some tok) (Take (operand limits d inner l op x)) else Leave (pure None))
        by true = post_fits ts (SmallTurn x at) at (Some tok) (fits_in limits x.1 (suc d)) code.TooNested (Take (operand limits d inner l op x)) (λ f seen1. fit_operand l op x at (at + 1) seen1)
        by false = λ seen1. refl

    fit_operator_greater : (l : ℕ) (x : Value) (at : ℕ) (tok : Lexed) → PostChoice ts (SmallTurn x at) at (Some tok) (operator_by limits d inner l x tok (k.Mark m.Greater))
    fit_operator_greater l x at tok = by (l == level_of o.Greater) (l == level_of o.ShiftRight)
      where
        by : (a b : Bool) → PostChoice ts (SmallTurn x at) at (Some tok)
            (if a then over limits d inner x (Some tok) (Take (greater limits d inner l tok.place x)) else (if b then Leave (attempt shift_ahead (shift_by limits d inner l x)) else Leave (pure None)))
        by true b = post_fits ts (SmallTurn x at) at (Some tok) (fits_in limits x.1 (suc d)) code.TooNested (Take (greater limits d inner l tok.place x)) (λ f seen1. fit_greater l tok.place x at (at + 1) seen1)
        by false true = λ seen1. post_attempt ts shift_ahead (shift_by limits d inner l x) at seen1 Any (SmallTurn x at) (post_unit (shift_ahead ts at seen1))
            (λ b mid seen2 u. fit_shift l x b at mid seen2) (λ never seen2. refl)
        by false false = λ seen1. refl

    fit_operator_by : (l : ℕ) (x : Value) (at : ℕ) (tok : Lexed) (kind : Kind) → PostChoice ts (SmallTurn x at) at (Some tok) (operator_by limits d inner l x tok kind)
    fit_operator_by l x at tok (k.Mark mark) = by (is_mark m.Greater (k.Mark mark)) refl
      where
        by : (b : Bool) → is_mark m.Greater (k.Mark mark) ≡ b → PostChoice ts (SmallTurn x at) at (Some tok) (operator_by limits d inner l x tok (k.Mark mark))
        by true r = subst (λ a. PostChoice ts (SmallTurn x at) at (Some tok) (operator_by limits d inner l x tok (k.Mark a))) (same_mark m.Greater mark r) (fit_operator_greater l x at tok)
        by false r = subst (PostChoice ts (SmallTurn x at) at (Some tok)) (sym (operator_other limits d inner l x tok mark r)) (fit_operator_mark l x at tok (binary_of mark))
    fit_operator_by l x at tok k.Name = λ seen1. refl
    fit_operator_by l x at tok (k.Word word) = λ seen1. refl
    fit_operator_by l x at tok (k.Number v) = λ seen1. refl
    fit_operator_by l x at tok k.String = λ seen1. refl

    fit_operator : (l : ℕ) (x : Value) (at seen : ℕ) → Post (SmallTurn x at) (operator limits d inner l x ts at seen)
    unfolding operator
    fit_operator l x at seen = post_next ts (SmallTurn x at) (operator_at limits d inner l x) at seen (λ t e. go t)
      where
        go : (t : Option Lexed) → PostChoice ts (SmallTurn x at) at t (operator_at limits d inner l x t)
        go (Some tok) = fit_operator_by l x at tok tok.kind
        go None = λ seen1. refl

    fit_level : (l at seen : ℕ) → Post IsSmall (level limits d inner l ts at seen)
    unfolding level
    fit_level zero at seen = fit_unary at seen
    fit_level (suc l) at seen = post_bind ts IsSmall IsSmall (level limits d inner l) (repeats (operator limits d inner l) limits.turns) at seen (fit_level l at seen)
        (λ x mid seen1 s. post_weaken (λ y to. StaysSmall x y mid to) IsSmall (λ y to r. r s) (repeats (operator limits d inner l) limits.turns x ts mid seen1)
        (post_repeats ts StaysSmall StaysSmall (operator limits d inner l) (λ a at s. s) (λ a b c from mid to o q s. q (o s)) (λ a from seen2. fit_operator l a from seen2) limits.turns x mid seen1))

    -- ---- choices

    fit_choice : (x : Value) (at seen : ℕ) → SmallExpr limits x.0 → Post IsSmall (choice limits d inner x ts at seen)
    unfolding choice
    fit_choice x at seen s = post_bind ts IsSmall IsSmall (whole limits d inner) _ at seen (h (suc loosest) at seen)
        (λ y mid seen1 q. post_bind ts Any IsSmall (expect m.Colon) _ mid seen1 (post_unit (expect m.Colon ts mid seen1))
        (λ p mid2 seen2 u. post_bind ts IsSmall IsSmall (whole limits d inner) _ mid2 seen2 (h (suc loosest) mid2 seen2)
        (λ z to seen3 r. small_choice limits (span x.0.place z.0.place) x.0 y.0 z.0 s q r)))

    fit_choice_rest : (x : Value) (at seen : ℕ) → SmallExpr limits x.0 → Post IsSmall (choice_rest limits d inner x ts at seen)
    unfolding choice_rest
    fit_choice_rest x at seen s = post_next ts IsSmall _ at seen (λ t e. by t (sees m.Question t))
      where
        by : (t : Option Lexed) (b : Bool) → PostChoice ts IsSmall at t (choice_by limits d inner x t b)
        by (Some tok) true = post_fits ts IsSmall at (Some tok) (fits_in limits x.1 (suc d)) code.TooNested (Take (choice limits d inner x)) (λ f seen1. fit_choice x (at + 1) seen1 s)
        by None true = post_fits ts IsSmall at None (fits_in limits x.1 (suc d)) code.TooNested (Take (choice limits d inner x)) (λ f. tt)
        by (Some tok) false = λ seen1. s
        by None false = λ seen1. s

    fit_at_level : (l at seen : ℕ) (b : Bool) → Post IsSmall (at_level limits d inner l b ts at seen)
    fit_at_level l at seen true = post_bind ts IsSmall IsSmall (level limits d inner loosest) (choice_rest limits d inner) at seen (fit_level loosest at seen) (λ x mid seen1 s. fit_choice_rest x mid seen1 s)
    fit_at_level l at seen false = fit_level l at seen

pub small_leveled : (ts : List Lexed) (limits : Limits) → limits.free ≡ false → (d l at seen : ℕ) → Post (λ (x : Value) (to : ℕ). SmallExpr limits x.0) (leveled limits d l ts at seen)
unfolding leveled
small_leveled ts limits is_free zero l at seen = post_next ts (λ (x : Value) (to : ℕ). SmallExpr limits x.0) _ at seen (λ x e. by x (begins x))
  where
    by : (x : Option Lexed) (b : Bool) → PostChoice ts (λ (x : Value) (to : ℕ). SmallExpr limits x.0) at x (if b then if_fits false code.TooNested x (Take (past code.TooNested (place_of x))) else Refuse)
    by x true = tt
    by x false = tt
small_leveled ts limits is_free (suc d) l at seen = fit_at_level ts limits is_free d (leveled limits d) (λ l at seen. small_leveled ts limits is_free d l at seen) l at seen (l == suc loosest)

small_operands : (ts : List Lexed) (limits : Limits) → limits.free ≡ false → (d at seen : ℕ) → Post (λ (x : Value) (to : ℕ). SmallExpr limits x.0) (operands limits d ts at seen)
unfolding operands
small_operands ts limits is_free zero at seen = post_bind ts (λ x to. ⊥) (λ (x : Value) (to : ℕ). SmallExpr limits x.0) (next operand_past) (chain_rest limits zero no_values) at seen
    (post_next ts (λ x to. ⊥) operand_past at seen (λ x e. by x (operand_begins x))) (λ x mid seen1 r. absurd r)
  where
    by : (x : Option Lexed) (b : Bool) → PostChoice ts (λ (x : Value) (to : ℕ). ⊥) at x (if b then Pass code.TooNested (place_of x) else Refuse)
    by (Some t) true = tt
    by None true = tt
    by (Some t) false = tt
    by None false = tt
small_operands ts limits is_free (suc d) at seen = fit_postfix ts limits is_free d (leveled limits d) (λ l at seen. small_leveled ts limits is_free d l at seen) at seen

-- with the nodes
module _ (ts : List Lexed) (limits : Limits) (is_free : limits.free ≡ false) (d : ℕ) where
  abbrev Known : Value → ℕ → Type 0
  Known x to = (expr_height x.0 ≡ x.1) × (x.1 ≤ d)

  abbrev InLimits : Value → ℕ → Type 0
  InLimits x to = Fits limits d x.0

  fits : (x : Value) → expr_height x.0 ≡ x.1 → x.1 ≤ d → SmallExpr limits x.0 → Fits limits d x.0
  fits x e l s = record { nodes = subst (λ n. n ≤ d) (sym e) l; lists = s.0; names = s.1 }

  all_three : (p : Parser Value) (at seen : ℕ) → Post (λ (x : Value) (to : ℕ). expr_height x.0 ≡ x.1) (p ts at seen) → Post (λ (x : Value) (to : ℕ). x.1 ≤ d) (p ts at seen) →
      Post (λ (x : Value) (to : ℕ). SmallExpr limits x.0) (p ts at seen) → Post InLimits (p ts at seen)
  all_three p at seen e l s = post_weaken (λ x to. Known x to × SmallExpr limits x.0) InLimits (λ x to r. fits x r.0.0 r.0.1 r.1) (p ts at seen)
      (post_both Known (λ (x : Value) (to : ℕ). SmallExpr limits x.0) (p ts at seen) (post_both (λ (x : Value) (to : ℕ). expr_height x.0 ≡ x.1) (λ (x : Value) (to : ℕ). x.1 ≤ d) (p ts at seen) e l) s)

  pub fitting_expressions : (at seen : ℕ) → Post (λ (x : Value) (to : ℕ). Fits limits d x.0) (expressions limits d ts at seen)
  fitting_expressions at seen = all_three (expressions limits d) at seen (tall_leveled ts limits d (suc loosest) at seen) (low_leveled ts limits is_free d (suc loosest) at seen) (small_leveled ts limits is_free d (suc loosest) at seen)

  pub fitting_operands : (at seen : ℕ) → Post (λ (x : Value) (to : ℕ). Fits limits d x.0) (operands limits d ts at seen)
  fitting_operands at seen = all_three (operands limits d) at seen (tall_operands ts limits is_free d at seen) (low_operands ts limits is_free d at seen) (small_operands ts limits is_free d at seen)
