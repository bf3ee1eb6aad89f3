-- Expressions: at most as many nodes stand on the longest path of what is read as were given.
use Rattle.std.proofs.Common.{Bool, true, false, ◌≡◌, ℕ, zero, suc, ◌+◌, ◌≤◌, List, [], ◌∷◌, length, Option, Some, None, refl, sym, subst, arith, ◌==◌, if◌then◌else◌}
use Rattle.std.specs.Prelude.{nat_lt}
use Rattle.slang_names.specs.declared.places.Place.{Place}
use Rattle.slang_names.specs.declared.codes.ModuleCode.TheVariants as code
use Rattle.slang_tree.specs.declared.types.Identifier.{Identifier}
use Rattle.slang_tree.specs.declared.types.Builtin.{Builtin}
use Rattle.slang_tree.specs.declared.expressions.UnaryOperator.{UnaryOperator}
use Rattle.slang_tree.specs.declared.expressions.BinaryOperator.{BinaryOperator}
use Rattle.slang_tree.specs.declared.expressions.BinaryOperator.TheVariants as o
use Rattle.slang_tokens.specs.declared.tokens.Kind.{Kind}
use Rattle.slang_tokens.specs.declared.tokens.Kind.TheVariants as k
use Rattle.slang_tokens.specs.declared.tokens.Mark.{Mark}
use Rattle.slang_tokens.specs.declared.tokens.Mark.TheVariants as m
use Rattle.slang_tokens.specs.declared.tokens.Word.{Word}
use Rattle.slang_reading.specs.Lexed.{Lexed}
use Rattle.slang_reading.specs.Reading.{Parser, Leave, Take, Refuse, Pass, if_fits, pure, past, place_of, next, attempt, turns}
use Rattle.slang_reading.specs.Kinds.{is_mark, sees}
use Rattle.slang_reading.proofs.Marks.{same_mark}
use Rattle.slang_reading.proofs.Exact.{Post, PostChoice, post_bind, post_next, post_fits, post_turns, post_unit, post_attempt, post_weaken}
use Rattle.slang_grammar.specs.Tables.{builtin_of, unary_of, binary_of, level_of}
use Rattle.slang_grammar.specs.Expressions.{loosest}
use Rattle.slang_grammar.specs.Descent.{Limits, fits_in, expect, identifier, is_short}
use Rattle.slang_grammar.specs.TypesDescent.{Arguments, arguments, types}
use Rattle.slang_grammar.specs.ExpressionsDescent.{Value, Values, arguments_ahead, Given, given_by, given_at, given, repeats, begins, joined, shift_ahead, cast_ahead, whole, over, value_of, value, value_more, values_by, values, construct, primary_word, named, paren, primary_by, member_name, member_by, member_at, index, call, chain_by, chain_at, chain, chains, chain_rest, primary_at, postfix, prefix, cast_by, unary_mark, unary_by, unary_at, unary, operand, greater, shift_by, operator_mark, operator_by, operator_at, operator, level, choice, choice_by, choice_rest, at_level, leveled}
use Rattle.expression_grammar.proofs.Parts.{post_ahead, TurnIs, post_repeats}
use Rattle.expression_grammar.proofs.Tables.{operator_other, unary_other, primary_other, chain_other, WordOf, true_word, false_word, this_value, this_type, other, word_of}
use Rattle.statement_grammar.specs.StatementsDescent.{operand_begins, operand_past, no_values, operands}
use Rattle.nesting_laws.proofs.TypesLow.{fits_less, Any, AtMost, Stays, low_arguments, low_types}

module _ (ts : List Lexed) (limits : Limits) (is_free : limits.free ≡ false) (d : ℕ) where
  -- of an expression, of values in parentheses, and of what stands behind a name
  abbrev Low : Value → ℕ → Type 0
  Low x to = x.1 ≤ suc d

  abbrev LowValues : Values × Place → ℕ → Type 0
  LowValues r to = r.0.1 ≤ d

  abbrev LowGiven : Given → ℕ → Type 0
  LowGiven a to = a.1 ≤ d

  low_given_by : (place : Place) (at seen : ℕ) (b : Bool) → Post LowGiven (given_by limits d place b ts at seen)
  low_given_by place at seen true = post_bind ts (λ (r : Arguments × Place) (to : ℕ). r.0.1 ≤ d) LowGiven (arguments limits true d (types limits d)) _ at seen
      (low_arguments ts limits true d (types limits d) (λ from seen1. low_types ts limits is_free d from seen1) at seen) (λ a to seen1 r. r)
  low_given_by place at seen false = omega arith

  pub low_given : (place : Place) (at seen : ℕ) → Post LowGiven (given limits d place ts at seen)
  unfolding given
  low_given place at seen = post_next ts LowGiven _ at seen (λ x e. by x (sees m.Less x))
    where
      by : (x : Option Lexed) (b : Bool) → PostChoice ts LowGiven at x (given_at limits d place b)
      by x true = λ seen1. post_ahead ts (arguments_ahead limits) (given_by limits d place) at seen1 LowGiven
          (λ b mid seen2 r. low_given_by place at seen2 true) (λ seen2 r. low_given_by place at seen2 false)
      by x false = λ seen1. omega arith

  module _ (inner : ℕ → Parser Value) (h : (l at seen : ℕ) → Post (AtMost d) (inner l ts at seen)) where
    -- ---- values between parentheses

    low_value : (count at seen : ℕ) → Post (AtMost d) (value limits d inner count ts at seen)
    unfolding value
    low_value count at seen = post_next ts (AtMost d) _ at seen
        (λ x e. post_fits ts (AtMost d) at x (fits_in limits count limits.items) code.TooLong (value_of limits d inner x) (λ f. by x (begins x)))
      where
        by : (x : Option Lexed) (b : Bool) → PostChoice ts (AtMost d) at x (if b then if_fits (nat_lt 0 d) code.TooNested x (Leave (whole limits d inner)) else Refuse)
        by x true = post_fits ts (AtMost d) at x (nat_lt 0 d) code.TooNested (Leave (whole limits d inner)) (λ f seen1. h (suc loosest) at seen1)
        by x false = tt

    low_value_more : (list : Values) (at seen : ℕ) → Post (λ b mid. Stays d list b at mid) (value_more limits d inner list ts at seen)
    unfolding value_more
    low_value_more list at seen = post_bind ts Any (λ b mid. Stays d list b at mid) (expect m.Comma) _ at seen (post_unit (expect m.Comma ts at seen))
        (λ p mid seen1 u. post_bind ts (AtMost d) (λ b to. Stays d list b at to) (value limits d inner (length list.0)) _ mid seen1 (low_value (length list.0) mid seen1)
        (λ x to seen2 r s. omega (arith, r, s)))

    low_values : (at seen : ℕ) → Post LowValues (values limits d inner ts at seen)
    unfolding values
    low_values at seen = post_next ts LowValues _ at seen (λ x e. by x (sees m.CloseParen x))
      where
        by : (x : Option Lexed) (b : Bool) → PostChoice ts LowValues at x (values_by limits d inner b)
        by x true = λ seen1. post_bind ts Any LowValues (expect m.CloseParen) _ at seen1 (post_unit (expect m.CloseParen ts at seen1)) (λ end to seen2 u. omega arith)
        by x false = λ seen1. post_bind ts (AtMost d) LowValues (value limits d inner 0) _ at seen1 (low_value 0 at seen1)
            (λ x mid seen2 r. post_bind ts (λ b to. Stays d (x.0 ∷ [], x.1) b mid to) LowValues (turns (sees m.Comma) (value_more limits d inner) limits.turns (x.0 ∷ [], x.1)) _ mid seen2
            (post_turns ts (Stays d) (Stays d) (sees m.Comma) (value_more limits d inner) (λ a at s. s) (λ a b c from mid to o q s. q (o s)) (λ a from seen3 e. low_value_more a from seen3) limits.turns (x.0 ∷ [], x.1) mid seen2)
            (λ all mid2 seen3 q. post_bind ts Any LowValues (expect m.CloseParen) _ mid2 seen3 (post_unit (expect m.CloseParen ts mid2 seen3))
            (λ end to seen4 u. q r)))

    -- ---- primaries

    low_construct : (begin : Place) (b : Builtin) (at seen : ℕ) → Post Low (construct limits d inner begin b ts at seen)
    unfolding construct
    low_construct begin b at seen = post_bind ts Any Low (expect m.OpenParen) _ at seen (post_unit (expect m.OpenParen ts at seen))
        (λ p mid seen1 u. post_bind ts LowValues Low (values limits d inner) _ mid seen1 (low_values mid seen1)
        (λ v to seen2 r. omega (arith, r)))

    low_paren : (begin : Place) (at seen : ℕ) → Post Low (paren limits d inner begin ts at seen)
    unfolding paren
    low_paren begin at seen = post_bind ts (AtMost d) Low (whole limits d inner) _ at seen (h (suc loosest) at seen)
        (λ x mid seen1 r. post_bind ts Any Low (expect m.CloseParen) _ mid seen1 (post_unit (expect m.CloseParen ts mid seen1))
        (λ end to seen2 u. omega (arith, r)))

    low_named : (id : Identifier) (at seen : ℕ) → Post Low (named limits d inner id ts at seen)
    unfolding named
    low_named id at seen = post_bind ts LowGiven Low (given limits d id.place) _ at seen (low_given id.place at seen)
        (λ a to seen1 r. omega (arith, r))

    low_primary_word : (at : ℕ) (tok : Lexed) (word : Word) (b : Option Builtin) → PostChoice ts Low at (Some tok) (primary_word limits d inner tok word b)
    low_primary_word at tok word (Some b) = λ seen1. low_construct tok.place b (at + 1) seen1
    low_primary_word at tok word None = by (word_of limits d inner word tok)
      where
        by : WordOf limits d inner word tok → PostChoice ts Low at (Some tok) (primary_word limits d inner tok word None)
        by (true_word e) = subst (λ a. PostChoice ts Low at (Some tok) (primary_word limits d inner tok a None)) (sym e) (λ seen1. omega arith)
        by (false_word e) = subst (λ a. PostChoice ts Low at (Some tok) (primary_word limits d inner tok a None)) (sym e) (λ seen1. omega arith)
        by (this_value e) = subst (λ a. PostChoice ts Low at (Some tok) (primary_word limits d inner tok a None)) (sym e) (λ seen1. omega arith)
        by (this_type e) = subst (λ a. PostChoice ts Low at (Some tok) (primary_word limits d inner tok a None)) (sym e) (λ seen1. omega arith)
        by (other e) = subst (PostChoice ts Low at (Some tok)) (sym e) tt

    low_primary_by : (at : ℕ) (tok : Lexed) (kind : Kind) → PostChoice ts Low at (Some tok) (primary_by limits d inner tok kind)
    low_primary_by at tok (k.Number v) = λ seen1. omega arith
    low_primary_by at tok k.Name = post_fits ts Low at (Some tok) (is_short limits tok) code.TooLong (Take (named limits d inner (identifier tok))) (λ f seen1. low_named (identifier tok) (at + 1) seen1)
    low_primary_by at tok (k.Word word) = low_primary_word at tok word (builtin_of word)
    low_primary_by at tok k.String = tt
    low_primary_by at tok (k.Mark mark) = by (is_mark m.OpenParen (k.Mark mark)) refl
      where
        by : (b : Bool) → is_mark m.OpenParen (k.Mark mark) ≡ b → PostChoice ts Low at (Some tok) (primary_by limits d inner tok (k.Mark mark))
        by true r = subst (λ a. PostChoice ts Low at (Some tok) (primary_by limits d inner tok (k.Mark a))) (same_mark m.OpenParen mark r) (λ seen1. low_paren tok.place (at + 1) seen1)
        by false r = subst (PostChoice ts Low at (Some tok)) (sym (primary_other limits d inner tok mark r)) tt

    -- ---- members, indices and calls

    abbrev StaysLow : Value → Value → ℕ → ℕ → Type 0
    StaysLow x y from to = x.1 ≤ suc d → y.1 ≤ suc d

    low_member : (x : Value) (from at seen : ℕ) → x.1 + 1 ≤ suc d → Post (λ y to. StaysLow x y from to) (next (member_at limits d inner x) ts at seen)
    unfolding member_name
    low_member x from at seen g = post_next ts (λ y to. StaysLow x y from to) (member_at limits d inner x) at seen (λ o e. go o)
      where
        by : (tok : Lexed) (kind : Kind) → PostChoice ts (λ y to. StaysLow x y from to) at (Some tok) (member_by limits d inner x tok kind)
        by tok k.Name = post_fits ts (λ y to. StaysLow x y from to) at (Some tok) (is_short limits tok) code.TooLong (Take (member_name limits d inner x (identifier tok)))
            (λ f seen1. post_bind ts LowGiven (λ y to. StaysLow x y from to) (given limits d tok.place) _ (at + 1) seen1 (low_given tok.place (at + 1) seen1)
            (λ a to seen2 r s. omega (arith, r, g)))
        by tok (k.Word word) = tt
        by tok (k.Number v) = tt
        by tok k.String = tt
        by tok (k.Mark mark) = tt

        go : (o : Option Lexed) → PostChoice ts (λ y to. StaysLow x y from to) at o (member_at limits d inner x o)
        go (Some tok) = by tok tok.kind
        go None = tt

    low_index : (x : Value) (from at seen : ℕ) → x.1 + 1 ≤ suc d → Post (λ y to. StaysLow x y from to) (index limits d inner x ts at seen)
    unfolding index
    low_index x from at seen g = post_bind ts (AtMost d) (λ y to. StaysLow x y from to) (whole limits d inner) _ at seen (h (suc loosest) at seen)
        (λ i mid seen1 r. post_bind ts Any (λ y to. StaysLow x y from to) (expect m.CloseBracket) _ mid seen1 (post_unit (expect m.CloseBracket ts mid seen1))
        (λ end to seen2 u s. omega (arith, r, g)))

    low_call : (x : Value) (from at seen : ℕ) → x.1 + 1 ≤ suc d → Post (λ y to. StaysLow x y from to) (call limits d inner x ts at seen)
    unfolding call
    low_call x from at seen g = post_bind ts LowValues (λ y to. StaysLow x y from to) (values limits d inner) _ at seen (low_values at seen)
        (λ v to seen1 r s. omega (arith, r, g))

    low_over : (x : Value) (from at : ℕ) (tok : Lexed) (p : Parser Value) → (x.1 + 1 ≤ suc d → (seen1 : ℕ) → Post (λ y to. StaysLow x y from to) (p ts (at + 1) seen1)) →
        PostChoice ts (λ y to. StaysLow x y from to) at (Some tok) (over limits d inner x (Some tok) (Take p))
    low_over x from at tok p r = post_fits ts (λ y to. StaysLow x y from to) at (Some tok) (fits_in limits x.1 (suc d)) code.TooNested (Take p) (λ f. r (fits_less limits x.1 (suc d) is_free f))

    low_chain : (x : Value) (at seen : ℕ) → Post (λ y to. StaysLow x y at to) (chain limits d inner x ts at seen)
    unfolding chain
    low_chain x at seen = post_next ts (λ y to. StaysLow x y at to) (chain_at limits d inner x) at seen (λ t e. go t)
      where
        goes : (tok : Lexed) (mark : Mark) (a b c : Bool) → is_mark m.Dot (k.Mark mark) ≡ a → is_mark m.OpenBracket (k.Mark mark) ≡ b → is_mark m.OpenParen (k.Mark mark) ≡ c →
            PostChoice ts (λ y to. StaysLow x y at to) at (Some tok) (chain_by limits d inner x (Some tok) (k.Mark mark))
        goes tok mark true b c r s t = subst (λ a. PostChoice ts (λ y to. StaysLow x y at to) at (Some tok) (chain_by limits d inner x (Some tok) (k.Mark a))) (same_mark m.Dot mark r)
            (low_over x at at tok (next (member_at limits d inner x)) (λ g seen1. low_member x at (at + 1) seen1 g))
        goes tok mark false true c r s t = subst (λ a. PostChoice ts (λ y to. StaysLow x y at to) at (Some tok) (chain_by limits d inner x (Some tok) (k.Mark a))) (same_mark m.OpenBracket mark s)
            (low_over x at at tok (index limits d inner x) (λ g seen1. low_index x at (at + 1) seen1 g))
        goes tok mark false false true r s t = subst (λ a. PostChoice ts (λ y to. StaysLow x y at to) at (Some tok) (chain_by limits d inner x (Some tok) (k.Mark a))) (same_mark m.OpenParen mark t)
            (low_over x at at tok (call limits d inner x) (λ g seen1. low_call x at (at + 1) seen1 g))
        goes tok mark false false false r s t = subst (PostChoice ts (λ y to. StaysLow x y at to) at (Some tok)) (sym (chain_other limits d inner x (Some tok) mark r s t)) tt

        by : (tok : Lexed) (kind : Kind) → PostChoice ts (λ y to. StaysLow x y at to) at (Some tok) (chain_by limits d inner x (Some tok) kind)
        by tok (k.Mark mark) = goes tok mark (is_mark m.Dot (k.Mark mark)) (is_mark m.OpenBracket (k.Mark mark)) (is_mark m.OpenParen (k.Mark mark)) refl refl refl
        by tok k.Name = tt
        by tok (k.Word word) = tt
        by tok (k.Number v) = tt
        by tok k.String = tt

        go : (t : Option Lexed) → PostChoice ts (λ y to. StaysLow x y at to) at t (chain_at limits d inner x t)
        go (Some tok) = by tok tok.kind
        go None = tt

    pub low_chain_rest : (x : Value) (at seen : ℕ) → x.1 ≤ suc d → Post Low (chain_rest limits d inner x ts at seen)
    unfolding chain_rest
    low_chain_rest x at seen s = post_weaken (λ y to. StaysLow x y at to) Low (λ y to r. r s) (turns (chains limits d inner) (chain limits d inner) limits.turns x ts at seen)
        (post_turns ts StaysLow StaysLow (chains limits d inner) (chain limits d inner) (λ a at s. s) (λ a b c from mid to o q s. q (o s)) (λ a from seen1 e. low_chain a from seen1) limits.turns x at seen)

    pub low_postfix : (at seen : ℕ) → Post Low (postfix limits d inner ts at seen)
    unfolding postfix
    low_postfix at seen = post_bind ts Low Low (next (primary_at limits d inner)) (chain_rest limits d inner) at seen (post_next ts Low (primary_at limits d inner) at seen (λ x e. go x))
        (λ x mid seen1 r. low_chain_rest x mid seen1 r)
      where
        go : (t : Option Lexed) → PostChoice ts Low at t (primary_at limits d inner t)
        go (Some tok) = low_primary_by at tok tok.kind
        go None = tt

    -- ---- operators before an operand, and casts

    low_opened : (begin : Place) (at seen : ℕ) → Post Low (attempt cast_ahead (cast_by limits d inner begin) ts at seen)
    low_opened begin at seen = post_attempt ts cast_ahead (cast_by limits d inner begin) at seen Any Low (post_unit (cast_ahead ts at seen))
        (λ b mid seen1 u. post_bind ts (AtMost d) Low (inner zero) _ mid seen1 (h zero mid seen1) (λ x to seen2 r. omega (arith, r)))
        (λ never seen1. post_bind ts Low Low (paren limits d inner begin) (chain_rest limits d inner) at seen1 (low_paren begin at seen1) (λ x mid seen2 r. low_chain_rest x mid seen2 r))

    low_unary_mark : (at : ℕ) (tok : Lexed) (op : Option UnaryOperator) → PostChoice ts Low at (Some tok) (unary_mark limits d inner tok op)
    unfolding prefix
    low_unary_mark at tok (Some op) = λ seen1. post_bind ts (AtMost d) Low (inner zero) _ (at + 1) seen1 (h zero (at + 1) seen1) (λ x to seen2 r. omega (arith, r))
    low_unary_mark at tok None = λ seen1. low_postfix at seen1

    low_unary_by : (at : ℕ) (tok : Lexed) (kind : Kind) → PostChoice ts Low at (Some tok) (unary_by limits d inner tok kind)
    low_unary_by at tok (k.Mark mark) = by (is_mark m.OpenParen (k.Mark mark)) refl
      where
        by : (b : Bool) → is_mark m.OpenParen (k.Mark mark) ≡ b → PostChoice ts Low at (Some tok) (unary_by limits d inner tok (k.Mark mark))
        by true r = subst (λ a. PostChoice ts Low at (Some tok) (unary_by limits d inner tok (k.Mark a))) (same_mark m.OpenParen mark r) (λ seen1. low_opened tok.place (at + 1) seen1)
        by false r = subst (PostChoice ts Low at (Some tok)) (sym (unary_other limits d inner tok mark r)) (low_unary_mark at tok (unary_of mark))
    low_unary_by at tok k.Name = λ seen1. low_postfix at seen1
    low_unary_by at tok (k.Word word) = λ seen1. low_postfix at seen1
    low_unary_by at tok (k.Number v) = λ seen1. low_postfix at seen1
    low_unary_by at tok k.String = λ seen1. low_postfix at seen1

    low_unary : (at seen : ℕ) → Post Low (unary limits d inner ts at seen)
    unfolding unary
    low_unary at seen = post_next ts Low (unary_at limits d inner) at seen (λ x e. go x)
      where
        go : (t : Option Lexed) → PostChoice ts Low at t (unary_at limits d inner t)
        go (Some tok) = low_unary_by at tok tok.kind
        go None = tt

    -- ---- operators between operands

    abbrev LowTurn : Value → ℕ → Option Value → ℕ → Type 0
    LowTurn x at = TurnIs (λ y mid. StaysLow x y at mid) at

    low_operand : (l : ℕ) (op : BinaryOperator) (x : Value) (from at seen : ℕ) → x.1 + 1 ≤ suc d → Post (LowTurn x from) (operand limits d inner l op x ts at seen)
    unfolding operand
    low_operand l op x from at seen g = post_bind ts (AtMost d) (LowTurn x from) (inner l) _ at seen (h l at seen)
        (λ z to seen1 r s. omega (arith, r, g))

    low_none : (x : Value) (at : ℕ) (t : Option Lexed) → PostChoice ts (LowTurn x at) at t (Leave (pure None))
    low_none x at (Some t) = λ seen1. refl
    low_none x at None = λ seen1. refl

    low_greater : (l : ℕ) (p : Place) (x : Value) (from at seen : ℕ) → x.1 + 1 ≤ suc d → Post (LowTurn x from) (greater limits d inner l p x ts at seen)
    unfolding greater
    low_greater l p x from at seen g = post_next ts (LowTurn x from) _ at seen (λ t e. by t (joined m.Equal p t))
      where
        by : (t : Option Lexed) (b : Bool) → PostChoice ts (LowTurn x from) at t (if b then Take (operand limits d inner l o.GreaterEqual x) else Leave (operand limits d inner l o.Greater x))
        by (Some t) true = λ seen1. low_operand l o.GreaterEqual x from (at + 1) seen1 g
        by None true = tt
        by t false = λ seen1. low_operand l o.Greater x from at seen1 g

    low_shift : (l : ℕ) (x : Value) (p : Place) (from at seen : ℕ) → Post (LowTurn x from) (shift_by limits d inner l x (Some p) ts at seen)
    low_shift l x p from at seen = by (fits_in limits x.1 (suc d)) refl
      where
        by : (b : Bool) → fits_in limits x.1 (suc d) ≡ b → Post (LowTurn x from) ((if b then operand limits d inner l o.ShiftRight x else past code.TooNested p) ts at seen)
        by true f = low_operand l o.ShiftRight x from at seen (fits_less limits x.1 (suc d) is_free f)
        by false f = tt

    low_operator_mark : (l : ℕ) (x : Value) (at : ℕ) (tok : Lexed) (op : Option BinaryOperator) → PostChoice ts (LowTurn x at) at (Some tok) (operator_mark limits d inner l x tok op)
    low_operator_mark l x at tok None = λ seen1. refl
    low_operator_mark l x at tok (Some op) = by (level_of op == l)
      where
        by : (b : Bool) → PostChoice ts (LowTurn x at) at (Some tok) (if b then over limits d inner x (Some tok) (Take (operand limits d inner l op x)) else Leave (pure None))
        by true = post_fits ts (LowTurn x at) at (Some tok) (fits_in limits x.1 (suc d)) code.TooNested (Take (operand limits d inner l op x)) (λ f seen1. low_operand l op x at (at + 1) seen1 (fits_less limits x.1 (suc d) is_free f))
        by false = λ seen1. refl

    low_operator_greater : (l : ℕ) (x : Value) (at : ℕ) (tok : Lexed) → PostChoice ts (LowTurn x at) at (Some tok) (operator_by limits d inner l x tok (k.Mark m.Greater))
    low_operator_greater l x at tok = by (l == level_of o.Greater) (l == level_of o.ShiftRight)
      where
        by : (a b : Bool) → PostChoice ts (LowTurn x at) at (Some tok)
            (if a then over limits d inner x (Some tok) (Take (greater limits d inner l tok.place x)) else (if b then Leave (attempt shift_ahead (shift_by limits d inner l x)) else Leave (pure None)))
        by true b = post_fits ts (LowTurn x at) at (Some tok) (fits_in limits x.1 (suc d)) code.TooNested (Take (greater limits d inner l tok.place x)) (λ f seen1. low_greater l tok.place x at (at + 1) seen1 (fits_less limits x.1 (suc d) is_free f))
        by false true = λ seen1. post_attempt ts shift_ahead (shift_by limits d inner l x) at seen1 Any (LowTurn x at) (post_unit (shift_ahead ts at seen1))
            (λ b mid seen2 u. low_shift l x b at mid seen2) (λ never seen2. refl)
        by false false = λ seen1. refl

    low_operator_by : (l : ℕ) (x : Value) (at : ℕ) (tok : Lexed) (kind : Kind) → PostChoice ts (LowTurn x at) at (Some tok) (operator_by limits d inner l x tok kind)
    low_operator_by l x at tok (k.Mark mark) = by (is_mark m.Greater (k.Mark mark)) refl
      where
        by : (b : Bool) → is_mark m.Greater (k.Mark mark) ≡ b → PostChoice ts (LowTurn x at) at (Some tok) (operator_by limits d inner l x tok (k.Mark mark))
        by true r = subst (λ a. PostChoice ts (LowTurn x at) at (Some tok) (operator_by limits d inner l x tok (k.Mark a))) (same_mark m.Greater mark r) (low_operator_greater l x at tok)
        by false r = subst (PostChoice ts (LowTurn x at) at (Some tok)) (sym (operator_other limits d inner l x tok mark r)) (low_operator_mark l x at tok (binary_of mark))
    low_operator_by l x at tok k.Name = λ seen1. refl
    low_operator_by l x at tok (k.Word word) = λ seen1. refl
    low_operator_by l x at tok (k.Number v) = λ seen1. refl
    low_operator_by l x at tok k.String = λ seen1. refl

    low_operator : (l : ℕ) (x : Value) (at seen : ℕ) → Post (LowTurn x at) (operator limits d inner l x ts at seen)
    unfolding operator
    low_operator l x at seen = post_next ts (LowTurn x at) (operator_at limits d inner l x) at seen (λ t e. go t)
      where
        go : (t : Option Lexed) → PostChoice ts (LowTurn x at) at t (operator_at limits d inner l x t)
        go (Some tok) = low_operator_by l x at tok tok.kind
        go None = λ seen1. refl

    low_level : (l at seen : ℕ) → Post Low (level limits d inner l ts at seen)
    unfolding level
    low_level zero at seen = low_unary at seen
    low_level (suc l) at seen = post_bind ts Low Low (level limits d inner l) (repeats (operator limits d inner l) limits.turns) at seen (low_level l at seen)
        (λ x mid seen1 s. post_weaken (λ y to. StaysLow x y mid to) Low (λ y to r. r s) (repeats (operator limits d inner l) limits.turns x ts mid seen1)
        (post_repeats ts StaysLow StaysLow (operator limits d inner l) (λ a at s. s) (λ a b c from mid to o q s. q (o s)) (λ a from seen2. low_operator l a from seen2) limits.turns x mid seen1))

    -- ---- choices

    low_choice : (x : Value) (at seen : ℕ) → x.1 + 1 ≤ suc d → Post Low (choice limits d inner x ts at seen)
    unfolding choice
    low_choice x at seen s = post_bind ts (AtMost d) Low (whole limits d inner) _ at seen (h (suc loosest) at seen)
        (λ y mid seen1 q. post_bind ts Any Low (expect m.Colon) _ mid seen1 (post_unit (expect m.Colon ts mid seen1))
        (λ p mid2 seen2 u. post_bind ts (AtMost d) Low (whole limits d inner) _ mid2 seen2 (h (suc loosest) mid2 seen2)
        (λ z to seen3 r. omega (arith, q, r, s))))

    low_choice_rest : (x : Value) (at seen : ℕ) → x.1 ≤ suc d → Post Low (choice_rest limits d inner x ts at seen)
    unfolding choice_rest
    low_choice_rest x at seen s = post_next ts Low _ at seen (λ t e. by t (sees m.Question t))
      where
        by : (t : Option Lexed) (b : Bool) → PostChoice ts Low at t (choice_by limits d inner x t b)
        by (Some tok) true = post_fits ts Low at (Some tok) (fits_in limits x.1 (suc d)) code.TooNested (Take (choice limits d inner x)) (λ f seen1. low_choice x (at + 1) seen1 (fits_less limits x.1 (suc d) is_free f))
        by None true = post_fits ts Low at None (fits_in limits x.1 (suc d)) code.TooNested (Take (choice limits d inner x)) (λ f. tt)
        by (Some tok) false = λ seen1. s
        by None false = λ seen1. s

    low_at_level : (l at seen : ℕ) (b : Bool) → Post Low (at_level limits d inner l b ts at seen)
    low_at_level l at seen true = post_bind ts Low Low (level limits d inner loosest) (choice_rest limits d inner) at seen (low_level loosest at seen) (λ x mid seen1 s. low_choice_rest x mid seen1 s)
    low_at_level l at seen false = low_level l at seen

abbrev NoNode : Value → ℕ → Type 0
NoNode x to = x.1 ≤ zero

pub low_leveled : (ts : List Lexed) (limits : Limits) → limits.free ≡ false → (d l at seen : ℕ) → Post (AtMost d) (leveled limits d l ts at seen)
unfolding leveled
low_leveled ts limits is_free zero l at seen = post_next ts NoNode _ at seen (λ x e. by x (begins x))
  where
    by : (x : Option Lexed) (b : Bool) → PostChoice ts NoNode at x (if b then if_fits false code.TooNested x (Take (past code.TooNested (place_of x))) else Refuse)
    by x true = tt
    by x false = tt
low_leveled ts limits is_free (suc d) l at seen = low_at_level ts limits is_free d (leveled limits d) (λ l at seen. low_leveled ts limits is_free d l at seen) l at seen (l == suc loosest)

pub low_operands : (ts : List Lexed) (limits : Limits) → limits.free ≡ false → (d at seen : ℕ) → Post (AtMost d) (operands limits d ts at seen)
unfolding operands
low_operands ts limits is_free zero at seen = post_bind ts (λ x to. ⊥) (AtMost zero) (next operand_past) (chain_rest limits zero no_values) at seen (post_next ts (λ x to. ⊥) operand_past at seen (λ x e. by x (operand_begins x)))
    (λ x mid seen1 r. absurd r)
  where
    by : (x : Option Lexed) (b : Bool) → PostChoice ts (λ (x : Value) (to : ℕ). ⊥) at x (if b then Pass code.TooNested (place_of x) else Refuse)
    by (Some t) true = tt
    by None true = tt
    by (Some t) false = tt
    by None false = tt
low_operands ts limits is_free (suc d) at seen = low_postfix ts limits is_free d (leveled limits d) (λ l at seen. low_leveled ts limits is_free d l at seen) at seen
