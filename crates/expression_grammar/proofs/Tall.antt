-- Expressions: the number beside an answer is how many nodes stand on its longest path.
use Rattle.std.proofs.Common.{Bool, true, false, ◌≡◌, ℕ, zero, suc, ◌+◌, max, List, [], ◌∷◌, map, length, Option, Some, None, refl, sym, ◌∙◌, ap, subst, arith, ◌==◌, if◌then◌else◌}
use Rattle.std.specs.Prelude.{nat_lt}
use Rattle.slang_names.specs.declared.places.Place.{Place}
use Rattle.slang_names.specs.declared.codes.ModuleCode.TheVariants as code
use Rattle.slang_tree.specs.declared.types.Identifier.{Identifier}
use Rattle.slang_tree.specs.declared.types.Builtin.{Builtin}
use Rattle.slang_tree.specs.declared.expressions.UnaryOperator.{UnaryOperator}
use Rattle.slang_tree.specs.declared.expressions.BinaryOperator.{BinaryOperator}
use Rattle.slang_tree.specs.declared.expressions.BinaryOperator.TheVariants as o
use Rattle.slang_tokens.specs.declared.tokens.Kind.{Kind}
use Rattle.slang_tokens.specs.declared.tokens.Kind.TheVariants as k
use Rattle.slang_tokens.specs.declared.tokens.Mark.{Mark}
use Rattle.slang_tokens.specs.declared.tokens.Mark.TheVariants as m
use Rattle.slang_tokens.specs.declared.tokens.Word.{Word}
use Rattle.slang_reading.specs.Lexed.{Lexed}
use Rattle.slang_reading.specs.Reading.{Parser, Leave, Take, Refuse, if_fits, pure, past, place_of, next, attempt, turns}
use Rattle.slang_reading.specs.Kinds.{is_mark, sees, span}
use Rattle.slang_reading.proofs.Marks.{same_mark}
use Rattle.slang_reading.proofs.Exact.{Post, PostChoice, post_bind, post_next, post_fits, post_turns, post_unit, post_attempt, post_weaken}
use Rattle.slang_grammar.specs.Tables.{builtin_of, unary_of, binary_of, level_of}
use Rattle.slang_grammar.specs.Heights.{greatest, argument_height}
use Rattle.slang_grammar.specs.Expressions.{loosest}
use Rattle.slang_grammar.specs.Descent.{Limits, fits_in, expect, identifier, is_short}
use Rattle.slang_grammar.specs.TypesDescent.{Arguments, arguments, types}
use Rattle.slang_grammar.specs.ExpressionsDescent.{Value, Values, arguments_ahead, Given, given_by, given_at, given, repeats, begins, joined, shift_ahead, cast_ahead, whole, over, value_of, value, value_more, values_by, values, construct, primary_word, named, paren, primary_by, member_name, member_by, member_at, index, call, chain_by, chain_at, chain, chains, chain_rest, primary_at, postfix, prefix, cast_by, unary_mark, unary_by, unary_at, unary, operand, greater, shift_by, operator_mark, operator_by, operator_at, operator, level, choice, choice_by, choice_rest, at_level, leveled}
use Rattle.slang_grammar.proofs.TypesTall.{tall_arguments, tall_types}
use Rattle.expression_grammar.specs.Heights.{expr_height}
use Rattle.expression_grammar.proofs.Heights.{height_value, height_true, height_false, height_this_value, height_this_type, height_name, height_construct, height_paren, height_member, height_index, height_call, height_unary, height_cast, height_binary, height_choice, greatest_longer}
use Rattle.expression_grammar.proofs.Parts.{post_ahead, TurnIs, post_repeats}
use Rattle.expression_grammar.proofs.Tables.{operator_other, unary_other, primary_other, chain_other, WordOf, true_word, false_word, this_value, this_type, other, word_of}

abbrev Tall : Value → ℕ → Type 0
Tall x to = expr_height x.0 ≡ x.1

abbrev TallValues : Values × Place → ℕ → Type 0
TallValues r to = greatest (map expr_height r.0.0) ≡ r.0.1

abbrev TallGiven : Given → ℕ → Type 0
TallGiven a to = greatest (map argument_height a.0) ≡ a.1

abbrev Any : {A : Type 0} → A → ℕ → Type 0
Any a to = Unit {0}

module _ (ts : List Lexed) (limits : Limits) (d : ℕ) where
  tall_given_by : (place : Place) (at seen : ℕ) (b : Bool) → Post TallGiven (given_by limits d place b ts at seen)
  tall_given_by place at seen true = post_bind ts (λ (r : Arguments × Place) (to : ℕ). greatest (map argument_height r.0.0) ≡ r.0.1) TallGiven (arguments limits true d (types limits d)) _ at seen
      (tall_arguments ts limits true d (types limits d) (λ from seen1. tall_types ts limits d from seen1) at seen) (λ a to seen1 r. r)
  tall_given_by place at seen false = refl

  pub tall_given : (place : Place) (at seen : ℕ) → Post TallGiven (given limits d place ts at seen)
  unfolding given
  tall_given place at seen = post_next ts TallGiven _ at seen (λ x e. by x (sees m.Less x))
    where
      by : (x : Option Lexed) (b : Bool) → PostChoice ts TallGiven at x (given_at limits d place b)
      by x true = λ seen1. post_ahead ts (arguments_ahead limits) (given_by limits d place) at seen1 TallGiven
          (λ b mid seen2 r. tall_given_by place at seen2 true) (λ seen2 r. tall_given_by place at seen2 false)
      by x false = λ seen1. refl

  module _ (inner : ℕ → Parser Value) (h : (l at seen : ℕ) → Post Tall (inner l ts at seen)) where
    -- ---- values between parentheses

    tall_value : (count at seen : ℕ) → Post Tall (value limits d inner count ts at seen)
    unfolding value
    tall_value count at seen = post_next ts Tall _ at seen
        (λ x e. post_fits ts Tall at x (fits_in limits count limits.items) code.TooLong (value_of limits d inner x) (λ f. by x (begins x)))
      where
        by : (x : Option Lexed) (b : Bool) → PostChoice ts Tall at x (if b then if_fits (nat_lt 0 d) code.TooNested x (Leave (whole limits d inner)) else Refuse)
        by x true = post_fits ts Tall at x (nat_lt 0 d) code.TooNested (Leave (whole limits d inner)) (λ f seen1. h (suc loosest) at seen1)
        by x false = tt

    abbrev Stays : Values → Values → ℕ → ℕ → Type 0
    Stays a b from to = greatest (map expr_height a.0) ≡ a.1 → greatest (map expr_height b.0) ≡ b.1

    tall_value_more : (list : Values) (at seen : ℕ) → Post (λ b mid. Stays list b at mid) (value_more limits d inner list ts at seen)
    unfolding value_more
    tall_value_more list at seen = post_bind ts Any (λ b mid. Stays list b at mid) (expect m.Comma) _ at seen (post_unit (expect m.Comma ts at seen))
        (λ p mid seen1 u. post_bind ts Tall (λ b to. Stays list b at to) (value limits d inner (length list.0)) _ mid seen1 (tall_value (length list.0) mid seen1)
        (λ x to seen2 r s. greatest_longer list.0 x.0 ∙ (ap (λ a. max a (expr_height x.0)) s ∙ ap (max list.1) r)))

    tall_values : (at seen : ℕ) → Post TallValues (values limits d inner ts at seen)
    unfolding values
    tall_values at seen = post_next ts TallValues _ at seen (λ x e. by x (sees m.CloseParen x))
      where
        by : (x : Option Lexed) (b : Bool) → PostChoice ts TallValues at x (values_by limits d inner b)
        by x true = λ seen1. post_bind ts Any TallValues (expect m.CloseParen) _ at seen1 (post_unit (expect m.CloseParen ts at seen1)) (λ end to seen2 u. refl)
        by x false = λ seen1. post_bind ts Tall TallValues (value limits d inner 0) _ at seen1 (tall_value 0 at seen1)
            (λ x mid seen2 r. post_bind ts (λ b to. Stays (x.0 ∷ [], x.1) b mid to) TallValues (turns (sees m.Comma) (value_more limits d inner) limits.turns (x.0 ∷ [], x.1)) _ mid seen2
            (post_turns ts Stays Stays (sees m.Comma) (value_more limits d inner) (λ a at s. s) (λ a b c from mid to o q s. q (o s)) (λ a from seen3 e. tall_value_more a from seen3) limits.turns (x.0 ∷ [], x.1) mid seen2)
            (λ all mid2 seen3 q. post_bind ts Any TallValues (expect m.CloseParen) _ mid2 seen3 (post_unit (expect m.CloseParen ts mid2 seen3))
            (λ end to seen4 u. let one : max (expr_height x.0) 0 ≡ x.1 = omega (arith, r) in q one)))

    -- ---- primaries

    tall_construct : (begin : Place) (b : Builtin) (at seen : ℕ) → Post Tall (construct limits d inner begin b ts at seen)
    unfolding construct
    tall_construct begin b at seen = post_bind ts Any Tall (expect m.OpenParen) _ at seen (post_unit (expect m.OpenParen ts at seen))
        (λ p mid seen1 u. post_bind ts TallValues Tall (values limits d inner) _ mid seen1 (tall_values mid seen1)
        (λ v to seen2 r. height_construct (span begin v.1) b v.0.0 ∙ ap (λ n. n + 1) r))

    tall_paren : (begin : Place) (at seen : ℕ) → Post Tall (paren limits d inner begin ts at seen)
    unfolding paren
    tall_paren begin at seen = post_bind ts Tall Tall (whole limits d inner) _ at seen (h (suc loosest) at seen)
        (λ x mid seen1 r. post_bind ts Any Tall (expect m.CloseParen) _ mid seen1 (post_unit (expect m.CloseParen ts mid seen1))
        (λ end to seen2 u. height_paren (span begin end) x.0 ∙ ap (λ n. n + 1) r))

    tall_named : (id : Identifier) (at seen : ℕ) → Post Tall (named limits d inner id ts at seen)
    unfolding named
    tall_named id at seen = post_bind ts TallGiven Tall (given limits d id.place) _ at seen (tall_given id.place at seen)
        (λ a to seen1 r. height_name (span id.place a.2) id a.0 ∙ ap (λ n. n + 1) r)

    tall_primary_word : (at : ℕ) (tok : Lexed) (word : Word) (b : Option Builtin) → PostChoice ts Tall at (Some tok) (primary_word limits d inner tok word b)
    tall_primary_word at tok word (Some b) = λ seen1. tall_construct tok.place b (at + 1) seen1
    tall_primary_word at tok word None = by (word_of limits d inner word tok)
      where
        by : WordOf limits d inner word tok → PostChoice ts Tall at (Some tok) (primary_word limits d inner tok word None)
        by (true_word e) = subst (λ a. PostChoice ts Tall at (Some tok) (primary_word limits d inner tok a None)) (sym e) (λ seen1. height_true tok.place)
        by (false_word e) = subst (λ a. PostChoice ts Tall at (Some tok) (primary_word limits d inner tok a None)) (sym e) (λ seen1. height_false tok.place)
        by (this_value e) = subst (λ a. PostChoice ts Tall at (Some tok) (primary_word limits d inner tok a None)) (sym e) (λ seen1. height_this_value tok.place)
        by (this_type e) = subst (λ a. PostChoice ts Tall at (Some tok) (primary_word limits d inner tok a None)) (sym e) (λ seen1. height_this_type tok.place)
        by (other e) = subst (PostChoice ts Tall at (Some tok)) (sym e) tt

    tall_primary_by : (at : ℕ) (tok : Lexed) (kind : Kind) → PostChoice ts Tall at (Some tok) (primary_by limits d inner tok kind)
    tall_primary_by at tok (k.Number v) = λ seen1. height_value tok.place v
    tall_primary_by at tok k.Name = post_fits ts Tall at (Some tok) (is_short limits tok) code.TooLong (Take (named limits d inner (identifier tok))) (λ f seen1. tall_named (identifier tok) (at + 1) seen1)
    tall_primary_by at tok (k.Word word) = tall_primary_word at tok word (builtin_of word)
    tall_primary_by at tok k.String = tt
    tall_primary_by at tok (k.Mark mark) = by (is_mark m.OpenParen (k.Mark mark)) refl
      where
        by : (b : Bool) → is_mark m.OpenParen (k.Mark mark) ≡ b → PostChoice ts Tall at (Some tok) (primary_by limits d inner tok (k.Mark mark))
        by true r = subst (λ a. PostChoice ts Tall at (Some tok) (primary_by limits d inner tok (k.Mark a))) (same_mark m.OpenParen mark r) (λ seen1. tall_paren tok.place (at + 1) seen1)
        by false r = subst (PostChoice ts Tall at (Some tok)) (sym (primary_other limits d inner tok mark r)) tt

    -- ---- members, indices and calls

    abbrev StaysTall : Value → Value → ℕ → ℕ → Type 0
    StaysTall x y from to = expr_height x.0 ≡ x.1 → expr_height y.0 ≡ y.1

    both : (a b c e : ℕ) → a ≡ c → b ≡ e → max a b + 1 ≡ max c e + 1
    both a b c e p q = ap (λ n. max n b + 1) p ∙ ap (λ n. max c n + 1) q

    tall_member : (x : Value) (from at seen : ℕ) → Post (λ y to. StaysTall x y from to) (next (member_at limits d inner x) ts at seen)
    unfolding member_name
    tall_member x from at seen = post_next ts (λ y to. StaysTall x y from to) (member_at limits d inner x) at seen (λ o e. go o)
      where
        by : (tok : Lexed) (kind : Kind) → PostChoice ts (λ y to. StaysTall x y from to) at (Some tok) (member_by limits d inner x tok kind)
        by tok k.Name = post_fits ts (λ y to. StaysTall x y from to) at (Some tok) (is_short limits tok) code.TooLong (Take (member_name limits d inner x (identifier tok)))
            (λ f seen1. post_bind ts TallGiven (λ y to. StaysTall x y from to) (given limits d tok.place) _ (at + 1) seen1 (tall_given tok.place (at + 1) seen1)
            (λ a to seen2 r s. height_member (span x.0.place a.2) x.0 (identifier tok) a.0 ∙ both (expr_height x.0) (greatest (map argument_height a.0)) x.1 a.1 s r))
        by tok (k.Word word) = tt
        by tok (k.Number v) = tt
        by tok k.String = tt
        by tok (k.Mark mark) = tt

        go : (o : Option Lexed) → PostChoice ts (λ y to. StaysTall x y from to) at o (member_at limits d inner x o)
        go (Some tok) = by tok tok.kind
        go None = tt

    tall_index : (x : Value) (from at seen : ℕ) → Post (λ y to. StaysTall x y from to) (index limits d inner x ts at seen)
    unfolding index
    tall_index x from at seen = post_bind ts Tall (λ y to. StaysTall x y from to) (whole limits d inner) _ at seen (h (suc loosest) at seen)
        (λ i mid seen1 r. post_bind ts Any (λ y to. StaysTall x y from to) (expect m.CloseBracket) _ mid seen1 (post_unit (expect m.CloseBracket ts mid seen1))
        (λ end to seen2 u s. height_index (span x.0.place end) x.0 i.0 ∙ both (expr_height x.0) (expr_height i.0) x.1 i.1 s r))

    tall_call : (x : Value) (from at seen : ℕ) → Post (λ y to. StaysTall x y from to) (call limits d inner x ts at seen)
    unfolding call
    tall_call x from at seen = post_bind ts TallValues (λ y to. StaysTall x y from to) (values limits d inner) _ at seen (tall_values at seen)
        (λ v to seen1 r s. height_call (span x.0.place v.1) x.0 v.0.0 ∙ both (expr_height x.0) (greatest (map expr_height v.0.0)) x.1 v.0.1 s r)

    tall_over : (x : Value) (from at : ℕ) (tok : Lexed) (p : Parser Value) → ((seen1 : ℕ) → Post (λ y to. StaysTall x y from to) (p ts (at + 1) seen1)) →
        PostChoice ts (λ y to. StaysTall x y from to) at (Some tok) (over limits d inner x (Some tok) (Take p))
    tall_over x from at tok p r = post_fits ts (λ y to. StaysTall x y from to) at (Some tok) (fits_in limits x.1 (suc d)) code.TooNested (Take p) (λ f. r)

    tall_chain : (x : Value) (at seen : ℕ) → Post (λ y to. StaysTall x y at to) (chain limits d inner x ts at seen)
    unfolding chain
    tall_chain x at seen = post_next ts (λ y to. StaysTall x y at to) (chain_at limits d inner x) at seen (λ t e. go t)
      where
        goes : (tok : Lexed) (mark : Mark) (a b c : Bool) → is_mark m.Dot (k.Mark mark) ≡ a → is_mark m.OpenBracket (k.Mark mark) ≡ b → is_mark m.OpenParen (k.Mark mark) ≡ c →
            PostChoice ts (λ y to. StaysTall x y at to) at (Some tok) (chain_by limits d inner x (Some tok) (k.Mark mark))
        goes tok mark true b c r s t = subst (λ a. PostChoice ts (λ y to. StaysTall x y at to) at (Some tok) (chain_by limits d inner x (Some tok) (k.Mark a))) (same_mark m.Dot mark r)
            (tall_over x at at tok (next (member_at limits d inner x)) (λ seen1. tall_member x at (at + 1) seen1))
        goes tok mark false true c r s t = subst (λ a. PostChoice ts (λ y to. StaysTall x y at to) at (Some tok) (chain_by limits d inner x (Some tok) (k.Mark a))) (same_mark m.OpenBracket mark s)
            (tall_over x at at tok (index limits d inner x) (λ seen1. tall_index x at (at + 1) seen1))
        goes tok mark false false true r s t = subst (λ a. PostChoice ts (λ y to. StaysTall x y at to) at (Some tok) (chain_by limits d inner x (Some tok) (k.Mark a))) (same_mark m.OpenParen mark t)
            (tall_over x at at tok (call limits d inner x) (λ seen1. tall_call x at (at + 1) seen1))
        goes tok mark false false false r s t = subst (PostChoice ts (λ y to. StaysTall x y at to) at (Some tok)) (sym (chain_other limits d inner x (Some tok) mark r s t)) tt

        by : (tok : Lexed) (kind : Kind) → PostChoice ts (λ y to. StaysTall x y at to) at (Some tok) (chain_by limits d inner x (Some tok) kind)
        by tok (k.Mark mark) = goes tok mark (is_mark m.Dot (k.Mark mark)) (is_mark m.OpenBracket (k.Mark mark)) (is_mark m.OpenParen (k.Mark mark)) refl refl refl
        by tok k.Name = tt
        by tok (k.Word word) = tt
        by tok (k.Number v) = tt
        by tok k.String = tt

        go : (t : Option Lexed) → PostChoice ts (λ y to. StaysTall x y at to) at t (chain_at limits d inner x t)
        go (Some tok) = by tok tok.kind
        go None = tt

    tall_chain_rest : (x : Value) (at seen : ℕ) → expr_height x.0 ≡ x.1 → Post Tall (chain_rest limits d inner x ts at seen)
    unfolding chain_rest
    tall_chain_rest x at seen s = post_weaken (λ y to. StaysTall x y at to) Tall (λ y to r. r s) (turns (chains limits d inner) (chain limits d inner) limits.turns x ts at seen)
        (post_turns ts StaysTall StaysTall (chains limits d inner) (chain limits d inner) (λ a at s. s) (λ a b c from mid to o q s. q (o s)) (λ a from seen1 e. tall_chain a from seen1) limits.turns x at seen)

    pub tall_postfix : (at seen : ℕ) → Post Tall (postfix limits d inner ts at seen)
    unfolding postfix
    tall_postfix at seen = post_bind ts Tall Tall (next (primary_at limits d inner)) (chain_rest limits d inner) at seen (post_next ts Tall (primary_at limits d inner) at seen (λ x e. go x))
        (λ x mid seen1 r. tall_chain_rest x mid seen1 r)
      where
        go : (t : Option Lexed) → PostChoice ts Tall at t (primary_at limits d inner t)
        go (Some tok) = tall_primary_by at tok tok.kind
        go None = tt

    -- ---- operators before an operand, and casts

    tall_opened : (begin : Place) (at seen : ℕ) → Post Tall (attempt cast_ahead (cast_by limits d inner begin) ts at seen)
    tall_opened begin at seen = post_attempt ts cast_ahead (cast_by limits d inner begin) at seen Any Tall (post_unit (cast_ahead ts at seen))
        (λ b mid seen1 u. post_bind ts Tall Tall (inner zero) _ mid seen1 (h zero mid seen1) (λ x to seen2 r. height_cast (span begin x.0.place) b x.0 ∙ ap (λ n. n + 1) r))
        (λ never seen1. post_bind ts Tall Tall (paren limits d inner begin) (chain_rest limits d inner) at seen1 (tall_paren begin at seen1) (λ x mid seen2 r. tall_chain_rest x mid seen2 r))

    tall_unary_mark : (at : ℕ) (tok : Lexed) (op : Option UnaryOperator) → PostChoice ts Tall at (Some tok) (unary_mark limits d inner tok op)
    unfolding prefix
    tall_unary_mark at tok (Some op) = λ seen1. post_bind ts Tall Tall (inner zero) _ (at + 1) seen1 (h zero (at + 1) seen1) (λ x to seen2 r. height_unary (span tok.place x.0.place) op x.0 ∙ ap (λ n. n + 1) r)
    tall_unary_mark at tok None = λ seen1. tall_postfix at seen1

    tall_unary_by : (at : ℕ) (tok : Lexed) (kind : Kind) → PostChoice ts Tall at (Some tok) (unary_by limits d inner tok kind)
    tall_unary_by at tok (k.Mark mark) = by (is_mark m.OpenParen (k.Mark mark)) refl
      where
        by : (b : Bool) → is_mark m.OpenParen (k.Mark mark) ≡ b → PostChoice ts Tall at (Some tok) (unary_by limits d inner tok (k.Mark mark))
        by true r = subst (λ a. PostChoice ts Tall at (Some tok) (unary_by limits d inner tok (k.Mark a))) (same_mark m.OpenParen mark r) (λ seen1. tall_opened tok.place (at + 1) seen1)
        by false r = subst (PostChoice ts Tall at (Some tok)) (sym (unary_other limits d inner tok mark r)) (tall_unary_mark at tok (unary_of mark))
    tall_unary_by at tok k.Name = λ seen1. tall_postfix at seen1
    tall_unary_by at tok (k.Word word) = λ seen1. tall_postfix at seen1
    tall_unary_by at tok (k.Number v) = λ seen1. tall_postfix at seen1
    tall_unary_by at tok k.String = λ seen1. tall_postfix at seen1

    tall_unary : (at seen : ℕ) → Post Tall (unary limits d inner ts at seen)
    unfolding unary
    tall_unary at seen = post_next ts Tall (unary_at limits d inner) at seen (λ x e. go x)
      where
        go : (t : Option Lexed) → PostChoice ts Tall at t (unary_at limits d inner t)
        go (Some tok) = tall_unary_by at tok tok.kind
        go None = tt

    -- ---- operators between operands

    abbrev TallTurn : Value → ℕ → Option Value → ℕ → Type 0
    TallTurn x at = TurnIs (λ y mid. StaysTall x y at mid) at

    tall_operand : (l : ℕ) (op : BinaryOperator) (x : Value) (from at seen : ℕ) → Post (TallTurn x from) (operand limits d inner l op x ts at seen)
    unfolding operand
    tall_operand l op x from at seen = post_bind ts Tall (TallTurn x from) (inner l) _ at seen (h l at seen)
        (λ z to seen1 r s. height_binary (span x.0.place z.0.place) op x.0 z.0 ∙ both (expr_height x.0) (expr_height z.0) x.1 z.1 s r)

    tall_none : (x : Value) (at : ℕ) (t : Option Lexed) → PostChoice ts (TallTurn x at) at t (Leave (pure None))
    tall_none x at (Some t) = λ seen1. refl
    tall_none x at None = λ seen1. refl

    tall_greater : (l : ℕ) (p : Place) (x : Value) (from at seen : ℕ) → Post (TallTurn x from) (greater limits d inner l p x ts at seen)
    unfolding greater
    tall_greater l p x from at seen = post_next ts (TallTurn x from) _ at seen (λ t e. by t (joined m.Equal p t))
      where
        by : (t : Option Lexed) (b : Bool) → PostChoice ts (TallTurn x from) at t (if b then Take (operand limits d inner l o.GreaterEqual x) else Leave (operand limits d inner l o.Greater x))
        by (Some t) true = λ seen1. tall_operand l o.GreaterEqual x from (at + 1) seen1
        by None true = tt
        by t false = λ seen1. tall_operand l o.Greater x from at seen1

    tall_shift : (l : ℕ) (x : Value) (p : Place) (from at seen : ℕ) → Post (TallTurn x from) (shift_by limits d inner l x (Some p) ts at seen)
    tall_shift l x p from at seen = by (fits_in limits x.1 (suc d))
      where
        by : (b : Bool) → Post (TallTurn x from) ((if b then operand limits d inner l o.ShiftRight x else past code.TooNested p) ts at seen)
        by true = tall_operand l o.ShiftRight x from at seen
        by false = tt

    tall_operator_mark : (l : ℕ) (x : Value) (at : ℕ) (tok : Lexed) (op : Option BinaryOperator) → PostChoice ts (TallTurn x at) at (Some tok) (operator_mark limits d inner l x tok op)
    tall_operator_mark l x at tok None = λ seen1. refl
    tall_operator_mark l x at tok (Some op) = by (level_of op == l)
      where
        by : (b : Bool) → PostChoice ts (TallTurn x at) at (Some tok) (if b then over limits d inner x (Some tok) (Take (operand limits d inner l op x)) else Leave (pure None))
        by true = post_fits ts (TallTurn x at) at (Some tok) (fits_in limits x.1 (suc d)) code.TooNested (Take (operand limits d inner l op x)) (λ f seen1. tall_operand l op x at (at + 1) seen1)
        by false = λ seen1. refl

    tall_operator_greater : (l : ℕ) (x : Value) (at : ℕ) (tok : Lexed) → PostChoice ts (TallTurn x at) at (Some tok) (operator_by limits d inner l x tok (k.Mark m.Greater))
    tall_operator_greater l x at tok = by (l == level_of o.Greater) (l == level_of o.ShiftRight)
      where
        by : (a b : Bool) → PostChoice ts (TallTurn x at) at (Some tok)
            (if a then over limits d inner x (Some tok) (Take (greater limits d inner l tok.place x)) else (if b then Leave (attempt shift_ahead (shift_by limits d inner l x)) else Leave (pure None)))
        by true b = post_fits ts (TallTurn x at) at (Some tok) (fits_in limits x.1 (suc d)) code.TooNested (Take (greater limits d inner l tok.place x)) (λ f seen1. tall_greater l tok.place x at (at + 1) seen1)
        by false true = λ seen1. post_attempt ts shift_ahead (shift_by limits d inner l x) at seen1 Any (TallTurn x at) (post_unit (shift_ahead ts at seen1))
            (λ b mid seen2 u. tall_shift l x b at mid seen2) (λ never seen2. refl)
        by false false = λ seen1. refl

    tall_operator_by : (l : ℕ) (x : Value) (at : ℕ) (tok : Lexed) (kind : Kind) → PostChoice ts (TallTurn x at) at (Some tok) (operator_by limits d inner l x tok kind)
    tall_operator_by l x at tok (k.Mark mark) = by (is_mark m.Greater (k.Mark mark)) refl
      where
        by : (b : Bool) → is_mark m.Greater (k.Mark mark) ≡ b → PostChoice ts (TallTurn x at) at (Some tok) (operator_by limits d inner l x tok (k.Mark mark))
        by true r = subst (λ a. PostChoice ts (TallTurn x at) at (Some tok) (operator_by limits d inner l x tok (k.Mark a))) (same_mark m.Greater mark r) (tall_operator_greater l x at tok)
        by false r = subst (PostChoice ts (TallTurn x at) at (Some tok)) (sym (operator_other limits d inner l x tok mark r)) (tall_operator_mark l x at tok (binary_of mark))
    tall_operator_by l x at tok k.Name = λ seen1. refl
    tall_operator_by l x at tok (k.Word word) = λ seen1. refl
    tall_operator_by l x at tok (k.Number v) = λ seen1. refl
    tall_operator_by l x at tok k.String = λ seen1. refl

    tall_operator : (l : ℕ) (x : Value) (at seen : ℕ) → Post (TallTurn x at) (operator limits d inner l x ts at seen)
    unfolding operator
    tall_operator l x at seen = post_next ts (TallTurn x at) (operator_at limits d inner l x) at seen (λ t e. go t)
      where
        go : (t : Option Lexed) → PostChoice ts (TallTurn x at) at t (operator_at limits d inner l x t)
        go (Some tok) = tall_operator_by l x at tok tok.kind
        go None = λ seen1. refl

    tall_level : (l at seen : ℕ) → Post Tall (level limits d inner l ts at seen)
    unfolding level
    tall_level zero at seen = tall_unary at seen
    tall_level (suc l) at seen = post_bind ts Tall Tall (level limits d inner l) (repeats (operator limits d inner l) limits.turns) at seen (tall_level l at seen)
        (λ x mid seen1 s. post_weaken (λ y to. StaysTall x y mid to) Tall (λ y to r. r s) (repeats (operator limits d inner l) limits.turns x ts mid seen1)
        (post_repeats ts StaysTall StaysTall (operator limits d inner l) (λ a at s. s) (λ a b c from mid to o q s. q (o s)) (λ a from seen2. tall_operator l a from seen2) limits.turns x mid seen1))

    -- ---- choices

    tall_choice : (x : Value) (at seen : ℕ) → expr_height x.0 ≡ x.1 → Post Tall (choice limits d inner x ts at seen)
    unfolding choice
    tall_choice x at seen s = post_bind ts Tall Tall (whole limits d inner) _ at seen (h (suc loosest) at seen)
        (λ y mid seen1 q. post_bind ts Any Tall (expect m.Colon) _ mid seen1 (post_unit (expect m.Colon ts mid seen1))
        (λ p mid2 seen2 u. post_bind ts Tall Tall (whole limits d inner) _ mid2 seen2 (h (suc loosest) mid2 seen2)
        (λ z to seen3 r. height_choice (span x.0.place z.0.place) x.0 y.0 z.0 ∙
        both (expr_height x.0) (max (expr_height y.0) (expr_height z.0)) x.1 (max y.1 z.1) s (ap (λ n. max n (expr_height z.0)) q ∙ ap (max y.1) r))))

    tall_choice_rest : (x : Value) (at seen : ℕ) → expr_height x.0 ≡ x.1 → Post Tall (choice_rest limits d inner x ts at seen)
    unfolding choice_rest
    tall_choice_rest x at seen s = post_next ts Tall _ at seen (λ t e. by t (sees m.Question t))
      where
        by : (t : Option Lexed) (b : Bool) → PostChoice ts Tall at t (choice_by limits d inner x t b)
        by (Some tok) true = post_fits ts Tall at (Some tok) (fits_in limits x.1 (suc d)) code.TooNested (Take (choice limits d inner x)) (λ f seen1. tall_choice x (at + 1) seen1 s)
        by None true = post_fits ts Tall at None (fits_in limits x.1 (suc d)) code.TooNested (Take (choice limits d inner x)) (λ f. tt)
        by (Some tok) false = λ seen1. s
        by None false = λ seen1. s

    tall_at_level : (l at seen : ℕ) (b : Bool) → Post Tall (at_level limits d inner l b ts at seen)
    tall_at_level l at seen true = post_bind ts Tall Tall (level limits d inner loosest) (choice_rest limits d inner) at seen (tall_level loosest at seen) (λ x mid seen1 s. tall_choice_rest x mid seen1 s)
    tall_at_level l at seen false = tall_level l at seen

pub tall_leveled : (ts : List Lexed) (limits : Limits) (d l at seen : ℕ) → Post Tall (leveled limits d l ts at seen)
unfolding leveled
tall_leveled ts limits zero l at seen = post_next ts Tall _ at seen (λ x e. by x (begins x))
  where
    by : (x : Option Lexed) (b : Bool) → PostChoice ts Tall at x (if b then if_fits false code.TooNested x (Take (past code.TooNested (place_of x))) else Refuse)
    by x true = tt
    by x false = tt
tall_leveled ts limits (suc d) l at seen = tall_at_level ts limits d (leveled limits d) (λ l at seen. tall_leveled ts limits d l at seen) l at seen (l == suc loosest)
