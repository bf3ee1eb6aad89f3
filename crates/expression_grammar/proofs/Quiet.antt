-- Where an expression begins, and behind what it does not go on.
use Rattle.std.proofs.Common.{Bool, true, false, ◌≡◌, ℕ, suc, ◌+◌, ◌≤◌, List, drop, Option, Some, None, refl, sym, ◌∙◌, ap, subst, arith, ◌||◌}
use Rattle.slang_names.specs.declared.places.Place.{Place}
use Rattle.slang_tree.specs.declared.types.Builtin.{Builtin}
use Rattle.slang_tree.specs.declared.expressions.BinaryOperator.{BinaryOperator}
use Rattle.slang_tree.specs.declared.expressions.BinaryOperator.TheVariants as o
use Rattle.slang_tree.specs.declared.expressions.ExprTree.{ExprTree}
use Rattle.slang_tokens.specs.declared.tokens.Kind.{Kind}
use Rattle.slang_tokens.specs.declared.tokens.Kind.TheVariants as k
use Rattle.slang_tokens.specs.declared.tokens.Mark.{Mark}
use Rattle.slang_tokens.specs.declared.tokens.Mark.TheVariants as m
use Rattle.slang_tokens.specs.declared.tokens.Word.{Word}
use Rattle.slang_tokens.specs.declared.tokens.Word.TheVariants as w
use Rattle.slang_reading.specs.Lexed.{Lexed}
use Rattle.slang_reading.specs.Reading.{first}
use Rattle.slang_reading.specs.Kinds.{is_mark, sees}
use Rattle.slang_reading.proofs.Marks.{sees_some}
use Rattle.slang_grammar.specs.Tables.{builtin_of, binary_of, level_of}
use Rattle.slang_grammar.specs.Standing.{Stands}
use Rattle.slang_grammar.specs.Expressions as ex
use Rattle.slang_grammar.specs.Expressions.{NameAt, OperatorAt, loosest, ExprAt, LevelAt, BinaryAt, UnaryAt, PostfixAt, ChainAt, MoreValuesAt, PrimaryAt}
use Rattle.slang_grammar.specs.ExpressionsDescent.{begins_by, begins}
use Rattle.expression_grammar.specs.Ends.{goes_on_by, goes_on}
use Rattle.expression_grammar.proofs.Tables.{begins_unary, begins_builtin, ends_mark, operator_mark_only}

-- ---- one token has one kind

kind_in : Kind → Option Lexed → Kind
kind_in other (Some t) = t.kind
kind_in other None = other

pub one_kind : (ts : List Lexed) (at : ℕ) (a b : Kind) (p q : Place) → Stands ts at a p → Stands ts at b q → a ≡ b
unfolding kind_in
one_kind ts at a b p q s t = ap (kind_in a) (sym s.is ∙ t.is)

mark_in : Mark → Kind → Mark
mark_in other (k.Mark a) = a
mark_in other _ = other

pub one_mark : (ts : List Lexed) (at : ℕ) (a b : Mark) (p q : Place) → Stands ts at (k.Mark a) p → Stands ts at (k.Mark b) q → a ≡ b
unfolding mark_in
one_mark ts at a b p q s t = ap (mark_in a) (one_kind ts at (k.Mark a) (k.Mark b) p q s t)

-- ---- what begins an expression

name_begins : {ts : List Lexed} {id : _} {args : _} {end : Place} {from to : ℕ} → NameAt ts id args end from to → begins (first (drop from ts)) ≡ true
name_begins (ex.alone s a) = ap begins s.is
name_begins (ex.generic s a f) = ap begins s.is

primary_begins : {ts : List Lexed} {x : ExprTree} {from to : ℕ} → PrimaryAt ts x from to → begins (first (drop from ts)) ≡ true
primary_begins (ex.number s) = ap begins s.is
primary_begins (ex.true_word s) = ap begins s.is
primary_begins (ex.false_word s) = ap begins s.is
primary_begins (ex.this_value s) = ap begins s.is
primary_begins (ex.this_type s) = ap begins s.is
primary_begins (ex.name r) = name_begins r
primary_begins (ex.construct {word = word} {b = b} s q o v) = ap begins s.is ∙ begins_builtin word b q
primary_begins (ex.paren s e r) = ap begins s.is

pub unary_begins : {ts : List Lexed} {x : ExprTree} {from to : ℕ} → UnaryAt ts x from to → begins (first (drop from ts)) ≡ true
unary_begins (ex.simple (ex.postfix p c)) = primary_begins p
unary_begins (ex.prefix {mark = mark} {op = op} s q u) = ap begins s.is ∙ begins_unary mark op q
unary_begins (ex.cast s q b r u) = ap begins s.is

pub level_begins : {ts : List Lexed} {l from to : ℕ} {x : ExprTree} → LevelAt ts l x from to → begins (first (drop from ts)) ≡ true
level_begins (ex.unary u) = unary_begins u
level_begins (ex.binary v b) = level_begins v

pub expr_begins : {ts : List Lexed} {x : ExprTree} {from to : ℕ} → ExprAt ts x from to → begins (first (drop from ts)) ≡ true
expr_begins (ex.plain v) = level_begins v
expr_begins (ex.choice v q y c z) = level_begins v

-- where an expression begins, no other mark stands
pub begins_not : (mark : Mark) (x : Option Lexed) → begins x ≡ true → begins_by (k.Mark mark) ≡ false → sees mark x ≡ false
begins_not mark None b e = cc
begins_not mark (Some t) b e = by (sees mark (Some t)) refl
  where
    differ : begins_by t.kind ≡ true → t.kind ≡ k.Mark mark → begins_by (k.Mark mark) ≡ false → ⊥
    differ b q e = let c : true ≡ false = sym b ∙ (ap begins_by q ∙ e) in cc

    by : (c : Bool) → sees mark (Some t) ≡ c → c ≡ false
    by false s = refl
    by true s = let u = sees_some mark (Some t) s in absurd (differ b (ap kind_of u.1 ∙ u.2) e)
      where
        kind_of : Option Lexed → Kind
        kind_of (Some t) = t.kind
        kind_of None = k.String

-- ---- what goes on behind an operand

-- a member, an index or a call
abbrev pub goes_in : Option Lexed → Bool
goes_in x = sees m.Dot x || sees m.OpenBracket x || sees m.OpenParen x

-- Behind an operand of the level: nothing goes on a primary there, and an operator there binds no more tightly than the level.
pub record QuietAt (ts : List Lexed) (l at : ℕ) : Type 0 where
  pub chain : goes_in (first (drop at ts)) ≡ false
  pub operator : (op : BinaryOperator) (to : ℕ) → OperatorAt ts op at to → l ≤ level_of op

none_of : (a b c : Bool) → a ≡ false → b ≡ false → c ≡ false → (a || b || c) ≡ false
none_of true b c e f g = e
none_of false true c e f g = f
none_of false false c e f g = g

ends_chain_by : (kind : Kind) → goes_on_by kind ≡ false → (is_mark m.Dot kind || is_mark m.OpenBracket kind || is_mark m.OpenParen kind) ≡ false
ends_chain_by (k.Mark mark) e = let u = ends_mark mark e in none_of (is_mark m.Dot (k.Mark mark)) (is_mark m.OpenBracket (k.Mark mark)) (is_mark m.OpenParen (k.Mark mark)) u.0 u.1 u.2
ends_chain_by k.Name e = refl
ends_chain_by (k.Word word) e = refl
ends_chain_by (k.Number v) e = refl
ends_chain_by k.String e = refl

pub ends_chain : (x : Option Lexed) → goes_on x ≡ false → goes_in x ≡ false
ends_chain (Some t) e = ends_chain_by t.kind e
ends_chain None e = refl

ends_question_by : (kind : Kind) → goes_on_by kind ≡ false → is_mark m.Question kind ≡ false
ends_question_by (k.Mark mark) e = (ends_mark mark e).3
ends_question_by k.Name e = refl
ends_question_by (k.Word word) e = refl
ends_question_by (k.Number v) e = refl
ends_question_by k.String e = refl

pub ends_question : (x : Option Lexed) → goes_on x ≡ false → sees m.Question x ≡ false
ends_question (Some t) e = ends_question_by t.kind e
ends_question None e = refl

-- an operator goes on what stands before it
pub operator_goes_on : {ts : List Lexed} {op : BinaryOperator} {at to : ℕ} → OperatorAt ts op at to → goes_on (first (drop at ts)) ≡ true
operator_goes_on {ts = ts} {at = at} (ex.mark {x = x} {op = op} s q) = ap goes_on s.is ∙ by (goes_on_by (k.Mark x)) refl
  where
    clash : None ≡ Some op → ⊥
    clash e = cc

    by : (b : Bool) → goes_on_by (k.Mark x) ≡ b → b ≡ true
    by true e = refl
    by false e = absurd (clash (sym (ends_mark x e).4 ∙ q))
operator_goes_on (ex.greater_equal s t j) = ap goes_on s.is
operator_goes_on (ex.shift_right s t j) = ap goes_on s.is

pub quiet_ends : (ts : List Lexed) (l at : ℕ) → goes_on (first (drop at ts)) ≡ false → QuietAt ts l at
quiet_ends ts l at e = record { chain = ends_chain (first (drop at ts)) e; operator = λ op to s. let c = sym (operator_goes_on s) ∙ e in absurd (differ c) }
  where
    differ : true ≡ false → ⊥
    differ e = cc

-- a token with which no expression goes on
pub ends_here : (ts : List Lexed) (at : ℕ) (kind : Kind) (p : Place) → Stands ts at kind p → goes_on_by kind ≡ false → goes_on (first (drop at ts)) ≡ false
ends_here ts at kind p s e = ap goes_on s.is ∙ e

-- the mark of an operator
operator_token : {ts : List Lexed} {op : BinaryOperator} {at to : ℕ} → OperatorAt ts op at to → (mark : Mark) (p : Place) → Stands ts at (k.Mark mark) p → binary_of mark ≡ None → ⊥
operator_token {ts = ts} {at = at} (ex.mark {p = p} {x = x} {op = op} s q) mark r t e = clash (sym (ap binary_of (one_mark ts at x mark p r s t) ∙ e) ∙ q)
  where
    clash : None ≡ Some op → ⊥
    clash e = cc
operator_token {ts = ts} {at = at} (ex.greater_equal {p = p} s u j) mark r t e = clash (ap binary_of (one_mark ts at m.Greater mark p r s t) ∙ e)
  where
    clash : Some o.Greater ≡ None → ⊥
    clash e = cc
operator_token {ts = ts} {at = at} (ex.shift_right {p = p} s u j) mark r t e = clash (ap binary_of (one_mark ts at m.Greater mark p r s t) ∙ e)
  where
    clash : Some o.Greater ≡ None → ⊥
    clash e = cc

pub quiet_question : (ts : List Lexed) (l at : ℕ) (p : Place) → Stands ts at (k.Mark m.Question) p → QuietAt ts l at
quiet_question ts l at p s = record { chain = ap goes_in s.is; operator = λ op to t. absurd (operator_token t m.Question p s refl) }

-- the operator of a mark
same_operator : (x : Mark) (a b : BinaryOperator) → binary_of x ≡ Some a → binary_of x ≡ Some b → a ≡ b
same_operator x a b e f = let c : Some a ≡ Some b = sym e ∙ f in cc

greater_by_mark : (x : Mark) (op : BinaryOperator) → x ≡ m.Greater → binary_of x ≡ Some op → level_of op ≡ 3
greater_by_mark x op e q = ap level_of (sym (same_operator m.Greater o.Greater op refl (ap binary_of (sym e) ∙ q)))

-- Of two operators at one index the one with an operand behind it binds no less tightly.
one_operator : {ts : List Lexed} {a b : BinaryOperator} {from mid to : ℕ} → OperatorAt ts a from mid → begins (first (drop mid ts)) ≡ true → OperatorAt ts b from to → level_of a ≤ level_of b
one_operator {ts = ts} {from = from} (ex.mark {p = p} {x = x} {op = a} s q) n (ex.mark {p = p2} {x = y} {op = b} t r) =
    let e = same_operator x a b q (ap binary_of (one_mark ts from x y p p2 s t) ∙ r) in
    subst (λ c. level_of a ≤ level_of c) e (omega arith)
one_operator {ts = ts} {from = from} (ex.mark {p = p} {x = x} {op = a} s q) n (ex.greater_equal {p = p2} t u j) =
    let e = greater_by_mark x a (one_mark ts from x m.Greater p p2 s t) q in omega (arith, e)
one_operator {ts = ts} {from = from} (ex.mark {p = p} {x = x} {op = a} s q) n (ex.shift_right {p = p2} {q = q2} t u j) =
    let c = sym (is_seen ts (from + 1) q2 u) ∙ begins_not m.Greater (first (drop (from + 1) ts)) n refl in absurd (differ c)
  where
    differ : true ≡ false → ⊥
    differ e = cc

    is_seen : (ts : List Lexed) (at : ℕ) (p : Place) → Stands ts at (k.Mark m.Greater) p → sees m.Greater (first (drop at ts)) ≡ true
    is_seen ts at p s = ap (sees m.Greater) s.is
one_operator {ts = ts} {from = from} (ex.greater_equal {p = p} s v i) n (ex.mark {p = p2} {x = y} {op = b} t r) =
    let e = greater_by_mark y b (one_mark ts from y m.Greater p2 p t s) r in omega (arith, e)
one_operator (ex.greater_equal s v i) n (ex.greater_equal t u j) = omega arith
one_operator {ts = ts} {from = from} (ex.greater_equal {p = p} {q = q} s v i) n (ex.shift_right {p = p2} {q = q2} t u j) = absurd (differ (one_mark ts (from + 1) m.Equal m.Greater q q2 v u))
  where
    differ : m.Equal ≡ m.Greater → ⊥
    differ e = cc
one_operator {ts = ts} {from = from} (ex.shift_right {p = p} s v i) n (ex.mark {p = p2} {x = y} {op = b} t r) =
    let e = greater_by_mark y b (one_mark ts from y m.Greater p2 p t s) r in omega (arith, e)
one_operator (ex.shift_right s v i) n (ex.greater_equal t u j) = omega arith
one_operator (ex.shift_right s v i) n (ex.shift_right t u j) = omega arith

-- nothing goes on a primary at an operator
operator_chain : {ts : List Lexed} {op : BinaryOperator} {at to : ℕ} → OperatorAt ts op at to → goes_in (first (drop at ts)) ≡ false
operator_chain (ex.mark {x = x} {op = op} s q) = let u = operator_mark_only x op q in
    ap goes_in s.is ∙ none_of (is_mark m.Dot (k.Mark x)) (is_mark m.OpenBracket (k.Mark x)) (is_mark m.OpenParen (k.Mark x)) u.0 u.1 u.2
operator_chain (ex.greater_equal s t j) = ap goes_in s.is
operator_chain (ex.shift_right s t j) = ap goes_in s.is

-- behind an operand stands an operator of the level, or what stands behind all of them
pub binary_quiet : {ts : List Lexed} {l from to : ℕ} {x y : ExprTree} → BinaryAt ts l x y from to → QuietAt ts (suc l) to → QuietAt ts l from
binary_quiet ex.operand q = record { chain = q.chain; operator = λ op to s. let h = q.operator op to s in omega (arith, h) }
binary_quiet {l = l} (ex.operator {op = op} s e v b) q = record {
  chain = operator_chain s;
  operator = λ other to t. subst (λ n. n ≤ level_of other) e (one_operator s (level_begins v) t);
}

-- and behind a value a comma, or what stands behind all of them
pub more_ends : {ts : List Lexed} {xs ys : List ExprTree} {from to : ℕ} → MoreValuesAt ts xs ys from to → goes_on (first (drop to ts)) ≡ false → goes_on (first (drop from ts)) ≡ false
more_ends ex.end e = e
more_ends {ts = ts} {from = from} (ex.more {p = p} s v r) e = ends_here ts from (k.Mark m.Comma) p s refl

-- ---- a parenthesis that begins no cast

-- no expression begins with the word of a type and a closing parenthesis
module _ (ts : List Lexed) (from : ℕ) (word : Word) (b : Builtin) (p q : Place) (s : Stands ts from (k.Word word) p) (e : builtin_of word ≡ Some b) (c : Stands ts (from + 1) (k.Mark m.CloseParen) q) where
  other_word : (w2 : Word) (r : Place) → Stands ts from (k.Word w2) r → builtin_of w2 ≡ None → ⊥
  other_word w2 r t f = clash (word_eq (one_kind ts from (k.Word word) (k.Word w2) p r s t))
    where
      word_in : Kind → Option Builtin
      word_in (k.Word w3) = builtin_of w3
      word_in _ = None

      differ : Some b ≡ None → ⊥
      differ e = cc

      word_eq : k.Word word ≡ k.Word w2 → Some b ≡ None
      word_eq g = sym e ∙ (ap word_in g ∙ f)

      clash : Some b ≡ None → ⊥
      clash g = differ g

  primary_no_cast : {x : ExprTree} {to : ℕ} → PrimaryAt ts x from to → ⊥
  primary_no_cast (ex.number {p = r} {v = v} t) = let g = one_kind ts from (k.Word word) (k.Number v) p r s t in cc
  primary_no_cast (ex.true_word {p = r} t) = other_word w.True r t refl
  primary_no_cast (ex.false_word {p = r} t) = other_word w.False r t refl
  primary_no_cast (ex.this_value {p = r} t) = other_word w.ThisValue r t refl
  primary_no_cast (ex.this_type {p = r} t) = other_word w.ThisType r t refl
  primary_no_cast (ex.name (ex.alone {id = id} t a)) = let g = one_kind ts from (k.Word word) k.Name p id.place s (record { bytes = id.name; is = t.is }) in cc
  primary_no_cast (ex.name (ex.generic {id = id} t a f)) = let g = one_kind ts from (k.Word word) k.Name p id.place s (record { bytes = id.name; is = t.is }) in cc
  primary_no_cast (ex.construct {q = r} t f o v) = differ (one_mark ts (from + 1) m.CloseParen m.OpenParen q r c o)
    where
      differ : m.CloseParen ≡ m.OpenParen → ⊥
      differ e = cc
  primary_no_cast (ex.paren {p = r} t v u) = let g = one_kind ts from (k.Word word) (k.Mark m.OpenParen) p r s t in cc

  unary_no_cast : {x : ExprTree} {to : ℕ} → UnaryAt ts x from to → ⊥
  unary_no_cast (ex.simple (ex.postfix r c)) = primary_no_cast r
  unary_no_cast (ex.prefix {p = r} {mark = mark} t f u) = let g = one_kind ts from (k.Word word) (k.Mark mark) p r s t in cc
  unary_no_cast (ex.cast {p = r} t a f b u) = let g = one_kind ts from (k.Word word) (k.Mark m.OpenParen) p r s t in cc

  level_no_cast : {l : ℕ} {x : ExprTree} {to : ℕ} → LevelAt ts l x from to → ⊥
  level_no_cast (ex.unary u) = unary_no_cast u
  level_no_cast (ex.binary v b) = level_no_cast v

  pub expr_no_cast : {x : ExprTree} {to : ℕ} → ExprAt ts x from to → ⊥
  expr_no_cast (ex.plain v) = level_no_cast v
  expr_no_cast (ex.choice v q y c z) = level_no_cast v
