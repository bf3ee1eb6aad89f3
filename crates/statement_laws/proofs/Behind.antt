-- What stands behind an operand of a change, and behind an expression in a statement.
use Rattle.std.proofs.Common.{Bool, true, false, ◌≡◌, ℕ, ◌||◌, List, drop, Option, refl, ◌∙◌, ap}
use Rattle.slang_names.specs.declared.places.Place.{Place}
use Rattle.slang_tree.specs.declared.expressions.BinaryOperator.{BinaryOperator}
use Rattle.slang_tree.specs.declared.statements.Step.{Step}
use Rattle.slang_tokens.specs.declared.tokens.Kind.TheVariants as k
use Rattle.slang_tokens.specs.declared.tokens.Mark.{Mark}
use Rattle.slang_tokens.specs.declared.tokens.Mark.TheVariants as m
use Rattle.slang_reading.specs.Lexed.{Lexed}
use Rattle.slang_reading.specs.Reading.{first}
use Rattle.slang_reading.specs.Kinds.{is_mark, sees}
use Rattle.slang_reading.proofs.Marks.{same_mark}
use Rattle.slang_grammar.specs.Standing.{Stands, IsNot}
use Rattle.slang_grammar.proofs.Shared.{not_there}
use Rattle.expression_grammar.specs.Ends.{goes_on_by, goes_on}
use Rattle.expression_grammar.proofs.Quiet.{goes_in, ends_here}
use Rattle.statement_grammar.specs.declared.tables.ChangeUse.TheVariants as what
use Rattle.statement_grammar.specs.Tables.{change_use}
use Rattle.statement_grammar.specs.Statements as t
use Rattle.statement_grammar.specs.Statements.{AssignAt}
use Rattle.statement_grammar.proofs.Begins.{closer, Closes, Unchained, unchained_mark, closes_unchained, update_unchains, step_unchains}

-- a mark with which neither a primary nor a type goes on
pub record Behind (ts : List Lexed) (at : ℕ) : Type 0 where
  pub mark : Mark
  pub place : Place
  pub is : Stands ts at (k.Mark mark) place
  pub chain : Unchained ts at
  pub less : IsNot ts m.Less at

not_less : (mark : Mark) → (m.Less ≡ mark → ⊥) → is_mark m.Less (k.Mark mark) ≡ false
not_less mark n = by (is_mark m.Less (k.Mark mark)) refl
  where
    by : (b : Bool) → is_mark m.Less (k.Mark mark) ≡ b → b ≡ false
    by true q = absurd (n (same_mark m.Less mark q))
    by false q = refl

pub closes_behind : {ts : List Lexed} {at : ℕ} → Closes ts at → Behind ts at
closes_behind {ts = ts} {at = at} c = record {
  mark = c.mark;
  place = c.place;
  is = c.is;
  chain = closes_unchained c;
  less = not_there ts m.Less at (k.Mark c.mark) c.place c.is (not_less c.mark (λ q. let z = ap closer q ∙ c.closes in cc));
}

pub step_behind : {ts : List Lexed} {at : ℕ} (mark : Mark) (p : Place) (step : Step) → Stands ts at (k.Mark mark) p → change_use mark ≡ what.Step step → Behind ts at
step_behind {ts = ts} {at = at} mark p step s e = record {
  mark = mark;
  place = p;
  is = s;
  chain = unchained_mark ts at mark p s (step_unchains mark step e);
  less = not_there ts m.Less at (k.Mark mark) p s (not_less mark (λ q. let z = ap change_use q ∙ e in cc));
}

pub assign_behind : {ts : List Lexed} {op : Option BinaryOperator} {at to : ℕ} → AssignAt ts op at to → Behind ts at
assign_behind {ts = ts} {at = at} (t.assign {p = p} s) = record {
  mark = m.Equal;
  place = p;
  is = s;
  chain = unchained_mark ts at m.Equal p s (refl, refl, refl);
  less = not_there ts m.Less at (k.Mark m.Equal) p s refl;
}
assign_behind {ts = ts} {at = at} (t.update {p = p} {x = mark} {op = op} s e) = record {
  mark = mark;
  place = p;
  is = s;
  chain = unchained_mark ts at mark p s (update_unchains mark op e);
  less = not_there ts m.Less at (k.Mark mark) p s (not_less mark (λ q. let z = ap change_use q ∙ e in cc));
}
assign_behind {ts = ts} {at = at} (t.shift_right {p = p} s u j v l) = record {
  mark = m.Greater;
  place = p;
  is = s;
  chain = unchained_mark ts at m.Greater p s (refl, refl, refl);
  less = not_there ts m.Less at (k.Mark m.Greater) p s refl;
}

none_of : (a b c : Bool) → a ≡ false → b ≡ false → c ≡ false → (a || b || c) ≡ false
none_of false false false p q r = refl
none_of true b c p q r = cc
none_of false true c p q r = cc
none_of false false true p q r = cc

pub behind_in : {ts : List Lexed} {at : ℕ} → Behind ts at → goes_in (first (drop at ts)) ≡ false
behind_in {ts = ts} {at = at} b = none_of (sees m.Dot (first (drop at ts))) (sees m.OpenBracket (first (drop at ts))) (sees m.OpenParen (first (drop at ts))) b.chain.dot.is b.chain.bracket.is b.chain.paren.is

-- ---- what closes an expression

closer_stops : (mark : Mark) → closer mark ≡ true → goes_on_by (k.Mark mark) ≡ false
closer_stops m.OpenBrace e = cc
closer_stops m.CloseBrace e = refl
closer_stops m.OpenParen e = cc
closer_stops m.CloseParen e = refl
closer_stops m.OpenBracket e = cc
closer_stops m.CloseBracket e = cc
closer_stops m.Less e = cc
closer_stops m.Equal e = cc
closer_stops m.Semicolon e = refl
closer_stops m.Comma e = refl
closer_stops m.Colon e = cc
closer_stops m.DoubleColon e = cc
closer_stops m.Dot e = cc
closer_stops m.Question e = cc
closer_stops m.Plus e = cc
closer_stops m.Minus e = cc
closer_stops m.Star e = cc
closer_stops m.Slash e = cc
closer_stops m.Percent e = cc
closer_stops m.And e = cc
closer_stops m.Or e = cc
closer_stops m.Caret e = cc
closer_stops m.Not e = cc
closer_stops m.Tilde e = cc
closer_stops m.AndAnd e = cc
closer_stops m.OrOr e = cc
closer_stops m.EqualEqual e = cc
closer_stops m.NotEqual e = cc
closer_stops m.LessEqual e = cc
closer_stops m.ShiftLeft e = cc
closer_stops m.PlusPlus e = cc
closer_stops m.MinusMinus e = cc
closer_stops m.PlusEqual e = cc
closer_stops m.MinusEqual e = cc
closer_stops m.StarEqual e = cc
closer_stops m.SlashEqual e = cc
closer_stops m.PercentEqual e = cc
closer_stops m.AndEqual e = cc
closer_stops m.OrEqual e = cc
closer_stops m.CaretEqual e = cc
closer_stops m.ShiftLeftEqual e = cc
closer_stops m.Greater e = cc

pub closes_on : {ts : List Lexed} {at : ℕ} → Closes ts at → goes_on (first (drop at ts)) ≡ false
closes_on {ts = ts} {at = at} c = ends_here ts at (k.Mark c.mark) c.place c.is (closer_stops c.mark c.closes)
