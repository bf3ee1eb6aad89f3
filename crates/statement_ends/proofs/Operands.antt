-- Operands of changes: what was looked at of one, but for the last token, goes on to be one; and what is read is spelled.
use Rattle.std.proofs.Common.{Bool, true, false, ◌≡◌, ℕ, zero, suc, ◌+◌, ◌<◌, List, [], ◌∷◌, Option, Some, None, refl, sym, subst, if◌then◌else◌, arith}
use Rattle.slang_names.specs.declared.codes.ModuleCode.TheVariants as code
use Rattle.slang_tokens.specs.declared.tokens.Kind.{Kind}
use Rattle.slang_tokens.specs.declared.tokens.Kind.TheVariants as k
use Rattle.slang_tokens.specs.declared.tokens.Mark.{Mark}
use Rattle.slang_tokens.specs.declared.tokens.Mark.TheVariants as m
use Rattle.slang_reading.specs.Lexed.{Lexed}
use Rattle.slang_reading.specs.Reading.{Parser, Refuse, Pass, pure, place_of, next}
use Rattle.slang_reading.proofs.Viable.{Finishes, Viable, viable_past, finishes_pure, EachPair, finishes_next_take, viable_next, Ready, ready_bind}
use Rattle.slang_reading.proofs.Exact.{Post, PostChoice, post_bind, post_next}
use Rattle.slang_grammar.specs.Tables.{builtin_of}
use Rattle.slang_grammar.specs.Expressions.{PostfixAt}
use Rattle.slang_grammar.specs.Descent.{Limits}
use Rattle.slang_grammar.specs.ExpressionsDescent.{Value, primary_by, primary_at, chain_rest, postfix, leveled}
use Rattle.slang_grammar.proofs.TypesReady.{zero_number}
use Rattle.expression_grammar.proofs.Ready.{Ends, Calls, call_path, zero_call, each_primary, tame_leveled, ready_chain_rest, ready_postfix, refuses_word, ready_leveled}
use Rattle.expression_grammar.proofs.Spelled.{post_postfix, post_leveled}
use Rattle.statement_grammar.specs.StatementsDescent.{operand_by, operand_begins, operand_past, no_values, operands}
use Rattle.statement_ends.proofs.Roomy.{roomy, roomier}

-- ---- where no operand begins, none is read

module _ (limits : Limits) (d : ℕ) (inner : ℕ → Parser Value) where
  no_mark : (t : Lexed) (mark : Mark) → operand_by (k.Mark mark) ≡ false → primary_by limits d inner t (k.Mark mark) ≡ Refuse
  no_mark t m.OpenBrace e = refl
  no_mark t m.CloseBrace e = refl
  no_mark t m.OpenParen e = cc
  no_mark t m.CloseParen e = refl
  no_mark t m.OpenBracket e = refl
  no_mark t m.CloseBracket e = refl
  no_mark t m.Less e = refl
  no_mark t m.Equal e = refl
  no_mark t m.Semicolon e = refl
  no_mark t m.Comma e = refl
  no_mark t m.Colon e = refl
  no_mark t m.DoubleColon e = refl
  no_mark t m.Dot e = refl
  no_mark t m.Question e = refl
  no_mark t m.Plus e = refl
  no_mark t m.Minus e = refl
  no_mark t m.Star e = refl
  no_mark t m.Slash e = refl
  no_mark t m.Percent e = refl
  no_mark t m.And e = refl
  no_mark t m.Or e = refl
  no_mark t m.Caret e = refl
  no_mark t m.Not e = refl
  no_mark t m.Tilde e = refl
  no_mark t m.AndAnd e = refl
  no_mark t m.OrOr e = refl
  no_mark t m.EqualEqual e = refl
  no_mark t m.NotEqual e = refl
  no_mark t m.LessEqual e = refl
  no_mark t m.ShiftLeft e = refl
  no_mark t m.PlusPlus e = refl
  no_mark t m.MinusMinus e = refl
  no_mark t m.PlusEqual e = refl
  no_mark t m.MinusEqual e = refl
  no_mark t m.StarEqual e = refl
  no_mark t m.SlashEqual e = refl
  no_mark t m.PercentEqual e = refl
  no_mark t m.AndEqual e = refl
  no_mark t m.OrEqual e = refl
  no_mark t m.CaretEqual e = refl
  no_mark t m.ShiftLeftEqual e = refl
  no_mark t m.Greater e = refl

  no_kind : (t : Lexed) (kind : Kind) → operand_by kind ≡ false → primary_by limits d inner t kind ≡ Refuse
  no_kind t k.Name e = cc
  no_kind t (k.Word word) e = refuses_word limits d inner t word e (builtin_of word) refl
  no_kind t (k.Number v) e = cc
  no_kind t k.String e = refl
  no_kind t (k.Mark mark) e = no_mark t mark e

  no_primary : (x : Option Lexed) → operand_begins x ≡ false → primary_at limits d inner x ≡ Refuse
  no_primary (Some t) e = no_kind t t.kind e
  no_primary None e = refl

module _ (limits : Limits) where
  abbrev large : Limits
  large = roomy limits

  -- with no node left, what begins an operand passes the limit
  ready_first : (e : ℕ) → Ready Calls (zero_number ∷ []) (next operand_past) (next (primary_at large e (leveled large e)))
  ready_first e = record { viable = viable_next Calls (primary_at large e (leveled large e)) operand_past (zero_number ∷ []) finishes (λ x. by x (operand_begins x) refl); finishes = finishes }
    where
      finishes : Finishes Calls (zero_number ∷ []) (next (primary_at large e (leveled large e)))
      finishes = finishes_next_take Calls (primary_at large e (leveled large e)) zero_number [] (pure _) refl (finishes_pure Calls _)

      by : (x : Option Lexed) (b : Bool) → operand_begins x ≡ b → EachPair (Viable Calls) (if b then Pass code.TooNested (place_of x) else Refuse) (primary_at large e (leveled large e) x)
      by x true g = each_primary limits large (roomier limits) e (leveled large e) (tame_leveled limits large (roomier limits) e) x
      by x false g = subst (EachPair (Viable Calls) Refuse) (sym (no_primary large e (leveled large e) x g)) tt

  pub ready_operands : (e d : ℕ) → large.turns + 3 + d < e → Ready Ends zero_call (operands limits d) (operands large e)
  unfolding operands postfix
  ready_operands zero d h = absurd (omega arith)
  ready_operands (suc e) zero h =
      let r = ready_leveled limits large (roomier limits) e zero in
      ready_bind Ends Calls (zero_number ∷ []) call_path (next operand_past) (next (primary_at large e (leveled large e))) (chain_rest limits zero no_values) (chain_rest large e (leveled large e)) (λ rest c. refl) (ready_first e)
      (ready_chain_rest limits large (roomier limits) zero e (omega (arith, h)) (omega (arith, h)) no_values (leveled large e)
      (λ l. viable_past Ends code.TooNested (place_of None) (leveled large e l) (tame_leveled limits large (roomier limits) e l)) (λ l. (r l (omega (arith, h))).finishes))
  ready_operands (suc e) (suc d) h =
      let r = ready_leveled limits large (roomier limits) e d in
      ready_postfix limits large (roomier limits) d e (omega (arith, h)) (omega (arith, h)) (leveled limits d) (leveled large e) (λ l. (r l (omega (arith, h))).viable) (λ l. (r l (omega (arith, h))).finishes)

-- ---- what is read of an operand is spelled

pub post_operands : (ts : List Lexed) (limits : Limits) (d at seen : ℕ) → Post (λ x to. PostfixAt ts x.0 at to) (operands limits d ts at seen)
unfolding operands
post_operands ts limits zero at seen = post_bind ts (λ x to. ⊥) (λ x to. PostfixAt ts x.0 at to) (next operand_past) (chain_rest limits zero no_values) at seen
    (post_next ts (λ x to. ⊥) operand_past at seen (λ x e. by x (operand_begins x))) (λ x mid s1 z. absurd z)
  where
    by : (x : Option Lexed) (b : Bool) → PostChoice ts (λ (y : Value) (to : ℕ). ⊥) at x (if b then Pass code.TooNested (place_of x) else Refuse)
    by x true = tt
    by x false = tt
post_operands ts limits (suc d) at seen = post_postfix ts limits d (leveled limits d) (λ l at seen. post_leveled ts limits d l at seen) at seen
