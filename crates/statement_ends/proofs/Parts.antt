-- Parts of statements: what was looked at of one, but for the last token, goes on to be one.
use Rattle.std.proofs.Common.{Bool, true, false, ◌≡◌, ℕ, ◌+◌, ◌<◌, List, [], ◌∷◌, Option, None, refl, ◌∙◌, ap, arith}
use Rattle.slang_tree.specs.declared.statements.LoopStart.TheVariants as b
use Rattle.slang_tokens.specs.declared.tokens.Kind.TheVariants as k
use Rattle.slang_tokens.specs.declared.tokens.Mark.{Mark}
use Rattle.slang_tokens.specs.declared.tokens.Mark.TheVariants as m
use Rattle.slang_reading.specs.Lexed.{Lexed}
use Rattle.slang_reading.specs.Reading.{pure, next}
use Rattle.slang_reading.specs.Kinds.{sees}
use Rattle.slang_reading.proofs.Marks.{sees_some}
use Rattle.slang_reading.proofs.Viable.{Finishes, Viable, viable_pure, finishes_pure, viable_bind, EachPair, finishes_next_end, viable_next, Ready, ready_bind, ready_last}
use Rattle.slang_grammar.specs.Descent.{Limits, expect}
use Rattle.slang_grammar.specs.ExpressionsDescent.{begins_by, begins, expressions}
use Rattle.slang_grammar.proofs.TypesReady.{mark, zero_number, Any, ready_expect}
use Rattle.expression_grammar.specs.Ends.{goes_on_by, goes_on}
use Rattle.expression_grammar.proofs.Ready.{Ends, zero_call}
use Rattle.statement_grammar.specs.StatementsDescent.{change, simple, maybe_by, maybe, condition, start_by, start, step_by, step, head}
use Rattle.statement_ends.proofs.Roomy.{roomy, not_mark}
use Rattle.statement_ends.proofs.Names.{ready_value}
use Rattle.statement_ends.proofs.Locals.{Settled}
use Rattle.statement_ends.proofs.Changes.{ready_change, ready_simple}

-- the mark behind a statement or a part of one
abbrev pub Closed : Option Lexed → Type 0
Closed x = sees m.Semicolon x ≡ true

abbrev Shut : Option Lexed → Type 0
Shut x = sees m.CloseParen x ≡ true

-- no expression goes on with a mark that is none of its operators
mark_ends : (a : Mark) → goes_on_by (k.Mark a) ≡ false → (x : Option Lexed) → sees a x ≡ true → goes_on x ≡ false
mark_ends a e x s = let u = sees_some a x s in ap goes_on u.1 ∙ (ap goes_on_by u.2 ∙ e)

mark_begins : (a : Mark) → begins_by (k.Mark a) ≡ false → (x : Option Lexed) → sees a x ≡ true → begins x ≡ false
mark_begins a e x s = let u = sees_some a x s in ap begins u.1 ∙ (ap begins_by u.2 ∙ e)

settled : (x : Option Lexed) → Closed x → Settled x
settled x s = (mark_ends m.Semicolon refl x s, not_mark m.Semicolon m.Equal refl x s, not_mark m.Semicolon m.Comma refl x s)

abbrev pub condition_path : List Lexed
condition_path = mark m.OpenParen ∷ zero_number ∷ mark m.OpenParen ∷ mark m.CloseParen ∷ mark m.CloseParen ∷ []

abbrev pub head_path : List Lexed
head_path = mark m.OpenParen ∷ mark m.Semicolon ∷ mark m.Semicolon ∷ mark m.CloseParen ∷ []

module _ (limits : Limits) (d e : ℕ) (h : (roomy limits).turns + 3 + d < e) where
  abbrev large : Limits
  large = roomy limits

  ready_within : Ready Ends zero_call (expressions limits d) (expressions large e)
  ready_within = ready_value limits e d (omega (arith, h))

  pub ready_maybe : Ready Closed [] (maybe limits d) (maybe large e)
  unfolding maybe
  ready_maybe = record { viable = viable_next Closed (λ x. maybe_by large e (begins x)) (λ x. maybe_by limits d (begins x)) [] finishes (λ x. by (begins x)); finishes = finishes }
    where
      finishes : Finishes Closed [] (next (λ x. maybe_by large e (begins x)))
      finishes = finishes_next_end Closed (λ x. maybe_by large e (begins x)) (λ x. pure None) (λ x f. ap (maybe_by large e) (mark_begins m.Semicolon refl x f)) (λ x. finishes_pure Closed None)

      by : (b : Bool) → EachPair (Viable Closed) (maybe_by limits d b) (maybe_by large e b)
      by true = viable_bind Closed Ends (expressions large e) _ [] (λ rest f. mark_ends m.Semicolon refl _ f) (expressions limits d) _ ready_within.viable (λ v. viable_pure Closed _) (λ v. finishes_pure Closed _)
      by false = viable_pure Closed None

  pub ready_condition : (F : Option Lexed → Type 0) → Ready F condition_path (condition limits d) (condition large e)
  unfolding condition
  ready_condition F = ready_bind F Any (mark m.OpenParen ∷ []) (zero_number ∷ mark m.OpenParen ∷ mark m.CloseParen ∷ mark m.CloseParen ∷ []) (expect m.OpenParen) (expect m.OpenParen) _ _ (λ rest f. tt) (ready_expect Any m.OpenParen)
      (λ p. ready_bind F Ends zero_call (mark m.CloseParen ∷ []) (expressions limits d) (expressions large e) _ _ (λ rest f. refl) ready_within
      (λ v. ready_last F (mark m.CloseParen ∷ []) (expect m.CloseParen) (expect m.CloseParen) (λ q. v.0) (ready_expect F m.CloseParen)))

  ready_start : Ready Closed [] (start limits d) (start large e)
  unfolding start
  ready_start = record { viable = viable_next Closed (λ x. start_by large e (sees m.Semicolon x)) (λ x. start_by limits d (sees m.Semicolon x)) [] finishes (λ x. by (sees m.Semicolon x)); finishes = finishes }
    where
      finishes : Finishes Closed [] (next (λ x. start_by large e (sees m.Semicolon x)))
      finishes = finishes_next_end Closed (λ x. start_by large e (sees m.Semicolon x)) (λ x. pure b.Nothing) (λ x f. ap (start_by large e) f) (λ x. finishes_pure Closed b.Nothing)

      by : (c : Bool) → EachPair (Viable Closed) (start_by limits d c) (start_by large e c)
      by true = viable_pure Closed b.Nothing
      by false = viable_bind Closed Settled (simple large e) _ [] (λ rest f. settled _ f) (simple limits d) _ (ready_simple limits d e h).viable (λ x. viable_pure Closed _) (λ x. finishes_pure Closed _)

  ready_step : Ready Shut [] (step limits d) (step large e)
  unfolding step
  ready_step = record { viable = viable_next Shut (λ x. step_by large e (sees m.CloseParen x)) (λ x. step_by limits d (sees m.CloseParen x)) [] finishes (λ x. by (sees m.CloseParen x)); finishes = finishes }
    where
      finishes : Finishes Shut [] (next (λ x. step_by large e (sees m.CloseParen x)))
      finishes = finishes_next_end Shut (λ x. step_by large e (sees m.CloseParen x)) (λ x. pure None) (λ x f. ap (step_by large e) f) (λ x. finishes_pure Shut None)

      by : (c : Bool) → EachPair (Viable Shut) (step_by limits d c) (step_by large e c)
      by true = viable_pure Shut None
      by false = viable_bind Shut Ends (change large e) _ [] (λ rest f. mark_ends m.CloseParen refl _ f) (change limits d) _ (ready_change limits d e h).viable (λ x. viable_pure Shut _) (λ x. finishes_pure Shut _)

  pub ready_head : (F : Option Lexed → Type 0) → Ready F head_path (head limits d) (head large e)
  unfolding head
  ready_head F =
      ready_bind F Any (mark m.OpenParen ∷ []) (mark m.Semicolon ∷ mark m.Semicolon ∷ mark m.CloseParen ∷ []) (expect m.OpenParen) (expect m.OpenParen) _ _ (λ rest f. tt) (ready_expect Any m.OpenParen)
      (λ p. ready_bind F Closed [] (mark m.Semicolon ∷ mark m.Semicolon ∷ mark m.CloseParen ∷ []) (start limits d) (start large e) _ _ (λ rest f. refl) ready_start
      (λ x. ready_bind F Any (mark m.Semicolon ∷ []) (mark m.Semicolon ∷ mark m.CloseParen ∷ []) (expect m.Semicolon) (expect m.Semicolon) _ _ (λ rest f. tt) (ready_expect Any m.Semicolon)
      (λ q. ready_bind F Closed [] (mark m.Semicolon ∷ mark m.CloseParen ∷ []) (maybe limits d) (maybe large e) _ _ (λ rest f. refl) ready_maybe
      (λ y. ready_bind F Any (mark m.Semicolon ∷ []) (mark m.CloseParen ∷ []) (expect m.Semicolon) (expect m.Semicolon) _ _ (λ rest f. tt) (ready_expect Any m.Semicolon)
      (λ r. ready_bind F Shut [] (mark m.CloseParen ∷ []) (step limits d) (step large e) _ _ (λ rest f. refl) ready_step
      (λ z. ready_last F (mark m.CloseParen ∷ []) (expect m.CloseParen) (expect m.CloseParen) (λ s. (x, y, z)) (ready_expect F m.CloseParen)))))))
