-- What is looked at ahead before locals passes no limit, where there are as many turns as tokens.
use Rattle.std.proofs.Common.{Bool, true, false, ℕ, ◌+◌, ◌<◌, ◌≤◌, List, length, Option, Some, None, refl, arith}
use Rattle.slang_names.specs.declared.places.Place.{Place}
use Rattle.slang_tree.specs.declared.types.Identifier.{Identifier}
use Rattle.slang_tokens.specs.declared.tokens.Kind.{Kind}
use Rattle.slang_tokens.specs.declared.tokens.Kind.TheVariants as k
use Rattle.slang_tokens.specs.declared.tokens.Mark.TheVariants as m
use Rattle.slang_reading.specs.Lexed.{Lexed}
use Rattle.slang_reading.specs.Reading.{◌>>=◌, next, turns}
use Rattle.slang_reading.specs.Kinds.{sees}
use Rattle.slang_reading.proofs.Fine.{Fine, FineChoice, fine_bind, fine_next, fine_turns}
use Rattle.slang_grammar.specs.Descent.{Limits, expect, name, named_by, named, termed_by, termed, bracketed, identifier}
use Rattle.slang_grammar.specs.TypesDescent.{Type_, Arguments, WordUse, IsBuiltin, IsResource, IsThis, IsOther, use_of, arguments, project_rest, project_by, project, types}
use Rattle.slang_grammar.specs.ExpressionsDescent.{freed}
use Rattle.slang_grammar.proofs.Shared.{IsMarkAt, fine_expect}
use Rattle.slang_grammar.proofs.TypesFree.{fine_types, fine_arguments}
use Rattle.statement_grammar.specs.LocalsAhead.{Seen, name_ahead, length_ahead, array_ahead, rest_ahead, given_ahead, named_ahead_by, named_ahead, builtin_ahead_by, builtin_ahead, word_ahead, local_ahead_by, local_ahead_at, local_ahead}

module _ (ts : List Lexed) (limits : Limits) (long : length ts ≤ limits.turns) where
  -- it takes a token, or more
  abbrev Takes : {A : Type 0} → ℕ → A → ℕ → Type 0
  Takes at a to = at < to

  -- any answer
  abbrev Any : {A : Type 0} → A → ℕ → Type 0
  Any a to = Unit {0}

  fine_name : (at seen : ℕ) → Fine (Takes at) (name (freed limits) ts at seen)
  unfolding name
  fine_name at seen = fine_next ts (Takes at) (named (freed limits)) at seen (λ x e. go x)
    where
      by : (t : Lexed) (kind : Kind) → FineChoice ts (Takes at) at (Some t) (named_by (freed limits) t kind)
      by t k.Name = λ seen1. omega arith
      by t (k.Word word) = tt
      by t (k.Number v) = tt
      by t k.String = tt
      by t (k.Mark mark) = tt

      go : (x : Option Lexed) → FineChoice ts (Takes at) at x (named (freed limits) x)
      go (Some t) = by t t.kind
      go None = tt

  fine_bracketed : (at seen : ℕ) → Fine (Takes at) (bracketed (freed limits) ts at seen)
  unfolding bracketed
  fine_bracketed at seen = fine_next ts (Takes at) (termed (freed limits)) at seen (λ x e. go x)
    where
      by : (t : Lexed) (kind : Kind) → FineChoice ts (Takes at) at (Some t) (termed_by (freed limits) t kind)
      by t k.Name = λ seen1. omega arith
      by t (k.Word word) = tt
      by t (k.Number v) = λ seen1. omega arith
      by t k.String = tt
      by t (k.Mark mark) = tt

      go : (x : Option Lexed) → FineChoice ts (Takes at) at x (termed (freed limits) x)
      go (Some t) = by t t.kind
      go None = tt

  fine_project : (x : Type_) (at seen : ℕ) → Fine (Takes at) (project (freed limits) limits.turns x ts at seen)
  unfolding project project_rest
  fine_project x at seen = fine_next ts (Takes at) _ at seen (λ t e. by t (sees m.Dot t))
    where
      rest : (seen1 : ℕ) → Fine (Takes at) (project_rest (freed limits) limits.turns x ts (at + 1) seen1)
      rest seen1 = fine_bind ts (Takes (at + 1)) (Takes at) (name (freed limits)) _ (at + 1) seen1 (fine_name (at + 1) seen1) (λ id to seen2 lt. omega (arith, lt))

      by : (t : Option Lexed) (b : Bool) → FineChoice ts (Takes at) at t (project_by (freed limits) limits.turns x t b)
      by (Some t) true = rest
      by None true = tt
      by (Some t) false = tt
      by None false = tt

  fine_name_ahead : (at seen : ℕ) → Fine Any (name_ahead limits ts at seen)
  unfolding name_ahead
  fine_name_ahead at seen = fine_bind ts (Takes at) Any (name (freed limits)) _ at seen (fine_name at seen) (λ id to seen1 lt. tt)

  fine_length_ahead : (at seen : ℕ) → Fine Any (length_ahead limits ts at seen)
  unfolding length_ahead
  fine_length_ahead at seen = fine_bind ts (Takes at) Any (bracketed (freed limits)) _ at seen (fine_bracketed at seen)
      (λ l mid seen1 lt. fine_bind ts (IsMarkAt ts m.CloseBracket mid) Any (expect m.CloseBracket) _ mid seen1 (fine_expect ts m.CloseBracket mid seen1) (λ end to seen2 u. fine_name_ahead to seen2))

  fine_rest_ahead : (x : Type_) (at seen : ℕ) → Fine Any (rest_ahead limits x ts at seen)
  unfolding rest_ahead
  fine_rest_ahead x at seen = fine_bind ts (λ (y : Type_) (to : ℕ). at ≤ to) Any (turns (sees m.Dot) (project (freed limits) limits.turns) limits.turns x) _ at seen
      (fine_turns ts (sees m.Dot) refl (project (freed limits) limits.turns) 0 (λ a from seen1 b. fine_project a from seen1) limits.turns x at seen (omega arith) (omega (arith, long)))
      (λ y mid seen1 le. fine_next ts Any (λ t. array_ahead limits (sees m.OpenBracket t)) mid seen1 (λ t e. by mid t (sees m.OpenBracket t)))
    where
      by : (mid : ℕ) (t : Option Lexed) (b : Bool) → FineChoice ts Any mid t (array_ahead limits b)
      by mid (Some t) true = λ seen1. fine_length_ahead (mid + 1) seen1
      by mid None true = tt
      by mid (Some t) false = λ seen1. fine_name_ahead mid seen1
      by mid None false = λ seen1. fine_name_ahead mid seen1

  fine_named_ahead : (id : Identifier) (at seen : ℕ) → Fine Any (named_ahead limits id ts at seen)
  unfolding named_ahead
  fine_named_ahead id at seen = fine_next ts Any (λ t. named_ahead_by limits id (sees m.Less t)) at seen (λ t e. by t (sees m.Less t))
    where
      given : (a : Arguments × Place) (mid : ℕ) (t : Option Lexed) (b : Bool) → FineChoice ts Any mid t (given_ahead limits id a b)
      given a mid (Some t) true = λ seen1. tt
      given a mid None true = λ seen1. tt
      given a mid (Some t) false = λ seen1. fine_rest_ahead _ mid seen1
      given a mid None false = λ seen1. fine_rest_ahead _ mid seen1

      generic : (seen1 : ℕ) → Fine Any ((arguments (freed limits) true limits.turns (types (freed limits) limits.turns) >>= (λ a. next (λ t. given_ahead limits id a (sees m.OpenBracket t)))) ts at seen1)
      generic seen1 = fine_bind ts (Takes at) Any (arguments (freed limits) true limits.turns (types (freed limits) limits.turns)) _ at seen1
          (fine_arguments ts (freed limits) refl true limits.turns (types (freed limits) limits.turns) at (λ from seen2 b. fine_types ts (freed limits) refl limits.turns from seen2 (omega (arith, long)) (omega (arith, long)))
          (omega (arith, long)) (omega (arith, long)) at seen1 (omega arith))
          (λ a mid seen2 lt. fine_next ts Any (λ t. given_ahead limits id a (sees m.OpenBracket t)) mid seen2 (λ t e. given a mid t (sees m.OpenBracket t)))

      by : (t : Option Lexed) (b : Bool) → FineChoice ts Any at t (named_ahead_by limits id b)
      by (Some t) true = generic
      by None true = generic
      by (Some t) false = λ seen1. fine_rest_ahead _ at seen1
      by None false = λ seen1. fine_rest_ahead _ at seen1

  fine_builtin_ahead : (at seen : ℕ) → Fine Any (builtin_ahead limits ts at seen)
  unfolding builtin_ahead
  fine_builtin_ahead at seen = fine_next ts Any (λ t. builtin_ahead_by limits (sees m.OpenParen t)) at seen (λ t e. by t (sees m.OpenParen t))
    where
      by : (t : Option Lexed) (b : Bool) → FineChoice ts Any at t (builtin_ahead_by limits b)
      by (Some t) true = tt
      by None true = tt
      by (Some t) false = λ seen1. tt
      by None false = λ seen1. tt

  pub fine_local_ahead : (at seen : ℕ) → Fine (λ (a : Seen) (to : ℕ). Unit {0}) (local_ahead limits ts at seen)
  unfolding local_ahead
  fine_local_ahead at seen = fine_next ts Any (local_ahead_at limits) at seen (λ x e. go x)
    where
      word : (t : Lexed) (u : WordUse) → FineChoice ts Any at (Some t) (word_ahead limits t u)
      word t (IsBuiltin b) = λ seen1. fine_builtin_ahead (at + 1) seen1
      word t (IsResource r) = λ seen1. tt
      word t IsThis = λ seen1. fine_rest_ahead _ (at + 1) seen1
      word t IsOther = tt

      by : (t : Lexed) (kind : Kind) → FineChoice ts Any at (Some t) (local_ahead_by limits t kind)
      by t k.Name = λ seen1. fine_named_ahead (identifier t) (at + 1) seen1
      by t (k.Word x) = word t (use_of x)
      by t (k.Number v) = tt
      by t k.String = tt
      by t (k.Mark mark) = tt

      go : (x : Option Lexed) → FineChoice ts Any at x (local_ahead_at limits x)
      go (Some t) = by t t.kind
      go None = tt
