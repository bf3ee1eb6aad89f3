-- What is looked at ahead, beside the same with more room.
use Rattle.std.proofs.Common.{Bool, true, false, ◌≡◌, ◌+◌, List, [], ◌∷◌, Option, Some, None, refl, ap, arith}
use Rattle.slang_tree.specs.declared.types.Identifier.{Identifier}
use Rattle.slang_names.specs.declared.places.Place.{Place}
use Rattle.slang_tree.specs.declared.types.TypeNode.TheVariants as n
use Rattle.slang_tokens.specs.declared.tokens.Kind.{Kind}
use Rattle.slang_tokens.specs.declared.tokens.Kind.TheVariants as k
use Rattle.slang_tokens.specs.declared.tokens.Mark.TheVariants as m
use Rattle.slang_reading.specs.Lexed.{Lexed}
use Rattle.slang_reading.specs.Reading.{◌>>=◌, pure, next, turns}
use Rattle.slang_reading.specs.Kinds.{sees, span}
use Rattle.slang_reading.proofs.Viable.{Finishes, Viable, viable_pure, finishes_pure, EachPair, finishes_next_take, finishes_next_leave, finishes_next_end, viable_next, Ready, ready_bind, ready_last, ready_turns}
use Rattle.slang_grammar.specs.Types.{typed}
use Rattle.slang_grammar.specs.Descent.{Limits, expect, name, identifier, bracketed}
use Rattle.slang_grammar.specs.TypesDescent.{Type_, Arguments, WordUse, IsBuiltin, IsResource, IsThis, IsOther, use_of, arguments, project, types}
use Rattle.slang_grammar.specs.ExpressionsDescent.{freed}
use Rattle.slang_grammar.proofs.TypesReady as t
use Rattle.slang_grammar.proofs.TypesReady.{token, mark, int_word, zero_number, Any, ready_expect, ready_name, ready_bracketed, viable_project, ready_arguments, ready_types}
use Rattle.statement_grammar.specs.LocalsAhead.{name_ahead, length_ahead, array_ahead, rest_ahead, given_ahead, named_ahead_by, named_ahead, builtin_ahead_by, builtin_ahead, word_ahead, local_ahead_by, local_ahead_at, local_ahead}
use Rattle.statement_ends.proofs.Roomy.{roomy, freed_wider, not_mark}

-- the bracket of an array
abbrev Opens : Option Lexed → Type 0
Opens x = sees m.OpenBracket x ≡ true

abbrev name_path : List Lexed
name_path = token k.Name ∷ []

module _ (limits : Limits) where
  abbrev small : Limits
  small = freed limits

  abbrev large : Limits
  large = roomy limits

  ready_name_ahead : Ready Opens name_path (name_ahead limits) (name_ahead large)
  unfolding name_ahead
  ready_name_ahead = ready_last Opens name_path (name small) (name large) (λ id. tt) (ready_name small large (freed_wider limits) Opens)

  ready_length_ahead : Ready Opens (zero_number ∷ mark m.CloseBracket ∷ name_path) (length_ahead limits) (length_ahead large)
  unfolding length_ahead
  ready_length_ahead = ready_bind Opens Any (zero_number ∷ []) (mark m.CloseBracket ∷ name_path) (bracketed small) (bracketed large) _ _ (λ rest f. tt) (ready_bracketed small large (freed_wider limits) Any)
      (λ x. ready_bind Opens Any (mark m.CloseBracket ∷ []) name_path (expect m.CloseBracket) (expect m.CloseBracket) _ _ (λ rest f. tt) (ready_expect Any m.CloseBracket) (λ end. ready_name_ahead))

  ready_array_ahead : Ready Opens name_path (next (λ t. array_ahead limits (sees m.OpenBracket t))) (next (λ t. array_ahead large (sees m.OpenBracket t)))
  ready_array_ahead = record { viable = viable_next Opens (λ t. array_ahead large (sees m.OpenBracket t)) (λ t. array_ahead limits (sees m.OpenBracket t)) name_path finishes (λ t. by (sees m.OpenBracket t)); finishes = finishes }
    where
      finishes : Finishes Opens name_path (next (λ t. array_ahead large (sees m.OpenBracket t)))
      finishes = finishes_next_leave Opens (λ t. array_ahead large (sees m.OpenBracket t)) (token k.Name) [] (name_ahead large) refl ready_name_ahead.finishes

      by : (b : Bool) → EachPair (Viable Opens) (array_ahead limits b) (array_ahead large b)
      by true = ready_length_ahead.viable
      by false = ready_name_ahead.viable

  viable_rest_ahead : (x : Type_) → Viable Opens (rest_ahead limits x) (rest_ahead large x)
  unfolding rest_ahead
  viable_rest_ahead x = (ready_bind Opens t.Ends [] name_path (turns (sees m.Dot) (project small limits.turns) limits.turns x) (turns (sees m.Dot) (project large large.turns) large.turns x) _ _ (λ rest f. (refl, refl, refl))
      (ready_turns t.Ends t.Ends (sees m.Dot) (project small limits.turns) (project large large.turns) limits.turns large.turns x (omega arith) (λ y f. f) (λ y f. f.1) (viable_project small large (freed_wider limits) limits.turns large.turns))
      (λ y. ready_array_ahead)).viable

  ready_given_ahead : (id : Identifier) (a : Arguments × Place) → Ready Opens [] (next (λ t. given_ahead limits id a (sees m.OpenBracket t))) (next (λ t. given_ahead large id a (sees m.OpenBracket t)))
  ready_given_ahead id a = record { viable = viable_next Opens (λ t. given_ahead large id a (sees m.OpenBracket t)) (λ t. given_ahead limits id a (sees m.OpenBracket t)) [] finishes (λ t. by (sees m.OpenBracket t)); finishes = finishes }
    where
      finishes : Finishes Opens [] (next (λ t. given_ahead large id a (sees m.OpenBracket t)))
      finishes = finishes_next_end Opens (λ t. given_ahead large id a (sees m.OpenBracket t)) (λ t. pure tt) (λ t f. ap (given_ahead large id a) f) (λ t. finishes_pure Opens tt)

      by : (b : Bool) → EachPair (Viable Opens) (given_ahead limits id a b) (given_ahead large id a b)
      by true = viable_pure Opens tt
      by false = viable_rest_ahead (typed (span id.place a.1) (n.Named id a.0.0), a.0.1 + 1)

  viable_named_ahead : (id : Identifier) → Viable Opens (named_ahead limits id) (named_ahead large id)
  unfolding named_ahead
  viable_named_ahead id = viable_next Opens (λ t. named_ahead_by large id (sees m.Less t)) (λ t. named_ahead_by limits id (sees m.Less t)) (mark m.Less ∷ zero_number ∷ mark m.Greater ∷ [])
      (finishes_next_leave Opens (λ t. named_ahead_by large id (sees m.Less t)) (mark m.Less) (zero_number ∷ mark m.Greater ∷ []) _ refl some.finishes) (λ t. by (sees m.Less t))
    where
      some : Ready Opens (mark m.Less ∷ zero_number ∷ mark m.Greater ∷ []) (arguments small true limits.turns (types small limits.turns) >>= (λ a. next (λ t. given_ahead limits id a (sees m.OpenBracket t))))
          (arguments large true large.turns (types large large.turns) >>= (λ a. next (λ t. given_ahead large id a (sees m.OpenBracket t))))
      some =
          let r = ready_types small large (freed_wider limits) large.turns limits.turns (omega arith) in
          ready_bind Opens Any (mark m.Less ∷ zero_number ∷ mark m.Greater ∷ []) [] (arguments small true limits.turns (types small limits.turns)) (arguments large true large.turns (types large large.turns)) _ _ (λ rest f. tt)
          (ready_arguments small large (freed_wider limits) true limits.turns large.turns (λ z. omega arith) (types small limits.turns) (types large large.turns) r.viable r.finishes) (ready_given_ahead id)

      by : (b : Bool) → EachPair (Viable Opens) (named_ahead_by limits id b) (named_ahead_by large id b)
      by true = some.viable
      by false = viable_rest_ahead (typed id.place (n.Named id []), 1)

  viable_builtin_ahead : Viable Opens (builtin_ahead limits) (builtin_ahead large)
  unfolding builtin_ahead
  viable_builtin_ahead = viable_next Opens (λ t. builtin_ahead_by large (sees m.OpenParen t)) (λ t. builtin_ahead_by limits (sees m.OpenParen t)) []
      (finishes_next_end Opens (λ t. builtin_ahead_by large (sees m.OpenParen t)) (λ t. pure tt) (λ t f. ap (builtin_ahead_by large) (not_mark m.OpenBracket m.OpenParen refl t f)) (λ t. finishes_pure Opens tt)) (λ t. by (sees m.OpenParen t))
    where
      by : (b : Bool) → EachPair (Viable Opens) (builtin_ahead_by limits b) (builtin_ahead_by large b)
      by true = tt
      by false = viable_pure Opens tt

  pub viable_local_ahead : Viable Opens (local_ahead limits) (local_ahead large)
  unfolding local_ahead builtin_ahead
  viable_local_ahead = viable_next Opens (local_ahead_at large) (local_ahead_at limits) (int_word ∷ [])
      (finishes_next_take Opens (local_ahead_at large) int_word [] (builtin_ahead large) refl
      (finishes_next_end Opens (λ t. builtin_ahead_by large (sees m.OpenParen t)) (λ t. pure tt) (λ t f. ap (builtin_ahead_by large) (not_mark m.OpenBracket m.OpenParen refl t f)) (λ t. finishes_pure Opens tt))) at_token
    where
      by_word : (t : Lexed) (u : WordUse) → EachPair (Viable Opens) (word_ahead limits t u) (word_ahead large t u)
      by_word t (IsBuiltin b) = viable_builtin_ahead
      by_word t (IsResource r) = viable_pure Opens tt
      by_word t IsThis = viable_rest_ahead (typed t.place n.ThisType, 1)
      by_word t IsOther = tt

      by : (t : Lexed) (kind : Kind) → EachPair (Viable Opens) (local_ahead_by limits t kind) (local_ahead_by large t kind)
      by t k.Name = viable_named_ahead (identifier t)
      by t (k.Word word) = by_word t (use_of word)
      by t (k.Number v) = tt
      by t k.String = tt
      by t (k.Mark a) = tt

      at_token : (x : Option Lexed) → EachPair (Viable Opens) (local_ahead_at limits x) (local_ahead_at large x)
      at_token (Some t) = by t t.kind
      at_token None = tt
