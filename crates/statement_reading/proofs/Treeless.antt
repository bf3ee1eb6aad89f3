-- What is looked at ahead has the same outcome with trees and without.
use Rattle.std.proofs.Common.{Bool, true, false, ◌≡◌, ℕ, zero, suc, ◌+◌, max, List, drop, Option, Some, None, refl, sym, ◌∙◌, ap}
use Rattle.slang_names.specs.declared.places.Place.{Place}
use Rattle.slang_names.specs.declared.codes.ModuleCode.TheVariants as code
use Rattle.slang_tree.specs.declared.types.Identifier.{Identifier}
use Rattle.slang_tree.specs.declared.types.TypeNode.TheVariants as n
use Rattle.slang_tokens.specs.declared.tokens.Kind.{Kind}
use Rattle.slang_tokens.specs.declared.tokens.Kind.TheVariants as k
use Rattle.slang_tokens.specs.declared.tokens.Mark.TheVariants as m
use Rattle.slang_reading.specs.Lexed.{Lexed}
use Rattle.slang_reading.specs.Reading.{Outcome, Done, Stop, Past, Parser, and_then, bind, ◌>>=◌, pure, first, Leave, Pass, place_of, chosen, next, turn, turns}
use Rattle.slang_reading.specs.Kinds.{sees, span}
use Rattle.slang_grammar.specs.Types.{typed}
use Rattle.slang_grammar.specs.Descent.{Limits, name, identifier}
use Rattle.slang_grammar.specs.TypesDescent.{Type_, Arguments, WordUse, IsBuiltin, IsResource, IsThis, IsOther, use_of, arguments, project_rest, project_by, project, types}
use Rattle.slang_grammar.specs.ExpressionsDescent.{freed}
use Rattle.type_reading.specs.Scanning.{erased, arguments_taken}
use Rattle.statement_grammar.specs.LocalsAhead.{Seen, name_ahead, array_ahead, rest_ahead, given_ahead, named_ahead_by, named_ahead, word_ahead, local_ahead_by, local_ahead_at, local_ahead}
use Rattle.statement_reading.specs.Treeless.{dotted_by, dotted, rest_taken, given_taken, named_taken_by, named_taken, word_taken, local_taken_by, local_taken_at, local_taken}

erased_then : {A B : Type 0} (o : Outcome A) (g : A → ℕ → ℕ → Outcome B) (k : Seen → ℕ → ℕ → Outcome Seen) → ((a : A) (at seen : ℕ) → erased (g a at seen) ≡ k tt at seen) →
    erased (and_then o g) ≡ and_then (erased o) k
erased_then (Done a at seen) g k h = h a at seen
erased_then (Stop seen) g k h = refl
erased_then (Past code place seen) g k h = refl

erased_seen : (o : Outcome Seen) → erased o ≡ o
erased_seen (Done a at seen) = refl
erased_seen (Stop seen) = refl
erased_seen (Past code place seen) = refl

module _ (ts : List Lexed) where
  erased_bind : {A B : Type 0} (p : Parser A) (g : A → Parser B) (q : Parser Seen) (r : Seen → Parser Seen) (at seen : ℕ) → erased (p ts at seen) ≡ q ts at seen →
      ((a : A) (mid seen1 : ℕ) → erased (g a ts mid seen1) ≡ r tt ts mid seen1) → erased ((p >>= g) ts at seen) ≡ (q >>= r) ts at seen
  unfolding bind
  erased_bind p g q r at seen e h = erased_then (p ts at seen) (λ a mid seen1. g a ts mid seen1) (λ u mid seen1. r u ts mid seen1) h ∙ ap (λ o. and_then o (λ u mid seen1. r u ts mid seen1)) e

  -- while the next token goes on, more
  module _ {A : Type 0} (goes : Option Lexed → Bool) (more : A → Parser A) (once : Seen → Parser Seen) (h : (a : A) (at seen : ℕ) → erased (more a ts at seen) ≡ once tt ts at seen) where
    full : (x : Option Lexed) (b : Bool) (a : A) (p : Place) (at seen : ℕ) → erased (chosen x (turn b (Pass code.TooLong p) a) ts at seen) ≡ chosen x (turn b (Pass code.TooLong p) tt) ts at seen
    full (Some t) true a p at seen = refl
    full None true a p at seen = refl
    full (Some t) false a p at seen = refl
    full None false a p at seen = refl

    goes_on : (x : Option Lexed) (b : Bool) (a : A) (p : Parser A) (q : Parser Seen) (at seen : ℕ) → erased (p ts at seen) ≡ q ts at seen →
        erased (chosen x (turn b (Leave p) a) ts at seen) ≡ chosen x (turn b (Leave q) tt) ts at seen
    goes_on (Some t) true a p q at seen e = e
    goes_on None true a p q at seen e = e
    goes_on (Some t) false a p q at seen e = refl
    goes_on None false a p q at seen e = refl

    erased_turns : (n : ℕ) (a : A) (at seen : ℕ) → erased (turns goes more n a ts at seen) ≡ turns goes once n tt ts at seen
    unfolding turns next
    erased_turns zero a at seen = full (first (drop at ts)) (goes (first (drop at ts))) a (place_of (first (drop at ts))) at (max seen (at + 1))
    erased_turns (suc n) a at seen = goes_on (first (drop at ts)) (goes (first (drop at ts))) a (more a >>= turns goes more n) (once tt >>= turns goes once n) at (max seen (at + 1))
        (erased_bind (more a) (turns goes more n) (once tt) (turns goes once n) at (max seen (at + 1)) (h a at (max seen (at + 1))) (λ b mid seen1. erased_turns n b mid seen1))

  module _ (limits : Limits) where
    -- a name behind a dot
    name_then : {A : Type 0} (g : Identifier → A) (at seen : ℕ) → erased ((name (freed limits) >>= (λ id. pure (g id))) ts at seen) ≡ name_ahead limits ts at seen
    unfolding name_ahead bind
    name_then g at seen = go (name (freed limits) ts at seen)
      where
        go : (o : Outcome Identifier) → erased (and_then o (λ id mid seen1. Done (g id) mid seen1)) ≡ and_then o (λ id mid seen1. Done tt mid seen1)
        go (Done a mid seen1) = refl
        go (Stop seen1) = refl
        go (Past code place seen1) = refl

    erased_project : (x : Type_) (at seen : ℕ) → erased (project (freed limits) limits.turns x ts at seen) ≡ dotted limits tt ts at seen
    unfolding project project_rest dotted next
    erased_project x at seen = go (first (drop at ts)) (sees m.Dot (first (drop at ts)))
      where
        go : (t : Option Lexed) (b : Bool) → erased (chosen t (project_by (freed limits) limits.turns x t b) ts at (max seen (at + 1))) ≡ chosen t (dotted_by limits b) ts at (max seen (at + 1))
        go (Some t) true = name_then (λ id. (typed (span x.0.place id.place) (n.Projection x.0 id), x.1 + 1)) (at + 1) (max seen (at + 1))
        go None true = refl
        go (Some t) false = refl
        go None false = refl

    pub same_rest : (x : Type_) (at seen : ℕ) → rest_ahead limits x ts at seen ≡ rest_taken limits ts at seen
    unfolding rest_ahead rest_taken
    same_rest x at seen =
        sym (erased_seen (rest_ahead limits x ts at seen))
        ∙ erased_bind (turns (sees m.Dot) (project (freed limits) limits.turns) limits.turns x) (λ y. next (λ t. array_ahead limits (sees m.OpenBracket t)))
        (turns (sees m.Dot) (dotted limits) limits.turns tt) (λ u. next (λ t. array_ahead limits (sees m.OpenBracket t))) at seen
        (erased_turns (sees m.Dot) (project (freed limits) limits.turns) (dotted limits) erased_project limits.turns x at seen)
        (λ y mid seen1. erased_seen (next (λ t. array_ahead limits (sees m.OpenBracket t)) ts mid seen1))

    same_given : (id : Identifier) (a : Arguments × Place) (at seen : ℕ) →
        next (λ t. given_ahead limits id a (sees m.OpenBracket t)) ts at seen ≡ next (λ t. given_taken limits (sees m.OpenBracket t)) ts at seen
    unfolding next
    same_given id a at seen = go (first (drop at ts)) (sees m.OpenBracket (first (drop at ts)))
      where
        go : (t : Option Lexed) (b : Bool) → chosen t (given_ahead limits id a b) ts at (max seen (at + 1)) ≡ chosen t (given_taken limits b) ts at (max seen (at + 1))
        go (Some t) true = refl
        go None true = refl
        go (Some t) false = same_rest _ at (max seen (at + 1))
        go None false = same_rest _ at (max seen (at + 1))

    same_named : (id : Identifier) (at seen : ℕ) → named_ahead limits id ts at seen ≡ named_taken limits ts at seen
    unfolding named_ahead named_taken next
    same_named id at seen = go (first (drop at ts)) (sees m.Less (first (drop at ts)))
      where
        behind : (seen1 : ℕ) → (arguments (freed limits) true limits.turns (types (freed limits) limits.turns) >>= (λ a. next (λ t. given_ahead limits id a (sees m.OpenBracket t)))) ts at seen1
            ≡ (arguments_taken (freed limits) >>= (λ _. next (λ t. given_taken limits (sees m.OpenBracket t)))) ts at seen1
        behind seen1 =
            sym (erased_seen _)
            ∙ erased_bind (arguments (freed limits) true limits.turns (types (freed limits) limits.turns)) (λ a. next (λ t. given_ahead limits id a (sees m.OpenBracket t)))
            (arguments_taken (freed limits)) (λ u. next (λ t. given_taken limits (sees m.OpenBracket t))) at seen1 refl
            (λ a mid seen2. erased_seen _ ∙ same_given id a mid seen2)

        go : (t : Option Lexed) (b : Bool) → chosen t (named_ahead_by limits id b) ts at (max seen (at + 1)) ≡ chosen t (named_taken_by limits b) ts at (max seen (at + 1))
        go (Some t) true = behind (max seen (at + 1))
        go None true = behind (max seen (at + 1))
        go (Some t) false = same_rest _ at (max seen (at + 1))
        go None false = same_rest _ at (max seen (at + 1))

    pub same_local : (at seen : ℕ) → local_ahead limits ts at seen ≡ local_taken limits ts at seen
    unfolding local_ahead local_taken next
    same_local at seen = go (first (drop at ts))
      where
        word : (t : Lexed) (u : WordUse) → chosen (Some t) (word_ahead limits t u) ts at (max seen (at + 1)) ≡ chosen (Some t) (word_taken limits u) ts at (max seen (at + 1))
        word t (IsBuiltin b) = refl
        word t (IsResource r) = refl
        word t IsThis = same_rest _ (at + 1) (max seen (at + 1))
        word t IsOther = refl

        by : (t : Lexed) (kind : Kind) → chosen (Some t) (local_ahead_by limits t kind) ts at (max seen (at + 1)) ≡ chosen (Some t) (local_taken_by limits kind) ts at (max seen (at + 1))
        by t k.Name = same_named (identifier t) (at + 1) (max seen (at + 1))
        by t (k.Word w) = word t (use_of w)
        by t (k.Number v) = refl
        by t k.String = refl
        by t (k.Mark x) = refl

        go : (t : Option Lexed) → chosen t (local_ahead_at limits t) ts at (max seen (at + 1)) ≡ chosen t (local_taken_at limits t) ts at (max seen (at + 1))
        go (Some t) = by t t.kind
        go None = refl
