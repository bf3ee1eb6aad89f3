-- Attributes: what was looked at of them, but for the last token, goes on to be attributes.
use Rattle.std.proofs.Common.{Bool, true, false, ◌≡◌, ℕ, List, [], ◌∷◌, ◌++◌, Option, Some, None, refl, ◌||◌, not, if◌then◌else◌, arith}
use Rattle.std.specs.Prelude.{codes}
use Rattle.std.specs.Str.{bytes_eq}
use Rattle.slang_names.specs.declared.places.Place.{Place}
use Rattle.slang_tree.specs.declared.types.Identifier.{Identifier}
use Rattle.slang_tree.specs.declared.statements.AttributeNode.TheVariants as n
use Rattle.slang_tree.specs.declared.statements.Literal.{Literal}
use Rattle.slang_tree.specs.declared.statements.Literal.TheVariants as l
use Rattle.slang_tokens.specs.declared.tokens.Kind.{Kind}
use Rattle.slang_tokens.specs.declared.tokens.Kind.TheVariants as k
use Rattle.slang_tokens.specs.declared.tokens.Mark.{Mark}
use Rattle.slang_tokens.specs.declared.tokens.Mark.TheVariants as m
use Rattle.slang_reading.specs.Lexed.{Lexed}
use Rattle.slang_reading.specs.Reading.{Choice, Leave, Take, Refuse, Pass, pure, place_of, next, turns}
use Rattle.slang_reading.specs.Kinds.{sees, span}
use Rattle.slang_reading.proofs.Viable.{Finishes, Viable, viable_pure, finishes_pure, EachPair, each_whole, finishes_next_take, viable_next, Ready, ready_bind, ready_last, ready_turns}
use Rattle.slang_grammar.specs.Descent.{Limits, expect, identifier, if_short}
use Rattle.slang_grammar.proofs.TypesReady.{token, mark, zero_number, Any, ready_expect, pair_short}
use Rattle.statement_grammar.specs.declared.attributes.KnownAttribute.{KnownAttribute}
use Rattle.statement_grammar.specs.declared.attributes.KnownAttribute.TheVariants as a
use Rattle.statement_grammar.specs.declared.attributes.Target.{Target}
use Rattle.statement_grammar.specs.AttributeTables.{attribute_of}
use Rattle.statement_grammar.specs.Attributes.{attributed, unquoted}
use Rattle.statement_grammar.specs.AttributeRules.{Want, wants_of}
use Rattle.statement_grammar.specs.AttributesDescent.{if_obeyed, Given, wants_more, wanted, later, Literals, with_literal, literal_by, literal_at, literal, comma_by, literal_more, close_by, close, literals, rest_by, attribute_rest, noted, admits, spelled_by, spelled_at, spelled, number_by, number_at, number, named, binding_rest, binding_by, binding_at, binding, attribute_by, attribute_at, attribute, attributes}
use Rattle.statement_ends.proofs.Roomy.{roomy, wider}

-- a rule on attributes that the larger one does not have
pub pair_obeyed : {A : Type 0} (F : Option Lexed → Type 0) (b : Bool) (p : Place) (c d : Choice A) → EachPair (Viable F) c d → EachPair (Viable F) (if_obeyed b p c) d
pair_obeyed F true p c d v = v
pair_obeyed F false p (Leave q) d v = each_whole F (Leave q) d v
pair_obeyed F false p (Take q) d v = each_whole F (Take q) d v
pair_obeyed F false p Refuse d v = v
pair_obeyed F false p (Pass other there) d v = v

-- a name of those bytes
abbrev named_so : List ℕ → Lexed
named_so bytes = record { kind = k.Name; place = record { start = 0; end = 0 }; bytes = bytes }

-- nothing with which attributes go on
abbrev pub Unmarked : Option Lexed → Type 0
Unmarked x = sees m.OpenBracket x ≡ false

abbrev no_comma : Option Lexed → Type 0
no_comma x = sees m.Comma x ≡ false

-- ---- parts without limits

module _ (F : Option Lexed → Type 0) where
  ready_vk : Ready F (named_so (codes "vk") ∷ []) (spelled (codes "vk")) (spelled (codes "vk"))
  unfolding spelled
  ready_vk = record { viable = viable_next F (spelled_at (codes "vk")) (spelled_at (codes "vk")) (named_so (codes "vk") ∷ []) finishes go; finishes = finishes }
    where
      finishes : Finishes F (named_so (codes "vk") ∷ []) (next (spelled_at (codes "vk")))
      finishes = finishes_next_take F (spelled_at (codes "vk")) (named_so (codes "vk")) [] (pure _) refl (finishes_pure F _)

      test : (t : Lexed) (b : Bool) → EachPair (Viable F) (if b then Take (pure t.place) else Refuse) (if b then Take (pure t.place) else Refuse)
      test t true = viable_pure F t.place
      test t false = tt

      by : (t : Lexed) (kind : Kind) → EachPair (Viable F) (spelled_by (codes "vk") t kind) (spelled_by (codes "vk") t kind)
      by t k.Name = test t (bytes_eq (codes "vk") t.bytes)
      by t (k.Word word) = tt
      by t (k.Number v) = tt
      by t k.String = tt
      by t (k.Mark mark) = tt

      go : (x : Option Lexed) → EachPair (Viable F) (spelled_at (codes "vk") x) (spelled_at (codes "vk") x)
      go (Some t) = by t t.kind
      go None = tt

  ready_number : Ready F (zero_number ∷ []) number number
  unfolding number
  ready_number = record { viable = viable_next F number_at number_at (zero_number ∷ []) finishes go; finishes = finishes }
    where
      finishes : Finishes F (zero_number ∷ []) (next number_at)
      finishes = finishes_next_take F number_at zero_number [] (pure _) refl (finishes_pure F _)

      by : (kind : Kind) → EachPair (Viable F) (number_by kind) (number_by kind)
      by (k.Number v) = viable_pure F v
      by k.Name = tt
      by (k.Word word) = tt
      by k.String = tt
      by (k.Mark mark) = tt

      go : (x : Option Lexed) → EachPair (Viable F) (number_at x) (number_at x)
      go (Some t) = by t.kind
      go None = tt

module _ (limits : Limits) where
  abbrev large : Limits
  large = roomy limits

  -- ---- literals

  module _ (place : Place) where
    ready_literal : (F : Option Lexed → Type 0) (r : Literals) → Ready F (zero_number ∷ []) (literal limits place r) (literal large place r)
    unfolding literal
    ready_literal F r = record { viable = viable_next F (literal_at large place r) (literal_at limits place r) (zero_number ∷ []) finishes go; finishes = finishes }
      where
        finishes : Finishes F (zero_number ∷ []) (next (literal_at large place r))
        finishes = finishes_next_take F (literal_at large place r) zero_number [] (pure _) refl (finishes_pure F _)

        one : (x : Literal) → EachPair (Viable F) (with_literal limits place r x) (with_literal large place r x)
        one x = pair_obeyed F (limits.free || wanted r.1 x) place (Take (pure (r.0 ++ x ∷ [], later r.1))) (Take (pure (r.0 ++ x ∷ [], later r.1))) (viable_pure F _)

        by : (t : Lexed) (kind : Kind) → EachPair (Viable F) (literal_by limits place r t kind) (literal_by large place r t kind)
        by t (k.Number v) = one (l.Number t.place v)
        by t k.String = one (l.String t.place (unquoted t.bytes))
        by t k.Name = tt
        by t (k.Word word) = tt
        by t (k.Mark mark) = tt

        go : (x : Option Lexed) → EachPair (Viable F) (literal_at limits place r x) (literal_at large place r x)
        go (Some t) = by t t.kind
        go None = tt

    viable_literal_more : (r : Literals) → Viable Any (literal_more limits place r) (literal_more large place r)
    unfolding literal_more
    viable_literal_more r = viable_next Any (λ x. comma_by large place r (sees m.Comma x)) (λ x. comma_by limits place r (sees m.Comma x)) (mark m.Comma ∷ zero_number ∷ [])
        (finishes_next_take Any (λ x. comma_by large place r (sees m.Comma x)) (mark m.Comma) (zero_number ∷ []) (literal large place r) refl (ready_literal Any r).finishes) (λ x. by (sees m.Comma x))
      where
        by : (b : Bool) → EachPair (Viable Any) (comma_by limits place r b) (comma_by large place r b)
        by true = pair_obeyed Any (limits.free || wants_more r.1) place (Take (literal limits place r)) (Take (literal large place r)) (ready_literal Any r).viable
        by false = tt

    ready_close : (F : Option Lexed → Type 0) (r : Literals) → Ready F (mark m.CloseParen ∷ []) (close limits place r) (close large place r)
    unfolding close
    ready_close F r = record { viable = viable_next F (λ x. close_by large place r (sees m.CloseParen x)) (λ x. close_by limits place r (sees m.CloseParen x)) (mark m.CloseParen ∷ []) finishes (λ x. by (sees m.CloseParen x)); finishes = finishes }
      where
        finishes : Finishes F (mark m.CloseParen ∷ []) (next (λ x. close_by large place r (sees m.CloseParen x)))
        finishes = finishes_next_take F (λ x. close_by large place r (sees m.CloseParen x)) (mark m.CloseParen) [] (pure r.0) refl (finishes_pure F r.0)

        by : (b : Bool) → EachPair (Viable F) (close_by limits place r b) (close_by large place r b)
        by true = pair_obeyed F (limits.free || not (wants_more r.1)) place (Take (pure r.0)) (Take (pure r.0)) (viable_pure F r.0)
        by false = tt

    viable_literals : (F : Option Lexed → Type 0) (wants : List Want) → Viable F (literals limits place wants) (literals large place wants)
    unfolding literals
    viable_literals F wants = (ready_bind F Any (zero_number ∷ []) (mark m.CloseParen ∷ mark m.CloseBracket ∷ []) (literal limits place ([], wants)) (literal large place ([], wants)) _ _ (λ rest f. tt) (ready_literal Any ([], wants))
        (λ x. ready_bind F no_comma [] (mark m.CloseParen ∷ mark m.CloseBracket ∷ []) (turns (sees m.Comma) (literal_more limits place) limits.turns x) (turns (sees m.Comma) (literal_more large place) large.turns x) _ _ (λ rest f. refl)
        (ready_turns no_comma Any (sees m.Comma) (literal_more limits place) (literal_more large place) limits.turns large.turns x (omega arith) (λ y c. tt) (λ y c. c) viable_literal_more)
        (λ r. ready_bind F Any (mark m.CloseParen ∷ []) (mark m.CloseBracket ∷ []) (close limits place r) (close large place r) _ _ (λ rest f. tt) (ready_close Any r)
        (λ list. ready_last F (mark m.CloseBracket ∷ []) (expect m.CloseBracket) (expect m.CloseBracket) (λ end. (list, end)) (ready_expect F m.CloseBracket))))).viable

    ready_attribute_rest : (F : Option Lexed → Type 0) (wants : List Want) → Ready F (mark m.CloseBracket ∷ []) (attribute_rest limits place wants) (attribute_rest large place wants)
    unfolding attribute_rest
    ready_attribute_rest F wants = record {
      viable = viable_next F (λ x. rest_by large place wants x (sees m.OpenParen x) (sees m.CloseBracket x)) (λ x. rest_by limits place wants x (sees m.OpenParen x) (sees m.CloseBracket x)) (mark m.CloseBracket ∷ []) finishes
          (λ x. by x (sees m.OpenParen x) (sees m.CloseBracket x));
      finishes = finishes;
    }
      where
        finishes : Finishes F (mark m.CloseBracket ∷ []) (next (λ x. rest_by large place wants x (sees m.OpenParen x) (sees m.CloseBracket x)))
        finishes = finishes_next_take F (λ x. rest_by large place wants x (sees m.OpenParen x) (sees m.CloseBracket x)) (mark m.CloseBracket) [] (pure _) refl (finishes_pure F _)

        by : (x : Option Lexed) (b c : Bool) → EachPair (Viable F) (rest_by limits place wants x b c) (rest_by large place wants x b c)
        by x true c = pair_obeyed F (limits.free || wants_more wants) place (Take (literals limits place wants)) (Take (literals large place wants)) (viable_literals F wants)
        by x false true = pair_obeyed F (limits.free || not (wants_more wants)) place (Take (pure ([], place_of x))) (Take (pure ([], place_of x))) (viable_pure F _)
        by x false false = tt

  -- ---- attributes

  module _ (F : Option Lexed → Type 0) (targets : List Target) (given : Given) where
    ready_named : (begin : Place) (id : Identifier) (known : Option KnownAttribute) → Ready F (mark m.CloseBracket ∷ []) (named limits targets given begin id known) (named large targets given begin id known)
    unfolding named
    ready_named begin id known = ready_last F (mark m.CloseBracket ∷ []) (attribute_rest limits id.place (wants_of known)) (attribute_rest large id.place (wants_of known))
        (λ r. (given.0 ++ attributed (span begin r.1) (n.Named id r.0) ∷ [], noted given.1 known id.place)) (ready_attribute_rest id.place F (wants_of known))

    abbrev binding_path : List Lexed
    binding_path = mark m.OpenParen ∷ zero_number ∷ mark m.Comma ∷ zero_number ∷ mark m.CloseParen ∷ mark m.CloseBracket ∷ mark m.CloseBracket ∷ []

    ready_binding_rest : (begin place : Place) → Ready F binding_path (binding_rest limits targets given begin place) (binding_rest large targets given begin place)
    unfolding binding_rest
    ready_binding_rest begin place =
        ready_bind F Any (mark m.OpenParen ∷ []) (zero_number ∷ mark m.Comma ∷ zero_number ∷ mark m.CloseParen ∷ mark m.CloseBracket ∷ mark m.CloseBracket ∷ []) (expect m.OpenParen) (expect m.OpenParen) _ _ (λ rest f. tt) (ready_expect Any m.OpenParen)
        (λ p1. ready_bind F Any (zero_number ∷ []) (mark m.Comma ∷ zero_number ∷ mark m.CloseParen ∷ mark m.CloseBracket ∷ mark m.CloseBracket ∷ []) number number _ _ (λ rest f. tt) (ready_number Any)
        (λ b. ready_bind F Any (mark m.Comma ∷ []) (zero_number ∷ mark m.CloseParen ∷ mark m.CloseBracket ∷ mark m.CloseBracket ∷ []) (expect m.Comma) (expect m.Comma) _ _ (λ rest f. tt) (ready_expect Any m.Comma)
        (λ p2. ready_bind F Any (zero_number ∷ []) (mark m.CloseParen ∷ mark m.CloseBracket ∷ mark m.CloseBracket ∷ []) number number _ _ (λ rest f. tt) (ready_number Any)
        (λ s. ready_bind F Any (mark m.CloseParen ∷ []) (mark m.CloseBracket ∷ mark m.CloseBracket ∷ []) (expect m.CloseParen) (expect m.CloseParen) _ _ (λ rest f. tt) (ready_expect Any m.CloseParen)
        (λ p3. ready_bind F Any (mark m.CloseBracket ∷ []) (mark m.CloseBracket ∷ []) (expect m.CloseBracket) (expect m.CloseBracket) _ _ (λ rest f. tt) (ready_expect Any m.CloseBracket)
        (λ p4. ready_last F (mark m.CloseBracket ∷ []) (expect m.CloseBracket) (expect m.CloseBracket) (λ end. (given.0 ++ attributed (span begin end) (n.Binding b s) ∷ [], noted given.1 (Some a.Binding) place)) (ready_expect F m.CloseBracket)))))))

    ready_bound : (begin p : Place) → Ready F (named_so (codes "binding") ∷ binding_path) (next (binding_at limits targets given begin p)) (next (binding_at large targets given begin p))
    ready_bound begin p = record { viable = viable_next F (binding_at large targets given begin p) (binding_at limits targets given begin p) (named_so (codes "binding") ∷ binding_path) finishes go; finishes = finishes }
      where
        finishes : Finishes F (named_so (codes "binding") ∷ binding_path) (next (binding_at large targets given begin p))
        finishes = finishes_next_take F (binding_at large targets given begin p) (named_so (codes "binding")) binding_path _ refl (ready_binding_rest begin (span p (named_so []).place)).finishes

        test : (t : Lexed) (b : Bool) → EachPair (Viable F)
            (if b then if_obeyed (limits.free || admits targets given.1 (Some a.Binding) (span p t.place)) (span p t.place) (Take (binding_rest limits targets given begin (span p t.place))) else Refuse)
            (if b then if_obeyed (large.free || admits targets given.1 (Some a.Binding) (span p t.place)) (span p t.place) (Take (binding_rest large targets given begin (span p t.place))) else Refuse)
        test t true = pair_obeyed F (limits.free || admits targets given.1 (Some a.Binding) (span p t.place)) (span p t.place) (Take (binding_rest limits targets given begin (span p t.place))) (Take (binding_rest large targets given begin (span p t.place)))
            (ready_binding_rest begin (span p t.place)).viable
        test t false = tt

        by : (t : Lexed) (kind : Kind) → EachPair (Viable F) (binding_by limits targets given begin p t kind) (binding_by large targets given begin p t kind)
        by t k.Name = test t (bytes_eq (codes "binding") t.bytes)
        by t (k.Word word) = tt
        by t (k.Number v) = tt
        by t k.String = tt
        by t (k.Mark mark) = tt

        go : (x : Option Lexed) → EachPair (Viable F) (binding_at limits targets given begin p x) (binding_at large targets given begin p x)
        go (Some t) = by t t.kind
        go None = tt

    viable_binding : (begin : Place) → Viable F (binding limits targets given begin) (binding large targets given begin)
    unfolding binding
    viable_binding begin = (ready_bind F Any (named_so (codes "vk") ∷ []) (mark m.DoubleColon ∷ named_so (codes "binding") ∷ binding_path) (spelled (codes "vk")) (spelled (codes "vk")) _ _ (λ rest f. tt) (ready_vk Any)
        (λ p. ready_bind F Any (mark m.DoubleColon ∷ []) (named_so (codes "binding") ∷ binding_path) (expect m.DoubleColon) (expect m.DoubleColon) _ _ (λ rest f. tt) (ready_expect Any m.DoubleColon)
        (λ q. ready_bound begin p))).viable

    by_mark : (begin : Place) (t : Lexed) (mark : Mark) → EachPair (Viable F) (attribute_by limits targets given begin t (k.Mark mark)) (attribute_by large targets given begin t (k.Mark mark))
    by_mark begin t m.OpenBrace = tt
    by_mark begin t m.CloseBrace = tt
    by_mark begin t m.OpenParen = tt
    by_mark begin t m.CloseParen = tt
    by_mark begin t m.OpenBracket = viable_binding begin
    by_mark begin t m.CloseBracket = tt
    by_mark begin t m.Less = tt
    by_mark begin t m.Equal = tt
    by_mark begin t m.Semicolon = tt
    by_mark begin t m.Comma = tt
    by_mark begin t m.Colon = tt
    by_mark begin t m.DoubleColon = tt
    by_mark begin t m.Dot = tt
    by_mark begin t m.Question = tt
    by_mark begin t m.Plus = tt
    by_mark begin t m.Minus = tt
    by_mark begin t m.Star = tt
    by_mark begin t m.Slash = tt
    by_mark begin t m.Percent = tt
    by_mark begin t m.And = tt
    by_mark begin t m.Or = tt
    by_mark begin t m.Caret = tt
    by_mark begin t m.Not = tt
    by_mark begin t m.Tilde = tt
    by_mark begin t m.AndAnd = tt
    by_mark begin t m.OrOr = tt
    by_mark begin t m.EqualEqual = tt
    by_mark begin t m.NotEqual = tt
    by_mark begin t m.LessEqual = tt
    by_mark begin t m.ShiftLeft = tt
    by_mark begin t m.PlusPlus = tt
    by_mark begin t m.MinusMinus = tt
    by_mark begin t m.PlusEqual = tt
    by_mark begin t m.MinusEqual = tt
    by_mark begin t m.StarEqual = tt
    by_mark begin t m.SlashEqual = tt
    by_mark begin t m.PercentEqual = tt
    by_mark begin t m.AndEqual = tt
    by_mark begin t m.OrEqual = tt
    by_mark begin t m.CaretEqual = tt
    by_mark begin t m.ShiftLeftEqual = tt
    by_mark begin t m.Greater = tt

    by_kind : (begin : Place) (t : Lexed) (kind : Kind) → EachPair (Viable F) (attribute_by limits targets given begin t kind) (attribute_by large targets given begin t kind)
    by_kind begin t k.Name =
        let small : Choice Given = Take (named limits targets given begin (identifier t) (attribute_of t.bytes)) in
        let wide : Choice Given = Take (named large targets given begin (identifier t) (attribute_of t.bytes)) in
        pair_obeyed F (limits.free || admits targets given.1 (attribute_of t.bytes) t.place) t.place (if_short limits t small) (if_short large t wide)
        (pair_short limits large (wider limits) F t small wide (ready_named begin (identifier t) (attribute_of t.bytes)).viable)
    by_kind begin t (k.Mark mark) = by_mark begin t mark
    by_kind begin t (k.Word word) = tt
    by_kind begin t (k.Number v) = tt
    by_kind begin t k.String = tt

    viable_attribute : Viable F (attribute limits targets given) (attribute large targets given)
    unfolding attribute
    viable_attribute = (ready_bind F Any (mark m.OpenBracket ∷ []) (token k.Name ∷ mark m.CloseBracket ∷ []) (expect m.OpenBracket) (expect m.OpenBracket) _ _ (λ rest f. tt) (ready_expect Any m.OpenBracket) rest).viable
      where
        finishes : (p : Place) → Finishes F (token k.Name ∷ mark m.CloseBracket ∷ []) (next (attribute_at large targets given p))
        finishes p = finishes_next_take F (attribute_at large targets given p) (token k.Name) (mark m.CloseBracket ∷ []) _ refl (ready_named p (identifier (token k.Name)) (attribute_of [])).finishes

        go : (p : Place) (x : Option Lexed) → EachPair (Viable F) (attribute_at limits targets given p x) (attribute_at large targets given p x)
        go p (Some t) = by_kind p t t.kind
        go p None = tt

        rest : (p : Place) → Ready F (token k.Name ∷ mark m.CloseBracket ∷ []) (next (attribute_at limits targets given p)) (next (attribute_at large targets given p))
        rest p = record { viable = viable_next F (attribute_at large targets given p) (attribute_at limits targets given p) (token k.Name ∷ mark m.CloseBracket ∷ []) (finishes p) (go p); finishes = finishes p }

  pub ready_attributes : (targets : List Target) → Ready Unmarked [] (attributes limits targets) (attributes large targets)
  unfolding attributes
  ready_attributes targets = ready_turns Unmarked Any (sees m.OpenBracket) (attribute limits targets) (attribute large targets) limits.turns large.turns ([], []) (omega arith) (λ y c. tt) (λ y c. c) (λ g. viable_attribute Any targets g)
