-- Types: what is read without limits of lists, names and chains passes none where as many nodes and turns are left as tokens.
use Rattle.std.proofs.Common.{Bool, true, false, ◌≡◌, ℕ, zero, suc, ◌+◌, ◌<◌, ◌≤◌, List, [], ◌∷◌, drop, length, Option, Some, None, refl, ap, arith, ◌||◌}
use Rattle.std.specs.Prelude.{nat_le, nat_lt}
use Rattle.std.proofs.lemmas.Bool.Decides.{nat_tests}
use Rattle.slang_names.specs.declared.places.Place.{Place}
use Rattle.slang_names.specs.declared.codes.ModuleCode.TheVariants as code
use Rattle.slang_tree.specs.declared.types.Identifier.{Identifier}
use Rattle.slang_tree.specs.declared.types.Resource.{Resource}
use Rattle.slang_tree.specs.declared.types.TypeNode.TheVariants as n
use Rattle.slang_tokens.specs.declared.tokens.Kind.{Kind}
use Rattle.slang_tokens.specs.declared.tokens.Kind.TheVariants as k
use Rattle.slang_tokens.specs.declared.tokens.Mark.TheVariants as m
use Rattle.slang_reading.specs.Lexed.{Lexed}
use Rattle.slang_reading.specs.Reading.{Parser, Leave, Take, first, pure, turns}
use Rattle.slang_reading.specs.Kinds.{sees}
use Rattle.slang_reading.proofs.Tame.{within}
use Rattle.slang_reading.proofs.Fine.{Fine, fine_weaken, fine_bind, FineChoice, fine_next, fine_fits, fine_turns}
use Rattle.slang_grammar.specs.Types.{typed}
use Rattle.slang_grammar.specs.Descent.{Limits, fits_in, expect, is_short, named_by, named, name, identifier, termed_by, termed, bracketed}
use Rattle.slang_grammar.specs.TypesDescent.{Type_, Arguments, WordUse, IsBuiltin, IsResource, IsThis, IsOther, use_of, type_argument, begins_type, word_argument, argument_by, argument_of, argument, argument_more, arguments, name_rest_by, name_rest, resource_rest, node, type_word, type_by, type_of, type_name, project_rest, project_by, project, length_rest, length_by, array, type_rest, no_types, types}
use Rattle.slang_grammar.proofs.Shared.{IsMarkAt, fine_expect}

module _ (ts : List Lexed) (limits : Limits) (free : limits.free ≡ true) where
  fits_free : (count most : ℕ) → fits_in limits count most ≡ true
  fits_free count most = ap (λ b. b || nat_lt count most) free

  short_free : (t : Lexed) → is_short limits t ≡ true
  short_free t = ap (λ b. b || nat_le (length t.bytes) limits.names) free

  -- it takes a token, or more
  abbrev Takes : {A : Type 0} → ℕ → A → ℕ → Type 0
  Takes at a to = at < to

  fine_name : (at seen : ℕ) → Fine (Takes at) (name limits ts at seen)
  unfolding name
  fine_name at seen = fine_next ts (Takes at) (named limits) at seen (λ x e. go x)
    where
      by : (t : Lexed) (kind : Kind) → FineChoice ts (Takes at) at (Some t) (named_by limits t kind)
      by t k.Name = fine_fits ts (Takes at) at (Some t) (is_short limits t) code.TooLong (Take (pure (identifier t))) (short_free t) (λ seen1. omega arith)
      by t (k.Word word) = tt
      by t (k.Number v) = tt
      by t k.String = tt
      by t (k.Mark mark) = tt

      go : (x : Option Lexed) → FineChoice ts (Takes at) at x (named limits x)
      go (Some t) = by t t.kind
      go None = tt

  fine_bracketed : (at seen : ℕ) → Fine (Takes at) (bracketed limits ts at seen)
  unfolding bracketed
  fine_bracketed at seen = fine_next ts (Takes at) (termed limits) at seen (λ x e. go x)
    where
      by : (t : Lexed) (kind : Kind) → FineChoice ts (Takes at) at (Some t) (termed_by limits t kind)
      by t k.Name = fine_fits ts (Takes at) at (Some t) (is_short limits t) code.TooLong (Take (pure _)) (short_free t) (λ seen1. omega arith)
      by t (k.Word word) = tt
      by t (k.Number v) = λ seen1. omega arith
      by t k.String = tt
      by t (k.Mark mark) = tt

      go : (x : Option Lexed) → FineChoice ts (Takes at) at x (termed limits x)
      go (Some t) = by t t.kind
      go None = tt

  -- Inside, from an index on, types are read; from there on as many nodes and turns are left as tokens.
  module _ (room : Bool) (d : ℕ) (inner : Parser Type_) (base : ℕ) (h : (at seen : ℕ) → base ≤ at → Fine (Takes at) (inner ts at seen)) (deep : length ts ≤ base + d) (long : length ts ≤ base + limits.turns) where
    fine_type_argument : (at seen : ℕ) → base ≤ at → Fine (Takes at) (type_argument limits room d inner ts at seen)
    unfolding type_argument
    fine_type_argument at seen b = fine_bind ts (Takes at) (Takes at) inner _ at seen (h at seen b) (λ x mid seen1 lt. lt)

    fine_begins : (at : ℕ) (t : Lexed) → first (drop at ts) ≡ Some t → base ≤ at → FineChoice ts (Takes at) at (Some t) (begins_type limits room d inner (Some t))
    fine_begins at t e b = fine_fits ts (Takes at) at (Some t) (nat_lt 0 d) code.TooNested (Leave (type_argument limits room d inner)) (let lt = within at ts t e in let p : 0 < d = omega (arith, lt, deep, b) in grind (arith, nat_tests, p))
        (λ seen1. fine_type_argument at seen1 b)

    fine_word_argument : (at : ℕ) (t : Lexed) → first (drop at ts) ≡ Some t → base ≤ at → (u : WordUse) → FineChoice ts (Takes at) at (Some t) (word_argument limits room d inner (Some t) u)
    fine_word_argument at t e b (IsBuiltin x) = fine_begins at t e b
    fine_word_argument at t e b (IsResource r) = fine_begins at t e b
    fine_word_argument at t e b IsThis = fine_begins at t e b
    fine_word_argument at t e b IsOther = tt

    fine_argument_by : (at : ℕ) (t : Lexed) → first (drop at ts) ≡ Some t → base ≤ at → (kind : Kind) → FineChoice ts (Takes at) at (Some t) (argument_by limits room d inner t kind)
    fine_argument_by at t e b (k.Number v) = λ seen1. omega arith
    fine_argument_by at t e b k.Name = fine_begins at t e b
    fine_argument_by at t e b (k.Word word) = fine_word_argument at t e b (use_of word)
    fine_argument_by at t e b k.String = tt
    fine_argument_by at t e b (k.Mark mark) = tt

    fine_argument : (count at seen : ℕ) → base ≤ at → Fine (Takes at) (argument limits room d inner count ts at seen)
    unfolding argument
    fine_argument count at seen b = fine_next ts (Takes at) _ at seen
        (λ x e. fine_fits ts (Takes at) at x (fits_in limits count limits.items) code.TooLong (argument_of limits room d inner x) (fits_free count limits.items) (go x e))
      where
        go : (x : Option Lexed) → first (drop at ts) ≡ x → FineChoice ts (Takes at) at x (argument_of limits room d inner x)
        go (Some t) e = fine_argument_by at t e b t.kind
        go None e = tt

    fine_argument_more : (list : Arguments) (at seen : ℕ) → base ≤ at → Fine (Takes at) (argument_more limits room d inner list ts at seen)
    unfolding argument_more
    fine_argument_more list at seen b = fine_bind ts (IsMarkAt ts m.Comma at) (Takes at) (expect m.Comma) _ at seen (fine_expect ts m.Comma at seen)
        (λ p mid seen1 s. fine_bind ts (Takes mid) (Takes at) (argument limits room d inner (length list.0)) _ mid seen1 (fine_argument (length list.0) mid seen1 (omega (arith, s.1, b)))
        (λ x to seen2 lt. omega (arith, lt, s.1)))

    pub fine_arguments : (at seen : ℕ) → base ≤ at → Fine (Takes at) (arguments limits room d inner ts at seen)
    unfolding arguments
    fine_arguments at seen b = fine_bind ts (IsMarkAt ts m.Less at) (Takes at) (expect m.Less) _ at seen (fine_expect ts m.Less at seen)
        (λ p mid seen1 s. fine_bind ts (Takes mid) (Takes at) (argument limits room d inner 0) _ mid seen1 (fine_argument 0 mid seen1 (omega (arith, s.1, b)))
        (λ x mid2 seen2 lt. fine_bind ts (λ (list : Arguments) (to : ℕ). mid2 ≤ to) (Takes at) (turns (sees m.Comma) (argument_more limits room d inner) limits.turns (x.0 ∷ [], x.1)) _ mid2 seen2
        (fine_turns ts (sees m.Comma) refl (argument_more limits room d inner) base fine_argument_more limits.turns (x.0 ∷ [], x.1) mid2 seen2 (omega (arith, lt, s.1, b)) (omega (arith, lt, s.1, b, long)))
        (λ list mid3 seen3 le. fine_bind ts (IsMarkAt ts m.Greater mid3) (Takes at) (expect m.Greater) _ mid3 seen3 (fine_expect ts m.Greater mid3 seen3)
        (λ end to seen4 u. omega (arith, u.1, le, lt, s.1)))))

    -- it goes no way back
    abbrev Goes : {A : Type 0} → ℕ → A → ℕ → Type 0
    Goes at a to = at ≤ to

    fine_name_rest : (id : Identifier) (at seen : ℕ) → base ≤ at → Fine (Goes at) (name_rest limits room d inner id ts at seen)
    unfolding name_rest
    fine_name_rest id at seen b = fine_next ts (Goes at) _ at seen (λ x e. by x (sees m.Less x))
      where
        by : (x : Option Lexed) (c : Bool) → FineChoice ts (Goes at) at x (name_rest_by limits room d inner id c)
        by (Some t) true = λ seen1. fine_bind ts (Takes at) (Goes at) (arguments limits room d inner) _ at seen1 (fine_arguments at seen1 b) (λ a to seen2 lt. omega (arith, lt))
        by None true = λ seen1. fine_bind ts (Takes at) (Goes at) (arguments limits room d inner) _ at seen1 (fine_arguments at seen1 b) (λ a to seen2 lt. omega (arith, lt))
        by (Some t) false = λ seen1. omega arith
        by None false = λ seen1. omega arith

    fine_resource_rest : (p : Place) (r : Resource) (at seen : ℕ) → base ≤ at → Fine (Goes at) (resource_rest limits room d inner p r ts at seen)
    unfolding resource_rest
    fine_resource_rest p r at seen b = fine_bind ts (IsMarkAt ts m.Less at) (Goes at) (expect m.Less) _ at seen (fine_expect ts m.Less at seen)
        (λ o mid seen1 s. fine_bind ts (Takes mid) (Goes at) inner _ mid seen1 (h mid seen1 (omega (arith, s.1, b)))
        (λ x mid2 seen2 lt. fine_bind ts (IsMarkAt ts m.Greater mid2) (Goes at) (expect m.Greater) _ mid2 seen2 (fine_expect ts m.Greater mid2 seen2)
        (λ end to seen3 u. omega (arith, u.1, lt, s.1))))

    -- behind the first token of a node
    behind : (at : ℕ) (o : _) → Fine (Goes (at + 1)) o → Fine (λ (x : Type_) (to : ℕ). at < to) o
    behind at o f = fine_weaken (Goes (at + 1)) (λ (x : Type_) (to : ℕ). at < to) (λ x to le. omega (arith, le)) o f

    fine_type_word : (at : ℕ) (t : Lexed) → room ≡ true → base ≤ at + 1 → (u : WordUse) → FineChoice ts (Takes at) at (Some t) (type_word limits room d inner t u)
    fine_type_word at t r b (IsBuiltin x) = fine_fits ts (Takes at) at (Some t) room code.TooNested (Take (pure (typed t.place (n.Builtin x), 1))) r (λ seen1. omega arith)
    fine_type_word at t r b (IsResource x) = fine_fits ts (Takes at) at (Some t) room code.TooNested (Take (resource_rest limits room d inner t.place x)) r
        (λ seen1. behind at (resource_rest limits room d inner t.place x ts (at + 1) seen1) (fine_resource_rest t.place x (at + 1) seen1 b))
    fine_type_word at t r b IsThis = fine_fits ts (Takes at) at (Some t) room code.TooNested (Take (pure (typed t.place n.ThisType, 1))) r (λ seen1. omega arith)
    fine_type_word at t r b IsOther = tt

    fine_type_by : (at : ℕ) (t : Lexed) → room ≡ true → base ≤ at + 1 → (kind : Kind) → FineChoice ts (Takes at) at (Some t) (type_by limits room d inner t kind)
    fine_type_by at t r b k.Name = fine_fits ts (Takes at) at (Some t) (is_short limits t) code.TooLong (node limits room d inner t (Take (name_rest limits room d inner (identifier t)))) (short_free t)
        (fine_fits ts (Takes at) at (Some t) room code.TooNested (Take (name_rest limits room d inner (identifier t))) r
        (λ seen1. behind at (name_rest limits room d inner (identifier t) ts (at + 1) seen1) (fine_name_rest (identifier t) (at + 1) seen1 b)))
    fine_type_by at t r b (k.Word word) = fine_type_word at t r b (use_of word)
    fine_type_by at t r b (k.Number v) = tt
    fine_type_by at t r b k.String = tt
    fine_type_by at t r b (k.Mark mark) = tt

    fine_type_name : (at seen : ℕ) → room ≡ true → base ≤ at + 1 → Fine (Takes at) (type_name limits room d inner ts at seen)
    unfolding type_name
    fine_type_name at seen r b = fine_next ts (Takes at) (type_of limits room d inner) at seen (λ x e. go x)
      where
        go : (x : Option Lexed) → FineChoice ts (Takes at) at x (type_of limits room d inner x)
        go (Some t) = fine_type_by at t r b t.kind
        go None = tt

  -- ---- what follows the name of a type

  fine_project : (d : ℕ) (x : Type_) (at seen : ℕ) → Fine (Takes at) (project limits d x ts at seen)
  unfolding project project_rest
  fine_project d x at seen = fine_next ts (Takes at) _ at seen (λ t e. by t (sees m.Dot t))
    where
      rest : (seen1 : ℕ) → Fine (Takes at) (project_rest limits d x ts (at + 1) seen1)
      rest seen1 = fine_bind ts (Takes (at + 1)) (Takes at) (name limits) _ (at + 1) seen1 (fine_name (at + 1) seen1) (λ id to seen2 lt. omega (arith, lt))

      by : (t : Option Lexed) (b : Bool) → FineChoice ts (Takes at) at t (project_by limits d x t b)
      by (Some t) true = fine_fits ts (Takes at) at (Some t) (fits_in limits x.1 d) code.TooNested (Take (project_rest limits d x)) (fits_free x.1 d) rest
      by None true = fine_fits ts (Takes at) at None (fits_in limits x.1 d) code.TooNested (Take (project_rest limits d x)) (fits_free x.1 d) tt
      by (Some t) false = tt
      by None false = tt

  fine_array : (d : ℕ) (x : Type_) (at seen : ℕ) → Fine (λ (y : Type_) (to : ℕ). at ≤ to) (array limits d x ts at seen)
  unfolding array length_rest
  fine_array d x at seen = fine_next ts (λ (y : Type_) (to : ℕ). at ≤ to) _ at seen (λ t e. by t (sees m.OpenBracket t))
    where
      rest : (seen1 : ℕ) → Fine (λ (y : Type_) (to : ℕ). at ≤ to) (length_rest limits d x ts (at + 1) seen1)
      rest seen1 = fine_bind ts (Takes (at + 1)) (λ (y : Type_) (to : ℕ). at ≤ to) (bracketed limits) _ (at + 1) seen1 (fine_bracketed (at + 1) seen1)
          (λ l mid seen2 lt. fine_bind ts (IsMarkAt ts m.CloseBracket mid) (λ (y : Type_) (to : ℕ). at ≤ to) (expect m.CloseBracket) _ mid seen2 (fine_expect ts m.CloseBracket mid seen2)
          (λ end to seen3 u. omega (arith, lt, u.1)))

      by : (t : Option Lexed) (b : Bool) → FineChoice ts (λ (y : Type_) (to : ℕ). at ≤ to) at t (length_by limits d x t b)
      by (Some t) true = fine_fits ts (λ (y : Type_) (to : ℕ). at ≤ to) at (Some t) (fits_in limits x.1 d) code.TooNested (Take (length_rest limits d x)) (fits_free x.1 d) rest
      by None true = fine_fits ts (λ (y : Type_) (to : ℕ). at ≤ to) at None (fits_in limits x.1 d) code.TooNested (Take (length_rest limits d x)) (fits_free x.1 d) tt
      by (Some t) false = λ seen1. omega arith
      by None false = λ seen1. omega arith

  fine_type_rest : (d : ℕ) (x : Type_) (at seen : ℕ) → length ts ≤ at + limits.turns → Fine (λ (y : Type_) (to : ℕ). at ≤ to) (type_rest limits d x ts at seen)
  unfolding type_rest
  fine_type_rest d x at seen long = fine_bind ts (λ (y : Type_) (to : ℕ). at ≤ to) (λ (y : Type_) (to : ℕ). at ≤ to) (turns (sees m.Dot) (project limits d) limits.turns x) (array limits d) at seen
      (fine_turns ts (sees m.Dot) refl (project limits d) 0 (λ a from seen1 b. fine_project d a from seen1) limits.turns x at seen (omega arith) long)
      (λ y mid seen1 le. fine_weaken (λ (z : Type_) (to : ℕ). mid ≤ to) (λ (z : Type_) (to : ℕ). at ≤ to) (λ z to le2. omega (arith, le, le2)) (array limits d y ts mid seen1) (fine_array d y mid seen1))

  -- where no token is left, nothing begins
  fine_nothing : (at seen : ℕ) → length ts ≤ at → Fine (Takes at) (type_name limits false zero no_types ts at seen)
  unfolding type_name
  fine_nothing at seen over = fine_next ts (Takes at) (type_of limits false zero no_types) at seen go
    where
      go : (x : Option Lexed) → first (drop at ts) ≡ x → FineChoice ts (Takes at) at x (type_of limits false zero no_types x)
      go (Some t) e = let lt = within at ts t e in absurd (omega (arith, lt, over))
      go None e = tt

  pub fine_types : (d at seen : ℕ) → length ts ≤ at + d → length ts ≤ at + limits.turns → Fine (Takes at) (types limits d ts at seen)
  unfolding types
  fine_types zero at seen deep long = fine_bind ts (Takes at) (Takes at) (type_name limits false zero no_types) (type_rest limits zero) at seen (fine_nothing at seen (omega (arith, deep)))
      (λ x mid seen1 lt. fine_weaken (λ (z : Type_) (to : ℕ). mid ≤ to) (Takes at) (λ z to le. omega (arith, le, lt)) (type_rest limits zero x ts mid seen1) (fine_type_rest zero x mid seen1 (omega (arith, lt, long))))
  fine_types (suc d) at seen deep long = fine_bind ts (Takes at) (Takes at) (type_name limits true d (types limits d)) (type_rest limits (suc d)) at seen
      (fine_type_name true d (types limits d) (at + 1) (λ from seen1 b. fine_types d from seen1 (omega (arith, deep, b)) (omega (arith, long, b))) (omega (arith, deep)) (omega (arith, long)) at seen refl (omega arith))
      (λ x mid seen1 lt. fine_weaken (λ (z : Type_) (to : ℕ). mid ≤ to) (Takes at) (λ z to le. omega (arith, le, lt)) (type_rest limits (suc d) x ts mid seen1) (fine_type_rest (suc d) x mid seen1 (omega (arith, lt, long))))
