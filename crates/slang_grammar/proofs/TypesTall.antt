-- Types: the number beside an answer is how many nodes stand on its longest path.
use Rattle.std.proofs.Common.{Bool, true, false, ◌≡◌, ℕ, zero, suc, ◌+◌, max, List, [], ◌∷◌, map, length, Option, Some, None, ◌∙◌, ap, arith}
use Rattle.std.specs.Prelude.{nat_lt}
use Rattle.slang_names.specs.declared.places.Place.{Place}
use Rattle.slang_names.specs.declared.codes.ModuleCode.TheVariants as code
use Rattle.slang_tree.specs.declared.types.Identifier.{Identifier}
use Rattle.slang_tree.specs.declared.types.Resource.{Resource}
use Rattle.slang_tree.specs.declared.types.TypeNode.TheVariants as n
use Rattle.slang_tokens.specs.declared.tokens.Kind.{Kind}
use Rattle.slang_tokens.specs.declared.tokens.Kind.TheVariants as k
use Rattle.slang_tokens.specs.declared.tokens.Mark.TheVariants as m
use Rattle.slang_reading.specs.Lexed.{Lexed}
use Rattle.slang_reading.specs.Reading.{Parser, Choice, Leave, Take, pure, turns}
use Rattle.slang_reading.specs.Kinds.{sees, span}
use Rattle.slang_reading.proofs.Exact.{Post, PostChoice, post_bind, post_next, post_fits, post_turns, post_unit}
use Rattle.slang_grammar.specs.Types.{typed}
use Rattle.slang_grammar.specs.Descent.{Limits, fits_in, expect, name, identifier, is_short, bracketed}
use Rattle.slang_grammar.specs.Heights.{greatest, height, argument_height}
use Rattle.slang_grammar.specs.TypesDescent.{Type_, Argument, Arguments, WordUse, IsBuiltin, IsResource, IsThis, IsOther, use_of, type_argument, begins_type, word_argument, argument_by, argument_of, argument, argument_more, arguments, name_rest_by, name_rest, resource_rest, node, type_word, type_by, type_of, type_name, project_rest, project_by, project, length_rest, length_by, array, type_rest, no_types, types}
use Rattle.slang_grammar.proofs.Heights.{height_builtin, height_this, height_named, height_resource, height_projection, height_array, height_term, height_number, greatest_more}

abbrev Tall : Type_ → ℕ → Type 0
Tall x to = height x.0 ≡ x.1

abbrev TallArgument : Argument → ℕ → Type 0
TallArgument x to = argument_height x.0 ≡ x.1

abbrev TallArguments : Arguments → ℕ → Type 0
TallArguments x to = greatest (map argument_height x.0) ≡ x.1

abbrev Any : {A : Type 0} → A → ℕ → Type 0
Any a to = Unit {0}

module _ (ts : List Lexed) (limits : Limits) (room : Bool) (d : ℕ) (inner : Parser Type_) (h : (at seen : ℕ) → Post Tall (inner ts at seen)) where
  tall_type_argument : (at seen : ℕ) → Post TallArgument (type_argument limits room d inner ts at seen)
  unfolding type_argument
  tall_type_argument at seen = post_bind ts Tall TallArgument inner _ at seen (h at seen) (λ x mid seen1 r. height_term x.0 ∙ r)

  tall_begins : (at : ℕ) (x : Option Lexed) → PostChoice ts TallArgument at x (begins_type limits room d inner x)
  tall_begins at x = post_fits ts TallArgument at x (nat_lt 0 d) code.TooNested (Leave (type_argument limits room d inner)) (λ f seen1. tall_type_argument at seen1)

  tall_word : (at : ℕ) (x : Option Lexed) (u : WordUse) → PostChoice ts TallArgument at x (word_argument limits room d inner x u)
  tall_word at x (IsBuiltin b) = tall_begins at x
  tall_word at x (IsResource r) = tall_begins at x
  tall_word at x IsThis = tall_begins at x
  tall_word at x IsOther = tt

  tall_by : (at : ℕ) (t : Lexed) (kind : Kind) → PostChoice ts TallArgument at (Some t) (argument_by limits room d inner t kind)
  tall_by at t (k.Number v) = λ seen1. height_number t.place v
  tall_by at t k.Name = tall_begins at (Some t)
  tall_by at t (k.Word word) = tall_word at (Some t) (use_of word)
  tall_by at t k.String = tt
  tall_by at t (k.Mark mark) = tt

  tall_of : (at : ℕ) (x : Option Lexed) → PostChoice ts TallArgument at x (argument_of limits room d inner x)
  tall_of at (Some t) = tall_by at t t.kind
  tall_of at None = tt

  tall_argument : (count at seen : ℕ) → Post TallArgument (argument limits room d inner count ts at seen)
  unfolding argument
  tall_argument count at seen = post_next ts TallArgument _ at seen (λ x e. post_fits ts TallArgument at x (fits_in limits count limits.items) code.TooLong (argument_of limits room d inner x) (λ f. tall_of at x))

  abbrev Stays : Arguments → Arguments → ℕ → ℕ → Type 0
  Stays a b from to = greatest (map argument_height a.0) ≡ a.1 → greatest (map argument_height b.0) ≡ b.1

  tall_more : (list : Arguments) (at seen : ℕ) → Post (λ b mid. Stays list b at mid) (argument_more limits room d inner list ts at seen)
  unfolding argument_more
  tall_more list at seen = post_bind ts Any (λ b mid. Stays list b at mid) (expect m.Comma) _ at seen (post_unit (expect m.Comma ts at seen))
      (λ p mid seen1 u. post_bind ts TallArgument (λ b to. Stays list b at to) (argument limits room d inner (length list.0)) _ mid seen1 (tall_argument (length list.0) mid seen1)
      (λ x to seen2 r s. greatest_more list.0 x.0 ∙ (ap (λ a. max a (argument_height x.0)) s ∙ ap (max list.1) r)))

  pub tall_arguments : (at seen : ℕ) → Post (λ (r : Arguments × Place) (to : ℕ). greatest (map argument_height r.0.0) ≡ r.0.1) (arguments limits room d inner ts at seen)
  unfolding arguments
  tall_arguments at seen =
      let Q : Arguments × Place → ℕ → Type 0 = λ r to. greatest (map argument_height r.0.0) ≡ r.0.1 in
      post_bind ts Any Q (expect m.Less) _ at seen (post_unit (expect m.Less ts at seen))
      (λ p mid seen1 u. post_bind ts TallArgument Q (argument limits room d inner 0) _ mid seen1 (tall_argument 0 mid seen1)
      (λ x mid2 seen2 r. post_bind ts (λ b to. Stays (x.0 ∷ [], x.1) b mid2 to) Q (turns (sees m.Comma) (argument_more limits room d inner) limits.turns (x.0 ∷ [], x.1)) _ mid2 seen2
      (post_turns ts Stays Stays (sees m.Comma) (argument_more limits room d inner) (λ a at s. s) (λ a b c from mid to o q s. q (o s)) (λ a from seen3 e. tall_more a from seen3) limits.turns (x.0 ∷ [], x.1) mid2 seen2)
      (λ all mid3 seen3 q. post_bind ts Any Q (expect m.Greater) _ mid3 seen3 (post_unit (expect m.Greater ts mid3 seen3))
      (λ end to seen4 w. let one : max (argument_height x.0) 0 ≡ x.1 = omega (arith, r) in q one))))

  tall_name_rest : (id : Identifier) (at seen : ℕ) → Post Tall (name_rest limits room d inner id ts at seen)
  unfolding name_rest
  tall_name_rest id at seen = post_next ts Tall _ at seen (λ x e. by x (sees m.Less x))
    where
      by : (x : Option Lexed) (b : Bool) → PostChoice ts Tall at x (name_rest_by limits room d inner id b)
      by x true = λ seen1. post_bind ts (λ (r : Arguments × Place) (to : ℕ). greatest (map argument_height r.0.0) ≡ r.0.1) Tall (arguments limits room d inner) _ at seen1 (tall_arguments at seen1)
          (λ a to seen2 r. height_named (span id.place a.1) id a.0.0 ∙ ap (λ n. n + 1) r)
      by x false = λ seen1. height_named id.place id []

  tall_resource_rest : (begin : Place) (r : Resource) (at seen : ℕ) → Post Tall (resource_rest limits room d inner begin r ts at seen)
  unfolding resource_rest
  tall_resource_rest begin r at seen = post_bind ts Any Tall (expect m.Less) _ at seen (post_unit (expect m.Less ts at seen))
      (λ p mid seen1 u. post_bind ts Tall Tall inner _ mid seen1 (h mid seen1)
      (λ x mid2 seen2 q. post_bind ts Any Tall (expect m.Greater) _ mid2 seen2 (post_unit (expect m.Greater ts mid2 seen2))
      (λ end to seen3 w. height_resource (span begin end) r x.0 ∙ ap (λ n. n + 1) q)))

  tall_node : (at : ℕ) (t : Lexed) (c : Choice Type_) → PostChoice ts Tall at (Some t) c → PostChoice ts Tall at (Some t) (node limits room d inner t c)
  tall_node at t c p = post_fits ts Tall at (Some t) room code.TooNested c (λ f. p)

  tall_type_word : (at : ℕ) (t : Lexed) (u : WordUse) → PostChoice ts Tall at (Some t) (type_word limits room d inner t u)
  tall_type_word at t (IsBuiltin b) = tall_node at t (Take (pure (typed t.place (n.Builtin b), 1))) (λ seen1. height_builtin t.place b)
  tall_type_word at t (IsResource r) = tall_node at t (Take (resource_rest limits room d inner t.place r)) (λ seen1. tall_resource_rest t.place r (at + 1) seen1)
  tall_type_word at t IsThis = tall_node at t (Take (pure (typed t.place n.ThisType, 1))) (λ seen1. height_this t.place)
  tall_type_word at t IsOther = tt

  tall_type_by : (at : ℕ) (t : Lexed) (kind : Kind) → PostChoice ts Tall at (Some t) (type_by limits room d inner t kind)
  tall_type_by at t k.Name = post_fits ts Tall at (Some t) (is_short limits t) code.TooLong (node limits room d inner t (Take (name_rest limits room d inner (identifier t))))
      (λ f. tall_node at t (Take (name_rest limits room d inner (identifier t))) (λ seen1. tall_name_rest (identifier t) (at + 1) seen1))
  tall_type_by at t (k.Word word) = tall_type_word at t (use_of word)
  tall_type_by at t (k.Number v) = tt
  tall_type_by at t k.String = tt
  tall_type_by at t (k.Mark mark) = tt

  tall_type_of : (at : ℕ) (x : Option Lexed) → PostChoice ts Tall at x (type_of limits room d inner x)
  tall_type_of at (Some t) = tall_type_by at t t.kind
  tall_type_of at None = tt

  tall_type_name : (at seen : ℕ) → Post Tall (type_name limits room d inner ts at seen)
  unfolding type_name
  tall_type_name at seen = post_next ts Tall (type_of limits room d inner) at seen (λ x e. tall_type_of at x)

module _ (ts : List Lexed) (limits : Limits) (d : ℕ) where
  abbrev StaysTall : Type_ → Type_ → ℕ → ℕ → Type 0
  StaysTall x y from to = height x.0 ≡ x.1 → height y.0 ≡ y.1

  tall_project : (x : Type_) (at seen : ℕ) → Post (λ y to. StaysTall x y at to) (project limits d x ts at seen)
  unfolding project project_rest
  tall_project x at seen = post_next ts (λ y to. StaysTall x y at to) _ at seen (λ t e. by t (sees m.Dot t))
    where
      rest : (from seen1 : ℕ) → Post (λ y to. StaysTall x y at to) (project_rest limits d x ts from seen1)
      rest from seen1 = post_bind ts Any (λ y to. StaysTall x y at to) (name limits) _ from seen1 (post_unit (name limits ts from seen1))
          (λ id to seen2 u s. height_projection (span x.0.place id.place) x.0 id ∙ ap (λ n. n + 1) s)

      by : (t : Option Lexed) (b : Bool) → PostChoice ts (λ y to. StaysTall x y at to) at t (project_by limits d x t b)
      by (Some t) true = post_fits ts (λ y to. StaysTall x y at to) at (Some t) (fits_in limits x.1 d) code.TooNested (Take (project_rest limits d x)) (λ f seen1. rest (at + 1) seen1)
      by None true = post_fits ts (λ y to. StaysTall x y at to) at None (fits_in limits x.1 d) code.TooNested (Take (project_rest limits d x)) (λ f. tt)
      by t false = tt

  tall_array : (x : Type_) (at seen : ℕ) → height x.0 ≡ x.1 → Post Tall (array limits d x ts at seen)
  unfolding array length_rest
  tall_array x at seen s = post_next ts Tall _ at seen (λ t e. by t (sees m.OpenBracket t))
    where
      rest : (from seen1 : ℕ) → Post Tall (length_rest limits d x ts from seen1)
      rest from seen1 = post_bind ts Any Tall (bracketed limits) _ from seen1 (post_unit (bracketed limits ts from seen1))
          (λ l mid seen2 u. post_bind ts Any Tall (expect m.CloseBracket) _ mid seen2 (post_unit (expect m.CloseBracket ts mid seen2))
          (λ end to seen3 w. height_array (span x.0.place end) x.0 l ∙ ap (λ n. n + 1) s))

      by : (t : Option Lexed) (b : Bool) → PostChoice ts Tall at t (length_by limits d x t b)
      by (Some t) true = post_fits ts Tall at (Some t) (fits_in limits x.1 d) code.TooNested (Take (length_rest limits d x)) (λ f seen1. rest (at + 1) seen1)
      by None true = post_fits ts Tall at None (fits_in limits x.1 d) code.TooNested (Take (length_rest limits d x)) (λ f. tt)
      by t false = λ seen1. s

  tall_type_rest : (x : Type_) (at seen : ℕ) → height x.0 ≡ x.1 → Post Tall (type_rest limits d x ts at seen)
  unfolding type_rest
  tall_type_rest x at seen s = post_bind ts (λ y to. StaysTall x y at to) Tall (turns (sees m.Dot) (project limits d) limits.turns x) (array limits d) at seen
      (post_turns ts StaysTall StaysTall (sees m.Dot) (project limits d) (λ a at s. s) (λ a b c from mid to o q s. q (o s)) (λ a from seen1 e. tall_project a from seen1) limits.turns x at seen)
      (λ y mid seen1 q. tall_array y mid seen1 (q s))

pub tall_types : (ts : List Lexed) (limits : Limits) (d at seen : ℕ) → Post (λ (x : Type_) (to : ℕ). height x.0 ≡ x.1) (types limits d ts at seen)
unfolding types
tall_types ts limits zero at seen = post_bind ts Tall Tall (type_name limits false zero no_types) (type_rest limits zero) at seen
    (tall_type_name ts limits false zero no_types (λ at seen. tt) at seen) (λ x mid seen1 s. tall_type_rest ts limits zero x mid seen1 s)
tall_types ts limits (suc d) at seen = post_bind ts Tall Tall (type_name limits true d (types limits d)) (type_rest limits (suc d)) at seen
    (tall_type_name ts limits true d (types limits d) (λ at seen. tall_types ts limits d at seen) at seen) (λ x mid seen1 s. tall_type_rest ts limits (suc d) x mid seen1 s)
