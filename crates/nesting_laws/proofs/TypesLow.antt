-- Types: at most as many nodes stand on the longest path of what is read as were given.
use Rattle.std.proofs.Common.{Bool, true, false, ◌≡◌, ℕ, zero, suc, ◌+◌, ◌≤◌, ◌||◌, List, [], ◌∷◌, length, Option, Some, None, arith}
use Rattle.std.specs.Prelude.{nat_lt}
use Rattle.std.proofs.lemmas.Bool.Decides.{nat_tests}
use Rattle.slang_names.specs.declared.places.Place.{Place}
use Rattle.slang_names.specs.declared.codes.ModuleCode.TheVariants as code
use Rattle.slang_tree.specs.declared.types.Identifier.{Identifier}
use Rattle.slang_tree.specs.declared.types.Resource.{Resource}
use Rattle.slang_tree.specs.declared.types.TypeNode.TheVariants as n
use Rattle.slang_tokens.specs.declared.tokens.Kind.{Kind}
use Rattle.slang_tokens.specs.declared.tokens.Kind.TheVariants as k
use Rattle.slang_tokens.specs.declared.tokens.Mark.TheVariants as m
use Rattle.slang_reading.specs.Lexed.{Lexed}
use Rattle.slang_reading.specs.Reading.{Parser, Choice, Leave, Take, pure, turns}
use Rattle.slang_reading.specs.Kinds.{sees}
use Rattle.slang_reading.proofs.Exact.{Post, PostChoice, post_bind, post_next, post_fits, post_turns, post_unit}
use Rattle.slang_grammar.specs.Types.{typed}
use Rattle.slang_grammar.specs.Descent.{Limits, fits_in, expect, name, identifier, is_short, bracketed}
use Rattle.slang_grammar.specs.TypesDescent.{Type_, Arguments, WordUse, IsBuiltin, IsResource, IsThis, IsOther, use_of, type_argument, begins_type, word_argument, argument_by, argument_of, argument, argument_more, arguments, name_rest_by, name_rest, resource_rest, node, type_word, type_by, type_of, type_name, project_rest, project_by, project, length_rest, length_by, array, type_rest, no_types, types}

pub or_is : (a b : Bool) → a ≡ false → (a || b) ≡ true → b ≡ true
or_is true b e q = cc
or_is false b e q = q

pub fits_less : (limits : Limits) (n most : ℕ) → limits.free ≡ false → fits_in limits n most ≡ true → n + 1 ≤ most
fits_less limits n most e q = let f = or_is limits.free (nat_lt n most) e q in grind (arith, nat_tests, f)

abbrev pub Any : {A : Type 0} → A → ℕ → Type 0
Any a to = Unit {0}

-- at most so many nodes
abbrev pub AtMost : {A : Type 0} → ℕ → A × ℕ → ℕ → Type 0
AtMost d x to = x.1 ≤ d

-- what goes on from it keeps to that too
abbrev pub Stays : {A : Type 0} → ℕ → A × ℕ → A × ℕ → ℕ → ℕ → Type 0
Stays d a b from to = a.1 ≤ d → b.1 ≤ d

module _ (ts : List Lexed) (limits : Limits) (room : Bool) (d : ℕ) (inner : Parser Type_) (h : (at seen : ℕ) → Post (AtMost d) (inner ts at seen)) where
  low_type_argument : (at seen : ℕ) → Post (AtMost d) (type_argument limits room d inner ts at seen)
  unfolding type_argument
  low_type_argument at seen = post_bind ts (AtMost d) (AtMost d) inner _ at seen (h at seen) (λ x mid seen1 r. r)

  low_begins : (at : ℕ) (x : Option Lexed) → PostChoice ts (AtMost d) at x (begins_type limits room d inner x)
  low_begins at x = post_fits ts (AtMost d) at x (nat_lt 0 d) code.TooNested (Leave (type_argument limits room d inner)) (λ f seen1. low_type_argument at seen1)

  low_word : (at : ℕ) (x : Option Lexed) (u : WordUse) → PostChoice ts (AtMost d) at x (word_argument limits room d inner x u)
  low_word at x (IsBuiltin b) = low_begins at x
  low_word at x (IsResource r) = low_begins at x
  low_word at x IsThis = low_begins at x
  low_word at x IsOther = tt

  low_by : (at : ℕ) (t : Lexed) (kind : Kind) → PostChoice ts (AtMost d) at (Some t) (argument_by limits room d inner t kind)
  low_by at t (k.Number v) = λ seen1. omega arith
  low_by at t k.Name = low_begins at (Some t)
  low_by at t (k.Word word) = low_word at (Some t) (use_of word)
  low_by at t k.String = tt
  low_by at t (k.Mark mark) = tt

  low_of : (at : ℕ) (x : Option Lexed) → PostChoice ts (AtMost d) at x (argument_of limits room d inner x)
  low_of at (Some t) = low_by at t t.kind
  low_of at None = tt

  low_argument : (count at seen : ℕ) → Post (AtMost d) (argument limits room d inner count ts at seen)
  unfolding argument
  low_argument count at seen = post_next ts (AtMost d) _ at seen (λ x e. post_fits ts (AtMost d) at x (fits_in limits count limits.items) code.TooLong (argument_of limits room d inner x) (λ f. low_of at x))

  low_more : (list : Arguments) (at seen : ℕ) → Post (λ b mid. Stays d list b at mid) (argument_more limits room d inner list ts at seen)
  unfolding argument_more
  low_more list at seen = post_bind ts Any (λ b mid. Stays d list b at mid) (expect m.Comma) _ at seen (post_unit (expect m.Comma ts at seen))
      (λ p mid seen1 u. post_bind ts (AtMost d) (λ b to. Stays d list b at to) (argument limits room d inner (length list.0)) _ mid seen1 (low_argument (length list.0) mid seen1)
      (λ x to seen2 r s. omega (arith, r, s)))

  pub low_arguments : (at seen : ℕ) → Post (λ (r : Arguments × Place) (to : ℕ). r.0.1 ≤ d) (arguments limits room d inner ts at seen)
  unfolding arguments
  low_arguments at seen =
      let Q : Arguments × Place → ℕ → Type 0 = λ r to. r.0.1 ≤ d in
      post_bind ts Any Q (expect m.Less) _ at seen (post_unit (expect m.Less ts at seen))
      (λ p mid seen1 u. post_bind ts (AtMost d) Q (argument limits room d inner 0) _ mid seen1 (low_argument 0 mid seen1)
      (λ x mid2 seen2 r. post_bind ts (λ b to. Stays d (x.0 ∷ [], x.1) b mid2 to) Q (turns (sees m.Comma) (argument_more limits room d inner) limits.turns (x.0 ∷ [], x.1)) _ mid2 seen2
      (post_turns ts (Stays d) (Stays d) (sees m.Comma) (argument_more limits room d inner) (λ a at s. s) (λ a b c from mid to o q s. q (o s)) (λ a from seen3 e. low_more a from seen3) limits.turns (x.0 ∷ [], x.1) mid2 seen2)
      (λ all mid3 seen3 q. post_bind ts Any Q (expect m.Greater) _ mid3 seen3 (post_unit (expect m.Greater ts mid3 seen3))
      (λ end to seen4 w. q r))))

  module _ (top : ℕ) (fits : room ≡ true → suc d ≤ top) where
    low_name_rest : (id : Identifier) (at seen : ℕ) → suc d ≤ top → Post (AtMost top) (name_rest limits room d inner id ts at seen)
    unfolding name_rest
    low_name_rest id at seen f = post_next ts (AtMost top) _ at seen (λ x e. by x (sees m.Less x))
      where
        by : (x : Option Lexed) (b : Bool) → PostChoice ts (AtMost top) at x (name_rest_by limits room d inner id b)
        by x true = λ seen1. post_bind ts (λ (r : Arguments × Place) (to : ℕ). r.0.1 ≤ d) (AtMost top) (arguments limits room d inner) _ at seen1 (low_arguments at seen1)
            (λ a to seen2 r. omega (arith, r, f))
        by x false = λ seen1. omega (arith, f)

    low_resource_rest : (begin : Place) (r : Resource) (at seen : ℕ) → suc d ≤ top → Post (AtMost top) (resource_rest limits room d inner begin r ts at seen)
    unfolding resource_rest
    low_resource_rest begin r at seen f = post_bind ts Any (AtMost top) (expect m.Less) _ at seen (post_unit (expect m.Less ts at seen))
        (λ p mid seen1 u. post_bind ts (AtMost d) (AtMost top) inner _ mid seen1 (h mid seen1)
        (λ x mid2 seen2 q. post_bind ts Any (AtMost top) (expect m.Greater) _ mid2 seen2 (post_unit (expect m.Greater ts mid2 seen2))
        (λ end to seen3 w. omega (arith, q, f))))

    low_node : (at : ℕ) (t : Lexed) (c : Choice Type_) → (suc d ≤ top → PostChoice ts (AtMost top) at (Some t) c) → PostChoice ts (AtMost top) at (Some t) (node limits room d inner t c)
    low_node at t c p = post_fits ts (AtMost top) at (Some t) room code.TooNested c (λ f. p (fits f))

    low_type_word : (at : ℕ) (t : Lexed) (u : WordUse) → PostChoice ts (AtMost top) at (Some t) (type_word limits room d inner t u)
    low_type_word at t (IsBuiltin b) = low_node at t (Take (pure (typed t.place (n.Builtin b), 1))) (λ f seen1. omega (arith, f))
    low_type_word at t (IsResource r) = low_node at t (Take (resource_rest limits room d inner t.place r)) (λ f seen1. low_resource_rest t.place r (at + 1) seen1 f)
    low_type_word at t IsThis = low_node at t (Take (pure (typed t.place n.ThisType, 1))) (λ f seen1. omega (arith, f))
    low_type_word at t IsOther = tt

    low_type_by : (at : ℕ) (t : Lexed) (kind : Kind) → PostChoice ts (AtMost top) at (Some t) (type_by limits room d inner t kind)
    low_type_by at t k.Name = post_fits ts (AtMost top) at (Some t) (is_short limits t) code.TooLong (node limits room d inner t (Take (name_rest limits room d inner (identifier t))))
        (λ f. low_node at t (Take (name_rest limits room d inner (identifier t))) (λ f seen1. low_name_rest (identifier t) (at + 1) seen1 f))
    low_type_by at t (k.Word word) = low_type_word at t (use_of word)
    low_type_by at t (k.Number v) = tt
    low_type_by at t k.String = tt
    low_type_by at t (k.Mark mark) = tt

    low_type_of : (at : ℕ) (x : Option Lexed) → PostChoice ts (AtMost top) at x (type_of limits room d inner x)
    low_type_of at (Some t) = low_type_by at t t.kind
    low_type_of at None = tt

    low_type_name : (at seen : ℕ) → Post (AtMost top) (type_name limits room d inner ts at seen)
    unfolding type_name
    low_type_name at seen = post_next ts (AtMost top) (type_of limits room d inner) at seen (λ x e. low_type_of at x)

module _ (ts : List Lexed) (limits : Limits) (free : limits.free ≡ false) (d : ℕ) where
  low_project : (x : Type_) (at seen : ℕ) → Post (λ y to. Stays d x y at to) (project limits d x ts at seen)
  unfolding project project_rest
  low_project x at seen = post_next ts (λ y to. Stays d x y at to) _ at seen (λ t e. by t (sees m.Dot t))
    where
      rest : (from seen1 : ℕ) → x.1 + 1 ≤ d → Post (λ y to. Stays d x y at to) (project_rest limits d x ts from seen1)
      rest from seen1 f = post_bind ts Any (λ y to. Stays d x y at to) (name limits) _ from seen1 (post_unit (name limits ts from seen1)) (λ id to seen2 u s. f)

      by : (t : Option Lexed) (b : Bool) → PostChoice ts (λ y to. Stays d x y at to) at t (project_by limits d x t b)
      by (Some t) true = post_fits ts (λ y to. Stays d x y at to) at (Some t) (fits_in limits x.1 d) code.TooNested (Take (project_rest limits d x)) (λ f seen1. rest (at + 1) seen1 (fits_less limits x.1 d free f))
      by None true = post_fits ts (λ y to. Stays d x y at to) at None (fits_in limits x.1 d) code.TooNested (Take (project_rest limits d x)) (λ f. tt)
      by t false = tt

  low_array : (x : Type_) (at seen : ℕ) → x.1 ≤ d → Post (AtMost d) (array limits d x ts at seen)
  unfolding array length_rest
  low_array x at seen s = post_next ts (AtMost d) _ at seen (λ t e. by t (sees m.OpenBracket t))
    where
      rest : (from seen1 : ℕ) → x.1 + 1 ≤ d → Post (AtMost d) (length_rest limits d x ts from seen1)
      rest from seen1 f = post_bind ts Any (AtMost d) (bracketed limits) _ from seen1 (post_unit (bracketed limits ts from seen1))
          (λ l mid seen2 u. post_bind ts Any (AtMost d) (expect m.CloseBracket) _ mid seen2 (post_unit (expect m.CloseBracket ts mid seen2)) (λ end to seen3 w. f))

      by : (t : Option Lexed) (b : Bool) → PostChoice ts (AtMost d) at t (length_by limits d x t b)
      by (Some t) true = post_fits ts (AtMost d) at (Some t) (fits_in limits x.1 d) code.TooNested (Take (length_rest limits d x)) (λ f seen1. rest (at + 1) seen1 (fits_less limits x.1 d free f))
      by None true = post_fits ts (AtMost d) at None (fits_in limits x.1 d) code.TooNested (Take (length_rest limits d x)) (λ f. tt)
      by t false = λ seen1. s

  low_type_rest : (x : Type_) (at seen : ℕ) → x.1 ≤ d → Post (AtMost d) (type_rest limits d x ts at seen)
  unfolding type_rest
  low_type_rest x at seen s = post_bind ts (λ y to. Stays d x y at to) (AtMost d) (turns (sees m.Dot) (project limits d) limits.turns x) (array limits d) at seen
      (post_turns ts (Stays d) (Stays d) (sees m.Dot) (project limits d) (λ a at s. s) (λ a b c from mid to o q s. q (o s)) (λ a from seen1 e. low_project a from seen1) limits.turns x at seen)
      (λ y mid seen1 q. low_array y mid seen1 (q s))

no_room : false ≡ true → 1 ≤ 0
no_room e = cc

pub low_types : (ts : List Lexed) (limits : Limits) → limits.free ≡ false → (d at seen : ℕ) → Post (λ (x : Type_) (to : ℕ). x.1 ≤ d) (types limits d ts at seen)
unfolding types
low_types ts limits free zero at seen = post_bind ts (AtMost zero) (AtMost zero) (type_name limits false zero no_types) (type_rest limits zero) at seen
    (low_type_name ts limits false zero no_types (λ at seen. tt) zero no_room at seen) (λ x mid seen1 s. low_type_rest ts limits free zero x mid seen1 s)
low_types ts limits free (suc d) at seen = post_bind ts (AtMost (suc d)) (AtMost (suc d)) (type_name limits true d (types limits d)) (type_rest limits (suc d)) at seen
    (low_type_name ts limits true d (types limits d) (λ at seen. low_types ts limits free d at seen) (suc d) (λ e. omega arith) at seen) (λ x mid seen1 s. low_type_rest ts limits free (suc d) x mid seen1 s)
