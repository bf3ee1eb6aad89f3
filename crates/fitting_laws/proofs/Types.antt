-- Types: no list and no name of what is read is too long.
use Rattle.std.proofs.Common.{Bool, true, false, ◌≡◌, ℕ, zero, suc, ◌+◌, ◌≤◌, List, [], ◌∷◌, length, Option, Some, None, sym, subst, arith}
use Rattle.std.specs.Prelude.{nat_lt}
use Rattle.slang_names.specs.declared.places.Place.{Place}
use Rattle.slang_names.specs.declared.codes.ModuleCode.TheVariants as code
use Rattle.slang_tree.specs.declared.types.Identifier.{Identifier}
use Rattle.slang_tree.specs.declared.types.Resource.{Resource}
use Rattle.slang_tree.specs.declared.types.Term.{Term}
use Rattle.slang_tree.specs.declared.types.Term.TheVariants as term
use Rattle.slang_tree.specs.declared.types.TypeNode.TheVariants as n
use Rattle.slang_tokens.specs.declared.tokens.Kind.{Kind}
use Rattle.slang_tokens.specs.declared.tokens.Kind.TheVariants as k
use Rattle.slang_tokens.specs.declared.tokens.Mark.TheVariants as m
use Rattle.slang_reading.specs.Lexed.{Lexed}
use Rattle.slang_reading.specs.Reading.{Parser, Choice, Leave, Take, Refuse, Pass, pure, turns}
use Rattle.slang_reading.specs.Kinds.{sees, span}
use Rattle.slang_reading.proofs.Exact.{Post, PostChoice, post_bind, post_next, post_fits, post_turns, post_unit, post_weaken}
use Rattle.slang_grammar.specs.Types.{typed}
use Rattle.slang_grammar.specs.Heights.{height}
use Rattle.slang_grammar.specs.Sizes.{term_name, TypeFits}
use Rattle.slang_grammar.specs.Descent.{Limits, fits_in, expect, named_by, named, name, termed_by, termed, identifier, is_short, bracketed}
use Rattle.slang_grammar.specs.TypesDescent.{Type_, Argument, Arguments, WordUse, IsBuiltin, IsResource, IsThis, IsOther, use_of, type_argument, begins_type, word_argument, argument_by, argument_of, argument, argument_more, arguments, name_rest_by, name_rest, resource_rest, node, type_word, type_by, type_of, type_name, project_rest, project_by, project, length_rest, length_by, array, type_rest, no_types, types}
use Rattle.slang_grammar.proofs.TypesTall.{tall_types}
use Rattle.statement_grammar.proofs.Shared.{post_both}
use Rattle.nesting_laws.proofs.TypesLow.{fits_less, Any, low_types}
use Rattle.fitting_laws.proofs.Sizes.{short_enough, Small, SmallArgument, SmallArguments, small_builtin, small_this, small_named, small_resource, small_projection, small_array, small_term, small_number, small_none, small_one, small_more}

-- what holds of each answer
pub choice_weaken : {A : Type 0} (ts : List Lexed) (P Q : A → ℕ → Type 0) → ((a : A) (to : ℕ) → P a to → Q a to) → (at : ℕ) (x : Option Lexed) (c : Choice A) → PostChoice ts P at x c → PostChoice ts Q at x c
choice_weaken ts P Q f at x (Leave p) h = λ seen. post_weaken P Q f (p ts at seen) (h seen)
choice_weaken ts P Q f at (Some t) (Take p) h = λ seen. post_weaken P Q f (p ts (at + 1) seen) (h seen)
choice_weaken ts P Q f at None (Take p) h = tt
choice_weaken ts P Q f at x Refuse h = tt
choice_weaken ts P Q f at x (Pass code place) h = tt

module _ (ts : List Lexed) (limits : Limits) (is_free : limits.free ≡ false) where
  -- a name, and a length
  abbrev ShortName : Identifier → ℕ → Type 0
  ShortName id to = length id.name ≤ limits.names

  abbrev ShortTerm : Term → ℕ → Type 0
  ShortTerm x to = term_name x ≤ limits.names

  pub short_named : (at : ℕ) (x : Option Lexed) → PostChoice ts (λ (id : Identifier) (to : ℕ). length id.name ≤ limits.names) at x (named limits x)
  short_named at (Some t) = by t t.kind
    where
      by : (t : Lexed) (kind : Kind) → PostChoice ts ShortName at (Some t) (named_by limits t kind)
      by t k.Name = post_fits ts ShortName at (Some t) (is_short limits t) code.TooLong (Take (pure (identifier t))) (λ f seen1. short_enough limits t is_free f)
      by t (k.Word w) = tt
      by t (k.Number v) = tt
      by t k.String = tt
      by t (k.Mark mark) = tt
  short_named at None = tt

  pub short_name : (at seen : ℕ) → Post (λ (id : Identifier) (to : ℕ). length id.name ≤ limits.names) (name limits ts at seen)
  unfolding name
  short_name at seen = post_next ts ShortName (named limits) at seen (λ x e. short_named at x)

  pub short_bracketed : (at seen : ℕ) → Post (λ (x : Term) (to : ℕ). term_name x ≤ limits.names) (bracketed limits ts at seen)
  unfolding bracketed
  short_bracketed at seen = post_next ts ShortTerm (termed limits) at seen (λ x e. go x)
    where
      by : (t : Lexed) (kind : Kind) → PostChoice ts ShortTerm at (Some t) (termed_by limits t kind)
      by t (k.Number v) = λ seen1. omega arith
      by t k.Name = post_fits ts ShortTerm at (Some t) (is_short limits t) code.TooLong (Take (pure (term.Name (identifier t)))) (λ f seen1. short_enough limits t is_free f)
      by t (k.Word w) = tt
      by t k.String = tt
      by t (k.Mark mark) = tt

      go : (x : Option Lexed) → PostChoice ts ShortTerm at x (termed limits x)
      go (Some t) = by t t.kind
      go None = tt

  abbrev IsSmall : Type_ → ℕ → Type 0
  IsSmall x to = Small limits x.0

  abbrev IsArgument : Argument → ℕ → Type 0
  IsArgument x to = SmallArgument limits x.0

  abbrev IsArguments : Arguments × Place → ℕ → Type 0
  IsArguments r to = SmallArguments limits r.0.0

  module _ (room : Bool) (d : ℕ) (inner : Parser Type_) (h : (at seen : ℕ) → Post (λ (x : Type_) (to : ℕ). Small limits x.0) (inner ts at seen)) where
    fit_type_argument : (at seen : ℕ) → Post IsArgument (type_argument limits room d inner ts at seen)
    unfolding type_argument
    fit_type_argument at seen = post_bind ts IsSmall IsArgument inner _ at seen (h at seen) (λ x mid seen1 r. small_term limits x.0 r)

    fit_begins : (at : ℕ) (x : Option Lexed) → PostChoice ts IsArgument at x (begins_type limits room d inner x)
    fit_begins at x = post_fits ts IsArgument at x (nat_lt 0 d) code.TooNested (Leave (type_argument limits room d inner)) (λ f seen1. fit_type_argument at seen1)

    fit_word : (at : ℕ) (x : Option Lexed) (u : WordUse) → PostChoice ts IsArgument at x (word_argument limits room d inner x u)
    fit_word at x (IsBuiltin b) = fit_begins at x
    fit_word at x (IsResource r) = fit_begins at x
    fit_word at x IsThis = fit_begins at x
    fit_word at x IsOther = tt

    fit_by : (at : ℕ) (t : Lexed) (kind : Kind) → PostChoice ts IsArgument at (Some t) (argument_by limits room d inner t kind)
    fit_by at t (k.Number v) = λ seen1. small_number limits t.place v
    fit_by at t k.Name = fit_begins at (Some t)
    fit_by at t (k.Word word) = fit_word at (Some t) (use_of word)
    fit_by at t k.String = tt
    fit_by at t (k.Mark mark) = tt

    fit_of : (at : ℕ) (x : Option Lexed) → PostChoice ts IsArgument at x (argument_of limits room d inner x)
    fit_of at (Some t) = fit_by at t t.kind
    fit_of at None = tt

    -- behind so many others
    abbrev Behind : ℕ → Argument → ℕ → Type 0
    Behind count x to = (count + 1 ≤ limits.items) × SmallArgument limits x.0

    fit_argument : (count at seen : ℕ) → Post (Behind count) (argument limits room d inner count ts at seen)
    unfolding argument
    fit_argument count at seen = post_next ts (Behind count) _ at seen (λ x e. post_fits ts (Behind count) at x (fits_in limits count limits.items) code.TooLong (argument_of limits room d inner x)
        (λ f. choice_weaken ts IsArgument (Behind count) (λ a to r. (fits_less limits count limits.items is_free f, r)) at x (argument_of limits room d inner x) (fit_of at x)))

    abbrev Stays : Arguments → Arguments → ℕ → ℕ → Type 0
    Stays a b from to = SmallArguments limits a.0 → SmallArguments limits b.0

    fit_more : (list : Arguments) (at seen : ℕ) → Post (λ b mid. Stays list b at mid) (argument_more limits room d inner list ts at seen)
    unfolding argument_more
    fit_more list at seen = post_bind ts Any (λ b mid. Stays list b at mid) (expect m.Comma) _ at seen (post_unit (expect m.Comma ts at seen))
        (λ p mid seen1 u. post_bind ts (Behind (length list.0)) (λ b to. Stays list b at to) (argument limits room d inner (length list.0)) _ mid seen1 (fit_argument (length list.0) mid seen1)
        (λ x to seen2 r s. small_more limits list.0 x.0 r.0 s r.1))

    pub fit_arguments : (at seen : ℕ) → Post (λ (r : Arguments × Place) (to : ℕ). SmallArguments limits r.0.0) (arguments limits room d inner ts at seen)
    unfolding arguments
    fit_arguments at seen = post_bind ts Any IsArguments (expect m.Less) _ at seen (post_unit (expect m.Less ts at seen))
        (λ p mid seen1 u. post_bind ts (Behind 0) IsArguments (argument limits room d inner 0) _ mid seen1 (fit_argument 0 mid seen1)
        (λ x mid2 seen2 r. post_bind ts (λ b to. Stays (x.0 ∷ [], x.1) b mid2 to) IsArguments (turns (sees m.Comma) (argument_more limits room d inner) limits.turns (x.0 ∷ [], x.1)) _ mid2 seen2
        (post_turns ts Stays Stays (sees m.Comma) (argument_more limits room d inner) (λ a at s. s) (λ a b c from mid to o q s. q (o s)) (λ a from seen3 e. fit_more a from seen3) limits.turns (x.0 ∷ [], x.1) mid2 seen2)
        (λ all mid3 seen3 q. post_bind ts Any IsArguments (expect m.Greater) _ mid3 seen3 (post_unit (expect m.Greater ts mid3 seen3))
        (λ end to seen4 w. q (small_one limits x.0 r.0 r.1)))))

    fit_name_rest : (id : Identifier) (at seen : ℕ) → length id.name ≤ limits.names → Post IsSmall (name_rest limits room d inner id ts at seen)
    unfolding name_rest
    fit_name_rest id at seen l = post_next ts IsSmall _ at seen (λ x e. by x (sees m.Less x))
      where
        by : (x : Option Lexed) (b : Bool) → PostChoice ts IsSmall at x (name_rest_by limits room d inner id b)
        by x true = λ seen1. post_bind ts IsArguments IsSmall (arguments limits room d inner) _ at seen1 (fit_arguments at seen1)
            (λ a to seen2 r. small_named limits (span id.place a.1) id a.0.0 l r)
        by x false = λ seen1. small_named limits id.place id [] l (small_none limits)

    fit_resource_rest : (begin : Place) (r : Resource) (at seen : ℕ) → Post IsSmall (resource_rest limits room d inner begin r ts at seen)
    unfolding resource_rest
    fit_resource_rest begin r at seen = post_bind ts Any IsSmall (expect m.Less) _ at seen (post_unit (expect m.Less ts at seen))
        (λ p mid seen1 u. post_bind ts IsSmall IsSmall inner _ mid seen1 (h mid seen1)
        (λ x mid2 seen2 q. post_bind ts Any IsSmall (expect m.Greater) _ mid2 seen2 (post_unit (expect m.Greater ts mid2 seen2))
        (λ end to seen3 w. small_resource limits (span begin end) r x.0 q)))

    fit_node : (at : ℕ) (t : Lexed) (c : Choice Type_) → PostChoice ts IsSmall at (Some t) c → PostChoice ts IsSmall at (Some t) (node limits room d inner t c)
    fit_node at t c p = post_fits ts IsSmall at (Some t) room code.TooNested c (λ f. p)

    fit_type_word : (at : ℕ) (t : Lexed) (u : WordUse) → PostChoice ts IsSmall at (Some t) (type_word limits room d inner t u)
    fit_type_word at t (IsBuiltin b) = fit_node at t (Take (pure (typed t.place (n.Builtin b), 1))) (λ seen1. small_builtin limits t.place b)
    fit_type_word at t (IsResource r) = fit_node at t (Take (resource_rest limits room d inner t.place r)) (λ seen1. fit_resource_rest t.place r (at + 1) seen1)
    fit_type_word at t IsThis = fit_node at t (Take (pure (typed t.place n.ThisType, 1))) (λ seen1. small_this limits t.place)
    fit_type_word at t IsOther = tt

    fit_type_by : (at : ℕ) (t : Lexed) (kind : Kind) → PostChoice ts IsSmall at (Some t) (type_by limits room d inner t kind)
    fit_type_by at t k.Name = post_fits ts IsSmall at (Some t) (is_short limits t) code.TooLong (node limits room d inner t (Take (name_rest limits room d inner (identifier t))))
        (λ f. fit_node at t (Take (name_rest limits room d inner (identifier t))) (λ seen1. fit_name_rest (identifier t) (at + 1) seen1 (short_enough limits t is_free f)))
    fit_type_by at t (k.Word word) = fit_type_word at t (use_of word)
    fit_type_by at t (k.Number v) = tt
    fit_type_by at t k.String = tt
    fit_type_by at t (k.Mark mark) = tt

    fit_type_of : (at : ℕ) (x : Option Lexed) → PostChoice ts IsSmall at x (type_of limits room d inner x)
    fit_type_of at (Some t) = fit_type_by at t t.kind
    fit_type_of at None = tt

    fit_type_name : (at seen : ℕ) → Post IsSmall (type_name limits room d inner ts at seen)
    unfolding type_name
    fit_type_name at seen = post_next ts IsSmall (type_of limits room d inner) at seen (λ x e. fit_type_of at x)

  module _ (d : ℕ) where
    abbrev StaysSmall : Type_ → Type_ → ℕ → ℕ → Type 0
    StaysSmall x y from to = Small limits x.0 → Small limits y.0

    fit_project : (x : Type_) (at seen : ℕ) → Post (λ y to. StaysSmall x y at to) (project limits d x ts at seen)
    unfolding project project_rest
    fit_project x at seen = post_next ts (λ y to. StaysSmall x y at to) _ at seen (λ t e. by t (sees m.Dot t))
      where
        rest : (from seen1 : ℕ) → Post (λ y to. StaysSmall x y at to) (project_rest limits d x ts from seen1)
        rest from seen1 = post_bind ts ShortName (λ y to. StaysSmall x y at to) (name limits) _ from seen1 (short_name from seen1)
            (λ id to seen2 u s. small_projection limits (span x.0.place id.place) x.0 id u s)

        by : (t : Option Lexed) (b : Bool) → PostChoice ts (λ y to. StaysSmall x y at to) at t (project_by limits d x t b)
        by (Some t) true = post_fits ts (λ y to. StaysSmall x y at to) at (Some t) (fits_in limits x.1 d) code.TooNested (Take (project_rest limits d x)) (λ f seen1. rest (at + 1) seen1)
        by None true = post_fits ts (λ y to. StaysSmall x y at to) at None (fits_in limits x.1 d) code.TooNested (Take (project_rest limits d x)) (λ f. tt)
        by t false = tt

    fit_array : (x : Type_) (at seen : ℕ) → Small limits x.0 → Post IsSmall (array limits d x ts at seen)
    unfolding array length_rest
    fit_array x at seen s = post_next ts IsSmall _ at seen (λ t e. by t (sees m.OpenBracket t))
      where
        rest : (from seen1 : ℕ) → Post IsSmall (length_rest limits d x ts from seen1)
        rest from seen1 = post_bind ts ShortTerm IsSmall (bracketed limits) _ from seen1 (short_bracketed from seen1)
            (λ l mid seen2 u. post_bind ts Any IsSmall (expect m.CloseBracket) _ mid seen2 (post_unit (expect m.CloseBracket ts mid seen2))
            (λ end to seen3 w. small_array limits (span x.0.place end) x.0 l u s))

        by : (t : Option Lexed) (b : Bool) → PostChoice ts IsSmall at t (length_by limits d x t b)
        by (Some t) true = post_fits ts IsSmall at (Some t) (fits_in limits x.1 d) code.TooNested (Take (length_rest limits d x)) (λ f seen1. rest (at + 1) seen1)
        by None true = post_fits ts IsSmall at None (fits_in limits x.1 d) code.TooNested (Take (length_rest limits d x)) (λ f. tt)
        by t false = λ seen1. s

    fit_type_rest : (x : Type_) (at seen : ℕ) → Small limits x.0 → Post IsSmall (type_rest limits d x ts at seen)
    unfolding type_rest
    fit_type_rest x at seen s = post_bind ts (λ y to. StaysSmall x y at to) IsSmall (turns (sees m.Dot) (project limits d) limits.turns x) (array limits d) at seen
        (post_turns ts StaysSmall StaysSmall (sees m.Dot) (project limits d) (λ a at s. s) (λ a b c from mid to o q s. q (o s)) (λ a from seen1 e. fit_project a from seen1) limits.turns x at seen)
        (λ y mid seen1 q. fit_array y mid seen1 (q s))

  pub small_types : (d at seen : ℕ) → Post (λ (x : Type_) (to : ℕ). Small limits x.0) (types limits d ts at seen)
  unfolding types
  small_types zero at seen = post_bind ts IsSmall IsSmall (type_name limits false zero no_types) (type_rest limits zero) at seen
      (fit_type_name false zero no_types (λ at seen. tt) at seen) (λ x mid seen1 s. fit_type_rest zero x mid seen1 s)
  small_types (suc d) at seen = post_bind ts IsSmall IsSmall (type_name limits true d (types limits d)) (type_rest limits (suc d)) at seen
      (fit_type_name true d (types limits d) (λ at seen. small_types d at seen) at seen) (λ x mid seen1 s. fit_type_rest (suc d) x mid seen1 s)

  -- with the nodes
  abbrev Known : ℕ → Type_ → ℕ → Type 0
  Known d x to = (height x.0 ≡ x.1) × (x.1 ≤ d)

  type_fits : (d : ℕ) (x : Type_) → height x.0 ≡ x.1 → x.1 ≤ d → Small limits x.0 → TypeFits limits d x.0
  type_fits d x e l s = record { nodes = subst (λ n. n ≤ d) (sym e) l; lists = s.0; names = s.1 }

  pub fitting_types : (d at seen : ℕ) → Post (λ (x : Type_) (to : ℕ). TypeFits limits d x.0) (types limits d ts at seen)
  fitting_types d at seen = post_weaken (λ x to. Known d x to × Small limits x.0) (λ (x : Type_) (to : ℕ). TypeFits limits d x.0) (λ x to r. type_fits d x r.0.0 r.0.1 r.1) (types limits d ts at seen)
      (post_both (Known d) IsSmall (types limits d ts at seen)
      (post_both (λ (x : Type_) (to : ℕ). height x.0 ≡ x.1) (λ x to. x.1 ≤ d) (types limits d ts at seen) (tall_types ts limits d at seen) (low_types ts limits is_free d at seen))
      (small_types d at seen))
