-- What is looked at ahead: a declaration of locals goes on with it (`leads_ahead`), and where a type and a name are read, it
-- answers (`sooner_ahead`).
use Rattle.std.proofs.Common.{Bool, true, false, ◌≡◌, ℕ, zero, suc, ◌+◌, max, List, [], ◌∷◌, drop, Option, Some, None, refl, sym, ◌∙◌, ap, subst, arith}
use Rattle.std.proofs.Math.Path.{fun_ext}
use Rattle.slang_names.specs.declared.places.Place.{Place}
use Rattle.slang_names.specs.declared.codes.ModuleCode.TheVariants as code
use Rattle.slang_tree.specs.declared.types.Identifier.{Identifier}
use Rattle.slang_tree.specs.declared.types.Resource.{Resource}
use Rattle.slang_tree.specs.declared.types.Term.{Term}
use Rattle.slang_tree.specs.declared.types.TypeNode.TheVariants as n
use Rattle.slang_tokens.specs.declared.tokens.Kind.{Kind}
use Rattle.slang_tokens.specs.declared.tokens.Kind.TheVariants as k
use Rattle.slang_tokens.specs.declared.tokens.Mark.TheVariants as m
use Rattle.slang_reading.specs.Lexed.{Lexed}
use Rattle.slang_reading.specs.Reading.{Outcome, Done, Parser, and_then, bind, ◌>>=◌, pure, first, place_of, Choice, Leave, Pass, chosen, next, turn, turns}
use Rattle.slang_reading.specs.Kinds.{is_mark, sees, span}
use Rattle.slang_reading.proofs.Tame.{seen_of, Tame, tame_pure, tame_bind, Each, tame_next}
use Rattle.slang_reading.proofs.Viable.{Reaches, Finishes, finishes_bind, finishes_next_take, finishes_next_leave, ready_turns}
use Rattle.slang_grammar.specs.Types.{typed}
use Rattle.slang_grammar.specs.Descent.{Limits, expect, name, named_by, named, identifier, bracketed}
use Rattle.slang_grammar.specs.TypesDescent.{Type_, Arguments, WordUse, IsBuiltin, IsResource, IsThis, IsOther, use_of, arguments, name_rest_by, name_rest, resource_rest, type_word, type_by, type_of, type_name, project_rest, project_by, project, length_rest, length_by, array, type_rest, types}
use Rattle.slang_grammar.specs.ExpressionsDescent.{freed}
use Rattle.slang_grammar.proofs.TypesReady as t
use Rattle.slang_grammar.proofs.TypesReady.{token, mark, int_word, zero_number, Any, ready_expect, ready_name, ready_bracketed, viable_project, ready_type_rest, tame_types, ready_arguments, ready_types}
use Rattle.statement_grammar.specs.LocalsAhead.{Seen, name_ahead, length_ahead, array_ahead, rest_ahead, given_ahead, named_ahead_by, named_ahead, builtin_ahead_by, builtin_ahead, word_ahead, local_ahead_by, local_ahead_at, local_ahead}
use Rattle.statement_ends.proofs.Leading.{then_choice, bind_bind, pure_bind, next_bind, reaches_again, parted, Leads, leads_pure, leads_one, Leaves, leads_look, EachLeads, leads_next, leads_bind, Sooner, sooner_pure, sooner_bind, EachSooner, sooner_next}
use Rattle.statement_ends.proofs.Roomy.{roomy, freed_wider, roomy_self, not_mark}

-- behind a type stands a name
abbrev name_path : List Lexed
name_path = token k.Name ∷ []

abbrev answered : ℕ → ℕ → Outcome Seen
answered at seen = Done tt at seen

-- ---- one token is looked at for a name

module _ (limits : Limits) where
  tame_name_ahead : Tame (name_ahead limits)
  unfolding name_ahead
  tame_name_ahead = tame_bind _ (λ id. tame_pure _) (name (freed limits)) (ready_name (freed limits) (roomy limits) (freed_wider limits) Any).viable.tame

  one_looked : (ts : List Lexed) (at seen : ℕ) → seen_of (name_ahead limits ts at seen) ≡ max seen (at + 1)
  unfolding name_ahead name bind next
  one_looked ts at seen = go (first (drop at ts)) (max seen (at + 1))
    where
      by : (t : Lexed) (s : ℕ) (kind : Kind) → seen_of (and_then (chosen (Some t) (named_by (freed limits) t kind) ts at s) (λ id at1 seen1. answered at1 seen1)) ≡ s
      by t s k.Name = refl
      by t s (k.Word word) = refl
      by t s (k.Number v) = refl
      by t s k.String = refl
      by t s (k.Mark a) = refl

      go : (x : Option Lexed) (s : ℕ) → seen_of (and_then (chosen x (named (freed limits) x) ts at s) (λ id at1 seen1. answered at1 seen1)) ≡ s
      go (Some t) s = by t s t.kind
      go None s = refl

-- a parenthesis is none
name_not_paren : (limits : Limits) (ts : List Lexed) (at seen to : ℕ) → sees m.OpenParen (first (drop at ts)) ≡ true → Reaches (name_ahead limits) ts at seen to → ⊥
unfolding name_ahead name bind next
name_not_paren limits ts at seen to p r = go (first (drop at ts)) (max seen (at + 1)) p r.seen1 r.is
  where
    by : (t : Lexed) (s : ℕ) (kind : Kind) → is_mark m.OpenParen kind ≡ true → (s1 : ℕ) → and_then (chosen (Some t) (named_by (freed limits) t kind) ts at s) (λ id at1 seen1. answered at1 seen1) ≡ answered to s1 → ⊥
    by t s k.Name q s1 e = cc
    by t s (k.Word word) q s1 e = cc
    by t s (k.Number v) q s1 e = cc
    by t s k.String q s1 e = cc
    by t s (k.Mark a) q s1 e = cc

    go : (x : Option Lexed) (s : ℕ) → sees m.OpenParen x ≡ true → (s1 : ℕ) → and_then (chosen x (named (freed limits) x) ts at s) (λ id at1 seen1. answered at1 seen1) ≡ answered to s1 → ⊥
    go (Some t) s q s1 e = by t s t.kind q s1 e
    go None s q s1 e = cc

turns_stop : {A : Type 0} (goes : Option Lexed → Bool) (more : A → Parser A) (n : ℕ) (a : A) (ts : List Lexed) (at seen : ℕ) → goes (first (drop at ts)) ≡ false → turns goes more n a ts at seen ≡ Done a at (max seen (at + 1))
unfolding turns next
turns_stop goes more zero a ts at seen e = ap (λ b. chosen (first (drop at ts)) (turn b (Pass code.TooLong (place_of (first (drop at ts)))) a) ts at (max seen (at + 1))) e
turns_stop goes more (suc n) a ts at seen e = ap (λ b. chosen (first (drop at ts)) (turn b (Leave (more a >>= turns goes more n)) a) ts at (max seen (at + 1))) e

done_at : {A : Type 0} (o : Outcome A) (a b : A) (at to s t : ℕ) → o ≡ Done a at s → o ≡ Done b to t → at ≡ to
done_at o a b at to s t e f = let g : Done a at s ≡ Done b to t = sym e ∙ f in cc

-- What goes on behind a type begins with a name: where the name stands alone, F may stand behind it.
module _ (limits : Limits) {A : Type 0} (F : Option Lexed → Type 0) (K : Type_ → Parser A) (tame : (x : Type_) → Tame (K x)) (fin : (x : Type_) → Finishes F name_path (K x)) where
  abbrev small : Limits
  small = freed limits

  abbrev large : Limits
  large = roomy limits

  -- behind the name of a type
  abbrev Rest : Type_ → Parser A
  Rest x = type_rest large (suc large.turns) x >>= K

  finishes_rest : (x : Type_) → Finishes F name_path (Rest x)
  finishes_rest x = finishes_bind F t.Ends (type_rest large (suc large.turns) x) K name_path (λ rest f. (refl, refl, refl)) [] (ready_type_rest small large (freed_wider limits) zero (suc large.turns) x).finishes fin

  tame_rest : (x : Type_) → Tame (Rest x)
  tame_rest x = tame_bind K tame (type_rest large (suc large.turns) x) (ready_type_rest small large (freed_wider limits) zero (suc large.turns) x).viable.whole

  -- ---- what is looked at behind a type

  leads_name : (x : Type_) → Leads F (name_ahead limits) (K x)
  leads_name x = leads_one F (name_ahead limits) (K x) name_path (tame_name_ahead limits) (tame x) (fin x) (one_looked limits)

  leads_length : (y : Type_) → Leads F (length_ahead limits) (length_rest large (suc large.turns) y >>= K)
  unfolding length_ahead length_rest bind
  leads_length y = subst (Leads F (length_ahead limits)) (sym (bind_bind (bracketed large) _ K))
      (leads_bind F Any (mark m.CloseBracket ∷ name_path) (bracketed small) (bracketed large) _ _ (λ rest f. tt) (ready_bracketed small large (freed_wider limits) Any).viable inner finishes)
    where
      of : (x : Term) → Place → Type_
      of x end = (typed (span y.0.place end) (n.Array y.0 x), y.1 + 1)

      inner : (x : Term) → Leads F (expect m.CloseBracket >>= (λ end. name_ahead limits)) ((expect m.CloseBracket >>= (λ end. pure (of x end))) >>= K)
      inner x = subst (Leads F (expect m.CloseBracket >>= (λ end. name_ahead limits))) (sym (bind_bind (expect m.CloseBracket) (λ end. pure (of x end)) K))
          (leads_bind F Any name_path (expect m.CloseBracket) (expect m.CloseBracket) _ _ (λ rest f. tt) (ready_expect Any m.CloseBracket).viable (λ end. leads_name (of x end)) (λ end. fin (of x end)))

      finishes : (x : Term) → Finishes F (mark m.CloseBracket ∷ name_path) ((expect m.CloseBracket >>= (λ end. pure (of x end))) >>= K)
      finishes x = subst (Finishes F (mark m.CloseBracket ∷ name_path)) (sym (bind_bind (expect m.CloseBracket) (λ end. pure (of x end)) K))
          (finishes_bind F Any (expect m.CloseBracket) (λ end. pure (of x end) >>= K) name_path (λ rest f. tt) (mark m.CloseBracket ∷ []) (ready_expect Any m.CloseBracket).finishes (λ end. fin (of x end)))

  abbrev ArrayAt : Type_ → Option Lexed → Choice A
  ArrayAt y t = then_choice (length_by large (suc large.turns) y t (sees m.OpenBracket t)) K

  array_next : (y : Type_) → (array large (suc large.turns) y >>= K) ≡ next (ArrayAt y)
  unfolding array
  array_next y = next_bind (λ t. length_by large (suc large.turns) y t (sees m.OpenBracket t)) K

  finishes_array : (y : Type_) → Finishes F name_path (next (ArrayAt y))
  finishes_array y = finishes_next_leave F (ArrayAt y) (token k.Name) [] (pure y >>= K) refl (subst (Finishes F name_path) (sym (pure_bind y K)) (fin y))

  tame_look_array : Tame (next (λ t. array_ahead limits (sees m.OpenBracket t)))
  unfolding length_ahead
  tame_look_array = tame_next _ (λ t. by (sees m.OpenBracket t))
    where
      by : (b : Bool) → Each Tame (array_ahead limits b)
      by true = tame_bind _ (λ x. tame_bind _ (λ end. tame_name_ahead limits) (expect m.CloseBracket) (ready_expect Any m.CloseBracket).viable.tame) (bracketed small) (ready_bracketed small large (freed_wider limits) Any).viable.tame
      by false = tame_name_ahead limits

  leads_array : (y : Type_) → Leads F (next (λ t. array_ahead limits (sees m.OpenBracket t))) (array large (suc large.turns) y >>= K)
  unfolding bind
  leads_array y = subst (Leads F (next (λ t. array_ahead limits (sees m.OpenBracket t)))) (sym (array_next y))
      (leads_next F (λ t. array_ahead limits (sees m.OpenBracket t)) (ArrayAt y) name_path tame_look_array (finishes_array y) (λ t. by t (sees m.OpenBracket t)))
    where
      by : (t : Option Lexed) (b : Bool) → EachLeads F (array_ahead limits b) (then_choice (length_by large (suc large.turns) y t b) K)
      by t true = leads_length y
      by t false = leads_name y

  abbrev Projected : Type_ → Parser Type_
  Projected x = turns (sees m.Dot) (project large (suc large.turns)) large.turns x

  rest_turns : (x : Type_) → Rest x ≡ (Projected x >>= (λ y. array large (suc large.turns) y >>= K))
  unfolding type_rest
  rest_turns x = bind_bind (Projected x) (array large (suc large.turns)) K

  leads_rest : (x : Type_) → Leads F (rest_ahead limits x) (Rest x)
  unfolding rest_ahead
  leads_rest x = subst (Leads F (rest_ahead limits x)) (sym (rest_turns x))
      (leads_bind F t.Ends name_path (turns (sees m.Dot) (project small limits.turns) limits.turns x) (Projected x) _ _ (λ rest f. (refl, refl, refl))
      (ready_turns t.Ends t.Ends (sees m.Dot) (project small limits.turns) (project large (suc large.turns)) limits.turns large.turns x (omega arith) (λ y f. f) (λ y f. f.1) (viable_project small large (freed_wider limits) limits.turns (suc large.turns))).viable
      leads_array (λ y. subst (Finishes F name_path) (sym (array_next y)) (finishes_array y)))

  -- ---- the name of a type

  leads_builtin : (x : Type_) → Leads F (builtin_ahead limits) (Rest x)
  unfolding builtin_ahead
  leads_builtin x = leads_look F (λ t. builtin_ahead_by limits (sees m.OpenParen t)) (Rest x) name_path (tame_next _ (λ t. calm (sees m.OpenParen t))) (tame_rest x) (finishes_rest x) (λ t. by (sees m.OpenParen t))
    where
      calm : (b : Bool) → Each Tame (builtin_ahead_by limits b)
      calm true = tt
      calm false = tame_pure _

      by : (b : Bool) → Leaves F (Rest x) (builtin_ahead_by limits b)
      by true = tt
      by false = leads_pure F tt (Rest x) (tame_rest x)

  abbrev of_given : Identifier → Arguments × Place → Type_
  of_given id a = (typed (span id.place a.1) (n.Named id a.0.0), a.0.1 + 1)

  abbrev of_name : Identifier → Type_
  of_name id = (typed id.place (n.Named id []), 1)

  leads_given : (id : Identifier) (a : Arguments × Place) → Leads F (next (λ t. given_ahead limits id a (sees m.OpenBracket t))) (pure (of_given id a) >>= Rest)
  leads_given id a = subst (Leads F (next (λ t. given_ahead limits id a (sees m.OpenBracket t)))) (sym (pure_bind (of_given id a) Rest))
      (leads_look F (λ t. given_ahead limits id a (sees m.OpenBracket t)) (Rest (of_given id a)) name_path (tame_next _ (λ t. calm (sees m.OpenBracket t))) (tame_rest (of_given id a)) (finishes_rest (of_given id a)) (λ t. by (sees m.OpenBracket t)))
    where
      calm : (b : Bool) → Each Tame (given_ahead limits id a b)
      calm true = tame_pure _
      calm false = (leads_rest (of_given id a)).tame

      by : (b : Bool) → Leaves F (Rest (of_given id a)) (given_ahead limits id a b)
      by true = leads_pure F tt (Rest (of_given id a)) (tame_rest (of_given id a))
      by false = leads_rest (of_given id a)

  abbrev Inner : Parser Type_
  Inner = types large large.turns

  abbrev Given : Parser (Arguments × Place)
  Given = arguments large true large.turns Inner

  leads_arguments : (id : Identifier) → Leads F (arguments small true limits.turns (types small limits.turns) >>= (λ a. next (λ t. given_ahead limits id a (sees m.OpenBracket t)))) ((Given >>= (λ a. pure (of_given id a))) >>= Rest)
  unfolding bind
  leads_arguments id =
      let r = ready_types small large (freed_wider limits) large.turns limits.turns (omega arith) in
      subst (Leads F (arguments small true limits.turns (types small limits.turns) >>= (λ a. next (λ t. given_ahead limits id a (sees m.OpenBracket t))))) (sym (bind_bind Given (λ a. pure (of_given id a)) Rest))
      (leads_bind F Any name_path (arguments small true limits.turns (types small limits.turns)) Given _ _ (λ rest f. tt)
      (ready_arguments small large (freed_wider limits) true limits.turns large.turns (λ z. omega arith) (types small limits.turns) Inner r.viable r.finishes).viable (leads_given id) (λ a. finishes_rest (of_given id a)))

  abbrev NamedAt : Identifier → Option Lexed → Choice A
  NamedAt id t = then_choice (name_rest_by large true large.turns Inner id (sees m.Less t)) Rest

  named_next : (id : Identifier) → (name_rest large true large.turns Inner id >>= Rest) ≡ next (NamedAt id)
  unfolding name_rest
  named_next id = next_bind (λ t. name_rest_by large true large.turns Inner id (sees m.Less t)) Rest

  leads_named : (id : Identifier) → Leads F (named_ahead limits id) (name_rest large true large.turns Inner id >>= Rest)
  unfolding named_ahead bind
  leads_named id = subst (Leads F (next (λ t. named_ahead_by limits id (sees m.Less t)))) (sym (named_next id))
      (leads_next F (λ t. named_ahead_by limits id (sees m.Less t)) (NamedAt id) name_path (tame_next _ (λ t. calm (sees m.Less t)))
      (finishes_next_leave F (NamedAt id) (token k.Name) [] (pure (of_name id) >>= Rest) refl (finishes_rest (of_name id))) (λ t. by (sees m.Less t)))
    where
      calm : (b : Bool) → Each Tame (named_ahead_by limits id b)
      calm true = (leads_arguments id).tame
      calm false = (leads_rest (of_name id)).tame

      by : (b : Bool) → EachLeads F (named_ahead_by limits id b) (then_choice (name_rest_by large true large.turns Inner id b) Rest)
      by true = leads_arguments id
      by false = leads_rest (of_name id)

  abbrev Whole : Parser A
  Whole = types large (suc large.turns) >>= K

  abbrev WholeAt : Option Lexed → Choice A
  WholeAt x = then_choice (type_of large true large.turns Inner x) Rest

  whole_next : Whole ≡ next WholeAt
  unfolding types type_name
  whole_next = bind_bind (next (type_of large true large.turns Inner)) (type_rest large (suc large.turns)) K ∙ next_bind (type_of large true large.turns Inner) Rest

  tame_resource : (p : Place) (r : Resource) → Tame (resource_rest large true large.turns Inner p r >>= Rest)
  unfolding resource_rest
  tame_resource p r = tame_bind Rest tame_rest (resource_rest large true large.turns Inner p r) (tame_bind _ (λ o. tame_bind _ (λ x. tame_bind _ (λ end. tame_pure _) (expect m.Greater) (ready_expect Any m.Greater).viable.tame)
      Inner (tame_types large large (roomy_self limits) large.turns)) (expect m.Less) (ready_expect Any m.Less).viable.tame)

  pub leads_ahead : Leads F (local_ahead limits) Whole
  unfolding local_ahead bind
  leads_ahead = subst (Leads F (next (local_ahead_at limits))) (sym whole_next)
      (leads_next F (local_ahead_at limits) WholeAt (int_word ∷ name_path) (tame_next _ calm_at) (finishes_next_take F WholeAt int_word name_path _ refl (finishes_rest _)) at_token)
    where
      calm_word : (t : Lexed) (u : WordUse) → Each Tame (word_ahead limits t u)
      calm_word t (IsBuiltin b) = (leads_builtin (typed t.place (n.Builtin b), 1)).tame
      calm_word t (IsResource r) = tame_pure _
      calm_word t IsThis = (leads_rest (typed t.place n.ThisType, 1)).tame
      calm_word t IsOther = tt

      calm_by : (t : Lexed) (kind : Kind) → Each Tame (local_ahead_by limits t kind)
      calm_by t k.Name = (leads_named (identifier t)).tame
      calm_by t (k.Word word) = calm_word t (use_of word)
      calm_by t (k.Number v) = tt
      calm_by t k.String = tt
      calm_by t (k.Mark a) = tt

      calm_at : (x : Option Lexed) → Each Tame (local_ahead_at limits x)
      calm_at (Some t) = calm_by t t.kind
      calm_at None = tt

      by_word : (t : Lexed) (u : WordUse) → EachLeads F (word_ahead limits t u) (then_choice (type_word large true large.turns Inner t u) Rest)
      by_word t (IsBuiltin b) = leads_builtin (typed t.place (n.Builtin b), 1)
      by_word t (IsResource r) = leads_pure F tt (resource_rest large true large.turns Inner t.place r >>= Rest) (tame_resource t.place r)
      by_word t IsThis = leads_rest (typed t.place n.ThisType, 1)
      by_word t IsOther = tt

      by : (t : Lexed) (kind : Kind) → EachLeads F (local_ahead_by limits t kind) (then_choice (type_by large true large.turns Inner t kind) Rest)
      by t k.Name = leads_named (identifier t)
      by t (k.Word word) = by_word t (use_of word)
      by t (k.Number v) = tt
      by t k.String = tt
      by t (k.Mark a) = tt

      at_token : (x : Option Lexed) → EachLeads F (local_ahead_at limits x) (WholeAt x)
      at_token (Some t) = by t t.kind
      at_token None = tt

  -- ---- where a type and what goes on are read, it answers

  module _ (starts : (x : Type_) → Sooner (name_ahead large) (K x)) where
    sooner_length : (y : Type_) → Sooner (length_ahead large) (length_rest large (suc large.turns) y >>= K)
    unfolding length_ahead length_rest
    sooner_length y = subst (Sooner (length_ahead large)) (sym (bind_bind (bracketed large) _ K)) (sooner_bind (bracketed large) _ _ inner)
      where
        of : (x : Term) → Place → Type_
        of x end = (typed (span y.0.place end) (n.Array y.0 x), y.1 + 1)

        last : (x : Term) (end : Place) → Sooner (name_ahead large) (pure (of x end) >>= K)
        last x end = subst (Sooner (name_ahead large)) (sym (pure_bind (of x end) K)) (starts (of x end))

        inner : (x : Term) → Sooner (expect m.CloseBracket >>= (λ end. name_ahead large)) ((expect m.CloseBracket >>= (λ end. pure (of x end))) >>= K)
        inner x = subst (Sooner (expect m.CloseBracket >>= (λ end. name_ahead large))) (sym (bind_bind (expect m.CloseBracket) (λ end. pure (of x end)) K))
            (sooner_bind (expect m.CloseBracket) (λ end. name_ahead large) (λ end. pure (of x end) >>= K) (last x))

    sooner_array : (y : Type_) → Sooner (next (λ t. array_ahead large (sees m.OpenBracket t))) (array large (suc large.turns) y >>= K)
    sooner_array y = subst (Sooner (next (λ t. array_ahead large (sees m.OpenBracket t)))) (sym (array_next y)) (sooner_next (λ t. array_ahead large (sees m.OpenBracket t)) (ArrayAt y) (λ t. by t (sees m.OpenBracket t)))
      where
        by : (t : Option Lexed) (b : Bool) → EachSooner (array_ahead large b) (then_choice (length_by large (suc large.turns) y t b) K)
        by t true = sooner_length y
        by t false = subst (Sooner (name_ahead large)) (sym (pure_bind y K)) (starts y)

    -- with no limits, the number of nodes does not matter
    project_same : project large large.turns ≡ project large (suc large.turns)
    unfolding project project_rest
    project_same = fun_ext (λ x. ap next (fun_ext (λ t. go x t (sees m.Dot t))))
      where
        go : (x : Type_) (t : Option Lexed) (b : Bool) → project_by large large.turns x t b ≡ project_by large (suc large.turns) x t b
        go x t true = refl
        go x t false = refl

    sooner_rest : (x : Type_) → Sooner (rest_ahead large x) (Rest x)
    unfolding rest_ahead
    sooner_rest x = subst (Sooner (rest_ahead large x)) (sym (rest_turns x))
        (subst (λ p. Sooner (turns (sees m.Dot) p large.turns x >>= (λ y. next (λ t. array_ahead large (sees m.OpenBracket t)))) (Projected x >>= (λ y. array large (suc large.turns) y >>= K))) (sym project_same)
        (sooner_bind (Projected x) (λ y. next (λ t. array_ahead large (sees m.OpenBracket t))) (λ y. array large (suc large.turns) y >>= K) sooner_array))

    -- neither does a declaration go on with a parenthesis
    no_array : (y : Type_) (ts : List Lexed) (at seen to : ℕ) → sees m.OpenParen (first (drop at ts)) ≡ true → Reaches (next (ArrayAt y)) ts at seen to → ⊥
    unfolding bind next
    no_array y ts at seen to p r =
        let closed : sees m.OpenBracket (first (drop at ts)) ≡ false = not_mark m.OpenParen m.OpenBracket refl (first (drop at ts)) p in
        let same : next (ArrayAt y) ts at seen ≡ K y ts at (max seen (at + 1)) = ap (λ b. chosen (first (drop at ts)) (then_choice (length_by large (suc large.turns) y (first (drop at ts)) b) K) ts at (max seen (at + 1))) closed in
        let on : Reaches (K y) ts at (max seen (at + 1)) to = record { tree = r.tree; seen1 = r.seen1; is = sym same ∙ r.is } in
        let u = (starts y).answers ts at (max seen (at + 1)) to on in
        name_not_paren large ts at (max seen (at + 1)) u.0 p u.1

    no_paren : (x : Type_) (ts : List Lexed) (at seen to : ℕ) → sees m.OpenParen (first (drop at ts)) ≡ true → Reaches (Rest x) ts at seen to → ⊥
    no_paren x ts at seen to p r =
        let d = parted (Projected x) (λ y. array large (suc large.turns) y >>= K) ts at seen to (subst (λ q. Reaches q ts at seen to) (rest_turns x) r) in
        let stop = turns_stop (sees m.Dot) (project large (suc large.turns)) large.turns x ts at seen (not_mark m.OpenParen m.Dot refl (first (drop at ts)) p) in
        let here : d.1 ≡ at = done_at (Projected x ts at seen) d.0 x d.1 at d.2 (max seen (at + 1)) d.3 stop in
        no_array d.0 ts at d.2 to p (subst (λ q. Reaches q ts at d.2 to) (array_next d.0) (subst (λ n. Reaches (array large (suc large.turns) d.0 >>= K) ts n d.2 to) here d.4))

    sooner_builtin : (x : Type_) → Sooner (builtin_ahead large) (Rest x)
    unfolding builtin_ahead next
    sooner_builtin x = record { answers = λ ts at seen to r. by ts at seen to r (sees m.OpenParen (first (drop at ts))) refl }
      where
        by : (ts : List Lexed) (at seen to : ℕ) → Reaches (Rest x) ts at seen to → (b : Bool) → sees m.OpenParen (first (drop at ts)) ≡ b → (mid : ℕ) × Reaches (builtin_ahead large) ts at seen mid
        by ts at seen to r true e = absurd (no_paren x ts at seen to e r)
        by ts at seen to r false e = (at, record { tree = tt; seen1 = max seen (at + 1); is = ap (λ b. chosen (first (drop at ts)) (builtin_ahead_by large b) ts at (max seen (at + 1))) e })

    sooner_given : (id : Identifier) (a : Arguments × Place) → Sooner (next (λ t. given_ahead large id a (sees m.OpenBracket t))) (pure (of_given id a) >>= Rest)
    unfolding next
    sooner_given id a = subst (Sooner (next (λ t. given_ahead large id a (sees m.OpenBracket t)))) (sym (pure_bind (of_given id a) Rest))
        (record { answers = λ ts at seen to r. by ts at seen to r (sees m.OpenBracket (first (drop at ts))) refl })
      where
        by : (ts : List Lexed) (at seen to : ℕ) → Reaches (Rest (of_given id a)) ts at seen to → (b : Bool) → sees m.OpenBracket (first (drop at ts)) ≡ b →
            (mid : ℕ) × Reaches (next (λ t. given_ahead large id a (sees m.OpenBracket t))) ts at seen mid
        by ts at seen to r true e = (at, record { tree = tt; seen1 = max seen (at + 1); is = ap (λ b. chosen (first (drop at ts)) (given_ahead large id a b) ts at (max seen (at + 1))) e })
        by ts at seen to r false e =
            let u = (sooner_rest (of_given id a)).answers ts at (max seen (at + 1)) to (reaches_again (Rest (of_given id a)) (tame_rest (of_given id a)) ts at seen (max seen (at + 1)) to r) in
            (u.0, record { tree = u.1.tree; seen1 = u.1.seen1; is = ap (λ b. chosen (first (drop at ts)) (given_ahead large id a b) ts at (max seen (at + 1))) e ∙ u.1.is })

    sooner_arguments : (id : Identifier) → Sooner (Given >>= (λ a. next (λ t. given_ahead large id a (sees m.OpenBracket t)))) ((Given >>= (λ a. pure (of_given id a))) >>= Rest)
    sooner_arguments id = subst (Sooner (Given >>= (λ a. next (λ t. given_ahead large id a (sees m.OpenBracket t))))) (sym (bind_bind Given (λ a. pure (of_given id a)) Rest)) (sooner_bind Given _ _ (sooner_given id))

    from_pure : (p : Parser Seen) (x : Type_) → Sooner p (Rest x) → Sooner p (pure x >>= Rest)
    from_pure p x s = subst (Sooner p) (sym (pure_bind x Rest)) s

    sooner_named : (id : Identifier) → Sooner (named_ahead large id) (name_rest large true large.turns Inner id >>= Rest)
    unfolding named_ahead
    sooner_named id = subst (Sooner (next (λ t. named_ahead_by large id (sees m.Less t)))) (sym (named_next id)) (sooner_next (λ t. named_ahead_by large id (sees m.Less t)) (NamedAt id) (λ t. by (sees m.Less t)))
      where
        by : (b : Bool) → EachSooner (named_ahead_by large id b) (then_choice (name_rest_by large true large.turns Inner id b) Rest)
        by true = sooner_arguments id
        by false = from_pure (rest_ahead large (of_name id)) (of_name id) (sooner_rest (of_name id))

    pub sooner_ahead : Sooner (local_ahead large) Whole
    unfolding local_ahead
    sooner_ahead = subst (Sooner (next (local_ahead_at large))) (sym whole_next) (sooner_next (local_ahead_at large) WholeAt at_token)
      where
        by_word : (t : Lexed) (u : WordUse) → EachSooner (word_ahead large t u) (then_choice (type_word large true large.turns Inner t u) Rest)
        by_word t (IsBuiltin b) = from_pure (builtin_ahead large) (typed t.place (n.Builtin b), 1) (sooner_builtin (typed t.place (n.Builtin b), 1))
        by_word t (IsResource r) = sooner_pure tt (resource_rest large true large.turns Inner t.place r >>= Rest)
        by_word t IsThis = from_pure (rest_ahead large (typed t.place n.ThisType, 1)) (typed t.place n.ThisType, 1) (sooner_rest (typed t.place n.ThisType, 1))
        by_word t IsOther = tt

        by : (t : Lexed) (kind : Kind) → EachSooner (local_ahead_by large t kind) (then_choice (type_by large true large.turns Inner t kind) Rest)
        by t k.Name = sooner_named (identifier t)
        by t (k.Word word) = by_word t (use_of word)
        by t (k.Number v) = tt
        by t k.String = tt
        by t (k.Mark a) = tt

        at_token : (x : Option Lexed) → EachSooner (local_ahead_at large x) (WholeAt x)
        at_token (Some t) = by t t.kind
        at_token None = tt
