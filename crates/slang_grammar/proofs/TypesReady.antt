-- Types: what was looked at, but for the last token, goes on to be a type.
use Rattle.std.proofs.Common.{Bool, true, false, ◌≡◌, ℕ, zero, suc, ◌+◌, ◌<◌, ◌≤◌, max, List, [], ◌∷◌, ◌++◌, length, Option, Some, None, refl, ap, eq-eqb, ◌||◌, if◌then◌else◌, arith}
use Rattle.std.specs.Prelude.{nat_le, nat_lt}
use Rattle.std.proofs.lemmas.Bool.Decides.{nat_tests}
use Rattle.slang_names.specs.declared.places.Place.{Place}
use Rattle.slang_names.specs.declared.codes.ModuleCode.TheVariants as code
use Rattle.slang_names.specs.declared.numbers.NumberKind.TheVariants as sign
use Rattle.slang_tree.specs.declared.types.Identifier.{Identifier}
use Rattle.slang_tree.specs.declared.types.Resource.{Resource}
use Rattle.slang_tree.specs.declared.types.TypeNode.TheVariants as n
use Rattle.slang_tokens.specs.declared.tokens.Kind.{Kind}
use Rattle.slang_tokens.specs.declared.tokens.Kind.TheVariants as k
use Rattle.slang_tokens.specs.declared.tokens.Mark.{Mark}
use Rattle.slang_tokens.specs.declared.tokens.Mark.TheVariants as m
use Rattle.slang_tokens.specs.declared.tokens.Word.TheVariants as w
use Rattle.slang_reading.specs.Lexed.{Lexed}
use Rattle.slang_reading.specs.Reading.{Parser, Choice, Leave, Take, Refuse, if_fits, pure, next, turns}
use Rattle.slang_reading.specs.Kinds.{mark_code, is_mark, sees, span}
use Rattle.slang_reading.proofs.Tame.{Tame, tame_pure, tame_past, tame_bind, Each, each_fits, tame_next, tame_turns}
use Rattle.slang_reading.proofs.Viable.{Finishes, Viable, viable_pure, viable_past, finishes_pure, finishes_bind, viable_bind, EachPair, finishes_next_take, finishes_next_end, viable_next, pair_fits, Ready, ready_bind, ready_last, ready_turns}
use Rattle.slang_grammar.specs.Types.{typed}
use Rattle.slang_grammar.specs.Descent.{Limits, fits_in, expected, expect, name, identifier, is_short, if_short, named_by, named, termed_by, termed, bracketed}
use Rattle.slang_grammar.specs.TypesDescent.{Type_, Arguments, WordUse, IsBuiltin, IsResource, IsThis, IsOther, use_of, type_argument, begins_type, word_argument, argument_by, argument_of, argument, argument_more, arguments, name_rest_by, name_rest, resource_rest, node, type_word, type_by, type_of, type_name, project_rest, project_by, project, length_rest, length_by, array, type_rest, no_types, types}

-- a token, at no place in particular
abbrev pub token : Kind → Lexed
token kind = record { kind = kind; place = record { start = 0; end = 0 }; bytes = [] }

abbrev pub mark : Mark → Lexed
mark m = token (k.Mark m)

-- the shortest type, argument and length
abbrev pub int_word : Lexed
int_word = token (k.Word w.Int)

abbrev pub zero_number : Lexed
zero_number = token (k.Number (record { value = 0; kind = sign.Int }))

abbrev pub Any : Option Lexed → Type 0
Any x = Unit {0}

-- nothing with which a type would go on
abbrev pub Ends : Option Lexed → Type 0
Ends x = (sees m.Less x ≡ false) × (sees m.Dot x ≡ false) × (sees m.OpenBracket x ≡ false)

-- the second parser makes at least as many turns as the first, and has no limits of lists, names and chains
pub record Wider (small large : Limits) : Type 0 where
  pub turns : small.turns ≤ large.turns
  pub free : large.free ≡ true

module _ (F : Option Lexed → Type 0) (a : Mark) where
  is_self : (p : Place) (bytes : List ℕ) → expected a (Some (record { kind = k.Mark a; place = p; bytes = bytes })) ≡ Take (pure p)
  is_self p bytes = ap (λ b. if b then Take (pure p) else Refuse) (eq-eqb (mark_code a) (mark_code a) refl)

  finishes_expect : Finishes F (mark a ∷ []) (expect a)
  unfolding expect
  finishes_expect = finishes_next_take F (expected a) (mark a) [] (pure (record { start = 0; end = 0 })) (is_self _ []) (finishes_pure F _)

  viable_expect : Viable F (expect a) (expect a)
  unfolding expect
  viable_expect = viable_next F (expected a) (expected a) (mark a ∷ []) finishes_expect go
    where
      by : (t : Lexed) (b : Bool) → EachPair (Viable F) (if b then Take (pure t.place) else Refuse) (if b then Take (pure t.place) else Refuse)
      by t true = viable_pure F t.place
      by t false = tt

      go : (x : Option Lexed) → EachPair (Viable F) (expected a x) (expected a x)
      go (Some t) = by t (is_mark a t.kind)
      go None = tt

  pub ready_expect : Ready F (mark a ∷ []) (expect a) (expect a)
  ready_expect = record { viable = viable_expect; finishes = finishes_expect }

module _ (small large : Limits) (wide : Wider small large) where
  pub pair_short : {A : Type 0} (F : Option Lexed → Type 0) (t : Lexed) (c d : Choice A) → EachPair (Viable F) c d → EachPair (Viable F) (if_short small t c) (if_short large t d)
  pair_short F t c d v = pair_fits F (is_short small t) (is_short large t) code.TooLong (Some t) c d (λ e. ap (λ f. f || nat_le (length t.bytes) large.names) wide.free) v

  pub short_here : {A : Type 0} (c : Choice A) → if_short large (token k.Name) c ≡ c
  short_here c = ap (λ f. if_fits (f || nat_le 0 large.names) code.TooLong (Some (token k.Name)) c) wide.free

  pub pair_in : {A : Type 0} (F : Option Lexed → Type 0) (x : Option Lexed) (n a b : ℕ) (c d : Choice A) → EachPair (Viable F) c d →
      EachPair (Viable F) (if_fits (fits_in small n a) code.TooNested x c) (if_fits (fits_in large n b) code.TooNested x d)
  pair_in F x n a b c d v = pair_fits F (fits_in small n a) (fits_in large n b) code.TooNested x c d (λ e. ap (λ f. f || nat_lt n b) wide.free) v

  pub pair_items : {A : Type 0} (F : Option Lexed → Type 0) (x : Option Lexed) (n a b : ℕ) (c d : Choice A) → EachPair (Viable F) c d →
      EachPair (Viable F) (if_fits (fits_in small n a) code.TooLong x c) (if_fits (fits_in large n b) code.TooLong x d)
  pair_items F x n a b c d v = pair_fits F (fits_in small n a) (fits_in large n b) code.TooLong x c d (λ e. ap (λ f. f || nat_lt n b) wide.free) v

  -- a name
  pub ready_name : (F : Option Lexed → Type 0) → Ready F (token k.Name ∷ []) (name small) (name large)
  unfolding name
  ready_name F = record { viable = viable_next F (named large) (named small) (token k.Name ∷ []) finishes go; finishes = finishes }
    where
      finishes : Finishes F (token k.Name ∷ []) (next (named large))
      finishes = finishes_next_take F (named large) (token k.Name) [] (pure (identifier (token k.Name))) (short_here (Take (pure (identifier (token k.Name))))) (finishes_pure F _)

      by : (t : Lexed) (kind : Kind) → EachPair (Viable F) (named_by small t kind) (named_by large t kind)
      by t k.Name = pair_short F t (Take (pure (identifier t))) (Take (pure (identifier t))) (viable_pure F (identifier t))
      by t (k.Word word) = tt
      by t (k.Number v) = tt
      by t k.String = tt
      by t (k.Mark mark) = tt

      go : (x : Option Lexed) → EachPair (Viable F) (named small x) (named large x)
      go (Some t) = by t t.kind
      go None = tt

  -- a number or a name
  pub ready_bracketed : (F : Option Lexed → Type 0) → Ready F (zero_number ∷ []) (bracketed small) (bracketed large)
  unfolding bracketed
  ready_bracketed F = record { viable = viable_next F (termed large) (termed small) (zero_number ∷ []) finishes go; finishes = finishes }
    where
      finishes : Finishes F (zero_number ∷ []) (next (termed large))
      finishes = finishes_next_take F (termed large) zero_number [] (pure _) refl (finishes_pure F _)

      by : (t : Lexed) (kind : Kind) → EachPair (Viable F) (termed_by small t kind) (termed_by large t kind)
      by t k.Name = pair_short F t (Take (pure _)) (Take (pure _)) (viable_pure F _)
      by t (k.Word word) = tt
      by t (k.Number v) = viable_pure F _
      by t k.String = tt
      by t (k.Mark mark) = tt

      go : (x : Option Lexed) → EachPair (Viable F) (termed small x) (termed large x)
      go (Some t) = by t t.kind
      go None = tt

  -- ---- what has more room is tame, whatever it holds

  pub tame_expect : (a : Mark) → Tame (expect a)
  tame_expect a = (ready_expect Any a).viable.tame

  module _ (room : Bool) (d : ℕ) (inner : Parser Type_) (h : Tame inner) where
    tame_type_argument : Tame (type_argument large room d inner)
    unfolding type_argument
    tame_type_argument = tame_bind _ (λ x. tame_pure _) inner h

    each_begins : (x : Option Lexed) → Each Tame (begins_type large room d inner x)
    each_begins x = each_fits Tame (nat_lt 0 d) code.TooNested x (Leave (type_argument large room d inner)) tame_type_argument

    each_word_argument : (x : Option Lexed) (u : WordUse) → Each Tame (word_argument large room d inner x u)
    each_word_argument x (IsBuiltin b) = each_begins x
    each_word_argument x (IsResource r) = each_begins x
    each_word_argument x IsThis = each_begins x
    each_word_argument x IsOther = tt

    each_argument_by : (t : Lexed) (kind : Kind) → Each Tame (argument_by large room d inner t kind)
    each_argument_by t (k.Number v) = tame_pure _
    each_argument_by t k.Name = each_begins (Some t)
    each_argument_by t (k.Word word) = each_word_argument (Some t) (use_of word)
    each_argument_by t k.String = tt
    each_argument_by t (k.Mark mark) = tt

    each_argument_of : (x : Option Lexed) → Each Tame (argument_of large room d inner x)
    each_argument_of (Some t) = each_argument_by t t.kind
    each_argument_of None = tt

    tame_argument : (count : ℕ) → Tame (argument large room d inner count)
    unfolding argument
    tame_argument count = tame_next _ (λ x. each_fits Tame (fits_in large count large.items) code.TooLong x (argument_of large room d inner x) (each_argument_of x))

    tame_argument_more : (list : Arguments) → Tame (argument_more large room d inner list)
    unfolding argument_more
    tame_argument_more list = tame_bind _ (λ p. tame_bind _ (λ x. tame_pure _) (argument large room d inner (length list.0)) (tame_argument (length list.0))) (expect m.Comma) (tame_expect m.Comma)

    pub tame_arguments : Tame (arguments large room d inner)
    unfolding arguments
    tame_arguments = tame_bind _ (λ p. tame_bind _ (λ x. tame_bind _ (λ list. tame_bind _ (λ end. tame_pure _) (expect m.Greater) (tame_expect m.Greater))
        (turns (sees m.Comma) (argument_more large room d inner) large.turns (x.0 ∷ [], x.1)) (tame_turns (sees m.Comma) (argument_more large room d inner) tame_argument_more large.turns (x.0 ∷ [], x.1)))
        (argument large room d inner 0) (tame_argument 0)) (expect m.Less) (tame_expect m.Less)

    tame_name_rest : (id : Identifier) → Tame (name_rest large room d inner id)
    unfolding name_rest
    tame_name_rest id = tame_next _ (λ x. by (sees m.Less x))
      where
        by : (b : Bool) → Each Tame (name_rest_by large room d inner id b)
        by true = tame_bind _ (λ a. tame_pure _) (arguments large room d inner) tame_arguments
        by false = tame_pure _

    tame_resource_rest : (p : Place) (r : Resource) → Tame (resource_rest large room d inner p r)
    unfolding resource_rest
    tame_resource_rest p r = tame_bind _ (λ o. tame_bind _ (λ x. tame_bind _ (λ end. tame_pure _) (expect m.Greater) (tame_expect m.Greater)) inner h) (expect m.Less) (tame_expect m.Less)

    each_node : (t : Lexed) (c : Choice Type_) → Each Tame c → Each Tame (node large room d inner t c)
    each_node t c e = each_fits Tame room code.TooNested (Some t) c e

    each_type_word : (t : Lexed) (u : WordUse) → Each Tame (type_word large room d inner t u)
    each_type_word t (IsBuiltin b) = each_node t (Take (pure (typed t.place (n.Builtin b), 1))) (tame_pure _)
    each_type_word t (IsResource r) = each_node t (Take (resource_rest large room d inner t.place r)) (tame_resource_rest t.place r)
    each_type_word t IsThis = each_node t (Take (pure (typed t.place n.ThisType, 1))) (tame_pure _)
    each_type_word t IsOther = tt

    each_type_by : (t : Lexed) (kind : Kind) → Each Tame (type_by large room d inner t kind)
    each_type_by t k.Name = each_fits Tame (is_short large t) code.TooLong (Some t) (node large room d inner t (Take (name_rest large room d inner (identifier t))))
        (each_node t (Take (name_rest large room d inner (identifier t))) (tame_name_rest (identifier t)))
    each_type_by t (k.Word word) = each_type_word t (use_of word)
    each_type_by t (k.Number v) = tt
    each_type_by t k.String = tt
    each_type_by t (k.Mark mark) = tt

    each_type_of : (x : Option Lexed) → Each Tame (type_of large room d inner x)
    each_type_of (Some t) = each_type_by t t.kind
    each_type_of None = tt

    tame_type_name : Tame (type_name large room d inner)
    unfolding type_name
    tame_type_name = tame_next (type_of large room d inner) each_type_of

  -- ---- what follows the name of a type

  module _ (d e : ℕ) where
    ready_project_rest : (x : Type_) → Ready Ends (token k.Name ∷ []) (project_rest small d x) (project_rest large e x)
    unfolding project_rest
    ready_project_rest x = ready_last Ends (token k.Name ∷ []) (name small) (name large) (λ id. (typed (span x.0.place id.place) (n.Projection x.0 id), x.1 + 1)) (ready_name Ends)

    pub viable_project : (x : Type_) → Viable Ends (project small d x) (project large e x)
    unfolding project
    viable_project x = viable_next Ends (λ t. project_by large e x t (sees m.Dot t)) (λ t. project_by small d x t (sees m.Dot t)) (mark m.Dot ∷ token k.Name ∷ [])
        (finishes_next_take Ends (λ t. project_by large e x t (sees m.Dot t)) (mark m.Dot) (token k.Name ∷ []) (project_rest large e x)
        (ap (λ f. if_fits (f || nat_lt x.1 e) code.TooNested (Some (mark m.Dot)) (Take (project_rest large e x))) wide.free) (ready_project_rest x).finishes)
        (λ t. by t (sees m.Dot t))
      where
        by : (t : Option Lexed) (b : Bool) → EachPair (Viable Ends) (project_by small d x t b) (project_by large e x t b)
        by t true = pair_in Ends t x.1 d e (Take (project_rest small d x)) (Take (project_rest large e x)) (ready_project_rest x).viable
        by t false = tt

    ready_length_rest : (x : Type_) → Ready Ends (zero_number ∷ mark m.CloseBracket ∷ []) (length_rest small d x) (length_rest large e x)
    unfolding length_rest
    ready_length_rest x = ready_bind Ends Any (zero_number ∷ []) (mark m.CloseBracket ∷ []) (bracketed small) (bracketed large) _ _ (λ rest f. tt) (ready_bracketed Any)
        (λ l. ready_last Ends (mark m.CloseBracket ∷ []) (expect m.CloseBracket) (expect m.CloseBracket) (λ end. (typed (span x.0.place end) (n.Array x.0 l), x.1 + 1)) (ready_expect Ends m.CloseBracket))

    ready_array : (x : Type_) → Ready Ends [] (array small d x) (array large e x)
    unfolding array
    ready_array x = record {
      viable = viable_next Ends (λ t. length_by large e x t (sees m.OpenBracket t)) (λ t. length_by small d x t (sees m.OpenBracket t)) [] finishes (λ t. by t (sees m.OpenBracket t));
      finishes = finishes;
    }
      where
        finishes : Finishes Ends [] (next (λ t. length_by large e x t (sees m.OpenBracket t)))
        finishes = finishes_next_end Ends (λ t. length_by large e x t (sees m.OpenBracket t)) (λ t. pure x) (λ t f. ap (length_by large e x t) f.2) (λ t. finishes_pure Ends x)

        by : (t : Option Lexed) (b : Bool) → EachPair (Viable Ends) (length_by small d x t b) (length_by large e x t b)
        by t true = pair_in Ends t x.1 d e (Take (length_rest small d x)) (Take (length_rest large e x)) (ready_length_rest x).viable
        by t false = viable_pure Ends x

    pub ready_type_rest : (x : Type_) → Ready Ends [] (type_rest small d x) (type_rest large e x)
    unfolding type_rest
    ready_type_rest x = ready_bind Ends Ends [] [] (turns (sees m.Dot) (project small d) small.turns x) (turns (sees m.Dot) (project large e) large.turns x) (array small d) (array large e) (λ rest f. f)
        (ready_turns Ends Ends (sees m.Dot) (project small d) (project large e) small.turns large.turns x wide.turns (λ x f. f) (λ x f. f.1) viable_project)
        ready_array

  pub tame_types : (e : ℕ) → Tame (types large e)
  unfolding types
  tame_types zero = tame_bind (type_rest large zero) (λ x. (ready_type_rest zero zero x).viable.whole) (type_name large false zero no_types) (tame_type_name false zero no_types (tame_past _ _))
  tame_types (suc e) = tame_bind (type_rest large (suc e)) (λ x. (ready_type_rest (suc e) (suc e) x).viable.whole) (type_name large true e (types large e)) (tame_type_name true e (types large e) (tame_types e))

  -- ---- the two beside each other

  pub lt_test : (a b : ℕ) → (0 < a → 0 < b) → nat_lt 0 a ≡ true → nat_lt 0 b ≡ true
  lt_test a b h e = grind (arith, nat_tests, h)

  module _ (room : Bool) (d e : ℕ) (more : 0 < d → 0 < e) (p q : Parser Type_) (v : Viable Ends p q) (f : Finishes Ends (int_word ∷ []) q) where
    viable_type_argument : Viable Ends (type_argument small room d p) (type_argument large true e q)
    unfolding type_argument
    viable_type_argument = viable_bind Ends Ends q _ [] (λ rest f. f) p _ v (λ x. viable_pure Ends _) (λ x. finishes_pure Ends _)

    pair_begins : (x : Option Lexed) → EachPair (Viable Ends) (begins_type small room d p x) (begins_type large true e q x)
    pair_begins x = pair_fits Ends (nat_lt 0 d) (nat_lt 0 e) code.TooNested x (Leave (type_argument small room d p)) (Leave (type_argument large true e q)) (lt_test d e more) viable_type_argument

    pair_word_argument : (x : Option Lexed) (u : WordUse) → EachPair (Viable Ends) (word_argument small room d p x u) (word_argument large true e q x u)
    pair_word_argument x (IsBuiltin b) = pair_begins x
    pair_word_argument x (IsResource r) = pair_begins x
    pair_word_argument x IsThis = pair_begins x
    pair_word_argument x IsOther = tt

    pair_argument_by : (t : Lexed) (kind : Kind) → EachPair (Viable Ends) (argument_by small room d p t kind) (argument_by large true e q t kind)
    pair_argument_by t (k.Number x) = viable_pure Ends _
    pair_argument_by t k.Name = pair_begins (Some t)
    pair_argument_by t (k.Word word) = pair_word_argument (Some t) (use_of word)
    pair_argument_by t k.String = tt
    pair_argument_by t (k.Mark mark) = tt

    pair_argument_of : (x : Option Lexed) → EachPair (Viable Ends) (argument_of small room d p x) (argument_of large true e q x)
    pair_argument_of (Some t) = pair_argument_by t t.kind
    pair_argument_of None = tt

    ready_argument : (count : ℕ) → Ready Ends (zero_number ∷ []) (argument small room d p count) (argument large true e q count)
    unfolding argument
    ready_argument count = record {
      viable = viable_next Ends (λ x. if_fits (fits_in large count large.items) code.TooLong x (argument_of large true e q x)) (λ x. if_fits (fits_in small count small.items) code.TooLong x (argument_of small room d p x)) (zero_number ∷ []) finishes
          (λ x. pair_items Ends x count small.items large.items (argument_of small room d p x) (argument_of large true e q x) (pair_argument_of x));
      finishes = finishes;
    }
      where
        finishes : Finishes Ends (zero_number ∷ []) (next (λ x. if_fits (fits_in large count large.items) code.TooLong x (argument_of large true e q x)))
        finishes = finishes_next_take Ends (λ x. if_fits (fits_in large count large.items) code.TooLong x (argument_of large true e q x)) zero_number [] (pure _)
            (ap (λ f. if_fits (f || nat_lt count large.items) code.TooLong (Some zero_number) (argument_of large true e q (Some zero_number))) wide.free) (finishes_pure Ends _)

    -- behind the arguments so far: nothing that goes on a type, and no comma
    abbrev Closes : Option Lexed → Type 0
    Closes x = Ends x × (sees m.Comma x ≡ false)

    viable_argument_more : (list : Arguments) → Viable Ends (argument_more small room d p list) (argument_more large true e q list)
    unfolding argument_more
    viable_argument_more list = (ready_bind Ends Any (mark m.Comma ∷ []) (zero_number ∷ []) (expect m.Comma) (expect m.Comma) _ _ (λ rest f. tt) (ready_expect Any m.Comma)
        (λ o. ready_last Ends (zero_number ∷ []) (argument small room d p (length list.0)) (argument large true e q (length list.0)) (λ x. (list.0 ++ x.0 ∷ [], max list.1 x.1)) (ready_argument (length list.0)))).viable

    pub ready_arguments : Ready Any (mark m.Less ∷ zero_number ∷ mark m.Greater ∷ []) (arguments small room d p) (arguments large true e q)
    unfolding arguments
    ready_arguments = ready_bind Any Any (mark m.Less ∷ []) (zero_number ∷ mark m.Greater ∷ []) (expect m.Less) (expect m.Less) _ _ (λ rest f. tt) (ready_expect Any m.Less)
        (λ o. ready_bind Any Ends (zero_number ∷ []) (mark m.Greater ∷ []) (argument small room d p 0) (argument large true e q 0) _ _ (λ rest f. (refl, refl, refl)) (ready_argument 0)
        (λ x. ready_bind Any Closes [] (mark m.Greater ∷ []) (turns (sees m.Comma) (argument_more small room d p) small.turns (x.0 ∷ [], x.1)) (turns (sees m.Comma) (argument_more large true e q) large.turns (x.0 ∷ [], x.1)) _ _
        (λ rest f. ((refl, refl, refl), refl))
        (ready_turns Closes Ends (sees m.Comma) (argument_more small room d p) (argument_more large true e q) small.turns large.turns (x.0 ∷ [], x.1) wide.turns (λ y c. c.0) (λ y c. c.1) viable_argument_more)
        (λ list. ready_last Any (mark m.Greater ∷ []) (expect m.Greater) (expect m.Greater) (λ end. (list, end)) (ready_expect Any m.Greater))))

    viable_name_rest : (id : Identifier) → Viable Ends (name_rest small room d p id) (name_rest large true e q id)
    unfolding name_rest
    viable_name_rest id = viable_next Ends (λ x. name_rest_by large true e q id (sees m.Less x)) (λ x. name_rest_by small room d p id (sees m.Less x)) []
        (finishes_next_end Ends (λ x. name_rest_by large true e q id (sees m.Less x)) (λ x. pure (typed id.place (n.Named id []), 1)) (λ x c. ap (name_rest_by large true e q id) c.0) (λ x. finishes_pure Ends _))
        (λ x. by (sees m.Less x))
      where
        by : (b : Bool) → EachPair (Viable Ends) (name_rest_by small room d p id b) (name_rest_by large true e q id b)
        by true = viable_bind Ends Any (arguments large true e q) _ [] (λ rest c. tt) (arguments small room d p) _ ready_arguments.viable (λ a. viable_pure Ends _) (λ a. finishes_pure Ends _)
        by false = viable_pure Ends _

    viable_resource_rest : (place : Place) (r : Resource) → Viable Ends (resource_rest small room d p place r) (resource_rest large true e q place r)
    unfolding resource_rest
    viable_resource_rest place r = (ready_bind Ends Any (mark m.Less ∷ []) (int_word ∷ mark m.Greater ∷ []) (expect m.Less) (expect m.Less) _ _ (λ rest c. tt) (ready_expect Any m.Less)
        (λ o. ready_bind Ends Ends (int_word ∷ []) (mark m.Greater ∷ []) p q _ _ (λ rest c. (refl, refl, refl)) (record { viable = v; finishes = f })
        (λ x. ready_last Ends (mark m.Greater ∷ []) (expect m.Greater) (expect m.Greater) (λ end. (typed (span place end) (n.Resource r x.0), x.1 + 1)) (ready_expect Ends m.Greater)))).viable

    pair_node : (t : Lexed) (c u : Choice Type_) → EachPair (Viable Ends) c u → EachPair (Viable Ends) (node small room d p t c) (node large true e q t u)
    pair_node t c u x = pair_fits Ends room true code.TooNested (Some t) c u (λ k. refl) x

    pair_type_word : (t : Lexed) (u : WordUse) → EachPair (Viable Ends) (type_word small room d p t u) (type_word large true e q t u)
    pair_type_word t (IsBuiltin b) = pair_node t (Take (pure (typed t.place (n.Builtin b), 1))) (Take (pure (typed t.place (n.Builtin b), 1))) (viable_pure Ends _)
    pair_type_word t (IsResource r) = pair_node t (Take (resource_rest small room d p t.place r)) (Take (resource_rest large true e q t.place r)) (viable_resource_rest t.place r)
    pair_type_word t IsThis = pair_node t (Take (pure (typed t.place n.ThisType, 1))) (Take (pure (typed t.place n.ThisType, 1))) (viable_pure Ends _)
    pair_type_word t IsOther = tt

    pair_type_by : (t : Lexed) (kind : Kind) → EachPair (Viable Ends) (type_by small room d p t kind) (type_by large true e q t kind)
    pair_type_by t k.Name = pair_short Ends t (node small room d p t (Take (name_rest small room d p (identifier t)))) (node large true e q t (Take (name_rest large true e q (identifier t))))
        (pair_node t (Take (name_rest small room d p (identifier t))) (Take (name_rest large true e q (identifier t))) (viable_name_rest (identifier t)))
    pair_type_by t (k.Word word) = pair_type_word t (use_of word)
    pair_type_by t (k.Number x) = tt
    pair_type_by t k.String = tt
    pair_type_by t (k.Mark mark) = tt

    pair_type_of : (x : Option Lexed) → EachPair (Viable Ends) (type_of small room d p x) (type_of large true e q x)
    pair_type_of (Some t) = pair_type_by t t.kind
    pair_type_of None = tt

    ready_type_name : Ready Ends (int_word ∷ []) (type_name small room d p) (type_name large true e q)
    unfolding type_name
    ready_type_name = record {
      viable = viable_next Ends (type_of large true e q) (type_of small room d p) (int_word ∷ []) (finishes_int e q) pair_type_of;
      finishes = finishes_int e q;
    }
      where
        finishes_int : (e : ℕ) (q : Parser Type_) → Finishes Ends (int_word ∷ []) (next (type_of large true e q))
        finishes_int e q = finishes_next_take Ends (type_of large true e q) int_word [] (pure _) refl (finishes_pure Ends _)

  -- with one node of room the shortest type is read
  pub finishes_types : (e : ℕ) → Finishes Ends (int_word ∷ []) (types large (suc e))
  unfolding types type_name
  finishes_types e = finishes_bind Ends Ends (type_name large true e (types large e)) (type_rest large (suc e)) [] (λ rest c. c) (int_word ∷ [])
      (finishes_next_take Ends (type_of large true e (types large e)) int_word [] (pure _) refl (finishes_pure Ends _)) (λ x. (ready_type_rest (suc e) (suc e) x).finishes)

  -- A type of so many nodes beside one of at least two more: what was looked at of it, but for the last token, goes on to
  -- be a type.
  pub ready_types : (e d : ℕ) → d + 1 < e → Ready Ends (int_word ∷ []) (types small d) (types large e)
  unfolding types
  ready_types zero d h = absurd (omega arith)
  ready_types (suc zero) d h = absurd (omega arith)
  ready_types (suc (suc e)) zero h = ready_bind Ends Ends (int_word ∷ []) [] (type_name small false zero no_types) (type_name large true (suc e) (types large (suc e))) (type_rest small zero) (type_rest large (suc (suc e))) (λ rest c. c)
      (ready_type_name false zero (suc e) (λ z. omega arith) no_types (types large (suc e)) (viable_past Ends _ _ (types large (suc e)) (tame_types (suc e))) (finishes_types e))
      (ready_type_rest zero (suc (suc e)))
  ready_types (suc (suc e)) (suc d) h = ready_bind Ends Ends (int_word ∷ []) [] (type_name small true d (types small d)) (type_name large true (suc e) (types large (suc e))) (type_rest small (suc d)) (type_rest large (suc (suc e))) (λ rest c. c)
      (ready_type_name true d (suc e) (λ z. omega arith) (types small d) (types large (suc e)) (ready_types (suc e) d (omega arith)).viable (finishes_types e))
      (ready_type_rest (suc d) (suc (suc e)))
