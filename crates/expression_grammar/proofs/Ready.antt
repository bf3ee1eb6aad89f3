-- Expressions: what was looked at, but for the last token, goes on to be an expression.
use Rattle.std.proofs.Common.{Bool, true, false, ◌≡◌, ℕ, zero, suc, ◌+◌, ◌<◌, ◌≤◌, max, List, [], ◌∷◌, ◌++◌, drop, length, Option, Some, None, refl, sym, ◌∙◌, ap, subst, eq-eqb, add-zero, ◌==◌, ◌||◌, if◌then◌else◌, arith, ◌⊎◌, inl, inr}
use Rattle.std.specs.Prelude.{nat_lt}
use Rattle.std.proofs.lemmas.Bool.Decides.{nat_tests}
use Rattle.std.proofs.Math.Path.{fun_ext}
use Rattle.slang_names.specs.declared.places.Place.{Place}
use Rattle.slang_names.specs.declared.codes.ModuleCode.TheVariants as code
use Rattle.slang_tree.specs.declared.types.Identifier.{Identifier}
use Rattle.slang_tree.specs.declared.types.Builtin.{Builtin}
use Rattle.slang_tree.specs.declared.expressions.UnaryOperator.{UnaryOperator}
use Rattle.slang_tree.specs.declared.expressions.BinaryOperator.{BinaryOperator}
use Rattle.slang_tree.specs.declared.expressions.BinaryOperator.TheVariants as o
use Rattle.slang_tree.specs.declared.expressions.ExprNode.TheVariants as n
use Rattle.slang_tokens.specs.declared.tokens.Kind.{Kind}
use Rattle.slang_tokens.specs.declared.tokens.Kind.TheVariants as k
use Rattle.slang_tokens.specs.declared.tokens.Mark.{Mark}
use Rattle.slang_tokens.specs.declared.tokens.Mark.TheVariants as m
use Rattle.slang_tokens.specs.declared.tokens.Word.{Word}
use Rattle.slang_tokens.specs.declared.tokens.Word.TheVariants as w
use Rattle.slang_reading.specs.Lexed.{Lexed}
use Rattle.slang_reading.specs.Reading.{Outcome, Done, Stop, Past, Parser, and_then, bind, ◌>>=◌, pure, past, place_of, first, Choice, Leave, Take, Refuse, chosen, if_fits, next, attempt, turns}
use Rattle.slang_reading.specs.Kinds.{is_mark, sees, span}
use Rattle.slang_reading.proofs.Marks.{sees_some, same_mark}
use Rattle.slang_reading.proofs.Tame.{seen_of, Tame, tame_pure, tame_past, tame_bind, Each, each_fits, tame_next, tame_attempt, tame_foresee, tame_turns}
use Rattle.slang_reading.proofs.Viable.{IsPast, grown, Reaches, Finishes, Completion, Viable, viable_pure, viable_past, finishes_pure, finishes_bind, viable_bind, EachPair, finishes_next_take, finishes_next_leave, finishes_next_end, viable_next, pair_fits, viable_attempt, viable_foresee, Ready, ready_bind, ready_last, ready_turns}
use Rattle.slang_reading.proofs.Exact.{Post}
use Rattle.slang_grammar.specs.Tables.{builtin_of, unary_of, binary_of, level_of}
use Rattle.slang_grammar.specs.Expressions.{valued, follows, loosest}
use Rattle.slang_grammar.specs.Descent.{Limits, fits_in, expected, expect, identifier, is_short}
use Rattle.slang_grammar.specs.TypesDescent.{Arguments, arguments, types}
use Rattle.slang_grammar.specs.ExpressionsDescent.{Value, Values, freed, arguments_ahead, given_by, given_at, given, repeats, word_begins, begins_by, begins, joined, shift_ahead, cast_to, cast_word, cast_at, cast_ahead, whole, over, value_of, value, value_more, values_by, values, construct, primary_word, named, paren, primary_by, member_name, member_by, member_at, index, call, chain_by, chain_at, chain, chains, chain_rest, primary_at, postfix, prefix, cast_by, unary_mark, unary_by, unary_at, unary, operand, greater, shift_by, operator_mark, operator_by, operator_at, operator, level, choice, choice_by, choice_rest, at_level, leveled}
use Rattle.slang_grammar.proofs.TypesReady.{token, mark, int_word, zero_number, Any, Wider, ready_expect, pair_short, short_here, pair_in, pair_items, lt_test, ready_arguments, ready_types}
use Rattle.slang_grammar.proofs.TypesReady as t
use Rattle.expression_grammar.specs.Ends.{goes_on_by, goes_on}
use Rattle.expression_grammar.proofs.Tables.{operator_other, unary_other, primary_other, chain_other, WordOf, true_word, false_word, this_value, this_type, other, word_of, begins_unary, begins_builtin, ends_mark}
use Rattle.expression_grammar.proofs.Quiet.{ends_chain, ends_question}
use Rattle.expression_grammar.proofs.Spelled.{post_arguments_ahead}
use Rattle.expression_grammar.proofs.Completing.{done_again, finishes_more, ready_more, finishes_repeats, ready_repeats, tame_repeats}

-- nothing with which an expression would go on
abbrev pub Ends : Option Lexed → Type 0
Ends x = goes_on x ≡ false

-- the parenthesis of a call
abbrev pub Calls : Option Lexed → Type 0
Calls x = sees m.OpenParen x ≡ true

-- the shortest expression that may stand wherever one may: a call of a number
abbrev pub call_path : List Lexed
call_path = mark m.OpenParen ∷ mark m.CloseParen ∷ []

abbrev pub zero_call : List Lexed
zero_call = zero_number ∷ call_path

calls_not_less : (x : Option Lexed) → Calls x → sees m.Less x ≡ false
calls_not_less x c = let u = sees_some m.OpenParen x c in ap (sees m.Less) u.1 ∙ ap (is_mark m.Less) u.2

calls_follows : (x : Option Lexed) → Calls x → follows x ≡ true
calls_follows x c = ap (λ b. b || sees m.Dot x) c

-- ---- two marks that stand together

module _ (G : Option Lexed → Type 0) where
  second_mark : Place → Parser Place
  second_mark p = next (λ x. if joined m.Greater p x then Take (pure p) else Refuse)

  first_mark : Option Lexed → Choice Place
  first_mark (Some t) = if is_mark m.Greater t.kind then Take (second_mark t.place) else Refuse
  first_mark None = Refuse

  -- a mark directly behind a place
  abbrev behind : Place → Lexed
  behind p = record { kind = k.Mark m.Greater; place = record { start = p.end; end = p.end }; bytes = [] }

  finishes_second : (p : Place) → Finishes G (behind p ∷ []) (second_mark p)
  unfolding second_mark
  finishes_second p = finishes_next_take G (λ x. if joined m.Greater p x then Take (pure p) else Refuse) (behind p) [] (pure p)
      (ap (λ b. if b then Take (pure p) else Refuse) (eq-eqb p.end p.end refl)) (finishes_pure G p)

  viable_second : (p : Place) → Viable G (second_mark p) (second_mark p)
  unfolding second_mark
  viable_second p = viable_next G (λ x. if joined m.Greater p x then Take (pure p) else Refuse) (λ x. if joined m.Greater p x then Take (pure p) else Refuse) (behind p ∷ []) (finishes_second p) (λ x. by (joined m.Greater p x))
    where
      by : (b : Bool) → EachPair (Viable G) (if b then Take (pure p) else Refuse) (if b then Take (pure p) else Refuse)
      by true = viable_pure G p
      by false = tt

  finishes_both : Finishes G (mark m.Greater ∷ mark m.Greater ∷ []) (next first_mark)
  unfolding first_mark second_mark
  finishes_both = finishes_next_take G first_mark (mark m.Greater) (mark m.Greater ∷ []) (second_mark (record { start = 0; end = 0 })) refl
      (finishes_next_take G (λ x. if joined m.Greater (record { start = 0; end = 0 }) x then Take (pure (record { start = 0; end = 0 })) else Refuse) (mark m.Greater) [] (pure _) refl (finishes_pure G _))

  viable_both : Viable G (next first_mark) (next first_mark)
  unfolding first_mark
  viable_both = viable_next G first_mark first_mark (mark m.Greater ∷ mark m.Greater ∷ []) finishes_both go
    where
      by : (t : Lexed) (b : Bool) → EachPair (Viable G) (if b then Take (second_mark t.place) else Refuse) (if b then Take (second_mark t.place) else Refuse)
      by t true = viable_second t.place
      by t false = tt

      go : (x : Option Lexed) → EachPair (Viable G) (first_mark x) (first_mark x)
      go (Some t) = by t (is_mark m.Greater t.kind)
      go None = tt

  same_marks : (ts : List Lexed) (at seen : ℕ) → next first_mark ts at seen ≡ shift_ahead ts at seen
  unfolding shift_ahead expect bind next first_mark second_mark
  same_marks ts at seen = go (first (drop at ts)) (max seen (at + 1))
    where
      by : (t : Lexed) (s : ℕ) (b : Bool) → chosen (Some t) (if b then Take (second_mark t.place) else Refuse) ts at s ≡
          and_then (chosen (Some t) (if b then Take (pure t.place) else Refuse) ts at s) (λ p at1 seen1. second_mark p ts at1 seen1)
      by t s true = refl
      by t s false = refl

      go : (x : Option Lexed) (s : ℕ) → chosen x (first_mark x) ts at s ≡ and_then (chosen x (expected m.Greater x) ts at s) (λ p at1 seen1. second_mark p ts at1 seen1)
      go (Some t) s = by t s (is_mark m.Greater t.kind)
      go None s = refl

  pub viable_shift_ahead : Viable G shift_ahead shift_ahead
  viable_shift_ahead = subst (λ p. Viable G p p) (fun_ext (λ ts. fun_ext (λ at. fun_ext (λ seen. same_marks ts at seen)))) viable_both

  -- ---- casts

  pub viable_cast_ahead : Viable G cast_ahead cast_ahead
  unfolding cast_ahead
  viable_cast_ahead = viable_next G cast_at cast_at (int_word ∷ mark m.CloseParen ∷ [])
      (finishes_next_take G cast_at int_word (mark m.CloseParen ∷ []) (expect m.CloseParen >>= (λ p. pure _)) refl (closes _).finishes) go
    where
      closes : (b : Builtin) → Ready G (mark m.CloseParen ∷ []) (expect m.CloseParen >>= (λ p. pure b)) (expect m.CloseParen >>= (λ p. pure b))
      closes b = ready_last G (mark m.CloseParen ∷ []) (expect m.CloseParen) (expect m.CloseParen) (λ p. b) (ready_expect G m.CloseParen)

      to : (b : Option Builtin) → EachPair (Viable G) (cast_to b) (cast_to b)
      to (Some b) = (closes b).viable
      to None = tt

      by : (kind : Kind) → EachPair (Viable G) (cast_word kind) (cast_word kind)
      by (k.Word word) = to (builtin_of word)
      by k.Name = tt
      by (k.Number v) = tt
      by k.String = tt
      by (k.Mark mark) = tt

      go : (x : Option Lexed) → EachPair (Viable G) (cast_at x) (cast_at x)
      go (Some t) = by t.kind
      go None = tt

-- the second parser makes at least two turns more than the first, and has no limits of lists, names and chains
pub record Roomier (small large : Limits) : Type 0 where
  pub turns : small.turns + 1 < large.turns
  pub free : large.free ≡ true

module _ (small large : Limits) (wide : Roomier small large) where
  wider : Wider small large
  wider = let h = wide.turns in record { turns = omega (arith, h); free = wide.free }

  wider_freed : Wider (freed small) (freed large)
  wider_freed = let h = wide.turns in record { turns = omega (arith, h); free = refl }

  wider_self : Wider large large
  wider_self = record { turns = omega arith; free = wide.free }

  freed_self : freed large ≡ large
  freed_self = ap (λ b. record { turns = large.turns; items = large.items; names = large.names; free = b }) (sym wide.free)

  -- ---- a name and what stands behind it

  ready_arguments_ahead : Ready Calls (mark m.Less ∷ zero_number ∷ mark m.Greater ∷ []) (arguments_ahead small) (arguments_ahead large)
  unfolding arguments_ahead
  ready_arguments_ahead =
      let r = ready_types (freed small) (freed large) wider_freed large.turns small.turns wide.turns in
      ready_bind Calls Any (mark m.Less ∷ zero_number ∷ mark m.Greater ∷ []) [] (arguments (freed small) true small.turns (types (freed small) small.turns)) (arguments (freed large) true large.turns (types (freed large) large.turns)) _ _ (λ rest f. tt)
      (ready_arguments (freed small) (freed large) wider_freed true small.turns large.turns (λ z. let h = wide.turns in omega (arith, h)) (types (freed small) small.turns) (types (freed large) large.turns) r.viable r.finishes) behind_all
    where
      finishes : (a : Arguments × Place) → Finishes Calls [] (next (λ x. if follows x then Leave (pure a) else Refuse))
      finishes a = finishes_next_end Calls (λ x. if follows x then Leave (pure a) else Refuse) (λ x. pure a) (λ x c. ap (λ b. if b then Leave (pure a) else Refuse) (calls_follows x c)) (λ x. finishes_pure Calls a)

      by : (a : Arguments × Place) (b : Bool) → EachPair (Viable Calls) (if b then Leave (pure a) else Refuse) (if b then Leave (pure a) else Refuse)
      by a true = viable_pure Calls a
      by a false = tt

      behind_all : (a : Arguments × Place) → Ready Calls [] (next (λ x. if follows x then Leave (pure a) else Refuse)) (next (λ x. if follows x then Leave (pure a) else Refuse))
      behind_all a = record {
        viable = viable_next Calls (λ x. if follows x then Leave (pure a) else Refuse) (λ x. if follows x then Leave (pure a) else Refuse) [] (finishes a) (λ x. by a (follows x));
        finishes = finishes a;
      }

  module _ (d e : ℕ) (more : d + 1 < e) (deep : large.turns + 1 < e) where
    ready_given_arguments : Ready Any (mark m.Less ∷ zero_number ∷ mark m.Greater ∷ []) (arguments small true d (types small d)) (arguments large true e (types large e))
    ready_given_arguments = let r = ready_types small large wider e d more in
        ready_arguments small large wider true d e (λ z. omega (arith, more)) (types small d) (types large e) r.viable r.finishes

    -- with more room for nodes the same arguments are read
    ready_deeper : Ready Any (mark m.Less ∷ zero_number ∷ mark m.Greater ∷ []) (arguments large true large.turns (types large large.turns)) (arguments large true e (types large e))
    ready_deeper = let r = ready_types large large wider_self e large.turns deep in
        ready_arguments large large wider_self true large.turns e (λ z. omega (arith, deep)) (types large large.turns) (types large e) r.viable r.finishes

    viable_given_by : (place : Place) (b : Bool) → Viable Calls (given_by small d place b) (given_by large e place b)
    viable_given_by place true = viable_bind Calls Any (arguments large true e (types large e)) _ [] (λ rest c. tt) (arguments small true d (types small d)) _ ready_given_arguments.viable (λ a. viable_pure Calls _) (λ a. finishes_pure Calls _)
    viable_given_by place false = viable_pure Calls _

    -- what was seen ahead is read again
    post_self : {A : Type 0} (p : Parser A) (ts : List Lexed) (at seen : ℕ) → Post (λ a to. (s : ℕ) × (p ts at seen ≡ Done a to s)) (p ts at seen)
    post_self {A = A} p ts at seen = go (p ts at seen) refl
      where
        go : (o : Outcome A) → p ts at seen ≡ o → Post (λ a to. (s : ℕ) × (p ts at seen ≡ Done a to s)) o
        go (Done a to s) e = (s, e)
        go (Stop s) e = tt
        go (Past code place s) e = tt

    reads_again : (place : Place) (us : List Lexed) (at seen mid : ℕ) → Reaches (arguments_ahead large) us at seen mid → (seen1 : ℕ) → Reaches (given_by large e place true) us at seen1 mid
    unfolding bind
    reads_again place us at seen mid r seen1 =
        let p = arguments (freed large) true large.turns (types (freed large) large.turns) in
        let P : Arguments × Place → ℕ → Type 0 = λ a to. (s : ℕ) × (p us at seen ≡ Done a to s) in
        let h = subst (Post (λ a to. P a to × (follows (first (drop to us)) ≡ true))) r.is (post_arguments_ahead us large P at seen (post_self p us at seen)) in
        let e1 = subst (λ l. arguments l true large.turns (types l large.turns) us at seen ≡ Done r.tree mid h.0.0) freed_self h.0.1 in
        let e2 = grown (arguments large true large.turns (types large large.turns)) (arguments large true e (types large e)) ready_deeper.viable.grows us at seen (Done r.tree mid h.0.0) e1 (λ d. d) in
        let e3 = done_again (arguments large true e (types large e)) ready_deeper.viable.whole us at seen seen1 r.tree mid h.0.0 e2 in
        record { tree = (r.tree.0.0, r.tree.0.1, r.tree.1); seen1 = e3.0; is = ap (λ o. and_then o (λ a at1 seen2. Done (a.0.0, a.0.1, a.1) at1 seen2)) e3.1 }

    finishes_given : (place : Place) → Finishes Calls [] (given large e place)
    unfolding given
    finishes_given place = finishes_next_end Calls (λ x. given_at large e place (sees m.Less x)) (λ x. pure ([], 0, place)) (λ x c. ap (given_at large e place) (calls_not_less x c)) (λ x. finishes_pure Calls _)

    viable_given : (place : Place) → Viable Calls (given small d place) (given large e place)
    unfolding given
    viable_given place = viable_next Calls (λ x. given_at large e place (sees m.Less x)) (λ x. given_at small d place (sees m.Less x)) [] (finishes_given place) (λ x. by (sees m.Less x))
      where
        by : (b : Bool) → EachPair (Viable Calls) (given_at small d place b) (given_at large e place b)
        by true = viable_foresee Calls Calls (arguments_ahead large) (given_by large e place) [] (λ rest f. f)
            (λ us rest at seen mid r q f seen1. subst (Reaches (given_by large e place true) us at seen1) (sym (add-zero mid)) (reads_again place us at seen mid r seen1))
            (arguments_ahead small) (given_by small d place) ready_arguments_ahead.viable (viable_given_by place)
        by false = viable_pure Calls _

  -- ---- what has more room is tame, whatever it holds

  tame_expect : (a : Mark) → Tame (expect a)
  tame_expect a = (ready_expect Any a).viable.tame

  module _ (e : ℕ) where
    tame_given_by : (place : Place) (b : Bool) → Tame (given_by large e place b)
    tame_given_by place true = tame_bind _ (λ a. tame_pure _) (arguments large true e (types large e)) (t.tame_arguments small large wider true e (types large e) (t.tame_types small large wider e))
    tame_given_by place false = tame_pure _

    tame_given : (place : Place) → Tame (given large e place)
    unfolding given
    tame_given place = tame_next (λ x. given_at large e place (sees m.Less x)) (λ x. by (sees m.Less x))
      where
        by : (b : Bool) → Each Tame (given_at large e place b)
        by true = tame_foresee (given_by large e place) (tame_given_by place) (arguments_ahead large) ready_arguments_ahead.viable.whole
        by false = tame_pure _

    module _ (inner : ℕ → Parser Value) (h : (l : ℕ) → Tame (inner l)) where
      tame_value : (count : ℕ) → Tame (value large e inner count)
      unfolding value
      tame_value count = tame_next _ (λ x. each_fits Tame (fits_in large count large.items) code.TooLong x (value_of large e inner x) (by x (begins x)))
        where
          by : (x : Option Lexed) (b : Bool) → Each Tame (if b then if_fits (nat_lt 0 e) code.TooNested x (Leave (whole large e inner)) else Refuse)
          by x true = each_fits Tame (nat_lt 0 e) code.TooNested x (Leave (whole large e inner)) (h (suc loosest))
          by x false = tt

      tame_value_more : (list : Values) → Tame (value_more large e inner list)
      unfolding value_more
      tame_value_more list = tame_bind _ (λ p. tame_bind _ (λ x. tame_pure _) (value large e inner (length list.0)) (tame_value (length list.0))) (expect m.Comma) (tame_expect m.Comma)

      tame_values : Tame (values large e inner)
      unfolding values
      tame_values = tame_next _ (λ x. by (sees m.CloseParen x))
        where
          by : (b : Bool) → Each Tame (values_by large e inner b)
          by true = tame_bind _ (λ end. tame_pure _) (expect m.CloseParen) (tame_expect m.CloseParen)
          by false = tame_bind _ (λ x. tame_bind _ (λ list. tame_bind _ (λ end. tame_pure _) (expect m.CloseParen) (tame_expect m.CloseParen))
              (turns (sees m.Comma) (value_more large e inner) large.turns (x.0 ∷ [], x.1)) (tame_turns (sees m.Comma) (value_more large e inner) tame_value_more large.turns (x.0 ∷ [], x.1)))
              (value large e inner 0) (tame_value 0)

      tame_construct : (p : Place) (b : Builtin) → Tame (construct large e inner p b)
      unfolding construct
      tame_construct p b = tame_bind _ (λ o. tame_bind _ (λ v. tame_pure _) (values large e inner) tame_values) (expect m.OpenParen) (tame_expect m.OpenParen)

      tame_paren : (p : Place) → Tame (paren large e inner p)
      unfolding paren
      tame_paren p = tame_bind _ (λ x. tame_bind _ (λ end. tame_pure _) (expect m.CloseParen) (tame_expect m.CloseParen)) (whole large e inner) (h (suc loosest))

      tame_named : (id : Identifier) → Tame (named large e inner id)
      unfolding named
      tame_named id = tame_bind _ (λ a. tame_pure _) (given large e id.place) (tame_given id.place)

      each_word : (t : Lexed) (word : Word) (b : Option Builtin) → Each Tame (primary_word large e inner t word b)
      each_word t word (Some b) = tame_construct t.place b
      each_word t word None = by (word_of large e inner word t)
        where
          by : WordOf large e inner word t → Each Tame (primary_word large e inner t word None)
          by (true_word q) = subst (λ a. Each Tame (primary_word large e inner t a None)) (sym q) (tame_pure _)
          by (false_word q) = subst (λ a. Each Tame (primary_word large e inner t a None)) (sym q) (tame_pure _)
          by (this_value q) = subst (λ a. Each Tame (primary_word large e inner t a None)) (sym q) (tame_pure _)
          by (this_type q) = subst (λ a. Each Tame (primary_word large e inner t a None)) (sym q) (tame_pure _)
          by (other q) = subst (Each Tame) (sym q) tt

      each_primary_by : (t : Lexed) (kind : Kind) → Each Tame (primary_by large e inner t kind)
      each_primary_by t (k.Number v) = tame_pure _
      each_primary_by t k.Name = each_fits Tame (is_short large t) code.TooLong (Some t) (Take (named large e inner (identifier t))) (tame_named (identifier t))
      each_primary_by t (k.Word word) = each_word t word (builtin_of word)
      each_primary_by t k.String = tt
      each_primary_by t (k.Mark mark) = by (is_mark m.OpenParen (k.Mark mark)) refl
        where
          by : (b : Bool) → is_mark m.OpenParen (k.Mark mark) ≡ b → Each Tame (primary_by large e inner t (k.Mark mark))
          by true q = subst (λ a. Each Tame (primary_by large e inner t (k.Mark a))) (same_mark m.OpenParen mark q) (tame_paren t.place)
          by false q = subst (Each Tame) (sym (primary_other large e inner t mark q)) tt

      pub each_primary : (x : Option Lexed) → Each Tame (primary_at large e inner x)
      each_primary (Some t) = each_primary_by t t.kind
      each_primary None = tt

      tame_member_name : (x : Value) (id : Identifier) → Tame (member_name large e inner x id)
      unfolding member_name
      tame_member_name x id = tame_bind _ (λ a. tame_pure _) (given large e id.place) (tame_given id.place)

      tame_member : (x : Value) → Tame (next (member_at large e inner x))
      tame_member x = tame_next (member_at large e inner x) go
        where
          by : (t : Lexed) (kind : Kind) → Each Tame (member_by large e inner x t kind)
          by t k.Name = each_fits Tame (is_short large t) code.TooLong (Some t) (Take (member_name large e inner x (identifier t))) (tame_member_name x (identifier t))
          by t (k.Word word) = tt
          by t (k.Number v) = tt
          by t k.String = tt
          by t (k.Mark mark) = tt

          go : (y : Option Lexed) → Each Tame (member_at large e inner x y)
          go (Some t) = by t t.kind
          go None = tt

      tame_index : (x : Value) → Tame (index large e inner x)
      unfolding index
      tame_index x = tame_bind _ (λ i. tame_bind _ (λ end. tame_pure _) (expect m.CloseBracket) (tame_expect m.CloseBracket)) (whole large e inner) (h (suc loosest))

      tame_call : (x : Value) → Tame (call large e inner x)
      unfolding call
      tame_call x = tame_bind _ (λ v. tame_pure _) (values large e inner) tame_values

      each_over : {A : Type 0} (x : Value) (t : Option Lexed) (c : Choice A) → Each Tame c → Each Tame (over large e inner x t c)
      each_over x t c r = each_fits Tame (fits_in large x.1 (suc e)) code.TooNested t c r

      tame_chain : (x : Value) → Tame (chain large e inner x)
      unfolding chain
      tame_chain x = tame_next (chain_at large e inner x) go
        where
          goes : (t : Option Lexed) (mark : Mark) (a b c : Bool) → is_mark m.Dot (k.Mark mark) ≡ a → is_mark m.OpenBracket (k.Mark mark) ≡ b → is_mark m.OpenParen (k.Mark mark) ≡ c → Each Tame (chain_by large e inner x t (k.Mark mark))
          goes t mark true b c q r s = subst (λ a. Each Tame (chain_by large e inner x t (k.Mark a))) (same_mark m.Dot mark q) (each_over x t (Take (next (member_at large e inner x))) (tame_member x))
          goes t mark false true c q r s = subst (λ a. Each Tame (chain_by large e inner x t (k.Mark a))) (same_mark m.OpenBracket mark r) (each_over x t (Take (index large e inner x)) (tame_index x))
          goes t mark false false true q r s = subst (λ a. Each Tame (chain_by large e inner x t (k.Mark a))) (same_mark m.OpenParen mark s) (each_over x t (Take (call large e inner x)) (tame_call x))
          goes t mark false false false q r s = subst (Each Tame) (sym (chain_other large e inner x t mark q r s)) tt

          by : (t : Option Lexed) (kind : Kind) → Each Tame (chain_by large e inner x t kind)
          by t (k.Mark mark) = goes t mark (is_mark m.Dot (k.Mark mark)) (is_mark m.OpenBracket (k.Mark mark)) (is_mark m.OpenParen (k.Mark mark)) refl refl refl
          by t k.Name = tt
          by t (k.Word word) = tt
          by t (k.Number v) = tt
          by t k.String = tt

          go : (t : Option Lexed) → Each Tame (chain_at large e inner x t)
          go (Some t) = by (Some t) t.kind
          go None = tt

      tame_chain_rest : (x : Value) → Tame (chain_rest large e inner x)
      unfolding chain_rest
      tame_chain_rest x = tame_turns (chains large e inner) (chain large e inner) tame_chain large.turns x

      tame_postfix : Tame (postfix large e inner)
      unfolding postfix
      tame_postfix = tame_bind (chain_rest large e inner) tame_chain_rest (next (primary_at large e inner)) (tame_next (primary_at large e inner) each_primary)

      tame_cast_by : (p : Place) (b : Option Builtin) → Tame (cast_by large e inner p b)
      tame_cast_by p (Some b) = tame_bind _ (λ x. tame_pure _) (inner zero) (h zero)
      tame_cast_by p None = tame_bind (chain_rest large e inner) tame_chain_rest (paren large e inner p) (tame_paren p)

      each_unary_mark : (t : Lexed) (op : Option UnaryOperator) → Each Tame (unary_mark large e inner t op)
      unfolding prefix
      each_unary_mark t (Some op) = tame_bind _ (λ x. tame_pure _) (inner zero) (h zero)
      each_unary_mark t None = tame_postfix

      each_unary_by : (t : Lexed) (kind : Kind) → Each Tame (unary_by large e inner t kind)
      each_unary_by t (k.Mark mark) = by (is_mark m.OpenParen (k.Mark mark)) refl
        where
          by : (b : Bool) → is_mark m.OpenParen (k.Mark mark) ≡ b → Each Tame (unary_by large e inner t (k.Mark mark))
          by true q = subst (λ a. Each Tame (unary_by large e inner t (k.Mark a))) (same_mark m.OpenParen mark q) (tame_attempt (cast_by large e inner t.place) (tame_cast_by t.place) cast_ahead (viable_cast_ahead Any).tame)
          by false q = subst (Each Tame) (sym (unary_other large e inner t mark q)) (each_unary_mark t (unary_of mark))
      each_unary_by t k.Name = tame_postfix
      each_unary_by t (k.Word word) = tame_postfix
      each_unary_by t (k.Number v) = tame_postfix
      each_unary_by t k.String = tame_postfix

      tame_unary : Tame (unary large e inner)
      unfolding unary
      tame_unary = tame_next (unary_at large e inner) go
        where
          go : (t : Option Lexed) → Each Tame (unary_at large e inner t)
          go (Some t) = each_unary_by t t.kind
          go None = tt

      tame_operand : (l : ℕ) (op : BinaryOperator) (x : Value) → Tame (operand large e inner l op x)
      unfolding operand
      tame_operand l op x = tame_bind _ (λ z. tame_pure _) (inner l) (h l)

      tame_greater : (l : ℕ) (p : Place) (x : Value) → Tame (greater large e inner l p x)
      unfolding greater
      tame_greater l p x = tame_next _ (λ t. by (joined m.Equal p t))
        where
          by : (b : Bool) → Each Tame (if b then Take (operand large e inner l o.GreaterEqual x) else Leave (operand large e inner l o.Greater x))
          by true = tame_operand l o.GreaterEqual x
          by false = tame_operand l o.Greater x

      tame_shift_by : (l : ℕ) (x : Value) (p : Option Place) → Tame (shift_by large e inner l x p)
      tame_shift_by l x (Some p) = by (fits_in large x.1 (suc e))
        where
          by : (b : Bool) → Tame (if b then operand large e inner l o.ShiftRight x else past code.TooNested p)
          by true = tame_operand l o.ShiftRight x
          by false = tame_past _ _
      tame_shift_by l x None = tame_pure None

      each_operator_mark : (l : ℕ) (x : Value) (t : Lexed) (op : Option BinaryOperator) → Each Tame (operator_mark large e inner l x t op)
      each_operator_mark l x t None = tame_pure None
      each_operator_mark l x t (Some op) = by (level_of op == l)
        where
          by : (b : Bool) → Each Tame (if b then over large e inner x (Some t) (Take (operand large e inner l op x)) else Leave (pure None))
          by true = each_over x (Some t) (Take (operand large e inner l op x)) (tame_operand l op x)
          by false = tame_pure None

      each_operator_by : (l : ℕ) (x : Value) (t : Lexed) (kind : Kind) → Each Tame (operator_by large e inner l x t kind)
      each_operator_by l x t (k.Mark mark) = by (is_mark m.Greater (k.Mark mark)) refl
        where
          at_greater : (a b : Bool) → Each Tame (if a then over large e inner x (Some t) (Take (greater large e inner l t.place x)) else (if b then Leave (attempt shift_ahead (shift_by large e inner l x)) else Leave (pure None)))
          at_greater true b = each_over x (Some t) (Take (greater large e inner l t.place x)) (tame_greater l t.place x)
          at_greater false true = tame_attempt (shift_by large e inner l x) (tame_shift_by l x) shift_ahead (viable_shift_ahead Any).tame
          at_greater false false = tame_pure None

          by : (b : Bool) → is_mark m.Greater (k.Mark mark) ≡ b → Each Tame (operator_by large e inner l x t (k.Mark mark))
          by true q = subst (λ a. Each Tame (operator_by large e inner l x t (k.Mark a))) (same_mark m.Greater mark q) (at_greater (l == level_of o.Greater) (l == level_of o.ShiftRight))
          by false q = subst (Each Tame) (sym (operator_other large e inner l x t mark q)) (each_operator_mark l x t (binary_of mark))
      each_operator_by l x t k.Name = tame_pure None
      each_operator_by l x t (k.Word word) = tame_pure None
      each_operator_by l x t (k.Number v) = tame_pure None
      each_operator_by l x t k.String = tame_pure None

      tame_operator : (l : ℕ) (x : Value) → Tame (operator large e inner l x)
      unfolding operator
      tame_operator l x = tame_next (operator_at large e inner l x) go
        where
          go : (t : Option Lexed) → Each Tame (operator_at large e inner l x t)
          go (Some t) = each_operator_by l x t t.kind
          go None = tame_pure None

      tame_level : (l : ℕ) → Tame (level large e inner l)
      unfolding level
      tame_level zero = tame_unary
      tame_level (suc l) = tame_bind (repeats (operator large e inner l) large.turns) (tame_repeats (operator large e inner l) (tame_operator l) large.turns) (level large e inner l) (tame_level l)

      tame_choice_rest : (x : Value) → Tame (choice_rest large e inner x)
      unfolding choice_rest choice
      tame_choice_rest x = tame_next _ (λ t. by t (sees m.Question t))
        where
          rest : Tame (choice large e inner x)
          rest = tame_bind _ (λ y. tame_bind _ (λ p. tame_bind _ (λ z. tame_pure _) (whole large e inner) (h (suc loosest))) (expect m.Colon) (tame_expect m.Colon)) (whole large e inner) (h (suc loosest))

          by : (t : Option Lexed) (b : Bool) → Each Tame (choice_by large e inner x t b)
          by t true = each_over x t (Take (choice large e inner x)) rest
          by t false = tame_pure x

      tame_at_level : (l : ℕ) (b : Bool) → Tame (at_level large e inner l b)
      tame_at_level l true = tame_bind (choice_rest large e inner) tame_choice_rest (level large e inner loosest) (tame_level loosest)
      tame_at_level l false = tame_level l

  -- with no node left
  tame_nothing : (limits : Limits) (l : ℕ) → Tame (leveled limits zero l)
  unfolding leveled
  tame_nothing limits l = tame_next _ (λ x. by x (begins x))
    where
      by : (x : Option Lexed) (b : Bool) → Each {A = Value} Tame (if b then if_fits false code.TooNested x (Take (past code.TooNested (place_of x))) else Refuse)
      by x true = tt
      by x false = tt

  pub tame_leveled : (e l : ℕ) → Tame (leveled large e l)
  unfolding leveled
  tame_leveled zero l = tame_nothing large l
  tame_leveled (suc e) l = tame_at_level e (leveled large e) (λ l. tame_leveled e l) l (l == suc loosest)

  -- ---- the shortest expression is read, whatever stands inside

  module _ (e : ℕ) (q : ℕ → Parser Value) where
    over_here : {A : Type 0} (x : Value) (t : Option Lexed) (c : Choice A) → over large e q x t c ≡ c
    over_here x t c = ap (λ b. if_fits (b || nat_lt x.1 (suc e)) code.TooNested t c) wide.free

    module _ (F : Option Lexed → Type 0) where
      finishes_values : Finishes F (mark m.CloseParen ∷ []) (values large e q)
      unfolding values
      finishes_values = finishes_next_leave F (λ x. values_by large e q (sees m.CloseParen x)) (mark m.CloseParen) [] _ refl
          (ready_last F (mark m.CloseParen ∷ []) (expect m.CloseParen) (expect m.CloseParen) _ (ready_expect F m.CloseParen)).finishes

      finishes_call : (x : Value) → Finishes F (mark m.CloseParen ∷ []) (call large e q x)
      unfolding call
      finishes_call x = finishes_bind F F (values large e q) _ [] (λ rest f. f) (mark m.CloseParen ∷ []) finishes_values (λ v. finishes_pure F _)

      finishes_chain : (x : Value) → Finishes F call_path (chain large e q x)
      unfolding chain
      finishes_chain x = finishes_next_take F (chain_at large e q x) (mark m.OpenParen) (mark m.CloseParen ∷ []) (call large e q x) (over_here x (Some (mark m.OpenParen)) (Take (call large e q x))) (finishes_call x)

    finishes_primary : Finishes Calls (zero_number ∷ []) (next (primary_at large e q))
    finishes_primary = finishes_next_take Calls (primary_at large e q) zero_number [] (pure _) refl (finishes_pure Calls _)

    finishes_chain_rest : (x : Value) → Finishes Ends call_path (chain_rest large e q x)
    unfolding chain_rest
    finishes_chain_rest x = by large.turns (let h = wide.turns in omega (arith, h))
      where
        by : (n : ℕ) → 0 < n → Finishes Ends call_path (turns (chains large e q) (chain large e q) n x)
        by zero h = absurd (omega arith)
        by (suc n) h = finishes_more Ends Calls (chains large e q) (λ y c. ends_chain y c) (chain large e q) (mark m.OpenParen) (mark m.CloseParen ∷ []) refl refl (finishes_chain Ends) n x

    pub finishes_postfix : Finishes Ends zero_call (postfix large e q)
    unfolding postfix
    finishes_postfix = finishes_bind Ends Calls (next (primary_at large e q)) (chain_rest large e q) call_path (λ rest c. refl) (zero_number ∷ []) finishes_primary finishes_chain_rest

    finishes_unary : Finishes Ends zero_call (unary large e q)
    unfolding unary
    finishes_unary = finishes_next_leave Ends (unary_at large e q) zero_number call_path (postfix large e q) refl finishes_postfix

    -- no operator stands where an expression ends
    no_operator_by : (l : ℕ) (x : Value) (t : Lexed) (kind : Kind) → goes_on_by kind ≡ false → operator_by large e q l x t kind ≡ Leave (pure None)
    no_operator_by l x t (k.Mark a) g = by (is_mark m.Greater (k.Mark a)) refl
      where
        differ : (a : Mark) → m.Greater ≡ a → goes_on_by (k.Mark a) ≡ false → ⊥
        differ a i g = let c : true ≡ false = ap (λ b. goes_on_by (k.Mark b)) i ∙ g in cc

        by : (b : Bool) → is_mark m.Greater (k.Mark a) ≡ b → operator_by large e q l x t (k.Mark a) ≡ Leave (pure None)
        by true i = absurd (differ a (same_mark m.Greater a i) g)
        by false i = operator_other large e q l x t a i ∙ ap (operator_mark large e q l x t) (ends_mark a g).4
    no_operator_by l x t k.Name g = refl
    no_operator_by l x t (k.Word word) g = refl
    no_operator_by l x t (k.Number y) g = refl
    no_operator_by l x t k.String g = refl

    no_operator : (l : ℕ) (x : Value) (t : Option Lexed) → Ends t → operator_at large e q l x t ≡ Leave (pure None)
    no_operator l x (Some t) g = no_operator_by l x t t.kind g
    no_operator l x None g = refl

    finishes_operator : (l : ℕ) (x : Value) → Finishes Ends [] (operator large e q l x)
    unfolding operator
    finishes_operator l x = finishes_next_end Ends (operator_at large e q l x) (λ t. pure None) (no_operator l x) (λ t. finishes_pure Ends None)

    quits_operator : (l : ℕ) (ts rest : List Lexed) (x : Value) (at seen : ℕ) → drop at ts ≡ rest → Ends (first rest) → (seen1 : ℕ) × (operator large e q l x ts at seen ≡ Done None at seen1)
    unfolding operator next
    quits_operator l ts rest x at seen g f =
        (max seen (at + 1), ap (λ c. chosen (first (drop at ts)) c ts at (max seen (at + 1))) (no_operator l x (first (drop at ts)) (subst (λ r. Ends (first r)) (sym g) f)))

    finishes_level : (l : ℕ) → Finishes Ends zero_call (level large e q l)
    unfolding level
    finishes_level zero = finishes_unary
    finishes_level (suc l) = finishes_bind Ends Ends (level large e q l) (repeats (operator large e q l) large.turns) [] (λ rest f. f) zero_call (finishes_level l) (finishes_repeats Ends (operator large e q l) (quits_operator l) large.turns)

    finishes_choice_rest : (x : Value) → Finishes Ends [] (choice_rest large e q x)
    unfolding choice_rest
    finishes_choice_rest x = finishes_next_end Ends (λ t. choice_by large e q x t (sees m.Question t)) (λ t. pure x) (λ t f. ap (choice_by large e q x t) (ends_question t f)) (λ t. finishes_pure Ends x)

    finishes_at_level : (l : ℕ) (b : Bool) → Finishes Ends zero_call (at_level large e q l b)
    finishes_at_level l true = finishes_bind Ends Ends (level large e q loosest) (choice_rest large e q) [] (λ rest f. f) zero_call (finishes_level loosest) finishes_choice_rest
    finishes_at_level l false = finishes_level l

  -- ---- the two beside each other

  -- inside the second parser at least as many nodes may stand, and the shortest expression is read
  module _ (d e : ℕ) (more : d + 1 < e) (deep : large.turns + 1 < e) (p q : ℕ → Parser Value) (v : (l : ℕ) → Viable Ends (p l) (q l)) (f : (l : ℕ) → Finishes Ends zero_call (q l)) where
    ready_inner : (l : ℕ) → Ready Ends zero_call (p l) (q l)
    ready_inner l = record { viable = v l; finishes = f l }

    pair_over : {A : Type 0} (F : Option Lexed → Type 0) (x : Value) (t : Option Lexed) (c u : Choice A) → EachPair (Viable F) c u → EachPair (Viable F) (over small d p x t c) (over large e q x t u)
    pair_over F x t c u w = pair_in small large wider F t x.1 (suc d) (suc e) c u w

    -- ---- values between parentheses

    ready_value : (count : ℕ) → Ready Ends zero_call (value small d p count) (value large e q count)
    unfolding value
    ready_value count = record {
      viable = viable_next Ends (λ x. if_fits (fits_in large count large.items) code.TooLong x (value_of large e q x)) (λ x. if_fits (fits_in small count small.items) code.TooLong x (value_of small d p x)) zero_call finishes
          (λ x. pair_items small large wider Ends x count small.items large.items (value_of small d p x) (value_of large e q x) (by x (begins x)));
      finishes = finishes;
    }
      where
        room : nat_lt 0 e ≡ true
        room = grind (arith, nat_tests, more)

        finishes : Finishes Ends zero_call (next (λ x. if_fits (fits_in large count large.items) code.TooLong x (value_of large e q x)))
        finishes = finishes_next_leave Ends (λ x. if_fits (fits_in large count large.items) code.TooLong x (value_of large e q x)) zero_number call_path (q (suc loosest))
            (ap (λ b. if_fits (b || nat_lt count large.items) code.TooLong (Some zero_number) (value_of large e q (Some zero_number))) wide.free ∙
            ap (λ b. if_fits b code.TooNested (Some zero_number) (Leave (q (suc loosest)))) room) (f (suc loosest))

        by : (x : Option Lexed) (b : Bool) → EachPair (Viable Ends) (if b then if_fits (nat_lt 0 d) code.TooNested x (Leave (whole small d p)) else Refuse) (if b then if_fits (nat_lt 0 e) code.TooNested x (Leave (whole large e q)) else Refuse)
        by x true = pair_fits Ends (nat_lt 0 d) (nat_lt 0 e) code.TooNested x (Leave (whole small d p)) (Leave (whole large e q)) (λ t. room) (v (suc loosest))
        by x false = tt

    -- behind the values so far: nothing that goes on an expression, and no comma
    abbrev Closes : Option Lexed → Type 0
    Closes x = Ends x × (sees m.Comma x ≡ false)

    viable_value_more : (list : Values) → Viable Ends (value_more small d p list) (value_more large e q list)
    unfolding value_more
    viable_value_more list = (ready_bind Ends Any (mark m.Comma ∷ []) zero_call (expect m.Comma) (expect m.Comma) _ _ (λ rest f. tt) (ready_expect Any m.Comma)
        (λ o. ready_last Ends zero_call (value small d p (length list.0)) (value large e q (length list.0)) (λ x. (list.0 ++ x.0 ∷ [], max list.1 x.1)) (ready_value (length list.0)))).viable

    module _ (F : Option Lexed → Type 0) where
      ready_some : Ready {A = Values × Place} F (zero_number ∷ mark m.OpenParen ∷ mark m.CloseParen ∷ mark m.CloseParen ∷ [])
          (value small d p 0 >>= (λ x. turns (sees m.Comma) (value_more small d p) small.turns (x.0 ∷ [], x.1) >>= (λ list. expect m.CloseParen >>= (λ end. pure (list, end)))))
          (value large e q 0 >>= (λ x. turns (sees m.Comma) (value_more large e q) large.turns (x.0 ∷ [], x.1) >>= (λ list. expect m.CloseParen >>= (λ end. pure (list, end)))))
      ready_some = ready_bind F Ends zero_call (mark m.CloseParen ∷ []) (value small d p 0) (value large e q 0) _ _ (λ rest f. refl) (ready_value 0)
          (λ x. ready_bind F Closes [] (mark m.CloseParen ∷ []) (turns (sees m.Comma) (value_more small d p) small.turns (x.0 ∷ [], x.1)) (turns (sees m.Comma) (value_more large e q) large.turns (x.0 ∷ [], x.1)) _ _ (λ rest f. (refl, refl))
          (ready_turns Closes Ends (sees m.Comma) (value_more small d p) (value_more large e q) small.turns large.turns (x.0 ∷ [], x.1) wider.turns (λ y c. c.0) (λ y c. c.1) viable_value_more)
          (λ list. ready_last F (mark m.CloseParen ∷ []) (expect m.CloseParen) (expect m.CloseParen) (λ end. (list, end)) (ready_expect F m.CloseParen)))

      ready_values : Ready F (mark m.CloseParen ∷ []) (values small d p) (values large e q)
      unfolding values
      ready_values = record {
        viable = viable_next F (λ x. values_by large e q (sees m.CloseParen x)) (λ x. values_by small d p (sees m.CloseParen x)) (mark m.CloseParen ∷ []) (finishes_values e q F) (λ x. by (sees m.CloseParen x));
        finishes = finishes_values e q F;
      }
        where
          none : Ready {A = Values × Place} F (mark m.CloseParen ∷ []) (expect m.CloseParen >>= (λ end. pure (([], 0), end))) (expect m.CloseParen >>= (λ end. pure (([], 0), end)))
          none = ready_last F (mark m.CloseParen ∷ []) (expect m.CloseParen) (expect m.CloseParen) (λ end. (([], 0), end)) (ready_expect F m.CloseParen)

          by : (b : Bool) → EachPair (Viable F) (values_by small d p b) (values_by large e q b)
          by true = none.viable
          by false = ready_some.viable

      viable_construct : (place : Place) (b : Builtin) → Viable F (construct small d p place b) (construct large e q place b)
      unfolding construct
      viable_construct place b = (ready_bind F Any (mark m.OpenParen ∷ []) (mark m.CloseParen ∷ []) (expect m.OpenParen) (expect m.OpenParen) _ _ (λ rest c. tt) (ready_expect Any m.OpenParen)
          (λ o. ready_last F (mark m.CloseParen ∷ []) (values small d p) (values large e q) (λ r. (valued (span place r.1) (n.Construct b r.0.0), r.0.1 + 1)) ready_values)).viable

      ready_paren : (place : Place) → Ready F (zero_number ∷ mark m.OpenParen ∷ mark m.CloseParen ∷ mark m.CloseParen ∷ []) (paren small d p place) (paren large e q place)
      unfolding paren
      ready_paren place = ready_bind F Ends zero_call (mark m.CloseParen ∷ []) (p (suc loosest)) (q (suc loosest)) _ _ (λ rest c. refl) (ready_inner (suc loosest))
          (λ x. ready_last F (mark m.CloseParen ∷ []) (expect m.CloseParen) (expect m.CloseParen) (λ end. (valued (span place end) (n.Paren x.0), x.1 + 1)) (ready_expect F m.CloseParen))

      viable_index : (x : Value) → Viable F (index small d p x) (index large e q x)
      unfolding index
      viable_index x = (ready_bind F Ends zero_call (mark m.CloseBracket ∷ []) (p (suc loosest)) (q (suc loosest)) _ _ (λ rest c. refl) (ready_inner (suc loosest))
          (λ i. ready_last F (mark m.CloseBracket ∷ []) (expect m.CloseBracket) (expect m.CloseBracket) (λ end. (valued (span x.0.place end) (n.Index x.0 i.0), max x.1 i.1 + 1)) (ready_expect F m.CloseBracket))).viable

      ready_call : (x : Value) → Ready F (mark m.CloseParen ∷ []) (call small d p x) (call large e q x)
      unfolding call
      ready_call x = ready_last F (mark m.CloseParen ∷ []) (values small d p) (values large e q) (λ r. (valued (span x.0.place r.1) (n.Call x.0 r.0.0), max x.1 r.0.1 + 1)) ready_values

    -- ---- primaries

    viable_named : (id : Identifier) → Viable Calls (named small d p id) (named large e q id)
    unfolding named
    viable_named id = viable_bind Calls Calls (given large e id.place) _ [] (λ rest c. c) (given small d id.place) _ (viable_given d e more deep id.place) (λ a. viable_pure Calls _) (λ a. finishes_pure Calls _)

    pair_same : {A : Type 0} (F : Option Lexed → Type 0) (c u : Choice A) → c ≡ Refuse → u ≡ Refuse → EachPair (Viable F) c u
    pair_same F c u g h = subst (λ a. EachPair (Viable F) a u) (sym g) (subst (EachPair (Viable F) Refuse) (sym h) tt)

    pair_word : (t : Lexed) (word : Word) (b : Option Builtin) → EachPair (Viable Calls) (primary_word small d p t word b) (primary_word large e q t word b)
    pair_word t word (Some b) = viable_construct Calls t.place b
    pair_word t word None = by (word_of small d p word t) (word_of large e q word t)
      where
        by : WordOf small d p word t → WordOf large e q word t → EachPair (Viable Calls) (primary_word small d p t word None) (primary_word large e q t word None)
        by (true_word g) w = subst (λ a. EachPair (Viable Calls) (primary_word small d p t a None) (primary_word large e q t a None)) (sym g) (viable_pure Calls _)
        by (false_word g) w = subst (λ a. EachPair (Viable Calls) (primary_word small d p t a None) (primary_word large e q t a None)) (sym g) (viable_pure Calls _)
        by (this_value g) w = subst (λ a. EachPair (Viable Calls) (primary_word small d p t a None) (primary_word large e q t a None)) (sym g) (viable_pure Calls _)
        by (this_type g) w = subst (λ a. EachPair (Viable Calls) (primary_word small d p t a None) (primary_word large e q t a None)) (sym g) (viable_pure Calls _)
        by (other g) (other h) = pair_same Calls (primary_word small d p t word None) (primary_word large e q t word None) g h
        by (other g) (true_word h) = subst (λ a. EachPair (Viable Calls) (primary_word small d p t a None) (primary_word large e q t a None)) (sym h) (viable_pure Calls _)
        by (other g) (false_word h) = subst (λ a. EachPair (Viable Calls) (primary_word small d p t a None) (primary_word large e q t a None)) (sym h) (viable_pure Calls _)
        by (other g) (this_value h) = subst (λ a. EachPair (Viable Calls) (primary_word small d p t a None) (primary_word large e q t a None)) (sym h) (viable_pure Calls _)
        by (other g) (this_type h) = subst (λ a. EachPair (Viable Calls) (primary_word small d p t a None) (primary_word large e q t a None)) (sym h) (viable_pure Calls _)

    pair_primary_by : (t : Lexed) (kind : Kind) → EachPair (Viable Calls) (primary_by small d p t kind) (primary_by large e q t kind)
    pair_primary_by t (k.Number x) = viable_pure Calls _
    pair_primary_by t k.Name = pair_short small large wider Calls t (Take (named small d p (identifier t))) (Take (named large e q (identifier t))) (viable_named (identifier t))
    pair_primary_by t (k.Word word) = pair_word t word (builtin_of word)
    pair_primary_by t k.String = tt
    pair_primary_by t (k.Mark mark) = by (is_mark m.OpenParen (k.Mark mark)) refl
      where
        by : (b : Bool) → is_mark m.OpenParen (k.Mark mark) ≡ b → EachPair (Viable Calls) (primary_by small d p t (k.Mark mark)) (primary_by large e q t (k.Mark mark))
        by true g = subst (λ a. EachPair (Viable Calls) (primary_by small d p t (k.Mark a)) (primary_by large e q t (k.Mark a))) (same_mark m.OpenParen mark g) (ready_paren Calls t.place).viable
        by false g = pair_same Calls (primary_by small d p t (k.Mark mark)) (primary_by large e q t (k.Mark mark)) (primary_other small d p t mark g) (primary_other large e q t mark g)

    ready_primary : Ready Calls (zero_number ∷ []) (next (primary_at small d p)) (next (primary_at large e q))
    ready_primary = record { viable = viable_next Calls (primary_at large e q) (primary_at small d p) (zero_number ∷ []) (finishes_primary e q) go; finishes = finishes_primary e q }
      where
        go : (x : Option Lexed) → EachPair (Viable Calls) (primary_at small d p x) (primary_at large e q x)
        go (Some t) = pair_primary_by t t.kind
        go None = tt

    -- ---- members, indices and calls

    viable_member_name : (x : Value) (id : Identifier) → Viable Calls (member_name small d p x id) (member_name large e q x id)
    unfolding member_name
    viable_member_name x id = viable_bind Calls Calls (given large e id.place) _ [] (λ rest c. c) (given small d id.place) _ (viable_given d e more deep id.place) (λ a. viable_pure Calls _) (λ a. finishes_pure Calls _)

    viable_member : (x : Value) → Viable Calls (next (member_at small d p x)) (next (member_at large e q x))
    unfolding member_name
    viable_member x = viable_next Calls (member_at large e q x) (member_at small d p x) (token k.Name ∷ [])
        (finishes_next_take Calls (member_at large e q x) (token k.Name) [] (member_name large e q x (identifier (token k.Name))) (short_here small large wider (Take (member_name large e q x (identifier (token k.Name)))))
        (finishes_bind Calls Calls (given large e (identifier (token k.Name)).place) _ [] (λ rest c. c) [] (finishes_given d e more deep (identifier (token k.Name)).place) (λ a. finishes_pure Calls _))) go
      where
        by : (t : Lexed) (kind : Kind) → EachPair (Viable Calls) (member_by small d p x t kind) (member_by large e q x t kind)
        by t k.Name = pair_short small large wider Calls t (Take (member_name small d p x (identifier t))) (Take (member_name large e q x (identifier t))) (viable_member_name x (identifier t))
        by t (k.Word word) = tt
        by t (k.Number y) = tt
        by t k.String = tt
        by t (k.Mark mark) = tt

        go : (y : Option Lexed) → EachPair (Viable Calls) (member_at small d p x y) (member_at large e q x y)
        go (Some t) = by t t.kind
        go None = tt

    viable_chain : (x : Value) → Viable Calls (chain small d p x) (chain large e q x)
    unfolding chain
    viable_chain x = viable_next Calls (chain_at large e q x) (chain_at small d p x) call_path (finishes_chain e q Calls x) go
      where
        goes : (t : Option Lexed) (a : Mark) (f g h : Bool) → is_mark m.Dot (k.Mark a) ≡ f → is_mark m.OpenBracket (k.Mark a) ≡ g → is_mark m.OpenParen (k.Mark a) ≡ h →
            EachPair (Viable Calls) (chain_by small d p x t (k.Mark a)) (chain_by large e q x t (k.Mark a))
        goes t a true g h r s u = subst (λ b. EachPair (Viable Calls) (chain_by small d p x t (k.Mark b)) (chain_by large e q x t (k.Mark b))) (same_mark m.Dot a r)
            (pair_over Calls x t (Take (next (member_at small d p x))) (Take (next (member_at large e q x))) (viable_member x))
        goes t a false true h r s u = subst (λ b. EachPair (Viable Calls) (chain_by small d p x t (k.Mark b)) (chain_by large e q x t (k.Mark b))) (same_mark m.OpenBracket a s)
            (pair_over Calls x t (Take (index small d p x)) (Take (index large e q x)) (viable_index Calls x))
        goes t a false false true r s u = subst (λ b. EachPair (Viable Calls) (chain_by small d p x t (k.Mark b)) (chain_by large e q x t (k.Mark b))) (same_mark m.OpenParen a u)
            (pair_over Calls x t (Take (call small d p x)) (Take (call large e q x)) (ready_call Calls x).viable)
        goes t a false false false r s u = pair_same Calls (chain_by small d p x t (k.Mark a)) (chain_by large e q x t (k.Mark a)) (chain_other small d p x t a r s u) (chain_other large e q x t a r s u)

        by : (t : Option Lexed) (kind : Kind) → EachPair (Viable Calls) (chain_by small d p x t kind) (chain_by large e q x t kind)
        by t (k.Mark a) = goes t a (is_mark m.Dot (k.Mark a)) (is_mark m.OpenBracket (k.Mark a)) (is_mark m.OpenParen (k.Mark a)) refl refl refl
        by t k.Name = tt
        by t (k.Word word) = tt
        by t (k.Number y) = tt
        by t k.String = tt

        go : (t : Option Lexed) → EachPair (Viable Calls) (chain_at small d p x t) (chain_at large e q x t)
        go (Some t) = by (Some t) t.kind
        go None = tt

    pub ready_chain_rest : (x : Value) → Ready Ends call_path (chain_rest small d p x) (chain_rest large e q x)
    unfolding chain_rest
    ready_chain_rest x = ready_more Ends Calls (chains large e q) (λ y c. ends_chain y c) (chain large e q) (mark m.OpenParen) (mark m.CloseParen ∷ []) refl refl (finishes_chain e q Ends) (chain small d p) viable_chain small.turns large.turns
        (let h = wide.turns in omega (arith, h)) x

    pub ready_postfix : Ready Ends zero_call (postfix small d p) (postfix large e q)
    unfolding postfix
    ready_postfix = ready_bind Ends Calls (zero_number ∷ []) call_path (next (primary_at small d p)) (next (primary_at large e q)) (chain_rest small d p) (chain_rest large e q) (λ rest c. refl) ready_primary ready_chain_rest

    -- ---- operators before an operand, and casts

    ready_cast_to : (place : Place) (b : Builtin) → Ready Ends zero_call (cast_by small d p place (Some b)) (cast_by large e q place (Some b))
    ready_cast_to place b = ready_last Ends zero_call (p zero) (q zero) (λ x. (valued (span place x.0.place) (n.Cast b x.0), x.1 + 1)) (ready_inner zero)

    viable_cast_by : (place : Place) (b : Option Builtin) → Viable Ends (cast_by small d p place b) (cast_by large e q place b)
    viable_cast_by place (Some b) = (ready_cast_to place b).viable
    viable_cast_by place None = (ready_bind Ends Calls (zero_number ∷ mark m.OpenParen ∷ mark m.CloseParen ∷ mark m.CloseParen ∷ []) call_path (paren small d p place) (paren large e q place) (chain_rest small d p) (chain_rest large e q) (λ rest c. refl)
        (ready_paren Calls place) ready_chain_rest).viable

    pair_unary_mark : (t : Lexed) (op : Option UnaryOperator) → EachPair (Viable Ends) (unary_mark small d p t op) (unary_mark large e q t op)
    unfolding prefix
    pair_unary_mark t (Some op) = (ready_last Ends zero_call (p zero) (q zero) (λ x. (valued (span t.place x.0.place) (n.Unary op x.0), x.1 + 1)) (ready_inner zero)).viable
    pair_unary_mark t None = ready_postfix.viable

    pair_unary_by : (t : Lexed) (kind : Kind) → EachPair (Viable Ends) (unary_by small d p t kind) (unary_by large e q t kind)
    pair_unary_by t (k.Mark a) = by (is_mark m.OpenParen (k.Mark a)) refl
      where
        by : (b : Bool) → is_mark m.OpenParen (k.Mark a) ≡ b → EachPair (Viable Ends) (unary_by small d p t (k.Mark a)) (unary_by large e q t (k.Mark a))
        by true g = subst (λ b. EachPair (Viable Ends) (unary_by small d p t (k.Mark b)) (unary_by large e q t (k.Mark b))) (same_mark m.OpenParen a g)
            (viable_attempt Ends Any cast_ahead (cast_by large e q t.place) zero_call (λ rest c. tt) cast_ahead (cast_by small d p t.place) (viable_cast_ahead Any) (viable_cast_by t.place) (λ b. (ready_cast_to t.place b).finishes))
        by false g = subst (λ c. EachPair (Viable Ends) c (unary_by large e q t (k.Mark a))) (sym (unary_other small d p t a g))
            (subst (EachPair (Viable Ends) (unary_mark small d p t (unary_of a))) (sym (unary_other large e q t a g)) (pair_unary_mark t (unary_of a)))
    pair_unary_by t k.Name = ready_postfix.viable
    pair_unary_by t (k.Word word) = ready_postfix.viable
    pair_unary_by t (k.Number x) = ready_postfix.viable
    pair_unary_by t k.String = ready_postfix.viable

    ready_unary : Ready Ends zero_call (unary small d p) (unary large e q)
    unfolding unary
    ready_unary = record { viable = viable_next Ends (unary_at large e q) (unary_at small d p) zero_call (finishes_unary e q) go; finishes = finishes_unary e q }
      where
        go : (t : Option Lexed) → EachPair (Viable Ends) (unary_at small d p t) (unary_at large e q t)
        go (Some t) = pair_unary_by t t.kind
        go None = tt

    -- ---- operators between operands

    ready_operand : (l : ℕ) (op : BinaryOperator) (x : Value) → Ready Ends zero_call (operand small d p l op x) (operand large e q l op x)
    unfolding operand
    ready_operand l op x = ready_last Ends zero_call (p l) (q l) (λ z. Some (valued (span x.0.place z.0.place) (n.Binary op x.0 z.0), max x.1 z.1 + 1)) (ready_inner l)

    viable_greater : (l : ℕ) (place : Place) (x : Value) → Viable Ends (greater small d p l place x) (greater large e q l place x)
    unfolding greater
    viable_greater l place x = viable_next Ends (λ t. if joined m.Equal place t then Take (operand large e q l o.GreaterEqual x) else Leave (operand large e q l o.Greater x))
        (λ t. if joined m.Equal place t then Take (operand small d p l o.GreaterEqual x) else Leave (operand small d p l o.Greater x)) zero_call
        (finishes_next_leave Ends (λ t. if joined m.Equal place t then Take (operand large e q l o.GreaterEqual x) else Leave (operand large e q l o.Greater x)) zero_number call_path (operand large e q l o.Greater x) refl
        (ready_operand l o.Greater x).finishes) (λ t. by (joined m.Equal place t))
      where
        by : (b : Bool) → EachPair (Viable Ends) (if b then Take (operand small d p l o.GreaterEqual x) else Leave (operand small d p l o.Greater x)) (if b then Take (operand large e q l o.GreaterEqual x) else Leave (operand large e q l o.Greater x))
        by true = (ready_operand l o.GreaterEqual x).viable
        by false = (ready_operand l o.Greater x).viable

    shift_here : (l : ℕ) (x : Value) (place : Place) → shift_by large e q l x (Some place) ≡ operand large e q l o.ShiftRight x
    shift_here l x place = ap (λ b. if b || nat_lt x.1 (suc e) then operand large e q l o.ShiftRight x else past code.TooNested place) wide.free

    finishes_shift_by : (l : ℕ) (x : Value) (place : Place) → Finishes Ends zero_call (shift_by large e q l x (Some place))
    finishes_shift_by l x place = subst (Finishes Ends zero_call) (sym (shift_here l x place)) (ready_operand l o.ShiftRight x).finishes

    viable_shift_by : (l : ℕ) (x : Value) (place : Option Place) → Viable Ends (shift_by small d p l x place) (shift_by large e q l x place)
    viable_shift_by l x (Some place) = subst (Viable Ends (shift_by small d p l x (Some place))) (sym (shift_here l x place)) (by (fits_in small x.1 (suc d)))
      where
        by : (b : Bool) → Viable Ends (if b then operand small d p l o.ShiftRight x else past code.TooNested place) (operand large e q l o.ShiftRight x)
        by true = (ready_operand l o.ShiftRight x).viable
        by false = viable_past Ends code.TooNested place (operand large e q l o.ShiftRight x) (ready_operand l o.ShiftRight x).viable.whole
    viable_shift_by l x None = viable_pure Ends None

    pair_operator_mark : (l : ℕ) (x : Value) (t : Lexed) (op : Option BinaryOperator) → EachPair (Viable Ends) (operator_mark small d p l x t op) (operator_mark large e q l x t op)
    pair_operator_mark l x t None = viable_pure Ends None
    pair_operator_mark l x t (Some op) = by (level_of op == l)
      where
        by : (b : Bool) → EachPair (Viable Ends) (if b then over small d p x (Some t) (Take (operand small d p l op x)) else Leave (pure None)) (if b then over large e q x (Some t) (Take (operand large e q l op x)) else Leave (pure None))
        by true = pair_over Ends x (Some t) (Take (operand small d p l op x)) (Take (operand large e q l op x)) (ready_operand l op x).viable
        by false = viable_pure Ends None

    pair_greater : (l : ℕ) (x : Value) (t : Lexed) (a b : Bool) →
        EachPair (Viable Ends) (if a then over small d p x (Some t) (Take (greater small d p l t.place x)) else (if b then Leave (attempt shift_ahead (shift_by small d p l x)) else Leave (pure None)))
        (if a then over large e q x (Some t) (Take (greater large e q l t.place x)) else (if b then Leave (attempt shift_ahead (shift_by large e q l x)) else Leave (pure None)))
    pair_greater l x t true b = pair_over Ends x (Some t) (Take (greater small d p l t.place x)) (Take (greater large e q l t.place x)) (viable_greater l t.place x)
    pair_greater l x t false true = viable_attempt Ends Any shift_ahead (shift_by large e q l x) zero_call (λ rest c. tt) shift_ahead (shift_by small d p l x) (viable_shift_ahead Any) (viable_shift_by l x) (finishes_shift_by l x)
    pair_greater l x t false false = viable_pure Ends None

    pair_operator_by : (l : ℕ) (x : Value) (t : Lexed) (kind : Kind) → EachPair (Viable Ends) (operator_by small d p l x t kind) (operator_by large e q l x t kind)
    pair_operator_by l x t (k.Mark a) = by (is_mark m.Greater (k.Mark a)) refl
      where
        by : (b : Bool) → is_mark m.Greater (k.Mark a) ≡ b → EachPair (Viable Ends) (operator_by small d p l x t (k.Mark a)) (operator_by large e q l x t (k.Mark a))
        by true g = subst (λ b. EachPair (Viable Ends) (operator_by small d p l x t (k.Mark b)) (operator_by large e q l x t (k.Mark b))) (same_mark m.Greater a g) (pair_greater l x t (l == level_of o.Greater) (l == level_of o.ShiftRight))
        by false g = subst (λ c. EachPair (Viable Ends) c (operator_by large e q l x t (k.Mark a))) (sym (operator_other small d p l x t a g))
            (subst (EachPair (Viable Ends) (operator_mark small d p l x t (binary_of a))) (sym (operator_other large e q l x t a g)) (pair_operator_mark l x t (binary_of a)))
    pair_operator_by l x t k.Name = viable_pure Ends None
    pair_operator_by l x t (k.Word word) = viable_pure Ends None
    pair_operator_by l x t (k.Number y) = viable_pure Ends None
    pair_operator_by l x t k.String = viable_pure Ends None

    viable_operator : (l : ℕ) (x : Value) → Viable Ends (operator small d p l x) (operator large e q l x)
    unfolding operator
    viable_operator l x = viable_next Ends (operator_at large e q l x) (operator_at small d p l x) [] (finishes_operator e q l x) go
      where
        go : (t : Option Lexed) → EachPair (Viable Ends) (operator_at small d p l x t) (operator_at large e q l x t)
        go (Some t) = pair_operator_by l x t t.kind
        go None = viable_pure Ends None

    ready_level : (l : ℕ) → Ready Ends zero_call (level small d p l) (level large e q l)
    unfolding level
    ready_level zero = ready_unary
    ready_level (suc l) = ready_bind Ends Ends zero_call [] (level small d p l) (level large e q l) (repeats (operator small d p l) small.turns) (repeats (operator large e q l) large.turns) (λ rest f. f) (ready_level l)
        (λ x. ready_repeats Ends (operator large e q l) (quits_operator e q l) (operator small d p l) (viable_operator l) small.turns large.turns (let h = wide.turns in omega (arith, h)) x)

    -- ---- choices

    viable_choice : (x : Value) → Viable Ends (choice small d p x) (choice large e q x)
    unfolding choice
    viable_choice x = (ready_bind Ends Ends zero_call (mark m.Colon ∷ zero_call) (p (suc loosest)) (q (suc loosest)) _ _ (λ rest f. refl) (ready_inner (suc loosest))
        (λ y. ready_bind Ends Any (mark m.Colon ∷ []) zero_call (expect m.Colon) (expect m.Colon) _ _ (λ rest f. tt) (ready_expect Any m.Colon)
        (λ c. ready_last Ends zero_call (p (suc loosest)) (q (suc loosest)) (λ z. (valued (span x.0.place z.0.place) (n.Choice x.0 y.0 z.0), max x.1 (max y.1 z.1) + 1)) (ready_inner (suc loosest))))).viable

    ready_choice_rest : (x : Value) → Ready Ends [] (choice_rest small d p x) (choice_rest large e q x)
    unfolding choice_rest
    ready_choice_rest x = record {
      viable = viable_next Ends (λ t. choice_by large e q x t (sees m.Question t)) (λ t. choice_by small d p x t (sees m.Question t)) [] (finishes_choice_rest e q x) (λ t. by t (sees m.Question t));
      finishes = finishes_choice_rest e q x;
    }
      where
        by : (t : Option Lexed) (b : Bool) → EachPair (Viable Ends) (choice_by small d p x t b) (choice_by large e q x t b)
        by t true = pair_over Ends x t (Take (choice small d p x)) (Take (choice large e q x)) (viable_choice x)
        by t false = viable_pure Ends x

    ready_at_level : (l : ℕ) (b : Bool) → Ready Ends zero_call (at_level small d p l b) (at_level large e q l b)
    ready_at_level l true = ready_bind Ends Ends zero_call [] (level small d p loosest) (level large e q loosest) (choice_rest small d p) (choice_rest large e q) (λ rest f. f) (ready_level loosest) ready_choice_rest
    ready_at_level l false = ready_level l

-- ---- where nothing begins an expression

module _ (limits : Limits) (d : ℕ) (inner : ℕ → Parser Value) where
  pub refuses_word : (t : Lexed) (word : Word) → word_begins word ≡ false → (b : Option Builtin) → builtin_of word ≡ b → primary_word limits d inner t word b ≡ Refuse
  refuses_word t word g (Some b) e = let c : true ≡ false = sym (begins_builtin word b e) ∙ g in cc
  refuses_word t word g None e = by (word_of limits d inner word t)
    where
      differ : (a : Word) → word ≡ a → word_begins a ≡ true → ⊥
      differ a h i = let c : true ≡ false = sym i ∙ (ap word_begins (sym h) ∙ g) in cc

      by : WordOf limits d inner word t → primary_word limits d inner t word None ≡ Refuse
      by (true_word h) = absurd (differ w.True h refl)
      by (false_word h) = absurd (differ w.False h refl)
      by (this_value h) = absurd (differ w.ThisValue h refl)
      by (this_type h) = absurd (differ w.ThisType h refl)
      by (other h) = h

  refuses : (t : Lexed) (kind : Kind) → begins_by kind ≡ false → (unary_by limits d inner t kind ≡ Leave (postfix limits d inner)) × (primary_by limits d inner t kind ≡ Refuse)
  refuses t k.Name g = cc
  refuses t (k.Number v) g = cc
  refuses t k.String g = (refl, refl)
  refuses t (k.Word word) g = (refl, refuses_word t word g (builtin_of word) refl)
  refuses t (k.Mark a) g = by (is_mark m.OpenParen (k.Mark a)) refl (unary_of a) refl
    where
      paren_begins : m.OpenParen ≡ a → ⊥
      paren_begins h = let c : true ≡ false = ap (λ b. begins_by (k.Mark b)) h ∙ g in cc

      unary_begins : (op : UnaryOperator) → unary_of a ≡ Some op → ⊥
      unary_begins op h = let c : true ≡ false = sym (begins_unary a op h) ∙ g in cc

      by : (b : Bool) → is_mark m.OpenParen (k.Mark a) ≡ b → (op : Option UnaryOperator) → unary_of a ≡ op → (unary_by limits d inner t (k.Mark a) ≡ Leave (postfix limits d inner)) × (primary_by limits d inner t (k.Mark a) ≡ Refuse)
      by true h op i = absurd (paren_begins (same_mark m.OpenParen a h))
      by false h (Some op) i = absurd (unary_begins op i)
      by false h None i = (unary_other limits d inner t a h ∙ ap (unary_mark limits d inner t) i, primary_other limits d inner t a h)

  module _ (ts : List Lexed) (at : ℕ) (nothing : begins (first (drop at ts)) ≡ false) where
    unary_stops : (seen : ℕ) → unary limits d inner ts at seen ≡ Stop (max seen (at + 1))
    unfolding unary postfix bind next
    unary_stops seen = go (first (drop at ts)) refl nothing
      where
        again : (s : ℕ) → max (max s (at + 1)) (at + 1) ≡ max s (at + 1)
        again s = omega arith

        go : (x : Option Lexed) → first (drop at ts) ≡ x → begins x ≡ false → chosen (first (drop at ts)) (unary_at limits d inner (first (drop at ts))) ts at (max seen (at + 1)) ≡ Stop (max seen (at + 1))
        go None e g = ap (λ x. chosen x (unary_at limits d inner x) ts at (max seen (at + 1))) e
        go (Some t) e g = let r = refuses t t.kind g in
            ap (λ x. chosen x (unary_at limits d inner x) ts at (max seen (at + 1))) e ∙
            (ap (λ c. chosen (Some t) c ts at (max seen (at + 1))) r.0 ∙
            (ap (λ x. and_then (chosen x (primary_at limits d inner x) ts at (max (max seen (at + 1)) (at + 1))) (λ a at1 seen1. chain_rest limits d inner a ts at1 seen1)) e ∙
            (ap (λ c. and_then (chosen (Some t) c ts at (max (max seen (at + 1)) (at + 1))) (λ a at1 seen1. chain_rest limits d inner a ts at1 seen1)) r.1 ∙ ap Stop (again seen))))

    level_stops : (l seen : ℕ) → level limits d inner l ts at seen ≡ Stop (max seen (at + 1))
    unfolding level bind
    level_stops zero seen = unary_stops seen
    level_stops (suc l) seen = ap (λ o. and_then o (λ a at1 seen1. repeats (operator limits d inner l) limits.turns a ts at1 seen1)) (level_stops l seen)

    at_level_stops : (l : ℕ) (b : Bool) (seen : ℕ) → at_level limits d inner l b ts at seen ≡ Stop (max seen (at + 1))
    unfolding bind
    at_level_stops l true seen = ap (λ o. and_then o (λ a at1 seen1. choice_rest limits d inner a ts at1 seen1)) (level_stops loosest seen)
    at_level_stops l false seen = level_stops l seen

-- No node is left for the first of the two: where an expression begins it passes the limit, and the second reads the path.
module _ (small : Limits) (l : ℕ) (q : Parser Value) (h : Tame q) (f : Finishes Ends zero_call q) (stops : (ts : List Lexed) (at seen : ℕ) → begins (first (drop at ts)) ≡ false → q ts at seen ≡ Stop (max seen (at + 1)))
    (tame : Tame (leveled small zero l)) where
  viable_nothing : Viable Ends (leveled small zero l) q
  unfolding leveled next
  viable_nothing = record {
    tame = tame;
    whole = h;
    grows = record { same = λ ts at seen. grows ts at seen (first (drop at ts)) (begins (first (drop at ts))) refl };
    completes = λ ts at seen. completes ts at seen (first (drop at ts)) (begins (first (drop at ts)));
  }
    where
      grows : (ts : List Lexed) (at seen : ℕ) (x : Option Lexed) (b : Bool) → begins (first (drop at ts)) ≡ b →
          (q ts at seen ≡ chosen x (if b then if_fits false code.TooNested x (Take (past code.TooNested (place_of x))) else Refuse) ts at (max seen (at + 1))) ⊎
          IsPast {A = Value} (chosen x (if b then if_fits false code.TooNested x (Take (past code.TooNested (place_of x))) else Refuse) ts at (max seen (at + 1)))
      grows ts at seen (Some t) true e = inr tt
      grows ts at seen None true e = inr tt
      grows ts at seen (Some t) false e = inl (stops ts at seen e)
      grows ts at seen None false e = inl (stops ts at seen e)

      complete : (ts : List Lexed) (at seen k : ℕ) → max seen (at + 1) ≡ k + 1 → seen ≤ k → Completion Ends q ts at seen k
      complete ts at seen k e le = let n : at ≡ k = omega (arith, e, le) in
          subst (λ k. Completion Ends q ts at seen k) n (record { path = zero_call; reads = λ us rest s e g. f.reads us rest at seen e g })

      completes : (ts : List Lexed) (at seen : ℕ) (x : Option Lexed) (b : Bool) → (k : ℕ) →
          seen_of {A = Value} (chosen x (if b then if_fits false code.TooNested x (Take (past code.TooNested (place_of x))) else Refuse) ts at (max seen (at + 1))) ≡ k + 1 → seen ≤ k → Completion Ends q ts at seen k
      completes ts at seen (Some t) true = λ k e le. complete ts at seen k e le
      completes ts at seen None true = λ k e le. complete ts at seen k e le
      completes ts at seen (Some t) false = λ k e le. complete ts at seen k e le
      completes ts at seen None false = λ k e le. complete ts at seen k e le

-- Expressions of so many nodes beside expressions of many more: what was looked at of the first, but for the last token,
-- goes on to be one of the second.
module _ (small large : Limits) (wide : Roomier small large) where
  pub ready_leveled : (e d l : ℕ) → large.turns + 2 + d < e → Ready Ends zero_call (leveled small d l) (leveled large e l)
  unfolding leveled
  ready_leveled zero d l h = absurd (omega arith)
  ready_leveled (suc e) zero l h =
      let f = finishes_at_level small large wide e (leveled large e) l (l == suc loosest) in
      record {
        viable = viable_nothing small l (at_level large e (leveled large e) l (l == suc loosest)) (tame_leveled small large wide (suc e) l) f
            (λ ts at seen g. at_level_stops large e (leveled large e) ts at g l (l == suc loosest) seen) (tame_nothing small large wide small l);
        finishes = f;
      }
  ready_leveled (suc e) (suc d) l h =
      ready_at_level small large wide d e (omega (arith, h)) (omega (arith, h)) (leveled small d) (leveled large e) (λ l. (ready_leveled e d l (omega (arith, h))).viable) (λ l. (ready_leveled e d l (omega (arith, h))).finishes) l (l == suc loosest)
