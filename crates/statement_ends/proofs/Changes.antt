-- Changes and calls, and what is either locals or a change: what was looked at, but for the last token, goes on to be one.
use Rattle.std.proofs.Common.{Bool, true, false, ◌≡◌, ℕ, suc, ◌+◌, ◌<◌, ◌≤◌, List, [], ◌∷◌, Option, Some, None, refl, sym, ap, subst, eq-eqb, arith}
use Rattle.slang_names.specs.declared.places.Place.{Place}
use Rattle.slang_tree.specs.declared.expressions.BinaryOperator.{BinaryOperator}
use Rattle.slang_tree.specs.declared.expressions.BinaryOperator.TheVariants as o
use Rattle.slang_tree.specs.declared.expressions.ExprTree.{ExprTree}
use Rattle.slang_tree.specs.declared.statements.Step.{Step}
use Rattle.slang_tree.specs.declared.statements.ChangeNode.TheVariants as c
use Rattle.slang_tokens.specs.declared.tokens.Kind.{Kind}
use Rattle.slang_tokens.specs.declared.tokens.Kind.TheVariants as k
use Rattle.slang_tokens.specs.declared.tokens.Mark.{Mark}
use Rattle.slang_tokens.specs.declared.tokens.Mark.TheVariants as m
use Rattle.slang_tokens.specs.declared.tokens.Word.TheVariants as w
use Rattle.slang_reading.specs.Lexed.{Lexed}
use Rattle.slang_reading.specs.Reading.{Done, Parser, ◌>>=◌, pure, place_of, next, foresee}
use Rattle.slang_reading.specs.Kinds.{sees_word, span}
use Rattle.slang_reading.proofs.Tame.{seen_of, Tame}
use Rattle.slang_reading.proofs.Viable.{grown, Reaches, Completion, Finishes, Viable, viable_pure, finishes_pure, viable_bind, EachPair, finishes_next_take, viable_next, Ready, ready_bind, ready_last}
use Rattle.slang_grammar.specs.Descent.{Limits, name}
use Rattle.slang_grammar.specs.TypesDescent.{Type_, types}
use Rattle.slang_grammar.specs.ExpressionsDescent.{joined, expressions}
use Rattle.slang_grammar.proofs.TypesReady.{token, mark, int_word, ready_types}
use Rattle.expression_grammar.proofs.Ready.{Ends, zero_call}
use Rattle.statement_grammar.specs.declared.tables.ChangeUse.{ChangeUse}
use Rattle.statement_grammar.specs.declared.tables.ChangeUse.TheVariants as what
use Rattle.statement_grammar.specs.Tables.{change_use}
use Rattle.statement_grammar.specs.Statements.{changed, assigned, is_call}
use Rattle.statement_grammar.specs.LocalsAhead.{name_ahead, local_ahead}
use Rattle.statement_grammar.specs.StatementsDescent.{declared_name, one_name, names_rest, variable, constant, operands, Simple, IsLocal, assign, shift_last_by, shift_last, shift_by, shift_assign, called, change_as, change_kind, change_at, change_rest, step_before, place_change, begin_as, begin_kind, begin_at, change, either, simple_by, simple}
use Rattle.statement_ends.proofs.Roomy.{roomy, roomy_self, word}
use Rattle.statement_ends.proofs.Leading.{bind_bind, parted, joined_reach, Sooner, sooner_pure, sooner_bind, sooner_before}
use Rattle.statement_ends.proofs.Foreseeing.{completion_foresee, viable_foresee_by}
use Rattle.statement_ends.proofs.Operands.{ready_operands}
use Rattle.statement_ends.proofs.Names.{ready_value}
use Rattle.statement_ends.proofs.Ahead.{leads_ahead, sooner_ahead}
use Rattle.statement_ends.proofs.AheadTwice.{viable_local_ahead}
use Rattle.statement_ends.proofs.Locals.{Settled, ready_names, ready_variable, ready_constant}

-- a mark directly behind a place
abbrev behind : Mark → Place → Lexed
behind a p = record { kind = k.Mark a; place = record { start = p.end; end = p.end }; bytes = [] }

module _ (limits : Limits) (d e : ℕ) (h : (roomy limits).turns + 3 + d < e) where
  abbrev large : Limits
  large = roomy limits

  -- ---- changes

  ready_assign : (x : ExprTree) (op : Option BinaryOperator) → Ready Ends zero_call (assign limits d x op) (assign large e x op)
  unfolding assign
  ready_assign x op = ready_last Ends zero_call (expressions limits d) (expressions large e) (λ y. changed (span x.place y.0.place) (assigned op x y.0)) (ready_value limits e d (omega (arith, h)))

  ready_shift_last : (x : ExprTree) (p : Place) → Ready Ends (behind m.Equal p ∷ zero_call) (shift_last limits d x p) (shift_last large e x p)
  unfolding shift_last
  ready_shift_last x p = record { viable = viable_next Ends (λ t. shift_last_by large e x (joined m.Equal p t)) (λ t. shift_last_by limits d x (joined m.Equal p t)) (behind m.Equal p ∷ zero_call) finishes (λ t. by (joined m.Equal p t)); finishes = finishes }
    where
      finishes : Finishes Ends (behind m.Equal p ∷ zero_call) (next (λ t. shift_last_by large e x (joined m.Equal p t)))
      finishes = finishes_next_take Ends (λ t. shift_last_by large e x (joined m.Equal p t)) (behind m.Equal p) zero_call (assign large e x (Some o.ShiftRight)) (ap (shift_last_by large e x) (eq-eqb p.end p.end refl)) (ready_assign x (Some o.ShiftRight)).finishes

      by : (b : Bool) → EachPair (Viable Ends) (shift_last_by limits d x b) (shift_last_by large e x b)
      by true = (ready_assign x (Some o.ShiftRight)).viable
      by false = tt

  abbrev shift_path : Place → List Lexed
  shift_path p = behind m.Greater p ∷ behind m.Equal (behind m.Greater p).place ∷ zero_call

  viable_shift : (x : ExprTree) (p : Place) → Viable Ends (shift_assign limits d x p) (shift_assign large e x p)
  unfolding shift_assign
  viable_shift x p = viable_next Ends (λ t. shift_by large e x t (joined m.Greater p t)) (λ t. shift_by limits d x t (joined m.Greater p t)) (shift_path p)
      (finishes_next_take Ends (λ t. shift_by large e x t (joined m.Greater p t)) (behind m.Greater p) (behind m.Equal (behind m.Greater p).place ∷ zero_call) (shift_last large e x (behind m.Greater p).place)
      (ap (shift_by large e x (Some (behind m.Greater p))) (eq-eqb p.end p.end refl)) (ready_shift_last x (behind m.Greater p).place).finishes)
      (λ t. by t (joined m.Greater p t))
    where
      by : (t : Option Lexed) (b : Bool) → EachPair (Viable Ends) (shift_by limits d x t b) (shift_by large e x t b)
      by t true = (ready_shift_last x (place_of t)).viable
      by t false = tt

  pair_called : (x : ExprTree) (b : Bool) → EachPair (Viable Ends) (called limits d x b) (called large e x b)
  pair_called x true = viable_pure Ends _
  pair_called x false = tt

  pair_as : (x : ExprTree) (t : Lexed) (v : ChangeUse) → EachPair (Viable Ends) (change_as limits d x t v) (change_as large e x t v)
  pair_as x t what.Assign = (ready_assign x None).viable
  pair_as x t (what.Update op) = (ready_assign x (Some op)).viable
  pair_as x t what.Shift = viable_shift x t.place
  pair_as x t (what.Step step) = viable_pure Ends _
  pair_as x t what.End = pair_called x (is_call x.node)

  ready_change_rest : (x : ExprTree) → Ready Ends (mark m.PlusPlus ∷ []) (change_rest limits d x) (change_rest large e x)
  unfolding change_rest
  ready_change_rest x = record { viable = viable_next Ends (change_at large e x) (change_at limits d x) (mark m.PlusPlus ∷ []) finishes go; finishes = finishes }
    where
      finishes : Finishes Ends (mark m.PlusPlus ∷ []) (next (change_at large e x))
      finishes = finishes_next_take Ends (change_at large e x) (mark m.PlusPlus) [] (pure _) refl (finishes_pure Ends _)

      by : (t : Lexed) (kind : Kind) → EachPair (Viable Ends) (change_kind limits d x t kind) (change_kind large e x t kind)
      by t (k.Mark a) = pair_as x t (change_use a)
      by t k.Name = pair_called x (is_call x.node)
      by t (k.Word word) = pair_called x (is_call x.node)
      by t (k.Number v) = pair_called x (is_call x.node)
      by t k.String = pair_called x (is_call x.node)

      go : (t : Option Lexed) → EachPair (Viable Ends) (change_at limits d x t) (change_at large e x t)
      go (Some t) = by t t.kind
      go None = pair_called x (is_call x.node)

  ready_step_before : (begin : Place) (step : Step) → Ready Ends zero_call (step_before limits d begin step) (step_before large e begin step)
  unfolding step_before
  ready_step_before begin step = ready_last Ends zero_call (operands limits d) (operands large e) (λ x. changed (span begin x.0.place) (c.StepBefore step x.0)) (ready_operands limits e d h)

  viable_place_change : Viable Ends (place_change limits d) (place_change large e)
  unfolding place_change
  viable_place_change = (ready_bind Ends Ends zero_call (mark m.PlusPlus ∷ []) (operands limits d) (operands large e) (λ x. change_rest limits d x.0) (λ x. change_rest large e x.0) (λ rest f. refl) (ready_operands limits e d h) (λ x. ready_change_rest x.0)).viable

  pair_begin : (t : Lexed) (v : ChangeUse) → EachPair (Viable Ends) (begin_as limits d t v) (begin_as large e t v)
  pair_begin t (what.Step step) = (ready_step_before t.place step).viable
  pair_begin t what.Assign = viable_place_change
  pair_begin t (what.Update op) = viable_place_change
  pair_begin t what.Shift = viable_place_change
  pair_begin t what.End = viable_place_change

  pub ready_change : Ready Ends (mark m.PlusPlus ∷ zero_call) (change limits d) (change large e)
  unfolding change
  ready_change = record { viable = viable_next Ends (begin_at large e) (begin_at limits d) (mark m.PlusPlus ∷ zero_call) finishes go; finishes = finishes }
    where
      finishes : Finishes Ends (mark m.PlusPlus ∷ zero_call) (next (begin_at large e))
      finishes = finishes_next_take Ends (begin_at large e) (mark m.PlusPlus) zero_call _ refl (ready_step_before _ _).finishes

      by : (t : Lexed) (kind : Kind) → EachPair (Viable Ends) (begin_kind limits d t kind) (begin_kind large e t kind)
      by t (k.Mark a) = pair_begin t (change_use a)
      by t k.Name = viable_place_change
      by t (k.Word word) = viable_place_change
      by t (k.Number v) = viable_place_change
      by t k.String = viable_place_change

      go : (t : Option Lexed) → EachPair (Viable Ends) (begin_at limits d t) (begin_at large e t)
      go (Some t) = by t t.kind
      go None = viable_place_change

  -- ---- either

  -- behind the type of locals
  abbrev Behind : Type_ → Parser Simple
  Behind x = names_rest large e x.0.place false x.0 >>= (λ y. pure (IsLocal y))

  ready_behind : (x : Type_) → Ready Settled (token k.Name ∷ []) (names_rest limits d x.0.place false x.0 >>= (λ y. pure (IsLocal y))) (Behind x)
  ready_behind x = ready_last Settled (token k.Name ∷ []) (names_rest limits d x.0.place false x.0) (names_rest large e x.0.place false x.0) IsLocal (ready_names limits d e h x.0.place false x.0)

  starts : (x : Type_) → Sooner (name_ahead large) (Behind x)
  unfolding name_ahead names_rest one_name declared_name
  starts x = sooner_before _ _ _ (sooner_before _ _ _ (sooner_before _ _ _ (sooner_bind (name large) (λ id. pure tt) _ (λ id. sooner_pure tt _))))

  viable_either : (b : Bool) → Viable Settled (either limits d b) (either large e b)
  viable_either true = (ready_last Settled (int_word ∷ token k.Name ∷ []) (variable limits d) (variable large e) IsLocal (ready_variable limits d e h)).viable
  viable_either false = viable_bind Settled Ends (change large e) _ [] (λ rest f. f.0) (change limits d) _ ready_change.viable (λ x. viable_pure Settled _) (λ x. finishes_pure Settled _)

  -- what is read of locals ahead is read with more nodes too
  reads_locals : (us : List Lexed) (at seen to : ℕ) → Reaches (types large (suc large.turns) >>= Behind) us at seen to → Reaches (either large e true) us at seen to
  unfolding variable
  reads_locals us at seen to r =
      let p = parted (types large (suc large.turns)) Behind us at seen to r in
      let more = (ready_types large large (roomy_self limits) e (suc large.turns) (omega (arith, h))).viable.grows in
      let again = grown (types large (suc large.turns)) (types large e) more us at seen (Done p.0 p.1 p.2) p.3 (λ x. x) in
      subst (λ q. Reaches q us at seen to) (sym (bind_bind (types large e) (λ x. names_rest large e x.0.place false x.0) (λ y. pure (IsLocal y))))
      (joined_reach (types large e) Behind us at seen p.1 p.2 to p.0 again p.4)

  viable_simple_ahead : Viable Settled (foresee (local_ahead limits) (either limits d)) (foresee (local_ahead large) (either large e))
  viable_simple_ahead =
      let v = viable_local_ahead limits in
      viable_foresee_by Settled (local_ahead limits) (local_ahead large) (either limits d) (either large e) v.tame v.whole v.grows viable_either front
    where
      tame_behind : (x : Type_) → Tame (Behind x)
      tame_behind x = (ready_behind x).viable.whole

      ends_behind : (x : Type_) → Finishes Settled (token k.Name ∷ []) (Behind x)
      ends_behind x = (ready_behind x).finishes

      front : (ts : List Lexed) (at seen i : ℕ) → seen_of (local_ahead limits ts at seen) ≡ i + 1 → seen ≤ i → Completion Settled (foresee (local_ahead large) (either large e)) ts at seen i
      front ts at seen i n l = completion_foresee Settled (local_ahead large) (either large e) (types large (suc large.turns) >>= Behind) (sooner_ahead limits Settled Behind tame_behind ends_behind starts) (viable_either true).whole reads_locals ts at seen i
          ((leads_ahead limits Settled Behind tame_behind ends_behind).completes ts at seen i n l)

  pub ready_simple : Ready Settled (word w.Const ∷ int_word ∷ token k.Name ∷ []) (simple limits d) (simple large e)
  unfolding simple
  ready_simple = record { viable = viable_next Settled (λ x. simple_by large e x (sees_word w.Const x)) (λ x. simple_by limits d x (sees_word w.Const x)) (word w.Const ∷ int_word ∷ token k.Name ∷ []) finishes (λ x. by x (sees_word w.Const x)); finishes = finishes }
    where
      fixed : (p : Place) → Ready Settled (int_word ∷ token k.Name ∷ []) (constant limits d p >>= (λ y. pure (IsLocal y))) (constant large e p >>= (λ y. pure (IsLocal y)))
      fixed p = ready_last Settled (int_word ∷ token k.Name ∷ []) (constant limits d p) (constant large e p) IsLocal (ready_constant limits d e h p)

      finishes : Finishes Settled (word w.Const ∷ int_word ∷ token k.Name ∷ []) (next (λ x. simple_by large e x (sees_word w.Const x)))
      finishes = finishes_next_take Settled (λ x. simple_by large e x (sees_word w.Const x)) (word w.Const) (int_word ∷ token k.Name ∷ []) _ refl (fixed _).finishes

      by : (x : Option Lexed) (b : Bool) → EachPair (Viable Settled) (simple_by limits d x b) (simple_by large e x b)
      by x true = (fixed (place_of x)).viable
      by x false = viable_simple_ahead
