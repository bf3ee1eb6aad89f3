-- Locals and changes: no node of what is read is too deep, where as many fit as were given.
use Rattle.std.proofs.Common.{Bool, true, false, ◌≡◌, ℕ, zero, suc, ◌+◌, ◌≤◌, List, [], ◌∷◌, map, length, Option, Some, None, refl, sym, subst, arith, if◌then◌else◌}
use Rattle.std.specs.Prelude.{nat_lt}
use Rattle.slang_names.specs.declared.places.Place.{Place}
use Rattle.slang_names.specs.declared.codes.ModuleCode.TheVariants as code
use Rattle.slang_tree.specs.declared.types.TypeTree.{TypeTree}
use Rattle.slang_tree.specs.declared.expressions.BinaryOperator.{BinaryOperator}
use Rattle.slang_tree.specs.declared.expressions.BinaryOperator.TheVariants as op
use Rattle.slang_tree.specs.declared.expressions.ExprTree.{ExprTree}
use Rattle.slang_tree.specs.declared.statements.Initializer.{Initializer}
use Rattle.slang_tree.specs.declared.statements.ListTree.{ListTree}
use Rattle.slang_tree.specs.declared.statements.Local.{Local}
use Rattle.slang_tree.specs.declared.statements.Change.{Change}
use Rattle.slang_tree.specs.declared.statements.LoopStart.{LoopStart}
use Rattle.slang_tree.specs.Nesting.{first_of, optional, deep_type, deep_expr, deep_initializer, deep_list, deep_local_name, deep_local, deep_change_node, deep_change, deep_start}
use Rattle.slang_tokens.specs.declared.tokens.Kind.{Kind}
use Rattle.slang_tokens.specs.declared.tokens.Kind.TheVariants as k
use Rattle.slang_tokens.specs.declared.tokens.Mark.TheVariants as m
use Rattle.slang_tokens.specs.declared.tokens.Word.TheVariants as w
use Rattle.slang_reading.specs.Lexed.{Lexed}
use Rattle.slang_reading.specs.Reading.{Parser, Leave, Take, Refuse, if_fits, place_of, turns}
use Rattle.slang_reading.specs.Kinds.{sees, sees_word, span}
use Rattle.slang_reading.proofs.Exact.{Post, PostChoice, post_bind, post_next, post_fits, post_turns, post_foresee, post_unit}
use Rattle.slang_grammar.specs.Descent.{Limits, fits_in, expect}
use Rattle.slang_grammar.specs.TypesDescent.{Type_, types}
use Rattle.slang_grammar.specs.ExpressionsDescent.{Value, joined, expressions}
use Rattle.statement_grammar.specs.declared.tables.ChangeUse.{ChangeUse}
use Rattle.statement_grammar.specs.declared.tables.ChangeUse.TheVariants as what
use Rattle.statement_grammar.specs.Tables.{change_use}
use Rattle.statement_grammar.specs.Statements.{listed, assigned, is_call}
use Rattle.statement_grammar.specs.LocalsAhead.{local_ahead}
use Rattle.statement_grammar.specs.StatementsDescent.{Named, declared_name, Initial, begins_item, item_of, item, item_more, items_rest, no_items, list_by, list_rest, initial_by, initial, no_initial, initials, operands, Simple, IsLocal, IsChange, Names, One, begun_by, one_name, name_more, names_rest, variable, constant, assign, shift_last_by, shift_last, shift_by, shift_assign, called, change_as, change_kind, change_at, change_rest, step_before, place_change, begin_as, begin_kind, begin_at, change, either, simple_by, simple, maybe_by, maybe, condition, start_of, start_by, start, step_by, step, Head, head}
use Rattle.statement_grammar.proofs.Shared.{post_take}
use Rattle.nesting_laws.proofs.Depths.{Clear, clear_node}
use Rattle.nesting_laws.proofs.Initials.{deep_expression, deep_braces, deep_listed}
use Rattle.nesting_laws.proofs.TypesLow.{Any}
use Rattle.nesting_laws.proofs.Reading.{clear_before, clear_less, All, clear_none, clear_more, clear_one, clear_types, clear_expressions, clear_operands}

-- ---- what locals begin with

module _ (ts : List Lexed) (limits : Limits) (room : Bool) (d : ℕ) (value : Parser Value) (inner : Parser Initial) (top : ℕ) (fits : room ≡ true → suc d ≤ top)
    (hv : (at seen : ℕ) → Post (λ (x : Value) (to : ℕ). Clear top (deep_expr x.0)) (value ts at seen)) (hi : (at seen : ℕ) → Post (λ (x : Initial) (to : ℕ). Clear d (deep_initializer x.0)) (inner ts at seen)) where
  abbrev IsItem : Initial → ℕ → Type 0
  IsItem x to = Clear d (deep_initializer x.0)

  clear_item : (count at seen : ℕ) → Post IsItem (item limits room d value inner count ts at seen)
  unfolding item
  clear_item count at seen = post_next ts IsItem _ at seen
      (λ x e. post_fits ts IsItem at x (fits_in limits count limits.items) code.TooLong (item_of limits room d value inner x) (λ f. by x (begins_item limits room d value inner x)))
    where
      by : (x : Option Lexed) (b : Bool) → PostChoice ts IsItem at x (if b then if_fits (nat_lt 0 d) code.TooNested x (Leave inner) else Refuse)
      by x true = post_fits ts IsItem at x (nat_lt 0 d) code.TooNested (Leave inner) (λ f s. hi at s)
      by x false = tt

  abbrev Items : List Initializer → List Initializer → ℕ → ℕ → Type 0
  Items a b from to = All deep_initializer d a → All deep_initializer d b

  clear_item_more : (a : List Initializer) (at seen : ℕ) → Post (λ b to. Items a b at to) (item_more limits room d value inner a ts at seen)
  unfolding item_more
  clear_item_more a at seen = post_bind ts Any (λ b to. Items a b at to) (expect m.Comma) _ at seen (post_unit (expect m.Comma ts at seen))
      (λ p a1 s1 o. post_bind ts IsItem (λ b to. Items a b at to) (item limits room d value inner (length a)) _ a1 s1 (clear_item (length a) a1 s1)
      (λ x to s2 u r. clear_more deep_initializer d a x.0 r u))

  abbrev IsList : ListTree → ℕ → Type 0
  IsList x to = Clear (d + 1) (deep_list x)

  of_list : (p : Place) (list : List Initializer) → All deep_initializer d list → Clear (d + 1) (deep_list (listed p list))
  of_list p list a = subst (λ f. Clear (d + 1) f) (sym (deep_listed p list)) (clear_node p d (first_of (map deep_initializer list)) a)

  clear_items_rest : (begin : Place) (at seen : ℕ) → Post IsList (items_rest limits room d value inner begin ts at seen)
  unfolding items_rest
  clear_items_rest begin at seen = post_bind ts IsItem IsList (item limits room d value inner 0) _ at seen (clear_item 0 at seen)
      (λ x a1 s1 u. post_bind ts (λ all to. Items (x.0 ∷ []) all a1 to) IsList (turns (sees m.Comma) (item_more limits room d value inner) limits.turns (x.0 ∷ [])) _ a1 s1
      (post_turns ts Items Items (sees m.Comma) (item_more limits room d value inner) (λ a at r. r) (λ a b c from mid to i q r. q (i r)) (λ a from s e. clear_item_more a from s) limits.turns (x.0 ∷ []) a1 s1)
      (λ all a2 s2 q. post_bind ts Any IsList (expect m.CloseBrace) _ a2 s2 (post_unit (expect m.CloseBrace ts a2 s2))
      (λ end to s3 z. of_list (span begin end) all (q (clear_one deep_initializer d x.0 u)))))

  clear_no_items : (begin : Place) (at seen : ℕ) → Post IsList (no_items limits room d value inner begin ts at seen)
  unfolding no_items
  clear_no_items begin at seen = post_bind ts Any IsList (expect m.CloseBrace) _ at seen (post_unit (expect m.CloseBrace ts at seen))
      (λ end to s z. of_list (span begin end) [] (clear_none deep_initializer d))

  clear_list_rest : (begin : Place) (at seen : ℕ) → Post IsList (list_rest limits room d value inner begin ts at seen)
  unfolding list_rest
  clear_list_rest begin at seen = post_next ts IsList _ at seen (λ x e. by x (sees m.CloseBrace x))
    where
      by : (x : Option Lexed) (b : Bool) → PostChoice ts IsList at x (list_by limits room d value inner begin b)
      by x true = λ s. clear_no_items begin at s
      by x false = λ s. clear_items_rest begin at s

  abbrev IsInitial : Initial → ℕ → Type 0
  IsInitial x to = Clear top (deep_initializer x.0)

  more_room : suc d ≤ top → d + 1 ≤ top
  more_room f = omega (arith, f)

  clear_initial : (at seen : ℕ) → Post IsInitial (initial limits room d value inner ts at seen)
  unfolding initial
  clear_initial at seen = post_next ts IsInitial _ at seen (λ x e. by x (sees m.OpenBrace x))
    where
      by : (x : Option Lexed) (b : Bool) → PostChoice ts IsInitial at x (initial_by limits room d value inner x b)
      by x true = post_fits ts IsInitial at x room code.TooNested (Take _) (λ f. post_take ts IsInitial at x _
          (λ s. post_bind ts IsList IsInitial (list_rest limits room d value inner (place_of x)) _ (at + 1) s (clear_list_rest (place_of x) (at + 1) s)
          (λ y to s1 l. subst (λ g. Clear top g) (sym (deep_braces y)) (clear_less (d + 1) top (deep_list y) (more_room (fits f)) l))))
      by x false = λ s. post_bind ts (λ (x : Value) (to : ℕ). Clear top (deep_expr x.0)) IsInitial value _ at s (hv at s) (λ v to s1 r. subst (λ g. Clear top g) (sym (deep_expression v.0)) r)

pub no_fit : (n : ℕ) → false ≡ true → suc n ≤ n
no_fit n e = cc

pub one_fits : (n : ℕ) → suc n ≤ suc n
one_fits n = omega arith

module _ (ts : List Lexed) (limits : Limits) (is_free : limits.free ≡ false) where
  clear_initials : (d at seen : ℕ) → Post (λ (x : Initial) (to : ℕ). Clear d (deep_initializer x.0)) (initials limits d ts at seen)
  unfolding initials
  clear_initials zero at seen = clear_initial ts limits false zero (expressions limits zero) no_initial zero (no_fit zero) (clear_expressions ts limits is_free zero) (λ at seen. tt) at seen
  clear_initials (suc d) at seen = clear_initial ts limits true d (expressions limits (suc d)) (initials limits d) (suc d) (λ e. one_fits d) (clear_expressions ts limits is_free (suc d)) (clear_initials d) at seen

  module _ (d : ℕ) where
    -- ---- locals

    abbrev IsExpr : Value → ℕ → Type 0
    IsExpr x to = Clear d (deep_expr x.0)

    abbrev IsOne : One → ℕ → Type 0
    IsOne x to = Clear d (deep_local_name x.0)

    clear_one_name : (at seen : ℕ) → Post IsOne (one_name limits d ts at seen)
    unfolding one_name
    clear_one_name at seen = post_bind ts Any IsOne (declared_name limits) _ at seen (post_unit (declared_name limits ts at seen)) (λ x mid s1 r. post_next ts IsOne _ mid s1 (λ y e. by x mid y (sees m.Equal y)))
      where
        by : (x : Named) (mid : ℕ) (y : Option Lexed) (b : Bool) → PostChoice ts IsOne mid y (begun_by limits d x b)
        by x mid y true = post_take ts IsOne mid y _ (λ s. post_bind ts (λ (v : Initial) (to : ℕ). Clear d (deep_initializer v.0)) IsOne (initials limits d) _ (mid + 1) s (clear_initials d (mid + 1) s) (λ v to s1 i. i))
        by x mid y false = λ s n l. refl

    abbrev HasNames : Names → Names → ℕ → ℕ → Type 0
    HasNames a b from to = All deep_local_name d a.0 → All deep_local_name d b.0

    clear_name_more : (a : Names) (at seen : ℕ) → Post (λ b to. HasNames a b at to) (name_more limits d a ts at seen)
    unfolding name_more
    clear_name_more a at seen = post_bind ts Any (λ b to. HasNames a b at to) (expect m.Comma) _ at seen (post_unit (expect m.Comma ts at seen))
        (λ p a1 s1 o. post_bind ts IsOne (λ b to. HasNames a b at to) (one_name limits d) _ a1 s1 (clear_one_name a1 s1) (λ x to s2 u r. clear_more deep_local_name d a.0 x.0 r u))

    abbrev HasLocal : Local → ℕ → Type 0
    HasLocal x to = Clear d (deep_local x)

    clear_names_rest : (begin : Place) (is_const : Bool) (x : TypeTree) (at seen : ℕ) → Clear d (deep_type x) → Post HasLocal (names_rest limits d begin is_const x ts at seen)
    unfolding names_rest
    clear_names_rest begin is_const x at seen t = post_bind ts IsOne HasLocal (one_name limits d) _ at seen (clear_one_name at seen)
        (λ one mid s1 u. post_bind ts (λ all to. HasNames (one.0 ∷ [], one.1) all mid to) HasLocal (turns (sees m.Comma) (name_more limits d) limits.turns (one.0 ∷ [], one.1)) _ mid s1
        (post_turns ts HasNames HasNames (sees m.Comma) (name_more limits d) (λ a at r. r) (λ a b c from mid to i q r. q (i r)) (λ a from s e. clear_name_more a from s) limits.turns (one.0 ∷ [], one.1) mid s1)
        (λ all to s2 r. clear_before d (deep_type x) (first_of (map deep_local_name all.0)) t (r (clear_one deep_local_name d one.0 u))))

    clear_variable : (at seen : ℕ) → Post HasLocal (variable limits d ts at seen)
    unfolding variable
    clear_variable at seen = post_bind ts (λ (x : Type_) (to : ℕ). Clear d (deep_type x.0)) HasLocal (types limits d) _ at seen (clear_types ts limits is_free d at seen)
        (λ x mid s1 r. clear_names_rest x.0.place false x.0 mid s1 r)

    clear_constant : (begin : Place) (at seen : ℕ) → Post HasLocal (constant limits d begin ts at seen)
    unfolding constant
    clear_constant begin at seen = post_bind ts (λ (x : Type_) (to : ℕ). Clear d (deep_type x.0)) HasLocal (types limits d) _ at seen (clear_types ts limits is_free d at seen)
        (λ x mid s1 r. clear_names_rest begin true x.0 mid s1 r)

    -- ---- changes

    abbrev HasChange : Change → ℕ → Type 0
    HasChange c to = Clear d (deep_change c)

    of_assigned : (o : Option BinaryOperator) (x y : ExprTree) → Clear d (deep_expr x) → Clear d (deep_expr y) → Clear d (deep_change_node (assigned o x y))
    of_assigned None x y a b = clear_before d (deep_expr x) (deep_expr y) a b
    of_assigned (Some o) x y a b = clear_before d (deep_expr x) (deep_expr y) a b

    module _ (x : ExprTree) (r : Clear d (deep_expr x)) where
      clear_assign : (o : Option BinaryOperator) (at seen : ℕ) → Post HasChange (assign limits d x o ts at seen)
      unfolding assign
      clear_assign o at seen = post_bind ts IsExpr HasChange (expressions limits d) _ at seen (clear_expressions ts limits is_free d at seen) (λ y to s1 v. of_assigned o x y.0 r v)

      clear_shift_assign : (p : Place) (at seen : ℕ) → Post HasChange (shift_assign limits d x p ts at seen)
      unfolding shift_assign shift_last
      clear_shift_assign p at seen = post_next ts HasChange _ at seen (λ y e. by y (joined m.Greater p y))
        where
          last : (z : Option Lexed) (b : Bool) → PostChoice ts HasChange (at + 1) z (shift_last_by limits d x b)
          last z true = post_take ts HasChange (at + 1) z _ (λ s. clear_assign (Some op.ShiftRight) (at + 1 + 1) s)
          last z false = tt

          by : (y : Option Lexed) (b : Bool) → PostChoice ts HasChange at y (shift_by limits d x y b)
          by y true = post_take ts HasChange at y _ (λ s. post_next ts HasChange _ (at + 1) s (λ z e. last z (joined m.Equal (place_of y) z)))
          by y false = tt

      clear_called : (at : ℕ) (y : Option Lexed) (b : Bool) → PostChoice ts HasChange at y (called limits d x b)
      clear_called at y true = λ s. r
      clear_called at y false = tt

      clear_change_as : (at : ℕ) (tok : Lexed) (u : ChangeUse) → PostChoice ts HasChange at (Some tok) (change_as limits d x tok u)
      clear_change_as at tok what.Assign = λ s. clear_assign None (at + 1) s
      clear_change_as at tok (what.Update v) = λ s. clear_assign (Some v) (at + 1) s
      clear_change_as at tok what.Shift = λ s. clear_shift_assign tok.place (at + 1) s
      clear_change_as at tok (what.Step v) = λ s. r
      clear_change_as at tok what.End = clear_called at (Some tok) (is_call x.node)

      clear_change_rest : (at seen : ℕ) → Post HasChange (change_rest limits d x ts at seen)
      unfolding change_rest
      clear_change_rest at seen = post_next ts HasChange (change_at limits d x) at seen (λ y e. go y)
        where
          by : (tok : Lexed) (kind : Kind) → PostChoice ts HasChange at (Some tok) (change_kind limits d x tok kind)
          by tok (k.Mark mark) = clear_change_as at tok (change_use mark)
          by tok k.Name = clear_called at (Some tok) (is_call x.node)
          by tok (k.Word word) = clear_called at (Some tok) (is_call x.node)
          by tok (k.Number v) = clear_called at (Some tok) (is_call x.node)
          by tok k.String = clear_called at (Some tok) (is_call x.node)

          go : (y : Option Lexed) → PostChoice ts HasChange at y (change_at limits d x y)
          go (Some tok) = by tok tok.kind
          go None = clear_called at None (is_call x.node)

    clear_place_change : (at seen : ℕ) → Post HasChange (place_change limits d ts at seen)
    unfolding place_change
    clear_place_change at seen = post_bind ts IsExpr HasChange (operands limits d) _ at seen (clear_operands ts limits is_free d at seen) (λ x mid s1 r. clear_change_rest x.0 r mid s1)

    clear_begin_as : (at : ℕ) (tok : Lexed) (u : ChangeUse) → PostChoice ts HasChange at (Some tok) (begin_as limits d tok u)
    unfolding step_before
    clear_begin_as at tok (what.Step v) = λ s. post_bind ts IsExpr HasChange (operands limits d) _ (at + 1) s (clear_operands ts limits is_free d (at + 1) s) (λ x to s1 r. r)
    clear_begin_as at tok what.Assign = λ s. clear_place_change at s
    clear_begin_as at tok (what.Update v) = λ s. clear_place_change at s
    clear_begin_as at tok what.Shift = λ s. clear_place_change at s
    clear_begin_as at tok what.End = λ s. clear_place_change at s

    clear_change : (at seen : ℕ) → Post HasChange (change limits d ts at seen)
    unfolding change
    clear_change at seen = post_next ts HasChange (begin_at limits d) at seen (λ y e. go y)
      where
        by : (tok : Lexed) (kind : Kind) → PostChoice ts HasChange at (Some tok) (begin_kind limits d tok kind)
        by tok (k.Mark mark) = clear_begin_as at tok (change_use mark)
        by tok k.Name = λ s. clear_place_change at s
        by tok (k.Word word) = λ s. clear_place_change at s
        by tok (k.Number v) = λ s. clear_place_change at s
        by tok k.String = λ s. clear_place_change at s

        go : (y : Option Lexed) → PostChoice ts HasChange at y (begin_at limits d y)
        go (Some tok) = by tok tok.kind
        go None = λ s. clear_place_change at s

    -- ---- either

    abbrev pub IsSimple : Simple → ℕ → Type 0
    IsSimple (IsLocal x) to = Clear d (deep_local x)
    IsSimple (IsChange x) to = Clear d (deep_change x)

    clear_either : (b : Bool) (at seen : ℕ) → Post IsSimple (either limits d b ts at seen)
    clear_either true at seen = post_bind ts HasLocal IsSimple (variable limits d) _ at seen (clear_variable at seen) (λ x to s1 r. r)
    clear_either false at seen = post_bind ts HasChange IsSimple (change limits d) _ at seen (clear_change at seen) (λ x to s1 r. r)

    pub clear_simple : (at seen : ℕ) → Post IsSimple (simple limits d ts at seen)
    unfolding simple
    clear_simple at seen = post_next ts IsSimple _ at seen (λ x e. by x (sees_word w.Const x))
      where
        by : (x : Option Lexed) (b : Bool) → PostChoice ts IsSimple at x (simple_by limits d x b)
        by x true = post_take ts IsSimple at x _ (λ s. post_bind ts HasLocal IsSimple (constant limits d (place_of x)) _ (at + 1) s (clear_constant (place_of x) (at + 1) s) (λ x to s1 r. r))
        by x false = λ s. post_foresee ts (local_ahead limits) (either limits d) at s IsSimple (λ b mid s1 e. clear_either true at s1) (λ never s1. clear_either false at s1)

    -- ---- parts of statements

    abbrev pub IsMaybe : Option ExprTree → ℕ → Type 0
    IsMaybe x to = Clear d (optional deep_expr x)

    pub clear_maybe : (at seen : ℕ) → Post IsMaybe (maybe limits d ts at seen)
    unfolding maybe
    clear_maybe at seen = post_next ts IsMaybe _ at seen (λ x e. by x _)
      where
        by : (x : Option Lexed) (b : Bool) → PostChoice ts IsMaybe at x (maybe_by limits d b)
        by x true = λ s. post_bind ts IsExpr IsMaybe (expressions limits d) _ at s (clear_expressions ts limits is_free d at s) (λ v to s1 r. r)
        by x false = λ s n l. refl

    abbrev pub IsCondition : ExprTree → ℕ → Type 0
    IsCondition x to = Clear d (deep_expr x)

    pub clear_condition : (at seen : ℕ) → Post IsCondition (condition limits d ts at seen)
    unfolding condition
    clear_condition at seen = post_bind ts Any IsCondition (expect m.OpenParen) _ at seen (post_unit (expect m.OpenParen ts at seen))
        (λ p a1 s1 o. post_bind ts IsExpr IsCondition (expressions limits d) _ a1 s1 (clear_expressions ts limits is_free d a1 s1)
        (λ v a2 s2 r. post_bind ts Any IsCondition (expect m.CloseParen) _ a2 s2 (post_unit (expect m.CloseParen ts a2 s2)) (λ q to s3 z. r)))

    abbrev IsStart : LoopStart → ℕ → Type 0
    IsStart x to = Clear d (deep_start x)

    clear_start : (at seen : ℕ) → Post IsStart (start limits d ts at seen)
    unfolding start
    clear_start at seen = post_next ts IsStart _ at seen (λ x e. by x (sees m.Semicolon x))
      where
        from : (x : Simple) (to : ℕ) → IsSimple x to → IsStart (start_of limits d x) to
        from (IsLocal x) to r = r
        from (IsChange x) to r = r

        by : (x : Option Lexed) (b : Bool) → PostChoice ts IsStart at x (start_by limits d b)
        by x true = λ s n l. refl
        by x false = λ s. post_bind ts IsSimple IsStart (simple limits d) _ at s (clear_simple at s) (λ x to s1 r. from x to r)

    abbrev IsStep : Option Change → ℕ → Type 0
    IsStep x to = Clear d (optional deep_change x)

    clear_step : (at seen : ℕ) → Post IsStep (step limits d ts at seen)
    unfolding step
    clear_step at seen = post_next ts IsStep _ at seen (λ x e. by x (sees m.CloseParen x))
      where
        by : (x : Option Lexed) (b : Bool) → PostChoice ts IsStep at x (step_by limits d b)
        by x true = λ s n l. refl
        by x false = λ s. post_bind ts HasChange IsStep (change limits d) _ at s (clear_change at s) (λ x to s1 r. r)

    abbrev pub IsHead : Head limits d → ℕ → Type 0
    IsHead h to = Clear d (deep_start h.0) × Clear d (optional deep_expr h.1) × Clear d (optional deep_change h.2)

    pub clear_head : (at seen : ℕ) → Post IsHead (head limits d ts at seen)
    unfolding head
    clear_head at seen = post_bind ts Any IsHead (expect m.OpenParen) _ at seen (post_unit (expect m.OpenParen ts at seen))
        (λ p a1 s1 o. post_bind ts IsStart IsHead (start limits d) _ a1 s1 (clear_start a1 s1)
        (λ x a2 s2 r. post_bind ts Any IsHead (expect m.Semicolon) _ a2 s2 (post_unit (expect m.Semicolon ts a2 s2))
        (λ q a3 s3 c. post_bind ts IsMaybe IsHead (maybe limits d) _ a3 s3 (clear_maybe a3 s3)
        (λ y a4 s4 v. post_bind ts Any IsHead (expect m.Semicolon) _ a4 s4 (post_unit (expect m.Semicolon ts a4 s4))
        (λ u a5 s5 e. post_bind ts IsStep IsHead (step limits d) _ a5 s5 (clear_step a5 s5)
        (λ z a6 s6 g. post_bind ts Any IsHead (expect m.CloseParen) _ a6 s6 (post_unit (expect m.CloseParen ts a6 s6)) (λ i to s7 j. (r, v, g))))))))
