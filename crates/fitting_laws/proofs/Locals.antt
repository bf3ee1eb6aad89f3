-- Locals and changes: what is read is within the limits.
use Rattle.std.proofs.Common.{Bool, true, false, ◌≡◌, ℕ, zero, suc, ◌+◌, ◌≤◌, List, [], ◌∷◌, map, length, Option, Some, None, arith, if◌then◌else◌, length-append, ◌++◌, max}
use Rattle.std.specs.Prelude.{nat_lt}
use Rattle.slang_names.specs.declared.places.Place.{Place}
use Rattle.slang_names.specs.declared.codes.ModuleCode.TheVariants as code
use Rattle.slang_tree.specs.declared.types.Identifier.{Identifier}
use Rattle.slang_tree.specs.declared.types.Term.{Term}
use Rattle.slang_tree.specs.declared.types.TypeTree.{TypeTree}
use Rattle.slang_tree.specs.declared.expressions.BinaryOperator.{BinaryOperator}
use Rattle.slang_tree.specs.declared.expressions.BinaryOperator.TheVariants as op
use Rattle.slang_tree.specs.declared.expressions.ExprTree.{ExprTree}
use Rattle.slang_tree.specs.declared.statements.Initializer.{Initializer}
use Rattle.slang_tree.specs.declared.statements.ListTree.{ListTree}
use Rattle.slang_tree.specs.declared.statements.Local.{Local}
use Rattle.slang_tree.specs.declared.statements.Change.{Change}
use Rattle.slang_tree.specs.declared.statements.LoopStart.{LoopStart}
use Rattle.slang_tokens.specs.declared.tokens.Kind.{Kind}
use Rattle.slang_tokens.specs.declared.tokens.Kind.TheVariants as k
use Rattle.slang_tokens.specs.declared.tokens.Mark.TheVariants as m
use Rattle.slang_tokens.specs.declared.tokens.Word.TheVariants as w
use Rattle.slang_reading.specs.Lexed.{Lexed}
use Rattle.slang_reading.specs.Reading.{Parser, Leave, Take, Refuse, if_fits, place_of, turns}
use Rattle.slang_reading.specs.Kinds.{sees, sees_word, span}
use Rattle.slang_reading.proofs.Exact.{Post, PostChoice, post_bind, post_next, post_fits, post_turns, post_foresee, post_unit}
use Rattle.slang_grammar.specs.Descent.{Limits, fits_in, expect, name, bracketed}
use Rattle.slang_grammar.specs.Heights.{greatest}
use Rattle.slang_grammar.specs.Sizes.{term_name}
use Rattle.slang_grammar.proofs.TypesFitting.{greatest_last}
use Rattle.slang_grammar.specs.TypesDescent.{Type_, types}
use Rattle.slang_grammar.specs.ExpressionsDescent.{Value, joined, expressions}
use Rattle.statement_grammar.specs.declared.tables.ChangeUse.{ChangeUse}
use Rattle.statement_grammar.specs.declared.tables.ChangeUse.TheVariants as what
use Rattle.statement_grammar.specs.Tables.{change_use}
use Rattle.statement_grammar.specs.Statements.{declared, assigned, is_call}
use Rattle.statement_grammar.specs.LocalsAhead.{local_ahead}
use Rattle.statement_grammar.specs.StatementsDescent.{Lengths, length_more, Named, declared_name, Initial, begins_item, item_of, item, item_more, items_rest, no_items, list_by, list_rest, initial_by, initial, no_initial, initials, operands, Simple, IsLocal, IsChange, Names, One, begun_by, one_name, name_more, names_rest, variable, constant, assign, shift_last_by, shift_last, shift_by, shift_assign, called, change_as, change_kind, change_at, change_rest, step_before, place_change, begin_as, begin_kind, begin_at, change, either, simple_by, simple, maybe_by, maybe, condition, start_of, start_by, start, step_by, step, Head, head}
use Rattle.statement_grammar.proofs.Shared.{post_take}
use Rattle.statement_fits.specs.Sizes.{optional, in_initializer, in_list, in_local_name, in_local, in_change_node, in_change, in_start, in_head, Keeps}
use Rattle.nesting_laws.proofs.TypesLow.{fits_less, Any}
use Rattle.nesting_laws.proofs.Locals.{no_fit, one_fits}
use Rattle.fitting_laws.proofs.Types.{choice_weaken, short_name, short_bracketed}
use Rattle.fitting_laws.proofs.Within.{nothing_keeps, more_room, both_keep, All, keep_none, keep_more, keep_one, expression_keeps, braces_keep, items_keep, keep_types, keep_expressions, keep_operands}

-- ---- what locals begin with

module _ (ts : List Lexed) (limits : Limits) (is_free : limits.free ≡ false) (room : Bool) (d : ℕ) (value : Parser Value) (inner : Parser Initial) (top : ℕ) (fits : room ≡ true → suc d ≤ top)
    (hv : (at seen : ℕ) → Post (λ (x : Value) (to : ℕ). Keeps limits top (λ count. count.of_value x.0)) (value ts at seen)) (hi : (at seen : ℕ) → Post (λ (x : Initial) (to : ℕ). Keeps limits d (λ count. in_initializer count x.0)) (inner ts at seen)) where
  abbrev IsItem : Initial → ℕ → Type 0
  IsItem x to = Keeps limits d (λ count. in_initializer count x.0)

  -- behind so many others
  abbrev Behind : ℕ → Initial → ℕ → Type 0
  Behind count x to = (count + 1 ≤ limits.items) × Keeps limits d (λ c. in_initializer c x.0)

  keep_item : (count at seen : ℕ) → Post (Behind count) (item limits room d value inner count ts at seen)
  unfolding item
  keep_item count at seen = post_next ts (Behind count) _ at seen
      (λ x e. post_fits ts (Behind count) at x (fits_in limits count limits.items) code.TooLong (item_of limits room d value inner x)
      (λ f. choice_weaken ts IsItem (Behind count) (λ a to r. (fits_less limits count limits.items is_free f, r)) at x (item_of limits room d value inner x) (by x (begins_item limits room d value inner x))))
    where
      by : (x : Option Lexed) (b : Bool) → PostChoice ts IsItem at x (if b then if_fits (nat_lt 0 d) code.TooNested x (Leave inner) else Refuse)
      by x true = post_fits ts IsItem at x (nat_lt 0 d) code.TooNested (Leave inner) (λ f s. hi at s)
      by x false = tt

  -- a list that is not too long, of which each item is within the limits
  abbrev KeptItems : List Initializer → Type 0
  KeptItems a = (length a ≤ limits.items) × All limits in_initializer d a

  abbrev Items : List Initializer → List Initializer → ℕ → ℕ → Type 0
  Items a b from to = KeptItems a → KeptItems b

  longer : (a : List Initializer) (x : Initializer) → length a + 1 ≤ limits.items → Keeps limits d (λ count. in_initializer count x) → KeptItems a → KeptItems (a ++ x ∷ [])
  longer a x l w v = (omega (arith, l, length-append a (x ∷ [])), keep_more limits in_initializer d a x v.1 w)

  one_item : (x : Initializer) → 1 ≤ limits.items → Keeps limits d (λ count. in_initializer count x) → KeptItems (x ∷ [])
  one_item x l w = (omega (arith, l), keep_one limits in_initializer d x w)

  keep_item_more : (a : List Initializer) (at seen : ℕ) → Post (λ b to. Items a b at to) (item_more limits room d value inner a ts at seen)
  unfolding item_more
  keep_item_more a at seen = post_bind ts Any (λ b to. Items a b at to) (expect m.Comma) _ at seen (post_unit (expect m.Comma ts at seen))
      (λ p a1 s1 o. post_bind ts (Behind (length a)) (λ b to. Items a b at to) (item limits room d value inner (length a)) _ a1 s1 (keep_item (length a) a1 s1)
      (λ x to s2 u r. longer a x.0 u.0 u.1 r))

  abbrev IsList : ListTree → ℕ → Type 0
  IsList x to = Keeps limits (suc d) (λ count. in_list count x)

  keep_items_rest : (begin : Place) (at seen : ℕ) → Post IsList (items_rest limits room d value inner begin ts at seen)
  unfolding items_rest
  keep_items_rest begin at seen = post_bind ts (Behind 0) IsList (item limits room d value inner 0) _ at seen (keep_item 0 at seen)
      (λ x a1 s1 u. post_bind ts (λ all to. Items (x.0 ∷ []) all a1 to) IsList (turns (sees m.Comma) (item_more limits room d value inner) limits.turns (x.0 ∷ [])) _ a1 s1
      (post_turns ts Items Items (sees m.Comma) (item_more limits room d value inner) (λ a at r. r) (λ a b c from mid to i q r. q (i r)) (λ a from s e. keep_item_more a from s) limits.turns (x.0 ∷ []) a1 s1)
      (λ all a2 s2 q. post_bind ts Any IsList (expect m.CloseBrace) _ a2 s2 (post_unit (expect m.CloseBrace ts a2 s2))
      (λ end to s3 z. let k = q (one_item x.0 u.0 u.1) in items_keep limits d (span begin end) all k.0 k.1)))

  keep_no_items : (begin : Place) (at seen : ℕ) → Post IsList (no_items limits room d value inner begin ts at seen)
  unfolding no_items
  keep_no_items begin at seen = post_bind ts Any IsList (expect m.CloseBrace) _ at seen (post_unit (expect m.CloseBrace ts at seen))
      (λ end to s z. items_keep limits d (span begin end) [] (omega arith) (keep_none limits in_initializer d))

  keep_list_rest : (begin : Place) (at seen : ℕ) → Post IsList (list_rest limits room d value inner begin ts at seen)
  unfolding list_rest
  keep_list_rest begin at seen = post_next ts IsList _ at seen (λ x e. by x (sees m.CloseBrace x))
    where
      by : (x : Option Lexed) (b : Bool) → PostChoice ts IsList at x (list_by limits room d value inner begin b)
      by x true = λ s. keep_no_items begin at s
      by x false = λ s. keep_items_rest begin at s

  abbrev IsInitial : Initial → ℕ → Type 0
  IsInitial x to = Keeps limits top (λ count. in_initializer count x.0)

  keep_initial : (at seen : ℕ) → Post IsInitial (initial limits room d value inner ts at seen)
  unfolding initial
  keep_initial at seen = post_next ts IsInitial _ at seen (λ x e. by x (sees m.OpenBrace x))
    where
      by : (x : Option Lexed) (b : Bool) → PostChoice ts IsInitial at x (initial_by limits room d value inner x b)
      by x true = post_fits ts IsInitial at x room code.TooNested (Take _) (λ f. post_take ts IsInitial at x _
          (λ s. post_bind ts IsList IsInitial (list_rest limits room d value inner (place_of x)) _ (at + 1) s (keep_list_rest (place_of x) (at + 1) s)
          (λ y to s1 l. braces_keep limits top y (more_room limits (suc d) top (λ count. in_list count y) (fits f) l))))
      by x false = λ s. post_bind ts (λ (x : Value) (to : ℕ). Keeps limits top (λ count. count.of_value x.0)) IsInitial value _ at s (hv at s) (λ v to s1 r. expression_keeps limits top v.0 r)

module _ (ts : List Lexed) (limits : Limits) (is_free : limits.free ≡ false) where
  keep_initials : (d at seen : ℕ) → Post (λ (x : Initial) (to : ℕ). Keeps limits d (λ count. in_initializer count x.0)) (initials limits d ts at seen)
  unfolding initials
  keep_initials zero at seen = keep_initial ts limits is_free false zero (expressions limits zero) no_initial zero (no_fit zero) (keep_expressions limits ts is_free zero) (λ at seen. tt) at seen
  keep_initials (suc d) at seen = keep_initial ts limits is_free true d (expressions limits (suc d)) (initials limits d) (suc d) (λ e. one_fits d) (keep_expressions limits ts is_free (suc d)) (keep_initials d) at seen

  module _ (d : ℕ) where
    -- ---- locals

    abbrev IsExpr : Value → ℕ → Type 0
    IsExpr x to = Keeps limits d (λ count. count.of_value x.0)

    -- lengths whose names are short
    abbrev pub ShortLengths : Lengths → Lengths → ℕ → ℕ → Type 0
    ShortLengths a b from to = greatest (map term_name a.0) ≤ limits.names → greatest (map term_name b.0) ≤ limits.names

    keep_length : (a : Lengths) (at seen : ℕ) → Post (λ b to. ShortLengths a b at to) (length_more limits a ts at seen)
    unfolding length_more
    keep_length a at seen = post_bind ts Any (λ b to. ShortLengths a b at to) (expect m.OpenBracket) _ at seen (post_unit (expect m.OpenBracket ts at seen))
        (λ p a1 s1 o. post_bind ts (λ (x : Term) (to : ℕ). term_name x ≤ limits.names) (λ b to. ShortLengths a b at to) (bracketed limits) _ a1 s1 (short_bracketed ts limits is_free a1 s1)
        (λ x a2 s2 r. post_bind ts Any (λ b to. ShortLengths a b at to) (expect m.CloseBracket) _ a2 s2 (post_unit (expect m.CloseBracket ts a2 s2)) (λ q to s3 z h. omega (arith, r, h, greatest_last term_name a.0 x))))

    pub keep_lengths : (a : Lengths) (at seen : ℕ) → Post (λ b to. ShortLengths a b at to) (turns (sees m.OpenBracket) (length_more limits) limits.turns a ts at seen)
    keep_lengths a at seen = post_turns ts ShortLengths ShortLengths (sees m.OpenBracket) (length_more limits) (λ a at r. r) (λ a b c from mid to i q r. q (i r)) (λ a from s e. keep_length a from s) limits.turns a at seen

    pub declared_keeps : (id : Identifier) (list : List Term) (end : Place) → length id.name ≤ limits.names → greatest (map term_name list) ≤ limits.names → Keeps limits d (λ count. count.of_name (declared id list end))
    declared_keeps id list end a b = record { depth = omega arith; long = omega arith; short = omega (arith, a, b) }

    pub keep_declared : (at seen : ℕ) → Post (λ (x : Named) (to : ℕ). Keeps limits d (λ count. count.of_name x.0)) (declared_name limits ts at seen)
    unfolding declared_name
    keep_declared at seen = let Q : Named → ℕ → Type 0 = λ x to. Keeps limits d (λ count. count.of_name x.0) in
        post_bind ts (λ (id : Identifier) (to : ℕ). length id.name ≤ limits.names) Q (name limits) _ at seen (short_name ts limits is_free at seen)
        (λ id mid s1 h. post_bind ts (λ all to. ShortLengths ([], id.place) all mid to) Q (turns (sees m.OpenBracket) (length_more limits) limits.turns ([], id.place)) _ mid s1
        (keep_lengths ([], id.place) mid s1)
        (λ all to s2 g. declared_keeps id all.0 all.1 h (g (omega arith))))

    abbrev IsOne : One → ℕ → Type 0
    IsOne x to = Keeps limits d (λ count. in_local_name count x.0)

    keep_one_name : (at seen : ℕ) → Post IsOne (one_name limits d ts at seen)
    unfolding one_name
    keep_one_name at seen = post_bind ts (λ (x : Named) (to : ℕ). Keeps limits d (λ count. count.of_name x.0)) IsOne (declared_name limits) _ at seen (keep_declared at seen)
        (λ x mid s1 r. post_next ts IsOne _ mid s1 (λ y e. by x r mid y (sees m.Equal y)))
      where
        by : (x : Named) → Keeps limits d (λ count. count.of_name x.0) → (mid : ℕ) (y : Option Lexed) (b : Bool) → PostChoice ts IsOne mid y (begun_by limits d x b)
        by x r mid y true = post_take ts IsOne mid y _ (λ s. post_bind ts (λ (v : Initial) (to : ℕ). Keeps limits d (λ count. in_initializer count v.0)) IsOne (initials limits d) _ (mid + 1) s (keep_initials d (mid + 1) s) (λ v to s1 w. both_keep limits d (λ count. count.of_name x.0) (λ count. in_initializer count v.0) r w))
        by x r mid y false = λ s. both_keep limits d (λ count. count.of_name x.0) (λ count. 0) r (nothing_keeps limits d)

    abbrev HasNames : Names → Names → ℕ → ℕ → Type 0
    HasNames a b from to = All limits in_local_name d a.0 → All limits in_local_name d b.0

    keep_name_more : (a : Names) (at seen : ℕ) → Post (λ b to. HasNames a b at to) (name_more limits d a ts at seen)
    unfolding name_more
    keep_name_more a at seen = post_bind ts Any (λ b to. HasNames a b at to) (expect m.Comma) _ at seen (post_unit (expect m.Comma ts at seen))
        (λ p a1 s1 o. post_bind ts IsOne (λ b to. HasNames a b at to) (one_name limits d) _ a1 s1 (keep_one_name a1 s1) (λ x to s2 u r. keep_more limits in_local_name d a.0 x.0 r u))

    abbrev HasLocal : Local → ℕ → Type 0
    HasLocal x to = Keeps limits d (λ count. in_local count x)

    keep_names_rest : (begin : Place) (is_const : Bool) (x : TypeTree) (at seen : ℕ) → Keeps limits d (λ count. count.of_type x) → Post HasLocal (names_rest limits d begin is_const x ts at seen)
    unfolding names_rest
    keep_names_rest begin is_const x at seen t = post_bind ts IsOne HasLocal (one_name limits d) _ at seen (keep_one_name at seen)
        (λ one mid s1 u. post_bind ts (λ all to. HasNames (one.0 ∷ [], one.1) all mid to) HasLocal (turns (sees m.Comma) (name_more limits d) limits.turns (one.0 ∷ [], one.1)) _ mid s1
        (post_turns ts HasNames HasNames (sees m.Comma) (name_more limits d) (λ a at r. r) (λ a b c from mid to i q r. q (i r)) (λ a from s e. keep_name_more a from s) limits.turns (one.0 ∷ [], one.1) mid s1)
        (λ all to s2 r. both_keep limits d (λ count. count.of_type x) (λ count. greatest (map (in_local_name count) all.0)) t (r (keep_one limits in_local_name d one.0 u))))

    keep_variable : (at seen : ℕ) → Post HasLocal (variable limits d ts at seen)
    unfolding variable
    keep_variable at seen = post_bind ts (λ (x : Type_) (to : ℕ). Keeps limits d (λ count. count.of_type x.0)) HasLocal (types limits d) _ at seen (keep_types limits ts is_free d at seen)
        (λ x mid s1 r. keep_names_rest x.0.place false x.0 mid s1 r)

    keep_constant : (begin : Place) (at seen : ℕ) → Post HasLocal (constant limits d begin ts at seen)
    unfolding constant
    keep_constant begin at seen = post_bind ts (λ (x : Type_) (to : ℕ). Keeps limits d (λ count. count.of_type x.0)) HasLocal (types limits d) _ at seen (keep_types limits ts is_free d at seen)
        (λ x mid s1 r. keep_names_rest begin true x.0 mid s1 r)

    -- ---- changes

    abbrev HasChange : Change → ℕ → Type 0
    HasChange c to = Keeps limits d (λ count. in_change count c)

    of_assigned : (o : Option BinaryOperator) (x y : ExprTree) → Keeps limits d (λ count. count.of_value x) → Keeps limits d (λ count. count.of_value y) → Keeps limits d (λ count. in_change_node count (assigned o x y))
    of_assigned None x y a b = both_keep limits d (λ count. count.of_value x) (λ count. count.of_value y) a b
    of_assigned (Some o) x y a b = both_keep limits d (λ count. count.of_value x) (λ count. count.of_value y) a b

    module _ (x : ExprTree) (r : Keeps limits d (λ count. count.of_value x)) where
      keep_assign : (o : Option BinaryOperator) (at seen : ℕ) → Post HasChange (assign limits d x o ts at seen)
      unfolding assign
      keep_assign o at seen = post_bind ts IsExpr HasChange (expressions limits d) _ at seen (keep_expressions limits ts is_free d at seen) (λ y to s1 v. of_assigned o x y.0 r v)

      keep_shift_assign : (p : Place) (at seen : ℕ) → Post HasChange (shift_assign limits d x p ts at seen)
      unfolding shift_assign shift_last
      keep_shift_assign p at seen = post_next ts HasChange _ at seen (λ y e. by y (joined m.Greater p y))
        where
          last : (z : Option Lexed) (b : Bool) → PostChoice ts HasChange (at + 1) z (shift_last_by limits d x b)
          last z true = post_take ts HasChange (at + 1) z _ (λ s. keep_assign (Some op.ShiftRight) (at + 1 + 1) s)
          last z false = tt

          by : (y : Option Lexed) (b : Bool) → PostChoice ts HasChange at y (shift_by limits d x y b)
          by y true = post_take ts HasChange at y _ (λ s. post_next ts HasChange _ (at + 1) s (λ z e. last z (joined m.Equal (place_of y) z)))
          by y false = tt

      keep_called : (at : ℕ) (y : Option Lexed) (b : Bool) → PostChoice ts HasChange at y (called limits d x b)
      keep_called at y true = λ s. r
      keep_called at y false = tt

      keep_change_as : (at : ℕ) (tok : Lexed) (u : ChangeUse) → PostChoice ts HasChange at (Some tok) (change_as limits d x tok u)
      keep_change_as at tok what.Assign = λ s. keep_assign None (at + 1) s
      keep_change_as at tok (what.Update v) = λ s. keep_assign (Some v) (at + 1) s
      keep_change_as at tok what.Shift = λ s. keep_shift_assign tok.place (at + 1) s
      keep_change_as at tok (what.Step v) = λ s. r
      keep_change_as at tok what.End = keep_called at (Some tok) (is_call x.node)

      keep_change_rest : (at seen : ℕ) → Post HasChange (change_rest limits d x ts at seen)
      unfolding change_rest
      keep_change_rest at seen = post_next ts HasChange (change_at limits d x) at seen (λ y e. go y)
        where
          by : (tok : Lexed) (kind : Kind) → PostChoice ts HasChange at (Some tok) (change_kind limits d x tok kind)
          by tok (k.Mark mark) = keep_change_as at tok (change_use mark)
          by tok k.Name = keep_called at (Some tok) (is_call x.node)
          by tok (k.Word word) = keep_called at (Some tok) (is_call x.node)
          by tok (k.Number v) = keep_called at (Some tok) (is_call x.node)
          by tok k.String = keep_called at (Some tok) (is_call x.node)

          go : (y : Option Lexed) → PostChoice ts HasChange at y (change_at limits d x y)
          go (Some tok) = by tok tok.kind
          go None = keep_called at None (is_call x.node)

    keep_place_change : (at seen : ℕ) → Post HasChange (place_change limits d ts at seen)
    unfolding place_change
    keep_place_change at seen = post_bind ts IsExpr HasChange (operands limits d) _ at seen (keep_operands limits ts is_free d at seen) (λ x mid s1 r. keep_change_rest x.0 r mid s1)

    keep_begin_as : (at : ℕ) (tok : Lexed) (u : ChangeUse) → PostChoice ts HasChange at (Some tok) (begin_as limits d tok u)
    unfolding step_before
    keep_begin_as at tok (what.Step v) = λ s. post_bind ts IsExpr HasChange (operands limits d) _ (at + 1) s (keep_operands limits ts is_free d (at + 1) s) (λ x to s1 r. r)
    keep_begin_as at tok what.Assign = λ s. keep_place_change at s
    keep_begin_as at tok (what.Update v) = λ s. keep_place_change at s
    keep_begin_as at tok what.Shift = λ s. keep_place_change at s
    keep_begin_as at tok what.End = λ s. keep_place_change at s

    keep_change : (at seen : ℕ) → Post HasChange (change limits d ts at seen)
    unfolding change
    keep_change at seen = post_next ts HasChange (begin_at limits d) at seen (λ y e. go y)
      where
        by : (tok : Lexed) (kind : Kind) → PostChoice ts HasChange at (Some tok) (begin_kind limits d tok kind)
        by tok (k.Mark mark) = keep_begin_as at tok (change_use mark)
        by tok k.Name = λ s. keep_place_change at s
        by tok (k.Word word) = λ s. keep_place_change at s
        by tok (k.Number v) = λ s. keep_place_change at s
        by tok k.String = λ s. keep_place_change at s

        go : (y : Option Lexed) → PostChoice ts HasChange at y (begin_at limits d y)
        go (Some tok) = by tok tok.kind
        go None = λ s. keep_place_change at s

    -- ---- either

    abbrev pub IsSimple : Simple → ℕ → Type 0
    IsSimple (IsLocal x) to = Keeps limits d (λ count. in_local count x)
    IsSimple (IsChange x) to = Keeps limits d (λ count. in_change count x)

    keep_either : (b : Bool) (at seen : ℕ) → Post IsSimple (either limits d b ts at seen)
    keep_either true at seen = post_bind ts HasLocal IsSimple (variable limits d) _ at seen (keep_variable at seen) (λ x to s1 r. r)
    keep_either false at seen = post_bind ts HasChange IsSimple (change limits d) _ at seen (keep_change at seen) (λ x to s1 r. r)

    pub keep_simple : (at seen : ℕ) → Post IsSimple (simple limits d ts at seen)
    unfolding simple
    keep_simple at seen = post_next ts IsSimple _ at seen (λ x e. by x (sees_word w.Const x))
      where
        by : (x : Option Lexed) (b : Bool) → PostChoice ts IsSimple at x (simple_by limits d x b)
        by x true = post_take ts IsSimple at x _ (λ s. post_bind ts HasLocal IsSimple (constant limits d (place_of x)) _ (at + 1) s (keep_constant (place_of x) (at + 1) s) (λ x to s1 r. r))
        by x false = λ s. post_foresee ts (local_ahead limits) (either limits d) at s IsSimple (λ b mid s1 e. keep_either true at s1) (λ never s1. keep_either false at s1)

    -- ---- parts of statements

    abbrev pub IsMaybe : Option ExprTree → ℕ → Type 0
    IsMaybe x to = Keeps limits d (λ count. optional count.of_value x)

    pub keep_maybe : (at seen : ℕ) → Post IsMaybe (maybe limits d ts at seen)
    unfolding maybe
    keep_maybe at seen = post_next ts IsMaybe _ at seen (λ x e. by x _)
      where
        by : (x : Option Lexed) (b : Bool) → PostChoice ts IsMaybe at x (maybe_by limits d b)
        by x true = λ s. post_bind ts IsExpr IsMaybe (expressions limits d) _ at s (keep_expressions limits ts is_free d at s) (λ v to s1 r. r)
        by x false = λ s. nothing_keeps limits d

    abbrev pub IsCondition : ExprTree → ℕ → Type 0
    IsCondition x to = Keeps limits d (λ count. count.of_value x)

    pub keep_condition : (at seen : ℕ) → Post IsCondition (condition limits d ts at seen)
    unfolding condition
    keep_condition at seen = post_bind ts Any IsCondition (expect m.OpenParen) _ at seen (post_unit (expect m.OpenParen ts at seen))
        (λ p a1 s1 o. post_bind ts IsExpr IsCondition (expressions limits d) _ a1 s1 (keep_expressions limits ts is_free d a1 s1)
        (λ v a2 s2 r. post_bind ts Any IsCondition (expect m.CloseParen) _ a2 s2 (post_unit (expect m.CloseParen ts a2 s2)) (λ q to s3 z. r)))

    abbrev IsStart : LoopStart → ℕ → Type 0
    IsStart x to = Keeps limits d (λ count. in_start count x)

    keep_start : (at seen : ℕ) → Post IsStart (start limits d ts at seen)
    unfolding start
    keep_start at seen = post_next ts IsStart _ at seen (λ x e. by x (sees m.Semicolon x))
      where
        from : (x : Simple) (to : ℕ) → IsSimple x to → IsStart (start_of limits d x) to
        from (IsLocal x) to r = r
        from (IsChange x) to r = r

        by : (x : Option Lexed) (b : Bool) → PostChoice ts IsStart at x (start_by limits d b)
        by x true = λ s. nothing_keeps limits d
        by x false = λ s. post_bind ts IsSimple IsStart (simple limits d) _ at s (keep_simple at s) (λ x to s1 r. from x to r)

    abbrev IsStep : Option Change → ℕ → Type 0
    IsStep x to = Keeps limits d (λ count. optional (in_change count) x)

    keep_step : (at seen : ℕ) → Post IsStep (step limits d ts at seen)
    unfolding step
    keep_step at seen = post_next ts IsStep _ at seen (λ x e. by x (sees m.CloseParen x))
      where
        by : (x : Option Lexed) (b : Bool) → PostChoice ts IsStep at x (step_by limits d b)
        by x true = λ s. nothing_keeps limits d
        by x false = λ s. post_bind ts HasChange IsStep (change limits d) _ at s (keep_change at s) (λ x to s1 r. r)

    abbrev pub IsHead : Head limits d → ℕ → Type 0
    IsHead h to = Keeps limits d (λ count. in_head count h.0 h.1 h.2)

    pub keep_head : (at seen : ℕ) → Post IsHead (head limits d ts at seen)
    unfolding head
    keep_head at seen = post_bind ts Any IsHead (expect m.OpenParen) _ at seen (post_unit (expect m.OpenParen ts at seen))
        (λ p a1 s1 o. post_bind ts IsStart IsHead (start limits d) _ a1 s1 (keep_start a1 s1)
        (λ x a2 s2 r. post_bind ts Any IsHead (expect m.Semicolon) _ a2 s2 (post_unit (expect m.Semicolon ts a2 s2))
        (λ q a3 s3 c. post_bind ts IsMaybe IsHead (maybe limits d) _ a3 s3 (keep_maybe a3 s3)
        (λ y a4 s4 v. post_bind ts Any IsHead (expect m.Semicolon) _ a4 s4 (post_unit (expect m.Semicolon ts a4 s4))
        (λ u a5 s5 e. post_bind ts IsStep IsHead (step limits d) _ a5 s5 (keep_step a5 s5)
        (λ z a6 s6 g. post_bind ts Any IsHead (expect m.CloseParen) _ a6 s6 (post_unit (expect m.CloseParen ts a6 s6)) (λ i to s7 j. both_keep limits d (λ count. in_start count x) (λ count. max (optional count.of_value y) (optional (in_change count) z)) r (both_keep limits d (λ count. optional count.of_value y) (λ count. optional (in_change count) z) v g))))))))
