-- Declared names, locals and changes: what the descent reads is spelled, where it is so of expressions and of operands.
use Rattle.std.proofs.Common.{Bool, true, false, ◌≡◌, ℕ, zero, suc, ◌+◌, ◌&&◌, List, [], ◌∷◌, ◌++◌, drop, length, Option, Some, None, refl, sym, ◌∙◌, ap, subst, eqb-true, if◌then◌else◌}
use Rattle.std.specs.Prelude.{nat_lt}
use Rattle.slang_names.specs.declared.places.Place.{Place}
use Rattle.slang_names.specs.declared.codes.ModuleCode.TheVariants as code
use Rattle.slang_tree.specs.declared.types.Term.{Term}
use Rattle.slang_tree.specs.declared.types.TypeTree.{TypeTree}
use Rattle.slang_tree.specs.declared.expressions.BinaryOperator.{BinaryOperator}
use Rattle.slang_tree.specs.declared.expressions.BinaryOperator.TheVariants as op
use Rattle.slang_tree.specs.declared.expressions.ExprTree.{ExprTree}
use Rattle.slang_tree.specs.declared.statements.DeclaredName.{DeclaredName}
use Rattle.slang_tree.specs.declared.statements.Initializer.{Initializer}
use Rattle.slang_tree.specs.declared.statements.ListTree.{ListTree}
use Rattle.slang_tree.specs.declared.statements.LocalName.{LocalName}
use Rattle.slang_tree.specs.declared.statements.Local.{Local}
use Rattle.slang_tree.specs.declared.statements.Step.{Step}
use Rattle.slang_tree.specs.declared.statements.Change.{Change}
use Rattle.slang_tokens.specs.declared.tokens.Kind.{Kind}
use Rattle.slang_tokens.specs.declared.tokens.Kind.TheVariants as k
use Rattle.slang_tokens.specs.declared.tokens.Mark.{Mark}
use Rattle.slang_tokens.specs.declared.tokens.Mark.TheVariants as m
use Rattle.slang_tokens.specs.declared.tokens.Word.TheVariants as w
use Rattle.slang_reading.specs.Lexed.{Lexed}
use Rattle.slang_reading.specs.Reading.{Parser, Choice, Leave, Take, Refuse, if_fits, first, pure, place_of, next, foresee, turns}
use Rattle.slang_reading.specs.Kinds.{sees, sees_word, span}
use Rattle.slang_reading.proofs.Exact.{Post, PostChoice, post_bind, post_next, post_fits, post_turns, post_foresee, post_weaken}
use Rattle.slang_grammar.specs.Standing.{Stands, NameStands, IsNot}
use Rattle.slang_grammar.specs.Types.{TypeAt, TermAt}
use Rattle.slang_grammar.specs.Expressions.{ExprAt, PostfixAt}
use Rattle.slang_grammar.specs.Descent.{Limits, fits_in, expect, name, bracketed}
use Rattle.slang_grammar.specs.TypesDescent.{types}
use Rattle.slang_grammar.specs.ExpressionsDescent.{Value, joined, expressions}
use Rattle.slang_grammar.proofs.Shared.{stands, IsMarkAt, post_expect, IsNameAt, post_name, IsTermAt, post_bracketed}
use Rattle.slang_grammar.proofs.TypesSpelled.{post_types}
use Rattle.statement_grammar.specs.declared.tables.ChangeUse.{ChangeUse}
use Rattle.statement_grammar.specs.declared.tables.ChangeUse.TheVariants as what
use Rattle.statement_grammar.specs.Tables.{change_use}
use Rattle.statement_grammar.specs.Statements as t
use Rattle.statement_grammar.specs.Statements.{declared, LengthsAt, DeclaredNameAt, listed, InitializerAt, ListAt, MoreItemsAt, local_name, LocalNameAt, MoreLocalNamesAt, local_of, LocalAt, changed, AssignAt, assigned, is_call, ChangeAt, MaybeAt, StartAt, StepAt, HeadAt, ConditionAt}
use Rattle.statement_grammar.specs.LocalsAhead.{local_ahead}
use Rattle.statement_grammar.specs.StatementsDescent.{Lengths, Named, length_more, declared_name, Initial, begins_item, item_of, item, item_more, items_rest, no_items, list_by, list_rest, initial_by, initial, no_initial, initials, operands, Simple, IsLocal, IsChange, Names, One, begun_by, one_name, name_more, names_rest, variable, constant, assign, shift_last_by, shift_last, shift_by, shift_assign, called, change_as, change_kind, change_at, change_rest, step_before, place_change, begin_as, begin_kind, begin_at, change, either, simple_by, simple, maybe_by, maybe, condition, start_of, start_by, start, step_by, step, Head, head}
use Rattle.statement_grammar.proofs.Uses.{ChangeUseIs, change_use_is}
use Rattle.statement_grammar.proofs.Shared.{mark_stands, word_stands, post_take, post_until}

-- ---- declared names

module _ (ts : List Lexed) (limits : Limits) where
  IsLength : Lengths → Lengths → ℕ → ℕ → Type 0
  IsLength a b from to = (p : Place) × (q : Place) × (x : Term) × Stands ts from (k.Mark m.OpenBracket) p × TermAt ts x (from + 1) × Stands ts (from + 1 + 1) (k.Mark m.CloseBracket) q
      × (b ≡ (a.0 ++ x ∷ [], q)) × (to ≡ from + 1 + 1 + 1)

  post_length : (a : Lengths) (at seen : ℕ) → Post (λ b to. IsLength a b at to) (length_more limits a ts at seen)
  unfolding length_more IsLength
  post_length a at seen = post_bind ts (IsMarkAt ts m.OpenBracket at) (λ b to. IsLength a b at to) (expect m.OpenBracket) _ at seen (post_expect ts m.OpenBracket at seen)
      (λ p a1 s1 o. post_bind ts (IsTermAt ts a1) (λ b to. IsLength a b at to) (bracketed limits) _ a1 s1 (post_bracketed ts limits a1 s1)
      (λ x a2 s2 u. post_bind ts (IsMarkAt ts m.CloseBracket a2) (λ b to. IsLength a b at to) (expect m.CloseBracket) _ a2 s2 (post_expect ts m.CloseBracket a2 s2)
      (λ q to s3 c. let n2 = u.1 ∙ ap (λ i. i + 1) o.1 in
      let r : IsLength a (a.0 ++ x ∷ [], q) at to =
      (p, q, x, o.0, subst (λ i. TermAt ts x i) o.1 u.0, subst (λ i. Stands ts i (k.Mark m.CloseBracket) q) n2 c.0, refl, c.1 ∙ ap (λ i. i + 1) n2) in r)))

  pub post_lengths : (n : ℕ) (a : Lengths) (at seen : ℕ) → Post (λ c to. LengthsAt ts a.0 c.0 a.1 c.1 at to) (turns (sees m.OpenBracket) (length_more limits) n a ts at seen)
  unfolding IsLength
  post_lengths n a at seen = post_until ts (λ a c from to. LengthsAt ts a.0 c.0 a.1 c.1 from to) IsLength (sees m.OpenBracket) (length_more limits)
      (λ a at q. t.end (record { is = q }))
      (λ a b c from mid to o r. t.more o.3 o.4 o.5 (subst (λ i. LengthsAt ts (a.0 ++ o.2 ∷ []) c.0 o.1 c.1 i to) o.7 (subst (λ (b : Lengths). LengthsAt ts b.0 c.0 b.1 c.1 mid to) o.6 r)))
      post_length n a at seen

  pub post_declared : (at seen : ℕ) → Post (λ x to. DeclaredNameAt ts x.0 x.1 at to) (declared_name limits ts at seen)
  unfolding declared_name
  post_declared at seen = post_bind ts (IsNameAt ts at) (λ x to. DeclaredNameAt ts x.0 x.1 at to) (name limits) _ at seen (post_name ts limits at seen)
      (λ id a1 s1 i. post_bind ts (λ c to. LengthsAt ts [] c.0 id.place c.1 a1 to) (λ x to. DeclaredNameAt ts x.0 x.1 at to) (turns (sees m.OpenBracket) (length_more limits) limits.turns ([], id.place)) _ a1 s1
      (post_lengths limits.turns ([], id.place) a1 s1)
      (λ list to s2 l. t.declared_name i.0 (subst (λ i. LengthsAt ts [] list.0 id.place list.1 i to) i.1 l)))

-- ---- what locals begin with

module _ (ts : List Lexed) (limits : Limits) (room : Bool) (d : ℕ) (value : Parser Value) (inner : Parser Initial)
    (hv : (at seen : ℕ) → Post (λ x to. ExprAt ts x.0 at to) (value ts at seen)) (hi : (at seen : ℕ) → Post (λ x to. InitializerAt ts x.0 x.1 at to) (inner ts at seen)) where
  abbrev IsItem : ℕ → Initial → ℕ → Type 0
  IsItem at x to = InitializerAt ts x.0 x.1 at to

  post_item : (count at seen : ℕ) → Post (IsItem at) (item limits room d value inner count ts at seen)
  unfolding item
  post_item count at seen = post_next ts (IsItem at) _ at seen
      (λ x e. post_fits ts (IsItem at) at x (fits_in limits count limits.items) code.TooLong (item_of limits room d value inner x) (λ f. by x (begins_item limits room d value inner x)))
    where
      by : (x : Option Lexed) (b : Bool) → PostChoice ts (IsItem at) at x (if b then if_fits (nat_lt 0 d) code.TooNested x (Leave inner) else Refuse)
      by x true = post_fits ts (IsItem at) at x (nat_lt 0 d) code.TooNested (Leave inner) (λ f s. hi at s)
      by x false = tt

  IsItems : List Initializer → List Initializer → ℕ → ℕ → Type 0
  IsItems a b from to = (p : Place) × (last : Place) × (x : Initializer) × Stands ts from (k.Mark m.Comma) p × InitializerAt ts x last (from + 1) to × (b ≡ a ++ x ∷ [])

  post_item_more : (a : List Initializer) (at seen : ℕ) → Post (λ b to. IsItems a b at to) (item_more limits room d value inner a ts at seen)
  unfolding item_more IsItems
  post_item_more a at seen = post_bind ts (IsMarkAt ts m.Comma at) (λ b to. IsItems a b at to) (expect m.Comma) _ at seen (post_expect ts m.Comma at seen)
      (λ p a1 s1 o. post_bind ts (IsItem a1) (λ b to. IsItems a b at to) (item limits room d value inner (length a)) _ a1 s1 (post_item (length a) a1 s1)
      (λ x to s2 u. let r : IsItems a (a ++ x.0 ∷ []) at to = (p, x.1, x.0, o.0, subst (λ i. InitializerAt ts x.0 x.1 i to) o.1 u, refl) in r))

  IsList : ℕ → ListTree → ℕ → Type 0
  IsList at x to = ListAt ts x at to

  post_items_rest : (begin : Place) (at seen : ℕ) → Stands ts at (k.Mark m.OpenBrace) begin → Post (IsList at) (items_rest limits room d value inner begin ts (at + 1) seen)
  unfolding items_rest IsItems IsList
  post_items_rest begin at seen o = post_bind ts (IsItem (at + 1)) (IsList at) (item limits room d value inner 0) _ (at + 1) seen (post_item 0 (at + 1) seen)
      (λ x a1 s1 u. post_bind ts (λ all to. MoreItemsAt ts (x.0 ∷ []) all a1 to) (IsList at) (turns (sees m.Comma) (item_more limits room d value inner) limits.turns (x.0 ∷ [])) _ a1 s1
      (post_turns ts (λ a b from to. MoreItemsAt ts a b from to) IsItems (sees m.Comma) (item_more limits room d value inner) (λ a at. t.end)
      (λ a b c from mid to i q. t.more i.3 i.4 (subst (λ list. MoreItemsAt ts list c mid to) i.5 q)) (λ a from s e. post_item_more a from s) limits.turns (x.0 ∷ []) a1 s1)
      (λ all a2 s2 q. post_bind ts (IsMarkAt ts m.CloseBrace a2) (IsList at) (expect m.CloseBrace) _ a2 s2 (post_expect ts m.CloseBrace a2 s2)
      (λ end to s3 z. subst (λ n. ListAt ts (listed (span begin end) all) at n) (sym z.1) (t.items o u q z.0))))

  post_no_items : (begin : Place) (at seen : ℕ) → Stands ts at (k.Mark m.OpenBrace) begin → Post (IsList at) (no_items limits room d value inner begin ts (at + 1) seen)
  unfolding no_items IsList
  post_no_items begin at seen o = post_bind ts (IsMarkAt ts m.CloseBrace (at + 1)) (IsList at) (expect m.CloseBrace) _ (at + 1) seen (post_expect ts m.CloseBrace (at + 1) seen)
      (λ end to s z. subst (λ n. ListAt ts (listed (span begin end) []) at n) (sym z.1) (t.no_items o z.0))

  post_list_rest : (begin : Place) (at seen : ℕ) → Stands ts at (k.Mark m.OpenBrace) begin → Post (IsList at) (list_rest limits room d value inner begin ts (at + 1) seen)
  unfolding list_rest
  post_list_rest begin at seen o = post_next ts (IsList at) _ (at + 1) seen (λ x e. by x (sees m.CloseBrace x))
    where
      by : (x : Option Lexed) (b : Bool) → PostChoice ts (IsList at) (at + 1) x (list_by limits room d value inner begin b)
      by x true = λ s. post_no_items begin at s o
      by x false = λ s. post_items_rest begin at s o

  pub post_initial : (at seen : ℕ) → Post (λ x to. InitializerAt ts x.0 x.1 at to) (initial limits room d value inner ts at seen)
  unfolding initial IsList
  post_initial at seen = post_next ts (IsItem at) _ at seen (λ x e. by x e (sees m.OpenBrace x) refl)
    where
      by : (x : Option Lexed) → first (drop at ts) ≡ x → (b : Bool) → sees m.OpenBrace x ≡ b → PostChoice ts (IsItem at) at x (initial_by limits room d value inner x b)
      by x e true q = post_fits ts (IsItem at) at x room code.TooNested (Take _) (λ f. post_take ts (IsItem at) at x _
          (λ s. post_bind ts (IsList at) (IsItem at) (list_rest limits room d value inner (place_of x)) _ (at + 1) s (post_list_rest (place_of x) at s (mark_stands ts at x m.OpenBrace e q)) (λ y to s1 l. t.braces l)))
      by x e false q = λ s. post_bind ts (λ x to. ExprAt ts x.0 at to) (IsItem at) value _ at s (hv at s) (λ v to s1 r. t.expression r)

module _ (ts : List Lexed) (limits : Limits) (he : (d at seen : ℕ) → Post (λ x to. ExprAt ts x.0 at to) (expressions limits d ts at seen)) where
  pub post_initials : (d at seen : ℕ) → Post (λ x to. InitializerAt ts x.0 x.1 at to) (initials limits d ts at seen)
  unfolding initials
  post_initials zero at seen = post_initial ts limits false zero (expressions limits zero) no_initial (he zero) (λ at seen. tt) at seen
  post_initials (suc d) at seen = post_initial ts limits true d (expressions limits (suc d)) (initials limits d) (he (suc d)) (post_initials d) at seen

-- ---- locals

module _ (ts : List Lexed) (limits : Limits) (d : ℕ) (hi : (at seen : ℕ) → Post (λ x to. InitializerAt ts x.0 x.1 at to) (initials limits d ts at seen)) where
  abbrev IsOne : ℕ → One → ℕ → Type 0
  IsOne at x to = LocalNameAt ts x.0 x.1 at to

  post_one_name : (at seen : ℕ) → Post (IsOne at) (one_name limits d ts at seen)
  unfolding one_name
  post_one_name at seen = post_bind ts (λ x to. DeclaredNameAt ts x.0 x.1 at to) (IsOne at) (declared_name limits) _ at seen (post_declared ts limits at seen)
      (λ x mid s1 r. post_next ts (IsOne at) _ mid s1 (λ y e. by x mid r y e (sees m.Equal y) refl))
    where
      by : (x : Named) (mid : ℕ) → DeclaredNameAt ts x.0 x.1 at mid → (y : Option Lexed) → first (drop mid ts) ≡ y → (b : Bool) → sees m.Equal y ≡ b → PostChoice ts (IsOne at) mid y (begun_by limits d x b)
      by x mid r y e true q = post_take ts (IsOne at) mid y _ (λ s. post_bind ts (λ v to. InitializerAt ts v.0 v.1 (mid + 1) to) (IsOne at) (initials limits d) _ (mid + 1) s (hi (mid + 1) s)
          (λ v to s1 i. t.begun r (mark_stands ts mid y m.Equal e q) i))
      by x mid r y e false q = λ s. t.alone r (record { is = ap (sees m.Equal) e ∙ q })

  IsName : Names → Names → ℕ → ℕ → Type 0
  IsName a b from to = (p : Place) × (x : One) × Stands ts from (k.Mark m.Comma) p × LocalNameAt ts x.0 x.1 (from + 1) to × (b ≡ (a.0 ++ x.0 ∷ [], x.1))

  post_name_more : (a : Names) (at seen : ℕ) → Post (λ b to. IsName a b at to) (name_more limits d a ts at seen)
  unfolding name_more IsName
  post_name_more a at seen = post_bind ts (IsMarkAt ts m.Comma at) (λ b to. IsName a b at to) (expect m.Comma) _ at seen (post_expect ts m.Comma at seen)
      (λ p a1 s1 o. post_bind ts (IsOne a1) (λ b to. IsName a b at to) (one_name limits d) _ a1 s1 (post_one_name a1 s1)
      (λ x to s2 u. let r : IsName a (a.0 ++ x.0 ∷ [], x.1) at to = (p, x, o.0, subst (λ i. LocalNameAt ts x.0 x.1 i to) o.1 u, refl) in r))

  -- names behind a type
  IsNames : Place → Bool → TypeTree → ℕ → Local → ℕ → Type 0
  IsNames begin is_const x at l to = (one : One) × (mid : ℕ) × (all : Names) × LocalNameAt ts one.0 one.1 at mid × MoreLocalNamesAt ts (one.0 ∷ []) all.0 one.1 all.1 mid to
      × (l ≡ local_of (span begin all.1) is_const x all.0)

  post_names_rest : (begin : Place) (is_const : Bool) (x : TypeTree) (at seen : ℕ) → Post (IsNames begin is_const x at) (names_rest limits d begin is_const x ts at seen)
  unfolding names_rest IsName IsNames
  post_names_rest begin is_const x at seen = post_bind ts (IsOne at) (IsNames begin is_const x at) (one_name limits d) _ at seen (post_one_name at seen)
      (λ one mid s1 u. post_bind ts (λ all to. MoreLocalNamesAt ts (one.0 ∷ []) all.0 one.1 all.1 mid to) (IsNames begin is_const x at) (turns (sees m.Comma) (name_more limits d) limits.turns (one.0 ∷ [], one.1)) _ mid s1
      (post_until ts (λ a c from to. MoreLocalNamesAt ts a.0 c.0 a.1 c.1 from to) IsName (sees m.Comma) (name_more limits d) (λ a at q. t.end (record { is = q }))
      (λ a b c from mid to i r. t.more i.2 i.3 (subst (λ (b : Names). MoreLocalNamesAt ts b.0 c.0 b.1 c.1 mid to) i.4 r)) post_name_more limits.turns (one.0 ∷ [], one.1) mid s1)
      (λ all to s2 r. let q : IsNames begin is_const x at (local_of (span begin all.1) is_const x all.0) to = (one, mid, all, u, r, refl) in q))

  post_variable : (at seen : ℕ) → Post (λ l to. LocalAt ts l at to) (variable limits d ts at seen)
  unfolding variable IsNames
  post_variable at seen = post_bind ts (λ x to. TypeAt ts x.0 at to) (λ l to. LocalAt ts l at to) (types limits d) _ at seen (post_types ts limits d at seen)
      (λ x mid s1 r. post_weaken (IsNames x.0.place false x.0 mid) (λ l to. LocalAt ts l at to)
      (λ l to h. subst (λ l. LocalAt ts l at to) (sym h.5) (t.variable r h.3 h.4)) (names_rest limits d x.0.place false x.0 ts mid s1) (post_names_rest x.0.place false x.0 mid s1))

  post_constant : (begin : Place) (at seen : ℕ) → Stands ts at (k.Word w.Const) begin → Post (λ l to. LocalAt ts l at to) (constant limits d begin ts (at + 1) seen)
  unfolding constant IsNames
  post_constant begin at seen o = post_bind ts (λ x to. TypeAt ts x.0 (at + 1) to) (λ l to. LocalAt ts l at to) (types limits d) _ (at + 1) seen (post_types ts limits d (at + 1) seen)
      (λ x mid s1 r. post_weaken (IsNames begin true x.0 mid) (λ l to. LocalAt ts l at to)
      (λ l to h. subst (λ l. LocalAt ts l at to) (sym h.5) (t.constant o r h.3 h.4)) (names_rest limits d begin true x.0 ts mid s1) (post_names_rest begin true x.0 mid s1))

-- ---- changes

both : (a b : Bool) → (a && b) ≡ true → (a ≡ true) × (b ≡ true)
both true true e = (refl, refl)
both true false e = cc
both false b e = cc

joined_stands : (ts : List Lexed) (at : ℕ) (x : Option Lexed) (mark : Mark) (p : Place) → first (drop at ts) ≡ x → joined mark p x ≡ true → Stands ts at (k.Mark mark) (place_of x) × (p.end ≡ (place_of x).start)
joined_stands ts at (Some tok) mark p e q = let b = both _ _ q in (mark_stands ts at (Some tok) mark e b.0, eqb-true p.end tok.place.start b.1)
joined_stands ts at None mark p e q = cc

module _ (ts : List Lexed) (limits : Limits) (d : ℕ) (he : (at seen : ℕ) → Post (λ x to. ExprAt ts x.0 at to) (expressions limits d ts at seen))
    (ho : (at seen : ℕ) → Post (λ x to. PostfixAt ts x.0 at to) (operands limits d ts at seen)) where
  abbrev IsChanged : ℕ → Change → ℕ → Type 0
  IsChanged from c to = ChangeAt ts c from to

  module _ (x : ExprTree) (from mid : ℕ) (r : PostfixAt ts x from mid) where
    post_assign : (o : Option BinaryOperator) (at seen : ℕ) → AssignAt ts o mid at → Post (IsChanged from) (assign limits d x o ts at seen)
    unfolding assign
    post_assign o at seen a = post_bind ts (λ y to. ExprAt ts y.0 at to) (IsChanged from) (expressions limits d) _ at seen (he at seen) (λ y to s1 v. t.assignment r a v)

    post_shift_assign : (p : Place) (seen : ℕ) → Stands ts mid (k.Mark m.Greater) p → Post (IsChanged from) (shift_assign limits d x p ts (mid + 1) seen)
    unfolding shift_assign shift_last
    post_shift_assign p seen o = post_next ts (IsChanged from) _ (mid + 1) seen (λ y e. by y e (joined m.Greater p y) refl)
      where
        last : (q : Place) → Stands ts (mid + 1) (k.Mark m.Greater) q → p.end ≡ q.start → (z : Option Lexed) → first (drop (mid + 1 + 1) ts) ≡ z → (b : Bool) → joined m.Equal q z ≡ b →
            PostChoice ts (IsChanged from) (mid + 1 + 1) z (shift_last_by limits d x b)
        last q g c z e true h = let j = joined_stands ts (mid + 1 + 1) z m.Equal q e h in
            post_take ts (IsChanged from) (mid + 1 + 1) z _ (λ s. post_assign (Some op.ShiftRight) (mid + 1 + 1 + 1) s (t.shift_right o g c j.0 j.1))
        last q g c z e false h = tt

        by : (y : Option Lexed) → first (drop (mid + 1) ts) ≡ y → (b : Bool) → joined m.Greater p y ≡ b → PostChoice ts (IsChanged from) (mid + 1) y (shift_by limits d x y b)
        by y e true h = let j = joined_stands ts (mid + 1) y m.Greater p e h in
            post_take ts (IsChanged from) (mid + 1) y _ (λ s. post_next ts (IsChanged from) _ (mid + 1 + 1) s (λ z e. last (place_of y) j.0 j.1 z e (joined m.Equal (place_of y) z) refl))
        by y e false h = tt

    post_called : (y : Option Lexed) (b : Bool) → is_call x.node ≡ b → PostChoice ts (IsChanged from) mid y (called limits d x b)
    post_called y true e = λ s. t.call r e
    post_called y false e = tt

    post_change_as : (tok : Lexed) (mark : Mark) → Stands ts mid (k.Mark mark) tok.place → (u : ChangeUse) → ChangeUseIs mark u → PostChoice ts (IsChanged from) mid (Some tok) (change_as limits d x tok u)
    post_change_as tok mark o what.Assign h = λ s. post_assign None (mid + 1) s (t.assign (subst (λ a. Stands ts mid (k.Mark a) tok.place) h o))
    post_change_as tok mark o (what.Update v) h = λ s. post_assign (Some v) (mid + 1) s (t.update o h)
    post_change_as tok mark o what.Shift h = λ s. post_shift_assign tok.place s (subst (λ a. Stands ts mid (k.Mark a) tok.place) h o)
    post_change_as tok mark o (what.Step v) h = λ s. t.step_behind r o h
    post_change_as tok mark o what.End h = post_called (Some tok) (is_call x.node) refl

    post_change_rest : (seen : ℕ) → Post (IsChanged from) (change_rest limits d x ts mid seen)
    unfolding change_rest
    post_change_rest seen = post_next ts (IsChanged from) (change_at limits d x) mid seen go
      where
        by : (tok : Lexed) → first (drop mid ts) ≡ Some tok → (kind : Kind) → tok.kind ≡ kind → PostChoice ts (IsChanged from) mid (Some tok) (change_kind limits d x tok kind)
        by tok e (k.Mark mark) q = post_change_as tok mark (stands ts mid tok (k.Mark mark) e q) (change_use mark) (change_use_is mark)
        by tok e k.Name q = post_called (Some tok) (is_call x.node) refl
        by tok e (k.Word word) q = post_called (Some tok) (is_call x.node) refl
        by tok e (k.Number v) q = post_called (Some tok) (is_call x.node) refl
        by tok e k.String q = post_called (Some tok) (is_call x.node) refl

        go : (y : Option Lexed) → first (drop mid ts) ≡ y → PostChoice ts (IsChanged from) mid y (change_at limits d x y)
        go (Some tok) e = by tok e tok.kind refl
        go None e = post_called None (is_call x.node) refl

  post_place_change : (at seen : ℕ) → Post (IsChanged at) (place_change limits d ts at seen)
  unfolding place_change
  post_place_change at seen = post_bind ts (λ x to. PostfixAt ts x.0 at to) (IsChanged at) (operands limits d) _ at seen (ho at seen) (λ x mid s1 r. post_change_rest x.0 at mid r s1)

  post_begin_as : (at : ℕ) (tok : Lexed) (mark : Mark) → Stands ts at (k.Mark mark) tok.place → (u : ChangeUse) → ChangeUseIs mark u → PostChoice ts (IsChanged at) at (Some tok) (begin_as limits d tok u)
  unfolding step_before
  post_begin_as at tok mark o (what.Step v) h = λ s. post_bind ts (λ x to. PostfixAt ts x.0 (at + 1) to) (IsChanged at) (operands limits d) _ (at + 1) s (ho (at + 1) s) (λ x to s1 r. t.step_before o h r)
  post_begin_as at tok mark o what.Assign h = λ s. post_place_change at s
  post_begin_as at tok mark o (what.Update v) h = λ s. post_place_change at s
  post_begin_as at tok mark o what.Shift h = λ s. post_place_change at s
  post_begin_as at tok mark o what.End h = λ s. post_place_change at s

  pub post_change : (at seen : ℕ) → Post (λ c to. ChangeAt ts c at to) (change limits d ts at seen)
  unfolding change
  post_change at seen = post_next ts (IsChanged at) (begin_at limits d) at seen go
    where
      by : (tok : Lexed) → first (drop at ts) ≡ Some tok → (kind : Kind) → tok.kind ≡ kind → PostChoice ts (IsChanged at) at (Some tok) (begin_kind limits d tok kind)
      by tok e (k.Mark mark) q = post_begin_as at tok mark (stands ts at tok (k.Mark mark) e q) (change_use mark) (change_use_is mark)
      by tok e k.Name q = λ s. post_place_change at s
      by tok e (k.Word word) q = λ s. post_place_change at s
      by tok e (k.Number v) q = λ s. post_place_change at s
      by tok e k.String q = λ s. post_place_change at s

      go : (y : Option Lexed) → first (drop at ts) ≡ y → PostChoice ts (IsChanged at) at y (begin_at limits d y)
      go (Some tok) e = by tok e tok.kind refl
      go None e = λ s. post_place_change at s

  -- ---- either

  abbrev pub IsSimple : ℕ → Simple → ℕ → Type 0
  IsSimple at (IsLocal x) to = LocalAt ts x at to
  IsSimple at (IsChange x) to = ChangeAt ts x at to

  module _ (hi : (at seen : ℕ) → Post (λ x to. InitializerAt ts x.0 x.1 at to) (initials limits d ts at seen)) where
    post_either : (b : Bool) (at seen : ℕ) → Post (IsSimple at) (either limits d b ts at seen)
    post_either true at seen = post_bind ts (λ l to. LocalAt ts l at to) (IsSimple at) (variable limits d) _ at seen (post_variable ts limits d hi at seen) (λ x to s1 r. r)
    post_either false at seen = post_bind ts (λ c to. ChangeAt ts c at to) (IsSimple at) (change limits d) _ at seen (post_change at seen) (λ x to s1 r. r)

    pub post_simple : (at seen : ℕ) → Post (IsSimple at) (simple limits d ts at seen)
    unfolding simple
    post_simple at seen = post_next ts (IsSimple at) _ at seen (λ x e. by x e (sees_word w.Const x) refl)
      where
        by : (x : Option Lexed) → first (drop at ts) ≡ x → (b : Bool) → sees_word w.Const x ≡ b → PostChoice ts (IsSimple at) at x (simple_by limits d x b)
        by x e true q = post_take ts (IsSimple at) at x _ (λ s. post_bind ts (λ l to. LocalAt ts l at to) (IsSimple at) (constant limits d (place_of x)) _ (at + 1) s
            (post_constant ts limits d hi (place_of x) at s (word_stands ts at x w.Const e q)) (λ x to s1 r. r))
        by x e false q = λ s. post_foresee ts (local_ahead limits) (either limits d) at s (IsSimple at) (λ b mid s1 e. post_either true at s1) (λ never s1. post_either false at s1)

    -- ---- parts of statements

    pub post_maybe : (at seen : ℕ) → Post (λ x to. MaybeAt ts x at to) (maybe limits d ts at seen)
    unfolding maybe
    post_maybe at seen = post_next ts (λ x to. MaybeAt ts x at to) _ at seen (λ x e. by x _)
      where
        by : (x : Option Lexed) (b : Bool) → PostChoice ts (λ x to. MaybeAt ts x at to) at x (maybe_by limits d b)
        by x true = λ s. post_bind ts (λ v to. ExprAt ts v.0 at to) (λ x to. MaybeAt ts x at to) (expressions limits d) _ at s (he at s) (λ v to s1 r. t.present r)
        by x false = λ s. t.absent

    pub post_condition : (at seen : ℕ) → Post (λ x to. ConditionAt ts x at to) (condition limits d ts at seen)
    unfolding condition
    post_condition at seen = post_bind ts (IsMarkAt ts m.OpenParen at) (λ x to. ConditionAt ts x at to) (expect m.OpenParen) _ at seen (post_expect ts m.OpenParen at seen)
        (λ p a1 s1 o. post_bind ts (λ v to. ExprAt ts v.0 a1 to) (λ x to. ConditionAt ts x at to) (expressions limits d) _ a1 s1 (he a1 s1)
        (λ v a2 s2 r. post_bind ts (IsMarkAt ts m.CloseParen a2) (λ x to. ConditionAt ts x at to) (expect m.CloseParen) _ a2 s2 (post_expect ts m.CloseParen a2 s2)
        (λ q to s3 z. subst (λ n. ConditionAt ts v.0 at n) (sym z.1) (t.condition o.0 (subst (λ i. ExprAt ts v.0 i a2) o.1 r) z.0))))

    post_start : (at seen : ℕ) → Post (λ x to. StartAt ts x at to) (start limits d ts at seen)
    unfolding start
    post_start at seen = post_next ts (λ x to. StartAt ts x at to) _ at seen (λ x e. by x (sees m.Semicolon x))
      where
        from : (x : Simple) (to : ℕ) → IsSimple at x to → StartAt ts (start_of limits d x) at to
        from (IsLocal x) to r = t.local r
        from (IsChange x) to r = t.change r

        by : (x : Option Lexed) (b : Bool) → PostChoice ts (λ x to. StartAt ts x at to) at x (start_by limits d b)
        by x true = λ s. t.nothing
        by x false = λ s. post_bind ts (IsSimple at) (λ x to. StartAt ts x at to) (simple limits d) _ at s (post_simple at s) (λ x to s1 r. from x to r)

    post_step : (at seen : ℕ) → Post (λ x to. StepAt ts x at to) (step limits d ts at seen)
    unfolding step
    post_step at seen = post_next ts (λ x to. StepAt ts x at to) _ at seen (λ x e. by x (sees m.CloseParen x))
      where
        by : (x : Option Lexed) (b : Bool) → PostChoice ts (λ x to. StepAt ts x at to) at x (step_by limits d b)
        by x true = λ s. t.absent
        by x false = λ s. post_bind ts (λ c to. ChangeAt ts c at to) (λ x to. StepAt ts x at to) (change limits d) _ at s (post_change at s) (λ x to s1 r. t.present r)

    pub post_head : (at seen : ℕ) → Post (λ (h : Head limits d) to. HeadAt ts h.0 h.1 h.2 at to) (head limits d ts at seen)
    unfolding head
    post_head at seen = let Q : Head limits d → ℕ → Type 0 = λ h to. HeadAt ts h.0 h.1 h.2 at to in
        post_bind ts (IsMarkAt ts m.OpenParen at) Q (expect m.OpenParen) _ at seen (post_expect ts m.OpenParen at seen)
        (λ p a1 s1 o. post_bind ts (λ x to. StartAt ts x a1 to) Q (start limits d) _ a1 s1 (post_start a1 s1)
        (λ x a2 s2 r. post_bind ts (IsMarkAt ts m.Semicolon a2) Q (expect m.Semicolon) _ a2 s2 (post_expect ts m.Semicolon a2 s2)
        (λ q a3 s3 c. post_bind ts (λ x to. MaybeAt ts x a3 to) Q (maybe limits d) _ a3 s3 (post_maybe a3 s3)
        (λ y a4 s4 v. post_bind ts (IsMarkAt ts m.Semicolon a4) Q (expect m.Semicolon) _ a4 s4 (post_expect ts m.Semicolon a4 s4)
        (λ u a5 s5 e. post_bind ts (λ x to. StepAt ts x a5 to) Q (step limits d) _ a5 s5 (post_step a5 s5)
        (λ z a6 s6 g. post_bind ts (IsMarkAt ts m.CloseParen a6) Q (expect m.CloseParen) _ a6 s6 (post_expect ts m.CloseParen a6 s6)
        (λ i to s7 j. subst (λ n. HeadAt ts x y z at n) (sym j.1) (t.head o.0 (subst (λ i. StartAt ts x i a2) o.1 r) c.0 (subst (λ i. MaybeAt ts y i a4) c.1 v) e.0 (subst (λ i. StepAt ts z i a6) e.1 g) j.0))))))))
