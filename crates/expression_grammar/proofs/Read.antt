-- Expressions: what is spelled is read, unless a limit is passed.
use Rattle.std.proofs.Common.{Bool, true, false, ◌≡◌, ℕ, zero, suc, ◌+◌, ◌<◌, ◌≤◌, max, List, [], ◌∷◌, ◌++◌, map, drop, length, length-append, Option, Some, None, refl, sym, ◌∙◌, ap, subst, arith, eq-eqb, eqb-true, ◌&&◌, ◌==◌, if◌then◌else◌, ◌⊎◌, inl, inr}
use Rattle.std.specs.Prelude.{nat_lt}
use Rattle.std.proofs.lemmas.Bool.Decides.{eqb_tells}
use Rattle.slang_names.specs.declared.places.Place.{Place}
use Rattle.slang_names.specs.declared.codes.ModuleCode.TheVariants as code
use Rattle.slang_tree.specs.declared.types.Identifier.{Identifier}
use Rattle.slang_tree.specs.declared.types.Builtin.{Builtin}
use Rattle.slang_tree.specs.declared.types.GenericArgument.{GenericArgument}
use Rattle.slang_tree.specs.declared.expressions.BinaryOperator.{BinaryOperator}
use Rattle.slang_tree.specs.declared.expressions.BinaryOperator.TheVariants as o
use Rattle.slang_tree.specs.declared.expressions.ExprTree.{ExprTree}
use Rattle.slang_tree.specs.declared.expressions.ExprNode.{ExprNode}
use Rattle.slang_tree.specs.declared.expressions.ExprNode.TheVariants as n
use Rattle.slang_tokens.specs.declared.tokens.Kind.{Kind}
use Rattle.slang_tokens.specs.declared.tokens.Kind.TheVariants as k
use Rattle.slang_tokens.specs.declared.tokens.Mark.{Mark}
use Rattle.slang_tokens.specs.declared.tokens.Mark.TheVariants as m
use Rattle.slang_tokens.specs.declared.tokens.Word.{Word}
use Rattle.slang_tokens.specs.declared.tokens.Word.TheVariants as w
use Rattle.slang_reading.specs.Lexed.{Lexed}
use Rattle.slang_reading.specs.Reading.{Outcome, Done, Stop, Past, Parser, Choice, Leave, Take, Refuse, first, if_fits, ◌>>=◌, pure, past, place_of, next, attempt, turns}
use Rattle.slang_reading.specs.Kinds.{is_mark, sees, span}
use Rattle.slang_reading.proofs.Marks.{same_mark, mark_sees}
use Rattle.slang_reading.proofs.Viable.{IsPast}
use Rattle.slang_reading.proofs.Exact.{Meets, Reads, ReadsChoice, reads_pure, reads_bind, reads_next, reads_fits, reads_turns_end, reads_turns_more, reads_turns_full, reads_attempt_some, reads_attempt_none, reads_foresee_yes, reads_foresee_no}
use Rattle.slang_grammar.specs.Tables.{builtin_of, unary_of, binary_of, level_of}
use Rattle.slang_grammar.specs.Standing.{Stands, NameStands, IsNot}
use Rattle.slang_grammar.specs.Types.{ArgumentsAt}
use Rattle.slang_grammar.specs.Heights.{greatest, argument_height}
use Rattle.slang_grammar.specs.Sizes.{ArgumentsFit}
use Rattle.slang_grammar.specs.Expressions as ex
use Rattle.slang_grammar.specs.Expressions.{valued, follows, NoArguments, NameAt, OperatorAt, loosest, ExprAt, LevelAt, BinaryAt, UnaryAt, PostfixAt, ChainAt, ValuesAt, MoreValuesAt, PrimaryAt}
use Rattle.slang_grammar.specs.Descent.{Limits, fits_in, expect, identifier, is_short, if_short}
use Rattle.slang_grammar.specs.TypesDescent.{Arguments, arguments, types}
use Rattle.slang_grammar.specs.ExpressionsDescent.{Value, Values, freed, arguments_ahead, Given, given_by, given_at, given, repeats, begins, adjacent, joined, shift_ahead, cast_to, cast_at, cast_ahead, whole, over, value_of, value, value_more, values_by, values, leaf, construct, primary_word, named, paren, member_name, member_at, index, call, chain_at, chain, chains, chain_rest, primary_at, postfix, prefix, cast_by, unary_mark, unary_at, unary, operand, greater, shift_by, operator_mark, operator_by, operator_at, operator, level, choice, choice_by, choice_rest, at_level, leveled}
use Rattle.slang_grammar.proofs.Shared.{stands, reads_expect, not_there, is_there}
use Rattle.slang_grammar.proofs.TypesSpelled.{post_arguments, post_types}
use Rattle.slang_grammar.proofs.Limited.{Turns, in_limit, short_limit, room_limit}
use Rattle.slang_grammar.proofs.TypesRead.{ArgumentsAllowed, arguments_within, reads_arguments, less_there}
use Rattle.expression_grammar.specs.Heights.{expr_height}
use Rattle.expression_grammar.specs.Sizes.{Fits, ListFits}
use Rattle.expression_grammar.specs.Ends.{goes_on}
use Rattle.expression_grammar.proofs.Heights.{height_value, height_true, height_false, height_this_value, height_this_type, height_name, height_construct, height_paren, height_member, height_index, height_call, height_unary, height_cast, height_binary, height_choice, greatest_longer}
use Rattle.expression_grammar.proofs.Sizes.{positive}
use Rattle.expression_grammar.proofs.Fitting.{name_arguments, construct_values, paren_value, member_value, member_arguments, index_value, index_inside, call_value, call_values, unary_value, cast_value, binary_left, binary_right, choice_first, choice_second, choice_third, name_short, member_short, more_room, last_fits, last_in, chain_fits, binary_fits, more_fits}
use Rattle.expression_grammar.proofs.Tables.{operator_other, unary_other, unary_only, level_bound}
use Rattle.expression_grammar.proofs.Parts.{reads_repeats_end, reads_repeats_more, reads_repeats_full}
use Rattle.slang_reading.proofs.Fine.{fine_post, fine_not_past}
use Rattle.expression_grammar.proofs.Ahead.{fine_arguments_ahead, IsCastAt, fine_cast_ahead, IsShiftAt, fine_shift_ahead}
use Rattle.expression_grammar.proofs.Quiet.{unary_begins, level_begins, expr_begins, begins_not, goes_in, QuietAt, ends_question, quiet_ends, ends_here, quiet_question, binary_quiet, more_ends, expr_no_cast}
use Rattle.expression_grammar.proofs.Spelled.{post_arguments_ahead, reads_arguments_ahead, not_whole}

-- what passes no limit but where that is excused
pub reads_excused : {A : Type 0} (E : Type 0) (p : Parser A) (ts : List Lexed) (at seen : ℕ) (a : A) (to : ℕ) → Reads (Unit {0}) p ts at seen a to → (IsPast (p ts at seen) → E) → Reads E p ts at seen a to
reads_excused {A = A} E p ts at seen a to r x = record { is = go (p ts at seen) r.is x }
  where
    go : (o : Outcome A) → Meets (Unit {0}) a to o → (IsPast o → E) → Meets E a to o
    go (Done b mid seen1) h y = h
    go (Stop seen1) h y = h
    go (Past code place seen1) h y = y tt

-- Generic arguments are read where they are spelled and keep the limits. E holds where a limit is passed.
pub record ArgumentsRead (E : Type 0) (ts : List Lexed) (limits : Limits) : Type 0 where
  pub reads : (args : List GenericArgument) (end : Place) (from to : ℕ) → ArgumentsAt ts args end from to → (d seen : ℕ) → ArgumentsAllowed E limits d args →
      Reads E (arguments limits true d (types limits d)) ts from seen ((args, greatest (map argument_height args)), end) to
  -- and what is looked at ahead passes no limit
  pub ahead : (from seen : ℕ) → IsPast (arguments_ahead limits ts from seen) → E

module _ (E : Type 0) (ts : List Lexed) (limits : Limits) (types_read : ArgumentsRead E ts limits) where
  -- the expression is within the limits, or a limit may be passed
  abbrev pub Allowed : ℕ → ExprTree → Type 0
  Allowed d x = (Fits limits d x × Turns limits d) ⊎ E

  abbrev AllowedList : ℕ → List ExprTree → Type 0
  AllowedList d xs = (ListFits limits d xs × Turns limits d) ⊎ E

  fewer : (d : ℕ) → Turns limits (suc d) → Turns limits d
  fewer d t = let h = t.nodes in record { nodes = omega (arith, h); items = t.items }

  -- of one with a node around it
  down : (d : ℕ) (y x : ExprTree) → Allowed (suc d) y → (Fits limits (suc d) y → Fits limits d x) → Allowed d x
  down d y x a f = elim a [ inl h ↦ inl (f h.0, fewer d h.1) | inr e ↦ inr e ]

  down_list : (d : ℕ) (y : ExprTree) (xs : List ExprTree) → Allowed (suc d) y → (Fits limits (suc d) y → ListFits limits d xs) → AllowedList d xs
  down_list d y xs a f = elim a [ inl h ↦ inl (f h.0, fewer d h.1) | inr e ↦ inr e ]

  down_arguments : (d : ℕ) (y : ExprTree) (args : List GenericArgument) → Allowed (suc d) y → (Fits limits (suc d) y → ArgumentsFit limits d args) → ArgumentsAllowed E limits d args
  down_arguments d y args a f = elim a [ inl h ↦ inl (f h.0, fewer d h.1) | inr e ↦ inr e ]

  across : (d : ℕ) (y x : ExprTree) → Allowed d y → (Fits limits d y → Fits limits d x) → Allowed d x
  across d y x a f = elim a [ inl h ↦ inl (f h.0, h.1) | inr e ↦ inr e ]

  -- a limit that is passed is excused
  excuse_over : (d : ℕ) (x : ExprTree) → Allowed d x → fits_in limits (expr_height x) (suc d) ≡ false → E
  excuse_over d x a e = elim a [ inl h ↦ absurd (let l = h.0.nodes in in_limit limits (expr_height x) (suc d) (omega (arith, l)) e) | inr e ↦ e ]

  excuse_short : (d : ℕ) (x : ExprTree) (t : Lexed) → Allowed d x → (Fits limits d x → length t.bytes ≤ limits.names) → is_short limits t ≡ false → E
  excuse_short d x t a f e = elim a [ inl h ↦ absurd (short_limit limits t (f h.0) e) | inr e ↦ e ]

  excuse_room : (d : ℕ) (x : ExprTree) → Allowed d x → nat_lt 0 d ≡ false → E
  excuse_room d x a e = elim a [ inl h ↦ absurd (let l = h.0.nodes in let p = positive x in room_limit d (omega (arith, l, p)) e) | inr e ↦ e ]

  excuse_zero : (x : ExprTree) → Allowed zero x → E
  excuse_zero x a = elim a [ inl h ↦ absurd (let l = h.0.nodes in let p = positive x in omega (arith, l, p)) | inr e ↦ e ]

  -- turns that are left for what may still stand over an expression
  abbrev Counts : ℕ → ℕ → ExprTree → Type 0
  Counts d count x = (suc d ≤ expr_height x + count) ⊎ E

  counts_all : (d : ℕ) (y x : ExprTree) → Allowed (suc d) y → Counts d limits.turns x
  counts_all d y x a = elim a [ inl h ↦ inl (let l = h.1.nodes in omega (arith, l)) | inr e ↦ inr e ]

  counts_next : (d count : ℕ) (x y : ExprTree) → expr_height x < expr_height y → Counts d (suc count) x → Counts d count y
  counts_next d count x y lt c = elim c [ inl h ↦ inl (omega (arith, h, lt)) | inr e ↦ inr e ]

  counts_none : (d : ℕ) (x : ExprTree) → Counts d zero x → Allowed d x → E
  counts_none d x c a = elim c [ inl h ↦ elim a [ inl f ↦ absurd (let l = f.0.nodes in omega (arith, h, l)) | inr e ↦ e ] | inr e ↦ e ]

  -- the answer with an equal height
  reads_tall : (x : ExprTree) (h at seen : ℕ) → expr_height x ≡ h → Reads {A = Value} E (pure (x, h)) ts at seen (x, expr_height x) at
  reads_tall x h at seen e = subst (λ i. Reads {A = Value} E (pure (x, i)) ts at seen (x, expr_height x) at) e (reads_pure E ts (x, expr_height x) at seen)

  abbrev marked : Mark → Place → List ℕ → Lexed
  marked mark p bytes = record { kind = k.Mark mark; place = p; bytes = bytes }

  -- ---- a name and what stands behind it

  reads_given : (d : ℕ) (id : Identifier) (args : List GenericArgument) (end : Place) (from to : ℕ) → NameAt ts id args end from to → (seen : ℕ) → ArgumentsAllowed E limits d args →
      Reads {A = Given} E (given limits d id.place) ts (from + 1) seen (args, greatest (map argument_height args), end) to
  unfolding given
  reads_given d id args end from to (ex.alone s none) seen a = by (sees m.Less (first (drop (from + 1) ts))) refl
    where
      answer : Given
      answer = ([], 0, id.place)

      by : (b : Bool) → sees m.Less (first (drop (from + 1) ts)) ≡ b → Reads {A = Given} E (next (λ x. given_at limits d id.place (sees m.Less x))) ts (from + 1) seen ([], 0, id.place) (from + 1)
      by true e = reads_next E ts (λ x. given_at limits d id.place (sees m.Less x)) (from + 1) seen ([], 0, id.place) (from + 1) (first (drop (from + 1) ts)) (given_at limits d id.place true) refl (ap (given_at limits d id.place) e)
          (λ seen1. reads_foresee_no ts (arguments_ahead limits) (given_by limits d id.place) (from + 1) seen1 E
          (λ (r : Arguments × Place) (end : ℕ). ArgumentsAt ts r.0.0 r.1 (from + 1) end × (follows (first (drop end ts)) ≡ true)) ([], 0, id.place) (from + 1)
          (post_arguments_ahead ts limits (λ (r : Arguments × Place) (end : ℕ). ArgumentsAt ts r.0.0 r.1 (from + 1) end) (from + 1) seen1
          (post_arguments ts (freed limits) true limits.turns (types (freed limits) limits.turns) (λ at seen2. post_types ts (freed limits) limits.turns at seen2) (from + 1) seen1))
          (λ b mid p. none.none b.0.0 b.1 mid p.0 p.1) (types_read.ahead (from + 1) seen1)
          (λ seen2. reads_pure E ts ([], 0, id.place) (from + 1) seen2))
      by false e = reads_next E ts (λ x. given_at limits d id.place (sees m.Less x)) (from + 1) seen ([], 0, id.place) (from + 1) (first (drop (from + 1) ts)) (given_at limits d id.place false) refl (ap (given_at limits d id.place) e)
          (λ seen1. reads_pure E ts ([], 0, id.place) (from + 1) seen1)
  reads_given d id args end from to (ex.generic s r f) seen a =
      let z : Given = (args, greatest (map argument_height args), end) in
      let all : Arguments × Place = ((args, greatest (map argument_height args)), end) in
      reads_next E ts (λ x. given_at limits d id.place (sees m.Less x)) (from + 1) seen z to (first (drop (from + 1) ts)) (given_at limits d id.place true) refl
      (ap (given_at limits d id.place) (less_there r))
      (λ seen1. reads_foresee_yes ts (arguments_ahead limits) (given_by limits d id.place) (from + 1) seen1 E all z to to
      (reads_excused E (arguments_ahead limits) ts (from + 1) seen1 all to
      (reads_arguments_ahead ts limits (Unit {0}) all (from + 1) to seen1 (reads_arguments (Unit {0}) tt (freed limits) r true limits.turns seen1) f) (types_read.ahead (from + 1) seen1))
      (λ seen2. reads_bind E ts (arguments limits true d (types limits d)) _ (from + 1) seen2 to to all z (types_read.reads args end (from + 1) to r d seen2 a) (λ seen3. reads_pure E ts z to seen3)))

  -- ---- operators between operands, whatever reads the operands

  module _ (d : ℕ) (inner : ℕ → Parser Value) where
    -- a node over what is read so far, or an excuse
    reads_over : {A : Type 0} (at : ℕ) (a : A) (to : ℕ) (x : ExprTree) (t : Lexed) (c : Choice A) → Allowed d x → ReadsChoice E ts at a to (Some t) c → ReadsChoice E ts at a to (Some t) (over limits d inner (x, expr_height x) (Some t) c)
    reads_over at a to x t c h r = reads_fits E ts at a to (Some t) (fits_in limits (expr_height x) (suc d)) code.TooNested c (excuse_over d x h) r

    reads_operand : (l : ℕ) (op : BinaryOperator) (x z : ExprTree) (mid to seen : ℕ) → ((seen1 : ℕ) → Reads E (inner l) ts mid seen1 (z, expr_height z) to) →
        Reads E (operand limits d inner l op (x, expr_height x)) ts mid seen (Some (valued (span x.place z.place) (n.Binary op x z), expr_height (valued (span x.place z.place) (n.Binary op x z)))) to
    unfolding operand
    reads_operand l op x z mid to seen r =
        let y = valued (span x.place z.place) (n.Binary op x z) in
        reads_bind E ts (inner l) _ mid seen to to (z, expr_height z) (Some (y, expr_height y)) (r seen)
        (λ seen1. subst (λ i. Reads {A = Option Value} E (pure (Some (y, i))) ts to seen1 (Some (y, expr_height y)) to) (height_binary (span x.place z.place) op x z) (reads_pure E ts (Some (y, expr_height y)) to seen1))

    not_joined : (mark : Mark) (p : Place) (x : Option Lexed) → sees mark x ≡ false → joined mark p x ≡ false
    not_joined mark p None e = refl
    not_joined mark p (Some t) e = by (is_mark mark t.kind) (adjacent p t.place) e
      where
        by : (a b : Bool) → a ≡ false → (a && b) ≡ false
        by false b e = refl
        by true b e = cc

    is_joined : (mark : Mark) (at : ℕ) (p q : Place) → Stands ts at (k.Mark mark) q → p.end ≡ q.start → joined mark p (first (drop at ts)) ≡ true
    is_joined mark at p q s j = ap (joined mark p) s.is ∙ both (is_mark mark (k.Mark mark)) (p.end == q.start) (mark_sees mark (marked mark q s.bytes) refl) (eq-eqb p.end q.start j)
      where
        both : (a b : Bool) → a ≡ true → b ≡ true → (a && b) ≡ true
        both true b e f = f
        both false b e f = cc

    eqb_same : (a b : ℕ) → a ≡ b → (a == b) ≡ true
    eqb_same a b e = eq-eqb a b e

    eqb_other : (a b : ℕ) → (a ≡ b → ⊥) → (a == b) ≡ false
    eqb_other a b h = elim (eqb_tells a b) [ inl t ↦ absurd (h t.1) | inr t ↦ t.0 ]

    reads_shift_ahead : (p q : Place) (at seen : ℕ) → Stands ts at (k.Mark m.Greater) p → Stands ts (at + 1) (k.Mark m.Greater) q → p.end ≡ q.start → Reads E shift_ahead ts at seen p (at + 1 + 1)
    unfolding shift_ahead
    reads_shift_ahead p q at seen s t j = reads_bind E ts (expect m.Greater) _ at seen (at + 1) (at + 1 + 1) p p (reads_expect E ts m.Greater p at seen s)
        (λ seen1. reads_next E ts (λ x. if joined m.Greater p x then Take (pure p) else Refuse) (at + 1) seen1 p (at + 1 + 1) (Some (marked m.Greater q t.bytes)) (Take (pure p)) t.is
        (ap (λ b. if b then Take (pure p) else Refuse) (ap (joined m.Greater p) (sym t.is) ∙ is_joined m.Greater (at + 1) p q t j)) (λ seen2. reads_pure E ts p (at + 1 + 1) seen2))

    -- `>` alone: an operand and no `=` stands behind it
    reads_greater_alone : (l : ℕ) (x z : ExprTree) (p : Place) (from to : ℕ) → Stands ts from (k.Mark m.Greater) p → level_of o.Greater ≡ l → begins (first (drop (from + 1) ts)) ≡ true → Allowed d x →
        ((seen1 : ℕ) → Reads E (inner l) ts (from + 1) seen1 (z, expr_height z) to) → (seen : ℕ) →
        Reads E (next (operator_at limits d inner l (x, expr_height x))) ts from seen (Some (valued (span x.place z.place) (n.Binary o.Greater x z), expr_height (valued (span x.place z.place) (n.Binary o.Greater x z)))) to
    unfolding greater
    reads_greater_alone l x z p from to s v b a r seen =
        let y = valued (span x.place z.place) (n.Binary o.Greater x z) in
        let t = marked m.Greater p s.bytes in
        let rest = if l == level_of o.ShiftRight then Leave (attempt shift_ahead (shift_by limits d inner l (x, expr_height x))) else Leave (pure None) in
        reads_next E ts (operator_at limits d inner l (x, expr_height x)) from seen (Some (y, expr_height y)) to (Some t) (over limits d inner (x, expr_height x) (Some t) (Take (greater limits d inner l p (x, expr_height x)))) s.is
        (ap (λ c. if c then over limits d inner (x, expr_height x) (Some t) (Take (greater limits d inner l p (x, expr_height x))) else rest) (eqb_same l (level_of o.Greater) (sym v)))
        (reads_over from (Some (y, expr_height y)) to x t (Take (greater limits d inner l p (x, expr_height x))) a
        (λ seen1. reads_next E ts (λ u. if joined m.Equal p u then Take (operand limits d inner l o.GreaterEqual (x, expr_height x)) else Leave (operand limits d inner l o.Greater (x, expr_height x))) (from + 1) seen1 (Some (y, expr_height y)) to
        (first (drop (from + 1) ts)) (Leave (operand limits d inner l o.Greater (x, expr_height x))) refl
        (ap (λ c. if c then Take (operand limits d inner l o.GreaterEqual (x, expr_height x)) else Leave (operand limits d inner l o.Greater (x, expr_height x)))
        (not_joined m.Equal p (first (drop (from + 1) ts)) (begins_not m.Equal (first (drop (from + 1) ts)) b refl)))
        (λ seen2. reads_operand l o.Greater x z (from + 1) to seen2 r)))

    reads_greater_equal : (l : ℕ) (x z : ExprTree) (p q : Place) (from to : ℕ) → Stands ts from (k.Mark m.Greater) p → Stands ts (from + 1) (k.Mark m.Equal) q → p.end ≡ q.start → level_of o.GreaterEqual ≡ l → Allowed d x →
        ((seen1 : ℕ) → Reads E (inner l) ts (from + 1 + 1) seen1 (z, expr_height z) to) → (seen : ℕ) →
        Reads E (next (operator_at limits d inner l (x, expr_height x))) ts from seen (Some (valued (span x.place z.place) (n.Binary o.GreaterEqual x z), expr_height (valued (span x.place z.place) (n.Binary o.GreaterEqual x z)))) to
    unfolding greater
    reads_greater_equal l x z p q from to s u j v a r seen =
        let y = valued (span x.place z.place) (n.Binary o.GreaterEqual x z) in
        let t = marked m.Greater p s.bytes in
        let e = marked m.Equal q u.bytes in
        let rest = if l == level_of o.ShiftRight then Leave (attempt shift_ahead (shift_by limits d inner l (x, expr_height x))) else Leave (pure None) in
        reads_next E ts (operator_at limits d inner l (x, expr_height x)) from seen (Some (y, expr_height y)) to (Some t) (over limits d inner (x, expr_height x) (Some t) (Take (greater limits d inner l p (x, expr_height x)))) s.is
        (ap (λ c. if c then over limits d inner (x, expr_height x) (Some t) (Take (greater limits d inner l p (x, expr_height x))) else rest) (eqb_same l (level_of o.Greater) (sym v)))
        (reads_over from (Some (y, expr_height y)) to x t (Take (greater limits d inner l p (x, expr_height x))) a
        (λ seen1. reads_next E ts (λ u. if joined m.Equal p u then Take (operand limits d inner l o.GreaterEqual (x, expr_height x)) else Leave (operand limits d inner l o.Greater (x, expr_height x))) (from + 1) seen1 (Some (y, expr_height y)) to
        (Some e) (Take (operand limits d inner l o.GreaterEqual (x, expr_height x))) u.is
        (ap (λ c. if c then Take (operand limits d inner l o.GreaterEqual (x, expr_height x)) else Leave (operand limits d inner l o.Greater (x, expr_height x)))
        (ap (joined m.Equal p) (sym u.is) ∙ is_joined m.Equal (from + 1) p q u j))
        (λ seen2. reads_operand l o.GreaterEqual x z (from + 1 + 1) to seen2 r)))

    reads_shift_right : (l : ℕ) (x z : ExprTree) (p q : Place) (from to : ℕ) → Stands ts from (k.Mark m.Greater) p → Stands ts (from + 1) (k.Mark m.Greater) q → p.end ≡ q.start → level_of o.ShiftRight ≡ l → Allowed d x →
        ((seen1 : ℕ) → Reads E (inner l) ts (from + 1 + 1) seen1 (z, expr_height z) to) → (seen : ℕ) →
        Reads E (next (operator_at limits d inner l (x, expr_height x))) ts from seen (Some (valued (span x.place z.place) (n.Binary o.ShiftRight x z), expr_height (valued (span x.place z.place) (n.Binary o.ShiftRight x z)))) to
    reads_shift_right l x z p q from to s u j v a r seen =
        let y = valued (span x.place z.place) (n.Binary o.ShiftRight x z) in
        let t = marked m.Greater p s.bytes in
        let here = over limits d inner (x, expr_height x) (Some t) (Take (greater limits d inner l p (x, expr_height x))) in
        reads_next E ts (operator_at limits d inner l (x, expr_height x)) from seen (Some (y, expr_height y)) to (Some t) (Leave (attempt shift_ahead (shift_by limits d inner l (x, expr_height x)))) s.is
        (ap (λ c. if c then here else (if l == level_of o.ShiftRight then Leave (attempt shift_ahead (shift_by limits d inner l (x, expr_height x))) else Leave (pure None))) (eqb_other l (level_of o.Greater) (λ e. omega (arith, e, v))) ∙
        ap (λ c. if c then Leave (attempt shift_ahead (shift_by limits d inner l (x, expr_height x))) else Leave (pure None)) (eqb_same l (level_of o.ShiftRight) (sym v)))
        (λ seen1. reads_attempt_some ts shift_ahead (shift_by limits d inner l (x, expr_height x)) from seen1 E p (Some (y, expr_height y)) (from + 1 + 1) to (reads_shift_ahead p q from seen1 s u j)
        (λ seen2. by seen2 (fits_in limits (expr_height x) (suc d)) refl))
      where
        by : (seen2 : ℕ) (c : Bool) → fits_in limits (expr_height x) (suc d) ≡ c →
            Reads E (if c then operand limits d inner l o.ShiftRight (x, expr_height x) else past code.TooNested p) ts (from + 1 + 1) seen2
            (Some (valued (span x.place z.place) (n.Binary o.ShiftRight x z), expr_height (valued (span x.place z.place) (n.Binary o.ShiftRight x z)))) to
        by seen2 true e = reads_operand l o.ShiftRight x z (from + 1 + 1) to seen2 r
        by seen2 false e = record { is = excuse_over d x a e }

    reads_marked : (l : ℕ) (op : BinaryOperator) (x z : ExprTree) (mark : Mark) (p : Place) (from to : ℕ) → Stands ts from (k.Mark mark) p → is_mark m.Greater (k.Mark mark) ≡ false → binary_of mark ≡ Some op → level_of op ≡ l → Allowed d x →
        ((seen1 : ℕ) → Reads E (inner l) ts (from + 1) seen1 (z, expr_height z) to) → (seen : ℕ) →
        Reads E (next (operator_at limits d inner l (x, expr_height x))) ts from seen (Some (valued (span x.place z.place) (n.Binary op x z), expr_height (valued (span x.place z.place) (n.Binary op x z)))) to
    reads_marked l op x z mark p from to s e q v a r seen =
        let y = valued (span x.place z.place) (n.Binary op x z) in
        let t = marked mark p s.bytes in
        reads_next E ts (operator_at limits d inner l (x, expr_height x)) from seen (Some (y, expr_height y)) to (Some t) (over limits d inner (x, expr_height x) (Some t) (Take (operand limits d inner l op (x, expr_height x)))) s.is
        (operator_other limits d inner l (x, expr_height x) t mark e ∙ (ap (operator_mark limits d inner l (x, expr_height x) t) q ∙
        ap (λ c. if c then over limits d inner (x, expr_height x) (Some t) (Take (operand limits d inner l op (x, expr_height x))) else Leave (pure None)) (eqb_same (level_of op) l v)))
        (reads_over from (Some (y, expr_height y)) to x t (Take (operand limits d inner l op (x, expr_height x))) a
        (λ seen1. reads_operand l op x z (from + 1) to seen1 r))

    -- the operator and its right operand
    reads_operator : (l : ℕ) (op : BinaryOperator) (x z : ExprTree) (from mid to : ℕ) → OperatorAt ts op from mid → level_of op ≡ l → begins (first (drop mid ts)) ≡ true → Allowed d x →
        ((seen1 : ℕ) → Reads E (inner l) ts mid seen1 (z, expr_height z) to) → (seen : ℕ) →
        Reads E (operator limits d inner l (x, expr_height x)) ts from seen (Some (valued (span x.place z.place) (n.Binary op x z), expr_height (valued (span x.place z.place) (n.Binary op x z)))) to
    unfolding operator
    reads_operator l op x z from mid to (ex.greater_equal {p = p} {q = q} s u j) v b a r seen = reads_greater_equal l x z p q from to s u j v a r seen
    reads_operator l op x z from mid to (ex.shift_right {p = p} {q = q} s u j) v b a r seen = reads_shift_right l x z p q from to s u j v a r seen
    reads_operator l op x z from mid to (ex.mark {p = p} {x = mark} s q) v b a r seen = by (is_mark m.Greater (k.Mark mark)) refl
      where
        is_greater : m.Greater ≡ mark → o.Greater ≡ op
        is_greater g = let e : Some o.Greater ≡ Some op = ap binary_of g ∙ q in cc

        by : (c : Bool) → is_mark m.Greater (k.Mark mark) ≡ c → Reads E (next (operator_at limits d inner l (x, expr_height x))) ts from seen
            (Some (valued (span x.place z.place) (n.Binary op x z), expr_height (valued (span x.place z.place) (n.Binary op x z)))) to
        by false e = reads_marked l op x z mark p from to s e q v a r seen
        by true e =
            let g = same_mark m.Greater mark e in
            let f = is_greater g in
            subst (λ c. Reads E (next (operator_at limits d inner l (x, expr_height x))) ts from seen (Some (valued (span x.place z.place) (n.Binary c x z), expr_height (valued (span x.place z.place) (n.Binary c x z)))) to) f
            (reads_greater_alone l x z p from to (subst (λ c. Stands ts from (k.Mark c) p) (sym g) s) (ap level_of f ∙ v) b a r seen)

    -- no operator of the level or of a tighter one stands there
    reads_no_operator : (l : ℕ) (x : ExprTree) (at : ℕ) → QuietAt ts (suc l) at → (seen : ℕ) → Reads E (operator limits d inner l (x, expr_height x)) ts at seen None at
    unfolding operator
    reads_no_operator l x at q seen = go (first (drop at ts)) refl
      where
        leaves : (t : Option Lexed) → first (drop at ts) ≡ t → operator_at limits d inner l (x, expr_height x) t ≡ Leave (pure None) → Reads E (next (operator_at limits d inner l (x, expr_height x))) ts at seen None at
        leaves t e f = reads_next E ts (operator_at limits d inner l (x, expr_height x)) at seen None at t (Leave (pure None)) e f (λ seen1. reads_pure E ts None at seen1)

        other_level : (tok : Lexed) (mark : Mark) → Stands ts at (k.Mark mark) tok.place → (op : Option BinaryOperator) → binary_of mark ≡ op → operator_mark limits d inner l (x, expr_height x) tok op ≡ Leave (pure None)
        other_level tok mark s None e = refl
        other_level tok mark s (Some op) e = let h = q.operator op (at + 1) (ex.mark s e) in
            ap (λ c. if c then over limits d inner (x, expr_height x) (Some tok) (Take (operand limits d inner l op (x, expr_height x))) else Leave (pure None)) (eqb_other (level_of op) l (λ c. omega (arith, c, h)))

        no_greater : (p : Place) → Stands ts at (k.Mark m.Greater) p → (l ≡ 3 → ⊥)
        no_greater p s e = let h = q.operator o.Greater (at + 1) (ex.mark s refl) in omega (arith, e, h)

        no_shift : (p : Place) (mid : ℕ) → l ≡ 2 → IsShiftAt ts at p mid → ⊥
        no_shift p mid e s = let h = q.operator o.ShiftRight (at + 1 + 1) (ex.shift_right s.1 s.2 s.3) in omega (arith, e, h)

        at_greater : (tok : Lexed) → first (drop at ts) ≡ Some tok → tok.kind ≡ k.Mark m.Greater → (a b : Bool) → (l == 3) ≡ a → (l == 2) ≡ b → operator_at limits d inner l (x, expr_height x) (Some tok) ≡
            (if a then over limits d inner (x, expr_height x) (Some tok) (Take (greater limits d inner l tok.place (x, expr_height x))) else (if b then Leave (attempt shift_ahead (shift_by limits d inner l (x, expr_height x))) else Leave (pure None))) →
            Reads E (next (operator_at limits d inner l (x, expr_height x))) ts at seen None at
        at_greater tok e g true b u v c = absurd (no_greater tok.place (stands ts at tok (k.Mark m.Greater) e g) (eqb-true l 3 u))
        at_greater tok e g false true u v c = reads_next E ts (operator_at limits d inner l (x, expr_height x)) at seen None at (Some tok) (Leave (attempt shift_ahead (shift_by limits d inner l (x, expr_height x)))) e c
            (λ seen1. reads_attempt_none ts shift_ahead (shift_by limits d inner l (x, expr_height x)) at seen1 E (IsShiftAt ts at) None at
            (fine_post (IsShiftAt ts at) (shift_ahead ts at seen1) (fine_shift_ahead ts at seen1)) (λ b mid s. no_shift b mid (eqb-true l 2 v) s)
            (λ p. absurd (fine_not_past (IsShiftAt ts at) (shift_ahead ts at seen1) (fine_shift_ahead ts at seen1) p)) (λ seen2. reads_pure E ts None at seen2))
        at_greater tok e g false false u v c = leaves (Some tok) e c

        by : (tok : Lexed) → first (drop at ts) ≡ Some tok → (kind : Kind) → tok.kind ≡ kind → (operator_at limits d inner l (x, expr_height x) (Some tok) ≡ operator_by limits d inner l (x, expr_height x) tok kind) →
            Reads E (next (operator_at limits d inner l (x, expr_height x))) ts at seen None at
        by tok e k.Name g c = leaves (Some tok) e c
        by tok e (k.Word word) g c = leaves (Some tok) e c
        by tok e (k.Number v) g c = leaves (Some tok) e c
        by tok e k.String g c = leaves (Some tok) e c
        by tok e (k.Mark mark) g c = at_mark (is_mark m.Greater (k.Mark mark)) refl
          where
            at_mark : (b : Bool) → is_mark m.Greater (k.Mark mark) ≡ b → Reads E (next (operator_at limits d inner l (x, expr_height x))) ts at seen None at
            at_mark false f = leaves (Some tok) e (c ∙ (operator_other limits d inner l (x, expr_height x) tok mark f ∙ other_level tok mark (stands ts at tok (k.Mark mark) e g) (binary_of mark) refl))
            at_mark true f = let u = same_mark m.Greater mark f in
                at_greater tok e (g ∙ ap k.Mark (sym u)) (l == 3) (l == 2) refl refl (c ∙ ap (λ a. operator_by limits d inner l (x, expr_height x) tok (k.Mark a)) (sym u))

        go : (t : Option Lexed) → first (drop at ts) ≡ t → Reads E (next (operator_at limits d inner l (x, expr_height x))) ts at seen None at
        go (Some tok) e = by tok e tok.kind refl refl
        go None e = leaves None e refl

  -- ---- what begins an operand

  module _ (d : ℕ) (inner : ℕ → Parser Value) where
    -- a primary that begins with that token, and what goes on it
    reads_simple : (x y : ExprTree) (from mid to : ℕ) (tok : Lexed) (c : Choice Value) → first (drop from ts) ≡ Some tok → unary_at limits d inner (Some tok) ≡ Leave (postfix limits d inner) → primary_at limits d inner (Some tok) ≡ c →
        ReadsChoice E ts from (x, expr_height x) mid (Some tok) c → ((seen1 : ℕ) → Reads E (chain_rest limits d inner (x, expr_height x)) ts mid seen1 (y, expr_height y) to) → (seen : ℕ) →
        Reads E (unary limits d inner) ts from seen (y, expr_height y) to
    unfolding unary postfix
    reads_simple x y from mid to tok c e f g r k seen = reads_next E ts (unary_at limits d inner) from seen (y, expr_height y) to (Some tok) (Leave (postfix limits d inner)) e f
        (λ seen1. reads_bind E ts (next (primary_at limits d inner)) (chain_rest limits d inner) from seen1 mid to (x, expr_height x) (y, expr_height y)
        (reads_next E ts (primary_at limits d inner) from seen1 (x, expr_height x) mid (Some tok) c e g r) k)

    reads_leaf : (x : ExprNode) (p : Place) (from : ℕ) (tok : Lexed) → tok.place ≡ p → expr_height (valued p x) ≡ 1 → ReadsChoice E ts from (valued p x, expr_height (valued p x)) (from + 1) (Some tok) (leaf limits d inner tok x)
    reads_leaf x p from tok e h = λ seen1. subst (λ q. Reads {A = Value} E (pure (valued q x, 1)) ts (from + 1) seen1 (valued p x, expr_height (valued p x)) (from + 1)) (sym e) (reads_tall (valued p x) 1 (from + 1) seen1 h)

    -- behind a parenthesis that begins no cast
    reads_opened : (x y : ExprTree) (p : Place) (from mid to : ℕ) → Stands ts from (k.Mark m.OpenParen) p → ((b : Builtin) (end : ℕ) → IsCastAt ts (from + 1) b end → ⊥) →
        ((seen1 : ℕ) → Reads E (paren limits d inner p) ts (from + 1) seen1 (x, expr_height x) mid) → ((seen1 : ℕ) → Reads E (chain_rest limits d inner (x, expr_height x)) ts mid seen1 (y, expr_height y) to) → (seen : ℕ) →
        Reads E (unary limits d inner) ts from seen (y, expr_height y) to
    unfolding unary
    reads_opened x y p from mid to s never r c seen = reads_next E ts (unary_at limits d inner) from seen (y, expr_height y) to (Some (marked m.OpenParen p s.bytes)) (Take (attempt cast_ahead (cast_by limits d inner p))) s.is refl
        (λ seen1. reads_attempt_none ts cast_ahead (cast_by limits d inner p) (from + 1) seen1 E (IsCastAt ts (from + 1)) (y, expr_height y) to
        (fine_post (IsCastAt ts (from + 1)) (cast_ahead ts (from + 1) seen1) (fine_cast_ahead ts (from + 1) seen1)) never
        (λ p. absurd (fine_not_past (IsCastAt ts (from + 1)) (cast_ahead ts (from + 1) seen1) (fine_cast_ahead ts (from + 1) seen1) p))
        (λ seen2. reads_bind E ts (paren limits d inner p) (chain_rest limits d inner) (from + 1) seen2 mid to (x, expr_height x) (y, expr_height y) (r seen2) c))

    reads_cast_ahead : (word : Word) (b : Builtin) (q r : Place) (at seen : ℕ) → Stands ts at (k.Word word) q → builtin_of word ≡ Some b → Stands ts (at + 1) (k.Mark m.CloseParen) r → Reads E cast_ahead ts at seen b (at + 1 + 1)
    unfolding cast_ahead
    reads_cast_ahead word b q r at seen s e t = reads_next E ts cast_at at seen b (at + 1 + 1) (Some (record { kind = k.Word word; place = q; bytes = s.bytes })) (Take (expect m.CloseParen >>= (λ p. pure b))) s.is (ap cast_to e)
        (λ seen1. reads_bind E ts (expect m.CloseParen) _ (at + 1) seen1 (at + 1 + 1) (at + 1 + 1) r b (reads_expect E ts m.CloseParen r (at + 1) seen1 t) (λ seen2. reads_pure E ts b (at + 1 + 1) seen2))

    reads_cast : (word : Word) (b : Builtin) (x : ExprTree) (p q r : Place) (from to : ℕ) → Stands ts from (k.Mark m.OpenParen) p → Stands ts (from + 1) (k.Word word) q → builtin_of word ≡ Some b → Stands ts (from + 1 + 1) (k.Mark m.CloseParen) r →
        ((seen1 : ℕ) → Reads E (inner zero) ts (from + 1 + 1 + 1) seen1 (x, expr_height x) to) → (seen : ℕ) →
        Reads E (unary limits d inner) ts from seen (valued (span p x.place) (n.Cast b x), expr_height (valued (span p x.place) (n.Cast b x))) to
    unfolding unary
    reads_cast word b x p q r from to s t e u h seen =
        let y = valued (span p x.place) (n.Cast b x) in
        reads_next E ts (unary_at limits d inner) from seen (y, expr_height y) to (Some (marked m.OpenParen p s.bytes)) (Take (attempt cast_ahead (cast_by limits d inner p))) s.is refl
        (λ seen1. reads_attempt_some ts cast_ahead (cast_by limits d inner p) (from + 1) seen1 E b (y, expr_height y) (from + 1 + 1 + 1) to (reads_cast_ahead word b q r (from + 1) seen1 t e u)
        (λ seen2. reads_bind E ts (inner zero) _ (from + 1 + 1 + 1) seen2 to to (x, expr_height x) (y, expr_height y) (h seen2) (λ seen3. reads_tall y (expr_height x + 1) to seen3 (height_cast (span p x.place) b x))))

    reads_prefix : (mark : Mark) (op : _) (x : ExprTree) (p : Place) (from to : ℕ) → Stands ts from (k.Mark mark) p → unary_of mark ≡ Some op → ((seen1 : ℕ) → Reads E (inner zero) ts (from + 1) seen1 (x, expr_height x) to) → (seen : ℕ) →
        Reads E (unary limits d inner) ts from seen (valued (span p x.place) (n.Unary op x), expr_height (valued (span p x.place) (n.Unary op x))) to
    unfolding unary prefix
    reads_prefix mark op x p from to s q h seen =
        let y = valued (span p x.place) (n.Unary op x) in
        let tok = marked mark p s.bytes in
        reads_next E ts (unary_at limits d inner) from seen (y, expr_height y) to (Some tok) (Take (prefix limits d inner p op)) s.is (unary_other limits d inner tok mark (unary_only mark op q) ∙ ap (unary_mark limits d inner tok) q)
        (λ seen1. reads_bind E ts (inner zero) _ (from + 1) seen1 to to (x, expr_height x) (y, expr_height y) (h seen1) (λ seen2. reads_tall y (expr_height x + 1) to seen2 (height_unary (span p x.place) op x)))

  -- with no node left, what begins an expression passes the limit
  reads_nothing : (l : ℕ) (x : ExprTree) (from to : ℕ) → begins (first (drop from ts)) ≡ true → Allowed zero x → (seen : ℕ) → Reads E (leveled limits zero l) ts from seen (x, expr_height x) to
  unfolding leveled
  reads_nothing l x from to b a seen = reads_next E ts (λ x. if begins x then if_fits false code.TooNested x (Take (past code.TooNested (place_of x))) else Refuse) from seen (x, expr_height x) to (first (drop from ts))
      (if_fits false code.TooNested (first (drop from ts)) (Take (past code.TooNested (place_of (first (drop from ts)))))) refl
      (ap (λ c. if c then if_fits false code.TooNested (first (drop from ts)) (Take (past code.TooNested (place_of (first (drop from ts))))) else Refuse) b) (passes (first (drop from ts)))
    where
      passes : (t : Option Lexed) → ReadsChoice E ts {A = Value} from (x, expr_height x) to t (if_fits false code.TooNested t (Take (past code.TooNested (place_of t))))
      passes (Some t) = excuse_zero x a
      passes None = excuse_zero x a

  name_there : (id : Identifier) (args : List GenericArgument) (end : Place) (from to : ℕ) → NameAt ts id args end from to → NameStands ts from id
  name_there id args end from to (ex.alone s a) = s
  name_there id args end from to (ex.generic s a f) = s

  -- turns that are left for what may still stand in a list
  abbrev ListCounts : ℕ → List ExprTree → Type 0
  ListCounts count xs = (limits.items ≤ length xs + count) ⊎ E

  list_counts_all : (d : ℕ) (ys xs : List ExprTree) → AllowedList d ys → ListCounts limits.turns xs
  list_counts_all d ys xs a = elim a [ inl h ↦ inl (let l = h.1.items in omega (arith, l)) | inr e ↦ inr e ]

  list_counts_next : (count : ℕ) (xs : List ExprTree) (x : ExprTree) → ListCounts (suc count) xs → ListCounts count (xs ++ x ∷ [])
  list_counts_next count xs x c = elim c [ inl h ↦ inl (omega (arith, h, length-append xs (x ∷ []))) | inr e ↦ inr e ]

  list_counts_none : (d : ℕ) (xs : List ExprTree) (x : ExprTree) → ListCounts zero xs → AllowedList d (xs ++ x ∷ []) → E
  list_counts_none d xs x c a = elim c [ inl h ↦ elim a [ inl f ↦ absurd (let l = last_in limits d xs x f.0 in omega (arith, h, l)) | inr e ↦ e ] | inr e ↦ e ]

  list_across : (d : ℕ) (ys xs : List ExprTree) → AllowedList d ys → (ListFits limits d ys → ListFits limits d xs) → AllowedList d xs
  list_across d ys xs a f = elim a [ inl h ↦ inl (f h.0, h.1) | inr e ↦ inr e ]

  list_last : (d : ℕ) (xs : List ExprTree) (x : ExprTree) → AllowedList d (xs ++ x ∷ []) → Allowed d x
  list_last d xs x a = elim a [ inl h ↦ inl (last_fits limits d xs x h.0, h.1) | inr e ↦ inr e ]

  excuse_items : (d : ℕ) (xs : List ExprTree) (x : ExprTree) → AllowedList d (xs ++ x ∷ []) → fits_in limits (length xs) limits.items ≡ false → E
  excuse_items d xs x a e = elim a [ inl h ↦ absurd (in_limit limits (length xs) limits.items (last_in limits d xs x h.0) e) | inr e ↦ e ]

  seen_in : (mark : Mark) (at : ℕ) (p : Place) → Stands ts at (k.Mark mark) p → goes_in (Some (marked mark p [])) ≡ true → goes_in (first (drop at ts)) ≡ true
  seen_in mark at p s e = ap goes_in s.is ∙ e

  tallest_one : (x : ExprTree) → greatest (map expr_height (x ∷ [])) ≡ expr_height x
  tallest_one x = omega arith

  -- a value behind those
  reads_value : (d : ℕ) (inner : ℕ → Parser Value) (x : ExprTree) (from to : ℕ) → begins (first (drop from ts)) ≡ true → ((seen1 : ℕ) → Reads E (inner (suc loosest)) ts from seen1 (x, expr_height x) to) → (xs : List ExprTree) (seen : ℕ) →
      AllowedList d (xs ++ x ∷ []) → Reads E (value limits d inner (length xs)) ts from seen (x, expr_height x) to
  unfolding value
  reads_value d inner x from to b r xs seen a =
      let here = first (drop from ts) in
      let c = if_fits (nat_lt 0 d) code.TooNested here (Leave (whole limits d inner)) in
      reads_next E ts (λ t. if_fits (fits_in limits (length xs) limits.items) code.TooLong t (value_of limits d inner t)) from seen (x, expr_height x) to here (if_fits (fits_in limits (length xs) limits.items) code.TooLong here c) refl
      (ap (λ b. if_fits (fits_in limits (length xs) limits.items) code.TooLong here (if b then c else Refuse)) b)
      (reads_fits E ts from (x, expr_height x) to here (fits_in limits (length xs) limits.items) code.TooLong c (excuse_items d xs x a)
      (reads_fits E ts from (x, expr_height x) to here (nat_lt 0 d) code.TooNested (Leave (whole limits d inner)) (excuse_room d x (list_last d xs x a)) r))

  -- an operand of a level, with a node left for it or none
  reads_at : (l : ℕ) (x : ExprTree) (from to : ℕ) → l < 10 → begins (first (drop from ts)) ≡ true → (d seen : ℕ) → Allowed d x →
      ((e seen1 : ℕ) → Allowed (suc e) x → Reads E (level limits e (leveled limits e) l) ts from seen1 (x, expr_height x) to) → Reads E (leveled limits d l) ts from seen (x, expr_height x) to
  unfolding leveled
  reads_at l x from to lt b zero seen a r = reads_nothing l x from to b a seen
  reads_at l x from to lt b (suc d) seen a r = subst (λ c. Reads E (at_level limits d (leveled limits d) l c) ts from seen (x, expr_height x) to) (sym (not_whole l lt)) (r d seen a)

  mutual
    unfolding leveled level chain_rest chain choice_rest choice value_more values construct named paren member_name index call

    pub reads_expr : {x : ExprTree} {from to : ℕ} → ExprAt ts x from to → goes_on (first (drop to ts)) ≡ false → (d seen : ℕ) → Allowed d x → Reads E (leveled limits d (suc loosest)) ts from seen (x, expr_height x) to
    reads_expr {x = x} {from = from} {to = to} (ex.plain v) q zero seen a = reads_nothing (suc loosest) x from to (level_begins v) a seen
    reads_expr {x = x} {from = from} {to = to} (ex.choice v u y c z) q zero seen a = reads_nothing (suc loosest) x from to (level_begins v) a seen
    reads_expr {x = x} {from = from} {to = to} (ex.plain v) q (suc d) seen a =
        let inner = leveled limits d in
        reads_bind E ts (level limits d inner loosest) (choice_rest limits d inner) from seen to to (x, expr_height x) (x, expr_height x) (reads_level v (quiet_ends ts loosest to q) d seen a)
        (λ seen1. reads_next E ts (λ t. choice_by limits d inner (x, expr_height x) t (sees m.Question t)) to seen1 (x, expr_height x) to (first (drop to ts)) (Leave (pure (x, expr_height x))) refl
        (ap (choice_by limits d inner (x, expr_height x) (first (drop to ts))) (ends_question (first (drop to ts)) q)) (λ seen2. reads_pure E ts (x, expr_height x) to seen2))
    reads_expr {from = from} {to = to} (ex.choice {mid = mid} {at = at} {p = p} {q = q2} {x = x} {y = y} {z = z} v s u c r) q (suc d) seen a =
        let inner = leveled limits d in
        let place = span x.place z.place in
        let all = valued place (n.Choice x y z) in
        let tok = marked m.Question p s.bytes in
        reads_bind E ts (level limits d inner loosest) (choice_rest limits d inner) from seen mid to (x, expr_height x) (all, expr_height all)
        (reads_level v (quiet_question ts loosest mid p s) d seen (across (suc d) all x a (λ f. more_room limits d x (choice_first limits d place x y z f))))
        (λ seen1. reads_next E ts (λ t. choice_by limits d inner (x, expr_height x) t (sees m.Question t)) mid seen1 (all, expr_height all) to (Some tok) (choice_by limits d inner (x, expr_height x) (Some tok) true) s.is refl
        (reads_over d inner mid (all, expr_height all) to x tok (Take (choice limits d inner (x, expr_height x))) (down d all x a (choice_first limits d place x y z))
        (λ seen2. reads_bind E ts (whole limits d inner) _ (mid + 1) seen2 at to (y, expr_height y) (all, expr_height all)
        (reads_expr u (ends_here ts at (k.Mark m.Colon) q2 c refl) d seen2 (down d all y a (choice_second limits d place x y z)))
        (λ seen3. reads_bind E ts (expect m.Colon) _ at seen3 (at + 1) to q2 (all, expr_height all) (reads_expect E ts m.Colon q2 at seen3 c)
        (λ seen4. reads_bind E ts (whole limits d inner) _ (at + 1) seen4 to to (z, expr_height z) (all, expr_height all) (reads_expr r q d seen4 (down d all z a (choice_third limits d place x y z)))
        (λ seen5. reads_tall all (max (expr_height x) (max (expr_height y) (expr_height z)) + 1) to seen5 (height_choice place x y z)))))))

    reads_level : {l : ℕ} {x : ExprTree} {from to : ℕ} → LevelAt ts l x from to → QuietAt ts l to → (d seen : ℕ) → Allowed (suc d) x → Reads E (level limits d (leveled limits d) l) ts from seen (x, expr_height x) to
    reads_level (ex.unary u) q d seen a = reads_unary u q.chain d seen a
    reads_level {from = from} {to = to} (ex.binary {l = l} {mid = mid} {x = x} {y = y} v b) q d seen a =
        reads_bind E ts (level limits d (leveled limits d) l) (repeats (operator limits d (leveled limits d) l) limits.turns) from seen mid to (x, expr_height x) (y, expr_height y)
        (reads_level v (binary_quiet b q) d seen (across (suc d) y x a (binary_fits b limits d)))
        (λ seen1. reads_binary b q d limits.turns seen1 a (counts_all d y x a))

    reads_binary : {l : ℕ} {x y : ExprTree} {from to : ℕ} → BinaryAt ts l x y from to → QuietAt ts (suc l) to → (d count seen : ℕ) → Allowed (suc d) y → Counts d count x →
        Reads E (repeats (operator limits d (leveled limits d) l) count (x, expr_height x)) ts from seen (y, expr_height y) to
    reads_binary {l = l} {x = x} {from = from} ex.operand q d count seen a c = reads_repeats_end E ts (operator limits d (leveled limits d) l) count (x, expr_height x) from seen (reads_no_operator d (leveled limits d) l x from q seen)
    reads_binary {l = l} {x = x} {y = y} {from = from} {to = to} (ex.operator {mid = mid} {at = at} {z = z} {op = op} s e v b) q d zero seen a c =
        let place = span x.place z.place in
        let w2 = valued place (n.Binary op x z) in
        let here = across (suc d) y w2 a (binary_fits b limits d) in
        reads_repeats_full E ts (operator limits d (leveled limits d) l) (x, expr_height x) (w2, expr_height w2) (y, expr_height y) from seen at to
        (reads_operator d (leveled limits d) l op x z from mid at s e (level_begins v) (down d w2 x here (binary_left limits d place op x z))
        (λ seen1. reads_at l z mid at (subst (λ i. i < 10) e (level_bound op)) (level_begins v) d seen1 (down d w2 z here (binary_right limits d place op x z)) (λ e seen2 a2. reads_level v (binary_quiet b q) e seen2 a2)) seen)
        (counts_none d x c (down d w2 x here (binary_left limits d place op x z)))
    reads_binary {l = l} {x = x} {y = y} {from = from} {to = to} (ex.operator {mid = mid} {at = at} {z = z} {op = op} s e v b) q d (suc count) seen a c =
        let place = span x.place z.place in
        let w2 = valued place (n.Binary op x z) in
        let here = across (suc d) y w2 a (binary_fits b limits d) in
        let tall = height_binary place op x z in
        reads_repeats_more E ts (operator limits d (leveled limits d) l) count (x, expr_height x) (w2, expr_height w2) (y, expr_height y) from seen at to
        (reads_operator d (leveled limits d) l op x z from mid at s e (level_begins v) (down d w2 x here (binary_left limits d place op x z))
        (λ seen1. reads_at l z mid at (subst (λ i. i < 10) e (level_bound op)) (level_begins v) d seen1 (down d w2 z here (binary_right limits d place op x z)) (λ e seen2 a2. reads_level v (binary_quiet b q) e seen2 a2)) seen)
        (λ seen1. reads_binary b q d count seen1 a (counts_next d count x w2 (omega (arith, tall)) c))

    reads_unary : {x : ExprTree} {from to : ℕ} → UnaryAt ts x from to → goes_in (first (drop to ts)) ≡ false → (d seen : ℕ) → Allowed (suc d) x → Reads E (unary limits d (leveled limits d)) ts from seen (x, expr_height x) to
    reads_unary {from = from} {to = to} (ex.prefix {p = p} {x = x} {mark = mark} {op = op} s e u) q d seen a =
        reads_prefix d (leveled limits d) mark op x p from to s e (λ seen1. reads_at zero x (from + 1) to (omega arith) (unary_begins u) d seen1 (down d (valued (span p x.place) (n.Unary op x)) x a (unary_value limits d (span p x.place) op x)) (λ e2 seen2 a2. reads_unary u q e2 seen2 a2)) seen
    reads_unary {from = from} {to = to} (ex.cast {p = p} {q = p2} {r = p3} {x = x} {word = word} {b = b} s t e r u) q d seen a =
        reads_cast d (leveled limits d) word b x p p2 p3 from to s t e r (λ seen1. reads_at zero x (from + 1 + 1 + 1) to (omega arith) (unary_begins u) d seen1 (down d (valued (span p x.place) (n.Cast b x)) x a (cast_value limits d (span p x.place) b x)) (λ e2 seen2 a2. reads_unary u q e2 seen2 a2)) seen
    reads_unary {x = y} {from = from} {to = to} (ex.simple (ex.postfix {mid = mid} (ex.number {p = p} {v = v} s) c)) q d seen a =
        let x = valued p (n.Number v) in
        let tok : Lexed = record { kind = k.Number v; place = p; bytes = s.bytes } in
        reads_simple d (leveled limits d) x y from (from + 1) to tok (leaf limits d (leveled limits d) tok (n.Number v)) s.is refl refl (reads_leaf d (leveled limits d) (n.Number v) p from tok refl (height_value p v))
        (λ seen1. reads_chain c q d limits.turns seen1 a (counts_all d y x a)) seen
    reads_unary {x = y} {from = from} {to = to} (ex.simple (ex.postfix (ex.true_word {p = p} s) c)) q d seen a =
        let x = valued p n.True in
        let tok : Lexed = record { kind = k.Word w.True; place = p; bytes = s.bytes } in
        reads_simple d (leveled limits d) x y from (from + 1) to tok (leaf limits d (leveled limits d) tok n.True) s.is refl refl (reads_leaf d (leveled limits d) n.True p from tok refl (height_true p))
        (λ seen1. reads_chain c q d limits.turns seen1 a (counts_all d y x a)) seen
    reads_unary {x = y} {from = from} {to = to} (ex.simple (ex.postfix (ex.false_word {p = p} s) c)) q d seen a =
        let x = valued p n.False in
        let tok : Lexed = record { kind = k.Word w.False; place = p; bytes = s.bytes } in
        reads_simple d (leveled limits d) x y from (from + 1) to tok (leaf limits d (leveled limits d) tok n.False) s.is refl refl (reads_leaf d (leveled limits d) n.False p from tok refl (height_false p))
        (λ seen1. reads_chain c q d limits.turns seen1 a (counts_all d y x a)) seen
    reads_unary {x = y} {from = from} {to = to} (ex.simple (ex.postfix (ex.this_value {p = p} s) c)) q d seen a =
        let x = valued p n.ThisValue in
        let tok : Lexed = record { kind = k.Word w.ThisValue; place = p; bytes = s.bytes } in
        reads_simple d (leveled limits d) x y from (from + 1) to tok (leaf limits d (leveled limits d) tok n.ThisValue) s.is refl refl (reads_leaf d (leveled limits d) n.ThisValue p from tok refl (height_this_value p))
        (λ seen1. reads_chain c q d limits.turns seen1 a (counts_all d y x a)) seen
    reads_unary {x = y} {from = from} {to = to} (ex.simple (ex.postfix (ex.this_type {p = p} s) c)) q d seen a =
        let x = valued p n.ThisType in
        let tok : Lexed = record { kind = k.Word w.ThisType; place = p; bytes = s.bytes } in
        reads_simple d (leveled limits d) x y from (from + 1) to tok (leaf limits d (leveled limits d) tok n.ThisType) s.is refl refl (reads_leaf d (leveled limits d) n.ThisType p from tok refl (height_this_type p))
        (λ seen1. reads_chain c q d limits.turns seen1 a (counts_all d y x a)) seen
    reads_unary {x = y} {from = from} {to = to} (ex.simple (ex.postfix {mid = mid} (ex.name {end = end} {id = id} {args = args} r) c)) q d seen a =
        let place = span id.place end in
        let x = valued place (n.Name id args) in
        let tok : Lexed = record { kind = k.Name; place = id.place; bytes = id.name } in
        let here = across (suc d) y x a (chain_fits c limits d) in
        reads_simple d (leveled limits d) x y from mid to tok (if_short limits tok (Take (named limits d (leveled limits d) (identifier tok)))) (name_there id args end from mid r).is refl refl
        (reads_fits E ts from (x, expr_height x) mid (Some tok) (is_short limits tok) code.TooLong (Take (named limits d (leveled limits d) (identifier tok))) (excuse_short (suc d) x tok here (name_short limits d place id args))
        (λ seen1. reads_bind E ts (given limits d id.place) _ (from + 1) seen1 mid mid (args, greatest (map argument_height args), end) (x, expr_height x)
        (reads_given d id args end from mid r seen1 (down_arguments d x args here (name_arguments limits d place id args)))
        (λ seen2. reads_tall x (greatest (map argument_height args) + 1) mid seen2 (height_name place id args))))
        (λ seen1. reads_chain c q d limits.turns seen1 a (counts_all d y x a)) seen
    reads_unary {x = y} {from = from} {to = to} (ex.simple (ex.postfix {mid = mid} (ex.construct {p = p} {q = p2} {end = end} {word = word} {b = b} {args = args} s e o v) c)) q d seen a =
        let place = span p end in
        let x = valued place (n.Construct b args) in
        let tok : Lexed = record { kind = k.Word word; place = p; bytes = s.bytes } in
        let here = across (suc d) y x a (chain_fits c limits d) in
        reads_simple d (leveled limits d) x y from mid to tok (Take (construct limits d (leveled limits d) p b)) s.is refl (ap (primary_word limits d (leveled limits d) tok word) e)
        (λ seen1. reads_bind E ts (expect m.OpenParen) _ (from + 1) seen1 (from + 1 + 1) mid p2 (x, expr_height x) (reads_expect E ts m.OpenParen p2 (from + 1) seen1 o)
        (λ seen2. reads_bind E ts (values limits d (leveled limits d)) _ (from + 1 + 1) seen2 mid mid ((args, greatest (map expr_height args)), end) (x, expr_height x)
        (reads_values v d seen2 (down_list d x args here (construct_values limits d place b args)))
        (λ seen3. reads_tall x (greatest (map expr_height args) + 1) mid seen3 (height_construct place b args))))
        (λ seen1. reads_chain c q d limits.turns seen1 a (counts_all d y x a)) seen
    reads_unary {x = y} {from = from} {to = to} (ex.simple (ex.postfix {mid = mid} (ex.paren {at = at} {p = p} {end = end} {x = x} s v r) c)) q d seen a =
        let place = span p end in
        let z = valued place (n.Paren x) in
        let here = across (suc d) y z a (chain_fits c limits d) in
        reads_opened d (leveled limits d) z y p from (at + 1) to s (λ b last t. expr_no_cast ts (from + 1) t.0 b t.1 t.2 t.3 t.4 t.5 v)
        (λ seen1. reads_bind E ts (whole limits d (leveled limits d)) _ (from + 1) seen1 at (at + 1) (x, expr_height x) (z, expr_height z)
        (reads_expr v (ends_here ts at (k.Mark m.CloseParen) end r refl) d seen1 (down d z x here (paren_value limits d place x)))
        (λ seen2. reads_bind E ts (expect m.CloseParen) _ at seen2 (at + 1) (at + 1) end (z, expr_height z) (reads_expect E ts m.CloseParen end at seen2 r)
        (λ seen3. reads_tall z (expr_height x + 1) (at + 1) seen3 (height_paren place x))))
        (λ seen1. reads_chain c q d limits.turns seen1 a (counts_all d y z a)) seen

    reads_chain : {x y : ExprTree} {from to : ℕ} → ChainAt ts x y from to → goes_in (first (drop to ts)) ≡ false → (d count seen : ℕ) → Allowed (suc d) y → Counts d count x →
        Reads E (turns (chains limits d (leveled limits d)) (chain limits d (leveled limits d)) count (x, expr_height x)) ts from seen (y, expr_height y) to
    reads_chain {x = x} {from = from} ex.whole q d count seen a c = reads_turns_end E ts (chains limits d (leveled limits d)) (chain limits d (leveled limits d)) count (x, expr_height x) from seen q
    reads_chain {x = x} {y = y} {from = from} {to = to} (ex.member {p = p} {end = end} {id = id} {args = args} s r b) q d zero seen a c =
        let place = span x.place end in
        reads_turns_full E ts (chains limits d (leveled limits d)) (chain limits d (leveled limits d)) (x, expr_height x) (y, expr_height y) from seen to (seen_in m.Dot from p s refl)
        (counts_none d x c (down d (valued place (n.Member x id args)) x (across (suc d) y (valued place (n.Member x id args)) a (chain_fits b limits d)) (member_value limits d place x id args)))
    reads_chain {x = x} {y = y} {from = from} {to = to} (ex.index {p = p} {end = end} {i = i} s v r b) q d zero seen a c =
        let place = span x.place end in
        reads_turns_full E ts (chains limits d (leveled limits d)) (chain limits d (leveled limits d)) (x, expr_height x) (y, expr_height y) from seen to (seen_in m.OpenBracket from p s refl)
        (counts_none d x c (down d (valued place (n.Index x i)) x (across (suc d) y (valued place (n.Index x i)) a (chain_fits b limits d)) (index_value limits d place x i)))
    reads_chain {x = x} {y = y} {from = from} {to = to} (ex.call {p = p} {end = end} {args = args} s v b) q d zero seen a c =
        let place = span x.place end in
        reads_turns_full E ts (chains limits d (leveled limits d)) (chain limits d (leveled limits d)) (x, expr_height x) (y, expr_height y) from seen to (seen_in m.OpenParen from p s refl)
        (counts_none d x c (down d (valued place (n.Call x args)) x (across (suc d) y (valued place (n.Call x args)) a (chain_fits b limits d)) (call_value limits d place x args)))
    reads_chain {x = x} {y = y} {from = from} {to = to} (ex.member {mid = mid} {p = p} {end = end} {id = id} {args = args} s r b) q d (suc count) seen a c =
        let inner = leveled limits d in
        let place = span x.place end in
        let z = valued place (n.Member x id args) in
        let tok = marked m.Dot p s.bytes in
        let tok2 : Lexed = record { kind = k.Name; place = id.place; bytes = id.name } in
        let here = across (suc d) y z a (chain_fits b limits d) in
        let tall = height_member place x id args in
        reads_turns_more E ts (chains limits d inner) (chain limits d inner) count (x, expr_height x) (z, expr_height z) (y, expr_height y) from seen mid to (seen_in m.Dot from p s refl)
        (λ seen1. reads_next E ts (chain_at limits d inner (x, expr_height x)) from seen1 (z, expr_height z) mid (Some tok) (over limits d inner (x, expr_height x) (Some tok) (Take (next (member_at limits d inner (x, expr_height x))))) s.is refl
        (reads_over d inner from (z, expr_height z) mid x tok (Take (next (member_at limits d inner (x, expr_height x)))) (down d z x here (member_value limits d place x id args))
        (λ seen2. reads_next E ts (member_at limits d inner (x, expr_height x)) (from + 1) seen2 (z, expr_height z) mid (Some tok2) (if_short limits tok2 (Take (member_name limits d inner (x, expr_height x) (identifier tok2)))) (name_there id args end (from + 1) mid r).is refl
        (reads_fits E ts (from + 1) (z, expr_height z) mid (Some tok2) (is_short limits tok2) code.TooLong (Take (member_name limits d inner (x, expr_height x) (identifier tok2))) (excuse_short (suc d) z tok2 here (member_short limits d place x id args))
        (λ seen3. reads_bind E ts (given limits d id.place) _ (from + 1 + 1) seen3 mid mid (args, greatest (map argument_height args), end) (z, expr_height z)
        (reads_given d id args end (from + 1) mid r seen3 (down_arguments d z args here (member_arguments limits d place x id args)))
        (λ seen4. reads_tall z (max (expr_height x) (greatest (map argument_height args)) + 1) mid seen4 tall))))))
        (λ seen1. reads_chain b q d count seen1 a (counts_next d count x z (omega (arith, tall)) c))
    reads_chain {x = x} {y = y} {from = from} {to = to} (ex.index {at = at} {p = p} {end = end} {i = i} s v r b) q d (suc count) seen a c =
        let inner = leveled limits d in
        let place = span x.place end in
        let z = valued place (n.Index x i) in
        let tok = marked m.OpenBracket p s.bytes in
        let here = across (suc d) y z a (chain_fits b limits d) in
        let tall = height_index place x i in
        reads_turns_more E ts (chains limits d inner) (chain limits d inner) count (x, expr_height x) (z, expr_height z) (y, expr_height y) from seen (at + 1) to (seen_in m.OpenBracket from p s refl)
        (λ seen1. reads_next E ts (chain_at limits d inner (x, expr_height x)) from seen1 (z, expr_height z) (at + 1) (Some tok) (over limits d inner (x, expr_height x) (Some tok) (Take (index limits d inner (x, expr_height x)))) s.is refl
        (reads_over d inner from (z, expr_height z) (at + 1) x tok (Take (index limits d inner (x, expr_height x))) (down d z x here (index_value limits d place x i))
        (λ seen2. reads_bind E ts (whole limits d inner) _ (from + 1) seen2 at (at + 1) (i, expr_height i) (z, expr_height z)
        (reads_expr v (ends_here ts at (k.Mark m.CloseBracket) end r refl) d seen2 (down d z i here (index_inside limits d place x i)))
        (λ seen3. reads_bind E ts (expect m.CloseBracket) _ at seen3 (at + 1) (at + 1) end (z, expr_height z) (reads_expect E ts m.CloseBracket end at seen3 r)
        (λ seen4. reads_tall z (max (expr_height x) (expr_height i) + 1) (at + 1) seen4 tall)))))
        (λ seen1. reads_chain b q d count seen1 a (counts_next d count x z (omega (arith, tall)) c))
    reads_chain {x = x} {y = y} {from = from} {to = to} (ex.call {mid = mid} {p = p} {end = end} {args = args} s v b) q d (suc count) seen a c =
        let inner = leveled limits d in
        let place = span x.place end in
        let z = valued place (n.Call x args) in
        let tok = marked m.OpenParen p s.bytes in
        let here = across (suc d) y z a (chain_fits b limits d) in
        let tall = height_call place x args in
        reads_turns_more E ts (chains limits d inner) (chain limits d inner) count (x, expr_height x) (z, expr_height z) (y, expr_height y) from seen mid to (seen_in m.OpenParen from p s refl)
        (λ seen1. reads_next E ts (chain_at limits d inner (x, expr_height x)) from seen1 (z, expr_height z) mid (Some tok) (over limits d inner (x, expr_height x) (Some tok) (Take (call limits d inner (x, expr_height x)))) s.is refl
        (reads_over d inner from (z, expr_height z) mid x tok (Take (call limits d inner (x, expr_height x))) (down d z x here (call_value limits d place x args))
        (λ seen2. reads_bind E ts (values limits d inner) _ (from + 1) seen2 mid mid ((args, greatest (map expr_height args)), end) (z, expr_height z)
        (reads_values v d seen2 (down_list d z args here (call_values limits d place x args)))
        (λ seen3. reads_tall z (max (expr_height x) (greatest (map expr_height args)) + 1) mid seen3 tall))))
        (λ seen1. reads_chain b q d count seen1 a (counts_next d count x z (omega (arith, tall)) c))

    reads_values : {args : List ExprTree} {end : Place} {from to : ℕ} → ValuesAt ts args end from to → (d seen : ℕ) → AllowedList d args →
        Reads E (values limits d (leveled limits d)) ts from seen ((args, greatest (map expr_height args)), end) to
    reads_values {from = from} (ex.no_values {end = end} s) d seen a =
        let inner = leveled limits d in
        let z : Values × Place = (([], 0), end) in
        reads_next E ts (λ x. values_by limits d inner (sees m.CloseParen x)) from seen z (from + 1) (first (drop from ts)) (values_by limits d inner true) refl (ap (values_by limits d inner) (is_there ts m.CloseParen from end s))
        (λ seen1. reads_bind E ts (expect m.CloseParen) _ from seen1 (from + 1) (from + 1) end z (reads_expect E ts m.CloseParen end from seen1 s) (λ seen2. reads_pure E ts z (from + 1) seen2))
    reads_values {args = args} {from = from} (ex.values {mid = mid} {at = at} {end = end} {x = x} v r s) d seen a =
        let inner = leveled limits d in
        let z : Values × Place = ((args, greatest (map expr_height args)), end) in
        let q = ends_here ts at (k.Mark m.CloseParen) end s refl in
        let one = list_across d args (x ∷ []) a (more_fits r limits d) in
        reads_next E ts (λ x. values_by limits d inner (sees m.CloseParen x)) from seen z (at + 1) (first (drop from ts)) (values_by limits d inner false) refl
        (ap (values_by limits d inner) (begins_not m.CloseParen (first (drop from ts)) (expr_begins v) refl))
        (λ seen1. reads_bind E ts (value limits d inner 0) _ from seen1 mid (at + 1) (x, expr_height x) z (reads_value d inner x from mid (expr_begins v) (λ seen2. reads_expr v (more_ends r q) d seen2 (list_last d [] x one)) [] seen1 one)
        (λ seen2. reads_bind E ts (turns (sees m.Comma) (value_more limits d inner) limits.turns (x ∷ [], expr_height x)) _ mid seen2 at (at + 1) (args, greatest (map expr_height args)) z
        (subst (λ h. Reads {A = Values} E (turns (sees m.Comma) (value_more limits d inner) limits.turns (x ∷ [], h)) ts mid seen2 (args, greatest (map expr_height args)) at) (tallest_one x)
        (reads_more r q (not_there ts m.Comma at (k.Mark m.CloseParen) end s refl) d limits.turns seen2 a (list_counts_all d args (x ∷ []) a)))
        (λ seen3. reads_bind E ts (expect m.CloseParen) _ at seen3 (at + 1) (at + 1) end z (reads_expect E ts m.CloseParen end at seen3 s) (λ seen4. reads_pure E ts z (at + 1) seen4))))

    reads_more : {xs ys : List ExprTree} {from to : ℕ} → MoreValuesAt ts xs ys from to → goes_on (first (drop to ts)) ≡ false → IsNot ts m.Comma to → (d count seen : ℕ) → AllowedList d ys → ListCounts count xs →
        Reads E (turns (sees m.Comma) (value_more limits d (leveled limits d)) count (xs, greatest (map expr_height xs))) ts from seen (ys, greatest (map expr_height ys)) to
    reads_more {xs = xs} {from = from} ex.end q u d count seen a c = reads_turns_end E ts (sees m.Comma) (value_more limits d (leveled limits d)) count (xs, greatest (map expr_height xs)) from seen u.is
    reads_more {xs = xs} {ys = ys} {from = from} {to = to} (ex.more {p = p} {x = x} s v r) q u d zero seen a c =
        reads_turns_full E ts (sees m.Comma) (value_more limits d (leveled limits d)) (xs, greatest (map expr_height xs)) (ys, greatest (map expr_height ys)) from seen to (is_there ts m.Comma from p s)
        (list_counts_none d xs x c (list_across d ys (xs ++ x ∷ []) a (more_fits r limits d)))
    reads_more {xs = xs} {ys = ys} {from = from} {to = to} (ex.more {mid = mid} {p = p} {x = x} s v r) q u d (suc count) seen a c =
        let inner = leveled limits d in
        let zs = xs ++ x ∷ [] in
        reads_turns_more E ts (sees m.Comma) (value_more limits d inner) count (xs, greatest (map expr_height xs)) (zs, greatest (map expr_height zs)) (ys, greatest (map expr_height ys)) from seen mid to (is_there ts m.Comma from p s)
        (λ seen1. reads_bind E ts (expect m.Comma) _ from seen1 (from + 1) mid p (zs, greatest (map expr_height zs)) (reads_expect E ts m.Comma p from seen1 s)
        (λ seen2. reads_bind E ts (value limits d inner (length xs)) _ (from + 1) seen2 mid mid (x, expr_height x) (zs, greatest (map expr_height zs))
        (reads_value d inner x (from + 1) mid (expr_begins v) (λ seen3. reads_expr v (more_ends r q) d seen3 (list_last d xs x (list_across d ys zs a (more_fits r limits d)))) xs seen2 (list_across d ys zs a (more_fits r limits d)))
        (λ seen3. subst (λ h. Reads {A = Values} E (pure (zs, h)) ts mid seen3 (zs, greatest (map expr_height zs)) mid) (greatest_longer xs x) (reads_pure E ts (zs, greatest (map expr_height zs)) mid seen3))))
        (λ seen1. reads_more r q u d count seen1 a (list_counts_next count xs x c))

-- where each limit may be passed
pub any_arguments : (ts : List Lexed) (limits : Limits) → ArgumentsRead (Unit {0}) ts limits
any_arguments ts limits = record {
  reads = λ args end from to r d seen a. reads_arguments (Unit {0}) tt limits r true d seen;
  ahead = λ from seen p. tt;
}

-- where none may be, and there are as many turns as tokens
pub exact_arguments : (ts : List Lexed) (limits : Limits) → length ts ≤ limits.turns → ArgumentsRead ⊥ ts limits
exact_arguments ts limits long = record {
  reads = λ args end from to r d seen a. arguments_within ⊥ limits r true d seen a;
  ahead = λ from seen p. fine_not_past (λ (a : Arguments × Place) (to : ℕ). from < to) (arguments_ahead limits ts from seen) (fine_arguments_ahead ts limits long from seen) p;
}
