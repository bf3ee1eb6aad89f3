-- Names with what stands behind them, and operators between operands: the first limit that is broken is told.
use Rattle.std.proofs.Common.{Bool, true, false, ◌≡◌, ℕ, suc, ◌+◌, ◌<◌, ◌≤◌, List, [], ◌++◌, map, drop, length, Option, Some, None, refl, sym, ◌∙◌, ap, subst, arith, eq-eqb, eqb-true, ◌&&◌, ◌==◌, if◌then◌else◌, inl, inr}
use Rattle.std.specs.Prelude.{nat_lt}
use Rattle.std.proofs.lemmas.Bool.Decides.{eqb_tells}
use Rattle.slang_names.specs.declared.places.Place.{Place}
use Rattle.slang_names.specs.declared.codes.ModuleCode.TheVariants as code
use Rattle.slang_tree.specs.declared.types.Identifier.{Identifier}
use Rattle.slang_tree.specs.declared.types.GenericArgument.{GenericArgument}
use Rattle.slang_tree.specs.declared.expressions.BinaryOperator.{BinaryOperator}
use Rattle.slang_tree.specs.declared.expressions.BinaryOperator.TheVariants as o
use Rattle.slang_tree.specs.declared.expressions.ExprTree.{ExprTree}
use Rattle.slang_tree.specs.declared.expressions.ExprNode.TheVariants as n
use Rattle.slang_tokens.specs.declared.tokens.Kind.{Kind}
use Rattle.slang_tokens.specs.declared.tokens.Kind.TheVariants as k
use Rattle.slang_tokens.specs.declared.tokens.Mark.{Mark}
use Rattle.slang_tokens.specs.declared.tokens.Mark.TheVariants as m
use Rattle.slang_reading.specs.Lexed.{Lexed}
use Rattle.slang_reading.specs.Reading.{Parser, Leave, Take, Refuse, first, pure, past, place_of, next, attempt}
use Rattle.slang_reading.specs.Kinds.{is_mark, sees, span}
use Rattle.slang_reading.proofs.Marks.{same_mark, mark_sees}
use Rattle.slang_reading.proofs.Viable.{IsPast}
use Rattle.slang_reading.proofs.Exact.{Reads, reads_pure, reads_bind, reads_next, reads_attempt_none, reads_foresee_no}
use Rattle.slang_grammar.specs.Tables.{binary_of, level_of}
use Rattle.slang_grammar.specs.Standing.{Stands}
use Rattle.slang_grammar.specs.Types.{ArgumentsAt}
use Rattle.slang_grammar.specs.Heights.{greatest, argument_height}
use Rattle.slang_grammar.specs.Expressions as ex
use Rattle.slang_grammar.specs.Expressions.{valued, follows, NoArguments, NameAt, OperatorAt, loosest, ExprAt, LevelAt, BinaryAt, UnaryAt, PostfixAt, ChainAt, ValuesAt, MoreValuesAt, PrimaryAt}
use Rattle.slang_grammar.specs.Descent.{Limits, fits_in, expect}
use Rattle.slang_grammar.specs.TypesDescent.{Arguments, arguments, types}
use Rattle.slang_grammar.specs.ExpressionsDescent.{Value, freed, arguments_ahead, Given, given_by, given_at, given, begins, adjacent, joined, shift_ahead, over, operand, greater, shift_by, operator_mark, operator_by, operator_at, operator}
use Rattle.slang_grammar.proofs.Shared.{stands, reads_expect}
use Rattle.slang_grammar.proofs.TypesSpelled.{post_arguments, post_types}
use Rattle.slang_grammar.proofs.TypesRead.{reads_arguments, less_there}
use Rattle.expression_grammar.specs.Heights.{expr_height}
use Rattle.expression_grammar.proofs.Heights.{height_binary}
use Rattle.expression_grammar.proofs.Tables.{operator_other}
use Rattle.slang_reading.proofs.Fine.{fine_post, fine_not_past}
use Rattle.expression_grammar.proofs.Ahead.{fine_arguments_ahead, IsShiftAt, fine_shift_ahead}
use Rattle.expression_grammar.proofs.Quiet.{begins_not, QuietAt}
use Rattle.expression_grammar.proofs.Spelled.{post_arguments_ahead, reads_arguments_ahead}
use Rattle.expression_grammar.proofs.Read.{reads_excused}
use Rattle.expression_limits.specs.Breaks.{Break, unless, arises_over}
use Rattle.expression_limits.specs.Expressions.{given_breaks}
use Rattle.expression_limits.proofs.Telling.{Tells, tells_reads, fits_is, tells_last, tells_next, tells_take, tells_attempt_some, tells_foresee_yes}
use Rattle.expression_limits.proofs.Types.{tells_arguments}

abbrev pub joins : BinaryOperator → ExprTree → ExprTree → ExprTree
joins op x z = valued (span x.place z.place) (n.Binary op x z)

abbrev pub marked : Mark → Place → List ℕ → Lexed
marked mark p bytes = record { kind = k.Mark mark; place = p; bytes = bytes }

module _ (ts : List Lexed) (limits : Limits) where
  -- ---- a name and what stands behind it

  module _ (long : length ts ≤ limits.turns) where
    not_past : (from seen : ℕ) → IsPast (arguments_ahead limits ts from seen) → ⊥
    not_past from seen p = fine_not_past (λ (a : Arguments × Place) (to : ℕ). from < to) (arguments_ahead limits ts from seen) (fine_arguments_ahead ts limits long from seen) p

    reads_alone : (d : ℕ) (id : Identifier) (from : ℕ) → NoArguments ts (from + 1) → (seen : ℕ) → Reads {A = Given} ⊥ (given limits d id.place) ts (from + 1) seen ([], 0, id.place) (from + 1)
    unfolding given
    reads_alone d id from none seen = by (sees m.Less (first (drop (from + 1) ts))) refl
      where
        by : (b : Bool) → sees m.Less (first (drop (from + 1) ts)) ≡ b → Reads {A = Given} ⊥ (next (λ x. given_at limits d id.place (sees m.Less x))) ts (from + 1) seen ([], 0, id.place) (from + 1)
        by true e = reads_next ⊥ ts (λ x. given_at limits d id.place (sees m.Less x)) (from + 1) seen ([], 0, id.place) (from + 1) (first (drop (from + 1) ts)) (given_at limits d id.place true) refl (ap (given_at limits d id.place) e)
            (λ seen1. reads_foresee_no ts (arguments_ahead limits) (given_by limits d id.place) (from + 1) seen1 ⊥
            (λ (r : Arguments × Place) (end : ℕ). ArgumentsAt ts r.0.0 r.1 (from + 1) end × (follows (first (drop end ts)) ≡ true)) ([], 0, id.place) (from + 1)
            (post_arguments_ahead ts limits (λ (r : Arguments × Place) (end : ℕ). ArgumentsAt ts r.0.0 r.1 (from + 1) end) (from + 1) seen1
            (post_arguments ts (freed limits) true limits.turns (types (freed limits) limits.turns) (λ at seen2. post_types ts (freed limits) limits.turns at seen2) (from + 1) seen1))
            (λ b mid p. none.none b.0.0 b.1 mid p.0 p.1) (not_past (from + 1) seen1)
            (λ seen2. reads_pure ⊥ ts ([], 0, id.place) (from + 1) seen2))
        by false e = reads_next ⊥ ts (λ x. given_at limits d id.place (sees m.Less x)) (from + 1) seen ([], 0, id.place) (from + 1) (first (drop (from + 1) ts)) (given_at limits d id.place false) refl (ap (given_at limits d id.place) e)
            (λ seen1. reads_pure ⊥ ts ([], 0, id.place) (from + 1) seen1)

    pub tells_given : (free : limits.free ≡ false) {id : Identifier} {args : List GenericArgument} {end : Place} {from to : ℕ} → (s : NameAt ts id args end from to) → (d seen : ℕ) →
        Tells {A = Given} (given_breaks ts limits s d) (given limits d id.place) ts (from + 1) seen (args, greatest (map argument_height args), end) to
    unfolding given
    tells_given free {id = id} {from = from} (ex.alone s none) d seen = tells_reads (given limits d id.place) ts (from + 1) seen ([], 0, id.place) (from + 1) (reads_alone d id from none seen)
    tells_given free {id = id} {args = args} {end = end} {from = from} {to = to} (ex.generic s r f) d seen =
        let z : Given = (args, greatest (map argument_height args), end) in
        let all : Arguments × Place = ((args, greatest (map argument_height args)), end) in
        tells_next ts (λ x. given_at limits d id.place (sees m.Less x)) (from + 1) seen z to (first (drop (from + 1) ts)) (given_at limits d id.place true) refl
        (ap (given_at limits d id.place) (less_there r))
        (λ seen1. tells_foresee_yes ts (arguments_ahead limits) (from + 1) seen1 (given_by limits d id.place) all z to to
        (reads_excused ⊥ (arguments_ahead limits) ts (from + 1) seen1 all to
        (reads_arguments_ahead ts limits (Unit {0}) all (from + 1) to seen1 (reads_arguments (Unit {0}) tt (freed limits) r true limits.turns seen1) f) (not_past (from + 1) seen1))
        (λ seen2. tells_last ts (arguments limits true d (types limits d)) _ (from + 1) seen2 to to all z (tells_arguments ts limits free long r d seen2) (λ seen3. reads_pure ⊥ ts z to seen3)))

  -- ---- operators between operands, whatever reads the operands

  module _ (d : ℕ) (inner : ℕ → Parser Value) where
    not_joined : (mark : Mark) (p : Place) (x : Option Lexed) → sees mark x ≡ false → joined mark p x ≡ false
    not_joined mark p None e = refl
    not_joined mark p (Some t) e = by (is_mark mark t.kind) (adjacent p t.place) e
      where
        by : (a b : Bool) → a ≡ false → (a && b) ≡ false
        by false b e = refl
        by true b e = cc

    is_joined : (mark : Mark) (at : ℕ) (p q : Place) → Stands ts at (k.Mark mark) q → p.end ≡ q.start → joined mark p (first (drop at ts)) ≡ true
    is_joined mark at p q s j = ap (joined mark p) s.is ∙ both (is_mark mark (k.Mark mark)) (p.end == q.start) (mark_sees mark (marked mark q s.bytes) refl) (eq-eqb p.end q.start j)
      where
        both : (a b : Bool) → a ≡ true → b ≡ true → (a && b) ≡ true
        both true b e f = f
        both false b e f = cc

    eqb_same : (a b : ℕ) → a ≡ b → (a == b) ≡ true
    eqb_same a b e = eq-eqb a b e

    eqb_other : (a b : ℕ) → (a ≡ b → ⊥) → (a == b) ≡ false
    eqb_other a b h = elim (eqb_tells a b) [ inl t ↦ absurd (h t.1) | inr t ↦ t.0 ]

    reads_shift_ahead : (p q : Place) (at seen : ℕ) → Stands ts at (k.Mark m.Greater) p → Stands ts (at + 1) (k.Mark m.Greater) q → p.end ≡ q.start → Reads ⊥ shift_ahead ts at seen p (at + 1 + 1)
    unfolding shift_ahead
    reads_shift_ahead p q at seen s t j = reads_bind ⊥ ts (expect m.Greater) _ at seen (at + 1) (at + 1 + 1) p p (reads_expect ⊥ ts m.Greater p at seen s)
        (λ seen1. reads_next ⊥ ts (λ x. if joined m.Greater p x then Take (pure p) else Refuse) (at + 1) seen1 p (at + 1 + 1) (Some (marked m.Greater q t.bytes)) (Take (pure p)) t.is
        (ap (λ b. if b then Take (pure p) else Refuse) (ap (joined m.Greater p) (sym t.is) ∙ is_joined m.Greater (at + 1) p q t j)) (λ seen2. reads_pure ⊥ ts p (at + 1 + 1) seen2))

    -- no operator of the level or of a tighter one stands there
    pub reads_no_operator : (l : ℕ) (x : ExprTree) (at : ℕ) → QuietAt ts (suc l) at → (seen : ℕ) → Reads ⊥ (operator limits d inner l (x, expr_height x)) ts at seen None at
    unfolding operator
    reads_no_operator l x at q seen = go (first (drop at ts)) refl
      where
        leaves : (t : Option Lexed) → first (drop at ts) ≡ t → operator_at limits d inner l (x, expr_height x) t ≡ Leave (pure None) → Reads ⊥ (next (operator_at limits d inner l (x, expr_height x))) ts at seen None at
        leaves t e f = reads_next ⊥ ts (operator_at limits d inner l (x, expr_height x)) at seen None at t (Leave (pure None)) e f (λ seen1. reads_pure ⊥ ts None at seen1)

        other_level : (tok : Lexed) (mark : Mark) → Stands ts at (k.Mark mark) tok.place → (op : Option BinaryOperator) → binary_of mark ≡ op → operator_mark limits d inner l (x, expr_height x) tok op ≡ Leave (pure None)
        other_level tok mark s None e = refl
        other_level tok mark s (Some op) e = let h = q.operator op (at + 1) (ex.mark s e) in
            ap (λ c. if c then over limits d inner (x, expr_height x) (Some tok) (Take (operand limits d inner l op (x, expr_height x))) else Leave (pure None)) (eqb_other (level_of op) l (λ c. omega (arith, c, h)))

        no_greater : (p : Place) → Stands ts at (k.Mark m.Greater) p → (l ≡ 3 → ⊥)
        no_greater p s e = let h = q.operator o.Greater (at + 1) (ex.mark s refl) in omega (arith, e, h)

        no_shift : (p : Place) (mid : ℕ) → l ≡ 2 → IsShiftAt ts at p mid → ⊥
        no_shift p mid e s = let h = q.operator o.ShiftRight (at + 1 + 1) (ex.shift_right s.1 s.2 s.3) in omega (arith, e, h)

        at_greater : (tok : Lexed) → first (drop at ts) ≡ Some tok → tok.kind ≡ k.Mark m.Greater → (a b : Bool) → (l == 3) ≡ a → (l == 2) ≡ b → operator_at limits d inner l (x, expr_height x) (Some tok) ≡
            (if a then over limits d inner (x, expr_height x) (Some tok) (Take (greater limits d inner l tok.place (x, expr_height x))) else (if b then Leave (attempt shift_ahead (shift_by limits d inner l (x, expr_height x))) else Leave (pure None))) →
            Reads ⊥ (next (operator_at limits d inner l (x, expr_height x))) ts at seen None at
        at_greater tok e g true b u v c = absurd (no_greater tok.place (stands ts at tok (k.Mark m.Greater) e g) (eqb-true l 3 u))
        at_greater tok e g false true u v c = reads_next ⊥ ts (operator_at limits d inner l (x, expr_height x)) at seen None at (Some tok) (Leave (attempt shift_ahead (shift_by limits d inner l (x, expr_height x)))) e c
            (λ seen1. reads_attempt_none ts shift_ahead (shift_by limits d inner l (x, expr_height x)) at seen1 ⊥ (IsShiftAt ts at) None at
            (fine_post (IsShiftAt ts at) (shift_ahead ts at seen1) (fine_shift_ahead ts at seen1)) (λ b mid s. no_shift b mid (eqb-true l 2 v) s)
            (λ p. absurd (fine_not_past (IsShiftAt ts at) (shift_ahead ts at seen1) (fine_shift_ahead ts at seen1) p)) (λ seen2. reads_pure ⊥ ts None at seen2))
        at_greater tok e g false false u v c = leaves (Some tok) e c

        by : (tok : Lexed) → first (drop at ts) ≡ Some tok → (kind : Kind) → tok.kind ≡ kind → (operator_at limits d inner l (x, expr_height x) (Some tok) ≡ operator_by limits d inner l (x, expr_height x) tok kind) →
            Reads ⊥ (next (operator_at limits d inner l (x, expr_height x))) ts at seen None at
        by tok e k.Name g c = leaves (Some tok) e c
        by tok e (k.Word word) g c = leaves (Some tok) e c
        by tok e (k.Number v) g c = leaves (Some tok) e c
        by tok e k.String g c = leaves (Some tok) e c
        by tok e (k.Mark mark) g c = at_mark (is_mark m.Greater (k.Mark mark)) refl
          where
            at_mark : (b : Bool) → is_mark m.Greater (k.Mark mark) ≡ b → Reads ⊥ (next (operator_at limits d inner l (x, expr_height x))) ts at seen None at
            at_mark false f = leaves (Some tok) e (c ∙ (operator_other limits d inner l (x, expr_height x) tok mark f ∙ other_level tok mark (stands ts at tok (k.Mark mark) e g) (binary_of mark) refl))
            at_mark true f = let u = same_mark m.Greater mark f in
                at_greater tok e (g ∙ ap k.Mark (sym u)) (l == 3) (l == 2) refl refl (c ∙ ap (λ a. operator_by limits d inner l (x, expr_height x) tok (k.Mark a)) (sym u))

        go : (t : Option Lexed) → first (drop at ts) ≡ t → Reads ⊥ (next (operator_at limits d inner l (x, expr_height x))) ts at seen None at
        go (Some tok) e = by tok e tok.kind refl refl
        go None e = leaves None e refl

    -- the operator, its right operand, and what that breaks
    module _ (free : limits.free ≡ false) (bs : List Break) where
      -- what the operator and its operand break
      abbrev breaks : ExprTree → ℕ → List Break
      breaks x from = arises_over ts (expr_height x) from (suc d) ++ bs

      tells_operand : (l : ℕ) (op : BinaryOperator) (x z : ExprTree) (mid to seen : ℕ) → ((seen1 : ℕ) → Tells bs (inner l) ts mid seen1 (z, expr_height z) to) →
          Tells bs (operand limits d inner l op (x, expr_height x)) ts mid seen (Some (joins op x z, expr_height (joins op x z))) to
      unfolding operand
      tells_operand l op x z mid to seen r =
          let y = joins op x z in
          tells_last ts (inner l) _ mid seen to to (z, expr_height z) (Some (y, expr_height y)) (r seen)
          (λ seen1. subst (λ i. Reads {A = Option Value} ⊥ (pure (Some (y, i))) ts to seen1 (Some (y, expr_height y)) to) (height_binary (span x.place z.place) op x z) (reads_pure ⊥ ts (Some (y, expr_height y)) to seen1))

      -- `>` alone: an operand and no `=` stands behind it
      tells_greater_alone : (l : ℕ) (x z : ExprTree) (p : Place) (from to : ℕ) → Stands ts from (k.Mark m.Greater) p → level_of o.Greater ≡ l → begins (first (drop (from + 1) ts)) ≡ true →
          ((seen1 : ℕ) → Tells bs (inner l) ts (from + 1) seen1 (z, expr_height z) to) → (seen : ℕ) →
          Tells (breaks x from) (next (operator_at limits d inner l (x, expr_height x))) ts from seen (Some (joins o.Greater x z, expr_height (joins o.Greater x z))) to
      unfolding greater
      tells_greater_alone l x z p from to s v n r seen =
          let y = joins o.Greater x z in
          let t = marked m.Greater p s.bytes in
          let rest = if l == level_of o.ShiftRight then Leave (attempt shift_ahead (shift_by limits d inner l (x, expr_height x))) else Leave (pure None) in
          tells_next ts (operator_at limits d inner l (x, expr_height x)) from seen (Some (y, expr_height y)) to (Some t) (over limits d inner (x, expr_height x) (Some t) (Take (greater limits d inner l p (x, expr_height x)))) s.is
          (ap (λ c. if c then over limits d inner (x, expr_height x) (Some t) (Take (greater limits d inner l p (x, expr_height x))) else rest) (eqb_same l (level_of o.Greater) (sym v)))
          (tells_take ts from (Some (y, expr_height y)) to t (fits_in limits (expr_height x) (suc d)) (nat_lt (expr_height x) (suc d)) code.TooNested (greater limits d inner l p (x, expr_height x)) s.is (fits_is limits free (expr_height x) (suc d))
          (λ seen1. tells_next ts (λ u. if joined m.Equal p u then Take (operand limits d inner l o.GreaterEqual (x, expr_height x)) else Leave (operand limits d inner l o.Greater (x, expr_height x))) (from + 1) seen1 (Some (y, expr_height y)) to
          (first (drop (from + 1) ts)) (Leave (operand limits d inner l o.Greater (x, expr_height x))) refl
          (ap (λ c. if c then Take (operand limits d inner l o.GreaterEqual (x, expr_height x)) else Leave (operand limits d inner l o.Greater (x, expr_height x)))
          (not_joined m.Equal p (first (drop (from + 1) ts)) (begins_not m.Equal (first (drop (from + 1) ts)) n refl)))
          (λ seen2. tells_operand l o.Greater x z (from + 1) to seen2 r)))

      tells_greater_equal : (l : ℕ) (x z : ExprTree) (p q : Place) (from to : ℕ) → Stands ts from (k.Mark m.Greater) p → Stands ts (from + 1) (k.Mark m.Equal) q → p.end ≡ q.start → level_of o.GreaterEqual ≡ l →
          ((seen1 : ℕ) → Tells bs (inner l) ts (from + 1 + 1) seen1 (z, expr_height z) to) → (seen : ℕ) →
          Tells (breaks x from) (next (operator_at limits d inner l (x, expr_height x))) ts from seen (Some (joins o.GreaterEqual x z, expr_height (joins o.GreaterEqual x z))) to
      unfolding greater
      tells_greater_equal l x z p q from to s u j v r seen =
          let y = joins o.GreaterEqual x z in
          let t = marked m.Greater p s.bytes in
          let e = marked m.Equal q u.bytes in
          let rest = if l == level_of o.ShiftRight then Leave (attempt shift_ahead (shift_by limits d inner l (x, expr_height x))) else Leave (pure None) in
          tells_next ts (operator_at limits d inner l (x, expr_height x)) from seen (Some (y, expr_height y)) to (Some t) (over limits d inner (x, expr_height x) (Some t) (Take (greater limits d inner l p (x, expr_height x)))) s.is
          (ap (λ c. if c then over limits d inner (x, expr_height x) (Some t) (Take (greater limits d inner l p (x, expr_height x))) else rest) (eqb_same l (level_of o.Greater) (sym v)))
          (tells_take ts from (Some (y, expr_height y)) to t (fits_in limits (expr_height x) (suc d)) (nat_lt (expr_height x) (suc d)) code.TooNested (greater limits d inner l p (x, expr_height x)) s.is (fits_is limits free (expr_height x) (suc d))
          (λ seen1. tells_next ts (λ u. if joined m.Equal p u then Take (operand limits d inner l o.GreaterEqual (x, expr_height x)) else Leave (operand limits d inner l o.Greater (x, expr_height x))) (from + 1) seen1 (Some (y, expr_height y)) to
          (Some e) (Take (operand limits d inner l o.GreaterEqual (x, expr_height x))) u.is
          (ap (λ c. if c then Take (operand limits d inner l o.GreaterEqual (x, expr_height x)) else Leave (operand limits d inner l o.Greater (x, expr_height x)))
          (ap (joined m.Equal p) (sym u.is) ∙ is_joined m.Equal (from + 1) p q u j))
          (λ seen2. tells_operand l o.GreaterEqual x z (from + 1 + 1) to seen2 r)))

      tells_shift_right : (l : ℕ) (x z : ExprTree) (p q : Place) (from to : ℕ) → Stands ts from (k.Mark m.Greater) p → Stands ts (from + 1) (k.Mark m.Greater) q → p.end ≡ q.start → level_of o.ShiftRight ≡ l →
          ((seen1 : ℕ) → Tells bs (inner l) ts (from + 1 + 1) seen1 (z, expr_height z) to) → (seen : ℕ) →
          Tells (breaks x from) (next (operator_at limits d inner l (x, expr_height x))) ts from seen (Some (joins o.ShiftRight x z, expr_height (joins o.ShiftRight x z))) to
      tells_shift_right l x z p q from to s u j v r seen =
          let y = joins o.ShiftRight x z in
          let t = marked m.Greater p s.bytes in
          let here = over limits d inner (x, expr_height x) (Some t) (Take (greater limits d inner l p (x, expr_height x))) in
          tells_next ts (operator_at limits d inner l (x, expr_height x)) from seen (Some (y, expr_height y)) to (Some t) (Leave (attempt shift_ahead (shift_by limits d inner l (x, expr_height x)))) s.is
          (ap (λ c. if c then here else (if l == level_of o.ShiftRight then Leave (attempt shift_ahead (shift_by limits d inner l (x, expr_height x))) else Leave (pure None))) (eqb_other l (level_of o.Greater) (λ e. omega (arith, e, v))) ∙
          ap (λ c. if c then Leave (attempt shift_ahead (shift_by limits d inner l (x, expr_height x))) else Leave (pure None)) (eqb_same l (level_of o.ShiftRight) (sym v)))
          (λ seen1. tells_attempt_some ts shift_ahead from seen1 (shift_by limits d inner l (x, expr_height x)) p (Some (y, expr_height y)) (from + 1 + 1) to (reads_shift_ahead p q from seen1 s u j)
          (λ seen2. by seen2 (fits_in limits (expr_height x) (suc d)) (nat_lt (expr_height x) (suc d)) (fits_is limits free (expr_height x) (suc d))))
        where
          differ : true ≡ false → ⊥
          differ e = cc

          by : (seen2 : ℕ) (c claim : Bool) → c ≡ claim →
              Tells (unless ts claim code.TooNested from ++ bs) (if c then operand limits d inner l o.ShiftRight (x, expr_height x) else past code.TooNested p) ts (from + 1 + 1) seen2
              (Some (joins o.ShiftRight x z, expr_height (joins o.ShiftRight x z))) to
          by seen2 true true e = tells_operand l o.ShiftRight x z (from + 1 + 1) to seen2 r
          by seen2 false false e = record { is = (refl, ap place_of (sym s.is)) }
          by seen2 true false e = absurd (differ e)
          by seen2 false true e = absurd (differ (sym e))

      tells_marked : (l : ℕ) (op : BinaryOperator) (x z : ExprTree) (mark : Mark) (p : Place) (from to : ℕ) → Stands ts from (k.Mark mark) p → is_mark m.Greater (k.Mark mark) ≡ false → binary_of mark ≡ Some op → level_of op ≡ l →
          ((seen1 : ℕ) → Tells bs (inner l) ts (from + 1) seen1 (z, expr_height z) to) → (seen : ℕ) →
          Tells (breaks x from) (next (operator_at limits d inner l (x, expr_height x))) ts from seen (Some (joins op x z, expr_height (joins op x z))) to
      tells_marked l op x z mark p from to s e q v r seen =
          let y = joins op x z in
          let t = marked mark p s.bytes in
          tells_next ts (operator_at limits d inner l (x, expr_height x)) from seen (Some (y, expr_height y)) to (Some t) (over limits d inner (x, expr_height x) (Some t) (Take (operand limits d inner l op (x, expr_height x)))) s.is
          (operator_other limits d inner l (x, expr_height x) t mark e ∙ (ap (operator_mark limits d inner l (x, expr_height x) t) q ∙
          ap (λ c. if c then over limits d inner (x, expr_height x) (Some t) (Take (operand limits d inner l op (x, expr_height x))) else Leave (pure None)) (eqb_same (level_of op) l v)))
          (tells_take ts from (Some (y, expr_height y)) to t (fits_in limits (expr_height x) (suc d)) (nat_lt (expr_height x) (suc d)) code.TooNested (operand limits d inner l op (x, expr_height x)) s.is (fits_is limits free (expr_height x) (suc d))
          (λ seen1. tells_operand l op x z (from + 1) to seen1 r))

      pub tells_operator : (l : ℕ) (op : BinaryOperator) (x z : ExprTree) (from mid to : ℕ) → OperatorAt ts op from mid → level_of op ≡ l → begins (first (drop mid ts)) ≡ true →
          ((seen1 : ℕ) → Tells bs (inner l) ts mid seen1 (z, expr_height z) to) → (seen : ℕ) →
          Tells (breaks x from) (operator limits d inner l (x, expr_height x)) ts from seen (Some (joins op x z, expr_height (joins op x z))) to
      unfolding operator
      tells_operator l op x z from mid to (ex.greater_equal {p = p} {q = q} s u j) v n r seen = tells_greater_equal l x z p q from to s u j v r seen
      tells_operator l op x z from mid to (ex.shift_right {p = p} {q = q} s u j) v n r seen = tells_shift_right l x z p q from to s u j v r seen
      tells_operator l op x z from mid to (ex.mark {p = p} {x = mark} s q) v n r seen = by (is_mark m.Greater (k.Mark mark)) refl
        where
          is_greater : m.Greater ≡ mark → o.Greater ≡ op
          is_greater g = let e : Some o.Greater ≡ Some op = ap binary_of g ∙ q in cc

          by : (c : Bool) → is_mark m.Greater (k.Mark mark) ≡ c → Tells (breaks x from) (next (operator_at limits d inner l (x, expr_height x))) ts from seen (Some (joins op x z, expr_height (joins op x z))) to
          by false e = tells_marked l op x z mark p from to s e q v r seen
          by true e =
              let g = same_mark m.Greater mark e in
              let f = is_greater g in
              subst (λ c. Tells (breaks x from) (next (operator_at limits d inner l (x, expr_height x))) ts from seen (Some (joins c x z, expr_height (joins c x z))) to) f
              (tells_greater_alone l x z p from to (subst (λ c. Stands ts from (k.Mark c) p) (sym g) s) (ap level_of f ∙ v) n r seen)
