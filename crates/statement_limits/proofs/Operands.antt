-- Operands of changes: the first limit that is broken is told.
use Rattle.std.proofs.Common.{true, false, ◌≡◌, ℕ, zero, suc, ◌+◌, ◌≤◌, max, List, [], ◌∷◌, ◌++◌, map, drop, length, Some, refl, ◌∙◌, ap, subst, arith, if◌then◌else◌}
use Rattle.std.specs.Prelude.{nat_le, nat_lt}
use Rattle.slang_names.specs.declared.places.Place.{Place}
use Rattle.slang_names.specs.declared.codes.ModuleCode.TheVariants as code
use Rattle.slang_tree.specs.declared.types.Identifier.{Identifier}
use Rattle.slang_tree.specs.declared.types.GenericArgument.{GenericArgument}
use Rattle.slang_tree.specs.declared.expressions.ExprTree.{ExprTree}
use Rattle.slang_tree.specs.declared.expressions.ExprNode.{ExprNode}
use Rattle.slang_tree.specs.declared.expressions.ExprNode.TheVariants as n
use Rattle.slang_tokens.specs.declared.tokens.Kind.{Kind}
use Rattle.slang_tokens.specs.declared.tokens.Kind.TheVariants as k
use Rattle.slang_tokens.specs.declared.tokens.Mark.{Mark}
use Rattle.slang_tokens.specs.declared.tokens.Mark.TheVariants as m
use Rattle.slang_tokens.specs.declared.tokens.Word.TheVariants as w
use Rattle.slang_reading.specs.Lexed.{Lexed}
use Rattle.slang_reading.specs.Reading.{Parser, Leave, Take, Refuse, Pass, first, if_fits, place_of, pure, next, turns}
use Rattle.slang_reading.specs.Kinds.{sees, span}
use Rattle.slang_reading.proofs.Exact.{Reads, reads_pure, reads_bind}
use Rattle.slang_grammar.specs.Standing.{Stands, NameStands, IsNot}
use Rattle.slang_grammar.specs.Heights.{greatest, argument_height}
use Rattle.slang_grammar.specs.Expressions as ex
use Rattle.slang_grammar.specs.Expressions.{valued, NameAt, loosest, PostfixAt, ChainAt, ValuesAt, MoreValuesAt, PrimaryAt}
use Rattle.slang_grammar.specs.Descent.{Limits, fits_in, expect, identifier, is_short, if_short}
use Rattle.slang_grammar.specs.ExpressionsDescent.{Value, Values, given, begins, whole, over, value_of, value, value_more, values_by, values, construct, primary_word, named, paren, member_name, member_at, index, call, chain_at, chain, chains, chain_rest, primary_at, postfix, leveled}
use Rattle.slang_grammar.proofs.Shared.{reads_expect, not_there, is_there}
use Rattle.expression_grammar.specs.Heights.{expr_height}
use Rattle.expression_grammar.specs.Ends.{goes_on}
use Rattle.expression_grammar.proofs.Heights.{height_value, height_true, height_false, height_this_value, height_this_type, height_name, height_construct, height_paren, height_member, height_index, height_call, greatest_longer}
use Rattle.expression_grammar.proofs.Quiet.{expr_begins, begins_not, goes_in, ends_here, more_ends}
use Rattle.statement_grammar.specs.StatementsDescent.{operand_past, operands}
use Rattle.statement_grammar.proofs.Begins.{postfix_operand}
use Rattle.expression_limits.specs.Breaks.{Break, broken, item_with}
use Rattle.expression_limits.specs.Expressions.{expr_breaks, postfix_breaks, chain_breaks, values_breaks, more_values_breaks, primary_breaks}
use Rattle.expression_limits.proofs.Telling.{Tells, tells_first, first_front, tells_reads, fits_is, short_is, tells_bind, tells_then, tells_last, tells_broken, tells_next, tells_take, tells_item, tells_turns_end, tells_turns_more}
use Rattle.expression_limits.proofs.Moves.{stands_within, name_moves, expr_moves, values_move}
use Rattle.expression_limits.proofs.Operators.{marked, tells_given}
use Rattle.expression_limits.proofs.Expressions.{tells_expr}

module _ (ts : List Lexed) (limits : Limits) where
  primary_zero : {x : ExprTree} {from to : ℕ} → (s : PrimaryAt ts x from to) → first (primary_breaks ts limits s zero) ≡ Some (broken ts code.TooNested from)
  primary_zero (ex.number s) = refl
  primary_zero (ex.true_word s) = refl
  primary_zero (ex.false_word s) = refl
  primary_zero (ex.this_value s) = refl
  primary_zero (ex.this_type s) = refl
  primary_zero (ex.name r) = refl
  primary_zero (ex.construct s e o v) = refl
  primary_zero (ex.paren s v r) = refl

  -- the answer with an equal height
  reads_tall : (x : ExprTree) (h at seen : ℕ) → expr_height x ≡ h → Reads {A = Value} ⊥ (pure (x, h)) ts at seen (x, expr_height x) at
  reads_tall x h at seen e = subst (λ i. Reads {A = Value} ⊥ (pure (x, i)) ts at seen (x, expr_height x) at) e (reads_pure ⊥ ts (x, expr_height x) at seen)

  there : {id : Identifier} {args : List GenericArgument} {end : Place} {from to : ℕ} → NameAt ts id args end from to → NameStands ts from id
  there (ex.alone s a) = s
  there (ex.generic s a f) = s

  seen_in : (mark : Mark) (at : ℕ) (p : Place) → Stands ts at (k.Mark mark) p → goes_in (Some (marked mark p [])) ≡ true → goes_in (first (drop at ts)) ≡ true
  seen_in mark at p s e = ap goes_in s.is ∙ e

  tallest_one : (x : ExprTree) → greatest (map expr_height (x ∷ [])) ≡ expr_height x
  tallest_one x = omega arith

  module _ (free : limits.free ≡ false) (long : length ts ≤ limits.turns) where
    -- ---- values between parentheses

    -- a value behind so many others
    tells_value : (bs : List Break) (d : ℕ) (inner : ℕ → Parser Value) (x : ExprTree) (from to : ℕ) → begins (first (drop from ts)) ≡ true → ((seen1 : ℕ) → Tells bs (inner (suc loosest)) ts from seen1 (x, expr_height x) to) → (count seen : ℕ) →
        Tells (item_with ts limits count from d bs) (value limits d inner count) ts from seen (x, expr_height x) to
    unfolding value
    tells_value bs d inner x from to n r count seen =
        let here = first (drop from ts) in
        let c = if_fits (nat_lt 0 d) code.TooNested here (Leave (whole limits d inner)) in
        tells_next ts (λ t. if_fits (fits_in limits count limits.items) code.TooLong t (value_of limits d inner t)) from seen (x, expr_height x) to here (if_fits (fits_in limits count limits.items) code.TooLong here c) refl
        (ap (λ b. if_fits (fits_in limits count limits.items) code.TooLong here (if b then c else Refuse)) n)
        (tells_item ts limits free from (x, expr_height x) to here count d (whole limits d inner) refl r)

    tells_more : {xs ys : List ExprTree} {from to : ℕ} → (s : MoreValuesAt ts xs ys from to) → goes_on (first (drop to ts)) ≡ false → IsNot ts m.Comma to → (d count seen : ℕ) → length ts ≤ from + count →
        Tells (more_values_breaks ts limits s d) (turns (sees m.Comma) (value_more limits d (leveled limits d)) count (xs, greatest (map expr_height xs))) ts from seen (ys, greatest (map expr_height ys)) to
    unfolding value_more
    tells_more {xs = xs} {from = from} ex.end q u d count seen t = tells_turns_end ts (sees m.Comma) (value_more limits d (leveled limits d)) count (xs, greatest (map expr_height xs)) from seen u.is
    tells_more {from = from} (ex.more {p = p} s v r) q u d zero seen t = absurd (let w = stands_within ts from (k.Mark m.Comma) p s in omega (arith, t, w))
    tells_more {ys = ys} {from = from} {to = to} (ex.more {mid = mid} {p = p} {x = x} {list = xs} s v r) q u d (suc count) seen t =
        let inner = leveled limits d in
        let zs = xs ++ x ∷ [] in
        tells_turns_more ts (sees m.Comma) (value_more limits d inner) count (xs, greatest (map expr_height xs)) (zs, greatest (map expr_height zs)) (ys, greatest (map expr_height ys)) from seen mid to (is_there ts m.Comma from p s)
        (λ seen1. tells_then ts (expect m.Comma) _ from seen1 (from + 1) mid p (zs, greatest (map expr_height zs)) (reads_expect ⊥ ts m.Comma p from seen1 s)
        (λ seen2. tells_last ts (value limits d inner (length xs)) _ (from + 1) seen2 mid mid (x, expr_height x) (zs, greatest (map expr_height zs))
        (tells_value (expr_breaks ts limits v d) d inner x (from + 1) mid (expr_begins v) (λ seen3. tells_expr ts limits free long v (more_ends r q) d seen3) (length xs) seen2)
        (λ seen3. subst (λ h. Reads {A = Values} ⊥ (pure (zs, h)) ts mid seen3 (zs, greatest (map expr_height zs)) mid) (greatest_longer xs x) (reads_pure ⊥ ts (zs, greatest (map expr_height zs)) mid seen3))))
        (λ seen1. tells_more r q u d count seen1 (let w = expr_moves ts v in omega (arith, t, w)))

    tells_values : {args : List ExprTree} {end : Place} {from to : ℕ} → (s : ValuesAt ts args end from to) → (d seen : ℕ) →
        Tells (values_breaks ts limits s d) (values limits d (leveled limits d)) ts from seen ((args, greatest (map expr_height args)), end) to
    unfolding values
    tells_values {from = from} (ex.no_values {end = end} s) d seen =
        let inner = leveled limits d in
        let z : Values × Place = (([], 0), end) in
        tells_next ts (λ x. values_by limits d inner (sees m.CloseParen x)) from seen z (from + 1) (first (drop from ts)) (values_by limits d inner true) refl (ap (values_by limits d inner) (is_there ts m.CloseParen from end s))
        (λ seen1. tells_then ts (expect m.CloseParen) _ from seen1 (from + 1) (from + 1) end z (reads_expect ⊥ ts m.CloseParen end from seen1 s) (λ seen2. tells_reads (pure z) ts (from + 1) seen2 z (from + 1) (reads_pure ⊥ ts z (from + 1) seen2)))
    tells_values {args = args} {from = from} (ex.values {mid = mid} {at = at} {end = end} {x = x} v r s) d seen =
        let inner = leveled limits d in
        let z : Values × Place = ((args, greatest (map expr_height args)), end) in
        let q = ends_here ts at (k.Mark m.CloseParen) end s refl in
        tells_next ts (λ x. values_by limits d inner (sees m.CloseParen x)) from seen z (at + 1) (first (drop from ts)) (values_by limits d inner false) refl
        (ap (values_by limits d inner) (begins_not m.CloseParen (first (drop from ts)) (expr_begins v) refl))
        (λ seen1. tells_bind ts (value limits d inner 0) _ from seen1 mid (at + 1) (x, expr_height x) z
        (tells_value (expr_breaks ts limits v d) d inner x from mid (expr_begins v) (λ seen2. tells_expr ts limits free long v (more_ends r q) d seen2) 0 seen1)
        (λ seen2. tells_last ts (turns (sees m.Comma) (value_more limits d inner) limits.turns (x ∷ [], expr_height x)) _ mid seen2 at (at + 1) (args, greatest (map expr_height args)) z
        (subst (λ h. Tells {A = Values} (more_values_breaks ts limits r d) (turns (sees m.Comma) (value_more limits d inner) limits.turns (x ∷ [], h)) ts mid seen2 (args, greatest (map expr_height args)) at) (tallest_one x)
        (tells_more r q (not_there ts m.Comma at (k.Mark m.CloseParen) end s refl) d limits.turns seen2 (omega (arith, long))))
        (λ seen3. reads_bind ⊥ ts (expect m.CloseParen) _ at seen3 (at + 1) (at + 1) end z (reads_expect ⊥ ts m.CloseParen end at seen3 s) (λ seen4. reads_pure ⊥ ts z (at + 1) seen4))))

    -- ---- what stands behind a primary

    tells_chain : {x y : ExprTree} {from to : ℕ} → (s : ChainAt ts x y from to) → goes_in (first (drop to ts)) ≡ false → (d count seen : ℕ) → length ts ≤ from + count →
        Tells (chain_breaks ts limits s (suc d)) (turns (chains limits d (leveled limits d)) (chain limits d (leveled limits d)) count (x, expr_height x)) ts from seen (y, expr_height y) to
    unfolding chain member_name index call
    tells_chain {x = x} {from = from} ex.whole q d count seen t = tells_turns_end ts (chains limits d (leveled limits d)) (chain limits d (leveled limits d)) count (x, expr_height x) from seen q
    tells_chain {from = from} (ex.member {p = p} s r b) q d zero seen t = absurd (let u = stands_within ts from (k.Mark m.Dot) p s in omega (arith, t, u))
    tells_chain {from = from} (ex.index {p = p} s v r b) q d zero seen t = absurd (let u = stands_within ts from (k.Mark m.OpenBracket) p s in omega (arith, t, u))
    tells_chain {from = from} (ex.call {p = p} s v b) q d zero seen t = absurd (let u = stands_within ts from (k.Mark m.OpenParen) p s in omega (arith, t, u))
    tells_chain {x = x} {y = y} {from = from} {to = to} (ex.member {mid = mid} {p = p} {end = end} {id = id} {args = args} s r b) q d (suc count) seen t =
        let inner = leveled limits d in
        let place = span x.place end in
        let z = valued place (n.Member x id args) in
        let tok = marked m.Dot p s.bytes in
        let tok2 : Lexed = record { kind = k.Name; place = id.place; bytes = id.name } in
        tells_turns_more ts (chains limits d inner) (chain limits d inner) count (x, expr_height x) (z, expr_height z) (y, expr_height y) from seen mid to (seen_in m.Dot from p s refl)
        (λ seen1. tells_next ts (chain_at limits d inner (x, expr_height x)) from seen1 (z, expr_height z) mid (Some tok) (over limits d inner (x, expr_height x) (Some tok) (Take (next (member_at limits d inner (x, expr_height x))))) s.is refl
        (tells_take ts from (z, expr_height z) mid tok (fits_in limits (expr_height x) (suc d)) (nat_lt (expr_height x) (suc d)) code.TooNested (next (member_at limits d inner (x, expr_height x))) s.is (fits_is limits free (expr_height x) (suc d))
        (λ seen2. tells_next ts (member_at limits d inner (x, expr_height x)) (from + 1) seen2 (z, expr_height z) mid (Some tok2) (if_short limits tok2 (Take (member_name limits d inner (x, expr_height x) (identifier tok2)))) (there r).is refl
        (tells_take ts (from + 1) (z, expr_height z) mid tok2 (is_short limits tok2) (nat_le (length id.name) limits.names) code.TooLong (member_name limits d inner (x, expr_height x) (identifier tok2)) (there r).is (short_is limits free tok2)
        (λ seen3. tells_last ts (given limits d id.place) _ (from + 1 + 1) seen3 mid mid (args, greatest (map argument_height args), end) (z, expr_height z) (tells_given ts limits long free r d seen3)
        (λ seen4. reads_tall z (max (expr_height x) (greatest (map argument_height args)) + 1) mid seen4 (height_member place x id args)))))))
        (λ seen1. tells_chain b q d count seen1 (let u = name_moves ts r in omega (arith, t, u)))
    tells_chain {x = x} {y = y} {from = from} {to = to} (ex.index {at = at} {p = p} {end = end} {i = i} s v r b) q d (suc count) seen t =
        let inner = leveled limits d in
        let place = span x.place end in
        let z = valued place (n.Index x i) in
        let tok = marked m.OpenBracket p s.bytes in
        tells_turns_more ts (chains limits d inner) (chain limits d inner) count (x, expr_height x) (z, expr_height z) (y, expr_height y) from seen (at + 1) to (seen_in m.OpenBracket from p s refl)
        (λ seen1. tells_next ts (chain_at limits d inner (x, expr_height x)) from seen1 (z, expr_height z) (at + 1) (Some tok) (over limits d inner (x, expr_height x) (Some tok) (Take (index limits d inner (x, expr_height x)))) s.is refl
        (tells_take ts from (z, expr_height z) (at + 1) tok (fits_in limits (expr_height x) (suc d)) (nat_lt (expr_height x) (suc d)) code.TooNested (index limits d inner (x, expr_height x)) s.is (fits_is limits free (expr_height x) (suc d))
        (λ seen2. tells_last ts (whole limits d inner) _ (from + 1) seen2 at (at + 1) (i, expr_height i) (z, expr_height z) (tells_expr ts limits free long v (ends_here ts at (k.Mark m.CloseBracket) end r refl) d seen2)
        (λ seen3. reads_bind ⊥ ts (expect m.CloseBracket) _ at seen3 (at + 1) (at + 1) end (z, expr_height z) (reads_expect ⊥ ts m.CloseBracket end at seen3 r)
        (λ seen4. reads_tall z (max (expr_height x) (expr_height i) + 1) (at + 1) seen4 (height_index place x i))))))
        (λ seen1. tells_chain b q d count seen1 (let u = expr_moves ts v in omega (arith, t, u)))
    tells_chain {x = x} {y = y} {from = from} {to = to} (ex.call {mid = mid} {p = p} {end = end} {args = args} s v b) q d (suc count) seen t =
        let inner = leveled limits d in
        let place = span x.place end in
        let z = valued place (n.Call x args) in
        let tok = marked m.OpenParen p s.bytes in
        tells_turns_more ts (chains limits d inner) (chain limits d inner) count (x, expr_height x) (z, expr_height z) (y, expr_height y) from seen mid to (seen_in m.OpenParen from p s refl)
        (λ seen1. tells_next ts (chain_at limits d inner (x, expr_height x)) from seen1 (z, expr_height z) mid (Some tok) (over limits d inner (x, expr_height x) (Some tok) (Take (call limits d inner (x, expr_height x)))) s.is refl
        (tells_take ts from (z, expr_height z) mid tok (fits_in limits (expr_height x) (suc d)) (nat_lt (expr_height x) (suc d)) code.TooNested (call limits d inner (x, expr_height x)) s.is (fits_is limits free (expr_height x) (suc d))
        (λ seen2. tells_last ts (values limits d inner) _ (from + 1) seen2 mid mid ((args, greatest (map expr_height args)), end) (z, expr_height z) (tells_values v d seen2)
        (λ seen3. reads_tall z (max (expr_height x) (greatest (map expr_height args)) + 1) mid seen3 (height_call place x args)))))
        (λ seen1. tells_chain b q d count seen1 (let u = values_move ts v in omega (arith, t, u)))

    -- ---- primaries

    tells_leaf : (d : ℕ) (node : ExprNode) (kind : Kind) (p : Place) (at : ℕ) (s : Stands ts at kind p) → primary_at limits d (leveled limits d) (Some (record { kind = kind; place = p; bytes = s.bytes })) ≡ Take (pure (valued p node, 1)) →
        expr_height (valued p node) ≡ 1 → (seen : ℕ) → Tells [] (next (primary_at limits d (leveled limits d))) ts at seen (valued p node, expr_height (valued p node)) (at + 1)
    tells_leaf d node kind p at s f h seen = tells_next ts (primary_at limits d (leveled limits d)) at seen (valued p node, expr_height (valued p node)) (at + 1) (Some (record { kind = kind; place = p; bytes = s.bytes })) (Take (pure (valued p node, 1))) s.is f
        (λ seen1. tells_reads (pure (valued p node, 1)) ts (at + 1) seen1 (valued p node, expr_height (valued p node)) (at + 1) (reads_tall (valued p node) 1 (at + 1) seen1 h))

    tells_primary : {x : ExprTree} {from to : ℕ} → (s : PrimaryAt ts x from to) → (d seen : ℕ) → Tells (primary_breaks ts limits s (suc d)) (next (primary_at limits d (leveled limits d))) ts from seen (x, expr_height x) to
    unfolding named construct paren
    tells_primary (ex.number {at = at} {p = p} {v = v} s) d seen = tells_leaf d (n.Number v) (k.Number v) p at s refl (height_value p v) seen
    tells_primary (ex.true_word {at = at} {p = p} s) d seen = tells_leaf d n.True (k.Word w.True) p at s refl (height_true p) seen
    tells_primary (ex.false_word {at = at} {p = p} s) d seen = tells_leaf d n.False (k.Word w.False) p at s refl (height_false p) seen
    tells_primary (ex.this_value {at = at} {p = p} s) d seen = tells_leaf d n.ThisValue (k.Word w.ThisValue) p at s refl (height_this_value p) seen
    tells_primary (ex.this_type {at = at} {p = p} s) d seen = tells_leaf d n.ThisType (k.Word w.ThisType) p at s refl (height_this_type p) seen
    tells_primary {x = x} {from = from} {to = to} (ex.name {end = end} {id = id} {args = args} r) d seen =
        let inner = leveled limits d in
        let tok : Lexed = record { kind = k.Name; place = id.place; bytes = id.name } in
        let rest = named limits d inner (identifier tok) in
        tells_next ts (primary_at limits d inner) from seen (x, expr_height x) to (Some tok) (if_short limits tok (Take rest)) (there r).is refl
        (tells_take ts from (x, expr_height x) to tok (is_short limits tok) (nat_le (length id.name) limits.names) code.TooLong rest (there r).is (short_is limits free tok)
        (λ seen1. tells_last ts (given limits d id.place) _ (from + 1) seen1 to to (args, greatest (map argument_height args), end) (x, expr_height x) (tells_given ts limits long free r d seen1)
        (λ seen2. reads_tall x (greatest (map argument_height args) + 1) to seen2 (height_name (span id.place end) id args))))
    tells_primary {x = x} {from = from} {to = to} (ex.construct {p = p} {q = q} {end = end} {word = word} {b = b} {args = args} s f o v) d seen =
        let inner = leveled limits d in
        let tok : Lexed = record { kind = k.Word word; place = p; bytes = s.bytes } in
        tells_next ts (primary_at limits d inner) from seen (x, expr_height x) to (Some tok) (Take (construct limits d inner p b)) s.is (ap (primary_word limits d inner tok word) f)
        (λ seen1. tells_then ts (expect m.OpenParen) _ (from + 1) seen1 (from + 1 + 1) to q (x, expr_height x) (reads_expect ⊥ ts m.OpenParen q (from + 1) seen1 o)
        (λ seen2. tells_last ts (values limits d inner) _ (from + 1 + 1) seen2 to to ((args, greatest (map expr_height args)), end) (x, expr_height x) (tells_values v d seen2)
        (λ seen3. reads_tall x (greatest (map expr_height args) + 1) to seen3 (height_construct (span p end) b args))))
    tells_primary {x = z} {from = from} {to = to} (ex.paren {at = at} {p = p} {end = end} {x = x} s v r) d seen =
        let inner = leveled limits d in
        let tok = marked m.OpenParen p s.bytes in
        tells_next ts (primary_at limits d inner) from seen (z, expr_height z) to (Some tok) (Take (paren limits d inner p)) s.is refl
        (λ seen1. tells_last ts (whole limits d inner) _ (from + 1) seen1 at (at + 1) (x, expr_height x) (z, expr_height z) (tells_expr ts limits free long v (ends_here ts at (k.Mark m.CloseParen) end r refl) d seen1)
        (λ seen2. reads_bind ⊥ ts (expect m.CloseParen) _ at seen2 (at + 1) (at + 1) end (z, expr_height z) (reads_expect ⊥ ts m.CloseParen end at seen2 r)
        (λ seen3. reads_tall z (expr_height x + 1) (at + 1) seen3 (height_paren (span p end) x))))

    -- ---- operands

    pub tells_operands : {x : ExprTree} {from to : ℕ} → (s : PostfixAt ts x from to) → goes_in (first (drop to ts)) ≡ false → (d seen : ℕ) → Tells (postfix_breaks ts limits s d) (operands limits d) ts from seen (x, expr_height x) to
    unfolding operands postfix chain_rest
    tells_operands {x = y} {from = from} {to = to} (ex.postfix {mid = mid} {x = x} p c) q zero seen =
        let here = first (drop from ts) in
        tells_first (broken ts code.TooNested from) (postfix_breaks ts limits (ex.postfix p c) zero) (operands limits zero) ts from seen (y, expr_height y) to
        (first_front (primary_breaks ts limits p zero) (chain_breaks ts limits c zero) (broken ts code.TooNested from) (primary_zero p))
        (tells_broken ts (next operand_past) _ from seen mid to (x, expr_height x) (y, expr_height y)
        (tells_next ts operand_past from seen (x, expr_height x) mid here (Pass code.TooNested (place_of here)) refl
        (ap (λ b. if b then Pass code.TooNested (place_of here) else Refuse) (postfix_operand (ex.postfix p c))) (refl, refl)))
    tells_operands {x = y} {from = from} {to = to} (ex.postfix {mid = mid} {x = x} p c) q (suc d) seen =
        tells_bind ts (next (primary_at limits d (leveled limits d))) (chain_rest limits d (leveled limits d)) from seen mid to (x, expr_height x) (y, expr_height y)
        (tells_primary p d seen) (λ seen1. tells_chain c q d limits.turns seen1 (omega (arith, long)))
