-- Operands of changes: what is spelled within the limits is read.
use Rattle.std.proofs.Common.{Bool, true, false, ◌≡◌, ℕ, zero, suc, ◌+◌, max, List, [], ◌∷◌, ◌++◌, map, drop, length, Some, refl, ◌∙◌, ap, subst, arith, if◌then◌else◌, ◌<◌, ◌≤◌, length-append, inl}
use Rattle.std.specs.Prelude.{nat_lt}
use Rattle.slang_names.specs.declared.places.Place.{Place}
use Rattle.slang_names.specs.declared.codes.ModuleCode.TheVariants as code
use Rattle.slang_tree.specs.declared.types.Identifier.{Identifier}
use Rattle.slang_tree.specs.declared.types.GenericArgument.{GenericArgument}
use Rattle.slang_tree.specs.declared.expressions.ExprTree.{ExprTree}
use Rattle.slang_tree.specs.declared.expressions.ExprNode.{ExprNode}
use Rattle.slang_tree.specs.declared.expressions.ExprNode.TheVariants as n
use Rattle.slang_tokens.specs.declared.tokens.Kind.{Kind}
use Rattle.slang_tokens.specs.declared.tokens.Kind.TheVariants as k
use Rattle.slang_tokens.specs.declared.tokens.Mark.{Mark}
use Rattle.slang_tokens.specs.declared.tokens.Mark.TheVariants as m
use Rattle.slang_tokens.specs.declared.tokens.Word.TheVariants as w
use Rattle.slang_reading.specs.Lexed.{Lexed}
use Rattle.slang_reading.specs.Reading.{Choice, Leave, Take, Refuse, first, if_fits, pure, next, turns}
use Rattle.slang_reading.specs.Kinds.{sees, span}
use Rattle.slang_reading.proofs.Exact.{Reads, ReadsChoice, reads_pure, reads_bind, reads_next, reads_fits, reads_turns_end, reads_turns_more, reads_turns_full, reads_foresee_yes, reads_foresee_no}
use Rattle.slang_grammar.specs.Standing.{Stands, NameStands, IsNot}
use Rattle.slang_grammar.specs.Types.{ArgumentsAt}
use Rattle.slang_grammar.specs.Heights.{greatest, argument_height}
use Rattle.slang_grammar.specs.Expressions as ex
use Rattle.slang_grammar.specs.Expressions.{valued, follows, NameAt, loosest, ExprAt, PostfixAt, ChainAt, ValuesAt, MoreValuesAt, PrimaryAt}
use Rattle.slang_grammar.specs.Descent.{Limits, fits_in, expect, identifier, is_short, if_short}
use Rattle.slang_grammar.specs.TypesDescent.{Arguments, arguments, types}
use Rattle.slang_grammar.specs.ExpressionsDescent.{Value, Values, freed, arguments_ahead, Given, given_by, given_at, given, whole, over, value_of, value, value_more, values_by, values, construct, primary_word, named, paren, member_name, member_at, index, call, chain_at, chain, chains, chain_rest, primary_at, postfix, leveled}
use Rattle.slang_grammar.proofs.Shared.{reads_expect, not_there, is_there}
use Rattle.slang_grammar.proofs.TypesSpelled.{post_arguments, post_types}
use Rattle.slang_grammar.proofs.TypesRead.{reads_arguments, less_there}
use Rattle.expression_grammar.specs.Heights.{expr_height}
use Rattle.expression_grammar.specs.Ends.{goes_on}
use Rattle.expression_grammar.proofs.Heights.{height_value, height_true, height_false, height_this_value, height_this_type, height_name, height_construct, height_paren, height_member, height_index, height_call, greatest_longer}
use Rattle.expression_grammar.proofs.Quiet.{expr_begins, begins_not, goes_in, ends_here, more_ends}
use Rattle.expression_grammar.proofs.Spelled.{post_arguments_ahead, reads_arguments_ahead}
use Rattle.expression_grammar.specs.Sizes.{Fits, ListFits}
use Rattle.expression_grammar.proofs.Sizes.{positive}
use Rattle.expression_grammar.proofs.Fitting.{name_arguments, construct_values, paren_value, member_arguments, index_inside, call_values, name_short, member_short, last_fits, last_in, chain_fits, more_fits}
use Rattle.expression_grammar.proofs.Read.{reads_excused, ArgumentsRead, exact_arguments, reads_expr}
use Rattle.slang_grammar.specs.Sizes.{ArgumentsFit}
use Rattle.slang_grammar.proofs.Limited.{in_limit, short_limit, room_limit}
use Rattle.statement_grammar.specs.StatementsDescent.{operands}
use Rattle.statement_fits.proofs.Moves.{Enough, fewer, turns_of}

module _ (ts : List Lexed) (limits : Limits) where
  whole_read : {x : ExprTree} {from to : ℕ} → ExprAt ts x from to → goes_on (first (drop to ts)) ≡ false → (d seen : ℕ) → Enough ts limits d → Fits limits d x →
      Reads ⊥ (leveled limits d (suc loosest)) ts from seen (x, expr_height x) to
  whole_read v q d seen u w = reads_expr ⊥ ts limits (exact_arguments ts limits u.tokens) v q d seen (inl (w, turns_of u))

  -- the answer with an equal height
  reads_tall : (x : ExprTree) (h at seen : ℕ) → expr_height x ≡ h → Reads {A = Value} ⊥ (pure (x, h)) ts at seen (x, expr_height x) at
  reads_tall x h at seen q = subst (λ i. Reads {A = Value} ⊥ (pure (x, i)) ts at seen (x, expr_height x) at) q (reads_pure ⊥ ts (x, expr_height x) at seen)

  abbrev marked : Mark → Place → List ℕ → Lexed
  marked mark p bytes = record { kind = k.Mark mark; place = p; bytes = bytes }

  -- ---- a name and what stands behind it

  reads_given : (d : ℕ) (id : Identifier) (args : List GenericArgument) (end : Place) (from to : ℕ) → NameAt ts id args end from to → (seen : ℕ) → Enough ts limits d → ArgumentsFit limits d args →
      Reads {A = Given} ⊥ (given limits d id.place) ts (from + 1) seen (args, greatest (map argument_height args), end) to
  unfolding given
  reads_given d id args end from to (ex.alone s none) seen u w = by (sees m.Less (first (drop (from + 1) ts))) refl
    where
      exact : ArgumentsRead ⊥ ts limits
      exact = exact_arguments ts limits u.tokens

      by : (b : Bool) → sees m.Less (first (drop (from + 1) ts)) ≡ b → Reads {A = Given} ⊥ (next (λ x. given_at limits d id.place (sees m.Less x))) ts (from + 1) seen ([], 0, id.place) (from + 1)
      by true q = reads_next ⊥ ts (λ x. given_at limits d id.place (sees m.Less x)) (from + 1) seen ([], 0, id.place) (from + 1) (first (drop (from + 1) ts)) (given_at limits d id.place true) refl (ap (given_at limits d id.place) q)
          (λ seen1. reads_foresee_no ts (arguments_ahead limits) (given_by limits d id.place) (from + 1) seen1 ⊥
          (λ (r : Arguments × Place) (end : ℕ). ArgumentsAt ts r.0.0 r.1 (from + 1) end × (follows (first (drop end ts)) ≡ true)) ([], 0, id.place) (from + 1)
          (post_arguments_ahead ts limits (λ (r : Arguments × Place) (end : ℕ). ArgumentsAt ts r.0.0 r.1 (from + 1) end) (from + 1) seen1
          (post_arguments ts (freed limits) true limits.turns (types (freed limits) limits.turns) (λ at seen2. post_types ts (freed limits) limits.turns at seen2) (from + 1) seen1))
          (λ b mid p. none.none b.0.0 b.1 mid p.0 p.1) (exact.ahead (from + 1) seen1)
          (λ seen2. reads_pure ⊥ ts ([], 0, id.place) (from + 1) seen2))
      by false q = reads_next ⊥ ts (λ x. given_at limits d id.place (sees m.Less x)) (from + 1) seen ([], 0, id.place) (from + 1) (first (drop (from + 1) ts)) (given_at limits d id.place false) refl (ap (given_at limits d id.place) q)
          (λ seen1. reads_pure ⊥ ts ([], 0, id.place) (from + 1) seen1)
  reads_given d id args end from to (ex.generic s r f) seen u w =
      let exact = exact_arguments ts limits u.tokens in
      let z : Given = (args, greatest (map argument_height args), end) in
      let all : Arguments × Place = ((args, greatest (map argument_height args)), end) in
      reads_next ⊥ ts (λ x. given_at limits d id.place (sees m.Less x)) (from + 1) seen z to (first (drop (from + 1) ts)) (given_at limits d id.place true) refl
      (ap (given_at limits d id.place) (less_there r))
      (λ seen1. reads_foresee_yes ts (arguments_ahead limits) (given_by limits d id.place) (from + 1) seen1 ⊥ all z to to
      (reads_excused ⊥ (arguments_ahead limits) ts (from + 1) seen1 all to
      (reads_arguments_ahead ts limits (Unit {0}) all (from + 1) to seen1 (reads_arguments (Unit {0}) tt (freed limits) r true limits.turns seen1) f) (exact.ahead (from + 1) seen1))
      (λ seen2. reads_bind ⊥ ts (arguments limits true d (types limits d)) _ (from + 1) seen2 to to all z (exact.reads args end (from + 1) to r d seen2 (inl (w, turns_of u))) (λ seen3. reads_pure ⊥ ts z to seen3)))

  -- ---- values between parentheses

  -- a value behind those
  reads_value : (d : ℕ) {x : ExprTree} {from to : ℕ} → ExprAt ts x from to → goes_on (first (drop to ts)) ≡ false → (count seen : ℕ) → Enough ts limits d → Fits limits d x → count < limits.items → Reads ⊥ (value limits d (leveled limits d) count) ts from seen (x, expr_height x) to
  unfolding value
  reads_value d {x = x} {from = from} {to = to} v q count seen u w lt =
      let inner = leveled limits d in
      let here = first (drop from ts) in
      let c = if_fits (nat_lt 0 d) code.TooNested here (Leave (whole limits d inner)) in
      reads_next ⊥ ts (λ t. if_fits (fits_in limits count limits.items) code.TooLong t (value_of limits d inner t)) from seen (x, expr_height x) to here (if_fits (fits_in limits count limits.items) code.TooLong here c) refl
      (ap (λ b. if_fits (fits_in limits count limits.items) code.TooLong here (if b then c else Refuse)) (expr_begins v))
      (reads_fits ⊥ ts from (x, expr_height x) to here (fits_in limits count limits.items) code.TooLong c (in_limit limits count limits.items lt)
      (reads_fits ⊥ ts from (x, expr_height x) to here (nat_lt 0 d) code.TooNested (Leave (whole limits d inner)) (room_limit d (let h = w.nodes in let p = positive x in omega (arith, h, p))) (λ s1. whole_read v q d s1 u w)))

  reads_more : {xs ys : List ExprTree} {from to : ℕ} → MoreValuesAt ts xs ys from to → goes_on (first (drop to ts)) ≡ false → IsNot ts m.Comma to → (d count seen : ℕ) → Enough ts limits d → ListFits limits d ys → limits.items ≤ length xs + count →
      Reads ⊥ (turns (sees m.Comma) (value_more limits d (leveled limits d)) count (xs, greatest (map expr_height xs))) ts from seen (ys, greatest (map expr_height ys)) to
  unfolding value_more
  reads_more {xs = xs} {from = from} ex.end q n d count seen u w left = reads_turns_end ⊥ ts (sees m.Comma) (value_more limits d (leveled limits d)) count (xs, greatest (map expr_height xs)) from seen n.is
  reads_more {xs = xs} {ys = ys} {from = from} {to = to} (ex.more {p = p} {x = x} s v r) q n d zero seen u w left =
      reads_turns_full ⊥ ts (sees m.Comma) (value_more limits d (leveled limits d)) (xs, greatest (map expr_height xs)) (ys, greatest (map expr_height ys)) from seen to (is_there ts m.Comma from p s) (let h = last_in limits d xs x (more_fits r limits d w) in omega (arith, h, left))
  reads_more {xs = xs} {ys = ys} {from = from} {to = to} (ex.more {mid = mid} {p = p} {x = x} s v r) q n d (suc count) seen u w left =
      let inner = leveled limits d in
      let here = more_fits r limits d w in
      let zs = xs ++ x ∷ [] in
      reads_turns_more ⊥ ts (sees m.Comma) (value_more limits d inner) count (xs, greatest (map expr_height xs)) (zs, greatest (map expr_height zs)) (ys, greatest (map expr_height ys)) from seen mid to (is_there ts m.Comma from p s)
      (λ seen1. reads_bind ⊥ ts (expect m.Comma) _ from seen1 (from + 1) mid p (zs, greatest (map expr_height zs)) (reads_expect ⊥ ts m.Comma p from seen1 s)
      (λ seen2. reads_bind ⊥ ts (value limits d inner (length xs)) _ (from + 1) seen2 mid mid (x, expr_height x) (zs, greatest (map expr_height zs))
      (reads_value d v (more_ends r q) (length xs) seen2 u (last_fits limits d xs x here) (last_in limits d xs x here))
      (λ seen3. subst (λ h. Reads {A = Values} ⊥ (pure (zs, h)) ts mid seen3 (zs, greatest (map expr_height zs)) mid) (greatest_longer xs x) (reads_pure ⊥ ts (zs, greatest (map expr_height zs)) mid seen3))))
      (λ seen1. reads_more r q n d count seen1 u w (omega (arith, left, length-append xs (x ∷ []))))

  tallest_one : (x : ExprTree) → greatest (map expr_height (x ∷ [])) ≡ expr_height x
  tallest_one x = omega arith

  reads_values : {args : List ExprTree} {end : Place} {from to : ℕ} → ValuesAt ts args end from to → (d seen : ℕ) → Enough ts limits d → ListFits limits d args →
      Reads ⊥ (values limits d (leveled limits d)) ts from seen ((args, greatest (map expr_height args)), end) to
  unfolding values
  reads_values {from = from} (ex.no_values {end = end} s) d seen u w =
      let inner = leveled limits d in
      let z : Values × Place = (([], 0), end) in
      reads_next ⊥ ts (λ x. values_by limits d inner (sees m.CloseParen x)) from seen z (from + 1) (first (drop from ts)) (values_by limits d inner true) refl (ap (values_by limits d inner) (is_there ts m.CloseParen from end s))
      (λ seen1. reads_bind ⊥ ts (expect m.CloseParen) _ from seen1 (from + 1) (from + 1) end z (reads_expect ⊥ ts m.CloseParen end from seen1 s) (λ seen2. reads_pure ⊥ ts z (from + 1) seen2))
  reads_values {args = args} {from = from} (ex.values {mid = mid} {at = at} {end = end} {x = x} v r s) d seen u w =
      let inner = leveled limits d in
      let one = more_fits r limits d w in
      let z : Values × Place = ((args, greatest (map expr_height args)), end) in
      let q = ends_here ts at (k.Mark m.CloseParen) end s refl in
      reads_next ⊥ ts (λ x. values_by limits d inner (sees m.CloseParen x)) from seen z (at + 1) (first (drop from ts)) (values_by limits d inner false) refl
      (ap (values_by limits d inner) (begins_not m.CloseParen (first (drop from ts)) (expr_begins v) refl))
      (λ seen1. reads_bind ⊥ ts (value limits d inner 0) _ from seen1 mid (at + 1) (x, expr_height x) z (reads_value d v (more_ends r q) 0 seen1 u (last_fits limits d [] x one) (last_in limits d [] x one))
      (λ seen2. reads_bind ⊥ ts (turns (sees m.Comma) (value_more limits d inner) limits.turns (x ∷ [], expr_height x)) _ mid seen2 at (at + 1) (args, greatest (map expr_height args)) z
      (subst (λ h. Reads {A = Values} ⊥ (turns (sees m.Comma) (value_more limits d inner) limits.turns (x ∷ [], h)) ts mid seen2 (args, greatest (map expr_height args)) at) (tallest_one x)
      (reads_more r q (not_there ts m.Comma at (k.Mark m.CloseParen) end s refl) d limits.turns seen2 u w (let h = u.items in omega (arith, h))))
      (λ seen3. reads_bind ⊥ ts (expect m.CloseParen) _ at seen3 (at + 1) (at + 1) end z (reads_expect ⊥ ts m.CloseParen end at seen3 s) (λ seen4. reads_pure ⊥ ts z (at + 1) seen4))))

  -- ---- primaries

  name_there : {id : Identifier} {args : List GenericArgument} {end : Place} {from to : ℕ} → NameAt ts id args end from to → NameStands ts from id
  name_there (ex.alone s a) = s
  name_there (ex.generic s a f) = s

  reads_leaf : (d : ℕ) (node : ExprNode) (kind : Kind) (p : Place) (at : ℕ) (s : Stands ts at kind p) → primary_at limits d (leveled limits d) (Some (record { kind = kind; place = p; bytes = s.bytes })) ≡ Take (pure (valued p node, 1)) →
      expr_height (valued p node) ≡ 1 → (seen : ℕ) → Reads ⊥ (next (primary_at limits d (leveled limits d))) ts at seen (valued p node, expr_height (valued p node)) (at + 1)
  reads_leaf d node kind p at s f h seen = reads_next ⊥ ts (primary_at limits d (leveled limits d)) at seen (valued p node, expr_height (valued p node)) (at + 1) (Some (record { kind = kind; place = p; bytes = s.bytes })) (Take (pure (valued p node, 1))) s.is f
      (λ seen1. reads_tall (valued p node) 1 (at + 1) seen1 h)

  reads_primary : {x : ExprTree} {from to : ℕ} → PrimaryAt ts x from to → (d seen : ℕ) → Enough ts limits d → Fits limits (suc d) x → Reads ⊥ (next (primary_at limits d (leveled limits d))) ts from seen (x, expr_height x) to
  unfolding named construct paren
  reads_primary (ex.number {at = at} {p = p} {v = v} s) d seen u fits = reads_leaf d (n.Number v) (k.Number v) p at s refl (height_value p v) seen
  reads_primary (ex.true_word {at = at} {p = p} s) d seen u fits = reads_leaf d n.True (k.Word w.True) p at s refl (height_true p) seen
  reads_primary (ex.false_word {at = at} {p = p} s) d seen u fits = reads_leaf d n.False (k.Word w.False) p at s refl (height_false p) seen
  reads_primary (ex.this_value {at = at} {p = p} s) d seen u fits = reads_leaf d n.ThisValue (k.Word w.ThisValue) p at s refl (height_this_value p) seen
  reads_primary (ex.this_type {at = at} {p = p} s) d seen u fits = reads_leaf d n.ThisType (k.Word w.ThisType) p at s refl (height_this_type p) seen
  reads_primary {x = x} {from = from} {to = to} (ex.name {end = end} {id = id} {args = args} r) d seen u fits =
      let inner = leveled limits d in
      let tok : Lexed = record { kind = k.Name; place = id.place; bytes = id.name } in
      let body = named limits d inner (identifier tok) in
      reads_next ⊥ ts (primary_at limits d inner) from seen (x, expr_height x) to (Some tok) (if_short limits tok (Take body)) (name_there r).is refl
      (reads_fits ⊥ ts from (x, expr_height x) to (Some tok) (is_short limits tok) code.TooLong (Take body) (short_limit limits tok (name_short limits d (span id.place end) id args fits))
      (λ s1. reads_bind ⊥ ts (given limits d id.place) _ (from + 1) s1 to to (args, greatest (map argument_height args), end) (x, expr_height x) (reads_given d id args end from to r s1 u (name_arguments limits d (span id.place end) id args fits))
      (λ s2. reads_tall x (greatest (map argument_height args) + 1) to s2 (height_name (span id.place end) id args))))
  reads_primary {x = x} {from = from} {to = to} (ex.construct {p = p} {q = q} {end = end} {word = word} {b = b} {args = args} s f o v) d seen u fits =
      let inner = leveled limits d in
      let tok : Lexed = record { kind = k.Word word; place = p; bytes = s.bytes } in
      reads_next ⊥ ts (primary_at limits d inner) from seen (x, expr_height x) to (Some tok) (Take (construct limits d inner p b)) s.is (ap (primary_word limits d inner tok word) f)
      (λ s1. reads_bind ⊥ ts (expect m.OpenParen) _ (from + 1) s1 (from + 1 + 1) to q (x, expr_height x) (reads_expect ⊥ ts m.OpenParen q (from + 1) s1 o)
      (λ s2. reads_bind ⊥ ts (values limits d inner) _ (from + 1 + 1) s2 to to ((args, greatest (map expr_height args)), end) (x, expr_height x) (reads_values v d s2 u (construct_values limits d (span p end) b args fits))
      (λ s3. reads_tall x (greatest (map expr_height args) + 1) to s3 (height_construct (span p end) b args))))
  reads_primary {x = z} {from = from} {to = to} (ex.paren {at = at} {p = p} {end = end} {x = x} s v r) d seen u fits =
      let inner = leveled limits d in
      let tok = marked m.OpenParen p s.bytes in
      reads_next ⊥ ts (primary_at limits d inner) from seen (z, expr_height z) to (Some tok) (Take (paren limits d inner p)) s.is refl
      (λ s1. reads_bind ⊥ ts (whole limits d inner) _ (from + 1) s1 at (at + 1) (x, expr_height x) (z, expr_height z) (whole_read v (ends_here ts at (k.Mark m.CloseParen) end r refl) d s1 u (paren_value limits d (span p end) x fits))
      (λ s2. reads_bind ⊥ ts (expect m.CloseParen) _ at s2 (at + 1) (at + 1) end (z, expr_height z) (reads_expect ⊥ ts m.CloseParen end at s2 r)
      (λ s3. reads_tall z (expr_height x + 1) (at + 1) s3 (height_paren (span p end) x))))

  -- ---- what stands behind a primary

  seen_in : (mark : Mark) (at : ℕ) (p : Place) → Stands ts at (k.Mark mark) p → goes_in (Some (marked mark p [])) ≡ true → goes_in (first (drop at ts)) ≡ true
  seen_in mark at p s q = ap goes_in s.is ∙ q

  -- a node over what is read so far
  reads_over : (d at : ℕ) (a : Value) (to : ℕ) (x : Value) (t : Lexed) (c : Choice Value) → x.1 < suc d → ReadsChoice ⊥ ts at a to (Some t) c → ReadsChoice ⊥ ts at a to (Some t) (over limits d (leveled limits d) x (Some t) c)
  reads_over d at a to x t c lt r = reads_fits ⊥ ts at a to (Some t) (fits_in limits x.1 (suc d)) code.TooNested c (in_limit limits x.1 (suc d) lt) r

  reads_member : (x : ExprTree) {id : Identifier} {args : List GenericArgument} {p end : Place} {from to : ℕ} → Stands ts from (k.Mark m.Dot) p → NameAt ts id args end (from + 1) to → (d seen : ℕ) → Enough ts limits d → Fits limits (suc d) (valued (span x.place end) (n.Member x id args)) →
      Reads ⊥ (chain limits d (leveled limits d) (x, expr_height x)) ts from seen (valued (span x.place end) (n.Member x id args), expr_height (valued (span x.place end) (n.Member x id args))) to
  unfolding chain member_name
  reads_member x {id = id} {args = args} {p = p} {end = end} {from = from} {to = to} s r d seen u w =
      let inner = leveled limits d in
      let z = valued (span x.place end) (n.Member x id args) in
      let tok = marked m.Dot p s.bytes in
      let tok2 : Lexed = record { kind = k.Name; place = id.place; bytes = id.name } in
      let body = member_name limits d inner (x, expr_height x) (identifier tok2) in
      reads_next ⊥ ts (chain_at limits d inner (x, expr_height x)) from seen (z, expr_height z) to (Some tok) (over limits d inner (x, expr_height x) (Some tok) (Take (next (member_at limits d inner (x, expr_height x))))) s.is refl
      (reads_over d from (z, expr_height z) to (x, expr_height x) tok (Take (next (member_at limits d inner (x, expr_height x)))) (let h = w.nodes in omega (arith, h, height_member (span x.place end) x id args))
      (λ s1. reads_next ⊥ ts (member_at limits d inner (x, expr_height x)) (from + 1) s1 (z, expr_height z) to (Some tok2) (if_short limits tok2 (Take body)) (name_there r).is refl
      (reads_fits ⊥ ts (from + 1) (z, expr_height z) to (Some tok2) (is_short limits tok2) code.TooLong (Take body) (short_limit limits tok2 (member_short limits d (span x.place end) x id args w))
      (λ s2. reads_bind ⊥ ts (given limits d id.place) _ (from + 1 + 1) s2 to to (args, greatest (map argument_height args), end) (z, expr_height z) (reads_given d id args end (from + 1) to r s2 u (member_arguments limits d (span x.place end) x id args w))
      (λ s3. reads_tall z (max (expr_height x) (greatest (map argument_height args)) + 1) to s3 (height_member (span x.place end) x id args))))))

  reads_index : (x : ExprTree) {i : ExprTree} {p end : Place} {from at : ℕ} → Stands ts from (k.Mark m.OpenBracket) p → ExprAt ts i (from + 1) at → Stands ts at (k.Mark m.CloseBracket) end → (d seen : ℕ) → Enough ts limits d → Fits limits (suc d) (valued (span x.place end) (n.Index x i)) →
      Reads ⊥ (chain limits d (leveled limits d) (x, expr_height x)) ts from seen (valued (span x.place end) (n.Index x i), expr_height (valued (span x.place end) (n.Index x i))) (at + 1)
  unfolding chain index
  reads_index x {i = i} {p = p} {end = end} {from = from} {at = at} s v r d seen u w =
      let inner = leveled limits d in
      let z = valued (span x.place end) (n.Index x i) in
      let tok = marked m.OpenBracket p s.bytes in
      reads_next ⊥ ts (chain_at limits d inner (x, expr_height x)) from seen (z, expr_height z) (at + 1) (Some tok) (over limits d inner (x, expr_height x) (Some tok) (Take (index limits d inner (x, expr_height x)))) s.is refl
      (reads_over d from (z, expr_height z) (at + 1) (x, expr_height x) tok (Take (index limits d inner (x, expr_height x))) (let h = w.nodes in omega (arith, h, height_index (span x.place end) x i))
      (λ s1. reads_bind ⊥ ts (whole limits d inner) _ (from + 1) s1 at (at + 1) (i, expr_height i) (z, expr_height z) (whole_read v (ends_here ts at (k.Mark m.CloseBracket) end r refl) d s1 u (index_inside limits d (span x.place end) x i w))
      (λ s2. reads_bind ⊥ ts (expect m.CloseBracket) _ at s2 (at + 1) (at + 1) end (z, expr_height z) (reads_expect ⊥ ts m.CloseBracket end at s2 r)
      (λ s3. reads_tall z (max (expr_height x) (expr_height i) + 1) (at + 1) s3 (height_index (span x.place end) x i)))))

  reads_call : (x : ExprTree) {args : List ExprTree} {p end : Place} {from to : ℕ} → Stands ts from (k.Mark m.OpenParen) p → ValuesAt ts args end (from + 1) to → (d seen : ℕ) → Enough ts limits d → Fits limits (suc d) (valued (span x.place end) (n.Call x args)) →
      Reads ⊥ (chain limits d (leveled limits d) (x, expr_height x)) ts from seen (valued (span x.place end) (n.Call x args), expr_height (valued (span x.place end) (n.Call x args))) to
  unfolding chain call
  reads_call x {args = args} {p = p} {end = end} {from = from} {to = to} s v d seen u w =
      let inner = leveled limits d in
      let z = valued (span x.place end) (n.Call x args) in
      let tok = marked m.OpenParen p s.bytes in
      reads_next ⊥ ts (chain_at limits d inner (x, expr_height x)) from seen (z, expr_height z) to (Some tok) (over limits d inner (x, expr_height x) (Some tok) (Take (call limits d inner (x, expr_height x)))) s.is refl
      (reads_over d from (z, expr_height z) to (x, expr_height x) tok (Take (call limits d inner (x, expr_height x))) (let h = w.nodes in omega (arith, h, height_call (span x.place end) x args))
      (λ s1. reads_bind ⊥ ts (values limits d inner) _ (from + 1) s1 to to ((args, greatest (map expr_height args)), end) (z, expr_height z) (reads_values v d s1 u (call_values limits d (span x.place end) x args w))
      (λ s2. reads_tall z (max (expr_height x) (greatest (map expr_height args)) + 1) to s2 (height_call (span x.place end) x args))))

  reads_chain : {x y : ExprTree} {from to : ℕ} → ChainAt ts x y from to → goes_in (first (drop to ts)) ≡ false → (d count seen : ℕ) → Enough ts limits (suc d) → Fits limits (suc d) y → suc d ≤ expr_height x + count →
      Reads ⊥ (turns (chains limits d (leveled limits d)) (chain limits d (leveled limits d)) count (x, expr_height x)) ts from seen (y, expr_height y) to
  reads_chain {x = x} {from = from} ex.whole q d count seen u w left = reads_turns_end ⊥ ts (chains limits d (leveled limits d)) (chain limits d (leveled limits d)) count (x, expr_height x) from seen q
  reads_chain {x = x} {y = y} {from = from} {to = to} (ex.member {p = p} {end = end} {id = id} {args = args} s r b) q d zero seen u w left =
      reads_turns_full ⊥ ts (chains limits d (leveled limits d)) (chain limits d (leveled limits d)) (x, expr_height x) (y, expr_height y) from seen to (seen_in m.Dot from p s refl) (let h = (chain_fits b limits d w).nodes in omega (arith, h, left, height_member (span x.place end) x id args))
  reads_chain {x = x} {y = y} {from = from} {to = to} (ex.index {p = p} {end = end} {i = i} s v r b) q d zero seen u w left =
      reads_turns_full ⊥ ts (chains limits d (leveled limits d)) (chain limits d (leveled limits d)) (x, expr_height x) (y, expr_height y) from seen to (seen_in m.OpenBracket from p s refl) (let h = (chain_fits b limits d w).nodes in omega (arith, h, left, height_index (span x.place end) x i))
  reads_chain {x = x} {y = y} {from = from} {to = to} (ex.call {p = p} {end = end} {args = args} s v b) q d zero seen u w left =
      reads_turns_full ⊥ ts (chains limits d (leveled limits d)) (chain limits d (leveled limits d)) (x, expr_height x) (y, expr_height y) from seen to (seen_in m.OpenParen from p s refl) (let h = (chain_fits b limits d w).nodes in omega (arith, h, left, height_call (span x.place end) x args))
  reads_chain {x = x} {y = y} {from = from} {to = to} (ex.member {mid = mid} {p = p} {end = end} {id = id} {args = args} s r b) q d (suc count) seen u w left =
      let z = valued (span x.place end) (n.Member x id args) in
      reads_turns_more ⊥ ts (chains limits d (leveled limits d)) (chain limits d (leveled limits d)) count (x, expr_height x) (z, expr_height z) (y, expr_height y) from seen mid to (seen_in m.Dot from p s refl)
      (λ s1. reads_member x s r d s1 (fewer u) (chain_fits b limits d w)) (λ s1. reads_chain b q d count s1 u w (omega (arith, left, height_member (span x.place end) x id args)))
  reads_chain {x = x} {y = y} {from = from} {to = to} (ex.index {at = at} {p = p} {end = end} {i = i} s v r b) q d (suc count) seen u w left =
      let z = valued (span x.place end) (n.Index x i) in
      reads_turns_more ⊥ ts (chains limits d (leveled limits d)) (chain limits d (leveled limits d)) count (x, expr_height x) (z, expr_height z) (y, expr_height y) from seen (at + 1) to (seen_in m.OpenBracket from p s refl)
      (λ s1. reads_index x s v r d s1 (fewer u) (chain_fits b limits d w)) (λ s1. reads_chain b q d count s1 u w (omega (arith, left, height_index (span x.place end) x i)))
  reads_chain {x = x} {y = y} {from = from} {to = to} (ex.call {mid = mid} {p = p} {end = end} {args = args} s v b) q d (suc count) seen u w left =
      let z = valued (span x.place end) (n.Call x args) in
      reads_turns_more ⊥ ts (chains limits d (leveled limits d)) (chain limits d (leveled limits d)) count (x, expr_height x) (z, expr_height z) (y, expr_height y) from seen mid to (seen_in m.OpenParen from p s refl)
      (λ s1. reads_call x s v d s1 (fewer u) (chain_fits b limits d w)) (λ s1. reads_chain b q d count s1 u w (omega (arith, left, height_call (span x.place end) x args)))

  -- ---- operands

  pub reads_operands : {x : ExprTree} {from to : ℕ} → PostfixAt ts x from to → goes_in (first (drop to ts)) ≡ false → (d seen : ℕ) → Enough ts limits d → Fits limits d x →
      Reads ⊥ (operands limits d) ts from seen (x, expr_height x) to
  unfolding operands postfix chain_rest
  reads_operands {x = x} r q zero seen u w = absurd (let h = w.nodes in let p = positive x in omega (arith, h, p))
  reads_operands {x = y} {from = from} {to = to} (ex.postfix {mid = mid} {x = x} p c) q (suc d) seen u w =
      reads_bind ⊥ ts (next (primary_at limits d (leveled limits d))) (chain_rest limits d (leveled limits d)) from seen mid to (x, expr_height x) (y, expr_height y)
      (reads_primary p d seen (fewer u) (chain_fits c limits d w)) (λ s1. reads_chain c q d limits.turns s1 u w (let h = u.depth in omega (arith, h)))
