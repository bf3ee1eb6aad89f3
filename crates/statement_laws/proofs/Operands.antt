-- Operands of changes: what is spelled is read, but where a limit is passed.
use Rattle.std.proofs.Common.{Bool, true, false, ◌≡◌, ℕ, zero, suc, ◌+◌, max, List, [], ◌∷◌, ◌++◌, map, drop, length, Some, refl, ◌∙◌, ap, subst, arith, if◌then◌else◌, inr}
use Rattle.std.specs.Prelude.{nat_lt}
use Rattle.slang_names.specs.declared.places.Place.{Place}
use Rattle.slang_names.specs.declared.codes.ModuleCode.TheVariants as code
use Rattle.slang_tree.specs.declared.types.Identifier.{Identifier}
use Rattle.slang_tree.specs.declared.types.GenericArgument.{GenericArgument}
use Rattle.slang_tree.specs.declared.expressions.ExprTree.{ExprTree}
use Rattle.slang_tree.specs.declared.expressions.ExprNode.{ExprNode}
use Rattle.slang_tree.specs.declared.expressions.ExprNode.TheVariants as n
use Rattle.slang_tokens.specs.declared.tokens.Kind.{Kind}
use Rattle.slang_tokens.specs.declared.tokens.Kind.TheVariants as k
use Rattle.slang_tokens.specs.declared.tokens.Mark.{Mark}
use Rattle.slang_tokens.specs.declared.tokens.Mark.TheVariants as m
use Rattle.slang_tokens.specs.declared.tokens.Word.TheVariants as w
use Rattle.slang_reading.specs.Lexed.{Lexed}
use Rattle.slang_reading.specs.Reading.{Outcome, Done, Stop, Past, Parser, Choice, Leave, Take, Refuse, Pass, first, if_fits, and_then, bind, ◌>>=◌, pure, place_of, next, turns}
use Rattle.slang_reading.specs.Kinds.{sees, span}
use Rattle.slang_reading.proofs.Exact.{Meets, Reads, ReadsChoice, reads_pure, reads_bind, reads_next, reads_fits, reads_turns_end, reads_turns_more, reads_turns_full, reads_foresee_yes, reads_foresee_no}
use Rattle.slang_grammar.specs.Standing.{Stands, NameStands, IsNot}
use Rattle.slang_grammar.specs.Types.{ArgumentsAt}
use Rattle.slang_grammar.specs.Heights.{greatest, argument_height}
use Rattle.slang_grammar.specs.Expressions as ex
use Rattle.slang_grammar.specs.Expressions.{valued, follows, NameAt, loosest, ExprAt, PostfixAt, ChainAt, ValuesAt, MoreValuesAt, PrimaryAt}
use Rattle.slang_grammar.specs.Descent.{Limits, fits_in, expect, identifier, is_short, if_short}
use Rattle.slang_grammar.specs.TypesDescent.{Arguments, arguments, types}
use Rattle.slang_grammar.specs.ExpressionsDescent.{Value, Values, freed, arguments_ahead, Given, given_by, given_at, given, whole, over, value_of, value, value_more, values_by, values, construct, primary_word, named, paren, member_name, member_at, index, call, chain_at, chain, chains, chain_rest, primary_at, postfix, leveled}
use Rattle.slang_grammar.proofs.Shared.{reads_expect, not_there, is_there}
use Rattle.slang_grammar.proofs.TypesSpelled.{post_arguments, post_types}
use Rattle.slang_grammar.proofs.TypesRead.{reads_arguments, less_there}
use Rattle.expression_grammar.specs.Heights.{expr_height}
use Rattle.expression_grammar.specs.Ends.{goes_on}
use Rattle.expression_grammar.proofs.Heights.{height_value, height_true, height_false, height_this_value, height_this_type, height_name, height_construct, height_paren, height_member, height_index, height_call, greatest_longer}
use Rattle.expression_grammar.proofs.Quiet.{expr_begins, begins_not, goes_in, ends_here, more_ends}
use Rattle.expression_grammar.proofs.Spelled.{post_arguments_ahead, reads_arguments_ahead}
use Rattle.expression_grammar.proofs.Read.{ArgumentsRead, reads_expr}
use Rattle.statement_grammar.specs.StatementsDescent.{operand_past, no_values, operands}
use Rattle.statement_grammar.proofs.Begins.{postfix_operand}

-- what may be anything is past a limit, and nothing follows it
pub reads_past : {A B : Type 0} (E : Type 0) (p : Parser A) (g : A → Parser B) (ts : List Lexed) (at seen : ℕ) (b : B) (to : ℕ) (a : A) → ((end : ℕ) → Reads E p ts at seen a end) → Reads E (p >>= g) ts at seen b to
unfolding bind
reads_past {A = A} {B = B} E p g ts at seen b to a r = record { is = go (p ts at seen) (λ end. (r end).is) }
  where
    go : (o : Outcome A) → ((end : ℕ) → Meets E a end o) → Meets E b to (and_then o (λ a at1 seen1. g a ts at1 seen1))
    go (Done c at1 seen1) m = let u = (m 0).1 in let v = (m 1).1 in absurd (omega arith)
    go (Stop seen1) m = absurd (m to)
    go (Past code place seen1) m = m to

-- E holds, and any limit may be passed
module _ (E : Type 0) (e : E) (ts : List Lexed) (limits : Limits) where
  any : ArgumentsRead E ts limits
  any = record {
    reads = λ args end from to r d seen a. reads_arguments E e limits r true d seen;
    ahead = λ from seen p. e;
  }

  pub reads_whole : {x : ExprTree} {from to : ℕ} → ExprAt ts x from to → goes_on (first (drop to ts)) ≡ false → (d seen : ℕ) → Reads E (leveled limits d (suc loosest)) ts from seen (x, expr_height x) to
  reads_whole v q d seen = reads_expr E ts limits any v q d seen (inr e)

  -- the answer with an equal height
  reads_tall : (x : ExprTree) (h at seen : ℕ) → expr_height x ≡ h → Reads {A = Value} E (pure (x, h)) ts at seen (x, expr_height x) at
  reads_tall x h at seen q = subst (λ i. Reads {A = Value} E (pure (x, i)) ts at seen (x, expr_height x) at) q (reads_pure E ts (x, expr_height x) at seen)

  abbrev marked : Mark → Place → List ℕ → Lexed
  marked mark p bytes = record { kind = k.Mark mark; place = p; bytes = bytes }

  -- ---- a name and what stands behind it

  reads_given : (d : ℕ) (id : Identifier) (args : List GenericArgument) (end : Place) (from to : ℕ) → NameAt ts id args end from to → (seen : ℕ) →
      Reads {A = Given} E (given limits d id.place) ts (from + 1) seen (args, greatest (map argument_height args), end) to
  unfolding given
  reads_given d id args end from to (ex.alone s none) seen = by (sees m.Less (first (drop (from + 1) ts))) refl
    where
      by : (b : Bool) → sees m.Less (first (drop (from + 1) ts)) ≡ b → Reads {A = Given} E (next (λ x. given_at limits d id.place (sees m.Less x))) ts (from + 1) seen ([], 0, id.place) (from + 1)
      by true q = reads_next E ts (λ x. given_at limits d id.place (sees m.Less x)) (from + 1) seen ([], 0, id.place) (from + 1) (first (drop (from + 1) ts)) (given_at limits d id.place true) refl (ap (given_at limits d id.place) q)
          (λ seen1. reads_foresee_no ts (arguments_ahead limits) (given_by limits d id.place) (from + 1) seen1 E
          (λ (r : Arguments × Place) (end : ℕ). ArgumentsAt ts r.0.0 r.1 (from + 1) end × (follows (first (drop end ts)) ≡ true)) ([], 0, id.place) (from + 1)
          (post_arguments_ahead ts limits (λ (r : Arguments × Place) (end : ℕ). ArgumentsAt ts r.0.0 r.1 (from + 1) end) (from + 1) seen1
          (post_arguments ts (freed limits) true limits.turns (types (freed limits) limits.turns) (λ at seen2. post_types ts (freed limits) limits.turns at seen2) (from + 1) seen1))
          (λ b mid p. none.none b.0.0 b.1 mid p.0 p.1) (λ p. e)
          (λ seen2. reads_pure E ts ([], 0, id.place) (from + 1) seen2))
      by false q = reads_next E ts (λ x. given_at limits d id.place (sees m.Less x)) (from + 1) seen ([], 0, id.place) (from + 1) (first (drop (from + 1) ts)) (given_at limits d id.place false) refl (ap (given_at limits d id.place) q)
          (λ seen1. reads_pure E ts ([], 0, id.place) (from + 1) seen1)
  reads_given d id args end from to (ex.generic s r f) seen =
      let z : Given = (args, greatest (map argument_height args), end) in
      let all : Arguments × Place = ((args, greatest (map argument_height args)), end) in
      reads_next E ts (λ x. given_at limits d id.place (sees m.Less x)) (from + 1) seen z to (first (drop (from + 1) ts)) (given_at limits d id.place true) refl
      (ap (given_at limits d id.place) (less_there r))
      (λ seen1. reads_foresee_yes ts (arguments_ahead limits) (given_by limits d id.place) (from + 1) seen1 E all z to to
      (reads_arguments_ahead ts limits E all (from + 1) to seen1 (reads_arguments E e (freed limits) r true limits.turns seen1) f)
      (λ seen2. reads_bind E ts (arguments limits true d (types limits d)) _ (from + 1) seen2 to to all z (reads_arguments E e limits r true d seen2) (λ seen3. reads_pure E ts z to seen3)))

  -- ---- values between parentheses

  -- a value behind those
  reads_value : (d : ℕ) {x : ExprTree} {from to : ℕ} → ExprAt ts x from to → goes_on (first (drop to ts)) ≡ false → (count seen : ℕ) → Reads E (value limits d (leveled limits d) count) ts from seen (x, expr_height x) to
  unfolding value
  reads_value d {x = x} {from = from} {to = to} v q count seen =
      let inner = leveled limits d in
      let here = first (drop from ts) in
      let c = if_fits (nat_lt 0 d) code.TooNested here (Leave (whole limits d inner)) in
      reads_next E ts (λ t. if_fits (fits_in limits count limits.items) code.TooLong t (value_of limits d inner t)) from seen (x, expr_height x) to here (if_fits (fits_in limits count limits.items) code.TooLong here c) refl
      (ap (λ b. if_fits (fits_in limits count limits.items) code.TooLong here (if b then c else Refuse)) (expr_begins v))
      (reads_fits E ts from (x, expr_height x) to here (fits_in limits count limits.items) code.TooLong c (λ f. e)
      (reads_fits E ts from (x, expr_height x) to here (nat_lt 0 d) code.TooNested (Leave (whole limits d inner)) (λ f. e) (λ s1. reads_whole v q d s1)))

  reads_more : {xs ys : List ExprTree} {from to : ℕ} → MoreValuesAt ts xs ys from to → goes_on (first (drop to ts)) ≡ false → IsNot ts m.Comma to → (d count seen : ℕ) →
      Reads E (turns (sees m.Comma) (value_more limits d (leveled limits d)) count (xs, greatest (map expr_height xs))) ts from seen (ys, greatest (map expr_height ys)) to
  unfolding value_more
  reads_more {xs = xs} {from = from} ex.end q u d count seen = reads_turns_end E ts (sees m.Comma) (value_more limits d (leveled limits d)) count (xs, greatest (map expr_height xs)) from seen u.is
  reads_more {xs = xs} {ys = ys} {from = from} {to = to} (ex.more {p = p} {x = x} s v r) q u d zero seen =
      reads_turns_full E ts (sees m.Comma) (value_more limits d (leveled limits d)) (xs, greatest (map expr_height xs)) (ys, greatest (map expr_height ys)) from seen to (is_there ts m.Comma from p s) e
  reads_more {xs = xs} {ys = ys} {from = from} {to = to} (ex.more {mid = mid} {p = p} {x = x} s v r) q u d (suc count) seen =
      let inner = leveled limits d in
      let zs = xs ++ x ∷ [] in
      reads_turns_more E ts (sees m.Comma) (value_more limits d inner) count (xs, greatest (map expr_height xs)) (zs, greatest (map expr_height zs)) (ys, greatest (map expr_height ys)) from seen mid to (is_there ts m.Comma from p s)
      (λ seen1. reads_bind E ts (expect m.Comma) _ from seen1 (from + 1) mid p (zs, greatest (map expr_height zs)) (reads_expect E ts m.Comma p from seen1 s)
      (λ seen2. reads_bind E ts (value limits d inner (length xs)) _ (from + 1) seen2 mid mid (x, expr_height x) (zs, greatest (map expr_height zs))
      (reads_value d v (more_ends r q) (length xs) seen2)
      (λ seen3. subst (λ h. Reads {A = Values} E (pure (zs, h)) ts mid seen3 (zs, greatest (map expr_height zs)) mid) (greatest_longer xs x) (reads_pure E ts (zs, greatest (map expr_height zs)) mid seen3))))
      (λ seen1. reads_more r q u d count seen1)

  tallest_one : (x : ExprTree) → greatest (map expr_height (x ∷ [])) ≡ expr_height x
  tallest_one x = omega arith

  reads_values : {args : List ExprTree} {end : Place} {from to : ℕ} → ValuesAt ts args end from to → (d seen : ℕ) →
      Reads E (values limits d (leveled limits d)) ts from seen ((args, greatest (map expr_height args)), end) to
  unfolding values
  reads_values {from = from} (ex.no_values {end = end} s) d seen =
      let inner = leveled limits d in
      let z : Values × Place = (([], 0), end) in
      reads_next E ts (λ x. values_by limits d inner (sees m.CloseParen x)) from seen z (from + 1) (first (drop from ts)) (values_by limits d inner true) refl (ap (values_by limits d inner) (is_there ts m.CloseParen from end s))
      (λ seen1. reads_bind E ts (expect m.CloseParen) _ from seen1 (from + 1) (from + 1) end z (reads_expect E ts m.CloseParen end from seen1 s) (λ seen2. reads_pure E ts z (from + 1) seen2))
  reads_values {args = args} {from = from} (ex.values {mid = mid} {at = at} {end = end} {x = x} v r s) d seen =
      let inner = leveled limits d in
      let z : Values × Place = ((args, greatest (map expr_height args)), end) in
      let q = ends_here ts at (k.Mark m.CloseParen) end s refl in
      reads_next E ts (λ x. values_by limits d inner (sees m.CloseParen x)) from seen z (at + 1) (first (drop from ts)) (values_by limits d inner false) refl
      (ap (values_by limits d inner) (begins_not m.CloseParen (first (drop from ts)) (expr_begins v) refl))
      (λ seen1. reads_bind E ts (value limits d inner 0) _ from seen1 mid (at + 1) (x, expr_height x) z (reads_value d v (more_ends r q) 0 seen1)
      (λ seen2. reads_bind E ts (turns (sees m.Comma) (value_more limits d inner) limits.turns (x ∷ [], expr_height x)) _ mid seen2 at (at + 1) (args, greatest (map expr_height args)) z
      (subst (λ h. Reads {A = Values} E (turns (sees m.Comma) (value_more limits d inner) limits.turns (x ∷ [], h)) ts mid seen2 (args, greatest (map expr_height args)) at) (tallest_one x)
      (reads_more r q (not_there ts m.Comma at (k.Mark m.CloseParen) end s refl) d limits.turns seen2))
      (λ seen3. reads_bind E ts (expect m.CloseParen) _ at seen3 (at + 1) (at + 1) end z (reads_expect E ts m.CloseParen end at seen3 s) (λ seen4. reads_pure E ts z (at + 1) seen4))))

  -- ---- primaries

  name_there : {id : Identifier} {args : List GenericArgument} {end : Place} {from to : ℕ} → NameAt ts id args end from to → NameStands ts from id
  name_there (ex.alone s a) = s
  name_there (ex.generic s a f) = s

  reads_leaf : (d : ℕ) (node : ExprNode) (kind : Kind) (p : Place) (at : ℕ) (s : Stands ts at kind p) → primary_at limits d (leveled limits d) (Some (record { kind = kind; place = p; bytes = s.bytes })) ≡ Take (pure (valued p node, 1)) →
      expr_height (valued p node) ≡ 1 → (seen : ℕ) → Reads E (next (primary_at limits d (leveled limits d))) ts at seen (valued p node, expr_height (valued p node)) (at + 1)
  reads_leaf d node kind p at s f h seen = reads_next E ts (primary_at limits d (leveled limits d)) at seen (valued p node, expr_height (valued p node)) (at + 1) (Some (record { kind = kind; place = p; bytes = s.bytes })) (Take (pure (valued p node, 1))) s.is f
      (λ seen1. reads_tall (valued p node) 1 (at + 1) seen1 h)

  reads_primary : {x : ExprTree} {from to : ℕ} → PrimaryAt ts x from to → (d seen : ℕ) → Reads E (next (primary_at limits d (leveled limits d))) ts from seen (x, expr_height x) to
  unfolding named construct paren
  reads_primary (ex.number {at = at} {p = p} {v = v} s) d seen = reads_leaf d (n.Number v) (k.Number v) p at s refl (height_value p v) seen
  reads_primary (ex.true_word {at = at} {p = p} s) d seen = reads_leaf d n.True (k.Word w.True) p at s refl (height_true p) seen
  reads_primary (ex.false_word {at = at} {p = p} s) d seen = reads_leaf d n.False (k.Word w.False) p at s refl (height_false p) seen
  reads_primary (ex.this_value {at = at} {p = p} s) d seen = reads_leaf d n.ThisValue (k.Word w.ThisValue) p at s refl (height_this_value p) seen
  reads_primary (ex.this_type {at = at} {p = p} s) d seen = reads_leaf d n.ThisType (k.Word w.ThisType) p at s refl (height_this_type p) seen
  reads_primary {x = x} {from = from} {to = to} (ex.name {end = end} {id = id} {args = args} r) d seen =
      let inner = leveled limits d in
      let tok : Lexed = record { kind = k.Name; place = id.place; bytes = id.name } in
      let body = named limits d inner (identifier tok) in
      reads_next E ts (primary_at limits d inner) from seen (x, expr_height x) to (Some tok) (if_short limits tok (Take body)) (name_there r).is refl
      (reads_fits E ts from (x, expr_height x) to (Some tok) (is_short limits tok) code.TooLong (Take body) (λ f. e)
      (λ s1. reads_bind E ts (given limits d id.place) _ (from + 1) s1 to to (args, greatest (map argument_height args), end) (x, expr_height x) (reads_given d id args end from to r s1)
      (λ s2. reads_tall x (greatest (map argument_height args) + 1) to s2 (height_name (span id.place end) id args))))
  reads_primary {x = x} {from = from} {to = to} (ex.construct {p = p} {q = q} {end = end} {word = word} {b = b} {args = args} s f o v) d seen =
      let inner = leveled limits d in
      let tok : Lexed = record { kind = k.Word word; place = p; bytes = s.bytes } in
      reads_next E ts (primary_at limits d inner) from seen (x, expr_height x) to (Some tok) (Take (construct limits d inner p b)) s.is (ap (primary_word limits d inner tok word) f)
      (λ s1. reads_bind E ts (expect m.OpenParen) _ (from + 1) s1 (from + 1 + 1) to q (x, expr_height x) (reads_expect E ts m.OpenParen q (from + 1) s1 o)
      (λ s2. reads_bind E ts (values limits d inner) _ (from + 1 + 1) s2 to to ((args, greatest (map expr_height args)), end) (x, expr_height x) (reads_values v d s2)
      (λ s3. reads_tall x (greatest (map expr_height args) + 1) to s3 (height_construct (span p end) b args))))
  reads_primary {x = z} {from = from} {to = to} (ex.paren {at = at} {p = p} {end = end} {x = x} s v r) d seen =
      let inner = leveled limits d in
      let tok = marked m.OpenParen p s.bytes in
      reads_next E ts (primary_at limits d inner) from seen (z, expr_height z) to (Some tok) (Take (paren limits d inner p)) s.is refl
      (λ s1. reads_bind E ts (whole limits d inner) _ (from + 1) s1 at (at + 1) (x, expr_height x) (z, expr_height z) (reads_whole v (ends_here ts at (k.Mark m.CloseParen) end r refl) d s1)
      (λ s2. reads_bind E ts (expect m.CloseParen) _ at s2 (at + 1) (at + 1) end (z, expr_height z) (reads_expect E ts m.CloseParen end at s2 r)
      (λ s3. reads_tall z (expr_height x + 1) (at + 1) s3 (height_paren (span p end) x))))

  -- ---- what stands behind a primary

  seen_in : (mark : Mark) (at : ℕ) (p : Place) → Stands ts at (k.Mark mark) p → goes_in (Some (marked mark p [])) ≡ true → goes_in (first (drop at ts)) ≡ true
  seen_in mark at p s q = ap goes_in s.is ∙ q

  -- a node over what is read so far
  reads_over : (d at : ℕ) (a : Value) (to : ℕ) (x : Value) (t : Lexed) (c : Choice Value) → ReadsChoice E ts at a to (Some t) c → ReadsChoice E ts at a to (Some t) (over limits d (leveled limits d) x (Some t) c)
  reads_over d at a to x t c r = reads_fits E ts at a to (Some t) (fits_in limits x.1 (suc d)) code.TooNested c (λ f. e) r

  reads_member : (x : ExprTree) {id : Identifier} {args : List GenericArgument} {p end : Place} {from to : ℕ} → Stands ts from (k.Mark m.Dot) p → NameAt ts id args end (from + 1) to → (d seen : ℕ) →
      Reads E (chain limits d (leveled limits d) (x, expr_height x)) ts from seen (valued (span x.place end) (n.Member x id args), expr_height (valued (span x.place end) (n.Member x id args))) to
  unfolding chain member_name
  reads_member x {id = id} {args = args} {p = p} {end = end} {from = from} {to = to} s r d seen =
      let inner = leveled limits d in
      let z = valued (span x.place end) (n.Member x id args) in
      let tok = marked m.Dot p s.bytes in
      let tok2 : Lexed = record { kind = k.Name; place = id.place; bytes = id.name } in
      let body = member_name limits d inner (x, expr_height x) (identifier tok2) in
      reads_next E ts (chain_at limits d inner (x, expr_height x)) from seen (z, expr_height z) to (Some tok) (over limits d inner (x, expr_height x) (Some tok) (Take (next (member_at limits d inner (x, expr_height x))))) s.is refl
      (reads_over d from (z, expr_height z) to (x, expr_height x) tok (Take (next (member_at limits d inner (x, expr_height x))))
      (λ s1. reads_next E ts (member_at limits d inner (x, expr_height x)) (from + 1) s1 (z, expr_height z) to (Some tok2) (if_short limits tok2 (Take body)) (name_there r).is refl
      (reads_fits E ts (from + 1) (z, expr_height z) to (Some tok2) (is_short limits tok2) code.TooLong (Take body) (λ f. e)
      (λ s2. reads_bind E ts (given limits d id.place) _ (from + 1 + 1) s2 to to (args, greatest (map argument_height args), end) (z, expr_height z) (reads_given d id args end (from + 1) to r s2)
      (λ s3. reads_tall z (max (expr_height x) (greatest (map argument_height args)) + 1) to s3 (height_member (span x.place end) x id args))))))

  reads_index : (x : ExprTree) {i : ExprTree} {p end : Place} {from at : ℕ} → Stands ts from (k.Mark m.OpenBracket) p → ExprAt ts i (from + 1) at → Stands ts at (k.Mark m.CloseBracket) end → (d seen : ℕ) →
      Reads E (chain limits d (leveled limits d) (x, expr_height x)) ts from seen (valued (span x.place end) (n.Index x i), expr_height (valued (span x.place end) (n.Index x i))) (at + 1)
  unfolding chain index
  reads_index x {i = i} {p = p} {end = end} {from = from} {at = at} s v r d seen =
      let inner = leveled limits d in
      let z = valued (span x.place end) (n.Index x i) in
      let tok = marked m.OpenBracket p s.bytes in
      reads_next E ts (chain_at limits d inner (x, expr_height x)) from seen (z, expr_height z) (at + 1) (Some tok) (over limits d inner (x, expr_height x) (Some tok) (Take (index limits d inner (x, expr_height x)))) s.is refl
      (reads_over d from (z, expr_height z) (at + 1) (x, expr_height x) tok (Take (index limits d inner (x, expr_height x)))
      (λ s1. reads_bind E ts (whole limits d inner) _ (from + 1) s1 at (at + 1) (i, expr_height i) (z, expr_height z) (reads_whole v (ends_here ts at (k.Mark m.CloseBracket) end r refl) d s1)
      (λ s2. reads_bind E ts (expect m.CloseBracket) _ at s2 (at + 1) (at + 1) end (z, expr_height z) (reads_expect E ts m.CloseBracket end at s2 r)
      (λ s3. reads_tall z (max (expr_height x) (expr_height i) + 1) (at + 1) s3 (height_index (span x.place end) x i)))))

  reads_call : (x : ExprTree) {args : List ExprTree} {p end : Place} {from to : ℕ} → Stands ts from (k.Mark m.OpenParen) p → ValuesAt ts args end (from + 1) to → (d seen : ℕ) →
      Reads E (chain limits d (leveled limits d) (x, expr_height x)) ts from seen (valued (span x.place end) (n.Call x args), expr_height (valued (span x.place end) (n.Call x args))) to
  unfolding chain call
  reads_call x {args = args} {p = p} {end = end} {from = from} {to = to} s v d seen =
      let inner = leveled limits d in
      let z = valued (span x.place end) (n.Call x args) in
      let tok = marked m.OpenParen p s.bytes in
      reads_next E ts (chain_at limits d inner (x, expr_height x)) from seen (z, expr_height z) to (Some tok) (over limits d inner (x, expr_height x) (Some tok) (Take (call limits d inner (x, expr_height x)))) s.is refl
      (reads_over d from (z, expr_height z) to (x, expr_height x) tok (Take (call limits d inner (x, expr_height x)))
      (λ s1. reads_bind E ts (values limits d inner) _ (from + 1) s1 to to ((args, greatest (map expr_height args)), end) (z, expr_height z) (reads_values v d s1)
      (λ s2. reads_tall z (max (expr_height x) (greatest (map expr_height args)) + 1) to s2 (height_call (span x.place end) x args))))

  reads_chain : {x y : ExprTree} {from to : ℕ} → ChainAt ts x y from to → goes_in (first (drop to ts)) ≡ false → (d count seen : ℕ) →
      Reads E (turns (chains limits d (leveled limits d)) (chain limits d (leveled limits d)) count (x, expr_height x)) ts from seen (y, expr_height y) to
  reads_chain {x = x} {from = from} ex.whole q d count seen = reads_turns_end E ts (chains limits d (leveled limits d)) (chain limits d (leveled limits d)) count (x, expr_height x) from seen q
  reads_chain {x = x} {y = y} {from = from} {to = to} (ex.member {p = p} s r b) q d zero seen =
      reads_turns_full E ts (chains limits d (leveled limits d)) (chain limits d (leveled limits d)) (x, expr_height x) (y, expr_height y) from seen to (seen_in m.Dot from p s refl) e
  reads_chain {x = x} {y = y} {from = from} {to = to} (ex.index {p = p} s v r b) q d zero seen =
      reads_turns_full E ts (chains limits d (leveled limits d)) (chain limits d (leveled limits d)) (x, expr_height x) (y, expr_height y) from seen to (seen_in m.OpenBracket from p s refl) e
  reads_chain {x = x} {y = y} {from = from} {to = to} (ex.call {p = p} s v b) q d zero seen =
      reads_turns_full E ts (chains limits d (leveled limits d)) (chain limits d (leveled limits d)) (x, expr_height x) (y, expr_height y) from seen to (seen_in m.OpenParen from p s refl) e
  reads_chain {x = x} {y = y} {from = from} {to = to} (ex.member {mid = mid} {p = p} {end = end} {id = id} {args = args} s r b) q d (suc count) seen =
      let z = valued (span x.place end) (n.Member x id args) in
      reads_turns_more E ts (chains limits d (leveled limits d)) (chain limits d (leveled limits d)) count (x, expr_height x) (z, expr_height z) (y, expr_height y) from seen mid to (seen_in m.Dot from p s refl)
      (λ s1. reads_member x s r d s1) (λ s1. reads_chain b q d count s1)
  reads_chain {x = x} {y = y} {from = from} {to = to} (ex.index {at = at} {p = p} {end = end} {i = i} s v r b) q d (suc count) seen =
      let z = valued (span x.place end) (n.Index x i) in
      reads_turns_more E ts (chains limits d (leveled limits d)) (chain limits d (leveled limits d)) count (x, expr_height x) (z, expr_height z) (y, expr_height y) from seen (at + 1) to (seen_in m.OpenBracket from p s refl)
      (λ s1. reads_index x s v r d s1) (λ s1. reads_chain b q d count s1)
  reads_chain {x = x} {y = y} {from = from} {to = to} (ex.call {mid = mid} {p = p} {end = end} {args = args} s v b) q d (suc count) seen =
      let z = valued (span x.place end) (n.Call x args) in
      reads_turns_more E ts (chains limits d (leveled limits d)) (chain limits d (leveled limits d)) count (x, expr_height x) (z, expr_height z) (y, expr_height y) from seen mid to (seen_in m.OpenParen from p s refl)
      (λ s1. reads_call x s v d s1) (λ s1. reads_chain b q d count s1)

  -- ---- operands

  pub reads_operands : {x : ExprTree} {from to : ℕ} → PostfixAt ts x from to → goes_in (first (drop to ts)) ≡ false → (d seen : ℕ) → Reads E (operands limits d) ts from seen (x, expr_height x) to
  unfolding operands postfix chain_rest
  reads_operands {x = x} {from = from} {to = to} r q zero seen =
      let here = first (drop from ts) in
      reads_past E (next operand_past) (chain_rest limits zero no_values) ts from seen (x, expr_height x) to (x, expr_height x)
      (λ end. reads_next E ts operand_past from seen (x, expr_height x) end here (Pass code.TooNested (place_of here)) refl
      (ap (λ b. if b then Pass code.TooNested (place_of here) else Refuse) (postfix_operand r)) e)
  reads_operands {x = y} {from = from} {to = to} (ex.postfix {mid = mid} {x = x} p c) q (suc d) seen =
      reads_bind E ts (next (primary_at limits d (leveled limits d))) (chain_rest limits d (leveled limits d)) from seen mid to (x, expr_height x) (y, expr_height y)
      (reads_primary p d seen) (λ s1. reads_chain c q d limits.turns s1)
