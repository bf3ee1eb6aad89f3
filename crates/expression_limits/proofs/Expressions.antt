-- Expressions: the first limit that is broken is told.
use Rattle.std.proofs.Common.{true, false, ◌≡◌, ℕ, zero, suc, ◌+◌, ◌<◌, ◌≤◌, max, List, [], ◌∷◌, ◌++◌, map, drop, length, Some, refl, sym, ◌∙◌, ap, subst, arith, if◌then◌else◌}
use Rattle.std.specs.Prelude.{nat_lt}
use Rattle.slang_names.specs.declared.places.Place.{Place}
use Rattle.slang_names.specs.declared.codes.ModuleCode.TheVariants as code
use Rattle.slang_tree.specs.declared.types.Identifier.{Identifier}
use Rattle.slang_tree.specs.declared.types.Builtin.{Builtin}
use Rattle.slang_tree.specs.declared.types.GenericArgument.{GenericArgument}
use Rattle.slang_tree.specs.declared.expressions.ExprTree.{ExprTree}
use Rattle.slang_tree.specs.declared.expressions.ExprNode.{ExprNode}
use Rattle.slang_tree.specs.declared.expressions.ExprNode.TheVariants as n
use Rattle.slang_tokens.specs.declared.tokens.Kind.TheVariants as k
use Rattle.slang_tokens.specs.declared.tokens.Mark.{Mark}
use Rattle.slang_tokens.specs.declared.tokens.Mark.TheVariants as m
use Rattle.slang_tokens.specs.declared.tokens.Word.{Word}
use Rattle.slang_tokens.specs.declared.tokens.Word.TheVariants as w
use Rattle.slang_reading.specs.Lexed.{Lexed}
use Rattle.slang_reading.specs.Reading.{Parser, Choice, Leave, Take, Refuse, first, if_fits, ◌>>=◌, pure, past, place_of, next, attempt, turns}
use Rattle.slang_reading.specs.Kinds.{sees, span}
use Rattle.slang_reading.proofs.Exact.{Reads, reads_pure, reads_bind, reads_next}
use Rattle.slang_grammar.specs.Tables.{builtin_of, unary_of}
use Rattle.slang_grammar.specs.Standing.{Stands, NameStands, IsNot}
use Rattle.slang_grammar.specs.Heights.{greatest, argument_height}
use Rattle.slang_grammar.specs.Expressions as ex
use Rattle.slang_grammar.specs.Expressions.{valued, follows, NoArguments, NameAt, OperatorAt, loosest, ExprAt, LevelAt, BinaryAt, UnaryAt, PostfixAt, ChainAt, ValuesAt, MoreValuesAt, PrimaryAt}
use Rattle.slang_grammar.specs.Descent.{Limits, fits_in, expect, identifier, is_short, if_short}
use Rattle.slang_grammar.specs.ExpressionsDescent.{Value, Values, given, repeats, begins, cast_to, cast_at, cast_ahead, whole, over, value_of, value, value_more, values_by, values, leaf, construct, primary_word, named, paren, member_name, member_at, index, call, chain_at, chain, chains, chain_rest, primary_at, postfix, prefix, cast_by, unary_mark, unary_at, unary, operator, level, choice, choice_by, choice_rest, at_level, leveled}
use Rattle.slang_grammar.proofs.Shared.{reads_expect, not_there, is_there}
use Rattle.expression_grammar.specs.Heights.{expr_height}
use Rattle.expression_grammar.specs.Ends.{goes_on}
use Rattle.expression_grammar.proofs.Heights.{height_value, height_true, height_false, height_this_value, height_this_type, height_name, height_construct, height_paren, height_member, height_index, height_call, height_unary, height_cast, height_choice, greatest_longer}
use Rattle.expression_grammar.proofs.Tables.{unary_other, unary_only, level_bound}
use Rattle.slang_reading.proofs.Fine.{fine_post, fine_not_past}
use Rattle.expression_grammar.proofs.Ahead.{IsCastAt, fine_cast_ahead}
use Rattle.expression_grammar.proofs.Quiet.{unary_begins, level_begins, expr_begins, begins_not, goes_in, QuietAt, ends_question, quiet_ends, ends_here, quiet_question, binary_quiet, more_ends, expr_no_cast}
use Rattle.expression_grammar.proofs.Spelled.{not_whole}
use Rattle.std.specs.Prelude.{nat_le}
use Rattle.expression_limits.specs.Breaks.{Break, broken, arises_over, item_with}
use Rattle.expression_limits.specs.Expressions.{name_breaks, expr_breaks, level_breaks, binary_breaks, unary_breaks, chain_breaks, values_breaks, more_values_breaks, primary_breaks}
use Rattle.expression_limits.proofs.Telling.{Tells, tells_first, first_front, TellsChoice, tells_reads, fits_is, short_is, tells_bind, tells_then, tells_last, tells_next, tells_take, tells_item, tells_turns_end, tells_turns_more, tells_attempt_some, tells_attempt_none, tells_repeats_end, tells_repeats_more}
use Rattle.expression_limits.proofs.Moves.{stands_within, operator_within, name_moves, operator_moves, expr_moves, level_moves, values_move}
use Rattle.expression_limits.proofs.Operators.{marked, joins, tells_given, reads_no_operator, tells_operator}

-- ---- with no node left

module _ (ts : List Lexed) (limits : Limits) where
  primary_zero : {x : ExprTree} {from to : ℕ} → (s : PrimaryAt ts x from to) → first (primary_breaks ts limits s zero) ≡ Some (broken ts code.TooNested from)
  primary_zero (ex.number s) = refl
  primary_zero (ex.true_word s) = refl
  primary_zero (ex.false_word s) = refl
  primary_zero (ex.this_value s) = refl
  primary_zero (ex.this_type s) = refl
  primary_zero (ex.name r) = refl
  primary_zero (ex.construct s e o v) = refl
  primary_zero (ex.paren s v r) = refl

  pub unary_zero : {x : ExprTree} {from to : ℕ} → (s : UnaryAt ts x from to) → first (unary_breaks ts limits s zero) ≡ Some (broken ts code.TooNested from)
  unary_zero {from = from} (ex.simple (ex.postfix p c)) = first_front (primary_breaks ts limits p zero) (chain_breaks ts limits c zero) (broken ts code.TooNested from) (primary_zero p)
  unary_zero (ex.prefix s e u) = refl
  unary_zero (ex.cast s t e r u) = refl

  pub level_zero : {l : ℕ} {x : ExprTree} {from to : ℕ} → (s : LevelAt ts l x from to) → first (level_breaks ts limits s zero) ≡ Some (broken ts code.TooNested from)
  level_zero (ex.unary u) = unary_zero u
  level_zero {from = from} (ex.binary v b) = first_front (level_breaks ts limits v zero) (binary_breaks ts limits b zero) (broken ts code.TooNested from) (level_zero v)

  pub expr_zero : {x : ExprTree} {from to : ℕ} → (s : ExprAt ts x from to) → first (expr_breaks ts limits s zero) ≡ Some (broken ts code.TooNested from)
  expr_zero (ex.plain v) = level_zero v
  expr_zero {from = from} (ex.choice {mid = mid} {x = x} v s y c z) =
      first_front (level_breaks ts limits v zero) (arises_over ts (expr_height x) mid zero ++ (expr_breaks ts limits y zero ++ expr_breaks ts limits z zero)) (broken ts code.TooNested from) (level_zero v)

  tells_nothing : (l : ℕ) (x : ExprTree) (from to : ℕ) → begins (first (drop from ts)) ≡ true → (seen : ℕ) → Tells (broken ts code.TooNested from ∷ []) (leveled limits zero l) ts from seen (x, expr_height x) to
  unfolding leveled
  tells_nothing l x from to b seen =
      let here = first (drop from ts) in
      tells_next ts (λ x. if begins x then if_fits false code.TooNested x (Take (past code.TooNested (place_of x))) else Refuse) from seen (x, expr_height x) to here
      (if_fits false code.TooNested here (Take (past code.TooNested (place_of here)))) refl
      (ap (λ c. if c then if_fits false code.TooNested here (Take (past code.TooNested (place_of here))) else Refuse) b) (refl, refl)

  -- the answer with an equal height
  reads_tall : (x : ExprTree) (h at seen : ℕ) → expr_height x ≡ h → Reads {A = Value} ⊥ (pure (x, h)) ts at seen (x, expr_height x) at
  reads_tall x h at seen e = subst (λ i. Reads {A = Value} ⊥ (pure (x, i)) ts at seen (x, expr_height x) at) e (reads_pure ⊥ ts (x, expr_height x) at seen)

  -- an operand of a level, with a node left for it or none
  tells_at : (b : ℕ → List Break) (l : ℕ) (x : ExprTree) (from to : ℕ) → first (b zero) ≡ Some (broken ts code.TooNested from) → l < 10 → begins (first (drop from ts)) ≡ true → (d seen : ℕ) →
      ((e seen1 : ℕ) → Tells (b (suc e)) (level limits e (leveled limits e) l) ts from seen1 (x, expr_height x) to) → Tells (b d) (leveled limits d l) ts from seen (x, expr_height x) to
  unfolding leveled
  tells_at b l x from to none lt n zero seen r = tells_first (broken ts code.TooNested from) (b zero) (leveled limits zero l) ts from seen (x, expr_height x) to none (tells_nothing l x from to n seen)
  tells_at b l x from to none lt n (suc d) seen r = subst (λ c. Tells (b (suc d)) (at_level limits d (leveled limits d) l c) ts from seen (x, expr_height x) to) (sym (not_whole l lt)) (r d seen)

  -- ---- what begins an operand

  module _ (d : ℕ) (inner : ℕ → Parser Value) where
    -- a primary that begins with that token, and what goes on it
    tells_simple : (b c : List Break) (x y : ExprTree) (from mid to : ℕ) (tok : Lexed) (p : Choice Value) → first (drop from ts) ≡ Some tok → unary_at limits d inner (Some tok) ≡ Leave (postfix limits d inner) →
        primary_at limits d inner (Some tok) ≡ p → TellsChoice ts b from (x, expr_height x) mid (Some tok) p → ((seen1 : ℕ) → Tells c (chain_rest limits d inner (x, expr_height x)) ts mid seen1 (y, expr_height y) to) → (seen : ℕ) →
        Tells (b ++ c) (unary limits d inner) ts from seen (y, expr_height y) to
    unfolding unary postfix
    tells_simple b c x y from mid to tok p e f g r k seen = tells_next ts (unary_at limits d inner) from seen (y, expr_height y) to (Some tok) (Leave (postfix limits d inner)) e f
        (λ seen1. tells_bind ts (next (primary_at limits d inner)) (chain_rest limits d inner) from seen1 mid to (x, expr_height x) (y, expr_height y)
        (tells_next ts (primary_at limits d inner) from seen1 (x, expr_height x) mid (Some tok) p e g r) k)

    tells_leaf : (c : List Break) (x : ExprNode) (y : ExprTree) (p : Place) (from to : ℕ) (tok : Lexed) → first (drop from ts) ≡ Some tok → tok.place ≡ p → unary_at limits d inner (Some tok) ≡ Leave (postfix limits d inner) →
        primary_at limits d inner (Some tok) ≡ leaf limits d inner tok x → expr_height (valued p x) ≡ 1 → ((seen1 : ℕ) → Tells c (chain_rest limits d inner (valued p x, expr_height (valued p x))) ts (from + 1) seen1 (y, expr_height y) to) → (seen : ℕ) →
        Tells c (unary limits d inner) ts from seen (y, expr_height y) to
    tells_leaf c x y p from to tok e u f g h k seen = tells_simple [] c (valued p x) y from (from + 1) to tok (leaf limits d inner tok x) e f g
        (λ seen1. tells_reads (pure (valued tok.place x, 1)) ts (from + 1) seen1 (valued p x, expr_height (valued p x)) (from + 1)
        (subst (λ q. Reads {A = Value} ⊥ (pure (valued q x, 1)) ts (from + 1) seen1 (valued p x, expr_height (valued p x)) (from + 1)) (sym u) (reads_tall (valued p x) 1 (from + 1) seen1 h))) k seen

    -- behind a parenthesis that begins no cast
    tells_opened : (b c : List Break) (x y : ExprTree) (p : Place) (from mid to : ℕ) → Stands ts from (k.Mark m.OpenParen) p → ((b : Builtin) (end : ℕ) → IsCastAt ts (from + 1) b end → ⊥) →
        ((seen1 : ℕ) → Tells b (paren limits d inner p) ts (from + 1) seen1 (x, expr_height x) mid) → ((seen1 : ℕ) → Tells c (chain_rest limits d inner (x, expr_height x)) ts mid seen1 (y, expr_height y) to) → (seen : ℕ) →
        Tells (b ++ c) (unary limits d inner) ts from seen (y, expr_height y) to
    unfolding unary
    tells_opened b c x y p from mid to s never r k seen = tells_next ts (unary_at limits d inner) from seen (y, expr_height y) to (Some (marked m.OpenParen p s.bytes)) (Take (attempt cast_ahead (cast_by limits d inner p))) s.is refl
        (λ seen1. tells_attempt_none ts cast_ahead (from + 1) seen1 (cast_by limits d inner p) (IsCastAt ts (from + 1)) (y, expr_height y) to
        (fine_post (IsCastAt ts (from + 1)) (cast_ahead ts (from + 1) seen1) (fine_cast_ahead ts (from + 1) seen1)) never
        (λ p. fine_not_past (IsCastAt ts (from + 1)) (cast_ahead ts (from + 1) seen1) (fine_cast_ahead ts (from + 1) seen1) p)
        (λ seen2. tells_bind ts (paren limits d inner p) (chain_rest limits d inner) (from + 1) seen2 mid to (x, expr_height x) (y, expr_height y) (r seen2) k))

    reads_cast_ahead : (word : Word) (b : Builtin) (q r : Place) (at seen : ℕ) → Stands ts at (k.Word word) q → builtin_of word ≡ Some b → Stands ts (at + 1) (k.Mark m.CloseParen) r → Reads ⊥ cast_ahead ts at seen b (at + 1 + 1)
    unfolding cast_ahead
    reads_cast_ahead word b q r at seen s e t = reads_next ⊥ ts cast_at at seen b (at + 1 + 1) (Some (record { kind = k.Word word; place = q; bytes = s.bytes })) (Take (expect m.CloseParen >>= (λ p. pure b))) s.is (ap cast_to e)
        (λ seen1. reads_bind ⊥ ts (expect m.CloseParen) _ (at + 1) seen1 (at + 1 + 1) (at + 1 + 1) r b (reads_expect ⊥ ts m.CloseParen r (at + 1) seen1 t) (λ seen2. reads_pure ⊥ ts b (at + 1 + 1) seen2))

    tells_cast : (c : List Break) (word : Word) (b : Builtin) (x : ExprTree) (p q r : Place) (from to : ℕ) → Stands ts from (k.Mark m.OpenParen) p → Stands ts (from + 1) (k.Word word) q → builtin_of word ≡ Some b → Stands ts (from + 1 + 1) (k.Mark m.CloseParen) r →
        ((seen1 : ℕ) → Tells c (inner zero) ts (from + 1 + 1 + 1) seen1 (x, expr_height x) to) → (seen : ℕ) →
        Tells c (unary limits d inner) ts from seen (valued (span p x.place) (n.Cast b x), expr_height (valued (span p x.place) (n.Cast b x))) to
    unfolding unary
    tells_cast c word b x p q r from to s t e u h seen =
        let y = valued (span p x.place) (n.Cast b x) in
        tells_next ts (unary_at limits d inner) from seen (y, expr_height y) to (Some (marked m.OpenParen p s.bytes)) (Take (attempt cast_ahead (cast_by limits d inner p))) s.is refl
        (λ seen1. tells_attempt_some ts cast_ahead (from + 1) seen1 (cast_by limits d inner p) b (y, expr_height y) (from + 1 + 1 + 1) to (reads_cast_ahead word b q r (from + 1) seen1 t e u)
        (λ seen2. tells_last ts (inner zero) _ (from + 1 + 1 + 1) seen2 to to (x, expr_height x) (y, expr_height y) (h seen2) (λ seen3. reads_tall y (expr_height x + 1) to seen3 (height_cast (span p x.place) b x))))

    tells_prefix : (c : List Break) (mark : Mark) (op : _) (x : ExprTree) (p : Place) (from to : ℕ) → Stands ts from (k.Mark mark) p → unary_of mark ≡ Some op → ((seen1 : ℕ) → Tells c (inner zero) ts (from + 1) seen1 (x, expr_height x) to) → (seen : ℕ) →
        Tells c (unary limits d inner) ts from seen (valued (span p x.place) (n.Unary op x), expr_height (valued (span p x.place) (n.Unary op x))) to
    unfolding unary prefix
    tells_prefix c mark op x p from to s q h seen =
        let y = valued (span p x.place) (n.Unary op x) in
        let tok = marked mark p s.bytes in
        tells_next ts (unary_at limits d inner) from seen (y, expr_height y) to (Some tok) (Take (prefix limits d inner p op)) s.is (unary_other limits d inner tok mark (unary_only mark op q) ∙ ap (unary_mark limits d inner tok) q)
        (λ seen1. tells_last ts (inner zero) _ (from + 1) seen1 to to (x, expr_height x) (y, expr_height y) (h seen1) (λ seen2. reads_tall y (expr_height x + 1) to seen2 (height_unary (span p x.place) op x)))

  there : {id : Identifier} {args : List GenericArgument} {end : Place} {from to : ℕ} → NameAt ts id args end from to → NameStands ts from id
  there (ex.alone s a) = s
  there (ex.generic s a f) = s

  seen_in : (mark : Mark) (at : ℕ) (p : Place) → Stands ts at (k.Mark mark) p → goes_in (Some (marked mark p [])) ≡ true → goes_in (first (drop at ts)) ≡ true
  seen_in mark at p s e = ap goes_in s.is ∙ e

  tallest_one : (x : ExprTree) → greatest (map expr_height (x ∷ [])) ≡ expr_height x
  tallest_one x = omega arith

  module _ (free : limits.free ≡ false) (long : length ts ≤ limits.turns) where
    -- a value behind so many others
    tells_value : (b : List Break) (d : ℕ) (inner : ℕ → Parser Value) (x : ExprTree) (from to : ℕ) → begins (first (drop from ts)) ≡ true → ((seen1 : ℕ) → Tells b (inner (suc loosest)) ts from seen1 (x, expr_height x) to) → (count seen : ℕ) →
        Tells (item_with ts limits count from d b) (value limits d inner count) ts from seen (x, expr_height x) to
    unfolding value
    tells_value b d inner x from to n r count seen =
        let here = first (drop from ts) in
        let c = if_fits (nat_lt 0 d) code.TooNested here (Leave (whole limits d inner)) in
        tells_next ts (λ t. if_fits (fits_in limits count limits.items) code.TooLong t (value_of limits d inner t)) from seen (x, expr_height x) to here (if_fits (fits_in limits count limits.items) code.TooLong here c) refl
        (ap (λ b. if_fits (fits_in limits count limits.items) code.TooLong here (if b then c else Refuse)) n)
        (tells_item ts limits free from (x, expr_height x) to here count d (whole limits d inner) refl r)

    mutual
      unfolding leveled level chain_rest chain choice_rest choice value_more values construct named paren member_name index call

      pub tells_expr : {x : ExprTree} {from to : ℕ} → (s : ExprAt ts x from to) → goes_on (first (drop to ts)) ≡ false → (d seen : ℕ) → Tells (expr_breaks ts limits s d) (leveled limits d (suc loosest)) ts from seen (x, expr_height x) to
      tells_expr {x = x} {from = from} {to = to} (ex.plain v) q zero seen =
          tells_first (broken ts code.TooNested from) (expr_breaks ts limits (ex.plain v) zero) (leveled limits zero (suc loosest)) ts from seen (x, expr_height x) to (expr_zero (ex.plain v)) (tells_nothing (suc loosest) x from to (level_begins v) seen)
      tells_expr {x = x} {from = from} {to = to} (ex.choice v u y c z) q zero seen =
          tells_first (broken ts code.TooNested from) (expr_breaks ts limits (ex.choice v u y c z) zero) (leveled limits zero (suc loosest)) ts from seen (x, expr_height x) to (expr_zero (ex.choice v u y c z)) (tells_nothing (suc loosest) x from to (level_begins v) seen)
      tells_expr {x = x} {from = from} {to = to} (ex.plain v) q (suc d) seen =
          let inner = leveled limits d in
          tells_last ts (level limits d inner loosest) (choice_rest limits d inner) from seen to to (x, expr_height x) (x, expr_height x) (tells_level v (quiet_ends ts loosest to q) d seen)
          (λ seen1. reads_next ⊥ ts (λ t. choice_by limits d inner (x, expr_height x) t (sees m.Question t)) to seen1 (x, expr_height x) to (first (drop to ts)) (Leave (pure (x, expr_height x))) refl
          (ap (choice_by limits d inner (x, expr_height x) (first (drop to ts))) (ends_question (first (drop to ts)) q)) (λ seen2. reads_pure ⊥ ts (x, expr_height x) to seen2))
      tells_expr {from = from} {to = to} (ex.choice {mid = mid} {at = at} {p = p} {q = q2} {x = x} {y = y} {z = z} v s u c r) q (suc d) seen =
          let inner = leveled limits d in
          let place = span x.place z.place in
          let all = valued place (n.Choice x y z) in
          let tok = marked m.Question p s.bytes in
          tells_bind ts (level limits d inner loosest) (choice_rest limits d inner) from seen mid to (x, expr_height x) (all, expr_height all) (tells_level v (quiet_question ts loosest mid p s) d seen)
          (λ seen1. tells_next ts (λ t. choice_by limits d inner (x, expr_height x) t (sees m.Question t)) mid seen1 (all, expr_height all) to (Some tok) (choice_by limits d inner (x, expr_height x) (Some tok) true) s.is refl
          (tells_take ts mid (all, expr_height all) to tok (fits_in limits (expr_height x) (suc d)) (nat_lt (expr_height x) (suc d)) code.TooNested (choice limits d inner (x, expr_height x)) s.is (fits_is limits free (expr_height x) (suc d))
          (λ seen2. tells_bind ts (whole limits d inner) _ (mid + 1) seen2 at to (y, expr_height y) (all, expr_height all) (tells_expr u (ends_here ts at (k.Mark m.Colon) q2 c refl) d seen2)
          (λ seen3. tells_then ts (expect m.Colon) _ at seen3 (at + 1) to q2 (all, expr_height all) (reads_expect ⊥ ts m.Colon q2 at seen3 c)
          (λ seen4. tells_last ts (whole limits d inner) _ (at + 1) seen4 to to (z, expr_height z) (all, expr_height all) (tells_expr r q d seen4)
          (λ seen5. reads_tall all (max (expr_height x) (max (expr_height y) (expr_height z)) + 1) to seen5 (height_choice place x y z)))))))

      tells_level : {l : ℕ} {x : ExprTree} {from to : ℕ} → (s : LevelAt ts l x from to) → QuietAt ts l to → (d seen : ℕ) → Tells (level_breaks ts limits s (suc d)) (level limits d (leveled limits d) l) ts from seen (x, expr_height x) to
      tells_level (ex.unary u) q d seen = tells_unary u q.chain d seen
      tells_level {from = from} {to = to} (ex.binary {l = l} {mid = mid} {x = x} {y = y} v b) q d seen =
          tells_bind ts (level limits d (leveled limits d) l) (repeats (operator limits d (leveled limits d) l) limits.turns) from seen mid to (x, expr_height x) (y, expr_height y) (tells_level v (binary_quiet b q) d seen)
          (λ seen1. tells_binary b q d limits.turns seen1 (omega (arith, long)))

      tells_binary : {l : ℕ} {x y : ExprTree} {from to : ℕ} → (s : BinaryAt ts l x y from to) → QuietAt ts (suc l) to → (d count seen : ℕ) → length ts ≤ from + count →
          Tells (binary_breaks ts limits s (suc d)) (repeats (operator limits d (leveled limits d) l) count (x, expr_height x)) ts from seen (y, expr_height y) to
      tells_binary {l = l} {x = x} {from = from} ex.operand q d count seen t =
          tells_repeats_end ts (operator limits d (leveled limits d) l) count (x, expr_height x) from seen (reads_no_operator ts limits d (leveled limits d) l x from q seen)
      tells_binary {from = from} (ex.operator {mid = mid} s e v b) q d zero seen t = absurd (let u = operator_within ts s in omega (arith, t, u))
      tells_binary {l = l} {x = x} {y = y} {from = from} {to = to} (ex.operator {mid = mid} {at = at} {z = z} {op = op} s e v b) q d (suc count) seen t =
          let w2 = joins op x z in
          tells_repeats_more ts (operator limits d (leveled limits d) l) count (x, expr_height x) (w2, expr_height w2) (y, expr_height y) from seen at to
          (tells_operator ts limits d (leveled limits d) free (level_breaks ts limits v d) l op x z from mid at s e (level_begins v)
          (λ seen1. tells_at (level_breaks ts limits v) l z mid at (level_zero v) (subst (λ i. i < 10) e (level_bound op)) (level_begins v) d seen1 (λ e seen2. tells_level v (binary_quiet b q) e seen2)) seen)
          (λ seen1. tells_binary b q d count seen1 (let u = operator_moves ts s in let w = level_moves ts v in omega (arith, t, u, w)))

      tells_unary : {x : ExprTree} {from to : ℕ} → (s : UnaryAt ts x from to) → goes_in (first (drop to ts)) ≡ false → (d seen : ℕ) → Tells (unary_breaks ts limits s (suc d)) (unary limits d (leveled limits d)) ts from seen (x, expr_height x) to
      tells_unary {from = from} {to = to} (ex.prefix {p = p} {x = x} {mark = mark} {op = op} s e u) q d seen =
          tells_prefix d (leveled limits d) (unary_breaks ts limits u d) mark op x p from to s e
          (λ seen1. tells_at (unary_breaks ts limits u) zero x (from + 1) to (unary_zero u) (omega arith) (unary_begins u) d seen1 (λ e2 seen2. tells_unary u q e2 seen2)) seen
      tells_unary {from = from} {to = to} (ex.cast {p = p} {q = p2} {r = p3} {x = x} {word = word} {b = b} s t e r u) q d seen =
          tells_cast d (leveled limits d) (unary_breaks ts limits u d) word b x p p2 p3 from to s t e r
          (λ seen1. tells_at (unary_breaks ts limits u) zero x (from + 1 + 1 + 1) to (unary_zero u) (omega arith) (unary_begins u) d seen1 (λ e2 seen2. tells_unary u q e2 seen2)) seen
      tells_unary {x = y} {from = from} {to = to} (ex.simple (ex.postfix (ex.number {p = p} {v = v} s) c)) q d seen =
          tells_leaf d (leveled limits d) (chain_breaks ts limits c (suc d)) (n.Number v) y p from to (record { kind = k.Number v; place = p; bytes = s.bytes }) s.is refl refl refl (height_value p v)
          (λ seen1. tells_chain c q d limits.turns seen1 (omega (arith, long))) seen
      tells_unary {x = y} {from = from} {to = to} (ex.simple (ex.postfix (ex.true_word {p = p} s) c)) q d seen =
          tells_leaf d (leveled limits d) (chain_breaks ts limits c (suc d)) n.True y p from to (record { kind = k.Word w.True; place = p; bytes = s.bytes }) s.is refl refl refl (height_true p)
          (λ seen1. tells_chain c q d limits.turns seen1 (omega (arith, long))) seen
      tells_unary {x = y} {from = from} {to = to} (ex.simple (ex.postfix (ex.false_word {p = p} s) c)) q d seen =
          tells_leaf d (leveled limits d) (chain_breaks ts limits c (suc d)) n.False y p from to (record { kind = k.Word w.False; place = p; bytes = s.bytes }) s.is refl refl refl (height_false p)
          (λ seen1. tells_chain c q d limits.turns seen1 (omega (arith, long))) seen
      tells_unary {x = y} {from = from} {to = to} (ex.simple (ex.postfix (ex.this_value {p = p} s) c)) q d seen =
          tells_leaf d (leveled limits d) (chain_breaks ts limits c (suc d)) n.ThisValue y p from to (record { kind = k.Word w.ThisValue; place = p; bytes = s.bytes }) s.is refl refl refl (height_this_value p)
          (λ seen1. tells_chain c q d limits.turns seen1 (omega (arith, long))) seen
      tells_unary {x = y} {from = from} {to = to} (ex.simple (ex.postfix (ex.this_type {p = p} s) c)) q d seen =
          tells_leaf d (leveled limits d) (chain_breaks ts limits c (suc d)) n.ThisType y p from to (record { kind = k.Word w.ThisType; place = p; bytes = s.bytes }) s.is refl refl refl (height_this_type p)
          (λ seen1. tells_chain c q d limits.turns seen1 (omega (arith, long))) seen
      tells_unary {x = y} {from = from} {to = to} (ex.simple (ex.postfix {mid = mid} (ex.name {end = end} {id = id} {args = args} r) c)) q d seen =
          let place = span id.place end in
          let x = valued place (n.Name id args) in
          let tok : Lexed = record { kind = k.Name; place = id.place; bytes = id.name } in
          let rest = named limits d (leveled limits d) (identifier tok) in
          tells_simple d (leveled limits d) (name_breaks ts limits r (suc d)) (chain_breaks ts limits c (suc d)) x y from mid to tok (if_short limits tok (Take rest)) (there r).is refl refl
          (tells_take ts from (x, expr_height x) mid tok (is_short limits tok) (nat_le (length id.name) limits.names) code.TooLong rest (there r).is (short_is limits free tok)
          (λ seen1. tells_last ts (given limits d id.place) _ (from + 1) seen1 mid mid (args, greatest (map argument_height args), end) (x, expr_height x) (tells_given ts limits long free r d seen1)
          (λ seen2. reads_tall x (greatest (map argument_height args) + 1) mid seen2 (height_name place id args))))
          (λ seen1. tells_chain c q d limits.turns seen1 (omega (arith, long))) seen
      tells_unary {x = y} {from = from} {to = to} (ex.simple (ex.postfix {mid = mid} (ex.construct {p = p} {q = p2} {end = end} {word = word} {b = b} {args = args} s e o v) c)) q d seen =
          let place = span p end in
          let x = valued place (n.Construct b args) in
          let tok : Lexed = record { kind = k.Word word; place = p; bytes = s.bytes } in
          tells_simple d (leveled limits d) (values_breaks ts limits v d) (chain_breaks ts limits c (suc d)) x y from mid to tok (Take (construct limits d (leveled limits d) p b)) s.is refl (ap (primary_word limits d (leveled limits d) tok word) e)
          (λ seen1. tells_then ts (expect m.OpenParen) _ (from + 1) seen1 (from + 1 + 1) mid p2 (x, expr_height x) (reads_expect ⊥ ts m.OpenParen p2 (from + 1) seen1 o)
          (λ seen2. tells_last ts (values limits d (leveled limits d)) _ (from + 1 + 1) seen2 mid mid ((args, greatest (map expr_height args)), end) (x, expr_height x) (tells_values v d seen2)
          (λ seen3. reads_tall x (greatest (map expr_height args) + 1) mid seen3 (height_construct place b args))))
          (λ seen1. tells_chain c q d limits.turns seen1 (omega (arith, long))) seen
      tells_unary {x = y} {from = from} {to = to} (ex.simple (ex.postfix {mid = mid} (ex.paren {at = at} {p = p} {end = end} {x = x} s v r) c)) q d seen =
          let place = span p end in
          let z = valued place (n.Paren x) in
          tells_opened d (leveled limits d) (expr_breaks ts limits v d) (chain_breaks ts limits c (suc d)) z y p from (at + 1) to s (λ b last t. expr_no_cast ts (from + 1) t.0 b t.1 t.2 t.3 t.4 t.5 v)
          (λ seen1. tells_last ts (whole limits d (leveled limits d)) _ (from + 1) seen1 at (at + 1) (x, expr_height x) (z, expr_height z) (tells_expr v (ends_here ts at (k.Mark m.CloseParen) end r refl) d seen1)
          (λ seen2. reads_bind ⊥ ts (expect m.CloseParen) _ at seen2 (at + 1) (at + 1) end (z, expr_height z) (reads_expect ⊥ ts m.CloseParen end at seen2 r)
          (λ seen3. reads_tall z (expr_height x + 1) (at + 1) seen3 (height_paren place x))))
          (λ seen1. tells_chain c q d limits.turns seen1 (omega (arith, long))) seen

      tells_chain : {x y : ExprTree} {from to : ℕ} → (s : ChainAt ts x y from to) → goes_in (first (drop to ts)) ≡ false → (d count seen : ℕ) → length ts ≤ from + count →
          Tells (chain_breaks ts limits s (suc d)) (turns (chains limits d (leveled limits d)) (chain limits d (leveled limits d)) count (x, expr_height x)) ts from seen (y, expr_height y) to
      tells_chain {x = x} {from = from} ex.whole q d count seen t = tells_turns_end ts (chains limits d (leveled limits d)) (chain limits d (leveled limits d)) count (x, expr_height x) from seen q
      tells_chain {from = from} (ex.member {p = p} s r b) q d zero seen t = absurd (let u = stands_within ts from (k.Mark m.Dot) p s in omega (arith, t, u))
      tells_chain {from = from} (ex.index {p = p} s v r b) q d zero seen t = absurd (let u = stands_within ts from (k.Mark m.OpenBracket) p s in omega (arith, t, u))
      tells_chain {from = from} (ex.call {p = p} s v b) q d zero seen t = absurd (let u = stands_within ts from (k.Mark m.OpenParen) p s in omega (arith, t, u))
      tells_chain {x = x} {y = y} {from = from} {to = to} (ex.member {mid = mid} {p = p} {end = end} {id = id} {args = args} s r b) q d (suc count) seen t =
          let inner = leveled limits d in
          let place = span x.place end in
          let z = valued place (n.Member x id args) in
          let tok = marked m.Dot p s.bytes in
          let tok2 : Lexed = record { kind = k.Name; place = id.place; bytes = id.name } in
          tells_turns_more ts (chains limits d inner) (chain limits d inner) count (x, expr_height x) (z, expr_height z) (y, expr_height y) from seen mid to (seen_in m.Dot from p s refl)
          (λ seen1. tells_next ts (chain_at limits d inner (x, expr_height x)) from seen1 (z, expr_height z) mid (Some tok) (over limits d inner (x, expr_height x) (Some tok) (Take (next (member_at limits d inner (x, expr_height x))))) s.is refl
          (tells_take ts from (z, expr_height z) mid tok (fits_in limits (expr_height x) (suc d)) (nat_lt (expr_height x) (suc d)) code.TooNested (next (member_at limits d inner (x, expr_height x))) s.is (fits_is limits free (expr_height x) (suc d))
          (λ seen2. tells_next ts (member_at limits d inner (x, expr_height x)) (from + 1) seen2 (z, expr_height z) mid (Some tok2) (if_short limits tok2 (Take (member_name limits d inner (x, expr_height x) (identifier tok2)))) (there r).is refl
          (tells_take ts (from + 1) (z, expr_height z) mid tok2 (is_short limits tok2) (nat_le (length id.name) limits.names) code.TooLong (member_name limits d inner (x, expr_height x) (identifier tok2)) (there r).is (short_is limits free tok2)
          (λ seen3. tells_last ts (given limits d id.place) _ (from + 1 + 1) seen3 mid mid (args, greatest (map argument_height args), end) (z, expr_height z) (tells_given ts limits long free r d seen3)
          (λ seen4. reads_tall z (max (expr_height x) (greatest (map argument_height args)) + 1) mid seen4 (height_member place x id args)))))))
          (λ seen1. tells_chain b q d count seen1 (let u = name_moves ts r in omega (arith, t, u)))
      tells_chain {x = x} {y = y} {from = from} {to = to} (ex.index {at = at} {p = p} {end = end} {i = i} s v r b) q d (suc count) seen t =
          let inner = leveled limits d in
          let place = span x.place end in
          let z = valued place (n.Index x i) in
          let tok = marked m.OpenBracket p s.bytes in
          tells_turns_more ts (chains limits d inner) (chain limits d inner) count (x, expr_height x) (z, expr_height z) (y, expr_height y) from seen (at + 1) to (seen_in m.OpenBracket from p s refl)
          (λ seen1. tells_next ts (chain_at limits d inner (x, expr_height x)) from seen1 (z, expr_height z) (at + 1) (Some tok) (over limits d inner (x, expr_height x) (Some tok) (Take (index limits d inner (x, expr_height x)))) s.is refl
          (tells_take ts from (z, expr_height z) (at + 1) tok (fits_in limits (expr_height x) (suc d)) (nat_lt (expr_height x) (suc d)) code.TooNested (index limits d inner (x, expr_height x)) s.is (fits_is limits free (expr_height x) (suc d))
          (λ seen2. tells_last ts (whole limits d inner) _ (from + 1) seen2 at (at + 1) (i, expr_height i) (z, expr_height z) (tells_expr v (ends_here ts at (k.Mark m.CloseBracket) end r refl) d seen2)
          (λ seen3. reads_bind ⊥ ts (expect m.CloseBracket) _ at seen3 (at + 1) (at + 1) end (z, expr_height z) (reads_expect ⊥ ts m.CloseBracket end at seen3 r)
          (λ seen4. reads_tall z (max (expr_height x) (expr_height i) + 1) (at + 1) seen4 (height_index place x i))))))
          (λ seen1. tells_chain b q d count seen1 (let u = expr_moves ts v in omega (arith, t, u)))
      tells_chain {x = x} {y = y} {from = from} {to = to} (ex.call {mid = mid} {p = p} {end = end} {args = args} s v b) q d (suc count) seen t =
          let inner = leveled limits d in
          let place = span x.place end in
          let z = valued place (n.Call x args) in
          let tok = marked m.OpenParen p s.bytes in
          tells_turns_more ts (chains limits d inner) (chain limits d inner) count (x, expr_height x) (z, expr_height z) (y, expr_height y) from seen mid to (seen_in m.OpenParen from p s refl)
          (λ seen1. tells_next ts (chain_at limits d inner (x, expr_height x)) from seen1 (z, expr_height z) mid (Some tok) (over limits d inner (x, expr_height x) (Some tok) (Take (call limits d inner (x, expr_height x)))) s.is refl
          (tells_take ts from (z, expr_height z) mid tok (fits_in limits (expr_height x) (suc d)) (nat_lt (expr_height x) (suc d)) code.TooNested (call limits d inner (x, expr_height x)) s.is (fits_is limits free (expr_height x) (suc d))
          (λ seen2. tells_last ts (values limits d inner) _ (from + 1) seen2 mid mid ((args, greatest (map expr_height args)), end) (z, expr_height z) (tells_values v d seen2)
          (λ seen3. reads_tall z (max (expr_height x) (greatest (map expr_height args)) + 1) mid seen3 (height_call place x args)))))
          (λ seen1. tells_chain b q d count seen1 (let u = values_move ts v in omega (arith, t, u)))

      tells_values : {args : List ExprTree} {end : Place} {from to : ℕ} → (s : ValuesAt ts args end from to) → (d seen : ℕ) →
          Tells (values_breaks ts limits s d) (values limits d (leveled limits d)) ts from seen ((args, greatest (map expr_height args)), end) to
      tells_values {from = from} (ex.no_values {end = end} s) d seen =
          let inner = leveled limits d in
          let z : Values × Place = (([], 0), end) in
          tells_next ts (λ x. values_by limits d inner (sees m.CloseParen x)) from seen z (from + 1) (first (drop from ts)) (values_by limits d inner true) refl (ap (values_by limits d inner) (is_there ts m.CloseParen from end s))
          (λ seen1. tells_then ts (expect m.CloseParen) _ from seen1 (from + 1) (from + 1) end z (reads_expect ⊥ ts m.CloseParen end from seen1 s) (λ seen2. tells_reads (pure z) ts (from + 1) seen2 z (from + 1) (reads_pure ⊥ ts z (from + 1) seen2)))
      tells_values {args = args} {from = from} (ex.values {mid = mid} {at = at} {end = end} {x = x} v r s) d seen =
          let inner = leveled limits d in
          let z : Values × Place = ((args, greatest (map expr_height args)), end) in
          let q = ends_here ts at (k.Mark m.CloseParen) end s refl in
          tells_next ts (λ x. values_by limits d inner (sees m.CloseParen x)) from seen z (at + 1) (first (drop from ts)) (values_by limits d inner false) refl
          (ap (values_by limits d inner) (begins_not m.CloseParen (first (drop from ts)) (expr_begins v) refl))
          (λ seen1. tells_bind ts (value limits d inner 0) _ from seen1 mid (at + 1) (x, expr_height x) z
          (tells_value (expr_breaks ts limits v d) d inner x from mid (expr_begins v) (λ seen2. tells_expr v (more_ends r q) d seen2) 0 seen1)
          (λ seen2. tells_last ts (turns (sees m.Comma) (value_more limits d inner) limits.turns (x ∷ [], expr_height x)) _ mid seen2 at (at + 1) (args, greatest (map expr_height args)) z
          (subst (λ h. Tells {A = Values} (more_values_breaks ts limits r d) (turns (sees m.Comma) (value_more limits d inner) limits.turns (x ∷ [], h)) ts mid seen2 (args, greatest (map expr_height args)) at) (tallest_one x)
          (tells_more r q (not_there ts m.Comma at (k.Mark m.CloseParen) end s refl) d limits.turns seen2 (omega (arith, long))))
          (λ seen3. reads_bind ⊥ ts (expect m.CloseParen) _ at seen3 (at + 1) (at + 1) end z (reads_expect ⊥ ts m.CloseParen end at seen3 s) (λ seen4. reads_pure ⊥ ts z (at + 1) seen4))))

      tells_more : {xs ys : List ExprTree} {from to : ℕ} → (s : MoreValuesAt ts xs ys from to) → goes_on (first (drop to ts)) ≡ false → IsNot ts m.Comma to → (d count seen : ℕ) → length ts ≤ from + count →
          Tells (more_values_breaks ts limits s d) (turns (sees m.Comma) (value_more limits d (leveled limits d)) count (xs, greatest (map expr_height xs))) ts from seen (ys, greatest (map expr_height ys)) to
      tells_more {xs = xs} {from = from} ex.end q u d count seen t = tells_turns_end ts (sees m.Comma) (value_more limits d (leveled limits d)) count (xs, greatest (map expr_height xs)) from seen u.is
      tells_more {from = from} (ex.more {p = p} s v r) q u d zero seen t = absurd (let w = stands_within ts from (k.Mark m.Comma) p s in omega (arith, t, w))
      tells_more {ys = ys} {from = from} {to = to} (ex.more {mid = mid} {p = p} {x = x} {list = xs} s v r) q u d (suc count) seen t =
          let inner = leveled limits d in
          let zs = xs ++ x ∷ [] in
          tells_turns_more ts (sees m.Comma) (value_more limits d inner) count (xs, greatest (map expr_height xs)) (zs, greatest (map expr_height zs)) (ys, greatest (map expr_height ys)) from seen mid to (is_there ts m.Comma from p s)
          (λ seen1. tells_then ts (expect m.Comma) _ from seen1 (from + 1) mid p (zs, greatest (map expr_height zs)) (reads_expect ⊥ ts m.Comma p from seen1 s)
          (λ seen2. tells_last ts (value limits d inner (length xs)) _ (from + 1) seen2 mid mid (x, expr_height x) (zs, greatest (map expr_height zs))
          (tells_value (expr_breaks ts limits v d) d inner x (from + 1) mid (expr_begins v) (λ seen3. tells_expr v (more_ends r q) d seen3) (length xs) seen2)
          (λ seen3. subst (λ h. Reads {A = Values} ⊥ (pure (zs, h)) ts mid seen3 (zs, greatest (map expr_height zs)) mid) (greatest_longer xs x) (reads_pure ⊥ ts (zs, greatest (map expr_height zs)) mid seen3))))
          (λ seen1. tells_more r q u d count seen1 (let w = expr_moves ts v in omega (arith, t, w)))
