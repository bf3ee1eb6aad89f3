-- Declared names, lists in braces and locals: the first limit that is broken is told.
use Rattle.std.proofs.Common.{Bool, true, false, ◌≡◌, ℕ, zero, suc, ◌+◌, ◌<◌, ◌≤◌, ◌||◌, List, [], ◌∷◌, ◌++◌, drop, length, Option, Some, None, refl, sym, ◌∙◌, ap, if◌then◌else◌, arith}
use Rattle.std.specs.Prelude.{nat_le, nat_lt}
use Rattle.slang_names.specs.declared.places.Place.{Place}
use Rattle.slang_names.specs.declared.codes.ModuleCode.TheVariants as code
use Rattle.slang_tree.specs.declared.types.Identifier.{Identifier}
use Rattle.slang_tree.specs.declared.types.Term.{Term}
use Rattle.slang_tree.specs.declared.types.Term.TheVariants as term
use Rattle.slang_tree.specs.declared.types.TypeTree.{TypeTree}
use Rattle.slang_tree.specs.declared.expressions.ExprTree.{ExprTree}
use Rattle.slang_tree.specs.declared.statements.DeclaredName.{DeclaredName}
use Rattle.slang_tree.specs.declared.statements.Initializer.{Initializer}
use Rattle.slang_tree.specs.declared.statements.Initializer.TheVariants as i
use Rattle.slang_tree.specs.declared.statements.ListTree.{ListTree}
use Rattle.slang_tree.specs.declared.statements.LocalName.{LocalName}
use Rattle.slang_tokens.specs.declared.tokens.Kind.TheVariants as k
use Rattle.slang_tokens.specs.declared.tokens.Mark.TheVariants as m
use Rattle.slang_tokens.specs.declared.tokens.Word.TheVariants as w
use Rattle.slang_reading.specs.Lexed.{Lexed}
use Rattle.slang_reading.specs.Reading.{Leave, Take, Refuse, Pass, if_fits, ◌>>=◌, first, place_of, pure, turns}
use Rattle.slang_reading.specs.Kinds.{is_mark, sees, span}
use Rattle.slang_reading.proofs.Marks.{mark_is}
use Rattle.slang_reading.proofs.Exact.{reads_pure, reads_bind, reads_next}
use Rattle.slang_grammar.specs.Standing.{Stands, NameStands, IsNot}
use Rattle.slang_grammar.specs.Types as ty
use Rattle.slang_grammar.specs.Types.{TermAt, TypeAt}
use Rattle.slang_grammar.specs.Heights.{height}
use Rattle.slang_grammar.specs.Expressions.{ExprAt}
use Rattle.slang_grammar.specs.Descent.{Limits, fits_in, is_short, if_short, expect, name, termed, bracketed}
use Rattle.slang_grammar.specs.TypesDescent.{types}
use Rattle.slang_grammar.specs.ExpressionsDescent.{begins_by, begins, expressions}
use Rattle.slang_grammar.proofs.Shared.{reads_expect, not_there, is_there}
use Rattle.expression_grammar.specs.Heights.{expr_height}
use Rattle.statement_grammar.specs.Statements as t
use Rattle.statement_grammar.specs.Statements.{declared, LengthsAt, DeclaredNameAt, listed, InitializerAt, ListAt, MoreItemsAt, local_name, LocalNameAt, MoreLocalNamesAt, local_of, LocalAt}
use Rattle.statement_grammar.specs.StatementsDescent.{Lengths, Named, length_more, declared_name, Initial, item, item_more, items_rest, no_items, list_by, list_rest, initial_by, initial, no_initial, initials, Names, One, begun_by, one_name, name_more, names_rest, variable, constant}
use Rattle.statement_grammar.proofs.Begins.{Closes, expr_begins, quiet_name}
use Rattle.statement_grammar.proofs.LocalsRead.{declared_begins}
use Rattle.statement_laws.proofs.Behind.{closes_on}
use Rattle.statement_fits.proofs.Moves.{local_name_moves}
use Rattle.expression_limits.specs.Breaks.{Break, broken, item_with}
use Rattle.expression_limits.specs.Types.{term_breaks}
use Rattle.expression_limits.specs.Expressions.{expr_breaks}
use Rattle.expression_limits.proofs.Telling.{Tells, tells_first, tells_reads, short_is, tells_bind, tells_then, tells_last, tells_next, tells_take_last, tells_item, tells_turns_end, tells_turns_more}
use Rattle.expression_limits.proofs.Moves.{stands_within, expr_moves}
use Rattle.expression_limits.proofs.Types.{tells_name, tells_type}
use Rattle.expression_limits.proofs.Expressions.{tells_expr}
use Rattle.statement_limits.specs.Locals.{lengths_breaks, declared_breaks, initial_breaks, list_breaks, more_items_breaks, local_name_breaks, more_names_breaks, local_breaks}

-- ---- what stands at an item

-- an expression begins with no brace
no_brace : (x : Option Lexed) → begins x ≡ true → sees m.OpenBrace x ≡ false
no_brace (Some tok) b = by (sees m.OpenBrace (Some tok)) refl
  where
    by : (c : Bool) → sees m.OpenBrace (Some tok) ≡ c → c ≡ false
    by true q = let d = mark_is m.OpenBrace tok.kind q in let z = sym b ∙ ap begins_by d in cc
    by false q = refl
no_brace None b = refl

-- a comma closes what stands before it
comma_closes : {ts : List Lexed} {at : ℕ} (p : Place) → Stands ts at (k.Mark m.Comma) p → Closes ts at
comma_closes p s = record { mark = m.Comma; place = p; is = s; closes = refl }

brace_closes : {ts : List Lexed} {at : ℕ} (p : Place) → Stands ts at (k.Mark m.CloseBrace) p → Closes ts at
brace_closes p s = record { mark = m.CloseBrace; place = p; is = s; closes = refl }

items_close : {ts : List Lexed} {xs ys : List Initializer} {from to : ℕ} → MoreItemsAt ts xs ys from to → Closes ts to → Closes ts from
items_close t.end c = c
items_close (t.more {p = p} s v r) c = comma_closes p s

or_true : (b : Bool) → (b || true) ≡ true
or_true true = refl
or_true false = refl

-- what begins an item
item_begins : {ts : List Lexed} {x : Initializer} {end : Place} {from to : ℕ} → InitializerAt ts x end from to → (sees m.OpenBrace (first (drop from ts)) || begins (first (drop from ts))) ≡ true
item_begins {ts = ts} {from = from} (t.expression r) = ap (λ b. sees m.OpenBrace (first (drop from ts)) || b) (expr_begins r) ∙ or_true _
item_begins {ts = ts} {from = from} (t.braces (t.no_items {p = p} s c)) = ap (λ b. b || begins (first (drop from ts))) (is_there ts m.OpenBrace from p s)
item_begins {ts = ts} {from = from} (t.braces (t.items {p = p} s v r c)) = ap (λ b. b || begins (first (drop from ts))) (is_there ts m.OpenBrace from p s)

item_no_close : {ts : List Lexed} {x : Initializer} {end : Place} {from to : ℕ} → InitializerAt ts x end from to → sees m.CloseBrace (first (drop from ts)) ≡ false
item_no_close {ts = ts} {from = from} v = by (first (drop from ts)) (item_begins v)
  where
    by : (x : Option Lexed) → (sees m.OpenBrace x || begins x) ≡ true → sees m.CloseBrace x ≡ false
    by None b = refl
    by (Some tok) b = test (sees m.CloseBrace (Some tok)) refl
      where
        test : (c : Bool) → sees m.CloseBrace (Some tok) ≡ c → c ≡ false
        test true q = let d = mark_is m.CloseBrace tok.kind q in let z = sym b ∙ ap (λ kind. is_mark m.OpenBrace kind || begins_by kind) d in cc
        test false q = refl

module _ (ts : List Lexed) where
  mutual
    pub initializer_moves : {x : Initializer} {end : Place} {from to : ℕ} → InitializerAt ts x end from to → from < to
    initializer_moves (t.expression v) = expr_moves ts v
    initializer_moves (t.braces l) = list_moves l

    list_moves : {x : ListTree} {from to : ℕ} → ListAt ts x from to → from < to
    list_moves (t.no_items s c) = omega arith
    list_moves (t.items s v r c) = let a = initializer_moves v in let b = items_move r in omega (arith, a, b)

    pub items_move : {xs zs : List Initializer} {from to : ℕ} → MoreItemsAt ts xs zs from to → from ≤ to
    items_move t.end = omega arith
    items_move (t.more s v r) = let a = initializer_moves v in let b = items_move r in omega (arith, a, b)

  -- the brace with which a list begins
  brace : {x : ListTree} {from to : ℕ} → ListAt ts x from to → Place
  brace (t.no_items {p = p} s z) = p
  brace (t.items {p = p} s v r z) = p

  list_stands : {x : ListTree} {from to : ℕ} (l : ListAt ts x from to) → Stands ts from (k.Mark m.OpenBrace) (brace l)
  unfolding brace
  list_stands (t.no_items {p = p} s z) = s
  list_stands (t.items {p = p} s v r z) = s

  list_zero : (limits : Limits) {x : ListTree} {from to : ℕ} (l : ListAt ts x from to) → first (list_breaks ts limits l zero) ≡ Some (broken ts code.TooNested from)
  list_zero limits (t.no_items s z) = refl
  list_zero limits (t.items s v r z) = refl

  names_close : {xs ys : List LocalName} {p q : Place} {from to : ℕ} → MoreLocalNamesAt ts xs ys p q from to → Closes ts to → Closes ts from
  names_close (t.end n) c = c
  names_close (t.more {p = p} s v r) c = comma_closes p s

  local_name_begins : {x : LocalName} {end : Place} {from to : ℕ} → LocalNameAt ts x end from to → (id : Identifier) × NameStands ts from id
  local_name_begins (t.alone r n) = declared_begins r
  local_name_begins (t.begun r s w) = declared_begins r

  module _ (limits : Limits) (free : limits.free ≡ false) (long : length ts ≤ limits.turns) where
    -- ---- declared names

    pub tells_term : {x : Term} {at : ℕ} → (s : TermAt ts x at) → (seen : ℕ) → Tells (term_breaks ts limits s) (bracketed limits) ts at seen x (at + 1)
    unfolding bracketed
    tells_term {x = x} {at = at} (ty.number_term {p = p} {v = v} s) seen =
        tells_next ts (termed limits) at seen x (at + 1) (Some (record { kind = k.Number v; place = p; bytes = s.bytes })) (Take (pure (term.Number p v))) s.is refl
        (λ s1. tells_reads (pure (term.Number p v)) ts (at + 1) s1 x (at + 1) (reads_pure ⊥ ts x (at + 1) s1))
    tells_term {x = x} {at = at} (ty.name_term {id = id} s) seen = let tok : Lexed = record { kind = k.Name; place = id.place; bytes = id.name } in
        tells_next ts (termed limits) at seen x (at + 1) (Some tok) (if_short limits tok (Take (pure (term.Name id)))) s.is refl
        (tells_take_last ts at x (at + 1) tok (is_short limits tok) (nat_le (length id.name) limits.names) code.TooLong (pure (term.Name id)) s.is (short_is limits free tok) (λ s1. reads_pure ⊥ ts x (at + 1) s1))

    pub tells_lengths : {xs ys : List Term} {p q : Place} {from to : ℕ} → (r : LengthsAt ts xs ys p q from to) → (count seen : ℕ) → length ts ≤ from + count →
        Tells (lengths_breaks ts limits r) (turns (sees m.OpenBracket) (length_more limits) count (xs, p)) ts from seen (ys, q) to
    unfolding length_more
    tells_lengths {xs = xs} {p = p} {from = from} (t.end n) count seen u = tells_turns_end ts (sees m.OpenBracket) (length_more limits) count (xs, p) from seen n.is
    tells_lengths {from = from} (t.more {p = p} s x c r) zero seen u = absurd (let h = stands_within ts from (k.Mark m.OpenBracket) p s in omega (arith, h, u))
    tells_lengths {xs = xs} {ys = ys} {p = last} {q = end} {from = from} {to = to} (t.more {p = p} {q = q} {x = x} s v c r) (suc count) seen u =
        let b : Lengths = (xs ++ x ∷ [], q) in
        tells_turns_more ts (sees m.OpenBracket) (length_more limits) count (xs, last) b (ys, end) from seen (from + 1 + 1 + 1) to (is_there ts m.OpenBracket from p s)
        (λ s1. tells_then ts (expect m.OpenBracket) _ from s1 (from + 1) (from + 1 + 1 + 1) p b (reads_expect ⊥ ts m.OpenBracket p from s1 s)
        (λ s2. tells_last ts (bracketed limits) _ (from + 1) s2 (from + 1 + 1) (from + 1 + 1 + 1) x b (tells_term v s2)
        (λ s3. reads_bind ⊥ ts (expect m.CloseBracket) _ (from + 1 + 1) s3 (from + 1 + 1 + 1) (from + 1 + 1 + 1) q b (reads_expect ⊥ ts m.CloseBracket q (from + 1 + 1) s3 c)
        (λ s4. reads_pure ⊥ ts b (from + 1 + 1 + 1) s4))))
        (λ s1. tells_lengths r count s1 (omega (arith, u)))

    pub tells_declared : {x : DeclaredName} {end : Place} {from to : ℕ} → (s : DeclaredNameAt ts x end from to) → (seen : ℕ) → Tells (declared_breaks ts limits s) (declared_name limits) ts from seen (x, end) to
    unfolding declared_name
    tells_declared {from = from} {to = to} (t.declared_name {end = end} {id = id} {list = list} s r) seen =
        let a : Named = (declared id list end, end) in
        tells_bind ts (name limits) _ from seen (from + 1) to id a (tells_name ts limits free id from seen s)
        (λ s1. tells_last ts (turns (sees m.OpenBracket) (length_more limits) limits.turns ([], id.place)) _ (from + 1) s1 to to (list, end) a
        (tells_lengths r limits.turns s1 (omega (arith, long))) (λ s2. reads_pure ⊥ ts a to s2))

    -- ---- what locals begin with

    pub tells_value : {x : ExprTree} {from to : ℕ} → (v : ExprAt ts x from to) → Closes ts to → (d seen : ℕ) → Tells (expr_breaks ts limits v d) (expressions limits d) ts from seen (x, expr_height x) to
    tells_value v c d seen = tells_expr ts limits free long v (closes_on c) d seen

    -- an item, where what is in it is told
    tells_one_item : (bs : List Break) {x : Initializer} {last : Place} {from to : ℕ} → InitializerAt ts x last from to → (d count seen : ℕ) → ((s1 : ℕ) → Tells bs (initials limits d) ts from s1 (x, last) to) →
        Tells (item_with ts limits count from d bs) (item limits true d (expressions limits (suc d)) (initials limits d) count) ts from seen (x, last) to
    unfolding item
    tells_one_item bs {x = x} {last = last} {from = from} {to = to} v d count seen h =
        let there = first (drop from ts) in
        let fits = fits_in limits count limits.items in
        tells_next ts _ from seen (x, last) to there (if_fits fits code.TooLong there (if_fits (nat_lt 0 d) code.TooNested there (Leave (initials limits d)))) refl
        (ap (λ b. if_fits fits code.TooLong there (if b then if_fits (nat_lt 0 d) code.TooNested there (Leave (initials limits d)) else Refuse)) (item_begins v))
        (tells_item ts limits free from (x, last) to there count d (initials limits d) refl h)

    mutual
      unfolding initials initial list_rest items_rest no_items item_more brace

      pub tells_initial : {x : Initializer} {end : Place} {from to : ℕ} → (s : InitializerAt ts x end from to) → Closes ts to → (d seen : ℕ) → Tells (initial_breaks ts limits s d) (initials limits d) ts from seen (x, end) to
      tells_initial {from = from} {to = to} (t.expression {x = v} r) c zero seen =
          let a : Initial = (i.Expression v, v.place) in
          tells_next ts _ from seen a to (first (drop from ts)) (initial_by limits false zero (expressions limits zero) no_initial (first (drop from ts)) false) refl
          (ap (initial_by limits false zero (expressions limits zero) no_initial (first (drop from ts))) (no_brace _ (expr_begins r)))
          (λ s1. tells_last ts (expressions limits zero) _ from s1 to to (v, expr_height v) a (tells_value r c zero s1) (λ s2. reads_pure ⊥ ts a to s2))
      tells_initial {from = from} {to = to} (t.expression {x = v} r) c (suc d) seen =
          let a : Initial = (i.Expression v, v.place) in
          tells_next ts _ from seen a to (first (drop from ts)) (initial_by limits true d (expressions limits (suc d)) (initials limits d) (first (drop from ts)) false) refl
          (ap (initial_by limits true d (expressions limits (suc d)) (initials limits d) (first (drop from ts))) (no_brace _ (expr_begins r)))
          (λ s1. tells_last ts (expressions limits (suc d)) _ from s1 to to (v, expr_height v) a (tells_value r c (suc d) s1) (λ s2. reads_pure ⊥ ts a to s2))
      tells_initial {from = from} {to = to} (t.braces {x = x} l) c zero seen =
          let s = list_stands l in
          let a : Initial = (i.List x, x.place) in
          tells_first (broken ts code.TooNested from) (list_breaks ts limits l zero) (initials limits zero) ts from seen a to (list_zero limits l)
          (tells_next ts _ from seen a to (Some (record { kind = k.Mark m.OpenBrace; place = brace l; bytes = s.bytes })) (Pass code.TooNested (brace l)) s.is refl (refl, ap place_of (sym s.is)))
      tells_initial {from = from} {to = to} (t.braces {x = x} l) c (suc d) seen =
          let s = list_stands l in
          let a : Initial = (i.List x, x.place) in
          tells_next ts _ from seen a to (Some (record { kind = k.Mark m.OpenBrace; place = brace l; bytes = s.bytes }))
          (Take (list_rest limits true d (expressions limits (suc d)) (initials limits d) (brace l) >>= (λ y. pure (i.List y, y.place)))) s.is refl
          (λ s1. tells_last ts (list_rest limits true d (expressions limits (suc d)) (initials limits d) (brace l)) _ (from + 1) s1 to to x a (tells_list l d s1) (λ s2. reads_pure ⊥ ts a to s2))

      tells_list : {x : ListTree} {from to : ℕ} (l : ListAt ts x from to) (d seen : ℕ) → Tells (list_breaks ts limits l (suc d)) (list_rest limits true d (expressions limits (suc d)) (initials limits d) (brace l)) ts (from + 1) seen x to
      tells_list {from = begin} (t.no_items {p = p} {q = q} s z) d seen =
          let l = listed (span p q) [] in
          let from = begin + 1 in
          tells_next ts _ from seen l (from + 1) (first (drop from ts)) (list_by limits true d (expressions limits (suc d)) (initials limits d) p true) refl
          (ap (list_by limits true d (expressions limits (suc d)) (initials limits d) p) (is_there ts m.CloseBrace from q z))
          (λ s1. tells_then ts (expect m.CloseBrace) _ from s1 (from + 1) (from + 1) q l (reads_expect ⊥ ts m.CloseBrace q from s1 z) (λ s2. tells_reads (pure l) ts (from + 1) s2 l (from + 1) (reads_pure ⊥ ts l (from + 1) s2)))
      tells_list {from = begin} (t.items {mid = mid} {at = at} {p = p} {q = q} {last = last} {x = x} {all = all} s v r z) d seen =
          let l = listed (span p q) all in
          let from = begin + 1 in
          let close = brace_closes q z in
          tells_next ts _ from seen l (at + 1) (first (drop from ts)) (list_by limits true d (expressions limits (suc d)) (initials limits d) p false) refl
          (ap (list_by limits true d (expressions limits (suc d)) (initials limits d) p) (item_no_close v))
          (λ s1. tells_bind ts (item limits true d (expressions limits (suc d)) (initials limits d) 0) _ from s1 mid (at + 1) (x, last) l (tells_one_item (initial_breaks ts limits v d) v d 0 s1 (λ s2. tells_initial v (items_close r close) d s2))
          (λ s2. tells_last ts (turns (sees m.Comma) (item_more limits true d (expressions limits (suc d)) (initials limits d)) limits.turns (x ∷ [])) _ mid s2 at (at + 1) all l
          (tells_items r (not_there ts m.Comma at (k.Mark m.CloseBrace) q z refl) close d limits.turns s2 (omega (arith, long)))
          (λ s3. reads_bind ⊥ ts (expect m.CloseBrace) _ at s3 (at + 1) (at + 1) q l (reads_expect ⊥ ts m.CloseBrace q at s3 z) (λ s4. reads_pure ⊥ ts l (at + 1) s4))))

      tells_items : {xs ys : List Initializer} {from to : ℕ} → (r : MoreItemsAt ts xs ys from to) → IsNot ts m.Comma to → Closes ts to → (d count seen : ℕ) → length ts ≤ from + count →
          Tells (more_items_breaks ts limits r d) (turns (sees m.Comma) (item_more limits true d (expressions limits (suc d)) (initials limits d)) count xs) ts from seen ys to
      tells_items {xs = xs} {from = from} t.end n c d count seen u = tells_turns_end ts (sees m.Comma) (item_more limits true d (expressions limits (suc d)) (initials limits d)) count xs from seen n.is
      tells_items {from = from} (t.more {p = p} s v r) n c d zero seen u = absurd (let h = stands_within ts from (k.Mark m.Comma) p s in omega (arith, h, u))
      tells_items {xs = xs} {ys = ys} {from = from} {to = to} (t.more {mid = mid} {p = p} {last = last} {x = x} s v r) n c d (suc count) seen u =
          let zs = xs ++ x ∷ [] in
          tells_turns_more ts (sees m.Comma) (item_more limits true d (expressions limits (suc d)) (initials limits d)) count xs zs ys from seen mid to (is_there ts m.Comma from p s)
          (λ s1. tells_then ts (expect m.Comma) _ from s1 (from + 1) mid p zs (reads_expect ⊥ ts m.Comma p from s1 s)
          (λ s2. tells_last ts (item limits true d (expressions limits (suc d)) (initials limits d) (length xs)) _ (from + 1) s2 mid mid (x, last) zs
          (tells_one_item (initial_breaks ts limits v d) v d (length xs) s2 (λ s3. tells_initial v (items_close r c) d s3)) (λ s3. reads_pure ⊥ ts zs mid s3)))
          (λ s1. tells_items r n c d count s1 (let h = initializer_moves v in omega (arith, h, u)))

    -- ---- locals

    module _ (d : ℕ) where
      tells_one : {x : LocalName} {end : Place} {from to : ℕ} → (s : LocalNameAt ts x end from to) → Closes ts to → (seen : ℕ) → Tells (local_name_breaks ts limits s d) (one_name limits d) ts from seen (x, end) to
      unfolding one_name
      tells_one {from = from} {to = to} (t.alone {end = end} {x = x} r n) c seen = let a : One = (local_name x None, end) in
          tells_last ts (declared_name limits) _ from seen to to (x, end) a (tells_declared r seen)
          (λ s1. reads_next ⊥ ts _ to s1 a to (first (drop to ts)) (begun_by limits d (x, end) false) refl (ap (begun_by limits d (x, end)) n.is) (λ s2. reads_pure ⊥ ts a to s2))
      tells_one {from = from} {to = to} (t.begun {mid = mid} {p = p} {last = last} {end = end} {x = x} {v = v} r s w) c seen = let a : One = (local_name x (Some v), end) in
          tells_bind ts (declared_name limits) _ from seen mid to (x, last) a (tells_declared r seen)
          (λ s1. tells_next ts _ mid s1 a to (Some (record { kind = k.Mark m.Equal; place = p; bytes = s.bytes })) (begun_by limits d (x, last) true) s.is refl
          (λ s2. tells_last ts (initials limits d) _ (mid + 1) s2 to to (v, end) a (tells_initial w c d s2) (λ s3. reads_pure ⊥ ts a to s3)))

      tells_names : {xs ys : List LocalName} {p q : Place} {from to : ℕ} → (r : MoreLocalNamesAt ts xs ys p q from to) → Closes ts to → (count seen : ℕ) → length ts ≤ from + count →
          Tells (more_names_breaks ts limits r d) (turns (sees m.Comma) (name_more limits d) count (xs, p)) ts from seen (ys, q) to
      unfolding name_more
      tells_names {xs = xs} {p = p} {from = from} (t.end n) c count seen u = tells_turns_end ts (sees m.Comma) (name_more limits d) count (xs, p) from seen n.is
      tells_names {from = from} (t.more {p = p} s v r) c zero seen u = absurd (let h = stands_within ts from (k.Mark m.Comma) p s in omega (arith, h, u))
      tells_names {xs = xs} {ys = ys} {p = last} {q = end} {from = from} {to = to} (t.more {mid = mid} {p = p} {next = next_} {x = x} s v r) c (suc count) seen u =
          let b : Names = (xs ++ x ∷ [], next_) in
          tells_turns_more ts (sees m.Comma) (name_more limits d) count (xs, last) b (ys, end) from seen mid to (is_there ts m.Comma from p s)
          (λ s1. tells_then ts (expect m.Comma) _ from s1 (from + 1) mid p b (reads_expect ⊥ ts m.Comma p from s1 s)
          (λ s2. tells_last ts (one_name limits d) _ (from + 1) s2 mid mid (x, next_) b (tells_one v (names_close r c) s2) (λ s3. reads_pure ⊥ ts b mid s3)))
          (λ s1. tells_names r c count s1 (let h = local_name_moves ts v in omega (arith, h, u)))

      tells_names_rest : {x : LocalName} {last end : Place} {all : List LocalName} {from mid to : ℕ} (begin : Place) (is_const : Bool) (tree : TypeTree) → (v : LocalNameAt ts x last from mid) →
          (r : MoreLocalNamesAt ts (x ∷ []) all last end mid to) → Closes ts to → (seen : ℕ) →
          Tells (local_name_breaks ts limits v d ++ more_names_breaks ts limits r d) (names_rest limits d begin is_const tree) ts from seen (local_of (span begin end) is_const tree all) to
      unfolding names_rest
      tells_names_rest {x = x} {last = last} {end = end} {all = all} {from = from} {mid = mid} {to = to} begin is_const tree v r c seen = let a = local_of (span begin end) is_const tree all in
          tells_bind ts (one_name limits d) _ from seen mid to (x, last) a (tells_one v (names_close r c) seen)
          (λ s1. tells_last ts (turns (sees m.Comma) (name_more limits d) limits.turns (x ∷ [], last)) _ mid s1 to to (all, end) a (tells_names r c limits.turns s1 (omega (arith, long))) (λ s2. reads_pure ⊥ ts a to s2))

      pub tells_variable : {x : LocalName} {last end : Place} {all : List LocalName} {tree : TypeTree} {from mid at to : ℕ} → (y : TypeAt ts tree from mid) → (v : LocalNameAt ts x last mid at) →
          (r : MoreLocalNamesAt ts (x ∷ []) all last end at to) → Closes ts to → (seen : ℕ) → Tells (local_breaks ts limits (t.variable y v r) d) (variable limits d) ts from seen (local_of (span tree.place end) false tree all) to
      unfolding variable
      tells_variable {end = end} {all = all} {tree = tree} {from = from} {mid = mid} {to = to} y v r c seen = let n = local_name_begins v in
          tells_bind ts (types limits d) _ from seen mid to (tree, height tree) (local_of (span tree.place end) false tree all) (tells_type ts limits free long y (quiet_name n.0 n.1) d seen)
          (λ s1. tells_names_rest tree.place false tree v r c s1)

      pub tells_constant : {x : LocalName} {last end : Place} {all : List LocalName} {tree : TypeTree} {from mid at to : ℕ} (begin : Place) → (s : Stands ts from (k.Word w.Const) begin) → (y : TypeAt ts tree (from + 1) mid) → (v : LocalNameAt ts x last mid at) →
          (r : MoreLocalNamesAt ts (x ∷ []) all last end at to) → Closes ts to → (seen : ℕ) → Tells (local_breaks ts limits (t.constant s y v r) d) (constant limits d begin) ts (from + 1) seen (local_of (span begin end) true tree all) to
      unfolding constant
      tells_constant {end = end} {all = all} {tree = tree} {from = from} {mid = mid} {to = to} begin s y v r c seen = let n = local_name_begins v in
          tells_bind ts (types limits d) _ (from + 1) seen mid to (tree, height tree) (local_of (span begin end) true tree all) (tells_type ts limits free long y (quiet_name n.0 n.1) d seen)
          (λ s1. tells_names_rest begin true tree v r c s1)
