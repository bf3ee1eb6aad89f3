-- Declared names, lists and locals: what is spelled within the limits is read.
use Rattle.std.proofs.Common.{Bool, true, false, ◌≡◌, ℕ, zero, suc, ◌+◌, ◌<◌, ◌≤◌, ◌||◌, List, [], ◌∷◌, ◌++◌, drop, length, map, length-append, Option, Some, None, refl, sym, ◌∙◌, ap, if◌then◌else◌, inl, arith}
use Rattle.std.specs.Prelude.{nat_lt}
use Rattle.slang_names.specs.declared.places.Place.{Place}
use Rattle.slang_names.specs.declared.codes.ModuleCode.TheVariants as code
use Rattle.slang_tree.specs.declared.types.Identifier.{Identifier}
use Rattle.slang_tree.specs.declared.types.Term.{Term}
use Rattle.slang_tree.specs.declared.types.TypeTree.{TypeTree}
use Rattle.slang_tree.specs.declared.expressions.ExprTree.{ExprTree}
use Rattle.slang_tree.specs.declared.statements.DeclaredName.{DeclaredName}
use Rattle.slang_tree.specs.declared.statements.Initializer.{Initializer}
use Rattle.slang_tree.specs.declared.statements.Initializer.TheVariants as i
use Rattle.slang_tree.specs.declared.statements.ListTree.{ListTree}
use Rattle.slang_tree.specs.declared.statements.LocalName.{LocalName}
use Rattle.slang_tokens.specs.declared.tokens.Kind.TheVariants as k
use Rattle.slang_tokens.specs.declared.tokens.Mark.TheVariants as m
use Rattle.slang_reading.specs.Lexed.{Lexed}
use Rattle.slang_reading.specs.Reading.{Leave, Take, Refuse, Pass, if_fits, ◌>>=◌, first, pure, turns}
use Rattle.slang_reading.specs.Kinds.{is_mark, sees, span}
use Rattle.slang_reading.proofs.Exact.{Reads, reads_pure, reads_bind, reads_next, reads_fits, reads_turns_end, reads_turns_more, reads_turns_full}
use Rattle.slang_grammar.specs.Standing.{Stands, NameStands, IsNot}
use Rattle.slang_grammar.specs.Types.{TypeAt}
use Rattle.slang_grammar.specs.Heights.{height}
use Rattle.slang_grammar.specs.Expressions.{ExprAt}
use Rattle.slang_grammar.specs.Descent.{Limits, fits_in, expect, name, bracketed}
use Rattle.slang_grammar.specs.TypesDescent.{types}
use Rattle.slang_grammar.specs.ExpressionsDescent.{begins_by, begins, expressions}
use Rattle.statement_grammar.specs.Statements as t
use Rattle.statement_grammar.specs.Statements.{declared, LengthsAt, DeclaredNameAt, listed, InitializerAt, ListAt, MoreItemsAt, local_name, LocalNameAt, MoreLocalNamesAt, local_of, LocalAt}
use Rattle.slang_reading.proofs.Marks.{mark_is}
use Rattle.statement_grammar.specs.StatementsDescent.{Lengths, Named, length_more, declared_name, Initial, item, item_more, items_rest, no_items, list_by, list_rest, initial_by, initial, no_initial, initials, Names, One, begun_by, one_name, name_more, names_rest, variable, constant}
use Rattle.slang_grammar.specs.Heights.{greatest}
use Rattle.slang_grammar.specs.Sizes.{term_name}
use Rattle.slang_grammar.proofs.Limited.{in_limit, room_limit}
use Rattle.slang_grammar.proofs.Shared.{reads_expect, name_within, bracketed_within, not_there, is_there}
use Rattle.slang_grammar.proofs.TypesFitting.{greatest_last}
use Rattle.slang_grammar.proofs.TypesRead.{type_within}
use Rattle.expression_grammar.specs.Heights.{expr_height}
use Rattle.expression_grammar.specs.Sizes.{Fits}
use Rattle.expression_grammar.proofs.Read.{exact_arguments, reads_expr}
use Rattle.statement_grammar.proofs.Begins.{Closes, expr_begins, quiet_name}
use Rattle.statement_grammar.proofs.LocalsRead.{declared_begins}
use Rattle.statement_laws.proofs.Behind.{closes_on}
use Rattle.statement_fits.specs.Sizes.{in_initializer, in_local_name, in_local, Keeps}
use Rattle.statement_fits.proofs.Moves.{Enough, fewer, turns_of, Left, left_all, left_next, left_none, local_name_moves}
use Rattle.statement_fits.proofs.Fitting.{expression_fits, items_fit, items_in, initializer_positive, last_fits, more_items_fit, more_items_in, name_short, lengths_short, name_alone, name_begun, names_fit, local_type, local_names}

-- ---- what stands at an item

-- an expression begins with no brace
no_brace : (x : Option Lexed) → begins x ≡ true → sees m.OpenBrace x ≡ false
no_brace (Some tok) b = by (sees m.OpenBrace (Some tok)) refl
  where
    by : (c : Bool) → sees m.OpenBrace (Some tok) ≡ c → c ≡ false
    by true q = let d = mark_is m.OpenBrace tok.kind q in let z = sym b ∙ ap begins_by d in cc
    by false q = refl
no_brace None b = refl

-- a comma closes what stands before it
comma_closes : {ts : List Lexed} {at : ℕ} (p : Place) → Stands ts at (k.Mark m.Comma) p → Closes ts at
comma_closes p s = record { mark = m.Comma; place = p; is = s; closes = refl }

brace_closes : {ts : List Lexed} {at : ℕ} (p : Place) → Stands ts at (k.Mark m.CloseBrace) p → Closes ts at
brace_closes p s = record { mark = m.CloseBrace; place = p; is = s; closes = refl }

items_close : {ts : List Lexed} {xs ys : List Initializer} {from to : ℕ} → MoreItemsAt ts xs ys from to → Closes ts to → Closes ts from
items_close t.end c = c
items_close (t.more {p = p} s v r) c = comma_closes p s

or_true : (b : Bool) → (b || true) ≡ true
or_true true = refl
or_true false = refl

-- what begins an item
item_begins : {ts : List Lexed} {x : Initializer} {end : Place} {from to : ℕ} → InitializerAt ts x end from to → (sees m.OpenBrace (first (drop from ts)) || begins (first (drop from ts))) ≡ true
item_begins {ts = ts} {from = from} (t.expression r) = ap (λ b. sees m.OpenBrace (first (drop from ts)) || b) (expr_begins r) ∙ or_true _
item_begins {ts = ts} {from = from} (t.braces (t.no_items {p = p} s c)) = ap (λ b. b || begins (first (drop from ts))) (is_there ts m.OpenBrace from p s)
item_begins {ts = ts} {from = from} (t.braces (t.items {p = p} s v r c)) = ap (λ b. b || begins (first (drop from ts))) (is_there ts m.OpenBrace from p s)

item_no_close : {ts : List Lexed} {x : Initializer} {end : Place} {from to : ℕ} → InitializerAt ts x end from to → sees m.CloseBrace (first (drop from ts)) ≡ false
item_no_close {ts = ts} {from = from} v = by (first (drop from ts)) (item_begins v)
  where
    by : (x : Option Lexed) → (sees m.OpenBrace x || begins x) ≡ true → sees m.CloseBrace x ≡ false
    by None b = refl
    by (Some tok) b = test (sees m.CloseBrace (Some tok)) refl
      where
        test : (c : Bool) → sees m.CloseBrace (Some tok) ≡ c → c ≡ false
        test true q = let d = mark_is m.CloseBrace tok.kind q in let z = sym b ∙ ap (λ kind. is_mark m.OpenBrace kind || begins_by kind) d in cc
        test false q = refl

-- ---- lengths

-- each length is short
lengths_fit : {ts : List Lexed} {xs ys : List Term} {p q : Place} {from to : ℕ} → LengthsAt ts xs ys p q from to → (most : ℕ) → greatest (map term_name ys) ≤ most → greatest (map term_name xs) ≤ most
lengths_fit (t.end n) most w = w
lengths_fit (t.more {x = x} {list = xs} s v c r) most w = let h = lengths_fit r most w in omega (arith, h, greatest_last term_name xs x)

length_fits : (xs : List Term) (x : Term) (most : ℕ) → greatest (map term_name (xs ++ x ∷ [])) ≤ most → term_name x ≤ most
length_fits xs x most w = omega (arith, w, greatest_last term_name xs x)

module _ (ts : List Lexed) (limits : Limits) where
  -- ---- declared names

  pub lengths_read : {xs ys : List Term} {p q : Place} {from to : ℕ} → LengthsAt ts xs ys p q from to → (count seen : ℕ) → Left ts count from → greatest (map term_name ys) ≤ limits.names →
      Reads ⊥ (turns (sees m.OpenBracket) (length_more limits) count (xs, p)) ts from seen (ys, q) to
  unfolding length_more
  lengths_read {xs = xs} {p = p} {from = from} (t.end n) count seen u w = reads_turns_end ⊥ ts (sees m.OpenBracket) (length_more limits) count (xs, p) from seen n.is
  lengths_read {xs = xs} {ys = ys} {p = last} {q = end} {from = from} {to = to} (t.more {p = p} s x c r) zero seen u w =
      reads_turns_full ⊥ ts (sees m.OpenBracket) (length_more limits) (xs, last) (ys, end) from seen to (is_there ts m.OpenBracket from p s) (left_none ts from _ s.is u)
  lengths_read {xs = xs} {ys = ys} {p = last} {q = end} {from = from} {to = to} (t.more {p = p} {q = q} {x = x} s v c r) (suc count) seen u w =
      let b : Lengths = (xs ++ x ∷ [], q) in
      reads_turns_more ⊥ ts (sees m.OpenBracket) (length_more limits) count (xs, last) b (ys, end) from seen (from + 1 + 1 + 1) to (is_there ts m.OpenBracket from p s)
      (λ s1. reads_bind ⊥ ts (expect m.OpenBracket) _ from s1 (from + 1) (from + 1 + 1 + 1) p b (reads_expect ⊥ ts m.OpenBracket p from s1 s)
      (λ s2. reads_bind ⊥ ts (bracketed limits) _ (from + 1) s2 (from + 1 + 1) (from + 1 + 1 + 1) x b
      (bracketed_within ⊥ ts limits x (from + 1) s2 (inl (length_fits xs x limits.names (lengths_fit r limits.names w))) v)
      (λ s3. reads_bind ⊥ ts (expect m.CloseBracket) _ (from + 1 + 1) s3 (from + 1 + 1 + 1) (from + 1 + 1 + 1) q b (reads_expect ⊥ ts m.CloseBracket q (from + 1 + 1) s3 c)
      (λ s4. reads_pure ⊥ ts b (from + 1 + 1 + 1) s4))))
      (λ s1. lengths_read r count s1 (left_next ts count from (from + 1 + 1 + 1) (omega arith) u) w)

  pub declared_read : {x : DeclaredName} {end : Place} {from to : ℕ} → DeclaredNameAt ts x end from to → {d : ℕ} → Enough ts limits d → Keeps limits d (λ count. count.of_name x) → (seen : ℕ) →
      Reads ⊥ (declared_name limits) ts from seen (x, end) to
  unfolding declared_name
  declared_read {from = from} {to = to} (t.declared_name {end = end} {id = id} {list = list} s r) {d = d} u w seen =
      let a : Named = (declared id list end, end) in
      reads_bind ⊥ ts (name limits) _ from seen (from + 1) to id a (name_within ⊥ ts limits id from seen (inl (name_short limits d id list end w)) s)
      (λ s1. reads_bind ⊥ ts (turns (sees m.OpenBracket) (length_more limits) limits.turns ([], id.place)) _ (from + 1) s1 to to (list, end) a
      (lengths_read r limits.turns s1 (left_all u (from + 1)) (lengths_short limits d id list end w)) (λ s2. reads_pure ⊥ ts a to s2))

  -- ---- what locals begin with

  pub value_read : {x : ExprTree} {from to : ℕ} → ExprAt ts x from to → Closes ts to → (d seen : ℕ) → Enough ts limits d → Fits limits d x → Reads ⊥ (expressions limits d) ts from seen (x, expr_height x) to
  value_read v c d seen u w = reads_expr ⊥ ts limits (exact_arguments ts limits u.tokens) v (closes_on c) d seen (inl (w, turns_of u))

  -- what something begins with is within the limits, and so are all items of a list
  abbrev pub InitialFits : ℕ → Initializer → Type 0
  InitialFits d x = Keeps limits d (λ count. in_initializer count x)

  abbrev ItemsFit : ℕ → List Initializer → Type 0
  ItemsFit d xs = Keeps limits d (λ count. greatest (map (in_initializer count) xs))

  -- the brace with which a list begins
  brace : {x : ListTree} {from to : ℕ} → ListAt ts x from to → Place
  brace (t.no_items {p = p} s z) = p
  brace (t.items {p = p} s v r z) = p

  list_stands : {x : ListTree} {from to : ℕ} (l : ListAt ts x from to) → Stands ts from (k.Mark m.OpenBrace) (brace l)
  unfolding brace
  list_stands (t.no_items {p = p} s z) = s
  list_stands (t.items {p = p} s v r z) = s

  reads_no_items : (p q : Place) (at : ℕ) → Stands ts at (k.Mark m.CloseBrace) q → (d seen : ℕ) →
      Reads ⊥ (list_rest limits true d (expressions limits (suc d)) (initials limits d) p) ts at seen (listed (span p q) []) (at + 1)
  unfolding list_rest no_items
  reads_no_items p q at z d seen = let l = listed (span p q) [] in
      reads_next ⊥ ts _ at seen l (at + 1) (first (drop at ts)) (list_by limits true d (expressions limits (suc d)) (initials limits d) p true) refl
      (ap (list_by limits true d (expressions limits (suc d)) (initials limits d) p) (is_there ts m.CloseBrace at q z))
      (λ s1. reads_bind ⊥ ts (expect m.CloseBrace) _ at s1 (at + 1) (at + 1) q l (reads_expect ⊥ ts m.CloseBrace q at s1 z) (λ s2. reads_pure ⊥ ts l (at + 1) s2))

  -- an item, where what is in it is read
  reads_item : {x : Initializer} {last : Place} {from to : ℕ} → InitializerAt ts x last from to → (d count seen : ℕ) → count < limits.items → InitialFits d x → ((s1 : ℕ) → Reads ⊥ (initials limits d) ts from s1 (x, last) to) →
      Reads ⊥ (item limits true d (expressions limits (suc d)) (initials limits d) count) ts from seen (x, last) to
  unfolding item
  reads_item {x = x} {last = last} {from = from} {to = to} v d count seen lt w inside =
      let there = first (drop from ts) in
      let fits = fits_in limits count limits.items in
      reads_next ⊥ ts _ from seen (x, last) to there (if_fits fits code.TooLong there (if_fits (nat_lt 0 d) code.TooNested there (Leave (initials limits d)))) refl
      (ap (λ b. if_fits fits code.TooLong there (if b then if_fits (nat_lt 0 d) code.TooNested there (Leave (initials limits d)) else Refuse)) (item_begins v))
      (reads_fits ⊥ ts from (x, last) to there fits code.TooLong (if_fits (nat_lt 0 d) code.TooNested there (Leave (initials limits d))) (in_limit limits count limits.items lt)
      (reads_fits ⊥ ts from (x, last) to there (nat_lt 0 d) code.TooNested (Leave (initials limits d)) (room_limit d (initializer_positive limits v d w)) inside))

  mutual
    unfolding initials initial list_rest items_rest item_more brace

    pub reads_initial : {x : Initializer} {end : Place} {from to : ℕ} → InitializerAt ts x end from to → Closes ts to → (d seen : ℕ) → Enough ts limits d → InitialFits d x → Reads ⊥ (initials limits d) ts from seen (x, end) to
    reads_initial {from = from} {to = to} (t.expression {x = v} r) c zero seen u w = let a : Initial = (i.Expression v, v.place) in
        reads_next ⊥ ts _ from seen a to (first (drop from ts)) (initial_by limits false zero (expressions limits zero) no_initial (first (drop from ts)) false) refl
        (ap (initial_by limits false zero (expressions limits zero) no_initial (first (drop from ts))) (no_brace _ (expr_begins r)))
        (λ s1. reads_bind ⊥ ts (expressions limits zero) _ from s1 to to (v, expr_height v) a (value_read r c zero s1 u (expression_fits limits zero v w)) (λ s2. reads_pure ⊥ ts a to s2))
    reads_initial {from = from} {to = to} (t.expression {x = v} r) c (suc d) seen u w = let a : Initial = (i.Expression v, v.place) in
        reads_next ⊥ ts _ from seen a to (first (drop from ts)) (initial_by limits true d (expressions limits (suc d)) (initials limits d) (first (drop from ts)) false) refl
        (ap (initial_by limits true d (expressions limits (suc d)) (initials limits d) (first (drop from ts))) (no_brace _ (expr_begins r)))
        (λ s1. reads_bind ⊥ ts (expressions limits (suc d)) _ from s1 to to (v, expr_height v) a (value_read r c (suc d) s1 u (expression_fits limits (suc d) v w)) (λ s2. reads_pure ⊥ ts a to s2))
    reads_initial {from = from} {to = to} (t.braces {x = x} l) c zero seen u w = let s = list_stands l in
        reads_next ⊥ ts _ from seen (i.List x, x.place) to (Some (record { kind = k.Mark m.OpenBrace; place = brace l; bytes = s.bytes })) (Pass code.TooNested (brace l)) s.is refl (let h = initializer_positive limits (t.braces l) zero w in omega (arith, h))
    reads_initial {from = from} {to = to} (t.braces {x = x} l) c (suc d) seen u w = let s = list_stands l in
        let a : Initial = (i.List x, x.place) in
        reads_next ⊥ ts _ from seen a to (Some (record { kind = k.Mark m.OpenBrace; place = brace l; bytes = s.bytes }))
        (Take (list_rest limits true d (expressions limits (suc d)) (initials limits d) (brace l) >>= (λ y. pure (i.List y, y.place)))) s.is refl
        (λ s1. reads_bind ⊥ ts (list_rest limits true d (expressions limits (suc d)) (initials limits d) (brace l)) _ (from + 1) s1 to to x a (reads_list l d s1 u w) (λ s2. reads_pure ⊥ ts a to s2))

    reads_list : {x : ListTree} {from to : ℕ} (l : ListAt ts x from to) (d seen : ℕ) → Enough ts limits (suc d) → InitialFits (suc d) (i.List x) → Reads ⊥ (list_rest limits true d (expressions limits (suc d)) (initials limits d) (brace l)) ts (from + 1) seen x to
    reads_list {from = from} (t.no_items {p = p} {q = q} s z) d seen u w = reads_no_items p q (from + 1) z d seen
    reads_list {from = begin} (t.items {mid = mid} {at = at} {p = p} {q = q} {last = last} {x = x} {all = all} s v r z) d seen u w = let l = listed (span p q) all in
        let f = items_fit limits d (span p q) all w in
        let few = items_in limits (suc d) (span p q) all w in
        let one = more_items_in limits r in
        let first_fits = last_fits limits in_initializer d [] x (more_items_fit limits r d f) in
        let from = begin + 1 in
        let close = brace_closes q z in
        reads_next ⊥ ts _ from seen l (at + 1) (first (drop from ts)) (list_by limits true d (expressions limits (suc d)) (initials limits d) p false) refl
        (ap (list_by limits true d (expressions limits (suc d)) (initials limits d) p) (item_no_close v))
        (λ s1. reads_bind ⊥ ts (item limits true d (expressions limits (suc d)) (initials limits d) 0) _ from s1 mid (at + 1) (x, last) l (reads_item v d 0 s1 (omega (arith, few, one)) first_fits (λ s. reads_initial v (items_close r close) d s (fewer u) first_fits))
        (λ s2. reads_bind ⊥ ts (turns (sees m.Comma) (item_more limits true d (expressions limits (suc d)) (initials limits d)) limits.turns (x ∷ [])) _ mid s2 at (at + 1) all l
        (reads_items r (not_there ts m.Comma at (k.Mark m.CloseBrace) q z refl) close d limits.turns s2 (fewer u) f few (let h = u.items in omega (arith, h)))
        (λ s3. reads_bind ⊥ ts (expect m.CloseBrace) _ at s3 (at + 1) (at + 1) q l (reads_expect ⊥ ts m.CloseBrace q at s3 z) (λ s4. reads_pure ⊥ ts l (at + 1) s4))))

    reads_items : {xs ys : List Initializer} {from to : ℕ} → MoreItemsAt ts xs ys from to → IsNot ts m.Comma to → Closes ts to → (d count seen : ℕ) → Enough ts limits d → ItemsFit d ys → length ys ≤ limits.items → limits.items ≤ length xs + count →
        Reads ⊥ (turns (sees m.Comma) (item_more limits true d (expressions limits (suc d)) (initials limits d)) count xs) ts from seen ys to
    reads_items {xs = xs} {from = from} t.end n c d count seen u w few left = reads_turns_end ⊥ ts (sees m.Comma) (item_more limits true d (expressions limits (suc d)) (initials limits d)) count xs from seen n.is
    reads_items {xs = xs} {ys = ys} {from = from} {to = to} (t.more {p = p} {x = x} s v r) n c d zero seen u w few left =
        reads_turns_full ⊥ ts (sees m.Comma) (item_more limits true d (expressions limits (suc d)) (initials limits d)) xs ys from seen to (is_there ts m.Comma from p s) (let h = more_items_in limits r in omega (arith, h, few, left, length-append xs (x ∷ [])))
    reads_items {xs = xs} {ys = ys} {from = from} {to = to} (t.more {mid = mid} {p = p} {last = last} {x = x} s v r) n c d (suc count) seen u w few left =
        let zs = xs ++ x ∷ [] in
        let here = last_fits limits in_initializer d xs x (more_items_fit limits r d w) in
        let one = more_items_in limits r in
        reads_turns_more ⊥ ts (sees m.Comma) (item_more limits true d (expressions limits (suc d)) (initials limits d)) count xs zs ys from seen mid to (is_there ts m.Comma from p s)
        (λ s1. reads_bind ⊥ ts (expect m.Comma) _ from s1 (from + 1) mid p zs (reads_expect ⊥ ts m.Comma p from s1 s)
        (λ s2. reads_bind ⊥ ts (item limits true d (expressions limits (suc d)) (initials limits d) (length xs)) _ (from + 1) s2 mid mid (x, last) zs (reads_item v d (length xs) s2 (omega (arith, few, one, length-append xs (x ∷ []))) here (λ s. reads_initial v (items_close r c) d s u here))
        (λ s3. reads_pure ⊥ ts zs mid s3)))
        (λ s1. reads_items r n c d count s1 u w few (omega (arith, left, length-append xs (x ∷ []))))

  -- ---- locals

  names_close : {xs ys : List LocalName} {p q : Place} {from to : ℕ} → MoreLocalNamesAt ts xs ys p q from to → Closes ts to → Closes ts from
  names_close (t.end n) c = c
  names_close (t.more {p = p} s v r) c = comma_closes p s

  module _ (d : ℕ) (u : Enough ts limits d) where
    reads_one : {x : LocalName} {end : Place} {from to : ℕ} → LocalNameAt ts x end from to → Closes ts to → Keeps limits d (λ count. in_local_name count x) → (seen : ℕ) → Reads ⊥ (one_name limits d) ts from seen (x, end) to
    unfolding one_name
    reads_one {from = from} {to = to} (t.alone {end = end} {x = x} r n) c f seen = let a : One = (local_name x None, end) in
        reads_bind ⊥ ts (declared_name limits) _ from seen to to (x, end) a (declared_read r u (name_alone limits d x None f) seen)
        (λ s1. reads_next ⊥ ts _ to s1 a to (first (drop to ts)) (begun_by limits d (x, end) false) refl (ap (begun_by limits d (x, end)) n.is) (λ s2. reads_pure ⊥ ts a to s2))
    reads_one {from = from} {to = to} (t.begun {mid = mid} {p = p} {last = last} {end = end} {x = x} {v = v} r s w) c f seen = let a : One = (local_name x (Some v), end) in
        reads_bind ⊥ ts (declared_name limits) _ from seen mid to (x, last) a (declared_read r u (name_alone limits d x (Some v) f) seen)
        (λ s1. reads_next ⊥ ts _ mid s1 a to (Some (record { kind = k.Mark m.Equal; place = p; bytes = s.bytes })) (begun_by limits d (x, last) true) s.is refl
        (λ s2. reads_bind ⊥ ts (initials limits d) _ (mid + 1) s2 to to (v, end) a (reads_initial w c d s2 u (name_begun limits d x v f)) (λ s3. reads_pure ⊥ ts a to s3)))

    reads_names : {xs ys : List LocalName} {p q : Place} {from to : ℕ} → MoreLocalNamesAt ts xs ys p q from to → Closes ts to → (count seen : ℕ) → Left ts count from → Keeps limits d (λ count. greatest (map (in_local_name count) ys)) →
        Reads ⊥ (turns (sees m.Comma) (name_more limits d) count (xs, p)) ts from seen (ys, q) to
    unfolding name_more
    reads_names {xs = xs} {p = p} {from = from} (t.end n) c count seen l f = reads_turns_end ⊥ ts (sees m.Comma) (name_more limits d) count (xs, p) from seen n.is
    reads_names {xs = xs} {ys = ys} {p = last} {q = end} {from = from} {to = to} (t.more {p = p} s v r) c zero seen l f =
        reads_turns_full ⊥ ts (sees m.Comma) (name_more limits d) (xs, last) (ys, end) from seen to (is_there ts m.Comma from p s) (left_none ts from _ s.is l)
    reads_names {xs = xs} {ys = ys} {p = last} {q = end} {from = from} {to = to} (t.more {mid = mid} {p = p} {next = next_} {x = x} s v r) c (suc count) seen l f =
        let b : Names = (xs ++ x ∷ [], next_) in
        let moves = local_name_moves ts v in
        reads_turns_more ⊥ ts (sees m.Comma) (name_more limits d) count (xs, last) b (ys, end) from seen mid to (is_there ts m.Comma from p s)
        (λ s1. reads_bind ⊥ ts (expect m.Comma) _ from s1 (from + 1) mid p b (reads_expect ⊥ ts m.Comma p from s1 s)
        (λ s2. reads_bind ⊥ ts (one_name limits d) _ (from + 1) s2 mid mid (x, next_) b (reads_one v (names_close r c) (last_fits limits in_local_name d xs x (names_fit limits r d f)) s2) (λ s3. reads_pure ⊥ ts b mid s3)))
        (λ s1. reads_names r c count s1 (left_next ts count from mid (omega (arith, moves)) l) f)

    reads_names_rest : {x : LocalName} {last end : Place} {all : List LocalName} {from mid to : ℕ} (begin : Place) (is_const : Bool) (tree : TypeTree) → LocalNameAt ts x last from mid →
        MoreLocalNamesAt ts (x ∷ []) all last end mid to → Closes ts to → Keeps limits d (λ count. greatest (map (in_local_name count) all)) → (seen : ℕ) → Reads ⊥ (names_rest limits d begin is_const tree) ts from seen (local_of (span begin end) is_const tree all) to
    unfolding names_rest
    reads_names_rest {x = x} {last = last} {end = end} {all = all} {from = from} {mid = mid} {to = to} begin is_const tree v r c f seen = let a = local_of (span begin end) is_const tree all in
        reads_bind ⊥ ts (one_name limits d) _ from seen mid to (x, last) a (reads_one v (names_close r c) (last_fits limits in_local_name d [] x (names_fit limits r d f)) seen)
        (λ s1. reads_bind ⊥ ts (turns (sees m.Comma) (name_more limits d) limits.turns (x ∷ [], last)) _ mid s1 to to (all, end) a (reads_names r c limits.turns s1 (left_all u mid) f) (λ s2. reads_pure ⊥ ts a to s2))

    local_name_begins : {x : LocalName} {end : Place} {from to : ℕ} → LocalNameAt ts x end from to → (id : Identifier) × NameStands ts from id
    local_name_begins (t.alone r n) = declared_begins r
    local_name_begins (t.begun r s w) = declared_begins r

    pub reads_variable : {x : LocalName} {last end : Place} {all : List LocalName} {tree : TypeTree} {from mid at to : ℕ} → TypeAt ts tree from mid → LocalNameAt ts x last mid at →
        MoreLocalNamesAt ts (x ∷ []) all last end at to → Closes ts to → Keeps limits d (λ count. in_local count (local_of (span tree.place end) false tree all)) → (seen : ℕ) → Reads ⊥ (variable limits d) ts from seen (local_of (span tree.place end) false tree all) to
    unfolding variable
    reads_variable {end = end} {all = all} {tree = tree} {from = from} {mid = mid} {to = to} y v r c f seen = let n = local_name_begins v in
        let all_of = local_of (span tree.place end) false tree all in
        reads_bind ⊥ ts (types limits d) _ from seen mid to (tree, height tree) (local_of (span tree.place end) false tree all) (type_within ⊥ limits y (quiet_name n.0 n.1) d seen (inl (local_type limits d all_of f, turns_of u)))
        (λ s1. reads_names_rest tree.place false tree v r c (local_names limits d all_of f) s1)

    pub reads_constant : {x : LocalName} {last end : Place} {all : List LocalName} {tree : TypeTree} {from mid at to : ℕ} (begin : Place) → TypeAt ts tree from mid → LocalNameAt ts x last mid at →
        MoreLocalNamesAt ts (x ∷ []) all last end at to → Closes ts to → Keeps limits d (λ count. in_local count (local_of (span begin end) true tree all)) → (seen : ℕ) → Reads ⊥ (constant limits d begin) ts from seen (local_of (span begin end) true tree all) to
    unfolding constant
    reads_constant {end = end} {all = all} {tree = tree} {from = from} {mid = mid} {to = to} begin y v r c f seen = let n = local_name_begins v in
        let all_of = local_of (span begin end) true tree all in
        reads_bind ⊥ ts (types limits d) _ from seen mid to (tree, height tree) (local_of (span begin end) true tree all) (type_within ⊥ limits y (quiet_name n.0 n.1) d seen (inl (local_type limits d all_of f, turns_of u)))
        (λ s1. reads_names_rest begin true tree v r c (local_names limits d all_of f) s1)
