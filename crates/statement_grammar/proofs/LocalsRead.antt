-- Declared names, locals and changes: what is spelled is read, but where a limit is passed, if it is so of expressions and
-- of operands.
use Rattle.std.proofs.Common.{Bool, true, false, ◌≡◌, ℕ, zero, suc, ◌+◌, ◌||◌, List, [], ◌∷◌, ◌++◌, drop, length, Option, Some, None, refl, sym, ◌∙◌, ap, subst, if◌then◌else◌}
use Rattle.std.specs.Prelude.{nat_lt}
use Rattle.slang_names.specs.declared.places.Place.{Place}
use Rattle.slang_names.specs.declared.codes.ModuleCode.TheVariants as code
use Rattle.slang_tree.specs.declared.types.Identifier.{Identifier}
use Rattle.slang_tree.specs.declared.types.Term.{Term}
use Rattle.slang_tree.specs.declared.types.TypeTree.{TypeTree}
use Rattle.slang_tree.specs.declared.expressions.BinaryOperator.{BinaryOperator}
use Rattle.slang_tree.specs.declared.expressions.BinaryOperator.TheVariants as op
use Rattle.slang_tree.specs.declared.expressions.ExprTree.{ExprTree}
use Rattle.slang_tree.specs.declared.statements.DeclaredName.{DeclaredName}
use Rattle.slang_tree.specs.declared.statements.Initializer.{Initializer}
use Rattle.slang_tree.specs.declared.statements.Initializer.TheVariants as i
use Rattle.slang_tree.specs.declared.statements.ListTree.{ListTree}
use Rattle.slang_tree.specs.declared.statements.LocalName.{LocalName}
use Rattle.slang_tree.specs.declared.statements.Local.{Local}
use Rattle.slang_tree.specs.declared.statements.Change.{Change}
use Rattle.slang_tokens.specs.declared.tokens.Kind.{Kind}
use Rattle.slang_tokens.specs.declared.tokens.Kind.TheVariants as k
use Rattle.slang_tokens.specs.declared.tokens.Mark.{Mark}
use Rattle.slang_tokens.specs.declared.tokens.Mark.TheVariants as m
use Rattle.slang_tokens.specs.declared.tokens.Word.TheVariants as w
use Rattle.slang_reading.specs.Lexed.{Lexed}
use Rattle.slang_reading.specs.Reading.{Parser, Choice, Leave, Take, Refuse, Pass, if_fits, ◌>>=◌, first, pure, place_of, next, turns}
use Rattle.slang_reading.specs.Kinds.{is_mark, sees, span}
use Rattle.slang_reading.proofs.Marks.{mark_is}
use Rattle.slang_reading.proofs.Exact.{Reads, ReadsChoice, reads_pure, reads_bind, reads_next, reads_fits, reads_turns_end, reads_turns_more, reads_turns_full}
use Rattle.slang_grammar.specs.Standing.{Stands, NameStands, IsNot}
use Rattle.slang_grammar.specs.Types.{TypeAt, TermAt}
use Rattle.slang_grammar.specs.Heights.{height}
use Rattle.slang_grammar.specs.Expressions.{ExprAt, PostfixAt}
use Rattle.slang_grammar.specs.Descent.{Limits, fits_in, expect, name, bracketed}
use Rattle.slang_grammar.specs.TypesDescent.{types}
use Rattle.slang_grammar.specs.ExpressionsDescent.{Value, begins_by, begins, expressions}
use Rattle.slang_grammar.proofs.Shared.{reads_expect, reads_name, reads_bracketed, not_there, is_there}
use Rattle.slang_grammar.proofs.TypesRead.{reads_type}
use Rattle.statement_grammar.specs.Statements as t
use Rattle.statement_grammar.specs.Statements.{declared, LengthsAt, DeclaredNameAt, listed, InitializerAt, ListAt, MoreItemsAt, local_name, LocalNameAt, MoreLocalNamesAt, local_of, LocalAt}
use Rattle.statement_grammar.specs.StatementsDescent.{Lengths, Named, length_more, declared_name, Initial, begins_item, item_of, item, item_more, items_rest, no_items, list_by, list_rest, initial_by, initial, no_initial, initials, Names, One, begun_by, one_name, name_more, names_rest, variable, constant}
use Rattle.statement_grammar.proofs.Begins.{Closes, expr_begins, quiet_name}

-- ---- declared names

module _ (E : Type 0) (e : E) (ts : List Lexed) (limits : Limits) where
  pub reads_lengths : {xs ys : List Term} {p q : Place} {from to : ℕ} → LengthsAt ts xs ys p q from to → (count seen : ℕ) → Reads E (turns (sees m.OpenBracket) (length_more limits) count (xs, p)) ts from seen (ys, q) to
  unfolding length_more
  reads_lengths {xs = xs} {p = p} {from = from} (t.end n) count seen = reads_turns_end E ts (sees m.OpenBracket) (length_more limits) count (xs, p) from seen n.is
  reads_lengths {xs = xs} {ys = ys} {p = last} {q = end} {from = from} {to = to} (t.more {p = p} s x c r) zero seen =
      reads_turns_full E ts (sees m.OpenBracket) (length_more limits) (xs, last) (ys, end) from seen to (is_there ts m.OpenBracket from p s) e
  reads_lengths {xs = xs} {ys = ys} {p = last} {q = end} {from = from} {to = to} (t.more {p = p} {q = q} {x = x} s v c r) (suc count) seen =
      let b : Lengths = (xs ++ x ∷ [], q) in
      reads_turns_more E ts (sees m.OpenBracket) (length_more limits) count (xs, last) b (ys, end) from seen (from + 1 + 1 + 1) to (is_there ts m.OpenBracket from p s)
      (λ s1. reads_bind E ts (expect m.OpenBracket) _ from s1 (from + 1) (from + 1 + 1 + 1) p b (reads_expect E ts m.OpenBracket p from s1 s)
      (λ s2. reads_bind E ts (bracketed limits) _ (from + 1) s2 (from + 1 + 1) (from + 1 + 1 + 1) x b (reads_bracketed E ts e limits x (from + 1) s2 v)
      (λ s3. reads_bind E ts (expect m.CloseBracket) _ (from + 1 + 1) s3 (from + 1 + 1 + 1) (from + 1 + 1 + 1) q b (reads_expect E ts m.CloseBracket q (from + 1 + 1) s3 c)
      (λ s4. reads_pure E ts b (from + 1 + 1 + 1) s4))))
      (λ s1. reads_lengths r count s1)

  pub reads_declared : {x : DeclaredName} {end : Place} {from to : ℕ} → DeclaredNameAt ts x end from to → (seen : ℕ) → Reads E (declared_name limits) ts from seen (x, end) to
  unfolding declared_name
  reads_declared {from = from} {to = to} (t.declared_name {end = end} {id = id} {list = list} s r) seen =
      let a : Named = (declared id list end, end) in
      reads_bind E ts (name limits) _ from seen (from + 1) to id a (reads_name E ts e limits id from seen s)
      (λ s1. reads_bind E ts (turns (sees m.OpenBracket) (length_more limits) limits.turns ([], id.place)) _ (from + 1) s1 to to (list, end) a (reads_lengths r limits.turns s1) (λ s2. reads_pure E ts a to s2))

-- the name with which it begins
pub declared_begins : {ts : List Lexed} {x : DeclaredName} {end : Place} {from to : ℕ} → DeclaredNameAt ts x end from to → (id : Identifier) × NameStands ts from id
declared_begins (t.declared_name {id = id} s r) = (id, s)

-- ---- what locals begin with

-- an expression begins with no brace
no_brace : (x : Option Lexed) → begins x ≡ true → sees m.OpenBrace x ≡ false
no_brace (Some tok) b = by (sees m.OpenBrace (Some tok)) refl
  where
    by : (c : Bool) → sees m.OpenBrace (Some tok) ≡ c → c ≡ false
    by true q = let d = mark_is m.OpenBrace tok.kind q in let z = sym b ∙ ap begins_by d in cc
    by false q = refl
no_brace None b = refl

-- a comma closes what stands before it
comma_closes : {ts : List Lexed} {at : ℕ} (p : Place) → Stands ts at (k.Mark m.Comma) p → Closes ts at
comma_closes p s = record { mark = m.Comma; place = p; is = s; closes = refl }

brace_closes : {ts : List Lexed} {at : ℕ} (p : Place) → Stands ts at (k.Mark m.CloseBrace) p → Closes ts at
brace_closes p s = record { mark = m.CloseBrace; place = p; is = s; closes = refl }

items_close : {ts : List Lexed} {xs ys : List Initializer} {from to : ℕ} → MoreItemsAt ts xs ys from to → Closes ts to → Closes ts from
items_close t.end c = c
items_close (t.more {p = p} s v r) c = comma_closes p s

or_true : (b : Bool) → (b || true) ≡ true
or_true true = refl
or_true false = refl

-- what begins an item
item_begins : {ts : List Lexed} {x : Initializer} {end : Place} {from to : ℕ} → InitializerAt ts x end from to → (sees m.OpenBrace (first (drop from ts)) || begins (first (drop from ts))) ≡ true
item_begins {ts = ts} {from = from} (t.expression r) = ap (λ b. sees m.OpenBrace (first (drop from ts)) || b) (expr_begins r) ∙ or_true _
item_begins {ts = ts} {from = from} (t.braces (t.no_items {p = p} s c)) = ap (λ b. b || begins (first (drop from ts))) (is_there ts m.OpenBrace from p s)
item_begins {ts = ts} {from = from} (t.braces (t.items {p = p} s v r c)) = ap (λ b. b || begins (first (drop from ts))) (is_there ts m.OpenBrace from p s)

item_no_close : {ts : List Lexed} {x : Initializer} {end : Place} {from to : ℕ} → InitializerAt ts x end from to → sees m.CloseBrace (first (drop from ts)) ≡ false
item_no_close {ts = ts} {from = from} v = by (first (drop from ts)) (item_begins v)
  where
    by : (x : Option Lexed) → (sees m.OpenBrace x || begins x) ≡ true → sees m.CloseBrace x ≡ false
    by None b = refl
    by (Some tok) b = test (sees m.CloseBrace (Some tok)) refl
      where
        test : (c : Bool) → sees m.CloseBrace (Some tok) ≡ c → c ≡ false
        test true q = let d = mark_is m.CloseBrace tok.kind q in let z = sym b ∙ ap (λ kind. is_mark m.OpenBrace kind || begins_by kind) d in cc
        test false q = refl

module _ (E : Type 0) (e : E) (ts : List Lexed) (limits : Limits) (tall : ExprTree → ℕ)
    (re : (x : ExprTree) (from to : ℕ) → ExprAt ts x from to → Closes ts to → (d seen : ℕ) → Reads E (expressions limits d) ts from seen (x, tall x) to) where
  -- the brace with which a list begins
  brace : {x : ListTree} {from to : ℕ} → ListAt ts x from to → Place
  brace (t.no_items {p = p} s z) = p
  brace (t.items {p = p} s v r z) = p

  list_stands : {x : ListTree} {from to : ℕ} (l : ListAt ts x from to) → Stands ts from (k.Mark m.OpenBrace) (brace l)
  unfolding brace
  list_stands (t.no_items {p = p} s z) = s
  list_stands (t.items {p = p} s v r z) = s

  reads_no_items : (p q : Place) (at : ℕ) → Stands ts at (k.Mark m.CloseBrace) q → (d seen : ℕ) →
      Reads E (list_rest limits true d (expressions limits (suc d)) (initials limits d) p) ts at seen (listed (span p q) []) (at + 1)
  unfolding list_rest no_items
  reads_no_items p q at z d seen = let l = listed (span p q) [] in
      reads_next E ts _ at seen l (at + 1) (first (drop at ts)) (list_by limits true d (expressions limits (suc d)) (initials limits d) p true) refl
      (ap (list_by limits true d (expressions limits (suc d)) (initials limits d) p) (is_there ts m.CloseBrace at q z))
      (λ s1. reads_bind E ts (expect m.CloseBrace) _ at s1 (at + 1) (at + 1) q l (reads_expect E ts m.CloseBrace q at s1 z) (λ s2. reads_pure E ts l (at + 1) s2))

  -- an item, where what is in it is read
  reads_item : {x : Initializer} {last : Place} {from to : ℕ} → InitializerAt ts x last from to → (d count seen : ℕ) → ((s1 : ℕ) → Reads E (initials limits d) ts from s1 (x, last) to) →
      Reads E (item limits true d (expressions limits (suc d)) (initials limits d) count) ts from seen (x, last) to
  unfolding item
  reads_item {x = x} {last = last} {from = from} {to = to} v d count seen inside =
      let there = first (drop from ts) in
      let fits = fits_in limits count limits.items in
      reads_next E ts _ from seen (x, last) to there (if_fits fits code.TooLong there (if_fits (nat_lt 0 d) code.TooNested there (Leave (initials limits d)))) refl
      (ap (λ b. if_fits fits code.TooLong there (if b then if_fits (nat_lt 0 d) code.TooNested there (Leave (initials limits d)) else Refuse)) (item_begins v))
      (reads_fits E ts from (x, last) to there fits code.TooLong (if_fits (nat_lt 0 d) code.TooNested there (Leave (initials limits d))) (λ f. e)
      (reads_fits E ts from (x, last) to there (nat_lt 0 d) code.TooNested (Leave (initials limits d)) (λ f. e) inside))

  mutual
    unfolding initials initial list_rest items_rest item_more brace

    pub reads_initial : {x : Initializer} {end : Place} {from to : ℕ} → InitializerAt ts x end from to → Closes ts to → (d seen : ℕ) → Reads E (initials limits d) ts from seen (x, end) to
    reads_initial {from = from} {to = to} (t.expression {x = v} r) c zero seen = let a : Initial = (i.Expression v, v.place) in
        reads_next E ts _ from seen a to (first (drop from ts)) (initial_by limits false zero (expressions limits zero) no_initial (first (drop from ts)) false) refl
        (ap (initial_by limits false zero (expressions limits zero) no_initial (first (drop from ts))) (no_brace _ (expr_begins r)))
        (λ s1. reads_bind E ts (expressions limits zero) _ from s1 to to (v, tall v) a (re v from to r c zero s1) (λ s2. reads_pure E ts a to s2))
    reads_initial {from = from} {to = to} (t.expression {x = v} r) c (suc d) seen = let a : Initial = (i.Expression v, v.place) in
        reads_next E ts _ from seen a to (first (drop from ts)) (initial_by limits true d (expressions limits (suc d)) (initials limits d) (first (drop from ts)) false) refl
        (ap (initial_by limits true d (expressions limits (suc d)) (initials limits d) (first (drop from ts))) (no_brace _ (expr_begins r)))
        (λ s1. reads_bind E ts (expressions limits (suc d)) _ from s1 to to (v, tall v) a (re v from to r c (suc d) s1) (λ s2. reads_pure E ts a to s2))
    reads_initial {from = from} {to = to} (t.braces {x = x} l) c zero seen = let s = list_stands l in
        reads_next E ts _ from seen (i.List x, x.place) to (Some (record { kind = k.Mark m.OpenBrace; place = brace l; bytes = s.bytes })) (Pass code.TooNested (brace l)) s.is refl e
    reads_initial {from = from} {to = to} (t.braces {x = x} l) c (suc d) seen = let s = list_stands l in
        let a : Initial = (i.List x, x.place) in
        reads_next E ts _ from seen a to (Some (record { kind = k.Mark m.OpenBrace; place = brace l; bytes = s.bytes }))
        (Take (list_rest limits true d (expressions limits (suc d)) (initials limits d) (brace l) >>= (λ y. pure (i.List y, y.place)))) s.is refl
        (λ s1. reads_bind E ts (list_rest limits true d (expressions limits (suc d)) (initials limits d) (brace l)) _ (from + 1) s1 to to x a (reads_list l d s1) (λ s2. reads_pure E ts a to s2))

    reads_list : {x : ListTree} {from to : ℕ} (l : ListAt ts x from to) (d seen : ℕ) → Reads E (list_rest limits true d (expressions limits (suc d)) (initials limits d) (brace l)) ts (from + 1) seen x to
    reads_list {from = from} (t.no_items {p = p} {q = q} s z) d seen = reads_no_items p q (from + 1) z d seen
    reads_list {from = begin} (t.items {mid = mid} {at = at} {p = p} {q = q} {last = last} {x = x} {all = all} s v r z) d seen = let l = listed (span p q) all in
        let from = begin + 1 in
        let close = brace_closes q z in
        reads_next E ts _ from seen l (at + 1) (first (drop from ts)) (list_by limits true d (expressions limits (suc d)) (initials limits d) p false) refl
        (ap (list_by limits true d (expressions limits (suc d)) (initials limits d) p) (item_no_close v))
        (λ s1. reads_bind E ts (item limits true d (expressions limits (suc d)) (initials limits d) 0) _ from s1 mid (at + 1) (x, last) l (reads_item v d 0 s1 (λ s. reads_initial v (items_close r close) d s))
        (λ s2. reads_bind E ts (turns (sees m.Comma) (item_more limits true d (expressions limits (suc d)) (initials limits d)) limits.turns (x ∷ [])) _ mid s2 at (at + 1) all l
        (reads_items r (not_there ts m.Comma at (k.Mark m.CloseBrace) q z refl) close d limits.turns s2)
        (λ s3. reads_bind E ts (expect m.CloseBrace) _ at s3 (at + 1) (at + 1) q l (reads_expect E ts m.CloseBrace q at s3 z) (λ s4. reads_pure E ts l (at + 1) s4))))

    reads_items : {xs ys : List Initializer} {from to : ℕ} → MoreItemsAt ts xs ys from to → IsNot ts m.Comma to → Closes ts to → (d count seen : ℕ) →
        Reads E (turns (sees m.Comma) (item_more limits true d (expressions limits (suc d)) (initials limits d)) count xs) ts from seen ys to
    reads_items {xs = xs} {from = from} t.end n c d count seen = reads_turns_end E ts (sees m.Comma) (item_more limits true d (expressions limits (suc d)) (initials limits d)) count xs from seen n.is
    reads_items {xs = xs} {ys = ys} {from = from} {to = to} (t.more {p = p} s v r) n c d zero seen =
        reads_turns_full E ts (sees m.Comma) (item_more limits true d (expressions limits (suc d)) (initials limits d)) xs ys from seen to (is_there ts m.Comma from p s) e
    reads_items {xs = xs} {ys = ys} {from = from} {to = to} (t.more {mid = mid} {p = p} {last = last} {x = x} s v r) n c d (suc count) seen =
        let zs = xs ++ x ∷ [] in
        reads_turns_more E ts (sees m.Comma) (item_more limits true d (expressions limits (suc d)) (initials limits d)) count xs zs ys from seen mid to (is_there ts m.Comma from p s)
        (λ s1. reads_bind E ts (expect m.Comma) _ from s1 (from + 1) mid p zs (reads_expect E ts m.Comma p from s1 s)
        (λ s2. reads_bind E ts (item limits true d (expressions limits (suc d)) (initials limits d) (length xs)) _ (from + 1) s2 mid mid (x, last) zs (reads_item v d (length xs) s2 (λ s. reads_initial v (items_close r c) d s))
        (λ s3. reads_pure E ts zs mid s3)))
        (λ s1. reads_items r n c d count s1)

  -- ---- locals

  names_close : {xs ys : List LocalName} {p q : Place} {from to : ℕ} → MoreLocalNamesAt ts xs ys p q from to → Closes ts to → Closes ts from
  names_close (t.end n) c = c
  names_close (t.more {p = p} s v r) c = comma_closes p s

  module _ (d : ℕ) where
    reads_one : {x : LocalName} {end : Place} {from to : ℕ} → LocalNameAt ts x end from to → Closes ts to → (seen : ℕ) → Reads E (one_name limits d) ts from seen (x, end) to
    unfolding one_name
    reads_one {from = from} {to = to} (t.alone {end = end} {x = x} r n) c seen = let a : One = (local_name x None, end) in
        reads_bind E ts (declared_name limits) _ from seen to to (x, end) a (reads_declared E e ts limits r seen)
        (λ s1. reads_next E ts _ to s1 a to (first (drop to ts)) (begun_by limits d (x, end) false) refl (ap (begun_by limits d (x, end)) n.is) (λ s2. reads_pure E ts a to s2))
    reads_one {from = from} {to = to} (t.begun {mid = mid} {p = p} {last = last} {end = end} {x = x} {v = v} r s w) c seen = let a : One = (local_name x (Some v), end) in
        reads_bind E ts (declared_name limits) _ from seen mid to (x, last) a (reads_declared E e ts limits r seen)
        (λ s1. reads_next E ts _ mid s1 a to (Some (record { kind = k.Mark m.Equal; place = p; bytes = s.bytes })) (begun_by limits d (x, last) true) s.is refl
        (λ s2. reads_bind E ts (initials limits d) _ (mid + 1) s2 to to (v, end) a (reads_initial w c d s2) (λ s3. reads_pure E ts a to s3)))

    reads_names : {xs ys : List LocalName} {p q : Place} {from to : ℕ} → MoreLocalNamesAt ts xs ys p q from to → Closes ts to → (count seen : ℕ) →
        Reads E (turns (sees m.Comma) (name_more limits d) count (xs, p)) ts from seen (ys, q) to
    unfolding name_more
    reads_names {xs = xs} {p = p} {from = from} (t.end n) c count seen = reads_turns_end E ts (sees m.Comma) (name_more limits d) count (xs, p) from seen n.is
    reads_names {xs = xs} {ys = ys} {p = last} {q = end} {from = from} {to = to} (t.more {p = p} s v r) c zero seen =
        reads_turns_full E ts (sees m.Comma) (name_more limits d) (xs, last) (ys, end) from seen to (is_there ts m.Comma from p s) e
    reads_names {xs = xs} {ys = ys} {p = last} {q = end} {from = from} {to = to} (t.more {mid = mid} {p = p} {next = next_} {x = x} s v r) c (suc count) seen =
        let b : Names = (xs ++ x ∷ [], next_) in
        reads_turns_more E ts (sees m.Comma) (name_more limits d) count (xs, last) b (ys, end) from seen mid to (is_there ts m.Comma from p s)
        (λ s1. reads_bind E ts (expect m.Comma) _ from s1 (from + 1) mid p b (reads_expect E ts m.Comma p from s1 s)
        (λ s2. reads_bind E ts (one_name limits d) _ (from + 1) s2 mid mid (x, next_) b (reads_one v (names_close r c) s2) (λ s3. reads_pure E ts b mid s3)))
        (λ s1. reads_names r c count s1)

    reads_names_rest : {x : LocalName} {last end : Place} {all : List LocalName} {from mid to : ℕ} (begin : Place) (is_const : Bool) (tree : TypeTree) → LocalNameAt ts x last from mid →
        MoreLocalNamesAt ts (x ∷ []) all last end mid to → Closes ts to → (seen : ℕ) → Reads E (names_rest limits d begin is_const tree) ts from seen (local_of (span begin end) is_const tree all) to
    unfolding names_rest
    reads_names_rest {x = x} {last = last} {end = end} {all = all} {from = from} {mid = mid} {to = to} begin is_const tree v r c seen = let a = local_of (span begin end) is_const tree all in
        reads_bind E ts (one_name limits d) _ from seen mid to (x, last) a (reads_one v (names_close r c) seen)
        (λ s1. reads_bind E ts (turns (sees m.Comma) (name_more limits d) limits.turns (x ∷ [], last)) _ mid s1 to to (all, end) a (reads_names r c limits.turns s1) (λ s2. reads_pure E ts a to s2))

    local_name_begins : {x : LocalName} {end : Place} {from to : ℕ} → LocalNameAt ts x end from to → (id : Identifier) × NameStands ts from id
    local_name_begins (t.alone r n) = declared_begins r
    local_name_begins (t.begun r s w) = declared_begins r

    pub reads_variable : {x : LocalName} {last end : Place} {all : List LocalName} {tree : TypeTree} {from mid at to : ℕ} → TypeAt ts tree from mid → LocalNameAt ts x last mid at →
        MoreLocalNamesAt ts (x ∷ []) all last end at to → Closes ts to → (seen : ℕ) → Reads E (variable limits d) ts from seen (local_of (span tree.place end) false tree all) to
    unfolding variable
    reads_variable {end = end} {all = all} {tree = tree} {from = from} {mid = mid} {to = to} u v r c seen = let n = local_name_begins v in
        reads_bind E ts (types limits d) _ from seen mid to (tree, height tree) (local_of (span tree.place end) false tree all) (reads_type E e limits u (quiet_name n.0 n.1) d seen)
        (λ s1. reads_names_rest tree.place false tree v r c s1)

    pub reads_constant : {x : LocalName} {last end : Place} {all : List LocalName} {tree : TypeTree} {from mid at to : ℕ} (begin : Place) → TypeAt ts tree from mid → LocalNameAt ts x last mid at →
        MoreLocalNamesAt ts (x ∷ []) all last end at to → Closes ts to → (seen : ℕ) → Reads E (constant limits d begin) ts from seen (local_of (span begin end) true tree all) to
    unfolding constant
    reads_constant {end = end} {all = all} {tree = tree} {from = from} {mid = mid} {to = to} begin u v r c seen = let n = local_name_begins v in
        reads_bind E ts (types limits d) _ from seen mid to (tree, height tree) (local_of (span begin end) true tree all) (reads_type E e limits u (quiet_name n.0 n.1) d seen)
        (λ s1. reads_names_rest begin true tree v r c s1)
