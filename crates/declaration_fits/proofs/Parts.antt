-- Parts of declarations: what is spelled within the limits is read.
use Rattle.std.proofs.Common.{max, map, ◌<◌, ◌≤◌, arith, inl, true, false, ◌≡◌, ℕ, zero, suc, ◌+◌, List, [], ◌∷◌, ◌++◌, drop, length, Option, Some, None, refl, ◌∙◌, ap}
use Rattle.slang_names.specs.declared.places.Place.{Place}
use Rattle.slang_names.specs.declared.places.Mode.{Mode}
use Rattle.slang_names.specs.declared.places.Mode.TheVariants as mode
use Rattle.slang_names.specs.declared.codes.ModuleCode.TheVariants as code
use Rattle.slang_tree.specs.declared.types.Identifier.{Identifier}
use Rattle.slang_tree.specs.declared.types.TypeTree.{TypeTree}
use Rattle.slang_tree.specs.declared.statements.DeclaredName.{DeclaredName}
use Rattle.slang_tree.specs.declared.declarations.GenericParameter.{GenericParameter}
use Rattle.slang_tree.specs.declared.declarations.Constraint.{Constraint}
use Rattle.slang_tree.specs.declared.declarations.Parameter.{Parameter}
use Rattle.slang_tokens.specs.declared.tokens.Kind.{Kind}
use Rattle.slang_tokens.specs.declared.tokens.Kind.TheVariants as k
use Rattle.slang_tokens.specs.declared.tokens.Mark.TheVariants as m
use Rattle.slang_tokens.specs.declared.tokens.Word.TheVariants as words
use Rattle.slang_reading.specs.Lexed.{Lexed}
use Rattle.slang_reading.specs.Reading.{Leave, Take, if_fits, first, turns}
use Rattle.slang_reading.specs.Kinds.{sees, sees_word, span}
use Rattle.slang_reading.proofs.Exact.{Reads, reads_pure, reads_bind, reads_next, reads_fits, reads_turns_end, reads_turns_more}
use Rattle.slang_grammar.specs.Standing.{NameStands, IsNot}
use Rattle.slang_grammar.specs.Types.{TypeAt, Quiet}
use Rattle.slang_grammar.proofs.Limited.{excuse_in}
use Rattle.slang_grammar.specs.Heights.{height, greatest}
use Rattle.slang_grammar.specs.Descent.{Limits, fits_in, expect, name, if_short}
use Rattle.slang_grammar.specs.TypesDescent.{types}
use Rattle.slang_grammar.proofs.Shared.{reads_expect, short_within, name_within, not_there, is_there}
use Rattle.slang_grammar.proofs.TypesRead.{type_within}
use Rattle.statement_grammar.specs.Statements.{DeclaredNameAt}
use Rattle.statement_grammar.specs.StatementsDescent.{declared_name}
use Rattle.statement_grammar.proofs.Begins.{quiet_name}
use Rattle.statement_grammar.proofs.LocalsRead.{declared_begins}
use Rattle.declaration_grammar.specs.declared.tables.DeclarationUse.TheVariants as uses
use Rattle.declaration_grammar.specs.Tables.{declaration_use}
use Rattle.declaration_grammar.specs.Parts as t
use Rattle.declaration_grammar.specs.Parts.{access_at, AccessAt, NamesAt, GenericParameterAt, MoreGenericsAt, GenericsAt, HeadsAt, constraint_of, ConstraintAt, ConstraintsAt, PassedAt, SemanticAt, parameter_of, ParameterAt, MoreParametersAt, ParametersAt, ClosedAt}
use Rattle.declaration_grammar.specs.PartsDescent.{expect_word, name_behind, names, bound_by, bound_rest, number_rest, generic, generic_more, generics_rest, generics_by, generics, heads_by, heads, constraint_more, constraints, semantic_by, semantic, parameter_rest, plain_parameter, moded_parameter, plain_as, parameter_word, parameter_by, parameter, parameter_more, some_parameters, parameters_by, parameters}
use Rattle.declaration_laws.proofs.Begins.{typed_mode, begun_not, type_begun}
use Rattle.declaration_laws.proofs.Parts.{reads_expect_word}
use Rattle.statement_fits.specs.Sizes.{Count, optional, lists, Keeps}
use Rattle.statement_fits.proofs.Fitting.{type_fits}
use Rattle.statement_fits.proofs.Moves.{Enough, turns_of, Left, left_all, left_next, left_none}
use Rattle.statement_fits.proofs.Locals.{declared_read}
use Rattle.declaration_fits.specs.Sizes.{in_items, in_each, in_names, in_generic, in_constraint, in_parameter}
use Rattle.declaration_fits.proofs.Moves.{generic_moves, constraint_moves, parameter_moves}
use Rattle.declaration_fits.proofs.Fitting.{Front, whole, longer, left, right, one_keeps, one_in}

module _ (ts : List Lexed) (limits : Limits) (nodes : ℕ) (u : Enough ts limits nodes) where
  -- that is within the limits
  abbrev pub Fit : (Count → ℕ) → Type 0
  Fit f = Keeps limits nodes f

  pub name_read : (id : Identifier) (at seen : ℕ) → NameStands ts at id → Fit (λ count. count.of_identifier id) → Reads ⊥ (name limits) ts at seen id (at + 1)
  name_read id at seen n w = name_within ⊥ ts limits id at seen (inl w.short) n

  -- a type and what is behind it
  pub type_read : {x : TypeTree} {from to : ℕ} → TypeAt ts x from to → Quiet ts to → (seen : ℕ) → Fit (λ count. count.of_type x) → Reads ⊥ (types limits nodes) ts from seen (x, height x) to
  type_read {x = x} r q seen w = type_within ⊥ limits r q nodes seen (inl (type_fits limits nodes x w, turns_of u))

  -- a list that is no longer than the limit
  pub long_in : {A : Type 0} (f : Count → A → ℕ) (xs : List A) → Fit (λ count. in_items count (f count) xs) → length xs ≤ limits.items
  long_in f xs w = let h : max (length xs) (greatest (map (f lists) xs)) ≤ limits.items = w.long in omega (arith, h)

  -- ---- names behind commas

  names_front : {xs ys : List Identifier} {p q : Place} {from to : ℕ} → NamesAt ts xs ys p q from to → Front xs ys
  names_front (t.end n) = whole
  names_front (t.more {id = id} s n r) = longer id (names_front r)

  reads_more_names : {xs ys : List Identifier} {p q : Place} {from to : ℕ} → NamesAt ts xs ys p q from to → (count seen : ℕ) → Left ts count from → Fit (λ count. in_each count count.of_identifier ys) → Reads ⊥ (turns (sees m.Comma) (name_behind limits) count (xs, p)) ts from seen (ys, q) to
  unfolding name_behind
  reads_more_names {xs = xs} {p = p} {from = from} (t.end n) count seen l w = reads_turns_end ⊥ ts (sees m.Comma) (name_behind limits) count (xs, p) from seen n.is
  reads_more_names {from = from} (t.more {p = p} s n r) zero seen l w = absurd (left_none ts from _ s.is l)
  reads_more_names {xs = xs} {ys = ys} {p = last} {q = end} {from = from} {to = to} (t.more {p = p} {id = id} s n r) (suc count) seen l w =
      let b : List Identifier × Place = (xs ++ id ∷ [], id.place) in
      reads_turns_more ⊥ ts (sees m.Comma) (name_behind limits) count (xs, last) b (ys, end) from seen (from + 1 + 1) to (is_there ts m.Comma from p s)
      (λ s1. reads_bind ⊥ ts (expect m.Comma) _ from s1 (from + 1) (from + 1 + 1) p b (reads_expect ⊥ ts m.Comma p from s1 s)
      (λ s2. reads_bind ⊥ ts (name limits) _ (from + 1) s2 (from + 1 + 1) (from + 1 + 1) id b (name_read id (from + 1) s2 n (one_keeps (λ count. count.of_identifier) xs id (names_front r) w)) (λ s3. reads_pure ⊥ ts b (from + 1 + 1) s3)))
      (λ s1. reads_more_names r count s1 (left_next ts count from (from + 1 + 1) (omega arith) l) w)

  pub reads_names : {id : Identifier} {all : List Identifier} {end : Place} {from to : ℕ} → NameStands ts from id → NamesAt ts (id ∷ []) all id.place end (from + 1) to → (seen : ℕ) → Fit (λ count. in_names count all) → Reads ⊥ (names limits) ts from seen (all, end) to
  unfolding names
  reads_names {id = id} {all = all} {end = end} {from = from} {to = to} n r seen w =
      reads_bind ⊥ ts (name limits) _ from seen (from + 1) to id (all, end) (name_read id from seen n (one_keeps (λ count. count.of_identifier) [] id (names_front r) w))
      (λ s1. reads_more_names r limits.turns s1 (left_all u (from + 1)) w)

  -- ---- generic parameters

  reads_generic : {x : GenericParameter} {from to : ℕ} → GenericParameterAt ts x from to → (count seen : ℕ) → count < limits.items → Fit (λ count. in_generic count x) → Reads ⊥ (generic limits count) ts from seen x to
  unfolding generic bound_rest number_rest
  reads_generic {x = x} {from = from} (t.plain {id = id} n c) count seen h v =
      let tok : Lexed = record { kind = k.Name; place = id.place; bytes = id.name } in
      let fits = fits_in limits count limits.items in
      let rest = bound_rest limits id in
      reads_next ⊥ ts _ from seen x (from + 1) (Some tok) (if_fits fits code.TooLong (Some tok) (if_short limits tok (Take rest))) n.is refl
      (reads_fits ⊥ ts from x (from + 1) (Some tok) fits code.TooLong (if_short limits tok (Take rest)) (excuse_in ⊥ limits count limits.items (inl h)) (short_within ⊥ ts limits from x (from + 1) tok (Take rest) (inl (left (λ count. count.of_identifier id) _ v).short)
      (λ s1. reads_next ⊥ ts (λ y. bound_by limits id (sees m.Colon y)) (from + 1) s1 x (from + 1) (first (drop (from + 1) ts)) (bound_by limits id false) refl (ap (bound_by limits id) c.is)
      (λ s2. reads_pure ⊥ ts x (from + 1) s2))))
  reads_generic {x = x} {from = from} (t.bounded {p = p} {id = id} {bound = bound} n c b) count seen h v =
      let tok : Lexed = record { kind = k.Name; place = id.place; bytes = id.name } in
      let fits = fits_in limits count limits.items in
      let rest = bound_rest limits id in
      let to = from + 1 + 1 + 1 in
      reads_next ⊥ ts _ from seen x to (Some tok) (if_fits fits code.TooLong (Some tok) (if_short limits tok (Take rest))) n.is refl
      (reads_fits ⊥ ts from x to (Some tok) fits code.TooLong (if_short limits tok (Take rest)) (excuse_in ⊥ limits count limits.items (inl h)) (short_within ⊥ ts limits from x to tok (Take rest) (inl (left (λ count. count.of_identifier id) _ v).short)
      (λ s1. reads_next ⊥ ts (λ y. bound_by limits id (sees m.Colon y)) (from + 1) s1 x to (Some (record { kind = k.Mark m.Colon; place = p; bytes = c.bytes })) (bound_by limits id true) c.is refl
      (λ s2. reads_bind ⊥ ts (name limits) _ (from + 1 + 1) s2 to to bound x (name_read bound (from + 1 + 1) s2 b (right _ _ v)) (λ s3. reads_pure ⊥ ts x to s3)))))
  reads_generic {x = x} {from = from} (t.number {p = p} {q = q} {r = r} {id = id} s n c i) count seen h v =
      let tok : Lexed = record { kind = k.Word words.Let; place = p; bytes = s.bytes } in
      let fits = fits_in limits count limits.items in
      let mid = from + 1 + 1 + 1 in
      reads_next ⊥ ts _ from seen x (mid + 1) (Some tok) (if_fits fits code.TooLong (Some tok) (Take (number_rest limits p))) s.is refl
      (reads_fits ⊥ ts from x (mid + 1) (Some tok) fits code.TooLong (Take (number_rest limits p)) (excuse_in ⊥ limits count limits.items (inl h))
      (λ s1. reads_bind ⊥ ts (name limits) _ (from + 1) s1 (from + 1 + 1) (mid + 1) id x (name_read id (from + 1) s1 n v)
      (λ s2. reads_bind ⊥ ts (expect m.Colon) _ (from + 1 + 1) s2 mid (mid + 1) q x (reads_expect ⊥ ts m.Colon q (from + 1 + 1) s2 c)
      (λ s3. reads_bind ⊥ ts (expect_word words.Int) _ mid s3 (mid + 1) (mid + 1) r x (reads_expect_word ⊥ ts words.Int r mid s3 i) (λ s4. reads_pure ⊥ ts x (mid + 1) s4)))))

  generics_front : {xs ys : List GenericParameter} {from to : ℕ} → MoreGenericsAt ts xs ys from to → Front xs ys
  generics_front t.end = whole
  generics_front (t.more {x = x} s v r) = longer x (generics_front r)

  reads_more_generics : {xs ys : List GenericParameter} {from to : ℕ} → MoreGenericsAt ts xs ys from to → IsNot ts m.Comma to → (count seen : ℕ) → Left ts count from → Fit (λ count. in_items count (in_generic count) ys) → Reads ⊥ (turns (sees m.Comma) (generic_more limits) count xs) ts from seen ys to
  unfolding generic_more
  reads_more_generics {xs = xs} {from = from} t.end n count seen l w = reads_turns_end ⊥ ts (sees m.Comma) (generic_more limits) count xs from seen n.is
  reads_more_generics {from = from} (t.more s v r) n zero seen l w = absurd (left_none ts from _ s.is l)
  reads_more_generics {xs = xs} {ys = ys} {from = from} {to = to} (t.more {mid = mid} {p = p} {x = x} s v r) n (suc count) seen l w =
      let zs = xs ++ x ∷ [] in
      let moves = generic_moves ts v in
      reads_turns_more ⊥ ts (sees m.Comma) (generic_more limits) count xs zs ys from seen mid to (is_there ts m.Comma from p s)
      (λ s1. reads_bind ⊥ ts (expect m.Comma) _ from s1 (from + 1) mid p zs (reads_expect ⊥ ts m.Comma p from s1 s)
      (λ s2. reads_bind ⊥ ts (generic limits (length xs)) _ (from + 1) s2 mid mid x zs (reads_generic v (length xs) s2 (one_in limits xs x (generics_front r) (long_in in_generic ys w)) (one_keeps in_generic xs x (generics_front r) (right _ _ w))) (λ s3. reads_pure ⊥ ts zs mid s3)))
      (λ s1. reads_more_generics r n count s1 (left_next ts count from mid (omega (arith, moves)) l) w)

  pub reads_generics : {all : List GenericParameter} {from to : ℕ} → GenericsAt ts all from to → (seen : ℕ) → Fit (λ count. in_items count (in_generic count) all) → Reads ⊥ (generics limits) ts from seen all to
  unfolding generics generics_rest
  reads_generics {from = from} (t.no_generics n) seen w = reads_next ⊥ ts (λ x. generics_by limits (sees m.Less x)) from seen [] from (first (drop from ts)) (generics_by limits false) refl
      (ap (generics_by limits) n.is) (λ s1. reads_pure ⊥ ts [] from s1)
  reads_generics {all = all} {from = from} (t.generics {mid = mid} {at = at} {p = p} {q = q} {x = x} o v r c) seen w =
      reads_next ⊥ ts (λ x. generics_by limits (sees m.Less x)) from seen all (at + 1) (Some (record { kind = k.Mark m.Less; place = p; bytes = o.bytes })) (Take (generics_rest limits)) o.is refl
      (λ s1. reads_bind ⊥ ts (generic limits 0) _ (from + 1) s1 mid (at + 1) x all (reads_generic v 0 s1 (one_in limits [] x (generics_front r) (long_in in_generic all w)) (one_keeps in_generic [] x (generics_front r) (right _ _ w)))
      (λ s2. reads_bind ⊥ ts (turns (sees m.Comma) (generic_more limits) limits.turns (x ∷ [])) _ mid s2 at (at + 1) all all (reads_more_generics r (not_there ts m.Comma at (k.Mark m.Greater) q c refl) limits.turns s2 (left_all u mid) w)
      (λ s3. reads_bind ⊥ ts (expect m.Greater) _ at s3 (at + 1) (at + 1) q all (reads_expect ⊥ ts m.Greater q at s3 c) (λ s4. reads_pure ⊥ ts all (at + 1) s4))))

  -- ---- heads and constraints

  pub reads_heads : {all : List Identifier} {from to : ℕ} → HeadsAt ts all from to → (seen : ℕ) → Fit (λ count. in_names count all) → Reads ⊥ (heads limits) ts from seen all to
  unfolding heads
  reads_heads {from = from} (t.no_heads n) seen w = reads_next ⊥ ts (λ x. heads_by limits (sees m.Colon x)) from seen [] from (first (drop from ts)) (heads_by limits false) refl
      (ap (heads_by limits) n.is) (λ s1. reads_pure ⊥ ts [] from s1)
  reads_heads {all = all} {from = from} {to = to} (t.heads {p = p} {end = end} o n r) seen w =
      reads_next ⊥ ts (λ x. heads_by limits (sees m.Colon x)) from seen all to (Some (record { kind = k.Mark m.Colon; place = p; bytes = o.bytes })) (heads_by limits true) o.is refl
      (λ s1. reads_bind ⊥ ts (names limits) _ (from + 1) s1 to to (all, end) all (reads_names n r s1 w) (λ s2. reads_pure ⊥ ts all to s2))

  reads_constraint : (list : List Constraint) {x : Constraint} {from to : ℕ} → ConstraintAt ts x from to → (seen : ℕ) → Fit (λ count. in_constraint count x) → Reads ⊥ (constraint_more limits list) ts from seen (list ++ x ∷ []) to
  unfolding constraint_more
  reads_constraint list {x = x} {from = from} {to = to} (t.constraint {p = p} {q = q} {end = end} {subject = subject} {all = all} o n c i r) seen w =
      let b = list ++ x ∷ [] in
      reads_bind ⊥ ts (expect_word words.Where) _ from seen (from + 1) to p b (reads_expect_word ⊥ ts words.Where p from seen o)
      (λ s1. reads_bind ⊥ ts (name limits) _ (from + 1) s1 (from + 1 + 1) to subject b (name_read subject (from + 1) s1 n (left _ _ w))
      (λ s2. reads_bind ⊥ ts (expect m.Colon) _ (from + 1 + 1) s2 (from + 1 + 1 + 1) to q b (reads_expect ⊥ ts m.Colon q (from + 1 + 1) s2 c)
      (λ s3. reads_bind ⊥ ts (names limits) _ (from + 1 + 1 + 1) s3 to to (all, end) b (reads_names i r s3 (right _ _ w)) (λ s4. reads_pure ⊥ ts b to s4))))

  where_there : {x : Constraint} {from to : ℕ} → ConstraintAt ts x from to → sees_word words.Where (first (drop from ts)) ≡ true
  where_there (t.constraint o n c i r) = ap (sees_word words.Where) o.is

  constraint_none : {x : Constraint} {from to : ℕ} → ConstraintAt ts x from to → Left ts zero from → ⊥
  constraint_none {from = from} (t.constraint o n c i r) l = left_none ts from _ o.is l

  constraints_front : {xs ys : List Constraint} {from to : ℕ} → ConstraintsAt ts xs ys from to → Front xs ys
  constraints_front (t.end n) = whole
  constraints_front (t.more {x = x} v r) = longer x (constraints_front r)

  reads_constraints_from : {xs ys : List Constraint} {from to : ℕ} → ConstraintsAt ts xs ys from to → (count seen : ℕ) → Left ts count from → Fit (λ count. in_each count (in_constraint count) ys) → Reads ⊥ (turns (sees_word words.Where) (constraint_more limits) count xs) ts from seen ys to
  reads_constraints_from {xs = xs} {from = from} (t.end n) count seen l w = reads_turns_end ⊥ ts (sees_word words.Where) (constraint_more limits) count xs from seen n.is
  reads_constraints_from (t.more v r) zero seen l w = absurd (constraint_none v l)
  reads_constraints_from {xs = xs} {ys = ys} {from = from} {to = to} (t.more {mid = mid} {x = x} v r) (suc count) seen l w =
      reads_turns_more ⊥ ts (sees_word words.Where) (constraint_more limits) count xs (xs ++ x ∷ []) ys from seen mid to (where_there v) (λ s1. reads_constraint xs v s1 (one_keeps in_constraint xs x (constraints_front r) w))
      (λ s1. reads_constraints_from r count s1 (left_next ts count from mid (constraint_moves ts v) l) w)

  pub reads_constraints : {all : List Constraint} {from to : ℕ} → ConstraintsAt ts [] all from to → (seen : ℕ) → Fit (λ count. in_each count (in_constraint count) all) → Reads ⊥ (constraints limits) ts from seen all to
  unfolding constraints
  reads_constraints {from = from} r seen w = reads_constraints_from r limits.turns seen (left_all u from) w

  -- ---- parameters

  reads_semantic : {x : Option Identifier} {p q : Place} {from to : ℕ} → SemanticAt ts x p q from to → (seen : ℕ) → Fit (λ count. optional count.of_identifier x) → Reads ⊥ (semantic limits nodes p) ts from seen (x, q) to
  unfolding semantic
  reads_semantic {p = p} {from = from} (t.no_semantic n) seen w = let a : Option Identifier × Place = (None, p) in
      reads_next ⊥ ts (λ x. semantic_by limits nodes p (sees m.Colon x)) from seen a from (first (drop from ts)) (semantic_by limits nodes p false) refl (ap (semantic_by limits nodes p) n.is) (λ s1. reads_pure ⊥ ts a from s1)
  reads_semantic {p = p} {from = from} (t.semantic {q = q} {id = id} c n) seen w = let a : Option Identifier × Place = (Some id, id.place) in
      reads_next ⊥ ts (λ x. semantic_by limits nodes p (sees m.Colon x)) from seen a (from + 1 + 1) (Some (record { kind = k.Mark m.Colon; place = q; bytes = c.bytes })) (semantic_by limits nodes p true) c.is refl
      (λ s1. reads_bind ⊥ ts (name limits) _ (from + 1) s1 (from + 1 + 1) (from + 1 + 1) id a (name_read id (from + 1) s1 n w) (λ s2. reads_pure ⊥ ts a (from + 1 + 1) s2))

  reads_parameter_rest : (begin : Place) (how : Mode) (tree : TypeTree) {last end : Place} {x : DeclaredName} {id : Option Identifier} {from mid to : ℕ} → DeclaredNameAt ts x last from mid → SemanticAt ts id last end mid to → (seen : ℕ) → Fit (λ count. max (count.of_name x) (optional count.of_identifier id)) →
      Reads ⊥ (parameter_rest limits nodes begin how tree) ts from seen (parameter_of (span begin end) how tree x id) to
  unfolding parameter_rest
  reads_parameter_rest begin how tree {last = last} {end = end} {x = x} {id = id} {from = from} {mid = mid} {to = to} v i seen w = let a = parameter_of (span begin end) how tree x id in
      reads_bind ⊥ ts (declared_name limits) _ from seen mid to (x, last) a (declared_read ts limits v u (left _ _ w) seen)
      (λ s1. reads_bind ⊥ ts (semantic limits nodes last) _ mid s1 to to (id, end) a (reads_semantic i s1 (right _ _ w)) (λ s2. reads_pure ⊥ ts a to s2))

  plain_by : (tok : Lexed) (kind : Kind) → declaration_use kind ≡ uses.Typed → parameter_by limits nodes tok kind ≡ Leave (plain_parameter limits nodes)
  plain_by tok k.Name q = refl
  plain_by tok (k.Word word) q = ap (parameter_word limits nodes tok word) (typed_mode word q) ∙ ap (plain_as limits nodes) q
  plain_by tok (k.Number v) q = cc
  plain_by tok k.String q = cc
  plain_by tok (k.Mark mark) q = cc

  reads_parameter : {x : Parameter} {from to : ℕ} → ParameterAt ts x from to → (count seen : ℕ) → count < limits.items → Fit (λ count. in_parameter count x) → Reads ⊥ (parameter limits nodes count) ts from seen x to
  unfolding parameter plain_parameter moded_parameter
  reads_parameter {x = x} {from = from} {to = to} (t.parameter {mid = mid} (t.plain {t = tree} r) v i) count seen h f =
      let b = type_begun r in
      let n = declared_begins v in
      let fits = fits_in limits count limits.items in
      let plain = plain_parameter limits nodes in
      reads_next ⊥ ts _ from seen x to (Some b.tok) (if_fits fits code.TooLong (Some b.tok) (Leave plain)) b.is (ap (if_fits fits code.TooLong (Some b.tok)) (plain_by b.tok b.tok.kind b.serves))
      (reads_fits ⊥ ts from x to (Some b.tok) fits code.TooLong (Leave plain) (excuse_in ⊥ limits count limits.items (inl h))
      (λ s1. reads_bind ⊥ ts (types limits nodes) _ from s1 mid to (tree, height tree) x (type_read r (quiet_name n.0 n.1) s1 (left _ _ f)) (λ s2. reads_parameter_rest tree.place mode.In tree v i s2 (right _ _ f))))
  reads_parameter {x = x} {from = from} {to = to} (t.parameter {mid = mid} (t.moded {p = p} {word = word} {how = how} {t = tree} s q r) v i) count seen h f =
      let tok : Lexed = record { kind = k.Word word; place = p; bytes = s.bytes } in
      let n = declared_begins v in
      let fits = fits_in limits count limits.items in
      let moded = moded_parameter limits nodes p how in
      reads_next ⊥ ts _ from seen x to (Some tok) (if_fits fits code.TooLong (Some tok) (Take moded)) s.is (ap (λ o. if_fits fits code.TooLong (Some tok) (parameter_word limits nodes tok word o)) q)
      (reads_fits ⊥ ts from x to (Some tok) fits code.TooLong (Take moded) (excuse_in ⊥ limits count limits.items (inl h))
      (λ s1. reads_bind ⊥ ts (types limits nodes) _ (from + 1) s1 mid to (tree, height tree) x (type_read r (quiet_name n.0 n.1) s1 (left _ _ f)) (λ s2. reads_parameter_rest p how tree v i s2 (right _ _ f))))

  parameters_front : {xs ys : List Parameter} {from to : ℕ} → MoreParametersAt ts xs ys from to → Front xs ys
  parameters_front t.end = whole
  parameters_front (t.more {x = x} s v r) = longer x (parameters_front r)

  reads_more_parameters : {xs ys : List Parameter} {from to : ℕ} → MoreParametersAt ts xs ys from to → IsNot ts m.Comma to → (count seen : ℕ) → Left ts count from → Fit (λ count. in_items count (in_parameter count) ys) →
      Reads ⊥ (turns (sees m.Comma) (parameter_more limits nodes) count xs) ts from seen ys to
  unfolding parameter_more
  reads_more_parameters {xs = xs} {from = from} t.end n count seen l w = reads_turns_end ⊥ ts (sees m.Comma) (parameter_more limits nodes) count xs from seen n.is
  reads_more_parameters {from = from} (t.more s v r) n zero seen l w = absurd (left_none ts from _ s.is l)
  reads_more_parameters {xs = xs} {ys = ys} {from = from} {to = to} (t.more {mid = mid} {p = p} {x = x} s v r) n (suc count) seen l w =
      let zs = xs ++ x ∷ [] in
      let moves = parameter_moves ts v in
      reads_turns_more ⊥ ts (sees m.Comma) (parameter_more limits nodes) count xs zs ys from seen mid to (is_there ts m.Comma from p s)
      (λ s1. reads_bind ⊥ ts (expect m.Comma) _ from s1 (from + 1) mid p zs (reads_expect ⊥ ts m.Comma p from s1 s)
      (λ s2. reads_bind ⊥ ts (parameter limits nodes (length xs)) _ (from + 1) s2 mid mid x zs (reads_parameter v (length xs) s2 (one_in limits xs x (parameters_front r) (long_in in_parameter ys w)) (one_keeps in_parameter xs x (parameters_front r) (right _ _ w))) (λ s3. reads_pure ⊥ ts zs mid s3)))
      (λ s1. reads_more_parameters r n count s1 (left_next ts count from mid (omega (arith, moves)) l) w)

  no_paren : {x : Parameter} {from to : ℕ} → ParameterAt ts x from to → sees m.CloseParen (first (drop from ts)) ≡ false
  no_paren (t.parameter (t.plain r) v i) = begun_not m.CloseParen (type_begun r) (λ q. cc)
  no_paren (t.parameter (t.moded s q r) v i) = ap (sees m.CloseParen) s.is

  pub reads_parameters : {all : List Parameter} {from to : ℕ} → ParametersAt ts all from to → (seen : ℕ) → Fit (λ count. in_items count (in_parameter count) all) → Reads ⊥ (parameters limits nodes) ts from seen all to
  unfolding parameters some_parameters
  reads_parameters {from = from} (t.no_parameters {p = p} {q = q} o c) seen w =
      reads_bind ⊥ ts (expect m.OpenParen) _ from seen (from + 1) (from + 1 + 1) p [] (reads_expect ⊥ ts m.OpenParen p from seen o)
      (λ s1. reads_next ⊥ ts (λ x. parameters_by limits nodes (sees m.CloseParen x)) (from + 1) s1 [] (from + 1 + 1) (first (drop (from + 1) ts)) (parameters_by limits nodes true) refl
      (ap (parameters_by limits nodes) (is_there ts m.CloseParen (from + 1) q c))
      (λ s2. reads_bind ⊥ ts (expect m.CloseParen) _ (from + 1) s2 (from + 1 + 1) (from + 1 + 1) q [] (reads_expect ⊥ ts m.CloseParen q (from + 1) s2 c) (λ s3. reads_pure ⊥ ts [] (from + 1 + 1) s3)))
  reads_parameters {all = all} {from = from} (t.parameters {mid = mid} {at = at} {p = p} {q = q} {x = x} o v r c) seen w =
      reads_bind ⊥ ts (expect m.OpenParen) _ from seen (from + 1) (at + 1) p all (reads_expect ⊥ ts m.OpenParen p from seen o)
      (λ s1. reads_next ⊥ ts (λ x. parameters_by limits nodes (sees m.CloseParen x)) (from + 1) s1 all (at + 1) (first (drop (from + 1) ts)) (parameters_by limits nodes false) refl
      (ap (parameters_by limits nodes) (no_paren v))
      (λ s2. reads_bind ⊥ ts (parameter limits nodes 0) _ (from + 1) s2 mid (at + 1) x all (reads_parameter v 0 s2 (one_in limits [] x (parameters_front r) (long_in in_parameter all w)) (one_keeps in_parameter [] x (parameters_front r) (right _ _ w)))
      (λ s3. reads_bind ⊥ ts (turns (sees m.Comma) (parameter_more limits nodes) limits.turns (x ∷ [])) _ mid s3 at (at + 1) all all
      (reads_more_parameters r (not_there ts m.Comma at (k.Mark m.CloseParen) q c refl) limits.turns s3 (left_all u mid) w)
      (λ s4. reads_bind ⊥ ts (expect m.CloseParen) _ at s4 (at + 1) (at + 1) q all (reads_expect ⊥ ts m.CloseParen q at s4 c) (λ s5. reads_pure ⊥ ts all (at + 1) s5)))))
