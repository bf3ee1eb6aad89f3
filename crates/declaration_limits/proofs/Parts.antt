-- Parts of declarations: the first limit that is broken is told.
use Rattle.std.proofs.Common.{◌≤◌, arith, true, false, ◌≡◌, ℕ, zero, suc, ◌+◌, List, [], ◌∷◌, ◌++◌, drop, length, Option, Some, None, refl, ◌∙◌, ap}
use Rattle.std.specs.Prelude.{nat_lt}
use Rattle.slang_names.specs.declared.places.Place.{Place}
use Rattle.slang_names.specs.declared.places.Mode.{Mode}
use Rattle.slang_names.specs.declared.places.Mode.TheVariants as mode
use Rattle.slang_names.specs.declared.codes.ModuleCode.TheVariants as code
use Rattle.slang_tree.specs.declared.types.Identifier.{Identifier}
use Rattle.slang_tree.specs.declared.types.TypeTree.{TypeTree}
use Rattle.slang_tree.specs.declared.statements.DeclaredName.{DeclaredName}
use Rattle.slang_tree.specs.declared.declarations.GenericParameter.{GenericParameter}
use Rattle.slang_tree.specs.declared.declarations.Constraint.{Constraint}
use Rattle.slang_tree.specs.declared.declarations.Parameter.{Parameter}
use Rattle.slang_tokens.specs.declared.tokens.Kind.{Kind}
use Rattle.slang_tokens.specs.declared.tokens.Kind.TheVariants as k
use Rattle.slang_tokens.specs.declared.tokens.Mark.TheVariants as m
use Rattle.slang_tokens.specs.declared.tokens.Word.TheVariants as words
use Rattle.slang_reading.specs.Lexed.{Lexed}
use Rattle.slang_reading.specs.Reading.{Leave, Take, if_fits, first, turns}
use Rattle.slang_reading.specs.Kinds.{sees, sees_word, span}
use Rattle.slang_reading.proofs.Exact.{reads_pure, reads_bind, reads_next}
use Rattle.slang_grammar.specs.Standing.{NameStands, IsNot}
use Rattle.slang_grammar.specs.Heights.{height}
use Rattle.slang_grammar.specs.Descent.{Limits, fits_in, expect, name, if_short}
use Rattle.slang_grammar.specs.TypesDescent.{types}
use Rattle.slang_grammar.proofs.Shared.{reads_expect, not_there, is_there}
use Rattle.statement_grammar.specs.Statements.{DeclaredNameAt}
use Rattle.statement_grammar.specs.StatementsDescent.{declared_name}
use Rattle.statement_grammar.proofs.Begins.{quiet_name}
use Rattle.statement_grammar.proofs.LocalsRead.{declared_begins}
use Rattle.declaration_grammar.specs.declared.tables.DeclarationUse.TheVariants as uses
use Rattle.declaration_grammar.specs.Tables.{declaration_use}
use Rattle.declaration_grammar.specs.Parts as t
use Rattle.declaration_grammar.specs.Parts.{NamesAt, GenericParameterAt, MoreGenericsAt, GenericsAt, HeadsAt, ConstraintAt, constraint_of, ConstraintsAt, SemanticAt, parameter_of, ParameterAt, MoreParametersAt, ParametersAt}
use Rattle.declaration_grammar.specs.PartsDescent.{expect_word, name_behind, names, bound_by, bound_rest, number_rest, generic, generic_more, generics_rest, generics_by, generics, heads_by, heads, constraint_more, constraints, semantic_by, semantic, parameter_rest, plain_parameter, moded_parameter, plain_as, parameter_word, parameter_by, parameter, parameter_more, some_parameters, parameters_by, parameters}
use Rattle.declaration_laws.proofs.Begins.{typed_mode, begun_not, type_begun}
use Rattle.declaration_laws.proofs.Parts.{reads_expect_word}
use Rattle.statement_fits.proofs.Moves.{Left, left_next, left_none}
use Rattle.declaration_fits.proofs.Moves.{generic_moves, constraint_moves, parameter_moves}
use Rattle.expression_limits.specs.Breaks.{name_there}
use Rattle.expression_limits.proofs.Telling.{Tells, tells_reads, tells_bind, tells_then, tells_last, tells_next, tells_take, fits_is, tells_turns_end, tells_turns_more}
use Rattle.expression_limits.proofs.Types.{tells_name, tells_type}
use Rattle.statement_limits.specs.Locals.{declared_breaks}
use Rattle.statement_limits.proofs.Locals.{tells_declared}
use Rattle.declaration_limits.specs.Parts.{names_breaks, generic_behind, more_generics_breaks, generics_breaks, heads_breaks, constraint_breaks, constraints_breaks, semantic_breaks, parameter_behind, more_parameters_breaks, parameters_breaks}
use Rattle.declaration_limits.proofs.Telling.{tells_leave, tells_behind_name, tells_behind_named}

module _ (ts : List Lexed) (limits : Limits) (free : limits.free ≡ false) (long : length ts ≤ limits.turns) where
  pub all_left : (at : ℕ) → Left ts limits.turns at
  all_left at = omega (arith, long)

  -- ---- names behind commas

  tells_more_names : {xs ys : List Identifier} {p q : Place} {from to : ℕ} → (s : NamesAt ts xs ys p q from to) → (count seen : ℕ) → Left ts count from →
      Tells (names_breaks ts limits s) (turns (sees m.Comma) (name_behind limits) count (xs, p)) ts from seen (ys, q) to
  unfolding name_behind
  tells_more_names {xs = xs} {p = p} {from = from} (t.end n) count seen l = tells_turns_end ts (sees m.Comma) (name_behind limits) count (xs, p) from seen n.is
  tells_more_names {from = from} (t.more {p = p} s n r) zero seen l = absurd (left_none ts from _ s.is l)
  tells_more_names {xs = xs} {ys = ys} {p = last} {q = end} {from = from} {to = to} (t.more {p = p} {id = id} s n r) (suc count) seen l =
      let b : List Identifier × Place = (xs ++ id ∷ [], id.place) in
      tells_turns_more ts (sees m.Comma) (name_behind limits) count (xs, last) b (ys, end) from seen (from + 1 + 1) to (is_there ts m.Comma from p s)
      (λ s1. tells_then ts (expect m.Comma) _ from s1 (from + 1) (from + 1 + 1) p b (reads_expect ⊥ ts m.Comma p from s1 s)
      (λ s2. tells_last ts (name limits) _ (from + 1) s2 (from + 1 + 1) (from + 1 + 1) id b (tells_name ts limits free id (from + 1) s2 n) (λ s3. reads_pure ⊥ ts b (from + 1 + 1) s3)))
      (λ s1. tells_more_names r count s1 (left_next ts count from (from + 1 + 1) (omega arith) l))

  pub tells_names : {id : Identifier} {all : List Identifier} {end : Place} {from to : ℕ} → NameStands ts from id → (s : NamesAt ts (id ∷ []) all id.place end (from + 1) to) → (seen : ℕ) →
      Tells (name_there ts limits id from ++ names_breaks ts limits s) (names limits) ts from seen (all, end) to
  unfolding names
  tells_names {id = id} {all = all} {end = end} {from = from} {to = to} n r seen =
      tells_bind ts (name limits) _ from seen (from + 1) to id (all, end) (tells_name ts limits free id from seen n)
      (λ s1. tells_more_names r limits.turns s1 (all_left (from + 1)))

  -- ---- generic parameters

  tells_generic : {x : GenericParameter} {from to : ℕ} → (s : GenericParameterAt ts x from to) → (count seen : ℕ) → Tells (generic_behind ts limits s count) (generic limits count) ts from seen x to
  unfolding generic bound_rest number_rest
  tells_generic {x = x} {from = from} (t.plain {id = id} n c) count seen =
      let tok : Lexed = record { kind = k.Name; place = id.place; bytes = id.name } in
      let fits = fits_in limits count limits.items in
      let rest = bound_rest limits id in
      tells_next ts _ from seen x (from + 1) (Some tok) (if_fits fits code.TooLong (Some tok) (if_short limits tok (Take rest))) n.is refl
      (tells_behind_named ts limits free id from x (from + 1) count rest n
      (λ s1. reads_next ⊥ ts (λ y. bound_by limits id (sees m.Colon y)) (from + 1) s1 x (from + 1) (first (drop (from + 1) ts)) (bound_by limits id false) refl (ap (bound_by limits id) c.is)
      (λ s2. reads_pure ⊥ ts x (from + 1) s2)))
  tells_generic {x = x} {from = from} (t.bounded {p = p} {id = id} {bound = bound} n c b) count seen =
      let tok : Lexed = record { kind = k.Name; place = id.place; bytes = id.name } in
      let fits = fits_in limits count limits.items in
      let rest = bound_rest limits id in
      let to = from + 1 + 1 + 1 in
      tells_next ts _ from seen x to (Some tok) (if_fits fits code.TooLong (Some tok) (if_short limits tok (Take rest))) n.is refl
      (tells_behind_name ts limits free id from x to count rest n
      (λ s1. tells_next ts (λ y. bound_by limits id (sees m.Colon y)) (from + 1) s1 x to (Some (record { kind = k.Mark m.Colon; place = p; bytes = c.bytes })) (bound_by limits id true) c.is refl
      (λ s2. tells_last ts (name limits) _ (from + 1 + 1) s2 to to bound x (tells_name ts limits free bound (from + 1 + 1) s2 b) (λ s3. reads_pure ⊥ ts x to s3))))
  tells_generic {x = x} {from = from} (t.number {p = p} {q = q} {r = r} {id = id} s n c i) count seen =
      let tok : Lexed = record { kind = k.Word words.Let; place = p; bytes = s.bytes } in
      let fits = fits_in limits count limits.items in
      let mid = from + 1 + 1 + 1 in
      tells_next ts _ from seen x (mid + 1) (Some tok) (if_fits fits code.TooLong (Some tok) (Take (number_rest limits p))) s.is refl
      (tells_take ts from x (mid + 1) tok fits (nat_lt count limits.items) code.TooLong (number_rest limits p) s.is (fits_is limits free count limits.items)
      (λ s1. tells_last ts (name limits) _ (from + 1) s1 (from + 1 + 1) (mid + 1) id x (tells_name ts limits free id (from + 1) s1 n)
      (λ s2. reads_bind ⊥ ts (expect m.Colon) _ (from + 1 + 1) s2 mid (mid + 1) q x (reads_expect ⊥ ts m.Colon q (from + 1 + 1) s2 c)
      (λ s3. reads_bind ⊥ ts (expect_word words.Int) _ mid s3 (mid + 1) (mid + 1) r x (reads_expect_word ⊥ ts words.Int r mid s3 i) (λ s4. reads_pure ⊥ ts x (mid + 1) s4)))))

  tells_more_generics : {xs ys : List GenericParameter} {from to : ℕ} → (s : MoreGenericsAt ts xs ys from to) → IsNot ts m.Comma to → (count seen : ℕ) → Left ts count from →
      Tells (more_generics_breaks ts limits s) (turns (sees m.Comma) (generic_more limits) count xs) ts from seen ys to
  unfolding generic_more
  tells_more_generics {xs = xs} {from = from} t.end n count seen l = tells_turns_end ts (sees m.Comma) (generic_more limits) count xs from seen n.is
  tells_more_generics {from = from} (t.more s v r) n zero seen l = absurd (left_none ts from _ s.is l)
  tells_more_generics {xs = xs} {ys = ys} {from = from} {to = to} (t.more {mid = mid} {p = p} {x = x} s v r) n (suc count) seen l =
      let zs = xs ++ x ∷ [] in
      let moves = generic_moves ts v in
      tells_turns_more ts (sees m.Comma) (generic_more limits) count xs zs ys from seen mid to (is_there ts m.Comma from p s)
      (λ s1. tells_then ts (expect m.Comma) _ from s1 (from + 1) mid p zs (reads_expect ⊥ ts m.Comma p from s1 s)
      (λ s2. tells_last ts (generic limits (length xs)) _ (from + 1) s2 mid mid x zs (tells_generic v (length xs) s2) (λ s3. reads_pure ⊥ ts zs mid s3)))
      (λ s1. tells_more_generics r n count s1 (left_next ts count from mid (omega (arith, moves)) l))

  pub tells_generics : {all : List GenericParameter} {from to : ℕ} → (s : GenericsAt ts all from to) → (seen : ℕ) → Tells (generics_breaks ts limits s) (generics limits) ts from seen all to
  unfolding generics generics_rest
  tells_generics {from = from} (t.no_generics n) seen = tells_next ts (λ x. generics_by limits (sees m.Less x)) from seen [] from (first (drop from ts)) (generics_by limits false) refl
      (ap (generics_by limits) n.is) (λ s1. tells_reads _ ts from s1 [] from (reads_pure ⊥ ts [] from s1))
  tells_generics {all = all} {from = from} (t.generics {mid = mid} {at = at} {p = p} {q = q} {x = x} o v r c) seen =
      tells_next ts (λ x. generics_by limits (sees m.Less x)) from seen all (at + 1) (Some (record { kind = k.Mark m.Less; place = p; bytes = o.bytes })) (Take (generics_rest limits)) o.is refl
      (λ s1. tells_bind ts (generic limits 0) _ (from + 1) s1 mid (at + 1) x all (tells_generic v 0 s1)
      (λ s2. tells_last ts (turns (sees m.Comma) (generic_more limits) limits.turns (x ∷ [])) _ mid s2 at (at + 1) all all (tells_more_generics r (not_there ts m.Comma at (k.Mark m.Greater) q c refl) limits.turns s2 (all_left mid))
      (λ s3. reads_bind ⊥ ts (expect m.Greater) _ at s3 (at + 1) (at + 1) q all (reads_expect ⊥ ts m.Greater q at s3 c) (λ s4. reads_pure ⊥ ts all (at + 1) s4))))

  -- ---- heads and constraints

  pub tells_heads : {all : List Identifier} {from to : ℕ} → (s : HeadsAt ts all from to) → (seen : ℕ) → Tells (heads_breaks ts limits s) (heads limits) ts from seen all to
  unfolding heads
  tells_heads {from = from} (t.no_heads n) seen = tells_next ts (λ x. heads_by limits (sees m.Colon x)) from seen [] from (first (drop from ts)) (heads_by limits false) refl
      (ap (heads_by limits) n.is) (λ s1. tells_reads _ ts from s1 [] from (reads_pure ⊥ ts [] from s1))
  tells_heads {all = all} {from = from} {to = to} (t.heads {p = p} {end = end} o n r) seen =
      tells_next ts (λ x. heads_by limits (sees m.Colon x)) from seen all to (Some (record { kind = k.Mark m.Colon; place = p; bytes = o.bytes })) (heads_by limits true) o.is refl
      (λ s1. tells_last ts (names limits) _ (from + 1) s1 to to (all, end) all (tells_names n r s1) (λ s2. reads_pure ⊥ ts all to s2))

  tells_constraint : (list : List Constraint) {x : Constraint} {from to : ℕ} → (s : ConstraintAt ts x from to) → (seen : ℕ) → Tells (constraint_breaks ts limits s) (constraint_more limits list) ts from seen (list ++ x ∷ []) to
  unfolding constraint_more
  tells_constraint list {x = x} {from = from} {to = to} (t.constraint {p = p} {q = q} {end = end} {subject = subject} {all = all} o n c i r) seen =
      let b = list ++ x ∷ [] in
      tells_then ts (expect_word words.Where) _ from seen (from + 1) to p b (reads_expect_word ⊥ ts words.Where p from seen o)
      (λ s1. tells_bind ts (name limits) _ (from + 1) s1 (from + 1 + 1) to subject b (tells_name ts limits free subject (from + 1) s1 n)
      (λ s2. tells_then ts (expect m.Colon) _ (from + 1 + 1) s2 (from + 1 + 1 + 1) to q b (reads_expect ⊥ ts m.Colon q (from + 1 + 1) s2 c)
      (λ s3. tells_last ts (names limits) _ (from + 1 + 1 + 1) s3 to to (all, end) b (tells_names i r s3) (λ s4. reads_pure ⊥ ts b to s4))))

  where_there : {x : Constraint} {from to : ℕ} → ConstraintAt ts x from to → sees_word words.Where (first (drop from ts)) ≡ true
  where_there (t.constraint o n c i r) = ap (sees_word words.Where) o.is

  constraint_none : {x : Constraint} {from to : ℕ} → ConstraintAt ts x from to → Left ts zero from → ⊥
  constraint_none {from = from} (t.constraint o n c i r) l = left_none ts from _ o.is l

  tells_constraints_from : {xs ys : List Constraint} {from to : ℕ} → (s : ConstraintsAt ts xs ys from to) → (count seen : ℕ) → Left ts count from →
      Tells (constraints_breaks ts limits s) (turns (sees_word words.Where) (constraint_more limits) count xs) ts from seen ys to
  tells_constraints_from {xs = xs} {from = from} (t.end n) count seen l = tells_turns_end ts (sees_word words.Where) (constraint_more limits) count xs from seen n.is
  tells_constraints_from (t.more v r) zero seen l = absurd (constraint_none v l)
  tells_constraints_from {xs = xs} {ys = ys} {from = from} {to = to} (t.more {mid = mid} {x = x} v r) (suc count) seen l =
      tells_turns_more ts (sees_word words.Where) (constraint_more limits) count xs (xs ++ x ∷ []) ys from seen mid to (where_there v) (λ s1. tells_constraint xs v s1)
      (λ s1. tells_constraints_from r count s1 (left_next ts count from mid (constraint_moves ts v) l))

  pub tells_constraints : {all : List Constraint} {from to : ℕ} → (s : ConstraintsAt ts [] all from to) → (seen : ℕ) → Tells (constraints_breaks ts limits s) (constraints limits) ts from seen all to
  unfolding constraints
  tells_constraints {from = from} r seen = tells_constraints_from r limits.turns seen (all_left from)

  -- ---- parameters

  module _ (nodes : ℕ) where
    tells_semantic : {x : Option Identifier} {p q : Place} {from to : ℕ} → (s : SemanticAt ts x p q from to) → (seen : ℕ) → Tells (semantic_breaks ts limits s) (semantic limits nodes p) ts from seen (x, q) to
    unfolding semantic
    tells_semantic {p = p} {from = from} (t.no_semantic n) seen = let a : Option Identifier × Place = (None, p) in
        tells_next ts (λ x. semantic_by limits nodes p (sees m.Colon x)) from seen a from (first (drop from ts)) (semantic_by limits nodes p false) refl (ap (semantic_by limits nodes p) n.is)
        (λ s1. tells_reads _ ts from s1 a from (reads_pure ⊥ ts a from s1))
    tells_semantic {p = p} {from = from} (t.semantic {q = q} {id = id} c n) seen = let a : Option Identifier × Place = (Some id, id.place) in
        tells_next ts (λ x. semantic_by limits nodes p (sees m.Colon x)) from seen a (from + 1 + 1) (Some (record { kind = k.Mark m.Colon; place = q; bytes = c.bytes })) (semantic_by limits nodes p true) c.is refl
        (λ s1. tells_last ts (name limits) _ (from + 1) s1 (from + 1 + 1) (from + 1 + 1) id a (tells_name ts limits free id (from + 1) s1 n) (λ s2. reads_pure ⊥ ts a (from + 1 + 1) s2))

    tells_parameter_rest : (begin : Place) (how : Mode) (tree : TypeTree) {last end : Place} {x : DeclaredName} {id : Option Identifier} {from mid to : ℕ} → (v : DeclaredNameAt ts x last from mid) → (i : SemanticAt ts id last end mid to) → (seen : ℕ) →
        Tells (declared_breaks ts limits v ++ semantic_breaks ts limits i) (parameter_rest limits nodes begin how tree) ts from seen (parameter_of (span begin end) how tree x id) to
    unfolding parameter_rest
    tells_parameter_rest begin how tree {last = last} {end = end} {x = x} {id = id} {from = from} {mid = mid} {to = to} v i seen = let a = parameter_of (span begin end) how tree x id in
        tells_bind ts (declared_name limits) _ from seen mid to (x, last) a (tells_declared ts limits free long v seen)
        (λ s1. tells_last ts (semantic limits nodes last) _ mid s1 to to (id, end) a (tells_semantic i s1) (λ s2. reads_pure ⊥ ts a to s2))

    plain_by : (tok : Lexed) (kind : Kind) → declaration_use kind ≡ uses.Typed → parameter_by limits nodes tok kind ≡ Leave (plain_parameter limits nodes)
    plain_by tok k.Name q = refl
    plain_by tok (k.Word word) q = ap (parameter_word limits nodes tok word) (typed_mode word q) ∙ ap (plain_as limits nodes) q
    plain_by tok (k.Number v) q = cc
    plain_by tok k.String q = cc
    plain_by tok (k.Mark mark) q = cc

    tells_parameter : {x : Parameter} {from to : ℕ} → (s : ParameterAt ts x from to) → (count seen : ℕ) → Tells (parameter_behind ts limits s count nodes) (parameter limits nodes count) ts from seen x to
    unfolding parameter plain_parameter moded_parameter
    tells_parameter {x = x} {from = from} {to = to} (t.parameter {mid = mid} (t.plain {t = tree} r) v i) count seen =
        let b = type_begun r in
        let n = declared_begins v in
        let fits = fits_in limits count limits.items in
        let plain = plain_parameter limits nodes in
        tells_next ts _ from seen x to (Some b.tok) (if_fits fits code.TooLong (Some b.tok) (Leave plain)) b.is (ap (if_fits fits code.TooLong (Some b.tok)) (plain_by b.tok b.tok.kind b.serves))
        (tells_leave ts from x to (Some b.tok) fits (nat_lt count limits.items) code.TooLong plain b.is (fits_is limits free count limits.items)
        (λ s1. tells_bind ts (types limits nodes) _ from s1 mid to (tree, height tree) x (tells_type ts limits free long r (quiet_name n.0 n.1) nodes s1) (λ s2. tells_parameter_rest tree.place mode.In tree v i s2)))
    tells_parameter {x = x} {from = from} {to = to} (t.parameter {mid = mid} (t.moded {p = p} {word = word} {how = how} {t = tree} s q r) v i) count seen =
        let tok : Lexed = record { kind = k.Word word; place = p; bytes = s.bytes } in
        let n = declared_begins v in
        let fits = fits_in limits count limits.items in
        let moded = moded_parameter limits nodes p how in
        tells_next ts _ from seen x to (Some tok) (if_fits fits code.TooLong (Some tok) (Take moded)) s.is (ap (λ o. if_fits fits code.TooLong (Some tok) (parameter_word limits nodes tok word o)) q)
        (tells_take ts from x to tok fits (nat_lt count limits.items) code.TooLong moded s.is (fits_is limits free count limits.items)
        (λ s1. tells_bind ts (types limits nodes) _ (from + 1) s1 mid to (tree, height tree) x (tells_type ts limits free long r (quiet_name n.0 n.1) nodes s1) (λ s2. tells_parameter_rest p how tree v i s2)))

    tells_more_parameters : {xs ys : List Parameter} {from to : ℕ} → (s : MoreParametersAt ts xs ys from to) → IsNot ts m.Comma to → (count seen : ℕ) → Left ts count from →
        Tells (more_parameters_breaks ts limits s nodes) (turns (sees m.Comma) (parameter_more limits nodes) count xs) ts from seen ys to
    unfolding parameter_more
    tells_more_parameters {xs = xs} {from = from} t.end n count seen l = tells_turns_end ts (sees m.Comma) (parameter_more limits nodes) count xs from seen n.is
    tells_more_parameters {from = from} (t.more s v r) n zero seen l = absurd (left_none ts from _ s.is l)
    tells_more_parameters {xs = xs} {ys = ys} {from = from} {to = to} (t.more {mid = mid} {p = p} {x = x} s v r) n (suc count) seen l =
        let zs = xs ++ x ∷ [] in
        let moves = parameter_moves ts v in
        tells_turns_more ts (sees m.Comma) (parameter_more limits nodes) count xs zs ys from seen mid to (is_there ts m.Comma from p s)
        (λ s1. tells_then ts (expect m.Comma) _ from s1 (from + 1) mid p zs (reads_expect ⊥ ts m.Comma p from s1 s)
        (λ s2. tells_last ts (parameter limits nodes (length xs)) _ (from + 1) s2 mid mid x zs (tells_parameter v (length xs) s2) (λ s3. reads_pure ⊥ ts zs mid s3)))
        (λ s1. tells_more_parameters r n count s1 (left_next ts count from mid (omega (arith, moves)) l))

    no_paren : {x : Parameter} {from to : ℕ} → ParameterAt ts x from to → sees m.CloseParen (first (drop from ts)) ≡ false
    no_paren (t.parameter (t.plain r) v i) = begun_not m.CloseParen (type_begun r) (λ q. cc)
    no_paren (t.parameter (t.moded s q r) v i) = ap (sees m.CloseParen) s.is

    pub tells_parameters : {all : List Parameter} {from to : ℕ} → (s : ParametersAt ts all from to) → (seen : ℕ) → Tells (parameters_breaks ts limits s nodes) (parameters limits nodes) ts from seen all to
    unfolding parameters some_parameters
    tells_parameters {from = from} (t.no_parameters {p = p} {q = q} o c) seen = tells_reads _ ts from seen [] (from + 1 + 1)
        (reads_bind ⊥ ts (expect m.OpenParen) _ from seen (from + 1) (from + 1 + 1) p [] (reads_expect ⊥ ts m.OpenParen p from seen o)
        (λ s1. reads_next ⊥ ts (λ x. parameters_by limits nodes (sees m.CloseParen x)) (from + 1) s1 [] (from + 1 + 1) (first (drop (from + 1) ts)) (parameters_by limits nodes true) refl
        (ap (parameters_by limits nodes) (is_there ts m.CloseParen (from + 1) q c))
        (λ s2. reads_bind ⊥ ts (expect m.CloseParen) _ (from + 1) s2 (from + 1 + 1) (from + 1 + 1) q [] (reads_expect ⊥ ts m.CloseParen q (from + 1) s2 c) (λ s3. reads_pure ⊥ ts [] (from + 1 + 1) s3))))
    tells_parameters {all = all} {from = from} (t.parameters {mid = mid} {at = at} {p = p} {q = q} {x = x} o v r c) seen =
        tells_then ts (expect m.OpenParen) _ from seen (from + 1) (at + 1) p all (reads_expect ⊥ ts m.OpenParen p from seen o)
        (λ s1. tells_next ts (λ x. parameters_by limits nodes (sees m.CloseParen x)) (from + 1) s1 all (at + 1) (first (drop (from + 1) ts)) (parameters_by limits nodes false) refl
        (ap (parameters_by limits nodes) (no_paren v))
        (λ s2. tells_bind ts (parameter limits nodes 0) _ (from + 1) s2 mid (at + 1) x all (tells_parameter v 0 s2)
        (λ s3. tells_last ts (turns (sees m.Comma) (parameter_more limits nodes) limits.turns (x ∷ [])) _ mid s3 at (at + 1) all all
        (tells_more_parameters r (not_there ts m.Comma at (k.Mark m.CloseParen) q c refl) limits.turns s3 (all_left mid))
        (λ s4. reads_bind ⊥ ts (expect m.CloseParen) _ at s4 (at + 1) (at + 1) q all (reads_expect ⊥ ts m.CloseParen q at s4 c) (λ s5. reads_pure ⊥ ts all (at + 1) s5)))))
