-- Parts of declarations: what is spelled is read, but where a limit is passed.
use Rattle.std.proofs.Common.{true, false, ◌≡◌, ℕ, zero, suc, ◌+◌, List, [], ◌∷◌, ◌++◌, drop, length, if◌then◌else◌, Option, Some, None, refl, ◌∙◌, ap}
use Rattle.slang_names.specs.declared.places.Place.{Place}
use Rattle.slang_names.specs.declared.places.Access.{Access}
use Rattle.slang_names.specs.declared.places.Mode.{Mode}
use Rattle.slang_names.specs.declared.places.Mode.TheVariants as mode
use Rattle.slang_names.specs.declared.codes.ModuleCode.TheVariants as code
use Rattle.slang_tree.specs.declared.types.Identifier.{Identifier}
use Rattle.slang_tree.specs.declared.types.TypeTree.{TypeTree}
use Rattle.slang_tree.specs.declared.statements.DeclaredName.{DeclaredName}
use Rattle.slang_tree.specs.declared.declarations.GenericParameter.{GenericParameter}
use Rattle.slang_tree.specs.declared.declarations.Constraint.{Constraint}
use Rattle.slang_tree.specs.declared.declarations.Parameter.{Parameter}
use Rattle.slang_tokens.specs.declared.tokens.Kind.{Kind}
use Rattle.slang_tokens.specs.declared.tokens.Kind.TheVariants as k
use Rattle.slang_tokens.specs.declared.tokens.Mark.TheVariants as m
use Rattle.slang_tokens.specs.declared.tokens.Word.{Word}
use Rattle.slang_tokens.specs.declared.tokens.Word.TheVariants as w
use Rattle.slang_reading.specs.Lexed.{Lexed}
use Rattle.slang_reading.specs.Reading.{Leave, Take, Refuse, if_fits, first, pure, turns}
use Rattle.slang_reading.specs.Kinds.{sees, sees_word, span}
use Rattle.slang_reading.proofs.Marks.{word_sees}
use Rattle.slang_reading.proofs.Exact.{Reads, reads_pure, reads_bind, reads_next, reads_fits, reads_turns_end, reads_turns_more, reads_turns_full}
use Rattle.slang_grammar.specs.Standing.{Stands, NameStands, IsNot}
use Rattle.slang_grammar.specs.Heights.{height}
use Rattle.slang_grammar.specs.Descent.{Limits, fits_in, expect, name, if_short}
use Rattle.slang_grammar.specs.TypesDescent.{types}
use Rattle.slang_grammar.proofs.Shared.{reads_expect, reads_name, reads_short, not_there, is_there}
use Rattle.slang_grammar.proofs.TypesRead.{reads_type}
use Rattle.statement_grammar.specs.Statements.{DeclaredNameAt}
use Rattle.statement_grammar.specs.StatementsDescent.{declared_name}
use Rattle.statement_grammar.proofs.Begins.{quiet_name}
use Rattle.statement_grammar.proofs.LocalsRead.{reads_declared, declared_begins}
use Rattle.declaration_grammar.specs.declared.tables.DeclarationUse.TheVariants as u
use Rattle.declaration_grammar.specs.Tables.{declaration_use}
use Rattle.declaration_grammar.specs.Parts as t
use Rattle.declaration_grammar.specs.Parts.{access_at, AccessAt, NamesAt, GenericParameterAt, MoreGenericsAt, GenericsAt, HeadsAt, constraint_of, ConstraintAt, ConstraintsAt, PassedAt, SemanticAt, parameter_of, ParameterAt, MoreParametersAt, ParametersAt, ClosedAt}
use Rattle.declaration_grammar.specs.PartsDescent.{word_expected, expect_word, accessed, access, name_behind, names, bound_by, bound_rest, number_rest, generic, generic_more, generics_rest, generics_by, generics, heads_by, heads, constraint_more, constraints, semantic_by, semantic, parameter_rest, plain_parameter, moded_parameter, plain_as, parameter_word, parameter_by, parameter, parameter_more, some_parameters, parameters_by, parameters, closed_by, closed}
use Rattle.declaration_laws.proofs.Begins.{typed_mode, begun_not, type_begun}

-- ---- words

module _ (E : Type 0) (ts : List Lexed) where
  pub reads_expect_word : (word : Word) (p : Place) (at seen : ℕ) → Stands ts at (k.Word word) p → Reads E (expect_word word) ts at seen p (at + 1)
  unfolding expect_word
  reads_expect_word word p at seen s = reads_next E ts (word_expected word) at seen p (at + 1) (Some (record { kind = k.Word word; place = p; bytes = s.bytes })) (Take (pure p)) s.is
      (ap (λ b. if b then Take (pure p) else Refuse) (word_sees word (record { kind = k.Word word; place = p; bytes = s.bytes }) refl)) (λ s1. reads_pure E ts p (at + 1) s1)

  pub reads_access : {a : Option Access} {from to : ℕ} → AccessAt ts a from to → (seen : ℕ) → Reads E access ts from seen a to
  unfolding access
  reads_access {from = from} (t.no_access n) seen = reads_next E ts (λ x. accessed (access_at x)) from seen None from (first (drop from ts)) (Leave (pure None)) refl (ap accessed n) (λ s1. reads_pure E ts None from s1)
  reads_access {from = from} (t.access {p = p} {word = word} {a = a} s q) seen =
      reads_next E ts (λ x. accessed (access_at x)) from seen (Some a) (from + 1) (Some (record { kind = k.Word word; place = p; bytes = s.bytes })) (Take (pure (Some a))) s.is (ap accessed q) (λ s1. reads_pure E ts (Some a) (from + 1) s1)

  pub reads_closed : {p : Place} {from to : ℕ} → ClosedAt ts p from to → (seen : ℕ) → Reads E closed ts from seen p to
  unfolding closed
  reads_closed {p = p} {from = from} (t.brace c n) seen = reads_bind E ts (expect m.CloseBrace) _ from seen (from + 1) (from + 1) p p (reads_expect E ts m.CloseBrace p from seen c)
      (λ s1. reads_next E ts (λ x. closed_by p x (sees m.Semicolon x)) (from + 1) s1 p (from + 1) (first (drop (from + 1) ts)) (Leave (pure p)) refl (ap (closed_by p (first (drop (from + 1) ts))) n.is) (λ s2. reads_pure E ts p (from + 1) s2))
  reads_closed {from = from} (t.semicolon {p = p} {q = q} c z) seen = reads_bind E ts (expect m.CloseBrace) _ from seen (from + 1) (from + 1 + 1) p q (reads_expect E ts m.CloseBrace p from seen c)
      (λ s1. reads_next E ts (λ x. closed_by p x (sees m.Semicolon x)) (from + 1) s1 q (from + 1 + 1) (Some (record { kind = k.Mark m.Semicolon; place = q; bytes = z.bytes })) (Take (pure q)) z.is refl (λ s2. reads_pure E ts q (from + 1 + 1) s2))

-- E holds, and any limit may be passed
module _ (E : Type 0) (e : E) (ts : List Lexed) (limits : Limits) where
  -- ---- names behind commas

  reads_more_names : {xs ys : List Identifier} {p q : Place} {from to : ℕ} → NamesAt ts xs ys p q from to → (count seen : ℕ) → Reads E (turns (sees m.Comma) (name_behind limits) count (xs, p)) ts from seen (ys, q) to
  unfolding name_behind
  reads_more_names {xs = xs} {p = p} {from = from} (t.end n) count seen = reads_turns_end E ts (sees m.Comma) (name_behind limits) count (xs, p) from seen n.is
  reads_more_names {xs = xs} {ys = ys} {p = last} {q = end} {from = from} {to = to} (t.more {p = p} s n r) zero seen =
      reads_turns_full E ts (sees m.Comma) (name_behind limits) (xs, last) (ys, end) from seen to (is_there ts m.Comma from p s) e
  reads_more_names {xs = xs} {ys = ys} {p = last} {q = end} {from = from} {to = to} (t.more {p = p} {id = id} s n r) (suc count) seen =
      let b : List Identifier × Place = (xs ++ id ∷ [], id.place) in
      reads_turns_more E ts (sees m.Comma) (name_behind limits) count (xs, last) b (ys, end) from seen (from + 1 + 1) to (is_there ts m.Comma from p s)
      (λ s1. reads_bind E ts (expect m.Comma) _ from s1 (from + 1) (from + 1 + 1) p b (reads_expect E ts m.Comma p from s1 s)
      (λ s2. reads_bind E ts (name limits) _ (from + 1) s2 (from + 1 + 1) (from + 1 + 1) id b (reads_name E ts e limits id (from + 1) s2 n) (λ s3. reads_pure E ts b (from + 1 + 1) s3)))
      (λ s1. reads_more_names r count s1)

  pub reads_names : {id : Identifier} {all : List Identifier} {end : Place} {from to : ℕ} → NameStands ts from id → NamesAt ts (id ∷ []) all id.place end (from + 1) to → (seen : ℕ) → Reads E (names limits) ts from seen (all, end) to
  unfolding names
  reads_names {id = id} {all = all} {end = end} {from = from} {to = to} n r seen =
      reads_bind E ts (name limits) _ from seen (from + 1) to id (all, end) (reads_name E ts e limits id from seen n) (λ s1. reads_more_names r limits.turns s1)

  -- ---- generic parameters

  reads_generic : {x : GenericParameter} {from to : ℕ} → GenericParameterAt ts x from to → (count seen : ℕ) → Reads E (generic limits count) ts from seen x to
  unfolding generic bound_rest number_rest
  reads_generic {x = x} {from = from} (t.plain {id = id} n c) count seen =
      let tok : Lexed = record { kind = k.Name; place = id.place; bytes = id.name } in
      let fits = fits_in limits count limits.items in
      let rest = bound_rest limits id in
      reads_next E ts _ from seen x (from + 1) (Some tok) (if_fits fits code.TooLong (Some tok) (if_short limits tok (Take rest))) n.is refl
      (reads_fits E ts from x (from + 1) (Some tok) fits code.TooLong (if_short limits tok (Take rest)) (λ f. e) (reads_short E ts e limits from x (from + 1) tok (Take rest)
      (λ s1. reads_next E ts (λ y. bound_by limits id (sees m.Colon y)) (from + 1) s1 x (from + 1) (first (drop (from + 1) ts)) (bound_by limits id false) refl (ap (bound_by limits id) c.is)
      (λ s2. reads_pure E ts x (from + 1) s2))))
  reads_generic {x = x} {from = from} (t.bounded {p = p} {id = id} {bound = bound} n c b) count seen =
      let tok : Lexed = record { kind = k.Name; place = id.place; bytes = id.name } in
      let fits = fits_in limits count limits.items in
      let rest = bound_rest limits id in
      let to = from + 1 + 1 + 1 in
      reads_next E ts _ from seen x to (Some tok) (if_fits fits code.TooLong (Some tok) (if_short limits tok (Take rest))) n.is refl
      (reads_fits E ts from x to (Some tok) fits code.TooLong (if_short limits tok (Take rest)) (λ f. e) (reads_short E ts e limits from x to tok (Take rest)
      (λ s1. reads_next E ts (λ y. bound_by limits id (sees m.Colon y)) (from + 1) s1 x to (Some (record { kind = k.Mark m.Colon; place = p; bytes = c.bytes })) (bound_by limits id true) c.is refl
      (λ s2. reads_bind E ts (name limits) _ (from + 1 + 1) s2 to to bound x (reads_name E ts e limits bound (from + 1 + 1) s2 b) (λ s3. reads_pure E ts x to s3)))))
  reads_generic {x = x} {from = from} (t.number {p = p} {q = q} {r = r} {id = id} s n c i) count seen =
      let tok : Lexed = record { kind = k.Word w.Let; place = p; bytes = s.bytes } in
      let fits = fits_in limits count limits.items in
      let mid = from + 1 + 1 + 1 in
      reads_next E ts _ from seen x (mid + 1) (Some tok) (if_fits fits code.TooLong (Some tok) (Take (number_rest limits p))) s.is refl
      (reads_fits E ts from x (mid + 1) (Some tok) fits code.TooLong (Take (number_rest limits p)) (λ f. e)
      (λ s1. reads_bind E ts (name limits) _ (from + 1) s1 (from + 1 + 1) (mid + 1) id x (reads_name E ts e limits id (from + 1) s1 n)
      (λ s2. reads_bind E ts (expect m.Colon) _ (from + 1 + 1) s2 mid (mid + 1) q x (reads_expect E ts m.Colon q (from + 1 + 1) s2 c)
      (λ s3. reads_bind E ts (expect_word w.Int) _ mid s3 (mid + 1) (mid + 1) r x (reads_expect_word E ts w.Int r mid s3 i) (λ s4. reads_pure E ts x (mid + 1) s4)))))

  reads_more_generics : {xs ys : List GenericParameter} {from to : ℕ} → MoreGenericsAt ts xs ys from to → IsNot ts m.Comma to → (count seen : ℕ) → Reads E (turns (sees m.Comma) (generic_more limits) count xs) ts from seen ys to
  unfolding generic_more
  reads_more_generics {xs = xs} {from = from} t.end n count seen = reads_turns_end E ts (sees m.Comma) (generic_more limits) count xs from seen n.is
  reads_more_generics {xs = xs} {ys = ys} {from = from} {to = to} (t.more {p = p} s v r) n zero seen = reads_turns_full E ts (sees m.Comma) (generic_more limits) xs ys from seen to (is_there ts m.Comma from p s) e
  reads_more_generics {xs = xs} {ys = ys} {from = from} {to = to} (t.more {mid = mid} {p = p} {x = x} s v r) n (suc count) seen =
      let zs = xs ++ x ∷ [] in
      reads_turns_more E ts (sees m.Comma) (generic_more limits) count xs zs ys from seen mid to (is_there ts m.Comma from p s)
      (λ s1. reads_bind E ts (expect m.Comma) _ from s1 (from + 1) mid p zs (reads_expect E ts m.Comma p from s1 s)
      (λ s2. reads_bind E ts (generic limits (length xs)) _ (from + 1) s2 mid mid x zs (reads_generic v (length xs) s2) (λ s3. reads_pure E ts zs mid s3)))
      (λ s1. reads_more_generics r n count s1)

  pub reads_generics : {all : List GenericParameter} {from to : ℕ} → GenericsAt ts all from to → (seen : ℕ) → Reads E (generics limits) ts from seen all to
  unfolding generics generics_rest
  reads_generics {from = from} (t.no_generics n) seen = reads_next E ts (λ x. generics_by limits (sees m.Less x)) from seen [] from (first (drop from ts)) (generics_by limits false) refl
      (ap (generics_by limits) n.is) (λ s1. reads_pure E ts [] from s1)
  reads_generics {all = all} {from = from} (t.generics {mid = mid} {at = at} {p = p} {q = q} {x = x} o v r c) seen =
      reads_next E ts (λ x. generics_by limits (sees m.Less x)) from seen all (at + 1) (Some (record { kind = k.Mark m.Less; place = p; bytes = o.bytes })) (Take (generics_rest limits)) o.is refl
      (λ s1. reads_bind E ts (generic limits 0) _ (from + 1) s1 mid (at + 1) x all (reads_generic v 0 s1)
      (λ s2. reads_bind E ts (turns (sees m.Comma) (generic_more limits) limits.turns (x ∷ [])) _ mid s2 at (at + 1) all all (reads_more_generics r (not_there ts m.Comma at (k.Mark m.Greater) q c refl) limits.turns s2)
      (λ s3. reads_bind E ts (expect m.Greater) _ at s3 (at + 1) (at + 1) q all (reads_expect E ts m.Greater q at s3 c) (λ s4. reads_pure E ts all (at + 1) s4))))

  -- ---- heads and constraints

  pub reads_heads : {all : List Identifier} {from to : ℕ} → HeadsAt ts all from to → (seen : ℕ) → Reads E (heads limits) ts from seen all to
  unfolding heads
  reads_heads {from = from} (t.no_heads n) seen = reads_next E ts (λ x. heads_by limits (sees m.Colon x)) from seen [] from (first (drop from ts)) (heads_by limits false) refl
      (ap (heads_by limits) n.is) (λ s1. reads_pure E ts [] from s1)
  reads_heads {all = all} {from = from} {to = to} (t.heads {p = p} {end = end} o n r) seen =
      reads_next E ts (λ x. heads_by limits (sees m.Colon x)) from seen all to (Some (record { kind = k.Mark m.Colon; place = p; bytes = o.bytes })) (heads_by limits true) o.is refl
      (λ s1. reads_bind E ts (names limits) _ (from + 1) s1 to to (all, end) all (reads_names n r s1) (λ s2. reads_pure E ts all to s2))

  reads_constraint : (list : List Constraint) {x : Constraint} {from to : ℕ} → ConstraintAt ts x from to → (seen : ℕ) → Reads E (constraint_more limits list) ts from seen (list ++ x ∷ []) to
  unfolding constraint_more
  reads_constraint list {x = x} {from = from} {to = to} (t.constraint {p = p} {q = q} {end = end} {subject = subject} {all = all} o n c i r) seen =
      let b = list ++ x ∷ [] in
      reads_bind E ts (expect_word w.Where) _ from seen (from + 1) to p b (reads_expect_word E ts w.Where p from seen o)
      (λ s1. reads_bind E ts (name limits) _ (from + 1) s1 (from + 1 + 1) to subject b (reads_name E ts e limits subject (from + 1) s1 n)
      (λ s2. reads_bind E ts (expect m.Colon) _ (from + 1 + 1) s2 (from + 1 + 1 + 1) to q b (reads_expect E ts m.Colon q (from + 1 + 1) s2 c)
      (λ s3. reads_bind E ts (names limits) _ (from + 1 + 1 + 1) s3 to to (all, end) b (reads_names i r s3) (λ s4. reads_pure E ts b to s4))))

  where_there : {x : Constraint} {from to : ℕ} → ConstraintAt ts x from to → sees_word w.Where (first (drop from ts)) ≡ true
  where_there (t.constraint o n c i r) = ap (sees_word w.Where) o.is

  reads_constraints_from : {xs ys : List Constraint} {from to : ℕ} → ConstraintsAt ts xs ys from to → (count seen : ℕ) → Reads E (turns (sees_word w.Where) (constraint_more limits) count xs) ts from seen ys to
  reads_constraints_from {xs = xs} {from = from} (t.end n) count seen = reads_turns_end E ts (sees_word w.Where) (constraint_more limits) count xs from seen n.is
  reads_constraints_from {xs = xs} {ys = ys} {from = from} {to = to} (t.more v r) zero seen = reads_turns_full E ts (sees_word w.Where) (constraint_more limits) xs ys from seen to (where_there v) e
  reads_constraints_from {xs = xs} {ys = ys} {from = from} {to = to} (t.more {mid = mid} {x = x} v r) (suc count) seen =
      reads_turns_more E ts (sees_word w.Where) (constraint_more limits) count xs (xs ++ x ∷ []) ys from seen mid to (where_there v) (λ s1. reads_constraint xs v s1) (λ s1. reads_constraints_from r count s1)

  pub reads_constraints : {all : List Constraint} {from to : ℕ} → ConstraintsAt ts [] all from to → (seen : ℕ) → Reads E (constraints limits) ts from seen all to
  unfolding constraints
  reads_constraints r seen = reads_constraints_from r limits.turns seen

  -- ---- parameters

  module _ (nodes : ℕ) where
    reads_semantic : {x : Option Identifier} {p q : Place} {from to : ℕ} → SemanticAt ts x p q from to → (seen : ℕ) → Reads E (semantic limits nodes p) ts from seen (x, q) to
    unfolding semantic
    reads_semantic {p = p} {from = from} (t.no_semantic n) seen = let a : Option Identifier × Place = (None, p) in
        reads_next E ts (λ x. semantic_by limits nodes p (sees m.Colon x)) from seen a from (first (drop from ts)) (semantic_by limits nodes p false) refl (ap (semantic_by limits nodes p) n.is) (λ s1. reads_pure E ts a from s1)
    reads_semantic {p = p} {from = from} (t.semantic {q = q} {id = id} c n) seen = let a : Option Identifier × Place = (Some id, id.place) in
        reads_next E ts (λ x. semantic_by limits nodes p (sees m.Colon x)) from seen a (from + 1 + 1) (Some (record { kind = k.Mark m.Colon; place = q; bytes = c.bytes })) (semantic_by limits nodes p true) c.is refl
        (λ s1. reads_bind E ts (name limits) _ (from + 1) s1 (from + 1 + 1) (from + 1 + 1) id a (reads_name E ts e limits id (from + 1) s1 n) (λ s2. reads_pure E ts a (from + 1 + 1) s2))

    reads_parameter_rest : (begin : Place) (how : Mode) (tree : TypeTree) {last end : Place} {x : DeclaredName} {id : Option Identifier} {from mid to : ℕ} → DeclaredNameAt ts x last from mid → SemanticAt ts id last end mid to → (seen : ℕ) →
        Reads E (parameter_rest limits nodes begin how tree) ts from seen (parameter_of (span begin end) how tree x id) to
    unfolding parameter_rest
    reads_parameter_rest begin how tree {last = last} {end = end} {x = x} {id = id} {from = from} {mid = mid} {to = to} v i seen = let a = parameter_of (span begin end) how tree x id in
        reads_bind E ts (declared_name limits) _ from seen mid to (x, last) a (reads_declared E e ts limits v seen)
        (λ s1. reads_bind E ts (semantic limits nodes last) _ mid s1 to to (id, end) a (reads_semantic i s1) (λ s2. reads_pure E ts a to s2))

    plain_by : (tok : Lexed) (kind : Kind) → declaration_use kind ≡ u.Typed → parameter_by limits nodes tok kind ≡ Leave (plain_parameter limits nodes)
    plain_by tok k.Name q = refl
    plain_by tok (k.Word word) q = ap (parameter_word limits nodes tok word) (typed_mode word q) ∙ ap (plain_as limits nodes) q
    plain_by tok (k.Number v) q = cc
    plain_by tok k.String q = cc
    plain_by tok (k.Mark mark) q = cc

    reads_parameter : {x : Parameter} {from to : ℕ} → ParameterAt ts x from to → (count seen : ℕ) → Reads E (parameter limits nodes count) ts from seen x to
    unfolding parameter plain_parameter moded_parameter
    reads_parameter {x = x} {from = from} {to = to} (t.parameter {mid = mid} (t.plain {t = tree} r) v i) count seen =
        let b = type_begun r in
        let n = declared_begins v in
        let fits = fits_in limits count limits.items in
        let plain = plain_parameter limits nodes in
        reads_next E ts _ from seen x to (Some b.tok) (if_fits fits code.TooLong (Some b.tok) (Leave plain)) b.is (ap (if_fits fits code.TooLong (Some b.tok)) (plain_by b.tok b.tok.kind b.serves))
        (reads_fits E ts from x to (Some b.tok) fits code.TooLong (Leave plain) (λ f. e)
        (λ s1. reads_bind E ts (types limits nodes) _ from s1 mid to (tree, height tree) x (reads_type E e limits r (quiet_name n.0 n.1) nodes s1) (λ s2. reads_parameter_rest tree.place mode.In tree v i s2)))
    reads_parameter {x = x} {from = from} {to = to} (t.parameter {mid = mid} (t.moded {p = p} {word = word} {how = how} {t = tree} s q r) v i) count seen =
        let tok : Lexed = record { kind = k.Word word; place = p; bytes = s.bytes } in
        let n = declared_begins v in
        let fits = fits_in limits count limits.items in
        let moded = moded_parameter limits nodes p how in
        reads_next E ts _ from seen x to (Some tok) (if_fits fits code.TooLong (Some tok) (Take moded)) s.is (ap (λ o. if_fits fits code.TooLong (Some tok) (parameter_word limits nodes tok word o)) q)
        (reads_fits E ts from x to (Some tok) fits code.TooLong (Take moded) (λ f. e)
        (λ s1. reads_bind E ts (types limits nodes) _ (from + 1) s1 mid to (tree, height tree) x (reads_type E e limits r (quiet_name n.0 n.1) nodes s1) (λ s2. reads_parameter_rest p how tree v i s2)))

    reads_more_parameters : {xs ys : List Parameter} {from to : ℕ} → MoreParametersAt ts xs ys from to → IsNot ts m.Comma to → (count seen : ℕ) →
        Reads E (turns (sees m.Comma) (parameter_more limits nodes) count xs) ts from seen ys to
    unfolding parameter_more
    reads_more_parameters {xs = xs} {from = from} t.end n count seen = reads_turns_end E ts (sees m.Comma) (parameter_more limits nodes) count xs from seen n.is
    reads_more_parameters {xs = xs} {ys = ys} {from = from} {to = to} (t.more {p = p} s v r) n zero seen =
        reads_turns_full E ts (sees m.Comma) (parameter_more limits nodes) xs ys from seen to (is_there ts m.Comma from p s) e
    reads_more_parameters {xs = xs} {ys = ys} {from = from} {to = to} (t.more {mid = mid} {p = p} {x = x} s v r) n (suc count) seen =
        let zs = xs ++ x ∷ [] in
        reads_turns_more E ts (sees m.Comma) (parameter_more limits nodes) count xs zs ys from seen mid to (is_there ts m.Comma from p s)
        (λ s1. reads_bind E ts (expect m.Comma) _ from s1 (from + 1) mid p zs (reads_expect E ts m.Comma p from s1 s)
        (λ s2. reads_bind E ts (parameter limits nodes (length xs)) _ (from + 1) s2 mid mid x zs (reads_parameter v (length xs) s2) (λ s3. reads_pure E ts zs mid s3)))
        (λ s1. reads_more_parameters r n count s1)

    no_paren : {x : Parameter} {from to : ℕ} → ParameterAt ts x from to → sees m.CloseParen (first (drop from ts)) ≡ false
    no_paren (t.parameter (t.plain r) v i) = begun_not m.CloseParen (type_begun r) (λ q. cc)
    no_paren (t.parameter (t.moded s q r) v i) = ap (sees m.CloseParen) s.is

    pub reads_parameters : {all : List Parameter} {from to : ℕ} → ParametersAt ts all from to → (seen : ℕ) → Reads E (parameters limits nodes) ts from seen all to
    unfolding parameters some_parameters
    reads_parameters {from = from} (t.no_parameters {p = p} {q = q} o c) seen =
        reads_bind E ts (expect m.OpenParen) _ from seen (from + 1) (from + 1 + 1) p [] (reads_expect E ts m.OpenParen p from seen o)
        (λ s1. reads_next E ts (λ x. parameters_by limits nodes (sees m.CloseParen x)) (from + 1) s1 [] (from + 1 + 1) (first (drop (from + 1) ts)) (parameters_by limits nodes true) refl
        (ap (parameters_by limits nodes) (is_there ts m.CloseParen (from + 1) q c))
        (λ s2. reads_bind E ts (expect m.CloseParen) _ (from + 1) s2 (from + 1 + 1) (from + 1 + 1) q [] (reads_expect E ts m.CloseParen q (from + 1) s2 c) (λ s3. reads_pure E ts [] (from + 1 + 1) s3)))
    reads_parameters {all = all} {from = from} (t.parameters {mid = mid} {at = at} {p = p} {q = q} {x = x} o v r c) seen =
        reads_bind E ts (expect m.OpenParen) _ from seen (from + 1) (at + 1) p all (reads_expect E ts m.OpenParen p from seen o)
        (λ s1. reads_next E ts (λ x. parameters_by limits nodes (sees m.CloseParen x)) (from + 1) s1 all (at + 1) (first (drop (from + 1) ts)) (parameters_by limits nodes false) refl
        (ap (parameters_by limits nodes) (no_paren v))
        (λ s2. reads_bind E ts (parameter limits nodes 0) _ (from + 1) s2 mid (at + 1) x all (reads_parameter v 0 s2)
        (λ s3. reads_bind E ts (turns (sees m.Comma) (parameter_more limits nodes) limits.turns (x ∷ [])) _ mid s3 at (at + 1) all all
        (reads_more_parameters r (not_there ts m.Comma at (k.Mark m.CloseParen) q c refl) limits.turns s3)
        (λ s4. reads_bind E ts (expect m.CloseParen) _ at s4 (at + 1) (at + 1) q all (reads_expect E ts m.CloseParen q at s4 c) (λ s5. reads_pure E ts all (at + 1) s5)))))
