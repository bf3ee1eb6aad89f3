-- Functions, aliases and fields: the first limit or rule on attributes that is broken is told.
use Rattle.std.proofs.Common.{◌≤◌, arith, Bool, true, false, ◌≡◌, ℕ, zero, suc, ◌+◌, List, [], ◌∷◌, ◌++◌, drop, length, Option, Some, refl}
use Rattle.slang_names.specs.declared.places.Place.{Place}
use Rattle.slang_tree.specs.declared.types.Identifier.{Identifier}
use Rattle.slang_tree.specs.declared.types.Term.{Term}
use Rattle.slang_tree.specs.declared.types.TypeTree.{TypeTree}
use Rattle.slang_tree.specs.declared.statements.Attribute.{Attribute}
use Rattle.slang_tree.specs.declared.statements.DeclaredName.{DeclaredName}
use Rattle.slang_tree.specs.declared.statements.Block.{Block}
use Rattle.slang_tree.specs.declared.declarations.GenericParameter.{GenericParameter}
use Rattle.slang_tree.specs.declared.declarations.Constraint.{Constraint}
use Rattle.slang_tree.specs.declared.declarations.Parameter.{Parameter}
use Rattle.slang_tree.specs.declared.declarations.Alias.{Alias}
use Rattle.slang_tokens.specs.declared.tokens.Kind.TheVariants as k
use Rattle.slang_tokens.specs.declared.tokens.Mark.TheVariants as m
use Rattle.slang_tokens.specs.declared.tokens.Word.TheVariants as words
use Rattle.slang_reading.specs.Lexed.{Lexed}
use Rattle.slang_reading.specs.Reading.{Parser, Choice, Leave, Take, ◌>>=◌, first, pure, next, turns}
use Rattle.slang_reading.specs.Kinds.{sees, span}
use Rattle.slang_reading.proofs.Exact.{reads_pure, reads_bind}
use Rattle.slang_grammar.specs.Standing.{Stands, NameStands, IsNot}
use Rattle.slang_grammar.specs.Types.{TypeAt}
use Rattle.slang_grammar.specs.Heights.{height}
use Rattle.slang_grammar.specs.Descent.{Limits, expect, name, bracketed}
use Rattle.slang_grammar.specs.TypesDescent.{types}
use Rattle.slang_grammar.proofs.Shared.{reads_expect, not_there, is_there}
use Rattle.statement_grammar.specs.declared.attributes.Target.TheVariants as target
use Rattle.statement_grammar.specs.AttributesDescent.{Noted, if_suits}
use Rattle.statement_grammar.specs.Attributes.{AttributesAt}
use Rattle.statement_grammar.specs.Statements as st
use Rattle.statement_grammar.specs.Statements.{declared, LengthsAt}
use Rattle.statement_grammar.specs.StatementsDescent.{Lengths, length_more, declared_name, blocks}
use Rattle.statement_grammar.proofs.Begins.{quiet_name}
use Rattle.declaration_grammar.specs.PartsDescent.{generics, constraints, parameters}
use Rattle.declaration_grammar.specs.Declarations as t
use Rattle.declaration_grammar.specs.Declarations.{function_of, alias_of, AliasAt, MoreFieldsAt, field_of}
use Rattle.declaration_grammar.specs.DeclarationsDescent.{type_name, function_rest, static_rest, type_def, type_alias, field_more, field_rest}
use Rattle.declaration_laws.proofs.Functions.{quiet_semicolon, RestAt, FieldRestAt}
use Rattle.statement_fits.proofs.Moves.{Left, left_next, left_none, declared_moves}
use Rattle.expression_limits.specs.Breaks.{Break, name_there}
use Rattle.expression_limits.specs.Types.{type_breaks}
use Rattle.expression_limits.proofs.Telling.{Tells, tells_bind, tells_then, tells_last, tells_next, tells_turns_end, tells_turns_more}
use Rattle.expression_limits.proofs.Types.{tells_name, tells_type}
use Rattle.statement_limits.specs.Attributes.{misfit_breaks}
use Rattle.statement_limits.specs.Locals.{lengths_breaks}
use Rattle.statement_limits.proofs.Attributes.{noted_in}
use Rattle.statement_limits.proofs.Locals.{tells_term, tells_declared}
use Rattle.statement_limits.proofs.Statements.{tells_blocks}
use Rattle.declaration_limits.specs.Declarations.{typed_breaks, body_breaks, alias_breaks, more_fields_breaks}
use Rattle.declaration_limits.proofs.Telling.{tells_worded}
use Rattle.declaration_limits.proofs.Parts.{all_left, tells_generics, tells_constraints, tells_parameters}

module _ (ts : List Lexed) (limits : Limits) (free : limits.free ≡ false) (long : length ts ≤ limits.turns) (nodes : ℕ) where
  -- ---- a type and a name

  pub tells_type_name : {tree : TypeTree} {id : Identifier} {from mid : ℕ} → (r : TypeAt ts tree from mid) → (n : NameStands ts mid id) → (seen : ℕ) → Tells (typed_breaks ts limits r n nodes) (type_name limits nodes) ts from seen (tree, id) (mid + 1)
  unfolding type_name
  tells_type_name {tree = tree} {id = id} {from = from} {mid = mid} r n seen = let a : TypeTree × Identifier = (tree, id) in
      tells_bind ts (types limits nodes) _ from seen mid (mid + 1) (tree, height tree) a (tells_type ts limits free long r (quiet_name id n) nodes seen)
      (λ s1. tells_last ts (name limits) _ mid s1 (mid + 1) (mid + 1) id a (tells_name ts limits free id mid s1 n) (λ s2. reads_pure ⊥ ts a (mid + 1) s2))

  -- what begins with them
  pub tells_typed : {B : Type 0} {cs : List Break} (g : Option Lexed → Choice B) (h : TypeTree × Identifier → Parser B) (b : B) {tree : TypeTree} {id : Identifier} {from mid : ℕ} (to : ℕ) → (r : TypeAt ts tree from mid) → (n : NameStands ts mid id) →
      g (first (drop from ts)) ≡ Leave (type_name limits nodes >>= h) → ((s1 : ℕ) → Tells cs (h (tree, id)) ts (mid + 1) s1 b to) → (seen : ℕ) → Tells (typed_breaks ts limits r n nodes ++ cs) (next g) ts from seen b to
  tells_typed g h b {tree = tree} {id = id} {from = from} {mid = mid} to r n i k seen = tells_next ts g from seen b to (first (drop from ts)) (Leave (type_name limits nodes >>= h)) refl i
      (λ s1. tells_bind ts (type_name limits nodes) h from s1 (mid + 1) to (tree, id) b (tells_type_name r n s1) k)

  -- ---- functions

  pub tells_function : (begin : Place) (is_static : Bool) (tree : TypeTree) (id : Identifier) {all : List GenericParameter} {list : List Parameter} {wheres : List Constraint} {body : Block} {from to : ℕ} →
      (r : RestAt (Unit {0}) tt ts limits nodes all list wheres body from to) → (seen : ℕ) →
      Tells (body_breaks ts limits r.generic r.given r.bound r.block nodes) (function_rest limits nodes begin is_static (tree, id)) ts from seen (function_of begin is_static tree id all list wheres body) to
  unfolding function_rest
  tells_function begin is_static tree id {all = all} {list = list} {wheres = wheres} {body = body} {from = from} {to = to} r seen =
      let a = function_of begin is_static tree id all list wheres body in
      tells_bind ts (generics limits) _ from seen r.mid to all a (tells_generics ts limits free long r.generic seen)
      (λ s1. tells_bind ts (parameters limits nodes) _ r.mid s1 r.at to list a (tells_parameters ts limits free long nodes r.given s1)
      (λ s2. tells_bind ts (constraints limits) _ r.at s2 r.last to wheres a (tells_constraints ts limits free long r.bound s2)
      (λ s3. tells_last ts (blocks limits nodes) _ r.last s3 to to body a (tells_blocks ts limits free long nodes body r.last to r.block s3) (λ s4. reads_pure ⊥ ts a to s4))))

  pub tells_static : (begin : Place) {tree : TypeTree} {id : Identifier} {all : List GenericParameter} {list : List Parameter} {wheres : List Constraint} {body : Block} {from mid to : ℕ} →
      (r : TypeAt ts tree from mid) → (n : NameStands ts mid id) → (f : RestAt (Unit {0}) tt ts limits nodes all list wheres body (mid + 1) to) → (seen : ℕ) →
      Tells (typed_breaks ts limits r n nodes ++ body_breaks ts limits f.generic f.given f.bound f.block nodes) (static_rest limits nodes begin) ts from seen (function_of begin true tree id all list wheres body) to
  unfolding static_rest
  tells_static begin {tree = tree} {id = id} {all = all} {list = list} {wheres = wheres} {body = body} {from = from} {mid = mid} {to = to} r n f seen =
      tells_bind ts (type_name limits nodes) _ from seen (mid + 1) to (tree, id) (function_of begin true tree id all list wheres body) (tells_type_name r n seen) (λ s1. tells_function begin true tree id f s1)

  -- ---- aliases

  tells_type_def : (begin : Place) {tree : TypeTree} {id : Identifier} {end : Place} {from mid : ℕ} → (r : TypeAt ts tree from mid) → (n : NameStands ts mid id) → Stands ts (mid + 1) (k.Mark m.Semicolon) end → (seen : ℕ) →
      Tells (typed_breaks ts limits r n nodes) (type_def limits nodes begin) ts from seen (alias_of (span begin end) tree id) (mid + 1 + 1)
  unfolding type_def
  tells_type_def begin {tree = tree} {id = id} {end = end} {from = from} {mid = mid} r n z seen = let a = alias_of (span begin end) tree id in
      tells_last ts (type_name limits nodes) _ from seen (mid + 1) (mid + 1 + 1) (tree, id) a (tells_type_name r n seen)
      (λ s1. reads_bind ⊥ ts (expect m.Semicolon) _ (mid + 1) s1 (mid + 1 + 1) (mid + 1 + 1) end a (reads_expect ⊥ ts m.Semicolon end (mid + 1) s1 z) (λ s2. reads_pure ⊥ ts a (mid + 1 + 1) s2))

  tells_type_alias : (begin : Place) {tree : TypeTree} {id : Identifier} {q end : Place} {from at : ℕ} → NameStands ts from id → Stands ts (from + 1) (k.Mark m.Equal) q → (r : TypeAt ts tree (from + 1 + 1) at) →
      Stands ts at (k.Mark m.Semicolon) end → (seen : ℕ) → Tells (name_there ts limits id from ++ type_breaks ts limits r nodes) (type_alias limits nodes begin) ts from seen (alias_of (span begin end) tree id) (at + 1)
  unfolding type_alias
  tells_type_alias begin {tree = tree} {id = id} {q = q} {end = end} {from = from} {at = at} n s r z seen = let a = alias_of (span begin end) tree id in
      tells_bind ts (name limits) _ from seen (from + 1) (at + 1) id a (tells_name ts limits free id from seen n)
      (λ s1. tells_then ts (expect m.Equal) _ (from + 1) s1 (from + 1 + 1) (at + 1) q a (reads_expect ⊥ ts m.Equal q (from + 1) s1 s)
      (λ s2. tells_last ts (types limits nodes) _ (from + 1 + 1) s2 at (at + 1) (tree, height tree) a (tells_type ts limits free long r (quiet_semicolon z) nodes s2)
      (λ s3. reads_bind ⊥ ts (expect m.Semicolon) _ at s3 (at + 1) (at + 1) end a (reads_expect ⊥ ts m.Semicolon end at s3 z) (λ s4. reads_pure ⊥ ts a (at + 1) s4))))

  abbrev taken : {B : Type 0} → (Alias → B) → Noted → Parser Alias → Choice B
  taken f list q = if_suits limits target.Other list (Take (q >>= (λ y. pure (f y))))

  -- what is an alias
  pub tells_alias : {B : Type 0} (f : Alias → B) (g : Option Lexed → Choice B) {xs ys : List Attribute} {begin last : ℕ} (before : AttributesAt ts xs ys begin last) →
      ((p : Place) (bytes : List ℕ) → g (Some (record { kind = k.Word words.TypeDef; place = p; bytes = bytes })) ≡ taken f (noted_in ts before) (type_def limits nodes p)) →
      ((p : Place) (bytes : List ℕ) → g (Some (record { kind = k.Word words.TypeAlias; place = p; bytes = bytes })) ≡ taken f (noted_in ts before) (type_alias limits nodes p)) →
      {x : Alias} {from to : ℕ} → (s : AliasAt ts x from to) → (seen : ℕ) → Tells (alias_breaks ts limits s (misfit_breaks ts before) nodes) (next g) ts from seen (f x) to
  tells_alias f g before i j {x = x} {from = from} {to = to} (t.type_def {p = p} s r n z) seen =
      tells_worded ts limits free before target.Other f (type_def limits nodes p) g x to s (i p s.bytes) (λ s1. tells_type_def p r n z s1) seen
  tells_alias f g before i j {x = x} {from = from} {to = to} (t.type_alias {p = p} s n o r z) seen =
      tells_worded ts limits free before target.Other f (type_alias limits nodes p) g x to s (j p s.bytes) (λ s1. tells_type_alias p n o r z s1) seen

  -- ---- fields

  tells_lengths : {xs ys : List Term} {p q : Place} {from to : ℕ} → (s : LengthsAt ts xs ys p q from to) → (count seen : ℕ) → Left ts count from →
      Tells (lengths_breaks ts limits s) (turns (sees m.OpenBracket) (length_more limits) count (xs, p)) ts from seen (ys, q) to
  unfolding length_more
  tells_lengths {xs = xs} {p = p} {from = from} (st.end n) count seen l = tells_turns_end ts (sees m.OpenBracket) (length_more limits) count (xs, p) from seen n.is
  tells_lengths {from = from} (st.more s x c r) zero seen l = absurd (left_none ts from _ s.is l)
  tells_lengths {xs = xs} {ys = ys} {p = last} {q = end} {from = from} {to = to} (st.more {p = p} {q = q} {x = x} s v c r) (suc count) seen l =
      let b : Lengths = (xs ++ x ∷ [], q) in
      let to1 = from + 1 + 1 + 1 in
      tells_turns_more ts (sees m.OpenBracket) (length_more limits) count (xs, last) b (ys, end) from seen to1 to (is_there ts m.OpenBracket from p s)
      (λ s1. tells_then ts (expect m.OpenBracket) _ from s1 (from + 1) to1 p b (reads_expect ⊥ ts m.OpenBracket p from s1 s)
      (λ s2. tells_last ts (bracketed limits) _ (from + 1) s2 (from + 1 + 1) to1 x b (tells_term ts limits free long v s2)
      (λ s3. reads_bind ⊥ ts (expect m.CloseBracket) _ (from + 1 + 1) s3 to1 to1 q b (reads_expect ⊥ ts m.CloseBracket q (from + 1 + 1) s3 c) (λ s4. reads_pure ⊥ ts b to1 s4))))
      (λ s1. tells_lengths r count s1 (left_next ts count from to1 (omega arith) l))

  tells_more_fields : {xs ys : List DeclaredName} {from to : ℕ} → (s : MoreFieldsAt ts xs ys from to) → IsNot ts m.Comma to → (count seen : ℕ) → Left ts count from →
      Tells (more_fields_breaks ts limits s) (turns (sees m.Comma) (field_more limits nodes) count xs) ts from seen ys to
  unfolding field_more
  tells_more_fields {xs = xs} {from = from} t.end n count seen l = tells_turns_end ts (sees m.Comma) (field_more limits nodes) count xs from seen n.is
  tells_more_fields {from = from} (t.more s v r) n zero seen l = absurd (left_none ts from _ s.is l)
  tells_more_fields {xs = xs} {ys = ys} {from = from} {to = to} (t.more {mid = mid} {p = p} {last = last} {x = x} s v r) n (suc count) seen l =
      let zs = xs ++ x ∷ [] in
      let moves = declared_moves ts v in
      tells_turns_more ts (sees m.Comma) (field_more limits nodes) count xs zs ys from seen mid to (is_there ts m.Comma from p s)
      (λ s1. tells_then ts (expect m.Comma) _ from s1 (from + 1) mid p zs (reads_expect ⊥ ts m.Comma p from s1 s)
      (λ s2. tells_last ts (declared_name limits) _ (from + 1) s2 mid mid (x, last) zs (tells_declared ts limits free long v s2) (λ s3. reads_pure ⊥ ts zs mid s3)))
      (λ s1. tells_more_fields r n count s1 (left_next ts count from mid (omega (arith, moves)) l))

  pub tells_field : (tree : TypeTree) {id : Identifier} {all : List DeclaredName} {end : Place} {from at : ℕ} → (r : FieldRestAt (Unit {0}) tt ts limits nodes id all end from at) → (seen : ℕ) →
      Tells (lengths_breaks ts limits r.lengths ++ more_fields_breaks ts limits r.names) (field_rest limits nodes (tree, id)) ts from seen (field_of (span tree.place end) tree all) (at + 1)
  unfolding field_rest
  tells_field tree {id = id} {all = all} {end = end} {from = from} {at = at} r seen =
      let a = field_of (span tree.place end) tree all in
      tells_bind ts (turns (sees m.OpenBracket) (length_more limits) limits.turns ([], id.place)) _ from seen r.mid (at + 1) (r.list, r.last) a (tells_lengths r.lengths limits.turns seen (all_left ts limits free long from))
      (λ s1. tells_last ts (turns (sees m.Comma) (field_more limits nodes) limits.turns (declared id r.list r.last ∷ [])) _ r.mid s1 at (at + 1) all a
      (tells_more_fields r.names (not_there ts m.Comma at (k.Mark m.Semicolon) end r.closes refl) limits.turns s1 (all_left ts limits free long r.mid))
      (λ s2. reads_bind ⊥ ts (expect m.Semicolon) _ at s2 (at + 1) (at + 1) end a (reads_expect ⊥ ts m.Semicolon end at s2 r.closes) (λ s3. reads_pure ⊥ ts a (at + 1) s3)))
