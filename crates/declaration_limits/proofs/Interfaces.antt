-- Interfaces and extensions: the first limit or rule on attributes that is broken is told.
use Rattle.std.proofs.Common.{◌≤◌, arith, Bool, true, false, not, ◌≡◌, ℕ, zero, suc, ◌+◌, List, [], ◌∷◌, ◌++◌, drop, length, Option, Some, None, refl, ap}
use Rattle.slang_names.specs.declared.places.Place.{Place}
use Rattle.slang_names.specs.declared.codes.ModuleCode.TheVariants as code
use Rattle.slang_tree.specs.declared.types.Identifier.{Identifier}
use Rattle.slang_tree.specs.declared.types.TypeTree.{TypeTree}
use Rattle.slang_tree.specs.declared.statements.Attribute.{Attribute}
use Rattle.slang_tree.specs.declared.declarations.Constraint.{Constraint}
use Rattle.slang_tree.specs.declared.declarations.GenericParameter.{GenericParameter}
use Rattle.slang_tree.specs.declared.declarations.Parameter.{Parameter}
use Rattle.slang_tree.specs.declared.declarations.InnerMember.{InnerMember}
use Rattle.slang_tree.specs.declared.declarations.Requirement.{Requirement}
use Rattle.slang_tree.specs.declared.declarations.RequirementNode.TheVariants as r
use Rattle.slang_tokens.specs.declared.tokens.Kind.TheVariants as k
use Rattle.slang_tokens.specs.declared.tokens.Mark.TheVariants as m
use Rattle.slang_tokens.specs.declared.tokens.Word.TheVariants as words
use Rattle.slang_reading.specs.Lexed.{Lexed}
use Rattle.slang_reading.specs.Reading.{Leave, Take, if_fits, ◌>>=◌, first, pure, next, turns}
use Rattle.slang_reading.specs.Kinds.{sees, span}
use Rattle.slang_reading.proofs.Exact.{reads_pure, reads_bind}
use Rattle.slang_grammar.specs.Standing.{Stands, NameStands}
use Rattle.slang_grammar.specs.Descent.{Limits, fits_in, expect, name, if_short}
use Rattle.slang_grammar.proofs.Shared.{reads_expect, is_there}
use Rattle.statement_grammar.specs.declared.attributes.Target.TheVariants as target
use Rattle.statement_grammar.specs.Attributes as att
use Rattle.statement_grammar.specs.Attributes.{AttributesAt, begin_of}
use Rattle.statement_grammar.specs.AttributesDescent as attributes
use Rattle.statement_grammar.specs.AttributesDescent.{Given, if_suits}
use Rattle.declaration_grammar.specs.Parts as parts
use Rattle.declaration_grammar.specs.Parts.{NamesAt, GenericsAt, HeadsAt, ConstraintsAt, ParametersAt, ClosedAt}
use Rattle.declaration_grammar.specs.PartsDescent.{generics, heads, constraints, parameters, closed}
use Rattle.declaration_grammar.specs.Declarations as t
use Rattle.declaration_grammar.specs.Declarations.{InnerMembersAt, BoundAt, requirement_of, RequirementAt, RequirementsAt, interface_of, ExtendedAt, extension_of}
use Rattle.declaration_grammar.specs.DeclarationsDescent.{use_of, type_name, in_braces, inner_members, bound_by, associated, required, requirement_as, requirement, requirement_choice, requirement_more, interface_rest, extended_name, extended_more, extended_rest, extended_by, extended, extension_rest}
use Rattle.declaration_laws.proofs.Begins.{begun_use, attribute_stands, type_begun}
use Rattle.declaration_laws.proofs.Parts.{reads_closed}
use Rattle.declaration_laws.proofs.Interfaces.{requirement_open}
use Rattle.statement_fits.proofs.Moves.{Left, left_next, left_none}
use Rattle.declaration_fits.proofs.Moves.{requirement_moves}
use Rattle.expression_limits.specs.Breaks.{item_behind, name_there}
use Rattle.expression_limits.proofs.Telling.{Tells, tells_reads, tells_bind, tells_then, tells_last, tells_next, tells_turns_end, tells_turns_more}
use Rattle.expression_limits.proofs.Types.{tells_name}
use Rattle.statement_limits.proofs.Attributes.{noted_in, tells_attributes, tells_suits, tells_suits_left}
use Rattle.declaration_limits.specs.Parts.{generics_breaks, heads_breaks, constraints_breaks, parameters_breaks}
use Rattle.declaration_limits.specs.Declarations.{inner_members_breaks, bound_breaks, requirement_breaks, requirements_breaks, extended_behind, more_extended_breaks, extended_breaks}
use Rattle.declaration_limits.proofs.Telling.{tells_map, tells_behind, tells_behind_named}
use Rattle.declaration_limits.proofs.Parts.{all_left, tells_generics, tells_heads, tells_constraints, tells_parameters}
use Rattle.declaration_limits.proofs.Functions.{tells_type_name}
use Rattle.declaration_limits.proofs.Members.{tells_inner}

module _ (ts : List Lexed) (limits : Limits) (free : limits.free ≡ false) (long : length ts ≤ limits.turns) (nodes : ℕ) where
  -- ---- interfaces

  tells_bound : {x : Option Identifier} {from to : ℕ} → (s : BoundAt ts x from to) → (seen : ℕ) → Tells (bound_breaks ts limits s) (next (λ o. bound_by limits nodes (sees m.Colon o))) ts from seen x to
  tells_bound {from = from} (t.no_bound q) seen = tells_next ts (λ o. bound_by limits nodes (sees m.Colon o)) from seen None from (first (drop from ts)) (bound_by limits nodes false) refl
      (ap (bound_by limits nodes) q.is) (λ s1. tells_reads _ ts from s1 None from (reads_pure ⊥ ts None from s1))
  tells_bound {from = from} (t.bound {p = p} {id = id} o v) seen =
      tells_next ts (λ o. bound_by limits nodes (sees m.Colon o)) from seen (Some id) (from + 1 + 1) (Some (record { kind = k.Mark m.Colon; place = p; bytes = o.bytes })) (bound_by limits nodes true) o.is refl
      (λ s1. tells_map ts Some (name limits) (from + 1) s1 id (from + 1 + 1) (tells_name ts limits free id (from + 1) s1 v))

  tells_required : (list : List Attribute) (is_static : Bool) (begin : Place) (tree : TypeTree) (id : Identifier) {all : List Parameter} {end : Place} {from at : ℕ} → (v : ParametersAt ts all from at) → Stands ts at (k.Mark m.Semicolon) end →
      (seen : ℕ) → Tells (parameters_breaks ts limits v nodes) (required limits nodes list is_static begin (tree, id)) ts from seen (requirement_of (span (begin_of list begin) end) (r.Function list is_static tree id all)) (at + 1)
  unfolding required
  tells_required list is_static begin tree id {all = all} {end = end} {from = from} {at = at} v z seen =
      let a = requirement_of (span (begin_of list begin) end) (r.Function list is_static tree id all) in
      tells_last ts (parameters limits nodes) _ from seen at (at + 1) all a (tells_parameters ts limits free long nodes v seen)
      (λ s1. reads_bind ⊥ ts (expect m.Semicolon) _ at s1 (at + 1) (at + 1) end a (reads_expect ⊥ ts m.Semicolon end at s1 z) (λ s2. reads_pure ⊥ ts a (at + 1) s2))

  tells_requirement : {x : Requirement} {from to : ℕ} → (s : RequirementAt ts x from to) → (seen : ℕ) → Tells (requirement_breaks ts limits s nodes) (requirement limits nodes) ts from seen x to
  unfolding requirement associated
  tells_requirement {x = x} {from = from} (t.associated {at = at} {p = p} {end = end} {id = id} {bound = bound} s v b z) seen =
      let none : AttributesAt ts [] [] from from = att.end (record { is = ap (sees m.OpenBracket) s.is }) in
      let given : Given = ([], []) in
      tells_bind ts (attributes.attributes limits attributes.members) _ from seen from (at + 1) given x (tells_attributes ts limits free long attributes.members none seen)
      (λ s1. tells_next ts (λ o. requirement_as limits nodes given o (use_of o)) from s1 x (at + 1) (Some (record { kind = k.Word words.AssociatedType; place = p; bytes = s.bytes })) (Take (associated limits nodes p)) s.is refl
      (λ s2. tells_bind ts (name limits) _ (from + 1) s2 (from + 1 + 1) (at + 1) id x (tells_name ts limits free id (from + 1) s2 v)
      (λ s3. tells_last ts (next (λ o. bound_by limits nodes (sees m.Colon o))) _ (from + 1 + 1) s3 at (at + 1) bound x (tells_bound b s3)
      (λ s4. reads_bind ⊥ ts (expect m.Semicolon) _ at s4 (at + 1) (at + 1) end x (reads_expect ⊥ ts m.Semicolon end at s4 z) (λ s5. reads_pure ⊥ ts x (at + 1) s5)))))
  tells_requirement {x = x} {from = from} (t.function {mid = mid} {next = next_} {at = at} {attributes = list} {id = id} a (t.static {p = p} {t = tree} s r) v q z) seen =
      let given : Given = (list, noted_in ts a) in
      let tok : Lexed = record { kind = k.Word words.Static; place = p; bytes = s.bytes } in
      let rest = type_name limits nodes >>= (λ y. required limits nodes list true p y) in
      tells_bind ts (attributes.attributes limits attributes.members) _ from seen mid (at + 1) given x (tells_attributes ts limits free long attributes.members a seen)
      (λ s1. tells_next ts (λ o. requirement_as limits nodes given o (use_of o)) mid s1 x (at + 1) (Some tok) (if_suits limits target.Other given.1 (Take rest)) s.is refl
      (tells_suits ts limits free a target.Other mid x (at + 1) tok rest
      (λ s2. tells_bind ts (type_name limits nodes) _ (mid + 1) s2 (next_ + 1) (at + 1) (tree, id) x (tells_type_name ts limits free long nodes r v s2) (λ s3. tells_required list true p tree id q z s3))))
  tells_requirement {x = x} {from = from} (t.function {mid = mid} {next = next_} {at = at} {attributes = list} {id = id} a (t.plain {t = tree} r) v q z) seen =
      let given : Given = (list, noted_in ts a) in
      let there = first (drop mid ts) in
      let rest = type_name limits nodes >>= (λ y. required limits nodes list false y.0.place y) in
      tells_bind ts (attributes.attributes limits attributes.members) _ from seen mid (at + 1) given x (tells_attributes ts limits free long attributes.members a seen)
      (λ s1. tells_next ts (λ o. requirement_as limits nodes given o (use_of o)) mid s1 x (at + 1) there (if_suits limits target.Method given.1 (Leave rest)) refl
      (ap (requirement_as limits nodes given there) (begun_use (type_begun r)))
      (tells_suits_left ts limits free a target.Method mid x (at + 1) there rest
      (λ s2. tells_bind ts (type_name limits nodes) _ mid s2 (next_ + 1) (at + 1) (tree, id) x (tells_type_name ts limits free long nodes r v s2) (λ s3. tells_required list false tree.place tree id q z s3))))

  requirement_none : {x : Requirement} {from to : ℕ} → RequirementAt ts x from to → Left ts zero from → ⊥
  requirement_none {from = from} (t.associated s v b z) l = left_none ts from _ s.is l
  requirement_none {from = from} (t.function (att.more a r) d v q z) l = let o = attribute_stands a in left_none ts from _ o.1.is l
  requirement_none {from = from} (t.function (att.end n) (t.static s r) v q z) l = left_none ts from _ s.is l
  requirement_none {from = from} (t.function (att.end n) (t.plain r) v q z) l = let b = type_begun r in left_none ts from b.tok b.is l

  tells_requirement_more : (list : List Requirement) {x : Requirement} {from to : ℕ} → (s : RequirementAt ts x from to) → (seen : ℕ) →
      Tells (item_behind ts limits (length list) from ++ requirement_breaks ts limits s nodes) (requirement_more limits nodes list) ts from seen (list ++ x ∷ []) to
  unfolding requirement_more
  tells_requirement_more list {x = x} {from = from} {to = to} v seen =
      let there = first (drop from ts) in
      let fits = fits_in limits (length list) limits.items in
      let open_ = requirement_open (Unit {0}) tt ts limits nodes v in
      tells_map ts (λ y. list ++ y ∷ []) (next _) from seen x to
      (tells_next ts _ from seen x to there (if_fits fits code.TooLong there (Leave (requirement limits nodes))) refl
      (ap (λ c. if_fits fits code.TooLong there (requirement_choice limits nodes there c)) open_.1)
      (tells_behind ts limits free from x to (length list) (requirement limits nodes) (λ s1. tells_requirement v s1)))

  tells_requirements : {list all : List Requirement} {from to : ℕ} → (s : RequirementsAt ts list all from to) → (count seen : ℕ) → Left ts count from →
      Tells (requirements_breaks ts limits s nodes) (turns (in_braces limits nodes) (requirement_more limits nodes) count list) ts from seen all to
  tells_requirements {list = list} {from = from} (t.end {p = p} c) count seen u =
      tells_turns_end ts (in_braces limits nodes) (requirement_more limits nodes) count list from seen (ap not (is_there ts m.CloseBrace from p c))
  tells_requirements (t.more v l) zero seen u = absurd (requirement_none v u)
  tells_requirements {list = list} {all = all} {from = from} {to = to} (t.more {mid = mid} {x = x} v l) (suc count) seen u = let open_ = requirement_open (Unit {0}) tt ts limits nodes v in
      tells_turns_more ts (in_braces limits nodes) (requirement_more limits nodes) count list (list ++ x ∷ []) all from seen mid to (ap not open_.0)
      (λ s1. tells_requirement_more list v s1) (λ s1. tells_requirements l count s1 (left_next ts count from mid (requirement_moves ts v) u))

  -- behind its word
  pub tells_interface : (begin : Place) {id : Identifier} {q end : Place} {list : List Requirement} {from at to : ℕ} → NameStands ts from id → Stands ts (from + 1) (k.Mark m.OpenBrace) q → (l : RequirementsAt ts [] list (from + 1 + 1) at) →
      ClosedAt ts end at to → (seen : ℕ) → Tells (name_there ts limits id from ++ requirements_breaks ts limits l nodes) (interface_rest limits nodes begin) ts from seen (interface_of (span begin end) id list) to
  unfolding interface_rest
  tells_interface begin {id = id} {q = q} {end = end} {list = list} {from = from} {at = at} {to = to} v o l c seen =
      let z = interface_of (span begin end) id list in
      tells_bind ts (name limits) _ from seen (from + 1) to id z (tells_name ts limits free id from seen v)
      (λ s1. tells_then ts (expect m.OpenBrace) _ (from + 1) s1 (from + 1 + 1) to q z (reads_expect ⊥ ts m.OpenBrace q (from + 1) s1 o)
      (λ s2. tells_last ts (turns (in_braces limits nodes) (requirement_more limits nodes) limits.turns []) _ (from + 1 + 1) s2 at to list z (tells_requirements l limits.turns s2 (all_left ts limits free long (from + 1 + 1)))
      (λ s3. reads_bind ⊥ ts closed _ at s3 to to end z (reads_closed ⊥ ts c s3) (λ s4. reads_pure ⊥ ts z to s4))))

  -- ---- extensions

  tells_extended_name : (id : Identifier) (count at seen : ℕ) → NameStands ts at id → Tells (extended_behind ts limits id count at) (extended_name limits nodes count) ts at seen id (at + 1)
  unfolding extended_name
  tells_extended_name id count at seen v =
      let tok : Lexed = record { kind = k.Name; place = id.place; bytes = id.name } in
      let fits = fits_in limits count limits.items in
      tells_next ts _ at seen id (at + 1) (Some tok) (if_fits fits code.TooLong (Some tok) (if_short limits tok (Take (pure id)))) v.is refl
      (tells_behind_named ts limits free id at id (at + 1) count (pure id) v (λ s1. reads_pure ⊥ ts id (at + 1) s1))

  tells_more_extended : {xs ys : List Identifier} {p q : Place} {from to : ℕ} → (s : NamesAt ts xs ys p q from to) → (count seen : ℕ) → Left ts count from →
      Tells (more_extended_breaks ts limits s) (turns (sees m.Comma) (extended_more limits nodes) count xs) ts from seen ys to
  unfolding extended_more
  tells_more_extended {xs = xs} {from = from} (parts.end n) count seen l = tells_turns_end ts (sees m.Comma) (extended_more limits nodes) count xs from seen n.is
  tells_more_extended {from = from} (parts.more s v r) zero seen l = absurd (left_none ts from _ s.is l)
  tells_more_extended {xs = xs} {ys = ys} {from = from} {to = to} (parts.more {p = p} {id = id} s v r) (suc count) seen l =
      let zs = xs ++ id ∷ [] in
      tells_turns_more ts (sees m.Comma) (extended_more limits nodes) count xs zs ys from seen (from + 1 + 1) to (is_there ts m.Comma from p s)
      (λ s1. tells_then ts (expect m.Comma) _ from s1 (from + 1) (from + 1 + 1) p zs (reads_expect ⊥ ts m.Comma p from s1 s)
      (λ s2. tells_last ts (extended_name limits nodes (length xs)) _ (from + 1) s2 (from + 1 + 1) (from + 1 + 1) id zs (tells_extended_name id (length xs) (from + 1) s2 v) (λ s3. reads_pure ⊥ ts zs (from + 1 + 1) s3)))
      (λ s1. tells_more_extended r count s1 (left_next ts count from (from + 1 + 1) (omega arith) l))

  tells_extended : {all : List Identifier} {from to : ℕ} → (s : ExtendedAt ts all from to) → (seen : ℕ) → Tells (extended_breaks ts limits s) (extended limits nodes) ts from seen all to
  unfolding extended extended_rest
  tells_extended {from = from} (t.no_arguments n) seen = tells_next ts (λ x. extended_by limits nodes (sees m.Less x)) from seen [] from (first (drop from ts)) (extended_by limits nodes false) refl
      (ap (extended_by limits nodes) n.is) (λ s1. tells_reads _ ts from s1 [] from (reads_pure ⊥ ts [] from s1))
  tells_extended {all = all} {from = from} (t.arguments {at = at} {p = p} {q = q} {id = id} o v r c) seen =
      tells_next ts (λ x. extended_by limits nodes (sees m.Less x)) from seen all (at + 1) (Some (record { kind = k.Mark m.Less; place = p; bytes = o.bytes })) (Take (extended_rest limits nodes)) o.is refl
      (λ s1. tells_bind ts (extended_name limits nodes 0) _ (from + 1) s1 (from + 1 + 1) (at + 1) id all (tells_extended_name id 0 (from + 1) s1 v)
      (λ s2. tells_last ts (turns (sees m.Comma) (extended_more limits nodes) limits.turns (id ∷ [])) _ (from + 1 + 1) s2 at (at + 1) all all (tells_more_extended r limits.turns s2 (all_left ts limits free long (from + 1 + 1)))
      (λ s3. reads_bind ⊥ ts (expect m.Greater) _ at s3 (at + 1) (at + 1) q all (reads_expect ⊥ ts m.Greater q at s3 c) (λ s4. reads_pure ⊥ ts all (at + 1) s4))))

  -- behind its word
  pub tells_extension : (start : Place) {q end : Place} {all : List GenericParameter} {id : Identifier} {arguments bases : List Identifier} {wheres : List Constraint} {members : List InnerMember} {from mid next_ at begin last to : ℕ} →
      (g : GenericsAt ts all from mid) → NameStands ts mid id → (x : ExtendedAt ts arguments (mid + 1) next_) → (h : HeadsAt ts bases next_ at) → (c : ConstraintsAt ts [] wheres at begin) → Stands ts begin (k.Mark m.OpenBrace) q →
      (r : InnerMembersAt ts false [] members (begin + 1) last) → ClosedAt ts end last to → (seen : ℕ) →
      Tells (generics_breaks ts limits g ++ (name_there ts limits id mid ++ (extended_breaks ts limits x ++ (heads_breaks ts limits h ++ (constraints_breaks ts limits c ++ inner_members_breaks ts limits r nodes)))))
      (extension_rest limits nodes start) ts from seen (extension_of (span start end) all id arguments bases wheres members) to
  unfolding extension_rest
  tells_extension start {q = q} {end = end} {all = all} {id = id} {arguments = arguments} {bases = bases} {wheres = wheres} {members = members} {from = from} {mid = mid} {next_ = next_} {at = at} {begin = begin} {last = last} {to = to} g v x h c o r l seen =
      let z = extension_of (span start end) all id arguments bases wheres members in
      tells_bind ts (generics limits) _ from seen mid to all z (tells_generics ts limits free long g seen)
      (λ s1. tells_bind ts (name limits) _ mid s1 (mid + 1) to id z (tells_name ts limits free id mid s1 v)
      (λ s2. tells_bind ts (extended limits nodes) _ (mid + 1) s2 next_ to arguments z (tells_extended x s2)
      (λ s3. tells_bind ts (heads limits) _ next_ s3 at to bases z (tells_heads ts limits free long h s3)
      (λ s4. tells_bind ts (constraints limits) _ at s4 begin to wheres z (tells_constraints ts limits free long c s4)
      (λ s5. tells_then ts (expect m.OpenBrace) _ begin s5 (begin + 1) to q z (reads_expect ⊥ ts m.OpenBrace q begin s5 o)
      (λ s6. tells_last ts (inner_members limits nodes false) _ (begin + 1) s6 last to members z (tells_inner ts limits free long nodes r s6)
      (λ s7. reads_bind ⊥ ts closed _ last s7 to to end z (reads_closed ⊥ ts l s7) (λ s8. reads_pure ⊥ ts z to s8))))))))
