-- Interfaces and extensions: what is spelled within the limits is read.
use Rattle.std.proofs.Common.{◌<◌, ◌≤◌, ◌||◌, max, map, arith, inl, Bool, true, false, not, ◌≡◌, ℕ, zero, suc, ◌+◌, List, [], ◌∷◌, ◌++◌, drop, length, Option, Some, None, refl, ap}
use Rattle.slang_names.specs.declared.places.Place.{Place}
use Rattle.slang_names.specs.declared.codes.ModuleCode.TheVariants as code
use Rattle.slang_tree.specs.declared.types.Identifier.{Identifier}
use Rattle.slang_tree.specs.declared.types.TypeTree.{TypeTree}
use Rattle.slang_tree.specs.declared.statements.Attribute.{Attribute}
use Rattle.slang_tree.specs.declared.declarations.Constraint.{Constraint}
use Rattle.slang_tree.specs.declared.declarations.GenericParameter.{GenericParameter}
use Rattle.slang_tree.specs.declared.declarations.Parameter.{Parameter}
use Rattle.slang_tree.specs.declared.declarations.InnerMember.{InnerMember}
use Rattle.slang_tree.specs.declared.declarations.Requirement.{Requirement}
use Rattle.slang_tree.specs.declared.declarations.RequirementNode.TheVariants as r
use Rattle.slang_tokens.specs.declared.tokens.Kind.TheVariants as k
use Rattle.slang_tokens.specs.declared.tokens.Mark.TheVariants as m
use Rattle.slang_tokens.specs.declared.tokens.Word.TheVariants as words
use Rattle.slang_reading.specs.Lexed.{Lexed}
use Rattle.slang_reading.specs.Reading.{Leave, Take, if_fits, ◌>>=◌, first, pure, next, turns}
use Rattle.slang_reading.specs.Kinds.{sees, span}
use Rattle.slang_reading.proofs.Exact.{Reads, reads_pure, reads_bind, reads_next, reads_fits, reads_turns_end, reads_turns_more}
use Rattle.slang_grammar.specs.Standing.{Stands, NameStands}
use Rattle.slang_grammar.specs.Descent.{Limits, fits_in, expect, name, if_short}
use Rattle.slang_grammar.proofs.Shared.{reads_expect, short_within, is_there}
use Rattle.statement_grammar.specs.declared.attributes.Target.TheVariants as target
use Rattle.statement_grammar.specs.Attributes as att
use Rattle.statement_grammar.specs.Attributes.{AttributesAt, begin_of}
use Rattle.statement_grammar.specs.AttributesDescent as attributes
use Rattle.statement_grammar.specs.AttributesDescent.{Given, Noted, if_suits}
use Rattle.declaration_grammar.specs.Parts as parts
use Rattle.declaration_grammar.specs.Parts.{access_at, AccessAt, NamesAt, GenericsAt, HeadsAt, ConstraintsAt, ParametersAt, ClosedAt}
use Rattle.declaration_grammar.specs.PartsDescent.{generics, heads, constraints, parameters, closed}
use Rattle.declaration_grammar.specs.Declarations as t
use Rattle.declaration_grammar.specs.Declarations.{InnerMembersAt, BoundAt, requirement_of, RequirementAt, RequirementsAt, interface_of, InterfaceAt, ExtendedAt, extension_of, ExtensionAt, constant_of, ConstantAt, global_of, ItemNodeAt, is_private, item_of, ItemsAt, line_of, LineAt, ModuleAt, ImportsAt, FileAt}
use Rattle.declaration_grammar.specs.DeclarationsDescent.{use_of, type_name, in_braces, inner_members, bound_by, associated, required, requirement_as, requirement, requirement_choice, requirement_more, interface_rest, extended_name, extended_more, extended_rest, extended_by, extended, extension_rest}
use Rattle.declaration_laws.proofs.Begins.{begun_use, attribute_stands, type_begun}
use Rattle.declaration_laws.proofs.Parts.{reads_closed}
use Rattle.declaration_laws.proofs.Functions.{reads_map}
use Rattle.declaration_laws.proofs.Interfaces.{requirement_open}
use Rattle.slang_grammar.specs.Heights.{greatest}
use Rattle.slang_grammar.proofs.Limited.{excuse_in}
use Rattle.statement_grammar.specs.AttributeRules.{all_true}
use Rattle.statement_fits.specs.Sizes.{Count, optional, in_attributes, attribute_name, Keeps}
use Rattle.statement_fits.proofs.Moves.{Enough, Left, left_all, left_next, left_none}
use Rattle.statement_fits.proofs.Attributes.{free_or, attributes_read}
use Rattle.declaration_fits.specs.Sizes.{in_items, in_parameter, in_inner_member, in_head, in_requirement, in_interface, in_extension, method_target, inner_member_obeys, requirement_obeys, RequirementFits}
use Rattle.declaration_fits.proofs.Moves.{requirement_moves}
use Rattle.declaration_fits.proofs.Fitting.{Front, whole, longer, left, right, one_obeys, one_keeps, one_in}
use Rattle.declaration_fits.proofs.Parts.{name_read, long_in, reads_generics, reads_heads, reads_constraints, reads_parameters}
use Rattle.declaration_fits.proofs.Functions.{suits_read, reads_type_name}
use Rattle.declaration_fits.proofs.Members.{before_other, before_method, reads_inner}

module _ (ts : List Lexed) (limits : Limits) (nodes : ℕ) (u : Enough ts limits nodes) where
  -- that is within the limits
  abbrev Fit : (Count → ℕ) → Type 0
  Fit f = Keeps limits nodes f

  -- ---- interfaces

  reads_bound : {x : Option Identifier} {from to : ℕ} → BoundAt ts x from to → (seen : ℕ) → Fit (λ count. optional count.of_identifier x) → Reads ⊥ (next (λ o. bound_by limits nodes (sees m.Colon o))) ts from seen x to
  reads_bound {from = from} (t.no_bound q) seen f = reads_next ⊥ ts (λ o. bound_by limits nodes (sees m.Colon o)) from seen None from (first (drop from ts)) (bound_by limits nodes false) refl
      (ap (bound_by limits nodes) q.is) (λ s1. reads_pure ⊥ ts None from s1)
  reads_bound {from = from} (t.bound {p = p} {id = id} o v) seen f =
      reads_next ⊥ ts (λ o. bound_by limits nodes (sees m.Colon o)) from seen (Some id) (from + 1 + 1) (Some (record { kind = k.Mark m.Colon; place = p; bytes = o.bytes })) (bound_by limits nodes true) o.is refl
      (λ s1. reads_map ⊥ ts Some (name limits) (from + 1) s1 id (from + 1 + 1) (name_read ts limits nodes u id (from + 1) s1 v f))

  reads_required : (list : List Attribute) (is_static : Bool) (begin : Place) (tree : TypeTree) (id : Identifier) {all : List Parameter} {end : Place} {from at : ℕ} → ParametersAt ts all from at → Stands ts at (k.Mark m.Semicolon) end →
      (seen : ℕ) → Fit (λ count. in_items count (in_parameter count) all) → Reads ⊥ (required limits nodes list is_static begin (tree, id)) ts from seen (requirement_of (span (begin_of list begin) end) (r.Function list is_static tree id all)) (at + 1)
  unfolding required
  reads_required list is_static begin tree id {all = all} {end = end} {from = from} {at = at} v z seen f =
      let a = requirement_of (span (begin_of list begin) end) (r.Function list is_static tree id all) in
      reads_bind ⊥ ts (parameters limits nodes) _ from seen at (at + 1) all a (reads_parameters ts limits nodes u v seen f)
      (λ s1. reads_bind ⊥ ts (expect m.Semicolon) _ at s1 (at + 1) (at + 1) end a (reads_expect ⊥ ts m.Semicolon end at s1 z) (λ s2. reads_pure ⊥ ts a (at + 1) s2))

  reads_requirement : {x : Requirement} {from to : ℕ} → RequirementAt ts x from to → (seen : ℕ) → RequirementFits limits nodes x → Reads ⊥ (requirement limits nodes) ts from seen x to
  unfolding requirement associated
  reads_requirement {x = x} {from = from} (t.associated {at = at} {p = p} {end = end} {id = id} {bound = bound} s v b z) seen f =
      let none : AttributesAt ts [] [] from from = att.end (record { is = ap (sees m.OpenBracket) s.is }) in
      let short : greatest (map (λ (x : Attribute). attribute_name x.node) []) ≤ limits.names = omega arith in
      let read = attributes_read ts limits target.Other attributes.members before_other none u (free_or limits.free true refl) short in
      let given : Given = ([], read.0) in
      reads_bind ⊥ ts (attributes.attributes limits attributes.members) _ from seen from (at + 1) given x (read.2 seen)
      (λ s1. reads_next ⊥ ts (λ o. requirement_as limits nodes given o (use_of o)) from s1 x (at + 1) (Some (record { kind = k.Word words.AssociatedType; place = p; bytes = s.bytes })) (Take (associated limits nodes p)) s.is refl
      (λ s2. reads_bind ⊥ ts (name limits) _ (from + 1) s2 (from + 1 + 1) (at + 1) id x (name_read ts limits nodes u id (from + 1) s2 v (left _ _ f.sizes))
      (λ s3. reads_bind ⊥ ts (next (λ o. bound_by limits nodes (sees m.Colon o))) _ (from + 1 + 1) s3 at (at + 1) bound x (reads_bound b s3 (right _ _ f.sizes))
      (λ s4. reads_bind ⊥ ts (expect m.Semicolon) _ at s4 (at + 1) (at + 1) end x (reads_expect ⊥ ts m.Semicolon end at s4 z) (λ s5. reads_pure ⊥ ts x (at + 1) s5)))))
  reads_requirement {x = x} {from = from} (t.function {mid = mid} {next = next_} {at = at} {attributes = list} {id = id} a (t.static {p = p} {t = tree} s r) v q z) seen f =
      let named : Fit (λ count. in_attributes count list) = left _ _ f.sizes in
      let typed = right _ _ f.sizes in
      let called = right _ _ typed in
      let read = attributes_read ts limits (method_target true) attributes.members (before_method true) a u f.rules named.short in
      let given : Given = (list, read.0) in
      let tok : Lexed = record { kind = k.Word words.Static; place = p; bytes = s.bytes } in
      let rest = Take (type_name limits nodes >>= (λ y. required limits nodes list true p y)) in
      reads_bind ⊥ ts (attributes.attributes limits attributes.members) _ from seen mid (at + 1) given x (read.2 seen)
      (λ s1. reads_next ⊥ ts (λ o. requirement_as limits nodes given o (use_of o)) mid s1 x (at + 1) (Some tok) (if_suits limits target.Other given.1 rest) s.is refl
      (suits_read ts limits mid x (at + 1) (Some tok) target.Other given.1 rest read.1
      (λ s2. reads_bind ⊥ ts (type_name limits nodes) _ (mid + 1) s2 (next_ + 1) (at + 1) (tree, id) x (reads_type_name ts limits nodes u r v s2 (left _ _ typed) (left _ _ called)) (λ s3. reads_required list true p tree id q z s3 (right _ _ called)))))
  reads_requirement {x = x} {from = from} (t.function {mid = mid} {next = next_} {at = at} {attributes = list} {id = id} a (t.plain {t = tree} r) v q z) seen f =
      let named : Fit (λ count. in_attributes count list) = left _ _ f.sizes in
      let typed = right _ _ f.sizes in
      let called = right _ _ typed in
      let read = attributes_read ts limits (method_target false) attributes.members (before_method false) a u f.rules named.short in
      let given : Given = (list, read.0) in
      let there = first (drop mid ts) in
      let rest = Leave (type_name limits nodes >>= (λ y. required limits nodes list false y.0.place y)) in
      reads_bind ⊥ ts (attributes.attributes limits attributes.members) _ from seen mid (at + 1) given x (read.2 seen)
      (λ s1. reads_next ⊥ ts (λ o. requirement_as limits nodes given o (use_of o)) mid s1 x (at + 1) there (if_suits limits target.Method given.1 rest) refl
      (ap (requirement_as limits nodes given there) (begun_use (type_begun r)))
      (suits_read ts limits mid x (at + 1) there target.Method given.1 rest read.1
      (λ s2. reads_bind ⊥ ts (type_name limits nodes) _ mid s2 (next_ + 1) (at + 1) (tree, id) x (reads_type_name ts limits nodes u r v s2 (left _ _ typed) (left _ _ called)) (λ s3. reads_required list false tree.place tree id q z s3 (right _ _ called)))))

  requirement_none : {x : Requirement} {from to : ℕ} → RequirementAt ts x from to → Left ts zero from → ⊥
  requirement_none {from = from} (t.associated s v b z) l = left_none ts from _ s.is l
  requirement_none {from = from} (t.function (att.more a r) d v q z) l = let o = attribute_stands a in left_none ts from _ o.1.is l
  requirement_none {from = from} (t.function (att.end n) (t.static s r) v q z) l = left_none ts from _ s.is l
  requirement_none {from = from} (t.function (att.end n) (t.plain r) v q z) l = let b = type_begun r in left_none ts from b.tok b.is l

  reads_requirement_more : (list : List Requirement) {x : Requirement} {from to : ℕ} → RequirementAt ts x from to → (seen : ℕ) → length list < limits.items → RequirementFits limits nodes x → Reads ⊥ (requirement_more limits nodes list) ts from seen (list ++ x ∷ []) to
  unfolding requirement_more
  reads_requirement_more list {x = x} {from = from} {to = to} v seen h f =
      let there = first (drop from ts) in
      let fits = fits_in limits (length list) limits.items in
      let open_ = requirement_open (Unit {0}) tt ts limits nodes v in
      reads_map ⊥ ts (λ y. list ++ y ∷ []) (next _) from seen x to
      (reads_next ⊥ ts _ from seen x to there (if_fits fits code.TooLong there (Leave (requirement limits nodes))) refl
      (ap (λ c. if_fits fits code.TooLong there (requirement_choice limits nodes there c)) open_.1)
      (reads_fits ⊥ ts from x to there fits code.TooLong (Leave (requirement limits nodes)) (excuse_in ⊥ limits (length list) limits.items (inl h)) (λ s1. reads_requirement v s1 f)))

  requirements_front : {xs ys : List Requirement} {from to : ℕ} → RequirementsAt ts xs ys from to → Front xs ys
  requirements_front (t.end c) = whole
  requirements_front (t.more {x = x} v l) = longer x (requirements_front l)

  reads_requirements : {list all : List Requirement} {from to : ℕ} → RequirementsAt ts list all from to → (count seen : ℕ) → Left ts count from → Fit (λ count. in_items count (in_requirement count) all) → (limits.free || all_true (map requirement_obeys all)) ≡ true → Reads ⊥ (turns (in_braces limits nodes) (requirement_more limits nodes) count list) ts from seen all to
  reads_requirements {list = list} {from = from} (t.end {p = p} c) count seen u1 f o = reads_turns_end ⊥ ts (in_braces limits nodes) (requirement_more limits nodes) count list from seen (ap not (is_there ts m.CloseBrace from p c))
  reads_requirements (t.more v l) zero seen u1 f o = absurd (requirement_none v u1)
  reads_requirements {list = list} {all = all} {from = from} {to = to} (t.more {mid = mid} {x = x} v l) (suc count) seen u1 f o = let open_ = requirement_open (Unit {0}) tt ts limits nodes v in
      reads_turns_more ⊥ ts (in_braces limits nodes) (requirement_more limits nodes) count list (list ++ x ∷ []) all from seen mid to (ap not open_.0)
      (λ s1. reads_requirement_more list v s1 (one_in limits list x (requirements_front l) (long_in ts limits nodes u in_requirement all f))
      (record { sizes = one_keeps in_requirement list x (requirements_front l) (right _ _ f); rules = one_obeys requirement_obeys limits.free list x (requirements_front l) o }))
      (λ s1. reads_requirements l count s1 (left_next ts count from mid (requirement_moves ts v) u1) f o)

  -- behind its word
  pub reads_interface : (begin : Place) {id : Identifier} {q end : Place} {list : List Requirement} {from at to : ℕ} → NameStands ts from id → Stands ts (from + 1) (k.Mark m.OpenBrace) q → RequirementsAt ts [] list (from + 1 + 1) at →
      ClosedAt ts end at to → (seen : ℕ) → Fit (λ count. in_interface count (interface_of (span begin end) id list)) → (limits.free || all_true (map requirement_obeys list)) ≡ true → Reads ⊥ (interface_rest limits nodes begin) ts from seen (interface_of (span begin end) id list) to
  unfolding interface_rest
  reads_interface begin {id = id} {q = q} {end = end} {list = list} {from = from} {at = at} {to = to} v o l c seen f obeyed =
      let z = interface_of (span begin end) id list in
      reads_bind ⊥ ts (name limits) _ from seen (from + 1) to id z (name_read ts limits nodes u id from seen v (left _ _ f))
      (λ s1. reads_bind ⊥ ts (expect m.OpenBrace) _ (from + 1) s1 (from + 1 + 1) to q z (reads_expect ⊥ ts m.OpenBrace q (from + 1) s1 o)
      (λ s2. reads_bind ⊥ ts (turns (in_braces limits nodes) (requirement_more limits nodes) limits.turns []) _ (from + 1 + 1) s2 at to list z (reads_requirements l limits.turns s2 (left_all u (from + 1 + 1)) (right _ _ f) obeyed)
      (λ s3. reads_bind ⊥ ts closed _ at s3 to to end z (reads_closed ⊥ ts c s3) (λ s4. reads_pure ⊥ ts z to s4))))

  -- ---- extensions

  reads_extended_name : (id : Identifier) (count at seen : ℕ) → NameStands ts at id → count < limits.items → Fit (λ count. count.of_identifier id) → Reads ⊥ (extended_name limits nodes count) ts at seen id (at + 1)
  unfolding extended_name
  reads_extended_name id count at seen v h f =
      let tok : Lexed = record { kind = k.Name; place = id.place; bytes = id.name } in
      let fits = fits_in limits count limits.items in
      reads_next ⊥ ts _ at seen id (at + 1) (Some tok) (if_fits fits code.TooLong (Some tok) (if_short limits tok (Take (pure id)))) v.is refl
      (reads_fits ⊥ ts at id (at + 1) (Some tok) fits code.TooLong (if_short limits tok (Take (pure id))) (excuse_in ⊥ limits count limits.items (inl h))
      (short_within ⊥ ts limits at id (at + 1) tok (Take (pure id)) (inl f.short) (λ s1. reads_pure ⊥ ts id (at + 1) s1)))

  extended_front : {xs ys : List Identifier} {p q : Place} {from to : ℕ} → NamesAt ts xs ys p q from to → Front xs ys
  extended_front (parts.end n) = whole
  extended_front (parts.more {id = id} s v r) = longer id (extended_front r)

  abbrev OfNames : List Identifier → Type 0
  OfNames all = Fit (λ count. in_items count count.of_identifier all)

  reads_more_extended : {xs ys : List Identifier} {p q : Place} {from to : ℕ} → NamesAt ts xs ys p q from to → (count seen : ℕ) → Left ts count from → OfNames ys → Reads ⊥ (turns (sees m.Comma) (extended_more limits nodes) count xs) ts from seen ys to
  unfolding extended_more
  reads_more_extended {xs = xs} {from = from} (parts.end n) count seen l w = reads_turns_end ⊥ ts (sees m.Comma) (extended_more limits nodes) count xs from seen n.is
  reads_more_extended {from = from} (parts.more s v r) zero seen l w = absurd (left_none ts from _ s.is l)
  reads_more_extended {xs = xs} {ys = ys} {from = from} {to = to} (parts.more {p = p} {id = id} s v r) (suc count) seen l w =
      let zs = xs ++ id ∷ [] in
      reads_turns_more ⊥ ts (sees m.Comma) (extended_more limits nodes) count xs zs ys from seen (from + 1 + 1) to (is_there ts m.Comma from p s)
      (λ s1. reads_bind ⊥ ts (expect m.Comma) _ from s1 (from + 1) (from + 1 + 1) p zs (reads_expect ⊥ ts m.Comma p from s1 s)
      (λ s2. reads_bind ⊥ ts (extended_name limits nodes (length xs)) _ (from + 1) s2 (from + 1 + 1) (from + 1 + 1) id zs (reads_extended_name id (length xs) (from + 1) s2 v (one_in limits xs id (extended_front r) (long_in ts limits nodes u (λ count. count.of_identifier) ys w)) (one_keeps (λ count. count.of_identifier) xs id (extended_front r) (right _ _ w))) (λ s3. reads_pure ⊥ ts zs (from + 1 + 1) s3)))
      (λ s1. reads_more_extended r count s1 (left_next ts count from (from + 1 + 1) (omega arith) l) w)

  reads_extended : {all : List Identifier} {from to : ℕ} → ExtendedAt ts all from to → (seen : ℕ) → OfNames all → Reads ⊥ (extended limits nodes) ts from seen all to
  unfolding extended extended_rest
  reads_extended {from = from} (t.no_arguments n) seen w = reads_next ⊥ ts (λ x. extended_by limits nodes (sees m.Less x)) from seen [] from (first (drop from ts)) (extended_by limits nodes false) refl
      (ap (extended_by limits nodes) n.is) (λ s1. reads_pure ⊥ ts [] from s1)
  reads_extended {all = all} {from = from} (t.arguments {at = at} {p = p} {q = q} {id = id} o v r c) seen w =
      reads_next ⊥ ts (λ x. extended_by limits nodes (sees m.Less x)) from seen all (at + 1) (Some (record { kind = k.Mark m.Less; place = p; bytes = o.bytes })) (Take (extended_rest limits nodes)) o.is refl
      (λ s1. reads_bind ⊥ ts (extended_name limits nodes 0) _ (from + 1) s1 (from + 1 + 1) (at + 1) id all (reads_extended_name id 0 (from + 1) s1 v (one_in limits [] id (extended_front r) (long_in ts limits nodes u (λ count. count.of_identifier) all w)) (one_keeps (λ count. count.of_identifier) [] id (extended_front r) (right _ _ w)))
      (λ s2. reads_bind ⊥ ts (turns (sees m.Comma) (extended_more limits nodes) limits.turns (id ∷ [])) _ (from + 1 + 1) s2 at (at + 1) all all (reads_more_extended r limits.turns s2 (left_all u (from + 1 + 1)) w)
      (λ s3. reads_bind ⊥ ts (expect m.Greater) _ at s3 (at + 1) (at + 1) q all (reads_expect ⊥ ts m.Greater q at s3 c) (λ s4. reads_pure ⊥ ts all (at + 1) s4))))

  -- behind its word
  pub reads_extension : (start : Place) {q end : Place} {all : List GenericParameter} {id : Identifier} {arguments bases : List Identifier} {wheres : List Constraint} {members : List InnerMember} {from mid next_ at begin last to : ℕ} →
      GenericsAt ts all from mid → NameStands ts mid id → ExtendedAt ts arguments (mid + 1) next_ → HeadsAt ts bases next_ at → ConstraintsAt ts [] wheres at begin → Stands ts begin (k.Mark m.OpenBrace) q →
      InnerMembersAt ts false [] members (begin + 1) last → ClosedAt ts end last to → (seen : ℕ) → Fit (λ count. in_extension count (extension_of (span start end) all id arguments bases wheres members)) → (limits.free || all_true (map inner_member_obeys members)) ≡ true → Reads ⊥ (extension_rest limits nodes start) ts from seen (extension_of (span start end) all id arguments bases wheres members) to
  unfolding extension_rest
  reads_extension start {q = q} {end = end} {all = all} {id = id} {arguments = arguments} {bases = bases} {wheres = wheres} {members = members} {from = from} {mid = mid} {next_ = next_} {at = at} {begin = begin} {last = last} {to = to} g v x h c o r l seen f obeyed =
      let named : Fit (λ count. in_head count id all bases wheres) = left _ _ f in
      let behind = right _ _ named in
      let bound = right _ _ behind in
      let given : Fit (λ count. max (in_items count count.of_identifier arguments) (in_items count (in_inner_member count) members)) = right _ _ f in
      let z = extension_of (span start end) all id arguments bases wheres members in
      reads_bind ⊥ ts (generics limits) _ from seen mid to all z (reads_generics ts limits nodes u g seen (left _ _ behind))
      (λ s1. reads_bind ⊥ ts (name limits) _ mid s1 (mid + 1) to id z (name_read ts limits nodes u id mid s1 v (left _ _ named))
      (λ s2. reads_bind ⊥ ts (extended limits nodes) _ (mid + 1) s2 next_ to arguments z (reads_extended x s2 (left _ _ given))
      (λ s3. reads_bind ⊥ ts (heads limits) _ next_ s3 at to bases z (reads_heads ts limits nodes u h s3 (left _ _ bound))
      (λ s4. reads_bind ⊥ ts (constraints limits) _ at s4 begin to wheres z (reads_constraints ts limits nodes u c s4 (right _ _ bound))
      (λ s5. reads_bind ⊥ ts (expect m.OpenBrace) _ begin s5 (begin + 1) to q z (reads_expect ⊥ ts m.OpenBrace q begin s5 o)
      (λ s6. reads_bind ⊥ ts (inner_members limits nodes false) _ (begin + 1) s6 last to members z (reads_inner ts limits nodes u r s6 (right _ _ given) obeyed)
      (λ s7. reads_bind ⊥ ts closed _ last s7 to to end z (reads_closed ⊥ ts l s7) (λ s8. reads_pure ⊥ ts z to s8))))))))
