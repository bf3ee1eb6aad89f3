-- Members and structs: what is spelled within the limits is read.
use Rattle.std.proofs.Common.{◌≡◌, ◌<◌, ◌≤◌, ◌||◌, arith, inl, map, Bool, true, false, not, ℕ, zero, suc, ◌+◌, if◌then◌else◌, List, [], ◌∷◌, ◌++◌, drop, length, Option, refl, ◌∙◌, ap}
use Rattle.slang_names.specs.declared.places.Place.{Place}
use Rattle.slang_names.specs.declared.places.Access.{Access}
use Rattle.slang_names.specs.declared.codes.ModuleCode.TheVariants as code
use Rattle.slang_tree.specs.declared.types.Identifier.{Identifier}
use Rattle.slang_tree.specs.declared.statements.Attribute.{Attribute}
use Rattle.slang_tree.specs.declared.declarations.GenericParameter.{GenericParameter}
use Rattle.slang_tree.specs.declared.declarations.Constraint.{Constraint}
use Rattle.slang_tree.specs.declared.declarations.InnerMember.{InnerMember}
use Rattle.slang_tree.specs.declared.declarations.InnerMemberNode.{InnerMemberNode}
use Rattle.slang_tree.specs.declared.declarations.InnerMemberNode.TheVariants as i
use Rattle.slang_tree.specs.declared.declarations.Member.{Member}
use Rattle.slang_tree.specs.declared.declarations.MemberNode.{MemberNode}
use Rattle.slang_tree.specs.declared.declarations.MemberNode.TheVariants as n
use Rattle.slang_tokens.specs.declared.tokens.Mark.TheVariants as m
use Rattle.slang_reading.specs.Lexed.{Lexed}
use Rattle.slang_reading.specs.Reading.{Leave, if_fits, first, next, turns}
use Rattle.slang_reading.specs.Kinds.{span}
use Rattle.slang_reading.proofs.Exact.{Reads, reads_pure, reads_bind, reads_next, reads_fits, reads_turns_end, reads_turns_more}
use Rattle.slang_grammar.specs.Descent.{Limits, fits_in, expect, name}
use Rattle.slang_grammar.proofs.Shared.{reads_expect, is_there}
use Rattle.statement_grammar.specs.declared.attributes.Target.TheVariants as target
use Rattle.statement_grammar.specs.Attributes.{AttributesAt}
use Rattle.statement_grammar.specs.AttributesDescent as attributes
use Rattle.statement_grammar.specs.AttributesDescent.{Given, Noted, possible}
use Rattle.statement_grammar.specs.Statements as st
use Rattle.declaration_grammar.specs.Parts.{AccessAt, ClosedAt}
use Rattle.declaration_grammar.specs.PartsDescent.{access, generics, heads, constraints, closed}
use Rattle.declaration_grammar.specs.Declarations as t
use Rattle.declaration_grammar.specs.Declarations.{InnerNodeAt, inner_member, struct_of, InnerMembersAt, StructHeadAt, InnerStructAt, MemberNodeAt, member_of, MembersAt, StructAt}
use Rattle.declaration_grammar.specs.DeclarationsDescent.{use_of, begins_parameters, function_rest, static_rest, field_rest, goes_on_field, in_braces, inner_typed_by, inner_typed, inner_as, inner_node, inner_one, inner_begins_as, inner_choice, inner_more, inner_members, Head, struct_head, inner_struct_rest, member_typed_by, member_typed, member_as, member_node, member_one, member_begins_as, member_choice, member_more, struct_rest}
use Rattle.declaration_laws.proofs.Begins.{begun_use, type_begun, begins_somewhere, opens_inside, opens_one}
use Rattle.declaration_laws.proofs.Parts.{reads_access, reads_closed}
use Rattle.declaration_laws.proofs.Functions.{reads_map, RestAt, function_begins, FieldRestAt, field_goes_on}
use Rattle.declaration_laws.proofs.Members.{inner_opens, member_opens}
use Rattle.slang_grammar.proofs.Limited.{excuse_in}
use Rattle.statement_grammar.specs.AttributeRules.{all_true, obeys}
use Rattle.statement_fits.specs.Sizes.{Count, in_attributes, Keeps}
use Rattle.statement_fits.proofs.Fitting.{or_left, or_right}
use Rattle.statement_fits.proofs.Moves.{Enough, Left, left_all, left_next, left_none, attributes_move}
use Rattle.statement_fits.proofs.Attributes.{Among, free_or, attributes_read}
use Rattle.declaration_fits.specs.Sizes.{in_items, in_inner_node, in_inner_member, in_head, in_member_node, in_member, in_struct, method_target, inner_target, inner_node_obeys, inner_member_obeys, member_target, member_node_obeys, member_obeys, InnerMemberFits, MemberFits}
use Rattle.declaration_fits.proofs.Moves.{access_moves, inner_node_moves, member_node_moves}
use Rattle.declaration_fits.proofs.Fitting.{Front, whole, longer, left, right, one_obeys, one_keeps, one_in}
use Rattle.declaration_fits.proofs.Parts.{name_read, long_in, reads_generics, reads_heads, reads_constraints}
use Rattle.declaration_fits.proofs.Functions.{May, reads_worded, reads_shown, reads_typed, reads_function, reads_static, reads_alias, first_name, reads_field}

-- ---- what attributes stand before

pub before_other : Among target.Other attributes.members
before_other list h = free_or _ _ (ap (λ c. c || false) h)

pub before_method : (is_static : Bool) → Among (method_target is_static) attributes.members
before_method true list h = before_other list h
before_method false list h = ap (λ c. c || possible (target.Other ∷ []) list) h

before_inner : (x : InnerMemberNode) → Among (inner_target x) attributes.members
before_inner (i.Alias x) list h = before_other list h
before_inner (i.Function x) list h = before_method x.is_static list h
before_inner (i.Field x) list h = before_other list h

before_member : (x : MemberNode) → Among (member_target x) attributes.members
before_member (n.Struct x) list h = before_other list h
before_member (n.Alias x) list h = before_other list h
before_member (n.Function x) list h = before_method x.is_static list h
before_member (n.Field x) list h = before_other list h

pub member_moves : {from mid at to : ℕ} → from ≤ mid → mid ≤ at → at < to → from < to
member_moves a b c = omega (arith, a, b, c)

module _ (ts : List Lexed) (limits : Limits) (nodes : ℕ) (u : Enough ts limits nodes) where
  -- that is within the limits
  abbrev Fit : (Count → ℕ) → Type 0
  Fit f = Keeps limits nodes f

  -- ---- members of extensions and of structs in structs

  reads_inner_node : {fields : Bool} {x : InnerMemberNode} {from to : ℕ} → InnerNodeAt ts fields x from to → (list : Noted) (seen : ℕ) → May limits (inner_target x) list → Fit (λ count. in_inner_node count x) → (limits.free || inner_node_obeys x) ≡ true → Reads ⊥ (inner_node limits nodes fields list) ts from seen x to
  unfolding inner_node inner_typed
  reads_inner_node {fields = fields} (t.alias r) list seen m f obeyed = reads_alias ts limits nodes u i.Alias (λ x. inner_as limits nodes fields list x (use_of x)) list m (λ p bytes. refl) (λ p bytes. refl) r seen f
  reads_inner_node {fields = fields} {to = to} (t.function {x = x} (t.function {at = at} {to = last} {next = next_} (t.static {p = p} s r) v g l c b)) list seen m f obeyed =
      let rest : RestAt (Unit {0}) tt ts limits nodes x.generics x.parameters x.wheres x.body _ to = record { mid = at; at = last; last = next_; generic = g; given = l; bound = c; block = b } in
      reads_worded ts limits i.Function (static_rest limits nodes p) (λ x. inner_as limits nodes fields list x (use_of x)) x to target.Other list m s refl (λ s1. reads_static ts limits nodes u p r v rest s1 (record { sizes = f; rules = obeyed })) seen
  reads_inner_node {fields = fields} {from = from} {to = to} (t.function {x = x} (t.function {mid = mid} {at = at} {to = last} {next = next_} {id = id} (t.plain {t = tree} r) v g l c b)) list seen m f obeyed =
      let rest : RestAt (Unit {0}) tt ts limits nodes x.generics x.parameters x.wheres x.body (mid + 1) to = record { mid = at; at = last; last = next_; generic = g; given = l; bound = c; block = b } in
      let o = first (drop (mid + 1) ts) in
      reads_typed ts limits nodes u (λ x. inner_as limits nodes fields list x (use_of x)) (inner_typed limits nodes fields list) (i.Function x) to r v (left _ _ f) (left _ _ (right _ _ f)) (ap (inner_as limits nodes fields list (first (drop from ts))) (begun_use (type_begun r)))
      (λ s1. reads_shown ts limits i.Function (function_rest limits nodes tree.place false (tree, id)) (λ o. inner_typed_by limits nodes fields list (tree, id) (begins_parameters o) (if fields then goes_on_field limits nodes o else false)) x to target.Method list m
      (ap (λ b. inner_typed_by limits nodes fields list (tree, id) b (if fields then goes_on_field limits nodes o else false)) (function_begins (Unit {0}) tt ts limits nodes rest))
      (λ s2. reads_function ts limits nodes u tree.place false tree id rest s2 (record { sizes = f; rules = obeyed })) s1) seen
  reads_inner_node {from = from} {to = to} (t.field {x = x} (t.field {mid = mid} {next = next_} {at = at} {last = last} {end = end} {t = tree} {all = all} r (st.declared_name {id = id} {list = lengths} v q) z1 z)) list seen m f obeyed =
      let rest : FieldRestAt (Unit {0}) tt ts limits nodes id all end (mid + 1) at = record { list = lengths; last = last; mid = next_; lengths = q; names = z1; closes = z } in
      let o = first (drop (mid + 1) ts) in
      let goes = field_goes_on (Unit {0}) tt ts limits nodes rest in
      reads_typed ts limits nodes u (λ x. inner_as limits nodes true list x (use_of x)) (inner_typed limits nodes true list) (i.Field x) to r v (left _ _ f) (first_name ts limits nodes u id lengths last z1 (right _ _ f)) (ap (inner_as limits nodes true list (first (drop from ts))) (begun_use (type_begun r)))
      (λ s1. reads_shown ts limits i.Field (field_rest limits nodes (tree, id)) (λ o. inner_typed_by limits nodes true list (tree, id) (begins_parameters o) (goes_on_field limits nodes o)) x to target.Other list m
      (ap (λ b. inner_typed_by limits nodes true list (tree, id) b (goes_on_field limits nodes o)) goes.0 ∙ ap (inner_typed_by limits nodes true list (tree, id) false) goes.1)
      (λ s2. reads_field ts limits nodes u tree rest s2 (right _ _ f)) s1) seen

  reads_inner_one : {fields : Bool} {xs : List Attribute} {v : Option Access} {x : InnerMemberNode} {from mid at to : ℕ} → AttributesAt ts [] xs from mid → AccessAt ts v mid at → InnerNodeAt ts fields x at to → (seen : ℕ) → InnerMemberFits limits nodes (inner_member xs v x) →
      Reads ⊥ (inner_one limits nodes fields) ts from seen (inner_member xs v x) to
  unfolding inner_one
  reads_inner_one {fields = fields} {xs = xs} {v = v} {x = x} {from = from} {mid = mid} {at = at} {to = to} a b r seen f =
      let named : Fit (λ count. in_attributes count xs) = left _ _ f.sizes in
      let read = attributes_read ts limits (inner_target x) attributes.members (before_inner x) a u (or_left limits.free (obeys (inner_target x) xs) (inner_node_obeys x) f.rules) named.short in
      let given : Given = (xs, read.0) in
      let z = inner_member xs v x in
      reads_bind ⊥ ts (attributes.attributes limits attributes.members) _ from seen mid to given z (read.2 seen)
      (λ s1. reads_bind ⊥ ts access _ mid s1 at to v z (reads_access ⊥ ts b s1)
      (λ s2. reads_bind ⊥ ts (inner_node limits nodes fields given.1) _ at s2 to to x z (reads_inner_node r given.1 s2 read.1 (right _ _ f.sizes) (or_right limits.free (obeys (inner_target x) xs) (inner_node_obeys x) f.rules)) (λ s3. reads_pure ⊥ ts z to s3)))

  reads_inner_more : (list : List InnerMember) {fields : Bool} {xs : List Attribute} {v : Option Access} {x : InnerMemberNode} {from mid at to : ℕ} → AttributesAt ts [] xs from mid → AccessAt ts v mid at → InnerNodeAt ts fields x at to →
      (seen : ℕ) → length list < limits.items → InnerMemberFits limits nodes (inner_member xs v x) → Reads ⊥ (inner_more limits nodes fields list) ts from seen (list ++ inner_member xs v x ∷ []) to
  unfolding inner_more
  reads_inner_more list {fields = fields} {xs = xs} {v = v} {x = x} {from = from} {to = to} a b r seen h f =
      let z = inner_member xs v x in
      let there = first (drop from ts) in
      let fits = fits_in limits (length list) limits.items in
      let one = inner_one limits nodes fields in
      reads_map ⊥ ts (λ y. list ++ y ∷ []) (next _) from seen z to
      (reads_next ⊥ ts _ from seen z to there (if_fits fits code.TooLong there (Leave one)) refl
      (ap (λ c. if_fits fits code.TooLong there (inner_choice limits nodes fields there c)) (opens_one (inner_begins_as limits nodes fields) refl a b (inner_opens (Unit {0}) tt ts limits nodes r)))
      (reads_fits ⊥ ts from z to there fits code.TooLong (Leave one) (excuse_in ⊥ limits (length list) limits.items (inl h)) (λ s1. reads_inner_one a b r s1 f)))

  inner_front : {fields : Bool} {xs ys : List InnerMember} {from to : ℕ} → InnerMembersAt ts fields xs ys from to → Front xs ys
  inner_front (t.end c) = whole
  inner_front (t.more {attributes = xs} {access = v} {x = x} a b r l) = longer (inner_member xs v x) (inner_front l)

  reads_inner_members : {fields : Bool} {list all : List InnerMember} {from to : ℕ} → InnerMembersAt ts fields list all from to → (count seen : ℕ) → Left ts count from → Fit (λ count. in_items count (in_inner_member count) all) → (limits.free || all_true (map inner_member_obeys all)) ≡ true → Reads ⊥ (turns (in_braces limits nodes) (inner_more limits nodes fields) count list) ts from seen all to
  reads_inner_members {fields = fields} {list = list} {from = from} (t.end {p = p} c) count seen u1 f o = reads_turns_end ⊥ ts (in_braces limits nodes) (inner_more limits nodes fields) count list from seen (ap not (is_there ts m.CloseBrace from p c))
  reads_inner_members {from = from} (t.more a b r l) zero seen u1 f o = let opened = inner_opens (Unit {0}) tt ts limits nodes r in let begin = begins_somewhere a b (opened.tok, opened.is) in absurd (left_none ts from begin.0 begin.1 u1)
  reads_inner_members {fields = fields} {list = list} {all = all} {from = from} {to = to} (t.more {at = at} {attributes = xs} {access = v} {x = x} a b r l) (suc count) seen u1 f o =
      let moves = member_moves (attributes_move ts a) (access_moves ts b) (inner_node_moves ts r) in
      reads_turns_more ⊥ ts (in_braces limits nodes) (inner_more limits nodes fields) count list (list ++ inner_member xs v x ∷ []) all from seen at to (ap not (opens_inside (inner_begins_as limits nodes fields) refl a b (inner_opens (Unit {0}) tt ts limits nodes r)))
      (λ s1. reads_inner_more list a b r s1 (one_in limits list (inner_member xs v x) (inner_front l) (long_in ts limits nodes u in_inner_member all f))
      (record { sizes = one_keeps in_inner_member list (inner_member xs v x) (inner_front l) (right _ _ f); rules = one_obeys inner_member_obeys limits.free list (inner_member xs v x) (inner_front l) o }))
      (λ s1. reads_inner_members l count s1 (left_next ts count from at moves u1) f o)

  pub reads_inner : {fields : Bool} {all : List InnerMember} {from to : ℕ} → InnerMembersAt ts fields [] all from to → (seen : ℕ) → Fit (λ count. in_items count (in_inner_member count) all) → (limits.free || all_true (map inner_member_obeys all)) ≡ true → Reads ⊥ (inner_members limits nodes fields) ts from seen all to
  unfolding inner_members
  reads_inner {from = from} r seen f o = reads_inner_members r limits.turns seen (left_all u from) f o

  -- ---- structs

  reads_struct_head : {id : Identifier} {all : List GenericParameter} {bases : List Identifier} {wheres : List Constraint} {from to : ℕ} → StructHeadAt ts id all bases wheres from to → (seen : ℕ) → Fit (λ count. in_head count id all bases wheres) →
      Reads ⊥ (struct_head limits nodes) ts from seen (id, all, bases, wheres) to
  unfolding struct_head
  reads_struct_head {id = id} {all = all} {bases = bases} {wheres = wheres} {from = from} (t.head {mid = mid} {at = at} {to = to} {p = p} v g h c o) seen f =
      let behind = right _ _ f in
      let last = right _ _ behind in
      let z : Head limits nodes = (id, all, bases, wheres) in
      reads_bind ⊥ ts (name limits) _ from seen (from + 1) (to + 1) id z (name_read ts limits nodes u id from seen v (left _ _ f))
      (λ s1. reads_bind ⊥ ts (generics limits) _ (from + 1) s1 mid (to + 1) all z (reads_generics ts limits nodes u g s1 (left _ _ behind))
      (λ s2. reads_bind ⊥ ts (heads limits) _ mid s2 at (to + 1) bases z (reads_heads ts limits nodes u h s2 (left _ _ last))
      (λ s3. reads_bind ⊥ ts (constraints limits) _ at s3 to (to + 1) wheres z (reads_constraints ts limits nodes u c s3 (right _ _ last))
      (λ s4. reads_bind ⊥ ts (expect m.OpenBrace) _ to s4 (to + 1) (to + 1) p z (reads_expect ⊥ ts m.OpenBrace p to s4 o) (λ s5. reads_pure ⊥ ts z (to + 1) s5)))))

  reads_member_node : {x : MemberNode} {from to : ℕ} → MemberNodeAt ts x from to → (list : Noted) (seen : ℕ) → May limits (member_target x) list → Fit (λ count. in_member_node count x) → (limits.free || member_node_obeys x) ≡ true → Reads ⊥ (member_node limits nodes list) ts from seen x to
  unfolding member_node member_typed inner_struct_rest
  reads_member_node {to = to} (t.struct {x = x} (t.inner_struct {mid = mid} {at = at} {p = p} {end = end} {id = id} {generics = all} {heads = bases} {wheres = wheres} {members = members} s h r c)) list seen m f obeyed =
      reads_worded ts limits n.Struct (inner_struct_rest limits nodes p) (λ x. member_as limits nodes list x (use_of x)) x to target.Other list m s refl
      (λ s1. reads_bind ⊥ ts (struct_head limits nodes) _ _ s1 mid to (id, all, bases, wheres) x (reads_struct_head h s1 (left _ _ f))
      (λ s2. reads_bind ⊥ ts (inner_members limits nodes true) _ mid s2 at to members x (reads_inner r s2 (right _ _ f) obeyed)
      (λ s3. reads_bind ⊥ ts closed _ at s3 to to end x (reads_closed ⊥ ts c s3) (λ s4. reads_pure ⊥ ts x to s4)))) seen
  reads_member_node (t.alias r) list seen m f obeyed = reads_alias ts limits nodes u n.Alias (λ x. member_as limits nodes list x (use_of x)) list m (λ p bytes. refl) (λ p bytes. refl) r seen f
  reads_member_node {to = to} (t.function {x = x} (t.function {at = at} {to = last} {next = next_} (t.static {p = p} s r) v g l c b)) list seen m f obeyed =
      let rest : RestAt (Unit {0}) tt ts limits nodes x.generics x.parameters x.wheres x.body _ to = record { mid = at; at = last; last = next_; generic = g; given = l; bound = c; block = b } in
      reads_worded ts limits n.Function (static_rest limits nodes p) (λ x. member_as limits nodes list x (use_of x)) x to target.Other list m s refl (λ s1. reads_static ts limits nodes u p r v rest s1 (record { sizes = f; rules = obeyed })) seen
  reads_member_node {from = from} {to = to} (t.function {x = x} (t.function {mid = mid} {at = at} {to = last} {next = next_} {id = id} (t.plain {t = tree} r) v g l c b)) list seen m f obeyed =
      let rest : RestAt (Unit {0}) tt ts limits nodes x.generics x.parameters x.wheres x.body (mid + 1) to = record { mid = at; at = last; last = next_; generic = g; given = l; bound = c; block = b } in
      reads_typed ts limits nodes u (λ x. member_as limits nodes list x (use_of x)) (member_typed limits nodes list) (n.Function x) to r v (left _ _ f) (left _ _ (right _ _ f)) (ap (member_as limits nodes list (first (drop from ts))) (begun_use (type_begun r)))
      (λ s1. reads_shown ts limits n.Function (function_rest limits nodes tree.place false (tree, id)) (λ o. member_typed_by limits nodes list (tree, id) (begins_parameters o) (goes_on_field limits nodes o)) x to target.Method list m
      (ap (λ b. member_typed_by limits nodes list (tree, id) b (goes_on_field limits nodes (first (drop (mid + 1) ts)))) (function_begins (Unit {0}) tt ts limits nodes rest))
      (λ s2. reads_function ts limits nodes u tree.place false tree id rest s2 (record { sizes = f; rules = obeyed })) s1) seen
  reads_member_node {from = from} {to = to} (t.field {x = x} (t.field {mid = mid} {next = next_} {at = at} {last = last} {end = end} {t = tree} {all = all} r (st.declared_name {id = id} {list = lengths} v q) z1 z)) list seen m f obeyed =
      let rest : FieldRestAt (Unit {0}) tt ts limits nodes id all end (mid + 1) at = record { list = lengths; last = last; mid = next_; lengths = q; names = z1; closes = z } in
      let goes = field_goes_on (Unit {0}) tt ts limits nodes rest in
      reads_typed ts limits nodes u (λ x. member_as limits nodes list x (use_of x)) (member_typed limits nodes list) (n.Field x) to r v (left _ _ f) (first_name ts limits nodes u id lengths last z1 (right _ _ f)) (ap (member_as limits nodes list (first (drop from ts))) (begun_use (type_begun r)))
      (λ s1. reads_shown ts limits n.Field (field_rest limits nodes (tree, id)) (λ o. member_typed_by limits nodes list (tree, id) (begins_parameters o) (goes_on_field limits nodes o)) x to target.Other list m
      (ap (λ b. member_typed_by limits nodes list (tree, id) b (goes_on_field limits nodes (first (drop (mid + 1) ts)))) goes.0 ∙ ap (member_typed_by limits nodes list (tree, id) false) goes.1)
      (λ s2. reads_field ts limits nodes u tree rest s2 (right _ _ f)) s1) seen

  reads_member_one : {xs : List Attribute} {v : Option Access} {x : MemberNode} {from mid at to : ℕ} → AttributesAt ts [] xs from mid → AccessAt ts v mid at → MemberNodeAt ts x at to → (seen : ℕ) → MemberFits limits nodes (member_of xs v x) →
      Reads ⊥ (member_one limits nodes) ts from seen (member_of xs v x) to
  unfolding member_one
  reads_member_one {xs = xs} {v = v} {x = x} {from = from} {mid = mid} {at = at} {to = to} a b r seen f =
      let named : Fit (λ count. in_attributes count xs) = left _ _ f.sizes in
      let read = attributes_read ts limits (member_target x) attributes.members (before_member x) a u (or_left limits.free (obeys (member_target x) xs) (member_node_obeys x) f.rules) named.short in
      let given : Given = (xs, read.0) in
      let z = member_of xs v x in
      reads_bind ⊥ ts (attributes.attributes limits attributes.members) _ from seen mid to given z (read.2 seen)
      (λ s1. reads_bind ⊥ ts access _ mid s1 at to v z (reads_access ⊥ ts b s1)
      (λ s2. reads_bind ⊥ ts (member_node limits nodes given.1) _ at s2 to to x z (reads_member_node r given.1 s2 read.1 (right _ _ f.sizes) (or_right limits.free (obeys (member_target x) xs) (member_node_obeys x) f.rules)) (λ s3. reads_pure ⊥ ts z to s3)))

  reads_member_more : (list : List Member) {xs : List Attribute} {v : Option Access} {x : MemberNode} {from mid at to : ℕ} → AttributesAt ts [] xs from mid → AccessAt ts v mid at → MemberNodeAt ts x at to → (seen : ℕ) → length list < limits.items → MemberFits limits nodes (member_of xs v x) →
      Reads ⊥ (member_more limits nodes list) ts from seen (list ++ member_of xs v x ∷ []) to
  unfolding member_more
  reads_member_more list {xs = xs} {v = v} {x = x} {from = from} {to = to} a b r seen h f =
      let z = member_of xs v x in
      let there = first (drop from ts) in
      let fits = fits_in limits (length list) limits.items in
      reads_map ⊥ ts (λ y. list ++ y ∷ []) (next _) from seen z to
      (reads_next ⊥ ts _ from seen z to there (if_fits fits code.TooLong there (Leave (member_one limits nodes))) refl
      (ap (λ c. if_fits fits code.TooLong there (member_choice limits nodes there c)) (opens_one (member_begins_as limits nodes) refl a b (member_opens (Unit {0}) tt ts limits nodes r)))
      (reads_fits ⊥ ts from z to there fits code.TooLong (Leave (member_one limits nodes)) (excuse_in ⊥ limits (length list) limits.items (inl h)) (λ s1. reads_member_one a b r s1 f)))

  members_front : {xs ys : List Member} {from to : ℕ} → MembersAt ts xs ys from to → Front xs ys
  members_front (t.end c) = whole
  members_front (t.more {attributes = xs} {access = v} {x = x} a b r l) = longer (member_of xs v x) (members_front l)

  reads_members : {list all : List Member} {from to : ℕ} → MembersAt ts list all from to → (count seen : ℕ) → Left ts count from → Fit (λ count. in_items count (in_member count) all) → (limits.free || all_true (map member_obeys all)) ≡ true → Reads ⊥ (turns (in_braces limits nodes) (member_more limits nodes) count list) ts from seen all to
  reads_members {list = list} {from = from} (t.end {p = p} c) count seen u1 f o = reads_turns_end ⊥ ts (in_braces limits nodes) (member_more limits nodes) count list from seen (ap not (is_there ts m.CloseBrace from p c))
  reads_members {from = from} (t.more a b r l) zero seen u1 f o = let opened = member_opens (Unit {0}) tt ts limits nodes r in let begin = begins_somewhere a b (opened.tok, opened.is) in absurd (left_none ts from begin.0 begin.1 u1)
  reads_members {list = list} {all = all} {from = from} {to = to} (t.more {at = at} {attributes = xs} {access = v} {x = x} a b r l) (suc count) seen u1 f o =
      let moves = member_moves (attributes_move ts a) (access_moves ts b) (member_node_moves ts r) in
      reads_turns_more ⊥ ts (in_braces limits nodes) (member_more limits nodes) count list (list ++ member_of xs v x ∷ []) all from seen at to (ap not (opens_inside (member_begins_as limits nodes) refl a b (member_opens (Unit {0}) tt ts limits nodes r)))
      (λ s1. reads_member_more list a b r s1 (one_in limits list (member_of xs v x) (members_front l) (long_in ts limits nodes u in_member all f))
      (record { sizes = one_keeps in_member list (member_of xs v x) (members_front l) (right _ _ f); rules = one_obeys member_obeys limits.free list (member_of xs v x) (members_front l) o }))
      (λ s1. reads_members l count s1 (left_next ts count from at moves u1) f o)

  -- behind its word
  pub reads_struct : (begin : Place) {id : Identifier} {all : List GenericParameter} {bases : List Identifier} {wheres : List Constraint} {members : List Member} {end : Place} {from mid at to : ℕ} →
      StructHeadAt ts id all bases wheres from mid → MembersAt ts [] members mid at → ClosedAt ts end at to → (seen : ℕ) → Fit (λ count. in_struct count (struct_of (span begin end) id all bases wheres members)) → (limits.free || all_true (map member_obeys members)) ≡ true →
      Reads ⊥ (struct_rest limits nodes begin) ts from seen (struct_of (span begin end) id all bases wheres members) to
  unfolding struct_rest
  reads_struct begin {id = id} {all = all} {bases = bases} {wheres = wheres} {members = members} {end = end} {from = from} {mid = mid} {at = at} {to = to} h r c seen f o =
      let z = struct_of (span begin end) id all bases wheres members in
      reads_bind ⊥ ts (struct_head limits nodes) _ from seen mid to (id, all, bases, wheres) z (reads_struct_head h seen (left _ _ f))
      (λ s1. reads_bind ⊥ ts (turns (in_braces limits nodes) (member_more limits nodes) limits.turns []) _ mid s1 at to members z (reads_members r limits.turns s1 (left_all u mid) (right _ _ f) o)
      (λ s2. reads_bind ⊥ ts closed _ at s2 to to end z (reads_closed ⊥ ts c s2) (λ s3. reads_pure ⊥ ts z to s3)))
