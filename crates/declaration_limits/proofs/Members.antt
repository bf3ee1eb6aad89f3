-- Members and structs: the first limit or rule on attributes that is broken is told.
use Rattle.std.proofs.Common.{◌≡◌, ◌≤◌, Bool, true, false, not, ℕ, zero, suc, ◌+◌, if◌then◌else◌, List, [], ◌∷◌, ◌++◌, drop, length, Option, refl, ◌∙◌, ap}
use Rattle.slang_names.specs.declared.places.Place.{Place}
use Rattle.slang_names.specs.declared.places.Access.{Access}
use Rattle.slang_names.specs.declared.codes.ModuleCode.TheVariants as code
use Rattle.slang_tree.specs.declared.types.Identifier.{Identifier}
use Rattle.slang_tree.specs.declared.statements.Attribute.{Attribute}
use Rattle.slang_tree.specs.declared.declarations.GenericParameter.{GenericParameter}
use Rattle.slang_tree.specs.declared.declarations.Constraint.{Constraint}
use Rattle.slang_tree.specs.declared.declarations.InnerMember.{InnerMember}
use Rattle.slang_tree.specs.declared.declarations.InnerMemberNode.{InnerMemberNode}
use Rattle.slang_tree.specs.declared.declarations.InnerMemberNode.TheVariants as i
use Rattle.slang_tree.specs.declared.declarations.Member.{Member}
use Rattle.slang_tree.specs.declared.declarations.MemberNode.{MemberNode}
use Rattle.slang_tree.specs.declared.declarations.MemberNode.TheVariants as n
use Rattle.slang_tokens.specs.declared.tokens.Mark.TheVariants as m
use Rattle.slang_reading.specs.Lexed.{Lexed}
use Rattle.slang_reading.specs.Reading.{Leave, if_fits, first, next, turns}
use Rattle.slang_reading.specs.Kinds.{span}
use Rattle.slang_reading.proofs.Exact.{reads_pure, reads_bind}
use Rattle.slang_grammar.specs.Descent.{Limits, fits_in, expect, name}
use Rattle.slang_grammar.proofs.Shared.{reads_expect, is_there}
use Rattle.statement_grammar.specs.declared.attributes.Target.TheVariants as target
use Rattle.statement_grammar.specs.Attributes.{AttributesAt}
use Rattle.statement_grammar.specs.AttributesDescent as attributes
use Rattle.statement_grammar.specs.AttributesDescent.{Given}
use Rattle.statement_grammar.specs.Statements as st
use Rattle.declaration_grammar.specs.Parts.{AccessAt, ClosedAt}
use Rattle.declaration_grammar.specs.PartsDescent.{access, generics, heads, constraints, closed}
use Rattle.declaration_grammar.specs.Declarations as t
use Rattle.declaration_grammar.specs.Declarations.{InnerNodeAt, inner_member, struct_of, InnerMembersAt, StructHeadAt, InnerStructAt, MemberNodeAt, member_of, MembersAt, StructAt}
use Rattle.declaration_grammar.specs.DeclarationsDescent.{use_of, begins_parameters, function_rest, static_rest, field_rest, goes_on_field, in_braces, inner_typed_by, inner_typed, inner_as, inner_node, inner_one, inner_begins_as, inner_choice, inner_more, inner_members, Head, struct_head, inner_struct_rest, member_typed_by, member_typed, member_as, member_node, member_one, member_begins_as, member_choice, member_more, struct_rest}
use Rattle.declaration_laws.proofs.Begins.{begun_use, type_begun, begins_somewhere, opens_inside, opens_one}
use Rattle.declaration_laws.proofs.Parts.{reads_access, reads_closed}
use Rattle.declaration_laws.proofs.Functions.{RestAt, function_begins, FieldRestAt, field_goes_on}
use Rattle.declaration_laws.proofs.Members.{inner_opens, member_opens}
use Rattle.statement_fits.proofs.Moves.{Left, left_next, left_none, attributes_move}
use Rattle.declaration_fits.proofs.Moves.{access_moves, inner_node_moves, member_node_moves}
use Rattle.declaration_fits.proofs.Members.{member_moves}
use Rattle.expression_limits.specs.Breaks.{item_behind}
use Rattle.expression_limits.proofs.Telling.{Tells, tells_bind, tells_then, tells_last, tells_next, tells_turns_end, tells_turns_more}
use Rattle.expression_limits.proofs.Types.{tells_name}
use Rattle.statement_limits.specs.Attributes.{attributes_breaks, misfit_breaks}
use Rattle.statement_limits.proofs.Attributes.{noted_in, tells_attributes}
use Rattle.declaration_limits.specs.Declarations.{inner_node_breaks, inner_members_breaks, head_breaks, member_node_breaks, members_breaks}
use Rattle.declaration_limits.proofs.Telling.{tells_map, tells_behind, tells_worded, tells_shown}
use Rattle.declaration_limits.proofs.Parts.{all_left, tells_generics, tells_heads, tells_constraints}
use Rattle.declaration_limits.proofs.Functions.{tells_typed, tells_function, tells_static, tells_alias, tells_field}

module _ (ts : List Lexed) (limits : Limits) (free : limits.free ≡ false) (long : length ts ≤ limits.turns) (nodes : ℕ) where
  -- ---- members of extensions and of structs in structs

  tells_inner_node : {fields : Bool} {x : InnerMemberNode} {from to : ℕ} → (s : InnerNodeAt ts fields x from to) → {xs ys : List Attribute} {begin end_ : ℕ} (before : AttributesAt ts xs ys begin end_) → (seen : ℕ) →
      Tells (inner_node_breaks ts limits s (misfit_breaks ts before) nodes) (inner_node limits nodes fields (noted_in ts before)) ts from seen x to
  unfolding inner_node inner_typed
  tells_inner_node {fields = fields} (t.alias r) before seen =
      let list = noted_in ts before in
      tells_alias ts limits free long nodes i.Alias (λ x. inner_as limits nodes fields list x (use_of x)) before (λ p bytes. refl) (λ p bytes. refl) r seen
  tells_inner_node {fields = fields} {from = from} {to = to} (t.function {x = x} (t.function {at = at} {to = last} {next = next_} (t.static {p = p} s r) v g l c b)) before seen =
      let list = noted_in ts before in
      let rest : RestAt (Unit {0}) tt ts limits nodes x.generics x.parameters x.wheres x.body _ to = record { mid = at; at = last; last = next_; generic = g; given = l; bound = c; block = b } in
      tells_worded ts limits free before target.Other i.Function (static_rest limits nodes p) (λ x. inner_as limits nodes fields list x (use_of x)) x to s refl (λ s1. tells_static ts limits free long nodes p r v rest s1) seen
  tells_inner_node {fields = fields} {from = from} {to = to} (t.function {x = x} (t.function {mid = mid} {at = at} {to = last} {next = next_} {id = id} (t.plain {t = tree} r) v g l c b)) before seen =
      let list = noted_in ts before in
      let rest : RestAt (Unit {0}) tt ts limits nodes x.generics x.parameters x.wheres x.body (mid + 1) to = record { mid = at; at = last; last = next_; generic = g; given = l; bound = c; block = b } in
      let o = first (drop (mid + 1) ts) in
      tells_typed ts limits free long nodes (λ x. inner_as limits nodes fields list x (use_of x)) (inner_typed limits nodes fields list) (i.Function x) to r v (ap (inner_as limits nodes fields list (first (drop from ts))) (begun_use (type_begun r)))
      (λ s1. tells_shown ts limits free before target.Method i.Function (function_rest limits nodes tree.place false (tree, id)) (λ o. inner_typed_by limits nodes fields list (tree, id) (begins_parameters o) (if fields then goes_on_field limits nodes o else false)) x to
      (ap (λ b. inner_typed_by limits nodes fields list (tree, id) b (if fields then goes_on_field limits nodes o else false)) (function_begins (Unit {0}) tt ts limits nodes rest))
      (λ s2. tells_function ts limits free long nodes tree.place false tree id rest s2) s1) seen
  tells_inner_node {from = from} {to = to} (t.field {x = x} (t.field {mid = mid} {next = next_} {at = at} {last = last} {end = end} {t = tree} {all = all} r (st.declared_name {id = id} {list = lengths} v q) z1 z)) before seen =
      let list = noted_in ts before in
      let rest : FieldRestAt (Unit {0}) tt ts limits nodes id all end (mid + 1) at = record { list = lengths; last = last; mid = next_; lengths = q; names = z1; closes = z } in
      let o = first (drop (mid + 1) ts) in
      let goes = field_goes_on (Unit {0}) tt ts limits nodes rest in
      tells_typed ts limits free long nodes (λ x. inner_as limits nodes true list x (use_of x)) (inner_typed limits nodes true list) (i.Field x) to r v (ap (inner_as limits nodes true list (first (drop from ts))) (begun_use (type_begun r)))
      (λ s1. tells_shown ts limits free before target.Other i.Field (field_rest limits nodes (tree, id)) (λ o. inner_typed_by limits nodes true list (tree, id) (begins_parameters o) (goes_on_field limits nodes o)) x to
      (ap (λ b. inner_typed_by limits nodes true list (tree, id) b (goes_on_field limits nodes o)) goes.0 ∙ ap (inner_typed_by limits nodes true list (tree, id) false) goes.1)
      (λ s2. tells_field ts limits free long nodes tree rest s2) s1) seen

  tells_inner_one : {fields : Bool} {xs : List Attribute} {v : Option Access} {x : InnerMemberNode} {from mid at to : ℕ} → (a : AttributesAt ts [] xs from mid) → AccessAt ts v mid at → (r : InnerNodeAt ts fields x at to) → (seen : ℕ) →
      Tells (attributes_breaks ts limits attributes.members a [] ++ inner_node_breaks ts limits r (misfit_breaks ts a) nodes) (inner_one limits nodes fields) ts from seen (inner_member xs v x) to
  unfolding inner_one
  tells_inner_one {fields = fields} {xs = xs} {v = v} {x = x} {from = from} {mid = mid} {at = at} {to = to} a b r seen =
      let given : Given = (xs, noted_in ts a) in
      let z = inner_member xs v x in
      tells_bind ts (attributes.attributes limits attributes.members) _ from seen mid to given z (tells_attributes ts limits free long attributes.members a seen)
      (λ s1. tells_then ts access _ mid s1 at to v z (reads_access ⊥ ts b s1)
      (λ s2. tells_last ts (inner_node limits nodes fields given.1) _ at s2 to to x z (tells_inner_node r a s2) (λ s3. reads_pure ⊥ ts z to s3)))

  tells_inner_more : (list : List InnerMember) {fields : Bool} {xs : List Attribute} {v : Option Access} {x : InnerMemberNode} {from mid at to : ℕ} → (a : AttributesAt ts [] xs from mid) → AccessAt ts v mid at → (r : InnerNodeAt ts fields x at to) → (seen : ℕ) →
      Tells (item_behind ts limits (length list) from ++ (attributes_breaks ts limits attributes.members a [] ++ inner_node_breaks ts limits r (misfit_breaks ts a) nodes))
      (inner_more limits nodes fields list) ts from seen (list ++ inner_member xs v x ∷ []) to
  unfolding inner_more
  tells_inner_more list {fields = fields} {xs = xs} {v = v} {x = x} {from = from} {to = to} a b r seen =
      let z = inner_member xs v x in
      let there = first (drop from ts) in
      let fits = fits_in limits (length list) limits.items in
      let one = inner_one limits nodes fields in
      tells_map ts (λ y. list ++ y ∷ []) (next _) from seen z to
      (tells_next ts _ from seen z to there (if_fits fits code.TooLong there (Leave one)) refl
      (ap (λ c. if_fits fits code.TooLong there (inner_choice limits nodes fields there c)) (opens_one (inner_begins_as limits nodes fields) refl a b (inner_opens (Unit {0}) tt ts limits nodes r)))
      (tells_behind ts limits free from z to (length list) one (λ s1. tells_inner_one a b r s1)))

  tells_inner_members : {fields : Bool} {list all : List InnerMember} {from to : ℕ} → (s : InnerMembersAt ts fields list all from to) → (count seen : ℕ) → Left ts count from →
      Tells (inner_members_breaks ts limits s nodes) (turns (in_braces limits nodes) (inner_more limits nodes fields) count list) ts from seen all to
  tells_inner_members {fields = fields} {list = list} {from = from} (t.end {p = p} c) count seen u =
      tells_turns_end ts (in_braces limits nodes) (inner_more limits nodes fields) count list from seen (ap not (is_there ts m.CloseBrace from p c))
  tells_inner_members {from = from} (t.more a b r l) zero seen u =
      let opened = inner_opens (Unit {0}) tt ts limits nodes r in let begin = begins_somewhere a b (opened.tok, opened.is) in absurd (left_none ts from begin.0 begin.1 u)
  tells_inner_members {fields = fields} {list = list} {all = all} {from = from} {to = to} (t.more {at = at} {attributes = xs} {access = v} {x = x} a b r l) (suc count) seen u =
      let moves = member_moves (attributes_move ts a) (access_moves ts b) (inner_node_moves ts r) in
      tells_turns_more ts (in_braces limits nodes) (inner_more limits nodes fields) count list (list ++ inner_member xs v x ∷ []) all from seen at to (ap not (opens_inside (inner_begins_as limits nodes fields) refl a b (inner_opens (Unit {0}) tt ts limits nodes r)))
      (λ s1. tells_inner_more list a b r s1) (λ s1. tells_inner_members l count s1 (left_next ts count from at moves u))

  pub tells_inner : {fields : Bool} {all : List InnerMember} {from to : ℕ} → (s : InnerMembersAt ts fields [] all from to) → (seen : ℕ) → Tells (inner_members_breaks ts limits s nodes) (inner_members limits nodes fields) ts from seen all to
  unfolding inner_members
  tells_inner {from = from} r seen = tells_inner_members r limits.turns seen (all_left ts limits free long from)

  -- ---- structs

  tells_struct_head : {id : Identifier} {all : List GenericParameter} {bases : List Identifier} {wheres : List Constraint} {from to : ℕ} → (s : StructHeadAt ts id all bases wheres from to) → (seen : ℕ) →
      Tells (head_breaks ts limits s) (struct_head limits nodes) ts from seen (id, all, bases, wheres) to
  unfolding struct_head
  tells_struct_head {id = id} {all = all} {bases = bases} {wheres = wheres} {from = from} (t.head {mid = mid} {at = at} {to = to} {p = p} v g h c o) seen =
      let z : Head limits nodes = (id, all, bases, wheres) in
      tells_bind ts (name limits) _ from seen (from + 1) (to + 1) id z (tells_name ts limits free id from seen v)
      (λ s1. tells_bind ts (generics limits) _ (from + 1) s1 mid (to + 1) all z (tells_generics ts limits free long g s1)
      (λ s2. tells_bind ts (heads limits) _ mid s2 at (to + 1) bases z (tells_heads ts limits free long h s2)
      (λ s3. tells_last ts (constraints limits) _ at s3 to (to + 1) wheres z (tells_constraints ts limits free long c s3)
      (λ s4. reads_bind ⊥ ts (expect m.OpenBrace) _ to s4 (to + 1) (to + 1) p z (reads_expect ⊥ ts m.OpenBrace p to s4 o) (λ s5. reads_pure ⊥ ts z (to + 1) s5)))))

  tells_member_node : {x : MemberNode} {from to : ℕ} → (s : MemberNodeAt ts x from to) → {xs ys : List Attribute} {begin end_ : ℕ} (before : AttributesAt ts xs ys begin end_) → (seen : ℕ) →
      Tells (member_node_breaks ts limits s (misfit_breaks ts before) nodes) (member_node limits nodes (noted_in ts before)) ts from seen x to
  unfolding member_node member_typed inner_struct_rest
  tells_member_node {from = from} {to = to} (t.struct {x = x} (t.inner_struct {mid = mid} {at = at} {p = p} {end = end} {id = id} {generics = all} {heads = bases} {wheres = wheres} {members = members} s h r c)) before seen =
      let list = noted_in ts before in
      tells_worded ts limits free before target.Other n.Struct (inner_struct_rest limits nodes p) (λ x. member_as limits nodes list x (use_of x)) x to s refl
      (λ s1. tells_bind ts (struct_head limits nodes) _ _ s1 mid to (id, all, bases, wheres) x (tells_struct_head h s1)
      (λ s2. tells_last ts (inner_members limits nodes true) _ mid s2 at to members x (tells_inner r s2)
      (λ s3. reads_bind ⊥ ts closed _ at s3 to to end x (reads_closed ⊥ ts c s3) (λ s4. reads_pure ⊥ ts x to s4)))) seen
  tells_member_node (t.alias r) before seen =
      let list = noted_in ts before in
      tells_alias ts limits free long nodes n.Alias (λ x. member_as limits nodes list x (use_of x)) before (λ p bytes. refl) (λ p bytes. refl) r seen
  tells_member_node {from = from} {to = to} (t.function {x = x} (t.function {at = at} {to = last} {next = next_} (t.static {p = p} s r) v g l c b)) before seen =
      let list = noted_in ts before in
      let rest : RestAt (Unit {0}) tt ts limits nodes x.generics x.parameters x.wheres x.body _ to = record { mid = at; at = last; last = next_; generic = g; given = l; bound = c; block = b } in
      tells_worded ts limits free before target.Other n.Function (static_rest limits nodes p) (λ x. member_as limits nodes list x (use_of x)) x to s refl (λ s1. tells_static ts limits free long nodes p r v rest s1) seen
  tells_member_node {from = from} {to = to} (t.function {x = x} (t.function {mid = mid} {at = at} {to = last} {next = next_} {id = id} (t.plain {t = tree} r) v g l c b)) before seen =
      let list = noted_in ts before in
      let rest : RestAt (Unit {0}) tt ts limits nodes x.generics x.parameters x.wheres x.body (mid + 1) to = record { mid = at; at = last; last = next_; generic = g; given = l; bound = c; block = b } in
      tells_typed ts limits free long nodes (λ x. member_as limits nodes list x (use_of x)) (member_typed limits nodes list) (n.Function x) to r v (ap (member_as limits nodes list (first (drop from ts))) (begun_use (type_begun r)))
      (λ s1. tells_shown ts limits free before target.Method n.Function (function_rest limits nodes tree.place false (tree, id)) (λ o. member_typed_by limits nodes list (tree, id) (begins_parameters o) (goes_on_field limits nodes o)) x to
      (ap (λ b. member_typed_by limits nodes list (tree, id) b (goes_on_field limits nodes (first (drop (mid + 1) ts)))) (function_begins (Unit {0}) tt ts limits nodes rest))
      (λ s2. tells_function ts limits free long nodes tree.place false tree id rest s2) s1) seen
  tells_member_node {from = from} {to = to} (t.field {x = x} (t.field {mid = mid} {next = next_} {at = at} {last = last} {end = end} {t = tree} {all = all} r (st.declared_name {id = id} {list = lengths} v q) z1 z)) before seen =
      let list = noted_in ts before in
      let rest : FieldRestAt (Unit {0}) tt ts limits nodes id all end (mid + 1) at = record { list = lengths; last = last; mid = next_; lengths = q; names = z1; closes = z } in
      let goes = field_goes_on (Unit {0}) tt ts limits nodes rest in
      tells_typed ts limits free long nodes (λ x. member_as limits nodes list x (use_of x)) (member_typed limits nodes list) (n.Field x) to r v (ap (member_as limits nodes list (first (drop from ts))) (begun_use (type_begun r)))
      (λ s1. tells_shown ts limits free before target.Other n.Field (field_rest limits nodes (tree, id)) (λ o. member_typed_by limits nodes list (tree, id) (begins_parameters o) (goes_on_field limits nodes o)) x to
      (ap (λ b. member_typed_by limits nodes list (tree, id) b (goes_on_field limits nodes (first (drop (mid + 1) ts)))) goes.0 ∙ ap (member_typed_by limits nodes list (tree, id) false) goes.1)
      (λ s2. tells_field ts limits free long nodes tree rest s2) s1) seen

  tells_member_one : {xs : List Attribute} {v : Option Access} {x : MemberNode} {from mid at to : ℕ} → (a : AttributesAt ts [] xs from mid) → AccessAt ts v mid at → (r : MemberNodeAt ts x at to) → (seen : ℕ) →
      Tells (attributes_breaks ts limits attributes.members a [] ++ member_node_breaks ts limits r (misfit_breaks ts a) nodes) (member_one limits nodes) ts from seen (member_of xs v x) to
  unfolding member_one
  tells_member_one {xs = xs} {v = v} {x = x} {from = from} {mid = mid} {at = at} {to = to} a b r seen =
      let given : Given = (xs, noted_in ts a) in
      let z = member_of xs v x in
      tells_bind ts (attributes.attributes limits attributes.members) _ from seen mid to given z (tells_attributes ts limits free long attributes.members a seen)
      (λ s1. tells_then ts access _ mid s1 at to v z (reads_access ⊥ ts b s1)
      (λ s2. tells_last ts (member_node limits nodes given.1) _ at s2 to to x z (tells_member_node r a s2) (λ s3. reads_pure ⊥ ts z to s3)))

  tells_member_more : (list : List Member) {xs : List Attribute} {v : Option Access} {x : MemberNode} {from mid at to : ℕ} → (a : AttributesAt ts [] xs from mid) → AccessAt ts v mid at → (r : MemberNodeAt ts x at to) → (seen : ℕ) →
      Tells (item_behind ts limits (length list) from ++ (attributes_breaks ts limits attributes.members a [] ++ member_node_breaks ts limits r (misfit_breaks ts a) nodes))
      (member_more limits nodes list) ts from seen (list ++ member_of xs v x ∷ []) to
  unfolding member_more
  tells_member_more list {xs = xs} {v = v} {x = x} {from = from} {to = to} a b r seen =
      let z = member_of xs v x in
      let there = first (drop from ts) in
      let fits = fits_in limits (length list) limits.items in
      tells_map ts (λ y. list ++ y ∷ []) (next _) from seen z to
      (tells_next ts _ from seen z to there (if_fits fits code.TooLong there (Leave (member_one limits nodes))) refl
      (ap (λ c. if_fits fits code.TooLong there (member_choice limits nodes there c)) (opens_one (member_begins_as limits nodes) refl a b (member_opens (Unit {0}) tt ts limits nodes r)))
      (tells_behind ts limits free from z to (length list) (member_one limits nodes) (λ s1. tells_member_one a b r s1)))

  tells_members : {list all : List Member} {from to : ℕ} → (s : MembersAt ts list all from to) → (count seen : ℕ) → Left ts count from →
      Tells (members_breaks ts limits s nodes) (turns (in_braces limits nodes) (member_more limits nodes) count list) ts from seen all to
  tells_members {list = list} {from = from} (t.end {p = p} c) count seen u = tells_turns_end ts (in_braces limits nodes) (member_more limits nodes) count list from seen (ap not (is_there ts m.CloseBrace from p c))
  tells_members {from = from} (t.more a b r l) zero seen u =
      let opened = member_opens (Unit {0}) tt ts limits nodes r in let begin = begins_somewhere a b (opened.tok, opened.is) in absurd (left_none ts from begin.0 begin.1 u)
  tells_members {list = list} {all = all} {from = from} {to = to} (t.more {at = at} {attributes = xs} {access = v} {x = x} a b r l) (suc count) seen u =
      let moves = member_moves (attributes_move ts a) (access_moves ts b) (member_node_moves ts r) in
      tells_turns_more ts (in_braces limits nodes) (member_more limits nodes) count list (list ++ member_of xs v x ∷ []) all from seen at to (ap not (opens_inside (member_begins_as limits nodes) refl a b (member_opens (Unit {0}) tt ts limits nodes r)))
      (λ s1. tells_member_more list a b r s1) (λ s1. tells_members l count s1 (left_next ts count from at moves u))

  -- behind its word
  pub tells_struct : (begin : Place) {id : Identifier} {all : List GenericParameter} {bases : List Identifier} {wheres : List Constraint} {members : List Member} {end : Place} {from mid at to : ℕ} →
      (h : StructHeadAt ts id all bases wheres from mid) → (r : MembersAt ts [] members mid at) → ClosedAt ts end at to → (seen : ℕ) →
      Tells (head_breaks ts limits h ++ members_breaks ts limits r nodes) (struct_rest limits nodes begin) ts from seen (struct_of (span begin end) id all bases wheres members) to
  unfolding struct_rest
  tells_struct begin {id = id} {all = all} {bases = bases} {wheres = wheres} {members = members} {end = end} {from = from} {mid = mid} {at = at} {to = to} h r c seen =
      let z = struct_of (span begin end) id all bases wheres members in
      tells_bind ts (struct_head limits nodes) _ from seen mid to (id, all, bases, wheres) z (tells_struct_head h seen)
      (λ s1. tells_last ts (turns (in_braces limits nodes) (member_more limits nodes) limits.turns []) _ mid s1 at to members z (tells_members r limits.turns s1 (all_left ts limits free long mid))
      (λ s2. reads_bind ⊥ ts closed _ at s2 to to end z (reads_closed ⊥ ts c s2) (λ s3. reads_pure ⊥ ts z to s3)))
