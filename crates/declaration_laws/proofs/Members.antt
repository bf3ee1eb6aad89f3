-- Members and structs: what is spelled is read, but where a limit is passed.
use Rattle.std.proofs.Common.{Bool, true, false, not, ℕ, zero, suc, ◌+◌, if◌then◌else◌, List, [], ◌∷◌, ◌++◌, drop, length, Option, refl, ◌∙◌, ap}
use Rattle.slang_names.specs.declared.places.Place.{Place}
use Rattle.slang_names.specs.declared.places.Access.{Access}
use Rattle.slang_names.specs.declared.codes.ModuleCode.TheVariants as code
use Rattle.slang_tree.specs.declared.types.Identifier.{Identifier}
use Rattle.slang_tree.specs.declared.statements.Attribute.{Attribute}
use Rattle.slang_tree.specs.declared.declarations.GenericParameter.{GenericParameter}
use Rattle.slang_tree.specs.declared.declarations.Constraint.{Constraint}
use Rattle.slang_tree.specs.declared.declarations.InnerMember.{InnerMember}
use Rattle.slang_tree.specs.declared.declarations.InnerMemberNode.{InnerMemberNode}
use Rattle.slang_tree.specs.declared.declarations.InnerMemberNode.TheVariants as i
use Rattle.slang_tree.specs.declared.declarations.Member.{Member}
use Rattle.slang_tree.specs.declared.declarations.MemberNode.{MemberNode}
use Rattle.slang_tree.specs.declared.declarations.MemberNode.TheVariants as n
use Rattle.slang_tokens.specs.declared.tokens.Mark.TheVariants as m
use Rattle.slang_reading.specs.Lexed.{Lexed}
use Rattle.slang_reading.specs.Reading.{Leave, if_fits, first, next, turns}
use Rattle.slang_reading.specs.Kinds.{span}
use Rattle.slang_reading.proofs.Exact.{Reads, reads_pure, reads_bind, reads_next, reads_fits, reads_turns_end, reads_turns_more, reads_turns_full}
use Rattle.slang_grammar.specs.Descent.{Limits, fits_in, expect, name}
use Rattle.slang_grammar.proofs.Shared.{reads_expect, reads_name, is_there}
use Rattle.statement_grammar.specs.declared.attributes.Target.TheVariants as target
use Rattle.statement_grammar.specs.Attributes.{AttributesAt}
use Rattle.statement_grammar.specs.AttributesDescent as attributes
use Rattle.statement_grammar.specs.AttributesDescent.{Given, Noted}
use Rattle.statement_grammar.specs.Statements as st
use Rattle.statement_grammar.proofs.AttributesRead.{notes, reads_attributes}
use Rattle.declaration_grammar.specs.declared.tables.DeclarationUse.TheVariants as u
use Rattle.declaration_grammar.specs.Parts.{AccessAt, ClosedAt}
use Rattle.declaration_grammar.specs.PartsDescent.{access, generics, heads, constraints, closed}
use Rattle.declaration_grammar.specs.Declarations as t
use Rattle.declaration_grammar.specs.Declarations.{InnerNodeAt, inner_member, struct_of, InnerMembersAt, StructHeadAt, InnerStructAt, MemberNodeAt, member_of, MembersAt, StructAt}
use Rattle.declaration_grammar.specs.DeclarationsDescent.{use_of, begins_parameters, function_rest, static_rest, field_rest, goes_on_field, in_braces, inner_typed_by, inner_typed, inner_as, inner_node, inner_one, inner_begins_as, inner_choice, inner_more, inner_members, Head, struct_head, inner_struct_rest, member_typed_by, member_typed, member_as, member_node, member_one, member_begins_as, member_choice, member_more, struct_rest}
use Rattle.declaration_laws.proofs.Begins.{begun_use, word_begun, type_begun, Opens, opens, opens_inside, opens_one}
use Rattle.declaration_laws.proofs.Parts.{reads_access, reads_closed, reads_generics, reads_heads, reads_constraints}
use Rattle.declaration_laws.proofs.Functions.{reads_map, reads_worded, reads_shown, reads_typed, RestAt, reads_function, reads_static, function_begins, reads_alias, FieldRestAt, reads_field, field_goes_on}

-- E holds, and any limit may be passed
module _ (E : Type 0) (e : E) (ts : List Lexed) (limits : Limits) (nodes : ℕ) where
  -- ---- members of extensions and of structs in structs

  reads_inner_node : {fields : Bool} {x : InnerMemberNode} {from to : ℕ} → InnerNodeAt ts fields x from to → (list : Noted) (seen : ℕ) → Reads E (inner_node limits nodes fields list) ts from seen x to
  unfolding inner_node inner_typed
  reads_inner_node {fields = fields} (t.alias r) list seen = reads_alias E e ts limits nodes i.Alias (λ x. inner_as limits nodes fields list x (use_of x)) list (λ p bytes. refl) (λ p bytes. refl) r seen
  reads_inner_node {fields = fields} {to = to} (t.function {x = x} (t.function {at = at} {to = last} {next = next_} (t.static {p = p} s r) v g l c b)) list seen =
      let rest : RestAt E e ts limits nodes x.generics x.parameters x.wheres x.body _ to = record { mid = at; at = last; last = next_; generic = g; given = l; bound = c; block = b } in
      reads_worded E e ts limits i.Function (static_rest limits nodes p) (λ x. inner_as limits nodes fields list x (use_of x)) x to target.Other list s refl (λ s1. reads_static E e ts limits nodes p r v rest s1) seen
  reads_inner_node {fields = fields} {from = from} {to = to} (t.function {x = x} (t.function {mid = mid} {at = at} {to = last} {next = next_} {id = id} (t.plain {t = tree} r) v g l c b)) list seen =
      let rest : RestAt E e ts limits nodes x.generics x.parameters x.wheres x.body (mid + 1) to = record { mid = at; at = last; last = next_; generic = g; given = l; bound = c; block = b } in
      let o = first (drop (mid + 1) ts) in
      reads_typed E e ts limits nodes (λ x. inner_as limits nodes fields list x (use_of x)) (inner_typed limits nodes fields list) (i.Function x) to r v (ap (inner_as limits nodes fields list (first (drop from ts))) (begun_use (type_begun r)))
      (λ s1. reads_shown E e ts limits i.Function (function_rest limits nodes tree.place false (tree, id)) (λ o. inner_typed_by limits nodes fields list (tree, id) (begins_parameters o) (if fields then goes_on_field limits nodes o else false)) x to target.Method list
      (ap (λ b. inner_typed_by limits nodes fields list (tree, id) b (if fields then goes_on_field limits nodes o else false)) (function_begins E e ts limits nodes rest))
      (λ s2. reads_function E e ts limits nodes tree.place false tree id rest s2) s1) seen
  reads_inner_node {from = from} {to = to} (t.field {x = x} (t.field {mid = mid} {next = next_} {at = at} {last = last} {end = end} {t = tree} {all = all} r (st.declared_name {id = id} {list = lengths} v q) f z)) list seen =
      let rest : FieldRestAt E e ts limits nodes id all end (mid + 1) at = record { list = lengths; last = last; mid = next_; lengths = q; names = f; closes = z } in
      let o = first (drop (mid + 1) ts) in
      let goes = field_goes_on E e ts limits nodes rest in
      reads_typed E e ts limits nodes (λ x. inner_as limits nodes true list x (use_of x)) (inner_typed limits nodes true list) (i.Field x) to r v (ap (inner_as limits nodes true list (first (drop from ts))) (begun_use (type_begun r)))
      (λ s1. reads_shown E e ts limits i.Field (field_rest limits nodes (tree, id)) (λ o. inner_typed_by limits nodes true list (tree, id) (begins_parameters o) (goes_on_field limits nodes o)) x to target.Other list
      (ap (λ b. inner_typed_by limits nodes true list (tree, id) b (goes_on_field limits nodes o)) goes.0 ∙ ap (inner_typed_by limits nodes true list (tree, id) false) goes.1)
      (λ s2. reads_field E e ts limits nodes tree rest s2) s1) seen

  pub inner_opens : {fields : Bool} {x : InnerMemberNode} {from to : ℕ} → InnerNodeAt ts fields x from to → Opens (inner_begins_as limits nodes fields) refl ts from
  inner_opens {fields = fields} (t.alias (t.type_def s r v z)) = opens (inner_begins_as limits nodes fields) refl u.TypeDef refl (word_begun s)
  inner_opens {fields = fields} (t.alias (t.type_alias s v o r z)) = opens (inner_begins_as limits nodes fields) refl u.TypeAlias refl (word_begun s)
  inner_opens {fields = fields} (t.function (t.function (t.static s r) v g l c b)) = opens (inner_begins_as limits nodes fields) refl u.Static refl (word_begun s)
  inner_opens {fields = fields} (t.function (t.function (t.plain r) v g l c b)) = opens (inner_begins_as limits nodes fields) refl u.Typed refl (type_begun r)
  inner_opens {fields = fields} (t.field (t.field r v f z)) = opens (inner_begins_as limits nodes fields) refl u.Typed refl (type_begun r)

  reads_inner_one : {fields : Bool} {xs : List Attribute} {v : Option Access} {x : InnerMemberNode} {from mid at to : ℕ} → AttributesAt ts [] xs from mid → AccessAt ts v mid at → InnerNodeAt ts fields x at to → (seen : ℕ) →
      Reads E (inner_one limits nodes fields) ts from seen (inner_member xs v x) to
  unfolding inner_one
  reads_inner_one {fields = fields} {xs = xs} {v = v} {x = x} {from = from} {mid = mid} {at = at} {to = to} a b r seen =
      let given : Given = (xs, notes E e ts limits attributes.members a []) in
      let z = inner_member xs v x in
      reads_bind E ts (attributes.attributes limits attributes.members) _ from seen mid to given z (reads_attributes E e ts limits attributes.members a seen)
      (λ s1. reads_bind E ts access _ mid s1 at to v z (reads_access E ts b s1)
      (λ s2. reads_bind E ts (inner_node limits nodes fields given.1) _ at s2 to to x z (reads_inner_node r given.1 s2) (λ s3. reads_pure E ts z to s3)))

  reads_inner_more : (list : List InnerMember) {fields : Bool} {xs : List Attribute} {v : Option Access} {x : InnerMemberNode} {from mid at to : ℕ} → AttributesAt ts [] xs from mid → AccessAt ts v mid at → InnerNodeAt ts fields x at to →
      (seen : ℕ) → Reads E (inner_more limits nodes fields list) ts from seen (list ++ inner_member xs v x ∷ []) to
  unfolding inner_more
  reads_inner_more list {fields = fields} {xs = xs} {v = v} {x = x} {from = from} {to = to} a b r seen =
      let z = inner_member xs v x in
      let there = first (drop from ts) in
      let fits = fits_in limits (length list) limits.items in
      let one = inner_one limits nodes fields in
      reads_map E ts (λ y. list ++ y ∷ []) (next _) from seen z to
      (reads_next E ts _ from seen z to there (if_fits fits code.TooLong there (Leave one)) refl
      (ap (λ c. if_fits fits code.TooLong there (inner_choice limits nodes fields there c)) (opens_one (inner_begins_as limits nodes fields) refl a b (inner_opens r)))
      (reads_fits E ts from z to there fits code.TooLong (Leave one) (λ f. e) (λ s1. reads_inner_one a b r s1)))

  reads_inner_members : {fields : Bool} {list all : List InnerMember} {from to : ℕ} → InnerMembersAt ts fields list all from to → (count seen : ℕ) → Reads E (turns (in_braces limits nodes) (inner_more limits nodes fields) count list) ts from seen all to
  reads_inner_members {fields = fields} {list = list} {from = from} (t.end {p = p} c) count seen = reads_turns_end E ts (in_braces limits nodes) (inner_more limits nodes fields) count list from seen (ap not (is_there ts m.CloseBrace from p c))
  reads_inner_members {fields = fields} {list = list} {all = all} {from = from} {to = to} (t.more a b r l) zero seen =
      reads_turns_full E ts (in_braces limits nodes) (inner_more limits nodes fields) list all from seen to (ap not (opens_inside (inner_begins_as limits nodes fields) refl a b (inner_opens r))) e
  reads_inner_members {fields = fields} {list = list} {all = all} {from = from} {to = to} (t.more {at = at} {attributes = xs} {access = v} {x = x} a b r l) (suc count) seen =
      reads_turns_more E ts (in_braces limits nodes) (inner_more limits nodes fields) count list (list ++ inner_member xs v x ∷ []) all from seen at to (ap not (opens_inside (inner_begins_as limits nodes fields) refl a b (inner_opens r)))
      (λ s1. reads_inner_more list a b r s1) (λ s1. reads_inner_members l count s1)

  pub reads_inner : {fields : Bool} {all : List InnerMember} {from to : ℕ} → InnerMembersAt ts fields [] all from to → (seen : ℕ) → Reads E (inner_members limits nodes fields) ts from seen all to
  unfolding inner_members
  reads_inner r seen = reads_inner_members r limits.turns seen

  -- ---- structs

  reads_struct_head : {id : Identifier} {all : List GenericParameter} {bases : List Identifier} {wheres : List Constraint} {from to : ℕ} → StructHeadAt ts id all bases wheres from to → (seen : ℕ) →
      Reads E (struct_head limits nodes) ts from seen (id, all, bases, wheres) to
  unfolding struct_head
  reads_struct_head {id = id} {all = all} {bases = bases} {wheres = wheres} {from = from} (t.head {mid = mid} {at = at} {to = to} {p = p} v g h c o) seen =
      let z : Head limits nodes = (id, all, bases, wheres) in
      reads_bind E ts (name limits) _ from seen (from + 1) (to + 1) id z (reads_name E ts e limits id from seen v)
      (λ s1. reads_bind E ts (generics limits) _ (from + 1) s1 mid (to + 1) all z (reads_generics E e ts limits g s1)
      (λ s2. reads_bind E ts (heads limits) _ mid s2 at (to + 1) bases z (reads_heads E e ts limits h s2)
      (λ s3. reads_bind E ts (constraints limits) _ at s3 to (to + 1) wheres z (reads_constraints E e ts limits c s3)
      (λ s4. reads_bind E ts (expect m.OpenBrace) _ to s4 (to + 1) (to + 1) p z (reads_expect E ts m.OpenBrace p to s4 o) (λ s5. reads_pure E ts z (to + 1) s5)))))

  reads_member_node : {x : MemberNode} {from to : ℕ} → MemberNodeAt ts x from to → (list : Noted) (seen : ℕ) → Reads E (member_node limits nodes list) ts from seen x to
  unfolding member_node member_typed inner_struct_rest
  reads_member_node {to = to} (t.struct {x = x} (t.inner_struct {mid = mid} {at = at} {p = p} {end = end} {id = id} {generics = all} {heads = bases} {wheres = wheres} {members = members} s h r c)) list seen =
      reads_worded E e ts limits n.Struct (inner_struct_rest limits nodes p) (λ x. member_as limits nodes list x (use_of x)) x to target.Other list s refl
      (λ s1. reads_bind E ts (struct_head limits nodes) _ _ s1 mid to (id, all, bases, wheres) x (reads_struct_head h s1)
      (λ s2. reads_bind E ts (inner_members limits nodes true) _ mid s2 at to members x (reads_inner r s2)
      (λ s3. reads_bind E ts closed _ at s3 to to end x (reads_closed E ts c s3) (λ s4. reads_pure E ts x to s4)))) seen
  reads_member_node (t.alias r) list seen = reads_alias E e ts limits nodes n.Alias (λ x. member_as limits nodes list x (use_of x)) list (λ p bytes. refl) (λ p bytes. refl) r seen
  reads_member_node {to = to} (t.function {x = x} (t.function {at = at} {to = last} {next = next_} (t.static {p = p} s r) v g l c b)) list seen =
      let rest : RestAt E e ts limits nodes x.generics x.parameters x.wheres x.body _ to = record { mid = at; at = last; last = next_; generic = g; given = l; bound = c; block = b } in
      reads_worded E e ts limits n.Function (static_rest limits nodes p) (λ x. member_as limits nodes list x (use_of x)) x to target.Other list s refl (λ s1. reads_static E e ts limits nodes p r v rest s1) seen
  reads_member_node {from = from} {to = to} (t.function {x = x} (t.function {mid = mid} {at = at} {to = last} {next = next_} {id = id} (t.plain {t = tree} r) v g l c b)) list seen =
      let rest : RestAt E e ts limits nodes x.generics x.parameters x.wheres x.body (mid + 1) to = record { mid = at; at = last; last = next_; generic = g; given = l; bound = c; block = b } in
      reads_typed E e ts limits nodes (λ x. member_as limits nodes list x (use_of x)) (member_typed limits nodes list) (n.Function x) to r v (ap (member_as limits nodes list (first (drop from ts))) (begun_use (type_begun r)))
      (λ s1. reads_shown E e ts limits n.Function (function_rest limits nodes tree.place false (tree, id)) (λ o. member_typed_by limits nodes list (tree, id) (begins_parameters o) (goes_on_field limits nodes o)) x to target.Method list
      (ap (λ b. member_typed_by limits nodes list (tree, id) b (goes_on_field limits nodes (first (drop (mid + 1) ts)))) (function_begins E e ts limits nodes rest))
      (λ s2. reads_function E e ts limits nodes tree.place false tree id rest s2) s1) seen
  reads_member_node {from = from} {to = to} (t.field {x = x} (t.field {mid = mid} {next = next_} {at = at} {last = last} {end = end} {t = tree} {all = all} r (st.declared_name {id = id} {list = lengths} v q) f z)) list seen =
      let rest : FieldRestAt E e ts limits nodes id all end (mid + 1) at = record { list = lengths; last = last; mid = next_; lengths = q; names = f; closes = z } in
      let goes = field_goes_on E e ts limits nodes rest in
      reads_typed E e ts limits nodes (λ x. member_as limits nodes list x (use_of x)) (member_typed limits nodes list) (n.Field x) to r v (ap (member_as limits nodes list (first (drop from ts))) (begun_use (type_begun r)))
      (λ s1. reads_shown E e ts limits n.Field (field_rest limits nodes (tree, id)) (λ o. member_typed_by limits nodes list (tree, id) (begins_parameters o) (goes_on_field limits nodes o)) x to target.Other list
      (ap (λ b. member_typed_by limits nodes list (tree, id) b (goes_on_field limits nodes (first (drop (mid + 1) ts)))) goes.0 ∙ ap (member_typed_by limits nodes list (tree, id) false) goes.1)
      (λ s2. reads_field E e ts limits nodes tree rest s2) s1) seen

  pub member_opens : {x : MemberNode} {from to : ℕ} → MemberNodeAt ts x from to → Opens (member_begins_as limits nodes) refl ts from
  member_opens (t.struct (t.inner_struct s h r c)) = opens (member_begins_as limits nodes) refl u.Struct refl (word_begun s)
  member_opens (t.alias (t.type_def s r v z)) = opens (member_begins_as limits nodes) refl u.TypeDef refl (word_begun s)
  member_opens (t.alias (t.type_alias s v o r z)) = opens (member_begins_as limits nodes) refl u.TypeAlias refl (word_begun s)
  member_opens (t.function (t.function (t.static s r) v g l c b)) = opens (member_begins_as limits nodes) refl u.Static refl (word_begun s)
  member_opens (t.function (t.function (t.plain r) v g l c b)) = opens (member_begins_as limits nodes) refl u.Typed refl (type_begun r)
  member_opens (t.field (t.field r v f z)) = opens (member_begins_as limits nodes) refl u.Typed refl (type_begun r)

  reads_member_one : {xs : List Attribute} {v : Option Access} {x : MemberNode} {from mid at to : ℕ} → AttributesAt ts [] xs from mid → AccessAt ts v mid at → MemberNodeAt ts x at to → (seen : ℕ) →
      Reads E (member_one limits nodes) ts from seen (member_of xs v x) to
  unfolding member_one
  reads_member_one {xs = xs} {v = v} {x = x} {from = from} {mid = mid} {at = at} {to = to} a b r seen =
      let given : Given = (xs, notes E e ts limits attributes.members a []) in
      let z = member_of xs v x in
      reads_bind E ts (attributes.attributes limits attributes.members) _ from seen mid to given z (reads_attributes E e ts limits attributes.members a seen)
      (λ s1. reads_bind E ts access _ mid s1 at to v z (reads_access E ts b s1)
      (λ s2. reads_bind E ts (member_node limits nodes given.1) _ at s2 to to x z (reads_member_node r given.1 s2) (λ s3. reads_pure E ts z to s3)))

  reads_member_more : (list : List Member) {xs : List Attribute} {v : Option Access} {x : MemberNode} {from mid at to : ℕ} → AttributesAt ts [] xs from mid → AccessAt ts v mid at → MemberNodeAt ts x at to → (seen : ℕ) →
      Reads E (member_more limits nodes list) ts from seen (list ++ member_of xs v x ∷ []) to
  unfolding member_more
  reads_member_more list {xs = xs} {v = v} {x = x} {from = from} {to = to} a b r seen =
      let z = member_of xs v x in
      let there = first (drop from ts) in
      let fits = fits_in limits (length list) limits.items in
      reads_map E ts (λ y. list ++ y ∷ []) (next _) from seen z to
      (reads_next E ts _ from seen z to there (if_fits fits code.TooLong there (Leave (member_one limits nodes))) refl
      (ap (λ c. if_fits fits code.TooLong there (member_choice limits nodes there c)) (opens_one (member_begins_as limits nodes) refl a b (member_opens r)))
      (reads_fits E ts from z to there fits code.TooLong (Leave (member_one limits nodes)) (λ f. e) (λ s1. reads_member_one a b r s1)))

  reads_members : {list all : List Member} {from to : ℕ} → MembersAt ts list all from to → (count seen : ℕ) → Reads E (turns (in_braces limits nodes) (member_more limits nodes) count list) ts from seen all to
  reads_members {list = list} {from = from} (t.end {p = p} c) count seen = reads_turns_end E ts (in_braces limits nodes) (member_more limits nodes) count list from seen (ap not (is_there ts m.CloseBrace from p c))
  reads_members {list = list} {all = all} {from = from} {to = to} (t.more a b r l) zero seen =
      reads_turns_full E ts (in_braces limits nodes) (member_more limits nodes) list all from seen to (ap not (opens_inside (member_begins_as limits nodes) refl a b (member_opens r))) e
  reads_members {list = list} {all = all} {from = from} {to = to} (t.more {at = at} {attributes = xs} {access = v} {x = x} a b r l) (suc count) seen =
      reads_turns_more E ts (in_braces limits nodes) (member_more limits nodes) count list (list ++ member_of xs v x ∷ []) all from seen at to (ap not (opens_inside (member_begins_as limits nodes) refl a b (member_opens r)))
      (λ s1. reads_member_more list a b r s1) (λ s1. reads_members l count s1)

  -- behind its word
  pub reads_struct : (begin : Place) {id : Identifier} {all : List GenericParameter} {bases : List Identifier} {wheres : List Constraint} {members : List Member} {end : Place} {from mid at to : ℕ} →
      StructHeadAt ts id all bases wheres from mid → MembersAt ts [] members mid at → ClosedAt ts end at to → (seen : ℕ) →
      Reads E (struct_rest limits nodes begin) ts from seen (struct_of (span begin end) id all bases wheres members) to
  unfolding struct_rest
  reads_struct begin {id = id} {all = all} {bases = bases} {wheres = wheres} {members = members} {end = end} {from = from} {mid = mid} {at = at} {to = to} h r c seen =
      let z = struct_of (span begin end) id all bases wheres members in
      reads_bind E ts (struct_head limits nodes) _ from seen mid to (id, all, bases, wheres) z (reads_struct_head h seen)
      (λ s1. reads_bind E ts (turns (in_braces limits nodes) (member_more limits nodes) limits.turns []) _ mid s1 at to members z (reads_members r limits.turns s1)
      (λ s2. reads_bind E ts closed _ at s2 to to end z (reads_closed E ts c s2) (λ s3. reads_pure E ts z to s3)))
