-- Of what members and structs in structs break the first goes first.
use Rattle.std.proofs.Common.{Bool, ℕ, suc, ◌+◌, ◌<◌, List, [], ◌++◌, length, Option, arith}
use Rattle.std.specs.Prelude.{nat_lt}
use Rattle.slang_names.specs.declared.places.Place.{Place}
use Rattle.slang_names.specs.declared.places.Access.{Access}
use Rattle.slang_tree.specs.declared.types.Identifier.{Identifier}
use Rattle.slang_tree.specs.declared.statements.Attribute.{Attribute}
use Rattle.slang_tree.specs.declared.declarations.GenericParameter.{GenericParameter}
use Rattle.slang_tree.specs.declared.declarations.Constraint.{Constraint}
use Rattle.slang_tree.specs.declared.declarations.InnerMember.{InnerMember}
use Rattle.slang_tree.specs.declared.declarations.InnerMemberNode.{InnerMemberNode}
use Rattle.slang_tree.specs.declared.declarations.InnerStruct.{InnerStruct}
use Rattle.slang_tree.specs.declared.declarations.Member.{Member}
use Rattle.slang_tree.specs.declared.declarations.MemberNode.{MemberNode}
use Rattle.slang_reading.specs.Lexed.{Lexed}
use Rattle.slang_grammar.specs.Descent.{Limits}
use Rattle.statement_grammar.specs.declared.attributes.Target.{Target}
use Rattle.statement_grammar.specs.declared.attributes.Target.TheVariants as target
use Rattle.statement_grammar.specs.AttributesDescent as attributes
use Rattle.statement_grammar.specs.Attributes as a
use Rattle.statement_grammar.specs.Attributes.{AttributesAt}
use Rattle.statement_fits.proofs.Moves.{attribute_moves, attributes_move}
use Rattle.declaration_grammar.specs.Parts as parts
use Rattle.declaration_grammar.specs.Parts.{AccessAt, ClosedAt}
use Rattle.declaration_grammar.specs.Declarations as t
use Rattle.declaration_grammar.specs.Declarations.{InnerNodeAt, InnerMembersAt, StructHeadAt, InnerStructAt, MemberNodeAt, MembersAt}
use Rattle.declaration_fits.proofs.Moves.{access_moves, inner_node_moves, member_node_moves}
use Rattle.expression_limits.specs.Breaks.{Break}
use Rattle.statement_limits.specs.Attributes.{attributes_breaks, misfit_breaks}
use Rattle.statement_limits.proofs.Order.{Rules, Late, late_append, far, Known, known_none, known_wider, known_append, known_long}
use Rattle.statement_limits.proofs.AttributesOrder.{known_attributes, late_attributes, misfit_rules}
use Rattle.declaration_limits.specs.Declarations.{Before, inner_node_breaks, inner_members_breaks, head_breaks, inner_struct_breaks, member_node_breaks, members_breaks}
use Rattle.declaration_limits.proofs.PartsOrder.{known_named, known_generics, known_heads, known_constraints}
use Rattle.expression_limits.specs.Breaks.{item_behind}
use Rattle.declaration_limits.proofs.FunctionsOrder.{known_word, late_word, known_function, late_function, known_alias, late_alias, known_field, late_field}

module _ (ts : List Lexed) where
  pub closed_moves : {p : Place} {from to : ℕ} → ClosedAt ts p from to → from < to
  closed_moves (parts.brace c n) = omega arith
  closed_moves (parts.semicolon c z) = omega arith

  -- what stands behind attributes, and what behind an access word
  pub late_behind_attributes : {xs ys : List Attribute} {from mid to : ℕ} {bs : List Break} → AttributesAt ts xs ys from mid → Known ts mid to bs → Late mid bs → Late from bs
  late_behind_attributes (a.end q) k h = h
  late_behind_attributes {from = from} {mid = mid} {to = to} (a.more r s) k h = let u = attribute_moves ts r in let v = attributes_move ts s in far ts from mid to (omega (arith, u, v)) k

  late_behind_access : {x : Option Access} {from mid to : ℕ} {bs : List Break} → AccessAt ts x from mid → Known ts mid to bs → Late mid bs → Late from bs
  late_behind_access (parts.no_access n) k h = h
  late_behind_access {from = from} {to = to} (parts.access s q) k h = far ts from (from + 1) to (omega arith) k

  module _ (limits : Limits) where
    -- what stands between `struct` and the opening brace
    pub known_head : {id : Identifier} {all : List GenericParameter} {bases : List Identifier} {wheres : List Constraint} {from to : ℕ} → (s : StructHeadAt ts id all bases wheres from to) → Known ts from to (head_breaks ts limits s)
    known_head {id = id} {from = from} (t.head {mid = mid} {at = at} {to = to} n g h c o) =
        known_append ts from (from + 1) (to + 1) (known_named ts limits id from)
        (known_append ts (from + 1) mid (to + 1) (known_generics ts limits g)
        (known_append ts mid at (to + 1) (known_heads ts limits h) (known_wider ts at to at (to + 1) (omega arith) (omega arith) (known_constraints ts limits c))))

  module _ (limits : Limits) (d : ℕ) where
    -- a member is an item of a list at its first token
    known_member : (count : ℕ) {list : List Attribute} {x : Option Access} {from mid next to : ℕ} (bs : List Break) → (l : AttributesAt ts [] list from mid) → AccessAt ts x mid next → next < to →
        Known ts next to bs → Late next bs → Known ts from to (item_behind ts limits count from ++ (attributes_breaks ts limits attributes.members l [] ++ bs))
    known_member count {from = from} {mid = mid} {next = next} {to = to} bs l v u k h =
        let w = attributes_move ts l in
        let z = access_moves ts v in
        let node = known_wider ts next to mid to z (omega arith) k in
        known_long ts from to (nat_lt count limits.items) (omega (arith, u, w, z)) (known_append ts from mid to (known_attributes ts limits attributes.members l []) node)
        (late_append from (attributes_breaks ts limits attributes.members l []) bs (late_attributes ts limits attributes.members l []) (late_behind_attributes l node (late_behind_access v k h)))

    -- ---- members of extensions and of structs in structs

    module _ (before : Before) (rules : (what : Target) (at : ℕ) → Rules at (before what at)) where
      known_inner_node : {fields : Bool} {x : InnerMemberNode} {from to : ℕ} → (s : InnerNodeAt ts fields x from to) → Known ts from to (inner_node_breaks ts limits s before (suc d))
      known_inner_node (t.alias r) = known_alias ts limits d before rules r
      known_inner_node (t.function r) = known_function ts limits d before rules r target.Method
      known_inner_node (t.field r) = known_field ts limits d before rules r

      late_inner_node : {fields : Bool} {x : InnerMemberNode} {from to : ℕ} → (s : InnerNodeAt ts fields x from to) → Late from (inner_node_breaks ts limits s before (suc d))
      late_inner_node (t.alias r) = late_alias ts limits d before rules r
      late_inner_node (t.function r) = late_function ts limits d before rules r target.Method
      late_inner_node (t.field r) = late_field ts limits d before rules r

    pub known_inner_members : {fields : Bool} {xs ys : List InnerMember} {from to : ℕ} → (s : InnerMembersAt ts fields xs ys from to) → Known ts from to (inner_members_breaks ts limits s (suc d))
    known_inner_members {from = from} {to = to} (t.end c) = known_none ts from to (omega arith)
    known_inner_members {xs = xs} {from = from} {to = to} (t.more {at = at} l v r s) =
        known_append ts from at to
        (known_member (length xs) (inner_node_breaks ts limits r (misfit_breaks ts l) (suc d)) l v (inner_node_moves ts r)
        (known_inner_node (misfit_breaks ts l) (misfit_rules ts l) r) (late_inner_node (misfit_breaks ts l) (misfit_rules ts l) r))
        (known_inner_members s)

    -- ---- structs

    known_inner : {id : Identifier} {all : List GenericParameter} {bases : List Identifier} {wheres : List Constraint} {fields : Bool} {xs ys : List InnerMember} {p : Place} {from mid at to : ℕ} →
        (h : StructHeadAt ts id all bases wheres from mid) → (l : InnerMembersAt ts fields xs ys mid at) → ClosedAt ts p at to → Known ts from to (head_breaks ts limits h ++ inner_members_breaks ts limits l (suc d))
    known_inner {from = from} {mid = mid} {at = at} {to = to} h l c =
        let u = closed_moves c in
        known_append ts from mid to (known_head limits h) (known_wider ts mid at mid to (omega arith) (omega (arith, u)) (known_inner_members l))

    module _ (before : Before) (rules : (what : Target) (at : ℕ) → Rules at (before what at)) where
      known_inner_struct : {x : InnerStruct} {from to : ℕ} → (s : InnerStructAt ts x from to) → Known ts from to (inner_struct_breaks ts limits s before (suc d))
      known_inner_struct {from = from} {to = to} (t.inner_struct s h l c) = known_word ts from to (before target.Other from) (rules target.Other from) (known_inner h l c)

      late_inner_struct : {x : InnerStruct} {from to : ℕ} → (s : InnerStructAt ts x from to) → Late from (inner_struct_breaks ts limits s before (suc d))
      late_inner_struct {from = from} {to = to} (t.inner_struct s h l c) =
          late_word ts from to (before target.Other from) (head_breaks ts limits h ++ inner_members_breaks ts limits l (suc d)) (rules target.Other from) (known_inner h l c)

      known_member_node : {x : MemberNode} {from to : ℕ} → (s : MemberNodeAt ts x from to) → Known ts from to (member_node_breaks ts limits s before (suc d))
      known_member_node (t.struct r) = known_inner_struct r
      known_member_node (t.alias r) = known_alias ts limits d before rules r
      known_member_node (t.function r) = known_function ts limits d before rules r target.Method
      known_member_node (t.field r) = known_field ts limits d before rules r

      late_member_node : {x : MemberNode} {from to : ℕ} → (s : MemberNodeAt ts x from to) → Late from (member_node_breaks ts limits s before (suc d))
      late_member_node (t.struct r) = late_inner_struct r
      late_member_node (t.alias r) = late_alias ts limits d before rules r
      late_member_node (t.function r) = late_function ts limits d before rules r target.Method
      late_member_node (t.field r) = late_field ts limits d before rules r

    pub known_members : {xs ys : List Member} {from to : ℕ} → (s : MembersAt ts xs ys from to) → Known ts from to (members_breaks ts limits s (suc d))
    known_members {from = from} {to = to} (t.end c) = known_none ts from to (omega arith)
    known_members {xs = xs} {from = from} {to = to} (t.more {at = at} l v r s) =
        known_append ts from at to
        (known_member (length xs) (member_node_breaks ts limits r (misfit_breaks ts l) (suc d)) l v (member_node_moves ts r)
        (known_member_node (misfit_breaks ts l) (misfit_rules ts l) r) (late_member_node (misfit_breaks ts l) (misfit_rules ts l) r))
        (known_members s)
