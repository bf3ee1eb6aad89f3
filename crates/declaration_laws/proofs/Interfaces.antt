-- Interfaces and extensions: what is spelled is read, but where a limit is passed.
use Rattle.std.proofs.Common.{Bool, true, false, not, ◌≡◌, ℕ, zero, suc, ◌+◌, ◌||◌, List, [], ◌∷◌, ◌++◌, drop, length, Option, Some, None, refl, ap}
use Rattle.slang_names.specs.declared.places.Place.{Place}
use Rattle.slang_names.specs.declared.codes.ModuleCode.TheVariants as code
use Rattle.slang_tree.specs.declared.types.Identifier.{Identifier}
use Rattle.slang_tree.specs.declared.types.TypeTree.{TypeTree}
use Rattle.slang_tree.specs.declared.statements.Attribute.{Attribute}
use Rattle.slang_tree.specs.declared.declarations.Constraint.{Constraint}
use Rattle.slang_tree.specs.declared.declarations.GenericParameter.{GenericParameter}
use Rattle.slang_tree.specs.declared.declarations.Parameter.{Parameter}
use Rattle.slang_tree.specs.declared.declarations.InnerMember.{InnerMember}
use Rattle.slang_tree.specs.declared.declarations.Requirement.{Requirement}
use Rattle.slang_tree.specs.declared.declarations.RequirementNode.TheVariants as r
use Rattle.slang_tokens.specs.declared.tokens.Kind.TheVariants as k
use Rattle.slang_tokens.specs.declared.tokens.Mark.TheVariants as m
use Rattle.slang_tokens.specs.declared.tokens.Word.TheVariants as w
use Rattle.slang_reading.specs.Lexed.{Lexed}
use Rattle.slang_reading.specs.Reading.{Leave, Take, if_fits, ◌>>=◌, first, pure, next, turns}
use Rattle.slang_reading.specs.Kinds.{sees, span}
use Rattle.slang_reading.proofs.Exact.{Reads, reads_pure, reads_bind, reads_next, reads_fits, reads_turns_end, reads_turns_more, reads_turns_full}
use Rattle.slang_grammar.specs.Standing.{Stands, NameStands}
use Rattle.slang_grammar.specs.Descent.{Limits, fits_in, expect, name, if_short}
use Rattle.slang_grammar.proofs.Shared.{reads_expect, reads_name, reads_short, is_there}
use Rattle.statement_grammar.specs.declared.attributes.Target.TheVariants as target
use Rattle.statement_grammar.specs.Attributes as att
use Rattle.statement_grammar.specs.Attributes.{AttributesAt, begin_of}
use Rattle.statement_grammar.specs.AttributesDescent as attributes
use Rattle.statement_grammar.specs.AttributesDescent.{Given, Noted, if_suits}
use Rattle.statement_grammar.proofs.AttributesRead.{notes, reads_attributes}
use Rattle.declaration_grammar.specs.Parts as parts
use Rattle.declaration_grammar.specs.Parts.{access_at, AccessAt, NamesAt, GenericsAt, HeadsAt, ConstraintsAt, ParametersAt, ClosedAt}
use Rattle.declaration_grammar.specs.PartsDescent.{generics, heads, constraints, parameters, closed}
use Rattle.declaration_grammar.specs.Declarations as t
use Rattle.declaration_grammar.specs.Declarations.{InnerMembersAt, BoundAt, requirement_of, RequirementAt, RequirementsAt, interface_of, InterfaceAt, ExtendedAt, extension_of, ExtensionAt, constant_of, ConstantAt, global_of, ItemNodeAt, is_private, item_of, ItemsAt, line_of, LineAt, ModuleAt, ImportsAt, FileAt}
use Rattle.declaration_grammar.specs.DeclarationsDescent.{use_of, type_name, in_braces, inner_members, bound_by, associated, required, requirement_as, requirement, requirement_begins_as, requirement_choice, requirement_more, interface_rest, extended_name, extended_more, extended_rest, extended_by, extended, extension_rest}
use Rattle.declaration_laws.proofs.Begins.{begun_use, begun_not, attribute_stands, type_begun}
use Rattle.declaration_laws.proofs.Parts.{reads_closed, reads_generics, reads_heads, reads_constraints, reads_parameters}
use Rattle.declaration_laws.proofs.Functions.{reads_map, reads_suits, reads_type_name}
use Rattle.declaration_laws.proofs.Members.{reads_inner}

-- E holds, and any limit may be passed
module _ (E : Type 0) (e : E) (ts : List Lexed) (limits : Limits) (nodes : ℕ) where
  -- ---- interfaces

  reads_bound : {x : Option Identifier} {from to : ℕ} → BoundAt ts x from to → (seen : ℕ) → Reads E (next (λ o. bound_by limits nodes (sees m.Colon o))) ts from seen x to
  reads_bound {from = from} (t.no_bound q) seen = reads_next E ts (λ o. bound_by limits nodes (sees m.Colon o)) from seen None from (first (drop from ts)) (bound_by limits nodes false) refl
      (ap (bound_by limits nodes) q.is) (λ s1. reads_pure E ts None from s1)
  reads_bound {from = from} (t.bound {p = p} {id = id} o v) seen =
      reads_next E ts (λ o. bound_by limits nodes (sees m.Colon o)) from seen (Some id) (from + 1 + 1) (Some (record { kind = k.Mark m.Colon; place = p; bytes = o.bytes })) (bound_by limits nodes true) o.is refl
      (λ s1. reads_map E ts Some (name limits) (from + 1) s1 id (from + 1 + 1) (reads_name E ts e limits id (from + 1) s1 v))

  reads_required : (list : List Attribute) (is_static : Bool) (begin : Place) (tree : TypeTree) (id : Identifier) {all : List Parameter} {end : Place} {from at : ℕ} → ParametersAt ts all from at → Stands ts at (k.Mark m.Semicolon) end →
      (seen : ℕ) → Reads E (required limits nodes list is_static begin (tree, id)) ts from seen (requirement_of (span (begin_of list begin) end) (r.Function list is_static tree id all)) (at + 1)
  unfolding required
  reads_required list is_static begin tree id {all = all} {end = end} {from = from} {at = at} v z seen =
      let a = requirement_of (span (begin_of list begin) end) (r.Function list is_static tree id all) in
      reads_bind E ts (parameters limits nodes) _ from seen at (at + 1) all a (reads_parameters E e ts limits nodes v seen)
      (λ s1. reads_bind E ts (expect m.Semicolon) _ at s1 (at + 1) (at + 1) end a (reads_expect E ts m.Semicolon end at s1 z) (λ s2. reads_pure E ts a (at + 1) s2))

  reads_requirement : {x : Requirement} {from to : ℕ} → RequirementAt ts x from to → (seen : ℕ) → Reads E (requirement limits nodes) ts from seen x to
  unfolding requirement associated
  reads_requirement {x = x} {from = from} (t.associated {at = at} {p = p} {end = end} {id = id} {bound = bound} s v b z) seen =
      let none : AttributesAt ts [] [] from from = att.end (record { is = ap (sees m.OpenBracket) s.is }) in
      let given : Given = ([], notes E e ts limits attributes.members none []) in
      reads_bind E ts (attributes.attributes limits attributes.members) _ from seen from (at + 1) given x (reads_attributes E e ts limits attributes.members none seen)
      (λ s1. reads_next E ts (λ o. requirement_as limits nodes given o (use_of o)) from s1 x (at + 1) (Some (record { kind = k.Word w.AssociatedType; place = p; bytes = s.bytes })) (Take (associated limits nodes p)) s.is refl
      (λ s2. reads_bind E ts (name limits) _ (from + 1) s2 (from + 1 + 1) (at + 1) id x (reads_name E ts e limits id (from + 1) s2 v)
      (λ s3. reads_bind E ts (next (λ o. bound_by limits nodes (sees m.Colon o))) _ (from + 1 + 1) s3 at (at + 1) bound x (reads_bound b s3)
      (λ s4. reads_bind E ts (expect m.Semicolon) _ at s4 (at + 1) (at + 1) end x (reads_expect E ts m.Semicolon end at s4 z) (λ s5. reads_pure E ts x (at + 1) s5)))))
  reads_requirement {x = x} {from = from} (t.function {mid = mid} {next = next_} {at = at} {attributes = list} {id = id} a (t.static {p = p} {t = tree} s r) v q z) seen =
      let given : Given = (list, notes E e ts limits attributes.members a []) in
      let tok : Lexed = record { kind = k.Word w.Static; place = p; bytes = s.bytes } in
      let rest = Take (type_name limits nodes >>= (λ y. required limits nodes list true p y)) in
      reads_bind E ts (attributes.attributes limits attributes.members) _ from seen mid (at + 1) given x (reads_attributes E e ts limits attributes.members a seen)
      (λ s1. reads_next E ts (λ o. requirement_as limits nodes given o (use_of o)) mid s1 x (at + 1) (Some tok) (if_suits limits target.Other given.1 rest) s.is refl
      (reads_suits E e ts limits mid x (at + 1) (Some tok) target.Other given.1 rest
      (λ s2. reads_bind E ts (type_name limits nodes) _ (mid + 1) s2 (next_ + 1) (at + 1) (tree, id) x (reads_type_name E e ts limits nodes r v s2) (λ s3. reads_required list true p tree id q z s3))))
  reads_requirement {x = x} {from = from} (t.function {mid = mid} {next = next_} {at = at} {attributes = list} {id = id} a (t.plain {t = tree} r) v q z) seen =
      let given : Given = (list, notes E e ts limits attributes.members a []) in
      let there = first (drop mid ts) in
      let rest = Leave (type_name limits nodes >>= (λ y. required limits nodes list false y.0.place y)) in
      reads_bind E ts (attributes.attributes limits attributes.members) _ from seen mid (at + 1) given x (reads_attributes E e ts limits attributes.members a seen)
      (λ s1. reads_next E ts (λ o. requirement_as limits nodes given o (use_of o)) mid s1 x (at + 1) there (if_suits limits target.Method given.1 rest) refl
      (ap (requirement_as limits nodes given there) (begun_use (type_begun r)))
      (reads_suits E e ts limits mid x (at + 1) there target.Method given.1 rest
      (λ s2. reads_bind E ts (type_name limits nodes) _ mid s2 (next_ + 1) (at + 1) (tree, id) x (reads_type_name E e ts limits nodes r v s2) (λ s3. reads_required list false tree.place tree id q z s3))))

  -- what begins a requirement
  abbrev pub Required : ℕ → Type 0
  Required from = (sees m.CloseBrace (first (drop from ts)) ≡ false) × ((sees m.OpenBracket (first (drop from ts)) || requirement_begins_as limits nodes (use_of (first (drop from ts)))) ≡ true)

  behind : (b c : Bool) → b ≡ false → c ≡ true → (b || c) ≡ true
  behind true c p q = cc
  behind false c p q = q

  pub requirement_open : {x : Requirement} {from to : ℕ} → RequirementAt ts x from to → Required from
  requirement_open {from = from} (t.associated s v b z) = (ap (sees m.CloseBrace) s.is, ap (λ x. sees m.OpenBracket x || requirement_begins_as limits nodes (use_of x)) s.is)
  requirement_open {from = from} (t.function (att.more a l) r v q z) = let o = attribute_stands a in (ap (sees m.CloseBrace) o.1.is, ap (λ x. sees m.OpenBracket x || requirement_begins_as limits nodes (use_of x)) o.1.is)
  requirement_open {from = from} (t.function (att.end n) (t.static s r) v q z) = (ap (sees m.CloseBrace) s.is, ap (λ x. sees m.OpenBracket x || requirement_begins_as limits nodes (use_of x)) s.is)
  requirement_open {from = from} (t.function (att.end n) (t.plain r) v q z) =
      (begun_not m.CloseBrace (type_begun r) (λ q. cc), behind (sees m.OpenBracket (first (drop from ts))) (requirement_begins_as limits nodes (use_of (first (drop from ts)))) n.is (ap (requirement_begins_as limits nodes) (begun_use (type_begun r))))

  reads_requirement_more : (list : List Requirement) {x : Requirement} {from to : ℕ} → RequirementAt ts x from to → (seen : ℕ) → Reads E (requirement_more limits nodes list) ts from seen (list ++ x ∷ []) to
  unfolding requirement_more
  reads_requirement_more list {x = x} {from = from} {to = to} v seen =
      let there = first (drop from ts) in
      let fits = fits_in limits (length list) limits.items in
      let open_ = requirement_open v in
      reads_map E ts (λ y. list ++ y ∷ []) (next _) from seen x to
      (reads_next E ts _ from seen x to there (if_fits fits code.TooLong there (Leave (requirement limits nodes))) refl
      (ap (λ c. if_fits fits code.TooLong there (requirement_choice limits nodes there c)) open_.1)
      (reads_fits E ts from x to there fits code.TooLong (Leave (requirement limits nodes)) (λ f. e) (λ s1. reads_requirement v s1)))

  reads_requirements : {list all : List Requirement} {from to : ℕ} → RequirementsAt ts list all from to → (count seen : ℕ) → Reads E (turns (in_braces limits nodes) (requirement_more limits nodes) count list) ts from seen all to
  reads_requirements {list = list} {from = from} (t.end {p = p} c) count seen = reads_turns_end E ts (in_braces limits nodes) (requirement_more limits nodes) count list from seen (ap not (is_there ts m.CloseBrace from p c))
  reads_requirements {list = list} {all = all} {from = from} {to = to} (t.more v l) zero seen = let open_ = requirement_open v in
      reads_turns_full E ts (in_braces limits nodes) (requirement_more limits nodes) list all from seen to (ap not open_.0) e
  reads_requirements {list = list} {all = all} {from = from} {to = to} (t.more {mid = mid} {x = x} v l) (suc count) seen = let open_ = requirement_open v in
      reads_turns_more E ts (in_braces limits nodes) (requirement_more limits nodes) count list (list ++ x ∷ []) all from seen mid to (ap not open_.0)
      (λ s1. reads_requirement_more list v s1) (λ s1. reads_requirements l count s1)

  -- behind its word
  pub reads_interface : (begin : Place) {id : Identifier} {q end : Place} {list : List Requirement} {from at to : ℕ} → NameStands ts from id → Stands ts (from + 1) (k.Mark m.OpenBrace) q → RequirementsAt ts [] list (from + 1 + 1) at →
      ClosedAt ts end at to → (seen : ℕ) → Reads E (interface_rest limits nodes begin) ts from seen (interface_of (span begin end) id list) to
  unfolding interface_rest
  reads_interface begin {id = id} {q = q} {end = end} {list = list} {from = from} {at = at} {to = to} v o l c seen =
      let z = interface_of (span begin end) id list in
      reads_bind E ts (name limits) _ from seen (from + 1) to id z (reads_name E ts e limits id from seen v)
      (λ s1. reads_bind E ts (expect m.OpenBrace) _ (from + 1) s1 (from + 1 + 1) to q z (reads_expect E ts m.OpenBrace q (from + 1) s1 o)
      (λ s2. reads_bind E ts (turns (in_braces limits nodes) (requirement_more limits nodes) limits.turns []) _ (from + 1 + 1) s2 at to list z (reads_requirements l limits.turns s2)
      (λ s3. reads_bind E ts closed _ at s3 to to end z (reads_closed E ts c s3) (λ s4. reads_pure E ts z to s4))))

  -- ---- extensions

  reads_extended_name : (id : Identifier) (count at seen : ℕ) → NameStands ts at id → Reads E (extended_name limits nodes count) ts at seen id (at + 1)
  unfolding extended_name
  reads_extended_name id count at seen v =
      let tok : Lexed = record { kind = k.Name; place = id.place; bytes = id.name } in
      let fits = fits_in limits count limits.items in
      reads_next E ts _ at seen id (at + 1) (Some tok) (if_fits fits code.TooLong (Some tok) (if_short limits tok (Take (pure id)))) v.is refl
      (reads_fits E ts at id (at + 1) (Some tok) fits code.TooLong (if_short limits tok (Take (pure id))) (λ f. e)
      (reads_short E ts e limits at id (at + 1) tok (Take (pure id)) (λ s1. reads_pure E ts id (at + 1) s1)))

  reads_more_extended : {xs ys : List Identifier} {p q : Place} {from to : ℕ} → NamesAt ts xs ys p q from to → (count seen : ℕ) → Reads E (turns (sees m.Comma) (extended_more limits nodes) count xs) ts from seen ys to
  unfolding extended_more
  reads_more_extended {xs = xs} {from = from} (parts.end n) count seen = reads_turns_end E ts (sees m.Comma) (extended_more limits nodes) count xs from seen n.is
  reads_more_extended {xs = xs} {ys = ys} {from = from} {to = to} (parts.more {p = p} s v r) zero seen = reads_turns_full E ts (sees m.Comma) (extended_more limits nodes) xs ys from seen to (is_there ts m.Comma from p s) e
  reads_more_extended {xs = xs} {ys = ys} {from = from} {to = to} (parts.more {p = p} {id = id} s v r) (suc count) seen =
      let zs = xs ++ id ∷ [] in
      reads_turns_more E ts (sees m.Comma) (extended_more limits nodes) count xs zs ys from seen (from + 1 + 1) to (is_there ts m.Comma from p s)
      (λ s1. reads_bind E ts (expect m.Comma) _ from s1 (from + 1) (from + 1 + 1) p zs (reads_expect E ts m.Comma p from s1 s)
      (λ s2. reads_bind E ts (extended_name limits nodes (length xs)) _ (from + 1) s2 (from + 1 + 1) (from + 1 + 1) id zs (reads_extended_name id (length xs) (from + 1) s2 v) (λ s3. reads_pure E ts zs (from + 1 + 1) s3)))
      (λ s1. reads_more_extended r count s1)

  reads_extended : {all : List Identifier} {from to : ℕ} → ExtendedAt ts all from to → (seen : ℕ) → Reads E (extended limits nodes) ts from seen all to
  unfolding extended extended_rest
  reads_extended {from = from} (t.no_arguments n) seen = reads_next E ts (λ x. extended_by limits nodes (sees m.Less x)) from seen [] from (first (drop from ts)) (extended_by limits nodes false) refl
      (ap (extended_by limits nodes) n.is) (λ s1. reads_pure E ts [] from s1)
  reads_extended {all = all} {from = from} (t.arguments {at = at} {p = p} {q = q} {id = id} o v r c) seen =
      reads_next E ts (λ x. extended_by limits nodes (sees m.Less x)) from seen all (at + 1) (Some (record { kind = k.Mark m.Less; place = p; bytes = o.bytes })) (Take (extended_rest limits nodes)) o.is refl
      (λ s1. reads_bind E ts (extended_name limits nodes 0) _ (from + 1) s1 (from + 1 + 1) (at + 1) id all (reads_extended_name id 0 (from + 1) s1 v)
      (λ s2. reads_bind E ts (turns (sees m.Comma) (extended_more limits nodes) limits.turns (id ∷ [])) _ (from + 1 + 1) s2 at (at + 1) all all (reads_more_extended r limits.turns s2)
      (λ s3. reads_bind E ts (expect m.Greater) _ at s3 (at + 1) (at + 1) q all (reads_expect E ts m.Greater q at s3 c) (λ s4. reads_pure E ts all (at + 1) s4))))

  -- behind its word
  pub reads_extension : (start : Place) {q end : Place} {all : List GenericParameter} {id : Identifier} {arguments bases : List Identifier} {wheres : List Constraint} {members : List InnerMember} {from mid next_ at begin last to : ℕ} →
      GenericsAt ts all from mid → NameStands ts mid id → ExtendedAt ts arguments (mid + 1) next_ → HeadsAt ts bases next_ at → ConstraintsAt ts [] wheres at begin → Stands ts begin (k.Mark m.OpenBrace) q →
      InnerMembersAt ts false [] members (begin + 1) last → ClosedAt ts end last to → (seen : ℕ) → Reads E (extension_rest limits nodes start) ts from seen (extension_of (span start end) all id arguments bases wheres members) to
  unfolding extension_rest
  reads_extension start {q = q} {end = end} {all = all} {id = id} {arguments = arguments} {bases = bases} {wheres = wheres} {members = members} {from = from} {mid = mid} {next_ = next_} {at = at} {begin = begin} {last = last} {to = to} g v x h c o r l seen =
      let z = extension_of (span start end) all id arguments bases wheres members in
      reads_bind E ts (generics limits) _ from seen mid to all z (reads_generics E e ts limits g seen)
      (λ s1. reads_bind E ts (name limits) _ mid s1 (mid + 1) to id z (reads_name E ts e limits id mid s1 v)
      (λ s2. reads_bind E ts (extended limits nodes) _ (mid + 1) s2 next_ to arguments z (reads_extended x s2)
      (λ s3. reads_bind E ts (heads limits) _ next_ s3 at to bases z (reads_heads E e ts limits h s3)
      (λ s4. reads_bind E ts (constraints limits) _ at s4 begin to wheres z (reads_constraints E e ts limits c s4)
      (λ s5. reads_bind E ts (expect m.OpenBrace) _ begin s5 (begin + 1) to q z (reads_expect E ts m.OpenBrace q begin s5 o)
      (λ s6. reads_bind E ts (inner_members limits nodes false) _ (begin + 1) s6 last to members z (reads_inner E e ts limits nodes r s6)
      (λ s7. reads_bind E ts closed _ last s7 to to end z (reads_closed E ts l s7) (λ s8. reads_pure E ts z to s8))))))))
