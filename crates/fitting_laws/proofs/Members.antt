-- Functions, members and structs: what is read is within the limits, and its attributes obey the rules.
use Rattle.std.proofs.Common.{Bool, true, false, ◌≡◌, ℕ, ◌+◌, ◌≤◌, max, List, [], ◌∷◌, map, length, Option, refl, sym, subst, arith, if◌then◌else◌}
use Rattle.std.specs.List.{list_all}
use Rattle.slang_names.specs.declared.places.Place.{Place}
use Rattle.slang_names.specs.declared.codes.ModuleCode.TheVariants as code
use Rattle.slang_tree.specs.declared.types.Identifier.{Identifier}
use Rattle.slang_tree.specs.declared.types.TypeTree.{TypeTree}
use Rattle.slang_tree.specs.declared.statements.DeclaredName.{DeclaredName}
use Rattle.slang_tree.specs.declared.statements.Block.{Block}
use Rattle.slang_tree.specs.declared.declarations.GenericParameter.{GenericParameter}
use Rattle.slang_tree.specs.declared.declarations.Constraint.{Constraint}
use Rattle.slang_tree.specs.declared.declarations.Parameter.{Parameter}
use Rattle.slang_tree.specs.declared.declarations.Function.{Function}
use Rattle.slang_tree.specs.declared.declarations.Alias.{Alias}
use Rattle.slang_tree.specs.declared.declarations.Field.{Field}
use Rattle.slang_tree.specs.declared.declarations.InnerMember.{InnerMember}
use Rattle.slang_tree.specs.declared.declarations.InnerMemberNode.{InnerMemberNode}
use Rattle.slang_tree.specs.declared.declarations.InnerMemberNode.TheVariants as i
use Rattle.slang_tree.specs.declared.declarations.InnerStruct.{InnerStruct}
use Rattle.slang_tree.specs.declared.declarations.Member.{Member}
use Rattle.slang_tree.specs.declared.declarations.MemberNode.{MemberNode}
use Rattle.slang_tree.specs.declared.declarations.MemberNode.TheVariants as n
use Rattle.slang_tree.specs.declared.declarations.Struct.{Struct}
use Rattle.slang_tokens.specs.declared.tokens.Mark.TheVariants as m
use Rattle.slang_reading.specs.Lexed.{Lexed}
use Rattle.slang_reading.specs.Reading.{Leave, Take, place_of, next, turns}
use Rattle.slang_reading.specs.Kinds.{sees}
use Rattle.slang_reading.proofs.Exact.{Post, PostChoice, post_bind, post_next, post_fits, post_turns, post_unit, post_weaken}
use Rattle.slang_grammar.specs.Descent.{Limits, fits_in, expect, name}
use Rattle.slang_grammar.specs.Heights.{greatest}
use Rattle.slang_grammar.specs.TypesDescent.{Type_, types}
use Rattle.statement_grammar.specs.declared.attributes.Target.TheVariants as target
use Rattle.statement_grammar.specs.AttributesDescent as attributes
use Rattle.statement_grammar.specs.AttributesDescent.{Given, Noted}
use Rattle.statement_grammar.specs.AttributeTables.{may_stand}
use Rattle.statement_grammar.specs.AttributeRules.{obeys, all_true}
use Rattle.statement_grammar.specs.Statements.{declared}
use Rattle.statement_grammar.specs.StatementsDescent.{length_more, Named, declared_name, blocks}
use Rattle.statement_grammar.proofs.Shared.{post_take}
use Rattle.declaration_grammar.specs.declared.tables.DeclarationUse.{DeclarationUse}
use Rattle.declaration_grammar.specs.declared.tables.DeclarationUse.TheVariants as u
use Rattle.declaration_grammar.specs.Declarations.{function_of}
use Rattle.declaration_grammar.specs.PartsDescent.{access, generics, heads, constraints, parameters, closed}
use Rattle.declaration_grammar.specs.DeclarationsDescent.{use_of, begins_parameters, TypeName, type_name, function_rest, static_rest, type_def, type_alias, field_more, field_rest, goes_on_field, in_braces, inner_typed_by, inner_typed, inner_as, inner_node, inner_one, inner_begins, inner_choice, inner_more, inner_members, Head, struct_head, inner_struct_rest, member_typed_by, member_typed, member_as, member_node, member_one, member_begins, member_choice, member_more, struct_rest}
use Rattle.statement_fits.specs.Sizes.{Count, in_attributes, in_block, Keeps, BlockFits}
use Rattle.statement_fits.proofs.Fitting.{and_both}
use Rattle.statement_fits.proofs.Attributes.{free_or}
use Rattle.declaration_fits.specs.Sizes.{in_items, in_generic, in_constraint, in_parameter, in_function, in_alias, in_field, in_inner_node, in_inner_member, in_head, in_inner_struct, in_member_node, in_member, in_struct, method_target, block_obeys, inner_target, inner_node_obeys, inner_member_obeys, member_target, member_node_obeys, member_obeys, InnerMemberFits, MemberFits}
use Rattle.nesting_laws.proofs.TypesLow.{or_is, fits_less, Any}
use Rattle.fitting_laws.proofs.Types.{choice_weaken}
use Rattle.fitting_laws.proofs.Within.{both_keep, All, keep_more, keep_one, keep_types}
use Rattle.fitting_laws.proofs.Attributes.{Taken, taken_obeys, taken_attributes, attributes_keep}
use Rattle.fitting_laws.proofs.Locals.{ShortLengths, keep_lengths, declared_keeps, keep_declared}
use Rattle.fitting_laws.proofs.Statements.{fit_blocks}
use Rattle.fitting_laws.proofs.Parts.{suits_goes, Short, short_none, short_more, short_keeps, rule_longer, keep_name, keep_generics, keep_heads, keep_constraints, keep_parameters}

module _ (ts : List Lexed) (limits : Limits) (is_free : limits.free ≡ false) (nodes : ℕ) where
  abbrev IsType : Type_ → ℕ → Type 0
  IsType x to = Keeps limits nodes (λ count. count.of_type x.0)

  -- a type and a name
  abbrev pub Both : TypeTree → Identifier → Type 0
  Both x id = Keeps limits nodes (λ count. count.of_type x) × Keeps limits nodes (λ count. count.of_identifier id)

  -- ---- functions, aliases, fields

  abbrev IsNamed : TypeName limits nodes → ℕ → Type 0
  IsNamed x to = Both x.0 x.1

  abbrev IsName : Identifier → ℕ → Type 0
  IsName id to = Keeps limits nodes (λ count. count.of_identifier id)

  pub fit_type_name : (at seen : ℕ) → Post IsNamed (type_name limits nodes ts at seen)
  unfolding type_name
  fit_type_name at seen = post_bind ts IsType IsNamed (types limits nodes) _ at seen (keep_types limits ts is_free nodes at seen)
      (λ x mid s1 r. post_bind ts IsName IsNamed (name limits) _ mid s1 (keep_name ts limits is_free nodes mid s1) (λ id to s2 h. (r, h)))

  abbrev pub IsFunction : Bool → Function → ℕ → Type 0
  IsFunction is_static x to = Keeps limits nodes (λ count. in_function count x) × (block_obeys x.body ≡ true) × (x.is_static ≡ is_static)

  abbrev IsBody : Block → ℕ → Type 0
  IsBody x to = BlockFits limits nodes x

  function_keeps : (begin : Place) (is_static : Bool) (x : TypeTree) (id : Identifier) (g : List GenericParameter) (p : List Parameter) (c : List Constraint) (b : Block) → Both x id →
      Keeps limits nodes (λ count. in_items count (in_generic count) g) → Keeps limits nodes (λ count. in_items count (in_parameter count) p) → Keeps limits nodes (λ count. greatest (map (in_constraint count) c)) →
      Keeps limits nodes (λ count. in_block count b) → Keeps limits nodes (λ count. in_function count (function_of begin is_static x id g p c b))
  function_keeps begin is_static x id g p c b r gr pr cr br =
      let last : Count → ℕ = λ count. max (greatest (map (in_constraint count) c)) (in_block count b) in
      let rest : Count → ℕ = λ count. max (in_items count (in_generic count) g) (max (in_items count (in_parameter count) p) (last count)) in
      both_keep limits nodes (λ count. count.of_type x) (λ count. max (count.of_identifier id) (rest count)) r.0
      (both_keep limits nodes (λ count. count.of_identifier id) rest r.1
      (both_keep limits nodes (λ count. in_items count (in_generic count) g) (λ count. max (in_items count (in_parameter count) p) (last count)) gr
      (both_keep limits nodes (λ count. in_items count (in_parameter count) p) last pr
      (both_keep limits nodes (λ count. greatest (map (in_constraint count) c)) (λ count. in_block count b) cr br))))

  abbrev HasGenerics : List GenericParameter → ℕ → Type 0
  HasGenerics list to = Keeps limits nodes (λ count. in_items count (in_generic count) list)

  abbrev HasParameters : List Parameter → ℕ → Type 0
  HasParameters x to = Keeps limits nodes (λ count. in_items count (in_parameter count) x)

  abbrev HasConstraints : List Constraint → ℕ → Type 0
  HasConstraints x to = All limits in_constraint nodes x

  pub fit_function_rest : (begin : Place) (is_static : Bool) (x : TypeName limits nodes) (at seen : ℕ) → Both x.0 x.1 → Post (IsFunction is_static) (function_rest limits nodes begin is_static x ts at seen)
  unfolding function_rest
  fit_function_rest begin is_static x at seen r = let Q : Function → ℕ → Type 0 = IsFunction is_static in
      post_bind ts HasGenerics Q (generics limits) _ at seen (keep_generics ts limits is_free nodes at seen)
      (λ g a1 s1 gr. post_bind ts HasParameters Q (parameters limits nodes) _ a1 s1 (keep_parameters ts limits is_free nodes a1 s1)
      (λ p a2 s2 pr. post_bind ts HasConstraints Q (constraints limits) _ a2 s2 (keep_constraints ts limits is_free nodes a2 s2)
      (λ c a3 s3 cr. post_bind ts IsBody Q (blocks limits nodes) _ a3 s3 (fit_blocks ts limits is_free nodes a3 s3)
      (λ b to s4 br. (function_keeps begin is_static x.0 x.1 g p c b r gr pr cr br.sizes, or_is limits.free (block_obeys b) is_free br.rules, refl)))))

  fit_static_rest : (begin : Place) (at seen : ℕ) → Post (IsFunction true) (static_rest limits nodes begin ts at seen)
  unfolding static_rest
  fit_static_rest begin at seen = post_bind ts IsNamed (IsFunction true) (type_name limits nodes) _ at seen (fit_type_name at seen) (λ x mid s1 r. fit_function_rest begin true x mid s1 r)

  abbrev IsAlias : Alias → ℕ → Type 0
  IsAlias x to = Keeps limits nodes (λ count. in_alias count x)

  pub fit_type_def : (begin : Place) (at seen : ℕ) → Post IsAlias (type_def limits nodes begin ts at seen)
  unfolding type_def
  fit_type_def begin at seen = post_bind ts IsNamed IsAlias (type_name limits nodes) _ at seen (fit_type_name at seen)
      (λ x mid s1 r. post_bind ts Any IsAlias (expect m.Semicolon) _ mid s1 (post_unit (expect m.Semicolon ts mid s1)) (λ end to s2 o. both_keep limits nodes (λ count. count.of_type x.0) (λ count. count.of_identifier x.1) r.0 r.1))

  pub fit_type_alias : (begin : Place) (at seen : ℕ) → Post IsAlias (type_alias limits nodes begin ts at seen)
  unfolding type_alias
  fit_type_alias begin at seen = post_bind ts IsName IsAlias (name limits) _ at seen (keep_name ts limits is_free nodes at seen)
      (λ id a1 s1 h. post_bind ts Any IsAlias (expect m.Equal) _ a1 s1 (post_unit (expect m.Equal ts a1 s1))
      (λ p a2 s2 o. post_bind ts IsType IsAlias (types limits nodes) _ a2 s2 (keep_types limits ts is_free nodes a2 s2)
      (λ x a3 s3 r. post_bind ts Any IsAlias (expect m.Semicolon) _ a3 s3 (post_unit (expect m.Semicolon ts a3 s3)) (λ end to s4 o. both_keep limits nodes (λ count. count.of_type x.0) (λ count. count.of_identifier id) r h))))

  abbrev IsField : Field → ℕ → Type 0
  IsField x to = Keeps limits nodes (λ count. in_field count x)

  abbrev MoreFields : List DeclaredName → List DeclaredName → ℕ → ℕ → Type 0
  MoreFields a b from to = All limits (λ count x. count.of_name x) nodes a → All limits (λ count x. count.of_name x) nodes b

  fit_field_more : (a : List DeclaredName) (at seen : ℕ) → Post (λ b to. MoreFields a b at to) (field_more limits nodes a ts at seen)
  unfolding field_more
  fit_field_more a at seen = post_bind ts Any (λ b to. MoreFields a b at to) (expect m.Comma) _ at seen (post_unit (expect m.Comma ts at seen))
      (λ p a1 s1 o. post_bind ts (λ (x : Named) (to : ℕ). Keeps limits nodes (λ count. count.of_name x.0)) (λ b to. MoreFields a b at to) (declared_name limits) _ a1 s1 (keep_declared ts limits is_free nodes a1 s1)
      (λ x to s2 h r. keep_more limits (λ count x. count.of_name x) nodes a x.0 r h))

  fit_field_rest : (x : TypeName limits nodes) (at seen : ℕ) → Both x.0 x.1 → Post IsField (field_rest limits nodes x ts at seen)
  unfolding field_rest
  fit_field_rest x at seen r = post_bind ts (λ c to. ShortLengths ts limits is_free nodes ([], x.1.place) c at to) IsField (turns (sees m.OpenBracket) (length_more limits) limits.turns ([], x.1.place)) _ at seen
      (keep_lengths ts limits is_free nodes ([], x.1.place) at seen)
      (λ c a1 s1 h. post_bind ts (λ b to. MoreFields (declared x.1 c.0 c.1 ∷ []) b a1 to) IsField (turns (sees m.Comma) (field_more limits nodes) limits.turns (declared x.1 c.0 c.1 ∷ [])) _ a1 s1
      (post_turns ts MoreFields MoreFields (sees m.Comma) (field_more limits nodes) (λ a at q. q) (λ a b c from mid to o q z. q (o z)) (λ a from s e. fit_field_more a from s) limits.turns (declared x.1 c.0 c.1 ∷ []) a1 s1)
      (λ all a2 s2 q. post_bind ts Any IsField (expect m.Semicolon) _ a2 s2 (post_unit (expect m.Semicolon ts a2 s2)) (λ end to s3 o. both_keep limits nodes (λ count. count.of_type x.0) (λ count. greatest (map count.of_name all)) r.0
      (q (keep_one limits (λ count x. count.of_name x) nodes (declared x.1 c.0 c.1) (declared_keeps ts limits is_free nodes x.1 c.0 c.1 r.1.short (h (omega arith))))))))

  pub head_keeps : (id : Identifier) (g : List GenericParameter) (h : List Identifier) (c : List Constraint) → Keeps limits nodes (λ count. count.of_identifier id) → Keeps limits nodes (λ count. in_items count (in_generic count) g) →
      Keeps limits nodes (λ count. greatest (map count.of_identifier h)) → All limits in_constraint nodes c → Keeps limits nodes (λ count. in_head count id g h c)
  head_keeps id g h c ir gr hr cr =
      let last : Count → ℕ = λ count. max (greatest (map count.of_identifier h)) (greatest (map (in_constraint count) c)) in
      both_keep limits nodes (λ count. count.of_identifier id) (λ count. max (in_items count (in_generic count) g) (last count)) ir
      (both_keep limits nodes (λ count. in_items count (in_generic count) g) last gr
      (both_keep limits nodes (λ count. greatest (map count.of_identifier h)) (λ count. greatest (map (in_constraint count) c)) hr cr))

  -- ---- members of extensions and of structs in structs

  abbrev pub InnerFit : List InnerMember → Type 0
  InnerFit list = Short limits nodes in_inner_member list × (all_true (map inner_member_obeys list) ≡ true)

  module _ (fields : Bool) where
    abbrev IsInner : Noted → InnerMemberNode → ℕ → Type 0
    IsInner list x to = Keeps limits nodes (λ count. in_inner_node count x) × (inner_node_obeys x ≡ true) × (list_all (λ y. may_stand y.0 (inner_target x)) list ≡ true)

    inner_function : (list : Noted) (is_static : Bool) (y : Function) (to : ℕ) → list_all (λ z. may_stand z.0 (method_target is_static)) list ≡ true → IsFunction is_static y to → IsInner list (i.Function y) to
    inner_function list is_static y to g h = (h.0, h.1, subst (λ b. list_all (λ z. may_stand z.0 (method_target b)) list ≡ true) (sym h.2) g)

    fit_inner_typed : (list : Noted) (x : TypeName limits nodes) (at seen : ℕ) → Both x.0 x.1 → Post (IsInner list) (inner_typed limits nodes fields list x ts at seen)
    unfolding inner_typed
    fit_inner_typed list x at seen r = post_next ts (IsInner list) _ at seen (λ o e. by o (begins_parameters o) (if fields then goes_on_field limits nodes o else false))
      where
        by : (o : Option Lexed) (a b : Bool) → PostChoice ts (IsInner list) at o (inner_typed_by limits nodes fields list x a b)
        by o true b = suits_goes ts limits is_free (IsInner list) at o target.Method list (Leave _) (λ g s. post_bind ts (IsFunction false) (IsInner list) (function_rest limits nodes x.0.place false x) _ at s (fit_function_rest x.0.place false x at s r) (λ y to s1 h. inner_function list false y to g h))
        by o false true = suits_goes ts limits is_free (IsInner list) at o target.Other list (Leave _) (λ g s. post_bind ts IsField (IsInner list) (field_rest limits nodes x) _ at s (fit_field_rest x at s r) (λ y to s1 h. (h, refl, g)))
        by o false false = tt

    fit_inner_as : (list : Noted) (at : ℕ) (x : Option Lexed) (v : DeclarationUse) → PostChoice ts (IsInner list) at x (inner_as limits nodes fields list x v)
    fit_inner_as list at x u.TypeDef = suits_goes ts limits is_free (IsInner list) at x target.Other list (Take _) (λ g. post_take ts (IsInner list) at x _
        (λ s. post_bind ts IsAlias (IsInner list) (type_def limits nodes (place_of x)) _ (at + 1) s (fit_type_def (place_of x) (at + 1) s) (λ y to s1 h. (h, refl, g))))
    fit_inner_as list at x u.TypeAlias = suits_goes ts limits is_free (IsInner list) at x target.Other list (Take _) (λ g. post_take ts (IsInner list) at x _
        (λ s. post_bind ts IsAlias (IsInner list) (type_alias limits nodes (place_of x)) _ (at + 1) s (fit_type_alias (place_of x) (at + 1) s) (λ y to s1 h. (h, refl, g))))
    fit_inner_as list at x u.Static = suits_goes ts limits is_free (IsInner list) at x target.Other list (Take _) (λ g. post_take ts (IsInner list) at x _
        (λ s. post_bind ts (IsFunction true) (IsInner list) (static_rest limits nodes (place_of x)) _ (at + 1) s (fit_static_rest (place_of x) (at + 1) s) (λ y to s1 h. inner_function list true y to g h)))
    fit_inner_as list at x u.Typed = λ s. post_bind ts IsNamed (IsInner list) (type_name limits nodes) (inner_typed limits nodes fields list) at s (fit_type_name at s) (λ y mid s1 r. fit_inner_typed list y mid s1 r)
    fit_inner_as list at x u.Struct = tt
    fit_inner_as list at x u.Interface = tt
    fit_inner_as list at x u.Extension = tt
    fit_inner_as list at x u.Associated = tt
    fit_inner_as list at x u.Nothing = tt

    fit_inner_node : (list : Noted) (at seen : ℕ) → Post (IsInner list) (inner_node limits nodes fields list ts at seen)
    unfolding inner_node
    fit_inner_node list at seen = post_next ts (IsInner list) _ at seen (λ x e. fit_inner_as list at x (use_of x))

    abbrev IsInnerMember : InnerMember → ℕ → Type 0
    IsInnerMember x to = InnerMemberFits limits nodes x

    fit_inner_one : (at seen : ℕ) → Post IsInnerMember (inner_one limits nodes fields ts at seen)
    unfolding inner_one
    fit_inner_one at seen = post_bind ts (λ (a : Given) (to : ℕ). Taken limits attributes.members a) IsInnerMember (attributes.attributes limits attributes.members) _ at seen (taken_attributes limits attributes.members ts is_free refl at seen)
        (λ a a1 s1 t. post_bind ts Any IsInnerMember access _ a1 s1 (post_unit (access ts a1 s1))
        (λ v a2 s2 o. post_bind ts (IsInner a.1) IsInnerMember (inner_node limits nodes fields a.1) _ a2 s2 (fit_inner_node a.1 a2 s2)
        (λ x to s3 r. record {
          sizes = both_keep limits nodes (λ count. in_attributes count a.0) (λ count. in_inner_node count x) (attributes_keep limits nodes a.0 t.short) r.0;
          rules = free_or limits.free _ (and_both (obeys (inner_target x) a.0) (inner_node_obeys x) (taken_obeys limits attributes.members a (inner_target x) t r.2) r.1);
        })))

    abbrev NextInner : ℕ → InnerMember → ℕ → Type 0
    NextInner count x to = (count + 1 ≤ limits.items) × InnerMemberFits limits nodes x

    abbrev MoreInner : List InnerMember → List InnerMember → ℕ → ℕ → Type 0
    MoreInner a b from to = InnerFit a → InnerFit b

    fit_inner_more : (list : List InnerMember) (at seen : ℕ) → Post (λ b to. MoreInner list b at to) (inner_more limits nodes fields list ts at seen)
    unfolding inner_more
    fit_inner_more list at seen = post_bind ts (NextInner (length list)) (λ b to. MoreInner list b at to) (next _) _ at seen
        (post_next ts (NextInner (length list)) _ at seen (λ x e. post_fits ts (NextInner (length list)) at x (fits_in limits (length list) limits.items) code.TooLong (inner_choice limits nodes fields x (inner_begins limits nodes fields x))
        (λ f. choice_weaken ts IsInnerMember (NextInner (length list)) (λ a to r. (fits_less limits (length list) limits.items is_free f, r)) at x (inner_choice limits nodes fields x (inner_begins limits nodes fields x)) (by x (inner_begins limits nodes fields x)))))
        (λ y to s1 r a. (short_more limits nodes in_inner_member list y r.0 r.1.sizes a.0, rule_longer inner_member_obeys list y a.1 (or_is limits.free (inner_member_obeys y) is_free r.1.rules)))
      where
        by : (x : Option Lexed) (b : Bool) → PostChoice ts IsInnerMember at x (inner_choice limits nodes fields x b)
        by x true = λ s. fit_inner_one at s
        by x false = tt

    pub fit_inner_members : (at seen : ℕ) → Post (λ (x : List InnerMember) (to : ℕ). InnerFit x) (inner_members limits nodes fields ts at seen)
    unfolding inner_members
    fit_inner_members at seen = post_weaken (λ c to. MoreInner [] c at to) (λ x to. InnerFit x) (λ x to q. q (short_none limits nodes in_inner_member, refl)) (turns (in_braces limits nodes) (inner_more limits nodes fields) limits.turns [] ts at seen)
        (post_turns ts MoreInner MoreInner (in_braces limits nodes) (inner_more limits nodes fields) (λ a at q. q) (λ a b c from mid to o q z. q (o z)) (λ a from s e. fit_inner_more a from s) limits.turns [] at seen)

  abbrev HasInner : List InnerMember → ℕ → Type 0
  HasInner x to = InnerFit x

  -- ---- structs

  abbrev IsHead : Head limits nodes → ℕ → Type 0
  IsHead h to = Keeps limits nodes (λ count. in_head count h.0 h.1 h.2 h.3)

  keep_struct_head : (at seen : ℕ) → Post IsHead (struct_head limits nodes ts at seen)
  unfolding struct_head
  keep_struct_head at seen = post_bind ts IsName IsHead (name limits) _ at seen (keep_name ts limits is_free nodes at seen)
      (λ id a1 s1 ir. post_bind ts HasGenerics IsHead (generics limits) _ a1 s1 (keep_generics ts limits is_free nodes a1 s1)
      (λ g a2 s2 gr. post_bind ts (λ (list : List Identifier) (to : ℕ). Keeps limits nodes (λ count. greatest (map count.of_identifier list))) IsHead (heads limits) _ a2 s2 (keep_heads ts limits is_free nodes a2 s2)
      (λ h a3 s3 hr. post_bind ts HasConstraints IsHead (constraints limits) _ a3 s3 (keep_constraints ts limits is_free nodes a3 s3)
      (λ c a4 s4 cr. post_bind ts Any IsHead (expect m.OpenBrace) _ a4 s4 (post_unit (expect m.OpenBrace ts a4 s4)) (λ p to s5 o. head_keeps id g h c ir gr hr cr)))))

  abbrev IsInnerStruct : InnerStruct → ℕ → Type 0
  IsInnerStruct x to = Keeps limits nodes (λ count. in_inner_struct count x) × (all_true (map inner_member_obeys x.members) ≡ true)

  fit_inner_struct : (begin : Place) (at seen : ℕ) → Post IsInnerStruct (inner_struct_rest limits nodes begin ts at seen)
  unfolding inner_struct_rest
  fit_inner_struct begin at seen = post_bind ts IsHead IsInnerStruct (struct_head limits nodes) _ at seen (keep_struct_head at seen)
      (λ h a1 s1 hr. post_bind ts HasInner IsInnerStruct (inner_members limits nodes true) _ a1 s1 (fit_inner_members true a1 s1)
      (λ list a2 s2 r. post_bind ts Any IsInnerStruct closed _ a2 s2 (post_unit (closed ts a2 s2))
      (λ end to s3 o. (both_keep limits nodes (λ count. in_head count h.0 h.1 h.2 h.3) (λ count. in_items count (in_inner_member count) list) hr (short_keeps limits nodes in_inner_member list r.0), r.1))))

  abbrev IsNode : Noted → MemberNode → ℕ → Type 0
  IsNode list x to = Keeps limits nodes (λ count. in_member_node count x) × (member_node_obeys x ≡ true) × (list_all (λ y. may_stand y.0 (member_target x)) list ≡ true)

  node_function : (list : Noted) (is_static : Bool) (y : Function) (to : ℕ) → list_all (λ z. may_stand z.0 (method_target is_static)) list ≡ true → IsFunction is_static y to → IsNode list (n.Function y) to
  node_function list is_static y to g h = (h.0, h.1, subst (λ b. list_all (λ z. may_stand z.0 (method_target b)) list ≡ true) (sym h.2) g)

  fit_member_typed : (list : Noted) (x : TypeName limits nodes) (at seen : ℕ) → Both x.0 x.1 → Post (IsNode list) (member_typed limits nodes list x ts at seen)
  unfolding member_typed
  fit_member_typed list x at seen r = post_next ts (IsNode list) _ at seen (λ o e. by o (begins_parameters o) (goes_on_field limits nodes o))
    where
      by : (o : Option Lexed) (a b : Bool) → PostChoice ts (IsNode list) at o (member_typed_by limits nodes list x a b)
      by o true b = suits_goes ts limits is_free (IsNode list) at o target.Method list (Leave _) (λ g s. post_bind ts (IsFunction false) (IsNode list) (function_rest limits nodes x.0.place false x) _ at s (fit_function_rest x.0.place false x at s r) (λ y to s1 h. node_function list false y to g h))
      by o false true = suits_goes ts limits is_free (IsNode list) at o target.Other list (Leave _) (λ g s. post_bind ts IsField (IsNode list) (field_rest limits nodes x) _ at s (fit_field_rest x at s r) (λ y to s1 h. (h, refl, g)))
      by o false false = tt

  fit_member_as : (list : Noted) (at : ℕ) (x : Option Lexed) (v : DeclarationUse) → PostChoice ts (IsNode list) at x (member_as limits nodes list x v)
  fit_member_as list at x u.Struct = suits_goes ts limits is_free (IsNode list) at x target.Other list (Take _) (λ g. post_take ts (IsNode list) at x _
      (λ s. post_bind ts IsInnerStruct (IsNode list) (inner_struct_rest limits nodes (place_of x)) _ (at + 1) s (fit_inner_struct (place_of x) (at + 1) s) (λ y to s1 h. (h.0, h.1, g))))
  fit_member_as list at x u.TypeDef = suits_goes ts limits is_free (IsNode list) at x target.Other list (Take _) (λ g. post_take ts (IsNode list) at x _
      (λ s. post_bind ts IsAlias (IsNode list) (type_def limits nodes (place_of x)) _ (at + 1) s (fit_type_def (place_of x) (at + 1) s) (λ y to s1 h. (h, refl, g))))
  fit_member_as list at x u.TypeAlias = suits_goes ts limits is_free (IsNode list) at x target.Other list (Take _) (λ g. post_take ts (IsNode list) at x _
      (λ s. post_bind ts IsAlias (IsNode list) (type_alias limits nodes (place_of x)) _ (at + 1) s (fit_type_alias (place_of x) (at + 1) s) (λ y to s1 h. (h, refl, g))))
  fit_member_as list at x u.Static = suits_goes ts limits is_free (IsNode list) at x target.Other list (Take _) (λ g. post_take ts (IsNode list) at x _
      (λ s. post_bind ts (IsFunction true) (IsNode list) (static_rest limits nodes (place_of x)) _ (at + 1) s (fit_static_rest (place_of x) (at + 1) s) (λ y to s1 h. node_function list true y to g h)))
  fit_member_as list at x u.Typed = λ s. post_bind ts IsNamed (IsNode list) (type_name limits nodes) (member_typed limits nodes list) at s (fit_type_name at s) (λ y mid s1 r. fit_member_typed list y mid s1 r)
  fit_member_as list at x u.Interface = tt
  fit_member_as list at x u.Extension = tt
  fit_member_as list at x u.Associated = tt
  fit_member_as list at x u.Nothing = tt

  fit_member_node : (list : Noted) (at seen : ℕ) → Post (IsNode list) (member_node limits nodes list ts at seen)
  unfolding member_node
  fit_member_node list at seen = post_next ts (IsNode list) _ at seen (λ x e. fit_member_as list at x (use_of x))

  abbrev IsMember : Member → ℕ → Type 0
  IsMember x to = MemberFits limits nodes x

  fit_member_one : (at seen : ℕ) → Post IsMember (member_one limits nodes ts at seen)
  unfolding member_one
  fit_member_one at seen = post_bind ts (λ (a : Given) (to : ℕ). Taken limits attributes.members a) IsMember (attributes.attributes limits attributes.members) _ at seen (taken_attributes limits attributes.members ts is_free refl at seen)
      (λ a a1 s1 t. post_bind ts Any IsMember access _ a1 s1 (post_unit (access ts a1 s1))
      (λ v a2 s2 o. post_bind ts (IsNode a.1) IsMember (member_node limits nodes a.1) _ a2 s2 (fit_member_node a.1 a2 s2)
      (λ x to s3 r. record {
        sizes = both_keep limits nodes (λ count. in_attributes count a.0) (λ count. in_member_node count x) (attributes_keep limits nodes a.0 t.short) r.0;
        rules = free_or limits.free _ (and_both (obeys (member_target x) a.0) (member_node_obeys x) (taken_obeys limits attributes.members a (member_target x) t r.2) r.1);
      })))

  abbrev NextMember : ℕ → Member → ℕ → Type 0
  NextMember count x to = (count + 1 ≤ limits.items) × MemberFits limits nodes x

  abbrev MembersFit : List Member → Type 0
  MembersFit list = Short limits nodes in_member list × (all_true (map member_obeys list) ≡ true)

  abbrev MoreMembers : List Member → List Member → ℕ → ℕ → Type 0
  MoreMembers a b from to = MembersFit a → MembersFit b

  fit_member_more : (list : List Member) (at seen : ℕ) → Post (λ b to. MoreMembers list b at to) (member_more limits nodes list ts at seen)
  unfolding member_more
  fit_member_more list at seen = post_bind ts (NextMember (length list)) (λ b to. MoreMembers list b at to) (next _) _ at seen
      (post_next ts (NextMember (length list)) _ at seen (λ x e. post_fits ts (NextMember (length list)) at x (fits_in limits (length list) limits.items) code.TooLong (member_choice limits nodes x (member_begins limits nodes x))
      (λ f. choice_weaken ts IsMember (NextMember (length list)) (λ a to r. (fits_less limits (length list) limits.items is_free f, r)) at x (member_choice limits nodes x (member_begins limits nodes x)) (by x (member_begins limits nodes x)))))
      (λ y to s1 r a. (short_more limits nodes in_member list y r.0 r.1.sizes a.0, rule_longer member_obeys list y a.1 (or_is limits.free (member_obeys y) is_free r.1.rules)))
    where
      by : (x : Option Lexed) (b : Bool) → PostChoice ts IsMember at x (member_choice limits nodes x b)
      by x true = λ s. fit_member_one at s
      by x false = tt

  abbrev IsStruct : Struct → ℕ → Type 0
  IsStruct x to = Keeps limits nodes (λ count. in_struct count x) × (all_true (map member_obeys x.members) ≡ true)

  pub fit_struct_rest : (begin : Place) (at seen : ℕ) → Post IsStruct (struct_rest limits nodes begin ts at seen)
  unfolding struct_rest
  fit_struct_rest begin at seen = post_bind ts IsHead IsStruct (struct_head limits nodes) _ at seen (keep_struct_head at seen)
      (λ h a1 s1 hr. post_bind ts (λ b to. MoreMembers [] b a1 to) IsStruct (turns (in_braces limits nodes) (member_more limits nodes) limits.turns []) _ a1 s1
      (post_turns ts MoreMembers MoreMembers (in_braces limits nodes) (member_more limits nodes) (λ a at q. q) (λ a b c from mid to o q z. q (o z)) (λ a from s e. fit_member_more a from s) limits.turns [] a1 s1)
      (λ list a2 s2 q. post_bind ts Any IsStruct closed _ a2 s2 (post_unit (closed ts a2 s2))
      (λ end to s3 o. let r = q (short_none limits nodes in_member, refl) in
      (both_keep limits nodes (λ count. in_head count h.0 h.1 h.2 h.3) (λ count. in_items count (in_member count) list) hr (short_keeps limits nodes in_member list r.0), r.1))))
