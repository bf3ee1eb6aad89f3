-- Interfaces, extensions and files: what is read is within the limits, and its attributes obey the rules.
use Rattle.std.proofs.Common.{Bool, true, false, ◌≡◌, ℕ, ◌+◌, ◌≤◌, max, List, [], ◌∷◌, map, length, Option, refl}
use Rattle.std.specs.List.{list_all}
use Rattle.slang_names.specs.declared.places.Place.{Place}
use Rattle.slang_names.specs.declared.codes.ModuleCode.TheVariants as code
use Rattle.slang_tree.specs.declared.types.Identifier.{Identifier}
use Rattle.slang_tree.specs.declared.types.TypeTree.{TypeTree}
use Rattle.slang_tree.specs.declared.statements.Attribute.{Attribute}
use Rattle.slang_tree.specs.declared.declarations.GenericParameter.{GenericParameter}
use Rattle.slang_tree.specs.declared.declarations.Constraint.{Constraint}
use Rattle.slang_tree.specs.declared.declarations.Parameter.{Parameter}
use Rattle.slang_tree.specs.declared.declarations.Alias.{Alias}
use Rattle.slang_tree.specs.declared.declarations.InnerMember.{InnerMember}
use Rattle.slang_tree.specs.declared.declarations.Struct.{Struct}
use Rattle.slang_tree.specs.declared.declarations.Requirement.{Requirement}
use Rattle.slang_tree.specs.declared.declarations.RequirementNode.TheVariants as need
use Rattle.slang_tree.specs.declared.declarations.Interface.{Interface}
use Rattle.slang_tree.specs.declared.declarations.Extension.{Extension}
use Rattle.slang_tree.specs.declared.declarations.Constant.{Constant}
use Rattle.slang_tree.specs.declared.file.ModuleLine.{ModuleLine}
use Rattle.slang_tree.specs.declared.file.Item.{Item}
use Rattle.slang_tree.specs.declared.file.ItemNode.{ItemNode}
use Rattle.slang_tree.specs.declared.file.File.{File}
use Rattle.slang_tokens.specs.declared.tokens.Mark.TheVariants as m
use Rattle.slang_tokens.specs.declared.tokens.Word.TheVariants as w
use Rattle.slang_reading.specs.Lexed.{Lexed}
use Rattle.slang_reading.specs.Reading.{Leave, Take, place_of, next, turns}
use Rattle.slang_reading.specs.Kinds.{sees, sees_word}
use Rattle.slang_reading.proofs.Exact.{Post, PostChoice, post_bind, post_next, post_fits, post_turns, post_unit}
use Rattle.slang_grammar.specs.Descent.{Limits, fits_in, expect, named, name}
use Rattle.slang_grammar.specs.Heights.{greatest}
use Rattle.slang_grammar.specs.ExpressionsDescent.{Value, expressions}
use Rattle.statement_grammar.specs.declared.attributes.Target.TheVariants as target
use Rattle.statement_grammar.specs.AttributesDescent as attributes
use Rattle.statement_grammar.specs.AttributesDescent.{Given, Noted}
use Rattle.statement_grammar.specs.AttributeTables.{may_stand}
use Rattle.statement_grammar.specs.AttributeRules.{obeys, all_true}
use Rattle.statement_grammar.proofs.Shared.{post_take}
use Rattle.declaration_grammar.specs.declared.tables.DeclarationUse.{DeclarationUse}
use Rattle.declaration_grammar.specs.declared.tables.DeclarationUse.TheVariants as u
use Rattle.declaration_grammar.specs.PartsDescent.{expect_word, generics, heads, constraints, parameters, closed}
use Rattle.declaration_grammar.specs.Declarations.{item_of}
use Rattle.declaration_grammar.specs.DeclarationsDescent.{use_of, begins_parameters, TypeName, type_name, function_rest, type_def, type_alias, in_braces, inner_members, struct_rest, bound_by, associated, required, associated_as, requirement_as, requirement, requirement_begins, requirement_choice, requirement_more, interface_rest, extended_name, extended_more, extended_rest, extended_by, extended, extension_rest, constant_rest, item_typed_by, item_typed, item_as, item_node, item_access, item_more, line_rest, module_by, module_line, import_more, is_token, files}
use Rattle.statement_fits.specs.Sizes.{Count, optional, in_attributes, Keeps}
use Rattle.statement_fits.proofs.Fitting.{and_both}
use Rattle.statement_fits.proofs.Attributes.{free_or}
use Rattle.declaration_fits.specs.Sizes.{in_items, in_generic, in_constraint, in_parameter, in_alias, in_inner_member, in_head, in_struct, in_requirement_node, in_requirement, in_interface, in_extension, in_constant, in_item_node, in_item, in_line, method_target, inner_member_obeys, member_obeys, requirement_obeys, item_target, item_node_obeys, item_obeys, RequirementFits, FileFits}
use Rattle.nesting_laws.proofs.TypesLow.{or_is, fits_less, Any}
use Rattle.fitting_laws.proofs.Types.{choice_weaken, short_named}
use Rattle.fitting_laws.proofs.Within.{nothing_keeps, both_keep, All, keep_none, keep_more, keep_expressions}
use Rattle.fitting_laws.proofs.Attributes.{Taken, taken_obeys, taken_attributes, attributes_keep}
use Rattle.fitting_laws.proofs.Parts.{suits_goes, identifier_keeps, Short, short_none, short_one, short_more, short_keeps, rule_longer, keep_name, keep_generics, keep_heads, keep_constraints, keep_parameters}
use Rattle.fitting_laws.proofs.Members.{Both, fit_type_name, IsFunction, fit_function_rest, fit_type_def, fit_type_alias, head_keeps, InnerFit, fit_inner_members, fit_struct_rest}

module _ (ts : List Lexed) (limits : Limits) (is_free : limits.free ≡ false) (nodes : ℕ) where
  abbrev IsRequirement : Requirement → ℕ → Type 0
  IsRequirement x to = RequirementFits limits nodes x

  abbrev IsNamed : TypeName limits nodes → ℕ → Type 0
  IsNamed x to = Both ts limits is_free nodes x.0 x.1

  abbrev IsName : Identifier → ℕ → Type 0
  IsName id to = Keeps limits nodes (λ count. count.of_identifier id)

  abbrev HasParameters : List Parameter → ℕ → Type 0
  HasParameters x to = Keeps limits nodes (λ count. in_items count (in_parameter count) x)

  abbrev IsBound : Option Identifier → ℕ → Type 0
  IsBound b to = Keeps limits nodes (λ count. optional count.of_identifier b)

  keep_bound : (at seen : ℕ) → Post IsBound (next (λ x. bound_by limits nodes (sees m.Colon x)) ts at seen)
  keep_bound at seen = post_next ts IsBound _ at seen (λ x e. by x (sees m.Colon x))
    where
      by : (x : Option Lexed) (b : Bool) → PostChoice ts IsBound at x (bound_by limits nodes b)
      by x true = post_take ts IsBound at x _ (λ s. post_bind ts IsName IsBound (name limits) _ (at + 1) s (keep_name ts limits is_free nodes (at + 1) s) (λ id to s1 h. h))
      by x false = λ s. nothing_keeps limits nodes

  fit_associated : (begin : Place) (at seen : ℕ) → Post IsRequirement (associated limits nodes begin ts at seen)
  unfolding associated
  fit_associated begin at seen = post_bind ts IsName IsRequirement (name limits) _ at seen (keep_name ts limits is_free nodes at seen)
      (λ id a1 s1 h. post_bind ts IsBound IsRequirement (next (λ x. bound_by limits nodes (sees m.Colon x))) _ a1 s1 (keep_bound a1 s1)
      (λ b a2 s2 g. post_bind ts Any IsRequirement (expect m.Semicolon) _ a2 s2 (post_unit (expect m.Semicolon ts a2 s2))
      (λ end to s3 o. record { sizes = both_keep limits nodes (λ count. count.of_identifier id) (λ count. optional count.of_identifier b) h g; rules = free_or limits.free true refl })))

  -- attributes before a function that is required
  abbrev Before : Bool → List Attribute → Type 0
  Before is_static list = Keeps limits nodes (λ count. in_attributes count list) × (obeys (method_target is_static) list ≡ true)

  required_keeps : (list : List Attribute) (is_static : Bool) (x : TypeTree) (id : Identifier) (p : List Parameter) → Keeps limits nodes (λ count. in_attributes count list) → Both ts limits is_free nodes x id →
      Keeps limits nodes (λ count. in_items count (in_parameter count) p) → Keeps limits nodes (λ count. in_requirement_node count (need.Function list is_static x id p))
  required_keeps list is_static x id p ar r pr =
      let last : Count → ℕ = λ count. max (count.of_identifier id) (in_items count (in_parameter count) p) in
      both_keep limits nodes (λ count. in_attributes count list) (λ count. max (count.of_type x) (last count)) ar
      (both_keep limits nodes (λ count. count.of_type x) last r.0 (both_keep limits nodes (λ count. count.of_identifier id) (λ count. in_items count (in_parameter count) p) r.1 pr))

  fit_required : (list : List Attribute) (is_static : Bool) (begin : Place) (x : TypeName limits nodes) (at seen : ℕ) → Before is_static list → Both ts limits is_free nodes x.0 x.1 →
      Post IsRequirement (required limits nodes list is_static begin x ts at seen)
  unfolding required
  fit_required list is_static begin x at seen b r = post_bind ts HasParameters IsRequirement (parameters limits nodes) _ at seen (keep_parameters ts limits is_free nodes at seen)
      (λ p a1 s1 q. post_bind ts Any IsRequirement (expect m.Semicolon) _ a1 s1 (post_unit (expect m.Semicolon ts a1 s1))
      (λ end to s2 o. record { sizes = required_keeps list is_static x.0 x.1 p b.0 r q; rules = free_or limits.free _ b.1 }))

  fit_associated_as : (list : List Attribute) (at : ℕ) (x : Option Lexed) → PostChoice ts IsRequirement at x (associated_as limits nodes list (place_of x))
  fit_associated_as [] at x = post_take ts IsRequirement at x (associated limits nodes (place_of x)) (λ s. fit_associated (place_of x) (at + 1) s)
  fit_associated_as (y ∷ ys) at x = tt

  before_given : (is_static : Bool) (a : Given) → Taken limits attributes.members a → list_all (λ y. may_stand y.0 (method_target is_static)) a.1 ≡ true → Before is_static a.0
  before_given is_static a t g = (attributes_keep limits nodes a.0 t.short, taken_obeys limits attributes.members a (method_target is_static) t g)

  fit_requirement_as : (a : Given) → Taken limits attributes.members a → (at : ℕ) (x : Option Lexed) (v : DeclarationUse) → PostChoice ts IsRequirement at x (requirement_as limits nodes a x v)
  fit_requirement_as a t at x u.Associated = fit_associated_as a.0 at x
  fit_requirement_as a t at x u.Static = suits_goes ts limits is_free IsRequirement at x target.Other a.1 (Take _) (λ g. post_take ts IsRequirement at x _
      (λ s. post_bind ts IsNamed IsRequirement (type_name limits nodes) _ (at + 1) s (fit_type_name ts limits is_free nodes (at + 1) s) (λ y mid s1 r. fit_required a.0 true (place_of x) y mid s1 (before_given true a t g) r)))
  fit_requirement_as a t at x u.Typed = suits_goes ts limits is_free IsRequirement at x target.Method a.1 (Leave _)
      (λ g s. post_bind ts IsNamed IsRequirement (type_name limits nodes) _ at s (fit_type_name ts limits is_free nodes at s) (λ y mid s1 r. fit_required a.0 false y.0.place y mid s1 (before_given false a t g) r))
  fit_requirement_as a t at x u.Struct = tt
  fit_requirement_as a t at x u.Interface = tt
  fit_requirement_as a t at x u.Extension = tt
  fit_requirement_as a t at x u.TypeDef = tt
  fit_requirement_as a t at x u.TypeAlias = tt
  fit_requirement_as a t at x u.Nothing = tt

  fit_requirement : (at seen : ℕ) → Post IsRequirement (requirement limits nodes ts at seen)
  unfolding requirement
  fit_requirement at seen = post_bind ts (λ (a : Given) (to : ℕ). Taken limits attributes.members a) IsRequirement (attributes.attributes limits attributes.members) _ at seen (taken_attributes limits attributes.members ts is_free refl at seen)
      (λ a mid s1 t. post_next ts IsRequirement _ mid s1 (λ x e. fit_requirement_as a t mid x (use_of x)))

  abbrev NextRequired : ℕ → Requirement → ℕ → Type 0
  NextRequired count x to = (count + 1 ≤ limits.items) × RequirementFits limits nodes x

  abbrev RequiredFit : List Requirement → Type 0
  RequiredFit list = Short limits nodes in_requirement list × (all_true (map requirement_obeys list) ≡ true)

  abbrev MoreRequired : List Requirement → List Requirement → ℕ → ℕ → Type 0
  MoreRequired a b from to = RequiredFit a → RequiredFit b

  fit_requirement_more : (list : List Requirement) (at seen : ℕ) → Post (λ b to. MoreRequired list b at to) (requirement_more limits nodes list ts at seen)
  unfolding requirement_more
  fit_requirement_more list at seen = post_bind ts (NextRequired (length list)) (λ b to. MoreRequired list b at to) (next _) _ at seen
      (post_next ts (NextRequired (length list)) _ at seen (λ x e. post_fits ts (NextRequired (length list)) at x (fits_in limits (length list) limits.items) code.TooLong (requirement_choice limits nodes x (requirement_begins limits nodes x))
      (λ f. choice_weaken ts IsRequirement (NextRequired (length list)) (λ a to r. (fits_less limits (length list) limits.items is_free f, r)) at x (requirement_choice limits nodes x (requirement_begins limits nodes x)) (by x (requirement_begins limits nodes x)))))
      (λ y to s1 r a. (short_more limits nodes in_requirement list y r.0 r.1.sizes a.0, rule_longer requirement_obeys list y a.1 (or_is limits.free (requirement_obeys y) is_free r.1.rules)))
    where
      by : (x : Option Lexed) (b : Bool) → PostChoice ts IsRequirement at x (requirement_choice limits nodes x b)
      by x true = λ s. fit_requirement at s
      by x false = tt

  abbrev IsInterface : Interface → ℕ → Type 0
  IsInterface x to = Keeps limits nodes (λ count. in_interface count x) × (all_true (map requirement_obeys x.requirements) ≡ true)

  fit_interface : (begin : Place) (at seen : ℕ) → Post IsInterface (interface_rest limits nodes begin ts at seen)
  unfolding interface_rest
  fit_interface begin at seen = post_bind ts IsName IsInterface (name limits) _ at seen (keep_name ts limits is_free nodes at seen)
      (λ id a1 s1 h. post_bind ts Any IsInterface (expect m.OpenBrace) _ a1 s1 (post_unit (expect m.OpenBrace ts a1 s1))
      (λ p a2 s2 o. post_bind ts (λ b to. MoreRequired [] b a2 to) IsInterface (turns (in_braces limits nodes) (requirement_more limits nodes) limits.turns []) _ a2 s2
      (post_turns ts MoreRequired MoreRequired (in_braces limits nodes) (requirement_more limits nodes) (λ a at q. q) (λ a b c from mid to o q z. q (o z)) (λ a from s e. fit_requirement_more a from s) limits.turns [] a2 s2)
      (λ list a3 s3 q. post_bind ts Any IsInterface closed _ a3 s3 (post_unit (closed ts a3 s3))
      (λ end to s4 o. let r = q (short_none limits nodes in_requirement, refl) in
      (both_keep limits nodes (λ count. count.of_identifier id) (λ count. in_items count (in_requirement count) list) h (short_keeps limits nodes in_requirement list r.0), r.1)))))

  -- ---- extensions and constants

  abbrev NextName : ℕ → Identifier → ℕ → Type 0
  NextName count id to = (count + 1 ≤ limits.items) × Keeps limits nodes (λ c. c.of_identifier id)

  keep_extended_name : (count at seen : ℕ) → Post (NextName count) (extended_name limits nodes count ts at seen)
  unfolding extended_name
  keep_extended_name count at seen = post_next ts (NextName count) _ at seen (λ x e. post_fits ts (NextName count) at x (fits_in limits count limits.items) code.TooLong (named limits x)
      (λ f. choice_weaken ts (λ (id : Identifier) (to : ℕ). length id.name ≤ limits.names) (NextName count) (λ a to r. (fits_less limits count limits.items is_free f, identifier_keeps limits nodes a r)) at x (named limits x) (short_named ts limits is_free at x)))

  abbrev NamesFit : List Identifier → Type 0
  NamesFit list = Short limits nodes (λ count id. count.of_identifier id) list

  abbrev MoreNames : List Identifier → List Identifier → ℕ → ℕ → Type 0
  MoreNames a b from to = NamesFit a → NamesFit b

  keep_extended_more : (a : List Identifier) (at seen : ℕ) → Post (λ b to. MoreNames a b at to) (extended_more limits nodes a ts at seen)
  unfolding extended_more
  keep_extended_more a at seen = post_bind ts Any (λ b to. MoreNames a b at to) (expect m.Comma) _ at seen (post_unit (expect m.Comma ts at seen))
      (λ p a1 s1 o. post_bind ts (NextName (length a)) (λ b to. MoreNames a b at to) (extended_name limits nodes (length a)) _ a1 s1 (keep_extended_name (length a) a1 s1)
      (λ id to s2 r v. short_more limits nodes (λ count id. count.of_identifier id) a id r.0 r.1 v))

  abbrev HasExtended : List Identifier → ℕ → Type 0
  HasExtended list to = Keeps limits nodes (λ count. in_items count count.of_identifier list)

  keep_extended_rest : (at seen : ℕ) → Post HasExtended (extended_rest limits nodes ts at seen)
  unfolding extended_rest
  keep_extended_rest at seen = post_bind ts (NextName 0) HasExtended (extended_name limits nodes 0) _ at seen (keep_extended_name 0 at seen)
      (λ x a1 s1 r. post_bind ts (λ all to. MoreNames (x ∷ []) all a1 to) HasExtended (turns (sees m.Comma) (extended_more limits nodes) limits.turns (x ∷ [])) _ a1 s1
      (post_turns ts MoreNames MoreNames (sees m.Comma) (extended_more limits nodes) (λ a at q. q) (λ a b c from mid to o q z. q (o z)) (λ a from s e. keep_extended_more a from s) limits.turns (x ∷ []) a1 s1)
      (λ all a2 s2 q. post_bind ts Any HasExtended (expect m.Greater) _ a2 s2 (post_unit (expect m.Greater ts a2 s2))
      (λ p to s3 o. short_keeps limits nodes (λ count id. count.of_identifier id) all (q (short_one limits nodes (λ count id. count.of_identifier id) x r.0 r.1)))))

  keep_extended : (at seen : ℕ) → Post HasExtended (extended limits nodes ts at seen)
  unfolding extended
  keep_extended at seen = post_next ts HasExtended _ at seen (λ x e. by x (sees m.Less x))
    where
      by : (x : Option Lexed) (b : Bool) → PostChoice ts HasExtended at x (extended_by limits nodes b)
      by x true = post_take ts HasExtended at x _ (λ s. keep_extended_rest (at + 1) s)
      by x false = λ s. short_keeps limits nodes (λ count id. count.of_identifier id) [] (short_none limits nodes (λ count id. count.of_identifier id))

  abbrev IsExtension : Extension → ℕ → Type 0
  IsExtension x to = Keeps limits nodes (λ count. in_extension count x) × (all_true (map inner_member_obeys x.members) ≡ true)

  fit_extension : (begin : Place) (at seen : ℕ) → Post IsExtension (extension_rest limits nodes begin ts at seen)
  unfolding extension_rest
  fit_extension begin at seen = post_bind ts (λ (list : List GenericParameter) (to : ℕ). Keeps limits nodes (λ count. in_items count (in_generic count) list)) IsExtension (generics limits) _ at seen (keep_generics ts limits is_free nodes at seen)
      (λ g a1 s1 gr. post_bind ts IsName IsExtension (name limits) _ a1 s1 (keep_name ts limits is_free nodes a1 s1)
      (λ id a2 s2 ir. post_bind ts HasExtended IsExtension (extended limits nodes) _ a2 s2 (keep_extended a2 s2)
      (λ args a3 s3 ar. post_bind ts (λ (list : List Identifier) (to : ℕ). Keeps limits nodes (λ count. greatest (map count.of_identifier list))) IsExtension (heads limits) _ a3 s3 (keep_heads ts limits is_free nodes a3 s3)
      (λ h a4 s4 hr. post_bind ts (λ (list : List Constraint) (to : ℕ). All limits in_constraint nodes list) IsExtension (constraints limits) _ a4 s4 (keep_constraints ts limits is_free nodes a4 s4)
      (λ c a5 s5 cr. post_bind ts Any IsExtension (expect m.OpenBrace) _ a5 s5 (post_unit (expect m.OpenBrace ts a5 s5))
      (λ p a6 s6 o. post_bind ts (λ (x : List InnerMember) (to : ℕ). InnerFit ts limits is_free nodes x) IsExtension (inner_members limits nodes false) _ a6 s6 (fit_inner_members ts limits is_free nodes false a6 s6)
      (λ list a7 s7 r. post_bind ts Any IsExtension closed _ a7 s7 (post_unit (closed ts a7 s7))
      (λ end to s8 o. (
        both_keep limits nodes (λ count. in_head count id g h c) (λ count. max (in_items count count.of_identifier args) (in_items count (in_inner_member count) list)) (head_keeps ts limits is_free nodes id g h c ir gr hr cr)
            (both_keep limits nodes (λ count. in_items count count.of_identifier args) (λ count. in_items count (in_inner_member count) list) ar (short_keeps limits nodes in_inner_member list r.0)),
        r.1,
      )))))))))

  abbrev IsConstant : Constant → ℕ → Type 0
  IsConstant x to = Keeps limits nodes (λ count. in_constant count x)

  fit_constant : (begin : Place) (at seen : ℕ) → Post IsConstant (constant_rest limits nodes begin ts at seen)
  unfolding constant_rest
  fit_constant begin at seen = post_bind ts Any IsConstant (expect_word w.Const) _ at seen (post_unit (expect_word w.Const ts at seen))
      (λ p a1 s1 o. post_bind ts IsNamed IsConstant (type_name limits nodes) _ a1 s1 (fit_type_name ts limits is_free nodes a1 s1)
      (λ x a2 s2 r. post_bind ts Any IsConstant (expect m.Equal) _ a2 s2 (post_unit (expect m.Equal ts a2 s2))
      (λ q a3 s3 o. post_bind ts (λ (v : Value) (to : ℕ). Keeps limits nodes (λ count. count.of_value v.0)) IsConstant (expressions limits nodes) _ a3 s3 (keep_expressions limits ts is_free nodes a3 s3)
      (λ v a4 s4 h. post_bind ts Any IsConstant (expect m.Semicolon) _ a4 s4 (post_unit (expect m.Semicolon ts a4 s4)) (λ end to s5 o. both_keep limits nodes (λ count. count.of_type x.0) (λ count. max (count.of_identifier x.1) (count.of_value v.0)) r.0 (both_keep limits nodes (λ count. count.of_identifier x.1) (λ count. count.of_value v.0) r.1 h))))))

  -- ---- items

  abbrev IsItem : Noted → ItemNode → ℕ → Type 0
  IsItem list x to = Keeps limits nodes (λ count. in_item_node count x) × (item_node_obeys x ≡ true) × (list_all (λ y. may_stand y.0 (item_target x)) list ≡ true)

  fit_item_typed : (list : Noted) (x : TypeName limits nodes) (at seen : ℕ) → Both ts limits is_free nodes x.0 x.1 → Post (IsItem list) (item_typed limits nodes list x ts at seen)
  unfolding item_typed
  fit_item_typed list x at seen r = post_next ts (IsItem list) _ at seen (λ o e. by o (begins_parameters o) (sees m.Semicolon o))
    where
      by : (o : Option Lexed) (a b : Bool) → PostChoice ts (IsItem list) at o (item_typed_by limits nodes list x o a b)
      by o true b = suits_goes ts limits is_free (IsItem list) at o target.Function list (Leave _)
          (λ g s. post_bind ts (IsFunction ts limits is_free nodes false) (IsItem list) (function_rest limits nodes x.0.place false x) _ at s (fit_function_rest ts limits is_free nodes x.0.place false x at s r) (λ y to s1 h. (h.0, h.1, g)))
      by o false true = suits_goes ts limits is_free (IsItem list) at o target.Global list (Take _) (λ g. post_take ts (IsItem list) at o _ (λ s. (both_keep limits nodes (λ count. count.of_type x.0) (λ count. count.of_identifier x.1) r.0 r.1, refl, g)))
      by o false false = tt

  fit_item_as : (list : Noted) (at : ℕ) (x : Option Lexed) (v : DeclarationUse) → PostChoice ts (IsItem list) at x (item_as limits nodes list x v)
  fit_item_as list at x u.Struct = suits_goes ts limits is_free (IsItem list) at x target.Other list (Take _) (λ g. post_take ts (IsItem list) at x _
      (λ s. post_bind ts (λ (y : Struct) (to : ℕ). Keeps limits nodes (λ count. in_struct count y) × (all_true (map member_obeys y.members) ≡ true)) (IsItem list) (struct_rest limits nodes (place_of x)) _ (at + 1) s (fit_struct_rest ts limits is_free nodes (place_of x) (at + 1) s) (λ y to s1 h. (h.0, h.1, g))))
  fit_item_as list at x u.Interface = suits_goes ts limits is_free (IsItem list) at x target.Other list (Take _) (λ g. post_take ts (IsItem list) at x _
      (λ s. post_bind ts IsInterface (IsItem list) (interface_rest limits nodes (place_of x)) _ (at + 1) s (fit_interface (place_of x) (at + 1) s) (λ y to s1 h. (h.0, h.1, g))))
  fit_item_as list at x u.Extension = suits_goes ts limits is_free (IsItem list) at x target.Other list (Take _) (λ g. post_take ts (IsItem list) at x _
      (λ s. post_bind ts IsExtension (IsItem list) (extension_rest limits nodes (place_of x)) _ (at + 1) s (fit_extension (place_of x) (at + 1) s) (λ y to s1 h. (h.0, h.1, g))))
  fit_item_as list at x u.TypeDef = suits_goes ts limits is_free (IsItem list) at x target.Other list (Take _) (λ g. post_take ts (IsItem list) at x _
      (λ s. post_bind ts (λ (y : Alias) (to : ℕ). Keeps limits nodes (λ count. in_alias count y)) (IsItem list) (type_def limits nodes (place_of x)) _ (at + 1) s (fit_type_def ts limits is_free nodes (place_of x) (at + 1) s) (λ y to s1 h. (h, refl, g))))
  fit_item_as list at x u.TypeAlias = suits_goes ts limits is_free (IsItem list) at x target.Other list (Take _) (λ g. post_take ts (IsItem list) at x _
      (λ s. post_bind ts (λ (y : Alias) (to : ℕ). Keeps limits nodes (λ count. in_alias count y)) (IsItem list) (type_alias limits nodes (place_of x)) _ (at + 1) s (fit_type_alias ts limits is_free nodes (place_of x) (at + 1) s) (λ y to s1 h. (h, refl, g))))
  fit_item_as list at x u.Static = suits_goes ts limits is_free (IsItem list) at x target.Other list (Take _) (λ g. post_take ts (IsItem list) at x _
      (λ s. post_bind ts IsConstant (IsItem list) (constant_rest limits nodes (place_of x)) _ (at + 1) s (fit_constant (place_of x) (at + 1) s) (λ y to s1 h. (h, refl, g))))
  fit_item_as list at x u.Typed = λ s. post_bind ts IsNamed (IsItem list) (type_name limits nodes) (item_typed limits nodes list) at s (fit_type_name ts limits is_free nodes at s) (λ y mid s1 r. fit_item_typed list y mid s1 r)
  fit_item_as list at x u.Associated = tt
  fit_item_as list at x u.Nothing = tt

  fit_item_node : (list : Noted) (at seen : ℕ) → Post (IsItem list) (item_node limits nodes list ts at seen)
  unfolding item_node
  fit_item_node list at seen = post_next ts (IsItem list) _ at seen (λ x e. fit_item_as list at x (use_of x))

  abbrev ItemsFit : List Item → Type 0
  ItemsFit list = All limits in_item nodes list × (all_true (map item_obeys list) ≡ true)

  abbrev MoreItems : List Item → List Item → ℕ → ℕ → Type 0
  MoreItems a b from to = ItemsFit a → ItemsFit b

  item_keeps : (a : Given) (x : ItemNode) → Taken limits attributes.items a → Keeps limits nodes (λ count. in_item_node count x) → Keeps limits nodes (λ count. max (in_attributes count a.0) (in_item_node count x))
  item_keeps a x t w = both_keep limits nodes (λ count. in_attributes count a.0) (λ count. in_item_node count x) (attributes_keep limits nodes a.0 t.short) w

  fit_item_more : (list : List Item) (at seen : ℕ) → Post (λ b to. MoreItems list b at to) (item_more limits nodes list ts at seen)
  unfolding item_more
  fit_item_more list at seen = post_bind ts (λ (a : Given) (to : ℕ). Taken limits attributes.items a) (λ b to. MoreItems list b at to) (attributes.attributes limits attributes.items) _ at seen (taken_attributes limits attributes.items ts is_free refl at seen)
      (λ a a1 s1 t. post_bind ts Any (λ b to. MoreItems list b at to) (item_access limits nodes) _ a1 s1 (post_unit (item_access limits nodes ts a1 s1))
      (λ v a2 s2 o. post_bind ts (IsItem a.1) (λ b to. MoreItems list b at to) (item_node limits nodes a.1) _ a2 s2 (fit_item_node a.1 a2 s2)
      (λ x to s3 r z. (
        keep_more limits in_item nodes list (item_of a.0 v x) z.0 (item_keeps a x t r.0),
        rule_longer item_obeys list (item_of a.0 v x) z.1 (and_both (obeys (item_target x) a.0) (item_node_obeys x) (taken_obeys limits attributes.items a (item_target x) t r.2) r.1),
      ))))

  -- ---- files

  abbrev IsLine : ModuleLine → ℕ → Type 0
  IsLine x to = Keeps limits nodes (λ count. in_line count x)

  keep_line_rest : (begin : Place) (at seen : ℕ) → Post IsLine (line_rest limits nodes begin ts at seen)
  unfolding line_rest
  keep_line_rest begin at seen = post_bind ts IsName IsLine (name limits) _ at seen (keep_name ts limits is_free nodes at seen)
      (λ id a1 s1 h. post_bind ts Any IsLine (expect m.Semicolon) _ a1 s1 (post_unit (expect m.Semicolon ts a1 s1)) (λ end to s2 o. h))

  abbrev IsModule : Option ModuleLine → ℕ → Type 0
  IsModule x to = Keeps limits nodes (λ count. optional (in_line count) x)

  keep_module_line : (at seen : ℕ) → Post IsModule (module_line limits nodes ts at seen)
  unfolding module_line
  keep_module_line at seen = post_next ts IsModule _ at seen (λ x e. by x (sees_word w.Module x))
    where
      by : (x : Option Lexed) (b : Bool) → PostChoice ts IsModule at x (module_by limits nodes x b)
      by x true = post_take ts IsModule at x _ (λ s. post_bind ts IsLine IsModule (line_rest limits nodes (place_of x)) _ (at + 1) s (keep_line_rest (place_of x) (at + 1) s) (λ y to s1 h. h))
      by x false = λ s. nothing_keeps limits nodes

  abbrev MoreLines : List ModuleLine → List ModuleLine → ℕ → ℕ → Type 0
  MoreLines a b from to = All limits in_line nodes a → All limits in_line nodes b

  keep_import_more : (list : List ModuleLine) (at seen : ℕ) → Post (λ b to. MoreLines list b at to) (import_more limits nodes list ts at seen)
  unfolding import_more
  keep_import_more list at seen = post_bind ts Any (λ b to. MoreLines list b at to) (expect_word w.Import) _ at seen (post_unit (expect_word w.Import ts at seen))
      (λ begin a1 s1 o. post_bind ts IsLine (λ b to. MoreLines list b at to) (line_rest limits nodes begin) _ a1 s1 (keep_line_rest begin a1 s1) (λ x to s2 h r. keep_more limits in_line nodes list x r h))

  abbrev IsFile : File → ℕ → Type 0
  IsFile x to = FileFits limits nodes x

  pub fit_files : (at seen : ℕ) → Post (λ (x : File) (to : ℕ). FileFits limits nodes x) (files limits nodes ts at seen)
  unfolding files
  fit_files at seen = post_bind ts IsModule IsFile (module_line limits nodes) _ at seen (keep_module_line at seen)
      (λ line a1 s1 lr. post_bind ts (λ b to. MoreLines [] b a1 to) IsFile (turns (sees_word w.Import) (import_more limits nodes) limits.turns []) _ a1 s1
      (post_turns ts MoreLines MoreLines (sees_word w.Import) (import_more limits nodes) (λ a at q. q) (λ a b c from mid to o q z. q (o z)) (λ a from s e. keep_import_more a from s) limits.turns [] a1 s1)
      (λ imports a2 s2 ir. post_bind ts (λ b to. MoreItems [] b a2 to) IsFile (turns (is_token limits nodes) (item_more limits nodes) limits.turns []) _ a2 s2
      (post_turns ts MoreItems MoreItems (is_token limits nodes) (item_more limits nodes) (λ a at q. q) (λ a b c from mid to o q z. q (o z)) (λ a from s e. fit_item_more a from s) limits.turns [] a2 s2)
      (λ items to s3 q. let r = q (keep_none limits in_item nodes, refl) in record {
        sizes = both_keep limits nodes (λ count. optional (in_line count) line) (λ count. max (greatest (map (in_line count) imports)) (greatest (map (in_item count) items))) lr
            (both_keep limits nodes (λ count. greatest (map (in_line count) imports)) (λ count. greatest (map (in_item count) items)) (ir (keep_none limits in_line nodes)) r.0);
        rules = free_or limits.free _ r.1;
      })))
