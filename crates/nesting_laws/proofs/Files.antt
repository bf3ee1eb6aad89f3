-- Interfaces, extensions and files: no node of what is read is too deep, where as many fit as were given.
use Rattle.std.proofs.Common.{Bool, true, false, ◌≡◌, ℕ, ◌+◌, List, [], ◌∷◌, map, length, Option, refl}
use Rattle.slang_names.specs.declared.places.Place.{Place}
use Rattle.slang_names.specs.declared.codes.ModuleCode.TheVariants as code
use Rattle.slang_tree.specs.declared.statements.Attribute.{Attribute}
use Rattle.slang_tree.specs.declared.declarations.Parameter.{Parameter}
use Rattle.slang_tree.specs.declared.declarations.Function.{Function}
use Rattle.slang_tree.specs.declared.declarations.Alias.{Alias}
use Rattle.slang_tree.specs.declared.declarations.InnerMember.{InnerMember}
use Rattle.slang_tree.specs.declared.declarations.Struct.{Struct}
use Rattle.slang_tree.specs.declared.declarations.Requirement.{Requirement}
use Rattle.slang_tree.specs.declared.declarations.Interface.{Interface}
use Rattle.slang_tree.specs.declared.declarations.Extension.{Extension}
use Rattle.slang_tree.specs.declared.declarations.Constant.{Constant}
use Rattle.slang_tree.specs.declared.file.Item.{Item}
use Rattle.slang_tree.specs.declared.file.ItemNode.{ItemNode}
use Rattle.slang_tree.specs.declared.file.File.{File}
use Rattle.slang_tree.specs.Nesting.{before, first_of, deep_type, deep_expr, deep_parameter, deep_function, deep_inner_member, deep_member, deep_requirement, deep_item_node, deep_item}
use Rattle.slang_tokens.specs.declared.tokens.Mark.TheVariants as m
use Rattle.slang_tokens.specs.declared.tokens.Word.TheVariants as w
use Rattle.slang_reading.specs.Lexed.{Lexed}
use Rattle.slang_reading.specs.Reading.{Leave, Take, place_of, next, turns}
use Rattle.slang_reading.specs.Kinds.{sees, sees_word}
use Rattle.slang_reading.proofs.Exact.{Post, PostChoice, post_bind, post_next, post_fits, post_turns, post_unit}
use Rattle.slang_grammar.specs.Descent.{Limits, fits_in, expect, name}
use Rattle.slang_grammar.specs.ExpressionsDescent.{Value, expressions}
use Rattle.statement_grammar.specs.declared.attributes.Target.TheVariants as target
use Rattle.statement_grammar.specs.AttributesDescent as attributes
use Rattle.statement_grammar.specs.AttributesDescent.{Given, Noted}
use Rattle.statement_grammar.proofs.Shared.{post_take}
use Rattle.declaration_grammar.specs.declared.tables.DeclarationUse.{DeclarationUse}
use Rattle.declaration_grammar.specs.declared.tables.DeclarationUse.TheVariants as u
use Rattle.declaration_grammar.specs.PartsDescent.{expect_word, generics, heads, constraints, parameters, closed}
use Rattle.declaration_grammar.specs.Declarations.{item_of}
use Rattle.declaration_grammar.specs.DeclarationsDescent.{use_of, begins_parameters, TypeName, type_name, function_rest, type_def, type_alias, in_braces, inner_members, struct_rest, bound_by, associated, required, associated_as, requirement_as, requirement, requirement_begins, requirement_choice, requirement_more, interface_rest, extended, extension_rest, constant_rest, item_typed_by, item_typed, item_as, item_node, item_access, item_more, module_line, import_more, is_token, files}
use Rattle.declaration_grammar.proofs.MembersSpelled.{post_suits}
use Rattle.nesting_laws.proofs.Depths.{Clear}
use Rattle.nesting_laws.proofs.TypesLow.{Any}
use Rattle.nesting_laws.proofs.Reading.{clear_before, All, clear_none, clear_more, clear_expressions}
use Rattle.nesting_laws.proofs.Declarations.{clear_parameters, clear_type_name, clear_function_rest, clear_type_def, clear_type_alias, clear_inner_members, clear_struct_rest}

module _ (ts : List Lexed) (limits : Limits) (is_free : limits.free ≡ false) (nodes : ℕ) where
  abbrev IsRequirement : Requirement → ℕ → Type 0
  IsRequirement x to = Clear nodes (deep_requirement x)

  abbrev IsNamed : TypeName limits nodes → ℕ → Type 0
  IsNamed x to = Clear nodes (deep_type x.0)

  abbrev HasParameters : List Parameter → ℕ → Type 0
  HasParameters x to = All deep_parameter nodes x

  clear_associated : (begin : Place) (at seen : ℕ) → Post IsRequirement (associated limits nodes begin ts at seen)
  unfolding associated
  clear_associated begin at seen = post_bind ts Any IsRequirement (name limits) _ at seen (post_unit (name limits ts at seen))
      (λ id a1 s1 o. post_bind ts Any IsRequirement (next (λ x. bound_by limits nodes (sees m.Colon x))) _ a1 s1 (post_unit (next (λ x. bound_by limits nodes (sees m.Colon x)) ts a1 s1))
      (λ b a2 s2 o. post_bind ts Any IsRequirement (expect m.Semicolon) _ a2 s2 (post_unit (expect m.Semicolon ts a2 s2)) (λ end to s3 o n l. refl)))

  clear_required : (list : List Attribute) (is_static : Bool) (begin : Place) (x : TypeName limits nodes) (at seen : ℕ) → Clear nodes (deep_type x.0) → Post IsRequirement (required limits nodes list is_static begin x ts at seen)
  unfolding required
  clear_required list is_static begin x at seen r = post_bind ts HasParameters IsRequirement (parameters limits nodes) _ at seen (clear_parameters ts limits is_free nodes at seen)
      (λ p a1 s1 q. post_bind ts Any IsRequirement (expect m.Semicolon) _ a1 s1 (post_unit (expect m.Semicolon ts a1 s1))
      (λ end to s2 o. clear_before nodes (deep_type x.0) (first_of (map deep_parameter p)) r q))

  clear_associated_as : (list : List Attribute) (at : ℕ) (x : Option Lexed) → PostChoice ts IsRequirement at x (associated_as limits nodes list (place_of x))
  clear_associated_as [] at x = post_take ts IsRequirement at x (associated limits nodes (place_of x)) (λ s. clear_associated (place_of x) (at + 1) s)
  clear_associated_as (y ∷ ys) at x = tt

  clear_requirement_as : (a : Given) (at : ℕ) (x : Option Lexed) (v : DeclarationUse) → PostChoice ts IsRequirement at x (requirement_as limits nodes a x v)
  clear_requirement_as a at x u.Associated = clear_associated_as a.0 at x
  clear_requirement_as a at x u.Static = post_suits ts limits IsRequirement at x target.Other a.1 (Take _) (post_take ts IsRequirement at x _
      (λ s. post_bind ts IsNamed IsRequirement (type_name limits nodes) _ (at + 1) s (clear_type_name ts limits is_free nodes (at + 1) s) (λ y mid s1 r. clear_required a.0 true (place_of x) y mid s1 r)))
  clear_requirement_as a at x u.Typed = post_suits ts limits IsRequirement at x target.Method a.1 (Leave _)
      (λ s. post_bind ts IsNamed IsRequirement (type_name limits nodes) _ at s (clear_type_name ts limits is_free nodes at s) (λ y mid s1 r. clear_required a.0 false y.0.place y mid s1 r))
  clear_requirement_as a at x u.Struct = tt
  clear_requirement_as a at x u.Interface = tt
  clear_requirement_as a at x u.Extension = tt
  clear_requirement_as a at x u.TypeDef = tt
  clear_requirement_as a at x u.TypeAlias = tt
  clear_requirement_as a at x u.Nothing = tt

  clear_requirement : (at seen : ℕ) → Post IsRequirement (requirement limits nodes ts at seen)
  unfolding requirement
  clear_requirement at seen = post_bind ts Any IsRequirement (attributes.attributes limits attributes.members) _ at seen (post_unit (attributes.attributes limits attributes.members ts at seen))
      (λ a mid s1 o. post_next ts IsRequirement _ mid s1 (λ x e. clear_requirement_as a mid x (use_of x)))

  abbrev MoreRequired : List Requirement → List Requirement → ℕ → ℕ → Type 0
  MoreRequired a b from to = All deep_requirement nodes a → All deep_requirement nodes b

  clear_requirement_more : (list : List Requirement) (at seen : ℕ) → Post (λ b to. MoreRequired list b at to) (requirement_more limits nodes list ts at seen)
  unfolding requirement_more
  clear_requirement_more list at seen = post_bind ts IsRequirement (λ b to. MoreRequired list b at to) (next _) _ at seen
      (post_next ts IsRequirement _ at seen (λ x e. post_fits ts IsRequirement at x (fits_in limits (length list) limits.items) code.TooLong (requirement_choice limits nodes x (requirement_begins limits nodes x)) (λ f. by x (requirement_begins limits nodes x))))
      (λ y to s1 r a. clear_more deep_requirement nodes list y a r)
    where
      by : (x : Option Lexed) (b : Bool) → PostChoice ts IsRequirement at x (requirement_choice limits nodes x b)
      by x true = λ s. clear_requirement at s
      by x false = tt

  abbrev IsInterface : Interface → ℕ → Type 0
  IsInterface x to = All deep_requirement nodes x.requirements

  clear_interface : (begin : Place) (at seen : ℕ) → Post IsInterface (interface_rest limits nodes begin ts at seen)
  unfolding interface_rest
  clear_interface begin at seen = post_bind ts Any IsInterface (name limits) _ at seen (post_unit (name limits ts at seen))
      (λ id a1 s1 o. post_bind ts Any IsInterface (expect m.OpenBrace) _ a1 s1 (post_unit (expect m.OpenBrace ts a1 s1))
      (λ p a2 s2 o. post_bind ts (λ b to. MoreRequired [] b a2 to) IsInterface (turns (in_braces limits nodes) (requirement_more limits nodes) limits.turns []) _ a2 s2
      (post_turns ts MoreRequired MoreRequired (in_braces limits nodes) (requirement_more limits nodes) (λ a at q. q) (λ a b c from mid to o q z. q (o z)) (λ a from s e. clear_requirement_more a from s) limits.turns [] a2 s2)
      (λ list a3 s3 r. post_bind ts Any IsInterface closed _ a3 s3 (post_unit (closed ts a3 s3)) (λ end to s4 o. r (clear_none deep_requirement nodes)))))

  -- ---- extensions and constants

  abbrev IsExtension : Extension → ℕ → Type 0
  IsExtension x to = All deep_inner_member nodes x.members

  clear_extension : (begin : Place) (at seen : ℕ) → Post IsExtension (extension_rest limits nodes begin ts at seen)
  unfolding extension_rest
  clear_extension begin at seen = post_bind ts Any IsExtension (generics limits) _ at seen (post_unit (generics limits ts at seen))
      (λ g a1 s1 o. post_bind ts Any IsExtension (name limits) _ a1 s1 (post_unit (name limits ts a1 s1))
      (λ id a2 s2 o. post_bind ts Any IsExtension (extended limits nodes) _ a2 s2 (post_unit (extended limits nodes ts a2 s2))
      (λ args a3 s3 o. post_bind ts Any IsExtension (heads limits) _ a3 s3 (post_unit (heads limits ts a3 s3))
      (λ h a4 s4 o. post_bind ts Any IsExtension (constraints limits) _ a4 s4 (post_unit (constraints limits ts a4 s4))
      (λ c a5 s5 o. post_bind ts Any IsExtension (expect m.OpenBrace) _ a5 s5 (post_unit (expect m.OpenBrace ts a5 s5))
      (λ p a6 s6 o. post_bind ts (λ (x : List InnerMember) (to : ℕ). All deep_inner_member nodes x) IsExtension (inner_members limits nodes false) _ a6 s6 (clear_inner_members ts limits is_free nodes false a6 s6)
      (λ list a7 s7 r. post_bind ts Any IsExtension closed _ a7 s7 (post_unit (closed ts a7 s7)) (λ end to s8 o. r))))))))

  abbrev IsConstant : Constant → ℕ → Type 0
  IsConstant x to = Clear nodes (before (deep_type x.kind) (deep_expr x.value))

  clear_constant : (begin : Place) (at seen : ℕ) → Post IsConstant (constant_rest limits nodes begin ts at seen)
  unfolding constant_rest
  clear_constant begin at seen = post_bind ts Any IsConstant (expect_word w.Const) _ at seen (post_unit (expect_word w.Const ts at seen))
      (λ p a1 s1 o. post_bind ts IsNamed IsConstant (type_name limits nodes) _ a1 s1 (clear_type_name ts limits is_free nodes a1 s1)
      (λ x a2 s2 r. post_bind ts Any IsConstant (expect m.Equal) _ a2 s2 (post_unit (expect m.Equal ts a2 s2))
      (λ q a3 s3 o. post_bind ts (λ (v : Value) (to : ℕ). Clear nodes (deep_expr v.0)) IsConstant (expressions limits nodes) _ a3 s3 (clear_expressions ts limits is_free nodes a3 s3)
      (λ v a4 s4 h. post_bind ts Any IsConstant (expect m.Semicolon) _ a4 s4 (post_unit (expect m.Semicolon ts a4 s4)) (λ end to s5 o. clear_before nodes (deep_type x.0) (deep_expr v.0) r h)))))

  -- ---- items

  abbrev IsItem : ItemNode → ℕ → Type 0
  IsItem x to = Clear nodes (deep_item_node x)

  clear_item_typed : (list : Noted) (x : TypeName limits nodes) (at seen : ℕ) → Clear nodes (deep_type x.0) → Post IsItem (item_typed limits nodes list x ts at seen)
  unfolding item_typed
  clear_item_typed list x at seen r = post_next ts IsItem _ at seen (λ o e. by o (begins_parameters o) (sees m.Semicolon o))
    where
      by : (o : Option Lexed) (a b : Bool) → PostChoice ts IsItem at o (item_typed_by limits nodes list x o a b)
      by o true b = post_suits ts limits IsItem at o target.Function list (Leave _)
          (λ s. post_bind ts (λ (y : Function) (to : ℕ). Clear nodes (deep_function y)) IsItem (function_rest limits nodes x.0.place false x) _ at s (clear_function_rest ts limits is_free nodes x.0.place false x at s r) (λ y to s1 h. h))
      by o false true = post_suits ts limits IsItem at o target.Global list (Take _) (post_take ts IsItem at o _ (λ s. r))
      by o false false = tt

  clear_item_as : (list : Noted) (at : ℕ) (x : Option Lexed) (v : DeclarationUse) → PostChoice ts IsItem at x (item_as limits nodes list x v)
  clear_item_as list at x u.Struct = post_suits ts limits IsItem at x target.Other list (Take _) (post_take ts IsItem at x _
      (λ s. post_bind ts (λ (y : Struct) (to : ℕ). All deep_member nodes y.members) IsItem (struct_rest limits nodes (place_of x)) _ (at + 1) s (clear_struct_rest ts limits is_free nodes (place_of x) (at + 1) s) (λ y to s1 h. h)))
  clear_item_as list at x u.Interface = post_suits ts limits IsItem at x target.Other list (Take _) (post_take ts IsItem at x _
      (λ s. post_bind ts IsInterface IsItem (interface_rest limits nodes (place_of x)) _ (at + 1) s (clear_interface (place_of x) (at + 1) s) (λ y to s1 h. h)))
  clear_item_as list at x u.Extension = post_suits ts limits IsItem at x target.Other list (Take _) (post_take ts IsItem at x _
      (λ s. post_bind ts IsExtension IsItem (extension_rest limits nodes (place_of x)) _ (at + 1) s (clear_extension (place_of x) (at + 1) s) (λ y to s1 h. h)))
  clear_item_as list at x u.TypeDef = post_suits ts limits IsItem at x target.Other list (Take _) (post_take ts IsItem at x _
      (λ s. post_bind ts (λ (y : Alias) (to : ℕ). Clear nodes (deep_type y.kind)) IsItem (type_def limits nodes (place_of x)) _ (at + 1) s (clear_type_def ts limits is_free nodes (place_of x) (at + 1) s) (λ y to s1 h. h)))
  clear_item_as list at x u.TypeAlias = post_suits ts limits IsItem at x target.Other list (Take _) (post_take ts IsItem at x _
      (λ s. post_bind ts (λ (y : Alias) (to : ℕ). Clear nodes (deep_type y.kind)) IsItem (type_alias limits nodes (place_of x)) _ (at + 1) s (clear_type_alias ts limits is_free nodes (place_of x) (at + 1) s) (λ y to s1 h. h)))
  clear_item_as list at x u.Static = post_suits ts limits IsItem at x target.Other list (Take _) (post_take ts IsItem at x _
      (λ s. post_bind ts IsConstant IsItem (constant_rest limits nodes (place_of x)) _ (at + 1) s (clear_constant (place_of x) (at + 1) s) (λ y to s1 h. h)))
  clear_item_as list at x u.Typed = λ s. post_bind ts IsNamed IsItem (type_name limits nodes) (item_typed limits nodes list) at s (clear_type_name ts limits is_free nodes at s) (λ y mid s1 r. clear_item_typed list y mid s1 r)
  clear_item_as list at x u.Associated = tt
  clear_item_as list at x u.Nothing = tt

  clear_item_node : (list : Noted) (at seen : ℕ) → Post IsItem (item_node limits nodes list ts at seen)
  unfolding item_node
  clear_item_node list at seen = post_next ts IsItem _ at seen (λ x e. clear_item_as list at x (use_of x))

  abbrev MoreItems : List Item → List Item → ℕ → ℕ → Type 0
  MoreItems a b from to = All deep_item nodes a → All deep_item nodes b

  clear_item_more : (list : List Item) (at seen : ℕ) → Post (λ b to. MoreItems list b at to) (item_more limits nodes list ts at seen)
  unfolding item_more
  clear_item_more list at seen = post_bind ts Any (λ b to. MoreItems list b at to) (attributes.attributes limits attributes.items) _ at seen (post_unit (attributes.attributes limits attributes.items ts at seen))
      (λ a a1 s1 o. post_bind ts Any (λ b to. MoreItems list b at to) (item_access limits nodes) _ a1 s1 (post_unit (item_access limits nodes ts a1 s1))
      (λ v a2 s2 o. post_bind ts IsItem (λ b to. MoreItems list b at to) (item_node limits nodes a.1) _ a2 s2 (clear_item_node a.1 a2 s2) (λ x to s3 r z. clear_more deep_item nodes list (item_of a.0 v x) z r)))

  -- ---- files

  abbrev IsFile : File → ℕ → Type 0
  IsFile x to = All deep_item nodes x.items

  pub clear_files : (at seen : ℕ) → Post (λ (x : File) (to : ℕ). All deep_item nodes x.items) (files limits nodes ts at seen)
  unfolding files
  clear_files at seen = post_bind ts Any IsFile (module_line limits nodes) _ at seen (post_unit (module_line limits nodes ts at seen))
      (λ line a1 s1 o. post_bind ts Any IsFile (turns (sees_word w.Import) (import_more limits nodes) limits.turns []) _ a1 s1 (post_unit (turns (sees_word w.Import) (import_more limits nodes) limits.turns [] ts a1 s1))
      (λ imports a2 s2 o. post_bind ts (λ b to. MoreItems [] b a2 to) IsFile (turns (is_token limits nodes) (item_more limits nodes) limits.turns []) _ a2 s2
      (post_turns ts MoreItems MoreItems (is_token limits nodes) (item_more limits nodes) (λ a at q. q) (λ a b c from mid to o q z. q (o z)) (λ a from s e. clear_item_more a from s) limits.turns [] a2 s2)
      (λ items to s3 r. r (clear_none deep_item nodes))))
