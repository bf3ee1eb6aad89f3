-- Functions, members and structs: no node of what is read is too deep, where as many fit as were given.
use Rattle.std.proofs.Common.{Bool, true, false, ◌≡◌, ℕ, ◌+◌, List, [], ◌∷◌, map, length, Option, Some, None, if◌then◌else◌}
use Rattle.slang_names.specs.declared.places.Place.{Place}
use Rattle.slang_names.specs.declared.places.Mode.{Mode}
use Rattle.slang_names.specs.declared.codes.ModuleCode.TheVariants as code
use Rattle.slang_tree.specs.declared.types.TypeTree.{TypeTree}
use Rattle.slang_tree.specs.declared.statements.Block.{Block}
use Rattle.slang_tree.specs.declared.declarations.Parameter.{Parameter}
use Rattle.slang_tree.specs.declared.declarations.Function.{Function}
use Rattle.slang_tree.specs.declared.declarations.Alias.{Alias}
use Rattle.slang_tree.specs.declared.declarations.Field.{Field}
use Rattle.slang_tree.specs.declared.declarations.InnerMember.{InnerMember}
use Rattle.slang_tree.specs.declared.declarations.InnerMemberNode.{InnerMemberNode}
use Rattle.slang_tree.specs.declared.declarations.InnerStruct.{InnerStruct}
use Rattle.slang_tree.specs.declared.declarations.Member.{Member}
use Rattle.slang_tree.specs.declared.declarations.MemberNode.{MemberNode}
use Rattle.slang_tree.specs.declared.declarations.Struct.{Struct}
use Rattle.slang_tree.specs.Nesting.{before, first_of, deep_type, deep_block, deep_parameter, deep_function, deep_inner_member_node, deep_inner_member, deep_member_node, deep_member}
use Rattle.slang_tokens.specs.declared.tokens.Kind.{Kind}
use Rattle.slang_tokens.specs.declared.tokens.Kind.TheVariants as k
use Rattle.slang_tokens.specs.declared.tokens.Mark.TheVariants as m
use Rattle.slang_tokens.specs.declared.tokens.Word.{Word}
use Rattle.slang_reading.specs.Lexed.{Lexed}
use Rattle.slang_reading.specs.Reading.{Leave, Take, place_of, next, turns}
use Rattle.slang_reading.specs.Kinds.{sees}
use Rattle.slang_reading.proofs.Exact.{Post, PostChoice, post_bind, post_next, post_fits, post_turns, post_unit, post_weaken}
use Rattle.slang_grammar.specs.Descent.{Limits, fits_in, expect, name}
use Rattle.slang_grammar.specs.TypesDescent.{Type_, types}
use Rattle.statement_grammar.specs.declared.attributes.Target.TheVariants as target
use Rattle.statement_grammar.specs.AttributesDescent as attributes
use Rattle.statement_grammar.specs.AttributesDescent.{Noted}
use Rattle.statement_grammar.specs.Statements.{declared}
use Rattle.statement_grammar.specs.StatementsDescent.{length_more, declared_name, blocks}
use Rattle.statement_grammar.proofs.Shared.{post_take}
use Rattle.declaration_grammar.specs.declared.tables.DeclarationUse.{DeclarationUse}
use Rattle.declaration_grammar.specs.declared.tables.DeclarationUse.TheVariants as u
use Rattle.declaration_grammar.specs.Tables.{declaration_use, mode_of}
use Rattle.declaration_grammar.specs.PartsDescent.{access, generics, constraints, semantic, parameter_rest, plain_parameter, moded_parameter, plain_as, parameter_word, parameter_by, parameter_at, parameter, parameter_more, some_parameters, parameters_by, parameters, closed}
use Rattle.declaration_grammar.specs.DeclarationsDescent.{use_of, begins_parameters, TypeName, type_name, function_rest, static_rest, type_def, type_alias, field_more, field_rest, goes_on_field, in_braces, inner_typed_by, inner_typed, inner_as, inner_node, inner_one, inner_begins, inner_choice, inner_more, inner_members, struct_head, inner_struct_rest, member_typed_by, member_typed, member_as, member_node, member_one, member_begins, member_choice, member_more, struct_rest}
use Rattle.declaration_grammar.proofs.MembersSpelled.{post_suits}
use Rattle.nesting_laws.proofs.Depths.{Clear}
use Rattle.nesting_laws.proofs.TypesLow.{Any}
use Rattle.nesting_laws.proofs.Reading.{clear_before, All, clear_none, clear_more, clear_one, clear_types}
use Rattle.nesting_laws.proofs.Statements.{clear_blocks}

module _ (ts : List Lexed) (limits : Limits) (is_free : limits.free ≡ false) (nodes : ℕ) where
  abbrev IsType : Type_ → ℕ → Type 0
  IsType x to = Clear nodes (deep_type x.0)

  -- ---- parameters

  abbrev IsParameter : Parameter → ℕ → Type 0
  IsParameter x to = Clear nodes (deep_parameter x)

  clear_parameter_rest : (begin : Place) (how : Mode) (t : TypeTree) (at seen : ℕ) → Clear nodes (deep_type t) → Post IsParameter (parameter_rest limits nodes begin how t ts at seen)
  unfolding parameter_rest
  clear_parameter_rest begin how t at seen r = post_bind ts Any IsParameter (declared_name limits) _ at seen (post_unit (declared_name limits ts at seen))
      (λ x mid s1 o. post_bind ts Any IsParameter (semantic limits nodes x.1) _ mid s1 (post_unit (semantic limits nodes x.1 ts mid s1)) (λ id to s2 o. r))

  clear_plain : (at seen : ℕ) → Post IsParameter (plain_parameter limits nodes ts at seen)
  unfolding plain_parameter
  clear_plain at seen = post_bind ts IsType IsParameter (types limits nodes) _ at seen (clear_types ts limits is_free nodes at seen) (λ t mid s1 r. clear_parameter_rest t.0.place _ t.0 mid s1 r)

  clear_moded : (begin : Place) (how : Mode) (at seen : ℕ) → Post IsParameter (moded_parameter limits nodes begin how ts at seen)
  unfolding moded_parameter
  clear_moded begin how at seen = post_bind ts IsType IsParameter (types limits nodes) _ at seen (clear_types ts limits is_free nodes at seen) (λ t mid s1 r. clear_parameter_rest begin how t.0 mid s1 r)

  clear_plain_as : (at : ℕ) (x : Option Lexed) (v : DeclarationUse) → PostChoice ts IsParameter at x (plain_as limits nodes v)
  clear_plain_as at x u.Typed = λ s. clear_plain at s
  clear_plain_as at x u.Struct = tt
  clear_plain_as at x u.Interface = tt
  clear_plain_as at x u.Extension = tt
  clear_plain_as at x u.TypeDef = tt
  clear_plain_as at x u.TypeAlias = tt
  clear_plain_as at x u.Static = tt
  clear_plain_as at x u.Associated = tt
  clear_plain_as at x u.Nothing = tt

  clear_parameter_word : (at : ℕ) (tok : Lexed) (word : Word) (o : Option Mode) → PostChoice ts IsParameter at (Some tok) (parameter_word limits nodes tok word o)
  clear_parameter_word at tok word (Some how) = λ s. clear_moded tok.place how (at + 1) s
  clear_parameter_word at tok word None = clear_plain_as at (Some tok) (declaration_use (k.Word word))

  clear_parameter_by : (at : ℕ) (tok : Lexed) (kind : Kind) → PostChoice ts IsParameter at (Some tok) (parameter_by limits nodes tok kind)
  clear_parameter_by at tok k.Name = λ s. clear_plain at s
  clear_parameter_by at tok (k.Word word) = clear_parameter_word at tok word (mode_of word)
  clear_parameter_by at tok (k.Number v) = tt
  clear_parameter_by at tok k.String = tt
  clear_parameter_by at tok (k.Mark mark) = tt

  clear_parameter : (count at seen : ℕ) → Post IsParameter (parameter limits nodes count ts at seen)
  unfolding parameter
  clear_parameter count at seen = post_next ts IsParameter _ at seen (λ x e. post_fits ts IsParameter at x (fits_in limits count limits.items) code.TooLong (parameter_at limits nodes x) (λ f. go x))
    where
      go : (x : Option Lexed) → PostChoice ts IsParameter at x (parameter_at limits nodes x)
      go (Some tok) = clear_parameter_by at tok tok.kind
      go None = tt

  abbrev HasParameters : List Parameter → ℕ → Type 0
  HasParameters x to = All deep_parameter nodes x

  abbrev MoreParameters : List Parameter → List Parameter → ℕ → ℕ → Type 0
  MoreParameters a b from to = All deep_parameter nodes a → All deep_parameter nodes b

  clear_parameter_more : (list : List Parameter) (at seen : ℕ) → Post (λ b to. MoreParameters list b at to) (parameter_more limits nodes list ts at seen)
  unfolding parameter_more
  clear_parameter_more list at seen = post_bind ts Any (λ b to. MoreParameters list b at to) (expect m.Comma) _ at seen (post_unit (expect m.Comma ts at seen))
      (λ p a1 s1 o. post_bind ts IsParameter (λ b to. MoreParameters list b at to) (parameter limits nodes (length list)) _ a1 s1 (clear_parameter (length list) a1 s1)
      (λ x to s2 r a. clear_more deep_parameter nodes list x a r))

  clear_some_parameters : (at seen : ℕ) → Post HasParameters (some_parameters limits nodes ts at seen)
  unfolding some_parameters
  clear_some_parameters at seen = post_bind ts IsParameter HasParameters (parameter limits nodes 0) _ at seen (clear_parameter 0 at seen)
      (λ x a1 s1 r. post_bind ts (λ all to. MoreParameters (x ∷ []) all a1 to) HasParameters (turns (sees m.Comma) (parameter_more limits nodes) limits.turns (x ∷ [])) _ a1 s1
      (post_turns ts MoreParameters MoreParameters (sees m.Comma) (parameter_more limits nodes) (λ a at q. q) (λ a b c from mid to o q z. q (o z)) (λ a from s e. clear_parameter_more a from s) limits.turns (x ∷ []) a1 s1)
      (λ all a2 s2 q. post_bind ts Any HasParameters (expect m.CloseParen) _ a2 s2 (post_unit (expect m.CloseParen ts a2 s2)) (λ p to s3 o. q (clear_one deep_parameter nodes x r))))

  pub clear_parameters : (at seen : ℕ) → Post HasParameters (parameters limits nodes ts at seen)
  unfolding parameters
  clear_parameters at seen = post_bind ts Any HasParameters (expect m.OpenParen) _ at seen (post_unit (expect m.OpenParen ts at seen)) (λ p mid s1 o. post_next ts HasParameters _ mid s1 (λ x e. by mid x (sees m.CloseParen x)))
    where
      by : (mid : ℕ) (x : Option Lexed) (b : Bool) → PostChoice ts HasParameters mid x (parameters_by limits nodes b)
      by mid x true = λ s. post_bind ts Any HasParameters (expect m.CloseParen) _ mid s (post_unit (expect m.CloseParen ts mid s)) (λ p to s2 o. clear_none deep_parameter nodes)
      by mid x false = λ s. clear_some_parameters mid s

  -- ---- functions, aliases, fields

  abbrev IsNamed : TypeName limits nodes → ℕ → Type 0
  IsNamed x to = Clear nodes (deep_type x.0)

  pub clear_type_name : (at seen : ℕ) → Post IsNamed (type_name limits nodes ts at seen)
  unfolding type_name
  clear_type_name at seen = post_bind ts IsType IsNamed (types limits nodes) _ at seen (clear_types ts limits is_free nodes at seen)
      (λ x mid s1 r. post_bind ts Any IsNamed (name limits) _ mid s1 (post_unit (name limits ts mid s1)) (λ id to s2 o. r))

  abbrev IsFunction : Function → ℕ → Type 0
  IsFunction x to = Clear nodes (deep_function x)

  abbrev IsBody : Block → ℕ → Type 0
  IsBody x to = Clear nodes (deep_block x)

  pub clear_function_rest : (begin : Place) (is_static : Bool) (x : TypeName limits nodes) (at seen : ℕ) → Clear nodes (deep_type x.0) → Post IsFunction (function_rest limits nodes begin is_static x ts at seen)
  unfolding function_rest
  clear_function_rest begin is_static x at seen r = post_bind ts Any IsFunction (generics limits) _ at seen (post_unit (generics limits ts at seen))
      (λ g a1 s1 o. post_bind ts HasParameters IsFunction (parameters limits nodes) _ a1 s1 (clear_parameters a1 s1)
      (λ p a2 s2 pr. post_bind ts Any IsFunction (constraints limits) _ a2 s2 (post_unit (constraints limits ts a2 s2))
      (λ c a3 s3 o. post_bind ts IsBody IsFunction (blocks limits nodes) _ a3 s3 (clear_blocks ts limits is_free nodes a3 s3)
      (λ b to s4 br. let rest = before (first_of (map deep_parameter p)) (deep_block b) in
      clear_before nodes (deep_type x.0) rest r (clear_before nodes (first_of (map deep_parameter p)) (deep_block b) pr br)))))

  clear_static_rest : (begin : Place) (at seen : ℕ) → Post IsFunction (static_rest limits nodes begin ts at seen)
  unfolding static_rest
  clear_static_rest begin at seen = post_bind ts IsNamed IsFunction (type_name limits nodes) _ at seen (clear_type_name at seen) (λ x mid s1 r. clear_function_rest begin true x mid s1 r)

  abbrev IsAlias : Alias → ℕ → Type 0
  IsAlias x to = Clear nodes (deep_type x.kind)

  pub clear_type_def : (begin : Place) (at seen : ℕ) → Post IsAlias (type_def limits nodes begin ts at seen)
  unfolding type_def
  clear_type_def begin at seen = post_bind ts IsNamed IsAlias (type_name limits nodes) _ at seen (clear_type_name at seen)
      (λ x mid s1 r. post_bind ts Any IsAlias (expect m.Semicolon) _ mid s1 (post_unit (expect m.Semicolon ts mid s1)) (λ end to s2 o. r))

  pub clear_type_alias : (begin : Place) (at seen : ℕ) → Post IsAlias (type_alias limits nodes begin ts at seen)
  unfolding type_alias
  clear_type_alias begin at seen = post_bind ts Any IsAlias (name limits) _ at seen (post_unit (name limits ts at seen))
      (λ id a1 s1 o. post_bind ts Any IsAlias (expect m.Equal) _ a1 s1 (post_unit (expect m.Equal ts a1 s1))
      (λ p a2 s2 o. post_bind ts IsType IsAlias (types limits nodes) _ a2 s2 (clear_types ts limits is_free nodes a2 s2)
      (λ x a3 s3 r. post_bind ts Any IsAlias (expect m.Semicolon) _ a3 s3 (post_unit (expect m.Semicolon ts a3 s3)) (λ end to s4 o. r))))

  abbrev IsField : Field → ℕ → Type 0
  IsField x to = Clear nodes (deep_type x.kind)

  clear_field_rest : (x : TypeName limits nodes) (at seen : ℕ) → Clear nodes (deep_type x.0) → Post IsField (field_rest limits nodes x ts at seen)
  unfolding field_rest
  clear_field_rest x at seen r = post_bind ts Any IsField (turns (sees m.OpenBracket) (length_more limits) limits.turns ([], x.1.place)) _ at seen (post_unit (turns (sees m.OpenBracket) (length_more limits) limits.turns ([], x.1.place) ts at seen))
      (λ c a1 s1 o. post_bind ts Any IsField (turns (sees m.Comma) (field_more limits nodes) limits.turns (declared x.1 c.0 c.1 ∷ [])) _ a1 s1 (post_unit (turns (sees m.Comma) (field_more limits nodes) limits.turns (declared x.1 c.0 c.1 ∷ []) ts a1 s1))
      (λ all a2 s2 o. post_bind ts Any IsField (expect m.Semicolon) _ a2 s2 (post_unit (expect m.Semicolon ts a2 s2)) (λ end to s3 o. r)))

  -- ---- members of extensions and of structs in structs

  module _ (fields : Bool) where
    abbrev IsInner : InnerMemberNode → ℕ → Type 0
    IsInner x to = Clear nodes (deep_inner_member_node x)

    clear_inner_typed : (list : Noted) (x : TypeName limits nodes) (at seen : ℕ) → Clear nodes (deep_type x.0) → Post IsInner (inner_typed limits nodes fields list x ts at seen)
    unfolding inner_typed
    clear_inner_typed list x at seen r = post_next ts IsInner _ at seen (λ o e. by o (begins_parameters o) (if fields then goes_on_field limits nodes o else false))
      where
        by : (o : Option Lexed) (a b : Bool) → PostChoice ts IsInner at o (inner_typed_by limits nodes fields list x a b)
        by o true b = post_suits ts limits IsInner at o target.Method list (Leave _) (λ s. post_bind ts IsFunction IsInner (function_rest limits nodes x.0.place false x) _ at s (clear_function_rest x.0.place false x at s r) (λ y to s1 h. h))
        by o false true = post_suits ts limits IsInner at o target.Other list (Leave _) (λ s. post_bind ts IsField IsInner (field_rest limits nodes x) _ at s (clear_field_rest x at s r) (λ y to s1 h. h))
        by o false false = tt

    clear_inner_as : (list : Noted) (at : ℕ) (x : Option Lexed) (v : DeclarationUse) → PostChoice ts IsInner at x (inner_as limits nodes fields list x v)
    clear_inner_as list at x u.TypeDef = post_suits ts limits IsInner at x target.Other list (Take _) (post_take ts IsInner at x _
        (λ s. post_bind ts IsAlias IsInner (type_def limits nodes (place_of x)) _ (at + 1) s (clear_type_def (place_of x) (at + 1) s) (λ y to s1 h. h)))
    clear_inner_as list at x u.TypeAlias = post_suits ts limits IsInner at x target.Other list (Take _) (post_take ts IsInner at x _
        (λ s. post_bind ts IsAlias IsInner (type_alias limits nodes (place_of x)) _ (at + 1) s (clear_type_alias (place_of x) (at + 1) s) (λ y to s1 h. h)))
    clear_inner_as list at x u.Static = post_suits ts limits IsInner at x target.Other list (Take _) (post_take ts IsInner at x _
        (λ s. post_bind ts IsFunction IsInner (static_rest limits nodes (place_of x)) _ (at + 1) s (clear_static_rest (place_of x) (at + 1) s) (λ y to s1 h. h)))
    clear_inner_as list at x u.Typed = λ s. post_bind ts IsNamed IsInner (type_name limits nodes) (inner_typed limits nodes fields list) at s (clear_type_name at s) (λ y mid s1 r. clear_inner_typed list y mid s1 r)
    clear_inner_as list at x u.Struct = tt
    clear_inner_as list at x u.Interface = tt
    clear_inner_as list at x u.Extension = tt
    clear_inner_as list at x u.Associated = tt
    clear_inner_as list at x u.Nothing = tt

    clear_inner_node : (list : Noted) (at seen : ℕ) → Post IsInner (inner_node limits nodes fields list ts at seen)
    unfolding inner_node
    clear_inner_node list at seen = post_next ts IsInner _ at seen (λ x e. clear_inner_as list at x (use_of x))

    abbrev IsInnerMember : InnerMember → ℕ → Type 0
    IsInnerMember x to = Clear nodes (deep_inner_member x)

    clear_inner_one : (at seen : ℕ) → Post IsInnerMember (inner_one limits nodes fields ts at seen)
    unfolding inner_one
    clear_inner_one at seen = post_bind ts Any IsInnerMember (attributes.attributes limits attributes.members) _ at seen (post_unit (attributes.attributes limits attributes.members ts at seen))
        (λ a a1 s1 o. post_bind ts Any IsInnerMember access _ a1 s1 (post_unit (access ts a1 s1))
        (λ v a2 s2 o. post_bind ts IsInner IsInnerMember (inner_node limits nodes fields a.1) _ a2 s2 (clear_inner_node a.1 a2 s2) (λ x to s3 r. r)))

    abbrev MoreInner : List InnerMember → List InnerMember → ℕ → ℕ → Type 0
    MoreInner a b from to = All deep_inner_member nodes a → All deep_inner_member nodes b

    clear_inner_more : (list : List InnerMember) (at seen : ℕ) → Post (λ b to. MoreInner list b at to) (inner_more limits nodes fields list ts at seen)
    unfolding inner_more
    clear_inner_more list at seen = post_bind ts IsInnerMember (λ b to. MoreInner list b at to) (next _) _ at seen
        (post_next ts IsInnerMember _ at seen (λ x e. post_fits ts IsInnerMember at x (fits_in limits (length list) limits.items) code.TooLong (inner_choice limits nodes fields x (inner_begins limits nodes fields x)) (λ f. by x (inner_begins limits nodes fields x))))
        (λ y to s1 r a. clear_more deep_inner_member nodes list y a r)
      where
        by : (x : Option Lexed) (b : Bool) → PostChoice ts IsInnerMember at x (inner_choice limits nodes fields x b)
        by x true = λ s. clear_inner_one at s
        by x false = tt

    pub clear_inner_members : (at seen : ℕ) → Post (λ (x : List InnerMember) (to : ℕ). All deep_inner_member nodes x) (inner_members limits nodes fields ts at seen)
    unfolding inner_members
    clear_inner_members at seen = post_bare (post_turns ts MoreInner MoreInner (in_braces limits nodes) (inner_more limits nodes fields) (λ a at q. q) (λ a b c from mid to o q z. q (o z)) (λ a from s e. clear_inner_more a from s) limits.turns [] at seen)
      where
        post_bare : Post (λ c to. MoreInner [] c at to) (turns (in_braces limits nodes) (inner_more limits nodes fields) limits.turns [] ts at seen) →
            Post (λ (x : List InnerMember) (to : ℕ). All deep_inner_member nodes x) (turns (in_braces limits nodes) (inner_more limits nodes fields) limits.turns [] ts at seen)
        post_bare h = post_weaken (λ c to. MoreInner [] c at to) (λ x to. All deep_inner_member nodes x) (λ x to q. q (clear_none deep_inner_member nodes)) (turns (in_braces limits nodes) (inner_more limits nodes fields) limits.turns [] ts at seen) h

  abbrev HasInner : List InnerMember → ℕ → Type 0
  HasInner x to = All deep_inner_member nodes x

  -- ---- structs

  abbrev IsInnerStruct : InnerStruct → ℕ → Type 0
  IsInnerStruct x to = All deep_inner_member nodes x.members

  clear_inner_struct : (begin : Place) (at seen : ℕ) → Post IsInnerStruct (inner_struct_rest limits nodes begin ts at seen)
  unfolding inner_struct_rest
  clear_inner_struct begin at seen = post_bind ts Any IsInnerStruct (struct_head limits nodes) _ at seen (post_unit (struct_head limits nodes ts at seen))
      (λ h a1 s1 o. post_bind ts HasInner IsInnerStruct (inner_members limits nodes true) _ a1 s1 (clear_inner_members true a1 s1)
      (λ list a2 s2 r. post_bind ts Any IsInnerStruct closed _ a2 s2 (post_unit (closed ts a2 s2)) (λ end to s3 o. r)))

  abbrev IsNode : MemberNode → ℕ → Type 0
  IsNode x to = Clear nodes (deep_member_node x)

  clear_member_typed : (list : Noted) (x : TypeName limits nodes) (at seen : ℕ) → Clear nodes (deep_type x.0) → Post IsNode (member_typed limits nodes list x ts at seen)
  unfolding member_typed
  clear_member_typed list x at seen r = post_next ts IsNode _ at seen (λ o e. by o (begins_parameters o) (goes_on_field limits nodes o))
    where
      by : (o : Option Lexed) (a b : Bool) → PostChoice ts IsNode at o (member_typed_by limits nodes list x a b)
      by o true b = post_suits ts limits IsNode at o target.Method list (Leave _) (λ s. post_bind ts IsFunction IsNode (function_rest limits nodes x.0.place false x) _ at s (clear_function_rest x.0.place false x at s r) (λ y to s1 h. h))
      by o false true = post_suits ts limits IsNode at o target.Other list (Leave _) (λ s. post_bind ts IsField IsNode (field_rest limits nodes x) _ at s (clear_field_rest x at s r) (λ y to s1 h. h))
      by o false false = tt

  clear_member_as : (list : Noted) (at : ℕ) (x : Option Lexed) (v : DeclarationUse) → PostChoice ts IsNode at x (member_as limits nodes list x v)
  clear_member_as list at x u.Struct = post_suits ts limits IsNode at x target.Other list (Take _) (post_take ts IsNode at x _
      (λ s. post_bind ts IsInnerStruct IsNode (inner_struct_rest limits nodes (place_of x)) _ (at + 1) s (clear_inner_struct (place_of x) (at + 1) s) (λ y to s1 h. h)))
  clear_member_as list at x u.TypeDef = post_suits ts limits IsNode at x target.Other list (Take _) (post_take ts IsNode at x _
      (λ s. post_bind ts IsAlias IsNode (type_def limits nodes (place_of x)) _ (at + 1) s (clear_type_def (place_of x) (at + 1) s) (λ y to s1 h. h)))
  clear_member_as list at x u.TypeAlias = post_suits ts limits IsNode at x target.Other list (Take _) (post_take ts IsNode at x _
      (λ s. post_bind ts IsAlias IsNode (type_alias limits nodes (place_of x)) _ (at + 1) s (clear_type_alias (place_of x) (at + 1) s) (λ y to s1 h. h)))
  clear_member_as list at x u.Static = post_suits ts limits IsNode at x target.Other list (Take _) (post_take ts IsNode at x _
      (λ s. post_bind ts IsFunction IsNode (static_rest limits nodes (place_of x)) _ (at + 1) s (clear_static_rest (place_of x) (at + 1) s) (λ y to s1 h. h)))
  clear_member_as list at x u.Typed = λ s. post_bind ts IsNamed IsNode (type_name limits nodes) (member_typed limits nodes list) at s (clear_type_name at s) (λ y mid s1 r. clear_member_typed list y mid s1 r)
  clear_member_as list at x u.Interface = tt
  clear_member_as list at x u.Extension = tt
  clear_member_as list at x u.Associated = tt
  clear_member_as list at x u.Nothing = tt

  clear_member_node : (list : Noted) (at seen : ℕ) → Post IsNode (member_node limits nodes list ts at seen)
  unfolding member_node
  clear_member_node list at seen = post_next ts IsNode _ at seen (λ x e. clear_member_as list at x (use_of x))

  abbrev IsMember : Member → ℕ → Type 0
  IsMember x to = Clear nodes (deep_member x)

  clear_member_one : (at seen : ℕ) → Post IsMember (member_one limits nodes ts at seen)
  unfolding member_one
  clear_member_one at seen = post_bind ts Any IsMember (attributes.attributes limits attributes.members) _ at seen (post_unit (attributes.attributes limits attributes.members ts at seen))
      (λ a a1 s1 o. post_bind ts Any IsMember access _ a1 s1 (post_unit (access ts a1 s1))
      (λ v a2 s2 o. post_bind ts IsNode IsMember (member_node limits nodes a.1) _ a2 s2 (clear_member_node a.1 a2 s2) (λ x to s3 r. r)))

  abbrev MoreMembers : List Member → List Member → ℕ → ℕ → Type 0
  MoreMembers a b from to = All deep_member nodes a → All deep_member nodes b

  clear_member_more : (list : List Member) (at seen : ℕ) → Post (λ b to. MoreMembers list b at to) (member_more limits nodes list ts at seen)
  unfolding member_more
  clear_member_more list at seen = post_bind ts IsMember (λ b to. MoreMembers list b at to) (next _) _ at seen
      (post_next ts IsMember _ at seen (λ x e. post_fits ts IsMember at x (fits_in limits (length list) limits.items) code.TooLong (member_choice limits nodes x (member_begins limits nodes x)) (λ f. by x (member_begins limits nodes x))))
      (λ y to s1 r a. clear_more deep_member nodes list y a r)
    where
      by : (x : Option Lexed) (b : Bool) → PostChoice ts IsMember at x (member_choice limits nodes x b)
      by x true = λ s. clear_member_one at s
      by x false = tt

  abbrev IsStruct : Struct → ℕ → Type 0
  IsStruct x to = All deep_member nodes x.members

  pub clear_struct_rest : (begin : Place) (at seen : ℕ) → Post IsStruct (struct_rest limits nodes begin ts at seen)
  unfolding struct_rest
  clear_struct_rest begin at seen = post_bind ts Any IsStruct (struct_head limits nodes) _ at seen (post_unit (struct_head limits nodes ts at seen))
      (λ h a1 s1 o. post_bind ts (λ b to. MoreMembers [] b a1 to) IsStruct (turns (in_braces limits nodes) (member_more limits nodes) limits.turns []) _ a1 s1
      (post_turns ts MoreMembers MoreMembers (in_braces limits nodes) (member_more limits nodes) (λ a at q. q) (λ a b c from mid to o q z. q (o z)) (λ a from s e. clear_member_more a from s) limits.turns [] a1 s1)
      (λ list a2 s2 r. post_bind ts Any IsStruct closed _ a2 s2 (post_unit (closed ts a2 s2)) (λ end to s3 o. r (clear_none deep_member nodes))))
