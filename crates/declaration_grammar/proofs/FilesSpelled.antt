-- Interfaces, extensions, items and files: what the descent reads is spelled, where it is so of expressions and of operands.
use Rattle.std.proofs.Common.{Bool, true, false, ◌≡◌, ℕ, ◌+◌, List, [], ◌∷◌, ◌++◌, drop, length, Option, Some, None, refl, sym, ◌∙◌, ap, subst, ◌≤◌, arith, length-append}
use Rattle.slang_names.specs.declared.places.Place.{Place}
use Rattle.slang_names.specs.declared.places.Access.{Access}
use Rattle.slang_names.specs.declared.codes.ModuleCode.TheVariants as code
use Rattle.slang_tree.specs.declared.types.Identifier.{Identifier}
use Rattle.slang_tree.specs.declared.statements.Attribute.{Attribute}
use Rattle.slang_tree.specs.declared.declarations.Requirement.{Requirement}
use Rattle.slang_tree.specs.declared.declarations.RequirementNode.TheVariants as req
use Rattle.slang_tree.specs.declared.file.ModuleLine.{ModuleLine}
use Rattle.slang_tree.specs.declared.file.Item.{Item}
use Rattle.slang_tree.specs.declared.file.ItemNode.{ItemNode}
use Rattle.slang_tree.specs.declared.file.ItemNode.TheVariants as d
use Rattle.slang_tree.specs.declared.file.File.{File}
use Rattle.slang_tokens.specs.declared.tokens.Kind.{Kind}
use Rattle.slang_tokens.specs.declared.tokens.Kind.TheVariants as k
use Rattle.slang_tokens.specs.declared.tokens.Mark.TheVariants as m
use Rattle.slang_tokens.specs.declared.tokens.Word.{Word}
use Rattle.slang_tokens.specs.declared.tokens.Word.TheVariants as w
use Rattle.slang_reading.specs.Lexed.{Lexed}
use Rattle.slang_reading.specs.Reading.{Parser, Choice, Leave, Take, Refuse, first, pure, place_of, next, turns, ◌>>=◌}
use Rattle.slang_reading.specs.Kinds.{sees, sees_word, span}
use Rattle.slang_reading.proofs.Exact.{Post, PostChoice, post_bind, post_next, post_fits, post_turns, post_weaken}
use Rattle.slang_grammar.specs.Standing.{Stands, NameStands}
use Rattle.slang_grammar.specs.Types.{TypeAt}
use Rattle.slang_grammar.specs.Expressions.{ExprAt, PostfixAt}
use Rattle.slang_grammar.specs.Descent.{Limits, fits_in, expect, identifier, name, named_by, named}
use Rattle.slang_grammar.specs.ExpressionsDescent.{expressions}
use Rattle.slang_grammar.proofs.Shared.{stands, name_stands, IsMarkAt, post_expect, IsNameAt, post_name}
use Rattle.statement_grammar.specs.declared.attributes.Target.TheVariants as target
use Rattle.statement_grammar.specs.Attributes.{AttributesAt, begin_of}
use Rattle.statement_grammar.specs.Attributes as att
use Rattle.statement_grammar.specs.AttributesDescent as attributes
use Rattle.statement_grammar.specs.AttributesDescent.{Given, Noted}
use Rattle.statement_grammar.specs.StatementsDescent.{operands}
use Rattle.statement_grammar.proofs.Shared.{mark_stands, word_stands, post_take, post_until, post_short}
use Rattle.statement_grammar.proofs.AttributesSpelled.{post_attributes}
use Rattle.declaration_grammar.specs.declared.tables.DeclarationUse.{DeclarationUse}
use Rattle.declaration_grammar.specs.declared.tables.DeclarationUse.TheVariants as u
use Rattle.declaration_grammar.specs.Tables.{declaration_use}
use Rattle.declaration_grammar.specs.Parts.{access_by, access_at, AccessAt, NamesAt, GenericsAt, HeadsAt, ConstraintsAt, ParametersAt, ClosedAt}
use Rattle.declaration_grammar.specs.Parts as parts
use Rattle.declaration_grammar.specs.PartsDescent.{expect_word, accessed, access, generics, heads, constraints, parameters, closed}
use Rattle.declaration_grammar.specs.Declarations as t
use Rattle.declaration_grammar.specs.Declarations.{ResultAt, FunctionAt, AliasAt, BoundAt, requirement_of, RequirementAt, RequirementsAt, InterfaceAt, ExtendedAt, ExtensionAt, constant_of, ConstantAt, global_of, GlobalAt, StructAt, ItemNodeAt, is_private, item_of, ItemsAt, line_of, LineAt, ModuleAt, ImportsAt, FileAt}
use Rattle.declaration_grammar.specs.DeclarationsDescent.{use_of, begins_parameters, TypeName, type_name, function_rest, type_def, type_alias, in_braces, inner_members, struct_rest, bound_by, associated, required, associated_as, requirement_as, requirement, requirement_begins, requirement_choice, requirement_more, interface_rest, extended_name, extended_more, extended_rest, extended_by, extended, extension_rest, constant_rest, item_typed_by, item_typed, item_as, item_node, item_accessed, item_access, item_more, line_rest, module_by, module_line, import_more, is_token, files}
use Rattle.declaration_grammar.proofs.Uses.{DeclarationUseIs, declaration_use_is}
use Rattle.declaration_grammar.proofs.PartsSpelled.{IsWordAt, post_expect_word, post_access, post_generics, post_heads, post_constraints, post_parameters, post_closed}
use Rattle.declaration_grammar.proofs.MembersSpelled.{post_suits, closed_begins, IsTypeName, post_type_name, IsFunction, post_function, post_type_def, post_type_alias, InnerEnds, post_inner_members, post_struct_rest}

-- attributes only grow
grow : {ts : List Lexed} {xs ys : List Attribute} {from to : ℕ} → AttributesAt ts xs ys from to → length xs ≤ length ys
grow (att.end q) = omega arith
grow (att.more {x = x} {list = xs} r s) = let h = grow s in omega (arith, h, length-append xs (x ∷ []))

none_ends : {ts : List Lexed} {ys : List Attribute} {from to : ℕ} → AttributesAt ts [] ys from to → ys ≡ [] → from ≡ to
none_ends (att.end q) e = refl
none_ends {ys = ys} (att.more {x = x} r s) e = let h = grow s in let z : length ys ≡ 0 = ap length e in absurd (omega (arith, h, z))

-- a name that is chosen
post_named_choice : (ts : List Lexed) (limits : Limits) (at : ℕ) (x : Option Lexed) → first (drop at ts) ≡ x → PostChoice ts (IsNameAt ts at) at x (named limits x)
post_named_choice ts limits at x e = go x e
  where
    by : (tok : Lexed) → first (drop at ts) ≡ Some tok → (kind : Kind) → tok.kind ≡ kind → PostChoice ts (IsNameAt ts at) at (Some tok) (named_by limits tok kind)
    by tok e k.Name d = post_short ts limits (IsNameAt ts at) at tok (Take (pure (identifier tok))) (λ s. (name_stands ts at tok e d, refl))
    by tok e (k.Word word) d = tt
    by tok e (k.Number v) d = tt
    by tok e k.String d = tt
    by tok e (k.Mark mark) d = tt

    go : (x : Option Lexed) → first (drop at ts) ≡ x → PostChoice ts (IsNameAt ts at) at x (named limits x)
    go (Some tok) e = by tok e tok.kind refl
    go None e = tt

-- the word of an access
access_stands : (ts : List Lexed) (at : ℕ) (tok : Lexed) (a : Access) → first (drop at ts) ≡ Some tok → access_at (Some tok) ≡ Some a → AccessAt ts (Some a) at (at + 1)
access_stands ts at tok a e q = by tok.kind refl q
  where
    by : (kind : Kind) → tok.kind ≡ kind → access_by kind ≡ Some a → AccessAt ts (Some a) at (at + 1)
    by (k.Word word) d r = parts.access (stands ts at tok (k.Word word) e d) r
    by k.Name d r = cc
    by (k.Number v) d r = cc
    by k.String d r = cc
    by (k.Mark mark) d r = cc

module _ (ts : List Lexed) (limits : Limits) (nodes : ℕ) (he : (d at seen : ℕ) → Post (λ x to. ExprAt ts x.0 at to) (expressions limits d ts at seen))
    (ho : (d at seen : ℕ) → Post (λ x to. PostfixAt ts x.0 at to) (operands limits d ts at seen)) where
  abbrev IsTyped : ℕ → TypeName limits nodes → ℕ → Type 0
  IsTyped = IsTypeName ts limits nodes he ho

  -- ---- interfaces

  post_bound : (at seen : ℕ) → Post (λ b to. BoundAt ts b at to) (next (λ x. bound_by limits nodes (sees m.Colon x)) ts at seen)
  post_bound at seen = post_next ts (λ b to. BoundAt ts b at to) _ at seen (λ x e. by x e (sees m.Colon x) refl)
    where
      by : (x : Option Lexed) → first (drop at ts) ≡ x → (b : Bool) → sees m.Colon x ≡ b → PostChoice ts (λ b to. BoundAt ts b at to) at x (bound_by limits nodes b)
      by x e true q = post_take ts (λ b to. BoundAt ts b at to) at x _ (λ s. post_bind ts (IsNameAt ts (at + 1)) (λ b to. BoundAt ts b at to) (name limits) _ (at + 1) s (post_name ts limits (at + 1) s)
          (λ id to s1 j. subst (λ n. BoundAt ts (Some id) at n) (sym j.1) (t.bound (mark_stands ts at x m.Colon e q) j.0)))
      by x e false q = λ s. t.no_bound (record { is = ap (sees m.Colon) e ∙ q })

  post_associated : (begin : Place) (at seen : ℕ) → Stands ts at (k.Word w.AssociatedType) begin → Post (λ y to. RequirementAt ts y at to) (associated limits nodes begin ts (at + 1) seen)
  unfolding associated
  post_associated begin at seen o = post_bind ts (IsNameAt ts (at + 1)) (λ y to. RequirementAt ts y at to) (name limits) _ (at + 1) seen (post_name ts limits (at + 1) seen)
      (λ id a1 s1 j. post_bind ts (λ b to. BoundAt ts b a1 to) (λ y to. RequirementAt ts y at to) (next _) _ a1 s1 (post_bound a1 s1)
      (λ b a2 s2 r. post_bind ts (IsMarkAt ts m.Semicolon a2) (λ y to. RequirementAt ts y at to) (expect m.Semicolon) _ a2 s2 (post_expect ts m.Semicolon a2 s2)
      (λ end to s3 z. subst (λ n. RequirementAt ts (requirement_of (span begin end) (req.Associated id b)) at n) (sym z.1) (t.associated o j.0 (subst (λ n. BoundAt ts b n a2) j.1 r) z.0))))

  post_required : (list : List Attribute) (is_static : Bool) (begin : Place) (x : TypeName limits nodes) (from mid next_ seen : ℕ) → AttributesAt ts [] list from mid → ResultAt ts is_static x.0 begin mid next_ →
      NameStands ts next_ x.1 → Post (λ y to. RequirementAt ts y from to) (required limits nodes list is_static begin x ts (next_ + 1) seen)
  unfolding required
  post_required list is_static begin x from mid next_ seen a r j = post_bind ts (λ p to. ParametersAt ts p (next_ + 1) to) (λ y to. RequirementAt ts y from to) (parameters limits nodes) _ (next_ + 1) seen (post_parameters ts limits nodes (next_ + 1) seen)
      (λ p a1 s1 pr. post_bind ts (IsMarkAt ts m.Semicolon a1) (λ y to. RequirementAt ts y from to) (expect m.Semicolon) _ a1 s1 (post_expect ts m.Semicolon a1 s1)
      (λ end to s2 z. subst (λ n. RequirementAt ts (requirement_of (span (begin_of list begin) end) (req.Function list is_static x.0 x.1 p)) from n) (sym z.1) (t.function a r j pr z.0)))

  post_requirement_as : (g : Given) (from at : ℕ) → AttributesAt ts [] g.0 from at → (tok : Lexed) → first (drop at ts) ≡ Some tok → (v : DeclarationUse) → DeclarationUseIs tok.kind v →
      PostChoice ts (λ y to. RequirementAt ts y from to) at (Some tok) (requirement_as limits nodes g (Some tok) v)
  unfolding IsTypeName
  post_requirement_as g from at a tok e u.Associated h = by g.0 a
    where
      by : (list : List Attribute) → AttributesAt ts [] list from at → PostChoice ts (λ y to. RequirementAt ts y from to) at (Some tok) (associated_as limits nodes list tok.place)
      by [] b = subst (λ n. (s : ℕ) → Post (λ y to. RequirementAt ts y n to) (associated limits nodes tok.place ts (at + 1) s)) (sym (none_ends b refl)) (λ s. post_associated tok.place at s (stands ts at tok (k.Word w.AssociatedType) e h))
      by (x ∷ xs) b = tt
  post_requirement_as g from at a tok e u.Static h = post_suits ts limits (λ y to. RequirementAt ts y from to) at (Some tok) target.Other g.1 _
      (λ s1. post_bind ts (IsTyped (at + 1)) (λ y to. RequirementAt ts y from to) (type_name limits nodes) _ (at + 1) s1 (post_type_name ts limits nodes he ho (at + 1) s1)
      (λ x mid s2 r. subst (λ n. Post (λ y to. RequirementAt ts y from to) (required limits nodes g.0 true tok.place x ts n s2)) (sym r.3)
      (post_required g.0 true tok.place x from at r.0 s2 a (t.static (stands ts at tok (k.Word w.Static) e h) r.1) r.2)))
  post_requirement_as g from at a tok e u.Typed h = post_suits ts limits (λ y to. RequirementAt ts y from to) at (Some tok) target.Method g.1 _
      (λ s1. post_bind ts (IsTyped at) (λ y to. RequirementAt ts y from to) (type_name limits nodes) _ at s1 (post_type_name ts limits nodes he ho at s1)
      (λ x mid s2 r. subst (λ n. Post (λ y to. RequirementAt ts y from to) (required limits nodes g.0 false x.0.place x ts n s2)) (sym r.3)
      (post_required g.0 false x.0.place x from at r.0 s2 a (t.plain r.1) r.2)))
  post_requirement_as g from at a tok e u.Struct h = tt
  post_requirement_as g from at a tok e u.Interface h = tt
  post_requirement_as g from at a tok e u.Extension h = tt
  post_requirement_as g from at a tok e u.TypeDef h = tt
  post_requirement_as g from at a tok e u.TypeAlias h = tt
  post_requirement_as g from at a tok e u.Nothing h = tt

  abbrev IsRequirement : ℕ → Requirement → ℕ → Type 0
  IsRequirement at y to = RequirementAt ts y at to

  post_requirement : (at seen : ℕ) → Post (IsRequirement at) (requirement limits nodes ts at seen)
  unfolding requirement
  post_requirement at seen = post_bind ts (λ (a : Given) to. AttributesAt ts [] a.0 at to) (IsRequirement at) (attributes.attributes limits attributes.members) _ at seen (post_attributes ts limits attributes.members at seen)
      (λ g mid s1 a. post_next ts (IsRequirement at) (λ x. requirement_as limits nodes g x (use_of x)) mid s1 (λ x e. go g mid a x e))
    where
      go : (g : Given) (mid : ℕ) → AttributesAt ts [] g.0 at mid → (x : Option Lexed) → first (drop mid ts) ≡ x → PostChoice ts (IsRequirement at) mid x (requirement_as limits nodes g x (use_of x))
      go g mid a (Some tok) e = post_requirement_as g at mid a tok e (declaration_use tok.kind) (declaration_use_is tok.kind)
      go g mid a None e = tt

  IsRequirementMore : List Requirement → List Requirement → ℕ → ℕ → Type 0
  IsRequirementMore a b from to = (y : Requirement) × RequirementAt ts y from to × (b ≡ a ++ y ∷ [])

  post_requirement_more : (a : List Requirement) (at seen : ℕ) → Post (λ b to. IsRequirementMore a b at to) (requirement_more limits nodes a ts at seen)
  unfolding requirement_more IsRequirementMore
  post_requirement_more a at seen = post_bind ts (IsRequirement at) (λ b to. IsRequirementMore a b at to) (next _) _ at seen
      (post_next ts (IsRequirement at) _ at seen
      (λ x e. post_fits ts (IsRequirement at) at x (fits_in limits (length a) limits.items) code.TooLong (requirement_choice limits nodes x (requirement_begins limits nodes x)) (λ f. by x (requirement_begins limits nodes x))))
      (λ y to s1 r. let q : IsRequirementMore a (a ++ y ∷ []) at to = (y, r, refl) in q)
    where
      by : (x : Option Lexed) (b : Bool) → PostChoice ts (IsRequirement at) at x (requirement_choice limits nodes x b)
      by x true = λ s1. post_requirement at s1
      by x false = tt

  abbrev RequirementEnds : List Requirement → List Requirement → ℕ → ℕ → Type 0
  RequirementEnds a b from to = (p : Place) → Stands ts to (k.Mark m.CloseBrace) p → RequirementsAt ts a b from to

  post_interface : (begin : Place) (at seen : ℕ) → Stands ts at (k.Word w.Interface) begin → Post (λ y to. InterfaceAt ts y at to) (interface_rest limits nodes begin ts (at + 1) seen)
  unfolding interface_rest IsRequirementMore
  post_interface begin at seen o = post_bind ts (IsNameAt ts (at + 1)) (λ y to. InterfaceAt ts y at to) (name limits) _ (at + 1) seen (post_name ts limits (at + 1) seen)
      (λ id a1 s1 j. post_bind ts (IsMarkAt ts m.OpenBrace a1) (λ y to. InterfaceAt ts y at to) (expect m.OpenBrace) _ a1 s1 (post_expect ts m.OpenBrace a1 s1)
      (λ p a2 s2 c. post_bind ts (λ all to. RequirementEnds [] all a2 to) (λ y to. InterfaceAt ts y at to) (turns (in_braces limits nodes) (requirement_more limits nodes) limits.turns []) _ a2 s2
      (post_turns ts RequirementEnds IsRequirementMore (in_braces limits nodes) (requirement_more limits nodes) (λ list at p z. t.end z)
      (λ a b c from mid to i r p z. t.more i.1 (subst (λ list. RequirementsAt ts list c mid to) i.2 (r p z))) (λ a from s3 e. post_requirement_more a from s3) limits.turns [] a2 s2)
      (λ all a3 s3 r. post_bind ts (λ p to. ClosedAt ts p a3 to) (λ y to. InterfaceAt ts y at to) closed _ a3 s3 (post_closed ts a3 s3)
      (λ end to s4 z. let b = closed_begins z in
      t.interface o j.0 (subst (λ n. Stands ts n (k.Mark m.OpenBrace) p) j.1 c.0) (subst (λ n. RequirementsAt ts [] all n a3) (c.1 ∙ ap (λ n. n + 1) j.1) (r b.0 b.1)) z))))

  -- ---- extensions

  post_extended_name : (count at seen : ℕ) → Post (IsNameAt ts at) (extended_name limits nodes count ts at seen)
  unfolding extended_name
  post_extended_name count at seen = post_next ts (IsNameAt ts at) _ at seen (λ x e. post_fits ts (IsNameAt ts at) at x (fits_in limits count limits.items) code.TooLong (named limits x) (λ f. post_named_choice ts limits at x e))

  -- names so far go on to be that list, with a place for the last one
  IsExtendedMore : List Identifier → List Identifier → ℕ → ℕ → Type 0
  IsExtendedMore a b from to = (p : Place) × (id : Identifier) × Stands ts from (k.Mark m.Comma) p × NameStands ts (from + 1) id × (b ≡ a ++ id ∷ []) × (to ≡ from + 1 + 1)

  post_extended_more : (a : List Identifier) (at seen : ℕ) → Post (λ b to. IsExtendedMore a b at to) (extended_more limits nodes a ts at seen)
  unfolding extended_more IsExtendedMore
  post_extended_more a at seen = post_bind ts (IsMarkAt ts m.Comma at) (λ b to. IsExtendedMore a b at to) (expect m.Comma) _ at seen (post_expect ts m.Comma at seen)
      (λ p a1 s1 o. post_bind ts (IsNameAt ts a1) (λ b to. IsExtendedMore a b at to) (extended_name limits nodes (length a)) _ a1 s1 (post_extended_name (length a) a1 s1)
      (λ id to s2 j. let q : IsExtendedMore a (a ++ id ∷ []) at to = (p, id, o.0, subst (λ n. NameStands ts n id) o.1 j.0, refl, j.1 ∙ ap (λ n. n + 1) o.1) in q))

  -- whatever the place of the name before
  abbrev NamesEnd : List Identifier → List Identifier → ℕ → ℕ → Type 0
  NamesEnd a b from to = (last : Place) → (end : Place) × NamesAt ts a b last end from to

  post_extended : (at seen : ℕ) → Post (λ list to. ExtendedAt ts list at to) (extended limits nodes ts at seen)
  unfolding extended extended_rest IsExtendedMore
  post_extended at seen = post_next ts (λ list to. ExtendedAt ts list at to) _ at seen (λ x e. by x e (sees m.Less x) refl)
    where
      rest : (p : Place) (s : ℕ) → Stands ts at (k.Mark m.Less) p → Post (λ list to. ExtendedAt ts list at to) (extended_rest limits nodes ts (at + 1) s)
      rest p s o = post_bind ts (IsNameAt ts (at + 1)) (λ list to. ExtendedAt ts list at to) (extended_name limits nodes 0) _ (at + 1) s (post_extended_name 0 (at + 1) s)
          (λ id a1 s1 j. post_bind ts (λ all to. NamesEnd (id ∷ []) all a1 to) (λ list to. ExtendedAt ts list at to) (turns (sees m.Comma) (extended_more limits nodes) limits.turns (id ∷ [])) _ a1 s1
          (post_until ts NamesEnd IsExtendedMore (sees m.Comma) (extended_more limits nodes) (λ a at q last. (last, parts.end (record { is = q })))
          (λ a b c from mid to i r last. let z = r i.1.place in (z.0, parts.more i.2 i.3 (subst (λ n. NamesAt ts (a ++ i.1 ∷ []) c i.1.place z.0 n to) i.5 (subst (λ list. NamesAt ts list c i.1.place z.0 mid to) i.4 z.1))))
          post_extended_more limits.turns (id ∷ []) a1 s1)
          (λ all a2 s2 r. post_bind ts (IsMarkAt ts m.Greater a2) (λ list to. ExtendedAt ts list at to) (expect m.Greater) _ a2 s2 (post_expect ts m.Greater a2 s2)
          (λ q to s3 z. let v = r id.place in subst (λ n. ExtendedAt ts all at n) (sym z.1) (t.arguments o j.0 (subst (λ n. NamesAt ts (id ∷ []) all id.place v.0 n a2) j.1 v.1) z.0))))

      by : (x : Option Lexed) → first (drop at ts) ≡ x → (b : Bool) → sees m.Less x ≡ b → PostChoice ts (λ list to. ExtendedAt ts list at to) at x (extended_by limits nodes b)
      by x e true q = post_take ts (λ list to. ExtendedAt ts list at to) at x (extended_rest limits nodes) (λ s. rest (place_of x) s (mark_stands ts at x m.Less e q))
      by x e false q = λ s. t.no_arguments (record { is = ap (sees m.Less) e ∙ q })

  post_extension : (begin : Place) (at seen : ℕ) → Stands ts at (k.Word w.Extension) begin → Post (λ y to. ExtensionAt ts y at to) (extension_rest limits nodes begin ts (at + 1) seen)
  unfolding extension_rest
  post_extension begin at seen o = post_bind ts (λ g to. GenericsAt ts g (at + 1) to) (λ y to. ExtensionAt ts y at to) (generics limits) _ (at + 1) seen (post_generics ts limits (at + 1) seen)
      (λ g a1 s1 gr. post_bind ts (IsNameAt ts a1) (λ y to. ExtensionAt ts y at to) (name limits) _ a1 s1 (post_name ts limits a1 s1)
      (λ id a2 s2 j. post_bind ts (λ v to. ExtendedAt ts v a2 to) (λ y to. ExtensionAt ts y at to) (extended limits nodes) _ a2 s2 (post_extended a2 s2)
      (λ v a3 s3 vr. post_bind ts (λ h to. HeadsAt ts h a3 to) (λ y to. ExtensionAt ts y at to) (heads limits) _ a3 s3 (post_heads ts limits a3 s3)
      (λ h a4 s4 hr. post_bind ts (λ c to. ConstraintsAt ts [] c a4 to) (λ y to. ExtensionAt ts y at to) (constraints limits) _ a4 s4 (post_constraints ts limits a4 s4)
      (λ c a5 s5 cr. post_bind ts (IsMarkAt ts m.OpenBrace a5) (λ y to. ExtensionAt ts y at to) (expect m.OpenBrace) _ a5 s5 (post_expect ts m.OpenBrace a5 s5)
      (λ p a6 s6 z. post_bind ts (λ all to. InnerEnds ts limits nodes he ho false [] all a6 to) (λ y to. ExtensionAt ts y at to) (inner_members limits nodes false) _ a6 s6 (post_inner_members ts limits nodes he ho false a6 s6)
      (λ all a7 s7 r. post_bind ts (λ p to. ClosedAt ts p a7 to) (λ y to. ExtensionAt ts y at to) closed _ a7 s7 (post_closed ts a7 s7)
      (λ end to s8 d. let b = closed_begins d in
      t.extension o gr j.0 (subst (λ n. ExtendedAt ts v n a3) j.1 vr) hr cr z.0 (subst (λ n. t.InnerMembersAt ts false [] all n a7) z.1 (r b.0 b.1)) d))))))))

  -- ---- items

  post_constant : (begin : Place) (at seen : ℕ) → Stands ts at (k.Word w.Static) begin → Post (λ y to. ConstantAt ts y at to) (constant_rest limits nodes begin ts (at + 1) seen)
  unfolding constant_rest IsTypeName
  post_constant begin at seen o = post_bind ts (IsWordAt ts w.Const (at + 1)) (λ y to. ConstantAt ts y at to) (expect_word w.Const) _ (at + 1) seen (post_expect_word ts w.Const (at + 1) seen)
      (λ p a1 s1 c. post_bind ts (IsTyped a1) (λ y to. ConstantAt ts y at to) (type_name limits nodes) _ a1 s1 (post_type_name ts limits nodes he ho a1 s1)
      (λ x a2 s2 r. post_bind ts (IsMarkAt ts m.Equal a2) (λ y to. ConstantAt ts y at to) (expect m.Equal) _ a2 s2 (post_expect ts m.Equal a2 s2)
      (λ q a3 s3 d. post_bind ts (λ v to. ExprAt ts v.0 a3 to) (λ y to. ConstantAt ts y at to) (expressions limits nodes) _ a3 s3 (he nodes a3 s3)
      (λ v a4 s4 z. post_bind ts (IsMarkAt ts m.Semicolon a4) (λ y to. ConstantAt ts y at to) (expect m.Semicolon) _ a4 s4 (post_expect ts m.Semicolon a4 s4)
      (λ end to s5 f. subst (λ n. ConstantAt ts (constant_of (span begin end) x.0 x.1 v.0) at n) (sym f.1)
      (t.constant o c.0 (subst (λ n. TypeAt ts x.0 n r.0) c.1 r.1) r.2 (subst (λ n. Stands ts n (k.Mark m.Equal) q) r.3 d.0) (subst (λ n. ExprAt ts v.0 n a4) (d.1 ∙ ap (λ n. n + 1) r.3) z) f.0))))))

  abbrev IsItemNode : ℕ → ItemNode → ℕ → Type 0
  IsItemNode at y to = ItemNodeAt ts y at to

  post_item_typed : (list : Noted) (x : TypeName limits nodes) (at mid seen : ℕ) → IsTyped at x mid → Post (IsItemNode at) (item_typed limits nodes list x ts mid seen)
  unfolding item_typed IsTypeName
  post_item_typed list x at mid seen h = post_next ts (IsItemNode at) _ mid seen (λ o e. by o e (begins_parameters o) (sees m.Semicolon o) refl)
    where
      by : (o : Option Lexed) → first (drop mid ts) ≡ o → (b c : Bool) → sees m.Semicolon o ≡ c → PostChoice ts (IsItemNode at) mid o (item_typed_by limits nodes list x o b c)
      by o e true c q = post_suits ts limits (IsItemNode at) mid o target.Function list _
          (λ s1. post_bind ts (IsFunction ts limits nodes he ho false at) (IsItemNode at) (function_rest limits nodes x.0.place false x) _ mid s1 (post_function ts limits nodes he ho x at mid s1 h) (λ y to s2 r. t.function r.0 r.1))
      by o e false true q = post_suits ts limits (IsItemNode at) mid o target.Global list _ (post_take ts (IsItemNode at) mid o _
          (λ s1. subst (λ n. ItemNodeAt ts (d.Global (global_of (span x.0.place (place_of o)) x.0 x.1)) at (n + 1)) (sym h.3) (t.global (t.global h.1 h.2 (subst (λ n. Stands ts n (k.Mark m.Semicolon) (place_of o)) h.3 (mark_stands ts mid o m.Semicolon e q))))))
      by o e false false q = tt

  post_item_as : (list : Noted) (at : ℕ) (tok : Lexed) → first (drop at ts) ≡ Some tok → (v : DeclarationUse) → DeclarationUseIs tok.kind v → PostChoice ts (IsItemNode at) at (Some tok) (item_as limits nodes list (Some tok) v)
  post_item_as list at tok e u.Struct h = post_suits ts limits (IsItemNode at) at (Some tok) target.Other list _
      (λ s1. post_bind ts (λ y to. StructAt ts y at to) (IsItemNode at) (struct_rest limits nodes tok.place) _ (at + 1) s1 (post_struct_rest ts limits nodes he ho tok.place at s1 (stands ts at tok (k.Word w.Struct) e h)) (λ y to s2 r. t.struct r))
  post_item_as list at tok e u.Interface h = post_suits ts limits (IsItemNode at) at (Some tok) target.Other list _
      (λ s1. post_bind ts (λ y to. InterfaceAt ts y at to) (IsItemNode at) (interface_rest limits nodes tok.place) _ (at + 1) s1 (post_interface tok.place at s1 (stands ts at tok (k.Word w.Interface) e h)) (λ y to s2 r. t.interface r))
  post_item_as list at tok e u.Extension h = post_suits ts limits (IsItemNode at) at (Some tok) target.Other list _
      (λ s1. post_bind ts (λ y to. ExtensionAt ts y at to) (IsItemNode at) (extension_rest limits nodes tok.place) _ (at + 1) s1 (post_extension tok.place at s1 (stands ts at tok (k.Word w.Extension) e h)) (λ y to s2 r. t.extension r))
  post_item_as list at tok e u.TypeDef h = post_suits ts limits (IsItemNode at) at (Some tok) target.Other list _
      (λ s1. post_bind ts (λ y to. AliasAt ts y at to) (IsItemNode at) (type_def limits nodes tok.place) _ (at + 1) s1 (post_type_def ts limits nodes he ho tok.place at s1 (stands ts at tok (k.Word w.TypeDef) e h)) (λ y to s2 r. t.alias r))
  post_item_as list at tok e u.TypeAlias h = post_suits ts limits (IsItemNode at) at (Some tok) target.Other list _
      (λ s1. post_bind ts (λ y to. AliasAt ts y at to) (IsItemNode at) (type_alias limits nodes tok.place) _ (at + 1) s1 (post_type_alias ts limits nodes he ho tok.place at s1 (stands ts at tok (k.Word w.TypeAlias) e h)) (λ y to s2 r. t.alias r))
  post_item_as list at tok e u.Static h = post_suits ts limits (IsItemNode at) at (Some tok) target.Other list _
      (λ s1. post_bind ts (λ y to. ConstantAt ts y at to) (IsItemNode at) (constant_rest limits nodes tok.place) _ (at + 1) s1 (post_constant tok.place at s1 (stands ts at tok (k.Word w.Static) e h)) (λ y to s2 r. t.constant r))
  post_item_as list at tok e u.Typed h = λ s1. post_bind ts (IsTyped at) (IsItemNode at) (type_name limits nodes) (item_typed limits nodes list) at s1 (post_type_name ts limits nodes he ho at s1) (λ x mid s2 r. post_item_typed list x at mid s2 r)
  post_item_as list at tok e u.Associated h = tt
  post_item_as list at tok e u.Nothing h = tt

  post_item_node : (list : Noted) (at seen : ℕ) → Post (IsItemNode at) (item_node limits nodes list ts at seen)
  unfolding item_node
  post_item_node list at seen = post_next ts (IsItemNode at) _ at seen go
    where
      go : (x : Option Lexed) → first (drop at ts) ≡ x → PostChoice ts (IsItemNode at) at x (item_as limits nodes list x (use_of x))
      go (Some tok) e = post_item_as list at tok e (declaration_use tok.kind) (declaration_use_is tok.kind)
      go None e = tt

  -- an access word, which is not private
  IsOpen : ℕ → Option Access → ℕ → Type 0
  IsOpen at a to = AccessAt ts a at to × (is_private a ≡ false)

  post_item_access : (at seen : ℕ) → Post (IsOpen at) (item_access limits nodes ts at seen)
  unfolding item_access IsOpen
  post_item_access at seen = post_next ts (IsOpen at) _ at seen (λ x e. by x e (access_at x) refl (is_private (access_at x)) refl)
    where
      by : (x : Option Lexed) → first (drop at ts) ≡ x → (a : Option Access) → access_at x ≡ a → (b : Bool) → is_private a ≡ b → PostChoice ts (IsOpen at) at x (item_accessed limits nodes a b)
      by x e a q true r = tt
      by (Some tok) e (Some a) q false r = λ s1. (access_stands ts at tok a e q, r)
      by None e (Some a) q false r = tt
      by x e None q false r = λ s1. (parts.no_access (ap access_at e ∙ q), r)

  IsItemMore : List Item → List Item → ℕ → ℕ → Type 0
  IsItemMore a b from to = (x : Item) × (mid : ℕ) × (next_ : ℕ) × AttributesAt ts [] x.attributes from mid × AccessAt ts x.access mid next_ × (is_private x.access ≡ false) × ItemNodeAt ts x.node next_ to × (b ≡ a ++ x ∷ [])

  post_item_more : (a : List Item) (at seen : ℕ) → Post (λ b to. IsItemMore a b at to) (item_more limits nodes a ts at seen)
  unfolding item_more IsItemMore IsOpen
  post_item_more a at seen = post_bind ts (λ (g : Given) to. AttributesAt ts [] g.0 at to) (λ b to. IsItemMore a b at to) (attributes.attributes limits attributes.items) _ at seen (post_attributes ts limits attributes.items at seen)
      (λ g mid s1 r. post_bind ts (IsOpen mid) (λ b to. IsItemMore a b at to) (item_access limits nodes) _ mid s1 (post_item_access mid s1)
      (λ v a2 s2 c. post_bind ts (IsItemNode a2) (λ b to. IsItemMore a b at to) (item_node limits nodes g.1) _ a2 s2 (post_item_node g.1 a2 s2)
      (λ y to s3 z. let q : IsItemMore a (a ++ item_of g.0 v y ∷ []) at to = (item_of g.0 v y, mid, a2, r, c.0, c.1, z, refl) in q)))

  -- ---- files

  post_line : (word : Word) (begin : Place) (at seen : ℕ) → Stands ts at (k.Word word) begin → Post (λ y to. LineAt ts word y at to) (line_rest limits nodes begin ts (at + 1) seen)
  unfolding line_rest
  post_line word begin at seen o = post_bind ts (IsNameAt ts (at + 1)) (λ y to. LineAt ts word y at to) (name limits) _ (at + 1) seen (post_name ts limits (at + 1) seen)
      (λ id a1 s1 j. post_bind ts (IsMarkAt ts m.Semicolon a1) (λ y to. LineAt ts word y at to) (expect m.Semicolon) _ a1 s1 (post_expect ts m.Semicolon a1 s1)
      (λ end to s2 z. subst (λ n. LineAt ts word (line_of (span begin end) id) at n) (sym (z.1 ∙ ap (λ n. n + 1) j.1)) (t.line o j.0 (subst (λ n. Stands ts n (k.Mark m.Semicolon) end) j.1 z.0))))

  post_module : (at seen : ℕ) → Post (λ x to. ModuleAt ts x at to) (module_line limits nodes ts at seen)
  unfolding module_line
  post_module at seen = post_next ts (λ x to. ModuleAt ts x at to) _ at seen (λ x e. by x e (sees_word w.Module x) refl)
    where
      by : (x : Option Lexed) → first (drop at ts) ≡ x → (b : Bool) → sees_word w.Module x ≡ b → PostChoice ts (λ x to. ModuleAt ts x at to) at x (module_by limits nodes x b)
      by x e true q = post_take ts (λ x to. ModuleAt ts x at to) at x _ (λ s. post_bind ts (λ y to. LineAt ts w.Module y at to) (λ x to. ModuleAt ts x at to) (line_rest limits nodes (place_of x)) _ (at + 1) s
          (post_line w.Module (place_of x) at s (word_stands ts at x w.Module e q)) (λ y to s1 r. t.module_line r))
      by x e false q = λ s. t.no_module (record { is = ap (sees_word w.Module) e ∙ q })

  IsImport : List ModuleLine → List ModuleLine → ℕ → ℕ → Type 0
  IsImport a b from to = (x : ModuleLine) × LineAt ts w.Import x from to × (b ≡ a ++ x ∷ [])

  post_import : (a : List ModuleLine) (at seen : ℕ) → Post (λ b to. IsImport a b at to) (import_more limits nodes a ts at seen)
  unfolding import_more IsImport
  post_import a at seen = post_bind ts (IsWordAt ts w.Import at) (λ b to. IsImport a b at to) (expect_word w.Import) _ at seen (post_expect_word ts w.Import at seen)
      (λ begin mid s1 o. subst (λ n. Post (λ b to. IsImport a b at to) ((line_rest limits nodes begin >>= (λ x. pure (a ++ x ∷ []))) ts n s1)) (sym o.1)
      (post_bind ts (λ y to. LineAt ts w.Import y at to) (λ b to. IsImport a b at to) (line_rest limits nodes begin) _ (at + 1) s1 (post_line w.Import begin at s1 o.0)
      (λ x to s2 r. let q : IsImport a (a ++ x ∷ []) at to = (x, r, refl) in q)))

  no_token : (x : Option Lexed) → is_token limits nodes x ≡ false → x ≡ None
  no_token (Some x) e = cc
  no_token None e = refl

  -- what the descent reads of a whole text is spelled
  pub post_files : (seen : ℕ) → Post (λ x to. FileAt ts x) (files limits nodes ts 0 seen)
  unfolding files IsImport IsItemMore
  post_files seen = post_bind ts (λ x to. ModuleAt ts x 0 to) (λ x to. FileAt ts x) (module_line limits nodes) _ 0 seen (post_module 0 seen)
      (λ line a1 s1 r. post_bind ts (λ list to. ImportsAt ts [] list a1 to) (λ x to. FileAt ts x) (turns (sees_word w.Import) (import_more limits nodes) limits.turns []) _ a1 s1
      (post_until ts (λ a c from to. ImportsAt ts a c from to) IsImport (sees_word w.Import) (import_more limits nodes) (λ a at q. t.end (record { is = q }))
      (λ a b c from mid to i v. t.more i.1 (subst (λ list. ImportsAt ts list c mid to) i.2 v)) post_import limits.turns [] a1 s1)
      (λ imports a2 s2 v. post_bind ts (λ list to. ItemsAt ts [] list a2) (λ x to. FileAt ts x) (turns (is_token limits nodes) (item_more limits nodes) limits.turns []) _ a2 s2
      (post_until ts (λ a c from to. ItemsAt ts a c from) IsItemMore (is_token limits nodes) (item_more limits nodes) (λ a at q. t.end (no_token (first (drop at ts)) q))
      (λ a b c from mid to i z. t.more i.3 i.4 i.5 i.6 (subst (λ list. ItemsAt ts list c mid) i.7 z)) post_item_more limits.turns [] a2 s2)
      (λ items to s3 z. t.file r v z)))
