-- Functions and members: what the descent reads is spelled, where it is so of expressions and of operands.
use Rattle.std.proofs.Common.{Bool, true, false, not, ◌≡◌, ℕ, ◌+◌, List, [], ◌∷◌, ◌++◌, drop, length, Option, Some, None, refl, sym, ◌∙◌, ap, subst, if◌then◌else◌}
use Rattle.slang_names.specs.declared.places.Place.{Place}
use Rattle.slang_names.specs.declared.places.Access.{Access}
use Rattle.slang_names.specs.declared.codes.ModuleCode.TheVariants as code
use Rattle.slang_tree.specs.declared.types.Identifier.{Identifier}
use Rattle.slang_tree.specs.declared.types.TypeTree.{TypeTree}
use Rattle.slang_tree.specs.declared.statements.Attribute.{Attribute}
use Rattle.slang_tree.specs.declared.statements.DeclaredName.{DeclaredName}
use Rattle.slang_tree.specs.declared.declarations.GenericParameter.{GenericParameter}
use Rattle.slang_tree.specs.declared.declarations.Constraint.{Constraint}
use Rattle.slang_tree.specs.declared.declarations.Function.{Function}
use Rattle.slang_tree.specs.declared.declarations.Alias.{Alias}
use Rattle.slang_tree.specs.declared.declarations.Field.{Field}
use Rattle.slang_tree.specs.declared.declarations.InnerMember.{InnerMember}
use Rattle.slang_tree.specs.declared.declarations.InnerMemberNode.{InnerMemberNode}
use Rattle.slang_tree.specs.declared.declarations.InnerMemberNode.TheVariants as i
use Rattle.slang_tree.specs.declared.declarations.InnerStruct.{InnerStruct}
use Rattle.slang_tree.specs.declared.declarations.Member.{Member}
use Rattle.slang_tree.specs.declared.declarations.MemberNode.{MemberNode}
use Rattle.slang_tree.specs.declared.declarations.MemberNode.TheVariants as n
use Rattle.slang_tree.specs.declared.declarations.Struct.{Struct}
use Rattle.slang_tokens.specs.declared.tokens.Kind.{Kind}
use Rattle.slang_tokens.specs.declared.tokens.Kind.TheVariants as k
use Rattle.slang_tokens.specs.declared.tokens.Mark.TheVariants as m
use Rattle.slang_tokens.specs.declared.tokens.Word.TheVariants as w
use Rattle.slang_reading.specs.Lexed.{Lexed}
use Rattle.slang_reading.specs.Reading.{Parser, Choice, Leave, Take, Refuse, if_fits, first, pure, place_of, next, turns, ◌>>=◌}
use Rattle.slang_reading.specs.Kinds.{sees, span}
use Rattle.slang_reading.proofs.Exact.{Post, PostChoice, post_bind, post_next, post_fits, post_turns, post_weaken}
use Rattle.slang_grammar.specs.Standing.{Stands, NameStands}
use Rattle.slang_grammar.specs.Types.{TypeAt}
use Rattle.slang_grammar.specs.Expressions.{ExprAt, PostfixAt}
use Rattle.slang_grammar.specs.Descent.{Limits, fits_in, expect, name}
use Rattle.slang_grammar.specs.TypesDescent.{types}
use Rattle.slang_grammar.specs.ExpressionsDescent.{expressions}
use Rattle.slang_grammar.proofs.Shared.{stands, IsMarkAt, post_expect, IsNameAt, post_name}
use Rattle.slang_grammar.proofs.TypesSpelled.{post_types}
use Rattle.statement_grammar.specs.declared.attributes.Target.{Target}
use Rattle.statement_grammar.specs.declared.attributes.Target.TheVariants as target
use Rattle.statement_grammar.specs.Attributes.{AttributesAt}
use Rattle.statement_grammar.specs.AttributesDescent as attributes
use Rattle.statement_grammar.specs.AttributesDescent.{Given, Noted, misfit, suited, if_suits}
use Rattle.statement_grammar.specs.Statements as s
use Rattle.statement_grammar.specs.Statements.{declared, LengthsAt, DeclaredNameAt, BlockAt}
use Rattle.statement_grammar.specs.StatementsDescent.{length_more, declared_name, operands, blocks}
use Rattle.statement_grammar.proofs.Shared.{post_obeyed}
use Rattle.statement_grammar.proofs.AttributesSpelled.{post_attributes}
use Rattle.statement_grammar.proofs.LocalsSpelled.{post_lengths, post_declared}
use Rattle.statement_grammar.proofs.StatementsSpelled.{post_blocks}
use Rattle.declaration_grammar.specs.declared.tables.DeclarationUse.{DeclarationUse}
use Rattle.declaration_grammar.specs.declared.tables.DeclarationUse.TheVariants as u
use Rattle.declaration_grammar.specs.Tables.{declaration_use}
use Rattle.declaration_grammar.specs.Parts.{AccessAt, GenericsAt, HeadsAt, ConstraintsAt, ParametersAt, ClosedAt}
use Rattle.declaration_grammar.specs.Parts as parts
use Rattle.declaration_grammar.specs.PartsDescent.{access, generics, heads, constraints, parameters, closed}
use Rattle.declaration_grammar.specs.Declarations as t
use Rattle.declaration_grammar.specs.Declarations.{ResultAt, function_of, FunctionAt, alias_of, AliasAt, MoreFieldsAt, field_of, FieldAt, InnerNodeAt, inner_member, InnerMembersAt, StructHeadAt, inner_struct_of, InnerStructAt, MemberNodeAt, member_of, MembersAt, struct_of, StructAt}
use Rattle.declaration_grammar.specs.DeclarationsDescent.{use_of, begins_parameters, TypeName, type_name, function_rest, static_rest, type_def, type_alias, field_more, field_rest, goes_on_field, in_braces, inner_typed_by, inner_typed, inner_as, inner_node, inner_one, inner_begins, inner_choice, inner_more, inner_members, Head, struct_head, inner_struct_rest, member_typed_by, member_typed, member_as, member_node, member_one, member_begins, member_choice, member_more, struct_rest}
use Rattle.declaration_grammar.proofs.Uses.{DeclarationUseIs, declaration_use_is}
use Rattle.declaration_grammar.proofs.PartsSpelled.{post_access, post_generics, post_heads, post_constraints, post_parameters, post_closed}

-- what attributes stand before changes nothing of what goes on
pub post_suits : {A : Type 0} (ts : List Lexed) (limits : Limits) (Q : A → ℕ → Type 0) (at : ℕ) (x : Option Lexed) (v : Target) (list : Noted) (c : Choice A) → PostChoice ts Q at x c → PostChoice ts Q at x (if_suits limits v list c)
post_suits ts limits Q at x v list c h = by limits.free (misfit v list)
  where
    by : (b : Bool) (o : Option Place) → PostChoice ts Q at x (suited b o c)
    by true o = h
    by false None = h
    by false (Some p) = post_obeyed ts Q at x false p c h

-- the brace with which it begins
pub closed_begins : {ts : List Lexed} {p : Place} {at to : ℕ} → ClosedAt ts p at to → (q : Place) × Stands ts at (k.Mark m.CloseBrace) q
closed_begins (parts.brace {p = p} s q) = (p, s)
closed_begins (parts.semicolon {p = p} s q) = (p, s)

fielded : (fields b : Bool) → (if fields then b else false) ≡ true → fields ≡ true
fielded true b e = refl
fielded false b e = cc

module _ (ts : List Lexed) (limits : Limits) (nodes : ℕ) (he : (d at seen : ℕ) → Post (λ x to. ExprAt ts x.0 at to) (expressions limits d ts at seen))
    (ho : (d at seen : ℕ) → Post (λ x to. PostfixAt ts x.0 at to) (operands limits d ts at seen)) where
  -- ---- functions, aliases, fields

  unfoldable pub IsTypeName : ℕ → TypeName limits nodes → ℕ → Type 0
  IsTypeName at x to = (mid : ℕ) × TypeAt ts x.0 at mid × NameStands ts mid x.1 × (to ≡ mid + 1)

  pub post_type_name : (at seen : ℕ) → Post (IsTypeName at) (type_name limits nodes ts at seen)
  unfolding type_name IsTypeName
  post_type_name at seen = post_bind ts (λ x to. TypeAt ts x.0 at to) (IsTypeName at) (types limits nodes) _ at seen (post_types ts limits nodes at seen)
      (λ x mid s1 r. post_bind ts (IsNameAt ts mid) (IsTypeName at) (name limits) _ mid s1 (post_name ts limits mid s1)
      (λ id to s2 j. let q : IsTypeName at (x.0, id) to = (mid, r, j.0, j.1) in q))

  abbrev pub IsFunction : Bool → ℕ → Function → ℕ → Type 0
  IsFunction is_static at f to = FunctionAt ts f at to × (f.is_static ≡ is_static)

  pub post_function_rest : (begin : Place) (is_static : Bool) (x : TypeName limits nodes) (from mid seen : ℕ) → ResultAt ts is_static x.0 begin from mid → NameStands ts mid x.1 →
      Post (IsFunction is_static from) (function_rest limits nodes begin is_static x ts (mid + 1) seen)
  unfolding function_rest
  post_function_rest begin is_static x from mid seen r j = post_bind ts (λ g to. GenericsAt ts g (mid + 1) to) (IsFunction is_static from) (generics limits) _ (mid + 1) seen (post_generics ts limits (mid + 1) seen)
      (λ g a1 s1 gr. post_bind ts (λ p to. ParametersAt ts p a1 to) (IsFunction is_static from) (parameters limits nodes) _ a1 s1 (post_parameters ts limits nodes a1 s1)
      (λ p a2 s2 pr. post_bind ts (λ c to. ConstraintsAt ts [] c a2 to) (IsFunction is_static from) (constraints limits) _ a2 s2 (post_constraints ts limits a2 s2)
      (λ c a3 s3 cr. post_bind ts (λ b to. BlockAt ts b a3 to) (IsFunction is_static from) (blocks limits nodes) _ a3 s3 (post_blocks ts limits he ho nodes a3 s3)
      (λ b to s4 br. (t.function r j gr pr cr br, refl)))))

  -- behind a type and a name
  pub post_function : (x : TypeName limits nodes) (at mid seen : ℕ) → IsTypeName at x mid → Post (IsFunction false at) (function_rest limits nodes x.0.place false x ts mid seen)
  unfolding IsTypeName
  post_function x at mid seen h = subst (λ n. Post (IsFunction false at) (function_rest limits nodes x.0.place false x ts n seen)) (sym h.3) (post_function_rest x.0.place false x at h.0 seen (t.plain h.1) h.2)

  pub post_static_rest : (begin : Place) (at seen : ℕ) → Stands ts at (k.Word w.Static) begin → Post (λ f to. FunctionAt ts f at to) (static_rest limits nodes begin ts (at + 1) seen)
  unfolding static_rest IsTypeName
  post_static_rest begin at seen o = post_bind ts (IsTypeName (at + 1)) (λ f to. FunctionAt ts f at to) (type_name limits nodes) _ (at + 1) seen (post_type_name (at + 1) seen)
      (λ x mid s1 h. post_weaken (IsFunction true at) (λ f to. FunctionAt ts f at to) (λ f to g. g.0) (function_rest limits nodes begin true x ts mid s1)
      (subst (λ n. Post (IsFunction true at) (function_rest limits nodes begin true x ts n s1)) (sym h.3) (post_function_rest begin true x at h.0 s1 (t.static o h.1) h.2)))

  pub post_type_def : (begin : Place) (at seen : ℕ) → Stands ts at (k.Word w.TypeDef) begin → Post (λ y to. AliasAt ts y at to) (type_def limits nodes begin ts (at + 1) seen)
  unfolding type_def IsTypeName
  post_type_def begin at seen o = post_bind ts (IsTypeName (at + 1)) (λ y to. AliasAt ts y at to) (type_name limits nodes) _ (at + 1) seen (post_type_name (at + 1) seen)
      (λ x mid s1 h. post_bind ts (IsMarkAt ts m.Semicolon mid) (λ y to. AliasAt ts y at to) (expect m.Semicolon) _ mid s1 (post_expect ts m.Semicolon mid s1)
      (λ end to s2 z. subst (λ n. AliasAt ts (alias_of (span begin end) x.0 x.1) at n) (sym (z.1 ∙ ap (λ n. n + 1) h.3)) (t.type_def o h.1 h.2 (subst (λ n. Stands ts n (k.Mark m.Semicolon) end) h.3 z.0))))

  pub post_type_alias : (begin : Place) (at seen : ℕ) → Stands ts at (k.Word w.TypeAlias) begin → Post (λ y to. AliasAt ts y at to) (type_alias limits nodes begin ts (at + 1) seen)
  unfolding type_alias
  post_type_alias begin at seen o = post_bind ts (IsNameAt ts (at + 1)) (λ y to. AliasAt ts y at to) (name limits) _ (at + 1) seen (post_name ts limits (at + 1) seen)
      (λ id a1 s1 j. post_bind ts (IsMarkAt ts m.Equal a1) (λ y to. AliasAt ts y at to) (expect m.Equal) _ a1 s1 (post_expect ts m.Equal a1 s1)
      (λ p a2 s2 q. post_bind ts (λ x to. TypeAt ts x.0 a2 to) (λ y to. AliasAt ts y at to) (types limits nodes) _ a2 s2 (post_types ts limits nodes a2 s2)
      (λ x a3 s3 r. post_bind ts (IsMarkAt ts m.Semicolon a3) (λ y to. AliasAt ts y at to) (expect m.Semicolon) _ a3 s3 (post_expect ts m.Semicolon a3 s3)
      (λ end to s4 z. subst (λ n. AliasAt ts (alias_of (span begin end) x.0 id) at n) (sym z.1)
      (t.type_alias o j.0 (subst (λ n. Stands ts n (k.Mark m.Equal) p) j.1 q.0) (subst (λ n. TypeAt ts x.0 n a3) (q.1 ∙ ap (λ n. n + 1) j.1) r) z.0)))))

  IsFieldMore : List DeclaredName → List DeclaredName → ℕ → ℕ → Type 0
  IsFieldMore a b from to = (p : Place) × (x : DeclaredName) × (last : Place) × Stands ts from (k.Mark m.Comma) p × DeclaredNameAt ts x last (from + 1) to × (b ≡ a ++ x ∷ [])

  post_field_more : (a : List DeclaredName) (at seen : ℕ) → Post (λ b to. IsFieldMore a b at to) (field_more limits nodes a ts at seen)
  unfolding field_more IsFieldMore
  post_field_more a at seen = post_bind ts (IsMarkAt ts m.Comma at) (λ b to. IsFieldMore a b at to) (expect m.Comma) _ at seen (post_expect ts m.Comma at seen)
      (λ p a1 s1 o. post_bind ts (λ x to. DeclaredNameAt ts x.0 x.1 a1 to) (λ b to. IsFieldMore a b at to) (declared_name limits) _ a1 s1 (post_declared ts limits a1 s1)
      (λ x to s2 r. let q : IsFieldMore a (a ++ x.0 ∷ []) at to = (p, x.0, x.1, o.0, subst (λ n. DeclaredNameAt ts x.0 x.1 n to) o.1 r, refl) in q))

  pub post_field : (x : TypeName limits nodes) (at mid seen : ℕ) → IsTypeName at x mid → Post (λ f to. FieldAt ts f at to) (field_rest limits nodes x ts mid seen)
  unfolding field_rest IsTypeName IsFieldMore
  post_field x at mid seen h = post_bind ts (λ c to. LengthsAt ts [] c.0 x.1.place c.1 mid to) (λ f to. FieldAt ts f at to) (turns (sees m.OpenBracket) (length_more limits) limits.turns ([], x.1.place)) _ mid seen
      (post_lengths ts limits limits.turns ([], x.1.place) mid seen)
      (λ l a1 s1 lr. post_bind ts (λ all to. MoreFieldsAt ts (declared x.1 l.0 l.1 ∷ []) all a1 to) (λ f to. FieldAt ts f at to) (turns (sees m.Comma) (field_more limits nodes) limits.turns (declared x.1 l.0 l.1 ∷ [])) _ a1 s1
      (post_turns ts (λ a b from to. MoreFieldsAt ts a b from to) IsFieldMore (sees m.Comma) (field_more limits nodes) (λ a at. t.end)
      (λ a b c from mid to i q. t.more i.3 i.4 (subst (λ list. MoreFieldsAt ts list c mid to) i.5 q)) (λ a from s2 e. post_field_more a from s2) limits.turns (declared x.1 l.0 l.1 ∷ []) a1 s1)
      (λ all a2 s2 q. post_bind ts (IsMarkAt ts m.Semicolon a2) (λ f to. FieldAt ts f at to) (expect m.Semicolon) _ a2 s2 (post_expect ts m.Semicolon a2 s2)
      (λ end to s3 z. subst (λ n. FieldAt ts (field_of (span x.0.place end) x.0 all) at n) (sym z.1)
      (t.field h.1 (s.declared_name h.2 (subst (λ n. LengthsAt ts [] l.0 x.1.place l.1 n a1) h.3 lr)) q z.0))))

  -- ---- members of extensions and of structs in structs

  module _ (fields : Bool) where
    abbrev IsNode : ℕ → InnerMemberNode → ℕ → Type 0
    IsNode at y to = InnerNodeAt ts fields y at to

    post_inner_typed : (list : Noted) (x : TypeName limits nodes) (at mid seen : ℕ) → IsTypeName at x mid → Post (IsNode at) (inner_typed limits nodes fields list x ts mid seen)
    unfolding inner_typed
    post_inner_typed list x at mid seen h = post_next ts (IsNode at) _ mid seen (λ o e. by o (begins_parameters o) (if fields then goes_on_field limits nodes o else false) refl)
      where
        by : (o : Option Lexed) (b c : Bool) → (if fields then goes_on_field limits nodes o else false) ≡ c → PostChoice ts (IsNode at) mid o (inner_typed_by limits nodes fields list x b c)
        by o true c q = post_suits ts limits (IsNode at) mid o target.Method list _ (λ s1. post_bind ts (IsFunction false at) (IsNode at) (function_rest limits nodes x.0.place false x) _ mid s1 (post_function x at mid s1 h) (λ y to s2 r. t.function r.0))
        by o false true q = post_suits ts limits (IsNode at) mid o target.Other list _ (λ s1. post_bind ts (λ f to. FieldAt ts f at to) (IsNode at) (field_rest limits nodes x) _ mid s1 (post_field x at mid s1 h)
            (λ y to s2 r. subst (λ b. InnerNodeAt ts b (i.Field y) at to) (sym (fielded fields (goes_on_field limits nodes o) q)) (t.field r)))
        by o false false q = tt

    post_inner_as : (list : Noted) (at : ℕ) (tok : Lexed) → first (drop at ts) ≡ Some tok → (v : DeclarationUse) → DeclarationUseIs tok.kind v → PostChoice ts (IsNode at) at (Some tok) (inner_as limits nodes fields list (Some tok) v)
    post_inner_as list at tok e u.TypeDef h = post_suits ts limits (IsNode at) at (Some tok) target.Other list _
        (λ s1. post_bind ts (λ y to. AliasAt ts y at to) (IsNode at) (type_def limits nodes tok.place) _ (at + 1) s1 (post_type_def tok.place at s1 (stands ts at tok (k.Word w.TypeDef) e h)) (λ y to s2 r. t.alias r))
    post_inner_as list at tok e u.TypeAlias h = post_suits ts limits (IsNode at) at (Some tok) target.Other list _
        (λ s1. post_bind ts (λ y to. AliasAt ts y at to) (IsNode at) (type_alias limits nodes tok.place) _ (at + 1) s1 (post_type_alias tok.place at s1 (stands ts at tok (k.Word w.TypeAlias) e h)) (λ y to s2 r. t.alias r))
    post_inner_as list at tok e u.Static h = post_suits ts limits (IsNode at) at (Some tok) target.Other list _
        (λ s1. post_bind ts (λ f to. FunctionAt ts f at to) (IsNode at) (static_rest limits nodes tok.place) _ (at + 1) s1 (post_static_rest tok.place at s1 (stands ts at tok (k.Word w.Static) e h)) (λ y to s2 r. t.function r))
    post_inner_as list at tok e u.Typed h = λ s1. post_bind ts (IsTypeName at) (IsNode at) (type_name limits nodes) (inner_typed limits nodes fields list) at s1 (post_type_name at s1) (λ x mid s2 r. post_inner_typed list x at mid s2 r)
    post_inner_as list at tok e u.Struct h = tt
    post_inner_as list at tok e u.Interface h = tt
    post_inner_as list at tok e u.Extension h = tt
    post_inner_as list at tok e u.Associated h = tt
    post_inner_as list at tok e u.Nothing h = tt

    post_inner_node : (list : Noted) (at seen : ℕ) → Post (IsNode at) (inner_node limits nodes fields list ts at seen)
    unfolding inner_node
    post_inner_node list at seen = post_next ts (IsNode at) _ at seen go
      where
        go : (x : Option Lexed) → first (drop at ts) ≡ x → PostChoice ts (IsNode at) at x (inner_as limits nodes fields list x (use_of x))
        go (Some tok) e = post_inner_as list at tok e (declaration_use tok.kind) (declaration_use_is tok.kind)
        go None e = tt

    -- one member
    IsInner : ℕ → InnerMember → ℕ → Type 0
    IsInner at y to = (mid : ℕ) × (next : ℕ) × AttributesAt ts [] y.attributes at mid × AccessAt ts y.access mid next × InnerNodeAt ts fields y.node next to

    post_inner_one : (at seen : ℕ) → Post (IsInner at) (inner_one limits nodes fields ts at seen)
    unfolding inner_one IsInner
    post_inner_one at seen = post_bind ts (λ (a : Given) to. AttributesAt ts [] a.0 at to) (IsInner at) (attributes.attributes limits attributes.members) _ at seen (post_attributes ts limits attributes.members at seen)
        (λ a mid s1 r. post_bind ts (λ v to. AccessAt ts v mid to) (IsInner at) access _ mid s1 (post_access ts mid s1)
        (λ v a2 s2 c. post_bind ts (IsNode a2) (IsInner at) (inner_node limits nodes fields a.1) _ a2 s2 (post_inner_node a.1 a2 s2)
        (λ y to s3 z. let q : IsInner at (inner_member a.0 v y) to = (mid, a2, r, c, z) in q)))

    IsInnerMore : List InnerMember → List InnerMember → ℕ → ℕ → Type 0
    IsInnerMore a b from to = (y : InnerMember) × IsInner from y to × (b ≡ a ++ y ∷ [])

    post_inner_more : (a : List InnerMember) (at seen : ℕ) → Post (λ b to. IsInnerMore a b at to) (inner_more limits nodes fields a ts at seen)
    unfolding inner_more IsInnerMore
    post_inner_more a at seen = post_bind ts (IsInner at) (λ b to. IsInnerMore a b at to) (next _) _ at seen
        (post_next ts (IsInner at) _ at seen (λ x e. post_fits ts (IsInner at) at x (fits_in limits (length a) limits.items) code.TooLong (inner_choice limits nodes fields x (inner_begins limits nodes fields x)) (λ f. by x (inner_begins limits nodes fields x))))
        (λ y to s1 r. let q : IsInnerMore a (a ++ y ∷ []) at to = (y, r, refl) in q)
      where
        by : (x : Option Lexed) (b : Bool) → PostChoice ts (IsInner at) at x (inner_choice limits nodes fields x b)
        by x true = λ s1. post_inner_one at s1
        by x false = tt

    -- up to a closing brace
    abbrev pub InnerEnds : List InnerMember → List InnerMember → ℕ → ℕ → Type 0
    InnerEnds a b from to = (p : Place) → Stands ts to (k.Mark m.CloseBrace) p → InnerMembersAt ts fields a b from to

    pub post_inner_members : (at seen : ℕ) → Post (λ all to. InnerEnds [] all at to) (inner_members limits nodes fields ts at seen)
    unfolding inner_members IsInnerMore IsInner
    post_inner_members at seen = post_turns ts InnerEnds IsInnerMore (in_braces limits nodes) (inner_more limits nodes fields) (λ list at p z. t.end z)
        (λ a b c from mid to o r p z. t.more o.1.2 o.1.3 o.1.4 (subst (λ list. InnerMembersAt ts fields list c mid to) o.2 (r p z)))
        (λ a from s1 e. post_inner_more a from s1) limits.turns [] at seen

  -- ---- structs

  pub post_struct_head : (at seen : ℕ) → Post (λ (h : Head limits nodes) to. StructHeadAt ts h.0 h.1 h.2 h.3 at to) (struct_head limits nodes ts at seen)
  unfolding struct_head
  post_struct_head at seen = let Q : Head limits nodes → ℕ → Type 0 = λ h to. StructHeadAt ts h.0 h.1 h.2 h.3 at to in
      post_bind ts (IsNameAt ts at) Q (name limits) _ at seen (post_name ts limits at seen)
      (λ id a1 s1 j. post_bind ts (λ g to. GenericsAt ts g a1 to) Q (generics limits) _ a1 s1 (post_generics ts limits a1 s1)
      (λ g a2 s2 gr. post_bind ts (λ h to. HeadsAt ts h a2 to) Q (heads limits) _ a2 s2 (post_heads ts limits a2 s2)
      (λ h a3 s3 hr. post_bind ts (λ c to. ConstraintsAt ts [] c a3 to) Q (constraints limits) _ a3 s3 (post_constraints ts limits a3 s3)
      (λ c a4 s4 cr. post_bind ts (IsMarkAt ts m.OpenBrace a4) Q (expect m.OpenBrace) _ a4 s4 (post_expect ts m.OpenBrace a4 s4)
      (λ p to s5 z. subst (λ n. StructHeadAt ts id g h c at n) (sym z.1) (t.head j.0 (subst (λ n. GenericsAt ts g n a2) j.1 gr) hr cr z.0))))))

  post_inner_struct : (begin : Place) (at seen : ℕ) → Stands ts at (k.Word w.Struct) begin → Post (λ y to. InnerStructAt ts y at to) (inner_struct_rest limits nodes begin ts (at + 1) seen)
  unfolding inner_struct_rest
  post_inner_struct begin at seen o = post_bind ts (λ (h : Head limits nodes) to. StructHeadAt ts h.0 h.1 h.2 h.3 (at + 1) to) (λ y to. InnerStructAt ts y at to) (struct_head limits nodes) _ (at + 1) seen (post_struct_head (at + 1) seen)
      (λ h a1 s1 hr. post_bind ts (λ all to. InnerEnds true [] all a1 to) (λ y to. InnerStructAt ts y at to) (inner_members limits nodes true) _ a1 s1 (post_inner_members true a1 s1)
      (λ all a2 s2 r. post_bind ts (λ p to. ClosedAt ts p a2 to) (λ y to. InnerStructAt ts y at to) closed _ a2 s2 (post_closed ts a2 s2)
      (λ end to s3 z. let b = closed_begins z in t.inner_struct o hr (r b.0 b.1) z)))

  abbrev IsMemberNode : ℕ → MemberNode → ℕ → Type 0
  IsMemberNode at y to = MemberNodeAt ts y at to

  post_member_typed : (list : Noted) (x : TypeName limits nodes) (at mid seen : ℕ) → IsTypeName at x mid → Post (IsMemberNode at) (member_typed limits nodes list x ts mid seen)
  unfolding member_typed
  post_member_typed list x at mid seen h = post_next ts (IsMemberNode at) _ mid seen (λ o e. by o (begins_parameters o) (goes_on_field limits nodes o))
    where
      by : (o : Option Lexed) (b c : Bool) → PostChoice ts (IsMemberNode at) mid o (member_typed_by limits nodes list x b c)
      by o true c = post_suits ts limits (IsMemberNode at) mid o target.Method list _ (λ s1. post_bind ts (IsFunction false at) (IsMemberNode at) (function_rest limits nodes x.0.place false x) _ mid s1 (post_function x at mid s1 h) (λ y to s2 r. t.function r.0))
      by o false true = post_suits ts limits (IsMemberNode at) mid o target.Other list _ (λ s1. post_bind ts (λ f to. FieldAt ts f at to) (IsMemberNode at) (field_rest limits nodes x) _ mid s1 (post_field x at mid s1 h) (λ y to s2 r. t.field r))
      by o false false = tt

  post_member_as : (list : Noted) (at : ℕ) (tok : Lexed) → first (drop at ts) ≡ Some tok → (v : DeclarationUse) → DeclarationUseIs tok.kind v → PostChoice ts (IsMemberNode at) at (Some tok) (member_as limits nodes list (Some tok) v)
  post_member_as list at tok e u.Struct h = post_suits ts limits (IsMemberNode at) at (Some tok) target.Other list _
      (λ s1. post_bind ts (λ y to. InnerStructAt ts y at to) (IsMemberNode at) (inner_struct_rest limits nodes tok.place) _ (at + 1) s1 (post_inner_struct tok.place at s1 (stands ts at tok (k.Word w.Struct) e h)) (λ y to s2 r. t.struct r))
  post_member_as list at tok e u.TypeDef h = post_suits ts limits (IsMemberNode at) at (Some tok) target.Other list _
      (λ s1. post_bind ts (λ y to. AliasAt ts y at to) (IsMemberNode at) (type_def limits nodes tok.place) _ (at + 1) s1 (post_type_def tok.place at s1 (stands ts at tok (k.Word w.TypeDef) e h)) (λ y to s2 r. t.alias r))
  post_member_as list at tok e u.TypeAlias h = post_suits ts limits (IsMemberNode at) at (Some tok) target.Other list _
      (λ s1. post_bind ts (λ y to. AliasAt ts y at to) (IsMemberNode at) (type_alias limits nodes tok.place) _ (at + 1) s1 (post_type_alias tok.place at s1 (stands ts at tok (k.Word w.TypeAlias) e h)) (λ y to s2 r. t.alias r))
  post_member_as list at tok e u.Static h = post_suits ts limits (IsMemberNode at) at (Some tok) target.Other list _
      (λ s1. post_bind ts (λ f to. FunctionAt ts f at to) (IsMemberNode at) (static_rest limits nodes tok.place) _ (at + 1) s1 (post_static_rest tok.place at s1 (stands ts at tok (k.Word w.Static) e h)) (λ y to s2 r. t.function r))
  post_member_as list at tok e u.Typed h = λ s1. post_bind ts (IsTypeName at) (IsMemberNode at) (type_name limits nodes) (member_typed limits nodes list) at s1 (post_type_name at s1) (λ x mid s2 r. post_member_typed list x at mid s2 r)
  post_member_as list at tok e u.Interface h = tt
  post_member_as list at tok e u.Extension h = tt
  post_member_as list at tok e u.Associated h = tt
  post_member_as list at tok e u.Nothing h = tt

  post_member_node : (list : Noted) (at seen : ℕ) → Post (IsMemberNode at) (member_node limits nodes list ts at seen)
  unfolding member_node
  post_member_node list at seen = post_next ts (IsMemberNode at) _ at seen go
    where
      go : (x : Option Lexed) → first (drop at ts) ≡ x → PostChoice ts (IsMemberNode at) at x (member_as limits nodes list x (use_of x))
      go (Some tok) e = post_member_as list at tok e (declaration_use tok.kind) (declaration_use_is tok.kind)
      go None e = tt

  IsMember : ℕ → Member → ℕ → Type 0
  IsMember at y to = (mid : ℕ) × (next : ℕ) × AttributesAt ts [] y.attributes at mid × AccessAt ts y.access mid next × MemberNodeAt ts y.node next to

  post_member_one : (at seen : ℕ) → Post (IsMember at) (member_one limits nodes ts at seen)
  unfolding member_one IsMember
  post_member_one at seen = post_bind ts (λ (a : Given) to. AttributesAt ts [] a.0 at to) (IsMember at) (attributes.attributes limits attributes.members) _ at seen (post_attributes ts limits attributes.members at seen)
      (λ a mid s1 r. post_bind ts (λ v to. AccessAt ts v mid to) (IsMember at) access _ mid s1 (post_access ts mid s1)
      (λ v a2 s2 c. post_bind ts (IsMemberNode a2) (IsMember at) (member_node limits nodes a.1) _ a2 s2 (post_member_node a.1 a2 s2)
      (λ y to s3 z. let q : IsMember at (member_of a.0 v y) to = (mid, a2, r, c, z) in q)))

  IsMemberMore : List Member → List Member → ℕ → ℕ → Type 0
  IsMemberMore a b from to = (y : Member) × IsMember from y to × (b ≡ a ++ y ∷ [])

  post_member_more : (a : List Member) (at seen : ℕ) → Post (λ b to. IsMemberMore a b at to) (member_more limits nodes a ts at seen)
  unfolding member_more IsMemberMore
  post_member_more a at seen = post_bind ts (IsMember at) (λ b to. IsMemberMore a b at to) (next _) _ at seen
      (post_next ts (IsMember at) _ at seen (λ x e. post_fits ts (IsMember at) at x (fits_in limits (length a) limits.items) code.TooLong (member_choice limits nodes x (member_begins limits nodes x)) (λ f. by x (member_begins limits nodes x))))
      (λ y to s1 r. let q : IsMemberMore a (a ++ y ∷ []) at to = (y, r, refl) in q)
    where
      by : (x : Option Lexed) (b : Bool) → PostChoice ts (IsMember at) at x (member_choice limits nodes x b)
      by x true = λ s1. post_member_one at s1
      by x false = tt

  abbrev MemberEnds : List Member → List Member → ℕ → ℕ → Type 0
  MemberEnds a b from to = (p : Place) → Stands ts to (k.Mark m.CloseBrace) p → MembersAt ts a b from to

  pub post_struct_rest : (begin : Place) (at seen : ℕ) → Stands ts at (k.Word w.Struct) begin → Post (λ y to. StructAt ts y at to) (struct_rest limits nodes begin ts (at + 1) seen)
  unfolding struct_rest IsMemberMore IsMember
  post_struct_rest begin at seen o = post_bind ts (λ (h : Head limits nodes) to. StructHeadAt ts h.0 h.1 h.2 h.3 (at + 1) to) (λ y to. StructAt ts y at to) (struct_head limits nodes) _ (at + 1) seen (post_struct_head (at + 1) seen)
      (λ h a1 s1 hr. post_bind ts (λ all to. MemberEnds [] all a1 to) (λ y to. StructAt ts y at to) (turns (in_braces limits nodes) (member_more limits nodes) limits.turns []) _ a1 s1
      (post_turns ts MemberEnds IsMemberMore (in_braces limits nodes) (member_more limits nodes) (λ list at p z. t.end z)
      (λ a b c from mid to i r p z. t.more i.1.2 i.1.3 i.1.4 (subst (λ list. MembersAt ts list c mid to) i.2 (r p z))) (λ a from s2 e. post_member_more a from s2) limits.turns [] a1 s1)
      (λ all a2 s2 r. post_bind ts (λ p to. ClosedAt ts p a2 to) (λ y to. StructAt ts y at to) closed _ a2 s2 (post_closed ts a2 s2)
      (λ end to s3 z. let b = closed_begins z in t.struct o hr (r b.0 b.1) z)))
