-- Parts of declarations: what the descent reads is spelled.
use Rattle.std.proofs.Common.{Bool, true, false, ◌≡◌, ℕ, ◌+◌, List, [], ◌∷◌, ◌++◌, drop, length, Option, Some, None, refl, sym, ◌∙◌, ap, subst, if◌then◌else◌}
use Rattle.slang_names.specs.declared.places.Place.{Place}
use Rattle.slang_names.specs.declared.places.Access.{Access}
use Rattle.slang_names.specs.declared.places.Mode.{Mode}
use Rattle.slang_names.specs.declared.places.Mode.TheVariants as mode
use Rattle.slang_names.specs.declared.codes.ModuleCode.TheVariants as code
use Rattle.slang_tree.specs.declared.types.Identifier.{Identifier}
use Rattle.slang_tree.specs.declared.types.TypeTree.{TypeTree}
use Rattle.slang_tree.specs.declared.declarations.GenericParameter.{GenericParameter}
use Rattle.slang_tree.specs.declared.declarations.GenericParameterNode.TheVariants as g
use Rattle.slang_tree.specs.declared.declarations.Constraint.{Constraint}
use Rattle.slang_tree.specs.declared.declarations.Parameter.{Parameter}
use Rattle.slang_tokens.specs.declared.tokens.Kind.{Kind}
use Rattle.slang_tokens.specs.declared.tokens.Kind.TheVariants as k
use Rattle.slang_tokens.specs.declared.tokens.Mark.TheVariants as m
use Rattle.slang_tokens.specs.declared.tokens.Word.{Word}
use Rattle.slang_tokens.specs.declared.tokens.Word.TheVariants as w
use Rattle.slang_reading.specs.Lexed.{Lexed}
use Rattle.slang_reading.specs.Reading.{Parser, Choice, Leave, Take, Refuse, first, pure, place_of, next, turns}
use Rattle.slang_reading.specs.Kinds.{is_word, sees, sees_word, span}
use Rattle.slang_reading.proofs.Marks.{word_is}
use Rattle.slang_reading.proofs.Exact.{Post, PostChoice, post_bind, post_next, post_fits, post_turns, post_weaken}
use Rattle.slang_grammar.specs.Standing.{Stands, NameStands, IsNot}
use Rattle.slang_grammar.specs.Types.{TypeAt}
use Rattle.slang_grammar.specs.Descent.{Limits, fits_in, expect, name, identifier, if_short}
use Rattle.slang_grammar.specs.TypesDescent.{types}
use Rattle.slang_grammar.proofs.Shared.{stands, name_stands, IsMarkAt, post_expect, IsNameAt, post_name}
use Rattle.slang_grammar.proofs.TypesSpelled.{post_types}
use Rattle.statement_grammar.specs.Statements.{DeclaredNameAt}
use Rattle.statement_grammar.specs.StatementsDescent.{declared_name}
use Rattle.statement_grammar.proofs.Shared.{mark_stands, post_take, post_until, post_short}
use Rattle.statement_grammar.proofs.LocalsSpelled.{post_declared}
use Rattle.declaration_grammar.specs.declared.tables.DeclarationUse.{DeclarationUse}
use Rattle.declaration_grammar.specs.declared.tables.DeclarationUse.TheVariants as u
use Rattle.declaration_grammar.specs.Tables.{access_of, mode_of, declaration_use}
use Rattle.declaration_grammar.specs.Parts as t
use Rattle.declaration_grammar.specs.Parts.{access_by, access_at, AccessAt, NamesAt, generic_parameter, GenericParameterAt, MoreGenericsAt, GenericsAt, HeadsAt, constraint_of, ConstraintAt, ConstraintsAt, PassedAt, SemanticAt, ParameterAt, MoreParametersAt, ParametersAt, ClosedAt}
use Rattle.declaration_grammar.specs.PartsDescent.{word_expected, expect_word, accessed, access, Listed, name_behind, names, bound_by, bound_rest, number_rest, generic_word, generic_by, generic_at, generic, generic_more, generics_rest, generics_by, generics, heads_by, heads, constraint_more, constraints, Semantic, semantic_by, semantic, parameter_rest, plain_parameter, moded_parameter, plain_as, parameter_word, parameter_by, parameter_at, parameter, parameter_more, some_parameters, parameters_by, parameters, closed_by, closed}

abbrev pub IsWordAt : List Lexed → Word → ℕ → Place → ℕ → Type 0
IsWordAt ts word at p to = Stands ts at (k.Word word) p × (to ≡ at + 1)

pub post_expect_word : (ts : List Lexed) (word : Word) (at seen : ℕ) → Post (IsWordAt ts word at) (expect_word word ts at seen)
unfolding expect_word
post_expect_word ts word at seen = post_next ts (IsWordAt ts word at) (word_expected word) at seen go
  where
    by : (tok : Lexed) → first (drop at ts) ≡ Some tok → (b : Bool) → is_word word tok.kind ≡ b → PostChoice ts (IsWordAt ts word at) at (Some tok) (if b then Take (pure tok.place) else Refuse)
    by tok e true d = λ seen1. (stands ts at tok (k.Word word) e (word_is word tok.kind d), refl)
    by tok e false d = tt

    go : (x : Option Lexed) → first (drop at ts) ≡ x → PostChoice ts (IsWordAt ts word at) at x (word_expected word x)
    go (Some tok) e = by tok e (is_word word tok.kind) refl
    go None e = tt

pub post_access : (ts : List Lexed) (at seen : ℕ) → Post (λ a to. AccessAt ts a at to) (access ts at seen)
unfolding access
post_access ts at seen = post_next ts (λ a to. AccessAt ts a at to) _ at seen go
  where
    word_case : (tok : Lexed) (word : Word) → first (drop at ts) ≡ Some tok → tok.kind ≡ k.Word word → (a : Option Access) → access_of word ≡ a → PostChoice ts (λ a to. AccessAt ts a at to) at (Some tok) (accessed a)
    word_case tok word e d (Some a) q = λ s. t.access (stands ts at tok (k.Word word) e d) q
    word_case tok word e d None q = λ s. t.no_access (ap access_at e ∙ (ap access_by d ∙ q))

    by : (tok : Lexed) → first (drop at ts) ≡ Some tok → (kind : Kind) → tok.kind ≡ kind → PostChoice ts (λ a to. AccessAt ts a at to) at (Some tok) (accessed (access_by kind))
    by tok e (k.Word word) d = word_case tok word e d (access_of word) refl
    by tok e k.Name d = λ s. t.no_access (ap access_at e ∙ ap access_by d)
    by tok e (k.Number v) d = λ s. t.no_access (ap access_at e ∙ ap access_by d)
    by tok e k.String d = λ s. t.no_access (ap access_at e ∙ ap access_by d)
    by tok e (k.Mark mark) d = λ s. t.no_access (ap access_at e ∙ ap access_by d)

    go : (x : Option Lexed) → first (drop at ts) ≡ x → PostChoice ts (λ a to. AccessAt ts a at to) at x (accessed (access_at x))
    go (Some tok) e = by tok e tok.kind refl
    go None e = λ s. t.no_access (ap access_at e)

module _ (ts : List Lexed) (limits : Limits) where
  -- ---- names

  IsListed : Listed limits → Listed limits → ℕ → ℕ → Type 0
  IsListed a b from to = (p : Place) × (id : Identifier) × Stands ts from (k.Mark m.Comma) p × NameStands ts (from + 1) id × (b ≡ (a.0 ++ id ∷ [], id.place)) × (to ≡ from + 1 + 1)

  post_name_behind : (a : Listed limits) (at seen : ℕ) → Post (λ b to. IsListed a b at to) (name_behind limits a ts at seen)
  unfolding name_behind IsListed
  post_name_behind a at seen = post_bind ts (IsMarkAt ts m.Comma at) (λ b to. IsListed a b at to) (expect m.Comma) _ at seen (post_expect ts m.Comma at seen)
      (λ p a1 s1 o. post_bind ts (IsNameAt ts a1) (λ b to. IsListed a b at to) (name limits) _ a1 s1 (post_name ts limits a1 s1)
      (λ id to s2 i. let r : IsListed a (a.0 ++ id ∷ [], id.place) at to = (p, id, o.0, subst (λ n. NameStands ts n id) o.1 i.0, refl, i.1 ∙ ap (λ n. n + 1) o.1) in r))

  -- names from one on
  pub IsNames : ℕ → Listed limits → ℕ → Type 0
  IsNames at list to = (id : Identifier) × NameStands ts at id × NamesAt ts (id ∷ []) list.0 id.place list.1 (at + 1) to

  post_names : (at seen : ℕ) → Post (IsNames at) (names limits ts at seen)
  unfolding names IsListed IsNames
  post_names at seen = post_bind ts (IsNameAt ts at) (IsNames at) (name limits) _ at seen (post_name ts limits at seen)
      (λ id a1 s1 i. post_weaken (λ list to. NamesAt ts (id ∷ []) list.0 id.place list.1 a1 to) (IsNames at)
      (λ list to r. let q : IsNames at list to = (id, i.0, subst (λ n. NamesAt ts (id ∷ []) list.0 id.place list.1 n to) i.1 r) in q)
      (turns (sees m.Comma) (name_behind limits) limits.turns (id ∷ [], id.place) ts a1 s1)
      (post_until ts (λ a c from to. NamesAt ts a.0 c.0 a.1 c.1 from to) IsListed (sees m.Comma) (name_behind limits) (λ a at q. t.end (record { is = q }))
      (λ a b c from mid to o r. t.more o.2 o.3 (subst (λ n. NamesAt ts (a.0 ++ o.1 ∷ []) c.0 o.1.place c.1 n to) o.5 (subst (λ (b : Listed limits). NamesAt ts b.0 c.0 b.1 c.1 mid to) o.4 r)))
      post_name_behind limits.turns (id ∷ [], id.place) a1 s1))

  -- ---- generic parameters

  abbrev IsGeneric : ℕ → GenericParameter → ℕ → Type 0
  IsGeneric at x to = GenericParameterAt ts x at to

  post_bound_rest : (id : Identifier) (at seen : ℕ) → NameStands ts at id → Post (IsGeneric at) (bound_rest limits id ts (at + 1) seen)
  unfolding bound_rest
  post_bound_rest id at seen i = post_next ts (IsGeneric at) _ (at + 1) seen (λ x e. by x e (sees m.Colon x) refl)
    where
      by : (x : Option Lexed) → first (drop (at + 1) ts) ≡ x → (b : Bool) → sees m.Colon x ≡ b → PostChoice ts (IsGeneric at) (at + 1) x (bound_by limits id b)
      by x e true q = post_take ts (IsGeneric at) (at + 1) x _ (λ s. post_bind ts (IsNameAt ts (at + 1 + 1)) (IsGeneric at) (name limits) _ (at + 1 + 1) s (post_name ts limits (at + 1 + 1) s)
          (λ b to s1 j. subst (λ n. GenericParameterAt ts (generic_parameter (span id.place b.place) (g.Term id (Some b))) at n) (sym j.1) (t.bounded i (mark_stands ts (at + 1) x m.Colon e q) j.0)))
      by x e false q = λ s. t.plain i (record { is = ap (sees m.Colon) e ∙ q })

  post_number_rest : (begin : Place) (at seen : ℕ) → Stands ts at (k.Word w.Let) begin → Post (IsGeneric at) (number_rest limits begin ts (at + 1) seen)
  unfolding number_rest
  post_number_rest begin at seen o = post_bind ts (IsNameAt ts (at + 1)) (IsGeneric at) (name limits) _ (at + 1) seen (post_name ts limits (at + 1) seen)
      (λ id a1 s1 i. post_bind ts (IsMarkAt ts m.Colon a1) (IsGeneric at) (expect m.Colon) _ a1 s1 (post_expect ts m.Colon a1 s1)
      (λ p a2 s2 c. post_bind ts (IsWordAt ts w.Int a2) (IsGeneric at) (expect_word w.Int) _ a2 s2 (post_expect_word ts w.Int a2 s2)
      (λ end to s3 z. let n2 = c.1 ∙ ap (λ n. n + 1) i.1 in
      subst (λ n. GenericParameterAt ts (generic_parameter (span begin end) (g.Number id)) at n) (sym (z.1 ∙ ap (λ n. n + 1) n2))
      (t.number o i.0 (subst (λ n. Stands ts n (k.Mark m.Colon) p) i.1 c.0) (subst (λ n. Stands ts n (k.Word w.Int) end) n2 z.0)))))

  post_generic : (count at seen : ℕ) → Post (IsGeneric at) (generic limits count ts at seen)
  unfolding generic
  post_generic count at seen = post_next ts (IsGeneric at) _ at seen (λ x e. post_fits ts (IsGeneric at) at x (fits_in limits count limits.items) code.TooLong (generic_at limits x) (λ f. go x e))
    where
      word_case : (tok : Lexed) (word : Word) → first (drop at ts) ≡ Some tok → tok.kind ≡ k.Word word → (b : Bool) → is_word w.Let (k.Word word) ≡ b → PostChoice ts (IsGeneric at) at (Some tok) (generic_word limits tok b)
      word_case tok word e d true q = λ s. post_number_rest tok.place at s (stands ts at tok (k.Word w.Let) e (d ∙ word_is w.Let (k.Word word) q))
      word_case tok word e d false q = tt

      by : (tok : Lexed) → first (drop at ts) ≡ Some tok → (kind : Kind) → tok.kind ≡ kind → PostChoice ts (IsGeneric at) at (Some tok) (generic_by limits tok kind)
      by tok e k.Name d = post_short ts limits (IsGeneric at) at tok (Take (bound_rest limits (identifier tok))) (λ s. post_bound_rest (identifier tok) at s (name_stands ts at tok e d))
      by tok e (k.Word word) d = word_case tok word e d (is_word w.Let (k.Word word)) refl
      by tok e (k.Number v) d = tt
      by tok e k.String d = tt
      by tok e (k.Mark mark) d = tt

      go : (x : Option Lexed) → first (drop at ts) ≡ x → PostChoice ts (IsGeneric at) at x (generic_at limits x)
      go (Some tok) e = by tok e tok.kind refl
      go None e = tt

  IsGenericMore : List GenericParameter → List GenericParameter → ℕ → ℕ → Type 0
  IsGenericMore a b from to = (p : Place) × (x : GenericParameter) × Stands ts from (k.Mark m.Comma) p × GenericParameterAt ts x (from + 1) to × (b ≡ a ++ x ∷ [])

  post_generic_more : (a : List GenericParameter) (at seen : ℕ) → Post (λ b to. IsGenericMore a b at to) (generic_more limits a ts at seen)
  unfolding generic_more IsGenericMore
  post_generic_more a at seen = post_bind ts (IsMarkAt ts m.Comma at) (λ b to. IsGenericMore a b at to) (expect m.Comma) _ at seen (post_expect ts m.Comma at seen)
      (λ p a1 s1 o. post_bind ts (IsGeneric a1) (λ b to. IsGenericMore a b at to) (generic limits (length a)) _ a1 s1 (post_generic (length a) a1 s1)
      (λ x to s2 r. let q : IsGenericMore a (a ++ x ∷ []) at to = (p, x, o.0, subst (λ n. GenericParameterAt ts x n to) o.1 r, refl) in q))

  pub post_generics : (at seen : ℕ) → Post (λ list to. GenericsAt ts list at to) (generics limits ts at seen)
  unfolding generics generics_rest IsGenericMore
  post_generics at seen = post_next ts (λ list to. GenericsAt ts list at to) _ at seen (λ x e. by x e (sees m.Less x) refl)
    where
      Q : List GenericParameter → ℕ → Type 0
      Q list to = GenericsAt ts list at to

      rest : (p : Place) (s : ℕ) → Stands ts at (k.Mark m.Less) p → Post (λ list to. GenericsAt ts list at to) (generics_rest limits ts (at + 1) s)
      rest p s o = post_bind ts (IsGeneric (at + 1)) (λ list to. GenericsAt ts list at to) (generic limits 0) _ (at + 1) s (post_generic 0 (at + 1) s)
          (λ x a1 s1 r. post_bind ts (λ all to. MoreGenericsAt ts (x ∷ []) all a1 to) (λ list to. GenericsAt ts list at to) (turns (sees m.Comma) (generic_more limits) limits.turns (x ∷ [])) _ a1 s1
          (post_turns ts (λ a b from to. MoreGenericsAt ts a b from to) IsGenericMore (sees m.Comma) (generic_more limits) (λ a at. t.end)
          (λ a b c from mid to i q. t.more i.2 i.3 (subst (λ list. MoreGenericsAt ts list c mid to) i.4 q)) (λ a from s2 e. post_generic_more a from s2) limits.turns (x ∷ []) a1 s1)
          (λ all a2 s2 q. post_bind ts (IsMarkAt ts m.Greater a2) (λ list to. GenericsAt ts list at to) (expect m.Greater) _ a2 s2 (post_expect ts m.Greater a2 s2)
          (λ end to s3 z. subst (λ n. GenericsAt ts all at n) (sym z.1) (t.generics o r q z.0))))

      by : (x : Option Lexed) → first (drop at ts) ≡ x → (b : Bool) → sees m.Less x ≡ b → PostChoice ts (λ list to. GenericsAt ts list at to) at x (generics_by limits b)
      by x e true q = post_take ts (λ list to. GenericsAt ts list at to) at x (generics_rest limits) (λ s. rest (place_of x) s (mark_stands ts at x m.Less e q))
      by x e false q = λ s. t.no_generics (record { is = ap (sees m.Less) e ∙ q })

  -- ---- heads and constraints

  pub post_heads : (at seen : ℕ) → Post (λ list to. HeadsAt ts list at to) (heads limits ts at seen)
  unfolding heads IsNames
  post_heads at seen = post_next ts (λ list to. HeadsAt ts list at to) _ at seen (λ x e. by x e (sees m.Colon x) refl)
    where
      by : (x : Option Lexed) → first (drop at ts) ≡ x → (b : Bool) → sees m.Colon x ≡ b → PostChoice ts (λ list to. HeadsAt ts list at to) at x (heads_by limits b)
      by x e true q = post_take ts (λ list to. HeadsAt ts list at to) at x _ (λ s. post_bind ts (IsNames (at + 1)) (λ list to. HeadsAt ts list at to) (names limits) _ (at + 1) s (post_names (at + 1) s)
          (λ list to s1 r. t.heads (mark_stands ts at x m.Colon e q) r.1 r.2))
      by x e false q = λ s. t.no_heads (record { is = ap (sees m.Colon) e ∙ q })

  IsConstraint : List Constraint → List Constraint → ℕ → ℕ → Type 0
  IsConstraint a b from to = (x : Constraint) × ConstraintAt ts x from to × (b ≡ a ++ x ∷ [])

  post_constraint_more : (a : List Constraint) (at seen : ℕ) → Post (λ b to. IsConstraint a b at to) (constraint_more limits a ts at seen)
  unfolding constraint_more IsConstraint IsNames
  post_constraint_more a at seen = post_bind ts (IsWordAt ts w.Where at) (λ b to. IsConstraint a b at to) (expect_word w.Where) _ at seen (post_expect_word ts w.Where at seen)
      (λ begin a1 s1 o. post_bind ts (IsNameAt ts a1) (λ b to. IsConstraint a b at to) (name limits) _ a1 s1 (post_name ts limits a1 s1)
      (λ subject a2 s2 i. post_bind ts (IsMarkAt ts m.Colon a2) (λ b to. IsConstraint a b at to) (expect m.Colon) _ a2 s2 (post_expect ts m.Colon a2 s2)
      (λ p a3 s3 c. post_bind ts (IsNames a3) (λ b to. IsConstraint a b at to) (names limits) _ a3 s3 (post_names a3 s3)
      (λ list to s4 r. let n2 = i.1 ∙ ap (λ n. n + 1) o.1 in
      let n3 = c.1 ∙ ap (λ n. n + 1) n2 in
      let x = constraint_of (span begin list.1) subject list.0 in
      let q : IsConstraint a (a ++ x ∷ []) at to = (
        x,
        t.constraint o.0 (subst (λ n. NameStands ts n subject) o.1 i.0) (subst (λ n. Stands ts n (k.Mark m.Colon) p) n2 c.0)
            (subst (λ n. NameStands ts n r.0) n3 r.1) (subst (λ n. NamesAt ts (r.0 ∷ []) list.0 r.0.place list.1 (n + 1) to) n3 r.2),
        refl,
      ) in q))))

  pub post_constraints : (at seen : ℕ) → Post (λ list to. ConstraintsAt ts [] list at to) (constraints limits ts at seen)
  unfolding constraints IsConstraint
  post_constraints at seen = post_until ts (λ a c from to. ConstraintsAt ts a c from to) IsConstraint (sees_word w.Where) (constraint_more limits) (λ a at q. t.end (record { is = q }))
      (λ a b c from mid to o r. t.more o.1 (subst (λ list. ConstraintsAt ts list c mid to) o.2 r)) post_constraint_more limits.turns [] at seen

  -- ---- parameters

  module _ (nodes : ℕ) where
    post_semantic : (p : Place) (at seen : ℕ) → Post (λ (x : Semantic limits nodes) to. SemanticAt ts x.0 p x.1 at to) (semantic limits nodes p ts at seen)
    unfolding semantic
    post_semantic p at seen = post_next ts Q _ at seen (λ x e. by x e (sees m.Colon x) refl)
      where
        Q : Semantic limits nodes → ℕ → Type 0
        Q x to = SemanticAt ts x.0 p x.1 at to

        by : (x : Option Lexed) → first (drop at ts) ≡ x → (b : Bool) → sees m.Colon x ≡ b → PostChoice ts Q at x (semantic_by limits nodes p b)
        by x e true q = post_take ts Q at x _ (λ s. post_bind ts (IsNameAt ts (at + 1)) Q (name limits) _ (at + 1) s (post_name ts limits (at + 1) s)
            (λ id to s1 i. subst (λ n. SemanticAt ts (Some id) p id.place at n) (sym i.1) (t.semantic (mark_stands ts at x m.Colon e q) i.0)))
        by x e false q = λ s. t.no_semantic (record { is = ap (sees m.Colon) e ∙ q })

    abbrev IsParameter : ℕ → Parameter → ℕ → Type 0
    IsParameter at x to = ParameterAt ts x at to

    post_parameter_rest : (begin : Place) (how : Mode) (x : TypeTree) (from at seen : ℕ) → PassedAt ts how x begin from at → Post (IsParameter from) (parameter_rest limits nodes begin how x ts at seen)
    unfolding parameter_rest
    post_parameter_rest begin how x from at seen r = post_bind ts (λ y to. DeclaredNameAt ts y.0 y.1 at to) (IsParameter from) (declared_name limits) _ at seen (post_declared ts limits at seen)
        (λ y mid s1 d. post_bind ts (λ (z : Semantic limits nodes) to. SemanticAt ts z.0 y.1 z.1 mid to) (IsParameter from) (semantic limits nodes y.1) _ mid s1 (post_semantic y.1 mid s1) (λ z to s2 v. t.parameter r d v))

    post_plain : (at seen : ℕ) → Post (IsParameter at) (plain_parameter limits nodes ts at seen)
    unfolding plain_parameter
    post_plain at seen = post_bind ts (λ x to. TypeAt ts x.0 at to) (IsParameter at) (types limits nodes) _ at seen (post_types ts limits nodes at seen)
        (λ x mid s1 r. post_parameter_rest x.0.place mode.In x.0 at mid s1 (t.plain r))

    post_moded : (begin : Place) (word : Word) (how : Mode) (at seen : ℕ) → Stands ts at (k.Word word) begin → mode_of word ≡ Some how → Post (IsParameter at) (moded_parameter limits nodes begin how ts (at + 1) seen)
    unfolding moded_parameter
    post_moded begin word how at seen o q = post_bind ts (λ x to. TypeAt ts x.0 (at + 1) to) (IsParameter at) (types limits nodes) _ (at + 1) seen (post_types ts limits nodes (at + 1) seen)
        (λ x mid s1 r. post_parameter_rest begin how x.0 at mid s1 (t.moded o q r))

    post_plain_as : (at : ℕ) (x : Option Lexed) (v : DeclarationUse) → PostChoice ts (IsParameter at) at x (plain_as limits nodes v)
    post_plain_as at x u.Typed = λ s. post_plain at s
    post_plain_as at x u.Struct = tt
    post_plain_as at x u.Interface = tt
    post_plain_as at x u.Extension = tt
    post_plain_as at x u.TypeDef = tt
    post_plain_as at x u.TypeAlias = tt
    post_plain_as at x u.Static = tt
    post_plain_as at x u.Associated = tt
    post_plain_as at x u.Nothing = tt

    post_parameter : (count at seen : ℕ) → Post (IsParameter at) (parameter limits nodes count ts at seen)
    unfolding parameter
    post_parameter count at seen = post_next ts (IsParameter at) _ at seen
        (λ x e. post_fits ts (IsParameter at) at x (fits_in limits count limits.items) code.TooLong (parameter_at limits nodes x) (λ f. go x e))
      where
        word_case : (tok : Lexed) (word : Word) → first (drop at ts) ≡ Some tok → tok.kind ≡ k.Word word → (a : Option Mode) → mode_of word ≡ a → PostChoice ts (IsParameter at) at (Some tok) (parameter_word limits nodes tok word a)
        word_case tok word e d (Some how) q = λ s. post_moded tok.place word how at s (stands ts at tok (k.Word word) e d) q
        word_case tok word e d None q = post_plain_as at (Some tok) (declaration_use (k.Word word))

        by : (tok : Lexed) → first (drop at ts) ≡ Some tok → (kind : Kind) → tok.kind ≡ kind → PostChoice ts (IsParameter at) at (Some tok) (parameter_by limits nodes tok kind)
        by tok e k.Name d = λ s. post_plain at s
        by tok e (k.Word word) d = word_case tok word e d (mode_of word) refl
        by tok e (k.Number v) d = tt
        by tok e k.String d = tt
        by tok e (k.Mark mark) d = tt

        go : (x : Option Lexed) → first (drop at ts) ≡ x → PostChoice ts (IsParameter at) at x (parameter_at limits nodes x)
        go (Some tok) e = by tok e tok.kind refl
        go None e = tt

    IsParameterMore : List Parameter → List Parameter → ℕ → ℕ → Type 0
    IsParameterMore a b from to = (p : Place) × (x : Parameter) × Stands ts from (k.Mark m.Comma) p × ParameterAt ts x (from + 1) to × (b ≡ a ++ x ∷ [])

    post_parameter_more : (a : List Parameter) (at seen : ℕ) → Post (λ b to. IsParameterMore a b at to) (parameter_more limits nodes a ts at seen)
    unfolding parameter_more IsParameterMore
    post_parameter_more a at seen = post_bind ts (IsMarkAt ts m.Comma at) (λ b to. IsParameterMore a b at to) (expect m.Comma) _ at seen (post_expect ts m.Comma at seen)
        (λ p a1 s1 o. post_bind ts (IsParameter a1) (λ b to. IsParameterMore a b at to) (parameter limits nodes (length a)) _ a1 s1 (post_parameter (length a) a1 s1)
        (λ x to s2 r. let q : IsParameterMore a (a ++ x ∷ []) at to = (p, x, o.0, subst (λ n. ParameterAt ts x n to) o.1 r, refl) in q))

    post_some : (at seen : ℕ) (p : Place) → Stands ts at (k.Mark m.OpenParen) p → Post (λ list to. ParametersAt ts list at to) (some_parameters limits nodes ts (at + 1) seen)
    unfolding some_parameters IsParameterMore
    post_some at seen p o = post_bind ts (IsParameter (at + 1)) (λ list to. ParametersAt ts list at to) (parameter limits nodes 0) _ (at + 1) seen (post_parameter 0 (at + 1) seen)
        (λ x a1 s1 r. post_bind ts (λ all to. MoreParametersAt ts (x ∷ []) all a1 to) (λ list to. ParametersAt ts list at to) (turns (sees m.Comma) (parameter_more limits nodes) limits.turns (x ∷ [])) _ a1 s1
        (post_turns ts (λ a b from to. MoreParametersAt ts a b from to) IsParameterMore (sees m.Comma) (parameter_more limits nodes) (λ a at. t.end)
        (λ a b c from mid to i q. t.more i.2 i.3 (subst (λ list. MoreParametersAt ts list c mid to) i.4 q)) (λ a from s2 e. post_parameter_more a from s2) limits.turns (x ∷ []) a1 s1)
        (λ all a2 s2 q. post_bind ts (IsMarkAt ts m.CloseParen a2) (λ list to. ParametersAt ts list at to) (expect m.CloseParen) _ a2 s2 (post_expect ts m.CloseParen a2 s2)
        (λ end to s3 z. subst (λ n. ParametersAt ts all at n) (sym z.1) (t.parameters o r q z.0))))

    pub post_parameters : (at seen : ℕ) → Post (λ list to. ParametersAt ts list at to) (parameters limits nodes ts at seen)
    unfolding parameters
    post_parameters at seen = post_bind ts (IsMarkAt ts m.OpenParen at) (λ list to. ParametersAt ts list at to) (expect m.OpenParen) _ at seen (post_expect ts m.OpenParen at seen)
        (λ p a1 s1 o. subst (λ n. Post (λ list to. ParametersAt ts list at to) (next (λ x. parameters_by limits nodes (sees m.CloseParen x)) ts n s1)) (sym o.1)
        (post_next ts (λ list to. ParametersAt ts list at to) _ (at + 1) s1 (λ x e. by p o.0 x (sees m.CloseParen x))))
      where
        by : (p : Place) → Stands ts at (k.Mark m.OpenParen) p → (x : Option Lexed) (b : Bool) → PostChoice ts (λ list to. ParametersAt ts list at to) (at + 1) x (parameters_by limits nodes b)
        by p o x true = λ s. post_bind ts (IsMarkAt ts m.CloseParen (at + 1)) (λ list to. ParametersAt ts list at to) (expect m.CloseParen) _ (at + 1) s (post_expect ts m.CloseParen (at + 1) s)
            (λ q to s1 z. subst (λ n. ParametersAt ts [] at n) (sym z.1) (t.no_parameters o z.0))
        by p o x false = λ s. post_some at s p o

-- ---- what closes

pub post_closed : (ts : List Lexed) (at seen : ℕ) → Post (λ p to. ClosedAt ts p at to) (closed ts at seen)
unfolding closed
post_closed ts at seen = post_bind ts (IsMarkAt ts m.CloseBrace at) (λ p to. ClosedAt ts p at to) (expect m.CloseBrace) _ at seen (post_expect ts m.CloseBrace at seen)
    (λ p a1 s1 o. subst (λ n. Post (λ p to. ClosedAt ts p at to) (next (λ x. closed_by p x (sees m.Semicolon x)) ts n s1)) (sym o.1)
    (post_next ts (λ p to. ClosedAt ts p at to) _ (at + 1) s1 (λ x e. by p o.0 x e (sees m.Semicolon x) refl)))
  where
    by : (p : Place) → Stands ts at (k.Mark m.CloseBrace) p → (x : Option Lexed) → first (drop (at + 1) ts) ≡ x → (b : Bool) → sees m.Semicolon x ≡ b → PostChoice ts (λ p to. ClosedAt ts p at to) (at + 1) x (closed_by p x b)
    by p o x e true q = post_take ts (λ p to. ClosedAt ts p at to) (at + 1) x (pure (place_of x)) (λ s. t.semicolon o (mark_stands ts (at + 1) x m.Semicolon e q))
    by p o x e false q = λ s. t.brace o (record { is = ap (sees m.Semicolon) e ∙ q })
