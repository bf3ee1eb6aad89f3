-- Types: what the descent reads is spelled.
use Rattle.std.proofs.Common.{Bool, true, false, ◌≡◌, ℕ, zero, suc, ◌+◌, max, List, [], ◌∷◌, ◌++◌, drop, length, Option, Some, None, refl, sym, ◌∙◌, ap, subst}
use Rattle.std.specs.Prelude.{nat_lt}
use Rattle.slang_names.specs.declared.places.Place.{Place}
use Rattle.slang_names.specs.declared.codes.ModuleCode.TheVariants as code
use Rattle.slang_tree.specs.declared.types.Identifier.{Identifier}
use Rattle.slang_tree.specs.declared.types.Resource.{Resource}
use Rattle.slang_tree.specs.declared.types.TypeNode.TheVariants as n
use Rattle.slang_tree.specs.declared.types.GenericArgument.{GenericArgument}
use Rattle.slang_tokens.specs.declared.tokens.Kind.{Kind}
use Rattle.slang_tokens.specs.declared.tokens.Kind.TheVariants as k
use Rattle.slang_tokens.specs.declared.tokens.Mark.TheVariants as m
use Rattle.slang_tokens.specs.declared.tokens.Word.{Word}
use Rattle.slang_tokens.specs.declared.tokens.Word.TheVariants as w
use Rattle.slang_reading.specs.Lexed.{Lexed}
use Rattle.slang_reading.specs.Reading.{Parser, Choice, Leave, Take, first, pure, turns}
use Rattle.slang_reading.specs.Kinds.{sees, span}
use Rattle.slang_reading.proofs.Marks.{sees_some}
use Rattle.slang_reading.proofs.Exact.{Post, PostChoice, post_bind, post_next, post_fits, post_turns}
use Rattle.slang_grammar.specs.Tables.{builtin_of, resource_of}
use Rattle.slang_grammar.specs.Standing.{Stands, NameStands}
use Rattle.slang_grammar.specs.Types as t
use Rattle.slang_grammar.specs.Types.{typed, TypeAt, TypeNameAt, ProjectionsAt, ArgumentsAt, MoreArgumentsAt, ArgumentAt}
use Rattle.slang_grammar.specs.Descent.{Limits, fits_in, expect, name, identifier, is_short, bracketed}
use Rattle.slang_grammar.specs.TypesDescent.{Type_, Argument, Arguments, WordUse, IsBuiltin, IsResource, IsThis, IsOther, use_of, type_argument, begins_type, word_argument, argument_by, argument_of, argument, argument_more, arguments, name_rest_by, name_rest, resource_rest, node, type_word, type_by, type_of, type_name, project_rest, project_by, project, length_rest, length_by, array, type_rest, no_types, types}
use Rattle.slang_grammar.proofs.Shared.{stands, name_stands, IsMarkAt, post_expect, IsNameAt, post_name, IsTermAt, post_bracketed}

-- ---- what a word begins

abbrev UseIs : Word → WordUse → Type 0
UseIs word (IsBuiltin b) = builtin_of word ≡ Some b
UseIs word (IsResource r) = resource_of word ≡ Some r
UseIs word IsThis = word ≡ w.ThisType
UseIs word IsOther = Unit {0}

use_is : (word : Word) → UseIs word (use_of word)
use_is w.AssociatedType = tt
use_is w.Bool = refl
use_is w.Break = tt
use_is w.Const = tt
use_is w.Continue = tt
use_is w.Else = tt
use_is w.Extension = tt
use_is w.False = tt
use_is w.For = tt
use_is w.If = tt
use_is w.Import = tt
use_is w.In = tt
use_is w.InOut = tt
use_is w.Int = refl
use_is w.Int2 = refl
use_is w.Int3 = refl
use_is w.Int4 = refl
use_is w.Interface = tt
use_is w.Internal = tt
use_is w.Let = tt
use_is w.Module = tt
use_is w.Out = tt
use_is w.Private = tt
use_is w.Public = tt
use_is w.Return = tt
use_is w.Static = tt
use_is w.Struct = tt
use_is w.ThisType = refl
use_is w.ThisValue = tt
use_is w.True = tt
use_is w.TypeAlias = tt
use_is w.TypeDef = tt
use_is w.Uint = refl
use_is w.Uint2 = refl
use_is w.Uint3 = refl
use_is w.Uint4 = refl
use_is w.Void = refl
use_is w.Where = tt
use_is w.While = tt
use_is w.StructuredBuffer = refl
use_is w.RwStructuredBuffer = refl
use_is w.ConstantBuffer = refl
use_is w.ParameterBlock = refl

-- ---- arguments

module _ (ts : List Lexed) (limits : Limits) (room : Bool) (d : ℕ) (inner : Parser Type_) (h : (at seen : ℕ) → Post (λ x to. TypeAt ts x.0 at to) (inner ts at seen)) where
  IsArgumentAt : ℕ → Argument → ℕ → Type 0
  IsArgumentAt at x to = ArgumentAt ts x.0 at to

  post_type_argument : (at seen : ℕ) → Post (IsArgumentAt at) (type_argument limits room d inner ts at seen)
  unfolding type_argument IsArgumentAt
  post_type_argument at seen = post_bind ts (λ x to. TypeAt ts x.0 at to) (IsArgumentAt at) inner _ at seen (h at seen) (λ x mid seen1 r. t.type_argument r)

  post_begins : (at : ℕ) (x : Option Lexed) → PostChoice ts (IsArgumentAt at) at x (begins_type limits room d inner x)
  post_begins at x = post_fits ts (IsArgumentAt at) at x (nat_lt 0 d) code.TooNested (Leave (type_argument limits room d inner)) (λ f seen1. post_type_argument at seen1)

  post_word_argument : (at : ℕ) (x : Option Lexed) (u : WordUse) → PostChoice ts (IsArgumentAt at) at x (word_argument limits room d inner x u)
  post_word_argument at x (IsBuiltin b) = post_begins at x
  post_word_argument at x (IsResource r) = post_begins at x
  post_word_argument at x IsThis = post_begins at x
  post_word_argument at x IsOther = tt

  post_argument_by : (at : ℕ) (tok : Lexed) → first (drop at ts) ≡ Some tok → (kind : Kind) → tok.kind ≡ kind → PostChoice ts (IsArgumentAt at) at (Some tok) (argument_by limits room d inner tok kind)
  unfolding IsArgumentAt
  post_argument_by at tok e (k.Number v) q = λ seen1. t.number_argument (stands ts at tok (k.Number v) e q)
  post_argument_by at tok e k.Name q = post_begins at (Some tok)
  post_argument_by at tok e (k.Word word) q = post_word_argument at (Some tok) (use_of word)
  post_argument_by at tok e k.String q = tt
  post_argument_by at tok e (k.Mark mark) q = tt

  post_argument_of : (at : ℕ) (x : Option Lexed) → first (drop at ts) ≡ x → PostChoice ts (IsArgumentAt at) at x (argument_of limits room d inner x)
  post_argument_of at (Some tok) e = post_argument_by at tok e tok.kind refl
  post_argument_of at None e = tt

  post_argument : (count at seen : ℕ) → Post (IsArgumentAt at) (argument limits room d inner count ts at seen)
  unfolding argument
  post_argument count at seen = post_next ts (IsArgumentAt at) _ at seen
      (λ x e. post_fits ts (IsArgumentAt at) at x (fits_in limits count limits.items) code.TooLong (argument_of limits room d inner x) (λ f. post_argument_of at x e))

  -- one more argument
  MoreAt : Arguments → Arguments → ℕ → ℕ → Type 0
  MoreAt list longer from mid = (p : Place) × (x : GenericArgument) × Stands ts from (k.Mark m.Comma) p × ArgumentAt ts x (from + 1) mid × (longer.0 ≡ list.0 ++ x ∷ [])

  post_argument_more : (list : Arguments) (at seen : ℕ) → Post (λ longer mid. MoreAt list longer at mid) (argument_more limits room d inner list ts at seen)
  unfolding argument_more MoreAt IsArgumentAt
  post_argument_more list at seen = post_bind ts (IsMarkAt ts m.Comma at) (λ longer mid. MoreAt list longer at mid) (expect m.Comma) _ at seen (post_expect ts m.Comma at seen)
      (λ p mid seen1 s. post_bind ts (IsArgumentAt mid) (λ longer mid. MoreAt list longer at mid) (argument limits room d inner (length list.0)) _ mid seen1 (post_argument (length list.0) mid seen1)
      (λ x to seen2 r. let q : MoreAt list (list.0 ++ x.0 ∷ [], max list.1 x.1) at to = (p, x.0, s.0, subst (λ n. ArgumentAt ts x.0 n to) s.1 r, refl) in q))

  pub post_arguments : (at seen : ℕ) → Post (λ r to. ArgumentsAt ts r.0.0 r.1 at to) (arguments limits room d inner ts at seen)
  unfolding arguments MoreAt IsArgumentAt
  post_arguments at seen =
      let Q : Arguments × Place → ℕ → Type 0 = λ r to. ArgumentsAt ts r.0.0 r.1 at to in
      post_bind ts (IsMarkAt ts m.Less at) Q (expect m.Less) _ at seen (post_expect ts m.Less at seen)
      (λ p mid seen1 s. post_bind ts (IsArgumentAt mid) Q (argument limits room d inner 0) _ mid seen1 (post_argument 0 mid seen1)
      (λ x mid2 seen2 r. post_bind ts (λ all to. MoreArgumentsAt ts (x.0 ∷ []) all.0 mid2 to) Q (turns (sees m.Comma) (argument_more limits room d inner) limits.turns (x.0 ∷ [], x.1)) _ mid2 seen2
      (post_turns ts (λ a b from to. MoreArgumentsAt ts a.0 b.0 from to) MoreAt (sees m.Comma) (argument_more limits room d inner) (λ a at. t.end)
      (λ a b c from mid to o q. t.more o.2 o.3 (subst (λ l. MoreArgumentsAt ts l c.0 mid to) o.4 q)) (λ a from seen3 e. post_argument_more a from seen3) limits.turns (x.0 ∷ [], x.1) mid2 seen2)
      (λ all mid3 seen3 q. post_bind ts (IsMarkAt ts m.Greater mid3) Q (expect m.Greater) _ mid3 seen3 (post_expect ts m.Greater mid3 seen3)
      (λ end to seen4 u. subst (λ n. ArgumentsAt ts all.0 end at n) (sym u.1) (t.arguments s.0 (subst (λ n. ArgumentAt ts x.0 n mid2) s.1 r) q u.0)))))

  -- ---- names of types

  IsTypeNameAt : ℕ → Type_ → ℕ → Type 0
  IsTypeNameAt at x to = TypeNameAt ts x.0 at to

  post_name_rest : (id : Identifier) (at seen : ℕ) → NameStands ts at id → Post (IsTypeNameAt at) (name_rest limits room d inner id ts (at + 1) seen)
  unfolding name_rest IsTypeNameAt
  post_name_rest id at seen s = post_next ts (IsTypeNameAt at) _ (at + 1) seen (λ x e. by x (sees m.Less x))
    where
      by : (x : Option Lexed) (b : Bool) → PostChoice ts (IsTypeNameAt at) (at + 1) x (name_rest_by limits room d inner id b)
      by x true = λ seen1. post_bind ts (λ r to. ArgumentsAt ts r.0.0 r.1 (at + 1) to) (IsTypeNameAt at) (arguments limits room d inner) _ (at + 1) seen1 (post_arguments (at + 1) seen1)
          (λ a to seen2 r. t.generic s r)
      by x false = λ seen1. t.name s

  post_resource_rest : (word : Word) (r : Resource) (begin : Place) (at seen : ℕ) → Stands ts at (k.Word word) begin → resource_of word ≡ Some r →
      Post (IsTypeNameAt at) (resource_rest limits room d inner begin r ts (at + 1) seen)
  unfolding resource_rest IsTypeNameAt
  post_resource_rest word r begin at seen s q =
      post_bind ts (IsMarkAt ts m.Less (at + 1)) (IsTypeNameAt at) (expect m.Less) _ (at + 1) seen (post_expect ts m.Less (at + 1) seen)
      (λ p mid seen1 o. post_bind ts (λ x to. TypeAt ts x.0 mid to) (IsTypeNameAt at) inner _ mid seen1 (h mid seen1)
      (λ x mid2 seen2 u. post_bind ts (IsMarkAt ts m.Greater mid2) (IsTypeNameAt at) (expect m.Greater) _ mid2 seen2 (post_expect ts m.Greater mid2 seen2)
      (λ end to seen3 v. subst (λ to. TypeNameAt ts (typed (span begin end) (n.Resource r x.0)) at to) (sym v.1)
      (t.resource s q o.0 (subst (λ n. TypeAt ts x.0 n mid2) o.1 u) v.0))))

  post_node : (at : ℕ) (tok : Lexed) (c : Choice Type_) → PostChoice ts (IsTypeNameAt at) at (Some tok) c → PostChoice ts (IsTypeNameAt at) at (Some tok) (node limits room d inner tok c)
  post_node at tok c p = post_fits ts (IsTypeNameAt at) at (Some tok) room code.TooNested c (λ f. p)

  post_type_word : (at : ℕ) (tok : Lexed) (word : Word) → Stands ts at (k.Word word) tok.place → (u : WordUse) → UseIs word u →
      PostChoice ts (IsTypeNameAt at) at (Some tok) (type_word limits room d inner tok u)
  unfolding IsTypeNameAt
  post_type_word at tok word s (IsBuiltin b) q = post_node at tok (Take (pure (typed tok.place (n.Builtin b), 1))) (λ seen1. t.builtin s q)
  post_type_word at tok word s (IsResource r) q = post_node at tok (Take (resource_rest limits room d inner tok.place r)) (λ seen1. post_resource_rest word r tok.place at seen1 s q)
  post_type_word at tok word s IsThis q = post_node at tok (Take (pure (typed tok.place n.ThisType, 1))) (λ seen1. t.this_type (subst (λ x. Stands ts at (k.Word x) tok.place) q s))
  post_type_word at tok word s IsOther q = tt

  post_type_by : (at : ℕ) (tok : Lexed) → first (drop at ts) ≡ Some tok → (kind : Kind) → tok.kind ≡ kind → PostChoice ts (IsTypeNameAt at) at (Some tok) (type_by limits room d inner tok kind)
  post_type_by at tok e k.Name q = post_fits ts (IsTypeNameAt at) at (Some tok) (is_short limits tok) code.TooLong (node limits room d inner tok (Take (name_rest limits room d inner (identifier tok))))
      (λ f. post_node at tok (Take (name_rest limits room d inner (identifier tok))) (λ seen1. post_name_rest (identifier tok) at seen1 (name_stands ts at tok e q)))
  post_type_by at tok e (k.Word word) q = post_type_word at tok word (stands ts at tok (k.Word word) e q) (use_of word) (use_is word)
  post_type_by at tok e (k.Number v) q = tt
  post_type_by at tok e k.String q = tt
  post_type_by at tok e (k.Mark mark) q = tt

  post_type_of : (at : ℕ) (x : Option Lexed) → first (drop at ts) ≡ x → PostChoice ts (IsTypeNameAt at) at x (type_of limits room d inner x)
  post_type_of at (Some tok) e = post_type_by at tok e tok.kind refl
  post_type_of at None e = tt

  pub post_type_name : (at seen : ℕ) → Post (λ x to. TypeNameAt ts x.0 at to) (type_name limits room d inner ts at seen)
  unfolding type_name IsTypeNameAt
  post_type_name at seen = post_next ts (IsTypeNameAt at) (type_of limits room d inner) at seen (λ x e. post_type_of at x e)

-- ---- what follows the name of a type

module _ (ts : List Lexed) (limits : Limits) (d : ℕ) where
  -- one more projection
  ProjectAt : Type_ → Type_ → ℕ → ℕ → Type 0
  ProjectAt x y from mid = (p : Place) × (id : Identifier) × Stands ts from (k.Mark m.Dot) p × NameStands ts (from + 1) id × (y.0 ≡ typed (span x.0.place id.place) (n.Projection x.0 id)) × (mid ≡ from + 1 + 1)

  post_project : (x : Type_) (at seen : ℕ) → Post (λ y mid. ProjectAt x y at mid) (project limits d x ts at seen)
  unfolding project project_rest ProjectAt
  post_project x at seen = post_next ts (λ y mid. ProjectAt x y at mid) _ at seen go
    where
      rest : (tok : Lexed) → first (drop at ts) ≡ Some tok → tok.kind ≡ k.Mark m.Dot → (seen1 : ℕ) → Post (λ y mid. ProjectAt x y at mid) (project_rest limits d x ts (at + 1) seen1)
      rest tok e q seen1 = post_bind ts (IsNameAt ts (at + 1)) (λ y mid. ProjectAt x y at mid) (name limits) _ (at + 1) seen1 (post_name ts limits (at + 1) seen1)
          (λ id to seen2 r. let u : ProjectAt x (typed (span x.0.place id.place) (n.Projection x.0 id), x.1 + 1) at to = (tok.place, id, stands ts at tok (k.Mark m.Dot) e q, r.0, refl, r.1) in u)

      by : (t : Option Lexed) → first (drop at ts) ≡ t → (b : Bool) → sees m.Dot t ≡ b → PostChoice ts (λ y mid. ProjectAt x y at mid) at t (project_by limits d x t b)
      by (Some tok) e true q = let s = sees_some m.Dot (Some tok) q in
          post_fits ts (λ y mid. ProjectAt x y at mid) at (Some tok) (fits_in limits x.1 d) code.TooNested (Take (project_rest limits d x)) (λ f seen1. rest s.0 (e ∙ s.1) s.2 seen1)
      by None e true q = post_fits ts (λ y mid. ProjectAt x y at mid) at None (fits_in limits x.1 d) code.TooNested (Take (project_rest limits d x)) (λ f. tt)
      by t e false q = tt

      go : (t : Option Lexed) → first (drop at ts) ≡ t → PostChoice ts (λ y mid. ProjectAt x y at mid) at t (project_by limits d x t (sees m.Dot t))
      go t e = by t e (sees m.Dot t) refl

  pub post_projections : (x : Type_) (at seen : ℕ) → Post (λ y to. ProjectionsAt ts x.0 y.0 at to) (turns (sees m.Dot) (project limits d) limits.turns x ts at seen)
  unfolding ProjectAt
  post_projections x at seen = post_turns ts (λ a b from to. ProjectionsAt ts a.0 b.0 from to) ProjectAt (sees m.Dot) (project limits d) (λ a at. t.whole)
      (λ a b c from mid to o q. t.project o.2 o.3 (subst (λ mid. ProjectionsAt ts (typed (span a.0.place o.1.place) (n.Projection a.0 o.1)) c.0 mid to) o.5 (subst (λ y. ProjectionsAt ts y c.0 mid to) o.4 q)))
      (λ a from seen1 e. post_project a from seen1) limits.turns x at seen

  pub post_array : (from mid : ℕ) (b x : Type_) (at seen : ℕ) → TypeNameAt ts b.0 from mid → ProjectionsAt ts b.0 x.0 mid at → Post (λ y to. TypeAt ts y.0 from to) (array limits d x ts at seen)
  unfolding array length_rest
  post_array from mid b x at seen s r = post_next ts (λ y to. TypeAt ts y.0 from to) _ at seen go
    where
      rest : (tok : Lexed) → first (drop at ts) ≡ Some tok → tok.kind ≡ k.Mark m.OpenBracket → (seen1 : ℕ) → Post (λ y to. TypeAt ts y.0 from to) (length_rest limits d x ts (at + 1) seen1)
      rest tok e q seen1 = post_bind ts (IsTermAt ts (at + 1)) (λ y to. TypeAt ts y.0 from to) (bracketed limits) _ (at + 1) seen1 (post_bracketed ts limits (at + 1) seen1)
          (λ l mid2 seen2 u. post_bind ts (IsMarkAt ts m.CloseBracket mid2) (λ y to. TypeAt ts y.0 from to) (expect m.CloseBracket) _ mid2 seen2 (post_expect ts m.CloseBracket mid2 seen2)
          (λ end to seen3 v. subst (λ to. TypeAt ts (typed (span x.0.place end) (n.Array x.0 l)) from to) (sym (v.1 ∙ ap (λ n. n + 1) u.1))
          (t.array s r (stands ts at tok (k.Mark m.OpenBracket) e q) u.0 (subst (λ n. Stands ts n (k.Mark m.CloseBracket) end) u.1 v.0))))

      by : (o : Option Lexed) → first (drop at ts) ≡ o → (c : Bool) → sees m.OpenBracket o ≡ c → PostChoice ts (λ y to. TypeAt ts y.0 from to) at o (length_by limits d x o c)
      by (Some tok) e true q = let u = sees_some m.OpenBracket (Some tok) q in
          post_fits ts (λ y to. TypeAt ts y.0 from to) at (Some tok) (fits_in limits x.1 d) code.TooNested (Take (length_rest limits d x)) (λ f seen1. rest u.0 (e ∙ u.1) u.2 seen1)
      by None e true q = post_fits ts (λ y to. TypeAt ts y.0 from to) at None (fits_in limits x.1 d) code.TooNested (Take (length_rest limits d x)) (λ f. tt)
      by o e false q = λ seen1. t.plain s r

      go : (o : Option Lexed) → first (drop at ts) ≡ o → PostChoice ts (λ y to. TypeAt ts y.0 from to) at o (length_by limits d x o (sees m.OpenBracket o))
      go o e = by o e (sees m.OpenBracket o) refl

-- behind the name of a type
post_type_rest : (ts : List Lexed) (limits : Limits) (d from mid : ℕ) (b : Type_) (seen : ℕ) → TypeNameAt ts b.0 from mid → Post (λ x to. TypeAt ts x.0 from to) (type_rest limits d b ts mid seen)
unfolding type_rest
post_type_rest ts limits d from mid b seen s =
    post_bind ts (λ y to. ProjectionsAt ts b.0 y.0 mid to) (λ x to. TypeAt ts x.0 from to) (turns (sees m.Dot) (project limits d) limits.turns b) (array limits d) mid seen
    (post_projections ts limits d b mid seen) (λ x to seen1 r. post_array ts limits d from mid b x to seen1 s r)

-- what is read of a type is spelled
pub post_types : (ts : List Lexed) (limits : Limits) (d at seen : ℕ) → Post (λ x to. TypeAt ts x.0 at to) (types limits d ts at seen)
unfolding types
post_types ts limits zero at seen =
    post_bind ts (λ x to. TypeNameAt ts x.0 at to) (λ x to. TypeAt ts x.0 at to) (type_name limits false zero no_types) (type_rest limits zero) at seen
    (post_type_name ts limits false zero no_types (λ at seen. tt) at seen) (λ b mid seen1 s. post_type_rest ts limits zero at mid b seen1 s)
post_types ts limits (suc d) at seen =
    post_bind ts (λ x to. TypeNameAt ts x.0 at to) (λ x to. TypeAt ts x.0 at to) (type_name limits true d (types limits d)) (type_rest limits (suc d)) at seen
    (post_type_name ts limits true d (types limits d) (λ at seen. post_types ts limits d at seen) at seen) (λ b mid seen1 s. post_type_rest ts limits (suc d) at mid b seen1 s)
