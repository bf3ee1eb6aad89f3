-- Types: what is spelled is read, unless a limit is passed.
use Rattle.std.proofs.Common.{Bool, true, false, ◌≡◌, ℕ, zero, suc, ◌+◌, List, [], ◌∷◌, ◌++◌, map, drop, length, Some, refl, sym, ap, subst, arith, ◌<◌, ◌≤◌, length-append, ◌⊎◌, inl, inr}
use Rattle.std.specs.Prelude.{nat_lt}
use Rattle.slang_names.specs.declared.places.Place.{Place}
use Rattle.slang_names.specs.declared.codes.ModuleCode.TheVariants as code
use Rattle.slang_tree.specs.declared.types.Builtin.{Builtin}
use Rattle.slang_tree.specs.declared.types.Resource.{Resource}
use Rattle.slang_tree.specs.declared.types.Term.{Term}
use Rattle.slang_tree.specs.declared.types.TypeTree.{TypeTree}
use Rattle.slang_tree.specs.declared.types.TypeNode.TheVariants as n
use Rattle.slang_tree.specs.declared.types.GenericArgument.{GenericArgument}
use Rattle.slang_tree.specs.declared.types.GenericArgument.TheVariants as g
use Rattle.slang_tokens.specs.declared.tokens.Kind.{Kind}
use Rattle.slang_tokens.specs.declared.tokens.Kind.TheVariants as k
use Rattle.slang_tokens.specs.declared.tokens.Mark.TheVariants as m
use Rattle.slang_tokens.specs.declared.tokens.Word.{Word}
use Rattle.slang_tokens.specs.declared.tokens.Word.TheVariants as w
use Rattle.slang_reading.specs.Lexed.{Lexed}
use Rattle.slang_reading.specs.Reading.{Outcome, Done, Stop, Past, and_then, bind, Parser, Choice, Leave, Take, first, if_fits, ◌>>=◌, pure, turns}
use Rattle.slang_reading.specs.Kinds.{sees, span}
use Rattle.slang_reading.proofs.Exact.{Meets, Reads, ReadsChoice, reads_pure, reads_bind, reads_next, reads_fits, reads_turns_end, reads_turns_more, reads_turns_full}
use Rattle.slang_grammar.specs.Tables.{builtin_of, resource_of}
use Rattle.slang_grammar.specs.Standing.{Stands, IsNot}
use Rattle.slang_grammar.specs.Types as t
use Rattle.slang_grammar.specs.Types.{typed, TypeAt, TypeNameAt, ProjectionsAt, ArgumentsAt, MoreArgumentsAt, ArgumentAt, Quiet}
use Rattle.slang_grammar.specs.Descent.{Limits, fits_in, expect, name, identifier, bracketed}
use Rattle.slang_grammar.specs.Heights.{greatest, height, argument_height}
use Rattle.slang_grammar.specs.Sizes.{TypeFits, ArgumentsFit}
use Rattle.slang_grammar.specs.TypesDescent.{Type_, Argument, Arguments, IsBuiltin, IsResource, IsThis, builtin_use, use_of, type_argument, begins_type, word_argument, argument_of, argument, argument_more, arguments, name_rest_by, name_rest, resource_rest, node, type_word, type_by, type_of, type_name, project_rest, project_by, project, length_rest, length_by, array, type_rest, no_types, types}
use Rattle.slang_grammar.proofs.Heights.{height_builtin, height_this, height_named, height_resource, height_projection, height_array, height_term, height_number, greatest_more}
use Rattle.slang_grammar.proofs.Limited.{Turns, excuse_in, excuse_room}
use Rattle.slang_grammar.proofs.Shared.{reads_expect, reads_short, short_within, name_within, bracketed_within, not_there, is_there}
use Rattle.slang_grammar.proofs.TypesFitting.{type_positive, named_arguments, named_short, resource_inside, projection_over, projection_short, array_inside, array_over, array_short, projections_fit, arguments_last, argument_inside, arguments_fit}

-- ---- what a word begins

pub use_builtin : (word : Word) (b : Builtin) → builtin_of word ≡ Some b → use_of word ≡ IsBuiltin b
use_builtin word b e = ap (λ o. builtin_use o word) e

use_resource : (word : Word) (r : Resource) → resource_of word ≡ Some r → use_of word ≡ IsResource r
use_resource w.AssociatedType r e = cc
use_resource w.Bool r e = cc
use_resource w.Break r e = cc
use_resource w.Const r e = cc
use_resource w.Continue r e = cc
use_resource w.Else r e = cc
use_resource w.Extension r e = cc
use_resource w.False r e = cc
use_resource w.For r e = cc
use_resource w.If r e = cc
use_resource w.Import r e = cc
use_resource w.In r e = cc
use_resource w.InOut r e = cc
use_resource w.Int r e = cc
use_resource w.Int2 r e = cc
use_resource w.Int3 r e = cc
use_resource w.Int4 r e = cc
use_resource w.Interface r e = cc
use_resource w.Internal r e = cc
use_resource w.Let r e = cc
use_resource w.Module r e = cc
use_resource w.Out r e = cc
use_resource w.Private r e = cc
use_resource w.Public r e = cc
use_resource w.Return r e = cc
use_resource w.Static r e = cc
use_resource w.Struct r e = cc
use_resource w.ThisType r e = cc
use_resource w.ThisValue r e = cc
use_resource w.True r e = cc
use_resource w.TypeAlias r e = cc
use_resource w.TypeDef r e = cc
use_resource w.Uint r e = cc
use_resource w.Uint2 r e = cc
use_resource w.Uint3 r e = cc
use_resource w.Uint4 r e = cc
use_resource w.Void r e = cc
use_resource w.Where r e = cc
use_resource w.While r e = cc
use_resource w.StructuredBuffer r e = cc
use_resource w.RwStructuredBuffer r e = cc
use_resource w.ConstantBuffer r e = cc
use_resource w.ParameterBlock r e = cc

-- the answer with an equal height
with_height : (x : TypeTree) (h : ℕ) → height x ≡ h → ◌≡◌ {A = Type_} (x, h) (x, height x)
with_height x h e = ap (λ n. (x, n)) (sym e)

quiet_mark : (ts : List Lexed) (at : ℕ) (kind : Kind) (p : Place) → Stands ts at kind p → (sees m.Less (Some (record { kind = kind; place = p; bytes = [] })) ≡ false) →
    (sees m.Dot (Some (record { kind = kind; place = p; bytes = [] })) ≡ false) → (sees m.OpenBracket (Some (record { kind = kind; place = p; bytes = [] })) ≡ false) → Quiet ts at
quiet_mark ts at kind p s a b c = record { less = not_there ts m.Less at kind p s a; dot = not_there ts m.Dot at kind p s b; bracket = not_there ts m.OpenBracket at kind p s c }

-- behind the name of a type stands no `<` where nothing projected begins with one
projections_less : {ts : List Lexed} {x y : TypeTree} {from to : ℕ} → ProjectionsAt ts x y from to → IsNot ts m.Less to → IsNot ts m.Less from
projections_less t.whole q = q
projections_less {ts = ts} {from = from} (t.project {p = p} s i r) q = not_there ts m.Less from (k.Mark m.Dot) p s refl

-- and behind an argument stands a comma or what stands behind all of them
arguments_quiet : {ts : List Lexed} {xs ys : List GenericArgument} {from to : ℕ} → MoreArgumentsAt ts xs ys from to → Quiet ts to → Quiet ts from
arguments_quiet t.end q = q
arguments_quiet {ts = ts} {from = from} (t.more {p = p} s a r) q = quiet_mark ts from (k.Mark m.Comma) p s refl refl refl

-- what begins a list of arguments
pub less_there : {ts : List Lexed} {args : List GenericArgument} {end : Place} {from to : ℕ} → ArgumentsAt ts args end from to → sees m.Less (first (drop from ts)) ≡ true
less_there {ts = ts} {from = from} (t.arguments {p = p} s a r o) = is_there ts m.Less from p s

-- E holds where a limit may be passed.
module _ (E : Type 0) (limits : Limits) where
  -- the type is within the limits, or a limit may be passed
  abbrev pub TypeAllowed : ℕ → TypeTree → Type 0
  TypeAllowed d x = (TypeFits limits d x × Turns limits d) ⊎ E

  abbrev pub ArgumentsAllowed : ℕ → List GenericArgument → Type 0
  ArgumentsAllowed d args = (ArgumentsFit limits d args × Turns limits d) ⊎ E

  -- what follows of a type within the limits
  so : {Q : Type 0} (d : ℕ) (x : TypeTree) → TypeAllowed d x → (TypeFits limits d x → Q) → Q ⊎ E
  so d x a f = elim a [ inl h ↦ inl (f h.0) | inr e ↦ inr e ]

  across : (d : ℕ) (y x : TypeTree) → TypeAllowed d y → (TypeFits limits d y → TypeFits limits d x) → TypeAllowed d x
  across d y x a f = elim a [ inl h ↦ inl (f h.0, h.1) | inr e ↦ inr e ]

  fewer : (d : ℕ) → Turns limits (suc d) → Turns limits d
  fewer d u = let h = u.nodes in record { nodes = omega (arith, h); items = u.items }

  down : (d : ℕ) (y x : TypeTree) → TypeAllowed (suc d) y → (TypeFits limits (suc d) y → TypeFits limits d x) → TypeAllowed d x
  down d y x a f = elim a [ inl h ↦ inl (f h.0, fewer d h.1) | inr e ↦ inr e ]

  down_arguments : (d : ℕ) (y : TypeTree) (args : List GenericArgument) → TypeAllowed (suc d) y → (TypeFits limits (suc d) y → ArgumentsFit limits d args) → ArgumentsAllowed d args
  down_arguments d y args a f = elim a [ inl h ↦ inl (f h.0, fewer d h.1) | inr e ↦ inr e ]

  excuse_zero : (x : TypeTree) → TypeAllowed zero x → E
  excuse_zero x a = elim a [ inl h ↦ absurd (let l = h.0.nodes in let p = type_positive x in omega (arith, l, p)) | inr e ↦ e ]

  -- turns that are left for what may still stand over a type
  abbrev Counts : ℕ → ℕ → TypeTree → Type 0
  Counts d count x = (d ≤ height x + count) ⊎ E

  counts_all : (d : ℕ) (y x : TypeTree) → TypeAllowed d y → Counts d limits.turns x
  counts_all d y x a = elim a [ inl h ↦ inl (let l = h.1.nodes in omega (arith, l)) | inr e ↦ inr e ]

  counts_next : (d count : ℕ) (x y : TypeTree) → height x < height y → Counts d (suc count) x → Counts d count y
  counts_next d count x y lt c = elim c [ inl h ↦ inl (omega (arith, h, lt)) | inr e ↦ inr e ]

  counts_none : (d : ℕ) (x : TypeTree) → Counts d zero x → (height x < d) ⊎ E → E
  counts_none d x c a = elim c [ inl h ↦ elim a [ inl l ↦ absurd (omega (arith, h, l)) | inr e ↦ e ] | inr e ↦ e ]

  -- turns that are left for what may still stand in a list
  abbrev ListCounts : ℕ → List GenericArgument → Type 0
  ListCounts count xs = (limits.items ≤ length xs + count) ⊎ E

  list_counts_all : (d : ℕ) (ys xs : List GenericArgument) → ArgumentsAllowed d ys → ListCounts limits.turns xs
  list_counts_all d ys xs a = elim a [ inl h ↦ inl (let l = h.1.items in omega (arith, l)) | inr e ↦ inr e ]

  list_counts_next : (count : ℕ) (xs : List GenericArgument) (x : GenericArgument) → ListCounts (suc count) xs → ListCounts count (xs ++ x ∷ [])
  list_counts_next count xs x c = elim c [ inl h ↦ inl (omega (arith, h, length-append xs (x ∷ []))) | inr e ↦ inr e ]

  list_counts_none : (d : ℕ) (xs : List GenericArgument) (x : GenericArgument) → ListCounts zero xs → ArgumentsAllowed d (xs ++ x ∷ []) → E
  list_counts_none d xs x c a = elim c [ inl h ↦ elim a [ inl f ↦ absurd (let l = arguments_last limits d xs x f.0 in omega (arith, h, l)) | inr e ↦ e ] | inr e ↦ e ]

  list_across : (d : ℕ) (ys xs : List GenericArgument) → ArgumentsAllowed d ys → (ArgumentsFit limits d ys → ArgumentsFit limits d xs) → ArgumentsAllowed d xs
  list_across d ys xs a f = elim a [ inl h ↦ inl (f h.0, h.1) | inr e ↦ inr e ]

  list_room : (d : ℕ) (xs : List GenericArgument) (x : GenericArgument) → ArgumentsAllowed d (xs ++ x ∷ []) → (length xs < limits.items) ⊎ E
  list_room d xs x a = elim a [ inl h ↦ inl (arguments_last limits d xs x h.0) | inr e ↦ inr e ]

  list_type : (d : ℕ) (xs : List GenericArgument) (x : TypeTree) → ArgumentsAllowed d (xs ++ g.Term x ∷ []) → TypeAllowed d x
  list_type d xs x a = elim a [ inl h ↦ inl (argument_inside limits d xs x h.0, h.1) | inr e ↦ inr e ]

  has_room : (d : ℕ) (x : TypeTree) → TypeAllowed d x → (0 < d) ⊎ E
  has_room d x a = so d x a (λ f. let l = f.nodes in let p = type_positive x in omega (arith, l, p))

  -- ---- what follows the name of a type

  projections_within : {ts : List Lexed} {x y : TypeTree} {from to : ℕ} → ProjectionsAt ts x y from to → IsNot ts m.Dot to → (d count seen : ℕ) → TypeAllowed d y → Counts d count x →
      Reads E (turns (sees m.Dot) (project limits d) count (x, height x)) ts from seen (y, height y) to
  unfolding project project_rest
  projections_within {ts = ts} {x = x} {from = from} t.whole q d count seen a c = reads_turns_end E ts (sees m.Dot) (project limits d) count (x, height x) from seen q.is
  projections_within {ts = ts} {x = x} {y = y} {from = from} {to = to} (t.project {p = p} {id = id} s i r) q d zero seen a c =
      let place = span x.place id.place in
      let z = typed place (n.Projection x id) in
      reads_turns_full E ts (sees m.Dot) (project limits d) (x, height x) (y, height y) from seen to (is_there ts m.Dot from p s)
      (counts_none d x c (so d z (across d y z a (projections_fit r limits d)) (projection_over limits place d x id)))
  projections_within {ts = ts} {x = x} {y = y} {from = from} {to = to} (t.project {p = p} {id = id} s i r) q d (suc count) seen a c =
      let place = span x.place id.place in
      let z = typed place (n.Projection x id) in
      let here = across d y z a (projections_fit r limits d) in
      let tall = height_projection place x id in
      reads_turns_more E ts (sees m.Dot) (project limits d) count (x, height x) (z, height z) (y, height y) from seen (from + 1 + 1) to (is_there ts m.Dot from p s)
      (λ seen1. reads_next E ts _ from seen1 (z, height z) (from + 1 + 1) (first (drop from ts)) (project_by limits d (x, height x) (first (drop from ts)) true) refl
      (ap (project_by limits d (x, height x) (first (drop from ts))) (is_there ts m.Dot from p s))
      (subst (λ o. ReadsChoice E ts from (z, height z) (from + 1 + 1) o (project_by limits d (x, height x) o true)) (sym s.is)
      (reads_fits E ts from (z, height z) (from + 1 + 1) (Some _) (fits_in limits (height x) d) code.TooNested (Take (project_rest limits d (x, height x))) (excuse_in E limits (height x) d (so d z here (projection_over limits place d x id)))
      (λ seen2. reads_bind E ts (name limits) _ (from + 1) seen2 (from + 1 + 1) (from + 1 + 1) id (z, height z) (name_within E ts limits id (from + 1) seen2 (so d z here (projection_short limits place d x id)) i)
      (λ seen3. subst (λ a. Reads E (pure a) ts (from + 1 + 1) seen3 (z, height z) (from + 1 + 1)) (sym (with_height z (height x + 1) tall))
      (reads_pure E ts (z, height z) (from + 1 + 1) seen3))))))
      (λ seen1. projections_within r q d count seen1 a (counts_next d count x z (omega (arith, tall)) c))

  reads_array : {ts : List Lexed} (x : TypeTree) (to : ℕ) → IsNot ts m.OpenBracket to → (d seen : ℕ) → Reads E (array limits d (x, height x)) ts to seen (x, height x) to
  unfolding array
  reads_array {ts = ts} x to q d seen = reads_next E ts _ to seen (x, height x) to (first (drop to ts)) (Leave (pure (x, height x))) refl
      (ap (length_by limits d (x, height x) (first (drop to ts))) q.is) (λ seen1. reads_pure E ts (x, height x) to seen1)

  length_within : {ts : List Lexed} (x : TypeTree) (l : Term) (at : ℕ) (p end : Place) → Stands ts at (k.Mark m.OpenBracket) p → t.TermAt ts l (at + 1) → Stands ts (at + 1 + 1) (k.Mark m.CloseBracket) end →
      (d seen : ℕ) → TypeAllowed d (typed (span x.place end) (n.Array x l)) → Reads E (array limits d (x, height x)) ts at seen (typed (span x.place end) (n.Array x l), height (typed (span x.place end) (n.Array x l))) (at + 1 + 1 + 1)
  unfolding array length_rest
  length_within {ts = ts} x l at p end s i o d seen a =
      let place = span x.place end in
      let z = typed place (n.Array x l) in
      reads_next E ts _ at seen (z, height z) (at + 1 + 1 + 1) (first (drop at ts)) (length_by limits d (x, height x) (first (drop at ts)) true) refl
      (ap (length_by limits d (x, height x) (first (drop at ts))) (is_there ts m.OpenBracket at p s))
      (subst (λ o. ReadsChoice E ts at (z, height z) (at + 1 + 1 + 1) o (length_by limits d (x, height x) o true)) (sym s.is)
      (reads_fits E ts at (z, height z) (at + 1 + 1 + 1) (Some _) (fits_in limits (height x) d) code.TooNested (Take (length_rest limits d (x, height x))) (excuse_in E limits (height x) d (so d z a (array_over limits place d x l)))
      (λ seen1. reads_bind E ts (bracketed limits) _ (at + 1) seen1 (at + 1 + 1) (at + 1 + 1 + 1) l (z, height z) (bracketed_within E ts limits l (at + 1) seen1 (so d z a (array_short limits place d x l)) i)
      (λ seen2. reads_bind E ts (expect m.CloseBracket) _ (at + 1 + 1) seen2 (at + 1 + 1 + 1) (at + 1 + 1 + 1) end (z, height z) (reads_expect E ts m.CloseBracket end (at + 1 + 1) seen2 o)
      (λ seen3. subst (λ a. Reads E (pure a) ts (at + 1 + 1 + 1) seen3 (z, height z) (at + 1 + 1 + 1)) (sym (with_height z (height x + 1) (height_array place x l)))
      (reads_pure E ts (z, height z) (at + 1 + 1 + 1) seen3))))))

  -- an answer whose height is computed
  reads_tall : (ts : List Lexed) (z : TypeTree) (h at seen : ℕ) → height z ≡ h → Reads {A = Type_} E (pure (z, h)) ts at seen (z, height z) at
  reads_tall ts z h at seen q = subst (λ (a : Type_). Reads {A = Type_} E (pure a) ts at seen (z, height z) at) (sym (with_height z h q)) (reads_pure E ts (z, height z) at seen)

  -- with no room at all
  reads_none : {ts : List Lexed} {x : TypeTree} {from to : ℕ} → TypeNameAt ts x from to → E → (a : Type_) (end seen : ℕ) → Reads E (type_name limits false zero no_types) ts from seen a end
  unfolding type_name
  reads_none {ts = ts} {from = from} (t.builtin {p = p} {word = word} {b = b} s q) e a end seen =
      let tok : Lexed = record { kind = k.Word word; place = p; bytes = s.bytes } in
      reads_next E ts (type_of limits false zero no_types) from seen a end (Some tok) (type_word limits false zero no_types tok (IsBuiltin b)) s.is
      (ap (type_word limits false zero no_types tok) (use_builtin word b q)) e
  reads_none {ts = ts} {from = from} (t.this_type {p = p} s) e a end seen =
      let tok : Lexed = record { kind = k.Word w.ThisType; place = p; bytes = s.bytes } in
      reads_next E ts (type_of limits false zero no_types) from seen a end (Some tok) (type_word limits false zero no_types tok IsThis) s.is refl e
  reads_none {ts = ts} {from = from} (t.name {id = id} i) e a end seen =
      let tok : Lexed = record { kind = k.Name; place = id.place; bytes = id.name } in
      reads_next E ts (type_of limits false zero no_types) from seen a end (Some tok) (type_by limits false zero no_types tok k.Name) i.is refl
      (reads_short E ts e limits from a end tok (node limits false zero no_types tok (Take (name_rest limits false zero no_types (identifier tok)))) e)
  reads_none {ts = ts} {from = from} (t.generic {id = id} i g) e a end seen =
      let tok : Lexed = record { kind = k.Name; place = id.place; bytes = id.name } in
      reads_next E ts (type_of limits false zero no_types) from seen a end (Some tok) (type_by limits false zero no_types tok k.Name) i.is refl
      (reads_short E ts e limits from a end tok (node limits false zero no_types tok (Take (name_rest limits false zero no_types (identifier tok)))) e)
  reads_none {ts = ts} {from = from} (t.resource {p = p} {word = word} {r = r} s q o u v) e a end seen =
      let tok : Lexed = record { kind = k.Word word; place = p; bytes = s.bytes } in
      reads_next E ts (type_of limits false zero no_types) from seen a end (Some tok) (type_word limits false zero no_types tok (IsResource r)) s.is
      (ap (type_word limits false zero no_types tok) (use_resource word r q)) e

  -- what may be anything is past a limit, and nothing follows it
  reads_past : (p : Parser Type_) (g : Type_ → Parser Type_) (ts : List Lexed) (at seen : ℕ) (b : Type_) (to : ℕ) → ((a : Type_) (end : ℕ) → Reads E p ts at seen a end) → Reads E (p >>= g) ts at seen b to
  unfolding bind
  reads_past p g ts at seen b to r = record { is = go (p ts at seen) (λ a end. (r a end).is) }
    where
      go : (o : Outcome Type_) → ((a : Type_) (end : ℕ) → Meets E a end o) → Meets E b to (and_then o (λ a at1 seen1. g a ts at1 seen1))
      go (Done c at1 seen1) m = let u = (m c 0).1 in let v = (m c 1).1 in absurd (omega arith)
      go (Stop seen1) m = absurd (m b to)
      go (Past code place seen1) m = m b to

  passes : (ts : List Lexed) (x : TypeTree) (from to : ℕ) {z : TypeTree} {mid : ℕ} → TypeNameAt ts z from mid → E → (seen : ℕ) →
      Reads {A = Type_} E (type_name limits false zero no_types >>= type_rest limits zero) ts from seen (x, height x) to
  passes ts x from to s e seen = reads_past (type_name limits false zero no_types) (type_rest limits zero) ts from seen (x, height x) to (λ a end. reads_none s e a end seen)

  -- the token that begins a type begins an argument
  record Begins (ts : List Lexed) (from : ℕ) (room : Bool) (d : ℕ) (inner : Parser Type_) : Type 0 where
    tok : Lexed
    is : first (drop from ts) ≡ Some tok
    choice : argument_of limits room d inner (Some tok) ≡ begins_type limits room d inner (Some tok)

  begins_name : {ts : List Lexed} {x : TypeTree} {from to : ℕ} → TypeNameAt ts x from to → (room : Bool) (d : ℕ) (inner : Parser Type_) → Begins ts from room d inner
  begins_name (t.builtin {p = p} {word = word} {b = b} s q) room d inner =
      record { tok = record { kind = k.Word word; place = p; bytes = s.bytes }; is = s.is; choice = ap (word_argument limits room d inner (Some _)) (use_builtin word b q) }
  begins_name (t.this_type {p = p} s) room d inner = record { tok = record { kind = k.Word w.ThisType; place = p; bytes = s.bytes }; is = s.is; choice = refl }
  begins_name (t.name {id = id} i) room d inner = record { tok = record { kind = k.Name; place = id.place; bytes = id.name }; is = i.is; choice = refl }
  begins_name (t.generic {id = id} i a) room d inner = record { tok = record { kind = k.Name; place = id.place; bytes = id.name }; is = i.is; choice = refl }
  begins_name (t.resource {p = p} {word = word} {r = r} s q o u v) room d inner =
      record { tok = record { kind = k.Word word; place = p; bytes = s.bytes }; is = s.is; choice = ap (word_argument limits room d inner (Some _)) (use_resource word r q) }

  begins : {ts : List Lexed} {x : TypeTree} {from to : ℕ} → TypeAt ts x from to → (room : Bool) (d : ℕ) (inner : Parser Type_) → Begins ts from room d inner
  begins (t.plain s r) room d inner = begins_name s room d inner
  begins (t.array s r o l c) room d inner = begins_name s room d inner

  abbrev tallest : List GenericArgument → ℕ
  tallest args = greatest (map argument_height args)

  tallest_one : (x : GenericArgument) → tallest (x ∷ []) ≡ argument_height x
  tallest_one x = omega arith

  -- a node that begins with the token, where there is room for one
  reads_node : (ts : List Lexed) (d : ℕ) (inner : Parser Type_) (at : ℕ) (a : Type_) (to : ℕ) (tok : Lexed) (c : Choice Type_) → ReadsChoice E ts at a to (Some tok) c →
      ReadsChoice E ts at a to (Some tok) (node limits true d inner tok c)
  reads_node ts d inner at a to tok c r = r

  mutual
    unfolding types type_rest type_name name_rest resource_rest arguments argument_more argument type_argument

    pub type_within : {ts : List Lexed} {x : TypeTree} {from to : ℕ} → TypeAt ts x from to → Quiet ts to → (d seen : ℕ) → TypeAllowed d x → Reads E (types limits d) ts from seen (x, height x) to
    type_within {ts = ts} {x = x} {from = from} {to = to} (t.plain s r) q zero seen a = passes ts x from to s (excuse_zero x a) seen
    type_within {ts = ts} {x = x} {from = from} {to = to} (t.array s r o l c) q zero seen a = passes ts x from to s (excuse_zero x a) seen
    type_within {ts = ts} {from = from} {to = to} (t.plain {mid = mid} {x = x} {y = y} s r) q (suc d) seen a =
        reads_bind E ts (type_name limits true d (types limits d)) _ from seen mid to (x, height x) (y, height y) (named_within s (projections_less r q.less) d seen (across (suc d) y x a (projections_fit r limits (suc d))))
        (λ seen1. reads_bind E ts (turns (sees m.Dot) (project limits (suc d)) limits.turns (x, height x)) (array limits (suc d)) mid seen1 to to (y, height y) (y, height y)
        (projections_within r q.dot (suc d) limits.turns seen1 a (counts_all (suc d) y x a)) (λ seen2. reads_array y to q.bracket (suc d) seen2))
    type_within {ts = ts} {from = from} (t.array {mid = mid} {at = at} {x = x} {y = y} {t = l} {p = p} {end = end} s r o u c) q (suc d) seen a =
        let z = typed (span y.place end) (n.Array y l) in
        let below = across (suc d) z y a (array_inside limits (span y.place end) (suc d) y l) in
        reads_bind E ts (type_name limits true d (types limits d)) _ from seen mid (at + 1 + 1 + 1) (x, height x) (z, height z)
        (named_within s (projections_less r (not_there ts m.Less at (k.Mark m.OpenBracket) p o refl)) d seen (across (suc d) y x below (projections_fit r limits (suc d))))
        (λ seen1. reads_bind E ts (turns (sees m.Dot) (project limits (suc d)) limits.turns (x, height x)) (array limits (suc d)) mid seen1 at (at + 1 + 1 + 1) (y, height y) (z, height z)
        (projections_within r (not_there ts m.Dot at (k.Mark m.OpenBracket) p o refl) (suc d) limits.turns seen1 below (counts_all (suc d) y x below)) (λ seen2. length_within y l at p end o u c (suc d) seen2 a))

    named_within : {ts : List Lexed} {x : TypeTree} {from to : ℕ} → TypeNameAt ts x from to → IsNot ts m.Less to → (d seen : ℕ) → TypeAllowed (suc d) x →
        Reads E (type_name limits true d (types limits d)) ts from seen (x, height x) to
    named_within {ts = ts} {from = from} (t.builtin {p = p} {word = word} {b = b} s q) l d seen c =
        let tok : Lexed = record { kind = k.Word word; place = p; bytes = s.bytes } in
        let z = typed p (n.Builtin b) in
        reads_next E ts (type_of limits true d (types limits d)) from seen (z, height z) (from + 1) (Some tok) (type_word limits true d (types limits d) tok (IsBuiltin b)) s.is
        (ap (type_word limits true d (types limits d) tok) (use_builtin word b q))
        (reads_node ts d (types limits d) from (z, height z) (from + 1) tok (Take (pure (z, 1))) (λ seen1. reads_tall ts z 1 (from + 1) seen1 (height_builtin p b)))
    named_within {ts = ts} {from = from} (t.this_type {p = p} s) l d seen c =
        let tok : Lexed = record { kind = k.Word w.ThisType; place = p; bytes = s.bytes } in
        let z = typed p n.ThisType in
        reads_next E ts (type_of limits true d (types limits d)) from seen (z, height z) (from + 1) (Some tok) (type_word limits true d (types limits d) tok IsThis) s.is refl
        (reads_node ts d (types limits d) from (z, height z) (from + 1) tok (Take (pure (z, 1))) (λ seen1. reads_tall ts z 1 (from + 1) seen1 (height_this p)))
    named_within {ts = ts} {from = from} (t.name {id = id} i) l d seen c =
        let tok : Lexed = record { kind = k.Name; place = id.place; bytes = id.name } in
        let z = typed id.place (n.Named id []) in
        let rest = name_rest limits true d (types limits d) (identifier tok) in
        reads_next E ts (type_of limits true d (types limits d)) from seen (z, height z) (from + 1) (Some tok) (type_by limits true d (types limits d) tok k.Name) i.is refl
        (short_within E ts limits from (z, height z) (from + 1) tok (node limits true d (types limits d) tok (Take rest)) (so (suc d) z c (named_short limits id.place (suc d) id []))
        (reads_node ts d (types limits d) from (z, height z) (from + 1) tok (Take rest)
        (λ seen1. reads_next E ts _ (from + 1) seen1 (z, height z) (from + 1) (first (drop (from + 1) ts)) (Leave (pure (z, 1))) refl
        (ap (name_rest_by limits true d (types limits d) id) l.is) (λ seen2. reads_tall ts z 1 (from + 1) seen2 (height_named id.place id [])))))
    named_within {ts = ts} {from = from} {to = to} (t.generic {id = id} {args = args} {end = end} i a) l d seen c =
        let tok : Lexed = record { kind = k.Name; place = id.place; bytes = id.name } in
        let z = typed (span id.place end) (n.Named id args) in
        let rest = name_rest limits true d (types limits d) (identifier tok) in
        reads_next E ts (type_of limits true d (types limits d)) from seen (z, height z) to (Some tok) (type_by limits true d (types limits d) tok k.Name) i.is refl
        (short_within E ts limits from (z, height z) to tok (node limits true d (types limits d) tok (Take rest)) (so (suc d) z c (named_short limits (span id.place end) (suc d) id args))
        (reads_node ts d (types limits d) from (z, height z) to tok (Take rest)
        (λ seen1. reads_next E ts _ (from + 1) seen1 (z, height z) to (first (drop (from + 1) ts)) (name_rest_by limits true d (types limits d) id true) refl
        (ap (name_rest_by limits true d (types limits d) id) (less_there a))
        (λ seen2. reads_bind E ts (arguments limits true d (types limits d)) _ (from + 1) seen2 to to ((args, tallest args), end) (z, height z) (arguments_within a true d seen2 (down_arguments d z args c (named_arguments limits (span id.place end) d id args)))
        (λ seen3. reads_tall ts z (tallest args + 1) to seen3 (height_named (span id.place end) id args))))))
    named_within {ts = ts} {from = from} (t.resource {at = at} {p = p} {q = q} {end = end} {word = word} {r = r} {x = x} s u o v c) l d seen b =
        let tok : Lexed = record { kind = k.Word word; place = p; bytes = s.bytes } in
        let z = typed (span p end) (n.Resource r x) in
        reads_next E ts (type_of limits true d (types limits d)) from seen (z, height z) (at + 1) (Some tok) (type_word limits true d (types limits d) tok (IsResource r)) s.is
        (ap (type_word limits true d (types limits d) tok) (use_resource word r u))
        (reads_node ts d (types limits d) from (z, height z) (at + 1) tok (Take (resource_rest limits true d (types limits d) p r))
        (λ seen1. reads_bind E ts (expect m.Less) _ (from + 1) seen1 (from + 1 + 1) (at + 1) q (z, height z) (reads_expect E ts m.Less q (from + 1) seen1 o)
        (λ seen2. reads_bind E ts (types limits d) _ (from + 1 + 1) seen2 at (at + 1) (x, height x) (z, height z) (type_within v (quiet_mark ts at (k.Mark m.Greater) end c refl refl refl) d seen2 (down d z x b (resource_inside limits (span p end) d r x)))
        (λ seen3. reads_bind E ts (expect m.Greater) _ at seen3 (at + 1) (at + 1) end (z, height z) (reads_expect E ts m.Greater end at seen3 c)
        (λ seen4. reads_tall ts z (height x + 1) (at + 1) seen4 (height_resource (span p end) r x))))))

    pub arguments_within : {ts : List Lexed} {args : List GenericArgument} {end : Place} {from to : ℕ} → ArgumentsAt ts args end from to → (room : Bool) (d seen : ℕ) → ArgumentsAllowed d args →
        Reads E (arguments limits room d (types limits d)) ts from seen ((args, tallest args), end) to
    arguments_within {ts = ts} {from = from} (t.arguments {mid = mid} {at = at} {p = p} {end = end} {x = x} {args = args} s a r o) room d seen c =
        let one = list_across d args (x ∷ []) c (arguments_fit r limits d) in
        let q = quiet_mark ts at (k.Mark m.Greater) end o refl refl refl in
        reads_bind E ts (expect m.Less) _ from seen (from + 1) (at + 1) p ((args, tallest args), end) (reads_expect E ts m.Less p from seen s)
        (λ seen1. reads_bind E ts (argument limits room d (types limits d) 0) _ (from + 1) seen1 mid (at + 1) (x, argument_height x) ((args, tallest args), end)
        (argument_within a (arguments_quiet r q) room d [] seen1 one)
        (λ seen2. reads_bind E ts (turns (sees m.Comma) (argument_more limits room d (types limits d)) limits.turns (x ∷ [], argument_height x)) _ mid seen2 at (at + 1) (args, tallest args) ((args, tallest args), end)
        (subst (λ h. Reads E (turns (sees m.Comma) (argument_more limits room d (types limits d)) limits.turns (x ∷ [], h)) ts mid seen2 (args, tallest args) at) (tallest_one x)
        (more_within r q (not_there ts m.Comma at (k.Mark m.Greater) end o refl) room d limits.turns seen2 c (list_counts_all d args (x ∷ []) c)))
        (λ seen3. reads_bind E ts (expect m.Greater) _ at seen3 (at + 1) (at + 1) end ((args, tallest args), end) (reads_expect E ts m.Greater end at seen3 o)
        (λ seen4. reads_pure E ts ((args, tallest args), end) (at + 1) seen4))))

    more_within : {ts : List Lexed} {xs ys : List GenericArgument} {from to : ℕ} → MoreArgumentsAt ts xs ys from to → Quiet ts to → IsNot ts m.Comma to → (room : Bool) (d count seen : ℕ) → ArgumentsAllowed d ys → ListCounts count xs →
        Reads E (turns (sees m.Comma) (argument_more limits room d (types limits d)) count (xs, tallest xs)) ts from seen (ys, tallest ys) to
    more_within {ts = ts} {xs = xs} {from = from} t.end q c room d count seen b u = reads_turns_end E ts (sees m.Comma) (argument_more limits room d (types limits d)) count (xs, tallest xs) from seen c.is
    more_within {ts = ts} {ys = ys} {from = from} {to = to} (t.more {p = p} {x = x} {list = xs} s a r) q c room d zero seen b u =
        reads_turns_full E ts (sees m.Comma) (argument_more limits room d (types limits d)) (xs, tallest xs) (ys, tallest ys) from seen to (is_there ts m.Comma from p s)
        (list_counts_none d xs x u (list_across d ys (xs ++ x ∷ []) b (arguments_fit r limits d)))
    more_within {ts = ts} {ys = ys} {from = from} {to = to} (t.more {mid = mid} {p = p} {x = x} {list = xs} s a r) q c room d (suc count) seen b u =
        let zs = xs ++ x ∷ [] in
        reads_turns_more E ts (sees m.Comma) (argument_more limits room d (types limits d)) count (xs, tallest xs) (zs, tallest zs) (ys, tallest ys) from seen mid to (is_there ts m.Comma from p s)
        (λ seen1. reads_bind E ts (expect m.Comma) _ from seen1 (from + 1) mid p (zs, tallest zs) (reads_expect E ts m.Comma p from seen1 s)
        (λ seen2. reads_bind E ts (argument limits room d (types limits d) (length xs)) _ (from + 1) seen2 mid mid (x, argument_height x) (zs, tallest zs)
        (argument_within a (arguments_quiet r q) room d xs seen2 (list_across d ys zs b (arguments_fit r limits d)))
        (λ seen3. subst (λ h. Reads {A = Arguments} E (pure (zs, h)) ts mid seen3 (zs, tallest zs) mid) (greatest_more xs x) (reads_pure E ts (zs, tallest zs) mid seen3))))
        (λ seen1. more_within r q c room d count seen1 b (list_counts_next count xs x u))

    argument_within : {ts : List Lexed} {x : GenericArgument} {from to : ℕ} → ArgumentAt ts x from to → Quiet ts to → (room : Bool) (d : ℕ) (xs : List GenericArgument) (seen : ℕ) → ArgumentsAllowed d (xs ++ x ∷ []) →
        Reads E (argument limits room d (types limits d) (length xs)) ts from seen (x, argument_height x) to
    argument_within {ts = ts} {from = from} (t.number_argument {p = p} {v = v} s) q room d xs seen c =
        let tok : Lexed = record { kind = k.Number v; place = p; bytes = s.bytes } in
        let z = g.Number p v in
        reads_next E ts _ from seen (z, argument_height z) (from + 1) (Some tok) (if_fits (fits_in limits (length xs) limits.items) code.TooLong (Some tok) (Take (pure (z, 0)))) s.is refl
        (reads_fits E ts from (z, argument_height z) (from + 1) (Some tok) (fits_in limits (length xs) limits.items) code.TooLong (Take (pure (z, 0))) (excuse_in E limits (length xs) limits.items (list_room d xs z c))
        (λ seen1. subst (λ h. Reads {A = Argument} E (pure (z, h)) ts (from + 1) seen1 (z, argument_height z) (from + 1)) (height_number p v) (reads_pure E ts (z, argument_height z) (from + 1) seen1)))
    argument_within {ts = ts} {from = from} {to = to} (t.type_argument {x = x} u) q room d xs seen c =
        let z = g.Term x in
        let b = begins u room d (types limits d) in
        reads_next E ts _ from seen (z, argument_height z) to (Some b.tok) (if_fits (fits_in limits (length xs) limits.items) code.TooLong (Some b.tok) (begins_type limits room d (types limits d) (Some b.tok))) b.is
        (ap (if_fits (fits_in limits (length xs) limits.items) code.TooLong (Some b.tok)) b.choice)
        (reads_fits E ts from (z, argument_height z) to (Some b.tok) (fits_in limits (length xs) limits.items) code.TooLong (begins_type limits room d (types limits d) (Some b.tok)) (excuse_in E limits (length xs) limits.items (list_room d xs z c))
        (reads_fits E ts from (z, argument_height z) to (Some b.tok) (nat_lt 0 d) code.TooNested (Leave (type_argument limits room d (types limits d))) (excuse_room E limits d (has_room d x (list_type d xs x c)))
        (λ seen1. reads_bind E ts (types limits d) _ from seen1 to to (x, height x) (z, argument_height z) (type_within u q d seen1 (list_type d xs x c))
        (λ seen2. subst (λ h. Reads {A = Argument} E (pure (z, h)) ts to seen2 (z, argument_height z) to) (height_term x) (reads_pure E ts (z, argument_height z) to seen2)))))

-- where any limit may be passed
module _ (E : Type 0) (e : E) (limits : Limits) where
  pub reads_type : {ts : List Lexed} {x : TypeTree} {from to : ℕ} → TypeAt ts x from to → Quiet ts to → (d seen : ℕ) → Reads E (types limits d) ts from seen (x, height x) to
  reads_type s q d seen = type_within E limits s q d seen (inr e)

  pub reads_arguments : {ts : List Lexed} {args : List GenericArgument} {end : Place} {from to : ℕ} → ArgumentsAt ts args end from to → (room : Bool) (d seen : ℕ) →
      Reads E (arguments limits room d (types limits d)) ts from seen ((args, greatest (map argument_height args)), end) to
  reads_arguments s room d seen = arguments_within E limits s room d seen (inr e)
