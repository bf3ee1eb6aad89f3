-- What is looked at ahead answers where a declaration of locals is spelled.
use Rattle.std.proofs.Common.{Bool, true, false, ◌≡◌, ℕ, zero, suc, ◌+◌, List, map, drop, Some, refl, ap}
use Rattle.slang_names.specs.declared.places.Place.{Place}
use Rattle.slang_names.specs.declared.codes.ModuleCode.TheVariants as code
use Rattle.slang_tree.specs.declared.types.Identifier.{Identifier}
use Rattle.slang_tree.specs.declared.types.GenericArgument.{GenericArgument}
use Rattle.slang_tree.specs.declared.types.Resource.{Resource}
use Rattle.slang_tree.specs.declared.types.Term.{Term}
use Rattle.slang_tree.specs.declared.types.TypeTree.{TypeTree}
use Rattle.slang_tree.specs.declared.types.TypeNode.TheVariants as n
use Rattle.slang_tokens.specs.declared.tokens.Kind.TheVariants as k
use Rattle.slang_tokens.specs.declared.tokens.Mark.{Mark}
use Rattle.slang_tokens.specs.declared.tokens.Mark.TheVariants as m
use Rattle.slang_tokens.specs.declared.tokens.Word.{Word}
use Rattle.slang_tokens.specs.declared.tokens.Word.TheVariants as w
use Rattle.slang_reading.specs.Lexed.{Lexed}
use Rattle.slang_reading.specs.Reading.{Leave, Take, first, if_fits, pure, next, turns}
use Rattle.slang_reading.specs.Kinds.{is_mark, sees, span}
use Rattle.slang_reading.proofs.Exact.{Reads, reads_pure, reads_bind, reads_next, reads_fits, reads_turns_end, reads_turns_more, reads_turns_full}
use Rattle.slang_grammar.specs.Tables.{resource_of}
use Rattle.slang_grammar.specs.Standing.{Stands, NameStands, IsNot}
use Rattle.slang_grammar.specs.Types as ty
use Rattle.slang_grammar.specs.Types.{typed, TermAt, TypeAt, ProjectionsAt, TypeNameAt}
use Rattle.slang_grammar.specs.Heights.{greatest, argument_height}
use Rattle.slang_grammar.specs.Descent.{Limits, fits_in, expect, name, identifier, bracketed}
use Rattle.slang_grammar.specs.TypesDescent.{Type_, Arguments, IsResource, use_of, arguments, project_rest, project_by, project, types}
use Rattle.slang_grammar.specs.ExpressionsDescent.{freed}
use Rattle.slang_grammar.proofs.Shared.{reads_expect, reads_name, reads_bracketed, not_there, is_there}
use Rattle.slang_grammar.proofs.TypesRead.{use_builtin, less_there, reads_arguments}
use Rattle.statement_grammar.specs.LocalsAhead.{Seen, name_ahead, length_ahead, array_ahead, rest_ahead, given_ahead, named_ahead_by, named_ahead, builtin_ahead_by, builtin_ahead, word_ahead, local_ahead_at, local_ahead}

use_resource : (word : Word) (r : Resource) → resource_of word ≡ Some r → use_of word ≡ IsResource r
use_resource w.AssociatedType r e = cc
use_resource w.Bool r e = cc
use_resource w.Break r e = cc
use_resource w.Const r e = cc
use_resource w.Continue r e = cc
use_resource w.Else r e = cc
use_resource w.Extension r e = cc
use_resource w.False r e = cc
use_resource w.For r e = cc
use_resource w.If r e = cc
use_resource w.Import r e = cc
use_resource w.In r e = cc
use_resource w.InOut r e = cc
use_resource w.Int r e = cc
use_resource w.Int2 r e = cc
use_resource w.Int3 r e = cc
use_resource w.Int4 r e = cc
use_resource w.Interface r e = cc
use_resource w.Internal r e = cc
use_resource w.Let r e = cc
use_resource w.Module r e = cc
use_resource w.Out r e = cc
use_resource w.Private r e = cc
use_resource w.Public r e = cc
use_resource w.Return r e = cc
use_resource w.Static r e = cc
use_resource w.Struct r e = cc
use_resource w.ThisType r e = cc
use_resource w.ThisValue r e = cc
use_resource w.True r e = cc
use_resource w.TypeAlias r e = cc
use_resource w.TypeDef r e = cc
use_resource w.Uint r e = cc
use_resource w.Uint2 r e = cc
use_resource w.Uint3 r e = cc
use_resource w.Uint4 r e = cc
use_resource w.Void r e = cc
use_resource w.Where r e = cc
use_resource w.While r e = cc
use_resource w.StructuredBuffer r e = cc
use_resource w.RwStructuredBuffer r e = cc
use_resource w.ConstantBuffer r e = cc
use_resource w.ParameterBlock r e = cc

-- ---- what projects from a type

-- a mark that does not stand behind what is projected does not stand before it
projections_not : (mark : Mark) → is_mark mark (k.Mark m.Dot) ≡ false → {ts : List Lexed} {x y : TypeTree} {from to : ℕ} → ProjectionsAt ts x y from to → IsNot ts mark to → IsNot ts mark from
projections_not mark e ty.whole q = q
projections_not mark e {ts = ts} {from = from} (ty.project {p = p} s i r) q = not_there ts mark from (k.Mark m.Dot) p s e

name_not : {ts : List Lexed} {at : ℕ} (mark : Mark) {id : Identifier} → NameStands ts at id → IsNot ts mark at
name_not mark i = record { is = ap (sees mark) i.is }

-- what generic arguments are read as
abbrev pub all_of : List GenericArgument → Place → Arguments × Place
all_of args end = ((args, greatest (map argument_height args)), end)

-- E holds, and any limit may be passed
module _ (E : Type 0) (e : E) (ts : List Lexed) (limits : Limits) where
  pub reads_project : (x : TypeTree) {id : Identifier} {p : Place} {from : ℕ} → Stands ts from (k.Mark m.Dot) p → NameStands ts (from + 1) id → (h seen : ℕ) →
      Reads E (project (freed limits) limits.turns (x, h)) ts from seen (typed (span x.place id.place) (n.Projection x id), h + 1) (from + 1 + 1)
  unfolding project project_rest
  reads_project x {id = id} {p = p} {from = from} s i h seen =
      let free = freed limits in
      let z : Type_ = (typed (span x.place id.place) (n.Projection x id), h + 1) in
      let tok : Lexed = record { kind = k.Mark m.Dot; place = p; bytes = s.bytes } in
      reads_next E ts (λ t. project_by free limits.turns (x, h) t (sees m.Dot t)) from seen z (from + 1 + 1) (Some tok) (if_fits (fits_in free h limits.turns) code.TooNested (Some tok) (Take (project_rest free limits.turns (x, h)))) s.is refl
      (reads_fits E ts from z (from + 1 + 1) (Some tok) (fits_in free h limits.turns) code.TooNested (Take (project_rest free limits.turns (x, h))) (λ f. e)
      (λ s1. reads_bind E ts (name free) _ (from + 1) s1 (from + 1 + 1) (from + 1 + 1) id z (reads_name E ts e free id (from + 1) s1 i) (λ s2. reads_pure E ts z (from + 1 + 1) s2)))

  -- how many nodes stand on a path with what is projected
  over : {x y : TypeTree} {from to : ℕ} → ProjectionsAt ts x y from to → ℕ → ℕ
  over ty.whole h = h
  over (ty.project s i r) h = over r (h + 1)

  reads_projections : {x y : TypeTree} {from to : ℕ} (r : ProjectionsAt ts x y from to) → IsNot ts m.Dot to → (count h seen : ℕ) →
      Reads E (turns (sees m.Dot) (project (freed limits) limits.turns) count (x, h)) ts from seen (y, over r h) to
  unfolding over
  reads_projections {x = x} {from = from} ty.whole q count h seen = reads_turns_end E ts (sees m.Dot) (project (freed limits) limits.turns) count (x, h) from seen q.is
  reads_projections {x = x} {y = y} {from = from} {to = to} (ty.project {p = p} s i r) q zero h seen =
      reads_turns_full E ts (sees m.Dot) (project (freed limits) limits.turns) (x, h) (y, over r (h + 1)) from seen to (is_there ts m.Dot from p s) e
  reads_projections {x = x} {y = y} {from = from} {to = to} (ty.project {p = p} {id = id} s i r) q (suc count) h seen =
      reads_turns_more E ts (sees m.Dot) (project (freed limits) limits.turns) count (x, h) (typed (span x.place id.place) (n.Projection x id), h + 1) (y, over r (h + 1)) from seen (from + 1 + 1) to (is_there ts m.Dot from p s)
      (λ s1. reads_project x s i h s1) (λ s1. reads_projections r q count (h + 1) s1)

  -- ---- the name that is declared

  reads_name_ahead : {id : Identifier} {at : ℕ} → NameStands ts at id → (seen : ℕ) → Reads {A = Seen} E (name_ahead limits) ts at seen tt (at + 1)
  unfolding name_ahead
  reads_name_ahead {id = id} {at = at} i seen = reads_bind E ts (name (freed limits)) _ at seen (at + 1) (at + 1) id tt (reads_name E ts e (freed limits) id at seen i) (λ s1. reads_pure E ts tt (at + 1) s1)

  reads_length_ahead : {x : Term} {id : Identifier} {p : Place} {at : ℕ} → TermAt ts x at → Stands ts (at + 1) (k.Mark m.CloseBracket) p → NameStands ts (at + 1 + 1) id → (seen : ℕ) →
      Reads {A = Seen} E (length_ahead limits) ts at seen tt (at + 1 + 1 + 1)
  unfolding length_ahead
  reads_length_ahead {x = x} {p = p} {at = at} v c i seen =
      reads_bind E ts (bracketed (freed limits)) _ at seen (at + 1) (at + 1 + 1 + 1) x tt (reads_bracketed E ts e (freed limits) x at seen v)
      (λ s1. reads_bind E ts (expect m.CloseBracket) _ (at + 1) s1 (at + 1 + 1) (at + 1 + 1 + 1) p tt (reads_expect E ts m.CloseBracket p (at + 1) s1 c) (λ s2. reads_name_ahead i s2))

  rest_plain : {x y : TypeTree} {id : Identifier} {from to : ℕ} → ProjectionsAt ts x y from to → NameStands ts to id → (h seen : ℕ) → Reads {A = Seen} E (rest_ahead limits (x, h)) ts from seen tt (to + 1)
  unfolding rest_ahead
  rest_plain {x = x} {y = y} {from = from} {to = to} r i h seen =
      reads_bind E ts (turns (sees m.Dot) (project (freed limits) limits.turns) limits.turns (x, h)) _ from seen to (to + 1) (y, over r h) tt (reads_projections r (name_not m.Dot i) limits.turns h seen)
      (λ s1. reads_next E ts (λ t. array_ahead limits (sees m.OpenBracket t)) to s1 tt (to + 1) (first (drop to ts)) (Leave (name_ahead limits)) refl (ap (array_ahead limits) (name_not m.OpenBracket i).is) (λ s2. reads_name_ahead i s2))

  rest_array : {x y : TypeTree} {t : Term} {id : Identifier} {p end : Place} {from at : ℕ} → ProjectionsAt ts x y from at → Stands ts at (k.Mark m.OpenBracket) p → TermAt ts t (at + 1) →
      Stands ts (at + 1 + 1) (k.Mark m.CloseBracket) end → NameStands ts (at + 1 + 1 + 1) id → (h seen : ℕ) → Reads {A = Seen} E (rest_ahead limits (x, h)) ts from seen tt (at + 1 + 1 + 1 + 1)
  unfolding rest_ahead
  rest_array {x = x} {y = y} {p = p} {from = from} {at = at} r o v c i h seen =
      reads_bind E ts (turns (sees m.Dot) (project (freed limits) limits.turns) limits.turns (x, h)) _ from seen at (at + 1 + 1 + 1 + 1) (y, over r h) tt
      (reads_projections r (not_there ts m.Dot at (k.Mark m.OpenBracket) p o refl) limits.turns h seen)
      (λ s1. reads_next E ts (λ t. array_ahead limits (sees m.OpenBracket t)) at s1 tt (at + 1 + 1 + 1 + 1) (Some (record { kind = k.Mark m.OpenBracket; place = p; bytes = o.bytes })) (Take (length_ahead limits)) o.is refl
      (λ s2. reads_length_ahead v c i s2))

  -- ---- the type

  -- a name of a type, where what stands behind it goes on to a declared name
  name_begins : {x : TypeTree} {from mid to : ℕ} → TypeNameAt ts x from mid → IsNot ts m.Less mid → IsNot ts m.OpenParen mid → ((h seen : ℕ) → Reads {A = Seen} E (rest_ahead limits (x, h)) ts mid seen tt to) → (seen : ℕ) →
      (end : ℕ) × Reads {A = Seen} E (local_ahead limits) ts from seen tt end
  unfolding local_ahead builtin_ahead named_ahead
  name_begins {from = from} (ty.builtin {p = p} {word = word} {b = b} s q) l o rest seen =
      let tok : Lexed = record { kind = k.Word word; place = p; bytes = s.bytes } in (
        from + 1,
        reads_next E ts (local_ahead_at limits) from seen tt (from + 1) (Some tok) (Take (builtin_ahead limits)) s.is (ap (word_ahead limits tok) (use_builtin word b q))
            (λ s1. reads_next E ts (λ t. builtin_ahead_by limits (sees m.OpenParen t)) (from + 1) s1 tt (from + 1) (first (drop (from + 1) ts)) (Leave (pure tt)) refl (ap (builtin_ahead_by limits) o.is) (λ s2. reads_pure E ts tt (from + 1) s2)),
      )
  name_begins {from = from} {to = to} (ty.this_type {p = p} s) l o rest seen =
      let tok : Lexed = record { kind = k.Word w.ThisType; place = p; bytes = s.bytes } in
      (to, reads_next E ts (local_ahead_at limits) from seen tt to (Some tok) (Take (rest_ahead limits (typed p n.ThisType, 1))) s.is refl (λ s1. rest 1 s1))
  name_begins {from = from} {to = to} (ty.name {id = id} i) l o rest seen =
      let tok : Lexed = record { kind = k.Name; place = id.place; bytes = id.name } in (
        to,
        reads_next E ts (local_ahead_at limits) from seen tt to (Some tok) (Take (named_ahead limits (identifier tok))) i.is refl
            (λ s1. reads_next E ts (λ t. named_ahead_by limits id (sees m.Less t)) (from + 1) s1 tt to (first (drop (from + 1) ts)) (named_ahead_by limits id false) refl (ap (named_ahead_by limits id) l.is) (λ s2. rest 1 s2)),
      )
  name_begins {from = from} {mid = mid} {to = to} (ty.generic {id = id} {args = args} {end = end} i r) l o rest seen =
      by (sees m.OpenBracket (first (drop mid ts))) refl
    where
      goes : (last : ℕ) → ((s : ℕ) → Reads {A = Seen} E (next (λ t. given_ahead limits id (all_of args end) (sees m.OpenBracket t))) ts mid s tt last) → Reads {A = Seen} E (local_ahead limits) ts from seen tt last
      goes last f =
          let tok : Lexed = record { kind = k.Name; place = id.place; bytes = id.name } in
          reads_next E ts (local_ahead_at limits) from seen tt last (Some tok) (Take (named_ahead limits (identifier tok))) i.is refl
          (λ s1. reads_next E ts (λ t. named_ahead_by limits id (sees m.Less t)) (from + 1) s1 tt last (first (drop (from + 1) ts)) (named_ahead_by limits id true) refl (ap (named_ahead_by limits id) (less_there r))
          (λ s2. reads_bind E ts (arguments (freed limits) true limits.turns (types (freed limits) limits.turns)) _ (from + 1) s2 mid last (all_of args end) tt (reads_arguments E e (freed limits) r true limits.turns s2) f))

      by : (b : Bool) → sees m.OpenBracket (first (drop mid ts)) ≡ b → (last : ℕ) × Reads {A = Seen} E (local_ahead limits) ts from seen tt last
      by true q = (mid, goes mid (λ s. reads_next E ts (λ t. given_ahead limits id (all_of args end) (sees m.OpenBracket t)) mid s tt mid (first (drop mid ts)) (given_ahead limits id (all_of args end) true) refl (ap (given_ahead limits id (all_of args end)) q) (λ s1. reads_pure E ts tt mid s1)))
      by false q = (
        to,
        goes to (λ s. reads_next E ts (λ t. given_ahead limits id (all_of args end) (sees m.OpenBracket t)) mid s tt to (first (drop mid ts)) (given_ahead limits id (all_of args end) false) refl (ap (given_ahead limits id (all_of args end)) q)
            (λ s1. rest (greatest (map argument_height args) + 1) s1)),
      )
  name_begins {from = from} (ty.resource {p = p} {word = word} {r = r} s q u v c) l o rest seen =
      let tok : Lexed = record { kind = k.Word word; place = p; bytes = s.bytes } in
      (from + 1, reads_next E ts (local_ahead_at limits) from seen tt (from + 1) (Some tok) (Take (pure tt)) s.is (ap (word_ahead limits tok) (use_resource word r q)) (λ s1. reads_pure E ts tt (from + 1) s1))

  -- a type with a name behind it
  pub reads_ahead : {x : TypeTree} {id : Identifier} {from to : ℕ} → TypeAt ts x from to → NameStands ts to id → (seen : ℕ) → (end : ℕ) × Reads {A = Seen} E (local_ahead limits) ts from seen tt end
  reads_ahead (ty.plain s r) i seen = name_begins s (projections_not m.Less refl r (name_not m.Less i)) (projections_not m.OpenParen refl r (name_not m.OpenParen i)) (λ h s1. rest_plain r i h s1) seen
  reads_ahead (ty.array {at = at} {p = p} s r o v c) i seen = name_begins s (projections_not m.Less refl r (not_there ts m.Less at (k.Mark m.OpenBracket) p o refl))
      (projections_not m.OpenParen refl r (not_there ts m.OpenParen at (k.Mark m.OpenBracket) p o refl)) (λ h s1. rest_array r o v c i h s1) seen
