-- Types: the first limit that is broken is told.
use Rattle.std.proofs.Common.{true, false, ◌≡◌, ℕ, zero, suc, ◌+◌, List, [], ◌∷◌, ◌++◌, map, drop, length, Some, refl, ap, subst, arith, ◌≤◌}
use Rattle.std.specs.Prelude.{nat_le, nat_lt}
use Rattle.slang_names.specs.declared.places.Place.{Place}
use Rattle.slang_names.specs.declared.codes.ModuleCode.TheVariants as code
use Rattle.slang_tree.specs.declared.types.Identifier.{Identifier}
use Rattle.slang_tree.specs.declared.types.Resource.{Resource}
use Rattle.slang_tree.specs.declared.types.Term.{Term}
use Rattle.slang_tree.specs.declared.types.Term.TheVariants as term
use Rattle.slang_tree.specs.declared.types.TypeTree.{TypeTree}
use Rattle.slang_tree.specs.declared.types.TypeNode.TheVariants as n
use Rattle.slang_tree.specs.declared.types.GenericArgument.{GenericArgument}
use Rattle.slang_tree.specs.declared.types.GenericArgument.TheVariants as g
use Rattle.slang_tokens.specs.declared.tokens.Kind.{Kind}
use Rattle.slang_tokens.specs.declared.tokens.Kind.TheVariants as k
use Rattle.slang_tokens.specs.declared.tokens.Mark.TheVariants as m
use Rattle.slang_tokens.specs.declared.tokens.Word.{Word}
use Rattle.slang_tokens.specs.declared.tokens.Word.TheVariants as w
use Rattle.slang_reading.specs.Lexed.{Lexed}
use Rattle.slang_reading.specs.Reading.{Leave, Take, first, if_fits, ◌>>=◌, pure, turns}
use Rattle.slang_reading.specs.Kinds.{sees, span}
use Rattle.slang_reading.proofs.Exact.{Reads, reads_pure, reads_bind, reads_next}
use Rattle.slang_grammar.specs.Tables.{resource_of}
use Rattle.slang_grammar.specs.Standing.{Stands, NameStands, IsNot}
use Rattle.slang_grammar.specs.Types as t
use Rattle.slang_grammar.specs.Types.{typed, TermAt, TypeAt, TypeNameAt, ProjectionsAt, ArgumentsAt, MoreArgumentsAt, ArgumentAt, Quiet}
use Rattle.slang_grammar.specs.Descent.{Limits, fits_in, is_short, expect, named, name, identifier, if_short, termed, bracketed}
use Rattle.slang_grammar.specs.Heights.{greatest, height, argument_height}
use Rattle.slang_grammar.specs.TypesDescent.{Type_, Argument, Arguments, IsBuiltin, IsResource, IsThis, use_of, type_argument, begins_type, word_argument, argument_of, argument, argument_more, arguments, name_rest_by, name_rest, resource_rest, type_word, type_by, type_of, type_name, project_rest, project_by, project, length_rest, length_by, array, type_rest, no_types, types}
use Rattle.slang_grammar.proofs.Heights.{height_builtin, height_this, height_named, height_resource, height_projection, height_array, height_term, height_number, greatest_more}
use Rattle.slang_grammar.proofs.Shared.{reads_expect, not_there, is_there}
use Rattle.slang_grammar.proofs.TypesRead.{use_builtin, less_there}
use Rattle.expression_limits.specs.Breaks.{broken, arises_over, name_there}
use Rattle.expression_limits.specs.Types.{term_breaks, type_breaks, projections_breaks, type_name_breaks, arguments_breaks, more_arguments_breaks, argument_breaks}
use Rattle.expression_limits.proofs.Telling.{Tells, tells_first, first_front, tells_reads, fits_is, short_is, tells_bind, tells_then, tells_last, tells_broken, tells_next, tells_take, tells_take_last, tells_pass, tells_item, tells_turns_end, tells_turns_more}
use Rattle.expression_limits.proofs.Moves.{stands_within, argument_moves}

use_resource : (word : Word) (r : Resource) → resource_of word ≡ Some r → use_of word ≡ IsResource r
use_resource w.StructuredBuffer r e = cc
use_resource word r e = cc

module _ (ts : List Lexed) where
  -- ---- what stands behind

  quiet_mark : (at : ℕ) (kind : Kind) (p : Place) → Stands ts at kind p → (sees m.Less (Some (record { kind = kind; place = p; bytes = [] })) ≡ false) →
      (sees m.Dot (Some (record { kind = kind; place = p; bytes = [] })) ≡ false) → (sees m.OpenBracket (Some (record { kind = kind; place = p; bytes = [] })) ≡ false) → Quiet ts at
  quiet_mark at kind p s a b c = record { less = not_there ts m.Less at kind p s a; dot = not_there ts m.Dot at kind p s b; bracket = not_there ts m.OpenBracket at kind p s c }

  projections_less : {x y : TypeTree} {from to : ℕ} → ProjectionsAt ts x y from to → IsNot ts m.Less to → IsNot ts m.Less from
  projections_less t.whole q = q
  projections_less {from = from} (t.project {p = p} s i r) q = not_there ts m.Less from (k.Mark m.Dot) p s refl

  arguments_quiet : {xs ys : List GenericArgument} {from to : ℕ} → MoreArgumentsAt ts xs ys from to → Quiet ts to → Quiet ts from
  arguments_quiet t.end q = q
  arguments_quiet {from = from} (t.more {p = p} s a r) q = quiet_mark from (k.Mark m.Comma) p s refl refl refl

  -- an answer whose height is computed
  reads_tall : (z : TypeTree) (h at seen : ℕ) → height z ≡ h → Reads {A = Type_} ⊥ (pure (z, h)) ts at seen (z, height z) at
  reads_tall z h at seen q = subst (λ h. Reads {A = Type_} ⊥ (pure (z, h)) ts at seen (z, height z) at) q (reads_pure ⊥ ts (z, height z) at seen)

  module _ (limits : Limits) (free : limits.free ≡ false) where
    -- ---- names and terms

    pub tells_name : (id : Identifier) (at seen : ℕ) → NameStands ts at id → Tells (name_there ts limits id at) (name limits) ts at seen id (at + 1)
    unfolding name
    tells_name id at seen s = let tok : Lexed = record { kind = k.Name; place = id.place; bytes = id.name } in
        tells_next ts (named limits) at seen id (at + 1) (Some tok) (if_short limits tok (Take (pure (identifier tok)))) s.is refl
        (tells_take_last ts at id (at + 1) tok (is_short limits tok) (nat_le (length id.name) limits.names) code.TooLong (pure (identifier tok)) s.is (short_is limits free tok) (λ seen1. reads_pure ⊥ ts id (at + 1) seen1))

    tells_term : {x : Term} {at : ℕ} → (s : TermAt ts x at) → (seen : ℕ) → Tells (term_breaks ts limits s) (bracketed limits) ts at seen x (at + 1)
    unfolding bracketed
    tells_term {x = x} {at = at} (t.number_term {p = p} {v = v} s) seen =
        tells_next ts (termed limits) at seen x (at + 1) (Some (record { kind = k.Number v; place = p; bytes = s.bytes })) (Take (pure (term.Number p v))) s.is refl
        (λ seen1. tells_reads (pure (term.Number p v)) ts (at + 1) seen1 x (at + 1) (reads_pure ⊥ ts x (at + 1) seen1))
    tells_term {x = x} {at = at} (t.name_term {id = id} s) seen = let tok : Lexed = record { kind = k.Name; place = id.place; bytes = id.name } in
        tells_next ts (termed limits) at seen x (at + 1) (Some tok) (if_short limits tok (Take (pure (term.Name id)))) s.is refl
        (tells_take_last ts at x (at + 1) tok (is_short limits tok) (nat_le (length id.name) limits.names) code.TooLong (pure (term.Name id)) s.is (short_is limits free tok) (λ seen1. reads_pure ⊥ ts x (at + 1) seen1))

    -- ---- what follows the name of a type

    tells_projections : {x y : TypeTree} {from to : ℕ} → (r : ProjectionsAt ts x y from to) → IsNot ts m.Dot to → (d count seen : ℕ) → length ts ≤ from + count →
        Tells (projections_breaks ts limits r d) (turns (sees m.Dot) (project limits d) count (x, height x)) ts from seen (y, height y) to
    unfolding project project_rest
    tells_projections {x = x} {from = from} t.whole q d count seen l = tells_turns_end ts (sees m.Dot) (project limits d) count (x, height x) from seen q.is
    tells_projections {from = from} (t.project {p = p} s i r) q d zero seen l = absurd (let u = stands_within ts from (k.Mark m.Dot) p s in omega (arith, l, u))
    tells_projections {x = x} {y = y} {from = from} {to = to} (t.project {p = p} {id = id} s i r) q d (suc count) seen l =
        let place = span x.place id.place in
        let z = typed place (n.Projection x id) in
        let tok : Lexed = record { kind = k.Mark m.Dot; place = p; bytes = s.bytes } in
        tells_turns_more ts (sees m.Dot) (project limits d) count (x, height x) (z, height z) (y, height y) from seen (from + 1 + 1) to (is_there ts m.Dot from p s)
        (λ seen1. tells_next ts _ from seen1 (z, height z) (from + 1 + 1) (Some tok) (project_by limits d (x, height x) (Some tok) true) s.is refl
        (tells_take ts from (z, height z) (from + 1 + 1) tok (fits_in limits (height x) d) (nat_lt (height x) d) code.TooNested (project_rest limits d (x, height x)) s.is (fits_is limits free (height x) d)
        (λ seen2. tells_last ts (name limits) _ (from + 1) seen2 (from + 1 + 1) (from + 1 + 1) id (z, height z) (tells_name id (from + 1) seen2 i)
        (λ seen3. reads_tall z (height x + 1) (from + 1 + 1) seen3 (height_projection place x id)))))
        (λ seen1. tells_projections r q d count seen1 (omega (arith, l)))

    reads_array : (x : TypeTree) (to : ℕ) → IsNot ts m.OpenBracket to → (d seen : ℕ) → Reads ⊥ (array limits d (x, height x)) ts to seen (x, height x) to
    unfolding array
    reads_array x to q d seen = reads_next ⊥ ts _ to seen (x, height x) to (first (drop to ts)) (Leave (pure (x, height x))) refl
        (ap (length_by limits d (x, height x) (first (drop to ts))) q.is) (λ seen1. reads_pure ⊥ ts (x, height x) to seen1)

    tells_array : (x : TypeTree) (l : Term) (at : ℕ) (p end : Place) → Stands ts at (k.Mark m.OpenBracket) p → (i : TermAt ts l (at + 1)) → Stands ts (at + 1 + 1) (k.Mark m.CloseBracket) end → (d seen : ℕ) →
        Tells (arises_over ts (height x) at d ++ term_breaks ts limits i) (array limits d (x, height x)) ts at seen (typed (span x.place end) (n.Array x l), height (typed (span x.place end) (n.Array x l))) (at + 1 + 1 + 1)
    unfolding array length_rest
    tells_array x l at p end s i o d seen =
        let place = span x.place end in
        let z = typed place (n.Array x l) in
        let tok : Lexed = record { kind = k.Mark m.OpenBracket; place = p; bytes = s.bytes } in
        tells_next ts _ at seen (z, height z) (at + 1 + 1 + 1) (Some tok) (length_by limits d (x, height x) (Some tok) true) s.is refl
        (tells_take ts at (z, height z) (at + 1 + 1 + 1) tok (fits_in limits (height x) d) (nat_lt (height x) d) code.TooNested (length_rest limits d (x, height x)) s.is (fits_is limits free (height x) d)
        (λ seen1. tells_last ts (bracketed limits) _ (at + 1) seen1 (at + 1 + 1) (at + 1 + 1 + 1) l (z, height z) (tells_term i seen1)
        (λ seen2. reads_bind ⊥ ts (expect m.CloseBracket) _ (at + 1 + 1) seen2 (at + 1 + 1 + 1) (at + 1 + 1 + 1) end (z, height z) (reads_expect ⊥ ts m.CloseBracket end (at + 1 + 1) seen2 o)
        (λ seen3. reads_tall z (height x + 1) (at + 1 + 1 + 1) seen3 (height_array place x l)))))

    -- ---- with no room at all

    none_named : {x : TypeTree} {from to : ℕ} → TypeNameAt ts x from to → (a : Type_) (end seen : ℕ) → Tells (broken ts code.TooNested from ∷ []) (type_name limits false zero no_types) ts from seen a end
    unfolding type_name
    none_named {from = from} (t.builtin {p = p} {word = word} {b = b} s q) a end seen =
        let tok : Lexed = record { kind = k.Word word; place = p; bytes = s.bytes } in
        tells_next ts (type_of limits false zero no_types) from seen a end (Some tok) (type_word limits false zero no_types tok (IsBuiltin b)) s.is
        (ap (type_word limits false zero no_types tok) (use_builtin word b q)) (tells_pass ts [] from a end (Some tok) true code.TooLong s.is)
    none_named {from = from} (t.this_type {p = p} s) a end seen =
        let tok : Lexed = record { kind = k.Word w.ThisType; place = p; bytes = s.bytes } in
        tells_next ts (type_of limits false zero no_types) from seen a end (Some tok) (type_word limits false zero no_types tok IsThis) s.is refl (tells_pass ts [] from a end (Some tok) true code.TooLong s.is)
    none_named {from = from} (t.name {id = id} i) a end seen =
        let tok : Lexed = record { kind = k.Name; place = id.place; bytes = id.name } in
        tells_next ts (type_of limits false zero no_types) from seen a end (Some tok) (type_by limits false zero no_types tok k.Name) i.is refl (tells_pass ts [] from a end (Some tok) (is_short limits tok) code.TooLong i.is)
    none_named {from = from} (t.generic {id = id} i g) a end seen =
        let tok : Lexed = record { kind = k.Name; place = id.place; bytes = id.name } in
        tells_next ts (type_of limits false zero no_types) from seen a end (Some tok) (type_by limits false zero no_types tok k.Name) i.is refl (tells_pass ts [] from a end (Some tok) (is_short limits tok) code.TooLong i.is)
    none_named {from = from} (t.resource {p = p} {word = word} {r = r} s q o u v) a end seen =
        let tok : Lexed = record { kind = k.Word word; place = p; bytes = s.bytes } in
        tells_next ts (type_of limits false zero no_types) from seen a end (Some tok) (type_word limits false zero no_types tok (IsResource r)) s.is
        (ap (type_word limits false zero no_types tok) (use_resource word r q)) (tells_pass ts [] from a end (Some tok) true code.TooLong s.is)

    named_zero : {x : TypeTree} {from to : ℕ} → (s : TypeNameAt ts x from to) → first (type_name_breaks ts limits s zero) ≡ Some (broken ts code.TooNested from)
    named_zero (t.builtin s q) = refl
    named_zero (t.this_type s) = refl
    named_zero (t.name i) = refl
    named_zero (t.generic i a) = refl
    named_zero (t.resource s q o x c) = refl

    type_zero : {x : TypeTree} {from to : ℕ} → (s : TypeAt ts x from to) → first (type_breaks ts limits s zero) ≡ Some (broken ts code.TooNested from)
    type_zero {from = from} (t.plain s r) = first_front (type_name_breaks ts limits s zero) (projections_breaks ts limits r zero) (broken ts code.TooNested from) (named_zero s)
    type_zero {from = from} (t.array {at = at} {y = y} s r o l c) =
        first_front (type_name_breaks ts limits s zero) (projections_breaks ts limits r zero ++ (arises_over ts (height y) at zero ++ term_breaks ts limits l)) (broken ts code.TooNested from) (named_zero s)

    none_type : {x z : TypeTree} {from mid to : ℕ} → (s : TypeNameAt ts z from mid) → (seen : ℕ) →
        Tells {A = Type_} (broken ts code.TooNested from ∷ []) (type_name limits false zero no_types >>= type_rest limits zero) ts from seen (x, height x) to
    none_type {x = x} {from = from} {to = to} s seen =
        tells_broken ts (type_name limits false zero no_types) (type_rest limits zero) from seen to to (x, height x) (x, height x) (none_named s (x, height x) to seen)

    -- ---- the token that begins a type begins an argument

    record Begins (from d : ℕ) : Type 0 where
      tok : Lexed
      is : first (drop from ts) ≡ Some tok
      choice : argument_of limits true d (types limits d) (Some tok) ≡ begins_type limits true d (types limits d) (Some tok)

    begins_name : {x : TypeTree} {from to : ℕ} → TypeNameAt ts x from to → (d : ℕ) → Begins from d
    begins_name (t.builtin {p = p} {word = word} {b = b} s q) d =
        record { tok = record { kind = k.Word word; place = p; bytes = s.bytes }; is = s.is; choice = ap (word_argument limits true d (types limits d) (Some _)) (use_builtin word b q) }
    begins_name (t.this_type {p = p} s) d = record { tok = record { kind = k.Word w.ThisType; place = p; bytes = s.bytes }; is = s.is; choice = refl }
    begins_name (t.name {id = id} i) d = record { tok = record { kind = k.Name; place = id.place; bytes = id.name }; is = i.is; choice = refl }
    begins_name (t.generic {id = id} i a) d = record { tok = record { kind = k.Name; place = id.place; bytes = id.name }; is = i.is; choice = refl }
    begins_name (t.resource {p = p} {word = word} {r = r} s q o u v) d =
        record { tok = record { kind = k.Word word; place = p; bytes = s.bytes }; is = s.is; choice = ap (word_argument limits true d (types limits d) (Some _)) (use_resource word r q) }

    begins : {x : TypeTree} {from to : ℕ} → TypeAt ts x from to → (d : ℕ) → Begins from d
    begins (t.plain s r) d = begins_name s d
    begins (t.array s r o l c) d = begins_name s d

    abbrev tallest : List GenericArgument → ℕ
    tallest args = greatest (map argument_height args)

    tallest_one : (x : GenericArgument) → tallest (x ∷ []) ≡ argument_height x
    tallest_one x = omega arith

    module _ (long : length ts ≤ limits.turns) where
      mutual
        unfolding types type_rest type_name name_rest resource_rest arguments argument_more argument type_argument

        pub tells_type : {x : TypeTree} {from to : ℕ} → (s : TypeAt ts x from to) → Quiet ts to → (d seen : ℕ) → Tells (type_breaks ts limits s d) (types limits d) ts from seen (x, height x) to
        tells_type {x = x} {from = from} {to = to} (t.plain s r) q zero seen =
            tells_first (broken ts code.TooNested from) (type_breaks ts limits (t.plain s r) zero) (types limits zero) ts from seen (x, height x) to (type_zero (t.plain s r)) (none_type s seen)
        tells_type {x = x} {from = from} {to = to} (t.array s r o l c) q zero seen =
            tells_first (broken ts code.TooNested from) (type_breaks ts limits (t.array s r o l c) zero) (types limits zero) ts from seen (x, height x) to (type_zero (t.array s r o l c)) (none_type s seen)
        tells_type {from = from} {to = to} (t.plain {mid = mid} {x = x} {y = y} s r) q (suc d) seen =
            tells_bind ts (type_name limits true d (types limits d)) _ from seen mid to (x, height x) (y, height y) (tells_named s (projections_less r q.less) d seen)
            (λ seen1. tells_last ts (turns (sees m.Dot) (project limits (suc d)) limits.turns (x, height x)) (array limits (suc d)) mid seen1 to to (y, height y) (y, height y)
            (tells_projections r q.dot (suc d) limits.turns seen1 (omega (arith, long))) (λ seen2. reads_array y to q.bracket (suc d) seen2))
        tells_type {from = from} (t.array {mid = mid} {at = at} {x = x} {y = y} {t = l} {p = p} {end = end} s r o u c) q (suc d) seen =
            let z = typed (span y.place end) (n.Array y l) in
            tells_bind ts (type_name limits true d (types limits d)) _ from seen mid (at + 1 + 1 + 1) (x, height x) (z, height z)
            (tells_named s (projections_less r (not_there ts m.Less at (k.Mark m.OpenBracket) p o refl)) d seen)
            (λ seen1. tells_bind ts (turns (sees m.Dot) (project limits (suc d)) limits.turns (x, height x)) (array limits (suc d)) mid seen1 at (at + 1 + 1 + 1) (y, height y) (z, height z)
            (tells_projections r (not_there ts m.Dot at (k.Mark m.OpenBracket) p o refl) (suc d) limits.turns seen1 (omega (arith, long))) (λ seen2. tells_array y l at p end o u c (suc d) seen2))

        tells_named : {x : TypeTree} {from to : ℕ} → (s : TypeNameAt ts x from to) → IsNot ts m.Less to → (d seen : ℕ) → Tells (type_name_breaks ts limits s (suc d)) (type_name limits true d (types limits d)) ts from seen (x, height x) to
        tells_named {from = from} (t.builtin {p = p} {word = word} {b = b} s q) l d seen =
            let tok : Lexed = record { kind = k.Word word; place = p; bytes = s.bytes } in
            let z = typed p (n.Builtin b) in
            tells_next ts (type_of limits true d (types limits d)) from seen (z, height z) (from + 1) (Some tok) (type_word limits true d (types limits d) tok (IsBuiltin b)) s.is
            (ap (type_word limits true d (types limits d) tok) (use_builtin word b q)) (λ seen1. tells_reads (pure (z, 1)) ts (from + 1) seen1 (z, height z) (from + 1) (reads_tall z 1 (from + 1) seen1 (height_builtin p b)))
        tells_named {from = from} (t.this_type {p = p} s) l d seen =
            let tok : Lexed = record { kind = k.Word w.ThisType; place = p; bytes = s.bytes } in
            let z = typed p n.ThisType in
            tells_next ts (type_of limits true d (types limits d)) from seen (z, height z) (from + 1) (Some tok) (type_word limits true d (types limits d) tok IsThis) s.is refl
            (λ seen1. tells_reads (pure (z, 1)) ts (from + 1) seen1 (z, height z) (from + 1) (reads_tall z 1 (from + 1) seen1 (height_this p)))
        tells_named {from = from} (t.name {id = id} i) l d seen =
            let tok : Lexed = record { kind = k.Name; place = id.place; bytes = id.name } in
            let z = typed id.place (n.Named id []) in
            let rest = name_rest limits true d (types limits d) (identifier tok) in
            tells_next ts (type_of limits true d (types limits d)) from seen (z, height z) (from + 1) (Some tok) (type_by limits true d (types limits d) tok k.Name) i.is refl
            (tells_take_last ts from (z, height z) (from + 1) tok (is_short limits tok) (nat_le (length id.name) limits.names) code.TooLong rest i.is (short_is limits free tok)
            (λ seen1. reads_next ⊥ ts _ (from + 1) seen1 (z, height z) (from + 1) (first (drop (from + 1) ts)) (Leave (pure (z, 1))) refl
            (ap (name_rest_by limits true d (types limits d) id) l.is) (λ seen2. reads_tall z 1 (from + 1) seen2 (height_named id.place id []))))
        tells_named {from = from} {to = to} (t.generic {id = id} {args = args} {end = end} i a) l d seen =
            let tok : Lexed = record { kind = k.Name; place = id.place; bytes = id.name } in
            let z = typed (span id.place end) (n.Named id args) in
            let rest = name_rest limits true d (types limits d) (identifier tok) in
            tells_next ts (type_of limits true d (types limits d)) from seen (z, height z) to (Some tok) (type_by limits true d (types limits d) tok k.Name) i.is refl
            (tells_take ts from (z, height z) to tok (is_short limits tok) (nat_le (length id.name) limits.names) code.TooLong rest i.is (short_is limits free tok)
            (λ seen1. tells_next ts _ (from + 1) seen1 (z, height z) to (first (drop (from + 1) ts)) (name_rest_by limits true d (types limits d) id true) refl
            (ap (name_rest_by limits true d (types limits d) id) (less_there a))
            (λ seen2. tells_last ts (arguments limits true d (types limits d)) _ (from + 1) seen2 to to ((args, tallest args), end) (z, height z) (tells_arguments a d seen2)
            (λ seen3. reads_tall z (tallest args + 1) to seen3 (height_named (span id.place end) id args)))))
        tells_named {from = from} (t.resource {at = at} {p = p} {q = q} {end = end} {word = word} {r = r} {x = x} s u o v c) l d seen =
            let tok : Lexed = record { kind = k.Word word; place = p; bytes = s.bytes } in
            let z = typed (span p end) (n.Resource r x) in
            tells_next ts (type_of limits true d (types limits d)) from seen (z, height z) (at + 1) (Some tok) (type_word limits true d (types limits d) tok (IsResource r)) s.is
            (ap (type_word limits true d (types limits d) tok) (use_resource word r u))
            (λ seen1. tells_then ts (expect m.Less) _ (from + 1) seen1 (from + 1 + 1) (at + 1) q (z, height z) (reads_expect ⊥ ts m.Less q (from + 1) seen1 o)
            (λ seen2. tells_last ts (types limits d) _ (from + 1 + 1) seen2 at (at + 1) (x, height x) (z, height z) (tells_type v (quiet_mark at (k.Mark m.Greater) end c refl refl refl) d seen2)
            (λ seen3. reads_bind ⊥ ts (expect m.Greater) _ at seen3 (at + 1) (at + 1) end (z, height z) (reads_expect ⊥ ts m.Greater end at seen3 c)
            (λ seen4. reads_tall z (height x + 1) (at + 1) seen4 (height_resource (span p end) r x)))))

        pub tells_arguments : {args : List GenericArgument} {end : Place} {from to : ℕ} → (s : ArgumentsAt ts args end from to) → (d seen : ℕ) →
            Tells (arguments_breaks ts limits s d) (arguments limits true d (types limits d)) ts from seen ((args, tallest args), end) to
        tells_arguments {from = from} (t.arguments {mid = mid} {at = at} {p = p} {end = end} {x = x} {args = args} s a r o) d seen =
            let q = quiet_mark at (k.Mark m.Greater) end o refl refl refl in
            tells_then ts (expect m.Less) _ from seen (from + 1) (at + 1) p ((args, tallest args), end) (reads_expect ⊥ ts m.Less p from seen s)
            (λ seen1. tells_bind ts (argument limits true d (types limits d) 0) _ (from + 1) seen1 mid (at + 1) (x, argument_height x) ((args, tallest args), end) (tells_argument a (arguments_quiet r q) d 0 seen1)
            (λ seen2. tells_last ts (turns (sees m.Comma) (argument_more limits true d (types limits d)) limits.turns (x ∷ [], argument_height x)) _ mid seen2 at (at + 1) (args, tallest args) ((args, tallest args), end)
            (subst (λ h. Tells (more_arguments_breaks ts limits r d) (turns (sees m.Comma) (argument_more limits true d (types limits d)) limits.turns (x ∷ [], h)) ts mid seen2 (args, tallest args) at) (tallest_one x)
            (tells_more r q (not_there ts m.Comma at (k.Mark m.Greater) end o refl) d limits.turns seen2 (omega (arith, long))))
            (λ seen3. reads_bind ⊥ ts (expect m.Greater) _ at seen3 (at + 1) (at + 1) end ((args, tallest args), end) (reads_expect ⊥ ts m.Greater end at seen3 o)
            (λ seen4. reads_pure ⊥ ts ((args, tallest args), end) (at + 1) seen4))))

        tells_more : {xs ys : List GenericArgument} {from to : ℕ} → (s : MoreArgumentsAt ts xs ys from to) → Quiet ts to → IsNot ts m.Comma to → (d count seen : ℕ) → length ts ≤ from + count →
            Tells (more_arguments_breaks ts limits s d) (turns (sees m.Comma) (argument_more limits true d (types limits d)) count (xs, tallest xs)) ts from seen (ys, tallest ys) to
        tells_more {xs = xs} {from = from} t.end q c d count seen l = tells_turns_end ts (sees m.Comma) (argument_more limits true d (types limits d)) count (xs, tallest xs) from seen c.is
        tells_more {from = from} (t.more {p = p} s a r) q c d zero seen l = absurd (let u = stands_within ts from (k.Mark m.Comma) p s in omega (arith, l, u))
        tells_more {ys = ys} {from = from} {to = to} (t.more {mid = mid} {p = p} {x = x} {list = xs} s a r) q c d (suc count) seen l =
            let zs = xs ++ x ∷ [] in
            tells_turns_more ts (sees m.Comma) (argument_more limits true d (types limits d)) count (xs, tallest xs) (zs, tallest zs) (ys, tallest ys) from seen mid to (is_there ts m.Comma from p s)
            (λ seen1. tells_then ts (expect m.Comma) _ from seen1 (from + 1) mid p (zs, tallest zs) (reads_expect ⊥ ts m.Comma p from seen1 s)
            (λ seen2. tells_last ts (argument limits true d (types limits d) (length xs)) _ (from + 1) seen2 mid mid (x, argument_height x) (zs, tallest zs) (tells_argument a (arguments_quiet r q) d (length xs) seen2)
            (λ seen3. subst (λ h. Reads {A = Arguments} ⊥ (pure (zs, h)) ts mid seen3 (zs, tallest zs) mid) (greatest_more xs x) (reads_pure ⊥ ts (zs, tallest zs) mid seen3))))
            (λ seen1. tells_more r q c d count seen1 (let u = argument_moves ts a in omega (arith, l, u)))

        tells_argument : {x : GenericArgument} {from to : ℕ} → (s : ArgumentAt ts x from to) → Quiet ts to → (d count seen : ℕ) →
            Tells (argument_breaks ts limits s count d) (argument limits true d (types limits d) count) ts from seen (x, argument_height x) to
        tells_argument {from = from} (t.number_argument {p = p} {v = v} s) q d count seen =
            let tok : Lexed = record { kind = k.Number v; place = p; bytes = s.bytes } in
            let z = g.Number p v in
            tells_next ts _ from seen (z, argument_height z) (from + 1) (Some tok) (if_fits (fits_in limits count limits.items) code.TooLong (Some tok) (Take (pure (z, 0)))) s.is refl
            (tells_take_last ts from (z, argument_height z) (from + 1) tok (fits_in limits count limits.items) (nat_lt count limits.items) code.TooLong (pure (z, 0)) s.is (fits_is limits free count limits.items)
            (λ seen1. subst (λ h. Reads {A = Argument} ⊥ (pure (z, h)) ts (from + 1) seen1 (z, argument_height z) (from + 1)) (height_number p v) (reads_pure ⊥ ts (z, argument_height z) (from + 1) seen1)))
        tells_argument {from = from} {to = to} (t.type_argument {x = x} u) q d count seen =
            let z = g.Term x in
            let b = begins u d in
            tells_next ts _ from seen (z, argument_height z) to (Some b.tok) (if_fits (fits_in limits count limits.items) code.TooLong (Some b.tok) (begins_type limits true d (types limits d) (Some b.tok))) b.is
            (ap (if_fits (fits_in limits count limits.items) code.TooLong (Some b.tok)) b.choice)
            (tells_item ts limits free from (z, argument_height z) to (Some b.tok) count d (type_argument limits true d (types limits d)) b.is
            (λ seen1. tells_last ts (types limits d) _ from seen1 to to (x, height x) (z, argument_height z) (tells_type u q d seen1)
            (λ seen2. subst (λ h. Reads {A = Argument} ⊥ (pure (z, h)) ts to seen2 (z, argument_height z) to) (height_term x) (reads_pure ⊥ ts (z, argument_height z) to seen2))))
