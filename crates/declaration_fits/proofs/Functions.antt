-- Functions, aliases and fields: what is spelled within the limits is read.
use Rattle.std.proofs.Common.{◌≤◌, ◌||◌, if◌then◌else◌, subst, sym, ◌∙◌, arith, Bool, true, false, ◌≡◌, ℕ, zero, suc, ◌+◌, List, [], ◌∷◌, ◌++◌, drop, Option, Some, None, refl, ap}
use Rattle.std.specs.List.{list_all}
use Rattle.slang_names.specs.declared.places.Place.{Place}
use Rattle.slang_tree.specs.declared.types.Identifier.{Identifier}
use Rattle.slang_tree.specs.declared.types.Term.{Term}
use Rattle.slang_tree.specs.declared.types.TypeTree.{TypeTree}
use Rattle.slang_tree.specs.declared.statements.DeclaredName.{DeclaredName}
use Rattle.slang_tree.specs.declared.statements.Block.{Block}
use Rattle.slang_tree.specs.declared.declarations.GenericParameter.{GenericParameter}
use Rattle.slang_tree.specs.declared.declarations.Constraint.{Constraint}
use Rattle.slang_tree.specs.declared.declarations.Parameter.{Parameter}
use Rattle.slang_tree.specs.declared.declarations.Alias.{Alias}
use Rattle.slang_tokens.specs.declared.tokens.Kind.TheVariants as k
use Rattle.slang_tokens.specs.declared.tokens.Mark.TheVariants as m
use Rattle.slang_tokens.specs.declared.tokens.Word.{Word}
use Rattle.slang_tokens.specs.declared.tokens.Word.TheVariants as words
use Rattle.slang_reading.specs.Lexed.{Lexed}
use Rattle.slang_reading.specs.Reading.{Parser, Choice, Leave, Take, ◌>>=◌, first, pure, next, turns}
use Rattle.slang_reading.specs.Kinds.{sees, span}
use Rattle.slang_reading.proofs.Exact.{Reads, ReadsChoice, reads_pure, reads_bind, reads_next, reads_turns_end, reads_turns_more}
use Rattle.slang_grammar.specs.Standing.{Stands, NameStands, IsNot}
use Rattle.slang_grammar.specs.Types.{TypeAt}
use Rattle.slang_grammar.specs.Heights.{height}
use Rattle.slang_grammar.specs.Descent.{Limits, expect, name}
use Rattle.slang_grammar.specs.TypesDescent.{types}
use Rattle.slang_grammar.proofs.Shared.{reads_expect, not_there, is_there}
use Rattle.statement_grammar.specs.declared.attributes.Target.{Target}
use Rattle.statement_grammar.specs.declared.attributes.Target.TheVariants as target
use Rattle.statement_grammar.specs.AttributesDescent.{Noted, misfit, suited, if_suits}
use Rattle.statement_grammar.specs.Statements.{declared}
use Rattle.statement_grammar.specs.StatementsDescent.{length_more, declared_name, blocks}
use Rattle.statement_grammar.proofs.Begins.{quiet_name}
use Rattle.declaration_grammar.specs.PartsDescent.{generics, constraints, parameters}
use Rattle.declaration_grammar.specs.Declarations as t
use Rattle.declaration_grammar.specs.Declarations.{function_of, alias_of, AliasAt, MoreFieldsAt, field_of}
use Rattle.declaration_grammar.specs.DeclarationsDescent.{type_name, function_rest, static_rest, type_def, type_alias, field_more, field_rest}
use Rattle.declaration_laws.proofs.Functions.{quiet_semicolon, reads_map, RestAt, FieldRestAt}
use Rattle.statement_grammar.specs.AttributeTables.{may_stand}
use Rattle.statement_fits.specs.Sizes.{Count, Keeps}
use Rattle.statement_fits.proofs.Fitting.{and_left, and_right, name_short, lengths_short}
use Rattle.statement_fits.proofs.Moves.{Enough, Left, left_all, left_next, left_none, declared_moves}
use Rattle.statement_fits.proofs.Locals.{lengths_read, declared_read}
use Rattle.statement_fits.proofs.Statements.{reads_blocks}
use Rattle.declaration_fits.specs.Sizes.{in_each, in_alias, FunctionFits}
use Rattle.declaration_fits.proofs.Fitting.{Front, whole, longer, left, right, one_keeps}
use Rattle.declaration_fits.proofs.Parts.{name_read, type_read, reads_generics, reads_constraints, reads_parameters}

-- all that are noted may stand before that, or the limits are free
abbrev pub May : Limits → Target → Noted → Type 0
May limits target list = (limits.free || list_all (λ x. may_stand x.0 target) list) ≡ true

no_misfit : (target : Target) (list : Noted) → list_all (λ x. may_stand x.0 target) list ≡ true → misfit target list ≡ None
no_misfit target [] h = refl
no_misfit target (x ∷ xs) h = ap (λ b. if b then misfit target xs else Some x.1) (and_left (may_stand x.0 target) (list_all (λ y. may_stand y.0 target) xs) h)
    ∙ no_misfit target xs (and_right (may_stand x.0 target) (list_all (λ y. may_stand y.0 target) xs) h)

module _ (ts : List Lexed) (limits : Limits) where
  -- ---- what attributes may stand before

  suited_read : {A : Type 0} (at : ℕ) (a : A) (to : ℕ) (x : Option Lexed) (target : Target) (list : Noted) (free : Bool) (c : Choice A) → (free || list_all (λ x. may_stand x.0 target) list) ≡ true → ReadsChoice ⊥ ts at a to x c →
      ReadsChoice ⊥ ts at a to x (suited free (misfit target list) c)
  suited_read at a to x target list true c m h = h
  suited_read at a to x target list false c m h = subst (λ wrong. ReadsChoice ⊥ ts at a to x (suited false wrong c)) (sym (no_misfit target list m)) h

  pub suits_read : {A : Type 0} (at : ℕ) (a : A) (to : ℕ) (x : Option Lexed) (target : Target) (list : Noted) (c : Choice A) → May limits target list → ReadsChoice ⊥ ts at a to x c → ReadsChoice ⊥ ts at a to x (if_suits limits target list c)
  suits_read at a to x target list c m h = suited_read at a to x target list limits.free c m h

  -- what begins with a word
  pub reads_worded : {A B : Type 0} (f : A → B) (q : Parser A) (g : Option Lexed → Choice B) (a : A) {word : Word} {p : Place} {from : ℕ} (to : ℕ) (target : Target) (list : Noted) → May limits target list → (s : Stands ts from (k.Word word) p) →
      g (Some (record { kind = k.Word word; place = p; bytes = s.bytes })) ≡ if_suits limits target list (Take (q >>= (λ y. pure (f y)))) → ((s1 : ℕ) → Reads ⊥ q ts (from + 1) s1 a to) → (seen : ℕ) →
      Reads ⊥ (next g) ts from seen (f a) to
  reads_worded f q g a {word = word} {p = p} {from = from} to target list m s i h seen =
      let tok : Lexed = record { kind = k.Word word; place = p; bytes = s.bytes } in
      reads_next ⊥ ts g from seen (f a) to (Some tok) (if_suits limits target list (Take (q >>= (λ y. pure (f y))))) s.is i
      (suits_read from (f a) to (Some tok) target list (Take (q >>= (λ y. pure (f y)))) m (λ s1. reads_map ⊥ ts f q (from + 1) s1 a to (h s1)))

  -- what its next token shows
  pub reads_shown : {A B : Type 0} (f : A → B) (q : Parser A) (g : Option Lexed → Choice B) (a : A) {from : ℕ} (to : ℕ) (target : Target) (list : Noted) → May limits target list →
      g (first (drop from ts)) ≡ if_suits limits target list (Leave (q >>= (λ y. pure (f y)))) → ((s1 : ℕ) → Reads ⊥ q ts from s1 a to) → (seen : ℕ) → Reads ⊥ (next g) ts from seen (f a) to
  reads_shown f q g a {from = from} to target list m i h seen =
      reads_next ⊥ ts g from seen (f a) to (first (drop from ts)) (if_suits limits target list (Leave (q >>= (λ y. pure (f y))))) refl i
      (suits_read from (f a) to (first (drop from ts)) target list (Leave (q >>= (λ y. pure (f y)))) m (λ s1. reads_map ⊥ ts f q from s1 a to (h s1)))

  module _ (nodes : ℕ) (u : Enough ts limits nodes) where
    -- that is within the limits
    abbrev pub Fit : (Count → ℕ) → Type 0
    Fit f = Keeps limits nodes f

    -- ---- a type and a name

    pub reads_type_name : {tree : TypeTree} {id : Identifier} {from mid : ℕ} → TypeAt ts tree from mid → NameStands ts mid id → (seen : ℕ) → Fit (λ count. count.of_type tree) → Fit (λ count. count.of_identifier id) → Reads ⊥ (type_name limits nodes) ts from seen (tree, id) (mid + 1)
    unfolding type_name
    reads_type_name {tree = tree} {id = id} {from = from} {mid = mid} r n seen wt wi = let a : TypeTree × Identifier = (tree, id) in
        reads_bind ⊥ ts (types limits nodes) _ from seen mid (mid + 1) (tree, height tree) a (type_read ts limits nodes u r (quiet_name id n) seen wt)
        (λ s1. reads_bind ⊥ ts (name limits) _ mid s1 (mid + 1) (mid + 1) id a (name_read ts limits nodes u id mid s1 n wi) (λ s2. reads_pure ⊥ ts a (mid + 1) s2))

    -- what begins with them
    pub reads_typed : {B : Type 0} (g : Option Lexed → Choice B) (h : TypeTree × Identifier → Parser B) (b : B) {tree : TypeTree} {id : Identifier} {from mid : ℕ} (to : ℕ) → TypeAt ts tree from mid → NameStands ts mid id → Fit (λ count. count.of_type tree) → Fit (λ count. count.of_identifier id) →
        g (first (drop from ts)) ≡ Leave (type_name limits nodes >>= h) → ((s1 : ℕ) → Reads ⊥ (h (tree, id)) ts (mid + 1) s1 b to) → (seen : ℕ) → Reads ⊥ (next g) ts from seen b to
    reads_typed g h b {tree = tree} {id = id} {from = from} {mid = mid} to r n wt wi i k seen = reads_next ⊥ ts g from seen b to (first (drop from ts)) (Leave (type_name limits nodes >>= h)) refl i
        (λ s1. reads_bind ⊥ ts (type_name limits nodes) h from s1 (mid + 1) to (tree, id) b (reads_type_name r n s1 wt wi) k)

    -- ---- functions

    pub reads_function : (begin : Place) (is_static : Bool) (tree : TypeTree) (id : Identifier) {all : List GenericParameter} {list : List Parameter} {wheres : List Constraint} {body : Block} {from to : ℕ} →
        RestAt (Unit {0}) tt ts limits nodes all list wheres body from to → (seen : ℕ) → FunctionFits limits nodes (function_of begin is_static tree id all list wheres body) → Reads ⊥ (function_rest limits nodes begin is_static (tree, id)) ts from seen (function_of begin is_static tree id all list wheres body) to
    unfolding function_rest
    reads_function begin is_static tree id {all = all} {list = list} {wheres = wheres} {body = body} {from = from} {to = to} r seen w =
        let a = function_of begin is_static tree id all list wheres body in
        let behind = right _ _ (right _ _ w.sizes) in
        let given = right _ _ behind in
        let bound = right _ _ given in
        reads_bind ⊥ ts (generics limits) _ from seen r.mid to all a (reads_generics ts limits nodes u r.generic seen (left _ _ behind))
        (λ s1. reads_bind ⊥ ts (parameters limits nodes) _ r.mid s1 r.at to list a (reads_parameters ts limits nodes u r.given s1 (left _ _ given))
        (λ s2. reads_bind ⊥ ts (constraints limits) _ r.at s2 r.last to wheres a (reads_constraints ts limits nodes u r.bound s2 (left _ _ bound))
        (λ s3. reads_bind ⊥ ts (blocks limits nodes) _ r.last s3 to to body a (reads_blocks ts limits nodes u body r.last to r.block (record { sizes = right _ _ bound; rules = w.rules }) s3) (λ s4. reads_pure ⊥ ts a to s4))))

    pub reads_static : (begin : Place) {tree : TypeTree} {id : Identifier} {all : List GenericParameter} {list : List Parameter} {wheres : List Constraint} {body : Block} {from mid to : ℕ} →
        TypeAt ts tree from mid → NameStands ts mid id → RestAt (Unit {0}) tt ts limits nodes all list wheres body (mid + 1) to → (seen : ℕ) → FunctionFits limits nodes (function_of begin true tree id all list wheres body) → Reads ⊥ (static_rest limits nodes begin) ts from seen (function_of begin true tree id all list wheres body) to
    unfolding static_rest
    reads_static begin {tree = tree} {id = id} {all = all} {list = list} {wheres = wheres} {body = body} {from = from} {mid = mid} {to = to} r n f seen w =
        reads_bind ⊥ ts (type_name limits nodes) _ from seen (mid + 1) to (tree, id) (function_of begin true tree id all list wheres body) (reads_type_name r n seen (left _ _ w.sizes) (left _ _ (right _ _ w.sizes))) (λ s1. reads_function begin true tree id f s1 w)

    -- ---- aliases

    pub reads_type_def : (begin : Place) {tree : TypeTree} {id : Identifier} {end : Place} {from mid : ℕ} → TypeAt ts tree from mid → NameStands ts mid id → Stands ts (mid + 1) (k.Mark m.Semicolon) end → (seen : ℕ) → Fit (λ count. count.of_type tree) → Fit (λ count. count.of_identifier id) →
        Reads ⊥ (type_def limits nodes begin) ts from seen (alias_of (span begin end) tree id) (mid + 1 + 1)
    unfolding type_def
    reads_type_def begin {tree = tree} {id = id} {end = end} {from = from} {mid = mid} r n z seen wt wi = let a = alias_of (span begin end) tree id in
        reads_bind ⊥ ts (type_name limits nodes) _ from seen (mid + 1) (mid + 1 + 1) (tree, id) a (reads_type_name r n seen wt wi)
        (λ s1. reads_bind ⊥ ts (expect m.Semicolon) _ (mid + 1) s1 (mid + 1 + 1) (mid + 1 + 1) end a (reads_expect ⊥ ts m.Semicolon end (mid + 1) s1 z) (λ s2. reads_pure ⊥ ts a (mid + 1 + 1) s2))

    pub reads_type_alias : (begin : Place) {tree : TypeTree} {id : Identifier} {q end : Place} {from at : ℕ} → NameStands ts from id → Stands ts (from + 1) (k.Mark m.Equal) q → TypeAt ts tree (from + 1 + 1) at →
        Stands ts at (k.Mark m.Semicolon) end → (seen : ℕ) → Fit (λ count. count.of_type tree) → Fit (λ count. count.of_identifier id) → Reads ⊥ (type_alias limits nodes begin) ts from seen (alias_of (span begin end) tree id) (at + 1)
    unfolding type_alias
    reads_type_alias begin {tree = tree} {id = id} {q = q} {end = end} {from = from} {at = at} n s r z seen wt wi = let a = alias_of (span begin end) tree id in
        reads_bind ⊥ ts (name limits) _ from seen (from + 1) (at + 1) id a (name_read ts limits nodes u id from seen n wi)
        (λ s1. reads_bind ⊥ ts (expect m.Equal) _ (from + 1) s1 (from + 1 + 1) (at + 1) q a (reads_expect ⊥ ts m.Equal q (from + 1) s1 s)
        (λ s2. reads_bind ⊥ ts (types limits nodes) _ (from + 1 + 1) s2 at (at + 1) (tree, height tree) a (type_read ts limits nodes u r (quiet_semicolon z) s2 wt)
        (λ s3. reads_bind ⊥ ts (expect m.Semicolon) _ at s3 (at + 1) (at + 1) end a (reads_expect ⊥ ts m.Semicolon end at s3 z) (λ s4. reads_pure ⊥ ts a (at + 1) s4))))

    abbrev taken : {B : Type 0} → (Alias → B) → Noted → Parser Alias → Choice B
    taken f list q = if_suits limits target.Other list (Take (q >>= (λ y. pure (f y))))

    -- what is an alias
    pub reads_alias : {B : Type 0} (f : Alias → B) (g : Option Lexed → Choice B) (list : Noted) → May limits target.Other list →
        ((p : Place) (bytes : List ℕ) → g (Some (record { kind = k.Word words.TypeDef; place = p; bytes = bytes })) ≡ taken f list (type_def limits nodes p)) →
        ((p : Place) (bytes : List ℕ) → g (Some (record { kind = k.Word words.TypeAlias; place = p; bytes = bytes })) ≡ taken f list (type_alias limits nodes p)) →
        {x : Alias} {from to : ℕ} → AliasAt ts x from to → (seen : ℕ) → Fit (λ count. in_alias count x) → Reads ⊥ (next g) ts from seen (f x) to
    reads_alias f g list may i j {x = x} {to = to} (t.type_def {p = p} s r n z) seen w = reads_worded f (type_def limits nodes p) g x to target.Other list may s (i p s.bytes) (λ s1. reads_type_def p r n z s1 (left _ _ w) (right _ _ w)) seen
    reads_alias f g list may i j {x = x} {to = to} (t.type_alias {p = p} s n o r z) seen w = reads_worded f (type_alias limits nodes p) g x to target.Other list may s (j p s.bytes) (λ s1. reads_type_alias p n o r z s1 (left _ _ w) (right _ _ w)) seen

    -- ---- fields

    fields_front : {xs ys : List DeclaredName} {from to : ℕ} → MoreFieldsAt ts xs ys from to → Front xs ys
    fields_front t.end = whole
    fields_front (t.more {x = x} s v r) = longer x (fields_front r)

    -- the name of the first field
    pub first_name : (id : Identifier) (list : List Term) (end : Place) {all : List DeclaredName} {from to : ℕ} → MoreFieldsAt ts (declared id list end ∷ []) all from to → Fit (λ count. in_each count count.of_name all) → Fit (λ count. count.of_identifier id)
    first_name id list end r w =
        let one = one_keeps (λ count. count.of_name) [] (declared id list end) (fields_front r) w in
        let none : 0 ≤ nodes = omega arith in
        let short : 0 ≤ limits.items = omega arith in
        record { depth = none; long = short; short = name_short limits nodes id list end one }

    reads_more_fields : {xs ys : List DeclaredName} {from to : ℕ} → MoreFieldsAt ts xs ys from to → IsNot ts m.Comma to → (count seen : ℕ) → Left ts count from → Fit (λ count. in_each count count.of_name ys) → Reads ⊥ (turns (sees m.Comma) (field_more limits nodes) count xs) ts from seen ys to
    unfolding field_more
    reads_more_fields {xs = xs} {from = from} t.end n count seen l w = reads_turns_end ⊥ ts (sees m.Comma) (field_more limits nodes) count xs from seen n.is
    reads_more_fields {from = from} (t.more s v r) n zero seen l w = absurd (left_none ts from _ s.is l)
    reads_more_fields {xs = xs} {ys = ys} {from = from} {to = to} (t.more {mid = mid} {p = p} {last = last} {x = x} s v r) n (suc count) seen l w =
        let zs = xs ++ x ∷ [] in
        let moves = declared_moves ts v in
        reads_turns_more ⊥ ts (sees m.Comma) (field_more limits nodes) count xs zs ys from seen mid to (is_there ts m.Comma from p s)
        (λ s1. reads_bind ⊥ ts (expect m.Comma) _ from s1 (from + 1) mid p zs (reads_expect ⊥ ts m.Comma p from s1 s)
        (λ s2. reads_bind ⊥ ts (declared_name limits) _ (from + 1) s2 mid mid (x, last) zs (declared_read ts limits v u (one_keeps (λ count. count.of_name) xs x (fields_front r) w) s2) (λ s3. reads_pure ⊥ ts zs mid s3)))
        (λ s1. reads_more_fields r n count s1 (left_next ts count from mid (omega (arith, moves)) l) w)

    pub reads_field : (tree : TypeTree) {id : Identifier} {all : List DeclaredName} {end : Place} {from at : ℕ} → FieldRestAt (Unit {0}) tt ts limits nodes id all end from at → (seen : ℕ) → Fit (λ count. in_each count count.of_name all) →
        Reads ⊥ (field_rest limits nodes (tree, id)) ts from seen (field_of (span tree.place end) tree all) (at + 1)
    unfolding field_rest
    reads_field tree {id = id} {all = all} {end = end} {from = from} {at = at} r seen w =
        let a = field_of (span tree.place end) tree all in
        let one = one_keeps (λ count. count.of_name) [] (declared id r.list r.last) (fields_front r.names) w in
        reads_bind ⊥ ts (turns (sees m.OpenBracket) (length_more limits) limits.turns ([], id.place)) _ from seen r.mid (at + 1) (r.list, r.last) a (lengths_read ts limits r.lengths limits.turns seen (left_all u from) (lengths_short limits nodes id r.list r.last one))
        (λ s1. reads_bind ⊥ ts (turns (sees m.Comma) (field_more limits nodes) limits.turns (declared id r.list r.last ∷ [])) _ r.mid s1 at (at + 1) all a
        (reads_more_fields r.names (not_there ts m.Comma at (k.Mark m.Semicolon) end r.closes refl) limits.turns s1 (left_all u r.mid) w)
        (λ s2. reads_bind ⊥ ts (expect m.Semicolon) _ at s2 (at + 1) (at + 1) end a (reads_expect ⊥ ts m.Semicolon end at s2 r.closes) (λ s3. reads_pure ⊥ ts a (at + 1) s3)))
