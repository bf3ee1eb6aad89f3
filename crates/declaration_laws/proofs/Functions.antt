-- Functions, aliases and fields: what is spelled is read, but where a limit is passed.
use Rattle.std.proofs.Common.{Bool, true, false, ◌≡◌, ℕ, zero, suc, ◌+◌, List, [], ◌∷◌, ◌++◌, drop, Option, Some, None, refl, ap}
use Rattle.slang_names.specs.declared.places.Place.{Place}
use Rattle.slang_tree.specs.declared.types.Identifier.{Identifier}
use Rattle.slang_tree.specs.declared.types.Term.{Term}
use Rattle.slang_tree.specs.declared.types.TypeTree.{TypeTree}
use Rattle.slang_tree.specs.declared.statements.DeclaredName.{DeclaredName}
use Rattle.slang_tree.specs.declared.statements.Block.{Block}
use Rattle.slang_tree.specs.declared.declarations.GenericParameter.{GenericParameter}
use Rattle.slang_tree.specs.declared.declarations.Constraint.{Constraint}
use Rattle.slang_tree.specs.declared.declarations.Parameter.{Parameter}
use Rattle.slang_tree.specs.declared.declarations.Alias.{Alias}
use Rattle.slang_tokens.specs.declared.tokens.Kind.TheVariants as k
use Rattle.slang_tokens.specs.declared.tokens.Mark.TheVariants as m
use Rattle.slang_tokens.specs.declared.tokens.Word.{Word}
use Rattle.slang_tokens.specs.declared.tokens.Word.TheVariants as w
use Rattle.slang_reading.specs.Lexed.{Lexed}
use Rattle.slang_reading.specs.Reading.{Parser, Choice, Leave, Take, ◌>>=◌, first, pure, next, turns}
use Rattle.slang_reading.specs.Kinds.{sees, span}
use Rattle.slang_reading.proofs.Exact.{Reads, ReadsChoice, reads_pure, reads_bind, reads_next, reads_turns_end, reads_turns_more, reads_turns_full}
use Rattle.slang_grammar.specs.Standing.{Stands, NameStands, IsNot}
use Rattle.slang_grammar.specs.Types.{TypeAt, Quiet}
use Rattle.slang_grammar.specs.Heights.{height}
use Rattle.slang_grammar.specs.Descent.{Limits, expect, name}
use Rattle.slang_grammar.specs.TypesDescent.{types}
use Rattle.slang_grammar.proofs.Shared.{reads_expect, reads_name, not_there, is_there}
use Rattle.slang_grammar.proofs.TypesRead.{reads_type}
use Rattle.statement_grammar.specs.declared.attributes.Target.{Target}
use Rattle.statement_grammar.specs.declared.attributes.Target.TheVariants as target
use Rattle.statement_grammar.specs.AttributesDescent.{Noted, misfit, suited, if_suits}
use Rattle.statement_grammar.specs.Statements as st
use Rattle.statement_grammar.specs.Statements.{declared, LengthsAt, DeclaredNameAt, BlockAt}
use Rattle.statement_grammar.specs.StatementsDescent.{length_more, declared_name, blocks}
use Rattle.statement_grammar.proofs.Begins.{quiet_name}
use Rattle.statement_grammar.proofs.AttributesRead.{reads_obeyed}
use Rattle.statement_grammar.proofs.LocalsRead.{reads_lengths, reads_declared}
use Rattle.statement_laws.proofs.Statements.{reads_blocks}
use Rattle.declaration_grammar.specs.Parts as parts
use Rattle.declaration_grammar.specs.Parts.{GenericsAt, ConstraintsAt, ParametersAt}
use Rattle.declaration_grammar.specs.PartsDescent.{generics, constraints, parameters}
use Rattle.declaration_grammar.specs.Declarations as t
use Rattle.declaration_grammar.specs.Declarations.{function_of, alias_of, AliasAt, MoreFieldsAt, field_of}
use Rattle.declaration_grammar.specs.DeclarationsDescent.{begins_parameters, type_name, function_rest, static_rest, type_def, type_alias, field_more, field_rest, goes_on_field}
use Rattle.declaration_laws.proofs.Parts.{reads_generics, reads_constraints, reads_parameters}

-- a semicolon ends a type
pub quiet_semicolon : {ts : List Lexed} {at : ℕ} {p : Place} → Stands ts at (k.Mark m.Semicolon) p → Quiet ts at
quiet_semicolon {ts = ts} {at = at} {p = p} s = record { less = not_there ts m.Less at (k.Mark m.Semicolon) p s refl; dot = not_there ts m.Dot at (k.Mark m.Semicolon) p s refl; bracket = not_there ts m.OpenBracket at (k.Mark m.Semicolon) p s refl }

-- what is read is answered as f of it
pub reads_map : (E : Type 0) (ts : List Lexed) {A B : Type 0} (f : A → B) (q : Parser A) (at seen : ℕ) (a : A) (to : ℕ) → Reads E q ts at seen a to → Reads E (q >>= (λ y. pure (f y))) ts at seen (f a) to
reads_map E ts f q at seen a to r = reads_bind E ts q _ at seen to to a (f a) r (λ s1. reads_pure E ts (f a) to s1)

-- E holds, and any limit may be passed
module _ (E : Type 0) (e : E) (ts : List Lexed) (limits : Limits) where
  -- ---- what attributes may stand before

  reads_suited : {A : Type 0} (at : ℕ) (a : A) (to : ℕ) (x : Option Lexed) (free : Bool) (wrong : Option Place) (c : Choice A) → ReadsChoice E ts at a to x c → ReadsChoice E ts at a to x (suited free wrong c)
  reads_suited at a to x true wrong c h = h
  reads_suited at a to x false None c h = h
  reads_suited at a to x false (Some place) c h = reads_obeyed E e ts limits at a to x false place c h

  pub reads_suits : {A : Type 0} (at : ℕ) (a : A) (to : ℕ) (x : Option Lexed) (target : Target) (list : Noted) (c : Choice A) → ReadsChoice E ts at a to x c → ReadsChoice E ts at a to x (if_suits limits target list c)
  reads_suits at a to x target list c h = reads_suited at a to x limits.free (misfit target list) c h

  -- what begins with a word
  pub reads_worded : {A B : Type 0} (f : A → B) (q : Parser A) (g : Option Lexed → Choice B) (a : A) {word : Word} {p : Place} {from : ℕ} (to : ℕ) (target : Target) (list : Noted) (s : Stands ts from (k.Word word) p) →
      g (Some (record { kind = k.Word word; place = p; bytes = s.bytes })) ≡ if_suits limits target list (Take (q >>= (λ y. pure (f y)))) → ((s1 : ℕ) → Reads E q ts (from + 1) s1 a to) → (seen : ℕ) →
      Reads E (next g) ts from seen (f a) to
  reads_worded f q g a {word = word} {p = p} {from = from} to target list s i h seen =
      let tok : Lexed = record { kind = k.Word word; place = p; bytes = s.bytes } in
      reads_next E ts g from seen (f a) to (Some tok) (if_suits limits target list (Take (q >>= (λ y. pure (f y))))) s.is i
      (reads_suits from (f a) to (Some tok) target list (Take (q >>= (λ y. pure (f y)))) (λ s1. reads_map E ts f q (from + 1) s1 a to (h s1)))

  -- what its next token shows
  pub reads_shown : {A B : Type 0} (f : A → B) (q : Parser A) (g : Option Lexed → Choice B) (a : A) {from : ℕ} (to : ℕ) (target : Target) (list : Noted) →
      g (first (drop from ts)) ≡ if_suits limits target list (Leave (q >>= (λ y. pure (f y)))) → ((s1 : ℕ) → Reads E q ts from s1 a to) → (seen : ℕ) → Reads E (next g) ts from seen (f a) to
  reads_shown f q g a {from = from} to target list i h seen =
      reads_next E ts g from seen (f a) to (first (drop from ts)) (if_suits limits target list (Leave (q >>= (λ y. pure (f y))))) refl i
      (reads_suits from (f a) to (first (drop from ts)) target list (Leave (q >>= (λ y. pure (f y)))) (λ s1. reads_map E ts f q from s1 a to (h s1)))

  module _ (nodes : ℕ) where
    -- ---- a type and a name

    pub reads_type_name : {tree : TypeTree} {id : Identifier} {from mid : ℕ} → TypeAt ts tree from mid → NameStands ts mid id → (seen : ℕ) → Reads E (type_name limits nodes) ts from seen (tree, id) (mid + 1)
    unfolding type_name
    reads_type_name {tree = tree} {id = id} {from = from} {mid = mid} r n seen = let a : TypeTree × Identifier = (tree, id) in
        reads_bind E ts (types limits nodes) _ from seen mid (mid + 1) (tree, height tree) a (reads_type E e limits r (quiet_name id n) nodes seen)
        (λ s1. reads_bind E ts (name limits) _ mid s1 (mid + 1) (mid + 1) id a (reads_name E ts e limits id mid s1 n) (λ s2. reads_pure E ts a (mid + 1) s2))

    -- what begins with them
    pub reads_typed : {B : Type 0} (g : Option Lexed → Choice B) (h : TypeTree × Identifier → Parser B) (b : B) {tree : TypeTree} {id : Identifier} {from mid : ℕ} (to : ℕ) → TypeAt ts tree from mid → NameStands ts mid id →
        g (first (drop from ts)) ≡ Leave (type_name limits nodes >>= h) → ((s1 : ℕ) → Reads E (h (tree, id)) ts (mid + 1) s1 b to) → (seen : ℕ) → Reads E (next g) ts from seen b to
    reads_typed g h b {tree = tree} {id = id} {from = from} {mid = mid} to r n i k seen = reads_next E ts g from seen b to (first (drop from ts)) (Leave (type_name limits nodes >>= h)) refl i
        (λ s1. reads_bind E ts (type_name limits nodes) h from s1 (mid + 1) to (tree, id) b (reads_type_name r n s1) k)

    -- ---- functions

    -- what stands behind the name of a function
    pub record RestAt (all : List GenericParameter) (list : List Parameter) (wheres : List Constraint) (body : Block) (from to : ℕ) : Type 0 where
      pub mid : ℕ
      pub at : ℕ
      pub last : ℕ
      pub generic : GenericsAt ts all from mid
      pub given : ParametersAt ts list mid at
      pub bound : ConstraintsAt ts [] wheres at last
      pub block : BlockAt ts body last to

    pub reads_function : (begin : Place) (is_static : Bool) (tree : TypeTree) (id : Identifier) {all : List GenericParameter} {list : List Parameter} {wheres : List Constraint} {body : Block} {from to : ℕ} →
        RestAt all list wheres body from to → (seen : ℕ) → Reads E (function_rest limits nodes begin is_static (tree, id)) ts from seen (function_of begin is_static tree id all list wheres body) to
    unfolding function_rest
    reads_function begin is_static tree id {all = all} {list = list} {wheres = wheres} {body = body} {from = from} {to = to} r seen =
        let a = function_of begin is_static tree id all list wheres body in
        reads_bind E ts (generics limits) _ from seen r.mid to all a (reads_generics E e ts limits r.generic seen)
        (λ s1. reads_bind E ts (parameters limits nodes) _ r.mid s1 r.at to list a (reads_parameters E e ts limits nodes r.given s1)
        (λ s2. reads_bind E ts (constraints limits) _ r.at s2 r.last to wheres a (reads_constraints E e ts limits r.bound s2)
        (λ s3. reads_bind E ts (blocks limits nodes) _ r.last s3 to to body a (reads_blocks E e ts limits nodes body r.last to r.block s3) (λ s4. reads_pure E ts a to s4))))

    pub reads_static : (begin : Place) {tree : TypeTree} {id : Identifier} {all : List GenericParameter} {list : List Parameter} {wheres : List Constraint} {body : Block} {from mid to : ℕ} →
        TypeAt ts tree from mid → NameStands ts mid id → RestAt all list wheres body (mid + 1) to → (seen : ℕ) → Reads E (static_rest limits nodes begin) ts from seen (function_of begin true tree id all list wheres body) to
    unfolding static_rest
    reads_static begin {tree = tree} {id = id} {all = all} {list = list} {wheres = wheres} {body = body} {from = from} {mid = mid} {to = to} r n f seen =
        reads_bind E ts (type_name limits nodes) _ from seen (mid + 1) to (tree, id) (function_of begin true tree id all list wheres body) (reads_type_name r n seen) (λ s1. reads_function begin true tree id f s1)

    parameters_begin : {all : List GenericParameter} {list : List Parameter} {from mid to : ℕ} → GenericsAt ts all from mid → ParametersAt ts list mid to → begins_parameters (first (drop from ts)) ≡ true
    parameters_begin (parts.generics o v r c) q = ap begins_parameters o.is
    parameters_begin (parts.no_generics n) (parts.no_parameters o c) = ap begins_parameters o.is
    parameters_begin (parts.no_generics n) (parts.parameters o v r c) = ap begins_parameters o.is

    pub function_begins : {all : List GenericParameter} {list : List Parameter} {wheres : List Constraint} {body : Block} {from to : ℕ} → RestAt all list wheres body from to → begins_parameters (first (drop from ts)) ≡ true
    function_begins r = parameters_begin r.generic r.given

    -- ---- aliases

    pub reads_type_def : (begin : Place) {tree : TypeTree} {id : Identifier} {end : Place} {from mid : ℕ} → TypeAt ts tree from mid → NameStands ts mid id → Stands ts (mid + 1) (k.Mark m.Semicolon) end → (seen : ℕ) →
        Reads E (type_def limits nodes begin) ts from seen (alias_of (span begin end) tree id) (mid + 1 + 1)
    unfolding type_def
    reads_type_def begin {tree = tree} {id = id} {end = end} {from = from} {mid = mid} r n z seen = let a = alias_of (span begin end) tree id in
        reads_bind E ts (type_name limits nodes) _ from seen (mid + 1) (mid + 1 + 1) (tree, id) a (reads_type_name r n seen)
        (λ s1. reads_bind E ts (expect m.Semicolon) _ (mid + 1) s1 (mid + 1 + 1) (mid + 1 + 1) end a (reads_expect E ts m.Semicolon end (mid + 1) s1 z) (λ s2. reads_pure E ts a (mid + 1 + 1) s2))

    pub reads_type_alias : (begin : Place) {tree : TypeTree} {id : Identifier} {q end : Place} {from at : ℕ} → NameStands ts from id → Stands ts (from + 1) (k.Mark m.Equal) q → TypeAt ts tree (from + 1 + 1) at →
        Stands ts at (k.Mark m.Semicolon) end → (seen : ℕ) → Reads E (type_alias limits nodes begin) ts from seen (alias_of (span begin end) tree id) (at + 1)
    unfolding type_alias
    reads_type_alias begin {tree = tree} {id = id} {q = q} {end = end} {from = from} {at = at} n s r z seen = let a = alias_of (span begin end) tree id in
        reads_bind E ts (name limits) _ from seen (from + 1) (at + 1) id a (reads_name E ts e limits id from seen n)
        (λ s1. reads_bind E ts (expect m.Equal) _ (from + 1) s1 (from + 1 + 1) (at + 1) q a (reads_expect E ts m.Equal q (from + 1) s1 s)
        (λ s2. reads_bind E ts (types limits nodes) _ (from + 1 + 1) s2 at (at + 1) (tree, height tree) a (reads_type E e limits r (quiet_semicolon z) nodes s2)
        (λ s3. reads_bind E ts (expect m.Semicolon) _ at s3 (at + 1) (at + 1) end a (reads_expect E ts m.Semicolon end at s3 z) (λ s4. reads_pure E ts a (at + 1) s4))))

    abbrev taken : {B : Type 0} → (Alias → B) → Noted → Parser Alias → Choice B
    taken f list q = if_suits limits target.Other list (Take (q >>= (λ y. pure (f y))))

    -- what is an alias
    pub reads_alias : {B : Type 0} (f : Alias → B) (g : Option Lexed → Choice B) (list : Noted) →
        ((p : Place) (bytes : List ℕ) → g (Some (record { kind = k.Word w.TypeDef; place = p; bytes = bytes })) ≡ taken f list (type_def limits nodes p)) →
        ((p : Place) (bytes : List ℕ) → g (Some (record { kind = k.Word w.TypeAlias; place = p; bytes = bytes })) ≡ taken f list (type_alias limits nodes p)) →
        {x : Alias} {from to : ℕ} → AliasAt ts x from to → (seen : ℕ) → Reads E (next g) ts from seen (f x) to
    reads_alias f g list i j {x = x} {to = to} (t.type_def {p = p} s r n z) seen = reads_worded f (type_def limits nodes p) g x to target.Other list s (i p s.bytes) (λ s1. reads_type_def p r n z s1) seen
    reads_alias f g list i j {x = x} {to = to} (t.type_alias {p = p} s n o r z) seen = reads_worded f (type_alias limits nodes p) g x to target.Other list s (j p s.bytes) (λ s1. reads_type_alias p n o r z s1) seen

    -- ---- fields

    reads_more_fields : {xs ys : List DeclaredName} {from to : ℕ} → MoreFieldsAt ts xs ys from to → IsNot ts m.Comma to → (count seen : ℕ) → Reads E (turns (sees m.Comma) (field_more limits nodes) count xs) ts from seen ys to
    unfolding field_more
    reads_more_fields {xs = xs} {from = from} t.end n count seen = reads_turns_end E ts (sees m.Comma) (field_more limits nodes) count xs from seen n.is
    reads_more_fields {xs = xs} {ys = ys} {from = from} {to = to} (t.more {p = p} s v r) n zero seen = reads_turns_full E ts (sees m.Comma) (field_more limits nodes) xs ys from seen to (is_there ts m.Comma from p s) e
    reads_more_fields {xs = xs} {ys = ys} {from = from} {to = to} (t.more {mid = mid} {p = p} {last = last} {x = x} s v r) n (suc count) seen =
        let zs = xs ++ x ∷ [] in
        reads_turns_more E ts (sees m.Comma) (field_more limits nodes) count xs zs ys from seen mid to (is_there ts m.Comma from p s)
        (λ s1. reads_bind E ts (expect m.Comma) _ from s1 (from + 1) mid p zs (reads_expect E ts m.Comma p from s1 s)
        (λ s2. reads_bind E ts (declared_name limits) _ (from + 1) s2 mid mid (x, last) zs (reads_declared E e ts limits v s2) (λ s3. reads_pure E ts zs mid s3)))
        (λ s1. reads_more_fields r n count s1)

    -- what stands behind the first name of a field
    pub record FieldRestAt (id : Identifier) (all : List DeclaredName) (end : Place) (from at : ℕ) : Type 0 where
      pub list : List Term
      pub last : Place
      pub mid : ℕ
      pub lengths : LengthsAt ts [] list id.place last from mid
      pub names : MoreFieldsAt ts (declared id list last ∷ []) all mid at
      pub closes : Stands ts at (k.Mark m.Semicolon) end

    pub reads_field : (tree : TypeTree) {id : Identifier} {all : List DeclaredName} {end : Place} {from at : ℕ} → FieldRestAt id all end from at → (seen : ℕ) →
        Reads E (field_rest limits nodes (tree, id)) ts from seen (field_of (span tree.place end) tree all) (at + 1)
    unfolding field_rest
    reads_field tree {id = id} {all = all} {end = end} {from = from} {at = at} r seen = let a = field_of (span tree.place end) tree all in
        reads_bind E ts (turns (sees m.OpenBracket) (length_more limits) limits.turns ([], id.place)) _ from seen r.mid (at + 1) (r.list, r.last) a (reads_lengths E e ts limits r.lengths limits.turns seen)
        (λ s1. reads_bind E ts (turns (sees m.Comma) (field_more limits nodes) limits.turns (declared id r.list r.last ∷ [])) _ r.mid s1 at (at + 1) all a
        (reads_more_fields r.names (not_there ts m.Comma at (k.Mark m.Semicolon) end r.closes refl) limits.turns s1)
        (λ s2. reads_bind E ts (expect m.Semicolon) _ at s2 (at + 1) (at + 1) end a (reads_expect E ts m.Semicolon end at s2 r.closes) (λ s3. reads_pure E ts a (at + 1) s3)))

    abbrev pub GoesOn : ℕ → Type 0
    GoesOn at = (begins_parameters (first (drop at ts)) ≡ false) × (goes_on_field limits nodes (first (drop at ts)) ≡ true)

    lengths_go_on : {xs ys : List Term} {p q end : Place} {list all : List DeclaredName} {from mid at : ℕ} → LengthsAt ts xs ys p q from mid → MoreFieldsAt ts list all mid at → Stands ts at (k.Mark m.Semicolon) end → GoesOn from
    lengths_go_on (st.more s v c r) l z = (ap begins_parameters s.is, ap (goes_on_field limits nodes) s.is)
    lengths_go_on (st.end n) (t.more s v r) z = (ap begins_parameters s.is, ap (goes_on_field limits nodes) s.is)
    lengths_go_on (st.end n) t.end z = (ap begins_parameters z.is, ap (goes_on_field limits nodes) z.is)

    pub field_goes_on : {id : Identifier} {all : List DeclaredName} {end : Place} {from at : ℕ} → FieldRestAt id all end from at → GoesOn from
    field_goes_on r = lengths_go_on r.lengths r.names r.closes
