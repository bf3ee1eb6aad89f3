-- Items and files: what is spelled within the limits is read.
use Rattle.std.proofs.Common.{◌||◌, suc, map, true, false, ◌≡◌, ℕ, zero, suc, ◌+◌, List, [], ◌∷◌, ◌++◌, drop, Option, Some, None, refl, ◌∙◌, ap}
use Rattle.slang_names.specs.declared.places.Place.{Place}
use Rattle.slang_names.specs.declared.places.Access.{Access}
use Rattle.slang_tree.specs.declared.types.Identifier.{Identifier}
use Rattle.slang_tree.specs.declared.types.TypeTree.{TypeTree}
use Rattle.slang_tree.specs.declared.expressions.ExprTree.{ExprTree}
use Rattle.slang_tree.specs.declared.statements.Attribute.{Attribute}
use Rattle.slang_tree.specs.declared.file.ModuleLine.{ModuleLine}
use Rattle.slang_tree.specs.declared.file.Item.{Item}
use Rattle.slang_tree.specs.declared.file.ItemNode.{ItemNode}
use Rattle.slang_tree.specs.declared.file.ItemNode.TheVariants as d
use Rattle.slang_tree.specs.declared.file.File.{File}
use Rattle.slang_tokens.specs.declared.tokens.Kind.TheVariants as k
use Rattle.slang_tokens.specs.declared.tokens.Mark.TheVariants as m
use Rattle.slang_tokens.specs.declared.tokens.Word.TheVariants as words
use Rattle.slang_reading.specs.Lexed.{Lexed}
use Rattle.slang_reading.specs.Reading.{Choice, Leave, Take, first, pure, turns}
use Rattle.slang_reading.specs.Kinds.{sees, sees_word, span}
use Rattle.slang_reading.proofs.Exact.{Reads, reads_pure, reads_bind, reads_next, reads_turns_end, reads_turns_more}
use Rattle.slang_grammar.specs.Standing.{Stands, NameStands}
use Rattle.slang_grammar.specs.Types.{TypeAt}
use Rattle.slang_grammar.specs.Expressions.{ExprAt}
use Rattle.slang_grammar.specs.Descent.{Limits, expect, name}
use Rattle.slang_grammar.specs.ExpressionsDescent.{expressions}
use Rattle.slang_grammar.proofs.Shared.{reads_expect}
use Rattle.expression_grammar.specs.Heights.{expr_height}
use Rattle.statement_grammar.specs.declared.attributes.Target.TheVariants as target
use Rattle.statement_grammar.specs.Attributes.{AttributesAt}
use Rattle.statement_grammar.specs.AttributesDescent as attributes
use Rattle.statement_grammar.specs.AttributesDescent.{Given, Noted, if_suits, possible}
use Rattle.statement_grammar.proofs.Begins.{Closes}
use Rattle.declaration_grammar.specs.Parts as parts
use Rattle.declaration_grammar.specs.Parts.{access_at, AccessAt, NamesAt, ParametersAt, ClosedAt}
use Rattle.declaration_grammar.specs.PartsDescent.{expect_word}
use Rattle.declaration_grammar.specs.Declarations as t
use Rattle.declaration_grammar.specs.Declarations.{FunctionAt, BoundAt, requirement_of, RequirementAt, RequirementsAt, interface_of, InterfaceAt, ExtendedAt, extension_of, ExtensionAt, constant_of, ConstantAt, global_of, ItemNodeAt, is_private, item_of, ItemsAt, line_of, LineAt, ModuleAt, ImportsAt, FileAt}
use Rattle.declaration_grammar.specs.DeclarationsDescent.{use_of, begins_parameters, type_name, function_rest, struct_rest, interface_rest, extension_rest, constant_rest, item_typed_by, item_typed, item_as, item_node, item_accessed, item_access, item_more, line_rest, module_by, module_line, import_more, is_token, files}
use Rattle.declaration_laws.proofs.Begins.{begun_use, type_begun, begins_somewhere}
use Rattle.declaration_laws.proofs.Parts.{reads_expect_word}
use Rattle.declaration_laws.proofs.Functions.{reads_map, RestAt, function_begins}
use Rattle.declaration_laws.proofs.Files.{item_begins, item_there, import_there}
use Rattle.statement_grammar.specs.AttributeRules.{all_true, obeys}
use Rattle.statement_fits.specs.Sizes.{Count, optional, in_attributes, Keeps}
use Rattle.statement_fits.proofs.Fitting.{or_left, or_right, value_fits}
use Rattle.statement_fits.proofs.Moves.{Enough, Left, left_all, left_next, left_none, attributes_move}
use Rattle.statement_fits.proofs.Locals.{value_read}
use Rattle.statement_fits.proofs.Attributes.{Among, free_or, attributes_read}
use Rattle.declaration_fits.specs.Sizes.{in_each, in_constant, in_item_node, in_item, in_line, item_target, item_node_obeys, item_obeys, ItemFits, FileFits}
use Rattle.declaration_fits.proofs.Moves.{access_moves, item_node_moves, line_moves}
use Rattle.declaration_fits.proofs.Fitting.{Front, whole, longer, left, right, one_obeys, one_keeps}
use Rattle.declaration_fits.proofs.Parts.{name_read}
use Rattle.declaration_fits.proofs.Functions.{May, suits_read, reads_worded, reads_shown, reads_type_name, reads_typed, reads_function, reads_alias}
use Rattle.declaration_fits.proofs.Members.{member_moves, reads_struct}
use Rattle.declaration_fits.proofs.Interfaces.{reads_interface, reads_extension}

-- ---- what attributes stand before

before_function : Among target.Function attributes.items
before_function list h = ap (λ c. c || possible (target.Global ∷ target.Other ∷ []) list) h

before_global : Among target.Global attributes.items
before_global list h = free_or _ _ (ap (λ c. c || possible (target.Other ∷ []) list) h)

before_rest : Among target.Other attributes.items
before_rest list h = free_or _ _ (free_or _ _ (ap (λ c. c || false) h))

before_item : (x : ItemNode) → Among (item_target x) attributes.items
before_item (d.Struct x) list h = before_rest list h
before_item (d.Interface x) list h = before_rest list h
before_item (d.Extension x) list h = before_rest list h
before_item (d.Alias x) list h = before_rest list h
before_item (d.Function x) list h = before_function list h
before_item (d.Constant x) list h = before_rest list h
before_item (d.Global x) list h = before_global list h

module _ (ts : List Lexed) (limits : Limits) (nodes : ℕ) (u : Enough ts limits nodes) where
  -- that is within the limits
  abbrev Fit : (Count → ℕ) → Type 0
  Fit f = Keeps limits nodes f

  -- ---- items

  reads_constant : (begin : Place) {q o end : Place} {tree : TypeTree} {id : Identifier} {x : ExprTree} {from mid at : ℕ} → Stands ts from (k.Word words.Const) q → TypeAt ts tree (from + 1) mid → NameStands ts mid id →
      Stands ts (mid + 1) (k.Mark m.Equal) o → ExprAt ts x (mid + 1 + 1) at → Stands ts at (k.Mark m.Semicolon) end → (seen : ℕ) → Fit (λ count. in_constant count (constant_of (span begin end) tree id x)) →
      Reads ⊥ (constant_rest limits nodes begin) ts from seen (constant_of (span begin end) tree id x) (at + 1)
  unfolding constant_rest
  reads_constant begin {q = q} {o = o} {end = end} {tree = tree} {id = id} {x = x} {from = from} {mid = mid} {at = at} s r v i y z seen f =
      let behind = right _ _ f in
      let a = constant_of (span begin end) tree id x in
      let closes : Closes ts at = record { mark = m.Semicolon; place = end; is = z; closes = refl } in
      reads_bind ⊥ ts (expect_word words.Const) _ from seen (from + 1) (at + 1) q a (reads_expect_word ⊥ ts words.Const q from seen s)
      (λ s1. reads_bind ⊥ ts (type_name limits nodes) _ (from + 1) s1 (mid + 1) (at + 1) (tree, id) a (reads_type_name ts limits nodes u r v s1 (left _ _ f) (left _ _ behind))
      (λ s2. reads_bind ⊥ ts (expect m.Equal) _ (mid + 1) s2 (mid + 1 + 1) (at + 1) o a (reads_expect ⊥ ts m.Equal o (mid + 1) s2 i)
      (λ s3. reads_bind ⊥ ts (expressions limits nodes) _ (mid + 1 + 1) s3 at (at + 1) (x, expr_height x) a (value_read ts limits y closes nodes s3 u (value_fits limits nodes x (right _ _ behind)))
      (λ s4. reads_bind ⊥ ts (expect m.Semicolon) _ at s4 (at + 1) (at + 1) end a (reads_expect ⊥ ts m.Semicolon end at s4 z) (λ s5. reads_pure ⊥ ts a (at + 1) s5)))))

  reads_item_node : {x : ItemNode} {from to : ℕ} → ItemNodeAt ts x from to → (list : Noted) (seen : ℕ) → May limits (item_target x) list → Fit (λ count. in_item_node count x) → (limits.free || item_node_obeys x) ≡ true → Reads ⊥ (item_node limits nodes list) ts from seen x to
  unfolding item_node item_typed
  reads_item_node {to = to} (t.struct {x = x} (t.struct {p = p} s h l c)) list seen may w obeyed =
      reads_worded ts limits d.Struct (struct_rest limits nodes p) (λ x. item_as limits nodes list x (use_of x)) x to target.Other list may s refl (λ s1. reads_struct ts limits nodes u p h l c s1 w obeyed) seen
  reads_item_node {to = to} (t.interface {x = x} (t.interface {p = p} s v o l c)) list seen may w obeyed =
      reads_worded ts limits d.Interface (interface_rest limits nodes p) (λ x. item_as limits nodes list x (use_of x)) x to target.Other list may s refl (λ s1. reads_interface ts limits nodes u p v o l c s1 w obeyed) seen
  reads_item_node {to = to} (t.extension {x = x} (t.extension {p = p} s g v a h c o l z)) list seen may w obeyed =
      reads_worded ts limits d.Extension (extension_rest limits nodes p) (λ x. item_as limits nodes list x (use_of x)) x to target.Other list may s refl (λ s1. reads_extension ts limits nodes u p g v a h c o l z s1 w obeyed) seen
  reads_item_node (t.alias r) list seen may w obeyed = reads_alias ts limits nodes u d.Alias (λ x. item_as limits nodes list x (use_of x)) list may (λ p bytes. refl) (λ p bytes. refl) r seen w
  reads_item_node (t.function (t.function (t.static s r) v g l c b) f) list seen may w obeyed = cc
  reads_item_node {from = from} {to = to} (t.function {x = x} (t.function {mid = mid} {at = at} {to = last} {next = next_} {id = id} (t.plain {t = tree} r) v g l c b) f) list seen may w obeyed =
      let rest : RestAt (Unit {0}) tt ts limits nodes x.generics x.parameters x.wheres x.body (mid + 1) to = record { mid = at; at = last; last = next_; generic = g; given = l; bound = c; block = b } in
      let there = first (drop (mid + 1) ts) in
      reads_typed ts limits nodes u (λ x. item_as limits nodes list x (use_of x)) (item_typed limits nodes list) (d.Function x) to r v (left _ _ w) (left _ _ (right _ _ w)) (ap (item_as limits nodes list (first (drop from ts))) (begun_use (type_begun r)))
      (λ s1. reads_shown ts limits d.Function (function_rest limits nodes tree.place false (tree, id)) (λ o. item_typed_by limits nodes list (tree, id) o (begins_parameters o) (sees m.Semicolon o)) x to target.Function list may
      (ap (λ b. item_typed_by limits nodes list (tree, id) there b (sees m.Semicolon there)) (function_begins (Unit {0}) tt ts limits nodes rest))
      (λ s2. reads_function ts limits nodes u tree.place false tree id rest s2 (record { sizes = w; rules = obeyed })) s1) seen
  reads_item_node {to = to} (t.constant {x = x} (t.constant {p = p} s q r v o y z)) list seen may w obeyed =
      reads_worded ts limits d.Constant (constant_rest limits nodes p) (λ x. item_as limits nodes list x (use_of x)) x to target.Other list may s refl (λ s1. reads_constant p q r v o y z s1 w) seen
  reads_item_node {from = from} {to = to} (t.global {x = x} (t.global {mid = mid} {end = end} {t = tree} {id = id} r v z)) list seen may w obeyed =
      let tok : Lexed = record { kind = k.Mark m.Semicolon; place = end; bytes = z.bytes } in
      let rest : Choice ItemNode = Take (pure (d.Global x)) in
      reads_typed ts limits nodes u (λ x. item_as limits nodes list x (use_of x)) (item_typed limits nodes list) (d.Global x) to r v (left _ _ w) (right _ _ w) (ap (item_as limits nodes list (first (drop from ts))) (begun_use (type_begun r)))
      (λ s1. reads_next ⊥ ts (λ o. item_typed_by limits nodes list (tree, id) o (begins_parameters o) (sees m.Semicolon o)) (mid + 1) s1 (d.Global x) to (Some tok) (if_suits limits target.Global list rest) z.is refl
      (suits_read ts limits (mid + 1) (d.Global x) to (Some tok) target.Global list rest may (λ s2. reads_pure ⊥ ts (d.Global x) to s2))) seen

  reads_item_access : {a : Option Access} {from to : ℕ} → AccessAt ts a from to → is_private a ≡ false → (seen : ℕ) → Reads ⊥ (item_access limits nodes) ts from seen a to
  unfolding item_access
  reads_item_access {from = from} (parts.no_access q) f seen = reads_next ⊥ ts (λ x. item_accessed limits nodes (access_at x) (is_private (access_at x))) from seen None from (first (drop from ts)) (Leave (pure None)) refl
      (ap (λ a. item_accessed limits nodes a (is_private a)) q) (λ s1. reads_pure ⊥ ts None from s1)
  reads_item_access {from = from} (parts.access {p = p} {word = word} {a = a} s q) f seen =
      reads_next ⊥ ts (λ x. item_accessed limits nodes (access_at x) (is_private (access_at x))) from seen (Some a) (from + 1) (Some (record { kind = k.Word word; place = p; bytes = s.bytes })) (Take (pure (Some a))) s.is
      (ap (λ a. item_accessed limits nodes a (is_private a)) q ∙ ap (item_accessed limits nodes (Some a)) f) (λ s1. reads_pure ⊥ ts (Some a) (from + 1) s1)

  reads_item : (list : List Item) {xs : List Attribute} {v : Option Access} {x : ItemNode} {from mid at to : ℕ} → AttributesAt ts [] xs from mid → AccessAt ts v mid at → is_private v ≡ false → ItemNodeAt ts x at to → (seen : ℕ) → ItemFits limits nodes (item_of xs v x) →
      Reads ⊥ (item_more limits nodes list) ts from seen (list ++ item_of xs v x ∷ []) to
  unfolding item_more
  reads_item list {xs = xs} {v = v} {x = x} {from = from} {mid = mid} {at = at} {to = to} a b f i seen w =
      let named : Fit (λ count. in_attributes count xs) = left _ _ w.sizes in
      let read = attributes_read ts limits (item_target x) attributes.items (before_item x) a u (or_left limits.free (obeys (item_target x) xs) (item_node_obeys x) w.rules) named.short in
      let given : Given = (xs, read.0) in
      let z = list ++ item_of xs v x ∷ [] in
      reads_bind ⊥ ts (attributes.attributes limits attributes.items) _ from seen mid to given z (read.2 seen)
      (λ s1. reads_bind ⊥ ts (item_access limits nodes) _ mid s1 at to v z (reads_item_access b f s1)
      (λ s2. reads_bind ⊥ ts (item_node limits nodes given.1) _ at s2 to to x z (reads_item_node i given.1 s2 read.1 (right _ _ w.sizes) (or_right limits.free (obeys (item_target x) xs) (item_node_obeys x) w.rules)) (λ s3. reads_pure ⊥ ts z to s3)))

  items_front : {xs ys : List Item} {from : ℕ} → ItemsAt ts xs ys from → Front xs ys
  items_front (t.end q) = whole
  items_front (t.more {attributes = xs} {access = v} {x = x} a b f i l) = longer (item_of xs v x) (items_front l)

  -- the items are read up to where no token stands
  record Ends (list all : List Item) (from : ℕ) : Type 0 where
    to : ℕ
    reads : (count seen : ℕ) → Left ts count from → Reads ⊥ (turns (is_token limits nodes) (item_more limits nodes) count list) ts from seen all to

  reads_items_rest : (list all : List Item) {xs : List Attribute} {v : Option Access} {x : ItemNode} {from mid next_ at : ℕ} (to : ℕ) → AttributesAt ts [] xs from mid → AccessAt ts v mid next_ → is_private v ≡ false → ItemNodeAt ts x next_ at →
      ItemFits limits nodes (item_of xs v x) → ((count seen : ℕ) → Left ts count at → Reads ⊥ (turns (is_token limits nodes) (item_more limits nodes) count (list ++ item_of xs v x ∷ [])) ts at seen all to) → (count seen : ℕ) →
      Left ts count from → Reads ⊥ (turns (is_token limits nodes) (item_more limits nodes) count list) ts from seen all to
  reads_items_rest list all {from = from} to a b f i w h zero seen left_ = let begin = begins_somewhere a b (item_begins (Unit {0}) tt ts limits nodes i) in absurd (left_none ts from begin.0 begin.1 left_)
  reads_items_rest list all {xs = xs} {v = v} {x = x} {from = from} {at = at} to a b f i w h (suc count) seen left_ =
      let moves = member_moves (attributes_move ts a) (access_moves ts b) (item_node_moves ts i) in
      reads_turns_more ⊥ ts (is_token limits nodes) (item_more limits nodes) count list (list ++ item_of xs v x ∷ []) all from seen at to (item_there (Unit {0}) tt ts limits nodes a b i) (λ s1. reads_item list a b f i s1 w)
      (λ s1. h count s1 (left_next ts count from at moves left_))

  reads_items : {list all : List Item} {from : ℕ} → ItemsAt ts list all from → Fit (λ count. in_each count (in_item count) all) → (limits.free || all_true (map item_obeys all)) ≡ true → Ends list all from
  reads_items {list = list} {from = from} (t.end q) w o = record { to = from; reads = λ count seen left_. reads_turns_end ⊥ ts (is_token limits nodes) (item_more limits nodes) count list from seen (ap (is_token limits nodes) q) }
  reads_items {list = list} {all = all} (t.more {attributes = xs} {access = v} {x = x} a b f i l) w o =
      let after = reads_items l w o in
      let fits : ItemFits limits nodes (item_of xs v x) = record { sizes = one_keeps in_item list (item_of xs v x) (items_front l) w; rules = one_obeys item_obeys limits.free list (item_of xs v x) (items_front l) o } in
      record { to = after.to; reads = reads_items_rest list all after.to a b f i fits after.reads }

  -- ---- files

  reads_line : (begin : Place) {id : Identifier} {end : Place} {from : ℕ} → NameStands ts from id → Stands ts (from + 1) (k.Mark m.Semicolon) end → (seen : ℕ) → Fit (λ count. count.of_identifier id) → Reads ⊥ (line_rest limits nodes begin) ts from seen (line_of (span begin end) id) (from + 1 + 1)
  unfolding line_rest
  reads_line begin {id = id} {end = end} {from = from} v z seen w = let a = line_of (span begin end) id in
      reads_bind ⊥ ts (name limits) _ from seen (from + 1) (from + 1 + 1) id a (name_read ts limits nodes u id from seen v w)
      (λ s1. reads_bind ⊥ ts (expect m.Semicolon) _ (from + 1) s1 (from + 1 + 1) (from + 1 + 1) end a (reads_expect ⊥ ts m.Semicolon end (from + 1) s1 z) (λ s2. reads_pure ⊥ ts a (from + 1 + 1) s2))

  reads_module : {x : Option ModuleLine} {from to : ℕ} → ModuleAt ts x from to → (seen : ℕ) → Fit (λ count. optional (in_line count) x) → Reads ⊥ (module_line limits nodes) ts from seen x to
  unfolding module_line
  reads_module {from = from} (t.no_module n) seen f = reads_next ⊥ ts (λ x. module_by limits nodes x (sees_word words.Module x)) from seen None from (first (drop from ts)) (Leave (pure None)) refl
      (ap (module_by limits nodes (first (drop from ts))) n.is) (λ s1. reads_pure ⊥ ts None from s1)
  reads_module {from = from} {to = to} (t.module_line {x = x} (t.line {p = p} s v z)) seen f =
      let tok : Lexed = record { kind = k.Word words.Module; place = p; bytes = s.bytes } in
      reads_next ⊥ ts (λ x. module_by limits nodes x (sees_word words.Module x)) from seen (Some x) to (Some tok) (module_by limits nodes (Some tok) true) s.is refl
      (λ s1. reads_map ⊥ ts Some (line_rest limits nodes p) (from + 1) s1 x to (reads_line p v z s1 f))

  reads_import : (list : List ModuleLine) {x : ModuleLine} {from to : ℕ} → LineAt ts words.Import x from to → (seen : ℕ) → Fit (λ count. in_line count x) → Reads ⊥ (import_more limits nodes list) ts from seen (list ++ x ∷ []) to
  unfolding import_more
  reads_import list {x = x} {from = from} {to = to} (t.line {p = p} s v z) seen f = let a = list ++ x ∷ [] in
      reads_bind ⊥ ts (expect_word words.Import) _ from seen (from + 1) to p a (reads_expect_word ⊥ ts words.Import p from seen s)
      (λ s1. reads_map ⊥ ts (λ y. list ++ y ∷ []) (line_rest limits nodes p) (from + 1) s1 x to (reads_line p v z s1 f))

  import_none : {x : ModuleLine} {from to : ℕ} → LineAt ts words.Import x from to → Left ts zero from → ⊥
  import_none {from = from} (t.line s v z) l = left_none ts from _ s.is l

  imports_front : {xs ys : List ModuleLine} {from to : ℕ} → ImportsAt ts xs ys from to → Front xs ys
  imports_front (t.end n) = whole
  imports_front (t.more {x = x} v l) = longer x (imports_front l)

  reads_imports : {list all : List ModuleLine} {from to : ℕ} → ImportsAt ts list all from to → (count seen : ℕ) → Left ts count from → Fit (λ count. in_each count (in_line count) all) → Reads ⊥ (turns (sees_word words.Import) (import_more limits nodes) count list) ts from seen all to
  reads_imports {list = list} {from = from} (t.end n) count seen u1 f = reads_turns_end ⊥ ts (sees_word words.Import) (import_more limits nodes) count list from seen n.is
  reads_imports (t.more v l) zero seen u1 f = absurd (import_none v u1)
  reads_imports {list = list} {all = all} {from = from} {to = to} (t.more {mid = mid} {x = x} v l) (suc count) seen u1 f =
      reads_turns_more ⊥ ts (sees_word words.Import) (import_more limits nodes) count list (list ++ x ∷ []) all from seen mid to (import_there (Unit {0}) tt ts limits nodes v)
      (λ s1. reads_import list v s1 (one_keeps in_line list x (imports_front l) f)) (λ s1. reads_imports l count s1 (left_next ts count from mid (line_moves ts v) u1) f)

  -- a file is read up to some token
  pub record Whole (x : File) : Type 0 where
    pub to : ℕ
    pub reads : (seen : ℕ) → Reads ⊥ (files limits nodes) ts 0 seen x to

  pub reads_files : {x : File} → FileAt ts x → FileFits limits nodes x → Whole x
  unfolding files
  reads_files {x = x} (t.file {mid = mid} {at = at} {line = line} {imports = imports} {items = items} h i l) f =
      let behind = right _ _ f.sizes in
      let ends = reads_items l (right _ _ behind) f.rules in
      record {
        to = ends.to;
        reads = λ seen. reads_bind ⊥ ts (module_line limits nodes) _ 0 seen mid ends.to line x (reads_module h seen (left _ _ f.sizes))
            (λ s1. reads_bind ⊥ ts (turns (sees_word words.Import) (import_more limits nodes) limits.turns []) _ mid s1 at ends.to imports x (reads_imports i limits.turns s1 (left_all u mid) (left _ _ behind))
            (λ s2. reads_bind ⊥ ts (turns (is_token limits nodes) (item_more limits nodes) limits.turns []) _ at s2 ends.to ends.to items x (ends.reads limits.turns s2 (left_all u at)) (λ s3. reads_pure ⊥ ts x ends.to s3)));
      }
