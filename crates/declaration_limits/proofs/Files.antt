-- Items and files: the first limit or rule on attributes that is broken is told.
use Rattle.std.proofs.Common.{◌≤◌, true, false, ◌≡◌, ℕ, zero, suc, ◌+◌, List, [], ◌∷◌, ◌++◌, drop, length, Option, Some, None, refl, ◌∙◌, ap}
use Rattle.slang_names.specs.declared.places.Place.{Place}
use Rattle.slang_names.specs.declared.places.Access.{Access}
use Rattle.slang_tree.specs.declared.types.Identifier.{Identifier}
use Rattle.slang_tree.specs.declared.types.TypeTree.{TypeTree}
use Rattle.slang_tree.specs.declared.expressions.ExprTree.{ExprTree}
use Rattle.slang_tree.specs.declared.statements.Attribute.{Attribute}
use Rattle.slang_tree.specs.declared.file.ModuleLine.{ModuleLine}
use Rattle.slang_tree.specs.declared.file.Item.{Item}
use Rattle.slang_tree.specs.declared.file.ItemNode.{ItemNode}
use Rattle.slang_tree.specs.declared.file.ItemNode.TheVariants as d
use Rattle.slang_tree.specs.declared.file.File.{File}
use Rattle.slang_tokens.specs.declared.tokens.Kind.TheVariants as k
use Rattle.slang_tokens.specs.declared.tokens.Mark.TheVariants as m
use Rattle.slang_tokens.specs.declared.tokens.Word.TheVariants as words
use Rattle.slang_reading.specs.Lexed.{Lexed}
use Rattle.slang_reading.specs.Reading.{Leave, Take, first, pure, turns}
use Rattle.slang_reading.specs.Kinds.{sees, sees_word, span}
use Rattle.slang_reading.proofs.Exact.{Reads, reads_pure, reads_bind, reads_next}
use Rattle.slang_grammar.specs.Standing.{Stands, NameStands}
use Rattle.slang_grammar.specs.Types.{TypeAt}
use Rattle.slang_grammar.specs.Expressions.{ExprAt}
use Rattle.slang_grammar.specs.Descent.{Limits, expect, name}
use Rattle.slang_grammar.specs.ExpressionsDescent.{expressions}
use Rattle.slang_grammar.proofs.Shared.{reads_expect}
use Rattle.expression_grammar.specs.Heights.{expr_height}
use Rattle.statement_grammar.specs.declared.attributes.Target.TheVariants as target
use Rattle.statement_grammar.specs.Attributes.{AttributesAt}
use Rattle.statement_grammar.specs.AttributesDescent as attributes
use Rattle.statement_grammar.specs.AttributesDescent.{Given, if_suits}
use Rattle.statement_grammar.proofs.Begins.{Closes}
use Rattle.statement_laws.proofs.Behind.{closes_on}
use Rattle.declaration_grammar.specs.Parts as parts
use Rattle.declaration_grammar.specs.Parts.{access_at, AccessAt}
use Rattle.declaration_grammar.specs.PartsDescent.{expect_word}
use Rattle.declaration_grammar.specs.Declarations as t
use Rattle.declaration_grammar.specs.Declarations.{constant_of, ItemNodeAt, is_private, item_of, ItemsAt, line_of, LineAt, ModuleAt, ImportsAt, FileAt}
use Rattle.declaration_grammar.specs.DeclarationsDescent.{use_of, begins_parameters, type_name, function_rest, struct_rest, interface_rest, extension_rest, constant_rest, item_typed_by, item_typed, item_as, item_node, item_accessed, item_access, item_more, line_rest, module_by, module_line, import_more, is_token, files}
use Rattle.declaration_laws.proofs.Begins.{begun_use, type_begun, begins_somewhere}
use Rattle.declaration_laws.proofs.Parts.{reads_expect_word}
use Rattle.declaration_laws.proofs.Functions.{RestAt, function_begins}
use Rattle.declaration_laws.proofs.Files.{item_begins, item_there, import_there}
use Rattle.statement_fits.proofs.Moves.{Left, left_next, left_none, attributes_move}
use Rattle.declaration_fits.proofs.Moves.{access_moves, item_node_moves, line_moves}
use Rattle.declaration_fits.proofs.Members.{member_moves}
use Rattle.expression_limits.specs.Breaks.{Break, name_there}
use Rattle.expression_limits.specs.Expressions.{expr_breaks}
use Rattle.expression_limits.proofs.Telling.{Tells, tells_reads, tells_bind, tells_then, tells_last, tells_next, tells_turns_end, tells_turns_more}
use Rattle.expression_limits.proofs.Expressions.{tells_expr}
use Rattle.expression_limits.proofs.Types.{tells_name}
use Rattle.statement_limits.specs.Attributes.{attributes_breaks, misfit_breaks}
use Rattle.statement_limits.proofs.Attributes.{noted_in, tells_attributes}
use Rattle.declaration_limits.specs.Declarations.{typed_breaks, item_node_breaks, items_breaks, line_breaks, module_breaks, imports_breaks, file_breaks}
use Rattle.declaration_limits.proofs.Telling.{tells_map, tells_worded, tells_shown, tells_suits_last}
use Rattle.declaration_limits.proofs.Parts.{all_left}
use Rattle.declaration_limits.proofs.Functions.{tells_type_name, tells_typed, tells_function, tells_alias}
use Rattle.declaration_limits.proofs.Members.{tells_struct}
use Rattle.declaration_limits.proofs.Interfaces.{tells_interface, tells_extension}

module _ (ts : List Lexed) (limits : Limits) (free : limits.free ≡ false) (long : length ts ≤ limits.turns) (nodes : ℕ) where
  -- ---- items

  tells_constant : (begin : Place) {q o end : Place} {tree : TypeTree} {id : Identifier} {x : ExprTree} {from mid at : ℕ} → Stands ts from (k.Word words.Const) q → (r : TypeAt ts tree (from + 1) mid) → (v : NameStands ts mid id) →
      Stands ts (mid + 1) (k.Mark m.Equal) o → (y : ExprAt ts x (mid + 1 + 1) at) → Stands ts at (k.Mark m.Semicolon) end → (seen : ℕ) →
      Tells (typed_breaks ts limits r v nodes ++ expr_breaks ts limits y nodes) (constant_rest limits nodes begin) ts from seen (constant_of (span begin end) tree id x) (at + 1)
  unfolding constant_rest
  tells_constant begin {q = q} {o = o} {end = end} {tree = tree} {id = id} {x = x} {from = from} {mid = mid} {at = at} s r v i y z seen =
      let a = constant_of (span begin end) tree id x in
      let closes : Closes ts at = record { mark = m.Semicolon; place = end; is = z; closes = refl } in
      tells_then ts (expect_word words.Const) _ from seen (from + 1) (at + 1) q a (reads_expect_word ⊥ ts words.Const q from seen s)
      (λ s1. tells_bind ts (type_name limits nodes) _ (from + 1) s1 (mid + 1) (at + 1) (tree, id) a (tells_type_name ts limits free long nodes r v s1)
      (λ s2. tells_then ts (expect m.Equal) _ (mid + 1) s2 (mid + 1 + 1) (at + 1) o a (reads_expect ⊥ ts m.Equal o (mid + 1) s2 i)
      (λ s3. tells_last ts (expressions limits nodes) _ (mid + 1 + 1) s3 at (at + 1) (x, expr_height x) a (tells_expr ts limits free long y (closes_on closes) nodes s3)
      (λ s4. reads_bind ⊥ ts (expect m.Semicolon) _ at s4 (at + 1) (at + 1) end a (reads_expect ⊥ ts m.Semicolon end at s4 z) (λ s5. reads_pure ⊥ ts a (at + 1) s5)))))

  tells_item_node : {x : ItemNode} {from to : ℕ} → (s : ItemNodeAt ts x from to) → {xs ys : List Attribute} {begin end_ : ℕ} (before : AttributesAt ts xs ys begin end_) → (seen : ℕ) →
      Tells (item_node_breaks ts limits s (misfit_breaks ts before) nodes) (item_node limits nodes (noted_in ts before)) ts from seen x to
  unfolding item_node item_typed
  tells_item_node {from = from} {to = to} (t.struct {x = x} (t.struct {p = p} s h l c)) before seen =
      let list = noted_in ts before in
      tells_worded ts limits free before target.Other d.Struct (struct_rest limits nodes p) (λ x. item_as limits nodes list x (use_of x)) x to s refl (λ s1. tells_struct ts limits free long nodes p h l c s1) seen
  tells_item_node {from = from} {to = to} (t.interface {x = x} (t.interface {p = p} s v o l c)) before seen =
      let list = noted_in ts before in
      tells_worded ts limits free before target.Other d.Interface (interface_rest limits nodes p) (λ x. item_as limits nodes list x (use_of x)) x to s refl (λ s1. tells_interface ts limits free long nodes p v o l c s1) seen
  tells_item_node {from = from} {to = to} (t.extension {x = x} (t.extension {p = p} s g v a h c o l z)) before seen =
      let list = noted_in ts before in
      tells_worded ts limits free before target.Other d.Extension (extension_rest limits nodes p) (λ x. item_as limits nodes list x (use_of x)) x to s refl (λ s1. tells_extension ts limits free long nodes p g v a h c o l z s1) seen
  tells_item_node (t.alias r) before seen = let list = noted_in ts before in tells_alias ts limits free long nodes d.Alias (λ x. item_as limits nodes list x (use_of x)) before (λ p bytes. refl) (λ p bytes. refl) r seen
  tells_item_node (t.function (t.function (t.static s r) v g l c b) f) before seen = cc
  tells_item_node {from = from} {to = to} (t.function {x = x} (t.function {mid = mid} {at = at} {to = last} {next = next_} {id = id} (t.plain {t = tree} r) v g l c b) f) before seen =
      let list = noted_in ts before in
      let rest : RestAt (Unit {0}) tt ts limits nodes x.generics x.parameters x.wheres x.body (mid + 1) to = record { mid = at; at = last; last = next_; generic = g; given = l; bound = c; block = b } in
      let there = first (drop (mid + 1) ts) in
      tells_typed ts limits free long nodes (λ x. item_as limits nodes list x (use_of x)) (item_typed limits nodes list) (d.Function x) to r v (ap (item_as limits nodes list (first (drop from ts))) (begun_use (type_begun r)))
      (λ s1. tells_shown ts limits free before target.Function d.Function (function_rest limits nodes tree.place false (tree, id)) (λ o. item_typed_by limits nodes list (tree, id) o (begins_parameters o) (sees m.Semicolon o)) x to
      (ap (λ b. item_typed_by limits nodes list (tree, id) there b (sees m.Semicolon there)) (function_begins (Unit {0}) tt ts limits nodes rest))
      (λ s2. tells_function ts limits free long nodes tree.place false tree id rest s2) s1) seen
  tells_item_node {from = from} {to = to} (t.constant {x = x} (t.constant {p = p} s q r v o y z)) before seen =
      let list = noted_in ts before in
      tells_worded ts limits free before target.Other d.Constant (constant_rest limits nodes p) (λ x. item_as limits nodes list x (use_of x)) x to s refl (λ s1. tells_constant p q r v o y z s1) seen
  tells_item_node {from = from} {to = to} (t.global {x = x} (t.global {mid = mid} {end = end} {t = tree} {id = id} r v z)) before seen =
      let list = noted_in ts before in
      let tok : Lexed = record { kind = k.Mark m.Semicolon; place = end; bytes = z.bytes } in
      tells_typed ts limits free long nodes (λ x. item_as limits nodes list x (use_of x)) (item_typed limits nodes list) (d.Global x) to r v (ap (item_as limits nodes list (first (drop from ts))) (begun_use (type_begun r)))
      (λ s1. tells_next ts (λ o. item_typed_by limits nodes list (tree, id) o (begins_parameters o) (sees m.Semicolon o)) (mid + 1) s1 (d.Global x) to (Some tok) (if_suits limits target.Global list (Take (pure (d.Global x)))) z.is refl
      (tells_suits_last ts limits free before target.Global (mid + 1) (d.Global x) to tok (pure (d.Global x)) (λ s2. reads_pure ⊥ ts (d.Global x) to s2))) seen

  reads_item_access : {a : Option Access} {from to : ℕ} → AccessAt ts a from to → is_private a ≡ false → (seen : ℕ) → Reads ⊥ (item_access limits nodes) ts from seen a to
  unfolding item_access
  reads_item_access {from = from} (parts.no_access q) f seen = reads_next ⊥ ts (λ x. item_accessed limits nodes (access_at x) (is_private (access_at x))) from seen None from (first (drop from ts)) (Leave (pure None)) refl
      (ap (λ a. item_accessed limits nodes a (is_private a)) q) (λ s1. reads_pure ⊥ ts None from s1)
  reads_item_access {from = from} (parts.access {p = p} {word = word} {a = a} s q) f seen =
      reads_next ⊥ ts (λ x. item_accessed limits nodes (access_at x) (is_private (access_at x))) from seen (Some a) (from + 1) (Some (record { kind = k.Word word; place = p; bytes = s.bytes })) (Take (pure (Some a))) s.is
      (ap (λ a. item_accessed limits nodes a (is_private a)) q ∙ ap (item_accessed limits nodes (Some a)) f) (λ s1. reads_pure ⊥ ts (Some a) (from + 1) s1)

  tells_item : (list : List Item) {xs : List Attribute} {v : Option Access} {x : ItemNode} {from mid at to : ℕ} → (a : AttributesAt ts [] xs from mid) → AccessAt ts v mid at → is_private v ≡ false → (i : ItemNodeAt ts x at to) → (seen : ℕ) →
      Tells (attributes_breaks ts limits attributes.items a [] ++ item_node_breaks ts limits i (misfit_breaks ts a) nodes) (item_more limits nodes list) ts from seen (list ++ item_of xs v x ∷ []) to
  unfolding item_more
  tells_item list {xs = xs} {v = v} {x = x} {from = from} {mid = mid} {at = at} {to = to} a b f i seen =
      let given : Given = (xs, noted_in ts a) in
      let z = list ++ item_of xs v x ∷ [] in
      tells_bind ts (attributes.attributes limits attributes.items) _ from seen mid to given z (tells_attributes ts limits free long attributes.items a seen)
      (λ s1. tells_then ts (item_access limits nodes) _ mid s1 at to v z (reads_item_access b f s1)
      (λ s2. tells_last ts (item_node limits nodes given.1) _ at s2 to to x z (tells_item_node i a s2) (λ s3. reads_pure ⊥ ts z to s3)))

  -- what the items break is told, up to where no token stands
  record Ends (bs : List Break) (list all : List Item) (from : ℕ) : Type 0 where
    to : ℕ
    tells : (count seen : ℕ) → Left ts count from → Tells bs (turns (is_token limits nodes) (item_more limits nodes) count list) ts from seen all to

  tells_items_rest : (bs : List Break) (list all : List Item) {xs : List Attribute} {v : Option Access} {x : ItemNode} {from mid next_ at : ℕ} (to : ℕ) → (a : AttributesAt ts [] xs from mid) → AccessAt ts v mid next_ → is_private v ≡ false →
      (i : ItemNodeAt ts x next_ at) → ((count seen : ℕ) → Left ts count at → Tells bs (turns (is_token limits nodes) (item_more limits nodes) count (list ++ item_of xs v x ∷ [])) ts at seen all to) → (count seen : ℕ) → Left ts count from →
      Tells ((attributes_breaks ts limits attributes.items a [] ++ item_node_breaks ts limits i (misfit_breaks ts a) nodes) ++ bs) (turns (is_token limits nodes) (item_more limits nodes) count list) ts from seen all to
  tells_items_rest bs list all {from = from} to a v f i h zero seen left_ = let begin = begins_somewhere a v (item_begins (Unit {0}) tt ts limits nodes i) in absurd (left_none ts from begin.0 begin.1 left_)
  tells_items_rest bs list all {xs = xs} {v = access} {x = x} {from = from} {at = at} to a v f i h (suc count) seen left_ =
      let moves = member_moves (attributes_move ts a) (access_moves ts v) (item_node_moves ts i) in
      tells_turns_more ts (is_token limits nodes) (item_more limits nodes) count list (list ++ item_of xs access x ∷ []) all from seen at to (item_there (Unit {0}) tt ts limits nodes a v i) (λ s1. tells_item list a v f i s1)
      (λ s1. h count s1 (left_next ts count from at moves left_))

  tells_items : {list all : List Item} {from : ℕ} → (s : ItemsAt ts list all from) → Ends (items_breaks ts limits s nodes) list all from
  tells_items {list = list} {from = from} (t.end q) = record { to = from; tells = λ count seen left_. tells_turns_end ts (is_token limits nodes) (item_more limits nodes) count list from seen (ap (is_token limits nodes) q) }
  tells_items {list = list} {all = all} (t.more a v f i l) =
      let after = tells_items l in
      record { to = after.to; tells = tells_items_rest (items_breaks ts limits l nodes) list all after.to a v f i after.tells }

  -- ---- files

  tells_line : (begin : Place) {id : Identifier} {end : Place} {from : ℕ} → NameStands ts from id → Stands ts (from + 1) (k.Mark m.Semicolon) end → (seen : ℕ) →
      Tells (name_there ts limits id from) (line_rest limits nodes begin) ts from seen (line_of (span begin end) id) (from + 1 + 1)
  unfolding line_rest
  tells_line begin {id = id} {end = end} {from = from} v z seen = let a = line_of (span begin end) id in
      tells_last ts (name limits) _ from seen (from + 1) (from + 1 + 1) id a (tells_name ts limits free id from seen v)
      (λ s1. reads_bind ⊥ ts (expect m.Semicolon) _ (from + 1) s1 (from + 1 + 1) (from + 1 + 1) end a (reads_expect ⊥ ts m.Semicolon end (from + 1) s1 z) (λ s2. reads_pure ⊥ ts a (from + 1 + 1) s2))

  tells_module : {x : Option ModuleLine} {from to : ℕ} → (s : ModuleAt ts x from to) → (seen : ℕ) → Tells (module_breaks ts limits s) (module_line limits nodes) ts from seen x to
  unfolding module_line
  tells_module {from = from} (t.no_module n) seen = tells_next ts (λ x. module_by limits nodes x (sees_word words.Module x)) from seen None from (first (drop from ts)) (Leave (pure None)) refl
      (ap (module_by limits nodes (first (drop from ts))) n.is) (λ s1. tells_reads _ ts from s1 None from (reads_pure ⊥ ts None from s1))
  tells_module {from = from} {to = to} (t.module_line {x = x} (t.line {p = p} s v z)) seen =
      let tok : Lexed = record { kind = k.Word words.Module; place = p; bytes = s.bytes } in
      tells_next ts (λ x. module_by limits nodes x (sees_word words.Module x)) from seen (Some x) to (Some tok) (module_by limits nodes (Some tok) true) s.is refl
      (λ s1. tells_map ts Some (line_rest limits nodes p) (from + 1) s1 x to (tells_line p v z s1))

  tells_import : (list : List ModuleLine) {x : ModuleLine} {from to : ℕ} → (s : LineAt ts words.Import x from to) → (seen : ℕ) → Tells (line_breaks ts limits s) (import_more limits nodes list) ts from seen (list ++ x ∷ []) to
  unfolding import_more
  tells_import list {x = x} {from = from} {to = to} (t.line {p = p} s v z) seen = let a = list ++ x ∷ [] in
      tells_then ts (expect_word words.Import) _ from seen (from + 1) to p a (reads_expect_word ⊥ ts words.Import p from seen s)
      (λ s1. tells_map ts (λ y. list ++ y ∷ []) (line_rest limits nodes p) (from + 1) s1 x to (tells_line p v z s1))

  import_none : {x : ModuleLine} {from to : ℕ} → LineAt ts words.Import x from to → Left ts zero from → ⊥
  import_none {from = from} (t.line s v z) l = left_none ts from _ s.is l

  tells_imports : {list all : List ModuleLine} {from to : ℕ} → (s : ImportsAt ts list all from to) → (count seen : ℕ) → Left ts count from →
      Tells (imports_breaks ts limits s) (turns (sees_word words.Import) (import_more limits nodes) count list) ts from seen all to
  tells_imports {list = list} {from = from} (t.end n) count seen u = tells_turns_end ts (sees_word words.Import) (import_more limits nodes) count list from seen n.is
  tells_imports (t.more v l) zero seen u = absurd (import_none v u)
  tells_imports {list = list} {all = all} {from = from} {to = to} (t.more {mid = mid} {x = x} v l) (suc count) seen u =
      tells_turns_more ts (sees_word words.Import) (import_more limits nodes) count list (list ++ x ∷ []) all from seen mid to (import_there (Unit {0}) tt ts limits nodes v)
      (λ s1. tells_import list v s1) (λ s1. tells_imports l count s1 (left_next ts count from mid (line_moves ts v) u))

  -- what a file breaks is told, or it is answered up to some token
  pub record Whole (bs : List Break) (x : File) : Type 0 where
    pub to : ℕ
    pub tells : (seen : ℕ) → Tells bs (files limits nodes) ts 0 seen x to

  pub tells_files : {x : File} → (s : FileAt ts x) → Whole (file_breaks ts limits s nodes) x
  unfolding files
  tells_files {x = x} (t.file {mid = mid} {at = at} {line = line} {imports = imports} {items = items} h i l) =
      let ends = tells_items l in
      record {
        to = ends.to;
        tells = λ seen. tells_bind ts (module_line limits nodes) _ 0 seen mid ends.to line x (tells_module h seen)
            (λ s1. tells_bind ts (turns (sees_word words.Import) (import_more limits nodes) limits.turns []) _ mid s1 at ends.to imports x (tells_imports i limits.turns s1 (all_left ts limits free long mid))
            (λ s2. tells_last ts (turns (is_token limits nodes) (item_more limits nodes) limits.turns []) _ at s2 ends.to ends.to items x (ends.tells limits.turns s2 (all_left ts limits free long at)) (λ s3. reads_pure ⊥ ts x ends.to s3)));
      }
