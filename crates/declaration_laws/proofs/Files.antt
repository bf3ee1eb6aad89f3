-- Items and whole files: what is spelled is read, but where a limit is passed.
use Rattle.std.proofs.Common.{true, false, ◌≡◌, ℕ, zero, suc, ◌+◌, List, [], ◌∷◌, ◌++◌, drop, Option, Some, None, refl, ◌∙◌, ap}
use Rattle.slang_names.specs.declared.places.Place.{Place}
use Rattle.slang_names.specs.declared.places.Access.{Access}
use Rattle.slang_tree.specs.declared.types.Identifier.{Identifier}
use Rattle.slang_tree.specs.declared.types.TypeTree.{TypeTree}
use Rattle.slang_tree.specs.declared.expressions.ExprTree.{ExprTree}
use Rattle.slang_tree.specs.declared.statements.Attribute.{Attribute}
use Rattle.slang_tree.specs.declared.file.ModuleLine.{ModuleLine}
use Rattle.slang_tree.specs.declared.file.Item.{Item}
use Rattle.slang_tree.specs.declared.file.ItemNode.{ItemNode}
use Rattle.slang_tree.specs.declared.file.ItemNode.TheVariants as d
use Rattle.slang_tree.specs.declared.file.File.{File}
use Rattle.slang_tokens.specs.declared.tokens.Kind.TheVariants as k
use Rattle.slang_tokens.specs.declared.tokens.Mark.TheVariants as m
use Rattle.slang_tokens.specs.declared.tokens.Word.TheVariants as w
use Rattle.slang_reading.specs.Lexed.{Lexed}
use Rattle.slang_reading.specs.Reading.{Choice, Leave, Take, first, pure, turns}
use Rattle.slang_reading.specs.Kinds.{sees, sees_word, span}
use Rattle.slang_reading.proofs.Exact.{Reads, reads_pure, reads_bind, reads_next, reads_turns_end, reads_turns_more, reads_turns_full}
use Rattle.slang_grammar.specs.Standing.{Stands, NameStands}
use Rattle.slang_grammar.specs.Types.{TypeAt}
use Rattle.slang_grammar.specs.Expressions.{ExprAt}
use Rattle.slang_grammar.specs.Descent.{Limits, expect, name}
use Rattle.slang_grammar.specs.ExpressionsDescent.{expressions}
use Rattle.slang_grammar.proofs.Shared.{reads_expect, reads_name}
use Rattle.expression_grammar.specs.Heights.{expr_height}
use Rattle.statement_grammar.specs.declared.attributes.Target.TheVariants as target
use Rattle.statement_grammar.specs.Attributes.{AttributesAt}
use Rattle.statement_grammar.specs.AttributesDescent as attributes
use Rattle.statement_grammar.specs.AttributesDescent.{Given, Noted, if_suits}
use Rattle.statement_grammar.proofs.AttributesRead.{notes, reads_attributes}
use Rattle.statement_grammar.proofs.Begins.{Closes}
use Rattle.statement_laws.proofs.Operands.{reads_whole}
use Rattle.statement_laws.proofs.Behind.{closes_on}
use Rattle.declaration_grammar.specs.Parts as parts
use Rattle.declaration_grammar.specs.Parts.{access_at, AccessAt, NamesAt, ParametersAt, ClosedAt}
use Rattle.declaration_grammar.specs.PartsDescent.{expect_word}
use Rattle.declaration_grammar.specs.Declarations as t
use Rattle.declaration_grammar.specs.Declarations.{FunctionAt, BoundAt, requirement_of, RequirementAt, RequirementsAt, interface_of, InterfaceAt, ExtendedAt, extension_of, ExtensionAt, constant_of, ConstantAt, global_of, ItemNodeAt, is_private, item_of, ItemsAt, line_of, LineAt, ModuleAt, ImportsAt, FileAt}
use Rattle.declaration_grammar.specs.DeclarationsDescent.{use_of, begins_parameters, type_name, function_rest, struct_rest, interface_rest, extension_rest, constant_rest, item_typed_by, item_typed, item_as, item_node, item_accessed, item_access, item_more, line_rest, module_by, module_line, import_more, is_token, files}
use Rattle.declaration_laws.proofs.Begins.{begun_use, word_begun, type_begun, begins_somewhere}
use Rattle.declaration_laws.proofs.Parts.{reads_expect_word}
use Rattle.declaration_laws.proofs.Functions.{reads_map, reads_suits, reads_worded, reads_shown, reads_type_name, reads_typed, RestAt, reads_function, function_begins, reads_alias}
use Rattle.declaration_laws.proofs.Members.{reads_struct}
use Rattle.declaration_laws.proofs.Interfaces.{reads_interface, reads_extension}

-- E holds, and any limit may be passed
module _ (E : Type 0) (e : E) (ts : List Lexed) (limits : Limits) (nodes : ℕ) where
  -- ---- items

  reads_constant : (begin : Place) {q o end : Place} {tree : TypeTree} {id : Identifier} {x : ExprTree} {from mid at : ℕ} → Stands ts from (k.Word w.Const) q → TypeAt ts tree (from + 1) mid → NameStands ts mid id →
      Stands ts (mid + 1) (k.Mark m.Equal) o → ExprAt ts x (mid + 1 + 1) at → Stands ts at (k.Mark m.Semicolon) end → (seen : ℕ) →
      Reads E (constant_rest limits nodes begin) ts from seen (constant_of (span begin end) tree id x) (at + 1)
  unfolding constant_rest
  reads_constant begin {q = q} {o = o} {end = end} {tree = tree} {id = id} {x = x} {from = from} {mid = mid} {at = at} s r v i y z seen =
      let a = constant_of (span begin end) tree id x in
      let closes : Closes ts at = record { mark = m.Semicolon; place = end; is = z; closes = refl } in
      reads_bind E ts (expect_word w.Const) _ from seen (from + 1) (at + 1) q a (reads_expect_word E ts w.Const q from seen s)
      (λ s1. reads_bind E ts (type_name limits nodes) _ (from + 1) s1 (mid + 1) (at + 1) (tree, id) a (reads_type_name E e ts limits nodes r v s1)
      (λ s2. reads_bind E ts (expect m.Equal) _ (mid + 1) s2 (mid + 1 + 1) (at + 1) o a (reads_expect E ts m.Equal o (mid + 1) s2 i)
      (λ s3. reads_bind E ts (expressions limits nodes) _ (mid + 1 + 1) s3 at (at + 1) (x, expr_height x) a (reads_whole E e ts limits y (closes_on closes) nodes s3)
      (λ s4. reads_bind E ts (expect m.Semicolon) _ at s4 (at + 1) (at + 1) end a (reads_expect E ts m.Semicolon end at s4 z) (λ s5. reads_pure E ts a (at + 1) s5)))))

  reads_item_node : {x : ItemNode} {from to : ℕ} → ItemNodeAt ts x from to → (list : Noted) (seen : ℕ) → Reads E (item_node limits nodes list) ts from seen x to
  unfolding item_node item_typed
  reads_item_node {to = to} (t.struct {x = x} (t.struct {p = p} s h l c)) list seen =
      reads_worded E e ts limits d.Struct (struct_rest limits nodes p) (λ x. item_as limits nodes list x (use_of x)) x to target.Other list s refl (λ s1. reads_struct E e ts limits nodes p h l c s1) seen
  reads_item_node {to = to} (t.interface {x = x} (t.interface {p = p} s v o l c)) list seen =
      reads_worded E e ts limits d.Interface (interface_rest limits nodes p) (λ x. item_as limits nodes list x (use_of x)) x to target.Other list s refl (λ s1. reads_interface E e ts limits nodes p v o l c s1) seen
  reads_item_node {to = to} (t.extension {x = x} (t.extension {p = p} s g v a h c o l z)) list seen =
      reads_worded E e ts limits d.Extension (extension_rest limits nodes p) (λ x. item_as limits nodes list x (use_of x)) x to target.Other list s refl (λ s1. reads_extension E e ts limits nodes p g v a h c o l z s1) seen
  reads_item_node (t.alias r) list seen = reads_alias E e ts limits nodes d.Alias (λ x. item_as limits nodes list x (use_of x)) list (λ p bytes. refl) (λ p bytes. refl) r seen
  reads_item_node (t.function (t.function (t.static s r) v g l c b) f) list seen = cc
  reads_item_node {from = from} {to = to} (t.function {x = x} (t.function {mid = mid} {at = at} {to = last} {next = next_} {id = id} (t.plain {t = tree} r) v g l c b) f) list seen =
      let rest : RestAt E e ts limits nodes x.generics x.parameters x.wheres x.body (mid + 1) to = record { mid = at; at = last; last = next_; generic = g; given = l; bound = c; block = b } in
      let there = first (drop (mid + 1) ts) in
      reads_typed E e ts limits nodes (λ x. item_as limits nodes list x (use_of x)) (item_typed limits nodes list) (d.Function x) to r v (ap (item_as limits nodes list (first (drop from ts))) (begun_use (type_begun r)))
      (λ s1. reads_shown E e ts limits d.Function (function_rest limits nodes tree.place false (tree, id)) (λ o. item_typed_by limits nodes list (tree, id) o (begins_parameters o) (sees m.Semicolon o)) x to target.Function list
      (ap (λ b. item_typed_by limits nodes list (tree, id) there b (sees m.Semicolon there)) (function_begins E e ts limits nodes rest))
      (λ s2. reads_function E e ts limits nodes tree.place false tree id rest s2) s1) seen
  reads_item_node {to = to} (t.constant {x = x} (t.constant {p = p} s q r v o y z)) list seen =
      reads_worded E e ts limits d.Constant (constant_rest limits nodes p) (λ x. item_as limits nodes list x (use_of x)) x to target.Other list s refl (λ s1. reads_constant p q r v o y z s1) seen
  reads_item_node {from = from} {to = to} (t.global {x = x} (t.global {mid = mid} {end = end} {t = tree} {id = id} r v z)) list seen =
      let tok : Lexed = record { kind = k.Mark m.Semicolon; place = end; bytes = z.bytes } in
      let rest : Choice ItemNode = Take (pure (d.Global x)) in
      reads_typed E e ts limits nodes (λ x. item_as limits nodes list x (use_of x)) (item_typed limits nodes list) (d.Global x) to r v (ap (item_as limits nodes list (first (drop from ts))) (begun_use (type_begun r)))
      (λ s1. reads_next E ts (λ o. item_typed_by limits nodes list (tree, id) o (begins_parameters o) (sees m.Semicolon o)) (mid + 1) s1 (d.Global x) to (Some tok) (if_suits limits target.Global list rest) z.is refl
      (reads_suits E e ts limits (mid + 1) (d.Global x) to (Some tok) target.Global list rest (λ s2. reads_pure E ts (d.Global x) to s2))) seen

  pub item_begins : {x : ItemNode} {from to : ℕ} → ItemNodeAt ts x from to → (tok : Lexed) × (first (drop from ts) ≡ Some tok)
  item_begins (t.struct (t.struct s h l c)) = let b = word_begun s in (b.tok, b.is)
  item_begins (t.interface (t.interface s v o l c)) = let b = word_begun s in (b.tok, b.is)
  item_begins (t.extension (t.extension s g v a h c o l z)) = let b = word_begun s in (b.tok, b.is)
  item_begins (t.alias (t.type_def s r v z)) = let b = word_begun s in (b.tok, b.is)
  item_begins (t.alias (t.type_alias s v o r z)) = let b = word_begun s in (b.tok, b.is)
  item_begins (t.function (t.function (t.static s r) v g l c b) f) = let b = word_begun s in (b.tok, b.is)
  item_begins (t.function (t.function (t.plain r) v g l c b) f) = let b = type_begun r in (b.tok, b.is)
  item_begins (t.constant (t.constant s q r v o y z)) = let b = word_begun s in (b.tok, b.is)
  item_begins (t.global (t.global r v z)) = let b = type_begun r in (b.tok, b.is)

  reads_item_access : {a : Option Access} {from to : ℕ} → AccessAt ts a from to → is_private a ≡ false → (seen : ℕ) → Reads E (item_access limits nodes) ts from seen a to
  unfolding item_access
  reads_item_access {from = from} (parts.no_access q) f seen = reads_next E ts (λ x. item_accessed limits nodes (access_at x) (is_private (access_at x))) from seen None from (first (drop from ts)) (Leave (pure None)) refl
      (ap (λ a. item_accessed limits nodes a (is_private a)) q) (λ s1. reads_pure E ts None from s1)
  reads_item_access {from = from} (parts.access {p = p} {word = word} {a = a} s q) f seen =
      reads_next E ts (λ x. item_accessed limits nodes (access_at x) (is_private (access_at x))) from seen (Some a) (from + 1) (Some (record { kind = k.Word word; place = p; bytes = s.bytes })) (Take (pure (Some a))) s.is
      (ap (λ a. item_accessed limits nodes a (is_private a)) q ∙ ap (item_accessed limits nodes (Some a)) f) (λ s1. reads_pure E ts (Some a) (from + 1) s1)

  reads_item : (list : List Item) {xs : List Attribute} {v : Option Access} {x : ItemNode} {from mid at to : ℕ} → AttributesAt ts [] xs from mid → AccessAt ts v mid at → is_private v ≡ false → ItemNodeAt ts x at to → (seen : ℕ) →
      Reads E (item_more limits nodes list) ts from seen (list ++ item_of xs v x ∷ []) to
  unfolding item_more
  reads_item list {xs = xs} {v = v} {x = x} {from = from} {mid = mid} {at = at} {to = to} a b f i seen =
      let given : Given = (xs, notes E e ts limits attributes.items a []) in
      let z = list ++ item_of xs v x ∷ [] in
      reads_bind E ts (attributes.attributes limits attributes.items) _ from seen mid to given z (reads_attributes E e ts limits attributes.items a seen)
      (λ s1. reads_bind E ts (item_access limits nodes) _ mid s1 at to v z (reads_item_access b f s1)
      (λ s2. reads_bind E ts (item_node limits nodes given.1) _ at s2 to to x z (reads_item_node i given.1 s2) (λ s3. reads_pure E ts z to s3)))

  pub item_there : {xs : List Attribute} {v : Option Access} {x : ItemNode} {from mid at to : ℕ} → AttributesAt ts [] xs from mid → AccessAt ts v mid at → ItemNodeAt ts x at to → is_token limits nodes (first (drop from ts)) ≡ true
  item_there a b i = let s = begins_somewhere a b (item_begins i) in ap (is_token limits nodes) s.1

  -- the items are read up to where no token stands
  record Ends (list all : List Item) (from : ℕ) : Type 0 where
    to : ℕ
    is : first (drop to ts) ≡ None
    reads : (count seen : ℕ) → Reads E (turns (is_token limits nodes) (item_more limits nodes) count list) ts from seen all to

  reads_items_rest : (list all : List Item) {xs : List Attribute} {v : Option Access} {x : ItemNode} {from mid next_ at : ℕ} (to : ℕ) → AttributesAt ts [] xs from mid → AccessAt ts v mid next_ → is_private v ≡ false → ItemNodeAt ts x next_ at →
      ((count seen : ℕ) → Reads E (turns (is_token limits nodes) (item_more limits nodes) count (list ++ item_of xs v x ∷ [])) ts at seen all to) → (count seen : ℕ) →
      Reads E (turns (is_token limits nodes) (item_more limits nodes) count list) ts from seen all to
  reads_items_rest list all {from = from} to a b f i h zero seen = reads_turns_full E ts (is_token limits nodes) (item_more limits nodes) list all from seen to (item_there a b i) e
  reads_items_rest list all {xs = xs} {v = v} {x = x} {from = from} {at = at} to a b f i h (suc count) seen =
      reads_turns_more E ts (is_token limits nodes) (item_more limits nodes) count list (list ++ item_of xs v x ∷ []) all from seen at to (item_there a b i) (λ s1. reads_item list a b f i s1) (λ s1. h count s1)

  reads_items : {list all : List Item} {from : ℕ} → ItemsAt ts list all from → Ends list all from
  reads_items {list = list} {from = from} (t.end q) = record { to = from; is = q; reads = λ count seen. reads_turns_end E ts (is_token limits nodes) (item_more limits nodes) count list from seen (ap (is_token limits nodes) q) }
  reads_items {list = list} {all = all} (t.more a b f i l) = let after = reads_items l in record { to = after.to; is = after.is; reads = reads_items_rest list all after.to a b f i after.reads }

  -- ---- files

  reads_line : (begin : Place) {id : Identifier} {end : Place} {from : ℕ} → NameStands ts from id → Stands ts (from + 1) (k.Mark m.Semicolon) end → (seen : ℕ) → Reads E (line_rest limits nodes begin) ts from seen (line_of (span begin end) id) (from + 1 + 1)
  unfolding line_rest
  reads_line begin {id = id} {end = end} {from = from} v z seen = let a = line_of (span begin end) id in
      reads_bind E ts (name limits) _ from seen (from + 1) (from + 1 + 1) id a (reads_name E ts e limits id from seen v)
      (λ s1. reads_bind E ts (expect m.Semicolon) _ (from + 1) s1 (from + 1 + 1) (from + 1 + 1) end a (reads_expect E ts m.Semicolon end (from + 1) s1 z) (λ s2. reads_pure E ts a (from + 1 + 1) s2))

  reads_module : {x : Option ModuleLine} {from to : ℕ} → ModuleAt ts x from to → (seen : ℕ) → Reads E (module_line limits nodes) ts from seen x to
  unfolding module_line
  reads_module {from = from} (t.no_module n) seen = reads_next E ts (λ x. module_by limits nodes x (sees_word w.Module x)) from seen None from (first (drop from ts)) (Leave (pure None)) refl
      (ap (module_by limits nodes (first (drop from ts))) n.is) (λ s1. reads_pure E ts None from s1)
  reads_module {from = from} {to = to} (t.module_line {x = x} (t.line {p = p} s v z)) seen =
      let tok : Lexed = record { kind = k.Word w.Module; place = p; bytes = s.bytes } in
      reads_next E ts (λ x. module_by limits nodes x (sees_word w.Module x)) from seen (Some x) to (Some tok) (module_by limits nodes (Some tok) true) s.is refl
      (λ s1. reads_map E ts Some (line_rest limits nodes p) (from + 1) s1 x to (reads_line p v z s1))

  reads_import : (list : List ModuleLine) {x : ModuleLine} {from to : ℕ} → LineAt ts w.Import x from to → (seen : ℕ) → Reads E (import_more limits nodes list) ts from seen (list ++ x ∷ []) to
  unfolding import_more
  reads_import list {x = x} {from = from} {to = to} (t.line {p = p} s v z) seen = let a = list ++ x ∷ [] in
      reads_bind E ts (expect_word w.Import) _ from seen (from + 1) to p a (reads_expect_word E ts w.Import p from seen s)
      (λ s1. reads_map E ts (λ y. list ++ y ∷ []) (line_rest limits nodes p) (from + 1) s1 x to (reads_line p v z s1))

  pub import_there : {x : ModuleLine} {from to : ℕ} → LineAt ts w.Import x from to → sees_word w.Import (first (drop from ts)) ≡ true
  import_there (t.line s v z) = ap (sees_word w.Import) s.is

  reads_imports : {list all : List ModuleLine} {from to : ℕ} → ImportsAt ts list all from to → (count seen : ℕ) → Reads E (turns (sees_word w.Import) (import_more limits nodes) count list) ts from seen all to
  reads_imports {list = list} {from = from} (t.end n) count seen = reads_turns_end E ts (sees_word w.Import) (import_more limits nodes) count list from seen n.is
  reads_imports {list = list} {all = all} {from = from} {to = to} (t.more v l) zero seen = reads_turns_full E ts (sees_word w.Import) (import_more limits nodes) list all from seen to (import_there v) e
  reads_imports {list = list} {all = all} {from = from} {to = to} (t.more {mid = mid} {x = x} v l) (suc count) seen =
      reads_turns_more E ts (sees_word w.Import) (import_more limits nodes) count list (list ++ x ∷ []) all from seen mid to (import_there v) (λ s1. reads_import list v s1) (λ s1. reads_imports l count s1)

  -- a file is read up to where no token stands
  pub record Whole (x : File) : Type 0 where
    pub to : ℕ
    pub is : first (drop to ts) ≡ None
    pub reads : (seen : ℕ) → Reads E (files limits nodes) ts 0 seen x to

  pub reads_files : {x : File} → FileAt ts x → Whole x
  unfolding files
  reads_files {x = x} (t.file {mid = mid} {at = at} {line = line} {imports = imports} {items = items} h i l) =
      let ends = reads_items l in
      record {
        to = ends.to;
        is = ends.is;
        reads = λ seen. reads_bind E ts (module_line limits nodes) _ 0 seen mid ends.to line x (reads_module h seen)
            (λ s1. reads_bind E ts (turns (sees_word w.Import) (import_more limits nodes) limits.turns []) _ mid s1 at ends.to imports x (reads_imports i limits.turns s1)
            (λ s2. reads_bind E ts (turns (is_token limits nodes) (item_more limits nodes) limits.turns []) _ at s2 ends.to ends.to items x (ends.reads limits.turns s2) (λ s3. reads_pure E ts x ends.to s3)));
      }
