-- Interfaces, extensions, items and files: what was looked at of one, but for the last token, goes on to be one.
use Rattle.std.proofs.Common.{Bool, true, false, ◌≡◌, ℕ, ◌+◌, ◌<◌, List, [], ◌∷◌, ◌++◌, not, length, Option, Some, None, refl, ap, arith}
use Rattle.slang_names.specs.declared.places.Place.{Place}
use Rattle.slang_names.specs.declared.places.Access.{Access}
use Rattle.slang_names.specs.declared.codes.ModuleCode.TheVariants as code
use Rattle.slang_tree.specs.declared.types.Identifier.{Identifier}
use Rattle.slang_tree.specs.declared.statements.Attribute.{Attribute}
use Rattle.slang_tree.specs.declared.declarations.Requirement.{Requirement}
use Rattle.slang_tree.specs.declared.declarations.RequirementNode.TheVariants as r
use Rattle.slang_tree.specs.declared.file.ModuleLine.{ModuleLine}
use Rattle.slang_tree.specs.declared.file.Item.{Item}
use Rattle.slang_tree.specs.declared.file.ItemNode.{ItemNode}
use Rattle.slang_tree.specs.declared.file.ItemNode.TheVariants as d
use Rattle.slang_tokens.specs.declared.tokens.Kind.{Kind}
use Rattle.slang_tokens.specs.declared.tokens.Kind.TheVariants as k
use Rattle.slang_tokens.specs.declared.tokens.Mark.TheVariants as m
use Rattle.slang_tokens.specs.declared.tokens.Word.{Word}
use Rattle.slang_tokens.specs.declared.tokens.Word.TheVariants as w
use Rattle.slang_reading.specs.Lexed.{Lexed}
use Rattle.slang_reading.specs.Reading.{Leave, Take, if_fits, ◌>>=◌, pure, place_of, next, turns}
use Rattle.slang_reading.specs.Kinds.{sees, sees_word, span}
use Rattle.slang_reading.proofs.Viable.{Finishes, Viable, viable_pure, finishes_pure, EachPair, finishes_next_take, finishes_next_leave, finishes_next_end, viable_next, Ready, ready_bind, ready_last, ready_turns}
use Rattle.slang_grammar.specs.Descent.{Limits, fits_in, expect, name, identifier, named_by, named}
use Rattle.slang_grammar.specs.ExpressionsDescent.{expressions}
use Rattle.slang_grammar.proofs.TypesReady.{mark, int_word, Any, ready_expect, pair_short, pair_items}
use Rattle.expression_grammar.proofs.Ready.{Ends, zero_call}
use Rattle.statement_grammar.specs.declared.attributes.Target.TheVariants as target
use Rattle.statement_grammar.specs.Attributes.{begin_of}
use Rattle.statement_grammar.specs.AttributesDescent as attributes
use Rattle.statement_grammar.specs.AttributesDescent.{Given, Noted}
use Rattle.statement_ends.proofs.Roomy.{roomy, wider, word}
use Rattle.statement_ends.proofs.Attributes.{Unmarked, ready_attributes}
use Rattle.statement_ends.proofs.Names.{ready_value}
use Rattle.declaration_grammar.specs.declared.tables.DeclarationUse.{DeclarationUse}
use Rattle.declaration_grammar.specs.declared.tables.DeclarationUse.TheVariants as u
use Rattle.declaration_grammar.specs.Parts.{access_at}
use Rattle.declaration_grammar.specs.PartsDescent.{expect_word, generics, heads, constraints, parameters, closed}
use Rattle.declaration_grammar.specs.Declarations.{requirement_of, interface_of, extension_of, constant_of, global_of, is_private, item_of, line_of}
use Rattle.declaration_grammar.specs.DeclarationsDescent.{use_of, begins_parameters, TypeName, type_name, function_rest, type_def, type_alias, in_braces, inner_members, struct_rest, bound_by, associated, required, associated_as, requirement_as, requirement, requirement_begins, requirement_choice, requirement_more, interface_rest, extended_name, extended_more, extended_rest, extended_by, extended, extension_rest, constant_rest, item_typed_by, item_typed, item_as, item_node, item_accessed, item_access, item_more, line_rest, module_by, module_line, import_more, is_token, files}
use Rattle.declaration_ends.proofs.Words.{ready_word, Unaccessed, pair_suits, viable_last}
use Rattle.declaration_ends.proofs.Parts.{name_token, Uncommaed, NoLess, Headed, Constrained, ready_id, ready_generics, ready_heads, ready_constraints, ready_parameters, closed_path, ready_closed}
use Rattle.declaration_ends.proofs.Members.{Braced, alias_path, declaration_path, ready_type_name, ready_function, ready_type_def, viable_type_alias, ready_inner_members, viable_struct}

-- the shortest rest of a required function, and the shortest requirement that may stand behind attributes
abbrev required_path : List Lexed
required_path = mark m.OpenParen ∷ mark m.CloseParen ∷ mark m.Semicolon ∷ []

abbrev static_path : List Lexed
static_path = int_word ∷ name_token ∷ required_path

abbrev requirement_path : List Lexed
requirement_path = word w.Static ∷ static_path

-- no token
abbrev pub Over : Option Lexed → Type 0
Over x = x ≡ None

module _ (limits : Limits) (nodes e : ℕ) (h : (roomy limits).turns + 5 + nodes < e) where
  abbrev large : Limits
  large = roomy limits

  -- ---- interfaces

  ready_bound : Ready Any (mark m.Colon ∷ name_token ∷ []) (next (λ x. bound_by limits nodes (sees m.Colon x))) (next (λ x. bound_by large e (sees m.Colon x)))
  ready_bound = record { viable = viable_next Any (λ x. bound_by large e (sees m.Colon x)) (λ x. bound_by limits nodes (sees m.Colon x)) (mark m.Colon ∷ name_token ∷ []) finishes (λ x. by (sees m.Colon x)); finishes = finishes }
    where
      more : Ready {A = Option Identifier} Any (name_token ∷ []) (name limits >>= (λ id. pure (Some id))) (name large >>= (λ id. pure (Some id)))
      more = ready_last Any (name_token ∷ []) (name limits) (name large) (λ id. Some id) (ready_id limits Any)

      finishes : Finishes Any (mark m.Colon ∷ name_token ∷ []) (next (λ x. bound_by large e (sees m.Colon x)))
      finishes = finishes_next_take Any (λ x. bound_by large e (sees m.Colon x)) (mark m.Colon) (name_token ∷ []) _ refl more.finishes

      by : (b : Bool) → EachPair (Viable Any) (bound_by limits nodes b) (bound_by large e b)
      by true = more.viable
      by false = viable_pure Any None

  viable_associated : (begin : Place) → Viable Any (associated limits nodes begin) (associated large e begin)
  unfolding associated
  viable_associated begin = (ready_bind Any Any (name_token ∷ []) (mark m.Colon ∷ name_token ∷ mark m.Semicolon ∷ []) (name limits) (name large) _ _ (λ rest f. tt) (ready_id limits Any)
      (λ id. ready_bind Any Any (mark m.Colon ∷ name_token ∷ []) (mark m.Semicolon ∷ []) (next (λ x. bound_by limits nodes (sees m.Colon x))) (next (λ x. bound_by large e (sees m.Colon x))) _ _ (λ rest f. tt) ready_bound
      (λ b. ready_last Any (mark m.Semicolon ∷ []) (expect m.Semicolon) (expect m.Semicolon) (λ end. requirement_of (span begin end) (r.Associated id b)) (ready_expect Any m.Semicolon)))).viable

  ready_required : (list : List Attribute) (b : Bool) (begin : Place) (x : TypeName limits nodes) → Ready Any required_path (required limits nodes list b begin x) (required large e list b begin x)
  unfolding required
  ready_required list b begin x = ready_bind Any Any (mark m.OpenParen ∷ mark m.CloseParen ∷ []) (mark m.Semicolon ∷ []) (parameters limits nodes) (parameters large e) _ _ (λ rest f. tt) (ready_parameters limits nodes e (omega (arith, h)) Any)
      (λ p. ready_last Any (mark m.Semicolon ∷ []) (expect m.Semicolon) (expect m.Semicolon) (λ end. requirement_of (span (begin_of list begin) end) (r.Function list b x.0 x.1 p)) (ready_expect Any m.Semicolon))

  ready_requirement : Ready Any requirement_path (requirement limits nodes) (requirement large e)
  unfolding requirement
  ready_requirement = ready_bind Any Unmarked [] requirement_path (attributes.attributes limits attributes.members) (attributes.attributes large attributes.members) _ _ (λ rest f. refl) (ready_attributes limits attributes.members) rest
    where
      static : (a : Given) (begin : Place) → Ready Any static_path (type_name limits nodes >>= (λ y. required limits nodes a.0 true begin y)) (type_name large e >>= (λ y. required large e a.0 true begin y))
      static a begin = ready_bind Any Any (int_word ∷ name_token ∷ []) required_path (type_name limits nodes) (type_name large e) _ _ (λ rest f. tt) (ready_type_name limits nodes e h Any) (λ y. ready_required a.0 true begin y)

      alone : (list : List Attribute) (begin : Place) → EachPair (Viable Any) (associated_as limits nodes list begin) (associated_as large e list begin)
      alone [] begin = viable_associated begin
      alone (x ∷ xs) begin = tt

      finishes : (a : Given) → Finishes Any requirement_path (next (λ x. requirement_as large e a x (use_of x)))
      finishes a = finishes_next_take Any (λ x. requirement_as large e a x (use_of x)) (word w.Static) static_path (type_name large e >>= (λ y. required large e a.0 true (word w.Static).place y)) refl (static a (word w.Static).place).finishes

      by : (a : Given) (x : Option Lexed) (v : DeclarationUse) → EachPair (Viable Any) (requirement_as limits nodes a x v) (requirement_as large e a x v)
      by a x u.Associated = alone a.0 (place_of x)
      by a x u.Static = pair_suits Any limits target.Other a.1 (Take (type_name limits nodes >>= (λ y. required limits nodes a.0 true (place_of x) y))) (Take (type_name large e >>= (λ y. required large e a.0 true (place_of x) y))) (static a (place_of x)).viable
      by a x u.Typed = pair_suits Any limits target.Method a.1 (Leave (type_name limits nodes >>= (λ y. required limits nodes a.0 false y.0.place y))) (Leave (type_name large e >>= (λ y. required large e a.0 false y.0.place y)))
          (ready_bind Any Any (int_word ∷ name_token ∷ []) required_path (type_name limits nodes) (type_name large e) (λ y. required limits nodes a.0 false y.0.place y) (λ y. required large e a.0 false y.0.place y) (λ rest f. tt) (ready_type_name limits nodes e h Any)
          (λ y. ready_required a.0 false y.0.place y)).viable
      by a x u.Struct = tt
      by a x u.Interface = tt
      by a x u.Extension = tt
      by a x u.TypeDef = tt
      by a x u.TypeAlias = tt
      by a x u.Nothing = tt

      rest : (a : Given) → Ready Any requirement_path (next (λ x. requirement_as limits nodes a x (use_of x))) (next (λ x. requirement_as large e a x (use_of x)))
      rest a = record { viable = viable_next Any (λ x. requirement_as large e a x (use_of x)) (λ x. requirement_as limits nodes a x (use_of x)) requirement_path (finishes a) (λ x. by a x (use_of x)); finishes = finishes a }

  viable_requirement_more : (list : List Requirement) → Viable Any (requirement_more limits nodes list) (requirement_more large e list)
  unfolding requirement_more
  viable_requirement_more list = viable_last (λ y. list ++ y ∷ []) (next (λ x. if_fits (fits_in limits (length list) limits.items) code.TooLong x (requirement_choice limits nodes x (requirement_begins limits nodes x))))
      (next (λ x. if_fits (fits_in large (length list) large.items) code.TooLong x (requirement_choice large e x (requirement_begins large e x))))
      (viable_next Any (λ x. if_fits (fits_in large (length list) large.items) code.TooLong x (requirement_choice large e x (requirement_begins large e x)))
      (λ x. if_fits (fits_in limits (length list) limits.items) code.TooLong x (requirement_choice limits nodes x (requirement_begins limits nodes x))) requirement_path finishes
      (λ x. pair_items limits large (wider limits) Any x (length list) limits.items large.items (requirement_choice limits nodes x (requirement_begins limits nodes x)) (requirement_choice large e x (requirement_begins large e x)) (by x (requirement_begins limits nodes x))))
    where
      finishes : Finishes Any requirement_path (next (λ x. if_fits (fits_in large (length list) large.items) code.TooLong x (requirement_choice large e x (requirement_begins large e x))))
      finishes = finishes_next_leave Any (λ x. if_fits (fits_in large (length list) large.items) code.TooLong x (requirement_choice large e x (requirement_begins large e x))) (word w.Static) static_path (requirement large e) refl ready_requirement.finishes

      by : (x : Option Lexed) (b : Bool) → EachPair (Viable Any) (requirement_choice limits nodes x b) (requirement_choice large e x b)
      by x true = ready_requirement.viable
      by x false = tt

  viable_interface : (begin : Place) → Viable Any (interface_rest limits nodes begin) (interface_rest large e begin)
  unfolding interface_rest
  viable_interface begin = (ready_bind Any Any (name_token ∷ []) (mark m.OpenBrace ∷ closed_path) (name limits) (name large) _ _ (λ rest f. tt) (ready_id limits Any)
      (λ id. ready_bind Any Any (mark m.OpenBrace ∷ []) closed_path (expect m.OpenBrace) (expect m.OpenBrace) _ _ (λ rest f. tt) (ready_expect Any m.OpenBrace)
      (λ o. ready_bind Any Braced [] closed_path (turns (in_braces limits nodes) (requirement_more limits nodes) limits.turns []) (turns (in_braces large e) (requirement_more large e) large.turns []) _ _ (λ rest f. refl)
      (ready_turns Braced Any (in_braces limits nodes) (requirement_more limits nodes) (requirement_more large e) limits.turns large.turns [] (omega arith) (λ y f. tt) (λ y f. ap not f) viable_requirement_more)
      (λ list. ready_last Any closed_path closed closed (λ end. interface_of (span begin end) id list) (ready_closed Any))))).viable

  -- ---- extensions

  ready_extended_name : (count : ℕ) → Ready Any (name_token ∷ []) (extended_name limits nodes count) (extended_name large e count)
  unfolding extended_name
  ready_extended_name count = record {
    viable = viable_next Any (λ x. if_fits (fits_in large count large.items) code.TooLong x (named large x)) (λ x. if_fits (fits_in limits count limits.items) code.TooLong x (named limits x)) (name_token ∷ []) finishes
        (λ x. pair_items limits large (wider limits) Any x count limits.items large.items (named limits x) (named large x) (go x));
    finishes = finishes;
  }
    where
      finishes : Finishes Any (name_token ∷ []) (next (λ x. if_fits (fits_in large count large.items) code.TooLong x (named large x)))
      finishes = finishes_next_take Any (λ x. if_fits (fits_in large count large.items) code.TooLong x (named large x)) name_token [] (pure (identifier name_token)) refl (finishes_pure Any _)

      by : (t : Lexed) (kind : Kind) → EachPair (Viable Any) (named_by limits t kind) (named_by large t kind)
      by t k.Name = pair_short limits large (wider limits) Any t (Take (pure (identifier t))) (Take (pure (identifier t))) (viable_pure Any (identifier t))
      by t (k.Word word) = tt
      by t (k.Number v) = tt
      by t k.String = tt
      by t (k.Mark mark) = tt

      go : (x : Option Lexed) → EachPair (Viable Any) (named limits x) (named large x)
      go (Some t) = by t t.kind
      go None = tt

  viable_extended_more : (list : List Identifier) → Viable Any (extended_more limits nodes list) (extended_more large e list)
  unfolding extended_more
  viable_extended_more list = (ready_bind Any Any (mark m.Comma ∷ []) (name_token ∷ []) (expect m.Comma) (expect m.Comma) _ _ (λ rest f. tt) (ready_expect Any m.Comma)
      (λ o. ready_last Any (name_token ∷ []) (extended_name limits nodes (length list)) (extended_name large e (length list)) (λ id. list ++ id ∷ []) (ready_extended_name (length list)))).viable

  viable_extended_rest : (F : Option Lexed → Type 0) → Viable F (extended_rest limits nodes) (extended_rest large e)
  unfolding extended_rest
  viable_extended_rest F = (ready_bind F Any (name_token ∷ []) (mark m.Greater ∷ []) (extended_name limits nodes 0) (extended_name large e 0) _ _ (λ rest f. tt) (ready_extended_name 0)
      (λ id. ready_bind F Uncommaed [] (mark m.Greater ∷ []) (turns (sees m.Comma) (extended_more limits nodes) limits.turns (id ∷ [])) (turns (sees m.Comma) (extended_more large e) large.turns (id ∷ [])) _ _ (λ rest f. refl)
      (ready_turns Uncommaed Any (sees m.Comma) (extended_more limits nodes) (extended_more large e) limits.turns large.turns (id ∷ []) (omega arith) (λ y c. tt) (λ y c. c) viable_extended_more)
      (λ list. ready_last F (mark m.Greater ∷ []) (expect m.Greater) (expect m.Greater) (λ end. list) (ready_expect F m.Greater)))).viable

  ready_extended : Ready NoLess [] (extended limits nodes) (extended large e)
  unfolding extended
  ready_extended = record { viable = viable_next NoLess (λ x. extended_by large e (sees m.Less x)) (λ x. extended_by limits nodes (sees m.Less x)) [] finishes (λ x. by (sees m.Less x)); finishes = finishes }
    where
      finishes : Finishes NoLess [] (next (λ x. extended_by large e (sees m.Less x)))
      finishes = finishes_next_end NoLess (λ x. extended_by large e (sees m.Less x)) (λ x. pure []) (λ x f. ap (extended_by large e) f) (λ x. finishes_pure NoLess [])

      by : (b : Bool) → EachPair (Viable NoLess) (extended_by limits nodes b) (extended_by large e b)
      by true = viable_extended_rest NoLess
      by false = viable_pure NoLess []

  viable_extension : (begin : Place) → Viable Any (extension_rest limits nodes begin) (extension_rest large e begin)
  unfolding extension_rest
  viable_extension begin = (ready_bind Any NoLess [] (name_token ∷ mark m.OpenBrace ∷ closed_path) (generics limits) (generics large) _ _ (λ rest f. refl) (ready_generics limits)
      (λ g. ready_bind Any Any (name_token ∷ []) (mark m.OpenBrace ∷ closed_path) (name limits) (name large) _ _ (λ rest f. tt) (ready_id limits Any)
      (λ id. ready_bind Any NoLess [] (mark m.OpenBrace ∷ closed_path) (extended limits nodes) (extended large e) _ _ (λ rest f. refl) ready_extended
      (λ arguments. ready_bind Any Headed [] (mark m.OpenBrace ∷ closed_path) (heads limits) (heads large) _ _ (λ rest f. (refl, refl)) (ready_heads limits)
      (λ hs. ready_bind Any Constrained [] (mark m.OpenBrace ∷ closed_path) (constraints limits) (constraints large) _ _ (λ rest f. (refl, refl)) (ready_constraints limits)
      (λ wheres. ready_bind Any Any (mark m.OpenBrace ∷ []) closed_path (expect m.OpenBrace) (expect m.OpenBrace) _ _ (λ rest f. tt) (ready_expect Any m.OpenBrace)
      (λ o. ready_bind Any Braced [] closed_path (inner_members limits nodes false) (inner_members large e false) _ _ (λ rest f. refl) (ready_inner_members limits nodes e h false)
      (λ list. ready_last Any closed_path closed closed (λ end. extension_of (span begin end) g id arguments hs wheres list) (ready_closed Any))))))))).viable

  -- ---- items

  viable_constant : (begin : Place) → Viable Any (constant_rest limits nodes begin) (constant_rest large e begin)
  unfolding constant_rest
  viable_constant begin = (ready_bind Any Any (word w.Const ∷ []) (int_word ∷ name_token ∷ mark m.Equal ∷ (zero_call ++ mark m.Semicolon ∷ [])) (expect_word w.Const) (expect_word w.Const) _ _ (λ rest f. tt) (ready_word Any w.Const)
      (λ o. ready_bind Any Any (int_word ∷ name_token ∷ []) (mark m.Equal ∷ (zero_call ++ mark m.Semicolon ∷ [])) (type_name limits nodes) (type_name large e) _ _ (λ rest f. tt) (ready_type_name limits nodes e h Any)
      (λ x. ready_bind Any Any (mark m.Equal ∷ []) (zero_call ++ mark m.Semicolon ∷ []) (expect m.Equal) (expect m.Equal) _ _ (λ rest f. tt) (ready_expect Any m.Equal)
      (λ q. ready_bind Any Ends zero_call (mark m.Semicolon ∷ []) (expressions limits nodes) (expressions large e) _ _ (λ rest f. refl) (ready_value limits e nodes (omega (arith, h)))
      (λ v. ready_last Any (mark m.Semicolon ∷ []) (expect m.Semicolon) (expect m.Semicolon) (λ end. constant_of (span begin end) x.0 x.1 v.0) (ready_expect Any m.Semicolon)))))).viable

  ready_item_typed : (list : Noted) (x : TypeName limits nodes) → Ready Any (mark m.Semicolon ∷ []) (item_typed limits nodes list x) (item_typed large e list x)
  unfolding item_typed
  ready_item_typed list x = record {
    viable = viable_next Any (λ o. item_typed_by large e list x o (begins_parameters o) (sees m.Semicolon o)) (λ o. item_typed_by limits nodes list x o (begins_parameters o) (sees m.Semicolon o)) (mark m.Semicolon ∷ []) finishes
        (λ o. by o (begins_parameters o) (sees m.Semicolon o));
    finishes = finishes;
  }
    where
      finishes : Finishes Any (mark m.Semicolon ∷ []) (next (λ o. item_typed_by large e list x o (begins_parameters o) (sees m.Semicolon o)))
      finishes = finishes_next_take Any (λ o. item_typed_by large e list x o (begins_parameters o) (sees m.Semicolon o)) (mark m.Semicolon) [] (pure _) refl (finishes_pure Any _)

      by : (o : Option Lexed) (b c : Bool) → EachPair (Viable Any) (item_typed_by limits nodes list x o b c) (item_typed_by large e list x o b c)
      by o true c = pair_suits Any limits target.Function list (Leave (function_rest limits nodes x.0.place false x >>= (λ y. pure (d.Function y)))) (Leave (function_rest large e x.0.place false x >>= (λ y. pure (d.Function y))))
          (viable_last (λ y. d.Function y) (function_rest limits nodes x.0.place false x) (function_rest large e x.0.place false x) (ready_function limits nodes e h Any x.0.place false x).viable)
      by o false true = pair_suits Any limits target.Global list (Take (pure (d.Global (global_of (span x.0.place (place_of o)) x.0 x.1)))) (Take (pure (d.Global (global_of (span x.0.place (place_of o)) x.0 x.1)))) (viable_pure Any _)
      by o false false = tt

  ready_item_node : (list : Noted) → Ready Any declaration_path (item_node limits nodes list) (item_node large e list)
  unfolding item_node
  ready_item_node list = record { viable = viable_next Any (λ x. item_as large e list x (use_of x)) (λ x. item_as limits nodes list x (use_of x)) declaration_path finishes (λ x. by x (use_of x)); finishes = finishes }
    where
      defined : (begin : Place) → Ready {A = ItemNode} Any alias_path (type_def limits nodes begin >>= (λ y. pure (d.Alias y))) (type_def large e begin >>= (λ y. pure (d.Alias y)))
      defined begin = ready_last Any alias_path (type_def limits nodes begin) (type_def large e begin) (λ y. d.Alias y) (ready_type_def limits nodes e h Any begin)

      finishes : Finishes Any declaration_path (next (λ x. item_as large e list x (use_of x)))
      finishes = finishes_next_take Any (λ x. item_as large e list x (use_of x)) (word w.TypeDef) alias_path (type_def large e (word w.TypeDef).place >>= (λ y. pure (d.Alias y))) refl (defined (word w.TypeDef).place).finishes

      by : (x : Option Lexed) (v : DeclarationUse) → EachPair (Viable Any) (item_as limits nodes list x v) (item_as large e list x v)
      by x u.Struct = pair_suits Any limits target.Other list (Take (struct_rest limits nodes (place_of x) >>= (λ y. pure (d.Struct y)))) (Take (struct_rest large e (place_of x) >>= (λ y. pure (d.Struct y))))
          (viable_last (λ y. d.Struct y) (struct_rest limits nodes (place_of x)) (struct_rest large e (place_of x)) (viable_struct limits nodes e h (place_of x)))
      by x u.Interface = pair_suits Any limits target.Other list (Take (interface_rest limits nodes (place_of x) >>= (λ y. pure (d.Interface y)))) (Take (interface_rest large e (place_of x) >>= (λ y. pure (d.Interface y))))
          (viable_last (λ y. d.Interface y) (interface_rest limits nodes (place_of x)) (interface_rest large e (place_of x)) (viable_interface (place_of x)))
      by x u.Extension = pair_suits Any limits target.Other list (Take (extension_rest limits nodes (place_of x) >>= (λ y. pure (d.Extension y)))) (Take (extension_rest large e (place_of x) >>= (λ y. pure (d.Extension y))))
          (viable_last (λ y. d.Extension y) (extension_rest limits nodes (place_of x)) (extension_rest large e (place_of x)) (viable_extension (place_of x)))
      by x u.TypeDef = pair_suits Any limits target.Other list (Take (type_def limits nodes (place_of x) >>= (λ y. pure (d.Alias y)))) (Take (type_def large e (place_of x) >>= (λ y. pure (d.Alias y)))) (defined (place_of x)).viable
      by x u.TypeAlias = pair_suits Any limits target.Other list (Take (type_alias limits nodes (place_of x) >>= (λ y. pure (d.Alias y)))) (Take (type_alias large e (place_of x) >>= (λ y. pure (d.Alias y))))
          (viable_last (λ y. d.Alias y) (type_alias limits nodes (place_of x)) (type_alias large e (place_of x)) (viable_type_alias limits nodes e h Any (place_of x)))
      by x u.Static = pair_suits Any limits target.Other list (Take (constant_rest limits nodes (place_of x) >>= (λ y. pure (d.Constant y)))) (Take (constant_rest large e (place_of x) >>= (λ y. pure (d.Constant y))))
          (viable_last (λ y. d.Constant y) (constant_rest limits nodes (place_of x)) (constant_rest large e (place_of x)) (viable_constant (place_of x)))
      by x u.Typed = (ready_bind Any Any (int_word ∷ name_token ∷ []) (mark m.Semicolon ∷ []) (type_name limits nodes) (type_name large e) (item_typed limits nodes list) (item_typed large e list) (λ rest f. tt) (ready_type_name limits nodes e h Any) (λ y. ready_item_typed list y)).viable
      by x u.Associated = tt
      by x u.Nothing = tt

  ready_item_access : Ready Unaccessed [] (item_access limits nodes) (item_access large e)
  unfolding item_access
  ready_item_access = record { viable = viable_next Unaccessed (λ x. item_accessed large e (access_at x) (is_private (access_at x))) (λ x. item_accessed limits nodes (access_at x) (is_private (access_at x))) [] finishes (λ x. by (access_at x) (is_private (access_at x))); finishes = finishes }
    where
      finishes : Finishes Unaccessed [] (next (λ x. item_accessed large e (access_at x) (is_private (access_at x))))
      finishes = finishes_next_end Unaccessed (λ x. item_accessed large e (access_at x) (is_private (access_at x))) (λ x. pure None) (λ x f. ap (λ a. item_accessed large e a (is_private a)) f) (λ x. finishes_pure Unaccessed None)

      by : (a : Option Access) (b : Bool) → EachPair (Viable Unaccessed) (item_accessed limits nodes a b) (item_accessed large e a b)
      by a true = tt
      by (Some a) false = viable_pure Unaccessed (Some a)
      by None false = viable_pure Unaccessed None

  viable_item_more : (list : List Item) → Viable Any (item_more limits nodes list) (item_more large e list)
  unfolding item_more
  viable_item_more list = (ready_bind Any Unmarked [] declaration_path (attributes.attributes limits attributes.items) (attributes.attributes large attributes.items) _ _ (λ rest f. refl) (ready_attributes limits attributes.items)
      (λ a. ready_bind Any Unaccessed [] declaration_path (item_access limits nodes) (item_access large e) _ _ (λ rest f. refl) ready_item_access
      (λ v. ready_last Any declaration_path (item_node limits nodes a.1) (item_node large e a.1) (λ x. list ++ item_of a.0 v x ∷ []) (ready_item_node a.1)))).viable

  -- ---- files

  ready_line : (F : Option Lexed → Type 0) (begin : Place) → Ready F (name_token ∷ mark m.Semicolon ∷ []) (line_rest limits nodes begin) (line_rest large e begin)
  unfolding line_rest
  ready_line F begin = ready_bind F Any (name_token ∷ []) (mark m.Semicolon ∷ []) (name limits) (name large) _ _ (λ rest f. tt) (ready_id limits Any)
      (λ id. ready_last F (mark m.Semicolon ∷ []) (expect m.Semicolon) (expect m.Semicolon) (λ end. line_of (span begin end) id) (ready_expect F m.Semicolon))

  abbrev Unworded : Word → Option Lexed → Type 0
  Unworded a x = sees_word a x ≡ false

  ready_module : Ready (Unworded w.Module) [] (module_line limits nodes) (module_line large e)
  unfolding module_line
  ready_module = record { viable = viable_next (Unworded w.Module) (λ x. module_by large e x (sees_word w.Module x)) (λ x. module_by limits nodes x (sees_word w.Module x)) [] finishes (λ x. by x (sees_word w.Module x)); finishes = finishes }
    where
      finishes : Finishes (Unworded w.Module) [] (next (λ x. module_by large e x (sees_word w.Module x)))
      finishes = finishes_next_end (Unworded w.Module) (λ x. module_by large e x (sees_word w.Module x)) (λ x. pure None) (λ x f. ap (module_by large e x) f) (λ x. finishes_pure (Unworded w.Module) None)

      by : (x : Option Lexed) (b : Bool) → EachPair (Viable (Unworded w.Module)) (module_by limits nodes x b) (module_by large e x b)
      by x true = (ready_last (Unworded w.Module) (name_token ∷ mark m.Semicolon ∷ []) (line_rest limits nodes (place_of x)) (line_rest large e (place_of x)) (λ y. Some y) (ready_line (Unworded w.Module) (place_of x))).viable
      by x false = viable_pure (Unworded w.Module) None

  viable_import_more : (list : List ModuleLine) → Viable Any (import_more limits nodes list) (import_more large e list)
  unfolding import_more
  viable_import_more list = (ready_bind Any Any (word w.Import ∷ []) (name_token ∷ mark m.Semicolon ∷ []) (expect_word w.Import) (expect_word w.Import) _ _ (λ rest f. tt) (ready_word Any w.Import)
      (λ begin. ready_last Any (name_token ∷ mark m.Semicolon ∷ []) (line_rest limits nodes begin) (line_rest large e begin) (λ x. list ++ x ∷ []) (ready_line Any begin))).viable

  -- a whole text of so many nodes beside one of more than turns + 5 more
  pub viable_files : Viable Over (files limits nodes) (files large e)
  unfolding files
  viable_files = (ready_bind Over (Unworded w.Module) [] [] (module_line limits nodes) (module_line large e) _ _ (λ rest f. ap (sees_word w.Module) f) ready_module
      (λ line. ready_bind Over (Unworded w.Import) [] [] (turns (sees_word w.Import) (import_more limits nodes) limits.turns []) (turns (sees_word w.Import) (import_more large e) large.turns []) _ _ (λ rest f. ap (sees_word w.Import) f)
      (ready_turns (Unworded w.Import) Any (sees_word w.Import) (import_more limits nodes) (import_more large e) limits.turns large.turns [] (omega arith) (λ y f. tt) (λ y f. f) viable_import_more)
      (λ imports. ready_last Over [] (turns (is_token limits nodes) (item_more limits nodes) limits.turns []) (turns (is_token large e) (item_more large e) large.turns []) (λ items. record { «module» = line; imports = imports; items = items })
      (ready_turns Over Any (is_token limits nodes) (item_more limits nodes) (item_more large e) limits.turns large.turns [] (omega arith) (λ y f. tt) (λ y f. ap (is_token limits nodes) f) viable_item_more)))).viable
