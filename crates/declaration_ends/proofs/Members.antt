-- Functions, aliases, fields, members and structs: what was looked at of one, but for the last token, goes on to be one.
use Rattle.std.proofs.Common.{Bool, true, false, ◌≡◌, ℕ, ◌+◌, ◌<◌, List, [], ◌∷◌, ◌++◌, not, length, Option, refl, ap, if◌then◌else◌, arith}
use Rattle.slang_names.specs.declared.places.Place.{Place}
use Rattle.slang_names.specs.declared.codes.ModuleCode.TheVariants as code
use Rattle.slang_tree.specs.declared.statements.DeclaredName.{DeclaredName}
use Rattle.slang_tree.specs.declared.declarations.InnerMember.{InnerMember}
use Rattle.slang_tree.specs.declared.declarations.InnerMemberNode.{InnerMemberNode}
use Rattle.slang_tree.specs.declared.declarations.InnerMemberNode.TheVariants as i
use Rattle.slang_tree.specs.declared.declarations.Member.{Member}
use Rattle.slang_tree.specs.declared.declarations.MemberNode.{MemberNode}
use Rattle.slang_tree.specs.declared.declarations.MemberNode.TheVariants as n
use Rattle.slang_tokens.specs.declared.tokens.Mark.TheVariants as m
use Rattle.slang_tokens.specs.declared.tokens.Word.TheVariants as w
use Rattle.slang_reading.specs.Lexed.{Lexed}
use Rattle.slang_reading.specs.Reading.{Leave, Take, if_fits, ◌>>=◌, pure, place_of, next, turns}
use Rattle.slang_reading.specs.Kinds.{sees, span}
use Rattle.slang_reading.proofs.Viable.{Finishes, Viable, EachPair, finishes_next_take, finishes_next_leave, viable_next, Ready, ready_bind, ready_last, ready_turns}
use Rattle.slang_grammar.specs.Descent.{Limits, fits_in, expect, name}
use Rattle.slang_grammar.specs.TypesDescent.{types}
use Rattle.slang_grammar.proofs.TypesReady as t
use Rattle.slang_grammar.proofs.TypesReady.{mark, int_word, Any, ready_expect, ready_types, pair_items}
use Rattle.statement_grammar.specs.declared.attributes.Target.TheVariants as target
use Rattle.statement_grammar.specs.AttributesDescent as attributes
use Rattle.statement_grammar.specs.AttributesDescent.{Noted}
use Rattle.statement_grammar.specs.Statements.{declared}
use Rattle.statement_grammar.specs.StatementsDescent.{length_more, declared_name, blocks}
use Rattle.statement_ends.proofs.Roomy.{roomy, wider, word}
use Rattle.statement_ends.proofs.Attributes.{Unmarked, ready_attributes}
use Rattle.statement_ends.proofs.Names.{ready_declared, viable_length_more}
use Rattle.statement_ends.proofs.Statements.{ready_blocks}
use Rattle.declaration_grammar.specs.declared.tables.DeclarationUse.{DeclarationUse}
use Rattle.declaration_grammar.specs.declared.tables.DeclarationUse.TheVariants as u
use Rattle.declaration_grammar.specs.PartsDescent.{access, generics, heads, constraints, parameters, closed}
use Rattle.declaration_grammar.specs.Declarations.{function_of, alias_of, field_of, inner_member, inner_struct_of, member_of, struct_of}
use Rattle.declaration_grammar.specs.DeclarationsDescent.{use_of, begins_parameters, TypeName, type_name, function_rest, static_rest, type_def, type_alias, field_more, field_rest, goes_on_field, in_braces, inner_typed_by, inner_typed, inner_as, inner_node, inner_one, inner_begins, inner_choice, inner_more, inner_members, Head, struct_head, inner_struct_rest, member_typed_by, member_typed, member_as, member_node, member_one, member_begins, member_choice, member_more, struct_rest}
use Rattle.declaration_ends.proofs.Words.{Unaccessed, ready_access, pair_suits, viable_last}
use Rattle.declaration_ends.proofs.Parts.{name_token, Uncommaed, NoLess, Headed, Constrained, ready_id, ready_generics, ready_heads, ready_constraints, ready_parameters, closed_path, ready_closed}

-- the brace that closes what has members
abbrev pub Braced : Option Lexed → Type 0
Braced x = sees m.CloseBrace x ≡ true

-- nothing with which the names of a field go on
abbrev Fielded : Option Lexed → Type 0
Fielded x = (sees m.OpenBracket x ≡ false) × Uncommaed x

-- the shortest rests of a function and of a field, and the shortest declaration, which is `typedef int NAME;`
abbrev pub function_path : List Lexed
function_path = mark m.OpenParen ∷ mark m.CloseParen ∷ mark m.OpenBrace ∷ mark m.CloseBrace ∷ []

abbrev pub alias_path : List Lexed
alias_path = int_word ∷ name_token ∷ mark m.Semicolon ∷ []

abbrev pub declaration_path : List Lexed
declaration_path = word w.TypeDef ∷ alias_path

module _ (limits : Limits) (d e : ℕ) (h : (roomy limits).turns + 5 + d < e) where
  abbrev large : Limits
  large = roomy limits

  -- ---- functions, aliases, fields

  pub ready_type_name : (F : Option Lexed → Type 0) → Ready F (int_word ∷ name_token ∷ []) (type_name limits d) (type_name large e)
  unfolding type_name
  ready_type_name F = ready_bind F t.Ends (int_word ∷ []) (name_token ∷ []) (types limits d) (types large e) _ _ (λ rest f. (refl, refl, refl)) (ready_types limits large (wider limits) e d (omega (arith, h)))
      (λ x. ready_last F (name_token ∷ []) (name limits) (name large) (λ id. (x.0, id)) (ready_id limits F))

  pub ready_function : (F : Option Lexed → Type 0) (begin : Place) (b : Bool) (x : TypeName limits d) → Ready F function_path (function_rest limits d begin b x) (function_rest large e begin b x)
  unfolding function_rest
  ready_function F begin b x = ready_bind F NoLess [] function_path (generics limits) (generics large) _ _ (λ rest f. refl) (ready_generics limits)
      (λ g. ready_bind F Any (mark m.OpenParen ∷ mark m.CloseParen ∷ []) (mark m.OpenBrace ∷ mark m.CloseBrace ∷ []) (parameters limits d) (parameters large e) _ _ (λ rest f. tt) (ready_parameters limits d e (omega (arith, h)) Any)
      (λ list. ready_bind F Constrained [] (mark m.OpenBrace ∷ mark m.CloseBrace ∷ []) (constraints limits) (constraints large) _ _ (λ rest f. (refl, refl)) (ready_constraints limits)
      (λ wheres. ready_last F (mark m.OpenBrace ∷ mark m.CloseBrace ∷ []) (blocks limits d) (blocks large e) (λ body. function_of begin b x.0 x.1 g list wheres body) (ready_blocks limits F e d h))))

  pub viable_static : (F : Option Lexed → Type 0) (begin : Place) → Viable F (static_rest limits d begin) (static_rest large e begin)
  unfolding static_rest
  viable_static F begin = (ready_bind F Any (int_word ∷ name_token ∷ []) function_path (type_name limits d) (type_name large e) _ _ (λ rest f. tt) (ready_type_name Any) (λ x. ready_function F begin true x)).viable

  pub ready_type_def : (F : Option Lexed → Type 0) (begin : Place) → Ready F alias_path (type_def limits d begin) (type_def large e begin)
  unfolding type_def
  ready_type_def F begin = ready_bind F Any (int_word ∷ name_token ∷ []) (mark m.Semicolon ∷ []) (type_name limits d) (type_name large e) _ _ (λ rest f. tt) (ready_type_name Any)
      (λ x. ready_last F (mark m.Semicolon ∷ []) (expect m.Semicolon) (expect m.Semicolon) (λ end. alias_of (span begin end) x.0 x.1) (ready_expect F m.Semicolon))

  pub viable_type_alias : (F : Option Lexed → Type 0) (begin : Place) → Viable F (type_alias limits d begin) (type_alias large e begin)
  unfolding type_alias
  viable_type_alias F begin = (ready_bind F Any (name_token ∷ []) (mark m.Equal ∷ int_word ∷ mark m.Semicolon ∷ []) (name limits) (name large) _ _ (λ rest f. tt) (ready_id limits Any)
      (λ id. ready_bind F Any (mark m.Equal ∷ []) (int_word ∷ mark m.Semicolon ∷ []) (expect m.Equal) (expect m.Equal) _ _ (λ rest f. tt) (ready_expect Any m.Equal)
      (λ o. ready_bind F t.Ends (int_word ∷ []) (mark m.Semicolon ∷ []) (types limits d) (types large e) _ _ (λ rest f. (refl, refl, refl)) (ready_types limits large (wider limits) e d (omega (arith, h)))
      (λ x. ready_last F (mark m.Semicolon ∷ []) (expect m.Semicolon) (expect m.Semicolon) (λ end. alias_of (span begin end) x.0 id) (ready_expect F m.Semicolon))))).viable

  abbrev Unlengthened : Option Lexed → Type 0
  Unlengthened x = sees m.OpenBracket x ≡ false

  viable_field_more : (list : List DeclaredName) → Viable Unlengthened (field_more limits d list) (field_more large e list)
  unfolding field_more
  viable_field_more list = (ready_bind Unlengthened Any (mark m.Comma ∷ []) (name_token ∷ []) (expect m.Comma) (expect m.Comma) _ _ (λ rest f. tt) (ready_expect Any m.Comma)
      (λ o. ready_last Unlengthened (name_token ∷ []) (declared_name limits) (declared_name large) (λ x. list ++ x.0 ∷ []) (ready_declared limits))).viable

  pub ready_field : (F : Option Lexed → Type 0) (x : TypeName limits d) → Ready F (mark m.Semicolon ∷ []) (field_rest limits d x) (field_rest large e x)
  unfolding field_rest
  ready_field F x = ready_bind F Unlengthened [] (mark m.Semicolon ∷ []) (turns (sees m.OpenBracket) (length_more limits) limits.turns ([], x.1.place)) (turns (sees m.OpenBracket) (length_more large) large.turns ([], x.1.place)) _ _ (λ rest f. refl)
      (ready_turns Unlengthened Any (sees m.OpenBracket) (length_more limits) (length_more large) limits.turns large.turns ([], x.1.place) (omega arith) (λ y c. tt) (λ y c. c) (viable_length_more limits))
      (λ lengths. ready_bind F Fielded [] (mark m.Semicolon ∷ []) (turns (sees m.Comma) (field_more limits d) limits.turns (declared x.1 lengths.0 lengths.1 ∷ [])) (turns (sees m.Comma) (field_more large e) large.turns (declared x.1 lengths.0 lengths.1 ∷ [])) _ _ (λ rest f. (refl, refl))
      (ready_turns Fielded Unlengthened (sees m.Comma) (field_more limits d) (field_more large e) limits.turns large.turns (declared x.1 lengths.0 lengths.1 ∷ []) (omega arith) (λ y c. c.0) (λ y c. c.1) viable_field_more)
      (λ list. ready_last F (mark m.Semicolon ∷ []) (expect m.Semicolon) (expect m.Semicolon) (λ end. field_of (span x.0.place end) x.0 list) (ready_expect F m.Semicolon)))

  -- ---- members of extensions and of structs in structs

  module _ (fields : Bool) where
    ready_inner_typed : (list : Noted) (x : TypeName limits d) → Ready Any function_path (inner_typed limits d fields list x) (inner_typed large e fields list x)
    unfolding inner_typed
    ready_inner_typed list x = record {
      viable = viable_next Any (λ o. inner_typed_by large e fields list x (begins_parameters o) (if fields then goes_on_field large e o else false)) (λ o. inner_typed_by limits d fields list x (begins_parameters o) (if fields then goes_on_field limits d o else false))
          function_path finishes (λ o. by (begins_parameters o) (if fields then goes_on_field limits d o else false));
      finishes = finishes;
    }
      where
        method : Ready {A = InnerMemberNode} Any function_path (function_rest limits d x.0.place false x >>= (λ y. pure (i.Function y))) (function_rest large e x.0.place false x >>= (λ y. pure (i.Function y)))
        method = ready_last Any function_path (function_rest limits d x.0.place false x) (function_rest large e x.0.place false x) (λ y. i.Function y) (ready_function Any x.0.place false x)

        finishes : Finishes Any function_path (next (λ o. inner_typed_by large e fields list x (begins_parameters o) (if fields then goes_on_field large e o else false)))
        finishes = finishes_next_leave Any (λ o. inner_typed_by large e fields list x (begins_parameters o) (if fields then goes_on_field large e o else false)) (mark m.OpenParen) (mark m.CloseParen ∷ mark m.OpenBrace ∷ mark m.CloseBrace ∷ [])
            (function_rest large e x.0.place false x >>= (λ y. pure (i.Function y))) refl method.finishes

        by : (b c : Bool) → EachPair (Viable Any) (inner_typed_by limits d fields list x b c) (inner_typed_by large e fields list x b c)
        by true c = pair_suits Any limits target.Method list (Leave (function_rest limits d x.0.place false x >>= (λ y. pure (i.Function y)))) (Leave (function_rest large e x.0.place false x >>= (λ y. pure (i.Function y)))) method.viable
        by false true = pair_suits Any limits target.Other list (Leave (field_rest limits d x >>= (λ y. pure (i.Field y)))) (Leave (field_rest large e x >>= (λ y. pure (i.Field y))))
            (ready_last Any (mark m.Semicolon ∷ []) (field_rest limits d x) (field_rest large e x) (λ y. i.Field y) (ready_field Any x)).viable
        by false false = tt

    ready_inner_node : (list : Noted) → Ready Any declaration_path (inner_node limits d fields list) (inner_node large e fields list)
    unfolding inner_node
    ready_inner_node list = record { viable = viable_next Any (λ x. inner_as large e fields list x (use_of x)) (λ x. inner_as limits d fields list x (use_of x)) declaration_path finishes (λ x. by x (use_of x)); finishes = finishes }
      where
        defined : (begin : Place) → Ready {A = InnerMemberNode} Any alias_path (type_def limits d begin >>= (λ y. pure (i.Alias y))) (type_def large e begin >>= (λ y. pure (i.Alias y)))
        defined begin = ready_last Any alias_path (type_def limits d begin) (type_def large e begin) (λ y. i.Alias y) (ready_type_def Any begin)

        finishes : Finishes Any declaration_path (next (λ x. inner_as large e fields list x (use_of x)))
        finishes = finishes_next_take Any (λ x. inner_as large e fields list x (use_of x)) (word w.TypeDef) alias_path (type_def large e (word w.TypeDef).place >>= (λ y. pure (i.Alias y))) refl (defined (word w.TypeDef).place).finishes

        by : (x : Option Lexed) (v : DeclarationUse) → EachPair (Viable Any) (inner_as limits d fields list x v) (inner_as large e fields list x v)
        by x u.TypeDef = pair_suits Any limits target.Other list (Take (type_def limits d (place_of x) >>= (λ y. pure (i.Alias y)))) (Take (type_def large e (place_of x) >>= (λ y. pure (i.Alias y)))) (defined (place_of x)).viable
        by x u.TypeAlias = pair_suits Any limits target.Other list (Take (type_alias limits d (place_of x) >>= (λ y. pure (i.Alias y)))) (Take (type_alias large e (place_of x) >>= (λ y. pure (i.Alias y))))
            (viable_last (λ y. i.Alias y) (type_alias limits d (place_of x)) (type_alias large e (place_of x)) (viable_type_alias Any (place_of x)))
        by x u.Static = pair_suits Any limits target.Other list (Take (static_rest limits d (place_of x) >>= (λ y. pure (i.Function y)))) (Take (static_rest large e (place_of x) >>= (λ y. pure (i.Function y))))
            (viable_last (λ y. i.Function y) (static_rest limits d (place_of x)) (static_rest large e (place_of x)) (viable_static Any (place_of x)))
        by x u.Typed = (ready_bind Any Any (int_word ∷ name_token ∷ []) function_path (type_name limits d) (type_name large e) (inner_typed limits d fields list) (inner_typed large e fields list) (λ rest f. tt) (ready_type_name Any) (λ y. ready_inner_typed list y)).viable
        by x u.Struct = tt
        by x u.Interface = tt
        by x u.Extension = tt
        by x u.Associated = tt
        by x u.Nothing = tt

    ready_inner_one : Ready Any declaration_path (inner_one limits d fields) (inner_one large e fields)
    unfolding inner_one
    ready_inner_one = ready_bind Any Unmarked [] declaration_path (attributes.attributes limits attributes.members) (attributes.attributes large attributes.members) _ _ (λ rest f. refl) (ready_attributes limits attributes.members)
        (λ a. ready_bind Any Unaccessed [] declaration_path access access _ _ (λ rest f. refl) ready_access
        (λ v. ready_last Any declaration_path (inner_node limits d fields a.1) (inner_node large e fields a.1) (λ x. inner_member a.0 v x) (ready_inner_node a.1)))

    viable_inner_more : (list : List InnerMember) → Viable Any (inner_more limits d fields list) (inner_more large e fields list)
    unfolding inner_more
    viable_inner_more list = viable_last (λ y. list ++ y ∷ []) (next (λ x. if_fits (fits_in limits (length list) limits.items) code.TooLong x (inner_choice limits d fields x (inner_begins limits d fields x))))
        (next (λ x. if_fits (fits_in large (length list) large.items) code.TooLong x (inner_choice large e fields x (inner_begins large e fields x))))
        (viable_next Any (λ x. if_fits (fits_in large (length list) large.items) code.TooLong x (inner_choice large e fields x (inner_begins large e fields x))) (λ x. if_fits (fits_in limits (length list) limits.items) code.TooLong x (inner_choice limits d fields x (inner_begins limits d fields x)))
        declaration_path finishes (λ x. pair_items limits large (wider limits) Any x (length list) limits.items large.items (inner_choice limits d fields x (inner_begins limits d fields x)) (inner_choice large e fields x (inner_begins large e fields x)) (by x (inner_begins limits d fields x))))
      where
        finishes : Finishes Any declaration_path (next (λ x. if_fits (fits_in large (length list) large.items) code.TooLong x (inner_choice large e fields x (inner_begins large e fields x))))
        finishes = finishes_next_leave Any (λ x. if_fits (fits_in large (length list) large.items) code.TooLong x (inner_choice large e fields x (inner_begins large e fields x))) (word w.TypeDef) alias_path (inner_one large e fields) refl ready_inner_one.finishes

        by : (x : Option Lexed) (b : Bool) → EachPair (Viable Any) (inner_choice limits d fields x b) (inner_choice large e fields x b)
        by x true = ready_inner_one.viable
        by x false = tt

    pub ready_inner_members : Ready Braced [] (inner_members limits d fields) (inner_members large e fields)
    unfolding inner_members
    ready_inner_members = ready_turns Braced Any (in_braces limits d) (inner_more limits d fields) (inner_more large e fields) limits.turns large.turns [] (omega arith) (λ x f. tt) (λ x f. ap not f) viable_inner_more

  -- ---- structs

  ready_struct_head : (F : Option Lexed → Type 0) → Ready F (name_token ∷ mark m.OpenBrace ∷ []) (struct_head limits d) (struct_head large e)
  unfolding struct_head
  ready_struct_head F = ready_bind F Any (name_token ∷ []) (mark m.OpenBrace ∷ []) (name limits) (name large) _ _ (λ rest f. tt) (ready_id limits Any)
      (λ id. ready_bind F NoLess [] (mark m.OpenBrace ∷ []) (generics limits) (generics large) _ _ (λ rest f. refl) (ready_generics limits)
      (λ g. ready_bind F Headed [] (mark m.OpenBrace ∷ []) (heads limits) (heads large) _ _ (λ rest f. (refl, refl)) (ready_heads limits)
      (λ hs. ready_bind F Constrained [] (mark m.OpenBrace ∷ []) (constraints limits) (constraints large) _ _ (λ rest f. (refl, refl)) (ready_constraints limits)
      (λ wheres. ready_last F (mark m.OpenBrace ∷ []) (expect m.OpenBrace) (expect m.OpenBrace) (λ o. (id, g, hs, wheres)) (ready_expect F m.OpenBrace)))))

  abbrev struct_path : List Lexed
  struct_path = name_token ∷ mark m.OpenBrace ∷ closed_path

  viable_inner_struct : (begin : Place) → Viable Any (inner_struct_rest limits d begin) (inner_struct_rest large e begin)
  unfolding inner_struct_rest
  viable_inner_struct begin = (ready_bind Any Any (name_token ∷ mark m.OpenBrace ∷ []) closed_path (struct_head limits d) (struct_head large e) _ _ (λ rest f. tt) (ready_struct_head Any)
      (λ (x : Head limits d). ready_bind Any Braced [] closed_path (inner_members limits d true) (inner_members large e true) _ _ (λ rest f. refl) (ready_inner_members true)
      (λ list. ready_last Any closed_path closed closed (λ end. inner_struct_of (span begin end) x.0 x.1 x.2 x.3 list) (ready_closed Any)))).viable

  ready_member_typed : (list : Noted) (x : TypeName limits d) → Ready Any function_path (member_typed limits d list x) (member_typed large e list x)
  unfolding member_typed
  ready_member_typed list x = record {
    viable = viable_next Any (λ o. member_typed_by large e list x (begins_parameters o) (goes_on_field large e o)) (λ o. member_typed_by limits d list x (begins_parameters o) (goes_on_field limits d o)) function_path finishes
        (λ o. by (begins_parameters o) (goes_on_field limits d o));
    finishes = finishes;
  }
    where
      method : Ready {A = MemberNode} Any function_path (function_rest limits d x.0.place false x >>= (λ y. pure (n.Function y))) (function_rest large e x.0.place false x >>= (λ y. pure (n.Function y)))
      method = ready_last Any function_path (function_rest limits d x.0.place false x) (function_rest large e x.0.place false x) (λ y. n.Function y) (ready_function Any x.0.place false x)

      finishes : Finishes Any function_path (next (λ o. member_typed_by large e list x (begins_parameters o) (goes_on_field large e o)))
      finishes = finishes_next_leave Any (λ o. member_typed_by large e list x (begins_parameters o) (goes_on_field large e o)) (mark m.OpenParen) (mark m.CloseParen ∷ mark m.OpenBrace ∷ mark m.CloseBrace ∷ [])
          (function_rest large e x.0.place false x >>= (λ y. pure (n.Function y))) refl method.finishes

      by : (b c : Bool) → EachPair (Viable Any) (member_typed_by limits d list x b c) (member_typed_by large e list x b c)
      by true c = pair_suits Any limits target.Method list (Leave (function_rest limits d x.0.place false x >>= (λ y. pure (n.Function y)))) (Leave (function_rest large e x.0.place false x >>= (λ y. pure (n.Function y)))) method.viable
      by false true = pair_suits Any limits target.Other list (Leave (field_rest limits d x >>= (λ y. pure (n.Field y)))) (Leave (field_rest large e x >>= (λ y. pure (n.Field y))))
          (ready_last Any (mark m.Semicolon ∷ []) (field_rest limits d x) (field_rest large e x) (λ y. n.Field y) (ready_field Any x)).viable
      by false false = tt

  ready_member_node : (list : Noted) → Ready Any declaration_path (member_node limits d list) (member_node large e list)
  unfolding member_node
  ready_member_node list = record { viable = viable_next Any (λ x. member_as large e list x (use_of x)) (λ x. member_as limits d list x (use_of x)) declaration_path finishes (λ x. by x (use_of x)); finishes = finishes }
    where
      defined : (begin : Place) → Ready {A = MemberNode} Any alias_path (type_def limits d begin >>= (λ y. pure (n.Alias y))) (type_def large e begin >>= (λ y. pure (n.Alias y)))
      defined begin = ready_last Any alias_path (type_def limits d begin) (type_def large e begin) (λ y. n.Alias y) (ready_type_def Any begin)

      finishes : Finishes Any declaration_path (next (λ x. member_as large e list x (use_of x)))
      finishes = finishes_next_take Any (λ x. member_as large e list x (use_of x)) (word w.TypeDef) alias_path (type_def large e (word w.TypeDef).place >>= (λ y. pure (n.Alias y))) refl (defined (word w.TypeDef).place).finishes

      by : (x : Option Lexed) (v : DeclarationUse) → EachPair (Viable Any) (member_as limits d list x v) (member_as large e list x v)
      by x u.Struct = pair_suits Any limits target.Other list (Take (inner_struct_rest limits d (place_of x) >>= (λ y. pure (n.Struct y)))) (Take (inner_struct_rest large e (place_of x) >>= (λ y. pure (n.Struct y))))
          (viable_last (λ y. n.Struct y) (inner_struct_rest limits d (place_of x)) (inner_struct_rest large e (place_of x)) (viable_inner_struct (place_of x)))
      by x u.TypeDef = pair_suits Any limits target.Other list (Take (type_def limits d (place_of x) >>= (λ y. pure (n.Alias y)))) (Take (type_def large e (place_of x) >>= (λ y. pure (n.Alias y)))) (defined (place_of x)).viable
      by x u.TypeAlias = pair_suits Any limits target.Other list (Take (type_alias limits d (place_of x) >>= (λ y. pure (n.Alias y)))) (Take (type_alias large e (place_of x) >>= (λ y. pure (n.Alias y))))
          (viable_last (λ y. n.Alias y) (type_alias limits d (place_of x)) (type_alias large e (place_of x)) (viable_type_alias Any (place_of x)))
      by x u.Static = pair_suits Any limits target.Other list (Take (static_rest limits d (place_of x) >>= (λ y. pure (n.Function y)))) (Take (static_rest large e (place_of x) >>= (λ y. pure (n.Function y))))
          (viable_last (λ y. n.Function y) (static_rest limits d (place_of x)) (static_rest large e (place_of x)) (viable_static Any (place_of x)))
      by x u.Typed = (ready_bind Any Any (int_word ∷ name_token ∷ []) function_path (type_name limits d) (type_name large e) (member_typed limits d list) (member_typed large e list) (λ rest f. tt) (ready_type_name Any) (λ y. ready_member_typed list y)).viable
      by x u.Interface = tt
      by x u.Extension = tt
      by x u.Associated = tt
      by x u.Nothing = tt

  ready_member_one : Ready Any declaration_path (member_one limits d) (member_one large e)
  unfolding member_one
  ready_member_one = ready_bind Any Unmarked [] declaration_path (attributes.attributes limits attributes.members) (attributes.attributes large attributes.members) _ _ (λ rest f. refl) (ready_attributes limits attributes.members)
      (λ a. ready_bind Any Unaccessed [] declaration_path access access _ _ (λ rest f. refl) ready_access
      (λ v. ready_last Any declaration_path (member_node limits d a.1) (member_node large e a.1) (λ x. member_of a.0 v x) (ready_member_node a.1)))

  viable_member_more : (list : List Member) → Viable Any (member_more limits d list) (member_more large e list)
  unfolding member_more
  viable_member_more list = viable_last (λ y. list ++ y ∷ []) (next (λ x. if_fits (fits_in limits (length list) limits.items) code.TooLong x (member_choice limits d x (member_begins limits d x))))
      (next (λ x. if_fits (fits_in large (length list) large.items) code.TooLong x (member_choice large e x (member_begins large e x))))
      (viable_next Any (λ x. if_fits (fits_in large (length list) large.items) code.TooLong x (member_choice large e x (member_begins large e x))) (λ x. if_fits (fits_in limits (length list) limits.items) code.TooLong x (member_choice limits d x (member_begins limits d x)))
      declaration_path finishes (λ x. pair_items limits large (wider limits) Any x (length list) limits.items large.items (member_choice limits d x (member_begins limits d x)) (member_choice large e x (member_begins large e x)) (by x (member_begins limits d x))))
    where
      finishes : Finishes Any declaration_path (next (λ x. if_fits (fits_in large (length list) large.items) code.TooLong x (member_choice large e x (member_begins large e x))))
      finishes = finishes_next_leave Any (λ x. if_fits (fits_in large (length list) large.items) code.TooLong x (member_choice large e x (member_begins large e x))) (word w.TypeDef) alias_path (member_one large e) refl ready_member_one.finishes

      by : (x : Option Lexed) (b : Bool) → EachPair (Viable Any) (member_choice limits d x b) (member_choice large e x b)
      by x true = ready_member_one.viable
      by x false = tt

  pub viable_struct : (begin : Place) → Viable Any (struct_rest limits d begin) (struct_rest large e begin)
  unfolding struct_rest
  viable_struct begin = (ready_bind Any Any (name_token ∷ mark m.OpenBrace ∷ []) closed_path (struct_head limits d) (struct_head large e) _ _ (λ rest f. tt) (ready_struct_head Any)
      (λ (x : Head limits d). ready_bind Any Braced [] closed_path (turns (in_braces limits d) (member_more limits d) limits.turns []) (turns (in_braces large e) (member_more large e) large.turns []) _ _ (λ rest f. refl)
      (ready_turns Braced Any (in_braces limits d) (member_more limits d) (member_more large e) limits.turns large.turns [] (omega arith) (λ y f. tt) (λ y f. ap not f) viable_member_more)
      (λ list. ready_last Any closed_path closed closed (λ end. struct_of (span begin end) x.0 x.1 x.2 x.3 list) (ready_closed Any)))).viable
