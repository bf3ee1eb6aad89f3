-- The descent into parts of declarations. nodes is how many nodes may stand on a path.
use Rattle.std.specs.Prelude.{ℕ, ◌+◌, Bool, true, false, List, [], ◌∷◌, ◌++◌, if◌then◌else◌, length, Option, Some, None}
use Rattle.slang_names.specs.declared.places.Place.{Place}
use Rattle.slang_names.specs.declared.places.Access.{Access}
use Rattle.slang_names.specs.declared.places.Mode.{Mode}
use Rattle.slang_names.specs.declared.places.Mode.TheVariants as mode
use Rattle.slang_names.specs.declared.codes.ModuleCode.TheVariants as code
use Rattle.slang_tree.specs.declared.types.Identifier.{Identifier}
use Rattle.slang_tree.specs.declared.types.TypeTree.{TypeTree}
use Rattle.slang_tree.specs.declared.declarations.GenericParameter.{GenericParameter}
use Rattle.slang_tree.specs.declared.declarations.GenericParameterNode.TheVariants as g
use Rattle.slang_tree.specs.declared.declarations.Constraint.{Constraint}
use Rattle.slang_tree.specs.declared.declarations.Parameter.{Parameter}
use Rattle.slang_tokens.specs.declared.tokens.Kind.{Kind}
use Rattle.slang_tokens.specs.declared.tokens.Kind.TheVariants as k
use Rattle.slang_tokens.specs.declared.tokens.Mark.TheVariants as m
use Rattle.slang_tokens.specs.declared.tokens.Word.{Word}
use Rattle.slang_tokens.specs.declared.tokens.Word.TheVariants as w
use Rattle.slang_reading.specs.Lexed.{Lexed}
use Rattle.slang_reading.specs.Reading.{Parser, Choice, Leave, Take, Refuse, if_fits, ◌>>=◌, ◌>>◌, pure, place_of, next, turns}
use Rattle.slang_reading.specs.Kinds.{is_word, sees, sees_word, span}
use Rattle.slang_grammar.specs.Descent.{Limits, fits_in, expect, name, named, identifier, if_short}
use Rattle.slang_grammar.specs.TypesDescent.{types}
use Rattle.statement_grammar.specs.StatementsDescent.{declared_name}
use Rattle.declaration_grammar.specs.declared.tables.DeclarationUse.{DeclarationUse}
use Rattle.declaration_grammar.specs.declared.tables.DeclarationUse.TheVariants as u
use Rattle.declaration_grammar.specs.Tables.{access_of, mode_of, declaration_use}
use Rattle.declaration_grammar.specs.Parts.{access_at, generic_parameter, constraint_of, parameter_of}

abbrev pub word_expected : Word → Option Lexed → Choice Place
word_expected word (Some t) = if is_word word t.kind then Take (pure t.place) else Refuse
word_expected word None = Refuse

-- that word, and where it lies
unfoldable pub expect_word : Word → Parser Place
expect_word word = next (word_expected word)

-- ---- access words

abbrev pub accessed : Option Access → Choice (Option Access)
accessed (Some a) = Take (pure (Some a))
accessed None = Leave (pure None)

unfoldable pub access : Parser (Option Access)
access = next (λ x. accessed (access_at x))

module _ (limits : Limits) where
  -- ---- names behind commas

  -- names so far, and the place of the last one
  abbrev pub Listed : Type 0
  Listed = List Identifier × Place

  unfoldable pub name_behind : Listed → Parser Listed
  name_behind list = do
    expect m.Comma
    id ← name limits
    pure (list.0 ++ id ∷ [], id.place)

  -- names parted by commas
  unfoldable pub names : Parser Listed
  names = name limits >>= (λ id. turns (sees m.Comma) name_behind limits.turns (id ∷ [], id.place))

  -- ---- generic parameters

  abbrev pub bound_by : Identifier → Bool → Choice GenericParameter
  bound_by id true = Take (name limits >>= (λ b. pure (generic_parameter (span id.place b.place) (g.Term id (Some b)))))
  bound_by id false = Leave (pure (generic_parameter id.place (g.Term id None)))

  -- behind the name of a type parameter
  unfoldable pub bound_rest : Identifier → Parser GenericParameter
  bound_rest id = next (λ x. bound_by id (sees m.Colon x))

  -- behind `let`
  unfoldable pub number_rest : Place → Parser GenericParameter
  number_rest begin = do
    id ← name limits
    expect m.Colon
    end ← expect_word w.Int
    pure (generic_parameter (span begin end) (g.Number id))

  abbrev pub generic_word : Lexed → Bool → Choice GenericParameter
  generic_word t true = Take (number_rest t.place)
  generic_word t false = Refuse

  abbrev pub generic_by : Lexed → Kind → Choice GenericParameter
  generic_by t k.Name = if_short limits t (Take (bound_rest (identifier t)))
  generic_by t (k.Word word) = generic_word t (is_word w.Let (k.Word word))
  generic_by t _ = Refuse

  abbrev pub generic_at : Option Lexed → Choice GenericParameter
  generic_at (Some t) = generic_by t t.kind
  generic_at None = Refuse

  -- a parameter behind so many others
  unfoldable pub generic : ℕ → Parser GenericParameter
  generic count = next (λ x. if_fits (fits_in limits count limits.items) code.TooLong x (generic_at x))

  unfoldable pub generic_more : List GenericParameter → Parser (List GenericParameter)
  generic_more list = do
    expect m.Comma
    x ← generic (length list)
    pure (list ++ x ∷ [])

  -- behind `<`
  unfoldable pub generics_rest : Parser (List GenericParameter)
  generics_rest = do
    x ← generic 0
    list ← turns (sees m.Comma) generic_more limits.turns (x ∷ [])
    expect m.Greater
    pure list

  abbrev pub generics_by : Bool → Choice (List GenericParameter)
  generics_by true = Take generics_rest
  generics_by false = Leave (pure [])

  unfoldable pub generics : Parser (List GenericParameter)
  generics = next (λ x. generics_by (sees m.Less x))

  -- ---- heads and constraints

  abbrev pub heads_by : Bool → Choice (List Identifier)
  heads_by true = Take (names >>= (λ list. pure list.0))
  heads_by false = Leave (pure [])

  unfoldable pub heads : Parser (List Identifier)
  heads = next (λ x. heads_by (sees m.Colon x))

  unfoldable pub constraint_more : List Constraint → Parser (List Constraint)
  constraint_more all = do
    begin ← expect_word w.Where
    subject ← name limits
    expect m.Colon
    list ← names
    pure (all ++ constraint_of (span begin list.1) subject list.0 ∷ [])

  unfoldable pub constraints : Parser (List Constraint)
  constraints = turns (sees_word w.Where) constraint_more limits.turns []

  -- ---- parameters

  module _ (nodes : ℕ) where
    -- what stands behind the name of a parameter, and the place that ends it
    abbrev pub Semantic : Type 0
    Semantic = Option Identifier × Place

    abbrev pub semantic_by : Place → Bool → Choice Semantic
    semantic_by p true = Take (name limits >>= (λ id. pure (Some id, id.place)))
    semantic_by p false = Leave (pure (None, p))

    unfoldable pub semantic : Place → Parser Semantic
    semantic p = next (λ x. semantic_by p (sees m.Colon x))

    -- behind its type
    unfoldable pub parameter_rest : Place → Mode → TypeTree → Parser Parameter
    parameter_rest begin how t = do
      x ← declared_name limits
      id ← semantic x.1
      pure (parameter_of (span begin id.1) how t x.0 id.0)

    unfoldable pub plain_parameter : Parser Parameter
    plain_parameter = types limits nodes >>= (λ t. parameter_rest t.0.place mode.In t.0)

    unfoldable pub moded_parameter : Place → Mode → Parser Parameter
    moded_parameter begin how = types limits nodes >>= (λ t. parameter_rest begin how t.0)

    abbrev pub plain_as : DeclarationUse → Choice Parameter
    plain_as u.Typed = Leave plain_parameter
    plain_as _ = Refuse

    abbrev pub parameter_word : Lexed → Word → Option Mode → Choice Parameter
    parameter_word t word (Some how) = Take (moded_parameter t.place how)
    parameter_word t word None = plain_as (declaration_use (k.Word word))

    abbrev pub parameter_by : Lexed → Kind → Choice Parameter
    parameter_by t k.Name = Leave plain_parameter
    parameter_by t (k.Word word) = parameter_word t word (mode_of word)
    parameter_by t _ = Refuse

    abbrev pub parameter_at : Option Lexed → Choice Parameter
    parameter_at (Some t) = parameter_by t t.kind
    parameter_at None = Refuse

    -- a parameter behind so many others
    unfoldable pub parameter : ℕ → Parser Parameter
    parameter count = next (λ x. if_fits (fits_in limits count limits.items) code.TooLong x (parameter_at x))

    unfoldable pub parameter_more : List Parameter → Parser (List Parameter)
    parameter_more list = do
      expect m.Comma
      x ← parameter (length list)
      pure (list ++ x ∷ [])

    unfoldable pub some_parameters : Parser (List Parameter)
    some_parameters = do
      x ← parameter 0
      list ← turns (sees m.Comma) parameter_more limits.turns (x ∷ [])
      expect m.CloseParen
      pure list

    abbrev pub parameters_by : Bool → Choice (List Parameter)
    parameters_by true = Leave (expect m.CloseParen >>= (λ p. pure []))
    parameters_by false = Leave some_parameters

    -- parameters with their parentheses
    unfoldable pub parameters : Parser (List Parameter)
    parameters = do
      expect m.OpenParen
      next (λ x. parameters_by (sees m.CloseParen x))

-- ---- what closes a struct, an interface or an extension

abbrev pub closed_by : Place → Option Lexed → Bool → Choice Place
closed_by p x true = Take (pure (place_of x))
closed_by p x false = Leave (pure p)

unfoldable pub closed : Parser Place
closed = expect m.CloseBrace >>= (λ p. next (λ x. closed_by p x (sees m.Semicolon x)))
