-- The descent into types. An answer is a type and how many nodes stand on its longest path; each parser has a number of
-- nodes that it may put on a path. Where two limits are passed at one token, that of nesting comes first.
use Rattle.std.specs.Prelude.{ℕ, zero, suc, ◌+◌, max, Bool, true, false, nat_lt, List, [], ◌∷◌, ◌++◌, length, Option, Some, None}
use Rattle.slang_names.specs.declared.places.Place.{Place}
use Rattle.slang_names.specs.declared.codes.ModuleCode.TheVariants as code
use Rattle.slang_tree.specs.declared.types.Identifier.{Identifier}
use Rattle.slang_tree.specs.declared.types.Builtin.{Builtin}
use Rattle.slang_tree.specs.declared.types.Resource.{Resource}
use Rattle.slang_tree.specs.declared.types.TypeTree.{TypeTree}
use Rattle.slang_tree.specs.declared.types.TypeNode.TheVariants as n
use Rattle.slang_tree.specs.declared.types.GenericArgument.{GenericArgument}
use Rattle.slang_tree.specs.declared.types.GenericArgument.TheVariants as g
use Rattle.slang_tokens.specs.declared.tokens.Kind.{Kind}
use Rattle.slang_tokens.specs.declared.tokens.Kind.TheVariants as k
use Rattle.slang_tokens.specs.declared.tokens.Mark.TheVariants as m
use Rattle.slang_tokens.specs.declared.tokens.Word.{Word}
use Rattle.slang_tokens.specs.declared.tokens.Word.TheVariants as w
use Rattle.slang_reading.specs.Lexed.{Lexed}
use Rattle.slang_reading.specs.Reading.{Parser, Choice, Leave, Take, Refuse, if_fits, ◌>>=◌, ◌>>◌, pure, past, place_of, next, turns}
use Rattle.slang_reading.specs.Kinds.{sees, span}
use Rattle.slang_grammar.specs.Tables.{builtin_of, resource_of}
use Rattle.slang_grammar.specs.Types.{typed}
use Rattle.slang_grammar.specs.Descent.{Limits, fits_in, expect, name, identifier, if_short, bracketed}

-- a tree, and how many nodes stand on its longest path
abbrev pub Type_ : Type 0
Type_ = TypeTree × ℕ

abbrev pub Argument : Type 0
Argument = GenericArgument × ℕ

abbrev pub Arguments : Type 0
Arguments = List GenericArgument × ℕ

-- what the words begin that are types
pub data WordUse : Type 0 where
  IsBuiltin : Builtin → WordUse
  IsResource : Resource → WordUse
  IsThis : WordUse
  IsOther : WordUse

abbrev pub other_use : Word → WordUse
other_use w.ThisType = IsThis
other_use _ = IsOther

abbrev pub resource_use : Option Resource → Word → WordUse
resource_use (Some r) word = IsResource r
resource_use None word = other_use word

abbrev pub builtin_use : Option Builtin → Word → WordUse
builtin_use (Some b) word = IsBuiltin b
builtin_use None word = resource_use (resource_of word) word

abbrev pub use_of : Word → WordUse
use_of word = builtin_use (builtin_of word) word

-- room says whether the node that begins fits; d is how many nodes may stand in it, and inner reads a type of so many
module _ (limits : Limits) (room : Bool) (d : ℕ) (inner : Parser Type_) where
  -- ---- arguments

  unfoldable pub type_argument : Parser Argument
  type_argument = inner >>= (λ x. pure (g.Term x.0, x.1))

  -- a type that begins here, if it has room
  abbrev pub begins_type : Option Lexed → Choice Argument
  begins_type x = if_fits (nat_lt 0 d) code.TooNested x (Leave type_argument)

  abbrev pub word_argument : Option Lexed → WordUse → Choice Argument
  word_argument x IsOther = Refuse
  word_argument x _ = begins_type x

  abbrev pub argument_by : Lexed → Kind → Choice Argument
  argument_by t (k.Number v) = Take (pure (g.Number t.place v, 0))
  argument_by t k.Name = begins_type (Some t)
  argument_by t (k.Word word) = word_argument (Some t) (use_of word)
  argument_by t _ = Refuse

  abbrev pub argument_of : Option Lexed → Choice Argument
  argument_of (Some t) = argument_by t t.kind
  argument_of None = Refuse

  -- an argument behind so many others
  unfoldable pub argument : ℕ → Parser Argument
  argument count = next (λ x. if_fits (fits_in limits count limits.items) code.TooLong x (argument_of x))

  unfoldable pub argument_more : Arguments → Parser Arguments
  argument_more list = do
    expect m.Comma
    x ← argument (length list.0)
    pure (list.0 ++ x.0 ∷ [], max list.1 x.1)

  -- arguments with their brackets, and the place of the bracket that closes them
  unfoldable pub arguments : Parser (Arguments × Place)
  arguments = do
    expect m.Less
    x ← argument 0
    list ← turns (sees m.Comma) argument_more limits.turns (x.0 ∷ [], x.1)
    end ← expect m.Greater
    pure (list, end)

  -- ---- names of types

  abbrev pub name_rest_by : Identifier → Bool → Choice Type_
  name_rest_by id true = Leave (arguments >>= (λ a. pure (typed (span id.place a.1) (n.Named id a.0.0), a.0.1 + 1)))
  name_rest_by id false = Leave (pure (typed id.place (n.Named id []), 1))

  -- behind a name
  unfoldable pub name_rest : Identifier → Parser Type_
  name_rest id = next (λ x. name_rest_by id (sees m.Less x))

  -- behind the word of a resource
  unfoldable pub resource_rest : Place → Resource → Parser Type_
  resource_rest begin r = do
    expect m.Less
    x ← inner
    end ← expect m.Greater
    pure (typed (span begin end) (n.Resource r x.0), x.1 + 1)

  -- a node that begins with that token, if it has room
  abbrev pub node : Lexed → Choice Type_ → Choice Type_
  node t c = if_fits room code.TooNested (Some t) c

  abbrev pub type_word : Lexed → WordUse → Choice Type_
  type_word t (IsBuiltin b) = node t (Take (pure (typed t.place (n.Builtin b), 1)))
  type_word t (IsResource r) = node t (Take (resource_rest t.place r))
  type_word t IsThis = node t (Take (pure (typed t.place n.ThisType, 1)))
  type_word t IsOther = Refuse

  abbrev pub type_by : Lexed → Kind → Choice Type_
  type_by t k.Name = if_short limits t (node t (Take (name_rest (identifier t))))
  type_by t (k.Word word) = type_word t (use_of word)
  type_by t _ = Refuse

  abbrev pub type_of : Option Lexed → Choice Type_
  type_of (Some t) = type_by t t.kind
  type_of None = Refuse

  unfoldable pub type_name : Parser Type_
  type_name = next type_of

-- ---- what follows the name of a type, of which so many nodes may stand on a path

module _ (limits : Limits) (d : ℕ) where
  -- behind a dot
  unfoldable pub project_rest : Type_ → Parser Type_
  project_rest x = name limits >>= (λ id. pure (typed (span x.0.place id.place) (n.Projection x.0 id), x.1 + 1))

  abbrev pub project_by : Type_ → Option Lexed → Bool → Choice Type_
  project_by x t true = if_fits (fits_in limits x.1 d) code.TooNested t (Take (project_rest x))
  project_by x t false = Refuse

  unfoldable pub project : Type_ → Parser Type_
  project x = next (λ t. project_by x t (sees m.Dot t))

  -- behind an opening bracket
  unfoldable pub length_rest : Type_ → Parser Type_
  length_rest x = do
    t ← bracketed limits
    end ← expect m.CloseBracket
    pure (typed (span x.0.place end) (n.Array x.0 t), x.1 + 1)

  abbrev pub length_by : Type_ → Option Lexed → Bool → Choice Type_
  length_by x t true = if_fits (fits_in limits x.1 d) code.TooNested t (Take (length_rest x))
  length_by x t false = Leave (pure x)

  -- a length in brackets, or nothing
  unfoldable pub array : Type_ → Parser Type_
  array x = next (λ t. length_by x t (sees m.OpenBracket t))

-- behind the name of a type
unfoldable pub type_rest : Limits → ℕ → Type_ → Parser Type_
type_rest limits d x = turns (sees m.Dot) (project limits d) limits.turns x >>= array limits d

-- what stands for types inside of a node that has no room
abbrev pub no_types : Parser Type_
no_types = past code.TooNested (place_of None)

-- a type of which at most so many nodes stand on a path
unfoldable pub types : Limits → ℕ → Parser Type_
types limits zero = type_name limits false zero no_types >>= type_rest limits zero
types limits (suc d) = type_name limits true d (types limits d) >>= type_rest limits (suc d)
