-- What tokens begin a declaration.
use Rattle.std.specs.Prelude.{Option, Some, None}
use Rattle.slang_names.specs.declared.places.Access.{Access}
use Rattle.slang_names.specs.declared.places.Access.TheVariants as a
use Rattle.slang_names.specs.declared.places.Mode.{Mode}
use Rattle.slang_names.specs.declared.places.Mode.TheVariants as mode
use Rattle.slang_tokens.specs.declared.tokens.Kind.{Kind}
use Rattle.slang_tokens.specs.declared.tokens.Kind.TheVariants as k
use Rattle.slang_tokens.specs.declared.tokens.Word.{Word}
use Rattle.slang_tokens.specs.declared.tokens.Word.TheVariants as w
use Rattle.declaration_grammar.specs.declared.tables.DeclarationUse.{DeclarationUse}
use Rattle.declaration_grammar.specs.declared.tables.DeclarationUse.TheVariants as u

-- the access that has that word
abbrev pub access_of : Word → Option Access
access_of w.Public = Some a.Public
access_of w.Internal = Some a.Internal
access_of w.Private = Some a.Private
access_of _ = None

-- how the parameter is passed that begins with that word
abbrev pub mode_of : Word → Option Mode
mode_of w.In = Some mode.In
mode_of w.Out = Some mode.Out
mode_of w.InOut = Some mode.InOut
mode_of _ = None

abbrev pub word_use : Word → DeclarationUse
word_use w.Struct = u.Struct
word_use w.Interface = u.Interface
word_use w.Extension = u.Extension
word_use w.TypeDef = u.TypeDef
word_use w.TypeAlias = u.TypeAlias
word_use w.Static = u.Static
word_use w.AssociatedType = u.Associated
word_use w.ThisType = u.Typed
word_use w.Void = u.Typed
word_use w.Bool = u.Typed
word_use w.Int = u.Typed
word_use w.Int2 = u.Typed
word_use w.Int3 = u.Typed
word_use w.Int4 = u.Typed
word_use w.Uint = u.Typed
word_use w.Uint2 = u.Typed
word_use w.Uint3 = u.Typed
word_use w.Uint4 = u.Typed
word_use w.StructuredBuffer = u.Typed
word_use w.RwStructuredBuffer = u.Typed
word_use w.ConstantBuffer = u.Typed
word_use w.ParameterBlock = u.Typed
word_use _ = u.Nothing

-- what a token begins where a declaration stands, behind attributes and an access word
abbrev pub declaration_use : Kind → DeclarationUse
declaration_use k.Name = u.Typed
declaration_use (k.Word word) = word_use word
declaration_use (k.Number v) = u.Nothing
declaration_use k.String = u.Nothing
declaration_use (k.Mark mark) = u.Nothing
