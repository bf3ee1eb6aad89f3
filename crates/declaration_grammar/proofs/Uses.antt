-- What the table says of the token that is there.
use Rattle.std.proofs.Common.{◌≡◌, refl}
use Rattle.slang_tokens.specs.declared.tokens.Kind.{Kind}
use Rattle.slang_tokens.specs.declared.tokens.Kind.TheVariants as k
use Rattle.slang_tokens.specs.declared.tokens.Word.{Word}
use Rattle.slang_tokens.specs.declared.tokens.Word.TheVariants as w
use Rattle.declaration_grammar.specs.declared.tables.DeclarationUse.{DeclarationUse}
use Rattle.declaration_grammar.specs.declared.tables.DeclarationUse.TheVariants as u
use Rattle.declaration_grammar.specs.Tables.{word_use, declaration_use}

abbrev pub DeclarationUseIs : Kind → DeclarationUse → Type 0
DeclarationUseIs kind u.Struct = kind ≡ k.Word w.Struct
DeclarationUseIs kind u.Interface = kind ≡ k.Word w.Interface
DeclarationUseIs kind u.Extension = kind ≡ k.Word w.Extension
DeclarationUseIs kind u.TypeDef = kind ≡ k.Word w.TypeDef
DeclarationUseIs kind u.TypeAlias = kind ≡ k.Word w.TypeAlias
DeclarationUseIs kind u.Static = kind ≡ k.Word w.Static
DeclarationUseIs kind u.Associated = kind ≡ k.Word w.AssociatedType
DeclarationUseIs kind u.Typed = Unit {0}
DeclarationUseIs kind u.Nothing = Unit {0}

word_use_is : (word : Word) → DeclarationUseIs (k.Word word) (word_use word)
word_use_is w.AssociatedType = refl
word_use_is w.Bool = tt
word_use_is w.Break = tt
word_use_is w.Const = tt
word_use_is w.Continue = tt
word_use_is w.Else = tt
word_use_is w.Extension = refl
word_use_is w.False = tt
word_use_is w.For = tt
word_use_is w.If = tt
word_use_is w.Import = tt
word_use_is w.In = tt
word_use_is w.InOut = tt
word_use_is w.Int = tt
word_use_is w.Int2 = tt
word_use_is w.Int3 = tt
word_use_is w.Int4 = tt
word_use_is w.Interface = refl
word_use_is w.Internal = tt
word_use_is w.Let = tt
word_use_is w.Module = tt
word_use_is w.Out = tt
word_use_is w.Private = tt
word_use_is w.Public = tt
word_use_is w.Return = tt
word_use_is w.Static = refl
word_use_is w.Struct = refl
word_use_is w.ThisType = tt
word_use_is w.ThisValue = tt
word_use_is w.True = tt
word_use_is w.TypeAlias = refl
word_use_is w.TypeDef = refl
word_use_is w.Uint = tt
word_use_is w.Uint2 = tt
word_use_is w.Uint3 = tt
word_use_is w.Uint4 = tt
word_use_is w.Void = tt
word_use_is w.Where = tt
word_use_is w.While = tt
word_use_is w.StructuredBuffer = tt
word_use_is w.RwStructuredBuffer = tt
word_use_is w.ConstantBuffer = tt
word_use_is w.ParameterBlock = tt

pub declaration_use_is : (kind : Kind) → DeclarationUseIs kind (declaration_use kind)
declaration_use_is k.Name = tt
declaration_use_is (k.Word word) = word_use_is word
declaration_use_is (k.Number v) = tt
declaration_use_is k.String = tt
declaration_use_is (k.Mark mark) = tt
