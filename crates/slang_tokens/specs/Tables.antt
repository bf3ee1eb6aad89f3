-- The marks and the words, with their spelling.
use Rattle.std.specs.Prelude.{ℕ, List, [], ◌∷◌, codes, Option, Some, None, if◌then◌else◌}
use Rattle.std.specs.Str.{bytes_eq}
use denote.Ref.{Bor}
use Rattle.slang_names.specs.declared.codes.ModuleCode.{ModuleCode}
use Rattle.slang_names.specs.declared.codes.ModuleCode.TheVariants as c
use Rattle.slang_tokens.specs.declared.tokens.Mark.{Mark}
use Rattle.slang_tokens.specs.declared.tokens.Mark.TheVariants as m
use Rattle.slang_tokens.specs.declared.tokens.Word.{Word}
use Rattle.slang_tokens.specs.declared.tokens.Word.TheVariants as w

-- what the table says of these bytes: the first entry with that text
abbrev pub entry_of : {A : Type 0} → List (List ℕ × A) → List ℕ → Option A
entry_of [] bytes = None
entry_of (e ∷ es) bytes = if bytes_eq e.0 bytes then Some e.1 else entry_of es bytes

-- a table of the program, with the texts that its references point to
abbrev pub texts : {A : Type 0} → List (Bor (List ℕ) × A) → List (List ℕ × A)
texts [] = []
texts (e ∷ es) = (e.0.now, e.1) ∷ texts es

-- the marks
abbrev pub marks : List (List ℕ × Mark)
marks =
    (codes "{", m.OpenBrace) ∷
    (codes "}", m.CloseBrace) ∷
    (codes "(", m.OpenParen) ∷
    (codes ")", m.CloseParen) ∷
    (codes "[", m.OpenBracket) ∷
    (codes "]", m.CloseBracket) ∷
    (codes "<", m.Less) ∷
    (codes "=", m.Equal) ∷
    (codes ";", m.Semicolon) ∷
    (codes ",", m.Comma) ∷
    (codes ":", m.Colon) ∷
    (codes "::", m.DoubleColon) ∷
    (codes ".", m.Dot) ∷
    (codes "?", m.Question) ∷
    (codes "+", m.Plus) ∷
    (codes "-", m.Minus) ∷
    (codes "*", m.Star) ∷
    (codes "/", m.Slash) ∷
    (codes "%", m.Percent) ∷
    (codes "&", m.And) ∷
    (codes "|", m.Or) ∷
    (codes "^", m.Caret) ∷
    (codes "!", m.Not) ∷
    (codes "~", m.Tilde) ∷
    (codes "&&", m.AndAnd) ∷
    (codes "||", m.OrOr) ∷
    (codes "==", m.EqualEqual) ∷
    (codes "!=", m.NotEqual) ∷
    (codes "<=", m.LessEqual) ∷
    (codes "<<", m.ShiftLeft) ∷
    (codes "++", m.PlusPlus) ∷
    (codes "--", m.MinusMinus) ∷
    (codes "+=", m.PlusEqual) ∷
    (codes "-=", m.MinusEqual) ∷
    (codes "*=", m.StarEqual) ∷
    (codes "/=", m.SlashEqual) ∷
    (codes "%=", m.PercentEqual) ∷
    (codes "&=", m.AndEqual) ∷
    (codes "|=", m.OrEqual) ∷
    (codes "^=", m.CaretEqual) ∷
    (codes "<<=", m.ShiftLeftEqual) ∷
    (codes ">", m.Greater) ∷
    []

-- the words with a use
abbrev pub words : List (List ℕ × Word)
words =
    (codes "associatedtype", w.AssociatedType) ∷
    (codes "bool", w.Bool) ∷
    (codes "break", w.Break) ∷
    (codes "const", w.Const) ∷
    (codes "continue", w.Continue) ∷
    (codes "else", w.Else) ∷
    (codes "extension", w.Extension) ∷
    (codes "false", w.False) ∷
    (codes "for", w.For) ∷
    (codes "if", w.If) ∷
    (codes "import", w.Import) ∷
    (codes "in", w.In) ∷
    (codes "inout", w.InOut) ∷
    (codes "int", w.Int) ∷
    (codes "int2", w.Int2) ∷
    (codes "int3", w.Int3) ∷
    (codes "int4", w.Int4) ∷
    (codes "interface", w.Interface) ∷
    (codes "internal", w.Internal) ∷
    (codes "let", w.Let) ∷
    (codes "module", w.Module) ∷
    (codes "out", w.Out) ∷
    (codes "private", w.Private) ∷
    (codes "public", w.Public) ∷
    (codes "return", w.Return) ∷
    (codes "static", w.Static) ∷
    (codes "struct", w.Struct) ∷
    (codes "This", w.ThisType) ∷
    (codes "this", w.ThisValue) ∷
    (codes "true", w.True) ∷
    (codes "typealias", w.TypeAlias) ∷
    (codes "typedef", w.TypeDef) ∷
    (codes "uint", w.Uint) ∷
    (codes "uint2", w.Uint2) ∷
    (codes "uint3", w.Uint3) ∷
    (codes "uint4", w.Uint4) ∷
    (codes "void", w.Void) ∷
    (codes "where", w.Where) ∷
    (codes "while", w.While) ∷
    (codes "StructuredBuffer", w.StructuredBuffer) ∷
    (codes "RWStructuredBuffer", w.RwStructuredBuffer) ∷
    (codes "ConstantBuffer", w.ConstantBuffer) ∷
    (codes "ParameterBlock", w.ParameterBlock) ∷
    []

-- textures and samplers
abbrev pub textures : List (List ℕ)
textures =
    codes "Texture1D" ∷
    codes "Texture2D" ∷
    codes "Texture3D" ∷
    codes "TextureCube" ∷
    codes "Texture1DArray" ∷
    codes "Texture2DArray" ∷
    codes "TextureCubeArray" ∷
    codes "Texture2DMS" ∷
    codes "RWTexture1D" ∷
    codes "RWTexture2D" ∷
    codes "RWTexture3D" ∷
    codes "SamplerState" ∷
    codes "SamplerComparisonState" ∷
    []

-- other words of the language that this compiler does not take
abbrev pub unsupported : List (List ℕ)
unsupported =
    codes "class" ∷
    codes "enum" ∷
    codes "property" ∷
    codes "operator" ∷
    codes "switch" ∷
    codes "case" ∷
    codes "default" ∷
    codes "do" ∷
    codes "groupshared" ∷
    codes "cbuffer" ∷
    codes "tbuffer" ∷
    codes "uniform" ∷
    codes "extern" ∷
    codes "export" ∷
    codes "func" ∷
    codes "var" ∷
    codes "namespace" ∷
    codes "discard" ∷
    codes "throw" ∷
    codes "try" ∷
    codes "defer" ∷
    codes "__include" ∷
    codes "__subscript" ∷
    codes "__init" ∷
    codes "__exported" ∷
    codes "bool2" ∷
    codes "bool3" ∷
    codes "bool4" ∷
    codes "int8_t" ∷
    codes "int16_t" ∷
    codes "int64_t" ∷
    codes "uint8_t" ∷
    codes "uint16_t" ∷
    codes "uint64_t" ∷
    codes "ByteAddressBuffer" ∷
    codes "RWByteAddressBuffer" ∷
    codes "AppendStructuredBuffer" ∷
    codes "ConsumeStructuredBuffer" ∷
    []

-- a table that gives all texts one entry, before another table
abbrev pub each : {A : Type 0} → A → List (List ℕ) → List (List ℕ × A) → List (List ℕ × A)
each a [] more = more
each a (text ∷ texts) more = (text, a) ∷ each a texts more

-- the words that are refused, with their codes
abbrev pub refused : List (List ℕ × ModuleCode)
refused = each c.Texture textures (each c.Unsupported unsupported [])

unfoldable pub mark_of : List ℕ → Option Mark
mark_of bytes = entry_of marks bytes

unfoldable pub word_of : List ℕ → Option Word
word_of bytes = entry_of words bytes

unfoldable pub refused_of : List ℕ → Option ModuleCode
refused_of bytes = entry_of refused bytes
