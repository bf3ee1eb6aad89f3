-- Names, and the words of the language that no name may be.
use Rattle.std.specs.Prelude.{ℕ, Bool, false, List, [], ◌∷◌, ◌++◌, ◌&&◌, ◌||◌, ◌==◌, not, length, map, codes, nat_le}
use Rattle.std.specs.List.{list_any, list_all, flat_map}
use Rattle.std.specs.Str.{bytes_eq}
use Rattle.slang_names.specs.Letters.{is_name}

-- words that have a use in the language
abbrev pub used_words : List (List ℕ)
used_words =
    codes "associatedtype" ∷ codes "bool" ∷ codes "break" ∷ codes "const" ∷ codes "continue" ∷ codes "else" ∷ codes "extension"
    ∷ codes "false" ∷ codes "for" ∷ codes "if" ∷ codes "import" ∷ codes "in" ∷ codes "inout" ∷ codes "int" ∷ codes "int2" ∷ codes "int3"
    ∷ codes "int4" ∷ codes "interface" ∷ codes "internal" ∷ codes "let" ∷ codes "module" ∷ codes "out" ∷ codes "private" ∷ codes "public"
    ∷ codes "return" ∷ codes "static" ∷ codes "struct" ∷ codes "This" ∷ codes "this" ∷ codes "true" ∷ codes "typealias" ∷ codes "typedef"
    ∷ codes "uint" ∷ codes "uint2" ∷ codes "uint3" ∷ codes "uint4" ∷ codes "void" ∷ codes "where" ∷ codes "while"
    ∷ codes "StructuredBuffer" ∷ codes "RWStructuredBuffer" ∷ codes "ConstantBuffer" ∷ codes "ParameterBlock" ∷ []

abbrev pub dimensions : List ℕ
dimensions = codes "1234"

-- a type of vectors, as `half3`
abbrev pub vector_words : List ℕ → List (List ℕ)
vector_words base = map (λ d. base ++ d ∷ []) dimensions

-- a type of matrices, as `half3x4`
abbrev pub matrix_words : List ℕ → List (List ℕ)
matrix_words base = flat_map (λ rows. map (λ columns. base ++ rows ∷ 120 ∷ columns ∷ []) dimensions) dimensions

-- types of floating-point numbers, which the compiler does not take
abbrev pub float_words : List (List ℕ)
float_words = flat_map (λ base. base ∷ vector_words base ++ matrix_words base) (codes "float" ∷ codes "half" ∷ codes "double" ∷ [])

-- types of textures and samplers, which the compiler does not take
abbrev pub texture_words : List (List ℕ)
texture_words =
    codes "Texture1D" ∷ codes "Texture2D" ∷ codes "Texture3D" ∷ codes "TextureCube" ∷ codes "Texture1DArray" ∷ codes "Texture2DArray"
    ∷ codes "TextureCubeArray" ∷ codes "Texture2DMS" ∷ codes "RWTexture1D" ∷ codes "RWTexture2D" ∷ codes "RWTexture3D"
    ∷ codes "SamplerState" ∷ codes "SamplerComparisonState" ∷ []

-- further words that the compiler does not take
abbrev pub unsupported_words : List (List ℕ)
unsupported_words =
    codes "class" ∷ codes "enum" ∷ codes "property" ∷ codes "operator" ∷ codes "switch" ∷ codes "case" ∷ codes "default" ∷ codes "do"
    ∷ codes "groupshared" ∷ codes "cbuffer" ∷ codes "tbuffer" ∷ codes "uniform" ∷ codes "extern" ∷ codes "export" ∷ codes "func"
    ∷ codes "var" ∷ codes "namespace" ∷ codes "discard" ∷ codes "throw" ∷ codes "try" ∷ codes "defer" ∷ codes "__include"
    ∷ codes "__subscript" ∷ codes "__init" ∷ codes "__exported" ∷ codes "bool2" ∷ codes "bool3" ∷ codes "bool4" ∷ codes "int8_t"
    ∷ codes "int16_t" ∷ codes "int64_t" ∷ codes "uint8_t" ∷ codes "uint16_t" ∷ codes "uint64_t" ∷ codes "ByteAddressBuffer"
    ∷ codes "RWByteAddressBuffer" ∷ codes "AppendStructuredBuffer" ∷ codes "ConsumeStructuredBuffer" ∷ []

-- types of matrices of whole numbers, which the compiler does not take
abbrev pub integer_matrix_words : List (List ℕ)
integer_matrix_words = flat_map matrix_words (codes "int" ∷ codes "uint" ∷ [])

abbrev pub is_one_of : List (List ℕ) → List ℕ → Bool
is_one_of words word = list_any (λ w. bytes_eq w word) words

-- a word of the language, with a use or refused
unfoldable pub is_reserved : List ℕ → Bool
is_reserved word =
    is_one_of used_words word || is_one_of float_words word || is_one_of texture_words word || is_one_of unsupported_words word
    || is_one_of integer_matrix_words word

-- what a shader's own things may be called: a name of at most 64 bytes that is no word of the language
abbrev pub is_free_name : List ℕ → Bool
is_free_name word = is_name word && nat_le (length word) 64 && not (is_reserved word)
