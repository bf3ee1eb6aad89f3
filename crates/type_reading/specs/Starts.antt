-- With which tokens a type begins.
use Rattle.std.specs.Prelude.{Bool, true, false}
use Rattle.slang_tokens.specs.declared.tokens.Kind.{Kind}
use Rattle.slang_tokens.specs.declared.tokens.Kind.TheVariants as k
use Rattle.slang_grammar.specs.TypesDescent.{WordUse, IsBuiltin, IsResource, IsThis, IsOther, use_of}

abbrev pub is_type_use : WordUse → Bool
is_type_use (IsBuiltin b) = true
is_type_use (IsResource r) = true
is_type_use IsThis = true
is_type_use IsOther = false

abbrev pub begins_type : Kind → Bool
begins_type k.Name = true
begins_type (k.Word word) = is_type_use (use_of word)
begins_type _ = false
