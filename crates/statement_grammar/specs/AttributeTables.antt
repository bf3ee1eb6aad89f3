-- Which attributes there are, and where each may stand.
use Rattle.std.specs.Prelude.{ℕ, Bool, true, false, List, [], ◌∷◌, codes, Option}
use Rattle.slang_tokens.specs.Tables.{entry_of}
use Rattle.statement_grammar.specs.declared.attributes.KnownAttribute.{KnownAttribute}
use Rattle.statement_grammar.specs.declared.attributes.KnownAttribute.TheVariants as a
use Rattle.statement_grammar.specs.declared.attributes.Target.{Target}
use Rattle.statement_grammar.specs.declared.attributes.Target.TheVariants as t

-- the attributes of loops
abbrev pub loop_attributes : List (List ℕ × KnownAttribute)
loop_attributes = (codes "unroll", a.Unroll) ∷ (codes "loop", a.Loop) ∷ []

-- the attributes of one name
abbrev pub attributes : List (List ℕ × KnownAttribute)
attributes =
    (codes "shader", a.Shader) ∷
    (codes "numthreads", a.NumThreads) ∷
    (codes "mutating", a.Mutating) ∷
    loop_attributes

unfoldable pub attribute_of : List ℕ → Option KnownAttribute
attribute_of name = entry_of attributes name

-- whether the attribute may stand before such a thing
abbrev pub may_stand : KnownAttribute → Target → Bool
may_stand a.Unroll t.Loop = true
may_stand a.Loop t.Loop = true
may_stand a.Shader t.Function = true
may_stand a.NumThreads t.Function = true
may_stand a.Binding t.Global = true
may_stand a.Mutating t.Method = true
may_stand _ _ = false

-- a number for each attribute
abbrev pub attribute_code : KnownAttribute → ℕ
attribute_code a.Shader = 0
attribute_code a.NumThreads = 1
attribute_code a.Mutating = 2
attribute_code a.Unroll = 3
attribute_code a.Loop = 4
attribute_code a.Binding = 5
