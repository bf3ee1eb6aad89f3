use Rattle.std.proofs.Common.{◌-◌, []}
use Rattle.slang_tokens.specs.declared.tokens.Word.TheVariants as w
use Rattle.slang_reading.specs.Kinds.{sees_word}
use Rattle.slang_reading.specs.Reading.{turns}
use Rattle.slang_reading.proofs.Loops.{Keeps}
use Rattle.declaration_grammar.specs.DeclarationsDescent.{import_more}
use Rattle.type_reading.specs.Limited.{limits_of}
use Rattle.declaration_reading.proofs.lines.imports.Given as goal

abbrev pub invariant-loop-turn : goal.invariant-loop-turn
invariant-loop-turn l =
    let more = import_more (limits_of l.limits) l.depth in
    Keeps (turns (sees_word w.Import) more (l.limits.turns - l._turn) l.list) l.tokens (turns (sees_word w.Import) more l.limits.turns []) l.fn.tokens
