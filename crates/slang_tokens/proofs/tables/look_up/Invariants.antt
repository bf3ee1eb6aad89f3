use Rattle.std.proofs.Common.{◌≡◌, drop}
use Rattle.slang_tokens.specs.Tables.{entry_of, texts}
use Rattle.slang_tokens.proofs.tables.look_up.Given as goal

abbrev pub invariant-loop-text : goal.invariant-loop-text
invariant-loop-text g l = entry_of (texts l.table) l.bytes ≡ entry_of (texts (drop l.text-index l.table)) l.bytes
