use Rattle.std.proofs.Common.{List, ◌∙◌, arith, subst, sym}
use Rattle.std.proofs.Math.Logic.{⊎_elim}
use Rattle.spirv_words.specs.declared.images.Instruction.{Instruction}
use Rattle.image_facts.specs.Operands.{globals_of}
use Rattle.run_rooms.specs.Widths.{Tells}
use Rattle.run_rooms.specs.Rooms.{AreRooms}
use Rattle.run_rooms.specs.Layout.{IsLayout, rooms_in}
use Rattle.run_rooms.specs.Needs.{HasLongChain}
use Rattle.run_rooms.specs.Calls.{KeepsCalls}
use Rattle.run_rooms.specs.Tables.{layout_of}
use Rattle.run_rooms.proofs.Apart.{are-rooms}
use Rattle.run_rooms.proofs.Chained.{none-long}
use Rattle.run_rooms.proofs.places.Places.new.Goals as goal

pub tables_of-requires-clause-keeps : goal.tables_of-requires-clause-keeps
tables_of-requires-clause-keeps c =
    let keeps = c.calls_of_valid_images.ensures c.args.code.now c.requires.valid in
    subst KeepsCalls (sym (c.definitions.ensures ∙ c.in_ok-declarations.ensures)) keeps

pub tables_of-requires-clause-widths : goal.tables_of-requires-clause-widths
tables_of-requires-clause-widths c =
    subst (λ (code : List Instruction). Tells c.in_ok-widths.widths (globals_of code)) (sym (c.definitions.ensures ∙ c.in_ok-declarations.ensures)) c.in_ok-widths.ensures.tells

pub invariant_of-result : goal.invariant_of-result
invariant_of-result c = record {
  widths = subst (λ (code : List Instruction). Tells c.in_ok-widths.widths (globals_of code)) (sym c.in_ok-declarations.ensures) c.in_ok-widths.ensures.tells;
  laid = subst (λ (code : List Instruction). IsLayout (layout_of code c.in_ok-tables.tables)) c.definitions.ensures c.in_ok-tables.ensures.layout;
}

pub returns-clause-rooms : goal.returns-clause-rooms
returns-clause-rooms c = λ pairs.
    let code = c.in_ok-declarations.declarations in
    let laid = subst (λ (code : List Instruction). IsLayout (layout_of code c.in_ok-tables.tables)) c.definitions.ensures c.in_ok-tables.ensures.layout in
    let r = are-rooms (layout_of code c.in_ok-tables.tables) laid pairs in
    subst (λ (to : List Instruction). AreRooms to (rooms_in (layout_of code c.in_ok-tables.tables) pairs)) c.in_ok-declarations.ensures r

pub returns-clause-enough : goal.returns-clause-enough
returns-clause-enough c = λ needs.
    let code = c.in_ok-declarations.declarations in
    let laid = subst (λ (code : List Instruction). IsLayout (layout_of code c.in_ok-tables.tables)) c.definitions.ensures c.in_ok-tables.ensures.layout in
    ⊎_elim
    (λ many. omega (arith, many, c.if-code-ge4294967296.false))
    (λ rest. ⊎_elim
    (λ wide. omega (arith, wide.far, c.in_ok-widths.ensures.narrow wide.type wide.form wide.is))
    (λ long. none-long (layout_of code c.in_ok-tables.tables) laid (subst HasLongChain (sym c.in_ok-declarations.ensures) long))
    rest)
    needs
