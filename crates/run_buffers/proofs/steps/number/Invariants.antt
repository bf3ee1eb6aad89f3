use Rattle.std.proofs.Common.{◌≡◌, ◌≤◌, take, IfSome}
use Rattle.run_buffers.specs.Parts.{Begins, shown}
use Rattle.run_buffers.proofs.steps.number.Given as goal

-- the bytes so far are the digits so far, and some number of the range begins with them
abbrev pub invariant-loop-i : goal.invariant-loop-i
invariant-loop-i l = record {
  narrow : IfSome l.value (λ v. v ≤ l.field.high);
  front : shown l.value ≡ take l.i l.bytes;
  begun : Begins l.field.low l.field.high (shown l.value);
}
