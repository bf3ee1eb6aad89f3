-- What is answered to a text, and to bytes that are none.
use Rattle.std.proofs.Common.{◌≡◌, ℕ, List, Result, Ok, Err, IfOk, ap}
use Rattle.slang_names.specs.declared.faults.RunCause.TheVariants.{NoEntry, BufferText, DispatchLimit, BufferMissing}
use Rattle.run_buffers.specs.declared.buffer.Buffer.{Buffer}
use Rattle.run_buffers.specs.declared.faults.RunFault.{RunFault}
use Rattle.run_buffers.specs.declared.faults.RunFault.TheVariants.{Refused, Undefined, Budget, Memory}
use Rattle.run_buffers.specs.Texts.{IsTextOf, RefusedAt}
use Rattle.run_buffers.specs.Refusals.{OfTextFault, UnlessWant, IfTextRefused, UnlessMemory}
use Rattle.run_buffers.proofs.Whole.{one_reading, one_refusal, no_text_is_refused}

never_refused : (fault : RunFault) (P : ℕ → Type 0) (Q : Type 0) → ((place : ℕ) → P place → ⊥) → OfTextFault fault P → UnlessWant fault Q
never_refused (Refused (BufferText place)) P Q none h = absurd (none place h)
never_refused (Refused NoEntry) P Q none h = absurd h
never_refused (Refused (DispatchLimit product)) P Q none h = absurd h
never_refused (Refused (BufferMissing set binding)) P Q none h = absurd h
never_refused (Undefined invocation step) P Q none h = absurd h
never_refused (Budget invocation) P Q none h = absurd h
never_refused (Memory e) P Q none h = tt

pub answered_text : (bytes : List ℕ) (r : Result (List Buffer) RunFault) → IfOk r (λ bs. IsTextOf bytes bs) → IfTextRefused r (λ place. RefusedAt bytes place)
    → (bs : List Buffer) → IsTextOf bytes bs → UnlessMemory r (r ≡ Ok bs)
answered_text bytes (Ok read) text refused bs t = ap (λ (x : List Buffer). let o : Result (List Buffer) RunFault = Ok x in o) (one_reading bytes read bs text t)
answered_text bytes (Err fault) text refused bs t = never_refused fault (λ place. RefusedAt bytes place) _ (λ place r. no_text_is_refused bytes bs place t r) refused

refused_once : (bytes : List ℕ) (fault : RunFault) → OfTextFault fault (λ place. RefusedAt bytes place) → (place : ℕ) → RefusedAt bytes place
    → UnlessWant fault (let o : Result (List Buffer) RunFault = Err fault in o ≡ Err (Refused (BufferText place)))
refused_once bytes (Refused (BufferText p)) h place r = ap (λ (n : ℕ). let o : Result (List Buffer) RunFault = Err (Refused (BufferText n)) in o) (one_refusal bytes p place h r)
refused_once bytes (Refused NoEntry) h place r = absurd h
refused_once bytes (Refused (DispatchLimit product)) h place r = absurd h
refused_once bytes (Refused (BufferMissing set binding)) h place r = absurd h
refused_once bytes (Undefined invocation step) h place r = absurd h
refused_once bytes (Budget invocation) h place r = absurd h
refused_once bytes (Memory e) h place r = tt

pub answered_refusal : (bytes : List ℕ) (r : Result (List Buffer) RunFault) → IfOk r (λ bs. IsTextOf bytes bs) → IfTextRefused r (λ place. RefusedAt bytes place)
    → (place : ℕ) → RefusedAt bytes place → UnlessMemory r (r ≡ Err (Refused (BufferText place)))
answered_refusal bytes (Ok read) text refused place h = absurd (no_text_is_refused bytes read place text h)
answered_refusal bytes (Err fault) text refused place h = refused_once bytes fault refused place h
