-- One step of a machine whose memory is one list of words.
use Rattle.std.specs.Prelude.{◌≡◌, ℕ, ◌+◌, ◌&&◌, cond, nat_eq, nat_lt, List, Option, Some, None, slice_get, length}
use Rattle.spirv_words.specs.Machine.{if_some}
use Rattle.flat_values.specs.declared.operators.Binary.{Binary}
use Rattle.flat_values.specs.Operators.{binary_of}
use Rattle.flat_values.specs.Ranges.{range_at, written}
use Rattle.flat_values.specs.Lanes.{both_of}
use Rattle.run_actions.specs.declared.actions.Action.{Action}
use Rattle.run_actions.specs.declared.actions.Action.TheVariants.{Pass, Put, One, Two, Copy, Gather, Load, Store, Read, Write, Chain, BufferChain, Jump, Choose, Call, Return, GiveBack, End, Unreachable, Never}
use Rattle.run_actions.specs.declared.actions.Move.{Move}
use Rattle.run_actions.specs.declared.actions.Index.{Index}
use Rattle.run_actions.specs.declared.turns.Followed.{Followed}
use Rattle.run_actions.specs.declared.turns.Followed.TheVariants.{To, Beyond}
use Rattle.run_actions.specs.declared.turns.Turn.{Turn}
use Rattle.run_actions.specs.declared.turns.Turn.TheVariants.{Going, Reading, Writing, Ended, Undefined, Stuck}
use Rattle.run_actions.specs.Ranges.{with_word, has, is_apart, put_at, put_both_at, clear_at, copy_at, gather_at, one_at}
use Rattle.run_actions.specs.Chains.{moved_on}

-- what a step does: it goes on at a place with these words; it goes on at the next place once a word of a buffer was read, and
-- written to a place of the words, or once a word was written to a buffer; or it does not go on
pub data FlatTurn : Type 0 where
  Goes : (place : ℕ) (words : List ℕ) → FlatTurn
  Reads : (buffer index to : ℕ) → FlatTurn
  Writes : (buffer index word : ℕ) → FlatTurn
  Ends : FlatTurn
  IsUndefined : FlatTurn
  IsStuck : FlatTurn

abbrev pub goes_on : ℕ → Option (List ℕ) → FlatTurn
goes_on place None = IsStuck
goes_on place (Some ws) = Goes place ws

abbrev pub with_place : Followed → (ℕ → FlatTurn) → FlatTurn
with_place (To place) go = go place
with_place Beyond go = IsUndefined

-- the words of two ranges, one by one
abbrev pub two : Binary → ℕ → List ℕ → ℕ → ℕ → ℕ → ℕ → FlatTurn
two op next ws left right to count =
    cond (has ws left count && (has ws right count && (has ws to count && (is_apart left to count && is_apart right to count))))
    (if_some (both_of (binary_of op) (range_at ws left count) (range_at ws right count)) IsUndefined (λ xs. Goes next (written ws to xs)))
    IsStuck

abbrev pub load : ℕ → List ℕ → ℕ → ℕ → ℕ → FlatTurn
load next ws pointer to count = with_word ws pointer IsStuck (λ p. goes_on next (copy_at ws p to count))

abbrev pub store : ℕ → List ℕ → ℕ → ℕ → ℕ → FlatTurn
store next ws pointer from count = with_word ws pointer IsStuck (λ p. goes_on next (copy_at ws from p count))

abbrev pub read : List ℕ → ℕ → ℕ → FlatTurn
read ws pointer to =
    with_word ws pointer IsStuck (λ b. with_word ws (pointer + 1) IsStuck (λ i. cond (nat_lt to (length ws)) (Reads b i to) IsStuck))

abbrev pub write : List ℕ → ℕ → ℕ → FlatTurn
write ws pointer from =
    with_word ws pointer IsStuck (λ b. with_word ws (pointer + 1) IsStuck (λ i. with_word ws from IsStuck (λ w. Writes b i w)))

-- a pointer into a variable, moved on
abbrev pub chain : ℕ → List ℕ → ℕ → ℕ → ℕ → List Index → FlatTurn
chain next ws pointer to offset steps =
    with_word ws pointer IsStuck (λ p. with_place (moved_on ws 0 steps p offset) (λ q.
    goes_on next (put_at ws to q)))

-- a pointer into a buffer, moved on, where the buffers have so many words
abbrev pub buffer_chain : ℕ → List ℕ → List ℕ → ℕ → ℕ → ℕ → List Index → FlatTurn
buffer_chain next lengths ws pointer to offset steps =
    with_word ws pointer IsStuck (λ b. with_word ws (pointer + 1) IsStuck (λ p. with_word lengths b IsStuck (λ n.
    with_place (moved_on ws n steps p offset) (λ q.
    goes_on next (put_both_at ws to b q)))))

abbrev pub choose : List ℕ → ℕ → ℕ → ℕ → FlatTurn
choose ws condition one other = with_word ws condition IsStuck (λ w. Goes (cond (nat_eq w 0) other one) ws)

-- the words once a call has begun
abbrev pub entered : List ℕ → List Move → ℕ → ℕ → ℕ → ℕ → ℕ → Option (List ℕ)
entered ws parts first count frame back to =
    if_some (gather_at parts ws) None (λ a. if_some (clear_at a first count) None (λ b.
    put_both_at b frame back to))

abbrev pub give_back : List ℕ → ℕ → ℕ → ℕ → FlatTurn
give_back ws frame from count =
    with_word ws frame IsStuck (λ p. with_word ws (frame + 1) IsStuck (λ to. goes_on p (copy_at ws from to count)))

-- each action, with the place after it, where the buffers have so many words
abbrev pub act : Action → ℕ → List ℕ → List ℕ → FlatTurn
act Pass next lengths ws = Goes next ws
act (Put to word) next lengths ws = goes_on next (put_at ws to word)
act (One op from to count) next lengths ws = goes_on next (one_at op ws from to count)
act (Two op left right to count) next lengths ws = two op next ws left right to count
act (Copy part) next lengths ws = goes_on next (copy_at ws part.from part.to part.count)
act (Gather parts) next lengths ws = goes_on next (gather_at parts ws)
act (Load pointer to count) next lengths ws = load next ws pointer to count
act (Store pointer from count) next lengths ws = store next ws pointer from count
act (Read pointer to) next lengths ws = read ws pointer to
act (Write pointer from) next lengths ws = write ws pointer from
act (Chain pointer to offset steps) next lengths ws = chain next ws pointer to offset steps
act (BufferChain pointer to offset steps) next lengths ws = buffer_chain next lengths ws pointer to offset steps
act (Jump target) next lengths ws = Goes target ws
act (Choose condition one other) next lengths ws = choose ws condition one other
act (Call target parts first count frame back to) next lengths ws = goes_on target (entered ws parts first count frame back to)
act (Return frame) next lengths ws = with_word ws frame IsStuck (λ p. Goes p ws)
act (GiveBack frame from count) next lengths ws = give_back ws frame from count
act End next lengths ws = Ends
act Unreachable next lengths ws = IsUndefined
act Never next lengths ws = IsStuck

-- the action at a place
abbrev pub flat_step : List Action → List ℕ → ℕ → List ℕ → FlatTurn
flat_step actions lengths place ws = if_some (slice_get actions place) IsStuck (λ a. act a (place + 1) lengths ws)

-- what the step gave, and the words that it left; they stay where a buffer is read or written
abbrev pub Took : FlatTurn → Turn → List ℕ → List ℕ → Type 0
Took (Goes place ws) turn before now = (turn ≡ Going place) × (now ≡ ws)
Took (Reads buffer index to) turn before now = (turn ≡ Reading buffer index to) × (now ≡ before)
Took (Writes buffer index word) turn before now = (turn ≡ Writing buffer index word) × (now ≡ before)
Took Ends turn before now = turn ≡ Ended
Took IsUndefined turn before now = turn ≡ Undefined
Took IsStuck turn before now = turn ≡ Stuck
