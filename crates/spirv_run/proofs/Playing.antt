-- What an invocation does to a memory, as a function.
use Rattle.std.proofs.Common.{◌≡◌, ◌≢◌, ℕ, zero, suc, ◌≤◌, List, [], ◌∷◌, ◌++◌, length, Option, Some, None, slice_get, refl, sym, ap, subst, ◌∙◌, append_assoc, arith}
use Rattle.std.proofs.lemmas.List.{append-nil}
use Rattle.behavior.specs.Meanings.{Event, Read, Write, End, Done, Out, Undefined, Stuck, Outcome}
use Rattle.spirv_words.specs.declared.images.Image.{Image}
use Rattle.spirv_words.specs.Machine.{if_some}
use Rattle.spirv_words.specs.Step.{State, Setting, Turn, Goes, Reads, Writes, Ends, IsUndefined, IsStuck, step}
use Rattle.spirv_words.specs.Runs.{setting, start, run, after}
use Rattle.run_buffers.specs.declared.buffer.Buffer.{Buffer}
use Rattle.run_buffers.specs.declared.ids.Ids.{Ids}
use Rattle.run_buffers.specs.Memory.{words_of}
use Rattle.spirv_run.specs.Shared.{lengths_in, put_word, Play, built_ins_of, Within}

-- ---- events come behind those before

abbrev behind : List Event → Outcome → Outcome
behind events o = record { events = events ++ o.events; ending = o.ending }

behind_two : (a b : List Event) (o : Outcome) → behind a (behind b o) ≡ behind (a ++ b) o
behind_two a b o = ap (λ (l : List Event). let r : Outcome = record { events = l; ending = o.ending } in r) (sym (append_assoc a b o.events))

grown_by : (t : Turn) (go : State → List ℕ → List Event → Outcome) → ((s : State) (answers : List ℕ) (events : List Event) → go s answers events ≡ behind events (go s answers []))
    → (answers : List ℕ) (events : List Event) → after t go answers events ≡ behind events (after t go answers [])
grown_by (Goes s) go h answers events = h s answers events
grown_by (Reads set binding index f) go h [] events = rw (append-nil events) refl
grown_by (Reads set binding index f) go h (a ∷ answers) events =
    let one : List Event = Read set binding index a ∷ [] in
    h (f a) answers (events ++ one) ∙ (sym (behind_two events one (go (f a) answers [])) ∙ ap (behind events) (sym (h (f a) answers one)))
grown_by (Writes set binding index w s) go h answers events =
    let one : List Event = Write set binding index w ∷ [] in
    h s answers (events ++ one) ∙ (sym (behind_two events one (go s answers [])) ∙ ap (behind events) (sym (h s answers one)))
grown_by Ends go h answers events = rw (append-nil events) refl
grown_by IsUndefined go h answers events = rw (append-nil events) refl
grown_by IsStuck go h answers events = rw (append-nil events) refl

grown : (m : Setting) (n : ℕ) (s : State) (answers : List ℕ) (events : List Event) → run m n s answers events ≡ behind events (run m n s answers [])
grown m zero s answers events = rw (append-nil events) refl
grown m (suc n) s answers events = grown_by (step m s) (run m n) (λ t a e. grown m n t a e) answers events

-- ---- a run on a memory

-- the memory that is left, and how it ended; stuck where it reads a word that is not there
abbrev pub Left : Type 0
Left = List Buffer × End

abbrev pub played : Turn → (State → List Buffer → Left) → List Buffer → Left
played (Goes s) go memory = go s memory
played (Reads set binding index f) go memory = if_some (slice_get (words_of memory set binding) index) (memory, Stuck) (λ w. go (f w) memory)
played (Writes set binding index w s) go memory = go s (put_word memory set binding index w)
played Ends go memory = (memory, Done)
played IsUndefined go memory = (memory, Undefined)
played IsStuck go memory = (memory, Stuck)

abbrev pub play : Setting → ℕ → State → List Buffer → Left
play m zero s memory = (memory, Out)
play m (suc n) s memory = played (step m s) (play m n) memory

abbrev IsPlayed : (State → List ℕ → List Event → Outcome) → (State → List Buffer → Left) → ℕ → Type 0
IsPlayed go plays n = (s : State) (answers : List ℕ) (before after : List Buffer) → n ≤ length answers → Play (go s answers []).events before after
    → plays s before ≡ (after, (go s answers []).ending)

same_left : (a b : List Buffer) (e : End) → b ≡ a → let x : Left = (a, e) in let y : Left = (b, e) in x ≡ y
same_left a b e h = ap (λ (l : List Buffer). let x : Left = (l, e) in x) (sym h)

turn_played : (m : Setting) (n : ℕ) (t : Turn) → IsPlayed (run m n) (play m n) n → (answers : List ℕ) (before last : List Buffer) → suc n ≤ length answers
    → Play (after t (run m n) answers []).events before last → played t (play m n) before ≡ (last, (after t (run m n) answers []).ending)
turn_played m n (Goes s) h answers before last le p = h s answers before last (omega arith) p
turn_played m n (Reads set binding index f) h [] before last le p = absurd (omega arith)
turn_played m n (Reads set binding index f) h (a ∷ answers) before last le p =
    let one : List Event = Read set binding index a ∷ [] in
    let e = grown m n (f a) answers one in
    let q : Play (one ++ (run m n (f a) answers []).events) before last = subst (λ (o : Outcome). Play o.events before last) e p in
    ap (λ (w : Option ℕ). if_some w (before, Stuck) (λ w. play m n (f w) before)) q.0
    ∙ (h (f a) answers before last (omega arith) q.1 ∙ ap (λ (o : Outcome). let x : Left = (last, o.ending) in x) (sym e))
turn_played m n (Writes set binding index w s) h answers before last le p =
    let one : List Event = Write set binding index w ∷ [] in
    let e = grown m n s answers one in
    let q : Play (one ++ (run m n s answers []).events) before last = subst (λ (o : Outcome). Play o.events before last) e p in
    h s answers (put_word before set binding index w) last (omega arith) q
    ∙ ap (λ (o : Outcome). let x : Left = (last, o.ending) in x) (sym e)
turn_played m n Ends h answers before last le p = same_left before last Done p
turn_played m n IsUndefined h answers before last le p = same_left before last Undefined p
turn_played m n IsStuck h answers before last le p = same_left before last Stuck p

is_played : (m : Setting) (n : ℕ) → IsPlayed (run m n) (play m n) n
is_played m zero s answers before last le p = same_left before last Out p
is_played m (suc n) s answers before last le p = turn_played m n (step m s) (is_played m n) answers before last le p

abbrev pub setting_of : Image → Ids → List Buffer → Setting
setting_of image ids memory = setting image.instructions (built_ins_of ids) (lengths_in memory)

-- what an invocation comes to on a memory
pub within_is_played : (image : Image) (ids : Ids) (before : List Buffer) (n : ℕ) (last : List Buffer) (end : End) → Within image ids before n last end
    → let m = setting_of image ids before in play m n (start m) before ≡ (last, end)
within_is_played image ids before n last end w =
    let m = setting_of image ids before in
    is_played m n (start m) w.answers before last (let e = w.enough in omega arith) w.plays ∙ ap (λ (e : End). let x : Left = (last, e) in x) w.ends

-- ---- what has ended stays so, with more steps

abbrev StaysSo : (State → List Buffer → Left) → (State → List Buffer → Left) → Type 0
StaysSo short long = (s : State) (memory : List Buffer) → (short s memory).1 ≢ Out → long s memory ≡ short s memory

read_stays : (o : Option ℕ) (f : ℕ → State) (short long : State → List Buffer → Left) (memory : List Buffer) → StaysSo short long
    → (if_some o (memory, Stuck) (λ w. short (f w) memory)).1 ≢ Out → if_some o (memory, Stuck) (λ w. long (f w) memory) ≡ if_some o (memory, Stuck) (λ w. short (f w) memory)
read_stays None f short long memory h ne = refl
read_stays (Some w) f short long memory h ne = h (f w) memory ne

turn_stays : (t : Turn) (short long : State → List Buffer → Left) (memory : List Buffer) → StaysSo short long → (played t short memory).1 ≢ Out → played t long memory ≡ played t short memory
turn_stays (Goes s) short long memory h ne = h s memory ne
turn_stays (Reads set binding index f) short long memory h ne = read_stays (slice_get (words_of memory set binding) index) f short long memory h ne
turn_stays (Writes set binding index w s) short long memory h ne = h s (put_word memory set binding index w) ne
turn_stays Ends short long memory h ne = refl
turn_stays IsUndefined short long memory h ne = refl
turn_stays IsStuck short long memory h ne = refl

pub stays : (m : Setting) (n k : ℕ) → n ≤ k → (s : State) (memory : List Buffer) → (play m n s memory).1 ≢ Out → play m k s memory ≡ play m n s memory
stays m zero k le s memory ne = absurd (ne refl)
stays m (suc n) zero le s memory ne = absurd (omega arith)
stays m (suc n) (suc k) le s memory ne = turn_stays (step m s) (play m n) (play m k) memory (stays m n k (omega arith)) ne
