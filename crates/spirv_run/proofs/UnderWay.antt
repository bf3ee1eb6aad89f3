-- An invocation that is under way comes to its end.
use Rattle.std.proofs.Common.{◌≡◌, ◌≢◌, ◌⊎◌, inl, inr, ℕ, zero, suc, ◌+◌, ◌-◌, ◌<◌, List, [], ◌∷◌, ◌++◌, length, Some, slice_get, refl, sym, ap, subst, ◌∙◌, append_assoc, arith}
use Rattle.std.specs.Prelude.{replicate}
use Rattle.std.proofs.lemmas.List.{length-append}
use Rattle.behavior.specs.Meanings.{Event, Read, Write, End, Done, Out, Undefined as WasUndefined, Outcome}
use Rattle.spirv_words.specs.declared.images.Instruction.{Instruction}
use Rattle.spirv_words.specs.declared.images.Image.{Image}
use Rattle.spirv_words.specs.Step.{State, Setting, Turn as Step, Goes, Reads, Writes, Ends, IsUndefined, IsStuck, step}
use Rattle.spirv_words.specs.Runs.{setting, start, run, after}
use Rattle.run_buffers.specs.declared.buffer.Buffer.{Buffer}
use Rattle.run_buffers.specs.declared.ids.Ids.{Ids}
use Rattle.run_buffers.specs.Memory.{slots, words_of}
use Rattle.run_plans.specs.declared.base.Bound.{Bound}
use Rattle.run_plans.specs.Plans.{needs}
use Rattle.spirv_run.specs.declared.turns.Turn.{Turn}
use Rattle.spirv_run.specs.declared.turns.Turn.TheVariants.{Going, Ended, Undefined}
use Rattle.spirv_run.specs.Shared.{lengths_in, put_word, Play, built_ins_of, Within, EndsAt}
use Rattle.spirv_run.specs.Dispatch.{Missing}
use Rattle.spirv_run.specs.Machines.{Machine, moved_to, At, AreLengths, HasDone}
use Rattle.spirv_run.specs.Parts.{IsShort}
use Rattle.spirv_run.specs.Going.{IsReady, Came, IsUnderWay}
use Rattle.spirv_run.proofs.Memories.{put_slots, put_lengths}

-- ---- events on a memory

pub play_both : (es fs : List Event) (a b c : List Buffer) → Play es a b → Play fs b c → Play (es ++ fs) a c
play_both [] fs a b c p q = subst (λ (m : List Buffer). Play fs m c) p q
play_both (Read set binding index word ∷ es) fs a b c p q = (p.0, play_both es fs a b c p.1 q)
play_both (Write set binding index word ∷ es) fs a b c p q = play_both es fs (put_word a set binding index word) b c p q

-- ---- coming further

module _ (m : Setting) (before : List Buffer) (k : ℕ) (s : State) (now : List Buffer) where
  pub came_start : Came m before 0 (start m) before
  came_start = record {
    answers = [];
    events = [];
    few = omega arith;
    goes_on = λ n rest. ap (λ (j : ℕ). run m j (start m) rest []) (let e : 0 + n ≡ n = omega arith in e);
    plays = refl;
  }

  -- one step more
  further : (c : Came m before k s now) (n : ℕ) (rest : List ℕ) → run m (suc k + n) (start m) (c.answers ++ rest) [] ≡ after (step m s) (run m n) rest c.events
  further c n rest = ap (λ (j : ℕ). run m j (start m) (c.answers ++ rest) []) (let e : suc k + n ≡ k + suc n = omega arith in e) ∙ c.goes_on (suc n) rest

  pub came_goes : (t : State) → Came m before k s now → step m s ≡ Goes t → Came m before (suc k) t now
  came_goes t c e = record {
    answers = c.answers;
    events = c.events;
    few = let f = c.few in omega arith;
    goes_on = λ n rest. further c n rest ∙ ap (λ (u : Step). after u (run m n) rest c.events) e;
    plays = c.plays;
  }

  pub came_reads : (set binding index w : ℕ) (go : ℕ → State) → Came m before k s now → step m s ≡ Reads set binding index go → slice_get (words_of now set binding) index ≡ Some w
      → Came m before (suc k) (go w) now
  came_reads set binding index w go c e there = record {
    answers = c.answers ++ w ∷ [];
    events = c.events ++ Read set binding index w ∷ [];
    few = let f = c.few in omega (arith, length-append c.answers (w ∷ []));
    goes_on = λ n rest.
        ap (λ (l : List ℕ). run m (suc k + n) (start m) l []) (append_assoc c.answers (w ∷ []) rest)
        ∙ (further c n (w ∷ rest) ∙ ap (λ (u : Step). after u (run m n) (w ∷ rest) c.events) e);
    plays = play_both c.events (Read set binding index w ∷ []) before now now c.plays (there, refl);
  }

  pub came_writes : (set binding index w : ℕ) (t : State) → Came m before k s now → step m s ≡ Writes set binding index w t
      → Came m before (suc k) t (put_word now set binding index w)
  came_writes set binding index w t c e = record {
    answers = c.answers;
    events = c.events ++ Write set binding index w ∷ [];
    few = let f = c.few in omega arith;
    goes_on = λ n rest. further c n rest ∙ ap (λ (u : Step). after u (run m n) rest c.events) e;
    plays = play_both c.events (Write set binding index w ∷ []) before now (put_word now set binding index w) c.plays refl;
  }

length_replicate : (n : ℕ) → length {A = ℕ} (replicate n 0) ≡ n
length_replicate zero = refl
length_replicate (suc n) = ap (λ (j : ℕ). suc j) (length_replicate n)

-- ---- how far it has come

-- what comes of an invocation after so many steps
within_from : (image : Image) (ids : Ids) (before now : List Buffer) (k n total : ℕ) (s : State) (end : End) → total ≡ k + n
    → let m = setting image.instructions (built_ins_of ids) (lengths_in before) in
    (c : Came m before k s now) → ((rest : List ℕ) → run m n s rest c.events ≡ record { events = c.events; ending = end }) → Within image ids before total now end
within_from image ids before now k n total s end sum c ends =
    let m = setting image.instructions (built_ins_of ids) (lengths_in before) in
    let pad : List ℕ = replicate (total - length c.answers) 0 in
    let all : List ℕ = c.answers ++ pad in
    let outcome : Outcome = record { events = c.events; ending = end } in
    let is : run m total (start m) all [] ≡ outcome = ap (λ (j : ℕ). run m j (start m) all []) sum ∙ (c.goes_on n pad ∙ ends pad) in
    record {
      answers = all;
      enough = let f = c.few in omega (arith, length-append c.answers pad, length_replicate (total - length c.answers));
      plays = subst (λ (o : Outcome). Play o.events before now) (sym is) c.plays;
      ends = ap (λ (o : Outcome). o.ending) is;
    }

pub not_ended : (image : Image) (ids : Ids) (before now : List Buffer) (k : ℕ) (s : State)
    → Came (setting image.instructions (built_ins_of ids) (lengths_in before)) before k s now → Within image ids before k now Out
not_ended image ids before now k s c = within_from image ids before now k 0 k s Out (omega arith) c (λ rest. refl)

ended_by : (image : Image) (ids : Ids) (before now : List Buffer) (k : ℕ) (s : State) (end : End)
    → let m = setting image.instructions (built_ins_of ids) (lengths_in before) in
    (c : Came m before k s now) → ((rest : List ℕ) → run m 1 s rest c.events ≡ record { events = c.events; ending = end }) → EndsAt image ids before (suc k) now end
ended_by image ids before now k s end c ends = record {
  earlier = k;
  last = refl;
  memory = now;
  unfinished = not_ended image ids before now k s c;
  finished = within_from image ids before now k 1 (suc k) s end (omega arith) c ends;
}

pub ended : (image : Image) (ids : Ids) (before now : List Buffer) (k : ℕ) (s : State)
    → let m = setting image.instructions (built_ins_of ids) (lengths_in before) in
    Came m before k s now → step m s ≡ Ends → EndsAt image ids before (suc k) now Done
ended image ids before now k s c e =
    let m = setting image.instructions (built_ins_of ids) (lengths_in before) in
    ended_by image ids before now k s Done c (λ rest. ap (λ (u : Step). after u (run m 0) rest c.events) e)

pub undefined : (image : Image) (ids : Ids) (before now : List Buffer) (k : ℕ) (s : State)
    → let m = setting image.instructions (built_ins_of ids) (lengths_in before) in
    Came m before k s now → step m s ≡ IsUndefined → EndsAt image ids before (suc k) now WasUndefined
undefined image ids before now k s c e =
    let m = setting image.instructions (built_ins_of ids) (lengths_in before) in
    ended_by image ids before now k s WasUndefined c (λ rest. ap (λ (u : Step). after u (run m 0) rest c.events) e)

-- ---- the buffers keep their sets, bindings and numbers of words

record SameShape (before now : List Buffer) : Type 0 where
  slots_are : slots now ≡ slots before
  lengths_are : (set binding : ℕ) → lengths_in now set binding ≡ lengths_in before set binding

shape_kept : (before now : List Buffer) → now ≡ before → SameShape before now
shape_kept before now e = record { slots_are = ap slots e; lengths_are = λ s g. ap (λ (m : List Buffer). lengths_in m s g) e }

shape_put : (before now : List Buffer) (set binding index word : ℕ) → now ≡ put_word before set binding index word → SameShape before now
shape_put before now set binding index word e = record {
  slots_are = ap slots e ∙ put_slots before set binding index word;
  lengths_are = λ s g. ap (λ (m : List Buffer). lengths_in m s g) e ∙ put_lengths before set binding index word s g;
}

none_still : (before now : List Buffer) (s g : ℕ) → SameShape before now → ((position : ℕ) → slice_get (slots now) position ≢ Some (s, g))
    → (position : ℕ) → slice_get (slots before) position ≢ Some (s, g)
none_still before now s g same none position e = none position (ap (λ (l : List (ℕ × ℕ)). slice_get l position) same.slots_are ∙ e)

short_before : (before now : List Buffer) (b : Bound) → SameShape before now → IsShort now b → IsShort before b
short_before before now b same (inl none) = inl (none_still before now b.set b.binding same none)
short_before before now b same (inr few) = inr (let e = same.lengths_are b.set b.binding in omega arith)

missing_before : (code : List Instruction) (before now : List Buffer) (s g : ℕ) → SameShape before now → Missing code now s g → Missing code before s g
missing_before code before now s g same q = record { variable = q.variable; is = q.is; set_is = q.set_is; binding_is = q.binding_is; lacks = still q.lacks } where
  still : ((position : ℕ) → slice_get (slots now) position ≢ Some (s, g)) ⊎ (lengths_in now s g < needs code q.variable)
      → ((position : ℕ) → slice_get (slots before) position ≢ Some (s, g)) ⊎ (lengths_in before s g < needs code q.variable)
  still (inl none) = inl (none_still before now s g same none)
  still (inr few) = inr (let e = same.lengths_are s g in omega arith)

ready_still : (m : Machine) (place : ℕ) (words : List ℕ) (before now : List Buffer) → SameShape before now → IsReady m before → IsReady (moved_to m place words) now
ready_still m place words before now same r = record {
  bound = r.bound;
  counts = λ n b stands.
      let h = r.counts n b stands in
      let e = same.lengths_are b.set b.binding in
      ((λ short. h.0 (short_before before now b same short)), h.1 ∙ ap (λ (k : ℕ). Some k) (sym e), (let l = h.2 in omega arith));
  all = λ s g q. r.all s g (missing_before m.image.instructions before now s g same q);
}

lengths_still : (lengths : ℕ → ℕ → ℕ) (before now : List Buffer) → SameShape before now → AreLengths lengths before → AreLengths lengths now
lengths_still lengths before now same are s g = same.lengths_are s g ∙ are s g

-- ---- a step of what is under way

-- what a turn says of an invocation that had come so far
abbrev pub OfTurn : Image → Ids → List Buffer → ℕ → Turn → Machine → List Buffer → Type 0
OfTurn image ids before k Going m now = IsUnderWay image ids before (suc k) m now
OfTurn image ids before k Ended m now = (m.image ≡ image) × IsReady m now × EndsAt image ids before (suc k) now Done
OfTurn image ids before k Undefined m now = (m.image ≡ image) × IsReady m now × EndsAt image ids before (suc k) now WasUndefined

module _ (image : Image) (ids : Ids) (before : List Buffer) (k : ℕ) (m : Machine) (place : ℕ) (words : List ℕ) (now last : List Buffer) (u : IsUnderWay image ids before k m now) where
  abbrev next : Machine
  next = moved_to m place words

  abbrev setup : Setting
  setup = setting m.image.instructions (built_ins_of ids) (lengths_in before)

  on : (t : State) → SameShape now last → At next ids (lengths_in before) t → Came setup before (suc k) t last → IsUnderWay image ids before (suc k) next last
  on t same at came = record {
    same = u.same;
    ready = ready_still m place words now last same u.ready;
    are = lengths_still (lengths_in before) now last same u.are;
    state = t;
    at = at;
    came = came;
  }

  at_last : (t : State) → last ≡ now → Came setup before (suc k) t now → Came setup before (suc k) t last
  at_last t e c = subst (λ (l : List Buffer). Came setup before (suc k) t l) (sym e) c

  turned : (turn : Turn) (t : Step) → step setup u.state ≡ t → HasDone t next ids (lengths_in before) turn now last → OfTurn image ids before k turn next last
  turned turn (Goes t) e d =
      let r = on t (shape_kept now last d.2) d.1 (at_last t d.2 (came_goes setup before k u.state now t u.came e)) in
      subst (λ (x : Turn). OfTurn image ids before k x next last) (sym d.0) r
  turned turn (Reads set binding index go) e d =
      let w = d.1 in
      let c = came_reads setup before k u.state now set binding index w.word go u.came e w.there in
      let r = on (go w.word) (shape_kept now last d.2) w.goes_on (at_last (go w.word) d.2 c) in
      subst (λ (x : Turn). OfTurn image ids before k x next last) (sym d.0) r
  turned turn (Writes set binding index word t) e d =
      let c = came_writes setup before k u.state now set binding index word t u.came e in
      let here = subst (λ (l : List Buffer). Came setup before (suc k) t l) (sym d.2) c in
      let r = on t (shape_put now last set binding index word d.2) d.1 here in
      subst (λ (x : Turn). OfTurn image ids before k x next last) (sym d.0) r
  turned turn Ends e d =
      let r = ended m.image ids before now k u.state u.came e in
      let ready = ready_still m place words now last (shape_kept now last d.1) u.ready in
      let at = subst (λ (l : List Buffer). EndsAt image ids before (suc k) l Done) (sym d.1) (subst (λ (i : Image). EndsAt i ids before (suc k) now Done) u.same r) in
      subst (λ (x : Turn). OfTurn image ids before k x next last) (sym d.0) (u.same, ready, at)
  turned turn IsUndefined e d =
      let r = undefined m.image ids before now k u.state u.came e in
      let ready = ready_still m place words now last (shape_kept now last d.1) u.ready in
      let at = subst (λ (l : List Buffer). EndsAt image ids before (suc k) l WasUndefined) (sym d.1) (subst (λ (i : Image). EndsAt i ids before (suc k) now WasUndefined) u.same r) in
      subst (λ (x : Turn). OfTurn image ids before k x next last) (sym d.0) (u.same, ready, at)
  turned turn IsStuck e d = absurd d

  pub of_turn : (turn : Turn) → HasDone (step setup u.state) next ids (lengths_in before) turn now last → OfTurn image ids before k turn next last
  of_turn turn d = turned turn (step setup u.state) refl d

-- ---- the beginning, and the bound

pub under_way : (m next : Machine) (ids : Ids) (memory : List Buffer) → next ≡ moved_to m next.place next.words → IsReady m memory
    → At next ids (lengths_in memory) (start (setting m.image.instructions (built_ins_of ids) (lengths_in memory))) → IsUnderWay m.image ids memory 0 next memory
under_way m next ids memory kept ready at =
    let image_is : next.image ≡ m.image = ap (λ (n : Machine). n.image) kept in
    let same : SameShape memory memory = shape_kept memory memory refl in
    let s = start (setting m.image.instructions (built_ins_of ids) (lengths_in memory)) in
    record {
      same = image_is;
      ready = subst (λ (n : Machine). IsReady n memory) (sym kept) (ready_still m next.place next.words memory memory same ready);
      are = λ set binding. refl;
      state = s;
      at = at;
      came = subst (λ (i : Image). Came (setting i.instructions (built_ins_of ids) (lengths_in memory)) memory 0 s memory) (sym image_is)
          (came_start (setting m.image.instructions (built_ins_of ids) (lengths_in memory)) memory 0 s memory);
    }

pub out_of_steps : (image : Image) (ids : Ids) (before : List Buffer) (k : ℕ) (m : Machine) (now : List Buffer) → IsUnderWay image ids before k m now → Within image ids before k now Out
out_of_steps image ids before k m now u =
    subst (λ (i : Image). Within i ids before k now Out) u.same (not_ended m.image ids before now k u.state u.came)
