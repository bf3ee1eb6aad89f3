-- Actions with more to go on: further answers, and more turns and calls that can be paid for.
use Rattle.std.proofs.Common.{◌≡◌, ℕ, zero, suc, ◌+◌, ◌≤◌, Bool, true, false, ◌&&◌, List, [], ◌∷◌, ◌++◌, Option, Some, None, refl, sym, ap, ◌∙◌, subst, arith, append_assoc}
use Rattle.std.specs.Prelude.{slice_get}
use Rattle.std.proofs.lemmas.List.{append-nil}
use Rattle.behavior.specs.Values.{Value, Truth, Word, Whole, Way, Found, Outside, Wrong}
use Rattle.behavior.specs.Operations.{is_negative}
use Rattle.behavior.specs.Meanings.{Event, Read, Write, End, Done, Out, Undefined, Stuck, IsPrefix}
use Rattle.behavior.specs.Running.{World, Result, Went, Ends, then, Flow, Next, Broke, Continued, Returned, then_next, on_local}
use Rattle.shader_kernel.specs.Actions.{Action, gives, ends, and_with, either, with_way, with_word, with_truth, with_some, with_local, set_local, Numbered, with_numbers, answered, ask, tell, paid, pay, and_next, then_turn, and_turn, turns}

pub prefix_same : (a : List Event) → IsPrefix a a
prefix_same a = ([], append-nil a)

pub prefix_more : (a b : List Event) → IsPrefix a (a ++ b)
prefix_more a b = (b, refl)

pub prefix_on : (a b c : List Event) → IsPrefix a b → IsPrefix b c → IsPrefix a c
prefix_on a b c p q = (p.0 ++ q.0, sym (append_assoc a p.0 q.0) ∙ ap (λ l. l ++ q.0) p.1 ∙ q.1)

-- the events when a part of the run is over
abbrev pub events_of : {A : Type 0} → Result A → List Event
events_of (Went a l w) = w.events
events_of (Ends events ending) = events

module _ (more : List ℕ) (k : ℕ) where
  -- the same world, with further answers and units
  abbrev pub longer : World → World
  longer w = record { answers = w.answers ++ more; events = w.events; clock = w.clock + k }

  -- the same with more to go on, or it goes on where it had run out
  abbrev pub Extended : {A : Type 0} → Result A → Result A → Type 0
  Extended (Went a l w) r = r ≡ Went a l (longer w)
  Extended (Ends events Done) r = r ≡ Ends events Done
  Extended (Ends events Out) r = IsPrefix events (events_of r)
  Extended (Ends events Undefined) r = r ≡ Ends events Undefined
  Extended (Ends events Stuck) r = r ≡ Ends events Stuck

  -- an action, and what it does where more can be paid for: it keeps all events, and only goes on
  pub record Steady {A : Type 0} (m m' : Action A) : Type 0 where
    pub keeps : (l : List Value) (w : World) → IsPrefix w.events (events_of (m' l w))
    pub extends : (l : List Value) (w : World) → Extended (m l w) (m' l (longer w))

  pub gives_steady : {A : Type 0} (a : A) → Steady (gives a) (gives a)
  gives_steady a = record { keeps = λ l w. prefix_same w.events; extends = λ l w. refl }

  ends_extended : (A : Type 0) (e : End) (w : World) → Extended {A = A} (Ends w.events e) (Ends w.events e)
  ends_extended A Done w = refl
  ends_extended A Out w = prefix_same w.events
  ends_extended A Undefined w = refl
  ends_extended A Stuck w = refl

  pub ends_steady : {A : Type 0} (e : End) → Steady {A = A} (ends e) (ends e)
  ends_steady {A = A} e = record { keeps = λ l w. prefix_same w.events; extends = λ l w. ends_extended A e w }

  -- ---- one action and another

  then_keeps : {A B : Type 0} (r : Result A) (go : A → Action B) (before : List Event) → ((a : A) (l : List Value) (w : World) → IsPrefix w.events (events_of (go a l w))) → IsPrefix before (events_of r) → IsPrefix before (events_of (then r go))
  then_keeps (Went a l w) go before h p = prefix_on before w.events (events_of (go a l w)) p (h a l w)
  then_keeps (Ends events ending) go before h p = p

  then_extends : {A B : Type 0} (r r' : Result A) (go go' : A → Action B) → ((a : A) → Steady (go a) (go' a)) → Extended r r' → Extended (then r go) (then r' go')
  then_extends (Went a l w) r' go go' s e = subst (λ x. Extended (go a l w) (then x go')) (sym e) ((s a).extends l w)
  then_extends (Ends events Done) r' go go' s e = ap (λ x. then x go') e
  then_extends (Ends events Out) r' go go' s e = then_keeps r' go' events (λ a. (s a).keeps) e
  then_extends (Ends events Undefined) r' go go' s e = ap (λ x. then x go') e
  then_extends (Ends events Stuck) r' go go' s e = ap (λ x. then x go') e

  pub with_steady : {A B : Type 0} (m m' : Action A) (go go' : A → Action B) → Steady m m' → ((a : A) → Steady (go a) (go' a)) → Steady (and_with m go) (and_with m' go')
  with_steady m m' go go' s t = record {
    keeps = λ l w. then_keeps (m' l w) go' w.events (λ a. (t a).keeps) (s.keeps l w);
    extends = λ l w. then_extends (m l w) (m' l (longer w)) go go' t (s.extends l w);
  }

  next_keeps : (r : Result Flow) (go : Action Flow) (before : List Event) → ((l : List Value) (w : World) → IsPrefix w.events (events_of (go l w))) → IsPrefix before (events_of r) → IsPrefix before (events_of (then_next r go))
  next_keeps (Went Next l w) go before h p = prefix_on before w.events (events_of (go l w)) p (h l w)
  next_keeps (Went Broke l w) go before h p = p
  next_keeps (Went Continued l w) go before h p = p
  next_keeps (Went (Returned v) l w) go before h p = p
  next_keeps (Ends events ending) go before h p = p

  next_extends : (r r' : Result Flow) (go go' : Action Flow) → Steady go go' → Extended r r' → Extended (then_next r go) (then_next r' go')
  next_extends (Went Next l w) r' go go' s e = subst (λ x. Extended (go l w) (then_next x go')) (sym e) (s.extends l w)
  next_extends (Went Broke l w) r' go go' s e = ap (λ x. then_next x go') e
  next_extends (Went Continued l w) r' go go' s e = ap (λ x. then_next x go') e
  next_extends (Went (Returned v) l w) r' go go' s e = ap (λ x. then_next x go') e
  next_extends (Ends events Done) r' go go' s e = ap (λ x. then_next x go') e
  next_extends (Ends events Out) r' go go' s e = next_keeps r' go' events s.keeps e
  next_extends (Ends events Undefined) r' go go' s e = ap (λ x. then_next x go') e
  next_extends (Ends events Stuck) r' go go' s e = ap (λ x. then_next x go') e

  pub next_steady : (m m' go go' : Action Flow) → Steady m m' → Steady go go' → Steady (and_next m go) (and_next m' go')
  next_steady m m' go go' s t = record {
    keeps = λ l w. next_keeps (m' l w) go' w.events t.keeps (s.keeps l w);
    extends = λ l w. next_extends (m l w) (m' l (longer w)) go go' t (s.extends l w);
  }

  turn_keeps : (r : Result Flow) (go : Action Flow) (before : List Event) → ((l : List Value) (w : World) → IsPrefix w.events (events_of (go l w))) → IsPrefix before (events_of r) → IsPrefix before (events_of (then_turn r go))
  turn_keeps (Went Next l w) go before h p = prefix_on before w.events (events_of (go l w)) p (h l w)
  turn_keeps (Went Broke l w) go before h p = p
  turn_keeps (Went Continued l w) go before h p = prefix_on before w.events (events_of (go l w)) p (h l w)
  turn_keeps (Went (Returned v) l w) go before h p = p
  turn_keeps (Ends events ending) go before h p = p

  turn_extends : (r r' : Result Flow) (go go' : Action Flow) → Steady go go' → Extended r r' → Extended (then_turn r go) (then_turn r' go')
  turn_extends (Went Next l w) r' go go' s e = subst (λ x. Extended (go l w) (then_turn x go')) (sym e) (s.extends l w)
  turn_extends (Went Broke l w) r' go go' s e = ap (λ x. then_turn x go') e
  turn_extends (Went Continued l w) r' go go' s e = subst (λ x. Extended (go l w) (then_turn x go')) (sym e) (s.extends l w)
  turn_extends (Went (Returned v) l w) r' go go' s e = ap (λ x. then_turn x go') e
  turn_extends (Ends events Done) r' go go' s e = ap (λ x. then_turn x go') e
  turn_extends (Ends events Out) r' go go' s e = turn_keeps r' go' events s.keeps e
  turn_extends (Ends events Undefined) r' go go' s e = ap (λ x. then_turn x go') e
  turn_extends (Ends events Stuck) r' go go' s e = ap (λ x. then_turn x go') e

  pub turn_steady : (m m' go go' : Action Flow) → Steady m m' → Steady go go' → Steady (and_turn m go) (and_turn m' go')
  turn_steady m m' go go' s t = record {
    keeps = λ l w. turn_keeps (m' l w) go' w.events t.keeps (s.keeps l w);
    extends = λ l w. turn_extends (m l w) (m' l (longer w)) go go' t (s.extends l w);
  }

  -- ---- what is asked of a value

  pub either_steady : {A : Type 0} (b : Bool) (m m' n n' : Action A) → Steady m m' → Steady n n' → Steady (either b m n) (either b m' n')
  either_steady true m m' n n' s t = s
  either_steady false m m' n n' s t = t

  pub way_steady : {A : Type 0} (way : Way) (go go' : Value → Action A) → ((v : Value) → Steady (go v) (go' v)) → Steady (with_way way go) (with_way way go')
  way_steady (Found v) go go' s = record { keeps = (s v).keeps; extends = (s v).extends }
  way_steady Outside go go' s = record { keeps = λ l w. prefix_same w.events; extends = λ l w. refl }
  way_steady Wrong go go' s = record { keeps = λ l w. prefix_same w.events; extends = λ l w. refl }

  pub word_steady : {A : Type 0} (v : Value) (go go' : ℕ → Action A) → ((n : ℕ) → Steady (go n) (go' n)) → Steady (with_word v go) (with_word v go')
  word_steady (Word n) go go' s = record { keeps = (s n).keeps; extends = (s n).extends }
  word_steady (Truth b) go go' s = record { keeps = λ l w. prefix_same w.events; extends = λ l w. refl }
  word_steady (Whole vs) go go' s = record { keeps = λ l w. prefix_same w.events; extends = λ l w. refl }

  pub truth_steady : {A : Type 0} (v : Value) (go go' : Bool → Action A) → ((b : Bool) → Steady (go b) (go' b)) → Steady (with_truth v go) (with_truth v go')
  truth_steady (Truth b) go go' s = s b
  truth_steady (Word n) go go' s = ends_steady Stuck
  truth_steady (Whole vs) go go' s = ends_steady Stuck

  pub some_steady : {A B : Type 0} (o : Option B) (go go' : B → Action A) → ((b : B) → Steady (go b) (go' b)) → Steady (with_some o go) (with_some o go')
  some_steady (Some b) go go' s = s b
  some_steady None go go' s = ends_steady Stuck

  local_keeps : {A : Type 0} (o : Option Value) (go : Value → Action A) (l : List Value) (w : World) → ((v : Value) → IsPrefix w.events (events_of (go v l w))) → IsPrefix w.events (events_of (on_local o w (λ v. go v l w)))
  local_keeps (Some v) go l w h = h v
  local_keeps None go l w h = prefix_same w.events

  local_extends : {A : Type 0} (o : Option Value) (go go' : Value → Action A) (l : List Value) (w : World) → ((v : Value) → Steady (go v) (go' v)) → Extended (on_local o w (λ v. go v l w)) (on_local o (longer w) (λ v. go' v l (longer w)))
  local_extends (Some v) go go' l w s = (s v).extends l w
  local_extends None go go' l w s = refl

  pub local_steady : {A : Type 0} (n : ℕ) (go go' : Value → Action A) → ((v : Value) → Steady (go v) (go' v)) → Steady (with_local n go) (with_local n go')
  local_steady n go go' s = record {
    keeps = λ l w. local_keeps (slice_get l n) go' l w (λ v. (s v).keeps l w);
    extends = λ l w. local_extends (slice_get l n) go go' l w s;
  }

  pub set_steady : (n : ℕ) (v : Value) → Steady (set_local n v) (set_local n v)
  set_steady n v = record { keeps = λ l w. prefix_same w.events; extends = λ l w. refl }

  pub numbers_steady : {A : Type 0} (is : List Numbered) (go go' : List ℕ → Action A) → ((ns : List ℕ) → Steady (go ns) (go' ns)) → Steady (with_numbers is go) (with_numbers is go')
  numbers_steady [] go go' s = s []
  numbers_steady (i ∷ is) go go' s =
      word_steady i.value
      (λ n. either (i.signed && is_negative n) (ends Undefined) (with_numbers is (λ ns. go (n ∷ ns))))
      (λ n. either (i.signed && is_negative n) (ends Undefined) (with_numbers is (λ ns. go' (n ∷ ns))))
      (λ n. either_steady (i.signed && is_negative n) (ends Undefined) (ends Undefined) (with_numbers is (λ ns. go (n ∷ ns))) (with_numbers is (λ ns. go' (n ∷ ns)))
      (ends_steady Undefined) (numbers_steady is (λ ns. go (n ∷ ns)) (λ ns. go' (n ∷ ns)) (λ ns. s (n ∷ ns))))

  -- ---- events and payments

  answered_keeps : (answers : List ℕ) (set binding index : ℕ) (l : List Value) (w : World) → IsPrefix w.events (events_of (answered answers set binding index l w))
  answered_keeps [] set binding index l w = prefix_same w.events
  answered_keeps (a ∷ answers) set binding index l w = prefix_more w.events (Read set binding index a ∷ [])

  answered_extends : (answers : List ℕ) (set binding index : ℕ) (l : List Value) (w : World) → Extended (answered answers set binding index l w) (answered (answers ++ more) set binding index l (longer w))
  answered_extends [] set binding index l w = answered_keeps more set binding index l (longer w)
  answered_extends (a ∷ answers) set binding index l w = refl

  pub ask_steady : (set binding index : ℕ) → Steady (ask set binding index) (ask set binding index)
  ask_steady set binding index = record {
    keeps = λ l w. answered_keeps w.answers set binding index l w;
    extends = λ l w. answered_extends w.answers set binding index l w;
  }

  pub tell_steady : (set binding index word : ℕ) → Steady (tell set binding index word) (tell set binding index word)
  tell_steady set binding index word = record {
    keeps = λ l w. prefix_more w.events (Write set binding index word ∷ []);
    extends = λ l w. refl;
  }

  paid_keeps : {A : Type 0} (c : ℕ) (m : Action A) (l : List Value) (w : World) → ((l1 : List Value) (w1 : World) → IsPrefix w1.events (events_of (m l1 w1))) → IsPrefix w.events (events_of (paid c m l w))
  paid_keeps zero m l w h = prefix_same w.events
  paid_keeps (suc c) m l w h = h l (record { answers = w.answers; events = w.events; clock = c })

  paid_extends : {A : Type 0} (c : ℕ) (m m' : Action A) (l : List Value) (w : World) → Steady m m' → Extended (paid c m l w) (paid (c + k) m' l (longer w))
  paid_extends zero m m' l w s = paid_keeps (0 + k) m' l (longer w) s.keeps
  paid_extends (suc c) m m' l w s =
      let same : suc (c + k) ≡ suc c + k = omega arith in
      subst (λ n. Extended (m l (record { answers = w.answers; events = w.events; clock = c })) (paid n m' l (longer w))) same
      (s.extends l (record { answers = w.answers; events = w.events; clock = c }))

  pub pay_steady : {A : Type 0} (m m' : Action A) → Steady m m' → Steady (pay m) (pay m')
  pay_steady m m' s = record {
    keeps = λ l w. paid_keeps w.clock m' l w s.keeps;
    extends = λ l w. paid_extends w.clock m m' l w s;
  }

  -- ---- loops

  loop_keeps : (v : Value) (m : Action Flow) → ((l : List Value) (w : World) → IsPrefix w.events (events_of (m l w))) → (l : List Value) (w : World) → IsPrefix w.events (events_of (with_truth v (λ again. either again m (gives Next)) l w))
  loop_keeps (Truth true) m h l w = h l w
  loop_keeps (Truth false) m h l w = prefix_same w.events
  loop_keeps (Word n) m h l w = prefix_same w.events
  loop_keeps (Whole vs) m h l w = prefix_same w.events

  one_turn : (test test' : Action Value) (step step' body body' rest rest' : Action Flow)
      → Steady test test' → Steady step step' → Steady body body' → Steady rest rest'
      → Steady (and_with test (λ v. with_truth v (λ again. either again (pay (and_turn body (and_next step rest))) (gives Next))))
      (and_with test' (λ v. with_truth v (λ again. either again (pay (and_turn body' (and_next step' rest'))) (gives Next))))
  one_turn test test' step step' body body' rest rest' t s b r =
      let turn = and_turn body (and_next step rest) in
      let turn' = and_turn body' (and_next step' rest') in
      with_steady test test' (λ v. with_truth v (λ again. either again (pay turn) (gives Next))) (λ v. with_truth v (λ again. either again (pay turn') (gives Next))) t (λ v.
      truth_steady v (λ again. either again (pay turn) (gives Next)) (λ again. either again (pay turn') (gives Next)) (λ again.
      either_steady again (pay turn) (pay turn') (gives Next) (gives Next)
      (pay_steady turn turn' (turn_steady body body' (and_next step rest) (and_next step' rest') b (next_steady step step' rest rest' s r)))
      (gives_steady Next)))

  module _ (test test' : Action Value) (step step' body body' : Action Flow) (t : Steady test test') (s : Steady step step') (b : Steady body body') where
    turns_keep : (d : ℕ) (l : List Value) (w : World) → IsPrefix w.events (events_of (turns d test' step' body' l w))
    turns_keep zero l w = prefix_same w.events
    turns_keep (suc d) l w =
        let rest = turns d test' step' body' in
        let turn = and_turn body' (and_next step' rest) in
        then_keeps (test' l w) (λ v. with_truth v (λ again. either again (pay turn) (gives Next))) w.events
        (λ v. loop_keeps v (pay turn) (λ l1 w1. paid_keeps w1.clock turn l1 w1 (λ l2 w2.
        turn_keeps (body' l2 w2) (and_next step' rest) w2.events (λ l3 w3.
        next_keeps (step' l3 w3) rest w3.events (turns_keep d) (s.keeps l3 w3)) (b.keeps l2 w2))))
        (t.keeps l w)

    pub turns_steady : (d d' : ℕ) → d ≤ d' → Steady (turns d test step body) (turns d' test' step' body')
    turns_steady zero d' le = record { keeps = turns_keep d'; extends = λ l w. turns_keep d' l (longer w) }
    turns_steady (suc d) zero le = let no : ⊥ = omega (arith, le) in absurd no
    turns_steady (suc d) (suc d') le =
        one_turn test test' step step' body body' (turns d test step body) (turns d' test' step' body') t s b (turns_steady d d' (omega (arith, le)))
