-- What a token does to the scans of all open brackets.
use Rattle.std.proofs.Common.{Bool, true, false, ◌≡◌, ℕ, ◌+◌, max, List, [], ◌∷◌, ◌++◌, drop, reverse, Option, Some, None, refl, sym, ◌∙◌, ap, subst, if◌then◌else◌, arith}
use Rattle.std.proofs.lemmas.List.{reverse-append}
use Rattle.slang_tokens.specs.declared.tokens.Kind.{Kind}
use Rattle.slang_tokens.specs.declared.tokens.Kind.TheVariants as k
use Rattle.slang_tokens.specs.declared.tokens.Mark.TheVariants as m
use Rattle.slang_reading.specs.Lexed.{Lexed}
use Rattle.slang_reading.specs.Reading.{Done, Stop, first}
use Rattle.slang_reading.specs.Kinds.{is_mark, sees}
use Rattle.slang_grammar.specs.TypesDescent.{WordUse, IsBuiltin, IsResource, IsThis, IsOther, use_of}
use Rattle.type_reading.specs.declared.steps.Open.{Open}
use Rattle.type_reading.specs.declared.steps.Open.TheVariants as o
use Rattle.type_reading.specs.declared.steps.Awaited.{Awaited}
use Rattle.type_reading.specs.declared.steps.Awaited.TheVariants.{Begins, Item, Inner, Named, Typed, Sized, Opens, Dotted, Bracketed, Closing, Ends, More, Close}
use Rattle.type_reading.specs.declared.steps.Step.{Step}
use Rattle.type_reading.specs.declared.steps.Step.TheVariants.{Keep, Push, Pop, Refused}
use Rattle.type_reading.specs.Scanning as s
use Rattle.type_reading.specs.Scanning.{Move, Go, Wrong, Finish, applied, move, popped, scanned, step}
use Rattle.type_reading.proofs.Beside.{from, behind, step_some, step_none}
use Rattle.ahead_reading.specs.declared.brackets.Bracket.{Bracket}
use Rattle.ahead_reading.specs.declared.brackets.Bracket.TheVariants.{Many, One}
use Rattle.ahead_reading.specs.declared.brackets.Brackets.{Brackets}
use Rattle.ahead_reading.specs.declared.brackets.Next.{Next}
use Rattle.ahead_reading.specs.declared.brackets.Next.TheVariants as n
use Rattle.ahead_reading.specs.Brackets.{open_of, all_of, Comes, Come, AllCome, Stops, AllStop, Behind, Popped}

-- ---- a bracket of arguments is opened by `<`, and an argument is awaited then

abbrev AtLess : Kind → Step → Type 0
AtLess kind (Push o.Many w) = (is_mark m.Less kind ≡ true) × (w ≡ Item)
AtLess kind (Push o.One w) = Unit {0}
AtLess kind (Keep w) = Unit {0}
AtLess kind Pop = Unit {0}
AtLess kind Refused = Unit {0}

either : (kind : Kind) (b : Bool) (x y : Step) → AtLess kind x → AtLess kind y → AtLess kind (if b then x else y)
either kind true x y p q = p
either kind false x y p q = q

opened : (kind : Kind) (y : Step) → AtLess kind y → AtLess kind (if is_mark m.Less kind then Push o.Many Item else y)
opened kind y q = go (is_mark m.Less kind) refl
  where
    go : (b : Bool) → is_mark m.Less kind ≡ b → AtLess kind (if b then Push o.Many Item else y)
    go true e = (e, refl)
    go false e = q

less_close : (kind : Kind) → AtLess kind (s.close kind)
less_close kind = either kind (is_mark m.Greater kind) Pop Refused tt tt

less_ends : (top : Option Open) (kind : Kind) → AtLess kind (s.ends top kind)
less_ends (Some o.Many) kind = either kind (is_mark m.Comma kind) (Keep Item) (s.close kind) tt (less_close kind)
less_ends (Some o.One) kind = less_close kind
less_ends None kind = tt

less_sized : (top : Option Open) (kind : Kind) → AtLess kind (s.sized top kind)
less_sized top kind = either kind (is_mark m.OpenBracket kind) (Keep Bracketed) (s.ends top kind) tt (less_ends top kind)

less_typed : (top : Option Open) (kind : Kind) → AtLess kind (s.typed top kind)
less_typed top kind = either kind (is_mark m.Dot kind) (Keep Dotted) (s.sized top kind) tt (less_sized top kind)

less_word : (kind : Kind) (u : WordUse) → AtLess kind (s.word_step u)
less_word kind (IsBuiltin b) = tt
less_word kind (IsResource r) = tt
less_word kind IsThis = tt
less_word kind IsOther = tt

less_inner : (kind : Kind) → AtLess kind (s.inner kind)
less_inner k.Name = tt
less_inner (k.Word word) = less_word (k.Word word) (use_of word)
less_inner (k.Number v) = tt
less_inner k.String = tt
less_inner (k.Mark x) = tt

less_item : (kind : Kind) → AtLess kind (s.item kind)
less_item k.Name = tt
less_item (k.Word word) = less_word (k.Word word) (use_of word)
less_item (k.Number v) = tt
less_item k.String = tt
less_item (k.Mark x) = tt

less_dotted : (kind : Kind) → AtLess kind (s.dotted kind)
less_dotted k.Name = tt
less_dotted (k.Word word) = tt
less_dotted (k.Number v) = tt
less_dotted k.String = tt
less_dotted (k.Mark x) = tt

less_bracketed : (kind : Kind) → AtLess kind (s.bracketed kind)
less_bracketed k.Name = tt
less_bracketed (k.Word word) = tt
less_bracketed (k.Number v) = tt
less_bracketed k.String = tt
less_bracketed (k.Mark x) = tt

less_step : (top : Option Open) (w : Awaited) (kind : Kind) → AtLess kind (step top w kind)
less_step top Begins kind = opened kind Refused tt
less_step top Item kind = less_item kind
less_step top Inner kind = less_inner kind
less_step top Named kind = opened kind (s.typed top kind) (less_typed top kind)
less_step top Typed kind = less_typed top kind
less_step top Sized kind = less_sized top kind
less_step top Opens kind = either kind (is_mark m.Less kind) (Push o.One Inner) Refused tt tt
less_step top Dotted kind = less_dotted kind
less_step top Bracketed kind = less_bracketed kind
less_step top Closing kind = either kind (is_mark m.CloseBracket kind) (Keep Ends) Refused tt tt
less_step top Ends kind = less_ends top kind
less_step top More kind = either kind (is_mark m.Comma kind) (Keep Item) Refused tt tt
less_step top Close kind = less_close kind

-- ---- where a scan begins

twice : (seen at : ℕ) → max (max seen at) (at + 1) ≡ max seen (at + 1)
twice seen at = omega arith

begin_at : (ts : List Lexed) (begin : ℕ) (t : Lexed) → first (drop begin ts) ≡ Some t → is_mark m.Less t.kind ≡ true → Comes ts Item (begin + 1) (o.Many ∷ []) (Many begin)
begin_at ts begin t here e = λ seen.
    sym (step_some ts [] Begins begin seen t here ∙ ap (λ b. behind ts (applied (if b then Push o.Many Item else Refused) []) (begin + 1) (max seen (begin + 1))) e)

pub begins : (ts : List Lexed) (begin : ℕ) → sees m.Less (first (drop begin ts)) ≡ true → AllCome ts (begin + 1) (record { top = Many begin; under = []; awaited = Item })
unfolding AllCome
begins ts begin e = go (first (drop begin ts)) refl e
  where
    go : (x : Option Lexed) → first (drop begin ts) ≡ x → sees m.Less x ≡ true → Comes ts Item (begin + 1) (o.Many ∷ []) (Many begin) × Unit {0}
    go (Some t) p q = (begin_at ts begin t p q, tt)
    go None p q = absurd (let c = q in cc)

-- ---- one token

popped_is : (r : List Open) (f : Open) → popped (r ++ f ∷ []) ≡ Go (r ++ f ∷ []) Typed
popped_is [] f = refl
popped_is (g ∷ r) f = refl

module _ (ts : List Lexed) (at : ℕ) (t : Lexed) (here : first (drop at ts) ≡ Some t) where
  one : (s : List Open) (w : Awaited) (v : Move) (seen : ℕ) → move s w t.kind ≡ v → from ts s w at (max seen at) ≡ behind ts v (at + 1) (max seen (at + 1))
  one s w v seen e = step_some ts s w at (max seen at) t here
      ∙ (ap (λ v. behind ts v (at + 1) (max (max seen at) (at + 1))) e ∙ ap (λ n. behind ts v (at + 1) n) (twice seen at))

  module _ (f : Open) (w : Awaited) where
    -- those that go on
    on : (r u : List Open) (w1 : Awaited) (b : Bracket) → move (f ∷ r) w t.kind ≡ Go u w1 → Comes ts w at (f ∷ r) b → Comes ts w1 (at + 1) u b
    on r u w1 (Many begin) e h = λ seen. sym (one (f ∷ r) w (Go u w1) seen e) ∙ h seen
    on r u w1 One e h = tt

    pub keep : (w1 : Awaited) → step (Some f) w t.kind ≡ Keep w1 → (r : List Open) (s : List Bracket) → Come ts w at (f ∷ r) s → Come ts w1 (at + 1) (f ∷ r) s
    keep w1 e r [] h = tt
    keep w1 e r (b ∷ s) h = (on (r ++ open_of b ∷ []) (f ∷ r ++ open_of b ∷ []) w1 b (ap (λ x. applied x (f ∷ r ++ open_of b ∷ [])) e) h.0, keep w1 e (r ++ open_of b ∷ []) s h.1)

    pub push : (g : Open) (w1 : Awaited) → step (Some f) w t.kind ≡ Push g w1 → (r : List Open) (s : List Bracket) → Come ts w at (f ∷ r) s → Come ts w1 (at + 1) (g ∷ f ∷ r) s
    push g w1 e r [] h = tt
    push g w1 e r (b ∷ s) h = (on (r ++ open_of b ∷ []) (g ∷ f ∷ r ++ open_of b ∷ []) w1 b (ap (λ x. applied x (f ∷ r ++ open_of b ∷ [])) e) h.0, push g w1 e (r ++ open_of b ∷ []) s h.1)

    pub pop : step (Some f) w t.kind ≡ Pop → (r : List Open) (s : List Bracket) → Come ts w at (f ∷ r) s → Come ts Typed (at + 1) r s
    pop e r [] h = tt
    pop e r (b ∷ s) h = (on (r ++ open_of b ∷ []) (r ++ open_of b ∷ []) Typed b (ap (λ x. applied x (f ∷ r ++ open_of b ∷ [])) e ∙ popped_is r (open_of b)) h.0, pop e (r ++ open_of b ∷ []) s h.1)

    pub closed : step (Some f) w t.kind ≡ Pop → (begin seen : ℕ) → Comes ts w at (f ∷ []) (Many begin) → scanned ts begin seen ≡ Done tt (at + 1) (max seen (at + 1))
    closed e begin seen h = sym (h seen) ∙ one (f ∷ []) w Finish seen (ap (λ x. applied x (f ∷ [])) e)

    stop : (r : List Open) (b : Bracket) → step (Some f) w t.kind ≡ Refused → Comes ts w at (f ∷ r) b → Stops ts (at + 1) b
    stop r (Many begin) e h = λ seen. sym (h seen) ∙ one (f ∷ r) w Wrong seen (ap (λ x. applied x (f ∷ r)) e)
    stop r One e h = tt

    pub stops : step (Some f) w t.kind ≡ Refused → (r : List Open) (s : List Bracket) → Come ts w at (f ∷ r) s → AllStop ts (at + 1) s
    stops e r [] h = tt
    stops e r (b ∷ s) h = (stop (r ++ open_of b ∷ []) b e h.0, stops e (r ++ open_of b ∷ []) s h.1)

-- ---- behind the last token

over_one : (ts : List Lexed) (at : ℕ) (w : Awaited) (u : List Open) (b : Bracket) → first (drop at ts) ≡ None → Comes ts w at u b → Stops ts (at + 1) b
over_one ts at w u (Many begin) e h = λ seen. sym (h seen) ∙ (step_none ts u w at (max seen at) e ∙ ap Stop (twice seen at))
over_one ts at w u One e h = tt

over_all : (ts : List Lexed) (at : ℕ) (w : Awaited) (u : List Open) (s : List Bracket) → first (drop at ts) ≡ None → Come ts w at u s → AllStop ts (at + 1) s
over_all ts at w u [] e h = tt
over_all ts at w u (b ∷ s) e h = (over_one ts at w (u ++ open_of b ∷ []) b e h.0, over_all ts at w (u ++ open_of b ∷ []) s e h.1)

-- ---- all that are open

module _ (ts : List Lexed) (at : ℕ) (x : Brackets) where
  pub all_over : first (drop at ts) ≡ None → AllCome ts at x → AllStop ts (at + 1) (all_of x)
  unfolding AllCome
  all_over e h = over_all ts at x.awaited [] (all_of x) e h

  module _ (t : Lexed) (here : first (drop at ts) ≡ Some t) where
    pub all_kept : (w1 : Awaited) → step (Some (open_of x.top)) x.awaited t.kind ≡ Keep w1 → AllCome ts at x → AllCome ts (at + 1) (record { top = x.top; under = x.under; awaited = w1 })
    unfolding AllCome
    all_kept w1 e h =
        (on ts at t here (open_of x.top) x.awaited [] (open_of x.top ∷ []) w1 x.top (ap (λ y. applied y (open_of x.top ∷ [])) e) h.0, keep ts at t here (open_of x.top) x.awaited w1 e [] (reverse x.under) h.1)

    pub all_stopped : step (Some (open_of x.top)) x.awaited t.kind ≡ Refused → AllCome ts at x → AllStop ts (at + 1) (all_of x)
    unfolding AllCome
    all_stopped e h = (stop ts at t here (open_of x.top) x.awaited [] x.top e h.0, stops ts at t here (open_of x.top) x.awaited e [] (reverse x.under) h.1)

    pub top_closed : step (Some (open_of x.top)) x.awaited t.kind ≡ Pop → AllCome ts at x → (begin seen : ℕ) → x.top ≡ Many begin → scanned ts begin seen ≡ Done tt (at + 1) (max seen (at + 1))
    unfolding AllCome
    top_closed e h begin seen q =
        closed ts at t here o.Many x.awaited (sym (ap (λ b. step (Some (open_of b)) x.awaited t.kind) q) ∙ e) begin seen (subst (λ b. Comes ts x.awaited at (open_of b ∷ []) b) q h.0)

    pub all_popped : (next : Next) (y : Brackets) → step (Some (open_of x.top)) x.awaited t.kind ≡ Pop → Popped x next y → AllCome ts at x → Behind ts (at + 1) next y
    unfolding AllCome
    all_popped n.Goes y e p h =
        subst (λ s. Come ts y.awaited (at + 1) [] s) p.0 (subst (λ w. Come ts w (at + 1) [] (reverse x.under)) (sym p.1) (pop ts at t here (open_of x.top) x.awaited e [] (reverse x.under) h.1))
    all_popped n.Ended y e p h = tt
    all_popped n.Refused y e p h = absurd p

    pub all_pushed : (y : Brackets) (b : Bracket) (g : Open) (w1 : Awaited) → step (Some (open_of x.top)) x.awaited t.kind ≡ Push g w1 → open_of b ≡ g → ((begin : ℕ) → b ≡ Many begin → begin ≡ at) →
        all_of y ≡ b ∷ all_of x → y.awaited ≡ w1 → AllCome ts at x → AllCome ts (at + 1) y
    unfolding AllCome
    all_pushed y b g w1 e q i p r h =
        subst (λ s. Come ts y.awaited (at + 1) [] s) (sym p) (subst (λ w. Come ts w (at + 1) [] (b ∷ all_of x)) (sym r) (new b q i, below))
      where
        e1 : step (Some (open_of x.top)) x.awaited t.kind ≡ Push (open_of b) w1
        e1 = e ∙ ap (λ g. Push g w1) (sym q)

        below : Come ts w1 (at + 1) (open_of b ∷ []) (all_of x)
        below = (
          on ts at t here (open_of x.top) x.awaited [] (open_of b ∷ open_of x.top ∷ []) w1 x.top (ap (λ y. applied y (open_of x.top ∷ [])) e1) h.0,
          push ts at t here (open_of x.top) x.awaited (open_of b) w1 e1 [] (reverse x.under) h.1,
        )

        new : (b : Bracket) → open_of b ≡ g → ((begin : ℕ) → b ≡ Many begin → begin ≡ at) → Comes ts w1 (at + 1) (open_of b ∷ []) b
        new (Many begin) q i =
            let f = subst (AtLess t.kind) (e ∙ ap (λ g. Push g w1) (sym q)) (less_step (Some (open_of x.top)) x.awaited t.kind) in
            let u = begin_at ts at t here f.0 in
            subst (λ a. Comes ts w1 (at + 1) (o.Many ∷ []) (Many a)) (sym (i begin refl)) (subst (λ w. Comes ts w (at + 1) (o.Many ∷ []) (Many at)) (sym f.1) u)
        new One q i = tt

-- ---- what is told where all stop

pub stop_told : (ts : List Lexed) (far : ℕ) (x : Bracket) → Stops ts far x → (begin seen : ℕ) → x ≡ Many begin → scanned ts begin seen ≡ Stop (max seen far)
stop_told ts far (Many at) h begin seen e = let p : at ≡ begin = cc in subst (λ a. scanned ts a seen ≡ Stop (max seen far)) p (h seen)
stop_told ts far One h begin seen e = absurd cc

-- the outer brackets are kept last first
pub next_stops : (ts : List Lexed) (far : ℕ) (old new : List Bracket) (x : Bracket) → old ≡ new ++ x ∷ [] → AllStop ts far (reverse old) → Stops ts far x × AllStop ts far (reverse new)
next_stops ts far old new x e h = subst (AllStop ts far) (ap reverse e ∙ reverse-append new (x ∷ [])) h
