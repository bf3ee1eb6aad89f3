-- The steps of a chain lead to the piece at the path that its indices stand for.
use Rattle.std.proofs.Common.{◌≡◌, ℕ, zero, suc, ◌+◌, ◌-◌, ◌*◌, min, ◌^◌, ◌<◌, ◌≤◌, ◌⊎◌, inl, inr, Bool, true, false, not, ◌&&◌, ◌||◌, cond, List, [], ◌∷◌, length, get_or, refl, sym, ap, ◌∙◌, add_assoc, suc-mul, mul-le-mul_right, arith}
use Rattle.std.specs.Prelude.{nat_lt}
use Rattle.std.proofs.lemmas.Bool.{lt-ltb, ltb-true, not-true, not-false, and_parts, and_cases, or_from, or_left, or_right, cases_Bool}
use Rattle.behavior.specs.Operations.{is_negative}
use Rattle.spirv_words.specs.Machine.{Shape, Shapes, Nothing, Truths, Words, Repeated, Unbounded, Fields, PointerTo, NoField, Field}
use Rattle.flat_values.specs.Flat.{width, widths}
use Rattle.flat_values.specs.Pieces.{Piece, At, OutOfRange, NoPart, member, piece_of, then_piece, piece}
use Rattle.run_actions.specs.declared.actions.Extent.TheVariants.{Fixed}
use Rattle.run_actions.specs.declared.actions.Index.{Index}
use Rattle.run_actions.specs.declared.turns.Followed.TheVariants.{To, Beyond}
use Rattle.run_actions.specs.Chains.{to_word, is_chosen, all_chosen, distance, moved_on}
use Rattle.action_laws.specs.Paths.{Item, Member, Slot, Planned, Plan, NoPlan, moved, stepped, on_piece, plan, path_of, some_negative, AreThere, led}

-- ---- members

abbrev shifted : ℕ → Piece → Piece
shifted e (At place of) = At (e + place) of
shifted e OutOfRange = OutOfRange
shifted e NoPart = NoPart

member_shifted : (fs : Shapes) (k from e : ℕ) → member fs k (from + e) ≡ shifted from (member fs k e)
member_shifted NoField k from e = refl
member_shifted (Field offset of rest) zero from e = refl
member_shifted (Field offset of rest) (suc k) from e =
    ap (member rest k) (add_assoc from e (width of)) ∙ member_shifted rest k from (e + width of)

member_from : (fs : Shapes) (k from o : ℕ) (of : Shape) → member fs k 0 ≡ At o of → member fs k from ≡ At (from + o) of
member_from fs k from o of e =
    let n : from ≡ from + 0 = omega arith in
    ap (member fs k) n ∙ (member_shifted fs k from 0 ∙ ap (shifted from) e)

at_place : {p q : ℕ} {s t : Shape} → At p s ≡ At q t → p ≡ q
at_place e = cc

at_shape : {p q : ℕ} {s t : Shape} → At p s ≡ At q t → s ≡ t
at_shape e = cc

member_fits : (fs : Shapes) (k from o : ℕ) (of : Shape) → member fs k from ≡ At o of → o + width of ≤ from + widths fs
member_fits (Field offset of' rest) zero from o of e =
    let p = at_place e in
    let s = ap width (at_shape e) in
    omega arith
member_fits (Field offset of' rest) (suc k) from o of e =
    let h = member_fits rest k (from + width of') o of e in
    omega arith
member_fits NoField k from o of e = cc

-- ---- plans

pub plan_offset : {a b : ℕ} {xs ys : List Index} {s t : Shape} → Plan a xs s ≡ Plan b ys t → a ≡ b
plan_offset e = cc

pub plan_steps : {a b : ℕ} {xs ys : List Index} {s t : Shape} → Plan a xs s ≡ Plan b ys t → xs ≡ ys
plan_steps e = cc

pub plan_shape : {a b : ℕ} {xs ys : List Index} {s t : Shape} → Plan a xs s ≡ Plan b ys t → s ≡ t
plan_shape e = cc

pub moved_from : (o : ℕ) (p : Planned) (offset : ℕ) (steps : List Index) (t : Shape) → moved o p ≡ Plan offset steps t
    → (o' : ℕ) × (p ≡ Plan o' steps t) × (offset ≡ o + o')
moved_from o (Plan o' steps' t') offset steps t e =
    let a = plan_offset e in
    let b = plan_steps e in
    let c = plan_shape e in
    (o', cc, sym a)
moved_from o NoPlan offset steps t e = cc

pub stepped_from : (i : Index) (p : Planned) (offset : ℕ) (steps : List Index) (t : Shape) → stepped i p ≡ Plan offset steps t
    → (rest : List Index) × (p ≡ Plan offset rest t) × (steps ≡ i ∷ rest)
stepped_from i (Plan o' steps' t') offset steps t e =
    let a = plan_offset e in
    let b = plan_steps e in
    let c = plan_shape e in
    (steps', cc, sym b)
stepped_from i NoPlan offset steps t e = cc

piece_from : (p : Piece) (go : ℕ → Shape → Planned) (offset : ℕ) (steps : List Index) (t : Shape) → on_piece p go ≡ Plan offset steps t
    → (o : ℕ) × (of : Shape) × (p ≡ At o of) × (go o of ≡ Plan offset steps t)
piece_from (At o of) go offset steps t e = (o, of, refl, e)
piece_from OutOfRange go offset steps t e = cc
piece_from NoPart go offset steps t e = cc

-- ---- one step

pub to_word_is : (place : ℕ) → place < 2 ^ 32 → to_word place ≡ To place
to_word_is place h = let n : min place (2 ^ 32 - 1) ≡ place = omega arith in ap To n

led_beyond : (b : Bool) (p : Piece) → p ≡ OutOfRange → Beyond ≡ led b p
led_beyond true p e = refl
led_beyond false p e = ap (led false) (sym e)

-- what it means that an index was chosen, or was not though its word is there
pub chosen_parts : (a s b : Bool) → (a && (not s && b)) ≡ true → (s ≡ false) × (b ≡ true)
chosen_parts a s b e =
    let one = and_parts a (not s && b) e in
    let two = and_parts (not s) b one.1 in
    (not-true s two.0, two.1)

pub unchosen_parts : (a s b : Bool) → a ≡ true → (a && (not s && b)) ≡ false → (s ≡ true) ⊎ (b ≡ false)
unchosen_parts a s b h e = either (and_cases (not s) b (sym (ap (λ x. x && (not s && b)) h) ∙ e))
  where
    either : (not s ≡ false) ⊎ (b ≡ false) → (s ≡ true) ⊎ (b ≡ false)
    either (inl x) = inl (not-false s x)
    either (inr y) = inr y

-- ---- chains

item_within : (of : Shape) (x v n : ℕ) (go : ℕ → Shape → Piece) → nat_lt v n ≡ true
    → then_piece (cond (nat_lt v n) (At (x + v * width of) of) OutOfRange) go ≡ go (x + v * width of) of
item_within of x v n go e = ap (λ b. then_piece (cond b (At (x + v * width of) of) OutOfRange) go) e

item_outside : (of : Shape) (x v n : ℕ) (go : ℕ → Shape → Piece) → nat_lt v n ≡ false
    → then_piece (cond (nat_lt v n) (At (x + v * width of) of) OutOfRange) go ≡ OutOfRange
item_outside of x v n go e = ap (λ b. then_piece (cond b (At (x + v * width of) of) OutOfRange) go) e

-- where all indices are in range
reaches : (items : List Item) (s t : Shape) (offset x : ℕ) (steps : List Index) (ws : List ℕ) → plan s items ≡ Plan offset steps t
    → all_chosen ws 0 steps ≡ true
    → (some_negative ws items ≡ false) × (piece s (path_of ws items) x ≡ At (x + offset + distance ws steps) t)
    × (offset + distance ws steps ≤ width s)
reaches [] s t offset x steps ws p c =
    let a = plan_offset p in
    let b = ap (distance ws) (plan_steps p) in
    let n : x ≡ x + offset + distance ws steps = omega arith in
    (refl, ap (λ y. At y s) n ∙ ap (At (x + offset + distance ws steps)) (plan_shape p), omega arith)
reaches (Member k ∷ items) (Fields fs) t offset x steps ws p c =
    let q = piece_from (member fs k 0) (λ o of. moved o (plan of items)) offset steps t p in
    let r = moved_from q.0 (plan q.1 items) offset steps t q.3 in
    let fits = member_fits fs k 0 q.0 q.1 q.2 in
    let sum = r.2 in
    let ih = reaches items q.1 t r.0 (x + q.0) steps ws r.1 c in
    let bound = ih.2 in
    let n : x + q.0 + r.0 + distance ws steps ≡ x + offset + distance ws steps = omega arith in (
      ih.0,
      ap (λ y. then_piece y (λ place of. piece of (path_of ws items) place)) (member_from fs k x q.0 q.1 q.2)
          ∙ (ih.1 ∙ ap (λ y. At y t) n),
      omega arith,
    )
reaches (Slot place signed ∷ items) (Repeated n stride of) t offset x steps ws p c =
    let i : Index = record { slot = place; extent = Fixed n; stride = width of; signed = signed } in
    let v = get_or ws place 0 in
    let q = stepped_from i (plan of items) offset steps t p in
    let all = and_parts (is_chosen ws 0 i) (all_chosen ws 0 q.0) (sym (ap (all_chosen ws 0) q.2) ∙ c) in
    let one = chosen_parts (nat_lt place (length ws)) (signed && is_negative v) (nat_lt v n) all.0 in
    let below : v < n = ltb-true v n one.1 in
    let most : suc v * width of ≤ n * width of = mul-le-mul_right (width of) (omega arith) in
    let split = suc-mul v (width of) in
    let d : distance ws steps ≡ v * width of + distance ws q.0 = ap (distance ws) q.2 in
    let ih = reaches items of t offset (x + v * width of) q.0 ws q.1 all.1 in
    let bound = ih.2 in
    let m : x + v * width of + offset + distance ws q.0 ≡ x + offset + distance ws steps = omega arith in (
      or_from (signed && is_negative v) (some_negative ws items) one.0 ih.0,
      item_within of x v n (λ y of'. piece of' (path_of ws items) y) one.1 ∙ (ih.1 ∙ ap (λ y. At y t) m),
      omega arith,
    )
reaches (Member k ∷ items) Nothing t offset x steps ws p c = cc
reaches (Member k ∷ items) Truths t offset x steps ws p c = cc
reaches (Member k ∷ items) (Words signed) t offset x steps ws p c = cc
reaches (Member k ∷ items) (Repeated n stride of) t offset x steps ws p c = cc
reaches (Member k ∷ items) (Unbounded stride of) t offset x steps ws p c = cc
reaches (Member k ∷ items) (PointerTo of) t offset x steps ws p c = cc
reaches (Slot place signed ∷ items) Nothing t offset x steps ws p c = cc
reaches (Slot place signed ∷ items) Truths t offset x steps ws p c = cc
reaches (Slot place signed ∷ items) (Words signed') t offset x steps ws p c = cc
reaches (Slot place signed ∷ items) (Unbounded stride of) t offset x steps ws p c = cc
reaches (Slot place signed ∷ items) (Fields fs) t offset x steps ws p c = cc
reaches (Slot place signed ∷ items) (PointerTo of) t offset x steps ws p c = cc

-- an index that is not chosen, or one that is where a later one is not
at_item : (of : Shape) (items : List Item) (x v n : ℕ) (ws : List ℕ) (signed a rest : Bool) → a ≡ true
    → ((a && (not (signed && is_negative v) && nat_lt v n)) ≡ true) ⊎ ((a && (not (signed && is_negative v) && nat_lt v n)) ≡ false)
    → ((a && (not (signed && is_negative v) && nat_lt v n)) && rest) ≡ false
    → (rest ≡ false → (some_negative ws items ≡ true) ⊎ (piece of (path_of ws items) (x + v * width of) ≡ OutOfRange))
    → (((signed && is_negative v) || some_negative ws items) ≡ true)
    ⊎ (then_piece (cond (nat_lt v n) (At (x + v * width of) of) OutOfRange) (λ y of'. piece of' (path_of ws items) y) ≡ OutOfRange)
at_item of items x v n ws signed a rest h (inl c) all later = after (later (sym (ap (λ b. b && rest) c) ∙ all))
  where
    after : (some_negative ws items ≡ true) ⊎ (piece of (path_of ws items) (x + v * width of) ≡ OutOfRange)
        → (((signed && is_negative v) || some_negative ws items) ≡ true)
        ⊎ (then_piece (cond (nat_lt v n) (At (x + v * width of) of) OutOfRange) (λ y of'. piece of' (path_of ws items) y) ≡ OutOfRange)
    after (inl b) = inl (or_right (signed && is_negative v) (some_negative ws items) b)
    after (inr e) =
        let one = chosen_parts a (signed && is_negative v) (nat_lt v n) c in
        inr (item_within of x v n (λ y of'. piece of' (path_of ws items) y) one.1 ∙ e)
at_item of items x v n ws signed a rest h (inr c) all later = after (unchosen_parts a (signed && is_negative v) (nat_lt v n) h c)
  where
    after : ((signed && is_negative v) ≡ true) ⊎ (nat_lt v n ≡ false)
        → (((signed && is_negative v) || some_negative ws items) ≡ true)
        ⊎ (then_piece (cond (nat_lt v n) (At (x + v * width of) of) OutOfRange) (λ y of'. piece of' (path_of ws items) y) ≡ OutOfRange)
    after (inl b) = inl (or_left (signed && is_negative v) (some_negative ws items) b)
    after (inr e) = inr (item_outside of x v n (λ y of'. piece of' (path_of ws items) y) e)

-- where one is not
misses : (items : List Item) (s t : Shape) (offset x : ℕ) (steps : List Index) (ws : List ℕ) → plan s items ≡ Plan offset steps t
    → AreThere ws items → all_chosen ws 0 steps ≡ false
    → (some_negative ws items ≡ true) ⊎ (piece s (path_of ws items) x ≡ OutOfRange)
misses [] s t offset x steps ws p there c =
    let z : true ≡ false = ap (all_chosen ws 0) (plan_steps p) ∙ c in
    cc
misses (Member k ∷ items) (Fields fs) t offset x steps ws p there c =
    let q = piece_from (member fs k 0) (λ o of. moved o (plan of items)) offset steps t p in
    let r = moved_from q.0 (plan q.1 items) offset steps t q.3 in
    let e = ap (λ y. then_piece y (λ place of. piece of (path_of ws items) place)) (member_from fs k x q.0 q.1 q.2) in
    after_member e (misses items q.1 t r.0 (x + q.0) steps ws r.1 there c)
  where
    after_member : {a b : Piece} {u : Bool} → a ≡ b → (u ≡ true) ⊎ (b ≡ OutOfRange) → (u ≡ true) ⊎ (a ≡ OutOfRange)
    after_member e (inl y) = inl y
    after_member e (inr y) = inr (e ∙ y)
misses (Slot place signed ∷ items) (Repeated n stride of) t offset x steps ws p there c =
    let i : Index = record { slot = place; extent = Fixed n; stride = width of; signed = signed } in
    let v = get_or ws place 0 in
    let q = stepped_from i (plan of items) offset steps t p in
    let all : all_chosen ws 0 (i ∷ q.0) ≡ false = sym (ap (all_chosen ws 0) q.2) ∙ c in
    at_item of items x v n ws signed (nat_lt place (length ws)) (all_chosen ws 0 q.0) (lt-ltb place (length ws) there.0)
    (cases_Bool (is_chosen ws 0 i)) all (λ h. misses items of t offset (x + v * width of) q.0 ws q.1 there.1 h)
misses (Member k ∷ items) Nothing t offset x steps ws p there c = cc
misses (Member k ∷ items) Truths t offset x steps ws p there c = cc
misses (Member k ∷ items) (Words signed) t offset x steps ws p there c = cc
misses (Member k ∷ items) (Repeated n stride of) t offset x steps ws p there c = cc
misses (Member k ∷ items) (Unbounded stride of) t offset x steps ws p there c = cc
misses (Member k ∷ items) (PointerTo of) t offset x steps ws p there c = cc
misses (Slot place signed ∷ items) Nothing t offset x steps ws p there c = cc
misses (Slot place signed ∷ items) Truths t offset x steps ws p there c = cc
misses (Slot place signed ∷ items) (Words signed') t offset x steps ws p there c = cc
misses (Slot place signed ∷ items) (Unbounded stride of) t offset x steps ws p there c = cc
misses (Slot place signed ∷ items) (Fields fs) t offset x steps ws p there c = cc
misses (Slot place signed ∷ items) (PointerTo of) t offset x steps ws p there c = cc

pub leads : (s t : Shape) (items : List Item) (offset from : ℕ) (steps : List Index) (ws : List ℕ) → plan s items ≡ Plan offset steps t
    → AreThere ws items → from + width s < 2 ^ 32
    → moved_on ws 0 steps from offset ≡ led (some_negative ws items) (piece s (path_of ws items) from)
leads s t items offset from steps ws p there h = either (cases_Bool (all_chosen ws 0 steps))
  where
    missed : (some_negative ws items ≡ true) ⊎ (piece s (path_of ws items) from ≡ OutOfRange)
        → Beyond ≡ led (some_negative ws items) (piece s (path_of ws items) from)
    missed (inl n) = ap (λ b. led b (piece s (path_of ws items) from)) (sym n)
    missed (inr e) = led_beyond (some_negative ws items) (piece s (path_of ws items) from) e

    either : (all_chosen ws 0 steps ≡ true) ⊎ (all_chosen ws 0 steps ≡ false)
        → moved_on ws 0 steps from offset ≡ led (some_negative ws items) (piece s (path_of ws items) from)
    either (inl c) =
        let r = reaches items s t offset from steps ws p c in
        let bound = r.2 in
        ap (λ b. cond b (to_word (from + offset + distance ws steps)) Beyond) c
        ∙ (to_word_is (from + offset + distance ws steps) (omega arith)
        ∙ sym (ap (λ b. led b (piece s (path_of ws items) from)) r.0 ∙ ap (led false) r.1))
    either (inr c) =
        ap (λ b. cond b (to_word (from + offset + distance ws steps)) Beyond) c
        ∙ missed (misses items s t offset from steps ws p there c)

then_at : (p : Piece) (go : ℕ → Shape → Piece) (q : ℕ) (u : Shape) → then_piece p go ≡ At q u
    → (o : ℕ) × (of : Shape) × (p ≡ At o of) × (go o of ≡ At q u)
then_at (At o of) go q u e = (o, of, refl, e)
then_at OutOfRange go q u e = cc
then_at NoPart go q u e = cc

item_shape : (b : Bool) (x o : ℕ) (s of : Shape) → cond b (At x s) OutOfRange ≡ At o of → s ≡ of
item_shape true x o s of e = cc
item_shape false x o s of e = cc

shapes : (items : List Item) (s t u : Shape) (offset from q : ℕ) (steps : List Index) (ws : List ℕ) → plan s items ≡ Plan offset steps t
    → piece s (path_of ws items) from ≡ At q u → u ≡ t
shapes [] s t u offset from q steps ws p e = sym (at_shape e) ∙ plan_shape p
shapes (Member k ∷ items) (Fields fs) t u offset from q steps ws p e =
    let a = piece_from (member fs k 0) (λ o of. moved o (plan of items)) offset steps t p in
    let b = moved_from a.0 (plan a.1 items) offset steps t a.3 in
    let c = then_at (member fs k from) (λ place of. piece of (path_of ws items) place) q u e in
    let m : At (from + a.0) a.1 ≡ At c.0 c.1 = sym (member_from fs k from a.0 a.1 a.2) ∙ c.2 in
    let d : piece a.1 (path_of ws items) c.0 ≡ At q u = ap (λ x. piece x (path_of ws items) c.0) (at_shape m) ∙ c.3 in
    shapes items a.1 t u b.0 c.0 q steps ws b.1 d
shapes (Slot place signed ∷ items) (Repeated n stride of) t u offset from q steps ws p e =
    let a = stepped_from (record { slot = place; extent = Fixed n; stride = width of; signed = signed }) (plan of items) offset steps t p in
    let c = then_at (piece_of (Repeated n stride of) (get_or ws place 0) from) (λ place of. piece of (path_of ws items) place) q u e in
    let m = item_shape (nat_lt (get_or ws place 0) n) (from + get_or ws place 0 * width of) c.0 of c.1 c.2 in
    let d : piece of (path_of ws items) c.0 ≡ At q u = ap (λ x. piece x (path_of ws items) c.0) m ∙ c.3 in
    shapes items of t u offset c.0 q a.0 ws a.1 d
shapes (Member k ∷ items) Nothing t u offset from q steps ws p e = cc
shapes (Member k ∷ items) Truths t u offset from q steps ws p e = cc
shapes (Member k ∷ items) (Words signed) t u offset from q steps ws p e = cc
shapes (Member k ∷ items) (Repeated n stride of) t u offset from q steps ws p e = cc
shapes (Member k ∷ items) (Unbounded stride of) t u offset from q steps ws p e = cc
shapes (Member k ∷ items) (PointerTo of) t u offset from q steps ws p e = cc
shapes (Slot place signed ∷ items) Nothing t u offset from q steps ws p e = cc
shapes (Slot place signed ∷ items) Truths t u offset from q steps ws p e = cc
shapes (Slot place signed ∷ items) (Words signed') t u offset from q steps ws p e = cc
shapes (Slot place signed ∷ items) (Unbounded stride of) t u offset from q steps ws p e = cc
shapes (Slot place signed ∷ items) (Fields fs) t u offset from q steps ws p e = cc
shapes (Slot place signed ∷ items) (PointerTo of) t u offset from q steps ws p e = cc

pub led_shape : (s t u : Shape) (items : List Item) (offset from q : ℕ) (steps : List Index) (ws : List ℕ) → plan s items ≡ Plan offset steps t
    → piece s (path_of ws items) from ≡ At q u → u ≡ t
led_shape s t u items offset from q steps ws p e = shapes items s t u offset from q steps ws p e
