-- The steps of a chain in a buffer lead to the byte at the path that its indices stand for.
use Rattle.std.proofs.Common.{◌≡◌, ℕ, zero, suc, ◌+◌, ◌-◌, ◌*◌, min, ◌/◌, ◌%◌, ◌^◌, ◌<◌, ◌⊎◌, inl, inr, Bool, true, false, ◌&&◌, ◌||◌, cond, List, [], ◌∷◌, length, get_or, Option, Some, None, refl, sym, ap, ◌∙◌, mul_left_comm, mul-add, arith}
use Rattle.std.specs.Prelude.{nat_lt, nat_eq}
use Rattle.std.proofs.Math.Nat.{mul-div-mul_left}
use Rattle.std.proofs.lemmas.Bool.{lt-ltb, eqb-true, and_parts, or_from, or_left, or_right, cases_Bool}
use Rattle.behavior.specs.Operations.{is_negative}
use Rattle.spirv_words.specs.Machine.{Shape, Shapes, Nothing, Truths, Words, Repeated, Unbounded, Fields, PointerTo, if_some}
use Rattle.spirv_words.specs.Step.{field_at, strides, within, spot, Spot, Byte, Beyond as Outside, Nowhere}
use Rattle.run_actions.specs.declared.actions.Extent.{Extent}
use Rattle.run_actions.specs.declared.actions.Extent.TheVariants.{Fixed, Whole}
use Rattle.run_actions.specs.declared.actions.Index.{Index}
use Rattle.run_actions.specs.declared.turns.Followed.TheVariants.{To, Beyond}
use Rattle.run_actions.specs.Chains.{whole, extent_of, to_word, is_chosen, all_chosen, distance, moved_on}
use Rattle.action_laws.specs.Paths.{Item, Member, Slot, Planned, Plan, NoPlan, moved, stepped, in_words, buffer_plan, path_of, some_negative, AreThere, led_in_buffer}
use Rattle.action_laws.proofs.Follows.{plan_offset, plan_steps, plan_shape, moved_from, stepped_from, chosen_parts, unchosen_parts}

-- ---- plans

words_from : (bytes : ℕ) (go : ℕ → Planned) (offset : ℕ) (steps : List Index) (t : Shape) → in_words bytes go ≡ Plan offset steps t
    → (w : ℕ) × (bytes ≡ 4 * w) × (go w ≡ Plan offset steps t)
words_from bytes go offset steps t e = either (nat_eq (bytes % 4) 0) refl e
  where
    either : (b : Bool) → nat_eq (bytes % 4) 0 ≡ b → cond b (go (bytes / 4)) NoPlan ≡ Plan offset steps t
        → (w : ℕ) × (bytes ≡ 4 * w) × (go w ≡ Plan offset steps t)
    either true h p = let z = eqb-true (bytes % 4) 0 h in (bytes / 4, omega arith, p)
    either false h p = cc

field_from : (o : Option (ℕ × Shape)) (go : ℕ × Shape → Planned) (offset : ℕ) (steps : List Index) (t : Shape)
    → if_some o NoPlan go ≡ Plan offset steps t → (f : ℕ × Shape) × (o ≡ Some f) × (go f ≡ Plan offset steps t)
field_from (Some f) go offset steps t e = (f, refl, e)
field_from None go offset steps t e = cc

-- ---- strides

strides_are : (words w : ℕ) → strides words (4 * w) ≡ whole words w
strides_are words zero = refl
strides_are words (suc w) =
    let e : 4 * suc w ≡ suc (3 + 4 * w) = omega arith in
    ap (strides words) e ∙ (ap (λ k. (4 * words) / k) (sym e) ∙ mul-div-mul_left words (suc w) (omega arith))

on_by : (x v w stride : ℕ) → stride ≡ 4 * w → 4 * x + v * stride ≡ 4 * (x + v * w)
on_by x v w stride e =
    ap (λ k. 4 * x + v * k) e ∙ (ap (λ k. 4 * x + k) (mul_left_comm v 4 w) ∙ sym (mul-add 4 x (v * w)))

item_within : (words v m x w stride : ℕ) (of : Shape) (path : List ℕ) → nat_lt v m ≡ true → stride ≡ 4 * w
    → within v m (spot words of path (4 * x + v * stride)) ≡ spot words of path (4 * (x + v * w))
item_within words v m x w stride of path l e =
    ap (λ b. cond b (spot words of path (4 * x + v * stride)) Outside) l ∙ ap (spot words of path) (on_by x v w stride e)

item_outside : (words v m y : ℕ) (of : Shape) (path : List ℕ) → nat_lt v m ≡ false → within v m (spot words of path y) ≡ Outside
item_outside words v m y of path l = ap (λ b. cond b (spot words of path y) Outside) l

field_is : (words : ℕ) (fs : Shapes) (k : ℕ) (path : List ℕ) (x w : ℕ) (f : ℕ × Shape) → field_at fs k ≡ Some f → f.0 ≡ 4 * w
    → spot words (Fields fs) (k ∷ path) (4 * x) ≡ spot words f.1 path (4 * (x + w))
field_is words fs k path x w f e g =
    let n : 4 * x + f.0 ≡ 4 * (x + w) = omega arith in
    ap (λ o. if_some o Nowhere (λ h. spot words h.1 path (4 * x + h.0))) e ∙ ap (spot words f.1 path) n

-- ---- where all indices are in range

abbrev Reached : List Item → Shape → Shape → ℕ → ℕ → List Index → List ℕ → ℕ → Type 0
Reached items s t offset x steps ws words =
    (some_negative ws items ≡ false) × (spot words s (path_of ws items) (4 * x) ≡ Byte (4 * (x + offset + distance ws steps)) t)

-- by an element, whatever the extent is
reached_item : (items : List Item) (of t : Shape) (offset x : ℕ) (steps rest : List Index) (ws : List ℕ) (words place m w stride : ℕ)
    (signed : Bool) (extent : Extent) → extent_of extent words w ≡ m → stride ≡ 4 * w
    → steps ≡ record { slot = place; extent = extent; stride = w; signed = signed } ∷ rest → all_chosen ws words steps ≡ true
    → (all_chosen ws words rest ≡ true → Reached items of t offset (x + get_or ws place 0 * w) rest ws words)
    → ((signed && is_negative (get_or ws place 0)) || some_negative ws items ≡ false)
    × (within (get_or ws place 0) m (spot words of (path_of ws items) (4 * x + get_or ws place 0 * stride))
    ≡ Byte (4 * (x + offset + distance ws steps)) t)
reached_item items of t offset x steps rest ws words place m w stride signed extent em es e c later =
    let i : Index = record { slot = place; extent = extent; stride = w; signed = signed } in
    let v = get_or ws place 0 in
    let all = and_parts (is_chosen ws words i) (all_chosen ws words rest) (sym (ap (all_chosen ws words) e) ∙ c) in
    let one = chosen_parts (nat_lt place (length ws)) (signed && is_negative v) (nat_lt v (extent_of extent words w)) all.0 in
    let below : nat_lt v m ≡ true = ap (nat_lt v) (sym em) ∙ one.1 in
    let d : distance ws steps ≡ v * w + distance ws rest = ap (distance ws) e in
    let ih = later all.1 in
    let n : 4 * (x + v * w + offset + distance ws rest) ≡ 4 * (x + offset + distance ws steps) = omega arith in (
      or_from (signed && is_negative v) (some_negative ws items) one.0 ih.0,
      item_within words v m x w stride of (path_of ws items) below es ∙ (ih.1 ∙ ap (λ y. Byte y t) n),
    )

reaches : (items : List Item) (s t : Shape) (offset x : ℕ) (steps : List Index) (ws : List ℕ) (words : ℕ)
    → buffer_plan s items ≡ Plan offset steps t → all_chosen ws words steps ≡ true → Reached items s t offset x steps ws words
reaches [] s t offset x steps ws words p c =
    let a = plan_offset p in
    let b = ap (distance ws) (plan_steps p) in
    let n : 4 * x ≡ 4 * (x + offset + distance ws steps) = omega arith in
    (refl, ap (λ y. Byte y s) n ∙ ap (Byte (4 * (x + offset + distance ws steps))) (plan_shape p))
reaches (Member k ∷ items) (Fields fs) t offset x steps ws words p c =
    let f = field_from (field_at fs k) (λ f. in_words f.0 (λ o. moved o (buffer_plan f.1 items))) offset steps t p in
    let q = words_from f.0.0 (λ o. moved o (buffer_plan f.0.1 items)) offset steps t f.2 in
    let r = moved_from q.0 (buffer_plan f.0.1 items) offset steps t q.2 in
    let sum = r.2 in
    let ih = reaches items f.0.1 t r.0 (x + q.0) steps ws words r.1 c in
    let n : 4 * (x + q.0 + r.0 + distance ws steps) ≡ 4 * (x + offset + distance ws steps) = omega arith in
    (ih.0, field_is words fs k (path_of ws items) x q.0 f.0 f.1 q.1 ∙ (ih.1 ∙ ap (λ y. Byte y t) n))
reaches (Slot place signed ∷ items) (Repeated n stride of) t offset x steps ws words p c =
    let q = words_from stride (λ w. stepped (record { slot = place; extent = Fixed n; stride = w; signed = signed }) (buffer_plan of items)) offset steps t p in
    let r = stepped_from (record { slot = place; extent = Fixed n; stride = q.0; signed = signed }) (buffer_plan of items) offset steps t q.2 in
    reached_item items of t offset x steps r.0 ws words place n q.0 stride signed (Fixed n) refl q.1 r.2 c
    (λ h. reaches items of t offset (x + get_or ws place 0 * q.0) r.0 ws words r.1 h)
reaches (Slot place signed ∷ items) (Unbounded stride of) t offset x steps ws words p c =
    let q = words_from stride (λ w. stepped (record { slot = place; extent = Whole; stride = w; signed = signed }) (buffer_plan of items)) offset steps t p in
    let r = stepped_from (record { slot = place; extent = Whole; stride = q.0; signed = signed }) (buffer_plan of items) offset steps t q.2 in
    let m : whole words q.0 ≡ strides words stride = sym (strides_are words q.0) ∙ ap (strides words) (sym q.1) in
    reached_item items of t offset x steps r.0 ws words place (strides words stride) q.0 stride signed Whole m q.1 r.2 c
    (λ h. reaches items of t offset (x + get_or ws place 0 * q.0) r.0 ws words r.1 h)
reaches (Member k ∷ items) Nothing t offset x steps ws words p c = cc
reaches (Member k ∷ items) Truths t offset x steps ws words p c = cc
reaches (Member k ∷ items) (Words signed) t offset x steps ws words p c = cc
reaches (Member k ∷ items) (Repeated n stride of) t offset x steps ws words p c = cc
reaches (Member k ∷ items) (Unbounded stride of) t offset x steps ws words p c = cc
reaches (Member k ∷ items) (PointerTo of) t offset x steps ws words p c = cc
reaches (Slot place signed ∷ items) Nothing t offset x steps ws words p c = cc
reaches (Slot place signed ∷ items) Truths t offset x steps ws words p c = cc
reaches (Slot place signed ∷ items) (Words signed') t offset x steps ws words p c = cc
reaches (Slot place signed ∷ items) (Fields fs) t offset x steps ws words p c = cc
reaches (Slot place signed ∷ items) (PointerTo of) t offset x steps ws words p c = cc

-- ---- where one is not

abbrev Missed : List Item → Shape → ℕ → List ℕ → ℕ → Type 0
Missed items s x ws words = (some_negative ws items ≡ true) ⊎ (spot words s (path_of ws items) (4 * x) ≡ Outside)

missed_item : (items : List Item) (of : Shape) (x : ℕ) (steps rest : List Index) (ws : List ℕ) (words place m w stride : ℕ) (signed : Bool)
    (extent : Extent) → extent_of extent words w ≡ m → stride ≡ 4 * w
    → steps ≡ record { slot = place; extent = extent; stride = w; signed = signed } ∷ rest → place < length ws
    → all_chosen ws words steps ≡ false → (all_chosen ws words rest ≡ false → Missed items of (x + get_or ws place 0 * w) ws words)
    → (((signed && is_negative (get_or ws place 0)) || some_negative ws items) ≡ true)
    ⊎ (within (get_or ws place 0) m (spot words of (path_of ws items) (4 * x + get_or ws place 0 * stride)) ≡ Outside)
missed_item items of x steps rest ws words place m w stride signed extent em es e there c later =
    either (cases_Bool (is_chosen ws words (record { slot = place; extent = extent; stride = w; signed = signed })))
  where
    after : (nat_lt (get_or ws place 0) m ≡ true) → Missed items of (x + get_or ws place 0 * w) ws words
        → (((signed && is_negative (get_or ws place 0)) || some_negative ws items) ≡ true)
        ⊎ (within (get_or ws place 0) m (spot words of (path_of ws items) (4 * x + get_or ws place 0 * stride)) ≡ Outside)
    after l (inl b) = inl (or_right (signed && is_negative (get_or ws place 0)) (some_negative ws items) b)
    after l (inr y) = inr (item_within words (get_or ws place 0) m x w stride of (path_of ws items) l es ∙ y)

    at_once : ((signed && is_negative (get_or ws place 0)) ≡ true) ⊎ (nat_lt (get_or ws place 0) (extent_of extent words w) ≡ false)
        → (((signed && is_negative (get_or ws place 0)) || some_negative ws items) ≡ true)
        ⊎ (within (get_or ws place 0) m (spot words of (path_of ws items) (4 * x + get_or ws place 0 * stride)) ≡ Outside)
    at_once (inl b) = inl (or_left (signed && is_negative (get_or ws place 0)) (some_negative ws items) b)
    at_once (inr y) =
        inr (item_outside words (get_or ws place 0) m (4 * x + get_or ws place 0 * stride) of (path_of ws items) (ap (nat_lt (get_or ws place 0)) (sym em) ∙ y))

    all : (is_chosen ws words (record { slot = place; extent = extent; stride = w; signed = signed }) && all_chosen ws words rest) ≡ false
    all = sym (ap (all_chosen ws words) e) ∙ c

    either : (is_chosen ws words (record { slot = place; extent = extent; stride = w; signed = signed }) ≡ true)
        ⊎ (is_chosen ws words (record { slot = place; extent = extent; stride = w; signed = signed }) ≡ false)
        → (((signed && is_negative (get_or ws place 0)) || some_negative ws items) ≡ true)
        ⊎ (within (get_or ws place 0) m (spot words of (path_of ws items) (4 * x + get_or ws place 0 * stride)) ≡ Outside)
    either (inl h) =
        let one = chosen_parts (nat_lt place (length ws)) (signed && is_negative (get_or ws place 0)) (nat_lt (get_or ws place 0) (extent_of extent words w)) h in
        after (ap (nat_lt (get_or ws place 0)) (sym em) ∙ one.1) (later (sym (ap (λ b. b && all_chosen ws words rest) h) ∙ all))
    either (inr h) =
        at_once (unchosen_parts (nat_lt place (length ws)) (signed && is_negative (get_or ws place 0)) (nat_lt (get_or ws place 0) (extent_of extent words w))
        (lt-ltb place (length ws) there) h)

after_member : {a b : Spot} {u : Bool} → a ≡ b → (u ≡ true) ⊎ (b ≡ Outside) → (u ≡ true) ⊎ (a ≡ Outside)
after_member e (inl y) = inl y
after_member e (inr y) = inr (e ∙ y)

misses : (items : List Item) (s t : Shape) (offset x : ℕ) (steps : List Index) (ws : List ℕ) (words : ℕ)
    → buffer_plan s items ≡ Plan offset steps t → AreThere ws items → all_chosen ws words steps ≡ false → Missed items s x ws words
misses [] s t offset x steps ws words p there c =
    let z : true ≡ false = ap (all_chosen ws words) (plan_steps p) ∙ c in
    cc
misses (Member k ∷ items) (Fields fs) t offset x steps ws words p there c =
    let f = field_from (field_at fs k) (λ f. in_words f.0 (λ o. moved o (buffer_plan f.1 items))) offset steps t p in
    let q = words_from f.0.0 (λ o. moved o (buffer_plan f.0.1 items)) offset steps t f.2 in
    let r = moved_from q.0 (buffer_plan f.0.1 items) offset steps t q.2 in
    after_member (field_is words fs k (path_of ws items) x q.0 f.0 f.1 q.1) (misses items f.0.1 t r.0 (x + q.0) steps ws words r.1 there c)
misses (Slot place signed ∷ items) (Repeated n stride of) t offset x steps ws words p there c =
    let q = words_from stride (λ w. stepped (record { slot = place; extent = Fixed n; stride = w; signed = signed }) (buffer_plan of items)) offset steps t p in
    let r = stepped_from (record { slot = place; extent = Fixed n; stride = q.0; signed = signed }) (buffer_plan of items) offset steps t q.2 in
    missed_item items of x steps r.0 ws words place n q.0 stride signed (Fixed n) refl q.1 r.2 there.0 c
    (λ h. misses items of t offset (x + get_or ws place 0 * q.0) r.0 ws words r.1 there.1 h)
misses (Slot place signed ∷ items) (Unbounded stride of) t offset x steps ws words p there c =
    let q = words_from stride (λ w. stepped (record { slot = place; extent = Whole; stride = w; signed = signed }) (buffer_plan of items)) offset steps t p in
    let r = stepped_from (record { slot = place; extent = Whole; stride = q.0; signed = signed }) (buffer_plan of items) offset steps t q.2 in
    let m : whole words q.0 ≡ strides words stride = sym (strides_are words q.0) ∙ ap (strides words) (sym q.1) in
    missed_item items of x steps r.0 ws words place (strides words stride) q.0 stride signed Whole m q.1 r.2 there.0 c
    (λ h. misses items of t offset (x + get_or ws place 0 * q.0) r.0 ws words r.1 there.1 h)
misses (Member k ∷ items) Nothing t offset x steps ws words p there c = cc
misses (Member k ∷ items) Truths t offset x steps ws words p there c = cc
misses (Member k ∷ items) (Words signed) t offset x steps ws words p there c = cc
misses (Member k ∷ items) (Repeated n stride of) t offset x steps ws words p there c = cc
misses (Member k ∷ items) (Unbounded stride of) t offset x steps ws words p there c = cc
misses (Member k ∷ items) (PointerTo of) t offset x steps ws words p there c = cc
misses (Slot place signed ∷ items) Nothing t offset x steps ws words p there c = cc
misses (Slot place signed ∷ items) Truths t offset x steps ws words p there c = cc
misses (Slot place signed ∷ items) (Words signed') t offset x steps ws words p there c = cc
misses (Slot place signed ∷ items) (Fields fs) t offset x steps ws words p there c = cc
misses (Slot place signed ∷ items) (PointerTo of) t offset x steps ws words p there c = cc

led_outside : (b : Bool) (p : Spot) → p ≡ Outside → Beyond ≡ led_in_buffer b p
led_outside true p e = refl
led_outside false p e = ap (led_in_buffer false) (sym e)

pub leads_in_buffer : (s t : Shape) (items : List Item) (offset x words : ℕ) (steps : List Index) (ws : List ℕ)
    → buffer_plan s items ≡ Plan offset steps t → AreThere ws items
    → moved_on ws words steps (min x (2 ^ 32 - 1)) offset ≡ led_in_buffer (some_negative ws items) (spot words s (path_of ws items) (4 * x))
leads_in_buffer s t items offset x words steps ws p there = either (cases_Bool (all_chosen ws words steps))
  where
    missed : Missed items s x ws words → Beyond ≡ led_in_buffer (some_negative ws items) (spot words s (path_of ws items) (4 * x))
    missed (inl n) = ap (λ b. led_in_buffer b (spot words s (path_of ws items) (4 * x))) (sym n)
    missed (inr e) = led_outside (some_negative ws items) (spot words s (path_of ws items) (4 * x)) e

    either : (all_chosen ws words steps ≡ true) ⊎ (all_chosen ws words steps ≡ false)
        → moved_on ws words steps (min x (2 ^ 32 - 1)) offset ≡ led_in_buffer (some_negative ws items) (spot words s (path_of ws items) (4 * x))
    either (inl c) =
        let r = reaches items s t offset x steps ws words p c in
        let q = x + offset + distance ws steps in
        let least = min x (2 ^ 32 - 1) + offset + distance ws steps in
        let n : min least (2 ^ 32 - 1) ≡ min ((4 * q) / 4) (2 ^ 32 - 1) = omega arith in
        ap (λ b. cond b (to_word least) Beyond) c
        ∙ (ap To n
        ∙ sym (ap (λ b. led_in_buffer b (spot words s (path_of ws items) (4 * x))) r.0 ∙ ap (led_in_buffer false) r.1))
    either (inr c) =
        ap (λ b. cond b (to_word (min x (2 ^ 32 - 1) + offset + distance ws steps)) Beyond) c
        ∙ missed (misses items s t offset x steps ws words p there c)
