-- Places and their numbers.
use Rattle.std.proofs.Common.{◌≡◌, ℕ, zero, suc, ◌+◌, ◌*◌, ◌/◌, ◌%◌, ◌<◌, ◌≤◌, List, [], ◌∷◌, slice_index, refl, sym, ap, ◌∙◌, inl, inr, arith}
use Rattle.std.proofs.lemmas.Bool.{cases_lt}
use Rattle.std.proofs.Math.Nat.{mul-le-mul_left, mul-le-mul_right, mul-le-mul, mul_comm, mul-add-mod_self_right, mod-eq_of_lt}
use Rattle.std.proofs.lemmas.Nat.{div-mul-add}
use Rattle.run_buffers.specs.Invocations.{volume, place, number_of, IsPlace, Parts}

-- a product that is not 0 has no factor that is 0
factor : (x y : ℕ) → 0 < x * y → 0 < x
factor zero y h = absurd (omega arith)
factor (suc x) y h = omega arith

other_factor : (x y : ℕ) → 0 < x * y → 0 < y
other_factor x zero h = absurd (omega arith)
other_factor x (suc y) h = omega arith

pub le_left : (x y : ℕ) → 0 < y → x ≤ x * y
le_left x y h = let m = mul-le-mul_left {m = 1} {n = y} x h in omega arith

pub le_right : (x y : ℕ) → 0 < x → y ≤ x * y
le_right x y h = let m = mul-le-mul_right {m = 1} {n = x} y h in omega arith

div_below : (n x w : ℕ) → n < x * w → n / x < w
div_below n x w h =
    let pos = factor x w (omega arith) in
    elim (cases_lt (n / x) w) [
      | inl lt ↦ lt
      | inr le ↦ absurd (let m = mul-le-mul_left {m = w} {n = n / x} x le in omega arith)
    ]

-- each part of a place is below the size
pub within_x : (n x y z : ℕ) → n < x * y * z → n % x < x
within_x n x y z h = let p = factor x (y * z) (omega arith) in omega arith

pub within_y : (n x y z : ℕ) → n < x * y * z → n / x % y < y
within_y n x y z h = let p = factor y z (other_factor x (y * z) (omega arith)) in omega arith

pub within_z : (n x y z : ℕ) → n < x * y * z → n / x / y < z
within_z n x y z h = let p : n < x * (y * z) = omega arith in div_below (n / x) y z (div_below n x (y * z) p)

-- ---- what stands along one axis is below what stands along all

axis_below : (g s l w v : ℕ) → l < s → g < w → w * s ≤ v → g * s + l < v
axis_below g s l w v hl hg h = let m = mul-le-mul_right {m = g + 1} {n = w} s (omega arith) in omega arith

x_of_all : (x y z : ℕ) → 0 < x * y * z → x ≤ x * y * z
x_of_all x y z h = let p = other_factor x (y * z) (omega arith) in let m = le_left x (y * z) p in omega arith

y_of_all : (x y z : ℕ) → 0 < x * y * z → y ≤ x * y * z
y_of_all x y z h =
    let p = factor x (y * z) (omega arith) in
    let q = other_factor y z (other_factor x (y * z) (omega arith)) in
    let m = le_left y z q in
    let k = le_right x (y * z) p in
    omega arith

z_of_all : (x y z : ℕ) → 0 < x * y * z → z ≤ x * y * z
z_of_all x y z h =
    let p = factor x (y * z) (omega arith) in
    let q = factor y z (other_factor x (y * z) (omega arith)) in
    let m = le_right y z q in
    let k = le_right x (y * z) p in
    omega arith

pub some_of : (v w n : ℕ) → n < v * w → (0 < v) × (0 < w)
some_of v w n h = (factor v w (omega arith), other_factor v w (omega arith))

pub along_x : (gx gy gz sx sy sz g l : ℕ) → 0 < gx * gy * gz → 0 < sx * sy * sz → g < gx → l < sx → g * sx + l < gx * gy * gz * (sx * sy * sz)
along_x gx gy gz sx sy sz g l hg hs a b = axis_below g sx l gx _ b a (mul-le-mul (x_of_all gx gy gz hg) (x_of_all sx sy sz hs))

pub along_y : (gx gy gz sx sy sz g l : ℕ) → 0 < gx * gy * gz → 0 < sx * sy * sz → g < gy → l < sy → g * sy + l < gx * gy * gz * (sx * sy * sz)
along_y gx gy gz sx sy sz g l hg hs a b = axis_below g sy l gy _ b a (mul-le-mul (y_of_all gx gy gz hg) (y_of_all sx sy sz hs))

pub along_z : (gx gy gz sx sy sz g l : ℕ) → 0 < gx * gy * gz → 0 < sx * sy * sz → g < gz → l < sz → g * sz + l < gx * gy * gz * (sx * sy * sz)
along_z gx gy gz sx sy sz g l hg hs a b = axis_below g sz l gz _ b a (mul-le-mul (z_of_all gx gy gz hg) (z_of_all sx sy sz hs))

group_below : (groups size : List ℕ) (n : ℕ) → n < volume groups * volume size → n / volume size < volume groups
group_below groups size n h = div_below n (volume size) (volume groups) (let c = mul_comm (volume groups) (volume size) in omega arith)

local_below : (groups size : List ℕ) (n : ℕ) → n < volume groups * volume size → n % volume size < volume size
local_below groups size n h = let p = (some_of (volume groups) (volume size) n h).1 in omega arith

pub global_x : (groups size : List ℕ) (n : ℕ) → n < volume groups * volume size
    → slice_index (place groups (n / volume size)) 0 * slice_index size 0 + slice_index (place size (n % volume size)) 0 < volume groups * volume size
global_x groups size n h =
    let some = some_of (volume groups) (volume size) n h in
    along_x (slice_index groups 0) (slice_index groups 1) (slice_index groups 2) (slice_index size 0) (slice_index size 1) (slice_index size 2) _ _ some.0 some.1
    (within_x _ _ _ _ (group_below groups size n h)) (within_x _ _ _ _ (local_below groups size n h))

pub global_y : (groups size : List ℕ) (n : ℕ) → n < volume groups * volume size
    → slice_index (place groups (n / volume size)) 1 * slice_index size 1 + slice_index (place size (n % volume size)) 1 < volume groups * volume size
global_y groups size n h =
    let some = some_of (volume groups) (volume size) n h in
    along_y (slice_index groups 0) (slice_index groups 1) (slice_index groups 2) (slice_index size 0) (slice_index size 1) (slice_index size 2) _ _ some.0 some.1
    (within_y _ _ _ _ (group_below groups size n h)) (within_y _ _ _ _ (local_below groups size n h))

pub global_z : (groups size : List ℕ) (n : ℕ) → n < volume groups * volume size
    → slice_index (place groups (n / volume size)) 2 * slice_index size 2 + slice_index (place size (n % volume size)) 2 < volume groups * volume size
global_z groups size n h =
    let some = some_of (volume groups) (volume size) n h in
    along_z (slice_index groups 0) (slice_index groups 1) (slice_index groups 2) (slice_index size 0) (slice_index size 1) (slice_index size 2) _ _ some.0 some.1
    (within_z _ _ _ _ (group_below groups size n h)) (within_z _ _ _ _ (local_below groups size n h))

-- ---- numbers of places

-- a place has the number that it is made of
pub number_again : (n x y : ℕ) → 0 < x → 0 < y → n % x + x * (n / x % y + y * (n / x / y)) ≡ n
number_again n x y hx hy =
    let inner : n / x % y + y * (n / x / y) ≡ n / x = omega arith in
    ap (λ (k : ℕ). n % x + x * k) inner ∙ (let o : n % x + x * (n / x) ≡ n = omega arith in o)

-- ---- each place once

pub group_is_place : (size groups : List ℕ) (n : ℕ) → n < volume groups * volume size → IsPlace groups (place groups (n / volume size))
group_is_place size groups n h =
    let b = group_below groups size n h in
    Parts _ _ _ refl (within_x _ _ _ _ b) (within_y _ _ _ _ b) (within_z _ _ _ _ b)

pub local_is_place : (size groups : List ℕ) (n : ℕ) → n < volume groups * volume size → IsPlace size (place size (n % volume size))
local_is_place size groups n h =
    let b = local_below groups size n h in
    Parts _ _ _ refl (within_x _ _ _ _ b) (within_y _ _ _ _ b) (within_z _ _ _ _ b)

place_number : (size : List ℕ) (n : ℕ) → 0 < volume size → number_of size (place size n) ≡ n
place_number size n h =
    let x = slice_index size 0 in
    let y = slice_index size 1 in
    let z = slice_index size 2 in
    number_again n x y (factor x (y * z) (omega arith)) (factor y z (other_factor x (y * z) (omega arith)))

pub number_of_ids : (size groups : List ℕ) (n : ℕ) → n < volume groups * volume size
    → number_of groups (place groups (n / volume size)) * volume size + number_of size (place size (n % volume size)) ≡ n
number_of_ids size groups n h =
    let some = some_of (volume groups) (volume size) n h in
    let v = volume size in
    let g = place_number groups (n / v) some.0 in
    let l = place_number size (n % v) some.1 in
    let e : n / volume size * volume size + n % volume size ≡ n = omega arith in
    ap (λ (k : ℕ). k * volume size + number_of size (place size (n % volume size))) g ∙ (ap (λ (k : ℕ). n / volume size * volume size + k) l ∙ e)

-- a number that is made of a place has that place
place_again : (x y p q r : ℕ) → p < x → q < y → (let n = p + x * (q + y * r) in (n % x ≡ p) × (n / x % y ≡ q) × (n / x / y ≡ r))
place_again x y p q r hp hq =
    let c : p + x * (q + y * r) ≡ (q + y * r) * x + p = omega arith in
    let d : q + y * r ≡ r * y + q = omega arith in
    let m = ap (λ (k : ℕ). k % x) c ∙ (mul-add-mod_self_right (q + y * r) x p ∙ mod-eq_of_lt hp) in
    let v = ap (λ (k : ℕ). k / x) c ∙ div-mul-add (q + y * r) x p hp in
    let b = ap (λ (k : ℕ). k % y) (v ∙ d) ∙ (mul-add-mod_self_right r y q ∙ mod-eq_of_lt hq) in
    let w = ap (λ (k : ℕ). k / y) (v ∙ d) ∙ div-mul-add r y q hq in
    (m, b, w)

number_below : (x y z p q r : ℕ) → p < x → q < y → r < z → p + x * (q + y * r) < x * y * z
number_below x y z p q r hp hq hr =
    let a = mul-le-mul_left {m = r + 1} {n = z} y (omega arith) in
    let b = mul-le-mul_left {m = q + y * r + 1} {n = y * z} x (omega arith) in
    omega arith

same_parts : (a b c x y z : ℕ) → a ≡ x → b ≡ y → c ≡ z → a ∷ b ∷ c ∷ [] ≡ x ∷ y ∷ z ∷ []
same_parts a b c x y z p q r =
    ap (λ (v : ℕ). v ∷ b ∷ c ∷ []) p ∙ (ap (λ (v : ℕ). x ∷ v ∷ c ∷ []) q ∙ ap (λ (v : ℕ). x ∷ y ∷ v ∷ []) r)

place_of_number : (size : List ℕ) (x y z : ℕ) → x < slice_index size 0 → y < slice_index size 1 → place size (number_of size (x ∷ y ∷ z ∷ [])) ≡ x ∷ y ∷ z ∷ []
place_of_number size x y z hx hy =
    let r = place_again (slice_index size 0) (slice_index size 1) x y z hx hy in
    same_parts _ _ _ x y z r.0 r.1 r.2

reached_at : (size groups : List ℕ) (g l : ℕ) → g < volume groups → l < volume size
    → (g * volume size + l < volume groups * volume size) × ((g * volume size + l) / volume size ≡ g) × ((g * volume size + l) % volume size ≡ l)
reached_at size groups g l hg hl =
    let m = mul-le-mul_right {m = g + 1} {n = volume groups} (volume size) (omega arith) in
    (omega arith, div-mul-add g (volume size) l hl, mul-add-mod_self_right g (volume size) l ∙ mod-eq_of_lt hl)

pub reached : (size groups group local : List ℕ) → IsPlace groups group → IsPlace size local
    → (n : ℕ) × (n < volume groups * volume size) × (place groups (n / volume size) ≡ group) × (place size (n % volume size) ≡ local)
reached size groups group local (Parts gx gy gz ge ga gb gc) (Parts lx ly lz le la lb lc) =
    let g = number_of groups (gx ∷ gy ∷ gz ∷ []) in
    let l = number_of size (lx ∷ ly ∷ lz ∷ []) in
    let hg = number_below (slice_index groups 0) (slice_index groups 1) (slice_index groups 2) gx gy gz ga gb gc in
    let hl = number_below (slice_index size 0) (slice_index size 1) (slice_index size 2) lx ly lz la lb lc in
    let r = reached_at size groups g l hg hl in (
      g * volume size + l,
      r.0,
      ap (place groups) r.1 ∙ (place_of_number groups gx gy gz ga gb ∙ sym ge),
      ap (place size) r.2 ∙ (place_of_number size lx ly lz la lb ∙ sym le),
    )
