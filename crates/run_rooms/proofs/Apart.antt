-- Rooms by tables are rooms for the image.
use Rattle.std.proofs.Common.{◌≡◌, ◌≢◌, ℕ, zero, suc, ◌+◌, ◌<◌, ◌≤◌, true, false, cond, nat_eq, nat_le, List, length, Option, Some, None, ◌&&◌, slice_get, slice_index, refl, sym, ap, ◌∙◌, arith, subst, inl, inr}
use Rattle.std.proofs.lemmas.Bool.{and_parts, leb-true, cases_order, cases_eq, cond-true, ne_eqb}
use Rattle.std.proofs.lemmas.Option.{slice_get_within}
use Rattle.std.specs.Option.{option_map}
use Rattle.spirv_words.specs.declared.opcodes.Op.{Op}
use Rattle.spirv_words.specs.declared.images.Instruction.{Instruction}
use Rattle.spirv_words.specs.Machine.{place_of, if_some}
use Rattle.flat_values.specs.Flat.{width}
use Rattle.image_lookup.specs.Sorts.{sort_of, is_value_sort}
use Rattle.image_lookup.specs.Lookups.{sort, operand, is_value}
use Rattle.image_places.specs.Places.{function_of, op_at}
use Rattle.spirv_words.specs.declared.opcodes.Op.TheVariants.{Function, FunctionCall}
use Rattle.image_lookup.specs.declared.sorts.Sort.{Sort}
use Rattle.image_lookup.specs.declared.sorts.Sort.TheVariants.{Holder}
use Rattle.image_operands.specs.Marks.{is_variable_sort, is_variable}
use Rattle.image_facts.specs.Operands.{shape, is_local, is_built_in}
use Rattle.run_rooms.specs.declared.parts.Part.{Part}
use Rattle.run_rooms.specs.Rooms.{AreRooms, Cell, Slot, Room, Frame, Input, IsCell, IsFunction, IsNoRoom, IsCall, AreApart, cell_size, cell_place, cell_home, home_of, size_of, slot_size, room_size, input_size}
use Rattle.run_rooms.specs.Sums.{before}
use Rattle.run_rooms.specs.Layout.{Layout, IsLayout, IsPart, rooms_in, part_in, told, input_place, slot_words, room_words, slot_words_at, room_words_at, declares_local, called, called_by}
use Rattle.run_rooms.proofs.Sums.{before-behind}
use Rattle.run_rooms.proofs.Defined.{IsPlaced, value-placed, placed-apart, function_of-within}

-- ---- the parts of the words of a function

-- where its four kinds of words begin, in their order, and where the last ends
abbrev edge : Part → ℕ → ℕ
edge p zero = p.begin
edge p (suc zero) = p.rooms
edge p (suc (suc zero)) = p.frame
edge p (suc (suc (suc zero))) = p.frame + 2
edge p k = p.end

edge-next : (code : List Instruction) (f : ℕ) (p : Part) → IsPart code f p → (k : ℕ) → edge p k ≤ edge p (suc k)
edge-next code f p h zero = omega (arith, h.rooms)
edge-next code f p h (suc zero) = omega (arith, h.frame)
edge-next code f p h (suc (suc zero)) = omega arith
edge-next code f p h (suc (suc (suc zero))) = omega (arith, h.end)
edge-next code f p h (suc (suc (suc (suc k)))) = omega arith

edge-grows : (code : List Instruction) (f : ℕ) (p : Part) → IsPart code f p → (j k : ℕ) → j ≤ k → edge p j ≤ edge p k
edge-grows code f p h j zero l = let e : j ≡ 0 = omega arith in rw e (omega arith)
edge-grows code f p h j (suc k) l = elim (cases_eq j (suc k)) [
  | inl e ↦ rw e (omega arith)
  | inr n ↦ let r = edge-grows code f p h j k (omega arith) in let s = edge-next code f p h k in omega arith
]

-- words within one kind
record Bounds (p : Part) (kind place size : ℕ) : Type 0 where
  low : edge p kind ≤ place
  high : place + size ≤ edge p (suc kind)

abbrev kind : Cell → ℕ
kind (Input b) = 0
kind (Room x) = 1
kind (Frame f) = 2
kind (Slot x) = 3

pub op-within : (code : List Instruction) (p : ℕ) (o : Op) → op_at code p ≡ Some o → p < length code
op-within code p o e = by (slice_get code p) refl
  where
    by : (i : Option Instruction) → slice_get code p ≡ i → p < length code
    by None n = let x : op_at code p ≡ None = ap (option_map (λ (i : Instruction). i.op)) n in absurd cc
    by (Some i) s = slice_get_within code p i s

-- ---- tables

module _ (l : Layout) (h : IsLayout l) where
  slot-bounds : (k : ℕ) → k < length l.code → Bounds (part_in l.parts (function_of l.code k)) 3 (slice_index l.slots k) (slot_words_at l.code k)
  slot-bounds k lt =
      let f = function_of l.code k in
      let p = part_in l.parts f in
      let w = h.parts f (omega (arith, function_of-within l.code k)) in
      let s = h.slots k lt in
      let b = before-behind (function_of l.code) (slot_words_at l.code) f k (length l.code) refl lt in
      record { low = omega arith; high = omega (arith, w.end) }

  room-bounds : (k : ℕ) → k < length l.code → Bounds (part_in l.parts (function_of l.code k)) 1 (slice_index l.rooms k) (room_words_at l.code k)
  room-bounds k lt =
      let f = function_of l.code k in
      let w = h.parts f (omega (arith, function_of-within l.code k)) in
      let s = h.rooms k lt in
      let b = before-behind (function_of l.code) (room_words_at l.code) f k (length l.code) refl lt in
      record { low = omega arith; high = omega (arith, w.frame, w.count) }

  slots-behind : (f j k : ℕ) → function_of l.code j ≡ f → function_of l.code k ≡ f → j < k → k < length l.code
      → slice_index l.slots j + slot_words_at l.code j ≤ slice_index l.slots k
  slots-behind f j k ej ek jk lt =
      let start = λ (g : ℕ) (n : ℕ). (part_in l.parts g).frame + 2 + before (function_of l.code) (slot_words_at l.code) g n in
      let sj : slice_index l.slots j ≡ start f j = h.slots j (omega arith) ∙ ap (λ g. start g j) ej in
      let sk : slice_index l.slots k ≡ start f k = h.slots k lt ∙ ap (λ g. start g k) ek in
      let b = before-behind (function_of l.code) (slot_words_at l.code) f j k ej jk in
      omega arith

  rooms-behind : (f j k : ℕ) → function_of l.code j ≡ f → function_of l.code k ≡ f → j < k → k < length l.code
      → slice_index l.rooms j + room_words_at l.code j ≤ slice_index l.rooms k
  rooms-behind f j k ej ek jk lt =
      let start = λ (g : ℕ) (n : ℕ). (part_in l.parts g).rooms + before (function_of l.code) (room_words_at l.code) g n in
      let sj : slice_index l.rooms j ≡ start f j = h.rooms j (omega arith) ∙ ap (λ g. start g j) ej in
      let sk : slice_index l.rooms k ≡ start f k = h.rooms k lt ∙ ap (λ g. start g k) ek in
      let b = before-behind (function_of l.code) (room_words_at l.code) f j k ej jk in
      omega arith

-- ---- ids

module _ (code : List Instruction) (x : ℕ) (a : IsPlaced code x) where
  within-code : a.place < length code
  within-code = slice_get_within code a.place a.instruction a.stands

  told-is : (table : List ℕ) → told code table x ≡ slice_index table a.place
  told-is table = ap (λ o. if_some o 0 (λ p. slice_index table p)) a.there

  home-is : home_of code x ≡ function_of code a.place
  home-is = ap (λ o. if_some o 0 (λ p. function_of code p)) a.there

  first-is : (n : ℕ) → slice_index a.instruction.operands n ≡ operand code x n
  first-is n = ap (λ (os : List ℕ). slice_index os n) (sym a.operands_are)

  slot-size-is : is_value code x ≡ true → slot_words_at code a.place ≡ slot_size code x
  slot-size-is v =
      ap (λ o. if_some o 0 (slot_words code)) a.stands
      ∙ cond-true (is_value_sort (sort_of a.instruction.op)) (size_of code (slice_index a.instruction.operands 0)) 0 (ap is_value_sort (sym a.sort_is) ∙ v)
      ∙ ap (size_of code) (first-is 0)

  room-size-is : is_local code x ≡ true → room_words_at code a.place ≡ room_size code x
  room-size-is v =
      ap (λ o. if_some o 0 (room_words code)) a.stands
      ∙ cond-true (declares_local a.instruction) (if_some (shape code (operand code (slice_index a.instruction.operands 0) 2)) 0 width) 0
      (ap (λ s. is_variable_sort s && nat_eq (slice_index a.instruction.operands 2) 7) (sym a.sort_is) ∙ ap (λ n. is_variable_sort (sort code x) && nat_eq n 7) (first-is 2) ∙ v)
      ∙ ap (λ t. if_some (shape code (operand code t 2)) 0 width) (first-is 0)

-- ---- cells

input-low : (b : ℕ) → is_built_in b ≡ true → (26 ≤ b) × (b ≤ 29)
input-low b v = let r = and_parts (nat_le 26 b) (nat_le b 29) v in (leb-true 26 b r.0, leb-true b 29 r.1)

input-ends : (b : ℕ) → is_built_in b ≡ true → input_place b + input_size b ≤ 10
input-ends b v = let r = input-low b v in elim (cases_eq b 29) [
  | inl e ↦ rw e (omega arith)
  | inr n ↦ let s : input_size b ≡ 3 = ap (λ t. cond t 1 3) (ne_eqb b 29 n) in omega arith
]

input-size-low : (b : ℕ) → input_size b ≤ 3
input-size-low b = elim (nat_eq b 29) as (λ t. cond t 1 3 ≤ 3) [ true ↦ omega arith | false ↦ omega arith ]

local-value : (code : List Instruction) (x : ℕ) → is_local code x ≡ true → is_value code x ≡ true
local-value code x v = by (sort code x) (and_parts (is_variable code x) (nat_eq (operand code x 2) 7) v).0
  where
    by : (s : Sort) → is_variable_sort s ≡ true → is_value_sort s ≡ true
    by Holder e = refl
    by s e = absurd cc

module _ (l : Layout) (h : IsLayout l) (pairs : List (ℕ × ℕ)) where
  abbrev part-of : Cell → Part
  part-of c = part_in l.parts (cell_home l.code c)

  local-placed : (x : ℕ) → is_local l.code x ≡ true → IsPlaced l.code x
  local-placed x v = value-placed l.code x (local-value l.code x v)

  home-within : (c : Cell) → IsCell l.code c → cell_home l.code c ≤ length l.code
  home-within (Slot x) v = let a = value-placed l.code x v in omega (arith, home-is l.code x a, function_of-within l.code a.place, within-code l.code x a)
  home-within (Room x) v = let a = local-placed x v in omega (arith, home-is l.code x a, function_of-within l.code a.place, within-code l.code x a)
  home-within (Frame f) v = omega (arith, op-within l.code v.0 Function v.2, v.1)
  home-within (Input b) v = omega arith

  bounds : (c : Cell) → IsCell l.code c → Bounds (part_in l.parts (cell_home l.code c)) (kind c) (cell_place (rooms_in l pairs) c) (cell_size l.code c)
  bounds (Slot x) v =
      let a = value-placed l.code x v in
      let b = slot-bounds l h a.place (within-code l.code x a) in
      rw (home-is l.code x a, told-is l.code x a l.slots, ← slot-size-is l.code x a v) b
  bounds (Room x) v =
      let a = local-placed x v in
      let b = room-bounds l h a.place (within-code l.code x a) in
      rw (home-is l.code x a, told-is l.code x a l.rooms, ← room-size-is l.code x a v) b
  bounds (Frame f) v = record { low = omega arith; high = omega arith }
  bounds (Input b) v = record { low = omega (arith, h.first); high = omega (arith, (h.parts 0 (omega arith)).rooms, input-ends b v) }

  -- of two kinds of words of one function the one stands before the other
  kinds-behind : (f : ℕ) (c d : Cell) → IsCell l.code c → IsCell l.code d → cell_home l.code c ≡ f → cell_home l.code d ≡ f → kind c < kind d
      → cell_place (rooms_in l pairs) c + cell_size l.code c ≤ cell_place (rooms_in l pairs) d
  kinds-behind f c d ic id ec ed lt =
      let p = part_in l.parts f in
      let b = subst (λ (g : ℕ). Bounds (part_in l.parts g) (kind c) (cell_place (rooms_in l pairs) c) (cell_size l.code c)) ec (bounds c ic) in
      let e = subst (λ (g : ℕ). Bounds (part_in l.parts g) (kind d) (cell_place (rooms_in l pairs) d) (cell_size l.code d)) ed (bounds d id) in
      let w : f ≤ length l.code = subst (λ (g : ℕ). g ≤ length l.code) ec (home-within c ic) in
      let g = edge-grows l.code f p (h.parts f w) (suc (kind c)) (kind d) (omega arith) in
      omega (arith, b.high, e.low)

  -- two slots of one function
  slots-apart : (x y : ℕ) → is_value l.code x ≡ true → is_value l.code y ≡ true → (x ≡ y → ⊥) → home_of l.code x ≡ home_of l.code y
      → AreApart (told l.code l.slots x) (slot_size l.code x) (told l.code l.slots y) (slot_size l.code y)
  slots-apart x y v w n e =
      let a = value-placed l.code x v in
      let b = value-placed l.code y w in
      let ea = sym (home-is l.code x a) in
      let eb = sym (home-is l.code y b) ∙ sym e in
      let ta = told-is l.code x a l.slots in
      let tb = told-is l.code y b l.slots in
      let sa = slot-size-is l.code x a v in
      let sb = slot-size-is l.code y b w in
      let wa = within-code l.code x a in
      let wb = within-code l.code y b in
      elim (cases_order a.place b.place) [
        | inl same ↦ absurd (n (placed-apart l.code x y a b same))
        | inr (inl lt) ↦ inl (omega (arith, slots-behind l h (home_of l.code x) a.place b.place ea eb lt wb))
        | inr (inr gt) ↦ inr (omega (arith, slots-behind l h (home_of l.code x) b.place a.place eb ea gt wa))
      ]

  rooms-apart : (x y : ℕ) → is_local l.code x ≡ true → is_local l.code y ≡ true → (x ≡ y → ⊥) → home_of l.code x ≡ home_of l.code y
      → AreApart (told l.code l.rooms x) (room_size l.code x) (told l.code l.rooms y) (room_size l.code y)
  rooms-apart x y v w n e =
      let a = local-placed x v in
      let b = local-placed y w in
      let ea = sym (home-is l.code x a) in
      let eb = sym (home-is l.code y b) ∙ sym e in
      let ta = told-is l.code x a l.rooms in
      let tb = told-is l.code y b l.rooms in
      let sa = room-size-is l.code x a v in
      let sb = room-size-is l.code y b w in
      let wa = within-code l.code x a in
      let wb = within-code l.code y b in
      elim (cases_order a.place b.place) [
        | inl same ↦ absurd (n (placed-apart l.code x y a b same))
        | inr (inl lt) ↦ inl (omega (arith, rooms-behind l h (home_of l.code x) a.place b.place ea eb lt wb))
        | inr (inr gt) ↦ inr (omega (arith, rooms-behind l h (home_of l.code x) b.place a.place eb ea gt wa))
      ]

  inputs-apart : (b e : ℕ) → is_built_in b ≡ true → is_built_in e ≡ true → (b ≡ e → ⊥) → AreApart (input_place b) (input_size b) (input_place e) (input_size e)
  inputs-apart b e v w n =
      let x = input-low b v in
      let y = input-low e w in
      let sb = input-size-low b in
      let se = input-size-low e in
      elim (cases_order b e) [
        | inl same ↦ absurd (n same)
        | inr (inl lt) ↦ inl (omega arith)
        | inr (inr gt) ↦ inr (omega arith)
      ]

  same-kind : (c d : Cell) → IsCell l.code c → IsCell l.code d → c ≢ d → cell_home l.code c ≡ cell_home l.code d → kind c ≡ kind d
      → AreApart (cell_place (rooms_in l pairs) c) (cell_size l.code c) (cell_place (rooms_in l pairs) d) (cell_size l.code d)
  same-kind (Slot x) (Slot y) v w n e k = slots-apart x y v w (λ s. n (ap Slot s)) e
  same-kind (Room x) (Room y) v w n e k = rooms-apart x y v w (λ s. n (ap Room s)) e
  same-kind (Frame f) (Frame g) v w n e k = absurd (n (ap Frame e))
  same-kind (Input b) (Input d) v w n e k = inputs-apart b d v w (λ s. n (ap Input s))
  same-kind c d v w n e k = absurd (omega arith)

  cells-apart : (c d : Cell) → IsCell l.code c → IsCell l.code d → c ≢ d → cell_home l.code c ≡ cell_home l.code d
      → AreApart (cell_place (rooms_in l pairs) c) (cell_size l.code c) (cell_place (rooms_in l pairs) d) (cell_size l.code d)
  cells-apart c d v w n e = elim (cases_order (kind c) (kind d)) [
    | inl same ↦ same-kind c d v w n e same
    | inr (inl lt) ↦ inl (kinds-behind (cell_home l.code c) c d v w refl (sym e) lt)
    | inr (inr gt) ↦ inr (kinds-behind (cell_home l.code c) d c w v (sym e) refl gt)
  ]

  cell-within : (c : Cell) → IsCell l.code c
      → ((part-of c).begin ≤ cell_place (rooms_in l pairs) c) × (cell_place (rooms_in l pairs) c + cell_size l.code c ≤ (part-of c).end)
  cell-within c v =
      let f = cell_home l.code c in
      let p = part_in l.parts f in
      let w = h.parts f (home-within c v) in
      let b = bounds c v in
      let low = edge-grows l.code f p w 0 (kind c) (omega arith) in
      let high = edge-grows l.code f p w (suc (kind c)) 4 (last c) in
      (omega (arith, b.low), omega (arith, b.high))
    where
      last : (c : Cell) → suc (kind c) ≤ 4
      last (Slot x) = omega arith
      last (Room x) = omega arith
      last (Frame f) = omega arith
      last (Input b) = omega arith

  out-of-rooms : (c : Cell) (f : ℕ) → IsCell l.code c → IsFunction l.code f → cell_home l.code c ≡ f → IsNoRoom c
      → AreApart (cell_place (rooms_in l pairs) c) (cell_size l.code c) (part_in l.parts f).rooms (part_in l.parts f).rooms_count
  out-of-rooms c f v g e n =
      let w : f ≤ length l.code = subst (λ (g : ℕ). g ≤ length l.code) e (home-within c v) in
      let b = subst (λ (g : ℕ). Bounds (part_in l.parts g) (kind c) (cell_place (rooms_in l pairs) c) (cell_size l.code c)) e (bounds c v) in
      let p = h.parts f w in
      by c b n p
    where
      by : (c : Cell) → Bounds (part_in l.parts f) (kind c) (cell_place (rooms_in l pairs) c) (cell_size l.code c) → IsNoRoom c → IsPart l.code f (part_in l.parts f)
          → AreApart (cell_place (rooms_in l pairs) c) (cell_size l.code c) (part_in l.parts f).rooms (part_in l.parts f).rooms_count
      by (Slot x) b n p = inr (omega (arith, b.low, p.frame))
      by (Room x) b n p = absurd n
      by (Frame g) b n p = inr (omega (arith, b.low, p.frame))
      by (Input i) b n p = inl (omega (arith, b.high))

  room-held : (x : ℕ) → is_local l.code x ≡ true
      → ((part_in l.parts (home_of l.code x)).rooms ≤ told l.code l.rooms x)
      × (told l.code l.rooms x + room_size l.code x ≤ (part_in l.parts (home_of l.code x)).rooms + (part_in l.parts (home_of l.code x)).rooms_count)
  room-held x v =
      let b = bounds (Room x) v in
      let p = h.parts (home_of l.code x) (home-within (Room x) v) in
      (omega (arith, b.low), omega (arith, b.high, p.frame))

  called-is : (i : Instruction) (t r f p : ℕ) (arguments : List ℕ) → IsCall i t r f arguments → place_of l.code f 0 ≡ Some p → called l.code i ≡ Some (suc p)
  called-is i t r f p arguments c e =
      ap (λ op. called_by l.code op i.operands) c.op ∙ ap (λ (os : List ℕ). called_by l.code FunctionCall os) c.operands ∙ ap (option_map suc) e

  pub are-rooms : AreRooms l.code (rooms_in l pairs)
  are-rooms = record {
    first = h.first;
    within = cell-within;
    apart = cells-apart;
    behind = λ f g. (subst (λ (n : ℕ). (part_in l.parts 0).end ≤ (part_in l.parts n).begin) (sym g.1) (h.behind g.0 (omega (arith, op-within l.code g.0 Function g.2))), h.within f (omega (arith, op-within l.code g.0 Function g.2, g.1)));
    inside = h.within 0 (omega arith);
    calls = λ k p i t r f arguments s c e. h.calls k (suc p) i s (called-is i t r f p arguments c e);
    rooms_within = λ f g.
        let w = h.parts f (omega (arith, op-within l.code g.0 Function g.2, g.1)) in
        (omega (arith, w.rooms), omega (arith, w.frame, w.end));
    rooms_hold = room-held;
    rooms_apart = out-of-rooms;
    small = h.small;
  }
