-- Rows of members, one more at a time, and buffers by their places.
use Rattle.std.proofs.Common.{◌^◌, ◌≤◌, ◌⊎◌, Bool, true, false, cond, get_or, Option, None, ◌≡◌, ℕ, zero, suc, ◌+◌, ◌<◌, inl, inr, add-one, List, [], ◌∷◌, ◌++◌, take, map, length, slice_get, slice_index_or, Some, refl, sym, ap, ◌∙◌, subst, arith}
use Rattle.std.proofs.lemmas.Option.{slice_get_within}
use Rattle.std.proofs.lemmas.List.{length-append}
use Rattle.std.specs.Prelude.{nat_eq}
use Rattle.std.specs.Global.{Vec}
use Rattle.std.specs.HashMap.{HashMap, get}
use Rattle.std.proofs.lemmas.Bool.{eq-eqb, eqb-true}
use Rattle.spirv_words.specs.declared.opcodes.Op.{Op}
use Rattle.spirv_words.specs.declared.opcodes.Op.TheVariants.{TypeStruct}
use Rattle.spirv_words.specs.declared.images.Instruction.{Instruction}
use Rattle.spirv_words.specs.Machine.{First, if_some, result_at, result_of}
use Rattle.image_lookup.specs.declared.sorts.Sort.TheVariants.{StructType}
use Rattle.image_lookup.specs.Lookups.{sort}
use Rattle.image_facts.proofs.Made.{place-of}
use Rattle.image_facts.proofs.Sorts.{sorted, op-struct}
use Rattle.flat_values.specs.Flat.{width}
use Rattle.image_facts.specs.Operands.{shape}
use Rattle.run_plans.specs.Walks.{total_width}
use Rattle.run_plans.specs.Members.{items_in, row_in, IsRow, IsRowOf, IsFull, IsFullOf, AreRows, AreRowsTo}
use Rattle.run_plans.proofs.Placed.{some_same}
use Rattle.run_plans.proofs.Acting.{get_early, get_last, below_or_last}

-- the places of the first so many members, and where the next one stands
pub record IsRowTo (code : List Instruction) (members : List ℕ) (n : ℕ) (row : List ℕ) (place : ℕ) : Type 0 where
  pub as_many : length row ≡ n
  pub next : place ≡ total_width code (take n members)
  pub tells : IsRow code members row

module _ (code : List Instruction) where
  total_more : (ms : List ℕ) (k : ℕ) → k < length ms
      → total_width code (take (suc k) ms) ≡ total_width code (take k ms) + if_some (shape code (slice_index_or ms k 0)) 0 width
  total_more [] k lt = absurd (omega arith)
  total_more (m ∷ ms) zero lt = swapped (if_some (shape code m) 0 width)
    where
      swapped : (w : ℕ) → w + 0 ≡ 0 + w
      swapped w = omega arith
  total_more (m ∷ ms) (suc k) lt =
      ap (λ n. if_some (shape code m) 0 width + n) (total_more ms k (omega arith))
      ∙ regroup (if_some (shape code m) 0 width) (total_width code (take k ms)) (if_some (shape code (slice_index_or ms k 0)) 0 width)
    where
      regroup : (a b c : ℕ) → a + (b + c) ≡ a + b + c
      regroup a b c = omega arith

  pub row_begins : (ms row : List ℕ) → row ≡ [] → IsRowTo code ms 0 row 0
  row_begins ms row e = record {
    as_many = ap (λ (xs : List ℕ). length xs) e;
    next = refl;
    tells = record { tells = λ n p at. absurd (never n p (sym (ap (λ (xs : List ℕ). slice_get xs n) e) ∙ at)) };
  }
    where
      never : (n p : ℕ) → slice_get {X = ℕ} [] n ≡ Some p → ⊥
      never n p e = grind arith

  -- the row with the next place
  pub row_pushed : (ms : List ℕ) (k : ℕ) (row now : List ℕ) (place : ℕ) → IsRowTo code ms k row place → now ≡ row ++ place ∷ [] → IsRow code ms now
  row_pushed ms k row now place r e = record {
    tells = λ n p at.
        let here : slice_get (row ++ place ∷ []) n ≡ Some p = sym (ap (λ (xs : List ℕ). slice_get xs n) e) ∙ at in
        elim (below_or_last n k (subst (λ (m : ℕ). n < m) (longer ∙ ap (λ m. m + 1) r.as_many) (slice_get_within (row ++ place ∷ []) n p here))) [
          | inl below ↦ r.tells.tells n p (sym (get_early row (place ∷ []) n (subst (λ (m : ℕ). n < m) (sym r.as_many) below)) ∙ here)
          | inr same ↦ sym (some_same (sym (ap (λ m. slice_get (row ++ place ∷ []) m) (same ∙ sym r.as_many) ∙ get_last row place) ∙ here))
              ∙ r.next ∙ ap (λ m. total_width code (take m ms)) (sym same)
        ];
  }
    where
      longer : length (row ++ place ∷ []) ≡ length row + 1
      longer = length-append row (place ∷ [])

  pub row_goes : (ms : List ℕ) (k : ℕ) (row now : List ℕ) (place next : ℕ) → k < length ms → IsRowTo code ms k row place → now ≡ row ++ place ∷ []
      → next ≡ place + if_some (shape code (slice_index_or ms k 0)) 0 width → IsRowTo code ms (k + 1) now next
  row_goes ms k row now place next lt r e f = record {
    as_many = ap (λ (xs : List ℕ). length xs) e ∙ length-append row (place ∷ []) ∙ ap (λ m. m + 1) r.as_many;
    next = f ∙ ap (λ n. n + if_some (shape code (slice_index_or ms k 0)) 0 width) r.next ∙ sym (total_more ms k lt)
        ∙ ap (λ m. total_width code (take m ms)) (sym (add-one k));
    tells = row_pushed ms k row now place r e;
  }

  -- places only grow
  total_grows : (ms : List ℕ) (j k : ℕ) → j ≤ k → total_width code (take j ms) ≤ total_width code (take k ms)
  total_grows [] j k le = ends j k
    where
      ends : (j k : ℕ) → total_width code (take j []) ≤ total_width code (take k [])
      ends zero zero = omega arith
      ends zero (suc k) = omega arith
      ends (suc j) zero = omega arith
      ends (suc j) (suc k) = omega arith
  total_grows (m ∷ ms) zero k le = omega arith
  total_grows (m ∷ ms) (suc j) zero le = absurd (omega arith)
  total_grows (m ∷ ms) (suc j) (suc k) le = let r = total_grows ms j k (omega arith) in omega arith

  there_is : (xs : List ℕ) (n : ℕ) → n < length xs → (x : ℕ) × (slice_get xs n ≡ Some x)
  there_is [] n l = absurd (omega arith)
  there_is (x ∷ xs) zero l = (x, refl)
  there_is (x ∷ xs) (suc n) l = there_is xs n (omega arith)

  -- a row of all members is full
  pub row_ends : (ms : List ℕ) (k : ℕ) (row : List ℕ) (place : ℕ) → IsRowTo code ms k row place → length ms ≤ k → IsFull code ms row
  row_ends ms k row place r le = record { many = λ n l small. there_is row n (omega (arith, r.as_many)) }

  -- and one behind whose last place no further one is told
  pub row_stops : (ms : List ℕ) (k : ℕ) (row now : List ℕ) (place : ℕ) → k < length ms → IsRowTo code ms k row place → now ≡ row ++ place ∷ []
      → 2 ^ 32 ≤ place + if_some (shape code (slice_index_or ms k 0)) 0 width → IsFull code ms now
  row_stops ms k row now place lt r e far = record { many = λ n l small. by n small (split n k) }
    where
      long : length now ≡ k + 1
      long = ap (λ (xs : List ℕ). length xs) e ∙ length-append row (place ∷ []) ∙ ap (λ m. m + 1) r.as_many

      split : (n k : ℕ) → (n ≤ k) ⊎ (suc k ≤ n)
      split zero k = inl (omega arith)
      split (suc n) zero = inr (omega arith)
      split (suc n) (suc k) = up (split n k)
        where
          up : (n ≤ k) ⊎ (suc k ≤ n) → (suc n ≤ suc k) ⊎ (suc (suc k) ≤ suc n)
          up (inl a) = inl (omega arith)
          up (inr b) = inr (omega arith)

      by : (n : ℕ) → total_width code (take n ms) < 2 ^ 32 → (n ≤ k) ⊎ (suc k ≤ n) → (p : ℕ) × (slice_get now n ≡ Some p)
      by n small (inl a) = there_is now n (omega (arith, long))
      by n small (inr b) =
          let g = total_grows ms (suc k) n b in
          absurd (omega (arith, total_more ms k lt, r.next, far, g, small))

-- ---- structs

first_by : (os : List ℕ) (t : ℕ) → result_at First os ≡ Some t → (rest : List ℕ) × (os ≡ t ∷ rest)
first_by [] t e = cc
first_by (x ∷ os) t e = let same : x ≡ t = cc in (os, ap (λ y. y ∷ os) same)

-- a struct is declared by an instruction
pub record IsStruct (code : List Instruction) (t : ℕ) : Type 0 where
  pub number : ℕ
  pub rest : List ℕ
  pub stands : slice_get code number ≡ Some (record { op = TypeStruct; operands = t ∷ rest })

pub struct_stands : (code : List Instruction) (t : ℕ) → sort code t ≡ StructType → IsStruct code t
struct_stands code t h =
    let z = sorted code t StructType h (λ e. cc) in
    let x = z.instruction in
    let p = place-of code t x z.defines in
    let o = op-struct x.op z.of_sort in
    let begins = first_by x.operands t (ap (λ (q : Op). result_of q x.operands) (sym o) ∙ p.result) in
    record { number = p.place; rest = begins.0; stands = p.stands ∙ formed x t begins.0 o begins.1 }
  where
    formed : (x : Instruction) (t : ℕ) (rest : List ℕ) → x.op ≡ TypeStruct → x.operands ≡ t ∷ rest → Some x ≡ Some (record { op = TypeStruct; operands = t ∷ rest })
    formed x t rest o e =
        ap (λ (q : Op). Some (record { op = q; operands = x.operands })) o ∙ ap (λ (os : List ℕ). Some (record { op = TypeStruct; operands = os })) e

module _ {S : Type 0} (code : List Instruction) where
  pub all_rows : (n : ℕ) (known : HashMap ℕ (Vec ℕ) S) → AreRowsTo code n known → length code ≤ n → AreRows code known
  all_rows n known r le = record {
    each = r.each;
    full = λ t h.
        let s = struct_stands code t h in
        r.full s.number t s.rest (within s.number (slice_get_within code s.number _ s.stands)) s.stands;
  }
    where
      within : (k : ℕ) → k < length code → k < n
      within k l = omega arith

  -- no row is added
  pub rows_stay : (n : ℕ) (i : Instruction) (known : HashMap ℕ (Vec ℕ) S) → slice_get code n ≡ Some i
      → ((t : ℕ) (rest : List ℕ) → i ≡ record { op = TypeStruct; operands = t ∷ rest } → ⊥) → AreRowsTo code n known → AreRowsTo code (n + 1) known
  rows_stay n i known at none r = record {
    each = r.each;
    full = λ k t rest l there. by k t rest there (below_or_last k n l);
  }
    where
      by : (k t : ℕ) (rest : List ℕ) → slice_get code k ≡ Some (record { op = TypeStruct; operands = t ∷ rest }) → (k < n) ⊎ (k ≡ n)
          → IsFullOf code t (row_in known t)
      by k t rest there (inl below) = r.full k t rest below there
      by k t rest there (inr last) = absurd (none t rest (some_same (sym at ∙ ap (slice_get code) (sym last) ∙ there)))

  -- a row is added
  pub rows_more : (n x : ℕ) (others : List ℕ) (known now : HashMap ℕ (Vec ℕ) S) (row : Vec ℕ)
      → slice_get code n ≡ Some (record { op = TypeStruct; operands = x ∷ others })
      → ((q : ℕ) → get nat_eq now q ≡ cond (nat_eq x q) (Some row) (get nat_eq known q)) → IsRowOf code x row.items → IsFullOf code x row.items
      → AreRowsTo code n known → AreRowsTo code (n + 1) now
  rows_more n x others known now row at more is full r = record {
    each = λ t. subst (λ (items : List ℕ). IsRowOf code t items) (sym (ap items_in (more t))) (each_by t (nat_eq x t) refl);
    full = λ k t rest l there. subst (λ (items : List ℕ). IsFullOf code t items) (sym (ap items_in (more t))) (full_by k t rest there (nat_eq x t) refl (below_or_last k n l));
  }
    where
      each_by : (t : ℕ) (b : Bool) → nat_eq x t ≡ b → IsRowOf code t (items_in (cond b (Some row) (get nat_eq known t)))
      each_by t true e = subst (λ (t : ℕ). IsRowOf code t row.items) (eqb-true x t e) is
      each_by t false e = r.each t

      struct_of : ℕ → List ℕ → Instruction
      struct_of t rest = record { op = TypeStruct; operands = t ∷ rest }

      differ : (t : ℕ) (rest : List ℕ) → nat_eq x t ≡ false → struct_of x others ≡ struct_of t rest → ⊥
      differ t rest e same =
          let q : x ≡ t = ap (λ (i : Instruction). get_or i.operands 0 0) same in
          no_bool (sym e ∙ eq-eqb x t q)
        where
          no_bool : false ≡ true → ⊥
          no_bool e = cc

      full_by : (k t : ℕ) (rest : List ℕ) → slice_get code k ≡ Some (record { op = TypeStruct; operands = t ∷ rest }) → (b : Bool) → nat_eq x t ≡ b
          → (k < n) ⊎ (k ≡ n) → IsFullOf code t (items_in (cond b (Some row) (get nat_eq known t)))
      full_by k t rest there true e c = subst (λ (t : ℕ). IsFullOf code t row.items) (eqb-true x t e) full
      full_by k t rest there false e (inl below) = r.full k t rest below there
      full_by k t rest there false e (inr last) = absurd (differ t rest e (some_same (sym at ∙ ap (slice_get code) (sym last) ∙ there)))

  pub none_known : (known : HashMap ℕ (Vec ℕ) S) → ((q : ℕ) → get nat_eq known q ≡ None) → AreRowsTo code 0 known
  none_known known none = record {
    each = λ t. record { tells = λ n p at. absurd (never n p (sym (ap (λ (o : Option (Vec ℕ)). slice_get (items_in o) n) (none t)) ∙ at)) };
    full = λ k t rest l. absurd (no_number k l);
  }
    where
      never : (n p : ℕ) → slice_get {X = ℕ} [] n ≡ Some p → ⊥
      never n p e = grind arith

      no_number : (k : ℕ) → k < 0 → ⊥
      no_number k l = omega arith
