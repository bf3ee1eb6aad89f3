-- Variables, loads and stores, in variables and in buffers.
use Rattle.std.proofs.Common.{◌≡◌, ◌≢◌, ℕ, zero, suc, ◌+◌, ◌-◌, ◌*◌, ◌/◌, ◌^◌, ◌<◌, ◌≤◌, ◌⊎◌, inl, inr, min, Bool, true, false, ◌&&◌, cond, nat_eq, List, [], ◌∷◌, length, Option, Some, None, slice_index, refl, sym, ap, subst, ◌∙◌, add-one, arith}
use Rattle.std.specs.Prelude.{slice_get}
use Rattle.std.specs.Option.{option_map}
use Rattle.std.specs.List.{AllByRecursion}
use Rattle.std.proofs.lemmas.Bool.{and_parts, and_from, or_cases, eqb-true, eq-eqb}
use Rattle.behavior.specs.Values.{Value, Word, Way, Found, part, put_part}
use Rattle.behavior.specs.Meanings.{Ids}
use Rattle.spirv_words.specs.declared.opcodes.Op.{Op}
use Rattle.spirv_words.specs.declared.opcodes.Op.TheVariants.{Variable, Load, Store}
use Rattle.spirv_words.specs.declared.images.Instruction.{Instruction}
use Rattle.spirv_words.specs.Machine.{Shape, Words, PointerTo, Root, Local, Input, Operand, Plain, Path, InBuffer, place_of, result_of, pointed, if_some}
use Rattle.spirv_words.specs.Step.{State, Turn, Goes, Reads, Writes, IsStuck, gives, next, level, held, put, load, store, variable, with_plain, with_word, with_some, with_found}
use Rattle.spirv_words.specs.Runs.{setting}
use Rattle.flat_values.specs.Flat.{flat, width, IsOf}
use Rattle.flat_values.specs.Pieces.{Piece, At, piece, IsPart, IsReplaced}
use Rattle.flat_values.specs.Ranges.{Stands, written}
use Rattle.flat_values.proofs.Parts.{part_stands}
use Rattle.flat_values.proofs.Replaced.{put_part_stands}
use Rattle.run_actions.specs.declared.actions.Action.TheVariants.{Put, Load as LoadWords, Store as StoreWords, Read, Write}
use Rattle.run_actions.specs.Ranges.{put_at}
use Rattle.run_actions.specs.Steps.{FlatTurn, Goes as GoesTo, Reads as ReadsWord, Writes as WritesWord, act as flat_act, goes_on, load as load_words, store as store_words, read, write}
use Rattle.action_laws.proofs.Acts.{loaded_is, stored_is, read_is, wrote_is}
use Rattle.action_laws.proofs.Calls.{put_is}
use Rattle.image_lookup.specs.Lookups.{sort, operand, is_value}
use Rattle.image_places.specs.Places.{function_of}
use Rattle.image_declarations.specs.Holdings.{is_data, has_type}
use Rattle.image_declarations.specs.Reach.{is_buffer_class}
use Rattle.image_operands.specs.Operators.{is_int}
use Rattle.image_operands.specs.Memory.{is_pointer, load_fits, store_fits, loads, stores}
use Rattle.image_operands.specs.Marks.{is_variable, is_variable_sort}
use Rattle.image_rules.specs.Blocks.{is_ending}
use Rattle.image_types.specs.declared.rules.Rule.TheVariants.{Loading, Storing}
use Rattle.image_scopes.specs.Scopes.{IsSeen}
use Rattle.image_facts.specs.Alike.{IsLike, reach}
use Rattle.image_facts.specs.Operands.{shape, type_id, is_local, root_shape, IsClassOf, LeadsTo, LeadsInto, Suits}
use Rattle.image_facts.proofs.Likes.{like-of, part-found, put-found, piece-shifts}
use Rattle.typed_runs.specs.States.{IsTyped, Keeps}
use Rattle.typed_runs.proofs.Types.{of_int, four_parts, typed_as, pointer_not_void}
use Rattle.typed_runs.proofs.Going.{At as AtPlace, made_operands, made_sort}
use Rattle.typed_runs.proofs.Operands.{Uses, pointer_of, suits_like, suits_word}
use Rattle.typed_runs.proofs.Operators.{rule}
use Rattle.typed_runs.proofs.Memory.{IsHeld, root_holds, variable_keeps, load_keeps, store_keeps}
use Rattle.run_rooms.specs.Rooms.{Rooms, size_of, slot_size, room_size, home_of}
use Rattle.run_plans.specs.Actions.{is_in_buffer}
use Rattle.run_plans.specs.Plans.{base_of, address_of, place_in, words_of, number_in, word_of_byte, set_of, binding_of}
use Rattle.run_laws.specs.Laid.{function_at, IsInside, LeadsNear}
use Rattle.run_laws.specs.Together.{IsWord, Together, Follows}
use Rattle.run_laws.proofs.Known.{IsLocal}
use Rattle.run_laws.proofs.Homes.{at_top}
use Rattle.run_laws.proofs.Same.{home_at}
use Rattle.run_laws.proofs.Counting.{like_count, data_size, pointer_size, class_of_root, room_count, words_count}
use Rattle.run_laws.proofs.Bounds.{words_there}
use Rattle.run_laws.proofs.Writing.{Setup, Holds, holds_moves}
use Rattle.run_laws.proofs.Acting.{Ready, IsResult, at_of, laid_of, holds_of, typed_of, together_from, there_of, type_of_result, result_inside, result_typed, result_together, same_function, next_seen, goes_together}
use Rattle.run_laws.proofs.Operands.{follows_plain, follows_some, follows_word, follows_flat, IsThere, value_there, IsWordThere, word_there}
use Rattle.run_laws.proofs.Storing.{piece_within, room_written}

some_value : {a b : Value} → Some a ≡ Some b → a ≡ b
some_value e = cc

pub some_number : {a b : ℕ} → Some a ≡ Some b → a ≡ b
some_number e = cc

some_shape : {a b : Shape} → Some a ≡ Some b → a ≡ b
some_shape e = cc

-- where a typed pointer into a variable, or into a built-in value, leads among the words
pub record Found' (code : List Instruction) (L : Rooms) (ids : Ids) (lengths : ℕ → ℕ → ℕ) (s : State) (ws : List ℕ) (root : Root) (path : List ℕ)
    (whole of : Shape) : Type 0 where
  pub value : Value
  pub is : held (setting code ids lengths) s root ≡ Some value
  pub like : IsLike value whole
  pub of_whole : IsOf value whole
  pub stands : Stands (flat value) (base_of L root) ws
  pub part' : Value
  pub found : part value path ≡ Found part'
  pub part_like : IsLike part' of
  pub place : ℕ
  pub at : piece whole path (base_of L root) ≡ At place of
  pub part_stands' : Stands (flat part') place ws
  pub address : address_of code L root path ≡ place

module _ (code : List Instruction) (L : Rooms) (ids : Ids) (lengths : ℕ → ℕ → ℕ) (counts : List ℕ) (m : Setup code L lengths counts) where
  root_stands : (s : State) (ws : List ℕ) (root : Root) (path : List ℕ) (class : ℕ) (v : Value) → Together code L ids lengths s s.place ws → IsClassOf code root class
      → LeadsNear code lengths s.place s.below (Path root path) → held (setting code ids lengths) s root ≡ Some v → Stands (flat v) (base_of L root) ws
  root_stands s ws (Local l x) path class v t c near e =
      subst (λ (w : Value). Stands (flat w) (L.room x) ws) (some_value e) (t.stored l x near.0 c.1 near.1)
  root_stands s ws (Input b) path class v t c near e = t.given b v e

  pub leads_there : (s : State) (ws : List ℕ) (op : Op) (os : List ℕ) (root : Root) (path : List ℕ) (t : ℕ) (h : LeadsTo code root path t)
      → Ready code L ids lengths s ws op os → LeadsNear code lengths s.place s.below (Path root path)
      → Found' code L ids lengths s ws root path h.whole h.part
  leads_there s ws op os root path t h a near =
      let v = root_holds code m.known.facts ids lengths s root h.whole (operand code t 1) a.together.typed h.class h.holds in
      let stands = root_stands s ws root path (operand code t 1) v.value a.together h.class near v.is in
      let of = like-of v.value h.whole v.like (words_there (flat v.value) ws (base_of L root) stands a.are_words) in
      let f = part-found v.value h.whole h.part path 0 h.place v.like h.found in
      let z : base_of L root ≡ base_of L root + 0 = omega arith in
      let at : piece h.whole path (base_of L root) ≡ At (base_of L root + h.place) h.part =
      ap (piece h.whole path) z ∙ piece-shifts h.whole path 0 (base_of L root) h.place h.part h.found in
      let p = subst (λ (w : Way). IsPart w (At (base_of L root + h.place) h.part) ws) f.1
      (subst (λ (q : Piece). IsPart (part v.value path) q ws) at (part_stands v.value h.whole path (base_of L root) ws of stands)) in
      record {
        value = v.value;
        is = v.is;
        like = v.like;
        of_whole = of;
        stands = stands;
        part' = f.0;
        found = f.1;
        part_like = f.2;
        place = base_of L root + h.place;
        at = at;
        part_stands' = p.1;
        address = ap (λ o. if_some o 0 (λ w. place_in (piece w path (base_of L root)))) h.holds ∙ ap place_in at;
      }

  -- ---- variables

  pub variable_together : (s : State) (ws : List ℕ) (t r class : ℕ) → Ready code L ids lengths s ws Variable (t ∷ r ∷ class ∷ [])
      → Follows code L ids lengths s.place ws (variable (setting code ids lengths) s r class) (goes_on (s.place + 1) (put_at ws (L.slot r) (L.room r)))
  variable_together s ws t r class a =
      by (nat_eq class 7) refl (variable_keeps code m.known.facts ids lengths s t r class (at_of code L ids lengths counts m s ws Variable (t ∷ r ∷ class ∷ []) a))
    where
      by : (b : Bool) → nat_eq class 7 ≡ b → Keeps code (cond b (Goes (gives s r (Path (Local (level s) r) []))) IsStuck)
          → Follows code L ids lengths s.place ws (cond b (Goes (gives s r (Path (Local (level s) r) []))) IsStuck) (goes_on (s.place + 1) (put_at ws (L.slot r) (L.room r)))
      by false e keeps = absurd keeps
      by true e keeps =
          let i : IsResult Variable = record { goes_on = refl; second = refl; valued = refl } in
          let there = there_of code L ids lengths counts m s ws Variable t r (class ∷ []) a i in
          let kind = type_of_result code L ids lengths counts m s ws Variable t r (class ∷ []) a i in
          let it : Instruction = record { op = Variable; operands = t ∷ r ∷ class ∷ [] } in
          let third : operand code r 2 ≡ class = ap (λ l. slice_index l 2) (made_operands code s.place r it a.stands there) in
          let holder : is_variable code r ≡ true = ap is_variable_sort (made_sort code s.place r it a.stands there) in
          let local : is_local code r ≡ true =
          and_from (is_variable code r) (nat_eq (operand code r 2) 7) holder (eq-eqb (operand code r 2) 7 (third ∙ eqb-true class 7 e)) in
          let l = m.known.local_is r local in
          let holds : root_shape code (Local (level s) r) ≡ Some l.form = ap (option_map pointed) l.of in
          let n : size_of code t ≡ 1 =
          ap (size_of code) (sym kind) ∙ pointer_size code (type_id code r) false l.pointer (ap is_buffer_class l.class) in
          let address : address_of code L (Local (level s) r) [] ≡ L.room r = ap (λ o. if_some o 0 (λ w. place_in (piece w [] (L.room r)))) holds in
          let inside : L.slot r < length ws = omega (arith, result_inside code L ids lengths counts m s ws Variable t r (class ∷ []) a i, n) in
          follows_flat code L ids lengths s.place ws (Goes (gives s r (Path (Local (level s) r) []))) _ (GoesTo (s.place + 1) (written ws (L.slot r) (L.room r ∷ [])))
          (ap (goes_on (s.place + 1)) (put_is ws (L.slot r) (L.room r) inside))
          (subst (λ (w : ℕ). Together code L ids lengths (gives s r (Path (Local (level s) r) [])) (s.place + 1) (written ws (L.slot r) (w ∷ []))) address
          (result_typed code L ids lengths counts m s ws Variable t r (class ∷ []) (Path (Local (level s) r) []) (s.place + 1) a i keeps (sym n)
          (omega arith, home_at code r s.place there ∙ sym (at_top code s.place s.below)) refl))

  -- ---- buffers

  number_is : (set binding : ℕ) (form : Shape) (t : ℕ) → LeadsInto code set binding form t
      → slice_get L.buffers (number_in L.buffers (set, binding)) ≡ Some (set, binding)
  number_is set binding form t h =
      subst (λ (x : ℕ). slice_get L.buffers (number_in L.buffers (x, binding)) ≡ Some (x, binding)) (sym h.its_set)
      (subst (λ (y : ℕ). slice_get L.buffers (number_in L.buffers (set_of code h.variable, y)) ≡ Some (set_of code h.variable, y)) (sym h.its_binding)
      (m.buffers.each h.variable h.buffer))

  count_small : (xs : List ℕ) (n w : ℕ) → slice_get xs n ≡ Some w → AllByRecursion IsWord xs → w < 2 ^ 32
  count_small (x ∷ xs) zero w e h = let f : x ≡ w = some_number e in subst (λ (y : ℕ). y < 2 ^ 32) f h.0
  count_small (x ∷ xs) (suc n) w e h = count_small xs n w e h.1
  count_small [] n w e h = cc

  inside_word : (byte words : ℕ) (b : Bool) → IsInside byte (Words b) words → words < 2 ^ 32 → (word_of_byte byte ≡ byte / 4) × (byte / 4 < words)
  inside_word byte words b h l =
      let e = h.ends (λ (z : 4 ≡ 0). absurd (omega arith)) in
      let n : byte + 4 ≤ 4 * words = e in
      (omega arith, omega arith)

  -- a typed pointer to a word of a buffer: its number and its word, and that the word is there
  pub record IsWordOf (set binding byte : ℕ) : Type 0 where
    pub number : slice_get L.buffers (number_in L.buffers (set, binding)) ≡ Some (set, binding)
    pub word : word_of_byte byte ≡ byte / 4
    pub inside : byte / 4 < lengths set binding

  word_in_buffer : (set binding byte t : ℕ) (b : Bool) → LeadsInto code set binding (Words b) t → IsInside byte (Words b) (lengths set binding)
      → IsWordOf set binding byte
  word_in_buffer set binding byte t b h inside =
      let n = number_is set binding (Words b) t h in
      let small = count_small counts (number_in L.buffers (set, binding)) (lengths set binding) (m.have.each (number_in L.buffers (set, binding)) (set, binding) n) m.have.words in
      let w = inside_word byte (lengths set binding) b inside small in
      record { number = n; word = w.0; inside = w.1 }

  -- ---- loads

  words_are : (t : ℕ) (s : Shape) → is_int code t ≡ true → shape code t ≡ Some s → Words (nat_eq (operand code t 2) 1) ≡ s
  words_are t s i e =
      let f : Some (Words (nat_eq (operand code t 2) 1)) ≡ Some s = sym (m.known.facts.shape_int t (of_int (sort code t) i)) ∙ e in
      cc

  class_cases : (class : ℕ) → is_buffer_class class ≡ true → (class ≡ 2) ⊎ (class ≡ 12)
  class_cases class b = either (or_cases (nat_eq class 2) (nat_eq class 12) b)
    where
      either : (nat_eq class 2 ≡ true) ⊎ (nat_eq class 12 ≡ true) → (class ≡ 2) ⊎ (class ≡ 12)
      either (inl e) = inl (eqb-true class 2 e)
      either (inr e) = inr (eqb-true class 12 e)

  buffer_loads : (class t : ℕ) → is_buffer_class class ≡ true → loads code class t ≡ true → is_int code t ≡ true
  buffer_loads class t b l = either (class_cases class b)
    where
      either : (class ≡ 2) ⊎ (class ≡ 12) → is_int code t ≡ true
      either (inl e) = ap (λ c. loads code c t) (sym e) ∙ l
      either (inr e) = ap (λ c. loads code c t) (sym e) ∙ l

  variable_loads : (root : Root) (class t : ℕ) → IsClassOf code root class → loads code class t ≡ true → is_data code t ≡ true
  variable_loads (Local level x) class t c l = ap (λ c. loads code c t) (sym c.0) ∙ l
  variable_loads (Input b) class t c l = ap (λ c. loads code c t) (sym c.0) ∙ l

  -- the action of a load, by whether its pointer leads into a buffer
  loading : (t r p next' : ℕ) (ws : List ℕ) (b : Bool) → is_buffer_class (operand code (operand code p 0) 1) ≡ b
      → flat_act (cond (is_in_buffer code p) (Read (L.slot p) (L.slot r)) (LoadWords (L.slot p) (L.slot r) (size_of code t))) next' counts ws
      ≡ flat_act (cond b (Read (L.slot p) (L.slot r)) (LoadWords (L.slot p) (L.slot r) (size_of code t))) next' counts ws
  loading t r p next' ws b e =
      ap (λ c. flat_act (cond c (Read (L.slot p) (L.slot r)) (LoadWords (L.slot p) (L.slot r) (size_of code t))) next' counts ws) e

  read_word : (s : State) (ws : List ℕ) (t r p set binding byte of : ℕ) (b : Bool) (f : FlatTurn)
      → Ready code L ids lengths s ws Load (t ∷ r ∷ p ∷ []) → LeadsInto code set binding (Words b) of → is_int code t ≡ true → size_of code t ≡ 1
      → IsInside byte (Words b) (lengths set binding) × Stands (number_in L.buffers (set, binding) ∷ word_of_byte byte ∷ []) (L.slot p) ws
      → f ≡ read ws (L.slot p) (L.slot r)
      → Follows code L ids lengths s.place ws (Reads set binding (byte / 4) (λ w. gives s r (Plain (Word w)))) f
  read_word s ws t r p set binding byte of b f a h j n near acts =
      let i : IsResult Load = record { goes_on = refl; second = refl; valued = refl } in
      let q = word_in_buffer set binding byte of b h near.0 in
      let inside : L.slot r < length ws = omega (arith, result_inside code L ids lengths counts m s ws Load t r (p ∷ []) a i, n) in
      follows_flat code L ids lengths s.place ws (Reads set binding (byte / 4) (λ w. gives s r (Plain (Word w)))) f _
      (acts ∙ read_is ws (L.slot p) (number_in L.buffers (set, binding)) (word_of_byte byte) (L.slot r) near.1 inside) (
        q.number,
        q.word,
        q.inside,
        inside,
        (λ w small. result_together code L ids lengths counts m s ws Load t r (p ∷ []) (Plain (Word w)) (suc s.place) a i
            (suits_word code m.known.facts t w j) tt (sym (add-one s.place))),
      )

  load_case : (s : State) (ws : List ℕ) (t r p of : ℕ) (o : Operand) → Ready code L ids lengths s ws Load (t ∷ r ∷ p ∷ []) → Suits code o of
      → operand code p 0 ≡ of → is_pointer code of ≡ true → operand code of 2 ≡ t → loads code (operand code of 1) t ≡ true
      → LeadsNear code lengths s.place s.below o × Stands (words_of code L o) (L.slot p) ws
      → Follows code L ids lengths s.place ws (load (setting code ids lengths) s r (Some o))
      (flat_act (cond (is_in_buffer code p) (Read (L.slot p) (L.slot r)) (LoadWords (L.slot p) (L.slot r) (size_of code t))) (s.place + 1) counts ws)
  load_case s ws t r p of (Plain v) a h g pointer e l near = absurd (m.known.facts.no_pointer of h.has_values pointer)
  load_case s ws t r p of (Path root path) a h g pointer e l near =
      let i : IsResult Load = record { goes_on = refl; second = refl; valued = refl } in
      let d = variable_loads root (operand code of 1) t h.class l in
      let f = leads_there s ws Load (t ∷ r ∷ p ∷ []) root path of h a near.0 in
      let is = ap (shape code) (sym e) ∙ h.is in
      let n : length (flat f.part') ≡ size_of code t = like_count f.part' h.part f.part_like ∙ sym (data_size code t h.part m.known d is) in
      let inside : L.slot r + length (flat f.part') ≤ length ws = omega (arith, result_inside code L ids lengths counts m s ws Load t r (p ∷ []) a i, n) in
      let pointer' = subst (λ (w : ℕ). Stands (w ∷ []) (L.slot p) ws) f.address near.1 in
      let flat_is = loading t r p (s.place + 1) ws false (ap (λ c. is_buffer_class (operand code c 1)) g ∙ class_of_root code root (operand code of 1) h.class)
      ∙ (ap (load_words (s.place + 1) ws (L.slot p) (L.slot r)) (sym n)
      ∙ loaded_is (flat f.part') ws (s.place + 1) (L.slot p) f.place (L.slot r) pointer' f.part_stands' inside) in
      follows_some code L ids lengths s.place ws (held (setting code ids lengths) s root) f.value (λ x. with_found (part x path) (λ w. Goes (gives s r (Plain w)))) _ f.is
      (subst (λ (w : Way). Follows code L ids lengths s.place ws (with_found w (λ w. Goes (gives s r (Plain w))))
      (flat_act (cond (is_in_buffer code p) (Read (L.slot p) (L.slot r)) (LoadWords (L.slot p) (L.slot r) (size_of code t))) (s.place + 1) counts ws)) (sym f.found)
      (follows_flat code L ids lengths s.place ws (Goes (gives s r (Plain f.part'))) _ (GoesTo (s.place + 1) (written ws (L.slot r) (flat f.part'))) flat_is
      (result_together code L ids lengths counts m s ws Load t r (p ∷ []) (Plain f.part') (s.place + 1) a i (suits_like code m.known.facts t f.part' h.part d is f.part_like) tt refl)))
  load_case s ws t r p of (InBuffer set binding byte form) a h g pointer e l near =
      let j = buffer_loads (operand code of 1) t h.class l in
      let same = words_are t form j (ap (shape code) (sym e) ∙ h.is) in
      let k = of_int (sort code t) j in
      let n : size_of code t ≡ 1 = data_size code t _ m.known (m.known.facts.int_data t k) (m.known.facts.shape_int t k) in
      let acts = loading t r p (s.place + 1) ws true (ap (λ c. is_buffer_class (operand code c 1)) g ∙ h.class) in
      subst (λ (x : Shape). LeadsInto code set binding x of
      → IsInside byte x (lengths set binding) × Stands (number_in L.buffers (set, binding) ∷ word_of_byte byte ∷ []) (L.slot p) ws
      → Follows code L ids lengths s.place ws (load (setting code ids lengths) s r (Some (InBuffer set binding byte x)))
      (flat_act (cond (is_in_buffer code p) (Read (L.slot p) (L.slot r)) (LoadWords (L.slot p) (L.slot r) (size_of code t))) (s.place + 1) counts ws)) same
      (λ into there. read_word s ws t r p set binding byte of (nat_eq (operand code t 2) 1)
      (flat_act (cond (is_in_buffer code p) (Read (L.slot p) (L.slot r)) (LoadWords (L.slot p) (L.slot r) (size_of code t))) (s.place + 1) counts ws) a into j n there acts) h near

  pub load_together : (s : State) (ws : List ℕ) (t r p : ℕ) → Ready code L ids lengths s ws Load (t ∷ r ∷ p ∷ [])
      → Follows code L ids lengths s.place ws (load (setting code ids lengths) s r (s.ids p))
      (flat_act (cond (is_in_buffer code p) (Read (L.slot p) (L.slot r)) (LoadWords (L.slot p) (L.slot r) (size_of code t))) (s.place + 1) counts ws)
  unfolding load_fits
  load_together s ws t r p a =
      let at = at_of code L ids lengths counts m s ws Load (t ∷ r ∷ p ∷ []) a in
      let of : ℕ = operand code p 0 in
      let all = four_parts (is_value code p) (is_pointer code of) (nat_eq (operand code of 2) t) (loads code (operand code of 1) t)
      (rule code m.known.facts s Load (t ∷ r ∷ p ∷ []) Loading at refl) in
      let u : Uses Load (t ∷ r ∷ p ∷ []) 2 p = record { stands = refl; role = refl } in
      let o = pointer_of code m.known.facts s Load (t ∷ r ∷ p ∷ []) 2 p of at u all.0 refl all.1 in
      let near = laid_of code L ids lengths counts m s ws Load (t ∷ r ∷ p ∷ []) 2 p o.0 a u all.0 (pointer_not_void code m.known.facts of all.1) o.1 in
      subst (λ (x : Option Operand). Follows code L ids lengths s.place ws (load (setting code ids lengths) s r x)
      (flat_act (cond (is_in_buffer code p) (Read (L.slot p) (L.slot r)) (LoadWords (L.slot p) (L.slot r) (size_of code t))) (s.place + 1) counts ws)) (sym o.1)
      (load_case s ws t r p of o.0 a o.2 refl all.1 (eqb-true (operand code of 2) t all.2) all.3 near)

  -- ---- stores

  buffer_stores : (class t : ℕ) → is_buffer_class class ≡ true → stores code class t ≡ true → is_int code t ≡ true
  buffer_stores class t b l = either (class_cases class b)
    where
      either : (class ≡ 2) ⊎ (class ≡ 12) → is_int code t ≡ true
      either (inl e) = let f : false ≡ true = ap (λ c. stores code c t) (sym e) ∙ l in cc
      either (inr e) = ap (λ c. stores code c t) (sym e) ∙ l

  storing : (p v next' : ℕ) (ws : List ℕ) (b : Bool) → is_buffer_class (operand code (operand code p 0) 1) ≡ b
      → flat_act (cond (is_in_buffer code p) (Write (L.slot p) (L.slot v)) (StoreWords (L.slot p) (L.slot v) (slot_size code v))) next' counts ws
      ≡ flat_act (cond b (Write (L.slot p) (L.slot v)) (StoreWords (L.slot p) (L.slot v) (slot_size code v))) next' counts ws
  storing p v next' ws b e =
      ap (λ c. flat_act (cond c (Write (L.slot p) (L.slot v)) (StoreWords (L.slot p) (L.slot v) (slot_size code v))) next' counts ws) e

  no_result : (p v x : ℕ) → result_of Store (p ∷ v ∷ []) ≡ Some x → is_value code x ≡ true → ⊥
  no_result p v x e h = cc

  -- the place behind a store, with another value of a variable
  stored_goes : (s : State) (ws now : List ℕ) (p v : ℕ) (memory : ℕ → ℕ → Value) → Ready code L ids lengths s ws Store (p ∷ v ∷ [])
      → IsTyped code (record { place = s.place + 1; ids = s.ids; below = s.below; memory = memory })
      → Holds code L ids lengths s.place s.ids s.below memory now
      → Together code L ids lengths (record { place = s.place + 1; ids = s.ids; below = s.below; memory = memory }) (s.place + 1) now
  stored_goes s ws now p v memory a typed h =
      together_from code L ids lengths (record { place = s.place + 1; ids = s.ids; below = s.below; memory = memory }) (s.place + 1) now refl typed
      (holds_moves code L ids lengths s.place (s.place + 1) s.ids s.below memory now (same_function code L ids lengths counts m s ws Store (p ∷ v ∷ []) a)
      (λ x n q. before x q.value (next_seen code L ids lengths counts m s ws Store (p ∷ v ∷ []) a refl x q)) h)
    where
      before : (x : ℕ) → is_value code x ≡ true → IsSeen code s.place x ⊎ ((result_of Store (p ∷ v ∷ []) ≡ Some x) × (place_of code x 0 ≡ Some s.place)) → IsSeen code s.place x
      before x n (inl q) = q
      before x n (inr q) = absurd (no_result p v x q.0 n)

  store_word : (s : State) (ws : List ℕ) (p v set binding byte of t : ℕ) (b : Bool) (f : FlatTurn) → Ready code L ids lengths s ws Store (p ∷ v ∷ [])
      → LeadsInto code set binding (Words b) of → IsWordThere code L ids lengths counts m s ws v t
      → IsInside byte (Words b) (lengths set binding) × Stands (number_in L.buffers (set, binding) ∷ word_of_byte byte ∷ []) (L.slot p) ws
      → f ≡ write ws (L.slot p) (L.slot v) → Keeps code (store (setting code ids lengths) s (Some (InBuffer set binding byte (Words b))) (s.ids v))
      → Follows code L ids lengths s.place ws (store (setting code ids lengths) s (Some (InBuffer set binding byte (Words b))) (s.ids v)) f
  store_word s ws p v set binding byte of t b f a h w near acts keeps =
      let q = word_in_buffer set binding byte of b h near.0 in
      let typed = subst (λ (o : Option Operand). Keeps code (with_word o (λ x. Writes set binding (byte / 4) x (next s)))) w.is keeps in
      follows_word code L ids lengths s.place ws (s.ids v) w.word (λ x. Writes set binding (byte / 4) x (next s)) f w.is
      (follows_flat code L ids lengths s.place ws (Writes set binding (byte / 4) w.word (next s)) f _
      (acts ∙ wrote_is ws (L.slot p) (number_in L.buffers (set, binding)) (word_of_byte byte) (L.slot v) w.word near.1 w.stands) (
        q.number,
        q.word,
        q.inside,
        refl,
        goes_together code L ids lengths counts m s ws Store (p ∷ v ∷ []) (suc s.place) a refl (no_result p v) typed (sym (add-one s.place)),
      ))

  store_part : (s : State) (ws : List ℕ) (p v of level' x : ℕ) (path : List ℕ) (h : LeadsTo code (Local level' x) path of) (f : FlatTurn)
      → Ready code L ids lengths s ws Store (p ∷ v ∷ []) → IsThere code L s ws v (operand code of 2) h.part
      → LeadsNear code lengths s.place s.below (Path (Local level' x) path) × Stands (address_of code L (Local level' x) path ∷ []) (L.slot p) ws
      → f ≡ store_words (s.place + 1) ws (L.slot p) (L.slot v) (slot_size code v)
      → Keeps code (store (setting code ids lengths) s (Some (Path (Local level' x) path)) (s.ids v))
      → Follows code L ids lengths s.place ws (store (setting code ids lengths) s (Some (Path (Local level' x) path)) (s.ids v)) f
  store_part s ws p v of level' x path h f a w near acts keeps =
      let g = leads_there s ws Store (p ∷ v ∷ []) (Local level' x) path of h a near.0 in
      let old : g.value ≡ s.memory level' x = sym (some_value g.is) in
      let like = subst (λ (y : Value). IsLike y h.whole) old g.like in
      let is_of = subst (λ (y : Value). IsOf y h.whole) old g.of_whole in
      let stands = subst (λ (y : Value). Stands (flat y) (L.room x) ws) old g.stands in
      let n = put-found (s.memory level' x) w.value h.whole h.part path 0 h.place like w.like h.found in
      let replaced = subst (λ (y : Way). IsReplaced y (At g.place h.part) w.value h.whole (L.room x) ws) n.1
      (subst (λ (y : Piece). IsReplaced (put_part (s.memory level' x) path w.value) y w.value h.whole (L.room x) ws) g.at
      (put_part_stands (s.memory level' x) w.value h.whole path (L.room x) ws is_of stands)) w.of in
      let bounds = piece_within h.whole path (L.room x) g.place h.part g.at in
      let count = like_count w.value h.part w.like in
      let all = like_count (s.memory level' x) h.whole like in
      let l = m.known.local_is x h.class.1 in
      let same = some_shape (sym (ap (option_map pointed) l.of) ∙ h.holds) in
      let size : room_size code x ≡ width h.whole = room_count code x l ∙ ap width same in
      let last : g.place + length (flat w.value) ≤ L.room x + room_size code x = omega (arith, bounds.1, count, size) in
      let inside : g.place + length (flat w.value) ≤ length ws = omega (arith, bounds.1, count, all, stands.inside) in
      let pointer = subst (λ (y : ℕ). Stands (y ∷ []) (L.slot p) ws) g.address near.1 in
      let st : Value → State = λ y. record { place = s.place + 1; ids = s.ids; below = s.below; memory = put s.memory level' x y } in
      let typed = subst (λ (y : Way). Keeps code (with_found y (λ z. Goes (st z)))) n.1
      (subst (λ (o : Option Operand). Keeps code (with_plain o (λ y. with_found (put_part (s.memory level' x) path y) (λ z. Goes (st z))))) w.is keeps) in
      follows_plain code L ids lengths s.place ws (s.ids v) w.value (λ y. with_found (put_part (s.memory level' x) path y) (λ z. Goes (st z))) f w.is
      (subst (λ (y : Way). Follows code L ids lengths s.place ws (with_found y (λ z. Goes (st z))) f) (sym n.1)
      (follows_flat code L ids lengths s.place ws (Goes (st n.0)) f (GoesTo (s.place + 1) (written ws g.place (flat w.value)))
      (acts ∙ (ap (store_words (s.place + 1) ws (L.slot p) (L.slot v)) (w.size ∙ sym w.count)
      ∙ stored_is (flat w.value) ws (s.place + 1) (L.slot p) g.place (L.slot v) pointer w.stands inside))
      (stored_goes s ws (written ws g.place (flat w.value)) p v (put s.memory level' x n.0) a typed
      (room_written code L ids lengths counts m s.place level' x g.place n.0 s.ids s.below s.memory ws (flat w.value)
      (typed_of code L ids lengths s a.together.typed) near.0.0 h.class.1 near.0.1 bounds.0 last replaced.1
      (holds_of code L ids lengths s s.place ws a.together)))))

  store_case : (s : State) (ws : List ℕ) (p v of : ℕ) (o : Operand) → Ready code L ids lengths s ws Store (p ∷ v ∷ []) → Suits code o of
      → operand code p 0 ≡ of → is_pointer code of ≡ true → has_type code v (operand code of 2) ≡ true
      → stores code (operand code of 1) (operand code of 2) ≡ true
      → LeadsNear code lengths s.place s.below o × Stands (words_of code L o) (L.slot p) ws
      → Keeps code (store (setting code ids lengths) s (Some o) (s.ids v))
      → Follows code L ids lengths s.place ws (store (setting code ids lengths) s (Some o) (s.ids v))
      (flat_act (cond (is_in_buffer code p) (Write (L.slot p) (L.slot v)) (StoreWords (L.slot p) (L.slot v) (slot_size code v))) (s.place + 1) counts ws)
  store_case s ws p v of (Plain y) a h g pointer t l near keeps = absurd (m.known.facts.no_pointer of h.has_values pointer)
  store_case s ws p v of (Path (Local level' x) path) a h g pointer t l near keeps =
      let d : is_data code (operand code of 2) ≡ true = ap (λ c. stores code c (operand code of 2)) (sym h.class.0) ∙ l in
      let k = typed_as code v (operand code of 2) t in
      let w = value_there code L ids lengths counts m s ws Store (p ∷ v ∷ []) 1 v (operand code of 2) h.part a (record { stands = refl; role = refl }) k.0 k.1 d h.is in
      store_part s ws p v of level' x path h
      (flat_act (cond (is_in_buffer code p) (Write (L.slot p) (L.slot v)) (StoreWords (L.slot p) (L.slot v) (slot_size code v))) (s.place + 1) counts ws) a w near
      (storing p v (s.place + 1) ws false (ap (λ c. is_buffer_class (operand code c 1)) g ∙ ap is_buffer_class h.class.0)) keeps
  store_case s ws p v of (Path (Input b) path) a h g pointer t l near keeps =
      let f : false ≡ true = ap (λ c. stores code c (operand code of 2)) (sym h.class.0) ∙ l in
      cc
  store_case s ws p v of (InBuffer set binding byte form) a h g pointer t l near keeps =
      let i = buffer_stores (operand code of 1) (operand code of 2) h.class l in
      let k = typed_as code v (operand code of 2) t in
      let w = word_there code L ids lengths counts m s ws Store (p ∷ v ∷ []) 1 v (operand code of 2) a (record { stands = refl; role = refl }) k.0 k.1 i in
      let acts = storing p v (s.place + 1) ws true (ap (λ c. is_buffer_class (operand code c 1)) g ∙ h.class) in
      subst (λ (x : Shape). LeadsInto code set binding x of
      → IsInside byte x (lengths set binding) × Stands (number_in L.buffers (set, binding) ∷ word_of_byte byte ∷ []) (L.slot p) ws
      → Keeps code (store (setting code ids lengths) s (Some (InBuffer set binding byte x)) (s.ids v))
      → Follows code L ids lengths s.place ws (store (setting code ids lengths) s (Some (InBuffer set binding byte x)) (s.ids v))
      (flat_act (cond (is_in_buffer code p) (Write (L.slot p) (L.slot v)) (StoreWords (L.slot p) (L.slot v) (slot_size code v))) (s.place + 1) counts ws))
      (words_are (operand code of 2) form i h.is)
      (λ into there kept. store_word s ws p v set binding byte of (operand code of 2) (nat_eq (operand code (operand code of 2) 2) 1)
      (flat_act (cond (is_in_buffer code p) (Write (L.slot p) (L.slot v)) (StoreWords (L.slot p) (L.slot v) (slot_size code v))) (s.place + 1) counts ws)
      a into w there acts kept) h near keeps

  pub store_together : (s : State) (ws : List ℕ) (p v : ℕ) → Ready code L ids lengths s ws Store (p ∷ v ∷ [])
      → Follows code L ids lengths s.place ws (store (setting code ids lengths) s (s.ids p) (s.ids v))
      (flat_act (cond (is_in_buffer code p) (Write (L.slot p) (L.slot v)) (StoreWords (L.slot p) (L.slot v) (slot_size code v))) (s.place + 1) counts ws)
  unfolding store_fits
  store_together s ws p v a =
      let at = at_of code L ids lengths counts m s ws Store (p ∷ v ∷ []) a in
      let of : ℕ = operand code p 0 in
      let all = four_parts (is_value code p) (is_pointer code of) (has_type code v (operand code of 2)) (stores code (operand code of 1) (operand code of 2))
      (rule code m.known.facts s Store (p ∷ v ∷ []) Storing at refl) in
      let u : Uses Store (p ∷ v ∷ []) 0 p = record { stands = refl; role = refl } in
      let o = pointer_of code m.known.facts s Store (p ∷ v ∷ []) 0 p of at u all.0 refl all.1 in
      let near = laid_of code L ids lengths counts m s ws Store (p ∷ v ∷ []) 0 p o.0 a u all.0 (pointer_not_void code m.known.facts of all.1) o.1 in
      let keeps = subst (λ (x : Option Operand). Keeps code (store (setting code ids lengths) s x (s.ids v))) o.1 (store_keeps code m.known.facts ids lengths s p v at) in
      subst (λ (x : Option Operand). Follows code L ids lengths s.place ws (store (setting code ids lengths) s x (s.ids v))
      (flat_act (cond (is_in_buffer code p) (Write (L.slot p) (L.slot v)) (StoreWords (L.slot p) (L.slot v) (slot_size code v))) (s.place + 1) counts ws)) (sym o.1)
      (store_case s ws p v of o.0 a o.2 refl all.1 all.2 all.3 near keeps)
