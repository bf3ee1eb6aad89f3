-- Single tables make a layout.
use Rattle.std.proofs.Common.{◌≡◌, ℕ, suc, ◌+◌, ◌^◌, ◌<◌, ◌≤◌, List, length, slice_index, refl, sym, ap, ◌∙◌, arith, subst}
use Rattle.spirv_words.specs.declared.opcodes.Op.TheVariants.{Function}
use Rattle.spirv_words.specs.declared.images.Instruction.{Instruction}
use Rattle.image_places.specs.Places.{function_of}
use Rattle.run_rooms.specs.declared.parts.Part.{Part}
use Rattle.run_rooms.specs.declared.tables.Tables.{Tables}
use Rattle.run_rooms.specs.Rooms.{IsFunction}
use Rattle.run_rooms.specs.Sums.{before}
use Rattle.run_rooms.specs.Layout.{IsLayout, IsPart, IsFilled, IsTable, AreOffsets, AreParts, HasFarSum, part_in, lead, summed, slot_words_at, room_words_at}
use Rattle.run_rooms.specs.Needs.{HasLongChain, words_of}
use Rattle.run_rooms.specs.Calls.{KeepsCalls}
use Rattle.run_rooms.specs.Tables.{layout_of, ArePlaced, AreLaid, AreStarts}
use Rattle.run_rooms.proofs.Sums.{before-grows, before-same}
use Rattle.run_rooms.proofs.Defined.{function_of-within}
use Rattle.run_rooms.proofs.Apart.{op-within}
use Rattle.run_rooms.proofs.Chained.{words-long, part-end}

-- ---- parts

module _ (code : List Instruction) (room_sums slot_sums : List ℕ)
    (rt : IsTable (λ f. before (function_of code) (room_words_at code) f (length code)) (suc (length code)) room_sums)
    (st : IsTable (λ f. before (function_of code) (slot_words_at code) f (length code)) (suc (length code)) slot_sums) where
  summed-is : (f : ℕ) → f ≤ length code → summed room_sums slot_sums f ≡ words_of code f
  summed-is f l = omega (arith, rt.tells f (omega arith), st.tells f (omega arith))

  pub words-table : (words : List ℕ) → IsTable (summed room_sums slot_sums) (length room_sums) words → IsTable (words_of code) (suc (length code)) words
  words-table words w = record {
    as_many = w.as_many ∙ rt.as_many;
    tells = λ f l. w.tells f (omega (arith, l, rt.as_many)) ∙ summed-is f (omega arith);
  }

  pub far-words : KeepsCalls code → HasFarSum (length room_sums) (summed room_sums slot_sums) → HasLongChain code
  far-words keeps h = words-long code keeps h.function (omega (arith, h.far, summed-is h.function (omega (arith, h.within, rt.as_many))))

  module _ (begins : List ℕ) (s : AreStarts code begins) where
    pub starts-fit : (f : ℕ) → f < length room_sums → slice_index begins f + summed room_sums slot_sums f < 2 ^ 32
    starts-fit f l =
        let k : f ≤ length code = omega (arith, l, rt.as_many) in
        omega (arith, s.within f k, summed-is f k)

    module _ (keeps : KeepsCalls code) (parts : List Part) (p : AreParts begins room_sums slot_sums parts) where
      part-is : (f : ℕ) → f ≤ length code → IsPart code f (part_in parts f)
      part-is f l =
          subst (λ (n : ℕ). IsFilled (lead f) n (before (function_of code) (slot_words_at code) f (length code)) (part_in parts f)) (rt.tells f (omega arith))
          (subst (λ (n : ℕ). IsFilled (lead f) (slice_index room_sums f) n (part_in parts f)) (st.tells f (omega arith)) (p.filled f (omega (arith, rt.as_many))))

      begin-is : (f : ℕ) → f ≤ length code → (part_in parts f).begin ≡ slice_index begins f
      begin-is f l = p.begin f (omega (arith, rt.as_many))

      end-is : (f : ℕ) → f ≤ length code → (part_in parts f).end ≡ slice_index begins f + words_of code f
      end-is f l = part-end code f (part_in parts f) (part-is f l) ∙ ap (λ n. n + words_of code f) (begin-is f l)

      function-within : (f : ℕ) → IsFunction code f → f ≤ length code
      function-within f is = omega (arith, is.1, op-within code is.0 Function is.2)

      pub laid : AreLaid code parts
      laid = record {
        filled = part-is;
        first = begin-is 0 (omega arith) ∙ s.first;
        behind = λ f l. omega (arith, end-is 0 (omega arith), s.first, s.behind f l, begin-is (suc f) l);
        calls = λ caller callee h.
            let both = keeps.functions caller callee h in
            omega (arith, end-is caller (function-within caller both.0), s.calls caller callee h, begin-is callee (function-within callee both.1));
        within = λ f l. omega (arith, end-is f l, s.within f l);
      }

-- ---- offsets

-- the function of an instruction is before it
pub homes-within : (code : List Instruction) (homes : List ℕ) → IsTable (function_of code) (length code) homes → (k : ℕ) → k < length homes
    → slice_index homes k ≤ length homes
homes-within code homes h k l = omega (arith, h.as_many, h.tells k (omega (arith, h.as_many)), function_of-within code k)

module _ (code : List Instruction) (homes : List ℕ) (h : IsTable (function_of code) (length code) homes) where
  module _ (words : ℕ → ℕ) (list : List ℕ) (w : IsTable words (length code) list) where
    -- the words of a function, told by the tables
    sum-same : (f : ℕ) → before (slice_index homes) (slice_index list) f (length homes) ≡ before (function_of code) words f (length code)
    sum-same f =
        ap (λ n. before (slice_index homes) (slice_index list) f n) h.as_many
        ∙ before-same (slice_index homes) (slice_index list) (function_of code) words f (length code) h.tells w.tells

    module _ (offsets sums : List ℕ) (o : AreOffsets homes list offsets sums) where
      pub sums-table : IsTable (λ f. before (function_of code) words f (length code)) (suc (length code)) sums
      sums-table = record {
        as_many = o.sum.as_many ∙ ap suc h.as_many;
        tells = λ f l. o.sum.tells f (omega (arith, l, h.as_many)) ∙ sum-same f;
      }

      offset-is : (k : ℕ) → k < length code → slice_index offsets k ≡ before (function_of code) words (function_of code k) k
      offset-is k l =
          o.offset.tells k (omega (arith, h.as_many))
          ∙ ap (λ f. before (slice_index homes) (slice_index list) f k) (h.tells k l)
          ∙ before-same (slice_index homes) (slice_index list) (function_of code) words (function_of code k) k
          (λ j lt. h.tells j (omega arith)) (λ j lt. w.tells j (omega arith))

      offset-within : (k : ℕ) → k < length code → slice_index offsets k ≤ before (function_of code) words (function_of code k) (length code)
      offset-within k l = omega (arith, offset-is k l, before-grows (function_of code) words (function_of code k) k (length code) (omega arith))

  pub far-rooms : (list : List ℕ) → KeepsCalls code → IsTable (room_words_at code) (length code) list
      → HasFarSum (suc (length homes)) (λ f. before (slice_index homes) (slice_index list) f (length homes)) → HasLongChain code
  far-rooms list keeps w far = words-long code keeps far.function (omega (arith, far.far, sum-same (room_words_at code) list w far.function))

  pub far-slots : (list : List ℕ) → KeepsCalls code → IsTable (slot_words_at code) (length code) list
      → HasFarSum (suc (length homes)) (λ f. before (slice_index homes) (slice_index list) f (length homes)) → HasLongChain code
  far-slots list keeps w far = words-long code keeps far.function (omega (arith, far.far, sum-same (slot_words_at code) list w far.function))

  -- ---- the layout

  module _ (room_list slot_list room_offsets slot_offsets room_sums slot_sums : List ℕ)
      (rw : IsTable (room_words_at code) (length code) room_list) (sw : IsTable (slot_words_at code) (length code) slot_list)
      (ro : AreOffsets homes room_list room_offsets room_sums) (so : AreOffsets homes slot_list slot_offsets slot_sums)
      (parts : List Part) (p : AreLaid code parts) where
    pub slots-within : (k : ℕ) → k < length homes → (part_in parts (slice_index homes k)).frame + 2 + slice_index slot_offsets k < 2 ^ 32
    slots-within k lt =
        let l : k < length code = omega (arith, lt, h.as_many) in
        let f = function_of code k in
        let n : f ≤ length code = omega (arith, l, function_of-within code k) in
        subst (λ (g : ℕ). (part_in parts g).frame + 2 + slice_index slot_offsets k < 2 ^ 32) (sym (h.tells k l))
        (omega (arith, offset-within (slot_words_at code) slot_list sw slot_offsets slot_sums so k l, (p.filled f n).end, p.within f n))

    pub rooms-within : (k : ℕ) → k < length homes → (part_in parts (slice_index homes k)).rooms + slice_index room_offsets k < 2 ^ 32
    rooms-within k lt =
        let l : k < length code = omega (arith, lt, h.as_many) in
        let f = function_of code k in
        let n : f ≤ length code = omega (arith, l, function_of-within code k) in
        subst (λ (g : ℕ). (part_in parts g).rooms + slice_index room_offsets k < 2 ^ 32) (sym (h.tells k l))
        (omega (arith, offset-within (room_words_at code) room_list rw room_offsets room_sums ro k l, (p.filled f n).count, (p.filled f n).frame, (p.filled f n).end, p.within f n))

    layout : (slots rooms : List ℕ) (total : ℕ)
        → IsTable (λ k. (part_in parts (slice_index homes k)).frame + 2 + slice_index slot_offsets k) (length homes) slots
        → IsTable (λ k. (part_in parts (slice_index homes k)).rooms + slice_index room_offsets k) (length homes) rooms
        → ((f : ℕ) → (part_in parts f).end ≤ total) → total < 2 ^ 32
        → IsLayout (record { code = code; slots = slots; rooms = rooms; parts = parts; total = total })
    layout slots rooms total ts tr e small = record {
      slots = λ k l.
          ts.tells k (omega (arith, h.as_many))
          ∙ ap (λ f. (part_in parts f).frame + 2 + slice_index slot_offsets k) (h.tells k l)
          ∙ ap (λ n. (part_in parts (function_of code k)).frame + 2 + n) (offset-is (slot_words_at code) slot_list sw slot_offsets slot_sums so k l);
      rooms = λ k l.
          tr.tells k (omega (arith, h.as_many))
          ∙ ap (λ f. (part_in parts f).rooms + slice_index room_offsets k) (h.tells k l)
          ∙ ap (λ n. (part_in parts (function_of code k)).rooms + n) (offset-is (room_words_at code) room_list rw room_offsets room_sums ro k l);
      parts = p.filled;
      first = p.first;
      behind = p.behind;
      within = λ f l. e f;
      calls = λ k callee i s c. p.calls (function_of code k) callee (record { number = k; instruction = i; stands = s; inside = refl; calls = c });
      small = small;
    }

    pub whole : (t : Tables) → ArePlaced homes room_offsets slot_offsets parts t → IsLayout (layout_of code t)
    whole t a =
        subst (λ (ps : List Part). IsLayout (record { code = code; slots = t.slots.items; rooms = t.rooms.items; parts = ps; total = t.total })) (sym a.same)
        (layout t.slots.items t.rooms.items t.total a.slots a.rooms a.ends a.small)
