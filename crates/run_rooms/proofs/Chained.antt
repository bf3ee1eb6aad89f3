-- Chains of calls, by the tables and by the image.
use Rattle.std.proofs.Common.{◌≡◌, ℕ, zero, suc, ◌+◌, ◌^◌, ◌<◌, ◌≤◌, true, nat_eq, List, [], ◌∷◌, length, Option, Some, None, slice_index, refl, sym, ap, ◌∙◌, arith, subst}
use Rattle.std.proofs.Math.Logic.{⊎_elim}
use Rattle.std.proofs.lemmas.Bool.{cases_lt, cases_eq, cond-false, ne_eqb}
use Rattle.spirv_words.specs.declared.opcodes.Op.{Op}
use Rattle.spirv_words.specs.declared.opcodes.Op.TheVariants.{Function, FunctionEnd}
use Rattle.spirv_words.specs.declared.images.Instruction.{Instruction}
use Rattle.image_places.specs.Places.{function_of, op_at, under_function}
use Rattle.call_graph.specs.Edges.{calls_it}
use Rattle.call_layout.specs.Chains.{AreBegins, AreNumbered, IsChain, IsNumbered, TooLong, chain_words}
use Rattle.call_layout.specs.Chains as chains
use Rattle.run_rooms.specs.declared.parts.Part.{Part}
use Rattle.run_rooms.specs.Rooms.{IsFunction}
use Rattle.run_rooms.specs.Sums.{before}
use Rattle.run_rooms.specs.Layout.{IsLayout, IsPart, IsTable, Layout, lead, part_in, room_words_at, slot_words_at}
use Rattle.run_rooms.specs.Needs.{HasCall, HasLongChain, IsCallChain, words_of}
use Rattle.run_rooms.specs.Calls.{KeepsCalls}
use Rattle.run_rooms.specs.Tables.{AreStarts}
use Rattle.run_rooms.proofs.Apart.{op-within}

-- ---- functions with words

-- where words are counted, there is an instruction of the function
before-some : (home words : ℕ → ℕ) (f n : ℕ) → 0 < before home words f n → (j : ℕ) × (home j ≡ f)
before-some home words f zero h = absurd (omega (arith, h))
before-some home words f (suc k) h = ⊎_elim
    (λ e. (k, e))
    (λ d. before-some home words f k (omega (arith, h, cond-false (nat_eq (home k) f) (words k) 0 (ne_eqb (home k) f d))))
    (cases_eq (home k) f)

opened-by : (code : List Instruction) (k p : ℕ) (o : Option Op) → op_at code k ≡ o → under_function o (suc k) (function_of code k) ≡ suc p
    → (function_of code k ≡ suc p → op_at code p ≡ Some Function) → op_at code p ≡ Some Function
opened-by code k p None e h more = more h
opened-by code k p (Some Function) e h more = let same : k ≡ p = omega (arith, h) in ap (op_at code) (sym same) ∙ e
opened-by code k p (Some FunctionEnd) e h more = absurd (omega (arith, h))
opened-by code k p (Some op) e h more = more h

-- an open function was opened
opened : (code : List Instruction) (j p : ℕ) → function_of code j ≡ suc p → op_at code p ≡ Some Function
opened code zero p h = absurd (omega (arith, h))
opened code (suc k) p h = opened-by code k p (op_at code k) refl h (opened code k p)

home-function : (code : List Instruction) (f : ℕ) → 0 < f → (j : ℕ) × (function_of code j ≡ f) → IsFunction code f
home-function code zero l h = absurd (omega (arith, l))
home-function code (suc p) l h = (p, refl, opened code h.0 p h.1)

lead-none : (f : ℕ) → 0 < f → lead f ≡ 0
lead-none f l = cond-false (nat_eq f 0) 10 0 (ne_eqb f 0 (λ e. omega (arith, e, l)))

module _ (code : List Instruction) (keeps : KeepsCalls code) where
  function-long : (f : ℕ) → IsFunction code f → 2 ^ 32 ≤ words_of code 0 + words_of code f → HasLongChain code
  function-long f is h = record { chain = f ∷ []; is = (is, tt, tt); far = omega (arith, h) }

  -- one function is too long
  pub one-long : (f : ℕ) → 0 < f → 2 ^ 32 ≤ words_of code 0 + words_of code f → HasLongChain code
  one-long f l h =
      let rooms = before (function_of code) (room_words_at code) f (length code) in
      let slots = before (function_of code) (slot_words_at code) f (length code) in
      ⊎_elim
      (λ some. function-long f (home-function code f l (before-some (function_of code) (room_words_at code) f (length code) some)) h)
      (λ none. ⊎_elim
      (λ some. function-long f (home-function code f l (before-some (function_of code) (slot_words_at code) f (length code) some)) h)
      (λ nothing. function-long keeps.some keeps.is_function (omega (arith, h, lead-none f l, none, nothing)))
      (cases_lt 0 slots))
      (cases_lt 0 rooms)

  -- the words of one function are too many
  pub words-long : (f : ℕ) → 2 ^ 32 ≤ words_of code f → HasLongChain code
  words-long zero h = record { chain = []; is = tt; far = omega (arith, h) }
  words-long (suc p) h = one-long (suc p) (omega arith) (omega (arith, h))

  module _ (words : List ℕ) (es : List (ℕ × ℕ)) (table : IsTable (words_of code) (suc (length code)) words)
      (made : (caller callee : ℕ) → calls_it es caller callee ≡ true → HasCall code caller callee) where
    to-chain : (f g : ℕ) (gs : List ℕ) → IsChain (IsNumbered words) (chains.Calls es) (f ∷ g ∷ gs) → IsCallChain code (f ∷ g ∷ gs)
    to-chain f g [] h =
        let call = made g f h.1 in
        let both = keeps.functions g f call in
        (both.1, call, (both.0, tt, tt))
    to-chain f g (x ∷ xs) h =
        let call = made g f h.1 in
        ((keeps.functions g f call).1, call, to-chain g x xs h.2)

    same-words : (f : ℕ) → f < length words → slice_index words f ≡ words_of code f
    same-words f l = table.tells f (omega (arith, l, table.as_many))

    same-chain : (fs : List ℕ) → IsChain (IsNumbered words) (chains.Calls es) fs → chain_words (slice_index words) fs ≡ chain_words (words_of code) fs
    same-chain [] h = refl
    same-chain (f ∷ fs) h = omega (arith, same-words f h.0.1, same-chain fs h.2)

    pub too-long : TooLong words es → HasLongChain code
    too-long t = by t.chain t.is (omega (arith, t.far, same-words 0 (omega (arith, table.as_many)), same-chain t.chain t.is))
      where
        by : (fs : List ℕ) → IsChain (IsNumbered words) (chains.Calls es) fs → 2 ^ 32 ≤ words_of code 0 + chain_words (words_of code) fs → HasLongChain code
        by [] h far = record { chain = []; is = tt; far = far }
        by (f ∷ []) h far = one-long f h.0.0 (omega (arith, far))
        by (f ∷ g ∷ gs) h far = record { chain = f ∷ g ∷ gs; is = to-chain f g gs h; far = far }

    function-numbered : (f : ℕ) → IsFunction code f → IsNumbered words f
    function-numbered f is = (omega (arith, is.1), omega (arith, is.1, op-within code is.0 Function is.2, table.as_many))

    pub numbered : AreNumbered words es
    numbered caller callee h =
        let both = keeps.functions caller callee (made caller callee h) in
        (function-numbered caller both.0, function-numbered callee both.1)

    pub starts : (begins : List ℕ) → ((caller callee : ℕ) → HasCall code caller callee → calls_it es caller callee ≡ true) → AreBegins words es begins → AreStarts code begins
    starts begins all b = record {
      first = b.first;
      behind = λ f l.
          let r = b.reached (suc f) (omega arith) (omega (arith, l, table.as_many)) in
          omega (arith, r.there, same-words 0 (omega (arith, table.as_many)));
      calls = λ caller callee h.
          let both = keeps.functions caller callee h in
          omega (arith, b.behind caller callee (all caller callee h), same-words caller (function-numbered caller both.0).1);
      within = λ f l.
          let lt : f < length words = omega (arith, l, table.as_many) in
          omega (arith, b.within f lt, same-words f lt);
    }

-- ---- a layout has room for all chains

pub part-end : (code : List Instruction) (f : ℕ) (p : Part) → IsPart code f p → p.end ≡ p.begin + words_of code f
part-end code f p h = omega (arith, h.rooms, h.count, h.frame, h.end)

module _ (l : Layout) (h : IsLayout l) where
  number-within : (f : ℕ) → IsFunction l.code f → f ≤ length l.code
  number-within f is = omega (arith, is.1, op-within l.code is.0 Function is.2)

  end-is : (f : ℕ) → f ≤ length l.code → (part_in l.parts f).end ≡ (part_in l.parts f).begin + words_of l.code f
  end-is f k = part-end l.code f (part_in l.parts f) (h.parts f k)

  outside-before : (f : ℕ) → IsFunction l.code f → words_of l.code 0 ≤ (part_in l.parts f).begin
  outside-before f is =
      let k = number-within f is in
      let b : (part_in l.parts 0).end ≤ (part_in l.parts f).begin =
      subst (λ (n : ℕ). (part_in l.parts 0).end ≤ (part_in l.parts n).begin) (sym is.1) (h.behind is.0 (omega (arith, is.1, k))) in
      omega (arith, b, end-is 0 (omega arith), h.first)

  chain-before : (f : ℕ) (fs : List ℕ) → IsCallChain l.code (f ∷ fs) → words_of l.code 0 + chain_words (words_of l.code) fs ≤ (part_in l.parts f).begin
  chain-before f [] c = omega (arith, outside-before f c.0)
  chain-before f (g ∷ gs) c =
      let call = c.1 in
      let r = chain-before g gs c.2 in
      let to = h.calls call.number f call.instruction call.stands call.calls in
      let from : (part_in l.parts g).end ≤ (part_in l.parts f).begin = subst (λ (n : ℕ). (part_in l.parts n).end ≤ (part_in l.parts f).begin) call.inside to in
      omega (arith, r, from, end-is g (number-within g c.2.0))

  pub none-long : HasLongChain l.code → ⊥
  none-long c = by c.chain c.is c.far
    where
      by : (fs : List ℕ) → IsCallChain l.code fs → 2 ^ 32 ≤ words_of l.code 0 + chain_words (words_of l.code) fs → ⊥
      by [] is far = omega (arith, far, end-is 0 (omega arith), h.first, h.within 0 (omega arith), h.small)
      by (f ∷ fs) is far =
          let k = number-within f is.0 in
          omega (arith, far, chain-before f fs is, end-is f k, h.within f k, h.small)
