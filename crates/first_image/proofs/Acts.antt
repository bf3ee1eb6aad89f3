-- What each instruction does, where it is known what its operands stand for.
use Rattle.std.proofs.Common.{◌≡◌, ◌≢◌, ◌⊎◌, ℕ, ◌+◌, ◌*◌, true, false, ◌&&◌, cond, List, [], ◌∷◌, Option, Some, refl, ap, ◌∙◌, arith}
use Rattle.std.specs.Prelude.{nat_lt, nat_eq}
use Rattle.std.proofs.Math.Nat.{mul-div_cancel, mul-div_cancel_left}
use Rattle.std.proofs.lemmas.Bool.{ne_eqb, eq-eqb}
use Rattle.behavior.specs.Values.{Value, Word, Found, Outside, part}
use Rattle.behavior.specs.Operations.{word_add, is_negative}
use Rattle.spirv_words.specs.declared.opcodes.Op.TheVariants.{Load, Store, AccessChain, IAdd}
use Rattle.spirv_words.specs.Machine.{Shape, Words, Unbounded, Fields, NoField, Field, Local, Input, Operand, Plain, Path, InBuffer, at}
use Rattle.spirv_words.specs.Step.{State, Setting, Turn, Goes, Writes, IsUndefined, with_some, with_word, with_found, with_spot, spot, within, Byte, Beyond, put, load, store, chain, binary, act, gives, next}

-- ---- maps

pub at_same : {A : Type 0} (m : ℕ → Option A) (k : ℕ) (a : A) → at m k a k ≡ Some a
at_same m k a = ap (λ b. cond b (Some a) (m k)) (eq-eqb k k refl)

pub at_other : {A : Type 0} (m : ℕ → Option A) (k : ℕ) (a : A) (j : ℕ) → j ≢ k → at m k a j ≡ m j
at_other m k a j ne = ap (λ b. cond b (Some a) (m j)) (ne_eqb j k ne)

pub put_same : (memory : ℕ → ℕ → Value) (l x : ℕ) (v : Value) → put memory l x v l x ≡ v
put_same memory l x v =
    ap (λ b. cond b (cond (nat_eq x x) v (memory l x)) (memory l x)) (eq-eqb l l refl)
    ∙ ap (λ b. cond b v (memory l x)) (eq-eqb x x refl)

-- two variables of the memory, each with the level of its call, are not one
abbrev pub Apart : ℕ → ℕ → ℕ → ℕ → Type 0
Apart k y l x = (k ≢ l) ⊎ (y ≢ x)

-- the state after a Store of a whole variable
abbrev pub stored : State → ℕ → ℕ → Value → State
stored s l x v = record { place = s.place + 1; ids = s.ids; below = s.below; memory = put s.memory l x v }

-- what the one buffer holds: a wrapper around uints
abbrev pub row : Shape
row = Fields (Field 0 (Unbounded 4 (Words false)) NoField)

-- a pointer to a word of the one buffer
abbrev pub word_at : ℕ → Operand
word_at n = InBuffer 0 0 (n * 4) (Words false)

module _ (m : Setting) (s : State) where
  -- ---- Load and Store

  pub load_acts : (t r p l x : ℕ) (path : List ℕ) (v : Value) → s.ids p ≡ Some (Path (Local l x) path) → part (s.memory l x) path ≡ Found v → act m Load (t ∷ r ∷ p ∷ []) s ≡ Goes (gives s r (Plain v))
  load_acts t r p l x path v h e =
      ap (λ o. load m s r o) h ∙ ap (λ o. with_found o (λ w. Goes (gives s r (Plain w)))) e

  -- of a built-in value
  pub load_input : (t r p b : ℕ) (v : Value) → s.ids p ≡ Some (Path (Input b) []) → m.built_ins b ≡ Some v → act m Load (t ∷ r ∷ p ∷ []) s ≡ Goes (gives s r (Plain v))
  load_input t r p b v h e =
      ap (λ o. load m s r o) h ∙ ap (λ o. with_some o (λ v. Goes (gives s r (Plain v)))) e

  pub store_acts : (p v l x : ℕ) (w : Value) → s.ids p ≡ Some (Path (Local l x) []) → s.ids v ≡ Some (Plain w) → act m Store (p ∷ v ∷ []) s ≡ Goes (stored s l x w)
  store_acts p v l x w h e = ap (λ o. store m s o (s.ids v)) h ∙ ap (λ o. store m s (Some (Path (Local l x) [])) o) e

  -- to a word of the buffer
  pub store_writes : (p v n w : ℕ) → s.ids p ≡ Some (word_at n) → s.ids v ≡ Some (Plain (Word w)) → act m Store (p ∷ v ∷ []) s ≡ Writes 0 0 n w (next s)
  store_writes p v n w h e =
      ap (λ o. store m s o (s.ids v)) h ∙ ap (λ o. store m s (Some (word_at n)) o) e
      ∙ ap (λ k. Writes 0 0 k w (next s)) (mul-div_cancel n {n = 4} (omega arith))

  -- ---- AccessChain, whose indices hold no int

  -- an index is taken as it is
  index_taken : (i n : ℕ) (go : ℕ → Turn) → s.ids i ≡ Some (Plain (Word n)) → m.signed i ≡ false → with_word (s.ids i) (λ w. cond (m.signed i && is_negative w) IsUndefined (go w)) ≡ go n
  index_taken i n go h e =
      ap (λ o. with_word o (λ w. cond (m.signed i && is_negative w) IsUndefined (go w))) h
      ∙ ap (λ b. cond (b && is_negative n) IsUndefined (go n)) e

  chain_part : (t r p i l x k : ℕ) → s.ids p ≡ Some (Path (Local l x) []) → s.ids i ≡ Some (Plain (Word k)) → m.signed i ≡ false → act m AccessChain (t ∷ r ∷ p ∷ i ∷ []) s ≡ with_found (part (s.memory l x) (k ∷ [])) (λ w. Goes (gives s r (Path (Local l x) (k ∷ []))))
  chain_part t r p i l x k h e u =
      ap (λ o. chain m s r o (i ∷ [])) h
      ∙ index_taken i k (λ w. with_found (part (s.memory l x) (w ∷ [])) (λ v. Goes (gives s r (Path (Local l x) (w ∷ []))))) e u

  -- a pointer to a part of a variable
  pub chain_acts : (t r p i l x k : ℕ) (v : Value) → s.ids p ≡ Some (Path (Local l x) []) → s.ids i ≡ Some (Plain (Word k)) → m.signed i ≡ false → part (s.memory l x) (k ∷ []) ≡ Found v → act m AccessChain (t ∷ r ∷ p ∷ i ∷ []) s ≡ Goes (gives s r (Path (Local l x) (k ∷ [])))
  chain_acts t r p i l x k v h e u f = chain_part t r p i l x k h e u ∙ ap (λ o. with_found o (λ w. Goes (gives s r (Path (Local l x) (k ∷ []))))) f

  pub chain_undefined : (t r p i l x k : ℕ) → s.ids p ≡ Some (Path (Local l x) []) → s.ids i ≡ Some (Plain (Word k)) → m.signed i ≡ false → part (s.memory l x) (k ∷ []) ≡ Outside → act m AccessChain (t ∷ r ∷ p ∷ i ∷ []) s ≡ IsUndefined
  chain_undefined t r p i l x k h e u f = chain_part t r p i l x k h e u ∙ ap (λ o. with_found o (λ w. Goes (gives s r (Path (Local l x) (k ∷ []))))) f

  -- the byte of a word of the buffer, where the buffer has this word
  chain_spot : (t r p z i n : ℕ) → s.ids p ≡ Some (InBuffer 0 0 0 row) → s.ids z ≡ Some (Plain (Word 0)) → m.signed z ≡ false → s.ids i ≡ Some (Plain (Word n)) → m.signed i ≡ false → act m AccessChain (t ∷ r ∷ p ∷ z ∷ i ∷ []) s ≡ with_spot (within n (m.lengths 0 0) (Byte (0 + 0 + n * 4) (Words false))) (λ j of. Goes (gives s r (InBuffer 0 0 j of)))
  chain_spot t r p z i n h e u f v =
      let at_spot : List ℕ → Turn = λ ws. with_spot (spot (m.lengths 0 0) row ws 0) (λ j of. Goes (gives s r (InBuffer 0 0 j of))) in
      ap (λ o. chain m s r o (z ∷ i ∷ [])) h
      ∙ index_taken z 0 (λ a. with_word (s.ids i) (λ b. cond (m.signed i && is_negative b) IsUndefined (at_spot (a ∷ b ∷ [])))) e u
      ∙ index_taken i n (λ b. at_spot (0 ∷ b ∷ [])) f v
      ∙ ap (λ k. with_spot (within n k (Byte (0 + 0 + n * 4) (Words false))) (λ j of. Goes (gives s r (InBuffer 0 0 j of)))) (mul-div_cancel_left (m.lengths 0 0) {n = 4} (omega arith))

  -- a pointer to a word of the buffer
  pub chain_cell : (t r p z i n : ℕ) → s.ids p ≡ Some (InBuffer 0 0 0 row) → s.ids z ≡ Some (Plain (Word 0)) → m.signed z ≡ false → s.ids i ≡ Some (Plain (Word n)) → m.signed i ≡ false → nat_lt n (m.lengths 0 0) ≡ true → act m AccessChain (t ∷ r ∷ p ∷ z ∷ i ∷ []) s ≡ Goes (gives s r (word_at n))
  chain_cell t r p z i n h e u f v lt =
      chain_spot t r p z i n h e u f v
      ∙ ap (λ b. with_spot (cond b (Byte (0 + 0 + n * 4) (Words false)) Beyond) (λ j of. Goes (gives s r (InBuffer 0 0 j of)))) lt
      ∙ ap (λ j. Goes (gives s r (InBuffer 0 0 j (Words false)))) (omega arith)

  pub chain_beyond : (t r p z i n : ℕ) → s.ids p ≡ Some (InBuffer 0 0 0 row) → s.ids z ≡ Some (Plain (Word 0)) → m.signed z ≡ false → s.ids i ≡ Some (Plain (Word n)) → m.signed i ≡ false → nat_lt n (m.lengths 0 0) ≡ false → act m AccessChain (t ∷ r ∷ p ∷ z ∷ i ∷ []) s ≡ IsUndefined
  chain_beyond t r p z i n h e u f v ge =
      chain_spot t r p z i n h e u f v
      ∙ ap (λ b. with_spot (cond b (Byte (0 + 0 + n * 4) (Words false)) Beyond) (λ j of. Goes (gives s r (InBuffer 0 0 j of)))) ge

  -- ---- operators

  -- an operation on two words that is never undefined
  binary_acts : (r a b x y : ℕ) (f : ℕ → ℕ → ℕ) → s.ids a ≡ Some (Plain (Word x)) → s.ids b ≡ Some (Plain (Word y)) → binary s r (s.ids a) (s.ids b) (λ x y. Found (Word (f x y))) ≡ Goes (gives s r (Plain (Word (f x y))))
  binary_acts r a b x y f h e =
      ap (λ o. binary s r o (s.ids b) (λ x y. Found (Word (f x y)))) h
      ∙ ap (λ o. binary s r (Some (Plain (Word x))) o (λ x y. Found (Word (f x y)))) e

  pub add_acts : (t r a b x y : ℕ) → s.ids a ≡ Some (Plain (Word x)) → s.ids b ≡ Some (Plain (Word y)) → act m IAdd (t ∷ r ∷ a ∷ b ∷ []) s ≡ Goes (gives s r (Plain (Word (word_add x y))))
  add_acts t r a b x y h e = binary_acts r a b x y word_add h e
