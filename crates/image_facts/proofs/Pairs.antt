-- No two buffers have one set and binding.
use Rattle.std.proofs.Common.{◌≡◌, ℕ, zero, suc, ◌+◌, ◌<◌, max, Bool, true, false, cond, ◌&&◌, nat_eq, List, [], ◌∷◌, take, slice_get, slice_index, Option, Some, None, refl, sym, ap, ◌∙◌, arith}
use Rattle.std.proofs.lemmas.Bool.{eq-eqb, cases_lt}
use Rattle.std.proofs.Math.Logic.{⊎_elim}
use Rattle.spirv_words.specs.declared.images.Instruction.{Instruction}
use Rattle.spirv_words.specs.declared.images.Image.{Image}
use Rattle.spirv_words.specs.Machine.{or_zero, decoration}
use Rattle.image_declarations.specs.declared.decorations.Mark.{Mark}
use Rattle.image_declarations.specs.Decorations.{mark, same_pair, literal_of}
use Rattle.image_operands.specs.Marks.{is_buffer, pair_at, completed, is_pair, is_taken, taken_in, clashes}
use Rattle.call_graph.proofs.Visits.{or-left, or-right}
use Rattle.spirv_check.specs.Valid.{Valid}
use Rattle.image_facts.proofs.Rules.{no-clash}
use Rattle.image_facts.proofs.Marks.{decoration-is, decorates, mark-found, mark-there}
use Rattle.image_facts.proofs.Globals.{buffer-marks}

same-pairs : (a b c d : ℕ) → a ≡ c → b ≡ d → same_pair (a, b) (c, d) ≡ true
same-pairs a b c d e f = ap (λ (t : Bool). t && nat_eq b d) (eq-eqb a c e) ∙ eq-eqb b d f

taken-at : (code is : List Instruction) (from k : ℕ) (i : Instruction) (pair : ℕ × ℕ) → slice_get is k ≡ Some i
    → is_pair (completed code (from + k) i) pair ≡ true → is_taken code is from pair ≡ true
taken-at code [] from k i pair h p = cc
taken-at code (x ∷ is) from zero i pair h p =
    let same : x ≡ i = cc in
    let at : from ≡ from + 0 = omega arith in
    or-left (is_pair (completed code from x) pair) (is_taken code is (from + 1) pair)
    (ap (λ (y : Instruction). is_pair (completed code from y) pair) same ∙ (ap (λ (n : ℕ). is_pair (completed code n i) pair) at ∙ p))
taken-at code (x ∷ is) from (suc k) i pair h p =
    let at : (from + 1) + k ≡ from + suc k = omega arith in
    or-right (is_pair (completed code from x) pair) (is_taken code is (from + 1) pair)
    (taken-at code is (from + 1) k i pair h (ap (λ (n : ℕ). is_pair (completed code n i) pair) at ∙ p))

taken-front : (code : List Instruction) (j k : ℕ) → k < j → slice_get (take j code) k ≡ slice_get code k
taken-front [] zero k l = absurd (omega arith)
taken-front [] (suc j) k l = refl
taken-front (x ∷ code) zero k l = absurd (omega arith)
taken-front (x ∷ code) (suc j) zero l = refl
taken-front (x ∷ code) (suc j) (suc k) l = taken-front code j k (omega arith)

-- the instruction that completes the set and binding of a buffer
record IsCompleted (code : List Instruction) (x : ℕ) : Type 0 where
  pub place : ℕ
  pub kind : ℕ
  pub literal : ℕ
  pub set : ℕ
  pub binding : ℕ
  pub its_set : or_zero (decoration code x 34) ≡ set
  pub its_binding : or_zero (decoration code x 33) ≡ binding
  pub stands : slice_get code place ≡ Some (decorates x kind literal)
  pub completes : completed code place (decorates x kind literal) ≡ Some (set, binding)

completes-by : (code : List Instruction) (x kind literal place : ℕ) (s b : Mark) → is_buffer code x ≡ true → mark code 0 x 34 ≡ Some s → mark code 0 x 33 ≡ Some b
    → max s.place b.place ≡ place → completed code place (decorates x kind literal) ≡ Some (s.literal, b.literal)
unfolding completed
completes-by code x kind literal place s b h e f p =
    ap (λ (t : Bool). cond t (pair_at (mark code 0 x 34) (mark code 0 x 33) place) None) h
    ∙ ap (λ (o : Option Mark). pair_at o (mark code 0 x 33) place) e
    ∙ ap (λ (o : Option Mark). pair_at (Some s) o place) f
    ∙ ap (λ (t : Bool). cond t (Some (s.literal, b.literal)) None) (eq-eqb (max s.place b.place) place p)

clash-means : (code before : List Instruction) (place : ℕ) (i : Instruction) (pair : ℕ × ℕ) → clashes code before place i ≡ false
    → completed code place i ≡ Some pair → is_taken code before 0 pair ≡ false
unfolding clashes
clash-means code before place i pair h e = ap (taken_in (is_taken code before 0)) (sym e) ∙ h

target-of : {x y a b c d : ℕ} → Some (decorates x a b) ≡ Some (decorates y c d) → x ≡ y
target-of e = ap first (ap operands-in e)
  where
    operands-in : Option Instruction → List ℕ
    operands-in None = []
    operands-in (Some i) = i.operands

    first : List ℕ → ℕ
    first os = slice_index os 0

module _ (image : Image) (v : Valid image) where
  buffer-completed : (x : ℕ) → is_buffer image.instructions x ≡ true → IsCompleted image.instructions x
  buffer-completed x h =
      let code = image.instructions in
      let marks = buffer-marks image v x h in
      let s = mark-there (mark code 0 x 34) marks.0 in
      let b = mark-there (mark code 0 x 33) marks.1 in
      let s-at = mark-found code 0 x 34 s.0 s.1 in
      let b-at = mark-found code 0 x 33 b.0 b.1 in
      let set : or_zero (decoration code x 34) ≡ s.0.literal = decoration-is code 0 x 34 ∙ ap literal_of s.1 in
      let binding : or_zero (decoration code x 33) ≡ b.0.literal = decoration-is code 0 x 33 ∙ ap literal_of b.1 in
      ⊎_elim
      (λ l. record {
        place = b-at.steps;
        kind = 33;
        literal = b.0.literal;
        set = s.0.literal;
        binding = b.0.literal;
        its_set = set;
        its_binding = binding;
        stands = b-at.stands;
        completes = completes-by code x 33 b.0.literal b-at.steps s.0 b.0 h s.1 b.1 (omega (arith, l, b-at.far));
      })
      (λ l. record {
        place = s-at.steps;
        kind = 34;
        literal = s.0.literal;
        set = s.0.literal;
        binding = b.0.literal;
        its_set = set;
        its_binding = binding;
        stands = s-at.stands;
        completes = completes-by code x 34 s.0.literal s-at.steps s.0 b.0 h s.1 b.1 (omega (arith, l, s-at.far));
      })
      (cases_lt s.0.place b.0.place)

  not-before : (x y : ℕ) (a : IsCompleted image.instructions x) (b : IsCompleted image.instructions y) → a.set ≡ b.set → a.binding ≡ b.binding
      → a.place < b.place → ⊥
  not-before x y a b e f l =
      let code = image.instructions in
      let pair : ℕ × ℕ = (b.set, b.binding) in
      let free = clash-means code (take b.place code) b.place (decorates y b.kind b.literal) pair (no-clash image v b.place (decorates y b.kind b.literal) b.stands) b.completes in
      let at : 0 + a.place ≡ a.place = omega arith in
      let p : is_pair (completed code (0 + a.place) (decorates x a.kind a.literal)) pair ≡ true =
      ap (λ (n : ℕ). is_pair (completed code n (decorates x a.kind a.literal)) pair) at
      ∙ (ap (λ (o : Option (ℕ × ℕ)). is_pair o pair) a.completes ∙ same-pairs a.set a.binding b.set b.binding e f) in
      let taken = taken-at code (take b.place code) 0 a.place (decorates x a.kind a.literal) pair (taken-front code b.place a.place l ∙ a.stands) p in
      cc

  -- buffers with one set and binding are one
  pub one-buffer : (x y : ℕ) → is_buffer image.instructions x ≡ true → is_buffer image.instructions y ≡ true
      → or_zero (decoration image.instructions x 34) ≡ or_zero (decoration image.instructions y 34)
      → or_zero (decoration image.instructions x 33) ≡ or_zero (decoration image.instructions y 33) → x ≡ y
  one-buffer x y h g e f =
      let a = buffer-completed x h in
      let b = buffer-completed y g in
      let s : a.set ≡ b.set = sym a.its_set ∙ (e ∙ b.its_set) in
      let t : a.binding ≡ b.binding = sym a.its_binding ∙ (f ∙ b.its_binding) in
      ⊎_elim
      (λ l. absurd (not-before x y a b s t l))
      (λ m. ⊎_elim
      (λ l. absurd (not-before y x b a (sym s) (sym t) l))
      (λ n. let same : a.place ≡ b.place = omega arith in
      target-of (sym a.stands ∙ (ap (slice_get image.instructions) same ∙ b.stands)))
      (cases_lt b.place a.place))
      (cases_lt a.place b.place)
