-- Under which Function and which Label instructions stand, one after another.
use Rattle.std.proofs.Common.{◌≡◌, ℕ, zero, suc, ◌<◌, ◌≤◌, inl, inr, List, Option, Some, None, refl, sym, ap, subst, ◌∙◌, arith}
use Rattle.std.proofs.lemmas.Bool.{cases_eq}
use Rattle.spirv_words.specs.declared.opcodes.Op.{Op}
use Rattle.spirv_words.specs.declared.opcodes.Op.TheVariants.{Function, FunctionEnd, Label}
use Rattle.spirv_words.specs.declared.images.Instruction.{Instruction}
use Rattle.image_places.specs.Places.{op_at, under_function, under_label, function_of, block_of}

-- ---- one instruction further

-- an opcode that opens nothing and closes nothing
record Plain (o : Option Op) : Type 0 where
  function : (h b : ℕ) → under_function o h b ≡ b
  block : (h b : ℕ) → under_label o h b ≡ b
  no_label : o ≡ Some Label → ⊥

data Kind (o : Option Op) : Type 0 where
  opens_by : o ≡ Some Function → Kind o
  closes_by : o ≡ Some FunctionEnd → Kind o
  labels_by : o ≡ Some Label → Kind o
  plain_by : Plain o → Kind o

kind_of : (op : Op) → Kind (Some op)
kind_of Function = opens_by refl
kind_of FunctionEnd = closes_by refl
kind_of Label = labels_by refl
kind_of op = plain_by (record { function = λ h b. refl; block = λ h b. refl; no_label = λ e. cc })

kind : (o : Option Op) → Kind o
kind None = plain_by (record { function = λ h b. refl; block = λ h b. refl; no_label = λ e. cc })
kind (Some op) = kind_of op

-- what an instruction does to the function and the block that are open
pub data Turn (code : List Instruction) (k : ℕ) : Type 0 where
  opens : (op : op_at code k ≡ Some Function) (f : function_of code (suc k) ≡ suc k) (b : block_of code (suc k) ≡ block_of code k) → Turn code k
  closes : (op : op_at code k ≡ Some FunctionEnd) (f : function_of code (suc k) ≡ 0) (b : block_of code (suc k) ≡ 0) → Turn code k
  labels : (op : op_at code k ≡ Some Label) (f : function_of code (suc k) ≡ function_of code k) (b : block_of code (suc k) ≡ suc k) → Turn code k
  stays : (op : op_at code k ≡ Some Label → ⊥) (f : function_of code (suc k) ≡ function_of code k) (b : block_of code (suc k) ≡ block_of code k) → Turn code k

pub turn : (code : List Instruction) (k : ℕ) → Turn code k
turn code k =
    let f : Option Op → ℕ = λ (o : Option Op). under_function o (suc k) (function_of code k) in
    let b : Option Op → ℕ = λ (o : Option Op). under_label o (suc k) (block_of code k) in
    elim (kind (op_at code k)) [
      | opens_by e ↦ opens e (ap f e) (ap b e)
      | closes_by e ↦ closes e (ap f e) (ap b e)
      | labels_by e ↦ labels e (ap f e) (ap b e)
      | plain_by p ↦ stays p.no_label (p.function (suc k) (function_of code k)) (p.block (suc k) (block_of code k))
    ]

pub function_within : (code : List Instruction) (k : ℕ) → function_of code k ≤ k
function_within code zero = omega arith
function_within code (suc k) =
    let h : function_of code k ≤ k = function_within code k in
    elim (turn code k) [ opens op f b ↦ omega arith | closes op f b ↦ omega arith | labels op f b ↦ omega arith | stays op f b ↦ omega arith ]

pub block_within : (code : List Instruction) (k : ℕ) → block_of code k ≤ k
block_within code zero = omega arith
block_within code (suc k) =
    let h : block_of code k ≤ k = block_within code k in
    elim (turn code k) [ opens op f b ↦ omega arith | closes op f b ↦ omega arith | labels op f b ↦ omega arith | stays op f b ↦ omega arith ]

-- ---- in one function

-- a block of a function stays open in it
pub stays_in_block : (code : List Instruction) (j q : ℕ) → j ≤ q → function_of code j ≡ function_of code q → (function_of code q ≡ 0 → ⊥)
    → (block_of code j ≡ 0 → ⊥) → block_of code q ≡ 0 → ⊥
stays_in_block code j zero h same inside block none = let e : j ≡ 0 = omega arith in block (ap (block_of code) e ∙ none)
stays_in_block code j (suc q) h same inside block none = elim (cases_eq j (suc q)) [
  | inl e ↦ block (ap (block_of code) e ∙ none)
  | inr other ↦ (let le : j ≤ q = omega arith in
      let w : function_of code j ≤ j = function_within code j in
      elim (turn code q) [
        | opens op f b ↦ absurd (omega arith)
        | closes op f b ↦ inside f
        | labels op f b ↦ absurd (omega arith)
        | stays op f b ↦ stays_in_block code j q le (same ∙ f) (λ e. inside (f ∙ e)) block (sym b ∙ none)
      ])
]

-- a function is open from behind its Function on
pub record Opened (code : List Instruction) (p q : ℕ) : Type 0 where
  pub op : op_at code p ≡ Some Function
  pub before : p < q
  pub throughout : (m : ℕ) → p < m → m ≤ q → function_of code m ≡ suc p

still_open : (code : List Instruction) (p q : ℕ) → Opened code p q → function_of code (suc q) ≡ suc p → Opened code p (suc q)
still_open code p q o e =
    let less : p < q = o.before in
    record {
      op = o.op;
      before = omega arith;
      throughout = λ m lo hi. elim (cases_eq m (suc q)) [
        | inl at ↦ ap (function_of code) at ∙ e
        | inr other ↦ o.throughout m lo (omega arith)
      ];
    }

pub opened : (code : List Instruction) (p q : ℕ) → function_of code q ≡ suc p → Opened code p q
opened code p zero e = absurd (omega arith)
opened code p (suc q) e = elim (turn code q) [
  | opens op f b ↦ (let same : q ≡ p = omega arith in
      record {
        op = subst (λ (n : ℕ). op_at code n ≡ Some Function) same op;
        before = omega arith;
        throughout = λ m lo hi. (let at : m ≡ suc q = omega arith in ap (function_of code) at ∙ e);
      })
  | closes op f b ↦ absurd (omega arith)
  | labels op f b ↦ still_open code p q (opened code p q (sym f ∙ e)) e
  | stays op f b ↦ still_open code p q (opened code p q (sym f ∙ e)) e
]
