-- An image has at most one first fault, and none if it is valid.
use Rattle.std.proofs.Common.{◌≡◌, ℕ, inl, inr, Some, Result, Ok, Err, IfOk, nat_eq, cond, ◌∙◌, refl, sym, ap, subst}
use Rattle.std.proofs.lemmas.Bool.{cases_order}
use Rattle.spirv_words.specs.declared.images.Image.{Image}
use Rattle.spirv_words.specs.declared.faults.ImageCode.{ImageCode}
use Rattle.spirv_words.specs.declared.faults.ImageCode.TheVariants.{Short, Header, Opcode, Operands, Order, Ids, Types, Blocks, Calls, FileLimit}
use Rattle.spirv_words.specs.declared.faults.ImageFault.{ImageFault}
use Rattle.spirv_words.specs.declared.faults.ImageFault.TheVariants.{Refused, Memory}
use Rattle.spirv_words.specs.Codes.{code_number}
use Rattle.spirv_words.specs.Refusals.{IfRefused, UnlessMemory}
use Rattle.image_places.specs.Places.{IsFirst}
use Rattle.spirv_check.specs.Valid.{Breaks, Valid, FirstInvalid}

one_place : (W : ℕ → Type 0) (p q : ℕ) → IsFirst W (Some p) → IsFirst W (Some q) → p ≡ q
one_place W p q a b = elim (cases_order p q) [
  | inl e ↦ e
  | inr (inl l) ↦ absurd (b.1 p l a.0)
  | inr (inr g) ↦ absurd (a.1 q g b.0)
]

one_code : (image : Image) (p q : ℕ) (c d : ImageCode) → FirstInvalid image p c → FirstInvalid image q d → code_number c ≡ code_number d
one_code image p q c d a b = elim (cases_order (code_number c) (code_number d)) [
  | inl e ↦ e
  | inr (inl l) ↦ absurd (b.keeps_earlier c l p a.first.0)
  | inr (inr g) ↦ absurd (a.keeps_earlier d g q b.first.0)
]

-- codes differ in their numbers
abbrev code_of : ℕ → ImageCode
code_of n =
    (cond (nat_eq n 401) Short (cond (nat_eq n 402) Header (cond (nat_eq n 403) Opcode (cond (nat_eq n 404) Operands (cond (nat_eq n 405) Order (cond (nat_eq n 406) Ids (cond (nat_eq n 407) Types (cond (nat_eq n 408) Blocks (cond (nat_eq n 409) Calls FileLimit)))))))))

of_number : (c : ImageCode) → code_of (code_number c) ≡ c
of_number Short = refl
of_number Header = refl
of_number Opcode = refl
of_number Operands = refl
of_number Order = refl
of_number Ids = refl
of_number Types = refl
of_number Blocks = refl
of_number Calls = refl
of_number FileLimit = refl

same_code : (c d : ImageCode) → code_number c ≡ code_number d → c ≡ d
same_code c d e = sym (of_number c) ∙ (ap code_of e ∙ of_number d)

pub no_fault : (image : Image) (p : ℕ) (c : ImageCode) → Valid image → FirstInvalid image p c → ⊥
no_fault image p c v f = v.keeps c p f.first.0

pub one_fault : (image : Image) (p q : ℕ) (c d : ImageCode) → FirstInvalid image p c → FirstInvalid image q d → (p ≡ q) × (c ≡ d)
one_fault image p q c d a b =
    let codes = same_code c d (one_code image p q c d a b) in
    let P : ImageCode → Type 0 = λ e. IsFirst (Breaks image e) (Some p) in
    (one_place (Breaks image d) p q (subst P codes a.first) b.first, codes)

pub answered_if_valid : (image : Image) (r : Result Image ImageFault) → IfOk r (λ checked. (checked ≡ image) × Valid checked) → IfRefused r (FirstInvalid image)
    → Valid image → UnlessMemory r (r ≡ Ok image)
answered_if_valid image (Ok a) h u v = ap Ok h.0
answered_if_valid image (Err (Refused p c)) h u v = absurd (no_fault image p c v u)
answered_if_valid image (Err (Memory e)) h u v = tt

pub answered_if_invalid : (image : Image) (r : Result Image ImageFault) → IfOk r (λ checked. (checked ≡ image) × Valid checked) → IfRefused r (FirstInvalid image)
    → (place : ℕ) (code : ImageCode) → FirstInvalid image place code → UnlessMemory r (r ≡ Err (Refused place code))
answered_if_invalid image (Ok a) h u place code f = absurd (no_fault a place code h.1 (subst (λ (i : Image). FirstInvalid i place code) (sym h.0) f))
answered_if_invalid image (Err (Refused p c)) h u place code f =
    let once = one_fault image p place c code u f in
    let at : p ≡ place = once.0 in
    let kind : c ≡ code = once.1 in
    cc
answered_if_invalid image (Err (Memory e)) h u place code f = tt
