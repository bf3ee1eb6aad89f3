-- Instructions that are pushed one by one.
use Rattle.std.proofs.Common.{◌≡◌, ℕ, ◌+◌, ◌<◌, List, [], ◌∷◌, ◌++◌, length, get_or, take, sym, ap, ◌∙◌, append_assoc, add-zero, arith}
use Rattle.std.proofs.lemmas.Grind.{common_steps, take_at_read}
use Rattle.spirv_words.specs.declared.opcodes.Op.TheVariants.{Constant}
use Rattle.spirv_words.specs.declared.images.Instruction.{Instruction}
use Rattle.first_image.specs.Templates.{ins}
use Rattle.first_image.specs.Sections.{constants_code}

-- the code has become `new` by these instructions
pub record Adds (old new more : List Instruction) : Type 0 where
  pub is : new ≡ old ++ more

pub first : {old new : List Instruction} {more : List Instruction} → new ≡ old ++ more → Adds old new more
first e = record { is = e }

pub then : {old mid new xs : List Instruction} (ys : List Instruction) → Adds old mid xs → new ≡ mid ++ ys → Adds old new (xs ++ ys)
then {old} {mid} {new} {xs} ys a e = record { is = e ∙ ap (λ l. l ++ ys) a.is ∙ append_assoc old xs ys }

-- ---- constants

constants_code-push : (id : ℕ) (ks : List ℕ) (k : ℕ) → constants_code id (ks ++ k ∷ []) ≡ constants_code id ks ++ ins Constant (4 ∷ (id + length ks) ∷ k ∷ []) ∷ []
constants_code-push id [] k = ap (λ x. ins Constant (4 ∷ x ∷ k ∷ []) ∷ []) (sym (add-zero id))
constants_code-push id (x ∷ ks) k = ap (λ l. ins Constant (4 ∷ id ∷ x ∷ []) ∷ l) (constants_code-push (id + 1) ks k ∙ ap (λ n. constants_code (id + 1) ks ++ ins Constant (4 ∷ n ∷ k ∷ []) ∷ []) (omega arith))

pub constants_turn : (ks : List ℕ) (i d : ℕ) (o m n : List Instruction) → i < length ks → m ≡ o ++ constants_code 13 (take i ks)
    → n ≡ m ++ ins Constant (4 ∷ (13 + i) ∷ get_or ks i d ∷ []) ∷ [] → n ≡ o ++ constants_code 13 (take (i + 1) ks)
constants_turn ks i d o m n lt p q =
    let e : length (take i ks) ≡ i = grind (arith, common_steps) in
    q ∙ ap (λ x. x ++ ins Constant (4 ∷ (13 + i) ∷ get_or ks i d ∷ []) ∷ []) p
    ∙ append_assoc o (constants_code 13 (take i ks)) _
    ∙ ap (λ x. o ++ (constants_code 13 (take i ks) ++ ins Constant (4 ∷ (13 + x) ∷ get_or ks i d ∷ []) ∷ [])) (sym e)
    ∙ ap (λ x. o ++ x) (sym (constants_code-push 13 (take i ks) (get_or ks i d)))
    ∙ ap (λ x. o ++ constants_code 13 x) (sym (take_at_read ks i d lt).1)

pub regroup_seven : (a b c d e f g : List Instruction) → (((((a ++ b) ++ c) ++ d) ++ e) ++ f) ++ g ≡ a ++ (b ++ (c ++ (d ++ (e ++ (f ++ g)))))
regroup_seven a b c d e f g = simp append_assoc
