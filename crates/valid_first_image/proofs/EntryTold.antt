-- What the image of a shader says of its entry: the name, and the sizes of a group.
use Rattle.std.proofs.Common.{◌≡◌, ℕ, ◌+◌, ◌*◌, ◌/◌, ◌%◌, ◌<◌, false, nat_eq, cond, List, [], ◌∷◌, ◌++◌, refl, ap, ◌∙◌, arith}
use Rattle.std.proofs.lemmas.Bool.{eq-eqb, ne_eqb}
use Rattle.spirv_words.specs.Strings.{string_words, IsText}
use Rattle.spirv_words.specs.Bytes.{bytes_of_words}
use Rattle.spirv_check.specs.Entry.{before_zero, entry_name, group_size}
use Rattle.first_form.specs.declared.shader.Shader.{Shader}
use Rattle.first_form.specs.Shaders.{IsShader}
use Rattle.first_image.specs.Image.{buffer_id, image_of}
use Rattle.first_image.proofs.SpelledImages.{free_name}

-- ---- text up to the first 0

ends : (x : ℕ) (xs : List ℕ) → x ≡ 0 → before_zero (x ∷ xs) ≡ []
ends x xs e = ap (λ b. cond b [] (x ∷ before_zero xs)) (eq-eqb x 0 e)

goes_on : (x a : ℕ) (xs bs : List ℕ) → x ≡ a → 0 < a → before_zero xs ≡ bs → before_zero (x ∷ xs) ≡ a ∷ bs
goes_on x a xs bs e some h =
    let f : nat_eq x 0 ≡ false = ne_eqb x 0 (λ z. omega (arith, some, e, z)) in
    ap (λ b. cond b [] (x ∷ before_zero xs)) f ∙ (ap (λ y. y ∷ before_zero xs) e ∙ ap (λ (ys : List ℕ). a ∷ ys) h)

-- the bytes of a string's words, up to the first 0, are the string
told_again : (bytes rest : List ℕ) → IsText bytes → before_zero (bytes_of_words (string_words bytes ++ rest)) ≡ bytes
told_again [] rest text = refl
told_again (a ∷ []) rest (a0, a1, text) =
    let t : List ℕ = bytes_of_words rest in
    goes_on (a % 256) a (a / 256 % 256 ∷ a / 65536 % 256 ∷ a / 16777216 % 256 ∷ t) [] (omega arith) a0
    (ends (a / 256 % 256) (a / 65536 % 256 ∷ a / 16777216 % 256 ∷ t) (omega arith))
told_again (a ∷ b ∷ []) rest (a0, a1, (b0, b1, text)) =
    let w : ℕ = a + 256 * b in
    let t : List ℕ = bytes_of_words rest in
    goes_on (w % 256) a (w / 256 % 256 ∷ w / 65536 % 256 ∷ w / 16777216 % 256 ∷ t) (b ∷ []) (omega arith) a0
    (goes_on (w / 256 % 256) b (w / 65536 % 256 ∷ w / 16777216 % 256 ∷ t) [] (omega arith) b0
    (ends (w / 65536 % 256) (w / 16777216 % 256 ∷ t) (omega arith)))
told_again (a ∷ b ∷ c ∷ []) rest (a0, a1, (b0, b1, (c0, c1, text))) =
    let w : ℕ = a + 256 * b + 65536 * c in
    let t : List ℕ = bytes_of_words rest in
    goes_on (w % 256) a (w / 256 % 256 ∷ w / 65536 % 256 ∷ w / 16777216 % 256 ∷ t) (b ∷ c ∷ []) (omega arith) a0
    (goes_on (w / 256 % 256) b (w / 65536 % 256 ∷ w / 16777216 % 256 ∷ t) (c ∷ []) (omega arith) b0
    (goes_on (w / 65536 % 256) c (w / 16777216 % 256 ∷ t) [] (omega arith) c0
    (ends (w / 16777216 % 256) t (omega arith))))
told_again (a ∷ b ∷ c ∷ d ∷ more) rest (a0, a1, (b0, b1, (c0, c1, (d0, d1, text)))) =
    let w : ℕ = a + 256 * b + 65536 * c + 16777216 * d in
    let t : List ℕ = bytes_of_words (string_words more ++ rest) in
    let h : before_zero t ≡ more = told_again more rest text in
    goes_on (w % 256) a (w / 256 % 256 ∷ w / 65536 % 256 ∷ w / 16777216 % 256 ∷ t) (b ∷ c ∷ d ∷ more) (omega arith) a0
    (goes_on (w / 256 % 256) b (w / 65536 % 256 ∷ w / 16777216 % 256 ∷ t) (c ∷ d ∷ more) (omega arith) b0
    (goes_on (w / 65536 % 256) c (w / 16777216 % 256 ∷ t) (d ∷ more) (omega arith) c0
    (goes_on (w / 16777216 % 256) d t more (omega arith) d0 h)))

-- ---- the entry

pub entry_is_named : (home : List ℕ) (p : Shader) → IsShader p → entry_name (image_of home p).instructions ≡ p.entry
entry_is_named home p shader = told_again p.entry (buffer_id p ∷ (buffer_id p + 1) ∷ []) (free_name p.entry shader.entry).0

pub group_is : (home : List ℕ) (p : Shader) → group_size (image_of home p).instructions ≡ p.group.x ∷ p.group.y ∷ p.group.z ∷ []
group_is home p = refl
