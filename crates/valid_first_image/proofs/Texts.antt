-- The literals of an entry point's name, among the operands that are ids.
use Rattle.std.proofs.Common.{◌≡◌, ℕ, suc, ◌+◌, ◌*◌, ◌/◌, ◌%◌, ◌^◌, ◌<◌, ◌≤◌, Bool, true, false, ◌&&◌, cond, List, [], ◌∷◌, ◌++◌, length, refl, sym, ap, ◌∙◌, subst, arith, lit<}
use Rattle.std.specs.Prelude.{nat_le, nat_lt, slice_index_or}
use Rattle.std.specs.List.{AllByRecursion}
use Rattle.std.proofs.lemmas.Bool.Decides.{nat_tests}
use Rattle.std.proofs.lemmas.Bool.{le-leb, lt-ltb, false_from_ne_true, ltb-true}
use Rattle.std.proofs.lemmas.List.{get_or_past}
use Rattle.spirv_words.specs.Strings.{string_words, IsText}
use Rattle.spirv_words.specs.declared.opcodes.Op.TheVariants.{EntryPoint, Name}
use Rattle.spirv_words.specs.declared.images.Instruction.{Instruction}
use Rattle.spirv_words.specs.declared.images.Image.{Image}
use Rattle.image_places.specs.declared.roles.Role.{Role}
use Rattle.image_places.specs.declared.roles.Role.TheVariants.{Literal, Mention}
use Rattle.image_places.specs.Roles.{first_roles, later_role, goes_on, text_words, text_end, role_of}
use Rattle.first_image.specs.Templates.{ins}
use Rattle.first_image.proofs.Numbered.{Numbered}
use Rattle.valid_first_image.proofs.Named.{Placed, Fitting, Suiting}

-- ---- how many words of operands are the name

full : (w : ℕ) → 0 < w % 256 → 0 < w / 256 % 256 → 0 < w / 65536 % 256 → 0 < w / 16777216 → goes_on w ≡ true
full w a b c d = grind (arith, nat_tests)

last_of_one : (w : ℕ) → w / 256 % 256 ≡ 0 → goes_on w ≡ false
last_of_one w a = grind (arith, nat_tests)

last_of_two : (w : ℕ) → w / 65536 % 256 ≡ 0 → goes_on w ≡ false
last_of_two w a = grind (arith, nat_tests)

last_of_three : (w : ℕ) → w / 16777216 ≡ 0 → goes_on w ≡ false
last_of_three w a = grind (arith, nat_tests)

pub text_words-string_words : (bytes rest : List ℕ) → IsText bytes → text_words (string_words bytes ++ rest) ≡ length (string_words bytes)
text_words-string_words [] rest text = refl
text_words-string_words (a ∷ []) rest (a0, a1, text) = ap (λ g. cond g (suc (text_words rest)) 1) (last_of_one a (omega arith))
text_words-string_words (a ∷ b ∷ []) rest (a0, a1, (b0, b1, text)) = ap (λ g. cond g (suc (text_words rest)) 1) (last_of_two (a + 256 * b) (omega arith))
text_words-string_words (a ∷ b ∷ c ∷ []) rest (a0, a1, (b0, b1, (c0, c1, text))) =
    ap (λ g. cond g (suc (text_words rest)) 1) (last_of_three (a + 256 * b + 65536 * c) (omega arith))
text_words-string_words (a ∷ b ∷ c ∷ d ∷ more) rest (a0, a1, (b0, b1, (c0, c1, (d0, d1, text)))) =
    let w : ℕ = a + 256 * b + 65536 * c + 16777216 * d in
    let h : text_words (string_words more ++ rest) ≡ length (string_words more) = text_words-string_words more rest text in
    let g : goes_on w ≡ true = full w (omega arith) (omega arith) (omega arith) (omega arith) in
    ap (λ g. cond g (suc (text_words (string_words more ++ rest))) 1) g ∙ ap suc h

-- each of them is a word
pub strings_small : (bytes : List ℕ) → IsText bytes → AllByRecursion (λ w. w < 2 ^ 32) (string_words bytes)
strings_small [] text = (lit< tt, tt)
strings_small (a ∷ []) (a0, a1, text) = (omega arith, tt)
strings_small (a ∷ b ∷ []) (a0, a1, (b0, b1, text)) = (omega arith, tt)
strings_small (a ∷ b ∷ c ∷ []) (a0, a1, (b0, b1, (c0, c1, text))) = (omega arith, tt)
strings_small (a ∷ b ∷ c ∷ d ∷ more) (a0, a1, (b0, b1, (c0, c1, (d0, d1, text)))) = (omega arith, strings_small more text)

-- ---- the roles of these operands

is_literal : (end j : ℕ) (r : Role) → 2 ≤ j → j < end → cond (nat_le 2 j && nat_lt j end) Literal r ≡ Literal
is_literal end j r low below = ap (λ b. cond (b && nat_lt j end) Literal r) (le-leb 2 j low) ∙ ap (λ b. cond b Literal r) (lt-ltb j end below)

is_mention : (end j : ℕ) → 2 ≤ j → end ≤ j → role_of EntryPoint end j ≡ Mention
is_mention end j low past =
    let f : nat_lt j end ≡ false = false_from_ne_true (nat_lt j end) (λ e. let lt = ltb-true j end e in absurd (omega arith)) in
    ap (λ b. cond (b && nat_lt j end) Literal (slice_index_or (first_roles EntryPoint) j Mention)) (le-leb 2 j low)
    ∙ ap (λ b. cond b Literal (slice_index_or (first_roles EntryPoint) j Mention)) f
    ∙ get_or_past (first_roles EntryPoint) j Mention low

module _ (image : Image) (numbered : Numbered 1 image.instructions image.bound) where
  -- operands up to the end of the name suit, and then those behind it do
  literals : (k : ℕ) (i : Instruction) (xs rest : List ℕ) (j m : ℕ) → AllByRecursion (λ w. w < 2 ^ 32) xs → 2 ≤ j → j + length xs ≤ text_end i.op i.operands → j + length xs ≡ m
      → Suiting image numbered k i m rest → Suiting image numbered k i j (xs ++ rest)
  literals k i [] rest j m small low below e h = let z : m ≡ j = omega arith in subst (λ j. Suiting image numbered k i j rest) z h
  literals k i (x ∷ xs) rest j m small low below e h =
      let r = is_literal (text_end i.op i.operands) j (slice_index_or (first_roles i.op) j (later_role i.op)) low (omega arith) in
      (subst (λ r. Fitting image numbered r k i x) (sym r) small.0, literals k i xs rest (j + 1) m small.1 (omega arith) (omega arith) (omega arith) h)

  -- an entry point, with the name behind the entry and two ids behind the name
  pub entry_suits : (k e b : ℕ) (name : List ℕ) → IsText name → Placed image numbered e → Placed image numbered b → Placed image numbered (b + 1)
      → Suiting image numbered k (ins EntryPoint (5 ∷ e ∷ (string_words name ++ b ∷ (b + 1) ∷ []))) 0 (5 ∷ e ∷ (string_words name ++ b ∷ (b + 1) ∷ []))
  entry_suits k e b name text pe pb pc =
      let os = 5 ∷ e ∷ (string_words name ++ b ∷ (b + 1) ∷ []) in
      let i = ins EntryPoint os in
      let end : text_end EntryPoint os ≡ 2 + length (string_words name) = ap (λ n. 2 + n) (text_words-string_words name (b ∷ (b + 1) ∷ []) text) in
      let m : ℕ = 2 + length (string_words name) in
      let first : role_of EntryPoint (text_end EntryPoint os) m ≡ Mention = is_mention (text_end EntryPoint os) m (omega arith) (omega arith) in
      let second : role_of EntryPoint (text_end EntryPoint os) (m + 1) ≡ Mention = is_mention (text_end EntryPoint os) (m + 1) (omega arith) (omega arith) in
      let ids : Suiting image numbered k i m (b ∷ (b + 1) ∷ []) =
      (subst (λ r. Fitting image numbered r k i b) (sym first) pb, (subst (λ r. Fitting image numbered r k i (b + 1)) (sym second) pc, tt)) in
      (lit< tt, (pe, literals k i (string_words name) (b ∷ (b + 1) ∷ []) 2 m (strings_small name text) (omega arith) (omega arith) refl ids))

  either : (b : Bool) (r : Role) → r ≡ Literal → cond b Literal r ≡ Literal
  either true r e = refl
  either false r e = e

  name_literals : (k : ℕ) (os ws : List ℕ) (j : ℕ) → AllByRecursion (λ w. w < 2 ^ 32) ws → 1 ≤ j → Suiting image numbered k (ins Name os) j ws
  name_literals k os [] j small low = tt
  name_literals k os (w ∷ ws) j small low =
      let r = either (nat_le 2 j && nat_lt j 0) (slice_index_or (first_roles Name) j Literal) (get_or_past (first_roles Name) j Literal low) in
      (subst (λ r. Fitting image numbered r k (ins Name os) w) (sym r) small.0, name_literals k os ws (j + 1) small.1 (omega arith))

  pub name_suits : (k id : ℕ) (ws : List ℕ) → AllByRecursion (λ w. w < 2 ^ 32) ws → Placed image numbered id → Suiting image numbered k (ins Name (id ∷ ws)) 0 (id ∷ ws)
  name_suits k id ws small p = (p, name_literals k (id ∷ ws) ws 1 small (omega arith))
