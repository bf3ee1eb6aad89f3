-- A text has one first refusal, and no more tokens than bytes.
use Rattle.std.proofs.Common.{◌≡◌, ℕ, zero, suc, ◌+◌, ◌-◌, ◌<◌, ◌≤◌, List, length, take, drop, Err, Result, refl, sym, ◌∙◌, ap, subst, arith, length-drop, ◌⊎◌, inl, inr}
use Rattle.std.proofs.lemmas.List.{length-map}
use Rattle.slang_names.specs.declared.places.Place.{Place}
use Rattle.slang_names.specs.declared.codes.ModuleCode.{ModuleCode}
use Rattle.slang_tokens.specs.declared.tokens.Token.{Token}
use Rattle.slang_tokens.specs.declared.lexemes.Lexeme.{Lexeme}
use Rattle.slang_tokens.specs.declared.lexemes.Lexeme.TheVariants as x
use Rattle.slang_tokens.specs.Lexemes.{IsLongest, lexeme}
use Rattle.slang_tokens.specs.Cutting as cut
use Rattle.slang_tokens.specs.Cutting.{place, Cut, Tokens, Refuses}
use Rattle.slang_names.specs.declared.faults.ModuleFault.{ModuleFault}
use Rattle.slang_names.specs.declared.faults.ModuleFault.TheVariants as f
use Rattle.slang_reading.specs.Lexed.{lexed_all, lexed}
use Rattle.slang_reading.specs.Cursor.{Cursor}
use Rattle.type_reading.specs.declared.limits.Limits.{Limits}
use Rattle.ahead_reading.specs.declared.scans.Scans.{Scans}
use Rattle.ahead_reading.specs.Knowing.{Knows, Ready}
use Rattle.file_reading.specs.Wholes as spec

-- ---- no more tokens than bytes

rest_within : (text : List ℕ) (at len : ℕ) (l : Lexeme) → at ≤ length text → IsLongest (drop at text) l len → at + len ≤ length text
rest_within text at len l h p = let w = p.within in let s = p.some in let d = length-drop at text in omega arith

few_from : (text : List ℕ) (at : ℕ) (ts : List Token) → at ≤ length text → Cut text at ts → at + length ts ≤ length text
few_from text at ts h (cut.end e) = omega arith
few_from text at ts h (cut.blank {len = n} y u) = let i = few_from text (at + n) ts (rest_within text at n x.Blank h y) u in omega arith
few_from text at ts h (cut.token {len = n} {kind = k} {ts = us} y u) =
    let i = few_from text (at + n) us (rest_within text at n (x.Token k) h y) u in let s = y.some in omega arith

pub few : (text : List ℕ) (ts : List Token) → Tokens text ts → length ts ≤ length text
few text ts t = let h = few_from text 0 ts (omega arith) t in omega arith

pub few_lexed : (text : List ℕ) (ts : List Token) (most : ℕ) → length ts ≤ most → length (lexed_all text ts) ≤ most
few_lexed text ts most h = let d = length-map ts (lexed text) in omega arith

-- a text within the limit leaves as many turns as there are tokens
pub ready : (text : List ℕ) (ts : List Token) (scans : Scans) (shown : Cursor) → shown ≡ record { tokens = lexed_all text ts; at = 0; seen = 0 } →
    length ts ≤ length text → length text ≤ 1048576 → Knows scans (lexed_all text ts) → Ready (record { turns = 1048576; items = 256; names = 64 }) scans shown.tokens
unfolding Ready
ready text ts scans shown e few room k =
    subst (λ (n : Cursor). (length n.tokens ≤ 1048576) × Knows scans n.tokens) (sym e) (few_lexed text ts 1048576 (omega arith), k)

-- ---- one refusal

le_or_lt : (m n : ℕ) → (m ≤ n) ⊎ (n < m)
le_or_lt zero n = inl (omega arith)
le_or_lt (suc m) zero = inr (omega arith)
le_or_lt (suc m) (suc n) = elim (le_or_lt m n) [ inl h ↦ inl (omega arith) | inr h ↦ inr (omega arith) ]

not_longer : (text : List ℕ) (a b : Lexeme) (m n : ℕ) → IsLongest text a m → IsLongest text b n → m < n → ⊥
not_longer text a b m n p q h = let e = sym (p.longest n h q.within) ∙ q.is in cc

one_len : (text : List ℕ) (a b : Lexeme) (m n : ℕ) → IsLongest text a m → IsLongest text b n → m ≡ n
one_len text a b m n p q = elim (le_or_lt m n) [
  | inl h ↦ elim (le_or_lt n m) [ inl k ↦ omega arith | inr k ↦ absurd (not_longer text a b m n p q k) ]
  | inr h ↦ absurd (not_longer text b a n m q p h)
]

one_lexeme : (text : List ℕ) (a b : Lexeme) (m n : ℕ) → IsLongest text a m → IsLongest text b n → a ≡ b
one_lexeme text a b m n p q = let e = sym p.is ∙ (ap (λ k. lexeme (take k text)) (one_len text a b m n p q) ∙ q.is) in cc

on_refused : (text : List ℕ) (at m n : ℕ) (p : Place) (c : ModuleCode) → m ≡ n → Refuses text (at + n) p c → Refuses text (at + m) p c
on_refused text at m n p c e r = subst (λ k. Refuses text (at + k) p c) (sym e) r

abbrev pub Same : Place → ModuleCode → Place → ModuleCode → Type 0
Same p a q b = (p ≡ q) × (a ≡ b)

pub one_refusal : (text : List ℕ) (at : ℕ) (p q : Place) (a b : ModuleCode) → Refuses text at p a → Refuses text at q b → Same p a q b
one_refusal text at p q a b (cut.here {len = m} {code = k} z) (cut.here {len = n} {code = l} y) =
    let e = one_len (drop at text) (x.Refused k) (x.Refused l) m n z y in
    let d = one_lexeme (drop at text) (x.Refused k) (x.Refused l) m n z y in
    (ap (λ i. place at (at + i)) e, cc)
one_refusal text at p q a b (cut.here {len = m} {code = k} z) (cut.runs_on {len = n} y) = let e = one_lexeme (drop at text) (x.Refused k) x.RunsOn m n z y in cc
one_refusal text at p q a b (cut.here {len = m} {code = k} z) (cut.past_blank {len = n} y r) = let e = one_lexeme (drop at text) (x.Refused k) x.Blank m n z y in cc
one_refusal text at p q a b (cut.here {len = m} {code = k} z) (cut.past_token {len = n} {kind = l} y r) = let e = one_lexeme (drop at text) (x.Refused k) (x.Token l) m n z y in cc
one_refusal text at p q a b (cut.runs_on {len = m} z) (cut.here {len = n} {code = l} y) = let e = one_lexeme (drop at text) x.RunsOn (x.Refused l) m n z y in cc
one_refusal text at p q a b (cut.runs_on {len = m} z) (cut.runs_on {len = n} y) =
    let e = one_len (drop at text) x.RunsOn x.RunsOn m n z y in (ap (λ i. place at (at + i - 1)) e, refl)
one_refusal text at p q a b (cut.runs_on {len = m} z) (cut.past_blank {len = n} y r) = let e = one_lexeme (drop at text) x.RunsOn x.Blank m n z y in cc
one_refusal text at p q a b (cut.runs_on {len = m} z) (cut.past_token {len = n} {kind = l} y r) = let e = one_lexeme (drop at text) x.RunsOn (x.Token l) m n z y in cc
one_refusal text at p q a b (cut.past_blank {len = m} z s) (cut.here {len = n} {code = l} y) = let e = one_lexeme (drop at text) x.Blank (x.Refused l) m n z y in cc
one_refusal text at p q a b (cut.past_blank {len = m} z s) (cut.runs_on {len = n} y) = let e = one_lexeme (drop at text) x.Blank x.RunsOn m n z y in cc
one_refusal text at p q a b (cut.past_blank {len = m} z s) (cut.past_blank {len = n} y r) =
    one_refusal text (at + m) p q a b s (on_refused text at m n q b (one_len (drop at text) x.Blank x.Blank m n z y) r)
one_refusal text at p q a b (cut.past_blank {len = m} z s) (cut.past_token {len = n} {kind = l} y r) = let e = one_lexeme (drop at text) x.Blank (x.Token l) m n z y in cc
one_refusal text at p q a b (cut.past_token {len = m} {kind = k} z s) (cut.here {len = n} {code = l} y) = let e = one_lexeme (drop at text) (x.Token k) (x.Refused l) m n z y in cc
one_refusal text at p q a b (cut.past_token {len = m} {kind = k} z s) (cut.runs_on {len = n} y) = let e = one_lexeme (drop at text) (x.Token k) x.RunsOn m n z y in cc
one_refusal text at p q a b (cut.past_token {len = m} {kind = k} z s) (cut.past_blank {len = n} y r) = let e = one_lexeme (drop at text) (x.Token k) x.Blank m n z y in cc
one_refusal text at p q a b (cut.past_token {len = m} {kind = k} z s) (cut.past_token {len = n} {kind = l} y r) =
    one_refusal text (at + m) p q a b s (on_refused text at m n q b (one_len (drop at text) (x.Token k) (x.Token l) m n z y) r)

pub refused_at : (text : List ℕ) (r : Result (List Token) ModuleFault) (e : ModuleFault) → r ≡ Err e →
    ((p : Place) (c : ModuleCode) → r ≡ Err (f.Refused p c) → Refuses text 0 p c) → (place : Place) (code : ModuleCode) → Refuses text 0 place code → spec.Refuses place code (Err e)
refused_at text r (f.Memory x) q h place code z = tt
refused_at text r (f.Refused p c) q h place code z = one_refusal text 0 p place c code (h p c q) z
