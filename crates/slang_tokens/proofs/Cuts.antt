-- A cutting, lexeme by lexeme.
use Rattle.std.proofs.Common.{◌≡◌, ℕ, zero, suc, ◌+◌, ◌-◌, ◌<◌, ◌≤◌, List, [], ◌∷◌, ◌++◌, length, take, drop, Err, Result, refl, sym, ◌∙◌, ap, subst, arith, append_assoc, append-nil, length-drop, ◌⊎◌, inl, inr}
use Rattle.std.proofs.Math.Seq.{take-length}
use Rattle.slang_names.specs.declared.places.Place.{Place}
use Rattle.slang_names.specs.declared.codes.ModuleCode.{ModuleCode}
use Rattle.slang_names.specs.declared.faults.ModuleFault.{ModuleFault}
use Rattle.slang_names.specs.declared.faults.ModuleFault.TheVariants as f
use Rattle.slang_tokens.specs.declared.tokens.Kind.{Kind}
use Rattle.slang_tokens.specs.declared.tokens.Token.{Token}
use Rattle.slang_tokens.specs.declared.lexemes.Lexeme.{Lexeme}
use Rattle.slang_tokens.specs.declared.lexemes.Lexeme.TheVariants as x
use Rattle.slang_tokens.specs.Lexemes.{IsLongest, lexeme}
use Rattle.slang_tokens.specs.Cutting as cut
use Rattle.slang_tokens.specs.Cutting.{place, Cut, Tokens, Refuses}

-- the token of that kind between two indices
abbrev pub token : Kind → ℕ → ℕ → Token
token kind start end = record { kind = kind; place = place start end }

-- What is cut so far: whatever cuts the rest makes the whole, and the first refusal of the rest is that of the whole.
pub record SoFar (text : List ℕ) (at : ℕ) (list : List Token) : Type 0 where
  pub within : at ≤ length text
  pub whole : (rest : List Token) → Cut text at rest → Cut text 0 (list ++ rest)
  pub refused : (p : Place) (code : ModuleCode) → Refuses text at p code → Refuses text 0 p code

pub begins : (text : List ℕ) → SoFar text 0 []
begins text = record { within = omega arith; whole = λ rest h. h; refused = λ p code h. h }

pub ended : (text : List ℕ) (at : ℕ) (list : List Token) → SoFar text at list → length text ≤ at → Tokens text list
ended text at list s h = subst (Cut text 0) (append-nil list) (s.whole [] (cut.end (let w = s.within in omega arith)))

-- `&text[at..]`
whole_rest : (text : List ℕ) (at : ℕ) → take (length text - at) (drop at text) ≡ drop at text
whole_rest text at = ap (λ n. take n (drop at text)) (sym (length-drop at text)) ∙ take-length (drop at text)

pub longest_rest : (text : List ℕ) (at len : ℕ) (l : Lexeme) → IsLongest (take (length text - at) (drop at text)) l len → IsLongest (drop at text) l len
longest_rest text at len l h = subst (λ xs. IsLongest xs l len) (whole_rest text at) h

-- the longest lexeme of the rest, at what it is
pub longest_as : (text : List ℕ) (at len : ℕ) (l k : Lexeme) → IsLongest (take (length text - at) (drop at text)) l len → l ≡ k → IsLongest (drop at text) k len
longest_as text at len l k h e = subst (λ m. IsLongest (drop at text) m len) e (longest_rest text at len l h)

-- the lexeme at an index ends within the text
pub ends_within : (text : List ℕ) (at len : ℕ) (l : Lexeme) → at < length text → IsLongest (drop at text) l len → at + len ≤ length text
ends_within text at len l h m = let w = m.within in let d = length-drop at text in omega arith

module _ (text : List ℕ) (at len : ℕ) (list : List Token) (s : SoFar text at list) (h : at < length text) where
  pub blank_on : IsLongest (drop at text) x.Blank len → SoFar text (at + len) list
  blank_on l = record {
    within = ends_within text at len x.Blank h l;
    whole = λ rest t. s.whole rest (cut.blank l t);
    refused = λ p code r. s.refused p code (cut.past_blank l r);
  }

  pub token_on : (kind : Kind) → IsLongest (drop at text) (x.Token kind) len → SoFar text (at + len) (list ++ token kind at (at + len) ∷ [])
  token_on kind l = record {
    within = ends_within text at len (x.Token kind) h l;
    whole = λ rest t. subst (Cut text 0) (sym (append_assoc list (token kind at (at + len) ∷ []) rest)) (s.whole (token kind at (at + len) ∷ rest) (cut.token l t));
    refused = λ p code r. s.refused p code (cut.past_token l r);
  }

-- ---- there is one cutting

le_or_lt : (m n : ℕ) → (m ≤ n) ⊎ (n < m)
le_or_lt zero n = inl (omega arith)
le_or_lt (suc m) zero = inr (omega arith)
le_or_lt (suc m) (suc n) = elim (le_or_lt m n) [ inl h ↦ inl (omega arith) | inr h ↦ inr (omega arith) ]

not_longer : (text : List ℕ) (a b : Lexeme) (m n : ℕ) → IsLongest text a m → IsLongest text b n → m < n → ⊥
not_longer text a b m n p q h = let e = sym (p.longest n h q.within) ∙ q.is in cc

one_len : (text : List ℕ) (a b : Lexeme) (m n : ℕ) → IsLongest text a m → IsLongest text b n → m ≡ n
one_len text a b m n p q = elim (le_or_lt m n) [
  | inl h ↦ elim (le_or_lt n m) [ inl k ↦ omega arith | inr k ↦ absurd (not_longer text a b m n p q k) ]
  | inr h ↦ absurd (not_longer text b a n m q p h)
]

one_lexeme : (text : List ℕ) (a b : Lexeme) (m n : ℕ) → IsLongest text a m → IsLongest text b n → a ≡ b
one_lexeme text a b m n p q = let e = sym p.is ∙ (ap (λ k. lexeme (take k text)) (one_len text a b m n p q) ∙ q.is) in cc

none_left : (text : List ℕ) (at : ℕ) (a : Lexeme) (m : ℕ) → at ≡ length text → IsLongest (drop at text) a m → ⊥
none_left text at a m e p = let s = p.some in let w = p.within in let d = length-drop at text in absurd (omega arith)

-- from the same index on
on_cut : (text : List ℕ) (at m n : ℕ) (ts : List Token) → m ≡ n → Cut text (at + n) ts → Cut text (at + m) ts
on_cut text at m n ts e t = subst (λ k. Cut text (at + k) ts) (sym e) t

pub one_cutting : (text : List ℕ) (at : ℕ) (ps qs : List Token) → Cut text at ps → Cut text at qs → ps ≡ qs
one_cutting text at ps qs (cut.end e) (cut.end d) = refl
one_cutting text at ps qs (cut.end e) (cut.blank {len = n} y u) = absurd (none_left text at x.Blank n e y)
one_cutting text at ps qs (cut.end e) (cut.token {len = n} {kind = k} y u) = absurd (none_left text at (x.Token k) n e y)
one_cutting text at ps qs (cut.blank {len = m} z t) (cut.end d) = absurd (none_left text at x.Blank m d z)
one_cutting text at ps qs (cut.blank {len = m} {ts = ps'} z t) (cut.blank {len = n} {ts = qs'} y u) =
    one_cutting text (at + m) ps' qs' t (on_cut text at m n qs' (one_len (drop at text) x.Blank x.Blank m n z y) u)
one_cutting text at ps qs (cut.blank {len = m} z t) (cut.token {len = n} {kind = k} y u) =
    let e = one_lexeme (drop at text) x.Blank (x.Token k) m n z y in cc
one_cutting text at ps qs (cut.token {len = m} {kind = k} z t) (cut.end d) = absurd (none_left text at (x.Token k) m d z)
one_cutting text at ps qs (cut.token {len = m} {kind = k} z t) (cut.blank {len = n} y u) =
    let e = one_lexeme (drop at text) (x.Token k) x.Blank m n z y in cc
one_cutting text at ps qs (cut.token {len = m} {kind = k} {ts = ps'} z t) (cut.token {len = n} {kind = l} {ts = qs'} y u) =
    let e = one_len (drop at text) (x.Token k) (x.Token l) m n z y in
    let d = one_lexeme (drop at text) (x.Token k) (x.Token l) m n z y in
    let i = one_cutting text (at + m) ps' qs' t (on_cut text at m n qs' e u) in
    let j : k ≡ l = cc in
    let q : token k at (at + m) ≡ token l at (at + n) = ap (λ b. token b at (at + m)) j ∙ ap (λ b. token l at (at + b)) e in
    ap (λ b. b ∷ ps') q ∙ ap (λ bs. token l at (at + n) ∷ bs) i

-- a text with a refused lexeme has no tokens
pub none_refused : (text : List ℕ) (at : ℕ) (p : Place) (code : ModuleCode) (ts : List Token) → Refuses text at p code → Cut text at ts → ⊥
none_refused text at p code ts (cut.here {len = m} {code = k} z) (cut.end d) = none_left text at (x.Refused k) m d z
none_refused text at p code ts (cut.here {len = m} {code = k} z) (cut.blank {len = n} y u) = let e = one_lexeme (drop at text) (x.Refused k) x.Blank m n z y in cc
none_refused text at p code ts (cut.here {len = m} {code = k} z) (cut.token {len = n} {kind = l} y u) = let e = one_lexeme (drop at text) (x.Refused k) (x.Token l) m n z y in cc
none_refused text at p code ts (cut.runs_on {len = m} z) (cut.end d) = none_left text at x.RunsOn m d z
none_refused text at p code ts (cut.runs_on {len = m} z) (cut.blank {len = n} y u) = let e = one_lexeme (drop at text) x.RunsOn x.Blank m n z y in cc
none_refused text at p code ts (cut.runs_on {len = m} z) (cut.token {len = n} {kind = l} y u) = let e = one_lexeme (drop at text) x.RunsOn (x.Token l) m n z y in cc
none_refused text at p code ts (cut.past_blank {len = m} z r) (cut.end d) = none_left text at x.Blank m d z
none_refused text at p code ts (cut.past_blank {len = m} z r) (cut.blank {len = n} {ts = us} y u) =
    none_refused text (at + m) p code us r (on_cut text at m n us (one_len (drop at text) x.Blank x.Blank m n z y) u)
none_refused text at p code ts (cut.past_blank {len = m} z r) (cut.token {len = n} {kind = l} y u) = let e = one_lexeme (drop at text) x.Blank (x.Token l) m n z y in cc
none_refused text at p code ts (cut.past_token {len = m} {kind = k} z r) (cut.end d) = none_left text at (x.Token k) m d z
none_refused text at p code ts (cut.past_token {len = m} {kind = k} z r) (cut.blank {len = n} y u) = let e = one_lexeme (drop at text) (x.Token k) x.Blank m n z y in cc
none_refused text at p code ts (cut.past_token {len = m} {kind = k} z r) (cut.token {len = n} {kind = l} {ts = us} y u) =
    none_refused text (at + m) p code us r (on_cut text at m n us (one_len (drop at text) (x.Token k) (x.Token l) m n z y) u)

-- ---- what a refusal says

pub same_place : {A : Type 0} (p q : Place) (a b : ModuleCode) → ◌≡◌ {A = Result A ModuleFault} (Err (f.Refused p a)) (Err (f.Refused q b)) → p ≡ q
same_place p q a b e = cc

pub same_code : {A : Type 0} (p q : Place) (a b : ModuleCode) → ◌≡◌ {A = Result A ModuleFault} (Err (f.Refused p a)) (Err (f.Refused q b)) → a ≡ b
same_code p q a b e = cc

pub refusal_is : {A : Type 0} (text : List ℕ) (p q : Place) (a b : ModuleCode) → Refuses text 0 p a → ◌≡◌ {A = Result A ModuleFault} (Err (f.Refused p a)) (Err (f.Refused q b)) → Refuses text 0 q b
refusal_is {A = A} text p q a b r e =
    subst (λ d. Refuses text 0 q d) (same_code {A = A} p q a b e) (subst (λ d. Refuses text 0 d a) (same_place {A = A} p q a b e) r)
