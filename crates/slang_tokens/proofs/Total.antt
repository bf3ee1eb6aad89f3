-- Every text is cut into tokens, or has a first lexeme that is refused.
use Rattle.std.proofs.Common.{◌≡◌, ℕ, zero, suc, ◌+◌, ◌-◌, ◌<◌, ◌≤◌, List, [], ◌∷◌, length, take, drop, Option, Some, None, refl, subst, arith, length-drop, ◌⊎◌, inl, inr}
use Rattle.slang_tokens.specs.declared.lexemes.Lexeme.{Lexeme}
use Rattle.slang_tokens.specs.declared.lexemes.Lexeme.TheVariants as x
use Rattle.slang_tokens.specs.Lexemes.{IsLongest, Bounds, lexeme}
use Rattle.slang_tokens.specs.Cutting as cut
use Rattle.slang_tokens.specs.Cutting.{Cut, Refuses, IsWhole}
use Rattle.slang_tokens.proofs.Lengths.{bounds_whole, shorter, found, one_byte, le_or_lt}
use Rattle.slang_tokens.proofs.Cuts.{ends_within, token}

abbrev Longest : List ℕ → Type 0
Longest text = (l : Lexeme) × (len : ℕ) × IsLongest text l len

-- from a length past which no front is a lexeme down to the first front that is one
downwards : (text : List ℕ) → 0 < length text → (k : ℕ) → suc k ≤ length text → Bounds text (suc k) → Longest text
downwards text h zero w b = go (lexeme (take 1 text)) refl
  where
    go : (o : Option Lexeme) → lexeme (take 1 text) ≡ o → Longest text
    go (Some l) e = (l, 1, found text l 1 (omega arith) w b e)
    go None e = absurd (one_byte text h e)
downwards text h (suc k) w b = go (downwards text h k (omega arith)) (lexeme (take (suc (suc k)) text)) refl
  where
    go : (Bounds text (suc k) → Longest text) → (o : Option Lexeme) → lexeme (take (suc (suc k)) text) ≡ o → Longest text
    go ih (Some l) e = (l, suc (suc k), found text l (suc (suc k)) (omega arith) w b e)
    go ih None e = let n : suc (suc k) - 1 ≡ suc k = omega arith in ih (subst (Bounds text) n (shorter text (suc (suc k)) (omega arith) b e))

-- some lexeme is the longest at the front of a text
first_longest : (text : List ℕ) → 0 < length text → Longest text
first_longest [] h = absurd (omega arith)
first_longest (b ∷ bs) h = downwards (b ∷ bs) h (length bs) (omega arith) (bounds_whole (b ∷ bs) (suc (length bs)) (omega arith))

-- one more lexeme before what is whole
before : (text : List ℕ) (at len : ℕ) (l : Lexeme) → IsLongest (drop at text) l len → IsWhole text (at + len) → IsWhole text at
before text at len x.Blank m (inl t) = inl (t.0, cut.blank m t.1)
before text at len x.Blank m (inr r) = inr (r.0, r.1, cut.past_blank m r.2)
before text at len (x.Token kind) m (inl t) = inl (token kind at (at + len) ∷ t.0, cut.token m t.1)
before text at len (x.Token kind) m (inr r) = inr (r.0, r.1, cut.past_token m r.2)
before text at len (x.Refused code) m w = inr (cut.place at (at + len), code, cut.here m)
before text at len x.RunsOn m w = inr (cut.place at (at + len - 1), _, cut.runs_on m)

-- with fuel for each byte that is left
whole_from : (text : List ℕ) (fuel at : ℕ) → length text ≤ at + fuel → at ≤ length text → IsWhole text at
whole_from text zero at f w = inl ([], cut.end (omega arith))
whole_from text (suc n) at f w = go (whole_from text n) (le_or_lt (length text) at)
  where
    go : ((at : ℕ) → length text ≤ at + n → at ≤ length text → IsWhole text at) → (length text ≤ at) ⊎ (at < length text) → IsWhole text at
    go ih (inl l) = inl ([], cut.end (omega arith))
    go ih (inr l) =
        let d = length-drop at text in
        let m = first_longest (drop at text) (omega (arith, d)) in
        let s = m.2.some in
        before text at m.1 m.0 m.2 (ih (at + m.1) (omega arith) (ends_within text at m.1 m.0 l m.2))

pub whole : (text : List ℕ) → IsWhole text 0
whole text = whole_from text (length text) 0 (omega arith) (omega arith)
