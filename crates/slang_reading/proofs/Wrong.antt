-- The first wrong token of a whole text: no text goes on with it, and some text goes on with the tokens before it.
use Rattle.std.proofs.Common.{◌≡◌, ℕ, zero, suc, ◌+◌, ◌<◌, ◌≤◌, List, [], ◌∷◌, ◌++◌, length, take, drop, Option, None, refl, sym, ◌∙◌, ap, subst, arith, append-nil, length-append}
use Rattle.std.proofs.Math.Seq.{drop-append_seam}
use Rattle.slang_reading.specs.Lexed.{Lexed}
use Rattle.slang_reading.specs.Reading.{Parser, first}
use Rattle.slang_reading.proofs.Tame.{Same, seen_of, Tame}
use Rattle.slang_reading.proofs.Viable.{Reaches, Viable}

same_step : {k : ℕ} {x : Lexed} {ts us : List Lexed} → Same k ts us → Same (suc k) (x ∷ ts) (x ∷ us)
same_step {k = k} {x = x} {ts = ts} {us = us} s = record { at = go }
  where
    go : (i : ℕ) → i < suc k → first (drop i (x ∷ us)) ≡ first (drop i (x ∷ ts))
    go zero h = refl
    go (suc i) h = s.at i (omega arith)

-- a text that begins with the first k tokens
pub same_front : (k : ℕ) (ts more : List Lexed) → k ≤ length ts → Same k ts (take k ts ++ more)
same_front zero ts more h = record { at = λ i lt. absurd (omega arith) }
same_front (suc k) [] more h = absurd (omega arith)
same_front (suc k) (x ∷ ts) more h = same_step (same_front k ts more (omega arith))

pub front_length : (k : ℕ) (ts : List Lexed) → k ≤ length ts → length (take k ts) ≡ k
front_length zero ts h = refl
front_length (suc k) [] h = absurd (omega arith)
front_length (suc k) (x ∷ ts) h = let e = front_length k ts (omega arith) in omega arith

pub drop_front : (k : ℕ) (ts more : List Lexed) → k ≤ length ts → drop k (take k ts ++ more) ≡ more
drop_front k ts more h = ap (λ n. drop n (take k ts ++ more)) (sym (front_length k ts h)) ∙ drop-append_seam (take k ts) more

module _ {A : Type 0} (p : Parser A) (ts : List Lexed) (at : ℕ) where
  -- what begins with the tokens up to the last that was looked at has the same outcome
  pub same_outcome : Tame p → seen_of (p ts 0 0) ≡ at + 1 → at < length ts → (more : List Lexed) → p (take (at + 1) ts ++ more) 0 0 ≡ p ts 0 0
  same_outcome h e lt more = h.local ts (take (at + 1) ts ++ more) 0 0
      (subst (λ k. Same k ts (take (at + 1) ts ++ more)) (sym e) (same_front (at + 1) ts more (omega arith)))

  -- some text that begins with the tokens before it is read to its end by the parser with more room
  pub goes_on : (F : Option Lexed → Type 0) (q : Parser A) → Viable F p q → F None → seen_of (p ts 0 0) ≡ at + 1 → at ≤ length ts →
      (more : List Lexed) × Reaches q (take at ts ++ more) 0 0 (length (take at ts ++ more))
  goes_on F q h f e within =
      let c = h.completes ts 0 0 at e (omega arith) in
      let us = take at ts ++ c.path in
      let r = c.reads us [] (same_front at ts c.path within) (drop_front at ts c.path within ∙ sym (append-nil c.path)) f in
      let l : at + length c.path ≡ length us = omega (arith, length-append (take at ts) c.path, front_length at ts within) in
      (c.path, subst (λ n. Reaches q us 0 0 n) l r)
