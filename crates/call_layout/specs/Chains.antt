-- Chains of calls, and where the words of functions begin. Functions are numbered from 1 on; 0 is what stands outside of them.
use Rattle.std.specs.Prelude.{◌≡◌, ℕ, ◌+◌, ◌^◌, ◌<◌, ◌≤◌, true, List, [], ◌∷◌, length, slice_index}
use Rattle.call_graph.specs.Edges.{calls_it}

-- ---- chains

-- the first of these functions, if there is one, calls this one
abbrev pub FirstCalls : (ℕ → ℕ → Type 0) → List ℕ → ℕ → Type 0
FirstCalls Calls [] callee = Unit {0}
FirstCalls Calls (caller ∷ callers) callee = Calls caller callee

-- functions each of which is called by the next: the last call of the chain stands first
abbrev pub IsChain : (ℕ → Type 0) → (ℕ → ℕ → Type 0) → List ℕ → Type 0
IsChain Is Calls [] = Unit {0}
IsChain Is Calls (f ∷ fs) = Is f × FirstCalls Calls fs f × IsChain Is Calls fs

-- the words of all these functions
abbrev pub chain_words : (ℕ → ℕ) → List ℕ → ℕ
chain_words words [] = 0
chain_words words (f ∷ fs) = words f + chain_words words fs

-- ---- calls as a list, and words as a table

-- a function of the table
abbrev pub IsNumbered : List ℕ → ℕ → Type 0
IsNumbered words f = (0 < f) × (f < length words)

abbrev pub Calls : List (ℕ × ℕ) → ℕ → ℕ → Type 0
Calls es caller callee = calls_it es caller callee ≡ true

-- all calls are of functions of the table
abbrev pub AreNumbered : List ℕ → List (ℕ × ℕ) → Type 0
AreNumbered words es = (caller callee : ℕ) → calls_it es caller callee ≡ true → IsNumbered words caller × IsNumbered words callee

-- a chain of calls with more words than 32 bits tell, those outside of functions included
pub record TooLong (words : List ℕ) (es : List (ℕ × ℕ)) : Type 0 where
  pub chain : List ℕ
  pub is : IsChain (IsNumbered words) (Calls es) chain
  pub far : 2 ^ 32 ≤ slice_index words 0 + chain_words (slice_index words) chain

-- ---- places

-- a function begins right behind the words of a chain of calls that leads to it
pub record IsReached (words : List ℕ) (es : List (ℕ × ℕ)) (f begin : ℕ) : Type 0 where
  pub chain : List ℕ
  pub is : IsChain (IsNumbered words) (Calls es) (f ∷ chain)
  pub there : begin ≡ slice_index words 0 + chain_words (slice_index words) chain

-- each function begins behind all that call it, and no further than a chain of calls leads; 32 bits tell where it ends
pub record AreBegins (words : List ℕ) (es : List (ℕ × ℕ)) (begins : List ℕ) : Type 0 where
  pub as_many : length begins ≡ length words
  pub first : slice_index begins 0 ≡ 0
  pub reached : (f : ℕ) → 0 < f → f < length words → IsReached words es f (slice_index begins f)
  pub behind : (caller callee : ℕ) → calls_it es caller callee ≡ true → slice_index begins caller + slice_index words caller ≤ slice_index begins callee
  pub within : (f : ℕ) → f < length words → slice_index begins f + slice_index words f < 2 ^ 32
