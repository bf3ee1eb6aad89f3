-- Which words are a run.
use Rattle.std.proofs.Common.{◌≡◌, ◌≢◌, ℕ, ◌+◌, ◌<◌, ◌≤◌, List, [], ◌∷◌, length, get_or, map, Option, Some, None, IfSome, refl, sym, ◌∙◌, arith}
use Rattle.command_words.specs.Words.{number_within}
use Rattle.command_words.proofs.Decimals.{number_is_decimal}
use Rattle.run_command.specs.declared.request.Run.{Run}
use Rattle.run_command.specs.Requests.{run_of, request_of, step_limit}
use Rattle.run_command.specs.Views.{IsBounded}

-- a run has eight words behind its verb
pub other_count : {A : Type 0} (f : A → List ℕ) (words : List A) → length words ≢ 8 → None ≡ run_of (map f words)
other_count f [] ne = refl
other_count f (a ∷ []) ne = refl
other_count f (a ∷ b ∷ []) ne = refl
other_count f (a ∷ b ∷ c ∷ []) ne = refl
other_count f (a ∷ b ∷ c ∷ d ∷ []) ne = refl
other_count f (a ∷ b ∷ c ∷ d ∷ e ∷ []) ne = refl
other_count f (a ∷ b ∷ c ∷ d ∷ e ∷ g ∷ []) ne = refl
other_count f (a ∷ b ∷ c ∷ d ∷ e ∷ g ∷ h ∷ []) ne = refl
other_count f (a ∷ b ∷ c ∷ d ∷ e ∷ g ∷ h ∷ i ∷ []) ne = absurd (ne refl)
other_count f (a ∷ b ∷ c ∷ d ∷ e ∷ g ∷ h ∷ i ∷ j ∷ more) ne = refl

-- the words one by one
pub record AreWords {A : Type 0} (words : List A) (a b x y z s u o : A) : Type 0 where
  pub zeroth : a ≡ get_or words 0 a
  pub first : b ≡ get_or words 1 b
  pub second : x ≡ get_or words 2 x
  pub third : y ≡ get_or words 3 y
  pub fourth : z ≡ get_or words 4 z
  pub fifth : s ≡ get_or words 5 s
  pub sixth : u ≡ get_or words 6 u
  pub seventh : o ≡ get_or words 7 o

pub eight : {A : Type 0} (f : A → List ℕ) (words : List A) (a b x y z s u o : A) → length words ≡ 8 → AreWords words a b x y z s u o → request_of (f a) (f b) (f x) (f y) (f z) (f s) (f u) (f o) ≡ run_of (map f words)
eight f [] a b x y z s u o len h = absurd cc
eight f (w0 ∷ []) a b x y z s u o len h = absurd (omega arith)
eight f (w0 ∷ w1 ∷ []) a b x y z s u o len h = absurd (omega arith)
eight f (w0 ∷ w1 ∷ w2 ∷ []) a b x y z s u o len h = absurd (omega arith)
eight f (w0 ∷ w1 ∷ w2 ∷ w3 ∷ []) a b x y z s u o len h = absurd (omega arith)
eight f (w0 ∷ w1 ∷ w2 ∷ w3 ∷ w4 ∷ []) a b x y z s u o len h = absurd (omega arith)
eight f (w0 ∷ w1 ∷ w2 ∷ w3 ∷ w4 ∷ w5 ∷ []) a b x y z s u o len h = absurd (omega arith)
eight f (w0 ∷ w1 ∷ w2 ∷ w3 ∷ w4 ∷ w5 ∷ w6 ∷ []) a b x y z s u o len h = absurd (omega arith)
eight f (w0 ∷ w1 ∷ w2 ∷ w3 ∷ w4 ∷ w5 ∷ w6 ∷ w7 ∷ []) a b x y z s u o len h =
    rw (h.zeroth, h.first, h.second, h.third, h.fourth, h.fifth, h.sixth, h.seventh) refl
eight f (w0 ∷ w1 ∷ w2 ∷ w3 ∷ w4 ∷ w5 ∷ w6 ∷ w7 ∷ w8 ∷ more) a b x y z s u o len h = absurd (omega arith)

-- steps that were read are within the limit
pub bounded_by : (word : List ℕ) (read : Option ℕ) (r : Option Run) → read ≡ number_within step_limit word → IfSome r (λ run. read ≡ Some run.steps) → IfSome r IsBounded
bounded_by word read None e h = tt
bounded_by word read (Some run) e h = (number_is_decimal step_limit run.steps word (omega arith) (sym e ∙ h)).1
