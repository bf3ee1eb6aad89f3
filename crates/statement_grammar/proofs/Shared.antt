-- What all of the descent shares.
use Rattle.std.proofs.Common.{Bool, true, false, ◌≡◌, ℕ, ◌+◌, List, drop, Option, Some, None, refl}
use Rattle.slang_names.specs.declared.places.Place.{Place}
use Rattle.slang_names.specs.declared.codes.ModuleCode.TheVariants as code
use Rattle.slang_tokens.specs.declared.tokens.Mark.{Mark}
use Rattle.slang_tokens.specs.declared.tokens.Word.{Word}
use Rattle.slang_tokens.specs.declared.tokens.Kind.TheVariants as k
use Rattle.slang_reading.specs.Lexed.{Lexed}
use Rattle.slang_reading.specs.Reading.{Outcome, Done, Stop, Past, Parser, Choice, Leave, Take, Refuse, Pass, first, place_of, turns}
use Rattle.slang_reading.specs.Kinds.{sees, sees_word}
use Rattle.slang_reading.proofs.Marks.{mark_is, word_is}
use Rattle.slang_reading.proofs.Exact.{Post, PostChoice, post_fits, post_turns, post_over, post_weaken}
use Rattle.slang_grammar.specs.Standing.{Stands}
use Rattle.slang_grammar.specs.Descent.{Limits, is_short, if_short}
use Rattle.slang_grammar.proofs.Shared.{stands}
use Rattle.statement_grammar.specs.AttributesDescent.{if_obeyed}

-- both hold of the answer
pub post_both : {A : Type 0} (P Q : A → ℕ → Type 0) (o : Outcome A) → Post P o → Post Q o → Post (λ a at. P a at × Q a at) o
post_both P Q (Done a at seen) h k = (h, k)
post_both P Q (Stop seen) h k = tt
post_both P Q (Past code place seen) h k = tt

-- a rule on attributes changes nothing of what goes on
pub post_obeyed : {A : Type 0} (ts : List Lexed) (Q : A → ℕ → Type 0) (at : ℕ) (x : Option Lexed) (b : Bool) (p : Place) (c : Choice A) → PostChoice ts Q at x c → PostChoice ts Q at x (if_obeyed b p c)
post_obeyed ts Q at x true p c h = h
post_obeyed ts Q at x false p (Leave q) h = tt
post_obeyed ts Q at x false p (Take q) h = tt
post_obeyed ts Q at x false p Refuse h = tt
post_obeyed ts Q at x false p (Pass other there) h = tt

-- nor does the limit of names
pub post_short : {A : Type 0} (ts : List Lexed) (limits : Limits) (Q : A → ℕ → Type 0) (at : ℕ) (t : Lexed) (c : Choice A) → PostChoice ts Q at (Some t) c → PostChoice ts Q at (Some t) (if_short limits t c)
post_short ts limits Q at t c h = post_fits ts Q at (Some t) (is_short limits t) code.TooLong c (λ f. h)

-- the word that is seen
pub word_stands : (ts : List Lexed) (at : ℕ) (x : Option Lexed) (word : Word) → first (drop at ts) ≡ x → sees_word word x ≡ true → Stands ts at (k.Word word) (place_of x)
word_stands ts at (Some t) word e q = stands ts at t (k.Word word) e (word_is word t.kind q)
word_stands ts at None word e q = cc

-- the mark that is seen
pub mark_stands : (ts : List Lexed) (at : ℕ) (x : Option Lexed) (mark : Mark) → first (drop at ts) ≡ x → sees mark x ≡ true → Stands ts at (k.Mark mark) (place_of x)
mark_stands ts at (Some t) mark e q = stands ts at t (k.Mark mark) e (mark_is mark t.kind q)
mark_stands ts at None mark e q = cc

-- what takes the token that is seen
pub post_take : {A : Type 0} (ts : List Lexed) (Q : A → ℕ → Type 0) (at : ℕ) (x : Option Lexed) (p : Parser A) → ((seen : ℕ) → Post Q (p ts (at + 1) seen)) → PostChoice ts Q at x (Take p)
post_take ts Q at (Some t) p h = h
post_take ts Q at None p h = tt

-- ---- turns that end where they do not go on

module _ (ts : List Lexed) {A : Type 0} (R M : A → A → ℕ → ℕ → Type 0) (goes : Option Lexed → Bool) (more : A → Parser A)
    (end : (a : A) (at : ℕ) → goes (first (drop at ts)) ≡ false → R a a at at)
    (on : (a b c : A) (at mid to : ℕ) → M a b at mid → R b c mid to → R a c at to)
    (h : (a : A) (at seen : ℕ) → Post (λ b mid. M a b at mid) (more a ts at seen)) where
  pub post_until : (n : ℕ) (a : A) (at seen : ℕ) → Post (λ c to. R a c at to) (turns goes more n a ts at seen)
  post_until n a at seen =
      let S : A → A → ℕ → ℕ → Type 0 = λ a c from to. goes (first (drop to ts)) ≡ false → R a c from to in
      post_weaken (λ c to. S a c at to × (goes (first (drop to ts)) ≡ false)) (λ c to. R a c at to) (λ c to k. k.0 k.1) (turns goes more n a ts at seen)
      (post_both (λ c to. S a c at to) (λ c to. goes (first (drop to ts)) ≡ false) (turns goes more n a ts at seen)
      (post_turns ts S M goes more (λ a at q. end a at q) (λ a b c at mid to m r q. on a b c at mid to m (r q)) (λ a from s e. h a from s) n a at seen)
      (post_over ts goes more n a at seen))
