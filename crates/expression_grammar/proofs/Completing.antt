-- Completions through the parts of the descent into expressions: turns that something must follow, loops whose turn tells
-- whether it was one, two marks that stand together, and an answer that does not depend on what has been looked at.
use Rattle.std.proofs.Common.{Bool, true, false, ◌≡◌, ℕ, zero, suc, ◌<◌, List, [], ◌∷◌, drop, Option, Some, None, sym, ◌∙◌, ap, add-zero, arith}
use Rattle.slang_names.specs.declared.codes.ModuleCode.TheVariants as code
use Rattle.slang_reading.specs.Lexed.{Lexed}
use Rattle.slang_reading.specs.Reading.{Outcome, Done, Stop, Past, Parser, and_then, bind, ◌>>=◌, past, first, Choice, Leave, Pass, place_of, turn, turns}
use Rattle.slang_reading.proofs.Tame.{answer_of, Tame, tame_pure, tame_past, tame_bind, tame_turns}
use Rattle.slang_reading.proofs.Viable.{Finishes, Viable, viable_pure, viable_past, finishes_pure, viable_bind, EachPair, viable_next, finishes_turns_once, Ready}
use Rattle.slang_grammar.specs.ExpressionsDescent.{again, repeats}

-- ---- an answer does not depend on what has been looked at

answer_done : {A : Type 0} (o : Outcome A) (a : A) (to : ℕ) → answer_of o ≡ Done a to 0 → (seen : ℕ) × (o ≡ Done a to seen)
answer_done (Done b at seen) a to e =
    let p : b ≡ a = cc in
    let q : at ≡ to = cc in
    (seen, ap (λ x. Done x at seen) p ∙ ap (λ n. Done a n seen) q)
answer_done (Stop seen) a to e = cc
answer_done (Past code place seen) a to e = cc

pub done_again : {A : Type 0} (p : Parser A) → Tame p → (ts : List Lexed) (at seen other : ℕ) (a : A) (to seen1 : ℕ) → p ts at seen ≡ Done a to seen1 → (seen2 : ℕ) × (p ts at other ≡ Done a to seen2)
done_again p h ts at seen other a to seen1 e = answer_done (p ts at other) a to (h.steady ts at other seen ∙ ap answer_of e)

-- ---- turns behind each of which something must stand

-- Behind a turn stands G, and one more turn reads the path, behind which stands F.
module _ {A : Type 0} (F G : Option Lexed → Type 0) (goes : Option Lexed → Bool) (ends : (x : Option Lexed) → F x → goes x ≡ false) (again : A → Parser A)
    (t : Lexed) (path : List Lexed) (begins : goes (Some t) ≡ true) (behind : G (Some t)) (reads : (a : A) → Finishes F (t ∷ path) (again a)) where
  pub finishes_more : (n : ℕ) (a : A) → Finishes F (t ∷ path) (turns goes again (suc n) a)
  finishes_more n a = finishes_turns_once F F (λ x f. f) goes ends again n a t path begins (reads a)

  pair_more : (b : Bool) (c d : Choice A) (a : A) → EachPair (Viable F) c d → EachPair (Viable F) (turn b c a) (turn b d a)
  pair_more true c d a v = v
  pair_more false c d a v = viable_pure F a

  pub viable_more : (more : A → Parser A) → ((a : A) → Viable G (more a) (again a)) → (n m : ℕ) → n < m → (a : A) → Viable F (turns goes more n a) (turns goes again m a)
  unfolding turns
  viable_more more v n zero l a = absurd (omega arith)
  viable_more more v zero (suc m) l a = viable_next F (λ x. turn (goes x) (Leave (again a >>= turns goes again m)) a) (λ x. turn (goes x) (Pass code.TooLong (place_of x)) a) (t ∷ path)
      (finishes_more m a) (λ x. pair_more (goes x) (Pass code.TooLong (place_of x)) (Leave (again a >>= turns goes again m)) a
      (tame_bind (turns goes again m) (tame_turns goes again (λ a. (v a).whole) m) (again a) (v a).whole))
  viable_more more v (suc n) (suc zero) l a = absurd (omega arith)
  viable_more more v (suc n) (suc (suc m)) l a = viable_next F (λ x. turn (goes x) (Leave (again a >>= turns goes again (suc m))) a) (λ x. turn (goes x) (Leave (more a >>= turns goes more n)) a) (t ∷ path)
      (finishes_more (suc m) a) (λ x. pair_more (goes x) (Leave (more a >>= turns goes more n)) (Leave (again a >>= turns goes again (suc m))) a
      (viable_bind F G (again a) (turns goes again (suc m)) (t ∷ path) (λ rest f. behind) (more a) (turns goes more n) (v a) (viable_more more v n (suc m) (omega arith)) (finishes_more m)))

  pub ready_more : (more : A → Parser A) → ((a : A) → Viable G (more a) (again a)) → (n m : ℕ) → n < m → (a : A) → Ready F (t ∷ path) (turns goes more n a) (turns goes again m a)
  ready_more more v n zero l a = absurd (omega arith)
  ready_more more v n (suc m) l a = record { viable = viable_more more v n (suc m) l a; finishes = finishes_more m a }

-- ---- loops whose turn tells whether it was one

module _ {A : Type 0} (once : A → Parser (Option A)) where
  tame_again : (p : A → Parser A) → ((b : A) → Tame (p b)) → (a : A) (b : Option A) → Tame (again p a b)
  tame_again p h a (Some b) = h b
  tame_again p h a None = tame_pure a

  pub tame_repeats : ((a : A) → Tame (once a)) → (n : ℕ) (a : A) → Tame (repeats once n a)
  unfolding repeats
  tame_repeats h zero a = tame_bind (again (λ b. past code.TooLong (place_of None)) a) (tame_again (λ b. past code.TooLong (place_of None)) (λ b. tame_past code.TooLong (place_of None)) a) (once a) (h a)
  tame_repeats h (suc n) a = tame_bind (again (repeats once n) a) (tame_again (repeats once n) (λ b. tame_repeats h n b) a) (once a) (h a)

-- Where F stands, a turn is none.
module _ {A : Type 0} (F : Option Lexed → Type 0) (once : A → Parser (Option A))
    (quits : (ts rest : List Lexed) (a : A) (at seen : ℕ) → drop at ts ≡ rest → F (first rest) → (seen1 : ℕ) × (once a ts at seen ≡ Done None at seen1)) where
  pub finishes_repeats : (n : ℕ) (a : A) → Finishes F [] (repeats once n a)
  unfolding repeats bind
  finishes_repeats zero a = record {
    reads = λ ts rest at seen e f. let q = quits ts rest a at seen e f in
        record { tree = a; seen1 = q.0; is = ap (λ o. and_then o (λ b at1 seen1. again (λ b. past code.TooLong (place_of None)) a b ts at1 seen1)) q.1 ∙ ap (λ n. Done a n q.0) (sym (add-zero at)) };
  }
  finishes_repeats (suc n) a = record {
    reads = λ ts rest at seen e f. let q = quits ts rest a at seen e f in
        record { tree = a; seen1 = q.0; is = ap (λ o. and_then o (λ b at1 seen1. again (repeats once n) a b ts at1 seen1)) q.1 ∙ ap (λ n. Done a n q.0) (sym (add-zero at)) };
  }

  finishes_again : (n : ℕ) (a : A) (b : Option A) → Finishes F [] (again (repeats once n) a b)
  finishes_again n a (Some b) = finishes_repeats n b
  finishes_again n a None = finishes_pure F a

  module _ (more : A → Parser (Option A)) (v : (a : A) → Viable F (more a) (once a)) where
    viable_last : (m : ℕ) (a : A) (b : Option A) → Viable F (again (λ b. past code.TooLong (place_of None)) a b) (again (repeats once m) a b)
    viable_last m a (Some b) = viable_past F code.TooLong (place_of None) (repeats once m b) (tame_repeats once (λ a. (v a).whole) m b)
    viable_last m a None = viable_pure F a

    viable_again : (p q : A → Parser A) → ((b : A) → Viable F (p b) (q b)) → (a : A) (b : Option A) → Viable F (again p a b) (again q a b)
    viable_again p q h a (Some b) = h b
    viable_again p q h a None = viable_pure F a

    pub viable_repeats : (n m : ℕ) → n < m → (a : A) → Viable F (repeats more n a) (repeats once m a)
    unfolding repeats
    viable_repeats n zero l a = absurd (omega arith)
    viable_repeats zero (suc m) l a = viable_bind F F (once a) (again (repeats once m) a) [] (λ rest f. f) (more a) (again (λ b. past code.TooLong (place_of None)) a) (v a) (viable_last m a) (finishes_again m a)
    viable_repeats (suc n) (suc m) l a = viable_bind F F (once a) (again (repeats once m) a) [] (λ rest f. f) (more a) (again (repeats more n) a) (v a)
        (viable_again (repeats more n) (repeats once m) (λ b. viable_repeats n m (omega arith) b) a) (finishes_again m a)

    pub ready_repeats : (n m : ℕ) → n < m → (a : A) → Ready F [] (repeats more n a) (repeats once m a)
    ready_repeats n m l a = record { viable = viable_repeats n m l a; finishes = finishes_repeats m a }
