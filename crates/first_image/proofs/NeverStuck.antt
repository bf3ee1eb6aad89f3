-- No run of a shader of the first form is stuck.
use Rattle.std.proofs.Common.{◌≡◌, ◌≢◌, ℕ, Bool, true, false, List, [], ◌∷◌, refl, sym, subst}
use Rattle.std.specs.Prelude.{nat_lt}
use Rattle.behavior.specs.Values.{Value, Word, triple}
use Rattle.behavior.specs.Meanings.{Stuck, Ids}
use Rattle.behavior.specs.Running.{World, Result, Went, Ends, then, Flow, Next, then_next, on_word, choose, outcome}
use Rattle.first_form.specs.declared.shader.Shader.{Shader}
use Rattle.first_form.specs.declared.shader.Statement.{Statement}
use Rattle.first_form.specs.declared.shader.Sum.{Sum}
use Rattle.first_form.specs.declared.shader.Item.{Item}
use Rattle.first_form.specs.declared.shader.Item.TheVariants.{Number, X}
use Rattle.first_image.specs.Source.{item_means, plus_means, more_means, sum_means, statement_means, statements_mean, source}

-- the end is not Stuck; and where the run goes on, it goes on as P says
abbrev Fine : {A : Type 0} → (A → List Value → Type 0) → Result A → Type 0
Fine P (Went a l w) = P a l
Fine P (Ends events ending) = ending ≢ Stuck

then_fine : {A B : Type 0} (P : A → List Value → Type 0) (Q : B → List Value → Type 0) (r : Result A) (go : A → List Value → World → Result B) → Fine P r → ((a : A) (l : List Value) (w : World) → P a l → Fine Q (go a l w)) → Fine Q (then r go)
then_fine P Q (Went a l w) go h f = f a l w h
then_fine P Q (Ends events ending) go h f = h

choose_fine : {A : Type 0} (P : A → List Value → Type 0) (b : Bool) (x y : Result A) → Fine P x → Fine P y → Fine P (choose b x y)
choose_fine P true x y f g = f
choose_fine P false x y f g = g

module _ (global : ℕ × ℕ × ℕ) where
  -- the one local is the invocation's global id
  abbrev IsLocals : List Value → Type 0
  IsLocals l = l ≡ triple global ∷ []

  -- a word, and the locals as they were
  abbrev IsWord : Value → List Value → Type 0
  IsWord v l = ((n : ℕ) × (v ≡ Word n)) × IsLocals l

  -- an expression gives a word
  abbrev GivesWord : (List Value → World → Result Value) → Type 0
  GivesWord f = (l : List Value) (w : World) → IsLocals l → Fine IsWord (f l w)

  item_fine : (i : Item) → GivesWord (item_means i)
  item_fine (Number n) l w e = ((n, refl), e)
  item_fine X l w e = subst (λ l. Fine IsWord (item_means X l w)) (sym e) ((global.0, refl), refl)

  on_word_fine : {A : Type 0} (P : A → List Value → Type 0) (v : Value) (w : World) (go : ℕ → Result A) → (n : ℕ) × (v ≡ Word n) → ((n : ℕ) → Fine P (go n)) → Fine P (on_word v w go)
  on_word_fine P v w go h f = subst (λ v. Fine P (on_word v w go)) (sym h.1) (f h.0)

  -- two words, one after the other
  pair_fine : {A : Type 0} (P : A → List Value → Type 0) (a b : List Value → World → Result Value) (go : Value → Value → List Value → World → Result A) → GivesWord a → GivesWord b → ((x y : Value) (l : List Value) (w : World) → (n : ℕ) × (x ≡ Word n) → (n : ℕ) × (y ≡ Word n) → IsLocals l → Fine P (go x y l w)) → (l : List Value) (w : World) → IsLocals l → Fine P (then (a l w) (λ x l1 w1. then (b l1 w1) (λ y l2 w2. go x y l2 w2)))
  pair_fine P a b go ha hb f l w e =
      then_fine IsWord P (a l w) (λ x l1 w1. then (b l1 w1) (λ y l2 w2. go x y l2 w2)) (ha l w e) (λ x l1 w1 hx.
      then_fine IsWord P (b l1 w1) (λ y l2 w2. go x y l2 w2) (hb l1 w1 hx.1) (λ y l2 w2 hy. f x y l2 w2 hx.0 hy.0 hy.1))

  plus_fine : (a b : List Value → World → Result Value) → GivesWord a → GivesWord b → GivesWord (plus_means a b)
  plus_fine a b ha hb =
      pair_fine IsWord a b _ ha hb (λ x y l w hx hy e.
      on_word_fine IsWord x w _ hx (λ n. on_word_fine IsWord y w _ hy (λ m. ((_, refl), e))))

  more_fine : (is : List Item) (a : List Value → World → Result Value) → GivesWord a → GivesWord (more_means a is)
  more_fine [] a ha = ha
  more_fine (i ∷ is) a ha = more_fine is (plus_means a (item_means i)) (plus_fine a (item_means i) ha (item_fine i))

  sum_fine : (s : Sum) → GivesWord (sum_means s)
  sum_fine s = more_fine s.rest (item_means s.first) (item_fine s.first)

  -- a statement goes on, with the locals as they were
  abbrev GoesOn : Flow → List Value → Type 0
  GoesOn flow l = (flow ≡ Next) × IsLocals l

  statement_fine : (lengths : ℕ → ℕ → ℕ) (s : Statement) (l : List Value) (w : World) → IsLocals l → Fine GoesOn (statement_means lengths s l w)
  statement_fine lengths s =
      pair_fine GoesOn (sum_means s.index) (sum_means s.value) _ (sum_fine s.index) (sum_fine s.value) (λ x y l w hx hy e.
      on_word_fine GoesOn x w _ hx (λ n. on_word_fine GoesOn y w _ hy (λ m.
      choose_fine GoesOn (nat_lt n (lengths 0 0)) _ _ (refl, e) (λ e. cc))))

  next_fine : (r : Result Flow) (go : List Value → World → Result Flow) → Fine GoesOn r → ((l : List Value) (w : World) → IsLocals l → Fine GoesOn (go l w)) → Fine GoesOn (then_next r go)
  next_fine (Ends events ending) go h f = h
  next_fine (Went flow l w) go h f = subst (λ flow. Fine GoesOn (then_next (Went flow l w) go)) (sym h.0) (f l w h.1)

  statements_fine : (lengths : ℕ → ℕ → ℕ) (ss : List Statement) (l : List Value) (w : World) → IsLocals l → Fine GoesOn (statements_mean lengths ss l w)
  statements_fine lengths [] l w e = (refl, e)
  statements_fine lengths (s ∷ ss) l w e = next_fine (statement_means lengths s l w) (statements_mean lengths ss) (statement_fine lengths s l w e) (statements_fine lengths ss)

  outcome_fine : (r : Result Flow) → Fine GoesOn r → (outcome r).ending ≢ Stuck
  outcome_fine (Ends events ending) h = h
  outcome_fine (Went flow l w) h = subst (λ flow. (outcome (Went flow l w)).ending ≢ Stuck) (sym h.0) (λ e. cc)

pub never_stuck : (p : Shader) (ids : Ids) (lengths : ℕ → ℕ → ℕ) (answers : List ℕ) (n : ℕ) → (source p ids lengths answers n).ending ≢ Stuck
never_stuck p ids lengths answers n = outcome_fine ids.global _ (statements_fine ids.global lengths p.statements (triple ids.global ∷ []) (record { answers = answers; events = []; clock = n }) refl)
