-- What of a declaration within the limits is within them too.
use Rattle.std.proofs.Common.{refl, Bool, true, ◌||◌, ◌≡◌, ℕ, ◌<◌, ◌≤◌, max, List, [], ◌∷◌, ◌++◌, length, length-append, map, arith}
use Rattle.slang_grammar.specs.Descent.{Limits}
use Rattle.statement_grammar.specs.AttributeRules.{all_true}
use Rattle.statement_fits.specs.Sizes.{Count, Keeps}
use Rattle.statement_fits.proofs.Fitting.{and_left, and_right, and_both, or_map, max_left, max_right, less, front_fits, last_fits}
use Rattle.declaration_fits.specs.Sizes.{in_each}

-- the list so far goes on to be the other
pub data Front {A : Type 0} : List A → List A → Type 0 where
  whole : {xs : List A} → Front xs xs
  longer : {xs ys : List A} (x : A) → Front (xs ++ x ∷ []) ys → Front xs ys

front_length : {A : Type 0} {xs ys : List A} → Front xs ys → length xs ≤ length ys
front_length whole = omega arith
front_length (longer {xs = xs} x r) = let h = front_length r in omega (arith, h, length-append xs (x ∷ []))

-- all of a list obey
module _ {A : Type 0} (f : A → Bool) where
  true_front : (xs : List A) (x : A) → all_true (map f (xs ++ x ∷ [])) ≡ true → all_true (map f xs) ≡ true
  true_front [] x h = refl
  true_front (y ∷ ys) x h = and_both (f y) (all_true (map f ys)) (and_left (f y) (all_true (map f (ys ++ x ∷ []))) h) (true_front ys x (and_right (f y) (all_true (map f (ys ++ x ∷ []))) h))

  true_last : (xs : List A) (x : A) → all_true (map f (xs ++ x ∷ [])) ≡ true → f x ≡ true
  true_last [] x h = and_left (f x) true h
  true_last (y ∷ ys) x h = true_last ys x (and_right (f y) (all_true (map f (ys ++ x ∷ []))) h)

  all_front : {xs ys : List A} → Front xs ys → all_true (map f ys) ≡ true → all_true (map f xs) ≡ true
  all_front whole h = h
  all_front (longer {xs = xs} x r) h = true_front xs x (all_front r h)

  -- each obeys
  pub one_obeys : (free : Bool) (xs : List A) (x : A) {ys : List A} → Front (xs ++ x ∷ []) ys → (free || all_true (map f ys)) ≡ true → (free || f x) ≡ true
  one_obeys free xs x {ys = ys} r h = or_map free (all_true (map f ys)) (f x) (λ h. true_last xs x (all_front r h)) h

-- each stands behind fewer than a list may have
pub one_in : {A : Type 0} (limits : Limits) (xs : List A) (x : A) {ys : List A} → Front (xs ++ x ∷ []) ys → length ys ≤ limits.items → length xs < limits.items
one_in limits xs x r h = let a = front_length r in omega (arith, a, h, length-append xs (x ∷ []))

module _ {limits : Limits} {d : ℕ} where
  pub left : (f g : Count → ℕ) → Keeps limits d (λ count. max (f count) (g count)) → Keeps limits d f
  left f g w = less limits d f (λ count. max (f count) (g count)) (λ count. max_left (f count) (g count)) w

  pub right : (f g : Count → ℕ) → Keeps limits d (λ count. max (f count) (g count)) → Keeps limits d g
  right f g w = less limits d g (λ count. max (f count) (g count)) (λ count. max_right (f count) (g count)) w

  front_keeps : {A : Type 0} (f : Count → A → ℕ) {xs ys : List A} → Front xs ys → Keeps limits d (λ count. in_each count (f count) ys) → Keeps limits d (λ count. in_each count (f count) xs)
  front_keeps f whole w = w
  front_keeps f (longer {xs = xs} x r) w = front_fits limits f d xs x (front_keeps f r w)

  -- each keeps the limits
  pub one_keeps : {A : Type 0} (f : Count → A → ℕ) (xs : List A) (x : A) {ys : List A} → Front (xs ++ x ∷ []) ys → Keeps limits d (λ count. in_each count (f count) ys) → Keeps limits d (λ count. f count x)
  one_keeps f xs x r w = last_fits limits f d xs x (front_keeps f r w)
