-- The sign of what an operator makes, and unsigned numbers.
use Rattle.std.proofs.Common.{◌≡◌, ◌<◌, ◌/◌, ℕ, Bool, true, false, nat_eq, nat_lt, cond, List, [], ◌∷◌, Option, Some, None, refl, ap, ◌∙◌, arith}
use Rattle.std.proofs.lemmas.Bool.{ne_eqb}
use Rattle.slang_core.specs.declared.bodies.BinaryOp.{BinaryOp}
use Rattle.slang_core.specs.declared.bodies.BinaryOp.TheVariants.{Divide, Less}
use Rattle.slang_core.specs.declared.bodies.Expr.{Expr, fold-roll-Expr}
use Rattle.slang_core.specs.declared.bodies.Expr as layers
use Rattle.slang_core.specs.declared.bodies.Expr.TheVariants.{Binary}
use Rattle.slang_core.specs.declared.bodies.Call.TheOpen as e
use Rattle.type_terms.specs.declared.typings.Worth.{Worth}
use Rattle.type_terms.specs.declared.typings.Worth.TheVariants.{Words, Truth, Undefined}
use Rattle.type_terms.specs.Values.{word_test, words_op, with_word, words_or, tested, on_words, binary_worth, call_worth, expr_worth, given_worth, place_worth, value_of}

or_sign : (s u : Bool) (o : Option (List ℕ)) (zs : List ℕ) → words_or s o ≡ Words u zs → u ≡ s
or_sign s u (Some xs) zs h = cc
or_sign s u None zs h = absurd cc

tested_sign : (s u : Bool) (t : Option Bool) (w : Worth) (zs : List ℕ) → (w ≡ Words u zs → u ≡ s) → tested t w ≡ Words u zs → u ≡ s
tested_sign s u (Some t) w zs next h = absurd cc
tested_sign s u None w zs next h = next h

pub on_sign : (op : BinaryOp) (s u : Bool) (xs ys zs : List ℕ) → on_words op s xs ys ≡ Words u zs → u ≡ s
on_sign op s u [] ys zs h = or_sign s u (words_op op s [] ys) zs h
on_sign op s u (x ∷ []) [] zs h = or_sign s u (words_op op s (x ∷ []) []) zs h
on_sign op s u (x ∷ []) (y ∷ []) zs h =
    let made = words_op op s (x ∷ []) (y ∷ []) in
    tested_sign s u (word_test op s x y) (words_or s made) zs (or_sign s u made zs) h
on_sign op s u (x ∷ []) (y ∷ z ∷ ys) zs h = or_sign s u (words_op op s (x ∷ []) (y ∷ z ∷ ys)) zs h
on_sign op s u (x ∷ y ∷ xs) ys zs h = or_sign s u (words_op op s (x ∷ y ∷ xs) ys) zs h

binary_step : (op : BinaryOp) (x y : Expr) → value_of (Binary op x y) ≡ binary_worth op (value_of x) (value_of y)
unfolding layers.roll-Expr denote.Hole.Carrier.roll
binary_step op x y = fold-roll-Expr Worth Worth Worth Worth call_worth expr_worth given_worth place_worth (e.Binary op x y)

of_words : (op : BinaryOp) (x y : Expr) (v w : Worth) → value_of x ≡ v → value_of y ≡ w → value_of (Binary op x y) ≡ binary_worth op v w
of_words op x y v w p q = binary_step op x y ∙ (ap (λ z. binary_worth op z (value_of y)) p ∙ ap (λ z. binary_worth op v z) q)

pub quotient : (x y : Expr) (a b : ℕ) → value_of x ≡ Words true (a ∷ []) → value_of y ≡ Words true (b ∷ []) → 0 < b → value_of (Binary Divide x y) ≡ Words true (a / b ∷ [])
quotient x y a b p q more =
    let test : nat_eq b 0 ≡ false = ne_eqb b 0 (λ z. absurd (omega arith)) in
    of_words Divide x y (Words true (a ∷ [])) (Words true (b ∷ [])) p q ∙ ap (λ k. words_or true (with_word (cond k None (Some (a / b))) (Some []))) test

pub by_zero : (x y : Expr) (a : ℕ) → value_of x ≡ Words true (a ∷ []) → value_of y ≡ Words true (0 ∷ []) → value_of (Binary Divide x y) ≡ Undefined
by_zero x y a p q = of_words Divide x y (Words true (a ∷ [])) (Words true (0 ∷ [])) p q

pub order : (x y : Expr) (a b : ℕ) → value_of x ≡ Words true (a ∷ []) → value_of y ≡ Words true (b ∷ []) → value_of (Binary Less x y) ≡ Truth (nat_lt a b)
order x y a b p q = of_words Less x y (Words true (a ∷ [])) (Words true (b ∷ [])) p q
