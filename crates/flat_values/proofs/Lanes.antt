-- Operators on values go word by word.
use Rattle.std.proofs.Common.{◌≡◌, ℕ, zero, suc, ◌*◌, ◌^◌, ◌<◌, List, [], ◌∷◌, ◌++◌, length, Option, Some, None, refl, sym, ap, subst, ◌∙◌, arith}
use Rattle.behavior.specs.Values.{Value, Values, Truth, Word, Whole, NoMore, Then, Way, Found, Outside, Wrong, and_then}
use Rattle.spirv_words.specs.Machine.{Shape, Truths, Words, Repeated, Fields, if_some}
use Rattle.spirv_words.specs.Step.{word_way, then_parts, each_word, each_part, both_words, both_parts}
use Rattle.flat_values.specs.Flat.{flat, flats, width, IsOf, AllOf}
use Rattle.flat_values.specs.Lanes.{each_of, both_of, IsOfWords, AreAlike, GivesWords, IsOutcome}
use Rattle.flat_values.proofs.Counts.{count}

abbrev pub Words' : Type 0
Words' = List ℕ

-- the results of two lists in a row
abbrev pub both : Option Words' → Option Words' → Option Words'
both a b = if_some a None (λ xs. if_some b None (λ ys. Some (xs ++ ys)))

abbrev pub more : Option ℕ → Option Words' → Option Words'
more o b = if_some o None (λ x. if_some b None (λ xs. Some (x ∷ xs)))

more_both : (o : Option ℕ) (a b : Option Words') → more o (both a b) ≡ both (more o a) b
more_both None a b = refl
more_both (Some x) None b = refl
more_both (Some x) (Some xs) None = refl
more_both (Some x) (Some xs) (Some ys) = refl

both_nil : (a : Option Words') → a ≡ both (Some []) a
both_nil None = refl
both_nil (Some xs) = refl

each_append : (f : ℕ → Option ℕ) (xs ys : List ℕ) → each_of f (xs ++ ys) ≡ both (each_of f xs) (each_of f ys)
each_append f [] ys = both_nil (each_of f ys)
each_append f (x ∷ xs) ys = ap (more (f x)) (each_append f xs ys) ∙ more_both (f x) (each_of f xs) (each_of f ys)

pub both_append : (f : ℕ → ℕ → Option ℕ) (xs ys vs ws : List ℕ) → length xs ≡ length vs
    → both_of f (xs ++ ys) (vs ++ ws) ≡ both (both_of f xs vs) (both_of f ys ws)
both_append f [] ys [] ws n = both_nil (both_of f ys ws)
both_append f (x ∷ xs) ys (v ∷ vs) ws n =
    let l : length xs ≡ length vs = omega arith in
    ap (more (f x v)) (both_append f xs ys vs ws l) ∙ more_both (f x v) (both_of f xs vs) (both_of f ys ws)
both_append f [] ys (v ∷ vs) ws n = absurd (omega arith)
both_append f (x ∷ xs) ys [] ws n = absurd (omega arith)

one_word : (o : Option ℕ) (signed : _) → GivesWords o → IsOutcome (word_way o) (more o (Some [])) (Words signed)
one_word None signed h = tt
one_word (Some w) signed h = (h, refl)

then_outcome : (one rest : Way) (a b : Option Words') (n stride : ℕ) (of : Shape) → IsOutcome one a of
    → IsOutcome rest b (Repeated n stride of)
    → IsOutcome (and_then one (λ w. and_then rest (λ ws. then_parts (Found w) (Found ws)))) (both a b) (Repeated (suc n) stride of)
then_outcome (Found v) (Found (Whole vs)) (Some xs) (Some ys) n stride of g h =
    ((g.0, h.0), ap (λ l. l ++ flats vs) g.1 ∙ ap (λ l. xs ++ l) h.1)
then_outcome (Found v) (Found (Truth b)) (Some xs) (Some ys) n stride of g h = absurd h.0
then_outcome (Found v) (Found (Word w)) (Some xs) (Some ys) n stride of g h = absurd h.0
then_outcome (Found v) (Found w) (Some xs) None n stride of g h = absurd h
then_outcome (Found v) Outside (Some xs) (Some ys) n stride of g h = absurd h
then_outcome (Found v) Outside (Some xs) None n stride of g h = tt
then_outcome (Found v) Wrong (Some xs) b n stride of g h = absurd h
then_outcome (Found v) rest None b n stride of g h = absurd g
then_outcome Outside rest None b n stride of g h = tt
then_outcome Outside rest (Some xs) b n stride of g h = absurd g
then_outcome Wrong rest a b n stride of g h = absurd g

module _ (f : ℕ → Option ℕ) (small : (x : ℕ) → x < 2 ^ 32 → GivesWords (f x)) where
  mutual
    each_is : (v : Value) (s : Shape) → IsOf v s → IsOfWords s → IsOutcome (each_word (λ x. word_way (f x)) v) (each_of f (flat v)) s
    each_is (Word w) (Words signed) h k = one_word (f w) signed (small w h)
    each_is (Whole vs) (Repeated n stride of) h k = each_are vs n stride of h k
    each_is (Truth b) Truths h k = absurd k
    each_is (Whole vs) (Fields fs) h k = absurd k
    each_is v s h k = absurd h

    each_are : (vs : Values) (n stride : ℕ) (of : Shape) → AllOf vs n of → IsOfWords of
        → IsOutcome (each_part (λ x. word_way (f x)) vs) (each_of f (flats vs)) (Repeated n stride of)
    each_are NoMore zero stride of h k = (tt, refl)
    each_are (Then v vs) (suc n) stride of h k =
        subst (λ o. IsOutcome (each_part (λ x. word_way (f x)) (Then v vs)) o (Repeated (suc n) stride of))
        (sym (each_append f (flat v) (flats vs)))
        (then_outcome (each_word (λ x. word_way (f x)) v) (each_part (λ x. word_way (f x)) vs) (each_of f (flat v)) (each_of f (flats vs)) n stride of
        (each_is v of h.0 k) (each_are vs n stride of h.1 k))
    each_are vs n stride of h k = absurd h

pub one_operand : (f : ℕ → Option ℕ) (v : Value) (s : Shape) → ((x : ℕ) → x < 2 ^ 32 → GivesWords (f x)) → IsOf v s → IsOfWords s
    → IsOutcome (each_word (λ x. word_way (f x)) v) (each_of f (flat v)) s
one_operand f v s small h k = each_is f small v s h k

same_widths : (s t : Shape) → AreAlike s t → width s ≡ width t
same_widths (Words a) (Words b) h = refl
same_widths (Repeated n stride of) (Repeated n' stride' of') h =
    ap (λ k. k * width of) h.0 ∙ ap (λ k. n' * k) (same_widths of of' h.1)
same_widths s t h = absurd h

module _ (f : ℕ → ℕ → Option ℕ) (small : (x y : ℕ) → x < 2 ^ 32 → y < 2 ^ 32 → GivesWords (f x y)) where
  mutual
    both_is : (v w : Value) (s t : Shape) → IsOf v s → IsOf w t → AreAlike s t
        → IsOutcome (both_words (λ x y. word_way (f x y)) v w) (both_of f (flat v) (flat w)) s
    both_is (Word x) (Word y) (Words a) (Words b) g h k = one_word (f x y) a (small x y g h)
    both_is (Whole vs) (Whole ws) (Repeated n stride of) (Repeated n' stride' of') g h k =
        both_are vs ws n stride of of' g (subst (λ m. AllOf ws m of') (sym k.0) h) k.1
    both_is (Word x) (Truth b') (Words a) (Words b) g h k = absurd h
    both_is (Word x) (Whole ws) (Words a) (Words b) g h k = absurd h
    both_is (Word x) w (Words a) t g h k = absurd k
    both_is (Whole vs) (Truth b) (Repeated n stride of) (Repeated n' stride' of') g h k = absurd h
    both_is (Whole vs) (Word y) (Repeated n stride of) (Repeated n' stride' of') g h k = absurd h
    both_is (Whole vs) w (Repeated n stride of) t g h k = absurd k
    both_is (Truth b) w Truths t g h k = absurd k
    both_is (Whole vs) w (Fields fs) t g h k = absurd k
    both_is v w s t g h k = absurd g

    both_are : (vs ws : Values) (n stride : ℕ) (of of' : Shape) → AllOf vs n of → AllOf ws n of' → AreAlike of of'
        → IsOutcome (both_parts (λ x y. word_way (f x y)) vs ws) (both_of f (flats vs) (flats ws)) (Repeated n stride of)
    both_are NoMore NoMore zero stride of of' g h k = (tt, refl)
    both_are NoMore (Then w ws) zero stride of of' g h k = absurd h
    both_are NoMore ws (suc n) stride of of' g h k = absurd g
    both_are (Then v vs) NoMore (suc n) stride of of' g h k = absurd h
    both_are (Then v vs) (Then w ws) (suc n) stride of of' g h k =
        let e = count v of g.0 ∙ (same_widths of of' k ∙ sym (count w of' h.0)) in
        subst (λ o. IsOutcome (both_parts (λ x y. word_way (f x y)) (Then v vs) (Then w ws)) o (Repeated (suc n) stride of))
        (sym (both_append f (flat v) (flats vs) (flat w) (flats ws) e))
        (then_outcome (both_words (λ x y. word_way (f x y)) v w) (both_parts (λ x y. word_way (f x y)) vs ws) (both_of f (flat v) (flat w))
        (both_of f (flats vs) (flats ws)) n stride of (both_is v w of of' g.0 h.0 k) (both_are vs ws n stride of of' g.1 h.1 k))
    both_are vs ws n stride of of' g h k = absurd g

pub two_operands : (f : ℕ → ℕ → Option ℕ) (v w : Value) (s t : Shape)
    → ((x y : ℕ) → x < 2 ^ 32 → y < 2 ^ 32 → GivesWords (f x y)) → IsOf v s → IsOf w t → AreAlike s t
    → IsOutcome (both_words (λ x y. word_way (f x y)) v w) (both_of f (flat v) (flat w)) s
two_operands f v w s t small g h k = both_is f small v w s t g h k
