-- Operators on words and vectors of words give values of the same shape, or are undefined.
use Rattle.std.proofs.Common.{ℕ, zero, suc, Option, Some, None, refl, sym, subst}
use Rattle.behavior.specs.Values.{Value, Values, Truth, Word, Whole, NoMore, Then, Way, Found, Outside, Wrong, and_then}
use Rattle.spirv_words.specs.Machine.{Shape, Truths, Words, Repeated, Fields}
use Rattle.spirv_words.specs.Step.{word_way, then_parts, each_word, each_part, both_words, both_parts}
use Rattle.flat_values.specs.Lanes.{IsOfWords, AreAlike}
use Rattle.image_facts.specs.Alike.{IsLike, AllLike}

-- a word, or undefined
abbrev pub GivesWord : Way → Type 0
GivesWord (Found (Word w)) = Unit {0}
GivesWord Outside = Unit {0}
GivesWord way = ⊥

-- a value like a shape, or undefined
abbrev pub GivesLike : Way → Shape → Type 0
GivesLike (Found v) s = IsLike v s
GivesLike Outside s = Unit {0}
GivesLike Wrong s = ⊥

pub gives_word : (o : Option ℕ) → GivesWord (word_way o)
gives_word None = tt
gives_word (Some w) = tt

word_like : (way : Way) (a : _) → GivesWord way → GivesLike way (Words a)
word_like (Found (Word w)) a h = tt
word_like (Found (Truth b)) a h = absurd h
word_like (Found (Whole vs)) a h = absurd h
word_like Outside a h = tt
word_like Wrong a h = absurd h

then_like : (one rest : Way) (n stride : ℕ) (of : Shape) → GivesLike one of → GivesLike rest (Repeated n stride of)
    → GivesLike (and_then one (λ w. and_then rest (λ ws. then_parts (Found w) (Found ws)))) (Repeated (suc n) stride of)
then_like (Found v) (Found (Whole vs)) n stride of g h = (g, h)
then_like (Found v) (Found (Truth b)) n stride of g h = absurd h
then_like (Found v) (Found (Word w)) n stride of g h = absurd h
then_like (Found v) Outside n stride of g h = tt
then_like (Found v) Wrong n stride of g h = absurd h
then_like Outside rest n stride of g h = tt
then_like Wrong rest n stride of g h = absurd g

module _ (f : ℕ → Way) (word : (x : ℕ) → GivesWord (f x)) where
  mutual
    each_is : (v : Value) (s : Shape) → IsLike v s → IsOfWords s → GivesLike (each_word f v) s
    each_is (Word w) (Words a) h k = word_like (f w) a (word w)
    each_is (Whole vs) (Repeated n stride of) h k = each_are vs n stride of h k
    each_is (Truth b) Truths h k = absurd k
    each_is (Whole vs) (Fields fs) h k = absurd k
    each_is v s h k = absurd h

    each_are : (vs : Values) (n stride : ℕ) (of : Shape) → AllLike vs n of → IsOfWords of → GivesLike (each_part f vs) (Repeated n stride of)
    each_are NoMore zero stride of h k = tt
    each_are (Then v vs) (suc n) stride of h k =
        then_like (each_word f v) (each_part f vs) n stride of (each_is v of h.0 k) (each_are vs n stride of h.1 k)
    each_are vs n stride of h k = absurd h

pub one_like : (f : ℕ → Way) (v : Value) (s : Shape) → ((x : ℕ) → GivesWord (f x)) → IsLike v s → IsOfWords s → GivesLike (each_word f v) s
one_like f v s word h k = each_is f word v s h k

module _ (f : ℕ → ℕ → Way) (word : (x y : ℕ) → GivesWord (f x y)) where
  mutual
    both_is : (v w : Value) (s t : Shape) → IsLike v s → IsLike w t → AreAlike s t → GivesLike (both_words f v w) s
    both_is (Word x) (Word y) (Words a) (Words b) g h k = word_like (f x y) a (word x y)
    both_is (Whole vs) (Whole ws) (Repeated n stride of) (Repeated n' stride' of') g h k =
        both_are vs ws n stride of of' g (subst (λ m. AllLike ws m of') (sym k.0) h) k.1
    both_is (Word x) (Truth b') (Words a) (Words b) g h k = absurd h
    both_is (Word x) (Whole ws) (Words a) (Words b) g h k = absurd h
    both_is (Word x) w (Words a) t g h k = absurd k
    both_is (Whole vs) (Truth b) (Repeated n stride of) (Repeated n' stride' of') g h k = absurd h
    both_is (Whole vs) (Word y) (Repeated n stride of) (Repeated n' stride' of') g h k = absurd h
    both_is (Whole vs) w (Repeated n stride of) t g h k = absurd k
    both_is (Truth b) w Truths t g h k = absurd k
    both_is (Whole vs) w (Fields fs) t g h k = absurd k
    both_is v w s t g h k = absurd g

    both_are : (vs ws : Values) (n stride : ℕ) (of of' : Shape) → AllLike vs n of → AllLike ws n of' → AreAlike of of'
        → GivesLike (both_parts f vs ws) (Repeated n stride of)
    both_are NoMore NoMore zero stride of of' g h k = tt
    both_are NoMore (Then w ws) zero stride of of' g h k = absurd h
    both_are NoMore ws (suc n) stride of of' g h k = absurd g
    both_are (Then v vs) NoMore (suc n) stride of of' g h k = absurd h
    both_are (Then v vs) (Then w ws) (suc n) stride of of' g h k =
        then_like (both_words f v w) (both_parts f vs ws) n stride of (both_is v w of of' g.0 h.0 k) (both_are vs ws n stride of of' g.1 h.1 k)
    both_are vs ws n stride of of' g h k = absurd g

pub two_like : (f : ℕ → ℕ → Way) (v w : Value) (s t : Shape) → ((x y : ℕ) → GivesWord (f x y)) → IsLike v s → IsLike w t → AreAlike s t
    → GivesLike (both_words f v w) s
two_like f v w s t word g h k = both_is f word v w s t g h k

-- a vector of words of one kind is like one of the other kind
mutual
  pub alike_like : (v : Value) (s t : Shape) → IsLike v s → AreAlike s t → IsLike v t
  alike_like (Word x) (Words a) (Words b) h k = tt
  alike_like (Whole vs) (Repeated n stride of) (Repeated n' stride' of') h k =
      subst (λ m. AllLike vs m of') k.0 (all_alike vs n of of' h k.1)
  alike_like (Word x) (Words a) t h k = absurd k
  alike_like (Whole vs) (Repeated n stride of) t h k = absurd k
  alike_like (Truth b) Truths t h k = absurd k
  alike_like (Whole vs) (Fields fs) t h k = absurd k
  alike_like v s t h k = absurd h

  all_alike : (vs : Values) (n : ℕ) (of of' : Shape) → AllLike vs n of → AreAlike of of' → AllLike vs n of'
  all_alike NoMore zero of of' h k = tt
  all_alike (Then v vs) (suc n) of of' h k = (alike_like v of of' h.0 k, all_alike vs n of of' h.1 k)
  all_alike vs n of of' h k = absurd h

pub alike_same : (s : Shape) → IsOfWords s → AreAlike s s
alike_same s h = alike s h
  where
    alike : (s : Shape) → IsOfWords s → AreAlike s s
    alike (Words a) h = tt
    alike (Repeated n stride of) h = (refl, alike of h)
    alike s h = absurd h
