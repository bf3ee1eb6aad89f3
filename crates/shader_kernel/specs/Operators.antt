-- What operators make of values. Words, vectors of words, and what is undefined are treated as the instructions treat them.
use Rattle.std.specs.Prelude.{ℕ, zero, suc, ◌+◌, Bool, true, false, not, nat_eq, nat_lt, nat_le, List, [], ◌∷◌, map}
use Rattle.behavior.specs.Values.{Value, Values, Truth, Word, Whole, NoMore, Then, Way, Found, Outside, Wrong, part, and_then}
use Rattle.behavior.specs.Operations.{word_add, word_sub, word_mul, word_negate, word_not, word_udiv, word_umod, word_sdiv, word_srem, word_slt, word_sle, word_shl, word_shr, word_sar, word_and, word_or, word_xor}
use Rattle.spirv_words.specs.Machine.{repeated}
use Rattle.spirv_words.specs.Step.{each_word, both_words, word_way, same_truth}
use Rattle.shader_kernel.specs.Kernel.{Unary, Negate, Complement, Not, Convert, Binary, Add, Subtract, Multiply, Divide, Remainder, BitAnd, BitOr, BitXor, ShiftLeft, ShiftRight, Same, Different, Less, LessEqual, Greater, GreaterEqual, Node, One, Two, Part, Pick, Spread, Repeat, Fill}

-- a test of two words, and of two bools
abbrev pub compare_way : (ℕ → ℕ → Bool) → Value → Value → Way
compare_way f (Word x) (Word y) = Found (Truth (f x y))
compare_way f v w = Wrong

abbrev pub truth_way : (Bool → Bool → Bool) → Value → Value → Way
truth_way f (Truth x) (Truth y) = Found (Truth (f x y))
truth_way f v w = Wrong

abbrev pub not_way : Value → Way
not_way (Truth b) = Found (Truth (not b))
not_way v = Wrong

abbrev pub unary_way : Unary → Value → Way
unary_way Negate v = each_word (λ x. Found (Word (word_negate x))) v
unary_way Complement v = each_word (λ x. Found (Word (word_not x))) v
unary_way Not v = not_way v
unary_way Convert v = Found v

-- sums, differences, products and shifts to the left keep 32 bits; a division or remainder by 0, of the least int by -1, and a
-- shift by 32 or more are undefined; a shift of an int to the right keeps its sign
abbrev pub binary_way : Binary → Value → Value → Way
binary_way Add v w = both_words (λ x y. Found (Word (word_add x y))) v w
binary_way Subtract v w = both_words (λ x y. Found (Word (word_sub x y))) v w
binary_way Multiply v w = both_words (λ x y. Found (Word (word_mul x y))) v w
binary_way (Divide true) v w = both_words (λ x y. word_way (word_sdiv x y)) v w
binary_way (Divide false) v w = both_words (λ x y. word_way (word_udiv x y)) v w
binary_way (Remainder true) v w = both_words (λ x y. word_way (word_srem x y)) v w
binary_way (Remainder false) v w = both_words (λ x y. word_way (word_umod x y)) v w
binary_way BitAnd v w = both_words (λ x y. Found (Word (word_and x y))) v w
binary_way BitOr v w = both_words (λ x y. Found (Word (word_or x y))) v w
binary_way BitXor v w = both_words (λ x y. Found (Word (word_xor x y))) v w
binary_way ShiftLeft v w = both_words (λ x y. word_way (word_shl x y)) v w
binary_way (ShiftRight true) v w = both_words (λ x y. word_way (word_sar x y)) v w
binary_way (ShiftRight false) v w = both_words (λ x y. word_way (word_shr x y)) v w
binary_way (Same true) v w = truth_way same_truth v w
binary_way (Same false) v w = compare_way nat_eq v w
binary_way (Different true) v w = truth_way (λ x y. not (same_truth x y)) v w
binary_way (Different false) v w = compare_way (λ x y. not (nat_eq x y)) v w
binary_way (Less true) v w = compare_way word_slt v w
binary_way (Less false) v w = compare_way nat_lt v w
binary_way (LessEqual true) v w = compare_way word_sle v w
binary_way (LessEqual false) v w = compare_way nat_le v w
binary_way (Greater true) v w = compare_way (λ x y. word_slt y x) v w
binary_way (Greater false) v w = compare_way (λ x y. nat_lt y x) v w
binary_way (GreaterEqual true) v w = compare_way (λ x y. word_sle y x) v w
binary_way (GreaterEqual false) v w = compare_way (λ x y. nat_le y x) v w

-- the part at a path that is written in the program: that it is not there is no fault of a run
abbrev pub known : Way → Way
known (Found v) = Found v
known Outside = Wrong
known Wrong = Wrong

abbrev pub at_path : Value → List ℕ → Way
at_path v path = known (part v path)

-- a value before others, in a whole
abbrev pub before_parts : Value → Way → Way
before_parts v (Found (Whole vs)) = Found (Whole (Then v vs))
before_parts v (Found (Truth b)) = Wrong
before_parts v (Found (Word w)) = Wrong
before_parts v Outside = Outside
before_parts v Wrong = Wrong

-- the parts with these numbers, and behind them others
abbrev pub picked : Value → List ℕ → Way → Way
picked v [] rest = rest
picked v (k ∷ ks) rest = and_then (at_path v (k ∷ [])) (λ x. before_parts x (picked v ks rest))

-- the numbers from one on, so many
abbrev pub numbers_from : ℕ → ℕ → List ℕ
numbers_from k zero = []
numbers_from k (suc n) = k ∷ numbers_from (k + 1) n

-- the components of a vector of so many, or a scalar itself, and behind them others
abbrev pub components : ℕ → Value → Way → Way
components zero v rest = before_parts v rest
components (suc n) v rest = picked v (numbers_from 0 (suc n)) rest

abbrev pub spread : List ℕ → List Value → Way
spread [] [] = Found (Whole NoMore)
spread (n ∷ ns) (v ∷ vs) = components n v (spread ns vs)
spread ns vs = Wrong

-- these values, and then others
abbrev pub values_then : List Value → Values → Values
values_then [] rest = rest
values_then (v ∷ vs) rest = Then v (values_then vs rest)

module _ {T : Type 0} (zero_of : T → Value) where
  -- the zeros of these types
  abbrev pub zeros : List T → List Value
  zeros ts = map zero_of ts

  abbrev pub node_way : Node T → List Value → Way
  node_way (One u) (v ∷ []) = unary_way u v
  node_way (Two b) (v ∷ w ∷ []) = binary_way b v w
  node_way (Part k) (v ∷ []) = at_path v (k ∷ [])
  node_way (Pick ks) (v ∷ []) = picked v ks (Found (Whole NoMore))
  node_way (Spread ns) vs = spread ns vs
  node_way (Repeat n) (v ∷ []) = Found (Whole (repeated n v))
  node_way (Fill ts) vs = Found (Whole (values_then vs (values_then (zeros ts) NoMore)))
  node_way node vs = Wrong
