-- The value of an expression that is made of literals, in 32-bit words. What is not chosen is not evaluated, but nothing
-- else than literals may stand there either.
use Rattle.std.specs.Prelude.{ℕ, ◌*◌, Bool, true, false, ◌&&◌, ◌||◌, not, cond, nat_eq, nat_lt, nat_le, List, [], ◌∷◌, ◌++◌, map, slice_get, Option, Some, None}
use Rattle.std.specs.List.{repeat}
use Rattle.behavior.specs.Operations.{word_add, word_sub, word_mul, word_negate, word_not, word_udiv, word_umod, word_sdiv, word_srem, word_slt, word_sle, word_shl, word_shr, word_sar, word_and, word_or, word_xor}
use Rattle.slang_core.specs.declared.types.TypeTerm.{TypeTerm}
use Rattle.slang_core.specs.declared.bodies.Expr.{Expr, fold-Expr}
use Rattle.slang_core.specs.declared.bodies.Call.TheOpen.{Call-F, Expr-F, Given-F, PlaceTerm-F}
use Rattle.slang_core.specs.declared.bodies.Call.TheOpen as e
use Rattle.slang_core.specs.declared.bodies.UnaryOp.{UnaryOp}
use Rattle.slang_core.specs.declared.bodies.UnaryOp.TheVariants as u
use Rattle.slang_core.specs.declared.bodies.BinaryOp.{BinaryOp}
use Rattle.slang_core.specs.declared.bodies.BinaryOp.TheVariants as b
use Rattle.type_terms.specs.declared.typings.Numeric.{Numeric}
use Rattle.type_terms.specs.declared.typings.Worth.{Worth}
use Rattle.type_terms.specs.declared.typings.Worth.TheVariants.{Words, Truth, Undefined, Unknown}
use Rattle.type_terms.specs.Types.{numeric_of}

-- an operation on words: its result, or None where it is undefined
abbrev pub word_op : BinaryOp → Bool → ℕ → ℕ → Option ℕ
word_op b.Add s x y = Some (word_add x y)
word_op b.Subtract s x y = Some (word_sub x y)
word_op b.Multiply s x y = Some (word_mul x y)
word_op b.Divide s x y = cond s (word_udiv x y) (word_sdiv x y)
word_op b.Remainder s x y = cond s (word_umod x y) (word_srem x y)
word_op b.BitAnd s x y = Some (word_and x y)
word_op b.BitOr s x y = Some (word_or x y)
word_op b.BitXor s x y = Some (word_xor x y)
word_op b.ShiftLeft s x y = word_shl x y
word_op b.ShiftRight s x y = cond s (word_shr x y) (word_sar x y)
word_op op s x y = None

-- a comparison of two words
abbrev pub word_test : BinaryOp → Bool → ℕ → ℕ → Option Bool
word_test b.Equal s x y = Some (nat_eq x y)
word_test b.NotEqual s x y = Some (not (nat_eq x y))
word_test b.Less s x y = Some (cond s (nat_lt x y) (word_slt x y))
word_test b.LessEqual s x y = Some (cond s (nat_le x y) (word_sle x y))
word_test b.Greater s x y = Some (cond s (nat_lt y x) (word_slt y x))
word_test b.GreaterEqual s x y = Some (cond s (nat_le y x) (word_sle y x))
word_test op s x y = None

abbrev pub truth_test : BinaryOp → Bool → Bool → Worth
truth_test b.Equal x y = Truth (cond x y (not y))
truth_test b.NotEqual x y = Truth (cond x (not y) y)
truth_test op x y = Unknown

abbrev pub with_word : Option ℕ → Option (List ℕ) → Option (List ℕ)
with_word (Some x) (Some xs) = Some (x ∷ xs)
with_word x xs = None

-- word by word
abbrev pub words_op : BinaryOp → Bool → List ℕ → List ℕ → Option (List ℕ)
words_op op s (x ∷ xs) (y ∷ ys) = with_word (word_op op s x y) (words_op op s xs ys)
words_op op s xs ys = Some []

abbrev pub words_or : Bool → Option (List ℕ) → Worth
words_or s (Some xs) = Words s xs
words_or s None = Undefined

abbrev pub tested : Option Bool → Worth → Worth
tested (Some t) otherwise = Truth t
tested None otherwise = otherwise

-- one word each may be compared
abbrev pub on_words : BinaryOp → Bool → List ℕ → List ℕ → Worth
on_words op s (x ∷ []) (y ∷ []) = tested (word_test op s x y) (words_or s (words_op op s (x ∷ []) (y ∷ [])))
on_words op s xs ys = words_or s (words_op op s xs ys)

abbrev pub binary_worth : BinaryOp → Worth → Worth → Worth
binary_worth op (Words s xs) (Words t ys) = on_words op s xs ys
binary_worth op (Truth x) (Truth y) = truth_test op x y
binary_worth op Unknown y = Unknown
binary_worth op x Unknown = Unknown
binary_worth op Undefined y = Undefined
binary_worth op x Undefined = Undefined
binary_worth op x y = Unknown

abbrev pub unary_worth : UnaryOp → Worth → Worth
unary_worth u.Negate (Words s xs) = Words s (map word_negate xs)
unary_worth u.Complement (Words s xs) = Words s (map word_not xs)
unary_worth u.Not (Truth t) = Truth (not t)
unary_worth op Undefined = Undefined
unary_worth op x = Unknown

-- the part that is chosen, where both are made of literals
abbrev pub choose_worth : Worth → Worth → Worth → Worth
choose_worth c Unknown y = Unknown
choose_worth c x Unknown = Unknown
choose_worth (Truth t) x y = cond t x y
choose_worth Undefined x y = Undefined
choose_worth c x y = Unknown

abbrev pub convert_worth : Worth → Worth
convert_worth (Words s xs) = Words (not s) xs
convert_worth Undefined = Undefined
convert_worth x = Unknown

-- vectors are the words of their parts
abbrev pub joined : Worth → Worth → Worth
joined (Words s xs) (Words t ys) = Words s (xs ++ ys)
joined Unknown y = Unknown
joined x Unknown = Unknown
joined Undefined y = Undefined
joined x Undefined = Undefined
joined x y = Unknown

abbrev pub vector_worth : Bool → List Worth → Worth
vector_worth s [] = Words s []
vector_worth s (x ∷ xs) = joined x (vector_worth s xs)

abbrev pub is_unsigned_type : Option Numeric → Bool
is_unsigned_type (Some n) = n.is_unsigned
is_unsigned_type None = false

abbrev pub repeat_worth : ℕ → Worth → Worth
repeat_worth n (Words s (x ∷ [])) = Words s (repeat n (x ∷ []))
repeat_worth n Undefined = Undefined
repeat_worth n x = Unknown

abbrev pub picked : List ℕ → List ℕ → Option (List ℕ)
picked xs [] = Some []
picked xs (n ∷ ns) = with_word (slice_get xs n) (picked xs ns)

abbrev pub swizzle_worth : List ℕ → Worth → Worth
swizzle_worth ns (Words s xs) = words_or s (picked xs ns)
swizzle_worth ns Undefined = Undefined
swizzle_worth ns x = Unknown

-- an index past the end is undefined
abbrev pub element_worth : Worth → Worth → Worth
element_worth (Words s xs) (Words t (i ∷ [])) = words_or s (picked xs (i ∷ []))
element_worth Unknown y = Unknown
element_worth x Unknown = Unknown
element_worth Undefined y = Undefined
element_worth x Undefined = Undefined
element_worth x y = Unknown

abbrev pub call_worth : Call-F Worth Worth Worth Worth → Worth
call_worth x = Unknown

abbrev pub given_worth : Given-F Worth Worth Worth Worth → Worth
given_worth x = Unknown

abbrev pub place_worth : PlaceTerm-F Worth Worth Worth Worth → Worth
place_worth x = Unknown

abbrev pub expr_worth : Expr-F Worth Worth Worth Worth → Worth
expr_worth (e.Int n) = Words false (n ∷ [])
expr_worth (e.Uint n) = Words true (n ∷ [])
expr_worth e.False = Truth false
expr_worth e.True = Truth true
expr_worth (e.Unary op x) = unary_worth op x
expr_worth (e.Binary op x y) = binary_worth op x y
expr_worth (e.And x y) = choose_worth x y (Truth false)
expr_worth (e.Or x y) = choose_worth x (Truth true) y
expr_worth (e.Choose x y z) = choose_worth x y z
expr_worth (e.Convert x) = convert_worth x
expr_worth (e.Vector t xs) = vector_worth (is_unsigned_type (numeric_of t)) xs
expr_worth (e.Repeat n x) = repeat_worth n x
expr_worth (e.Swizzle ns x) = swizzle_worth ns x
expr_worth (e.Element x y) = element_worth x y
expr_worth other = Unknown

-- what the expression is worth
abbrev pub value_of : Expr → Worth
value_of = fold-Expr Worth Worth Worth Worth call_worth expr_worth given_worth place_worth
