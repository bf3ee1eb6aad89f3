-- One instruction further on the way through an image.
use Rattle.std.proofs.Common.{◌≡◌, ℕ, ◌+◌, ◌<◌, ◌≤◌, ◌||◌, Bool, false, true, List, [], ◌∷◌, ◌++◌, fold, take, length, get_or, slice_get, Option, Some, None, sym, ◌∙◌, ap, refl, arith}
use Rattle.std.proofs.lemmas.List.{take_more, length-take-le}
use Rattle.std.proofs.lemmas.List.Sums.{fold_more}
use Rattle.std.proofs.lemmas.Option.{slice_get-get_or}
use Rattle.spirv_words.specs.declared.opcodes.Op.{Op}
use Rattle.spirv_words.specs.declared.opcodes.Op.TheVariants.{Function, FunctionParameter, FunctionEnd}
use Rattle.spirv_words.specs.declared.images.Instruction.{Instruction}
use Rattle.spirv_words.specs.Machine.{if_some}
use Rattle.image_types.specs.declared.functions.Context.{Context}
use Rattle.image_types.specs.Functions.{outside, after, after_op}
use Rattle.image_operands.specs.Marks.{completed, is_pair, is_taken, taken_in}
use Rattle.image_types.specs.Checking.{context_at, is_wrong, has_wrong_types}

pub taken_in-same : (f g : ℕ × ℕ → Bool) (o : Option (ℕ × ℕ)) → ((q : ℕ × ℕ) → f q ≡ g q) → taken_in f o ≡ taken_in g o
taken_in-same f g None h = refl
taken_in-same f g (Some q) h = h q

or-assoc : (a b c : Bool) → (a || (b || c)) ≡ (b || (a || c))
or-assoc true true c = refl
or-assoc true false c = refl
or-assoc false b c = refl

-- the last of some instructions counts too
taken-push : (code xs : List Instruction) (x : Instruction) (from : ℕ) (q : ℕ × ℕ) →
    is_taken code (xs ++ x ∷ []) from q ≡ (is_pair (completed code (from + length xs) x) q || is_taken code xs from q)
taken-push code [] x from q = ap (λ n. is_pair (completed code n x) q || false) (omega arith)
taken-push code (y ∷ xs) x from q =
    ap (λ b. is_pair (completed code from y) q || b) (taken-push code xs x (from + 1) q)
    ∙ or-assoc (is_pair (completed code from y) q) (is_pair (completed code ((from + 1) + length xs) x) q) (is_taken code xs (from + 1) q)
    ∙ ap (λ n. is_pair (completed code n x) q || (is_pair (completed code from y) q || is_taken code xs (from + 1) q)) (omega arith)

module _ (code : List Instruction) (k : ℕ) (i : Instruction) (lt : k < length code) (item : i ≡ get_or code k i) where
  grown : take (k + 1) code ≡ take k code ++ i ∷ []
  grown = take_more code k i lt ∙ ap (λ (x : Instruction). take k code ++ x ∷ []) (sym item)

  there : slice_get code k ≡ Some i
  there = slice_get-get_or code k i lt ∙ ap (λ (x : Instruction). Some x) (sym item)

  pub wrong-is : has_wrong_types code k ≡ is_wrong code k i
  unfolding has_wrong_types
  wrong-is = ap (λ o. if_some o false (is_wrong code k)) there

  pub taken-more : (q : ℕ × ℕ) → is_taken code (take (k + 1) code) 0 q ≡ (is_pair (completed code k i) q || is_taken code (take k code) 0 q)
  taken-more q =
      ap (λ xs. is_taken code xs 0 q) grown ∙ taken-push code (take k code) i 0 q
      ∙ ap (λ n. is_pair (completed code n i) q || is_taken code (take k code) 0 q) (omega (arith, length-take-le k code (omega arith)))

  pub context-more : context_at code (k + 1) ≡ after (context_at code k) i
  unfolding context_at
  context-more = fold_more after outside code k i lt ∙ ap (after (fold after outside (take k code))) (sym item)

pub context-first : (code : List Instruction) → outside ≡ context_at code 0
unfolding context_at
context-first code = refl

one_more : (n : ℕ) → n ≤ n + 1
one_more n = omega arith

none : (n : ℕ) → 0 ≤ n + 1
none n = omega arith

same : (n : ℕ) → n + 1 ≤ n + 1
same n = omega arith

more-by : (op : Op) (os : List ℕ) (c : Context) → (after_op op os c).parameters ≤ c.parameters + 1
more-by Function os c = none c.parameters
more-by FunctionParameter os c = same c.parameters
more-by FunctionEnd os c = none c.parameters
more-by op os c = one_more c.parameters

-- a context has at most as many parameters as instructions
pub parameters-more : (c : Context) (i : Instruction) → (after c i).parameters ≤ c.parameters + 1
parameters-more c i = more-by i.op i.operands c
