-- Operators on words, vectors and truths keep states typed.
use Rattle.std.proofs.Common.{◌≡◌, ℕ, suc, Bool, true, false, ◌&&◌, not, nat_eq, nat_lt, nat_le, List, [], ◌∷◌, drop, Some, refl, subst}
use Rattle.std.proofs.lemmas.Bool.{and_parts, eqb-true}
use Rattle.behavior.specs.Values.{Truth, Word, Way, Found}
use Rattle.behavior.specs.Operations.{word_add, word_sub, word_mul, word_negate, word_not, word_udiv, word_umod, word_sdiv, word_srem, word_slt, word_sle, word_shl, word_shr, word_sar, word_and, word_or, word_xor}
use Rattle.spirv_words.specs.declared.opcodes.Op.{Op}
use Rattle.spirv_words.specs.declared.opcodes.Op.TheVariants.{Bitcast, SNegate, IAdd, ISub, IMul, UDiv, SDiv, UMod, SRem, LogicalEqual, LogicalNotEqual, LogicalNot, IEqual, INotEqual, UGreaterThan, SGreaterThan, UGreaterThanEqual, SGreaterThanEqual, ULessThan, SLessThan, ULessThanEqual, SLessThanEqual, ShiftRightLogical, ShiftRightArithmetic, ShiftLeftLogical, BitwiseOr, BitwiseXor, BitwiseAnd, Not}
use Rattle.spirv_words.specs.declared.images.Instruction.{Instruction}
use Rattle.spirv_words.specs.Machine.{Shape, Plain, standing, Second}
use Rattle.spirv_words.specs.Step.{State, Setting, gives, Goes, word_way, each_word, both_words, unary, binary, compare, compare_truths, same_truth, with_plain, with_word, with_truth, with_found, act}
use Rattle.flat_values.specs.Lanes.{AreAlike}
use Rattle.image_lookup.specs.Lookups.{operand, is_value}
use Rattle.image_places.specs.Roles.{role_of, text_end}
use Rattle.image_places.specs.declared.roles.Role.TheVariants.{Use}
use Rattle.image_rules.specs.Blocks.{is_ending}
use Rattle.image_declarations.specs.Holdings.{is_data, has_type}
use Rattle.image_operands.specs.declared.operators.Numbers.{Numbers}
use Rattle.image_operands.specs.declared.operators.Numbers.TheVariants.{Either}
use Rattle.image_operands.specs.Operators.{is_bool, is_int, is_number, lanes, suits, unary_fits, binary_fits, shift_fits, comparison_fits, negation_fits, logical_fits, bits_fit}
use Rattle.image_types.specs.declared.rules.Rule.{Rule}
use Rattle.image_types.specs.declared.rules.Rule.TheVariants.{Unary, Binary, Shift, Comparison, Logical, Negation, Bits}
use Rattle.image_types.specs.Rules.{rule_of}
use Rattle.image_types.specs.Checking.{meets, context_at}
use Rattle.image_facts.specs.Operands.{shape}
use Rattle.typed_runs.specs.States.{Keeps}
use Rattle.typed_runs.proofs.Facts.{Facts}
use Rattle.typed_runs.proofs.Lanes.{GivesWord, gives_word, one_like, two_like, alike_like, alike_same}
use Rattle.typed_runs.proofs.Types.{three_parts, four_parts, five_parts, typed_as, numbers, lanes_words, lanes_alike, HasLanes}
use Rattle.typed_runs.proofs.Going.{At, gives_typed}
use Rattle.typed_runs.proofs.Operands.{IsLikely, keeps_plain, keeps_word, keeps_truth, keeps_found, likely, word_of, truth_of, suits_truth, suits_like}

-- an opcode with a type, a result and operands that are used
pub record IsOperator (op : Op) (os : List ℕ) : Type 0 where
  pub goes_on : is_ending op ≡ false
  pub second : standing op ≡ Second
  pub third : role_of op (text_end op os) 2 ≡ Use
  pub fourth : role_of op (text_end op os) 3 ≡ Use

module _ (code : List Instruction) (facts : Facts code) where
  pub rule : (s : State) (op : Op) (os : List ℕ) (u : Rule) → At code s op os → rule_of op ≡ u
      → meets u code (context_at code s.place) s.place (record { op = op; operands = os }) (drop (suc s.place) code) ≡ true
  rule s op os u a e =
      subst (λ x. meets x code (context_at code s.place) s.place (record { op = op; operands = os }) (drop (suc s.place) code) ≡ true) e
      (facts.meets_rule s.place (record { op = op; operands = os }) a.stands)

  -- ---- one operand

  unary_case : (s : State) (op : Op) (t r x : ℕ) (f : ℕ → Way) → At code s op (t ∷ r ∷ x ∷ []) → rule_of op ≡ Unary
      → IsOperator op (t ∷ r ∷ x ∷ []) → ((y : ℕ) → GivesWord (f y)) → Keeps code (unary s r (s.ids x) f)
  unfolding unary_fits
  unary_case s op t r x f a e o word =
      let fits = and_parts (is_number code Either t) (has_type code x t) (rule s op (t ∷ r ∷ x ∷ []) Unary a e) in
      let n = numbers code facts Either t fits.0 in
      let h = typed_as code x t fits.1 in
      let p = likely code facts s op (t ∷ r ∷ x ∷ []) 2 x t n.form a (record { stands = refl; role = o.third }) h.0 h.1 n.values n.is in
      keeps_plain code (s.ids x) p.value (λ v. with_found (each_word f v) (λ w. Goes (gives s r (Plain w)))) p.is
      (keeps_found code (each_word f p.value) n.form (λ w. Goes (gives s r (Plain w)))
      (one_like f p.value n.form word p.like (lanes_words n.form _ n.laned))
      (λ w l. gives_typed code facts s op (x ∷ []) t r (Plain w) a o.goes_on o.second (suits_like code facts t w n.form n.values n.is l)))

  -- ---- two operands

  two_case : (s : State) (op : Op) (t r x y : ℕ) (form other : Shape) (f : ℕ → ℕ → Way) → At code s op (t ∷ r ∷ x ∷ y ∷ [])
      → IsOperator op (t ∷ r ∷ x ∷ y ∷ []) → ((v w : ℕ) → GivesWord (f v w))
      → IsLikely (s.ids x) form → IsLikely (s.ids y) other → AreAlike form other
      → is_data code t ≡ true → shape code t ≡ Some form
      → Keeps code (binary s r (s.ids x) (s.ids y) f)
  two_case s op t r x y form other f a o word p q alike d e =
      keeps_plain code (s.ids x) p.value (λ v. with_plain (s.ids y) (λ w. with_found (both_words f v w) (λ z. Goes (gives s r (Plain z))))) p.is
      (keeps_plain code (s.ids y) q.value (λ w. with_found (both_words f p.value w) (λ z. Goes (gives s r (Plain z)))) q.is
      (keeps_found code (both_words f p.value q.value) form (λ z. Goes (gives s r (Plain z))) (two_like f p.value q.value form other word p.like q.like alike)
      (λ z l. gives_typed code facts s op (x ∷ y ∷ []) t r (Plain z) a o.goes_on o.second (suits_like code facts t z form d e l))))

  binary_case : (s : State) (op : Op) (n : Numbers) (t r x y : ℕ) (f : ℕ → ℕ → Way) → At code s op (t ∷ r ∷ x ∷ y ∷ []) → rule_of op ≡ Binary n
      → IsOperator op (t ∷ r ∷ x ∷ y ∷ []) → ((v w : ℕ) → GivesWord (f v w)) → Keeps code (binary s r (s.ids x) (s.ids y) f)
  unfolding binary_fits
  binary_case s op n t r x y f a e o word =
      let fits = three_parts (is_number code n t) (has_type code x t) (has_type code y t) (rule s op (t ∷ r ∷ x ∷ y ∷ []) (Binary n) a e) in
      let k = numbers code facts n t fits.0 in
      let g = typed_as code x t fits.1 in
      let h = typed_as code y t fits.2 in
      let p = likely code facts s op (t ∷ r ∷ x ∷ y ∷ []) 2 x t k.form a (record { stands = refl; role = o.third }) g.0 g.1 k.values k.is in
      let q = likely code facts s op (t ∷ r ∷ x ∷ y ∷ []) 3 y t k.form a (record { stands = refl; role = o.fourth }) h.0 h.1 k.values k.is in
      two_case s op t r x y k.form k.form f a o word p q (alike_same k.form (lanes_words k.form _ k.laned)) k.values k.is

  shift_case : (s : State) (op : Op) (n : Numbers) (t r x y : ℕ) (f : ℕ → ℕ → Way) → At code s op (t ∷ r ∷ x ∷ y ∷ []) → rule_of op ≡ Shift n
      → IsOperator op (t ∷ r ∷ x ∷ y ∷ []) → ((v w : ℕ) → GivesWord (f v w)) → Keeps code (binary s r (s.ids x) (s.ids y) f)
  unfolding shift_fits
  shift_case s op n t r x y f a e o word =
      let of : ℕ = operand code y 0 in
      let fits = five_parts (is_number code n t) (has_type code x t) (is_value code y) (is_number code Either of) (nat_eq (lanes code of) (lanes code t))
      (rule s op (t ∷ r ∷ x ∷ y ∷ []) (Shift n) a e) in
      let k = numbers code facts n t fits.0 in
      let l = numbers code facts Either of fits.3 in
      let g = typed_as code x t fits.1 in
      let p = likely code facts s op (t ∷ r ∷ x ∷ y ∷ []) 2 x t k.form a (record { stands = refl; role = o.third }) g.0 g.1 k.values k.is in
      let q = likely code facts s op (t ∷ r ∷ x ∷ y ∷ []) 3 y of l.form a (record { stands = refl; role = o.fourth }) fits.2 refl l.values l.is in
      let same : lanes code of ≡ lanes code t = eqb-true (lanes code of) (lanes code t) fits.4 in
      two_case s op t r x y k.form l.form f a o word p q
      (lanes_alike k.form l.form (lanes code t) k.laned (subst (HasLanes l.form) same l.laned)) k.values k.is

  -- ---- comparisons

  comparison_case : (s : State) (op : Op) (n : Numbers) (t r x y : ℕ) (f : ℕ → ℕ → Bool) → At code s op (t ∷ r ∷ x ∷ y ∷ [])
      → rule_of op ≡ Comparison n → IsOperator op (t ∷ r ∷ x ∷ y ∷ []) → Keeps code (compare s r (s.ids x) (s.ids y) f)
  unfolding comparison_fits
  comparison_case s op n t r x y f a e o =
      let of : ℕ = operand code x 0 in
      let fits = five_parts (is_bool code t) (is_value code x) (has_type code y of) (is_int code of) (suits code n of)
      (rule s op (t ∷ r ∷ x ∷ y ∷ []) (Comparison n) a e) in
      let h = typed_as code y of fits.2 in
      let p = word_of code facts s op (t ∷ r ∷ x ∷ y ∷ []) 2 x of a (record { stands = refl; role = o.third }) fits.1 refl fits.3 in
      let q = word_of code facts s op (t ∷ r ∷ x ∷ y ∷ []) 3 y of a (record { stands = refl; role = o.fourth }) h.0 h.1 fits.3 in
      keeps_word code (s.ids x) p.0 (λ v. with_word (s.ids y) (λ w. Goes (gives s r (Plain (Truth (f v w)))))) p.1
      (keeps_word code (s.ids y) q.0 (λ w. Goes (gives s r (Plain (Truth (f p.0 w))))) q.1
      (gives_typed code facts s op (x ∷ y ∷ []) t r (Plain (Truth (f p.0 q.0))) a o.goes_on o.second (suits_truth code facts t (f p.0 q.0) fits.0)))

  -- ---- truths

  logical_case : (s : State) (op : Op) (t r x y : ℕ) (f : Bool → Bool → Bool) → At code s op (t ∷ r ∷ x ∷ y ∷ []) → rule_of op ≡ Logical
      → IsOperator op (t ∷ r ∷ x ∷ y ∷ []) → Keeps code (compare_truths s r (s.ids x) (s.ids y) f)
  unfolding logical_fits negation_fits
  logical_case s op t r x y f a e o =
      let one = and_parts (is_bool code t && has_type code x t) (has_type code y t) (rule s op (t ∷ r ∷ x ∷ y ∷ []) Logical a e) in
      let two = and_parts (is_bool code t) (has_type code x t) one.0 in
      let g = typed_as code x t two.1 in
      let h = typed_as code y t one.1 in
      let p = truth_of code facts s op (t ∷ r ∷ x ∷ y ∷ []) 2 x t a (record { stands = refl; role = o.third }) g.0 g.1 two.0 in
      let q = truth_of code facts s op (t ∷ r ∷ x ∷ y ∷ []) 3 y t a (record { stands = refl; role = o.fourth }) h.0 h.1 two.0 in
      keeps_truth code (s.ids x) p.0 (λ v. with_truth (s.ids y) (λ w. Goes (gives s r (Plain (Truth (f v w)))))) p.1
      (keeps_truth code (s.ids y) q.0 (λ w. Goes (gives s r (Plain (Truth (f p.0 w))))) q.1
      (gives_typed code facts s op (x ∷ y ∷ []) t r (Plain (Truth (f p.0 q.0))) a o.goes_on o.second (suits_truth code facts t (f p.0 q.0) two.0)))

  pub negation_keeps : (m : Setting) (s : State) (t r x : ℕ) → At code s LogicalNot (t ∷ r ∷ x ∷ []) → Keeps code (act m LogicalNot (t ∷ r ∷ x ∷ []) s)
  unfolding negation_fits
  negation_keeps m s t r x a =
      let two = and_parts (is_bool code t) (has_type code x t) (rule s LogicalNot (t ∷ r ∷ x ∷ []) Negation a refl) in
      let g = typed_as code x t two.1 in
      let p = truth_of code facts s LogicalNot (t ∷ r ∷ x ∷ []) 2 x t a (record { stands = refl; role = refl }) g.0 g.1 two.0 in
      keeps_truth code (s.ids x) p.0 (λ b. Goes (gives s r (Plain (Truth (not b))))) p.1
      (gives_typed code facts s LogicalNot (x ∷ []) t r (Plain (Truth (not p.0))) a refl refl (suits_truth code facts t (not p.0) two.0))

  -- ---- words of the other kind

  pub bitcast_keeps : (m : Setting) (s : State) (t r x : ℕ) → At code s Bitcast (t ∷ r ∷ x ∷ []) → Keeps code (act m Bitcast (t ∷ r ∷ x ∷ []) s)
  unfolding bits_fit
  bitcast_keeps m s t r x a =
      let of : ℕ = operand code x 0 in
      let fits = four_parts (is_number code Either t) (is_value code x) (is_number code Either of) (nat_eq (lanes code of) (lanes code t))
      (rule s Bitcast (t ∷ r ∷ x ∷ []) Bits a refl) in
      let k = numbers code facts Either t fits.0 in
      let l = numbers code facts Either of fits.2 in
      let p = likely code facts s Bitcast (t ∷ r ∷ x ∷ []) 2 x of l.form a (record { stands = refl; role = refl }) fits.1 refl l.values l.is in
      let same : lanes code of ≡ lanes code t = eqb-true (lanes code of) (lanes code t) fits.3 in
      let alike = lanes_alike l.form k.form (lanes code t) (subst (HasLanes l.form) same l.laned) k.laned in
      keeps_plain code (s.ids x) p.value (λ v. Goes (gives s r (Plain v))) p.is
      (gives_typed code facts s Bitcast (x ∷ []) t r (Plain p.value) a refl refl
      (suits_like code facts t p.value k.form k.values k.is (alike_like p.value l.form k.form p.like alike)))

  -- ---- each opcode

  pub unary_keeps : (m : Setting) (s : State) (op : Op) (t r x : ℕ) → At code s op (t ∷ r ∷ x ∷ []) → rule_of op ≡ Unary
      → Keeps code (act m op (t ∷ r ∷ x ∷ []) s)
  unary_keeps m s SNegate t r x a e = unary_case s SNegate t r x (λ y. Found (Word (word_negate y))) a refl (record { goes_on = refl; second = refl; third = refl; fourth = refl }) (λ y. tt)
  unary_keeps m s Not t r x a e = unary_case s Not t r x (λ y. Found (Word (word_not y))) a refl (record { goes_on = refl; second = refl; third = refl; fourth = refl }) (λ y. tt)
  unary_keeps m s op t r x a e = cc

  pub binary_keeps : (m : Setting) (s : State) (op : Op) (n : Numbers) (t r x y : ℕ) → At code s op (t ∷ r ∷ x ∷ y ∷ []) → rule_of op ≡ Binary n
      → Keeps code (act m op (t ∷ r ∷ x ∷ y ∷ []) s)
  binary_keeps m s IAdd n t r x y a e =
      binary_case s IAdd n t r x y (λ v w. Found (Word (word_add v w))) a e (record { goes_on = refl; second = refl; third = refl; fourth = refl }) (λ v w. tt)
  binary_keeps m s ISub n t r x y a e =
      binary_case s ISub n t r x y (λ v w. Found (Word (word_sub v w))) a e (record { goes_on = refl; second = refl; third = refl; fourth = refl }) (λ v w. tt)
  binary_keeps m s IMul n t r x y a e =
      binary_case s IMul n t r x y (λ v w. Found (Word (word_mul v w))) a e (record { goes_on = refl; second = refl; third = refl; fourth = refl }) (λ v w. tt)
  binary_keeps m s BitwiseAnd n t r x y a e =
      binary_case s BitwiseAnd n t r x y (λ v w. Found (Word (word_and v w))) a e (record { goes_on = refl; second = refl; third = refl; fourth = refl }) (λ v w. tt)
  binary_keeps m s BitwiseOr n t r x y a e =
      binary_case s BitwiseOr n t r x y (λ v w. Found (Word (word_or v w))) a e (record { goes_on = refl; second = refl; third = refl; fourth = refl }) (λ v w. tt)
  binary_keeps m s BitwiseXor n t r x y a e =
      binary_case s BitwiseXor n t r x y (λ v w. Found (Word (word_xor v w))) a e (record { goes_on = refl; second = refl; third = refl; fourth = refl }) (λ v w. tt)
  binary_keeps m s UDiv n t r x y a e =
      binary_case s UDiv n t r x y (λ v w. word_way (word_udiv v w)) a e (record { goes_on = refl; second = refl; third = refl; fourth = refl }) (λ v w. gives_word (word_udiv v w))
  binary_keeps m s SDiv n t r x y a e =
      binary_case s SDiv n t r x y (λ v w. word_way (word_sdiv v w)) a e (record { goes_on = refl; second = refl; third = refl; fourth = refl }) (λ v w. gives_word (word_sdiv v w))
  binary_keeps m s UMod n t r x y a e =
      binary_case s UMod n t r x y (λ v w. word_way (word_umod v w)) a e (record { goes_on = refl; second = refl; third = refl; fourth = refl }) (λ v w. gives_word (word_umod v w))
  binary_keeps m s SRem n t r x y a e =
      binary_case s SRem n t r x y (λ v w. word_way (word_srem v w)) a e (record { goes_on = refl; second = refl; third = refl; fourth = refl }) (λ v w. gives_word (word_srem v w))
  binary_keeps m s op n t r x y a e = cc

  pub shift_keeps : (m : Setting) (s : State) (op : Op) (n : Numbers) (t r x y : ℕ) → At code s op (t ∷ r ∷ x ∷ y ∷ []) → rule_of op ≡ Shift n
      → Keeps code (act m op (t ∷ r ∷ x ∷ y ∷ []) s)
  shift_keeps m s ShiftLeftLogical n t r x y a e =
      shift_case s ShiftLeftLogical n t r x y (λ v w. word_way (word_shl v w)) a e (record { goes_on = refl; second = refl; third = refl; fourth = refl }) (λ v w. gives_word (word_shl v w))
  shift_keeps m s ShiftRightLogical n t r x y a e =
      shift_case s ShiftRightLogical n t r x y (λ v w. word_way (word_shr v w)) a e (record { goes_on = refl; second = refl; third = refl; fourth = refl }) (λ v w. gives_word (word_shr v w))
  shift_keeps m s ShiftRightArithmetic n t r x y a e =
      shift_case s ShiftRightArithmetic n t r x y (λ v w. word_way (word_sar v w)) a e (record { goes_on = refl; second = refl; third = refl; fourth = refl }) (λ v w. gives_word (word_sar v w))
  shift_keeps m s op n t r x y a e = cc

  pub comparison_keeps : (m : Setting) (s : State) (op : Op) (n : Numbers) (t r x y : ℕ) → At code s op (t ∷ r ∷ x ∷ y ∷ [])
      → rule_of op ≡ Comparison n → Keeps code (act m op (t ∷ r ∷ x ∷ y ∷ []) s)
  comparison_keeps m s IEqual n t r x y a e =
      comparison_case s IEqual n t r x y nat_eq a e (record { goes_on = refl; second = refl; third = refl; fourth = refl })
  comparison_keeps m s INotEqual n t r x y a e =
      comparison_case s INotEqual n t r x y (λ v w. not (nat_eq v w)) a e (record { goes_on = refl; second = refl; third = refl; fourth = refl })
  comparison_keeps m s ULessThan n t r x y a e =
      comparison_case s ULessThan n t r x y nat_lt a e (record { goes_on = refl; second = refl; third = refl; fourth = refl })
  comparison_keeps m s ULessThanEqual n t r x y a e =
      comparison_case s ULessThanEqual n t r x y nat_le a e (record { goes_on = refl; second = refl; third = refl; fourth = refl })
  comparison_keeps m s UGreaterThan n t r x y a e =
      comparison_case s UGreaterThan n t r x y (λ v w. nat_lt w v) a e (record { goes_on = refl; second = refl; third = refl; fourth = refl })
  comparison_keeps m s UGreaterThanEqual n t r x y a e =
      comparison_case s UGreaterThanEqual n t r x y (λ v w. nat_le w v) a e (record { goes_on = refl; second = refl; third = refl; fourth = refl })
  comparison_keeps m s SLessThan n t r x y a e =
      comparison_case s SLessThan n t r x y word_slt a e (record { goes_on = refl; second = refl; third = refl; fourth = refl })
  comparison_keeps m s SLessThanEqual n t r x y a e =
      comparison_case s SLessThanEqual n t r x y word_sle a e (record { goes_on = refl; second = refl; third = refl; fourth = refl })
  comparison_keeps m s SGreaterThan n t r x y a e =
      comparison_case s SGreaterThan n t r x y (λ v w. word_slt w v) a e (record { goes_on = refl; second = refl; third = refl; fourth = refl })
  comparison_keeps m s SGreaterThanEqual n t r x y a e =
      comparison_case s SGreaterThanEqual n t r x y (λ v w. word_sle w v) a e (record { goes_on = refl; second = refl; third = refl; fourth = refl })
  comparison_keeps m s op n t r x y a e = cc

  pub logical_keeps : (m : Setting) (s : State) (op : Op) (t r x y : ℕ) → At code s op (t ∷ r ∷ x ∷ y ∷ []) → rule_of op ≡ Logical
      → Keeps code (act m op (t ∷ r ∷ x ∷ y ∷ []) s)
  logical_keeps m s LogicalEqual t r x y a e =
      logical_case s LogicalEqual t r x y same_truth a e (record { goes_on = refl; second = refl; third = refl; fourth = refl })
  logical_keeps m s LogicalNotEqual t r x y a e =
      logical_case s LogicalNotEqual t r x y (λ v w. not (same_truth v w)) a e (record { goes_on = refl; second = refl; third = refl; fourth = refl })
  logical_keeps m s op t r x y a e = cc
