-- Operands fit exactly where none of an instruction's words is wrong with them.
use Rattle.std.proofs.Common.{◌≡◌, ℕ, zero, suc, ◌*◌, ◌≤◌, Bool, true, false, ◌&&◌, ◌||◌, nat_eq, nat_le, cond, IsTrue, List, [], ◌∷◌, length, drop, slice_index, Option, Some, None, is_none, refl, sym, ap, ◌∙◌, ◌⊎◌, inl, inr, arith}
use Rattle.std.proofs.Math.Dec.{eqb-suc-zero, eqb-zero-suc, eqb-suc-suc}
use Rattle.std.proofs.lemmas.Bool.{leb-true, leb-false}
use Rattle.std.proofs.Math.Nat.{mul-le-mul_left}
use Rattle.std.proofs.lemmas.Bool.Decides.{nat_tests}
use Rattle.spirv_words.specs.declared.opcodes.Op.{Op}
use Rattle.spirv_words.specs.declared.opcodes.Op.TheVariants.{Name, MemoryModel, EntryPoint, ExecutionMode, Capability, TypeVoid, TypeBool, TypeInt, TypeVector, TypeArray, TypeRuntimeArray, TypeStruct, TypePointer, TypeFunction, ConstantTrue, ConstantFalse, Constant, ConstantNull, Function, FunctionParameter, FunctionEnd, FunctionCall, Variable, Load, Store, AccessChain, Decorate, MemberDecorate, CompositeConstruct, CompositeExtract, Bitcast, SNegate, IAdd, ISub, IMul, UDiv, SDiv, UMod, SRem, LogicalEqual, LogicalNotEqual, LogicalNot, IEqual, INotEqual, UGreaterThan, SGreaterThan, UGreaterThanEqual, SGreaterThanEqual, ULessThan, SLessThan, ULessThanEqual, SLessThanEqual, ShiftRightLogical, ShiftRightArithmetic, ShiftLeftLogical, BitwiseOr, BitwiseXor, BitwiseAnd, Not, LoopMerge, SelectionMerge, Label, Branch, BranchConditional, Return, ReturnValue, Unreachable}
use Rattle.spirv_words.specs.declared.layouts.Layout.{Layout}
use Rattle.spirv_words.specs.declared.layouts.Layout.TheVariants.{Exactly, AtLeast, EndsInString, HasString, OfDecoration}
use Rattle.spirv_words.specs.Layouts.{fits, is_unary, is_binary, is_group, is_decoration, is_bare_decoration, after_string, is_string, has_string}
use Rattle.spirv_words.specs.Misfits.{meets, layout_of, unless, wrong_size, wrong_decoration, wrong_literal, misfit}

-- ---- numbers of operands, item by item

abbrev has_exactly : ℕ → List ℕ → Bool
has_exactly zero [] = true
has_exactly zero (o ∷ os) = false
has_exactly (suc n) [] = false
has_exactly (suc n) (o ∷ os) = has_exactly n os

abbrev has_at_least : ℕ → List ℕ → Bool
has_at_least zero os = true
has_at_least (suc n) [] = false
has_at_least (suc n) (o ∷ os) = has_at_least n os

exactly-is : (n : ℕ) (os : List ℕ) → nat_eq (length os) n ≡ has_exactly n os
exactly-is zero [] = refl
exactly-is zero (o ∷ os) = eqb-suc-zero (length os)
exactly-is (suc n) [] = eqb-zero-suc n
exactly-is (suc n) (o ∷ os) = eqb-suc-suc (length os) n ∙ exactly-is n os

at_least-is : (n : ℕ) (os : List ℕ) → nat_le n (length os) ≡ has_at_least n os
at_least-is zero os = grind (arith, nat_tests)
at_least-is (suc n) [] = grind (arith, nat_tests)
at_least-is (suc n) (o ∷ os) = let rest = at_least-is n os in grind (arith, nat_tests)

abbrev has : Layout → List ℕ → Bool
has (Exactly n) os = has_exactly n os
has (AtLeast n) os = has_at_least n os
has (EndsInString n) os = has_at_least n os && is_string (after_string (drop n os))
has (HasString n) os = has_at_least n os && has_string (after_string (drop n os))
has OfDecoration os = has_at_least 2 os && cond (is_bare_decoration (slice_index os 1)) (has_exactly 2 os) (has_exactly 3 os)

two_or_three : (b : Bool) (os : List ℕ) → nat_eq (length os) (cond b 2 3) ≡ cond b (has_exactly 2 os) (has_exactly 3 os)
two_or_three true os = exactly-is 2 os
two_or_three false os = exactly-is 3 os

meets-is : (l : Layout) (os : List ℕ) → meets l os ≡ has l os
meets-is (Exactly n) os = exactly-is n os
meets-is (AtLeast n) os = at_least-is n os
meets-is (EndsInString n) os = ap (λ b. b && is_string (after_string (drop n os))) (at_least-is n os)
meets-is (HasString n) os = ap (λ b. b && has_string (after_string (drop n os))) (at_least-is n os)
meets-is OfDecoration os = rw (at_least-is 2 os, two_or_three (is_bare_decoration (slice_index os 1)) os) refl

-- ---- literals

one : (a : Bool) (i : ℕ) → a ≡ is_none (unless a i None)
one true i = refl
one false i = refl

two : (a b : Bool) (i j : ℕ) → (a && b) ≡ is_none (unless a i (unless b j None))
two true b i j = one b j
two false b i j = refl

flag : (a : Bool) → a ≡ is_none (cond {A = Option ℕ} a None (Some 0))
flag true = refl
flag false = refl

flag_one : (a b : Bool) → (a && b) ≡ is_none (cond b (unless a 1 None) (Some 0))
flag_one true b = flag b
flag_one false true = refl
flag_one false false = refl

sizes : (a b c d m e f g : Bool) → (m ≡ false → e ≡ true → g ≡ true → ⊥) →
    (a && b && c && d && e && f && g) ≡ is_none (unless (a && b) 3 (unless (c && d && m) 4 (unless (e && f && g) 5 None)))
sizes false b c d m e f g h = refl
sizes true false c d m e f g h = refl
sizes true true false d m e f g h = refl
sizes true true true false m e f g h = refl
sizes true true true true true e f g h = one (e && f && g) 5
sizes true true true true false false f g h = refl
sizes true true true true false true false g h = refl
sizes true true true true false true true false h = refl
sizes true true true true false true true true h = absurd (h refl refl refl)

-- no third size makes a product smaller
too_large : (n z : ℕ) → nat_le n 1024 ≡ false → nat_le 1 z ≡ true → nat_le (n * z) 1024 ≡ true → ⊥
too_large n z a b c =
    let more : n * 1 ≤ n * z = mul-le-mul_left n (leb-true 1 z b) in
    absurd (omega (arith, more, leb-false n 1024 a, leb-true (n * z) 1024 c))

pub group-is : (x y z : ℕ) → is_group x y z ≡ is_none (wrong_size x y z)
group-is x y z =
    sizes (nat_le 1 x) (nat_le x 1024) (nat_le 1 y) (nat_le y 1024) (nat_le (x * y) 1024) (nat_le 1 z) (nat_le z 64) (nat_le (x * y * z) 1024) (too_large (x * y) z)

mode-is : (mode x y z : ℕ) → (nat_eq mode 17 && is_group x y z) ≡ is_none (unless (nat_eq mode 17) 2 (wrong_size x y z))
mode-is mode x y z = rw (group-is x y z) (with_first (nat_eq mode 17) (wrong_size x y z)) where
  with_first : (a : Bool) (w : Option ℕ) → (a && is_none w) ≡ is_none (unless a 2 w)
  with_first true w = refl
  with_first false w = refl

-- ---- decorations

bare_cases : (l : ℕ) → is_bare_decoration l ≡ true → (l ≡ 2) ⊎ (l ≡ 24)
bare_cases l h = grind (arith, nat_tests)

bare_has_none : (l word : ℕ) → is_bare_decoration l ≡ true → is_decoration l word ≡ false
bare_has_none l word h =
    elim (bare_cases l h) [
      | inl e ↦ rw e refl
      | inr e ↦ rw e refl
    ]

alone : (b : Bool) (l word : ℕ) → is_bare_decoration l ≡ b → is_bare_decoration l ≡ is_none (cond (cond (is_bare_decoration l) true false) (wrong_decoration l word) (Some 0))
alone true l word e = rw e refl
alone false l word e = rw e refl

literal : (s f t k r : Bool) → (s || f || t || (k && r)) ≡ is_none (cond (s || f || t) None (unless k 2 (unless r 3 None)))
literal true f t k r = refl
literal false true t k r = refl
literal false false true k r = refl
literal false false false k r = two k r 2 3

with_literal : (b : Bool) (l word : ℕ) → is_bare_decoration l ≡ b → is_decoration l word ≡ is_none (cond (cond (is_bare_decoration l) false true) (wrong_decoration l word) (Some 0))
with_literal true l word e = bare_has_none l word e ∙ rw e refl
with_literal false l word e = rw e (literal (nat_eq l 6) (nat_eq l 33) (nat_eq l 34) (nat_eq l 11) (nat_le 26 word && nat_le word 29))

neither : (b : Bool) (w : Option ℕ) → false ≡ is_none (cond (cond b false false) w (Some 0))
neither true w = refl
neither false w = refl

-- ---- each opcode

abbrev Fits : Op → List ℕ → Type 0
Fits op os = fits op os ≡ is_none (cond (has (layout_of op) os) (wrong_literal op os) (Some 0))

unary : (os : List ℕ) → is_unary os ≡ is_none (cond {A = Option ℕ} (has_exactly 3 os) None (Some 0))
unary (t ∷ r ∷ a ∷ []) = refl
unary os = refl

binary : (os : List ℕ) → is_binary os ≡ is_none (cond {A = Option ℕ} (has_exactly 4 os) None (Some 0))
binary (t ∷ r ∷ a ∷ b ∷ []) = refl
binary os = refl

of_FunctionEnd : (os : List ℕ) → Fits FunctionEnd os
of_FunctionEnd [] = refl
of_FunctionEnd os = refl

of_Return : (os : List ℕ) → Fits Return os
of_Return [] = refl
of_Return os = refl

of_Unreachable : (os : List ℕ) → Fits Unreachable os
of_Unreachable [] = refl
of_Unreachable os = refl

of_TypeVoid : (os : List ℕ) → Fits TypeVoid os
of_TypeVoid (a ∷ []) = refl
of_TypeVoid os = refl

of_TypeBool : (os : List ℕ) → Fits TypeBool os
of_TypeBool (a ∷ []) = refl
of_TypeBool os = refl

of_Label : (os : List ℕ) → Fits Label os
of_Label (a ∷ []) = refl
of_Label os = refl

of_Branch : (os : List ℕ) → Fits Branch os
of_Branch (a ∷ []) = refl
of_Branch os = refl

of_ReturnValue : (os : List ℕ) → Fits ReturnValue os
of_ReturnValue (a ∷ []) = refl
of_ReturnValue os = refl

of_TypeRuntimeArray : (os : List ℕ) → Fits TypeRuntimeArray os
of_TypeRuntimeArray (a ∷ b ∷ []) = refl
of_TypeRuntimeArray os = refl

of_ConstantTrue : (os : List ℕ) → Fits ConstantTrue os
of_ConstantTrue (a ∷ b ∷ []) = refl
of_ConstantTrue os = refl

of_ConstantFalse : (os : List ℕ) → Fits ConstantFalse os
of_ConstantFalse (a ∷ b ∷ []) = refl
of_ConstantFalse os = refl

of_ConstantNull : (os : List ℕ) → Fits ConstantNull os
of_ConstantNull (a ∷ b ∷ []) = refl
of_ConstantNull os = refl

of_FunctionParameter : (os : List ℕ) → Fits FunctionParameter os
of_FunctionParameter (a ∷ b ∷ []) = refl
of_FunctionParameter os = refl

of_Store : (os : List ℕ) → Fits Store os
of_Store (a ∷ b ∷ []) = refl
of_Store os = refl

of_TypeArray : (os : List ℕ) → Fits TypeArray os
of_TypeArray (a ∷ b ∷ c ∷ []) = refl
of_TypeArray os = refl

of_Constant : (os : List ℕ) → Fits Constant os
of_Constant (a ∷ b ∷ c ∷ []) = refl
of_Constant os = refl

of_Load : (os : List ℕ) → Fits Load os
of_Load (a ∷ b ∷ c ∷ []) = refl
of_Load os = refl

of_BranchConditional : (os : List ℕ) → Fits BranchConditional os
of_BranchConditional (a ∷ b ∷ c ∷ []) = refl
of_BranchConditional os = refl

of_TypeStruct : (os : List ℕ) → Fits TypeStruct os
of_TypeStruct (r ∷ ts) = refl
of_TypeStruct [] = refl

of_TypeFunction : (os : List ℕ) → Fits TypeFunction os
of_TypeFunction (r ∷ t ∷ ts) = refl
of_TypeFunction os = refl

of_FunctionCall : (os : List ℕ) → Fits FunctionCall os
of_FunctionCall (t ∷ r ∷ a ∷ rest) = refl
of_FunctionCall os = refl

of_AccessChain : (os : List ℕ) → Fits AccessChain os
of_AccessChain (t ∷ r ∷ a ∷ rest) = refl
of_AccessChain os = refl

of_CompositeExtract : (os : List ℕ) → Fits CompositeExtract os
of_CompositeExtract (t ∷ r ∷ a ∷ rest) = refl
of_CompositeExtract os = refl

of_CompositeConstruct : (os : List ℕ) → Fits CompositeConstruct os
of_CompositeConstruct (t ∷ r ∷ parts) = refl
of_CompositeConstruct os = refl

of_Name : (os : List ℕ) → Fits Name os
of_Name (target ∷ text) = flag (is_string (after_string text))
of_Name [] = refl

of_EntryPoint : (os : List ℕ) → Fits EntryPoint os
of_EntryPoint (model ∷ function ∷ text) = flag_one (nat_eq model 5) (has_string (after_string text))
of_EntryPoint os = refl

of_MemoryModel : (os : List ℕ) → Fits MemoryModel os
of_MemoryModel (a ∷ b ∷ []) = two (nat_eq a 0) (nat_eq b 1) 1 2
of_MemoryModel os = refl

of_ExecutionMode : (os : List ℕ) → Fits ExecutionMode os
of_ExecutionMode (f ∷ mode ∷ x ∷ y ∷ z ∷ []) = mode-is mode x y z
of_ExecutionMode os = refl

of_Capability : (os : List ℕ) → Fits Capability os
of_Capability (c ∷ []) = one (nat_eq c 1) 1
of_Capability os = refl

of_TypeInt : (os : List ℕ) → Fits TypeInt os
of_TypeInt (r ∷ width ∷ sign ∷ []) = two (nat_eq width 32) (nat_le sign 1) 2 3
of_TypeInt os = refl

of_TypeVector : (os : List ℕ) → Fits TypeVector os
of_TypeVector (r ∷ t ∷ n ∷ []) = one (nat_le 2 n && nat_le n 4) 3
of_TypeVector os = refl

of_TypePointer : (os : List ℕ) → Fits TypePointer os
of_TypePointer (r ∷ class ∷ t ∷ []) = one _ 2
of_TypePointer os = refl

of_Function : (os : List ℕ) → Fits Function os
of_Function (t ∷ r ∷ control ∷ type ∷ []) = one (nat_eq control 0) 3
of_Function os = refl

of_Variable : (os : List ℕ) → Fits Variable os
of_Variable (t ∷ r ∷ class ∷ []) = one _ 3
of_Variable os = refl

of_MemberDecorate : (os : List ℕ) → Fits MemberDecorate os
of_MemberDecorate (target ∷ member ∷ l ∷ offset ∷ []) = one (nat_eq l 35) 3
of_MemberDecorate os = refl

of_LoopMerge : (os : List ℕ) → Fits LoopMerge os
of_LoopMerge (merge ∷ continue ∷ control ∷ []) = one (nat_eq control 0) 3
of_LoopMerge os = refl

of_SelectionMerge : (os : List ℕ) → Fits SelectionMerge os
of_SelectionMerge (merge ∷ control ∷ []) = one (nat_eq control 0) 2
of_SelectionMerge os = refl

of_Decorate : (os : List ℕ) → Fits Decorate os
of_Decorate [] = refl
of_Decorate (target ∷ []) = refl
of_Decorate (target ∷ l ∷ []) = alone (is_bare_decoration l) l 0 refl
of_Decorate (target ∷ l ∷ word ∷ []) = with_literal (is_bare_decoration l) l word refl
of_Decorate (target ∷ l ∷ word ∷ more ∷ os) = neither (is_bare_decoration l) (wrong_decoration l word)

fits-is : (op : Op) (os : List ℕ) → Fits op os
fits-is Name os = of_Name os
fits-is MemoryModel os = of_MemoryModel os
fits-is EntryPoint os = of_EntryPoint os
fits-is ExecutionMode os = of_ExecutionMode os
fits-is Capability os = of_Capability os
fits-is TypeVoid os = of_TypeVoid os
fits-is TypeBool os = of_TypeBool os
fits-is TypeInt os = of_TypeInt os
fits-is TypeVector os = of_TypeVector os
fits-is TypeArray os = of_TypeArray os
fits-is TypeRuntimeArray os = of_TypeRuntimeArray os
fits-is TypeStruct os = of_TypeStruct os
fits-is TypePointer os = of_TypePointer os
fits-is TypeFunction os = of_TypeFunction os
fits-is ConstantTrue os = of_ConstantTrue os
fits-is ConstantFalse os = of_ConstantFalse os
fits-is Constant os = of_Constant os
fits-is ConstantNull os = of_ConstantNull os
fits-is Function os = of_Function os
fits-is FunctionParameter os = of_FunctionParameter os
fits-is FunctionEnd os = of_FunctionEnd os
fits-is FunctionCall os = of_FunctionCall os
fits-is Variable os = of_Variable os
fits-is Load os = of_Load os
fits-is Store os = of_Store os
fits-is AccessChain os = of_AccessChain os
fits-is Decorate os = of_Decorate os
fits-is MemberDecorate os = of_MemberDecorate os
fits-is CompositeConstruct os = of_CompositeConstruct os
fits-is CompositeExtract os = of_CompositeExtract os
fits-is Bitcast os = unary os
fits-is SNegate os = unary os
fits-is IAdd os = binary os
fits-is ISub os = binary os
fits-is IMul os = binary os
fits-is UDiv os = binary os
fits-is SDiv os = binary os
fits-is UMod os = binary os
fits-is SRem os = binary os
fits-is LogicalEqual os = binary os
fits-is LogicalNotEqual os = binary os
fits-is LogicalNot os = unary os
fits-is IEqual os = binary os
fits-is INotEqual os = binary os
fits-is UGreaterThan os = binary os
fits-is SGreaterThan os = binary os
fits-is UGreaterThanEqual os = binary os
fits-is SGreaterThanEqual os = binary os
fits-is ULessThan os = binary os
fits-is SLessThan os = binary os
fits-is ULessThanEqual os = binary os
fits-is SLessThanEqual os = binary os
fits-is ShiftRightLogical os = binary os
fits-is ShiftRightArithmetic os = binary os
fits-is ShiftLeftLogical os = binary os
fits-is BitwiseOr os = binary os
fits-is BitwiseXor os = binary os
fits-is BitwiseAnd os = binary os
fits-is Not os = unary os
fits-is LoopMerge os = of_LoopMerge os
fits-is SelectionMerge os = of_SelectionMerge os
fits-is Label os = of_Label os
fits-is Branch os = of_Branch os
fits-is BranchConditional os = of_BranchConditional os
fits-is Return os = of_Return os
fits-is ReturnValue os = of_ReturnValue os
fits-is Unreachable os = of_Unreachable os

pub fits-misfit : (op : Op) (os : List ℕ) → fits op os ≡ is_none (misfit op os)
fits-misfit op os = fits-is op os ∙ ap (λ b. is_none (cond b (wrong_literal op os) (Some 0))) (sym (meets-is (layout_of op) os))

pub fit : (op : Op) (os : List ℕ) → misfit op os ≡ None → IsTrue (fits op os)
fit op os e = fits-misfit op os ∙ ap is_none e

no_some : (w : Option ℕ) → is_none w ≡ true → w ≡ None
no_some None e = refl
no_some (Some k) e = cc

pub none_wrong : (op : Op) (os : List ℕ) → IsTrue (fits op os) → misfit op os ≡ None
none_wrong op os h = no_some (misfit op os) (sym (fits-misfit op os) ∙ h)
