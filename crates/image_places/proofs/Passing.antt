-- A cursor that goes past an instruction.
use Rattle.std.proofs.Common.{◌≡◌, ℕ, suc, ◌+◌, List, length, Some, slice_get, ap, arith}
use Rattle.std.specs.Option.{option_map}
use Rattle.spirv_words.specs.declared.images.Instruction.{Instruction}
use Rattle.image_places.specs.declared.cursor.Cursor.{Cursor}
use Rattle.image_places.specs.Places.{word_of, under_function, under_label, op_at, function_of, block_of, cursor_at}
use Rattle.image_places.proofs.Growing.{next}

abbrev made : ℕ → ℕ → ℕ → ℕ → Cursor
made a b c d = record { number = a; place = b; function = c; block = d }

made_same : (a b c d a' b' c' d' : ℕ) → a ≡ a' → b ≡ b' → c ≡ c' → d ≡ d' → made a b c d ≡ made a' b' c' d'
made_same a b c d a' b' c' d' e f g h = cc

pub passed : (is : List Instruction) (k : ℕ) (x : Cursor) (i : Instruction) (number place function block : ℕ)
    → x ≡ cursor_at is k → slice_get is k ≡ Some i → number ≡ x.number + 1 → place ≡ x.place + (length i.operands + 1)
    → function ≡ under_function (Some i.op) number x.function → block ≡ under_label (Some i.op) number x.block
    → made number place function block ≡ cursor_at is (suc k)
passed is k x i number place function block at here n p f b =
    let op : op_at is k ≡ Some i.op = ap (option_map (λ j. j.op)) here in
    let number_at : x.number ≡ k = ap (λ c. c.number) at in
    let place_at : x.place ≡ word_of is k = ap (λ c. c.place) at in
    let function_at : x.function ≡ function_of is k = ap (λ c. c.function) at in
    let block_at : x.block ≡ block_of is k = ap (λ c. c.block) at in
    let number_is : number ≡ suc k = omega arith in
    let place_is : place ≡ word_of is (suc k) = omega (arith, next is k i here) in
    let function_is : function ≡ function_of is (suc k) = cc in
    let block_is : block ≡ block_of is (suc k) = cc in
    made_same _ _ _ _ _ _ _ _ number_is place_is function_is block_is
