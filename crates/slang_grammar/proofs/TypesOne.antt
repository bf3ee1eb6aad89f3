-- From one index on, tokens spell at most one type behind which no type goes on.
use Rattle.std.proofs.Common.{true, ◌≡◌, ℕ, max, List, sym, ◌∙◌, ap, arith, inl}
use Rattle.slang_tree.specs.declared.types.TypeTree.{TypeTree}
use Rattle.slang_reading.specs.Lexed.{Lexed}
use Rattle.slang_reading.specs.Reading.{Outcome, Done, Stop, Past}
use Rattle.slang_reading.proofs.Exact.{Meets}
use Rattle.slang_grammar.specs.Types.{TypeAt, Quiet}
use Rattle.slang_grammar.specs.Descent.{Limits}
use Rattle.slang_grammar.specs.Heights.{height}
use Rattle.slang_grammar.specs.Sizes.{longest_list, longest_name}
use Rattle.slang_grammar.specs.TypesDescent.{Type_, types}
use Rattle.slang_grammar.proofs.TypesRead.{type_within}

-- an outcome is one answer at most
one_answer : {A : Type 0} (a b : A) (to end : ℕ) (o : Outcome A) → Meets ⊥ a to o → Meets ⊥ b end o → (a ≡ b) × (to ≡ end)
one_answer a b to end (Done c at seen) m n = (sym m.0 ∙ n.0, sym m.1 ∙ n.1)
one_answer a b to end (Stop seen) m n = absurd m
one_answer a b to end (Past code place seen) m n = absurd m

-- limits that both of two types keep
abbrev most : TypeTree → TypeTree → Limits
most x y = record {
  turns = max (max (height x) (height y)) (max (longest_list x) (longest_list y));
  items = max (longest_list x) (longest_list y);
  names = max (longest_name x) (longest_name y);
  free = true;
}

pub one_type : (ts : List Lexed) (at to end : ℕ) (x y : TypeTree) → TypeAt ts x at to → TypeAt ts y at end → Quiet ts to → Quiet ts end → (x ≡ y) × (to ≡ end)
one_type ts at to end x y s u q r =
    let limits = most x y in
    let d = max (height x) (height y) in
    let a = type_within ⊥ limits s q d 0 (inl (record { nodes = omega arith; lists = omega arith; names = omega arith }, record { nodes = omega arith; items = omega arith })) in
    let b = type_within ⊥ limits u r d 0 (inl (record { nodes = omega arith; lists = omega arith; names = omega arith }, record { nodes = omega arith; items = omega arith })) in
    let c = one_answer {A = Type_} (x, height x) (y, height y) to end (types limits d ts at 0) a.is b.is in
    (ap (λ (v : Type_). v.0) c.0, c.1)
