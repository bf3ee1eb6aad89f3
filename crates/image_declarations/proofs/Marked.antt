-- The maps of decorations, one instruction further.
use Rattle.std.proofs.Common.{◌≡◌, ℕ, ◌+◌, List, ◌∷◌, Some, cond, sym, ◌∙◌, ap}
use Rattle.std.specs.HashMap.{HashMap, get}
use Rattle.spirv_words.specs.declared.images.Instruction.{Instruction}
use Rattle.image_declarations.specs.declared.decorations.Mark.{Mark}
use Rattle.image_declarations.specs.Decorations.{same_pair, mark_here, decoration_of, member_decoration_of, mark, member_mark, Marks, MemberMarks}

-- n has the entries of m, and another at a key
abbrev pub Gets : {S : Type 0} → HashMap (ℕ × ℕ) Mark S → HashMap (ℕ × ℕ) Mark S → ℕ × ℕ → Mark → Type 0
Gets m n key w = (q : ℕ × ℕ) → get same_pair n q ≡ cond (same_pair key q) (Some w) (get same_pair m q)

pub marks-more : {S : Type 0} (m n : HashMap (ℕ × ℕ) Mark S) (i : Instruction) (rest : List Instruction) (from : ℕ) (key : ℕ × ℕ) (literal : ℕ) →
    Marks m rest (from + 1) → decoration_of i.op i.operands ≡ Some (key, literal) → Gets m n key (record { place = from; literal = literal }) → Marks n (i ∷ rest) from
marks-more m n i rest from key literal h d g id kind =
    g (id, kind) ∙ ap (λ o. cond (same_pair key (id, kind)) (Some (record { place = from; literal = literal })) o) (h id kind)
    ∙ sym (ap (λ o. mark_here o from (id, kind) (mark rest (from + 1) id kind)) d)

pub member_marks-more : {S : Type 0} (m n : HashMap (ℕ × ℕ) Mark S) (i : Instruction) (rest : List Instruction) (from : ℕ) (key : ℕ × ℕ) (literal : ℕ) →
    MemberMarks m rest (from + 1) → member_decoration_of i.op i.operands ≡ Some (key, literal) → Gets m n key (record { place = from; literal = literal }) → MemberMarks n (i ∷ rest) from
member_marks-more m n i rest from key literal h d g id member =
    g (id, member) ∙ ap (λ o. cond (same_pair key (id, member)) (Some (record { place = from; literal = literal })) o) (h id member)
    ∙ sym (ap (λ o. mark_here o from (id, member) (member_mark rest (from + 1) id member)) d)
