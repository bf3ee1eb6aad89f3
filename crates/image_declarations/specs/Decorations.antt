-- The decorations of an image (SPIR-V 1.5, section 3.20), by their places among its instructions.
use Rattle.std.specs.Prelude.{◌≡◌, ℕ, ◌+◌, ◌&&◌, Bool, cond, nat_eq, List, [], ◌∷◌, Option, Some, None}
use Rattle.std.specs.HashMap.{HashMap, get}
use Rattle.spirv_words.specs.declared.opcodes.Op.{Op}
use Rattle.spirv_words.specs.declared.opcodes.Op.TheVariants.{Decorate, MemberDecorate}
use Rattle.spirv_words.specs.declared.images.Instruction.{Instruction}
use Rattle.image_declarations.specs.declared.decorations.Mark.{Mark}

-- what an instruction decorates and how, and its literal, if it is a decoration with a literal
abbrev pub decoration_of : Op → List ℕ → Option ((ℕ × ℕ) × ℕ)
decoration_of Decorate (target ∷ kind ∷ literal ∷ []) = Some ((target, kind), literal)
decoration_of op operands = None

-- the struct and the member that an instruction decorates, and its literal
abbrev pub member_decoration_of : Op → List ℕ → Option ((ℕ × ℕ) × ℕ)
member_decoration_of MemberDecorate (target ∷ member ∷ kind ∷ literal ∷ []) = Some ((target, member), literal)
member_decoration_of op operands = None

abbrev pub same_pair : ℕ × ℕ → ℕ × ℕ → Bool
same_pair p q = nat_eq p.0 q.0 && nat_eq p.1 q.1

-- the decoration at a place, if it is that one, else another
abbrev pub mark_here : Option ((ℕ × ℕ) × ℕ) → ℕ → ℕ × ℕ → Option Mark → Option Mark
mark_here None place key else = else
mark_here (Some d) place key else = cond (same_pair d.0 key) (Some (record { place = place; literal = d.1 })) else

-- the first decoration of this kind of an id, where the instructions stand from a place on
abbrev pub mark : List Instruction → ℕ → ℕ → ℕ → Option Mark
mark [] from id kind = None
mark (i ∷ is) from id kind = mark_here (decoration_of i.op i.operands) from (id, kind) (mark is (from + 1) id kind)

-- the first Offset of a member of a struct
abbrev pub member_mark : List Instruction → ℕ → ℕ → ℕ → Option Mark
member_mark [] from id member = None
member_mark (i ∷ is) from id member = mark_here (member_decoration_of i.op i.operands) from (id, member) (member_mark is (from + 1) id member)

abbrev pub literal_of : Option Mark → ℕ
literal_of None = 0
literal_of (Some m) = m.literal

-- the bytes between the elements of an array: its ArrayStride
abbrev pub stride_of : List Instruction → ℕ → ℕ
stride_of code id = literal_of (mark code 0 id 6)

-- the Offset of a member of a struct
abbrev pub offset_of : List Instruction → ℕ → ℕ → ℕ
offset_of code id member = literal_of (member_mark code 0 id member)

-- a map that has the first decoration of each kind of each id
abbrev pub Marks : {S : Type 0} → HashMap (ℕ × ℕ) Mark S → List Instruction → ℕ → Type 0
Marks marks code from = (id kind : ℕ) → get same_pair marks (id, kind) ≡ mark code from id kind

abbrev pub MemberMarks : {S : Type 0} → HashMap (ℕ × ℕ) Mark S → List Instruction → ℕ → Type 0
MemberMarks marks code from = (id member : ℕ) → get same_pair marks (id, member) ≡ member_mark code from id member
