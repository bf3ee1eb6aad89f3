-- The decorations that the machine reads are those that the rules speak of.
use Rattle.std.proofs.Common.{◌≡◌, ℕ, suc, ◌+◌, slice_get, arith, Bool, true, false, ◌&&◌, nat_eq, cond, List, [], ◌∷◌, Option, Some, None, refl, sym, ap, ◌∙◌}
use Rattle.std.specs.Prelude.{is_some}
use Rattle.std.proofs.lemmas.Bool.{eqb-true}
use Rattle.spirv_words.specs.declared.opcodes.Op.{Op}
use Rattle.spirv_words.specs.declared.opcodes.Op.TheVariants.{Decorate, MemberDecorate}
use Rattle.spirv_words.specs.declared.images.Instruction.{Instruction}
use Rattle.spirv_words.specs.Machine.{decorated, decoration, member_decorated, offset, or_zero}
use Rattle.image_declarations.specs.declared.decorations.Mark.{Mark}
use Rattle.image_declarations.specs.Decorations.{same_pair, decoration_of, member_decoration_of, mark_here, mark, member_mark, literal_of}
use Rattle.call_graph.proofs.Walks.{first-true, second-true}

-- the literal of a mark, if there is one
abbrev pub literal_in : Option Mark → Option ℕ
literal_in None = None
literal_in (Some m) = Some m.literal

one-mark : (a b : Bool) (place literal : ℕ) (else : Option Mark)
    → cond a (cond b (Some literal) (literal_in else)) (literal_in else) ≡ literal_in (cond (a && b) (Some (record { place = place; literal = literal })) else)
one-mark true true place literal else = refl
one-mark true false place literal else = refl
one-mark false b place literal else = refl

decorated-is : (op : Op) (os : List ℕ) (from id kind : ℕ) (else : Option Mark)
    → decorated op os id kind (literal_in else) ≡ literal_in (mark_here (decoration_of op os) from (id, kind) else)
decorated-is Decorate (target ∷ k ∷ literal ∷ []) from id kind else = one-mark (nat_eq target id) (nat_eq k kind) from literal else
decorated-is op os from id kind else = refl

pub mark-is : (code : List Instruction) (from id kind : ℕ) → decoration code id kind ≡ literal_in (mark code from id kind)
mark-is [] from id kind = refl
mark-is (i ∷ code) from id kind =
    ap (λ (o : Option ℕ). decorated i.op i.operands id kind o) (mark-is code (from + 1) id kind)
    ∙ decorated-is i.op i.operands from id kind (mark code (from + 1) id kind)

member-decorated-is : (op : Op) (os : List ℕ) (from id member : ℕ) (else : Option Mark)
    → member_decorated op os id member (literal_in else) ≡ literal_in (mark_here (member_decoration_of op os) from (id, member) else)
member-decorated-is MemberDecorate (target ∷ m ∷ k ∷ literal ∷ []) from id member else = one-mark (nat_eq target id) (nat_eq m member) from literal else
member-decorated-is op os from id member else = refl

pub member-mark-is : (code : List Instruction) (from id member : ℕ) → offset code id member ≡ literal_in (member_mark code from id member)
member-mark-is [] from id member = refl
member-mark-is (i ∷ code) from id member =
    ap (λ (o : Option ℕ). member_decorated i.op i.operands id member o) (member-mark-is code (from + 1) id member)
    ∙ member-decorated-is i.op i.operands from id member (member_mark code (from + 1) id member)

literal-is : (o : Option Mark) → or_zero (literal_in o) ≡ literal_of o
literal-is None = refl
literal-is (Some m) = refl

pub decoration-is : (code : List Instruction) (from id kind : ℕ) → or_zero (decoration code id kind) ≡ literal_of (mark code from id kind)
decoration-is code from id kind = ap or_zero (mark-is code from id kind) ∙ literal-is (mark code from id kind)

pub offset-is : (code : List Instruction) (from id member : ℕ) → or_zero (offset code id member) ≡ literal_of (member_mark code from id member)
offset-is code from id member = ap or_zero (member-mark-is code from id member) ∙ literal-is (member_mark code from id member)

-- ---- the instruction of a decoration

abbrev pub decorates : ℕ → ℕ → ℕ → Instruction
decorates id kind literal = record { op = Decorate; operands = id ∷ kind ∷ literal ∷ [] }

abbrev pub offsets : ℕ → ℕ → ℕ → ℕ → Instruction
offsets id member kind literal = record { op = MemberDecorate; operands = id ∷ member ∷ kind ∷ literal ∷ [] }

some-mark : {x y : Mark} → Some x ≡ Some y → x ≡ y
some-mark e = cc

same-form : (x : Instruction) (op : Op) (os : List ℕ) → x.op ≡ op → x.operands ≡ os → x ≡ record { op = op; operands = os }
same-form x op os e f =
    let make : Op → List ℕ → Instruction = λ o l. record { op = o; operands = l } in
    ap (λ (o : Op). make o x.operands) e ∙ ap (make op) f

pub mark-there : (o : Option Mark) → is_some o ≡ true → (m : Mark) × (o ≡ Some m)
mark-there None e = cc
mark-there (Some m) e = (m, refl)

-- a mark stands at its place
pub record IsMark (code : List Instruction) (from id kind : ℕ) (m : Mark) : Type 0 where
  pub steps : ℕ
  pub far : m.place ≡ from + steps
  pub stands : slice_get code steps ≡ Some (decorates id kind m.literal)

here : (op : Op) (os : List ℕ) (id kind : ℕ) (d : (ℕ × ℕ) × ℕ) → decoration_of op os ≡ Some d → same_pair d.0 (id, kind) ≡ true
    → (op ≡ Decorate) × (os ≡ id ∷ kind ∷ d.1 ∷ [])
here Decorate (target ∷ k ∷ literal ∷ []) id kind d e s =
    let f : d ≡ ((target, k), literal) = cc in
    let p : same_pair (target, k) (id, kind) ≡ true = ap (λ (x : (ℕ × ℕ) × ℕ). same_pair x.0 (id, kind)) (sym f) ∙ s in
    let a : target ≡ id = eqb-true target id (first-true (nat_eq target id) (nat_eq k kind) p) in
    let b : k ≡ kind = eqb-true k kind (second-true (nat_eq target id) (nat_eq k kind) p) in
    let l : literal ≡ d.1 = ap (λ (x : (ℕ × ℕ) × ℕ). x.1) (sym f) in
    (refl, cc)
here op os id kind d e s = cc

found-later : (i : Instruction) (code : List Instruction) (from id kind : ℕ) (m : Mark) → IsMark code (from + 1) id kind m → IsMark (i ∷ code) from id kind m
found-later i code from id kind m f = record { steps = suc f.steps; far = omega (arith, f.far); stands = f.stands }

found-by : (i : Instruction) (code : List Instruction) (from id kind : ℕ) (m : Mark) (o : Option ((ℕ × ℕ) × ℕ)) → decoration_of i.op i.operands ≡ o
    → (mark code (from + 1) id kind ≡ Some m → IsMark code (from + 1) id kind m)
    → mark_here o from (id, kind) (mark code (from + 1) id kind) ≡ Some m → IsMark (i ∷ code) from id kind m
found-by i code from id kind m None d go e = found-later i code from id kind m (go e)
found-by i code from id kind m (Some p) d go e = either (same_pair p.0 (id, kind)) refl e
  where
    either : (b : Bool) → same_pair p.0 (id, kind) ≡ b
        → cond b (Some (record { place = from; literal = p.1 })) (mark code (from + 1) id kind) ≡ Some m → IsMark (i ∷ code) from id kind m
    either true s e =
        let same : record { place = from; literal = p.1 } ≡ m = some-mark e in
        let h = here i.op i.operands id kind p d s in
        let far : from ≡ m.place = ap (λ (x : Mark). x.place) same in
        let literal : p.1 ≡ m.literal = ap (λ (x : Mark). x.literal) same in
        record {
          steps = 0;
          far = omega arith;
          stands = ap Some (same-form i Decorate (id ∷ kind ∷ p.1 ∷ []) h.0 h.1 ∙ ap (decorates id kind) literal);
        }
    either false s e = found-later i code from id kind m (go e)

pub mark-found : (code : List Instruction) (from id kind : ℕ) (m : Mark) → mark code from id kind ≡ Some m → IsMark code from id kind m
mark-found [] from id kind m e = cc
mark-found (i ∷ code) from id kind m e =
    found-by i code from id kind m (decoration_of i.op i.operands) refl (λ h. mark-found code (from + 1) id kind m h) e

-- an Offset stands at its place
pub record IsOffset (code : List Instruction) (from id member : ℕ) (m : Mark) : Type 0 where
  pub steps : ℕ
  pub kind : ℕ
  pub far : m.place ≡ from + steps
  pub stands : slice_get code steps ≡ Some (offsets id member kind m.literal)

member-here : (op : Op) (os : List ℕ) (id member : ℕ) (d : (ℕ × ℕ) × ℕ) → member_decoration_of op os ≡ Some d → same_pair d.0 (id, member) ≡ true
    → (kind : ℕ) × (op ≡ MemberDecorate) × (os ≡ id ∷ member ∷ kind ∷ d.1 ∷ [])
member-here MemberDecorate (target ∷ k ∷ kind ∷ literal ∷ []) id member d e s =
    let f : d ≡ ((target, k), literal) = cc in
    let p : same_pair (target, k) (id, member) ≡ true = ap (λ (x : (ℕ × ℕ) × ℕ). same_pair x.0 (id, member)) (sym f) ∙ s in
    let a : target ≡ id = eqb-true target id (first-true (nat_eq target id) (nat_eq k member) p) in
    let b : k ≡ member = eqb-true k member (second-true (nat_eq target id) (nat_eq k member) p) in
    let l : literal ≡ d.1 = ap (λ (x : (ℕ × ℕ) × ℕ). x.1) (sym f) in
    (kind, refl, cc)
member-here op os id member d e s = cc

offset-later : (i : Instruction) (code : List Instruction) (from id member : ℕ) (m : Mark) → IsOffset code (from + 1) id member m → IsOffset (i ∷ code) from id member m
offset-later i code from id member m f = record { steps = suc f.steps; kind = f.kind; far = omega (arith, f.far); stands = f.stands }

offset-by : (i : Instruction) (code : List Instruction) (from id member : ℕ) (m : Mark) (o : Option ((ℕ × ℕ) × ℕ)) → member_decoration_of i.op i.operands ≡ o
    → (member_mark code (from + 1) id member ≡ Some m → IsOffset code (from + 1) id member m)
    → mark_here o from (id, member) (member_mark code (from + 1) id member) ≡ Some m → IsOffset (i ∷ code) from id member m
offset-by i code from id member m None d go e = offset-later i code from id member m (go e)
offset-by i code from id member m (Some p) d go e = either (same_pair p.0 (id, member)) refl e
  where
    either : (b : Bool) → same_pair p.0 (id, member) ≡ b
        → cond b (Some (record { place = from; literal = p.1 })) (member_mark code (from + 1) id member) ≡ Some m → IsOffset (i ∷ code) from id member m
    either true s e =
        let same : record { place = from; literal = p.1 } ≡ m = some-mark e in
        let h = member-here i.op i.operands id member p d s in
        let far : from ≡ m.place = ap (λ (x : Mark). x.place) same in
        let literal : p.1 ≡ m.literal = ap (λ (x : Mark). x.literal) same in
        record {
          steps = 0;
          kind = h.0;
          far = omega arith;
          stands = ap Some (same-form i MemberDecorate (id ∷ member ∷ h.0 ∷ p.1 ∷ []) h.1 h.2 ∙ ap (offsets id member h.0) literal);
        }
    either false s e = offset-later i code from id member m (go e)

pub offset-found : (code : List Instruction) (from id member : ℕ) (m : Mark) → member_mark code from id member ≡ Some m → IsOffset code from id member m
offset-found [] from id member m e = cc
offset-found (i ∷ code) from id member m e =
    offset-by i code from id member m (member_decoration_of i.op i.operands) refl (λ h. offset-found code (from + 1) id member m h) e
