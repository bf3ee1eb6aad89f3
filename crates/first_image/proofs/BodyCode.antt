-- The code of sums and of lists of statements, one part more at a time; no code of this form takes a temporary.
use Rattle.std.proofs.Common.{◌≡◌, ℕ, ◌+◌, List, [], ◌∷◌, ◌++◌, refl, sym, ap, ◌∙◌, append_assoc, append-nil, ◌<◌, length, get_or, take, subst}
use Rattle.std.proofs.lemmas.Grind.{take_at_read}
use Rattle.spirv_words.specs.declared.opcodes.Op.TheVariants.{IAdd, AccessChain, Store}
use Rattle.first_form.specs.declared.shader.Statement.{Statement}
use Rattle.first_form.specs.declared.shader.Sum.{Sum}
use Rattle.first_form.specs.declared.shader.Item.{Item}
use Rattle.first_form.specs.declared.shader.Item.TheVariants.{Number, X}
use Rattle.spirv_words.specs.declared.images.Instruction.{Instruction}
use Rattle.first_image.specs.declared.output.Output.{Output}
use Rattle.first_image.specs.Emitted.{tables_at, emitted, emitted_piece, known}
use Rattle.first_image.specs.Templates.{ins, Tables, Code, Piece, pair_code, operator_code, item_code, more_code, sum_code, write_code, statement_code, sequence_code, statements_code}

-- ---- one part more

abbrev pub plus_item : Tables → (ℕ → ℕ → Code) → Item → ℕ → ℕ → Code
plus_item t f i id temp = operator_code IAdd t.word (pair_code (f id temp) (item_code t i))

pub more_code-push : (t : Tables) (f : ℕ → ℕ → Code) (is : List Item) (i : Item) (id temp : ℕ) → more_code t f (is ++ i ∷ []) id temp ≡ plus_item t (more_code t f is) i id temp
more_code-push t f [] i id temp = refl
more_code-push t f (x ∷ is) i id temp = more_code-push t (plus_item t f x) is i id temp

-- what stands before some code
abbrev pub before : Piece → Piece → Piece
before a b = record { instructions = a.instructions ++ b.instructions; id = b.id; temp = b.temp }

pub statements_code-push : (t : Tables) (ss : List Statement) (s : Statement) (id temp : ℕ) → statements_code t (ss ++ s ∷ []) id temp ≡ sequence_code (statements_code t ss id temp) (statement_code t s)
statements_code-push t [] s id temp = let a = statement_code t s id temp in ap (λ l. record { instructions = l; id = a.id; temp = a.temp }) (append-nil a.instructions)
statements_code-push t (x ∷ ss) s id temp =
    let a = statement_code t x id temp in
    let b = statements_code t ss a.id a.temp in
    let d = statement_code t s b.id b.temp in
    ap (before a) (statements_code-push t ss s a.id a.temp)
    ∙ ap (λ l. record { instructions = l; id = d.id; temp = d.temp }) (sym (append_assoc a.instructions b.instructions d.instructions))

-- ---- temporaries

abbrev pub KeepsTemp : (ℕ → ℕ → Code) → Type 0
KeepsTemp f = (id temp : ℕ) → (f id temp).temp ≡ temp

item_keeps : (t : Tables) (i : Item) → KeepsTemp (item_code t i)
item_keeps t (Number n) id temp = refl
item_keeps t X id temp = refl

plus_keeps : (t : Tables) (f : ℕ → ℕ → Code) (i : Item) → KeepsTemp f → KeepsTemp (plus_item t f i)
plus_keeps t f i k id temp = item_keeps t i (f id temp).id (f id temp).temp ∙ k id temp

pub more_keeps : (t : Tables) (f : ℕ → ℕ → Code) (is : List Item) → KeepsTemp f → KeepsTemp (more_code t f is)
more_keeps t f [] k = k
more_keeps t f (i ∷ is) k = more_keeps t (plus_item t f i) is (plus_keeps t f i k)

pub sum_keeps : (t : Tables) (s : Sum) → KeepsTemp (sum_code t s)
sum_keeps t s = more_keeps t (item_code t s.first) s.rest (item_keeps t s.first)

pub statement_keeps : (t : Tables) (s : Statement) (id temp : ℕ) → (statement_code t s id temp).temp ≡ temp
statement_keeps t s id temp = sum_keeps t s.value (sum_code t s.index id temp).id (sum_code t s.index id temp).temp ∙ sum_keeps t s.index id temp

pub statements_keep : (t : Tables) (ss : List Statement) (id temp : ℕ) → (statements_code t ss id temp).temp ≡ temp
statements_keep t [] id temp = refl
statements_keep t (s ∷ ss) id temp =
    statements_keep t ss (statement_code t s id temp).id (statement_code t s id temp).temp ∙ statement_keeps t s id temp

-- ---- the output, one part more

join_assoc : (o c b l : List Instruction) → (o ++ c) ++ (b ++ l) ≡ o ++ ((c ++ b) ++ l)
join_assoc o c b l = simp append_assoc

plus_join : (ks : List ℕ) (o : Output) (c : Code) (i : Item) → c.temp ≡ 0
    → emitted (emitted o c) (operator_code IAdd 4 (pair_code (known c.value c.id 0) (item_code (tables_at ks) i))) ≡ emitted o (operator_code IAdd 4 (pair_code c (item_code (tables_at ks) i)))
plus_join ks o c i e =
    let t = tables_at ks in
    let b = item_code t i c.id 0 in
    let after : ℕ → Output = λ temp. emitted o (operator_code IAdd 4 (pair_code c (λ id _. item_code t i id temp))) in
    ap (λ l. record { instructions = l; next = b.id + 1 }) (join_assoc o.instructions c.instructions b.instructions (ins IAdd (4 ∷ b.id ∷ c.value ∷ b.value ∷ []) ∷ []))
    ∙ ap after (sym e)

-- a sum's code so far, as the output and the value have it
pub record SumSoFar (ks : List ℕ) (first : Item) (is : List Item) (o m : Output) (v : ℕ) : Type 0 where
  pub value : v ≡ (more_code (tables_at ks) (item_code (tables_at ks) first) is o.next 0).value
  pub out : m ≡ emitted o (more_code (tables_at ks) (item_code (tables_at ks) first) is o.next 0)

pub sum_more : (ks : List ℕ) (first : Item) (is : List Item) (i : Item) (o m n : Output) (v w : ℕ) → SumSoFar ks first is o m v
    → w ≡ (item_code (tables_at ks) i m.next 0).id → n ≡ emitted m (operator_code IAdd 4 (pair_code (known v m.next 0) (item_code (tables_at ks) i)))
    → SumSoFar ks first (is ++ i ∷ []) o n w
sum_more ks first is i o m n v w h p q =
    let t = tables_at ks in
    let f = item_code t first in
    let c = more_code t f is o.next 0 in
    let e = more_code-push t f is i o.next 0 in
    let k = more_keeps t f is (item_keeps t first) o.next 0 in
    record {
      value = p ∙ ap (λ x. (item_code t i x.next 0).id) h.out ∙ ap (λ x. (item_code t i c.id x).id) (sym k) ∙ ap (λ x. x.value) (sym e);
      out = q ∙ ap (λ x. emitted x (operator_code IAdd 4 (pair_code (known v x.next 0) (item_code t i)))) h.out
          ∙ ap (λ x. emitted (emitted o c) (operator_code IAdd 4 (pair_code (known x c.id 0) (item_code t i)))) h.value
          ∙ plus_join ks o c i k ∙ ap (emitted o) (sym e);
    }

write_assoc : (o a b : List Instruction) (x y : Instruction) → (((o ++ a) ++ b) ++ x ∷ []) ++ y ∷ [] ≡ o ++ ((a ++ b) ++ x ∷ y ∷ [])
write_assoc o a b x y = simp append_assoc

pub sum_turn : (ks : List ℕ) (first : Item) (rest xs : List Item) (k : ℕ) (o m n : Output) (v w : ℕ) → xs ≡ rest → k < length xs → SumSoFar ks first (take k rest) o m v
    → w ≡ (item_code (tables_at ks) (get_or xs k (Number 0)) m.next 0).id → n ≡ emitted m (operator_code IAdd 4 (pair_code (known v m.next 0) (item_code (tables_at ks) (get_or xs k (Number 0)))))
    → SumSoFar ks first (take (k + 1) rest) o n w
sum_turn ks first rest xs k o m n v w same lt h p q =
    let i = get_or xs k (Number 0) in
    let lt' : k < length rest = let P : List Item → Type 0 = λ l. k < length l in subst P same lt in
    let e : take (k + 1) rest ≡ take k rest ++ i ∷ [] = (take_at_read rest k (Number 0) lt').1 ∙ ap (λ l. take k rest ++ get_or l k (Number 0) ∷ []) (sym same) in
    let P : List Item → Type 0 = λ is. SumSoFar ks first is o n w in
    subst P (sym e) (sum_more ks first (take k rest) i o m n v w h p q)

-- ---- statements

write_of : (ks : List ℕ) (o : Output) (s : Statement)
    → (let t = tables_at ks in let a = sum_code t s.index o.next 0 in let b = sum_code t s.value a.id 0 in
    ◌≡◌ {A = Output} (record {
      instructions = (((o.instructions ++ a.instructions) ++ b.instructions) ++ ins AccessChain (t.cell_pointer ∷ b.id ∷ t.buffer ∷ t.constant 0 ∷ a.value ∷ []) ∷ []) ++ ins Store (b.id ∷ b.value ∷ []) ∷ [];
      next = b.id + 1;
    }) (emitted_piece o (statement_code t s o.next 0)))
write_of ks o s =
    let t = tables_at ks in
    let a = sum_code t s.index o.next 0 in
    let b = sum_code t s.value a.id 0 in
    let at : ℕ → Output = λ temp. emitted_piece o (write_code t (pair_code a (λ id _. sum_code t s.value id temp))) in
    ap (λ l. record { instructions = l; next = b.id + 1 }) (write_assoc o.instructions a.instructions b.instructions _ _)
    ∙ ap at (sym (sum_keeps t s.index o.next 0))

-- the output after the write that follows two sums
abbrev written : Output → ℕ → ℕ → ℕ → ℕ → ℕ → Output
written o pointer buffer member index value = record {
  instructions = (o.instructions ++ ins AccessChain (pointer ∷ o.next ∷ buffer ∷ member ∷ index ∷ []) ∷ []) ++ ins Store (o.next ∷ value ∷ []) ∷ [];
  next = o.next + 1;
}

-- the output after a statement, from what each of its parts left
pub statement_done : (ks : List ℕ) (s : Statement) (o o1 o2 o3 : Output) (i2 i3 : List Instruction) (index value member cell pointer buffer : ℕ)
    → index ≡ (sum_code (tables_at ks) s.index o.next 0).value → o1 ≡ emitted o (sum_code (tables_at ks) s.index o.next 0)
    → value ≡ (sum_code (tables_at ks) s.value o1.next 0).value → o2 ≡ emitted o1 (sum_code (tables_at ks) s.value o1.next 0)
    → member ≡ (tables_at ks).constant 0 → cell ≡ o2.next → o3 ≡ record { instructions = o2.instructions; next = o2.next + 1 }
    → pointer ≡ (tables_at ks).cell_pointer → buffer ≡ (tables_at ks).buffer
    → i2 ≡ o3.instructions ++ ins AccessChain (pointer ∷ cell ∷ buffer ∷ member ∷ index ∷ []) ∷ []
    → i3 ≡ i2 ++ ins Store (cell ∷ value ∷ []) ∷ []
    → ◌≡◌ {A = Output} (record { instructions = i3; next = o3.next }) (emitted_piece o (statement_code (tables_at ks) s o.next 0))
statement_done ks s o o1 o2 o3 i2 i3 index value member cell pointer buffer a b c d e f g h i j k =
    let t = tables_at ks in
    let chain : ℕ → Instruction = λ x. ins AccessChain (pointer ∷ x ∷ buffer ∷ member ∷ index ∷ []) in
    let second : Output → Code = λ x. sum_code t s.value x.next 0 in
    let store : ℕ → Instruction = λ x. ins Store (x ∷ value ∷ []) in
    ap (λ x. record { instructions = x; next = o3.next }) (k ∙ ap (λ x. x ++ store cell ∷ []) j ∙ ap (λ x. (o3.instructions ++ chain x ∷ []) ++ store x ∷ []) f)
    ∙ ap (λ x. record { instructions = (x.instructions ++ chain o2.next ∷ []) ++ store o2.next ∷ []; next = x.next }) g
    ∙ ap (λ x. written o2 x buffer member index value) h
    ∙ ap (λ x. written o2 t.cell_pointer x member index value) i
    ∙ ap (λ x. written o2 t.cell_pointer t.buffer x index value) e
    ∙ ap (λ x. written x t.cell_pointer t.buffer (t.constant 0) index value) d
    ∙ ap (λ x. written (emitted o1 (second o1)) t.cell_pointer t.buffer (t.constant 0) index x) c
    ∙ ap (λ x. written (emitted x (second x)) t.cell_pointer t.buffer (t.constant 0) index (second x).value) b
    ∙ ap (λ x. written (emitted (emitted o (sum_code t s.index o.next 0)) (sum_code t s.value (sum_code t s.index o.next 0).id 0)) t.cell_pointer t.buffer (t.constant 0) x (sum_code t s.value (sum_code t s.index o.next 0).id 0).value) a
    ∙ write_of ks o s

pub statements_turn : (ks : List ℕ) (ss : List Statement) (k : ℕ) (d s : Statement) (o m n : Output) → k < length ss → s ≡ get_or ss k d
    → m ≡ emitted_piece o (statements_code (tables_at ks) (take k ss) o.next 0)
    → n ≡ emitted_piece m (statement_code (tables_at ks) s m.next 0)
    → n ≡ emitted_piece o (statements_code (tables_at ks) (take (k + 1) ss) o.next 0)
statements_turn ks ss k d s o m n lt is p q =
    let t = tables_at ks in
    let a = statements_code t (take k ss) o.next 0 in
    let b = statement_code t s a.id 0 in
    let e : take (k + 1) ss ≡ take k ss ++ s ∷ [] = (take_at_read ss k d lt).1 ∙ ap (λ x. take k ss ++ x ∷ []) (sym is) in
    let at : ℕ → Output = λ temp. emitted_piece o (sequence_code a (λ id _. statement_code t s id temp)) in
    q ∙ ap (λ x. emitted_piece x (statement_code t s x.next 0)) p
    ∙ ap (λ l. record { instructions = l; next = b.id }) (append_assoc o.instructions a.instructions b.instructions)
    ∙ ap at (sym (statements_keep t (take k ss) o.next 0))
    ∙ ap (emitted_piece o) (sym (statements_code-push t (take k ss) s o.next 0))
    ∙ ap (λ l. emitted_piece o (statements_code t l o.next 0)) (sym e)
