-- The shapes of types, by what declares them.
use Rattle.std.proofs.Common.{◌≡◌, ℕ, ◌⊎◌, inl, inr, true, false, nat_eq, List, [], ◌∷◌, drop, slice_get, slice_index, IsTrue, Option, Some, refl, sym, ap, ◌∙◌}
use Rattle.spirv_words.specs.declared.opcodes.Op.{Op}
use Rattle.spirv_words.specs.declared.opcodes.Op.TheVariants.{TypeVoid, TypeBool, TypeInt, TypeVector, TypeArray, TypeRuntimeArray, TypeStruct, TypePointer, Constant}
use Rattle.spirv_words.specs.declared.images.Instruction.{Instruction}
use Rattle.spirv_words.specs.declared.images.Image.{Image}
use Rattle.spirv_words.specs.Layouts as layouts
use Rattle.behavior.specs.Values.{Word}
use Rattle.spirv_words.specs.Machine.{Shape, Nothing, Truths, Words, Repeated, Unbounded, Fields, PointerTo, Operand, Plain, Globals, IsType, IsValue, Unknown, if_some, or_zero, decoration, on_shape, number_at, fields, meaning_of, is_function, result_of, place_of}
use Rattle.flat_values.specs.Flat.{IsData}
use Rattle.image_lookup.specs.declared.sorts.Sort.{Sort}
use Rattle.image_lookup.specs.declared.sorts.Sort.TheVariants.{VoidType, BoolType, IntType, VectorType, ArrayType, RuntimeArrayType, StructType, PointerType, Number}
use Rattle.image_lookup.specs.Sorts.{sort_of}
use Rattle.image_lookup.specs.Lookups.{sort, operands, operand}
use Rattle.image_places.specs.Places.{function_of}
use Rattle.image_rules.specs.Order.{may_stand}
use Rattle.image_declarations.specs.Decorations.{stride_of}
use Rattle.image_declarations.specs.Types.{number_by, length_of}
use Rattle.image_operands.specs.Operators.{is_bool_sort, is_bool, is_int_sort, is_int}
use Rattle.image_types.specs.Parts.{is_length, vector_fits, runtime_array_fits, array_fits}
use Rattle.call_graph.proofs.Walks.{first-true}
use Rattle.call_graph.proofs.Visits.{or-cases}
use Rattle.spirv_check.specs.Valid.{Valid}
use Rattle.image_facts.specs.Operands.{globals_of, shape}
use Rattle.image_facts.specs.Alike.{reach, IsSpaced}
use Rattle.image_facts.specs.Shaped.{IsRepeated}
use Rattle.image_facts.proofs.Rules.{right-layout, right-rule}
use Rattle.image_facts.proofs.Outside.{must-stand-outside}
use Rattle.image_facts.proofs.Made.{place-of}
use Rattle.image_facts.proofs.Sorts.{operands-are, IsSorted, sorted, op-void, op-bool, op-int, op-vector, op-array, op-runtime, op-struct, op-pointer, op-number}
use Rattle.image_facts.proofs.Marks.{decoration-is}
use Rattle.image_facts.proofs.Fixpoint.{stands-for-type, stands-for-value, array-length}

-- ---- declarations

abbrev pub declares : Op → List ℕ → Instruction
declares op os = record { op = op; operands = os }

-- an id is declared outside of functions, by an instruction of an opcode
pub record IsDeclared (code : List Instruction) (t : ℕ) (op : Op) : Type 0 where
  pub place : ℕ
  pub there : place_of code t 0 ≡ Some place
  pub stands : slice_get code place ≡ Some (declares op (operands code t))
  pub result : result_of op (operands code t) ≡ Some t
  pub outside : function_of code place ≡ 0
  pub plain : is_function op ≡ false

record IsDeclaration (op : Op) : Type 0 where
  alone : (block : ℕ) → may_stand op block ≡ false
  plain : is_function op ≡ false

pub same-form : (x : Instruction) (op : Op) (os : List ℕ) → x.op ≡ op → os ≡ x.operands → x ≡ declares op os
same-form x op os e f = ap (λ (o : Op). declares o x.operands) e ∙ ap (declares op) (sym f)

-- what the layouts say of the operands
bool-means : (code : List Instruction) (g : Globals) (os : List ℕ) → IsTrue (layouts.fits TypeBool os) → meaning_of code g TypeBool os ≡ IsType Truths
bool-means code g (r ∷ []) l = refl
bool-means code g os l = cc

void-means : (code : List Instruction) (g : Globals) (os : List ℕ) → IsTrue (layouts.fits TypeVoid os) → meaning_of code g TypeVoid os ≡ IsType Nothing
void-means code g (r ∷ []) l = refl
void-means code g os l = cc

int-means : (code : List Instruction) (g : Globals) (os : List ℕ) → IsTrue (layouts.fits TypeInt os) → meaning_of code g TypeInt os ≡ IsType (Words (nat_eq (slice_index os 2) 1))
int-means code g (r ∷ w ∷ s ∷ []) l = refl
int-means code g os l = cc

vector-means : (code : List Instruction) (g : Globals) (os : List ℕ) → IsTrue (layouts.fits TypeVector os)
    → meaning_of code g TypeVector os ≡ on_shape (g.shapes (slice_index os 1)) (λ s. Repeated (slice_index os 2) 4 s)
vector-means code g (r ∷ t ∷ n ∷ []) l = refl
vector-means code g os l = cc

array-means : (code : List Instruction) (g : Globals) (os : List ℕ) → IsTrue (layouts.fits TypeArray os)
    → meaning_of code g TypeArray os ≡ if_some (number_at (g.ids (slice_index os 2))) Unknown (λ n. on_shape (g.shapes (slice_index os 1)) (λ s. Repeated n (or_zero (decoration code (slice_index os 0) 6)) s))
array-means code g (r ∷ t ∷ n ∷ []) l = refl
array-means code g os l = cc

runtime-means : (code : List Instruction) (g : Globals) (os : List ℕ) → IsTrue (layouts.fits TypeRuntimeArray os)
    → meaning_of code g TypeRuntimeArray os ≡ on_shape (g.shapes (slice_index os 1)) (λ s. Unbounded (or_zero (decoration code (slice_index os 0) 6)) s)
runtime-means code g (r ∷ t ∷ []) l = refl
runtime-means code g os l = cc

struct-means : (code : List Instruction) (g : Globals) (os : List ℕ) → IsTrue (layouts.fits TypeStruct os)
    → meaning_of code g TypeStruct os ≡ IsType (Fields (fields code g (slice_index os 0) 0 (drop 1 os)))
struct-means code g (r ∷ ts) l = refl
struct-means code g [] l = cc

pointer-means : (code : List Instruction) (g : Globals) (os : List ℕ) → IsTrue (layouts.fits TypePointer os)
    → meaning_of code g TypePointer os ≡ on_shape (g.shapes (slice_index os 2)) (λ s. PointerTo s)
pointer-means code g (r ∷ class ∷ t ∷ []) l = refl
pointer-means code g os l = cc

pub constant-means : (code : List Instruction) (g : Globals) (os : List ℕ) → IsTrue (layouts.fits Constant os) → meaning_of code g Constant os ≡ IsValue (Plain (Word (slice_index os 2)))
constant-means code g (t ∷ r ∷ w ∷ []) l = refl
constant-means code g os l = cc

pub array-result : (os : List ℕ) (t : ℕ) → result_of TypeArray os ≡ Some t → slice_index os 0 ≡ t
array-result [] t e = cc
array-result (r ∷ os) t e = cc

pub runtime-result : (os : List ℕ) (t : ℕ) → result_of TypeRuntimeArray os ≡ Some t → slice_index os 0 ≡ t
runtime-result [] t e = cc
runtime-result (r ∷ os) t e = cc

pub struct-result : (os : List ℕ) (t : ℕ) → result_of TypeStruct os ≡ Some t → slice_index os 0 ≡ t
struct-result [] t e = cc
struct-result (r ∷ os) t e = cc

-- ---- tests of sorts

bool-sort-by : (s : Sort) → is_bool_sort s ≡ true → s ≡ BoolType
bool-sort-by BoolType e = refl
bool-sort-by s e = cc

pub bool-sort : (code : List Instruction) (t : ℕ) → is_bool code t ≡ true → sort code t ≡ BoolType
bool-sort code t e = bool-sort-by (sort code t) e

int-sort-by : (s : Sort) → is_int_sort s ≡ true → s ≡ IntType
int-sort-by IntType e = refl
int-sort-by s e = cc

pub int-sort : (code : List Instruction) (t : ℕ) → is_int code t ≡ true → sort code t ≡ IntType
int-sort code t e = int-sort-by (sort code t) e

pub vector-parts : (code : List Instruction) (i : Instruction) → vector_fits code i ≡ true
    → (is_bool code (slice_index i.operands 1) ≡ true) ⊎ (is_int code (slice_index i.operands 1) ≡ true)
unfolding vector_fits
vector-parts code i h = or-cases (is_bool code (slice_index i.operands 1)) (is_int code (slice_index i.operands 1)) h

pub array-parts : (code : List Instruction) (i : Instruction) → array_fits code i ≡ true
    → (runtime_array_fits code i ≡ true) × (sort code (slice_index i.operands 2) ≡ Number)
unfolding array_fits
array-parts code i h = (
  first-true (runtime_array_fits code i) (is_length code (slice_index i.operands 2)) h,
  array-length code i h,
)

-- ---- valid images

module _ (image : Image) (v : Valid image) where
  pub declaration : (t : ℕ) (s : Sort) (op : Op) → IsSorted image.instructions t s → ((o : Op) → sort_of o ≡ s → o ≡ op)
      → ((block : ℕ) → may_stand op block ≡ false) → is_function op ≡ false → IsDeclared image.instructions t op
  declaration t s op z by alone plain =
      let x = z.instruction in
      let p = place-of image.instructions t x z.defines in
      let o = by x.op z.of_sort in
      let os = operands-are image.instructions t x z.defines in
      record {
        place = p.place;
        there = p.there;
        stands = p.stands ∙ ap Some (same-form x op (operands image.instructions t) o os);
        result = ap (result_of op) os ∙ (ap (λ (q : Op). result_of q x.operands) (sym o) ∙ p.result);
        outside = must-stand-outside image v p.place x p.stands (λ b. ap (λ (q : Op). may_stand q b) o ∙ alone b);
        plain = plain;
      }

  pub layout : (t : ℕ) (op : Op) → IsDeclared image.instructions t op → IsTrue (layouts.fits op (operands image.instructions t))
  layout t op d = right-layout image v d.place (declares op (operands image.instructions t)) d.stands

  pub typed : (t : ℕ) (op : Op) (s : Shape) → IsDeclared image.instructions t op
      → meaning_of image.instructions (globals_of image.instructions) op (operands image.instructions t) ≡ IsType s → shape image.instructions t ≡ Some s
  typed t op s d m = stands-for-type image v d.place (declares op (operands image.instructions t)) t s d.stands d.outside d.plain d.result m

  pub valued : (x : ℕ) (op : Op) (o : Operand) → IsDeclared image.instructions x op
      → meaning_of image.instructions (globals_of image.instructions) op (operands image.instructions x) ≡ IsValue o → (globals_of image.instructions).ids x ≡ Some o
  valued x op o d m = stands-for-value image v d.place (declares op (operands image.instructions x)) x o d.stands d.outside d.plain d.result m

  declared-void : (t : ℕ) → sort image.instructions t ≡ VoidType → IsDeclared image.instructions t TypeVoid
  declared-void t h = declaration t VoidType TypeVoid (sorted image.instructions t VoidType h (λ e. cc)) op-void (λ b. refl) refl

  declared-bool : (t : ℕ) → sort image.instructions t ≡ BoolType → IsDeclared image.instructions t TypeBool
  declared-bool t h = declaration t BoolType TypeBool (sorted image.instructions t BoolType h (λ e. cc)) op-bool (λ b. refl) refl

  declared-int : (t : ℕ) → sort image.instructions t ≡ IntType → IsDeclared image.instructions t TypeInt
  declared-int t h = declaration t IntType TypeInt (sorted image.instructions t IntType h (λ e. cc)) op-int (λ b. refl) refl

  pub declared-vector : (t : ℕ) → sort image.instructions t ≡ VectorType → IsDeclared image.instructions t TypeVector
  declared-vector t h = declaration t VectorType TypeVector (sorted image.instructions t VectorType h (λ e. cc)) op-vector (λ b. refl) refl

  pub declared-array : (t : ℕ) → sort image.instructions t ≡ ArrayType → IsDeclared image.instructions t TypeArray
  declared-array t h = declaration t ArrayType TypeArray (sorted image.instructions t ArrayType h (λ e. cc)) op-array (λ b. refl) refl

  pub declared-runtime : (t : ℕ) → sort image.instructions t ≡ RuntimeArrayType → IsDeclared image.instructions t TypeRuntimeArray
  declared-runtime t h =
      declaration t RuntimeArrayType TypeRuntimeArray (sorted image.instructions t RuntimeArrayType h (λ e. cc)) op-runtime (λ b. refl) refl

  pub declared-struct : (t : ℕ) → sort image.instructions t ≡ StructType → IsDeclared image.instructions t TypeStruct
  declared-struct t h = declaration t StructType TypeStruct (sorted image.instructions t StructType h (λ e. cc)) op-struct (λ b. refl) refl

  pub declared-pointer : (t : ℕ) → sort image.instructions t ≡ PointerType → IsDeclared image.instructions t TypePointer
  declared-pointer t h = declaration t PointerType TypePointer (sorted image.instructions t PointerType h (λ e. cc)) op-pointer (λ b. refl) refl

  pub declared-constant : (t : ℕ) → sort image.instructions t ≡ Number → IsDeclared image.instructions t Constant
  declared-constant t h = declaration t Number Constant (sorted image.instructions t Number h (λ e. cc)) op-number (λ b. refl) refl

  -- ---- types without parts

  pub shape-void : (t : ℕ) → sort image.instructions t ≡ VoidType → shape image.instructions t ≡ Some Nothing
  shape-void t h =
      let d = declared-void t h in
      typed t TypeVoid Nothing d (void-means image.instructions (globals_of image.instructions) (operands image.instructions t) (layout t TypeVoid d))

  pub shape-bool : (t : ℕ) → sort image.instructions t ≡ BoolType → shape image.instructions t ≡ Some Truths
  shape-bool t h =
      let d = declared-bool t h in
      typed t TypeBool Truths d (bool-means image.instructions (globals_of image.instructions) (operands image.instructions t) (layout t TypeBool d))

  pub shape-int : (t : ℕ) → sort image.instructions t ≡ IntType → shape image.instructions t ≡ Some (Words (nat_eq (operand image.instructions t 2) 1))
  shape-int t h =
      let d = declared-int t h in
      typed t TypeInt (Words (nat_eq (operand image.instructions t 2) 1)) d (int-means image.instructions (globals_of image.instructions) (operands image.instructions t) (layout t TypeInt d))

  pub constant-word : (x : ℕ) → sort image.instructions x ≡ Number → (globals_of image.instructions).ids x ≡ Some (Plain (Word (operand image.instructions x 2)))
  constant-word x h =
      let d = declared-constant x h in
      valued x Constant (Plain (Word (operand image.instructions x 2))) d
      (constant-means image.instructions (globals_of image.instructions) (operands image.instructions x) (layout x Constant d))

  -- ---- types with parts, by the shapes of their parts

  pub vector-of : (t : ℕ) (s : Shape) → sort image.instructions t ≡ VectorType → shape image.instructions (operand image.instructions t 1) ≡ Some s
      → shape image.instructions t ≡ Some (Repeated (operand image.instructions t 2) 4 s)
  vector-of t s h e =
      let d = declared-vector t h in
      typed t TypeVector (Repeated (operand image.instructions t 2) 4 s) d
      (vector-means image.instructions (globals_of image.instructions) (operands image.instructions t) (layout t TypeVector d)
      ∙ ap (λ (o : Option Shape). on_shape o (λ s. Repeated (operand image.instructions t 2) 4 s)) e)

  pub array-rule : (t : ℕ) → sort image.instructions t ≡ ArrayType
      → array_fits image.instructions (declares TypeArray (operands image.instructions t)) ≡ true
  array-rule t h = let d = declared-array t h in right-rule image v d.place (declares TypeArray (operands image.instructions t)) d.stands

  pub length-word : (t : ℕ) → sort image.instructions t ≡ ArrayType
      → number_at ((globals_of image.instructions).ids (operand image.instructions t 2)) ≡ Some (length_of image.instructions (operand image.instructions t 2))
  length-word t h =
      let z : sort image.instructions (operand image.instructions t 2) ≡ Number = (array-parts image.instructions (declares TypeArray (operands image.instructions t)) (array-rule t h)).1 in
      ap number_at (constant-word (operand image.instructions t 2) z)
      ∙ ap (λ (s : Sort). Some (number_by s (operand image.instructions (operand image.instructions t 2) 2))) (sym z)

  pub array-of : (t : ℕ) (s : Shape) → sort image.instructions t ≡ ArrayType → shape image.instructions (operand image.instructions t 1) ≡ Some s
      → shape image.instructions t ≡ Some (Repeated (length_of image.instructions (operand image.instructions t 2)) (stride_of image.instructions t) s)
  array-of t s h e =
      let d = declared-array t h in
      let g = globals_of image.instructions in
      let n = length_of image.instructions (operand image.instructions t 2) in
      let stride : or_zero (decoration image.instructions (operand image.instructions t 0) 6) ≡ stride_of image.instructions t =
      decoration-is image.instructions 0 (operand image.instructions t 0) 6 ∙ ap (stride_of image.instructions) (array-result (operands image.instructions t) t d.result) in
      typed t TypeArray (Repeated n (stride_of image.instructions t) s) d
      (array-means image.instructions g (operands image.instructions t) (layout t TypeArray d)
      ∙ ap (λ (o : Option ℕ). if_some o Unknown (λ n. on_shape (g.shapes (operand image.instructions t 1)) (λ s. Repeated n (or_zero (decoration image.instructions (operand image.instructions t 0) 6)) s))) (length-word t h)
      ∙ ap (λ (o : Option Shape). on_shape o (λ s. Repeated n (or_zero (decoration image.instructions (operand image.instructions t 0) 6)) s)) e
      ∙ ap (λ (b : ℕ). IsType (Repeated n b s)) stride)

  pub runtime-of : (t : ℕ) (s : Shape) → sort image.instructions t ≡ RuntimeArrayType → shape image.instructions (operand image.instructions t 1) ≡ Some s
      → shape image.instructions t ≡ Some (Unbounded (stride_of image.instructions t) s)
  runtime-of t s h e =
      let d = declared-runtime t h in
      let g = globals_of image.instructions in
      let stride : or_zero (decoration image.instructions (operand image.instructions t 0) 6) ≡ stride_of image.instructions t =
      decoration-is image.instructions 0 (operand image.instructions t 0) 6 ∙ ap (stride_of image.instructions) (runtime-result (operands image.instructions t) t d.result) in
      typed t TypeRuntimeArray (Unbounded (stride_of image.instructions t) s) d
      (runtime-means image.instructions g (operands image.instructions t) (layout t TypeRuntimeArray d)
      ∙ ap (λ (o : Option Shape). on_shape o (λ s. Unbounded (or_zero (decoration image.instructions (operand image.instructions t 0) 6)) s)) e
      ∙ ap (λ (b : ℕ). IsType (Unbounded b s)) stride)

  pub shape-pointer : (t : ℕ) (s : Shape) → sort image.instructions t ≡ PointerType → shape image.instructions (operand image.instructions t 2) ≡ Some s
      → shape image.instructions t ≡ Some (PointerTo s)
  shape-pointer t s h e =
      let d = declared-pointer t h in
      typed t TypePointer (PointerTo s) d
      (pointer-means image.instructions (globals_of image.instructions) (operands image.instructions t) (layout t TypePointer d)
      ∙ ap (λ (o : Option Shape). on_shape o (λ s. PointerTo s)) e)

  pub shape-fields : (t : ℕ) → sort image.instructions t ≡ StructType
      → shape image.instructions t ≡ Some (Fields (fields image.instructions (globals_of image.instructions) t 0 (drop 1 (operands image.instructions t))))
  shape-fields t h =
      let d = declared-struct t h in
      let g = globals_of image.instructions in
      let is = struct-result (operands image.instructions t) t d.result in
      typed t TypeStruct (Fields (fields image.instructions g t 0 (drop 1 (operands image.instructions t)))) d
      (struct-means image.instructions g (operands image.instructions t) (layout t TypeStruct d)
      ∙ ap (λ (r : ℕ). IsType (Fields (fields image.instructions g r 0 (drop 1 (operands image.instructions t))))) is)

  -- ---- vectors

  -- the shape of a vector's components, which is one of data
  pub record HasComponents (t : ℕ) : Type 0 where
    pub of : Shape
    pub element : shape image.instructions (operand image.instructions t 1) ≡ Some of
    pub plain : IsData of
    pub size : reach of ≡ 4
    pub spaced : IsSpaced of

  pub vector-components : (t : ℕ) → sort image.instructions t ≡ VectorType → HasComponents t
  vector-components t h =
      let d = declared-vector t h in
      either (vector-parts image.instructions (declares TypeVector (operands image.instructions t)) (right-rule image v d.place (declares TypeVector (operands image.instructions t)) d.stands))
    where
      either : (is_bool image.instructions (operand image.instructions t 1) ≡ true) ⊎ (is_int image.instructions (operand image.instructions t 1) ≡ true) → HasComponents t
      either (inl b) = record {
        of = Truths;
        element = shape-bool (operand image.instructions t 1) (bool-sort image.instructions (operand image.instructions t 1) b);
        plain = tt;
        size = refl;
        spaced = tt;
      }
      either (inr b) = record {
        of = Words (nat_eq (operand image.instructions (operand image.instructions t 1) 2) 1);
        element = shape-int (operand image.instructions t 1) (int-sort image.instructions (operand image.instructions t 1) b);
        plain = tt;
        size = refl;
        spaced = tt;
      }

  pub shape-vector : (t : ℕ) → sort image.instructions t ≡ VectorType → IsRepeated image.instructions t (operand image.instructions t 2) 4
  shape-vector t h =
      let c = vector-components t h in
      record { of = c.of; element = c.element; whole = vector-of t c.of h c.element }
