-- Composites are made of their parts, and have them.
use Rattle.std.proofs.Common.{◌≡◌, ℕ, suc, ◌+◌, true, nat_eq, List, [], ◌∷◌, length, drop, Option, Some, None, slice_get, refl, sym, ap, subst, ◌∙◌, add-one}
use Rattle.std.specs.List.{list_all}
use Rattle.std.proofs.lemmas.Bool.{and_parts, eqb-true}
use Rattle.behavior.specs.Values.{Value, Values, Whole, NoMore, Then, Way, Found, part}
use Rattle.spirv_words.specs.declared.opcodes.Op.TheVariants.{CompositeConstruct, CompositeExtract}
use Rattle.spirv_words.specs.declared.images.Instruction.{Instruction}
use Rattle.spirv_words.specs.Machine.{Shape, Shapes, Repeated, Fields, NoField, Field, Plain}
use Rattle.spirv_words.specs.Step.{State, Setting, Turn, Goes, gives, with_values, with_part, act}
use Rattle.image_lookup.specs.declared.sorts.Sort.{Sort}
use Rattle.image_lookup.specs.declared.sorts.Sort.TheVariants.{VectorType, ArrayType, StructType}
use Rattle.image_lookup.specs.Lookups.{sort, operands, operand, is_value}
use Rattle.image_declarations.specs.Reach.{is_id}
use Rattle.image_declarations.specs.Decorations.{stride_of}
use Rattle.image_declarations.specs.Types.{length_of}
use Rattle.image_declarations.specs.Holdings.{has_type, is_data}
use Rattle.image_operands.specs.Composites.{are_members, are_elements, parts_fit, construct_fits, extract_end, extract_fits}
use Rattle.image_types.specs.declared.rules.Rule.TheVariants.{Constructing, Extracting}
use Rattle.image_facts.specs.Alike.{IsLike, AllLike, FieldsLike}
use Rattle.image_facts.specs.Operands.{shape}
use Rattle.image_facts.specs.Shaped.{AreFields}
use Rattle.image_facts.proofs.Likes.{part-found}
use Rattle.typed_runs.specs.States.{IsTyped, Keeps}
use Rattle.typed_runs.proofs.Facts.{Facts}
use Rattle.typed_runs.proofs.Types.{typed_as, three_parts}
use Rattle.typed_runs.proofs.Going.{At, AreSeen, all_seen, gives_typed}
use Rattle.typed_runs.proofs.Operands.{keeps_plain, likely, likely_seen, suits_like}
use Rattle.typed_runs.proofs.Operators.{rule}
use Rattle.typed_runs.proofs.Paths.{extracts}

-- ---- parts

-- some id is this one
pub id_is : (o : Option ℕ) (t : ℕ) → is_id o t ≡ true → o ≡ Some t
id_is (Some u) t h = ap (λ x. Some x) (eqb-true u t h)
id_is None t h = cc

ahead : (os : List ℕ) (n m : ℕ) → slice_get (drop 1 os) n ≡ Some m → slice_get os (n + 1) ≡ Some m
ahead os n m e = ap (slice_get os) (add-one n) ∙ before os e
  where
    before : (os : List ℕ) → slice_get (drop 1 os) n ≡ Some m → slice_get os (suc n) ≡ Some m
    before [] h = h
    before (x ∷ xs) h = h

pub keeps_part : (code : List Instruction) (way : Way) (v : Value) (go : Value → Turn) → way ≡ Found v → Keeps code (go v) → Keeps code (with_part way go)
keeps_part code way v go e k = subst (λ w. Keeps code (with_part w go)) (sym e) k

module _ (code : List Instruction) (facts : Facts code) where
  -- values of one type
  elements : (s : State) (of : ℕ) (form : Shape) (is : List ℕ) (go : Values → Turn) → IsTyped code s → AreSeen code s.place is
      → list_all (λ v. has_type code v of) is ≡ true → is_data code of ≡ true → shape code of ≡ Some form
      → ((vs : Values) → AllLike vs (length is) form → Keeps code (go vs)) → Keeps code (with_values s.ids is go)
  elements s of form [] go typed q h d e k = k NoMore tt
  elements s of form (i ∷ is) go typed q h d e k =
      let both = and_parts (has_type code i of) (list_all (λ v. has_type code v of) is) h in
      let g = typed_as code i of both.0 in
      let p = likely_seen code facts s i of form typed (q 0 i refl g.0) g.1 d e in
      keeps_plain code (s.ids i) p.value (λ v. with_values s.ids is (λ vs. go (Then v vs))) p.is
      (elements s of form is (λ vs. go (Then p.value vs)) typed (λ j x f v. q (suc j) x f v) both.1 d e (λ vs l. k (Then p.value vs) (p.like, l)))

  -- values of these types
  members : (s : State) (t n : ℕ) (ts is : List ℕ) (fs : Shapes) (go : Values → Turn) → IsTyped code s → AreSeen code s.place is
      → are_members code ts is ≡ true → AreFields code t n ts fs → ((j m : ℕ) → slice_get ts j ≡ Some m → is_data code m ≡ true)
      → ((vs : Values) → FieldsLike vs fs → Keeps code (go vs)) → Keeps code (with_values s.ids is go)
  members s t n [] [] NoField go typed q h f d k = k NoMore tt
  members s t n (m ∷ ts) (i ∷ is) (Field offset of rest) go typed q h f d k =
      let both = and_parts (has_type code i m) (are_members code ts is) h in
      let g = typed_as code i m both.0 in
      let p = likely_seen code facts s i m of typed (q 0 i refl g.0) g.1 (d 0 m refl) f.1 in
      keeps_plain code (s.ids i) p.value (λ v. with_values s.ids is (λ vs. go (Then v vs))) p.is
      (members s t (n + 1) ts is rest (λ vs. go (Then p.value vs)) typed (λ j x e v. q (suc j) x e v) both.1 f.2 (λ j x e. d (suc j) x e)
      (λ vs l. k (Then p.value vs) (p.like, l)))
  members s t n [] (i ∷ is) fs go typed q h f d k = cc
  members s t n (m ∷ ts) [] fs go typed q h f d k = cc
  members s t n [] [] (Field offset of rest) go typed q h f d k = absurd f
  members s t n (m ∷ ts) (i ∷ is) NoField go typed q h f d k = absurd f

  -- the parts of a value of a type, by its sort
  parts : (s : State) (t : ℕ) (is : List ℕ) (go : Values → Turn) (form : Shape) (sort' : Sort) → sort code t ≡ sort' → IsTyped code s
      → AreSeen code s.place is → parts_fit code sort' t is ≡ true → is_data code t ≡ true → shape code t ≡ Some form
      → ((vs : Values) → IsLike (Whole vs) form → Keeps code (go vs)) → Keeps code (with_values s.ids is go)
  unfolding are_elements
  parts s t is go form VectorType o typed q h d e k =
      let r = facts.shape_vector t o in
      let both = and_parts (nat_eq (length is) (operand code t 2)) (list_all (λ v. has_type code v (operand code t 1)) is) h in
      let n = eqb-true (length is) (operand code t 2) both.0 in
      let f : Some (Repeated (operand code t 2) 4 r.of) ≡ Some form = sym r.whole ∙ e in
      let g : Repeated (operand code t 2) 4 r.of ≡ form = cc in
      elements s (operand code t 1) r.of is go typed q both.1 (facts.vector_element t o d) r.element
      (λ vs l. k vs (subst (IsLike (Whole vs)) g (subst (λ x. AllLike vs x r.of) n l)))
  parts s t is go form ArrayType o typed q h d e k =
      let r = facts.shape_array t o in
      let count : ℕ = length_of code (operand code t 2) in
      let both = and_parts (nat_eq (length is) count) (list_all (λ v. has_type code v (operand code t 1)) is) h in
      let n = eqb-true (length is) count both.0 in
      let f : Some (Repeated count (stride_of code t) r.of) ≡ Some form = sym r.whole ∙ e in
      let g : Repeated count (stride_of code t) r.of ≡ form = cc in
      elements s (operand code t 1) r.of is go typed q both.1 (facts.array_element t o d) r.element
      (λ vs l. k vs (subst (IsLike (Whole vs)) g (subst (λ x. AllLike vs x r.of) n l)))
  parts s t is go form StructType o typed q h d e k =
      let r = facts.shape_struct t o in
      let f : Some (Fields r.fields) ≡ Some form = sym r.whole ∙ e in
      let g : Fields r.fields ≡ form = cc in
      members s t 0 (drop 1 (operands code t)) is r.fields go typed q h r.members
      (λ j m x. facts.struct_member t j m o d (ahead (operands code t) j m x))
      (λ vs l. k vs (subst (IsLike (Whole vs)) g l))
  parts s t is go form sort' o typed q h d e k = cc

  pub construct_keeps : (m : Setting) (s : State) (t r : ℕ) (is : List ℕ) → At code s CompositeConstruct (t ∷ r ∷ is)
      → Keeps code (act m CompositeConstruct (t ∷ r ∷ is) s)
  unfolding construct_fits
  construct_keeps m s t r is a =
      let both = and_parts (is_data code t) (parts_fit code (sort code t) t is) (rule code facts s CompositeConstruct (t ∷ r ∷ is) Constructing a refl) in
      let d = facts.data_shape t both.0 in
      parts s t is (λ vs. Goes (gives s r (Plain (Whole vs)))) d.form (sort code t) refl a.typed
      (all_seen code facts s CompositeConstruct t r is a refl refl refl) both.1 both.0 d.is
      (λ vs l. gives_typed code facts s CompositeConstruct is t r (Plain (Whole vs)) a refl refl (suits_like code facts t (Whole vs) d.form both.0 d.is l))

  pub extract_keeps : (m : Setting) (s : State) (t r x : ℕ) (path : List ℕ) → At code s CompositeExtract (t ∷ r ∷ x ∷ path)
      → Keeps code (act m CompositeExtract (t ∷ r ∷ x ∷ path) s)
  unfolding extract_fits
  extract_keeps m s t r x path a =
      let of : ℕ = operand code x 0 in
      let all = three_parts (is_value code x) (is_data code of) (is_id (extract_end code of path) t)
      (rule code facts s CompositeExtract (t ∷ r ∷ x ∷ path) Extracting a refl) in
      let d = facts.data_shape of all.1 in
      let p = likely code facts s CompositeExtract (t ∷ r ∷ x ∷ path) 2 x of d.form a (record { stands = refl; role = refl }) all.0 refl all.1 d.is in
      let e = extracts code facts path of t 0 d.form d.is all.1 (id_is (extract_end code of path) t all.2) in
      let f = part-found p.value d.form e.of path 0 e.place p.like e.stands in
      keeps_plain code (s.ids x) p.value (λ v. with_part (part v path) (λ w. Goes (gives s r (Plain w)))) p.is
      (keeps_part code (part p.value path) f.0 (λ w. Goes (gives s r (Plain w))) f.1
      (gives_typed code facts s CompositeExtract (x ∷ path) t r (Plain f.0) a refl refl (suits_like code facts t f.0 e.of e.values e.is f.2)))
