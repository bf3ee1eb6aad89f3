-- Composites are made of the words of their parts, one behind the other, and parts are copied from them.
use Rattle.std.proofs.Common.{◌≡◌, ℕ, zero, suc, ◌+◌, ◌-◌, ◌<◌, ◌≤◌, ◌⊎◌, inl, inr, Bool, true, false, ◌&&◌, nat_eq, List, [], ◌∷◌, ◌++◌, length, get_or, drop, Option, Some, None, refl, sym, ap, subst, ◌∙◌, add-one, arith}
use Rattle.std.specs.Prelude.{slice_get}
use Rattle.std.specs.List.{list_all}
use Rattle.std.proofs.lemmas.Bool.{and_parts, eqb-true, cases_lt}
use Rattle.std.proofs.lemmas.List.{length-append, get_or_append_left, get_or-append_right}
use Rattle.behavior.specs.Values.{Value, Values, Whole, NoMore, Then, Way, Found, part}
use Rattle.behavior.specs.Meanings.{Ids}
use Rattle.spirv_words.specs.declared.opcodes.Op.{Op}
use Rattle.spirv_words.specs.declared.opcodes.Op.TheVariants.{CompositeConstruct, CompositeExtract}
use Rattle.spirv_words.specs.declared.images.Instruction.{Instruction}
use Rattle.spirv_words.specs.Machine.{Shape, Shapes, Repeated, Fields, NoField, Field, Operand, Plain, if_some}
use Rattle.spirv_words.specs.Step.{State, Turn, Goes, gives, with_plain, with_values, with_part}
use Rattle.flat_values.specs.Flat.{flat, flats, width}
use Rattle.flat_values.specs.Pieces.{Piece, At, piece, IsPart}
use Rattle.flat_values.specs.Ranges.{Stands, written}
use Rattle.flat_values.proofs.Standing.{length-written, written_below, written_at, written_above, written_apart}
use Rattle.flat_values.proofs.Growing.{written_is, written_none}
use Rattle.flat_values.proofs.Parts.{part_stands}
use Rattle.run_actions.specs.declared.actions.Move.{Move}
use Rattle.run_actions.specs.declared.actions.Action.TheVariants.{Never}
use Rattle.run_actions.specs.Ranges.{copy_at, gather_at}
use Rattle.run_actions.specs.Steps.{FlatTurn, Goes as GoesTo, goes_on, act as flat_act}
use Rattle.action_laws.proofs.Acts.{copied_is}
use Rattle.action_laws.proofs.Calls.{gathered_is}
use Rattle.image_lookup.specs.declared.sorts.Sort.{Sort}
use Rattle.image_lookup.specs.declared.sorts.Sort.TheVariants.{VectorType, ArrayType, StructType}
use Rattle.image_lookup.specs.Lookups.{sort, operands, operand, is_value}
use Rattle.image_declarations.specs.Decorations.{stride_of}
use Rattle.image_declarations.specs.Reach.{is_id}
use Rattle.image_declarations.specs.Types.{length_of}
use Rattle.image_declarations.specs.Holdings.{is_data, has_type}
use Rattle.image_operands.specs.Composites.{are_members, are_elements, parts_fit, construct_fits, extract_end, extract_fits}
use Rattle.image_types.specs.declared.rules.Rule.TheVariants.{Constructing, Extracting}
use Rattle.image_types.specs.Functions.{is_void}
use Rattle.image_scopes.specs.Scopes.{IsSeen}
use Rattle.image_facts.specs.Alike.{IsLike, AllLike, FieldsLike}
use Rattle.image_facts.specs.Operands.{shape, type_id}
use Rattle.image_facts.specs.Shaped.{AreFields}
use Rattle.image_facts.proofs.Likes.{part-found}
use Rattle.typed_runs.proofs.Types.{three_parts, typed_as}
use Rattle.typed_runs.proofs.Going.{AreSeen, all_seen}
use Rattle.typed_runs.proofs.Operands.{Uses, likely_seen, suits_like}
use Rattle.typed_runs.proofs.Operators.{rule}
use Rattle.typed_runs.proofs.Paths.{extracts}
use Rattle.typed_runs.proofs.Composites.{id_is}
use Rattle.run_rooms.specs.Rooms.{Rooms, AreApart, size_of, slot_size}
use Rattle.run_plans.specs.Actions.{gathered, extract_by, extract_of}
use Rattle.run_laws.specs.Together.{Together, Follows}
use Rattle.run_laws.proofs.Counting.{like_count, likes_count, data_size}
use Rattle.run_laws.proofs.Writing.{Setup}
use Rattle.run_laws.proofs.Acting.{Ready, IsResult, at_of, operand_apart, result_inside, result_together}
use Rattle.run_laws.proofs.Operands.{follows_plain, follows_flat, IsThere, value_there}

-- words that are written behind others
pub written_behind : (ws xs ys : List ℕ) (place : ℕ) → place + length xs + length ys ≤ length ws
    → written (written ws place xs) (place + length xs) ys ≡ written ws place (xs ++ ys)
written_behind ws xs ys place h =
    let m = length-append xs ys in
    let a = length-written ws xs place (omega arith) in
    let b = length-written (written ws place xs) ys (place + length xs) (omega arith) in
    written_is ws (xs ++ ys) (written (written ws place xs) (place + length xs) ys) place (b ∙ a) (omega arith)
    (λ k d l. written_below (written ws place xs) ys (place + length xs) k d (omega arith) (omega arith) ∙ written_below ws xs place k d (omega arith) l)
    (λ k d l. within k d (cases_lt k (length xs)) l a)
    (λ k d l. written_above (written ws place xs) ys (place + length xs) k d (omega arith) (omega arith) ∙ written_above ws xs place k d (omega arith) (omega arith))
  where
    within : (k d : ℕ) → (k < length xs) ⊎ (length xs ≤ k) → k < length (xs ++ ys) → length (written ws place xs) ≡ length ws
        → get_or (written (written ws place xs) (place + length xs) ys) (place + k) d ≡ get_or (xs ++ ys) k d
    within k d (inl l) g a =
        written_below (written ws place xs) ys (place + length xs) (place + k) d (omega arith) (omega arith)
        ∙ (written_at ws xs place k d (omega arith) l ∙ sym (get_or_append_left xs ys d k l))
    within k d (inr l) g a =
        let m = length-append xs ys in
        let e : place + k ≡ place + length xs + (k - length xs) = omega arith in
        ap (λ p. get_or (written (written ws place xs) (place + length xs) ys) p d) e
        ∙ (written_at (written ws place xs) ys (place + length xs) (k - length xs) d (omega arith) (omega arith)
        ∙ sym (get_or-append_right xs ys (length xs) k d refl l))

module _ (code : List Instruction) (L : Rooms) (s : State) where
  -- an id stands for a value whose words stand where they are looked for
  pub record IsPartThere (ws : List ℕ) (i : ℕ) (v : Value) : Type 0 where
    pub is : s.ids i ≡ Some (Plain v)
    pub stands : Stands (flat v) (L.slot i) ws
    pub count : length (flat v) ≡ slot_size code i
    pub seen : IsSeen code s.place i

  abbrev pub ArePartsThere : List ℕ → List ℕ → Values → Type 0
  ArePartsThere ws [] NoMore = Unit {0}
  ArePartsThere ws (i ∷ is) (Then v vs) = IsPartThere ws i v × ArePartsThere ws is vs
  ArePartsThere ws is vs = ⊥

  values_are : (ws is : List ℕ) (vs : Values) (go : Values → Turn) → ArePartsThere ws is vs → with_values s.ids is go ≡ go vs
  values_are ws [] NoMore go h = refl
  values_are ws (i ∷ is) (Then v vs) go h =
      ap (λ o. with_plain o (λ w. with_values s.ids is (λ us. go (Then w us)))) h.0.is ∙ values_are ws is vs (λ us. go (Then v us)) h.1
  values_are ws [] (Then v vs) go h = absurd h
  values_are ws (i ∷ is) NoMore go h = absurd h

  -- no part lies where the words are gathered
  abbrev AreAside : ℕ → ℕ → List ℕ → Type 0
  AreAside a n is = (i : ℕ) → IsSeen code s.place i → AreApart (L.slot i) (slot_size code i) a n

  aside_of : (p m place count a n : ℕ) → a ≤ place → place + count ≤ a + n → AreApart p m a n → (p + m ≤ place) ⊎ (place + count ≤ p)
  aside_of p m place count a n h g (inl l) = inl (omega arith)
  aside_of p m place count a n h g (inr l) = inr (omega arith)

  parts_stay : (ws xs is : List ℕ) (vs : Values) (place a n : ℕ) → place + length xs ≤ length ws → a ≤ place → place + length xs ≤ a + n
      → AreAside a n is → ArePartsThere ws is vs → ArePartsThere (written ws place xs) is vs
  parts_stay ws xs [] NoMore place a n inside h g aside there = tt
  parts_stay ws xs (i ∷ is) (Then v vs) place a n inside h g aside there =
      let p = there.0 in (
        record {
          is = p.is;
          stands =
              written_apart ws xs (flat v) place (L.slot i) inside p.stands
              (subst (λ (k : ℕ). (L.slot i + k ≤ place) ⊎ (place + length xs ≤ L.slot i)) (sym p.count)
              (aside_of (L.slot i) (slot_size code i) place (length xs) a n h g (aside i p.seen)));
          count = p.count;
          seen = p.seen;
        },
        parts_stay ws xs is vs place a n inside h g aside there.1,
      )
  parts_stay ws xs [] (Then v vs) place a n inside h g aside there = absurd there
  parts_stay ws xs (i ∷ is) NoMore place a n inside h g aside there = absurd there

  gathers : (ws is : List ℕ) (vs : Values) (place a n : ℕ) → place + length (flats vs) ≤ length ws → a ≤ place → place + length (flats vs) ≤ a + n
      → AreAside a n is → ArePartsThere ws is vs → gather_at (gathered code L is place) ws ≡ Some (written ws place (flats vs))
  gathers ws [] NoMore place a n inside h g aside there = ap (λ x. Some x) (written_none ws place (omega arith))
  gathers ws (i ∷ is) (Then v vs) place a n inside h g aside there =
      let p = there.0 in
      let m = length-append (flat v) (flats vs) in
      let c = p.count in
      let first : place + length (flat v) ≤ length ws = omega arith in
      let k = length-written ws (flat v) place first in
      let later : place + slot_size code i + length (flats vs) ≤ length (written ws place (flat v)) = omega arith in
      let at : gather_at (gathered code L is (place + slot_size code i)) (written ws place (flat v))
      ≡ Some (written (written ws place (flat v)) (place + slot_size code i) (flats vs)) =
      gathers (written ws place (flat v)) is vs (place + slot_size code i) a n later (omega arith) (omega arith) aside
      (parts_stay ws (flat v) is vs place a n first h (omega arith) aside there.1) in
      gathered_is (record { from = L.slot i; to = place; count = slot_size code i }) (gathered code L is (place + slot_size code i)) (flat v) ws p.stands (sym c) first
      ∙ (at ∙ ap (λ x. Some x) (ap (λ j. written (written ws place (flat v)) (place + j) (flats vs)) (sym c) ∙ written_behind ws (flat v) (flats vs) place (omega arith)))
  gathers ws [] (Then v vs) place a n inside h g aside there = absurd there
  gathers ws (i ∷ is) NoMore place a n inside h g aside there = absurd there

module _ (code : List Instruction) (L : Rooms) (ids : Ids) (lengths : ℕ → ℕ → ℕ) (counts : List ℕ) (m : Setup code L lengths counts) where
  -- one part of a type
  part_there : (s : State) (ws : List ℕ) (i t : ℕ) (form : Shape) → Together code L ids lengths s s.place ws → IsSeen code s.place i → type_id code i ≡ t
      → is_data code t ≡ true → shape code t ≡ Some form → (v : Value) × IsPartThere code L s ws i v × IsLike v form
  part_there s ws i t form together seen e d f =
      let p = likely_seen code m.known.facts s i t form together.typed seen e d f in
      let n : is_void code (type_id code i) ≡ false = ap (is_void code) e ∙ m.known.facts.not_void t d in
      let l = together.laid i (Plain p.value) seen n p.is in
      let c = like_count p.value form p.like ∙ (sym (data_size code t form m.known d f) ∙ ap (size_of code) (sym e)) in
      (p.value, record { is = p.is; stands = l.1; count = c; seen = seen }, p.like)

  elements_there : (s : State) (ws : List ℕ) (of : ℕ) (form : Shape) (is : List ℕ) → Together code L ids lengths s s.place ws → AreSeen code s.place is
      → list_all (λ v. has_type code v of) is ≡ true → is_data code of ≡ true → shape code of ≡ Some form
      → (vs : Values) × ArePartsThere code L s ws is vs × AllLike vs (length is) form
  elements_there s ws of form [] together q h d e = (NoMore, tt, tt)
  elements_there s ws of form (i ∷ is) together q h d e =
      let both = and_parts (has_type code i of) (list_all (λ v. has_type code v of) is) h in
      let g = typed_as code i of both.0 in
      let p = part_there s ws i of form together (q 0 i refl g.0) g.1 d e in
      let r = elements_there s ws of form is together (λ j x f v. q (suc j) x f v) both.1 d e in
      (Then p.0 r.0, (p.1, r.1), (p.2, r.2))

  members_there : (s : State) (ws : List ℕ) (t n : ℕ) (ts is : List ℕ) (fs : Shapes) → Together code L ids lengths s s.place ws → AreSeen code s.place is
      → are_members code ts is ≡ true → AreFields code t n ts fs → ((j k : ℕ) → slice_get ts j ≡ Some k → is_data code k ≡ true)
      → (vs : Values) × ArePartsThere code L s ws is vs × FieldsLike vs fs
  members_there s ws t n [] [] NoField together q h f d = (NoMore, tt, tt)
  members_there s ws t n (k ∷ ts) (i ∷ is) (Field offset of rest) together q h f d =
      let both = and_parts (has_type code i k) (are_members code ts is) h in
      let g = typed_as code i k both.0 in
      let p = part_there s ws i k of together (q 0 i refl g.0) g.1 (d 0 k refl) f.1 in
      let r = members_there s ws t (n + 1) ts is rest together (λ j x e v. q (suc j) x e v) both.1 f.2 (λ j x e. d (suc j) x e) in
      (Then p.0 r.0, (p.1, r.1), (p.2, r.2))
  members_there s ws t n [] (i ∷ is) fs together q h f d = cc
  members_there s ws t n (k ∷ ts) [] fs together q h f d = cc
  members_there s ws t n [] [] (Field offset of rest) together q h f d = absurd f
  members_there s ws t n (k ∷ ts) (i ∷ is) NoField together q h f d = absurd f

  ahead : (os : List ℕ) (n k : ℕ) → slice_get (drop 1 os) n ≡ Some k → slice_get os (n + 1) ≡ Some k
  ahead os n k e = ap (slice_get os) (add-one n) ∙ before os e
    where
      before : (os : List ℕ) → slice_get (drop 1 os) n ≡ Some k → slice_get os (suc n) ≡ Some k
      before [] h = h
      before (x ∷ xs) h = h

  -- the parts of a value of a type, by its sort
  parts_there : (s : State) (ws : List ℕ) (t : ℕ) (is : List ℕ) (form : Shape) (sort' : Sort) → sort code t ≡ sort' → Together code L ids lengths s s.place ws
      → AreSeen code s.place is → parts_fit code sort' t is ≡ true → is_data code t ≡ true → shape code t ≡ Some form
      → (vs : Values) × ArePartsThere code L s ws is vs × IsLike (Whole vs) form
  unfolding are_elements
  parts_there s ws t is form VectorType o together q h d e =
      let r = m.known.facts.shape_vector t o in
      let both = and_parts (nat_eq (length is) (operand code t 2)) (list_all (λ v. has_type code v (operand code t 1)) is) h in
      let n = eqb-true (length is) (operand code t 2) both.0 in
      let f : Some (Repeated (operand code t 2) 4 r.of) ≡ Some form = sym r.whole ∙ e in
      let g : Repeated (operand code t 2) 4 r.of ≡ form = cc in
      let p = elements_there s ws (operand code t 1) r.of is together q both.1 (m.known.facts.vector_element t o d) r.element in
      (p.0, p.1, subst (IsLike (Whole p.0)) g (subst (λ (x : ℕ). AllLike p.0 x r.of) n p.2))
  parts_there s ws t is form ArrayType o together q h d e =
      let r = m.known.facts.shape_array t o in
      let count : ℕ = length_of code (operand code t 2) in
      let both = and_parts (nat_eq (length is) count) (list_all (λ v. has_type code v (operand code t 1)) is) h in
      let n = eqb-true (length is) count both.0 in
      let f : Some (Repeated count (stride_of code t) r.of) ≡ Some form = sym r.whole ∙ e in
      let g : Repeated count (stride_of code t) r.of ≡ form = cc in
      let p = elements_there s ws (operand code t 1) r.of is together q both.1 (m.known.facts.array_element t o d) r.element in
      (p.0, p.1, subst (IsLike (Whole p.0)) g (subst (λ (x : ℕ). AllLike p.0 x r.of) n p.2))
  parts_there s ws t is form StructType o together q h d e =
      let r = m.known.facts.shape_struct t o in
      let f : Some (Fields r.fields) ≡ Some form = sym r.whole ∙ e in
      let g : Fields r.fields ≡ form = cc in
      let p = members_there s ws t 0 (drop 1 (operands code t)) is r.fields together q h r.members
      (λ j k x. m.known.facts.struct_member t j k o d (ahead (operands code t) j k x)) in
      (p.0, p.1, subst (IsLike (Whole p.0)) g p.2)
  parts_there s ws t is form sort' o together q h d e = cc

  pub construct_together : (s : State) (ws : List ℕ) (t r : ℕ) (is : List ℕ) → Ready code L ids lengths s ws CompositeConstruct (t ∷ r ∷ is)
      → Follows code L ids lengths s.place ws (with_values s.ids is (λ vs. Goes (gives s r (Plain (Whole vs)))))
      (goes_on (s.place + 1) (gather_at (gathered code L is (L.slot r)) ws))
  unfolding construct_fits
  construct_together s ws t r is a =
      let at = at_of code L ids lengths counts m s ws CompositeConstruct (t ∷ r ∷ is) a in
      let i : IsResult CompositeConstruct = record { goes_on = refl; second = refl; valued = refl } in
      let both = and_parts (is_data code t) (parts_fit code (sort code t) t is) (rule code m.known.facts s CompositeConstruct (t ∷ r ∷ is) Constructing at refl) in
      let d = m.known.facts.data_shape t both.0 in
      let p = parts_there s ws t is d.form (sort code t) refl a.together (all_seen code m.known.facts s CompositeConstruct t r is at refl refl refl) both.1 both.0 d.is in
      let n : length (flats p.0) ≡ size_of code t = like_count (Whole p.0) d.form p.2 ∙ sym (data_size code t d.form m.known both.0 d.is) in
      let inside : L.slot r + length (flats p.0) ≤ length ws = omega (arith, result_inside code L ids lengths counts m s ws CompositeConstruct t r is a i, n) in
      let acts = gathers code L s ws is p.0 (L.slot r) (L.slot r) (size_of code t) inside (omega arith) (omega arith)
      (λ x seen. operand_apart code L ids lengths counts m s ws CompositeConstruct t r is x a i seen) p.1 in
      subst (λ (turn : Turn). Follows code L ids lengths s.place ws turn (goes_on (s.place + 1) (gather_at (gathered code L is (L.slot r)) ws)))
      (sym (values_are code L s ws is p.0 (λ vs. Goes (gives s r (Plain (Whole vs)))) p.1))
      (follows_flat code L ids lengths s.place ws (Goes (gives s r (Plain (Whole p.0)))) _ (GoesTo (s.place + 1) (written ws (L.slot r) (flats p.0)))
      (ap (goes_on (s.place + 1)) acts)
      (result_together code L ids lengths counts m s ws CompositeConstruct t r is (Plain (Whole p.0)) (s.place + 1) a i
      (suits_like code m.known.facts t (Whole p.0) d.form both.0 d.is p.2) tt refl))

  pub extract_together : (s : State) (ws : List ℕ) (t r x : ℕ) (path : List ℕ) → Ready code L ids lengths s ws CompositeExtract (t ∷ r ∷ x ∷ path)
      → Follows code L ids lengths s.place ws (with_plain (s.ids x) (λ v. with_part (part v path) (λ w. Goes (gives s r (Plain w)))))
      (flat_act (extract_of code L t r x path) (s.place + 1) counts ws)
  unfolding extract_fits
  extract_together s ws t r x path a =
      let at = at_of code L ids lengths counts m s ws CompositeExtract (t ∷ r ∷ x ∷ path) a in
      let i : IsResult CompositeExtract = record { goes_on = refl; second = refl; valued = refl } in
      let of : ℕ = operand code x 0 in
      let all = three_parts (is_value code x) (is_data code of) (is_id (extract_end code of path) t)
      (rule code m.known.facts s CompositeExtract (t ∷ r ∷ x ∷ path) Extracting at refl) in
      let d = m.known.facts.data_shape of all.1 in
      let p = value_there code L ids lengths counts m s ws CompositeExtract (t ∷ r ∷ x ∷ path) 2 x of d.form a (record { stands = refl; role = refl }) all.0 refl all.1 d.is in
      let e = extracts code m.known.facts path of t (L.slot x) d.form d.is all.1 (id_is (extract_end code of path) t all.2) in
      let f = part-found p.value d.form e.of path (L.slot x) e.place p.like e.stands in
      let stands = subst (λ (w : Way). IsPart w (At e.place e.of) ws) f.1
      (subst (λ (q : Piece). IsPart (part p.value path) q ws) e.stands (part_stands p.value d.form path (L.slot x) ws p.of p.stands)) in
      let n : length (flat f.0) ≡ size_of code t = like_count f.0 e.of f.2 ∙ sym (data_size code t e.of m.known e.values e.is) in
      let inside : L.slot r + length (flat f.0) ≤ length ws = omega (arith, result_inside code L ids lengths counts m s ws CompositeExtract t r (x ∷ path) a i, n) in
      let acts : flat_act (extract_of code L t r x path) (s.place + 1) counts ws ≡ GoesTo (s.place + 1) (written ws (L.slot r) (flat f.0)) =
      ap (λ o. flat_act (if_some o Never (λ q. extract_by code L (piece q path (L.slot x)) r (size_of code t))) (s.place + 1) counts ws) d.is
      ∙ (ap (λ q. flat_act (extract_by code L q r (size_of code t)) (s.place + 1) counts ws) e.stands
      ∙ (ap (λ k. goes_on (s.place + 1) (copy_at ws e.place (L.slot r) k)) (sym n)
      ∙ ap (goes_on (s.place + 1)) (copied_is (flat f.0) ws e.place (L.slot r) stands.1 inside))) in
      follows_plain code L ids lengths s.place ws (s.ids x) p.value (λ v. with_part (part v path) (λ w. Goes (gives s r (Plain w)))) _ p.is
      (subst (λ (w : Way). Follows code L ids lengths s.place ws (with_part w (λ w. Goes (gives s r (Plain w)))) (flat_act (extract_of code L t r x path) (s.place + 1) counts ws)) (sym f.1)
      (follows_flat code L ids lengths s.place ws (Goes (gives s r (Plain f.0))) _ (GoesTo (s.place + 1) (written ws (L.slot r) (flat f.0))) acts
      (result_together code L ids lengths counts m s ws CompositeExtract t r (x ∷ path) (Plain f.0) (s.place + 1) a i
      (suits_like code m.known.facts t f.0 e.of e.values e.is f.2) tt refl)))
