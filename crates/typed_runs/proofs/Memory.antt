-- Variables, and what is loaded from them and stored to them, are of their types.
use Rattle.std.proofs.Common.{◌≡◌, ℕ, ◌+◌, ◌/◌, ◌⊎◌, inl, inr, Bool, true, false, ◌&&◌, cond, nat_eq, nat_le, List, [], ◌∷◌, Option, Some, None, MatchOption, slice_index, refl, sym, ap, subst, ◌∙◌, arith}
use Rattle.std.specs.Option.{option_map}
use Rattle.std.proofs.lemmas.Bool.{and_parts, and_from, or_cases, cond-true, cond_both, eqb-true, eq-eqb, leb-true, cases_eq}
use Rattle.behavior.specs.Values.{Value, Word, part, put_part, triple}
use Rattle.behavior.specs.Meanings.{Ids}
use Rattle.spirv_words.specs.declared.opcodes.Op.TheVariants.{Variable, Load, Store}
use Rattle.spirv_words.specs.declared.images.Instruction.{Instruction}
use Rattle.spirv_words.specs.Machine.{Shape, Words, Root, Local, Input, Operand, Plain, Path, InBuffer, pointed, result_of}
use Rattle.spirv_words.specs.Step.{State, Setting, Goes, Writes, IsStuck, level, gives, next, put, with_found, held, load, store, act}
use Rattle.spirv_words.specs.Runs.{setting, built_ins}
use Rattle.image_lookup.specs.Lookups.{sort, operand, is_value}
use Rattle.image_declarations.specs.Reach.{is_buffer_class}
use Rattle.image_declarations.specs.Holdings.{has_type, is_data}
use Rattle.image_operands.specs.Operators.{is_int}
use Rattle.image_operands.specs.Marks.{is_variable, is_variable_sort}
use Rattle.image_operands.specs.Memory.{is_pointer, loads, stores, load_fits, store_fits, global_fits}
use Rattle.image_types.specs.declared.rules.Rule.TheVariants.{OfVariable, Loading, Storing}
use Rattle.image_types.specs.Functions.{variable_fits}
use Rattle.image_types.specs.Checking.{context_at}
use Rattle.image_facts.specs.Alike.{IsLike}
use Rattle.image_facts.specs.Operands.{shape, is_local, built_in_shape, root_shape, IsClassOf, Suits}
use Rattle.image_facts.proofs.Likes.{part-found, put-found}
use Rattle.typed_runs.specs.States.{AreHeld, IsTyped, Keeps}
use Rattle.typed_runs.proofs.Facts.{Facts}
use Rattle.typed_runs.proofs.Types.{of_int, of_pointer, three_parts, four_parts, typed_as}
use Rattle.typed_runs.proofs.Going.{At, goes, gives_typed, result_there, made_operands, made_sort}
use Rattle.typed_runs.proofs.Operands.{keeps_some, keeps_plain, keeps_word, likely, word_of, pointer_of, suits_word, suits_like}
use Rattle.typed_runs.proofs.Operators.{rule}

-- ---- built-in values

-- the value of a built-in, like its shape
record IsBuiltIn (ids : Ids) (b : ℕ) : Type 0 where
  value : Value
  is : built_ins ids b ≡ Some value
  like : IsLike value (built_in_shape b)

four_numbers : (b : ℕ) → nat_le 26 b ≡ true → nat_le b 29 ≡ true → (b ≡ 26) ⊎ ((b ≡ 27) ⊎ ((b ≡ 28) ⊎ (b ≡ 29)))
four_numbers b low high = go (cases_eq b 26) (cases_eq b 27) (cases_eq b 28)
  where
    go : (b ≡ 26) ⊎ (b ≡ 26 → ⊥) → (b ≡ 27) ⊎ (b ≡ 27 → ⊥) → (b ≡ 28) ⊎ (b ≡ 28 → ⊥) → (b ≡ 26) ⊎ ((b ≡ 27) ⊎ ((b ≡ 28) ⊎ (b ≡ 29)))
    go (inl e) f g = inl e
    go (inr e) (inl f) g = inr (inl f)
    go (inr e) (inr f) (inl g) = inr (inr (inl g))
    go (inr e) (inr f) (inr g) =
        let l = leb-true 26 b low in
        let h = leb-true b 29 high in
        inr (inr (inr (omega arith)))

one_built_in : (ids : Ids) (b : ℕ) → (b ≡ 26) ⊎ ((b ≡ 27) ⊎ ((b ≡ 28) ⊎ (b ≡ 29))) → IsBuiltIn ids b
one_built_in ids b (inl e) = subst (IsBuiltIn ids) (sym e) (record { value = triple ids.group; is = refl; like = (tt, (tt, (tt, tt))) })
one_built_in ids b (inr (inl e)) = subst (IsBuiltIn ids) (sym e) (record { value = triple ids.local; is = refl; like = (tt, (tt, (tt, tt))) })
one_built_in ids b (inr (inr (inl e))) = subst (IsBuiltIn ids) (sym e) (record { value = triple ids.global; is = refl; like = (tt, (tt, (tt, tt))) })
one_built_in ids b (inr (inr (inr e))) = subst (IsBuiltIn ids) (sym e) (record { value = Word ids.index; is = refl; like = tt })

-- ---- roots

-- what a root holds is like its shape
pub record IsHeld (m : Setting) (s : State) (root : Root) (whole : Shape) : Type 0 where
  pub value : Value
  pub is : held m s root ≡ Some value
  pub like : IsLike value whole

pub matched : {A : Type 0} (o : Option A) (a : A) (P : A → Type 0) → o ≡ Some a → MatchOption o ⊥ P → P a
matched (Some b) a P e h = let f : b ≡ a = cc in subst P f h
matched None a P e h = absurd h

pub match_some : {A : Type 0} (o : Option A) (a : A) (P : A → Type 0) → o ≡ Some a → P a → MatchOption o ⊥ P
match_some o a P e h = subst (λ x. MatchOption x ⊥ P) (sym e) h

module _ (code : List Instruction) (facts : Facts code) (ids : Ids) (lengths : ℕ → ℕ → ℕ) where
  pub root_holds : (s : State) (root : Root) (whole : Shape) (class : ℕ) → IsTyped code s → IsClassOf code root class → root_shape code root ≡ Some whole
      → IsHeld (setting code ids lengths) s root whole
  root_holds s (Local l x) whole class typed c e = record {
    value = s.memory l x;
    is = refl;
    like = matched (root_shape code (Local l x)) whole (λ f. IsLike (s.memory l x) f) e (typed.held l x c.1);
  }
  root_holds s (Input b) whole class typed c e =
      let range = and_parts (nat_le 26 b) (nat_le b 29) c.1 in
      let v = one_built_in ids b (four_numbers b range.0 range.1) in
      let f : built_in_shape b ≡ whole = cc in
      record { value = v.value; is = v.is; like = subst (IsLike v.value) f v.like }

  -- ---- variables

  pub variable_keeps : (s : State) (t r class : ℕ) → At code s Variable (t ∷ r ∷ class ∷ [])
      → Keeps code (act (setting code ids lengths) Variable (t ∷ r ∷ class ∷ []) s)
  unfolding variable_fits
  variable_keeps s t r class a =
      let of : ℕ = operand code t 2 in
      let inner : Bool = nat_eq class 7 && is_data code of in
      let all = three_parts (is_pointer code t) (nat_eq (operand code t 1) class) (cond (context_at code s.place).inside inner (global_fits code class of r))
      (rule code facts s Variable (t ∷ r ∷ class ∷ []) OfVariable a refl) in
      let w = facts.within s.place a.typed.run in
      let both = and_parts (nat_eq class 7) (is_data code of) (sym (cond-true (context_at code s.place).inside inner (global_fits code class of r) w.inside) ∙ all.2) in
      let d = facts.data_shape of both.1 in
      let here = result_there code facts s.place r t Variable (class ∷ []) a.stands refl in
      let i : Instruction = record { op = Variable; operands = t ∷ r ∷ class ∷ [] } in
      let third : operand code r 2 ≡ class = ap (λ l. slice_index l 2) (made_operands code s.place r i a.stands here.1) in
      let holder : is_variable code r ≡ true = ap is_variable_sort (made_sort code s.place r i a.stands here.1) in
      let seven : class ≡ 7 = eqb-true class 7 both.0 in
      let local : is_local code r ≡ true = and_from (is_variable code r) (nat_eq (operand code r 2) 7) holder (eq-eqb (operand code r 2) 7 (third ∙ seven)) in
      let whole : root_shape code (Local (level s) r) ≡ Some d.form =
      ap (λ x. option_map pointed (shape code x)) here.2
      ∙ ap (option_map pointed) (facts.shape_pointer t d.form (of_pointer (sort code t) all.0) d.is) in
      subst (λ b. Keeps code (cond b (Goes (gives s r (Path (Local (level s) r) []))) IsStuck)) (sym both.0)
      (gives_typed code facts s Variable (class ∷ []) t r (Path (Local (level s) r) []) a refl refl (record {
        leads = all.0;
        class = (eqb-true (operand code t 1) class all.1 ∙ seven, local);
        whole = d.form;
        holds = whole;
        plain = d.plain;
        place = 0;
        part = d.form;
        found = refl;
        is = d.is;
      }))

  -- ---- loads

  -- a word lies where a word's type leads
  words_there : (t : ℕ) (s : Shape) → is_int code t ≡ true → shape code t ≡ Some s → Words (nat_eq (operand code t 2) 1) ≡ s
  words_there t s i e =
      let f : Some (Words (nat_eq (operand code t 2) 1)) ≡ Some s = sym (facts.shape_int t (of_int (sort code t) i)) ∙ e in
      cc

  buffer_loads : (class t : ℕ) → is_buffer_class class ≡ true → loads code class t ≡ true → is_int code t ≡ true
  buffer_loads class t b l = either (or_cases (nat_eq class 2) (nat_eq class 12) b)
    where
      either : (nat_eq class 2 ≡ true) ⊎ (nat_eq class 12 ≡ true) → is_int code t ≡ true
      either (inl e) = ap (λ c. loads code c t) (sym (eqb-true class 2 e)) ∙ l
      either (inr e) = ap (λ c. loads code c t) (sym (eqb-true class 12 e)) ∙ l

  variable_loads : (root : Root) (class t : ℕ) → IsClassOf code root class → loads code class t ≡ true → is_data code t ≡ true
  variable_loads (Local level x) class t c l = ap (λ c. loads code c t) (sym c.0) ∙ l
  variable_loads (Input b) class t c l = ap (λ c. loads code c t) (sym c.0) ∙ l

  load_case : (s : State) (t r p of : ℕ) (o : Operand) → At code s Load (t ∷ r ∷ p ∷ []) → Suits code o of → is_pointer code of ≡ true
      → operand code of 2 ≡ t → loads code (operand code of 1) t ≡ true → Keeps code (load (setting code ids lengths) s r (Some o))
  load_case s t r p of (Plain v) a h pointer e l = absurd (facts.no_pointer of h.has_values pointer)
  load_case s t r p of (Path root path) a h pointer e l =
      let d = variable_loads root (operand code of 1) t h.class l in
      let v = root_holds s root h.whole (operand code of 1) a.typed h.class h.holds in
      let f = part-found v.value h.whole h.part path 0 h.place v.like h.found in
      keeps_some code (held (setting code ids lengths) s root) v.value (λ x. with_found (part x path) (λ w. Goes (gives s r (Plain w)))) v.is
      (subst (λ x. Keeps code (with_found x (λ w. Goes (gives s r (Plain w))))) (sym f.1)
      (gives_typed code facts s Load (p ∷ []) t r (Plain f.0) a refl refl (suits_like code facts t f.0 h.part d (ap (shape code) (sym e) ∙ h.is) f.2)))
  load_case s t r p of (InBuffer set binding byte form) a h pointer e l =
      let i = buffer_loads (operand code of 1) t h.class l in
      subst (λ x. Keeps code (load (setting code ids lengths) s r (Some (InBuffer set binding byte x)))) (words_there t form i (ap (shape code) (sym e) ∙ h.is))
      (λ w. gives_typed code facts s Load (p ∷ []) t r (Plain (Word w)) a refl refl (suits_word code facts t w i))

  pub load_keeps : (s : State) (t r p : ℕ) → At code s Load (t ∷ r ∷ p ∷ []) → Keeps code (act (setting code ids lengths) Load (t ∷ r ∷ p ∷ []) s)
  unfolding load_fits
  load_keeps s t r p a =
      let of : ℕ = operand code p 0 in
      let all = four_parts (is_value code p) (is_pointer code of) (nat_eq (operand code of 2) t) (loads code (operand code of 1) t)
      (rule code facts s Load (t ∷ r ∷ p ∷ []) Loading a refl) in
      let o = pointer_of code facts s Load (t ∷ r ∷ p ∷ []) 2 p of a (record { stands = refl; role = refl }) all.0 refl all.1 in
      subst (λ x. Keeps code (load (setting code ids lengths) s r x)) (sym o.1)
      (load_case s t r p of o.0 a o.2 all.1 (eqb-true (operand code of 2) t all.2) all.3)

  -- ---- stores

  buffer_stores : (class t : ℕ) → is_buffer_class class ≡ true → stores code class t ≡ true → is_int code t ≡ true
  buffer_stores class t b l = either (or_cases (nat_eq class 2) (nat_eq class 12) b)
    where
      either : (nat_eq class 2 ≡ true) ⊎ (nat_eq class 12 ≡ true) → is_int code t ≡ true
      either (inl e) = let f : false ≡ true = ap (λ c. stores code c t) (sym (eqb-true class 2 e)) ∙ l in cc
      either (inr e) = ap (λ c. stores code c t) (sym (eqb-true class 12 e)) ∙ l

  -- a variable that holds another value of its shape
  put_held : (memory : ℕ → ℕ → Value) (level x : ℕ) (v : Value) (whole : Shape) → AreHeld code memory → root_shape code (Local level x) ≡ Some whole
      → IsLike v whole → AreHeld code (put memory level x v)
  put_held memory level x v whole h e l = λ k y local.
      cond_both (nat_eq k level) (cond (nat_eq y x) v (memory k y)) (memory k y) (λ z. MatchOption (root_shape code (Local k y)) ⊥ (λ f. IsLike z f))
      (λ _. cond_both (nat_eq y x) v (memory k y) (λ z. MatchOption (root_shape code (Local k y)) ⊥ (λ f. IsLike z f))
      (λ g. match_some (root_shape code (Local k y)) whole (λ f. IsLike v f) (ap (λ z. root_shape code (Local level z)) (eqb-true y x g) ∙ e) l)
      (λ _. h k y local))
      (λ _. h k y local)

  no_result : (p v x : ℕ) → result_of Store (p ∷ v ∷ []) ≡ Some x → is_value code x ≡ true → ⊥
  no_result p v x e h = cc

  store_case : (s : State) (p v of : ℕ) (o : Operand) → At code s Store (p ∷ v ∷ []) → Suits code o of → is_pointer code of ≡ true
      → has_type code v (operand code of 2) ≡ true → stores code (operand code of 1) (operand code of 2) ≡ true
      → Keeps code (store (setting code ids lengths) s (Some o) (s.ids v))
  store_case s p v of (Plain w) a h pointer t l = absurd (facts.no_pointer of h.has_values pointer)
  store_case s p v of (Path (Local level x) path) a h pointer t l =
      let d : is_data code (operand code of 2) ≡ true = ap (λ c. stores code c (operand code of 2)) (sym h.class.0) ∙ l in
      let g = typed_as code v (operand code of 2) t in
      let w = likely code facts s Store (p ∷ v ∷ []) 1 v (operand code of 2) h.part a (record { stands = refl; role = refl }) g.0 g.1 d h.is in
      let f = put-found (s.memory level x) w.value h.whole h.part path 0 h.place
      (matched (root_shape code (Local level x)) h.whole (λ f. IsLike (s.memory level x) f) h.holds (a.typed.held level x h.class.1)) w.like h.found in
      keeps_plain code (s.ids v) w.value (λ y. with_found (put_part (s.memory level x) path y) (λ z.
      Goes (record { place = s.place + 1; ids = s.ids; below = s.below; memory = put s.memory level x z }))) w.is
      (subst (λ y. Keeps code (with_found y (λ z. Goes (record { place = s.place + 1; ids = s.ids; below = s.below; memory = put s.memory level x z }))))
      (sym f.1)
      (goes code facts s Store (p ∷ v ∷ []) a refl (no_result p v) (put s.memory level x f.0)
      (put_held s.memory level x f.0 h.whole a.typed.held h.holds f.2)))
  store_case s p v of (Path (Input b) path) a h pointer t l =
      let f : false ≡ true = ap (λ c. stores code c (operand code of 2)) (sym h.class.0) ∙ l in
      cc
  store_case s p v of (InBuffer set binding byte form) a h pointer t l =
      let i = buffer_stores (operand code of 1) (operand code of 2) h.class l in
      let g = typed_as code v (operand code of 2) t in
      let w = word_of code facts s Store (p ∷ v ∷ []) 1 v (operand code of 2) a (record { stands = refl; role = refl }) g.0 g.1 i in
      subst (λ x. Keeps code (store (setting code ids lengths) s (Some (InBuffer set binding byte x)) (s.ids v)))
      (words_there (operand code of 2) form i h.is)
      (keeps_word code (s.ids v) w.0 (λ x. Writes set binding (byte / 4) x (next s)) w.1
      (goes code facts s Store (p ∷ v ∷ []) a refl (no_result p v) s.memory a.typed.held))

  pub store_keeps : (s : State) (p v : ℕ) → At code s Store (p ∷ v ∷ []) → Keeps code (act (setting code ids lengths) Store (p ∷ v ∷ []) s)
  unfolding store_fits
  store_keeps s p v a =
      let of : ℕ = operand code p 0 in
      let all = four_parts (is_value code p) (is_pointer code of) (has_type code v (operand code of 2)) (stores code (operand code of 1) (operand code of 2))
      (rule code facts s Store (p ∷ v ∷ []) Storing a refl) in
      let o = pointer_of code facts s Store (p ∷ v ∷ []) 0 p of a (record { stands = refl; role = refl }) all.0 refl all.1 in
      subst (λ x. Keeps code (store (setting code ids lengths) s x (s.ids v))) (sym o.1) (store_case s p v of o.0 a o.2 all.1 all.2 all.3)
