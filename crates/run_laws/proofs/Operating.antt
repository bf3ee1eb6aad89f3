-- What operators do to values, their actions do to words.
use Rattle.std.proofs.Common.{◌≡◌, ℕ, suc, ◌+◌, ◌*◌, ◌<◌, ◌≤◌, ◌⊎◌, inl, inr, Bool, true, false, not, ◌&&◌, cond, nat_eq, List, [], ◌∷◌, length, map, Option, Some, None, refl, sym, ap, subst, ◌∙◌, arith}
use Rattle.std.specs.Prelude.{nat_lt, nat_le}
use Rattle.std.proofs.lemmas.Bool.{and_parts, eqb-true}
use Rattle.behavior.specs.Values.{Value, Truth, Word, Way, Found, Outside, Wrong}
use Rattle.behavior.specs.Meanings.{Ids}
use Rattle.behavior.specs.Operations.{word_slt, word_sle}
use Rattle.spirv_words.specs.declared.opcodes.Op.{Op}
use Rattle.spirv_words.specs.declared.opcodes.Op.TheVariants.{Bitcast, LogicalNot}
use Rattle.spirv_words.specs.declared.images.Instruction.{Instruction}
use Rattle.spirv_words.specs.Machine.{Shape, Truths, Words, Repeated, Operand, Plain, if_some}
use Rattle.spirv_words.specs.Step.{State, Turn, Goes, IsUndefined, gives, word_way, each_word, both_words, unary, binary, compare, compare_truths, same_truth, with_plain, with_word, with_truth, with_found}
use Rattle.flat_values.specs.declared.operators.Unary.{Unary}
use Rattle.flat_values.specs.declared.operators.Unary.TheVariants.{Flip}
use Rattle.flat_values.specs.declared.operators.Binary.{Binary}
use Rattle.flat_values.specs.Operators.{word_of, unary_of, binary_of}
use Rattle.flat_values.specs.Flat.{flat, width, IsOf}
use Rattle.flat_values.specs.Lanes.{AreAlike, GivesWords, IsOutcome, each_of, both_of}
use Rattle.flat_values.specs.Ranges.{Stands, written}
use Rattle.flat_values.proofs.Lanes.{one_operand, two_operands}
use Rattle.run_actions.specs.declared.actions.Move.{Move}
use Rattle.run_actions.specs.Ranges.{is_apart, copy_at, one_at}
use Rattle.run_actions.specs.Steps.{FlatTurn, Goes as GoesTo, IsUndefined as IsUndefinedHere, goes_on, two}
use Rattle.action_laws.proofs.Acts.{copied_is, one_is, two_is_defined, two_is_undefined}
use Rattle.image_lookup.specs.Lookups.{sort, operand, is_value}
use Rattle.image_places.specs.Roles.{role_of, text_end}
use Rattle.image_places.specs.declared.roles.Role.TheVariants.{Use}
use Rattle.image_declarations.specs.Holdings.{is_data, has_type}
use Rattle.image_operands.specs.declared.operators.Numbers.{Numbers}
use Rattle.image_operands.specs.declared.operators.Numbers.TheVariants.{Either}
use Rattle.image_operands.specs.Operators.{is_bool, is_int, is_number, lanes, suits, unary_fits, binary_fits, shift_fits, comparison_fits, negation_fits, logical_fits, bits_fit}
use Rattle.image_types.specs.declared.rules.Rule.TheVariants.{Unary as OfUnary, Binary as OfBinary, Shift, Comparison, Logical, Negation, Bits}
use Rattle.image_types.specs.Rules.{rule_of}
use Rattle.image_facts.specs.Alike.{IsLike}
use Rattle.image_facts.specs.Operands.{shape}
use Rattle.image_facts.proofs.Likes.{of-like}
use Rattle.typed_runs.proofs.Lanes.{alike_like, alike_same}
use Rattle.typed_runs.proofs.Types.{of_bool, three_parts, four_parts, five_parts, typed_as, numbers, lanes_words, lanes_alike, HasLanes}
use Rattle.typed_runs.proofs.Operands.{Uses, suits_truth, suits_like}
use Rattle.typed_runs.proofs.Operators.{rule}
use Rattle.run_rooms.specs.Rooms.{Rooms, size_of, slot_size}
use Rattle.run_laws.specs.Together.{Together, Follows}
use Rattle.image_scopes.specs.Scopes.{IsSeen}
use Rattle.run_laws.proofs.Counting.{like_count, data_size}
use Rattle.run_laws.proofs.Bounds.{unary_small, binary_small, each_total}
use Rattle.run_laws.proofs.Writing.{Setup}
use Rattle.run_laws.proofs.Acting.{Ready, IsResult, at_of, result_inside, operand_is_apart, result_together}
use Rattle.run_laws.proofs.Operands.{follows_plain, follows_word, follows_truth, follows_flat, IsThere, value_there, IsWordThere, word_there, IsTruthThere, truth_there}

-- an operator with a type, a result and two operands that are used, or one
pub record IsOperator (op : Op) (os : List ℕ) : Type 0 where
  pub result : IsResult op
  pub third : role_of op (text_end op os) 2 ≡ Use
  pub fourth : role_of op (text_end op os) 3 ≡ Use

-- shapes that are alike have as many words
alike_width : (s t : Shape) → AreAlike s t → width s ≡ width t
alike_width (Words a) (Words b) h = refl
alike_width (Repeated n stride of) (Repeated n' stride' of') h =
    ap (λ k. k * width of) h.0 ∙ ap (λ k. n' * k) (alike_width of of' h.1)
alike_width s t h = absurd h

module _ (code : List Instruction) (L : Rooms) (ids : Ids) (lengths : ℕ → ℕ → ℕ) (counts : List ℕ) (m : Setup code L lengths counts) where
  -- a value as a result, by its words
  value_goes : (s : State) (ws : List ℕ) (op : Op) (t r : ℕ) (os : List ℕ) (v : Value) (form : Shape) (xs : List ℕ)
      → Ready code L ids lengths s ws op (t ∷ r ∷ os) → IsResult op → is_data code t ≡ true → shape code t ≡ Some form → IsLike v form
      → flat v ≡ xs → Together code L ids lengths (gives s r (Plain v)) (s.place + 1) (written ws (L.slot r) xs)
  value_goes s ws op t r os v form xs a i d e l f =
      subst (λ (y : List ℕ). Together code L ids lengths (gives s r (Plain v)) (s.place + 1) (written ws (L.slot r) y)) f
      (result_together code L ids lengths counts m s ws op t r os (Plain v) (s.place + 1) a i (suits_like code m.known.facts t v form d e l) tt refl)

  -- ---- one operand

  one_by : (s : State) (ws : List ℕ) (op : Op) (t r : ℕ) (os : List ℕ) (form : Shape) (way : Way) (xs : List ℕ)
      → Ready code L ids lengths s ws op (t ∷ r ∷ os) → IsResult op → is_data code t ≡ true → shape code t ≡ Some form
      → IsOutcome way (Some xs) form
      → Follows code L ids lengths s.place ws (with_found way (λ w. Goes (gives s r (Plain w)))) (GoesTo (s.place + 1) (written ws (L.slot r) xs))
  one_by s ws op t r os form (Found v) xs a i d e h = value_goes s ws op t r os v form xs a i d e (of-like v form h.0) h.1
  one_by s ws op t r os form Outside xs a i d e h = absurd h
  one_by s ws op t r os form Wrong xs a i d e h = absurd h

  pub one_case : (s : State) (ws : List ℕ) (op : Op) (u : Unary) (t r x : ℕ) → Ready code L ids lengths s ws op (t ∷ r ∷ x ∷ [])
      → rule_of op ≡ OfUnary → IsOperator op (t ∷ r ∷ x ∷ [])
      → Follows code L ids lengths s.place ws (unary s r (s.ids x) (λ y. Found (Word (unary_of u y))))
      (goes_on (s.place + 1) (one_at u ws (L.slot x) (L.slot r) (size_of code t)))
  unfolding unary_fits
  one_case s ws op u t r x a e o =
      let fits = and_parts (is_number code Either t) (has_type code x t) (rule code m.known.facts s op (t ∷ r ∷ x ∷ []) OfUnary (at_of code L ids lengths counts m s ws op (t ∷ r ∷ x ∷ []) a) e) in
      let n = numbers code m.known.facts Either t fits.0 in
      let h = typed_as code x t fits.1 in
      let p = value_there code L ids lengths counts m s ws op (t ∷ r ∷ x ∷ []) 2 x t n.form a (record { stands = refl; role = o.third }) h.0 h.1 n.values n.is in
      let xs = flat p.value in
      let outcome = subst (λ (y : Option (List ℕ)). IsOutcome (each_word (λ y. word_way (Some (unary_of u y))) p.value) y n.form) (each_total (unary_of u) xs)
      (one_operand (λ y. Some (unary_of u y)) p.value n.form (λ y l. unary_small u y l) p.of (lanes_words n.form _ n.laned)) in
      let inside : L.slot r + length xs ≤ length ws = omega (arith, result_inside code L ids lengths counts m s ws op t r (x ∷ []) a o.result, p.count) in
      let apart = subst (λ (k : ℕ). is_apart (L.slot x) (L.slot r) k ≡ true) (sym p.count) (operand_is_apart code L ids lengths counts m s ws op t r (x ∷ []) x a o.result p.seen p.size) in
      let acts : goes_on (s.place + 1) (one_at u ws (L.slot x) (L.slot r) (size_of code t)) ≡ GoesTo (s.place + 1) (written ws (L.slot r) (map (unary_of u) xs)) =
      ap (λ k. goes_on (s.place + 1) (one_at u ws (L.slot x) (L.slot r) k)) (sym p.count)
      ∙ ap (goes_on (s.place + 1)) (one_is u xs ws (L.slot x) (L.slot r) p.stands inside apart) in
      follows_plain code L ids lengths s.place ws (s.ids x) p.value (λ v. with_found (each_word (λ y. Found (Word (unary_of u y))) v) (λ w. Goes (gives s r (Plain w))))
      (goes_on (s.place + 1) (one_at u ws (L.slot x) (L.slot r) (size_of code t))) p.is
      (follows_flat code L ids lengths s.place ws _ _ _ acts
      (one_by s ws op t r (x ∷ []) n.form (each_word (λ y. Found (Word (unary_of u y))) p.value) (map (unary_of u) xs) a o.result n.values n.is outcome))

  -- ---- two operands

  two_by : (s : State) (ws : List ℕ) (op : Op) (b : Binary) (t u r x y : ℕ) (form other : Shape) (p : IsThere code L s ws x t form)
      (q : IsThere code L s ws y u other) (way : Way) (xs : Option (List ℕ))
      → Ready code L ids lengths s ws op (t ∷ r ∷ x ∷ y ∷ []) → IsResult op → is_data code t ≡ true → shape code t ≡ Some form
      → (length (flat p.value) ≡ length (flat q.value)) × (both_of (binary_of b) (flat p.value) (flat q.value) ≡ xs) → IsOutcome way xs form
      → L.slot r + length (flat p.value) ≤ length ws
      → is_apart (L.slot x) (L.slot r) (length (flat p.value)) ≡ true → is_apart (L.slot y) (L.slot r) (length (flat p.value)) ≡ true
      → Follows code L ids lengths s.place ws (with_found way (λ w. Goes (gives s r (Plain w))))
      (two b (s.place + 1) ws (L.slot x) (L.slot y) (L.slot r) (length (flat p.value)))
  two_by s ws op b t u r x y form other p q (Found v) (Some xs) a i d e g h inside one more =
      follows_flat code L ids lengths s.place ws (Goes (gives s r (Plain v))) _ _
      (two_is_defined b (flat p.value) (flat q.value) xs ws (s.place + 1) (L.slot x) (L.slot y) (L.slot r) p.stands q.stands g.0 inside one more g.1)
      (value_goes s ws op t r (x ∷ y ∷ []) v form xs a i d e (of-like v form h.0) h.1)
  two_by s ws op b t u r x y form other p q Outside None a i d e g h inside one more =
      follows_flat code L ids lengths s.place ws IsUndefined _ IsUndefinedHere
      (two_is_undefined b (flat p.value) (flat q.value) ws (s.place + 1) (L.slot x) (L.slot y) (L.slot r) p.stands q.stands g.0 inside one more g.1)
      tt
  two_by s ws op b t u r x y form other p q (Found v) None a i d e g h inside one more = absurd h
  two_by s ws op b t u r x y form other p q Outside (Some xs) a i d e g h inside one more = absurd h
  two_by s ws op b t u r x y form other p q Wrong xs a i d e g h inside one more = absurd h

  two_case : (s : State) (ws : List ℕ) (op : Op) (b : Binary) (t u r x y : ℕ) (form other : Shape) → IsThere code L s ws x t form
      → IsThere code L s ws y u other → Ready code L ids lengths s ws op (t ∷ r ∷ x ∷ y ∷ []) → IsResult op → is_data code t ≡ true
      → shape code t ≡ Some form → AreAlike form other → size_of code u ≡ size_of code t
      → Follows code L ids lengths s.place ws (binary s r (s.ids x) (s.ids y) (λ v w. word_way (binary_of b v w)))
      (two b (s.place + 1) ws (L.slot x) (L.slot y) (L.slot r) (size_of code t))
  two_case s ws op b t u r x y form other p q a i d e alike same =
      let outcome = two_operands (binary_of b) p.value q.value form other (binary_small b) p.of q.of alike in
      let inside : L.slot r + length (flat p.value) ≤ length ws = omega (arith, result_inside code L ids lengths counts m s ws op t r (x ∷ y ∷ []) a i, p.count) in
      let one = subst (λ (k : ℕ). is_apart (L.slot x) (L.slot r) k ≡ true) (sym p.count)
      (operand_is_apart code L ids lengths counts m s ws op t r (x ∷ y ∷ []) x a i p.seen p.size) in
      let more = subst (λ (k : ℕ). is_apart (L.slot y) (L.slot r) k ≡ true) (sym p.count)
      (operand_is_apart code L ids lengths counts m s ws op t r (x ∷ y ∷ []) y a i q.seen (q.size ∙ same)) in
      let n : length (flat p.value) ≡ length (flat q.value) = p.count ∙ (sym same ∙ sym q.count) in
      follows_plain code L ids lengths s.place ws (s.ids x) p.value
      (λ v. with_plain (s.ids y) (λ w. with_found (both_words (λ j k. word_way (binary_of b j k)) v w) (λ z. Goes (gives s r (Plain z)))))
      (two b (s.place + 1) ws (L.slot x) (L.slot y) (L.slot r) (size_of code t)) p.is
      (follows_plain code L ids lengths s.place ws (s.ids y) q.value
      (λ w. with_found (both_words (λ j k. word_way (binary_of b j k)) p.value w) (λ z. Goes (gives s r (Plain z))))
      (two b (s.place + 1) ws (L.slot x) (L.slot y) (L.slot r) (size_of code t)) q.is
      (subst (λ (k : ℕ). Follows code L ids lengths s.place ws
      (with_found (both_words (λ j k. word_way (binary_of b j k)) p.value q.value) (λ z. Goes (gives s r (Plain z))))
      (two b (s.place + 1) ws (L.slot x) (L.slot y) (L.slot r) k)) p.count
      (two_by s ws op b t u r x y form other p q (both_words (λ j k. word_way (binary_of b j k)) p.value q.value)
      (both_of (binary_of b) (flat p.value) (flat q.value)) a i d e (n, refl) outcome inside one more)))

  pub binary_case : (s : State) (ws : List ℕ) (op : Op) (n : Numbers) (b : Binary) (t r x y : ℕ) → Ready code L ids lengths s ws op (t ∷ r ∷ x ∷ y ∷ [])
      → rule_of op ≡ OfBinary n → IsOperator op (t ∷ r ∷ x ∷ y ∷ [])
      → Follows code L ids lengths s.place ws (binary s r (s.ids x) (s.ids y) (λ v w. word_way (binary_of b v w)))
      (two b (s.place + 1) ws (L.slot x) (L.slot y) (L.slot r) (size_of code t))
  unfolding binary_fits
  binary_case s ws op n b t r x y a e o =
      let at = at_of code L ids lengths counts m s ws op (t ∷ r ∷ x ∷ y ∷ []) a in
      let fits = three_parts (is_number code n t) (has_type code x t) (has_type code y t) (rule code m.known.facts s op (t ∷ r ∷ x ∷ y ∷ []) (OfBinary n) at e) in
      let k = numbers code m.known.facts n t fits.0 in
      let g = typed_as code x t fits.1 in
      let h = typed_as code y t fits.2 in
      let p = value_there code L ids lengths counts m s ws op (t ∷ r ∷ x ∷ y ∷ []) 2 x t k.form a (record { stands = refl; role = o.third }) g.0 g.1 k.values k.is in
      let q = value_there code L ids lengths counts m s ws op (t ∷ r ∷ x ∷ y ∷ []) 3 y t k.form a (record { stands = refl; role = o.fourth }) h.0 h.1 k.values k.is in
      two_case s ws op b t t r x y k.form k.form p q a o.result k.values k.is (alike_same k.form (lanes_words k.form _ k.laned)) refl

  pub shift_case : (s : State) (ws : List ℕ) (op : Op) (n : Numbers) (b : Binary) (t r x y : ℕ) → Ready code L ids lengths s ws op (t ∷ r ∷ x ∷ y ∷ [])
      → rule_of op ≡ Shift n → IsOperator op (t ∷ r ∷ x ∷ y ∷ [])
      → Follows code L ids lengths s.place ws (binary s r (s.ids x) (s.ids y) (λ v w. word_way (binary_of b v w)))
      (two b (s.place + 1) ws (L.slot x) (L.slot y) (L.slot r) (size_of code t))
  unfolding shift_fits
  shift_case s ws op n b t r x y a e o =
      let at = at_of code L ids lengths counts m s ws op (t ∷ r ∷ x ∷ y ∷ []) a in
      let of : ℕ = operand code y 0 in
      let fits = five_parts (is_number code n t) (has_type code x t) (is_value code y) (is_number code Either of) (nat_eq (lanes code of) (lanes code t))
      (rule code m.known.facts s op (t ∷ r ∷ x ∷ y ∷ []) (Shift n) at e) in
      let k = numbers code m.known.facts n t fits.0 in
      let l = numbers code m.known.facts Either of fits.3 in
      let g = typed_as code x t fits.1 in
      let p = value_there code L ids lengths counts m s ws op (t ∷ r ∷ x ∷ y ∷ []) 2 x t k.form a (record { stands = refl; role = o.third }) g.0 g.1 k.values k.is in
      let q = value_there code L ids lengths counts m s ws op (t ∷ r ∷ x ∷ y ∷ []) 3 y of l.form a (record { stands = refl; role = o.fourth }) fits.2 refl l.values l.is in
      let same : lanes code of ≡ lanes code t = eqb-true (lanes code of) (lanes code t) fits.4 in
      let alike = lanes_alike k.form l.form (lanes code t) k.laned (subst (HasLanes l.form) same l.laned) in
      two_case s ws op b t of r x y k.form l.form p q a o.result k.values k.is alike
      (data_size code of l.form m.known l.values l.is ∙ (sym (alike_width k.form l.form alike) ∙ sym (data_size code t k.form m.known k.values k.is)))

  -- ---- comparisons

  truth_from : (s : State) (ws : List ℕ) (op : Op) (b : Binary) (t r : ℕ) (os : List ℕ) (x y v w : ℕ) (c : Bool)
      → Ready code L ids lengths s ws op (t ∷ r ∷ os) → IsResult op → is_bool code t ≡ true
      → Stands (v ∷ []) (L.slot x) ws → Stands (w ∷ []) (L.slot y) ws → slot_size code x ≡ 1 → slot_size code y ≡ 1
      → IsSeen code s.place x → IsSeen code s.place y → binary_of b v w ≡ Some (word_of c)
      → Follows code L ids lengths s.place ws (Goes (gives s r (Plain (Truth c)))) (two b (s.place + 1) ws (L.slot x) (L.slot y) (L.slot r) (size_of code t))
  truth_from s ws op b t r os x y v w c a i f sx sy nx ny px py e =
      let k = of_bool (sort code t) f in
      let n : size_of code t ≡ 1 = data_size code t Truths m.known (m.known.facts.bool_data t k) (m.known.facts.shape_bool t k) in
      let inside : L.slot r + 1 ≤ length ws = omega (arith, result_inside code L ids lengths counts m s ws op t r os a i, n) in
      let one = subst (λ (j : ℕ). is_apart (L.slot x) (L.slot r) j ≡ true) n
      (operand_is_apart code L ids lengths counts m s ws op t r os x a i px (nx ∙ sym n)) in
      let more = subst (λ (j : ℕ). is_apart (L.slot y) (L.slot r) j ≡ true) n
      (operand_is_apart code L ids lengths counts m s ws op t r os y a i py (ny ∙ sym n)) in
      follows_flat code L ids lengths s.place ws (Goes (gives s r (Plain (Truth c)))) _ (GoesTo (s.place + 1) (written ws (L.slot r) (word_of c ∷ [])))
      (ap (two b (s.place + 1) ws (L.slot x) (L.slot y) (L.slot r)) n
      ∙ two_is_defined b (v ∷ []) (w ∷ []) (word_of c ∷ []) ws (s.place + 1) (L.slot x) (L.slot y) (L.slot r) sx sy refl inside one more
      (ap (λ o. if_some o None (λ z. Some (z ∷ []))) e))
      (result_together code L ids lengths counts m s ws op t r os (Plain (Truth c)) (s.place + 1) a i (suits_truth code m.known.facts t c f) tt refl)

  -- two words that a comparison takes, and that its result is a bool
  pub record IsComparison (s : State) (ws : List ℕ) (t x y : ℕ) : Type 0 where
    pub truths : is_bool code t ≡ true
    pub first : IsWordThere code L ids lengths counts m s ws x (operand code x 0)
    pub second : IsWordThere code L ids lengths counts m s ws y (operand code x 0)

  comparison : (s : State) (ws : List ℕ) (op : Op) (n : Numbers) (t r x y : ℕ) → Ready code L ids lengths s ws op (t ∷ r ∷ x ∷ y ∷ [])
      → rule_of op ≡ Comparison n → IsOperator op (t ∷ r ∷ x ∷ y ∷ []) → IsComparison s ws t x y
  unfolding comparison_fits
  comparison s ws op n t r x y a e o =
      let at = at_of code L ids lengths counts m s ws op (t ∷ r ∷ x ∷ y ∷ []) a in
      let of : ℕ = operand code x 0 in
      let fits = five_parts (is_bool code t) (is_value code x) (has_type code y of) (is_int code of) (suits code n of)
      (rule code m.known.facts s op (t ∷ r ∷ x ∷ y ∷ []) (Comparison n) at e) in
      let h = typed_as code y of fits.2 in
      record {
        truths = fits.0;
        first = word_there code L ids lengths counts m s ws op (t ∷ r ∷ x ∷ y ∷ []) 2 x of a (record { stands = refl; role = o.third }) fits.1 refl fits.3;
        second = word_there code L ids lengths counts m s ws op (t ∷ r ∷ x ∷ y ∷ []) 3 y of a (record { stands = refl; role = o.fourth }) h.0 h.1 fits.3;
      }

  pub compare_case : (s : State) (ws : List ℕ) (op : Op) (n : Numbers) (b : Binary) (f : ℕ → ℕ → Bool) (t r x y : ℕ)
      → Ready code L ids lengths s ws op (t ∷ r ∷ x ∷ y ∷ []) → rule_of op ≡ Comparison n → IsOperator op (t ∷ r ∷ x ∷ y ∷ [])
      → ((v w : ℕ) → binary_of b v w ≡ Some (word_of (f v w)))
      → Follows code L ids lengths s.place ws (compare s r (s.ids x) (s.ids y) f) (two b (s.place + 1) ws (L.slot x) (L.slot y) (L.slot r) (size_of code t))
  compare_case s ws op n b f t r x y a e o same =
      let k = comparison s ws op n t r x y a e o in
      let p = k.first in
      let q = k.second in
      follows_word code L ids lengths s.place ws (s.ids x) p.word (λ v. with_word (s.ids y) (λ w. Goes (gives s r (Plain (Truth (f v w))))))
      (two b (s.place + 1) ws (L.slot x) (L.slot y) (L.slot r) (size_of code t)) p.is
      (follows_word code L ids lengths s.place ws (s.ids y) q.word (λ w. Goes (gives s r (Plain (Truth (f p.word w)))))
      (two b (s.place + 1) ws (L.slot x) (L.slot y) (L.slot r) (size_of code t)) q.is
      (truth_from s ws op b t r (x ∷ y ∷ []) x y p.word q.word (f p.word q.word) a o.result k.truths p.stands q.stands p.size q.size p.seen q.seen (same p.word q.word)))

  pub turned_case : (s : State) (ws : List ℕ) (op : Op) (n : Numbers) (b : Binary) (f : ℕ → ℕ → Bool) (t r x y : ℕ)
      → Ready code L ids lengths s ws op (t ∷ r ∷ x ∷ y ∷ []) → rule_of op ≡ Comparison n → IsOperator op (t ∷ r ∷ x ∷ y ∷ [])
      → ((v w : ℕ) → binary_of b w v ≡ Some (word_of (f v w)))
      → Follows code L ids lengths s.place ws (compare s r (s.ids x) (s.ids y) f) (two b (s.place + 1) ws (L.slot y) (L.slot x) (L.slot r) (size_of code t))
  turned_case s ws op n b f t r x y a e o same =
      let k = comparison s ws op n t r x y a e o in
      let p = k.first in
      let q = k.second in
      follows_word code L ids lengths s.place ws (s.ids x) p.word (λ v. with_word (s.ids y) (λ w. Goes (gives s r (Plain (Truth (f v w))))))
      (two b (s.place + 1) ws (L.slot y) (L.slot x) (L.slot r) (size_of code t)) p.is
      (follows_word code L ids lengths s.place ws (s.ids y) q.word (λ w. Goes (gives s r (Plain (Truth (f p.word w)))))
      (two b (s.place + 1) ws (L.slot y) (L.slot x) (L.slot r) (size_of code t)) q.is
      (truth_from s ws op b t r (x ∷ y ∷ []) y x q.word p.word (f p.word q.word) a o.result k.truths q.stands p.stands q.size p.size q.seen p.seen (same p.word q.word)))

  -- ---- truths

  pub logical_case : (s : State) (ws : List ℕ) (op : Op) (b : Binary) (f : Bool → Bool → Bool) (t r x y : ℕ)
      → Ready code L ids lengths s ws op (t ∷ r ∷ x ∷ y ∷ []) → rule_of op ≡ Logical → IsOperator op (t ∷ r ∷ x ∷ y ∷ [])
      → ((v w : Bool) → binary_of b (word_of v) (word_of w) ≡ Some (word_of (f v w)))
      → Follows code L ids lengths s.place ws (compare_truths s r (s.ids x) (s.ids y) f) (two b (s.place + 1) ws (L.slot x) (L.slot y) (L.slot r) (size_of code t))
  unfolding logical_fits negation_fits
  logical_case s ws op b f t r x y a e o same =
      let at = at_of code L ids lengths counts m s ws op (t ∷ r ∷ x ∷ y ∷ []) a in
      let one = and_parts (is_bool code t && has_type code x t) (has_type code y t) (rule code m.known.facts s op (t ∷ r ∷ x ∷ y ∷ []) Logical at e) in
      let two_ = and_parts (is_bool code t) (has_type code x t) one.0 in
      let g = typed_as code x t two_.1 in
      let h = typed_as code y t one.1 in
      let p = truth_there code L ids lengths counts m s ws op (t ∷ r ∷ x ∷ y ∷ []) 2 x t a (record { stands = refl; role = o.third }) g.0 g.1 two_.0 in
      let q = truth_there code L ids lengths counts m s ws op (t ∷ r ∷ x ∷ y ∷ []) 3 y t a (record { stands = refl; role = o.fourth }) h.0 h.1 two_.0 in
      follows_truth code L ids lengths s.place ws (s.ids x) p.truth (λ v. with_truth (s.ids y) (λ w. Goes (gives s r (Plain (Truth (f v w))))))
      (two b (s.place + 1) ws (L.slot x) (L.slot y) (L.slot r) (size_of code t)) p.is
      (follows_truth code L ids lengths s.place ws (s.ids y) q.truth (λ w. Goes (gives s r (Plain (Truth (f p.truth w)))))
      (two b (s.place + 1) ws (L.slot x) (L.slot y) (L.slot r) (size_of code t)) q.is
      (truth_from s ws op b t r (x ∷ y ∷ []) x y (word_of p.truth) (word_of q.truth) (f p.truth q.truth) a o.result two_.0 p.stands q.stands p.size q.size p.seen q.seen (same p.truth q.truth)))

  flipped : (b : Bool) → unary_of Flip (word_of b) ≡ word_of (not b)
  flipped true = refl
  flipped false = refl

  pub negation_together : (s : State) (ws : List ℕ) (t r x : ℕ) → Ready code L ids lengths s ws LogicalNot (t ∷ r ∷ x ∷ [])
      → Follows code L ids lengths s.place ws (with_truth (s.ids x) (λ b. Goes (gives s r (Plain (Truth (not b))))))
      (goes_on (s.place + 1) (one_at Flip ws (L.slot x) (L.slot r) (size_of code t)))
  unfolding negation_fits
  negation_together s ws t r x a =
      let at = at_of code L ids lengths counts m s ws LogicalNot (t ∷ r ∷ x ∷ []) a in
      let i : IsResult LogicalNot = record { goes_on = refl; second = refl; valued = refl } in
      let fits = and_parts (is_bool code t) (has_type code x t) (rule code m.known.facts s LogicalNot (t ∷ r ∷ x ∷ []) Negation at refl) in
      let g = typed_as code x t fits.1 in
      let p = truth_there code L ids lengths counts m s ws LogicalNot (t ∷ r ∷ x ∷ []) 2 x t a (record { stands = refl; role = refl }) g.0 g.1 fits.0 in
      let k = of_bool (sort code t) fits.0 in
      let n : size_of code t ≡ 1 = data_size code t Truths m.known (m.known.facts.bool_data t k) (m.known.facts.shape_bool t k) in
      let inside : L.slot r + 1 ≤ length ws = omega (arith, result_inside code L ids lengths counts m s ws LogicalNot t r (x ∷ []) a i, n) in
      let apart = subst (λ (j : ℕ). is_apart (L.slot x) (L.slot r) j ≡ true) n
      (operand_is_apart code L ids lengths counts m s ws LogicalNot t r (x ∷ []) x a i p.seen (p.size ∙ sym n)) in
      follows_truth code L ids lengths s.place ws (s.ids x) p.truth (λ b. Goes (gives s r (Plain (Truth (not b)))))
      (goes_on (s.place + 1) (one_at Flip ws (L.slot x) (L.slot r) (size_of code t))) p.is
      (follows_flat code L ids lengths s.place ws (Goes (gives s r (Plain (Truth (not p.truth))))) _ (GoesTo (s.place + 1) (written ws (L.slot r) (word_of (not p.truth) ∷ [])))
      (ap (λ j. goes_on (s.place + 1) (one_at Flip ws (L.slot x) (L.slot r) j)) n
      ∙ (ap (goes_on (s.place + 1)) (one_is Flip (word_of p.truth ∷ []) ws (L.slot x) (L.slot r) p.stands inside apart)
      ∙ ap (λ w. GoesTo (s.place + 1) (written ws (L.slot r) (w ∷ []))) (flipped p.truth)))
      (result_together code L ids lengths counts m s ws LogicalNot t r (x ∷ []) (Plain (Truth (not p.truth))) (s.place + 1) a i
      (suits_truth code m.known.facts t (not p.truth) fits.0) tt refl))

  -- ---- words of the other kind

  pub bitcast_together : (s : State) (ws : List ℕ) (t r x : ℕ) → Ready code L ids lengths s ws Bitcast (t ∷ r ∷ x ∷ [])
      → Follows code L ids lengths s.place ws (with_plain (s.ids x) (λ v. Goes (gives s r (Plain v))))
      (goes_on (s.place + 1) (copy_at ws (L.slot x) (L.slot r) (size_of code t)))
  unfolding bits_fit
  bitcast_together s ws t r x a =
      let at = at_of code L ids lengths counts m s ws Bitcast (t ∷ r ∷ x ∷ []) a in
      let i : IsResult Bitcast = record { goes_on = refl; second = refl; valued = refl } in
      let of : ℕ = operand code x 0 in
      let fits = four_parts (is_number code Either t) (is_value code x) (is_number code Either of) (nat_eq (lanes code of) (lanes code t))
      (rule code m.known.facts s Bitcast (t ∷ r ∷ x ∷ []) Bits at refl) in
      let k = numbers code m.known.facts Either t fits.0 in
      let l = numbers code m.known.facts Either of fits.2 in
      let p = value_there code L ids lengths counts m s ws Bitcast (t ∷ r ∷ x ∷ []) 2 x of l.form a (record { stands = refl; role = refl }) fits.1 refl l.values l.is in
      let same : lanes code of ≡ lanes code t = eqb-true (lanes code of) (lanes code t) fits.3 in
      let alike = lanes_alike l.form k.form (lanes code t) (subst (HasLanes l.form) same l.laned) k.laned in
      let likely = alike_like p.value l.form k.form p.like alike in
      let n : length (flat p.value) ≡ size_of code t = like_count p.value k.form likely ∙ sym (data_size code t k.form m.known k.values k.is) in
      let inside : L.slot r + length (flat p.value) ≤ length ws = omega (arith, result_inside code L ids lengths counts m s ws Bitcast t r (x ∷ []) a i, n) in
      follows_plain code L ids lengths s.place ws (s.ids x) p.value (λ v. Goes (gives s r (Plain v)))
      (goes_on (s.place + 1) (copy_at ws (L.slot x) (L.slot r) (size_of code t))) p.is
      (follows_flat code L ids lengths s.place ws (Goes (gives s r (Plain p.value))) _ (GoesTo (s.place + 1) (written ws (L.slot r) (flat p.value)))
      (ap (λ j. goes_on (s.place + 1) (copy_at ws (L.slot x) (L.slot r) j)) (sym n)
      ∙ ap (goes_on (s.place + 1)) (copied_is (flat p.value) ws (L.slot x) (L.slot r) p.stands inside))
      (value_goes s ws Bitcast t r (x ∷ []) p.value k.form (flat p.value) a i k.values k.is likely refl))
