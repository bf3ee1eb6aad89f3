-- The state behind an instruction, and what its ids stand for.
use Rattle.std.proofs.Common.{◌≡◌, ℕ, zero, suc, ◌+◌, ◌<◌, ◌⊎◌, inl, inr, Bool, true, false, cond, nat_eq, List, [], ◌∷◌, Option, Some, None, slice_get, slice_index, slice_index_or, nat_le, nat_lt, ◌&&◌, refl, sym, ap, subst, ◌∙◌, add-one, arith}
use Rattle.std.proofs.lemmas.Bool.{cond-true, cond-false, eq-eqb, ne_eqb, eqb-true, le-ltb, and_right}
use Rattle.behavior.specs.Values.{Value}
use Rattle.spirv_words.specs.declared.opcodes.Op.{Op}
use Rattle.spirv_words.specs.declared.images.Instruction.{Instruction}
use Rattle.spirv_words.specs.Machine.{Operand, at, place_of, definition_of, result_of, result_at, is_some_number, standing, Second}
use Rattle.spirv_words.specs.Step.{State, gives}
use Rattle.image_lookup.specs.Lookups.{sort, sort_in, operands, operands_in, is_value}
use Rattle.image_lookup.specs.Sorts.{sort_of}
use Rattle.image_lookup.proofs.Found.{definition-found}
use Rattle.image_places.specs.Places.{function_of}
use Rattle.image_places.specs.Roles.{role_of, text_end, first_roles, later_role}
use Rattle.image_places.specs.declared.roles.Role.TheVariants.{Use, Result, Literal}
use Rattle.image_rules.specs.Blocks.{is_ending}
use Rattle.image_types.specs.Functions.{is_void}
use Rattle.image_scopes.specs.Scopes.{IsRun, IsSeen, IsGlobal}
use Rattle.image_facts.specs.Operands.{type_id, Suits, Unless, StandsFor}
use Rattle.typed_runs.specs.States.{AreNamed, AreDeclared, AreHeld, AreFrames, IsTyped}
use Rattle.typed_runs.proofs.Facts.{Facts}

-- ---- small parts

pub at_same : {A : Type 0} (m : ℕ → Option A) (r x : ℕ) (o : A) → x ≡ r → at m r o x ≡ Some o
at_same m r x o e = cond-true (nat_eq x r) (Some o) (m x) (eq-eqb x r e)

pub at_other : {A : Type 0} (m : ℕ → Option A) (r x : ℕ) (o : A) → (x ≡ r → ⊥) → at m r o x ≡ m x
at_other m r x o n = cond-false (nat_eq x r) (Some o) (m x) (ne_eqb x r n)

unless_from : (b : Bool) (A : Type 0) → A → Unless b A
unless_from true A a = tt
unless_from false A a = a

pub unless_false : (b : Bool) (A : Type 0) → b ≡ false → Unless b A → A
unless_false true A e a = cc
unless_false false A e a = a

pub unless_true : (b : Bool) (A : Type 0) → b ≡ true → Unless b A
unless_true true A e = tt
unless_true false A e = cc

pub stands_for : (code : List Instruction) (o : Operand) (x t : ℕ) → type_id code x ≡ t → Suits code o t → StandsFor code (Some o) x
stands_for code o x t e h = unless_from (is_void code (type_id code x)) (Suits code o (type_id code x)) (subst (Suits code o) (sym e) h)

pub suited : (code : List Instruction) (o : Option Operand) (x : ℕ) → is_void code (type_id code x) ≡ false → StandsFor code o x
    → (p : Operand) × (o ≡ Some p) × Suits code p (type_id code x)
suited code (Some p) x v h = (p, refl, unless_false (is_void code (type_id code x)) (Suits code p (type_id code x)) v h)
suited code None x v h = absurd (unless_false (is_void code (type_id code x)) ⊥ v h)

-- ---- results

pub made : (code : List Instruction) (k r : ℕ) (i : Instruction) → slice_get code k ≡ Some i → place_of code r 0 ≡ Some k
    → definition_of code r ≡ Some i
made code k r i s p = sym (definition-found code r k p) ∙ s

pub made_operands : (code : List Instruction) (k r : ℕ) (i : Instruction) → slice_get code k ≡ Some i → place_of code r 0 ≡ Some k
    → operands code r ≡ i.operands
unfolding operands
made_operands code k r i s p = ap operands_in (made code k r i s p)

pub made_sort : (code : List Instruction) (k r : ℕ) (i : Instruction) → slice_get code k ≡ Some i → place_of code r 0 ≡ Some k
    → sort code r ≡ sort_of i.op
unfolding sort
made_sort code k r i s p = ap sort_in (made code k r i s p)

is_number_some : (o : Option ℕ) (id : ℕ) → is_some_number o id ≡ true → o ≡ Some id
is_number_some (Some n) id h = ap (λ x. Some x) (eqb-true n id h)
is_number_some None id h = cc

-- what defines an id has it as its result
pub defines : (code : List Instruction) (id : ℕ) (i : Instruction) → definition_of code id ≡ Some i → result_of i.op i.operands ≡ Some id
defines (j ∷ code) id i e = go (is_some_number (result_of j.op j.operands) id) refl e (λ h. defines code id i h)
  where
    go : (b : Bool) → is_some_number (result_of j.op j.operands) id ≡ b → cond b (Some j) (definition_of code id) ≡ Some i
        → (definition_of code id ≡ Some i → result_of i.op i.operands ≡ Some id) → result_of i.op i.operands ≡ Some id
    go true h e k =
        let f : j ≡ i = cc in
        subst (λ x. result_of x.op x.operands ≡ Some id) f (is_number_some (result_of j.op j.operands) id h)
    go false h e k = k e
defines [] id i e = cc

-- ---- many operands

-- those of these ids that are values may be named at a place
abbrev pub AreSeen : List Instruction → ℕ → List ℕ → Type 0
AreSeen code k is = (j x : ℕ) → slice_get is j ≡ Some x → is_value code x ≡ true → IsSeen code k x

none_left : (j : ℕ) → slice_index_or (Use ∷ Result ∷ []) (suc (suc j)) Use ≡ Use
none_left zero = refl
none_left (suc j) = none_left j

-- all operands behind a type and a result are used
pub later_use : (op : Op) (os : List ℕ) (j : ℕ) → text_end op os ≡ 0 → first_roles op ≡ Use ∷ Result ∷ [] → later_role op ≡ Use
    → role_of op (text_end op os) (suc (suc j)) ≡ Use
later_use op os j t f l =
    ap (λ n. role_of op n (suc (suc j))) t
    ∙ (cond-false (nat_le 2 (suc (suc j)) && nat_lt (suc (suc j)) 0) Literal (slice_index_or (first_roles op) (suc (suc j)) (later_role op))
    (and_right (nat_le 2 (suc (suc j))) (nat_lt (suc (suc j)) 0) (le-ltb (suc (suc j)) 0 (omega arith)))
    ∙ (ap (λ r. slice_index_or (first_roles op) (suc (suc j)) r) l ∙ (ap (λ r. slice_index_or r (suc (suc j)) Use) f ∙ none_left j)))

-- ---- the state behind an instruction

-- a typed state, with the instruction at its place
pub record At (code : List Instruction) (s : State) (op : Op) (os : List ℕ) : Type 0 where
  pub typed : IsTyped code s
  pub stands : slice_get code s.place ≡ Some (record { op = op; operands = os })

module _ (code : List Instruction) (facts : Facts code) where
  pub after : (s : State) (op : Op) (os : List ℕ) → At code s op os → is_ending op ≡ false → (ids : ℕ → Option Operand) (memory : ℕ → ℕ → Value)
      → AreNamed code (suc s.place) ids → AreDeclared code ids → AreHeld code memory
      → IsTyped code (record { place = s.place + 1; ids = ids; below = s.below; memory = memory })
  after s op os a e ids memory n d h =
      let next = facts.next s.place (record { op = op; operands = os }) a.typed.run a.stands e in
      let p : suc s.place ≡ s.place + 1 = sym (add-one s.place) in
      record {
        run = subst (IsRun code) p next.run;
        named = subst (λ k. AreNamed code k ids) p n;
        declared = d;
        held = h;
        frames = subst (λ f. AreFrames code f s.below) (facts.in_function s.place a.typed.run ∙ ap (function_of code) p) a.typed.frames;
      }

  -- an instruction without a value as its result
  pub goes : (s : State) (op : Op) (os : List ℕ) → At code s op os → is_ending op ≡ false
      → ((x : ℕ) → result_of op os ≡ Some x → is_value code x ≡ true → ⊥) → (memory : ℕ → ℕ → Value) → AreHeld code memory
      → IsTyped code (record { place = s.place + 1; ids = s.ids; below = s.below; memory = memory })
  goes s op os a e none memory h = after s op os a e s.ids memory named a.typed.declared h
    where
      before : (x : ℕ) → is_value code x ≡ true → IsSeen code s.place x ⊎ ((result_of op os ≡ Some x) × (place_of code x 0 ≡ Some s.place)) → StandsFor code (s.ids x) x
      before x v (inl q) = a.typed.named x q
      before x v (inr q) = absurd (none x q.0 v)

      named : AreNamed code (suc s.place) s.ids
      named x q = before x q.value ((facts.next s.place (record { op = op; operands = os }) a.typed.run a.stands e).seen x q)

  -- what is defined elsewhere is not the result
  other_place : (r x j k : ℕ) → place_of code r 0 ≡ Some k → place_of code x 0 ≡ Some j → j < k → x ≡ r → ⊥
  other_place r x j k p q l e =
      let f : Some j ≡ Some k = sym q ∙ (ap (λ y. place_of code y 0) e ∙ p) in
      let g : j ≡ k = cc in
      omega arith

  pub global_elsewhere : (k r x : ℕ) → (function_of code k ≡ 0 → ⊥) → place_of code r 0 ≡ Some k → IsGlobal code x → x ≡ r → ⊥
  global_elsewhere k r x inside p g e =
      let f : Some g.place ≡ Some k = sym g.there ∙ (ap (λ y. place_of code y 0) e ∙ p) in
      let h : g.place ≡ k = cc in
      inside (ap (function_of code) (sym h) ∙ g.outside)

  pub run_inside : (k : ℕ) → IsRun code k → function_of code k ≡ 0 → ⊥
  run_inside k run z = run.in_function (sym (facts.in_function k run) ∙ z)

  -- the result of an instruction that is run
  pub result_there : (k r t : ℕ) (op : Op) (os : List ℕ) → slice_get code k ≡ Some (record { op = op; operands = t ∷ r ∷ os }) → standing op ≡ Second
      → (result_of op (t ∷ r ∷ os) ≡ Some r) × (place_of code r 0 ≡ Some k) × (type_id code r ≡ t)
  result_there k r t op os st second =
      let result : result_of op (t ∷ r ∷ os) ≡ Some r = ap (λ x. result_at x (t ∷ r ∷ os)) second in
      let there = facts.here k (record { op = op; operands = t ∷ r ∷ os }) st r result in
      (result, there, ap (λ l. slice_index l 0) (made_operands code k r (record { op = op; operands = t ∷ r ∷ os }) st there))

  -- behind an instruction what it gives stands for its result, and all else for what it did
  pub named_with : (k r t : ℕ) (op : Op) (os : List ℕ) (ids : ℕ → Option Operand) (o : Operand) → IsRun code k
      → slice_get code k ≡ Some (record { op = op; operands = t ∷ r ∷ os }) → is_ending op ≡ false → standing op ≡ Second
      → AreNamed code k ids → Suits code o t → AreNamed code (suc k) (at ids r o)
  named_with k r t op os ids o run st e second n h = λ x q. before x ((facts.next k (record { op = op; operands = t ∷ r ∷ os }) run st e).seen x q)
    where
      here : (result_of op (t ∷ r ∷ os) ≡ Some r) × (place_of code r 0 ≡ Some k) × (type_id code r ≡ t)
      here = result_there k r t op os st second

      before : (x : ℕ) → IsSeen code k x ⊎ ((result_of op (t ∷ r ∷ os) ≡ Some x) × (place_of code x 0 ≡ Some k)) → StandsFor code (at ids r o x) x
      before x (inl q) = subst (λ y. StandsFor code y x) (sym (at_other ids r x o (other_place r x q.place k here.1 q.there q.before))) (n x q)
      before x (inr q) =
          let d : Some x ≡ Some r = sym q.0 ∙ here.0 in
          let f : x ≡ r = cc in
          subst (λ y. StandsFor code y x) (sym (at_same ids r x o f)) (stands_for code o x t (ap (type_id code) f ∙ here.2) h)

  pub declared_with : (k r : ℕ) (ids : ℕ → Option Operand) (o : Operand) → (function_of code k ≡ 0 → ⊥) → place_of code r 0 ≡ Some k
      → AreDeclared code ids → AreDeclared code (at ids r o)
  declared_with k r ids o inside there d = λ x g. at_other ids r x o (global_elsewhere k r x inside there g) ∙ d x g

  pub gives_typed : (s : State) (op : Op) (os : List ℕ) (t r : ℕ) (o : Operand) → At code s op (t ∷ r ∷ os) → is_ending op ≡ false
      → standing op ≡ Second → Suits code o t → IsTyped code (gives s r o)
  gives_typed s op os t r o a e second h =
      after s op (t ∷ r ∷ os) a e (at s.ids r o) s.memory
      (named_with s.place r t op os s.ids o a.typed.run a.stands e second a.typed.named h)
      (declared_with s.place r s.ids o (run_inside s.place a.typed.run) (result_there s.place r t op os a.stands second).1 a.typed.declared) a.typed.held

  -- ---- operands

  pub seen : (s : State) (op : Op) (os : List ℕ) (j x : ℕ) → At code s op os → slice_get os j ≡ Some x → role_of op (text_end op os) j ≡ Use
      → is_value code x ≡ true → IsSeen code s.place x
  seen s op os j x a g r v = facts.used s.place (record { op = op; operands = os }) a.typed.run a.stands j x g r v

  pub value_of : (s : State) (x : ℕ) → IsTyped code s → IsSeen code s.place x → is_void code (type_id code x) ≡ false
      → (o : Operand) × (s.ids x ≡ Some o) × Suits code o (type_id code x)
  value_of s x typed q n = suited code (s.ids x) x n (typed.named x q)

  pub all_seen : (s : State) (op : Op) (t r : ℕ) (is : List ℕ) → At code s op (t ∷ r ∷ is) → first_roles op ≡ Use ∷ Result ∷ []
      → later_role op ≡ Use → text_end op (t ∷ r ∷ is) ≡ 0 → AreSeen code s.place is
  all_seen s op t r is a f l n j x e v = seen s op (t ∷ r ∷ is) (suc (suc j)) x a e (later_use op (t ∷ r ∷ is) j n f l) v
