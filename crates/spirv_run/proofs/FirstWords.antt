-- The words with which an invocation begins.
use Rattle.std.proofs.Common.{◌≡◌, ◌≢◌, inl, inr, ℕ, zero, suc, ◌+◌, ◌≤◌, Bool, true, false, cond, nat_eq, List, [], ◌∷◌, length, map, Option, Some, None, refl, sym, ap, subst, ◌∙◌, arith}
use Rattle.std.specs.Prelude.{slice_index, replicate}
use Rattle.std.proofs.lemmas.Bool.{eqb-true, eq-eqb}
use Rattle.behavior.specs.Values.{Value, Word, triple}
use Rattle.spirv_words.specs.declared.images.Instruction.{Instruction}
use Rattle.spirv_words.specs.Machine.{Operand, if_some}
use Rattle.spirv_words.specs.Runs.{start_place}
use Rattle.flat_values.specs.Flat.{flat}
use Rattle.flat_values.specs.Ranges.{Stands, written, cleared}
use Rattle.flat_values.proofs.Standing.{length-written, written_there, written_apart}
use Rattle.image_places.specs.Places.{function_of}
use Rattle.image_facts.specs.Operands.{globals_of, is_built_in}
use Rattle.image_scopes.specs.Scopes.{IsGlobal}
use Rattle.run_buffers.specs.declared.ids.Ids.{Ids}
use Rattle.run_rooms.specs.Rooms.{Rooms, AreRooms, Slot, Input, IsFunction, AreApart, home_of, slot_size, input_size}
use Rattle.run_plans.specs.Plans.{words_of, IsSteady}
use Rattle.run_plans.specs.declared.plan.Plan.{Plan}
use Rattle.run_plans.specs.Whole.{IsPlan}
use Rattle.run_laws.specs.Together.{AreGiven}
use Rattle.spirv_run.specs.Shared.{three_of, built_ins_of}
use Rattle.spirv_run.specs.Parts.{HaveRoom, HasThree, begun}

-- what an id outside of functions stands for has as many words as the id
abbrev pub HasSizes : List Instruction → Rooms → Type 0
HasSizes code L = (x : ℕ) (o : Operand) → IsGlobal code x → (globals_of code).ids x ≡ Some o → length (words_of code L o) ≡ slot_size code x

length_replicate : (n : ℕ) → length {A = ℕ} (replicate n 0) ≡ n
length_replicate zero = refl
length_replicate (suc n) = ap (λ (k : ℕ). suc k) (length_replicate n)

-- three words are the parts of three
three_is : (p : List ℕ) → length p ≡ 3 → flat (triple (three_of p)) ≡ p
three_is [] h = absurd (omega arith)
three_is (a ∷ []) h = absurd (omega arith)
three_is (a ∷ b ∷ []) h = absurd (omega arith)
three_is (a ∷ b ∷ c ∷ []) h = refl
three_is (a ∷ b ∷ c ∷ d ∷ p) h = absurd (omega arith)

-- the words, the places of the entry's variables and how many words these have, and the places of the built-in values
abbrev begun_from : List ℕ → ℕ → ℕ → List ℕ → Ids → List ℕ
begun_from words first count inputs ids =
    let zeros = cleared words first count in
    let one = written zeros (slice_index inputs 0) ids.group in
    let two = written one (slice_index inputs 1) ids.local in
    let three = written two (slice_index inputs 2) ids.global in
    written three (slice_index inputs 3) (ids.index ∷ [])

-- what stands in the words with which an invocation begins
pub record HasBegun (code : List Instruction) (L : Rooms) (ids : Ids) (ws : List ℕ) : Type 0 where
  pub steady : IsSteady code L ws
  pub given : AreGiven L (built_ins_of ids) ws
  pub zeros : Stands (replicate (L.rooms_count (start_place code)) 0) (L.rooms (start_place code)) ws

global_home : (code : List Instruction) (x : ℕ) → IsGlobal code x → home_of code x ≡ 0
global_home code x g = ap (λ (o : Option ℕ). if_some o 0 (λ p. function_of code p)) g.there ∙ g.outside

steady_written : (code : List Instruction) (L : Rooms) (ws xs : List ℕ) (place : ℕ) → HasSizes code L → place + length xs ≤ length ws
    → ((x : ℕ) → IsGlobal code x → AreApart (L.slot x) (slot_size code x) place (length xs)) → IsSteady code L ws → IsSteady code L (written ws place xs)
steady_written code L ws xs place sizes inside aside s = record {
  all = length-written ws xs place inside ∙ s.all;
  stands = λ x o g e. written_apart ws xs (words_of code L o) place (L.slot x) inside (s.stands x o g e)
      (subst (λ (n : ℕ). AreApart (L.slot x) n place (length xs)) (sym (sizes x o g e)) (aside x g));
}

module _ (code : List Instruction) (L : Rooms) (words : List ℕ) (ids : Ids) (rooms : AreRooms code L) (entry : IsFunction code (start_place code)) (sizes : HasSizes code L)
    (steady : IsSteady code L words) (three : HasThree ids) where
  abbrev function : ℕ
  function = start_place code

  abbrev count : ℕ
  count = L.rooms_count function

  variables_inside : L.rooms function + count ≤ L.total
  variables_inside = let a = (rooms.rooms_within function entry).1 in let b = (rooms.behind function entry).1 in omega arith

  input_inside : (b : ℕ) → is_built_in b ≡ true → L.input b + input_size b ≤ L.total
  input_inside b h = let a = (rooms.within (Input b) h).1 in let c = rooms.inside in omega arith

  -- values outside of functions stand before the variables, and apart from the built-in values
  aside_variables : (n : ℕ) (x : ℕ) → IsGlobal code x → AreApart (L.slot x) (slot_size code x) (L.rooms function) n
  aside_variables n x g =
      let home = global_home code x g in
      let within : L.slot x + slot_size code x ≤ L.ends 0 =
      subst (λ (h : ℕ). L.slot x + slot_size code x ≤ L.ends h) home (rooms.within (Slot x) g.value).1 in
      let a = (rooms.rooms_within function entry).0 in
      let b = (rooms.behind function entry).0 in
      inl (omega arith)

  aside_input : (b x : ℕ) → is_built_in b ≡ true → IsGlobal code x → AreApart (L.slot x) (slot_size code x) (L.input b) (input_size b)
  aside_input b x h g = rooms.apart (Slot x) (Input b) g.value h (λ e. cc) (global_home code x g)

  -- built-in values stand apart from each other and from the variables
  apart_inputs : (b c : ℕ) → is_built_in b ≡ true → is_built_in c ≡ true → b ≢ c → AreApart (L.input b) (input_size b) (L.input c) (input_size c)
  apart_inputs b c h g ne = rooms.apart (Input b) (Input c) h g (λ e. ne (number e)) refl where
    number : {a d : ℕ} → Input a ≡ Input d → a ≡ d
    number e = cc

  input_aside_variables : (b n : ℕ) → is_built_in b ≡ true → AreApart (L.rooms function) n (L.input b) (input_size b)
  input_aside_variables b n h =
      let a = (rooms.within (Input b) h).1 in
      let c = (rooms.rooms_within function entry).0 in
      let d = (rooms.behind function entry).0 in
      inr (omega arith)

  abbrev zeros : List ℕ
  zeros = cleared words (L.rooms function) count

  abbrev one : List ℕ
  one = written zeros (L.input 26) ids.group

  abbrev two : List ℕ
  two = written one (L.input 27) ids.local

  abbrev three_written : List ℕ
  three_written = written two (L.input 28) ids.global

  abbrev all : List ℕ
  all = written three_written (L.input 29) (ids.index ∷ [])

  -- each write is inside
  inside_zeros : L.rooms function + length {A = ℕ} (replicate count 0) ≤ length words
  inside_zeros = let n = length_replicate count in let a = steady.all in let b = variables_inside in omega arith

  length_zeros : length zeros ≡ L.total
  length_zeros = length-written words (replicate count 0) (L.rooms function) inside_zeros ∙ steady.all

  inside_one : L.input 26 + length ids.group ≤ length zeros
  inside_one = let n = three.group in let a = length_zeros in let b : L.input 26 + 3 ≤ L.total = input_inside 26 refl in omega arith

  length_one : length one ≡ L.total
  length_one = length-written zeros ids.group (L.input 26) inside_one ∙ length_zeros

  inside_two : L.input 27 + length ids.local ≤ length one
  inside_two = let n = three.local in let a = length_one in let b : L.input 27 + 3 ≤ L.total = input_inside 27 refl in omega arith

  length_two : length two ≡ L.total
  length_two = length-written one ids.local (L.input 27) inside_two ∙ length_one

  inside_three : L.input 28 + length ids.global ≤ length two
  inside_three = let n = three.global in let a = length_two in let b : L.input 28 + 3 ≤ L.total = input_inside 28 refl in omega arith

  length_three : length three_written ≡ L.total
  length_three = length-written two ids.global (L.input 28) inside_three ∙ length_two

  inside_all : L.input 29 + length (ids.index ∷ []) ≤ length three_written
  inside_all = let a = length_three in let b : L.input 29 + 1 ≤ L.total = input_inside 29 refl in omega arith

  -- ---- what is outside of functions

  is_steady : IsSteady code L all
  is_steady =
      let s0 = steady_written code L words (replicate count 0) (L.rooms function) sizes inside_zeros (aside_variables (length {A = ℕ} (replicate count 0))) steady in
      let s1 = steady_written code L zeros ids.group (L.input 26) sizes inside_one
      (λ x g. subst (λ (n : ℕ). AreApart (L.slot x) (slot_size code x) (L.input 26) n) (sym three.group) (aside_input 26 x refl g)) s0 in
      let s2 = steady_written code L one ids.local (L.input 27) sizes inside_two
      (λ x g. subst (λ (n : ℕ). AreApart (L.slot x) (slot_size code x) (L.input 27) n) (sym three.local) (aside_input 27 x refl g)) s1 in
      let s3 = steady_written code L two ids.global (L.input 28) sizes inside_three
      (λ x g. subst (λ (n : ℕ). AreApart (L.slot x) (slot_size code x) (L.input 28) n) (sym three.global) (aside_input 28 x refl g)) s2 in
      steady_written code L three_written (ids.index ∷ []) (L.input 29) sizes inside_all (λ x g. aside_input 29 x refl g) s3

  -- ---- writes behind

  -- what stands apart from the built-in values stands in the end, from each write on
  behind_three : (ys : List ℕ) (q : ℕ) → AreApart q (length ys) (L.input 29) 1 → Stands ys q three_written → Stands ys q all
  behind_three ys q a s = written_apart three_written (ids.index ∷ []) ys (L.input 29) q inside_all s a

  behind_two : (ys : List ℕ) (q : ℕ) → AreApart q (length ys) (L.input 28) 3 → AreApart q (length ys) (L.input 29) 1 → Stands ys q two → Stands ys q all
  behind_two ys q a b s =
      behind_three ys q b (written_apart two ids.global ys (L.input 28) q inside_three s (subst (λ (n : ℕ). AreApart q (length ys) (L.input 28) n) (sym three.global) a))

  behind_one : (ys : List ℕ) (q : ℕ) → AreApart q (length ys) (L.input 27) 3 → AreApart q (length ys) (L.input 28) 3 → AreApart q (length ys) (L.input 29) 1 → Stands ys q one → Stands ys q all
  behind_one ys q a b c s =
      behind_two ys q b c (written_apart one ids.local ys (L.input 27) q inside_two s (subst (λ (n : ℕ). AreApart q (length ys) (L.input 27) n) (sym three.local) a))

  behind_zeros : (ys : List ℕ) (q : ℕ) → AreApart q (length ys) (L.input 26) 3 → AreApart q (length ys) (L.input 27) 3 → AreApart q (length ys) (L.input 28) 3
      → AreApart q (length ys) (L.input 29) 1 → Stands ys q zeros → Stands ys q all
  behind_zeros ys q z a b c s =
      behind_one ys q a b c (written_apart zeros ids.group ys (L.input 26) q inside_one s (subst (λ (n : ℕ). AreApart q (length ys) (L.input 26) n) (sym three.group) z))

  are_zeros : Stands (replicate count 0) (L.rooms function) all
  are_zeros =
      let n = length {A = ℕ} (replicate count 0) in
      behind_zeros (replicate count 0) (L.rooms function) (input_aside_variables 26 n refl) (input_aside_variables 27 n refl) (input_aside_variables 28 n refl)
      (input_aside_variables 29 n refl) (written_there words (replicate count 0) (L.rooms function) inside_zeros)

  -- ---- built-in values

  differ : (b c : ℕ) → nat_eq b c ≡ false → b ≢ c
  differ b c h e = let t = eq-eqb b c e in let clash : true ≡ false = sym t ∙ h in cc

  group_stands : Stands ids.group (L.input 26) all
  group_stands =
      let P : ℕ → ℕ → ℕ → Type 0 = λ n b m. AreApart (L.input 26) n (L.input b) m in
      behind_one ids.group (L.input 26) (subst (λ (n : ℕ). P n 27 3) (sym three.group) (apart_inputs 26 27 refl refl (differ 26 27 refl)))
      (subst (λ (n : ℕ). P n 28 3) (sym three.group) (apart_inputs 26 28 refl refl (differ 26 28 refl)))
      (subst (λ (n : ℕ). P n 29 1) (sym three.group) (apart_inputs 26 29 refl refl (differ 26 29 refl))) (written_there zeros ids.group (L.input 26) inside_one)

  local_stands : Stands ids.local (L.input 27) all
  local_stands =
      let P : ℕ → ℕ → ℕ → Type 0 = λ n b m. AreApart (L.input 27) n (L.input b) m in
      behind_two ids.local (L.input 27) (subst (λ (n : ℕ). P n 28 3) (sym three.local) (apart_inputs 27 28 refl refl (differ 27 28 refl)))
      (subst (λ (n : ℕ). P n 29 1) (sym three.local) (apart_inputs 27 29 refl refl (differ 27 29 refl))) (written_there one ids.local (L.input 27) inside_two)

  global_stands : Stands ids.global (L.input 28) all
  global_stands =
      let P : ℕ → ℕ → ℕ → Type 0 = λ n b m. AreApart (L.input 28) n (L.input b) m in
      behind_three ids.global (L.input 28) (subst (λ (n : ℕ). P n 29 1) (sym three.global) (apart_inputs 28 29 refl refl (differ 28 29 refl)))
      (written_there two ids.global (L.input 28) inside_three)

  index_stands : Stands (ids.index ∷ []) (L.input 29) all
  index_stands = written_there three_written (ids.index ∷ []) (L.input 29) inside_all

  some_value : {a b : Value} → Some a ≡ Some b → a ≡ b
  some_value e = cc

  abbrev StandsIn : Value → ℕ → Type 0
  StandsIn v b = Stands (flat v) (L.input b) all

  given_by : (b n : ℕ) (v w : Value) → b ≡ n → Some w ≡ Some v → StandsIn w n → StandsIn v b
  given_by b n v w h e s = subst (λ (k : ℕ). StandsIn v k) (sym h) (subst (λ (u : Value). StandsIn u n) (some_value e) s)

  three_stands : (p : List ℕ) (b : ℕ) → length p ≡ 3 → Stands p (L.input b) all → StandsIn (triple (three_of p)) b
  three_stands p b n s = subst (λ (l : List ℕ). Stands l (L.input b) all) (sym (three_is p n)) s

  -- the value of each number
  fourth_given : (b : ℕ) (v : Value) (t : Bool) → nat_eq b 29 ≡ t → cond t (Some (Word ids.index)) None ≡ Some v → StandsIn v b
  fourth_given b v true h e = given_by b 29 v (Word ids.index) (eqb-true b 29 h) e index_stands
  fourth_given b v false h e = cc

  third_given : (b : ℕ) (v : Value) (t : Bool) → nat_eq b 28 ≡ t → cond t (Some (triple (three_of ids.global))) (cond (nat_eq b 29) (Some (Word ids.index)) None) ≡ Some v → StandsIn v b
  third_given b v true h e = given_by b 28 v (triple (three_of ids.global)) (eqb-true b 28 h) e (three_stands ids.global 28 three.global global_stands)
  third_given b v false h e = fourth_given b v (nat_eq b 29) refl e

  second_given : (b : ℕ) (v : Value) (t : Bool) → nat_eq b 27 ≡ t
      → cond t (Some (triple (three_of ids.local))) (cond (nat_eq b 28) (Some (triple (three_of ids.global))) (cond (nat_eq b 29) (Some (Word ids.index)) None)) ≡ Some v → StandsIn v b
  second_given b v true h e = given_by b 27 v (triple (three_of ids.local)) (eqb-true b 27 h) e (three_stands ids.local 27 three.local local_stands)
  second_given b v false h e = third_given b v (nat_eq b 28) refl e

  first_given : (b : ℕ) (v : Value) (t : Bool) → nat_eq b 26 ≡ t
      → cond t (Some (triple (three_of ids.group))) (cond (nat_eq b 27) (Some (triple (three_of ids.local))) (cond (nat_eq b 28) (Some (triple (three_of ids.global))) (cond (nat_eq b 29) (Some (Word ids.index)) None))) ≡ Some v
      → StandsIn v b
  first_given b v true h e = given_by b 26 v (triple (three_of ids.group)) (eqb-true b 26 h) e (three_stands ids.group 26 three.group group_stands)
  first_given b v false h e = second_given b v (nat_eq b 27) refl e

  are_given : AreGiven L (built_ins_of ids) all
  are_given b v e = first_given b v (nat_eq b 26) refl e

  pub has_begun_from : HasBegun code L ids all
  has_begun_from = record { steady = is_steady; given = are_given; zeros = are_zeros }

pub has_begun : (code : List Instruction) (L : Rooms) (plan : Plan) (ids : Ids) → IsPlan code L plan → IsFunction code (start_place code) → HasSizes code L → HasThree ids
    → HasBegun code L ids (begun plan ids)
has_begun code L plan ids is entry sizes three =
    let P : ℕ → ℕ → List ℕ → Type 0 = λ first count inputs. HasBegun code L ids (begun_from plan.words.items first count inputs ids) in
    let from : P (L.rooms (start_place code)) (L.rooms_count (start_place code)) (map L.input (26 ∷ 27 ∷ 28 ∷ 29 ∷ [])) =
    has_begun_from code L plan.words.items ids is.rooms entry sizes is.words three in
    subst (λ (f : ℕ). P f plan.count plan.inputs) (sym is.first)
    (subst (λ (c : ℕ). P (L.rooms (start_place code)) c plan.inputs) (sym is.count)
    (subst (λ (i : List ℕ). P (L.rooms (start_place code)) (L.rooms_count (start_place code)) i) (sym is.inputs) from))

-- there is room for what is written
pub have_room : (code : List Instruction) (L : Rooms) (plan : Plan) (n : ℕ) → IsPlan code L plan → IsFunction code (start_place code) → n ≡ length plan.words.items
    → HaveRoom plan n
have_room code L plan n is entry as_many =
    let total = is.words.all in
    let input : (b : ℕ) → is_built_in b ≡ true → L.input b + input_size b ≤ n =
    λ b h. let a = (is.rooms.within (Input b) h).1 in let c = is.rooms.inside in omega arith in
    let at : (k b : ℕ) (s : ℕ) → slice_index (map L.input (26 ∷ 27 ∷ 28 ∷ 29 ∷ [])) k ≡ L.input b → L.input b + s ≤ n → slice_index plan.inputs k + s ≤ n =
    λ k b s e h. let f = ap (λ (l : List ℕ). slice_index l k) is.inputs in omega arith in
    record {
      variables =
          let f = is.first in let c = is.count in
          let a = (is.rooms.rooms_within (start_place code) entry).1 in
          let b = (is.rooms.behind (start_place code) entry).1 in
          omega arith;
      group = at 0 26 3 refl (input 26 refl);
      local = at 1 27 3 refl (input 27 refl);
      global = at 2 28 3 refl (input 28 refl);
      index = at 3 29 1 refl (input 29 refl);
    }
