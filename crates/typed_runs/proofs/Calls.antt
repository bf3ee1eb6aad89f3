-- Calls begin with arguments of the types of the parameters, and returns give what the call's type says.
use Rattle.std.proofs.Common.{◌≡◌, ℕ, suc, ◌+◌, ◌<◌, ◌≤◌, ◌⊎◌, inl, inr, true, false, nat_eq, List, [], ◌∷◌, length, Option, Some, None, MatchOption, slice_get, slice_index, refl, sym, ap, subst, ◌∙◌, add-one, zero-add, arith}
use Rattle.std.proofs.lemmas.Bool.{and_parts, cond_both, cases_eq, cases_lt}
use Rattle.behavior.specs.Values.{Value}
use Rattle.behavior.specs.Meanings.{Ids}
use Rattle.spirv_words.specs.declared.opcodes.Op.TheVariants.{Function, FunctionParameter, FunctionCall, Return, ReturnValue}
use Rattle.spirv_words.specs.declared.images.Instruction.{Instruction}
use Rattle.spirv_words.specs.Machine.{Local, Operand, at, second_of, place_of, result_of}
use Rattle.spirv_words.specs.Step.{State, Frame, Turn, Goes, level, with_some, enter, begun, back, act}
use Rattle.spirv_words.specs.Runs.{setting}
use Rattle.image_lookup.specs.Lookups.{operand}
use Rattle.image_places.specs.Places.{function_of}
use Rattle.image_types.specs.Functions.{is_void, is_function}
use Rattle.image_types.specs.Checking.{context_at}
use Rattle.image_calls.specs.Arguments.{is_argument, are_arguments, parameter_types}
use Rattle.image_scopes.specs.Scopes.{IsRun, IsSeen, IsGlobal}
use Rattle.image_scopes.specs.Facts.{ParameterAt, Begun}
use Rattle.image_facts.specs.Alike.{IsLike}
use Rattle.image_facts.specs.Operands.{globals_of, root_shape, type_id, Suits, StandsFor}
use Rattle.image_facts.proofs.Likes.{zero-like}
use Rattle.typed_runs.specs.States.{AreNamed, AreDeclared, AreHeld, AreFrames, IsFrame, IsTyped, Keeps}
use Rattle.typed_runs.proofs.Facts.{Facts}
use Rattle.typed_runs.proofs.Types.{typed_as}
use Rattle.typed_runs.proofs.Going.{At, AreSeen, seen, all_seen, at_same, at_other, unless_true, stands_for, made, made_operands, defines, value_of, result_there, named_with, declared_with, run_inside}
use Rattle.typed_runs.proofs.Operands.{keeps_some}
use Rattle.typed_runs.proofs.Memory.{match_some}

-- the first parameters of the function at a place stand for operands of their types
abbrev pub AreGiven : List Instruction → ℕ → ℕ → (ℕ → Option Operand) → Type 0
AreGiven code p n ids = (j x : ℕ) → j < n → place_of code x 0 ≡ Some (suc p + j) → StandsFor code (ids x) x

module _ (code : List Instruction) (facts : Facts code) where
  -- ---- arguments

  -- another parameter stands elsewhere
  one_parameter : (p n t r x : ℕ) → ParameterAt code p n t r → place_of code x 0 ≡ Some (suc p + n) → x ≡ r
  one_parameter p n t r x a e =
      let i : Instruction = record { op = FunctionParameter; operands = t ∷ r ∷ [] } in
      let d : Some r ≡ Some x = defines code x i (made code (suc p + n) x i a.stands e) in
      cc

  given_more : (p n t r : ℕ) (ids : ℕ → Option Operand) (o : Operand) → ParameterAt code p n t r → Suits code o t → AreGiven code p n ids
      → AreGiven code p (suc n) (at ids r o)
  given_more p n t r ids o a h g = λ j x l e. either j x l e (cases_eq x r)
    where
      earlier : (j x : ℕ) → (x ≡ r → ⊥) → place_of code x 0 ≡ Some (suc p + j) → j < suc n → (j < n) ⊎ (n ≤ j) → StandsFor code (ids x) x
      earlier j x ne e l (inl m) = g j x m e
      earlier j x ne e l (inr m) =
          let k : j ≡ n = omega arith in
          absurd (ne (one_parameter p n t r x a (e ∙ ap (λ y. Some (suc p + y)) k)))

      either : (j x : ℕ) → j < suc n → place_of code x 0 ≡ Some (suc p + j) → (x ≡ r) ⊎ (x ≡ r → ⊥) → StandsFor code (at ids r o x) x
      either j x l e (inl same) =
          subst (λ y. StandsFor code y x) (sym (at_same ids r x o same)) (stands_for code o x t (ap (type_id code) same ∙ a.type) h)
      either j x l e (inr other) =
          subst (λ y. StandsFor code y x) (sym (at_other ids r x o other)) (earlier j x other e l (cases_lt j n))

  module _ (ids : Ids) (lengths : ℕ → ℕ → ℕ) where
    enters : (s : State) (f : ℕ) (b : Begun code f) (ts arguments : List ℕ) (n place : ℕ) (now : ℕ → Option Operand)
        (go : ℕ → (ℕ → Option Operand) → Turn) → is_function code f ≡ true → IsTyped code s → are_arguments code ts arguments ≡ true
        → AreSeen code s.place arguments → ((j t : ℕ) → slice_get ts j ≡ Some t → slice_get (parameter_types code f) (n + j) ≡ Some t)
        → place ≡ suc b.place + n → AreDeclared code now → AreGiven code b.place n now
        → ((then : ℕ → Option Operand) → AreDeclared code then → AreGiven code b.place (n + length ts) then
        → Keeps code (go (suc b.place + (n + length ts)) then)) → Keeps code (enter (setting code ids lengths) s.ids arguments place now go)
    enters s f b [] [] n place now go callee typed h seen q e d g k =
        let z : n ≡ n + 0 = omega arith in
        subst (λ x. Keeps code (go x now)) (ap (λ y. suc b.place + y) (sym z) ∙ sym e) (k now d (subst (λ c. AreGiven code b.place c now) z g))
    enters s f b (t ∷ ts) (a ∷ arguments) n place now go callee typed h seen q e d g k =
        let both = and_parts (is_argument code t a) (are_arguments code ts arguments) h in
        let one = typed_as code a t both.0 in
        let z : n ≡ n + 0 = omega arith in
        let first : slice_get (parameter_types code f) n ≡ Some t = ap (slice_get (parameter_types code f)) z ∙ q 0 t refl in
        let p = b.parameter n t first in
        let v : is_void code (type_id code a) ≡ false = ap (is_void code) one.1 ∙ facts.parameter f n t callee first in
        let o = value_of code facts s a typed (seen 0 a refl one.0) v in
        let suits : Suits code o.0 t = subst (Suits code o.0) one.1 o.2 in
        let l : suc n + length ts ≡ n + suc (length ts) = omega arith in
        let next : place + 1 ≡ suc b.place + suc n = omega arith in
        keeps_some code (slice_get code place) (record { op = FunctionParameter; operands = t ∷ p.0 ∷ [] })
        (λ i. with_some (second_of i.operands) (λ r. with_some (s.ids a) (λ o. enter (setting code ids lengths) s.ids arguments (place + 1) (at now r o) go)))
        (ap (slice_get code) e ∙ p.1.stands)
        (keeps_some code (s.ids a) o.0 (λ o. enter (setting code ids lengths) s.ids arguments (place + 1) (at now p.0 o) go) o.1
        (enters s f b ts arguments (suc n) (place + 1) (at now p.0 o.0) go callee typed both.1 (λ j x e v. seen (suc j) x e v)
        (λ j u x. ap (slice_get (parameter_types code f)) (shift n j) ∙ q (suc j) u x) next
        (declared_with code facts (suc b.place + n) p.0 now o.0 (facts.parameter_inside (suc b.place + n) t p.0 p.1.stands) p.1.there d)
        (given_more b.place n t p.0 now o.0 p.1 suits g)
        (λ then d' g'. subst (λ c. Keeps code (go (suc b.place + c) then)) (sym l) (k then d' (subst (λ c. AreGiven code b.place c then) l g')))))
      where
        shift : (n j : ℕ) → suc n + j ≡ n + suc j
        shift n j = omega arith
    enters s f b [] (a ∷ arguments) n place now go callee typed h seen q e d g k = cc
    enters s f b (t ∷ ts) [] n place now go callee typed h seen q e d g k = cc

    -- ---- calls

    begun_held : (memory : ℕ → ℕ → Value) (level : ℕ) → AreHeld code memory → AreHeld code (begun (setting code ids lengths) memory level)
    begun_held memory level h = λ l x local.
        let f = facts.local x local in
        cond_both (nat_eq l level) ((setting code ids lengths).initial x) (memory l x) (λ v. MatchOption (root_shape code (Local l x)) ⊥ (λ s. IsLike v s))
        (λ _. match_some (root_shape code (Local l x)) f.form (λ s. IsLike ((setting code ids lengths).initial x) s) (f.is l)
        (subst (λ v. IsLike v f.form) (sym f.begins) (zero-like f.form f.plain)))
        (λ _. h l x local)

    called : (s : State) (t r f : ℕ) (arguments : List ℕ) (b : Begun code f) (then : ℕ → Option Operand) → At code s FunctionCall (t ∷ r ∷ f ∷ arguments)
        → AreDeclared code then → AreGiven code b.place (length (parameter_types code f)) then
        → IsTyped code (record {
          place = suc b.place + length (parameter_types code f);
          ids = then;
          below = (record { place = s.place + 1; ids = s.ids; result = r }) ∷ s.below;
          memory = begun (setting code ids lengths) s.memory (level s + 1);
        })
    called s t r f arguments b then a d g = record {
      run = b.run;
      named = λ x q. known x (b.seen x q);
      declared = d;
      held = begun_held s.memory (level s + 1) a.typed.held;
      frames = (
        record {
          call = s.place;
          behind = add-one s.place;
          run = a.typed.run;
          kind = t;
          callee = f;
          arguments = arguments;
          stands = a.stands;
          place = b.place;
          called = b.there;
          is = b.in_it;
          named = a.typed.named;
          declared = a.typed.declared;
        },
        subst (λ f. AreFrames code f s.below) (facts.in_function s.place a.typed.run ∙ ap (function_of code) (sym (add-one s.place))) a.typed.frames,
      );
    }
      where
        known : (x : ℕ) → IsGlobal code x ⊎ ((j : ℕ) × (j < length (parameter_types code f)) × (place_of code x 0 ≡ Some (suc b.place + j)))
            → StandsFor code (then x) x
        known x (inl q) =
            let o = facts.global x q in
            subst (λ y. StandsFor code y x) (sym (d x q ∙ o.1)) (stands_for code o.0 x (type_id code x) refl o.2)
        known x (inr q) = g q.0 x q.1 q.2

    pub call_keeps : (s : State) (t r f : ℕ) (arguments : List ℕ) → At code s FunctionCall (t ∷ r ∷ f ∷ arguments)
        → Keeps code (act (setting code ids lengths) FunctionCall (t ∷ r ∷ f ∷ arguments) s)
    call_keeps s t r f arguments a =
        let c = facts.calls s.place t r f arguments a.typed.run a.stands in
        let b = facts.begun f c.callee in
        let seen = all_seen code facts s FunctionCall t r (f ∷ arguments) a refl refl refl in
        let z : b.place + 1 ≡ suc b.place + 0 = omega arith in
        let l : 0 + length (parameter_types code f) ≡ length (parameter_types code f) = zero-add (length (parameter_types code f)) in
        keeps_some code (place_of code f 0) b.place
        (λ p. enter (setting code ids lengths) s.ids arguments (p + 1) (globals_of code).ids (λ place ids'. Goes (record {
          place = place;
          ids = ids';
          below = (record { place = s.place + 1; ids = s.ids; result = r }) ∷ s.below;
          memory = begun (setting code ids lengths) s.memory (level s + 1);
        }))) b.there
        (enters s f b (parameter_types code f) arguments 0 (b.place + 1) (globals_of code).ids (λ place ids'. Goes (record {
          place = place;
          ids = ids';
          below = (record { place = s.place + 1; ids = s.ids; result = r }) ∷ s.below;
          memory = begun (setting code ids lengths) s.memory (level s + 1);
        })) c.callee a.typed c.fit (λ j x e v. seen (suc j) x e v) (λ j u x. ap (slice_get (parameter_types code f)) (zero-add j) ∙ x) z (λ x g. refl)
        (λ j x n e. absurd (omega arith))
        (λ then d g. subst (λ n. IsTyped code (record {
          place = suc b.place + n;
          ids = then;
          below = (record { place = s.place + 1; ids = s.ids; result = r }) ∷ s.below;
          memory = begun (setting code ids lengths) s.memory (level s + 1);
        })) (sym l) (called s t r f arguments b then a d (subst (λ n. AreGiven code b.place n then) l g))))

    -- ---- returns

    -- what a function gives is of the type of the call that it goes back behind
    gives_back : (k : ℕ) (f : Frame) → IsRun code k → (fr : IsFrame code (function_of code k) f) → (context_at code k).result_type ≡ fr.kind
    gives_back k f run fr =
        let w = facts.within k run in
        let c = facts.calls fr.call fr.kind f.result fr.callee fr.arguments fr.run fr.stands in
        let e : suc w.place ≡ suc fr.place = sym w.opened ∙ fr.is in
        let p : w.place ≡ fr.place = omega arith in
        let i : Instruction = record { op = Function; operands = w.result ∷ w.function ∷ 0 ∷ w.type ∷ [] } in
        let st : slice_get code fr.place ≡ Some i = ap (slice_get code) (sym p) ∙ w.stands in
        let o : operand code fr.callee 0 ≡ w.result = ap (λ l. slice_index l 0) (made_operands code fr.place fr.callee i st fr.called) in
        w.gives ∙ (sym o ∙ c.gives)

    came_back : (f : Frame) (fs : List Frame) (ids' : ℕ → Option Operand) (memory : ℕ → ℕ → Value) (function : ℕ) (fr : IsFrame code function f)
        → AreFrames code (function_of code f.place) fs → AreNamed code (suc fr.call) ids' → AreDeclared code ids' → AreHeld code memory
        → IsTyped code (record { place = f.place; ids = ids'; below = fs; memory = memory })
    came_back f fs ids' memory function fr frames n d h =
        let i : Instruction = record { op = FunctionCall; operands = fr.kind ∷ f.result ∷ fr.callee ∷ fr.arguments } in
        let next = facts.next fr.call i fr.run fr.stands refl in
        record {
          run = subst (IsRun code) (sym fr.behind) next.run;
          named = subst (λ k. AreNamed code k ids') (sym fr.behind) n;
          declared = d;
          held = h;
          frames = frames;
        }

    returned : (s : State) (below : List Frame) → At code s Return [] → AreFrames code (function_of code s.place) below
        → Keeps code (back (setting code ids lengths) below s.memory None)
    returned s [] a frames = tt
    returned s (f ∷ fs) a frames = came_back f fs f.ids s.memory (function_of code s.place) frames.0 frames.1
        (λ x q. known x ((facts.next frames.0.call (record { op = FunctionCall; operands = frames.0.kind ∷ f.result ∷ frames.0.callee ∷ frames.0.arguments })
        frames.0.run frames.0.stands refl).seen x q)) frames.0.declared a.typed.held
      where
        here : (result_of FunctionCall (frames.0.kind ∷ f.result ∷ frames.0.callee ∷ frames.0.arguments) ≡ Some f.result)
            × (place_of code f.result 0 ≡ Some frames.0.call) × (type_id code f.result ≡ frames.0.kind)
        here = result_there code facts frames.0.call f.result frames.0.kind FunctionCall (frames.0.callee ∷ frames.0.arguments) frames.0.stands refl

        known : (x : ℕ) → IsSeen code frames.0.call x
            ⊎ ((result_of FunctionCall (frames.0.kind ∷ f.result ∷ frames.0.callee ∷ frames.0.arguments) ≡ Some x) × (place_of code x 0 ≡ Some frames.0.call))
            → StandsFor code (f.ids x) x
        known x (inl q) = frames.0.named x q
        known x (inr q) =
            let d : Some x ≡ Some f.result = sym q.0 ∙ here.0 in
            let e : x ≡ f.result = cc in
            let k : type_id code x ≡ (context_at code s.place).result_type = ap (type_id code) e ∙ (here.2 ∙ sym (gives_back s.place f a.typed.run frames.0)) in
            unless_true (is_void code (type_id code x)) (MatchOption (f.ids x) ⊥ (λ p. Suits code p (type_id code x)))
            (ap (is_void code) k ∙ facts.returns s.place a.typed.run a.stands)

    pub return_keeps : (s : State) → At code s Return [] → Keeps code (act (setting code ids lengths) Return [] s)
    return_keeps s a = returned s s.below a a.typed.frames

    returned_value : (s : State) (v : ℕ) (o : Operand) (below : List Frame) → At code s ReturnValue (v ∷ []) → AreFrames code (function_of code s.place) below
        → Suits code o (context_at code s.place).result_type → Keeps code (back (setting code ids lengths) below s.memory (Some o))
    returned_value s v o [] a frames h = tt
    returned_value s v o (f ∷ fs) a frames h =
        let fr = frames.0 in
        let there = result_there code facts fr.call f.result fr.kind FunctionCall (fr.callee ∷ fr.arguments) fr.stands refl in
        came_back f fs (at f.ids f.result o) s.memory (function_of code s.place) fr frames.1
        (named_with code facts fr.call f.result fr.kind FunctionCall (fr.callee ∷ fr.arguments) f.ids o fr.run fr.stands refl refl fr.named
        (subst (Suits code o) (gives_back s.place f a.typed.run fr) h))
        (declared_with code facts fr.call f.result f.ids o (run_inside code facts fr.call fr.run) there.1 fr.declared) a.typed.held

    pub return_value_keeps : (s : State) (v : ℕ) → At code s ReturnValue (v ∷ []) → Keeps code (act (setting code ids lengths) ReturnValue (v ∷ []) s)
    return_value_keeps s v a =
        let r = facts.returns_value s.place v a.typed.run a.stands in
        let g = typed_as code v (context_at code s.place).result_type r.1 in
        let n : is_void code (type_id code v) ≡ false = ap (is_void code) g.1 ∙ facts.not_void (context_at code s.place).result_type r.0 in
        let o = value_of code facts s v a.typed (seen code facts s ReturnValue (v ∷ []) 0 v a refl refl g.0) n in
        keeps_some code (s.ids v) o.0 (λ o. back (setting code ids lengths) s.below s.memory (Some o)) o.1
        (returned_value s v o.0 s.below a a.typed.frames (subst (Suits code o.0) g.1 o.2))
