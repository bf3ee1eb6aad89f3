-- Programs with more to go on.
use Rattle.std.proofs.Common.{◌≡◌, ◌≢◌, ℕ, zero, suc, ◌+◌, ◌≤◌, inl, inr, ⊎_elim, Bool, true, false, List, [], ◌++◌, length, Option, Some, None, refl, sym, ap, ◌∙◌, subst, arith}
use Rattle.std.specs.Prelude.{map, nat_eq}
use Rattle.behavior.specs.Values.{Value}
use Rattle.behavior.specs.Meanings.{Event, Done, Out, Undefined, Stuck, Outcome, IsPrefix, ReachedBy}
use Rattle.behavior.specs.Running.{World, Result, Went, Ends, Flow, Next, Broke, Continued, Returned, outcome}
use Rattle.shader_kernel.specs.Kernel.{Function}
use Rattle.shader_kernel.specs.Operators.{zeros}
use Rattle.shader_kernel.specs.Actions.{ends, either, back_at}
use Rattle.shader_kernel.specs.Meaning.{Argument, Calls, call_with, finals, value_of, Program, fixed, body_means, takes, function_means, calls_at, entry_means, input_values, means}
use Rattle.shader_kernel.specs.Extending.{IsExtended, IsDetermined}
use Rattle.shader_kernel.proofs.Steady.{prefix_same, events_of, longer, Extended, Steady, ends_steady, either_steady}
use Rattle.shader_kernel.proofs.Bodies.{stat_steady}

module _ (more : List ℕ) (k : ℕ) where
  -- ---- calls

  finals_keep : (g : Bool) (n : ℕ) (before : List Event) (r : Result Flow) → IsPrefix before (events_of r) → IsPrefix before (events_of (finals g n r))
  finals_keep g n before (Ends events e) p = p
  finals_keep g n before (Went Broke l w) p = p
  finals_keep g n before (Went Continued l w) p = p
  finals_keep true n before (Went Next l w) p = p
  finals_keep true n before (Went (Returned None) l w) p = p
  finals_keep true n before (Went (Returned (Some v)) l w) p = p
  finals_keep false n before (Went Next l w) p = p
  finals_keep false n before (Went (Returned None) l w) p = p
  finals_keep false n before (Went (Returned (Some v)) l w) p = p

  finals_extend : (g : Bool) (n : ℕ) (r r' : Result Flow) → Extended more k r r' → Extended more k (finals g n r) (finals g n r')
  finals_extend g n (Ends events Done) r' e = ap (finals g n) e
  finals_extend g n (Ends events Out) r' e = finals_keep g n events r' e
  finals_extend g n (Ends events Undefined) r' e = ap (finals g n) e
  finals_extend g n (Ends events Stuck) r' e = ap (finals g n) e
  finals_extend g n (Went Broke l w) r' e = ap (finals g n) e
  finals_extend g n (Went Continued l w) r' e = ap (finals g n) e
  finals_extend true n (Went Next l w) r' e = ap (finals true n) e
  finals_extend true n (Went (Returned None) l w) r' e = ap (finals true n) e
  finals_extend true n (Went (Returned (Some v)) l w) r' e = ap (finals true n) e
  finals_extend false n (Went Next l w) r' e = ap (finals false n) e
  finals_extend false n (Went (Returned None) l w) r' e = ap (finals false n) e
  finals_extend false n (Went (Returned (Some v)) l w) r' e = ap (finals false n) e

  back_keeps : {A : Type 0} (r : Result A) (l : List Value) (before : List Event) → IsPrefix before (events_of r) → IsPrefix before (events_of (back_at r l))
  back_keeps (Went a inner w) l before p = p
  back_keeps (Ends events e) l before p = p

  back_extends : {A : Type 0} (r r' : Result A) (l : List Value) → Extended more k r r' → Extended more k (back_at r l) (back_at r' l)
  back_extends (Went a inner w) r' l e = ap (λ x. back_at x l) e
  back_extends (Ends events Done) r' l e = ap (λ x. back_at x l) e
  back_extends (Ends events Out) r' l e = back_keeps r' l events e
  back_extends (Ends events Undefined) r' l e = ap (λ x. back_at x l) e
  back_extends (Ends events Stuck) r' l e = ap (λ x. back_at x l) e

  -- calls that keep all events and only go on
  pub record CallsSteady {C : Type 0} (calls calls' : Calls C) : Type 0 where
    pub keeps : (callee : C) (wanted : Bool) (arguments : List Argument) (w : World) → IsPrefix w.events (events_of (calls' callee wanted arguments w))
    pub extends : (callee : C) (wanted : Bool) (arguments : List Argument) (w : World) → Extended more k (calls callee wanted arguments w) (calls' callee wanted arguments (longer more k w))

  module _ {C T : Type 0} (p : Program C T) (lengths : ℕ → ℕ → ℕ) where
    sound_of : (calls calls' : Calls C) → CallsSteady calls calls' → (callee : C) (wanted : Bool) (arguments : List Argument) → Steady more k (call_with (fixed p lengths) p.zero_of calls callee wanted arguments) (call_with (fixed p lengths) p.zero_of calls' callee wanted arguments)
    sound_of calls calls' s callee wanted arguments = record {
      keeps = λ l w. back_keeps (calls' callee wanted arguments w) l w.events (s.keeps callee wanted arguments w);
      extends = λ l w. back_extends (calls callee wanted arguments w) (calls' callee wanted arguments (longer more k w)) l (s.extends callee wanted arguments w);
    }

    body_steady : (d d' : ℕ) (calls calls' : Calls C) → d ≤ d' → CallsSteady calls calls' → (f : Function C T) (given : List Value) → Steady more k (body_means p lengths d calls f given) (body_means p lengths d' calls' f given)
    body_steady d d' calls calls' le s f given =
        let inner = stat_steady more k (fixed p lengths) p.zero_of calls calls' (sound_of calls calls' s) d d' le f.body in
        record {
          keeps = λ l w. inner.keeps (given ++ zeros p.zero_of f.locals) w;
          extends = λ l w. inner.extends (given ++ zeros p.zero_of f.locals) w;
        }

    final_steady : (d d' : ℕ) (calls calls' : Calls C) → d ≤ d' → CallsSteady calls calls' → (f : Function C T) (given : List Value)
        → Steady more k (λ l w. finals f.gives (length f.parameters) (body_means p lengths d calls f given l w)) (λ l w. finals f.gives (length f.parameters) (body_means p lengths d' calls' f given l w))
    final_steady d d' calls calls' le s f given =
        let body = body_steady d d' calls calls' le s f given in
        record {
          keeps = λ l w. finals_keep f.gives (length f.parameters) w.events (body_means p lengths d' calls' f given l w) (body.keeps l w);
          extends = λ l w. finals_extend f.gives (length f.parameters) (body_means p lengths d calls f given l w) (body_means p lengths d' calls' f given l (longer more k w)) (body.extends l w);
        }

    fitting_steady : (d d' : ℕ) (calls calls' : Calls C) → d ≤ d' → CallsSteady calls calls' → (f : Function C T) (wanted : Bool) (arguments : List Argument)
        → Steady more k
        (either (takes p lengths f wanted arguments) (λ l w. finals f.gives (length f.parameters) (body_means p lengths d calls f (map value_of arguments) l w)) (ends Stuck))
        (either (takes p lengths f wanted arguments) (λ l w. finals f.gives (length f.parameters) (body_means p lengths d' calls' f (map value_of arguments) l w)) (ends Stuck))
    fitting_steady d d' calls calls' le s f wanted arguments =
        either_steady more k (takes p lengths f wanted arguments)
        (λ l w. finals f.gives (length f.parameters) (body_means p lengths d calls f (map value_of arguments) l w))
        (λ l w. finals f.gives (length f.parameters) (body_means p lengths d' calls' f (map value_of arguments) l w))
        (ends Stuck) (ends Stuck) (final_steady d d' calls calls' le s f (map value_of arguments)) (ends_steady more k Stuck)

    function_keeps : (d d' : ℕ) (calls calls' : Calls C) → d ≤ d' → CallsSteady calls calls' → (f : Option (Function C T)) (wanted : Bool) (arguments : List Argument) (w : World) → IsPrefix w.events (events_of (function_means p lengths d' calls' f wanted arguments w))
    function_keeps d d' calls calls' le s None wanted arguments w = prefix_same w.events
    function_keeps d d' calls calls' le s (Some f) wanted arguments w = (fitting_steady d d' calls calls' le s f wanted arguments).keeps [] w

    function_extends : (d d' : ℕ) (calls calls' : Calls C) → d ≤ d' → CallsSteady calls calls' → (f : Option (Function C T)) (wanted : Bool) (arguments : List Argument) (w : World) → Extended more k (function_means p lengths d calls f wanted arguments w) (function_means p lengths d' calls' f wanted arguments (longer more k w))
    function_extends d d' calls calls' le s None wanted arguments w = refl
    function_extends d d' calls calls' le s (Some f) wanted arguments w = (fitting_steady d d' calls calls' le s f wanted arguments).extends [] w

    -- calls one level deeper
    deeper : (d d' : ℕ) → d ≤ d' → CallsSteady (calls_at p lengths d) (calls_at p lengths d') → CallsSteady (calls_at p lengths (suc d)) (calls_at p lengths (suc d'))
    deeper d d' le s = record {
      keeps = λ callee wanted arguments w. function_keeps (suc d) (suc d') (calls_at p lengths d) (calls_at p lengths d') (omega (arith, le)) s (p.function callee) wanted arguments w;
      extends = λ callee wanted arguments w. function_extends (suc d) (suc d') (calls_at p lengths d) (calls_at p lengths d') (omega (arith, le)) s (p.function callee) wanted arguments w;
    }

    calls_keep : (d : ℕ) → CallsSteady (calls_at p lengths d) (calls_at p lengths d)
    calls_keep zero = record { keeps = λ callee wanted arguments w. prefix_same w.events; extends = λ callee wanted arguments w. prefix_same w.events }
    calls_keep (suc d) = deeper d d (omega arith) (calls_keep d)

    calls_steady : (d d' : ℕ) → d ≤ d' → CallsSteady (calls_at p lengths d) (calls_at p lengths d')
    calls_steady zero d' le = record {
      keeps = (calls_keep d').keeps;
      extends = λ callee wanted arguments w. (calls_keep d').keeps callee wanted arguments (longer more k w);
    }
    calls_steady (suc d) zero le = let no : ⊥ = omega (arith, le) in absurd no
    calls_steady (suc d) (suc d') le = deeper d d' (omega (arith, le)) (calls_steady d d' (omega (arith, le)))

    -- ---- the entry

    entry_extends : (n : ℕ) (f : Option (Function C T)) (given : List Value) (w : World) → Extended more k (entry_means p lengths n f given w) (entry_means p lengths (n + k) f given (longer more k w))
    entry_extends n None given w = refl
    entry_extends n (Some f) given w =
        (either_steady more k (nat_eq (length f.parameters) (length given)) (body_means p lengths (suc n) (calls_at p lengths n) f given)
        (body_means p lengths (suc (n + k)) (calls_at p lengths (n + k)) f given) (ends Stuck) (ends Stuck)
        (body_steady (suc n) (suc (n + k)) (calls_at p lengths n) (calls_at p lengths (n + k)) (omega arith) (calls_steady n (n + k) (omega arith)) f given)
        (ends_steady more k Stuck)).extends [] w

  events_stay : (r : Result Flow) → events_of r ≡ (outcome r).events
  events_stay (Went Next l w) = refl
  events_stay (Went (Returned v) l w) = refl
  events_stay (Went Broke l w) = refl
  events_stay (Went Continued l w) = refl
  events_stay (Ends events e) = refl

  outcome_extends : (r r' : Result Flow) → Extended more k r r' → ReachedBy (outcome r) (outcome r')
  outcome_extends (Went Next l w) r' e = inl (sym (ap outcome e))
  outcome_extends (Went (Returned v) l w) r' e = inl (sym (ap outcome e))
  outcome_extends (Went Broke l w) r' e = inl (sym (ap outcome e))
  outcome_extends (Went Continued l w) r' e = inl (sym (ap outcome e))
  outcome_extends (Ends events Done) r' e = inl (sym (ap outcome e))
  outcome_extends (Ends events Out) r' e = inr (refl, subst (λ x. IsPrefix events x) (events_stay r') e)
  outcome_extends (Ends events Undefined) r' e = inl (sym (ap outcome e))
  outcome_extends (Ends events Stuck) r' e = inl (sym (ap outcome e))

pub means_extend : {C T : Type 0} (p : Program C T) → IsExtended (means p)
means_extend p = λ ids lengths answers more n k.
    let given = input_values ids p.inputs in
    let w : World = record { answers = answers; events = []; clock = n } in
    let f = p.function p.entry in
    outcome_extends more k (entry_means p lengths n f given w) (entry_means p lengths (n + k) f given (longer more k w)) (entry_extends more k p lengths n f given w)

-- where a run was not cut off, it is the same with more
same_end : (x y : Outcome) → x.ending ≢ Out → ReachedBy x y → x ≡ y
same_end x y not_out r = ⊎_elim (λ e. e) (λ short. absurd (not_out short.0)) r

pub means_determined : {C T : Type 0} (p : Program C T) → IsDetermined (means p)
means_determined p = λ ids lengths answers n k not_n not_k.
    let m = means p ids lengths in
    let first : m answers n ≡ m (answers ++ []) (n + k) = same_end (m answers n) (m (answers ++ []) (n + k)) not_n (means_extend p ids lengths answers [] n k) in
    let second : m answers k ≡ m (answers ++ []) (k + n) = same_end (m answers k) (m (answers ++ []) (k + n)) not_k (means_extend p ids lengths answers [] k n) in
    let order : n + k ≡ k + n = omega arith in
    first ∙ ap (λ x. m (answers ++ []) x) order ∙ sym second
