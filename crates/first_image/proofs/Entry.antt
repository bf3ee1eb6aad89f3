-- The entry: its parameter is stored, its statements run, and it returns.
use Rattle.std.proofs.Common.{◌≡◌, ◌≢◌, inr, ℕ, zero, suc, ◌+◌, ◌<◌, false, List, [], ◌∷◌, length, Some, None, refl, ap, ◌∙◌, subst, arith}
use Rattle.std.specs.Prelude.{slice_get}
use Rattle.behavior.specs.Values.{Value, triple}
use Rattle.behavior.specs.Meanings.{Done, Out, Undefined, Stuck, Ids}
use Rattle.behavior.specs.Running.{World, Result, Went, Ends as Ended, Flow, Next, Broke, Continued, Returned, outcome}
use Rattle.spirv_words.specs.declared.opcodes.Op.TheVariants.{Return, FunctionEnd}
use Rattle.spirv_words.specs.declared.images.Instruction.{Instruction}
use Rattle.spirv_words.specs.Machine.{Local, Plain, Path}
use Rattle.spirv_words.specs.Step.{State, Setting, with_some, back, gives, next}
use Rattle.spirv_words.specs.Runs.{setting, start}
use Rattle.first_form.specs.declared.shader.Shader.{Shader}
use Rattle.first_image.specs.Source.{statements_mean, source}
use Rattle.first_image.specs.Templates.{ins, statements_code}
use Rattle.first_image.specs.Image.{image_code, tables, entry_id, buffer_id}
use Rattle.first_image.proofs.Lists.{some_is}
use Rattle.first_image.proofs.Standing.{has_front, has_back}
use Rattle.first_image.proofs.Acts.{stored, at_same, at_other, put_same, load_input, store_acts}
use Rattle.first_image.proofs.Comes.{Comes, Over, Follows, comes_on, over_on, goes, ends}
use Rattle.first_image.proofs.Relation.{Context, IsReady, Sound, Exits, Lands}
use Rattle.first_image.proofs.Stmts.{statements_run}
use Rattle.first_image.proofs.Temporaries.{statements_need_none}
use Rattle.first_image.proofs.Constants.{statements_used}
use Rattle.first_image.proofs.Image.{used, entry_place, has_entry, starts, linked, buffer_found, input_found, constant_found, constant_below}

-- ---- the end of an entry's body is the end of the run

module _ (c : Context) (s s1 : State) (w : World) (id p : ℕ) (x : Exits) (comes : Comes c.m s w s1 w) (top : s1.below ≡ []) (at_end : slice_get c.m.code p ≡ Some (ins Return [])) where
  pub ended : (r : Result Flow) → Follows c.m s1 w (Lands c s1 w id 0 p x) r → (outcome r).ending ≢ Stuck → Over c.m s w (outcome r).events (outcome r).ending
  ended (Ended events Done) h ok = over_on c.m s s1 w w events Done comes h
  ended (Ended events Out) h ok = over_on c.m s s1 w w events Out comes h
  ended (Ended events Undefined) h ok = over_on c.m s s1 w w events Undefined comes h
  ended (Ended events Stuck) h ok = absurd (ok refl)
  ended (Went Next l w2) h ok =
      let over = ends c.m h.to w2 (ins Return []) (ap (λ q. slice_get c.m.code q) h.there.place ∙ at_end) (ap (λ b. back c.m b h.to.memory None) (h.there.later.below ∙ top)) in
      over_on c.m s s1 w w w2.events Done comes (over_on c.m s1 h.to w w2 w2.events Done h.there.comes over)
  ended (Went (Returned None) l w2) h ok =
      let over = ends c.m h.to w2 (ins Return []) (ap (λ q. slice_get c.m.code q) h.there.place ∙ h.is) (ap (λ b. back c.m b h.to.memory None) (h.there.later.below ∙ top)) in
      over_on c.m s s1 w w w2.events Done comes (over_on c.m s1 h.to w w2 w2.events Done h.there.comes over)
  ended (Went (Returned (Some v)) l w2) h ok =
      let over = ends c.m h.to w2 _ (ap (λ q. slice_get c.m.code q) h.there.place ∙ h.is) (ap (λ o. with_some o (λ o. back c.m h.to.below h.to.memory (Some o))) h.has ∙ ap (λ b. back c.m b h.to.memory (Some (Plain v))) (h.there.later.below ∙ top)) in
      over_on c.m s s1 w w w2.events Done comes (over_on c.m s1 h.to w w2 w2.events Done h.there.comes over)
  ended (Went Broke l w2) h ok = absurd (ok refl)
  ended (Went Continued l w2) h ok = absurd (ok refl)

-- ---- the entry of an image

module _ (home : List ℕ) (p : Shader) (ids : Ids) (lengths : ℕ → ℕ → ℕ) where
  abbrev m : Setting
  m = setting (image_code home p) ids lengths

  abbrev b : ℕ
  b = buffer_id p

  abbrev e : ℕ
  e = entry_id p

  abbrev q : ℕ
  q = entry_place home p

  abbrev body : List Instruction
  body = (statements_code (tables p) p.statements (e + 4) 0).instructions

  abbrev parameter : Value
  parameter = triple ids.global

  -- the states after the Label, the Variable, the Load and the Store
  abbrev labelled : State
  labelled = next (start m)

  abbrev pointed : State
  pointed = gives labelled (e + 2) (Path (Local 0 (e + 2)) [])

  abbrev loaded : State
  loaded = gives pointed (e + 3) (Plain parameter)

  abbrev ready_state : State
  ready_state = stored loaded 0 (e + 2) parameter

  -- the pointer to the parameter's variable
  pointer_loaded : loaded.ids (e + 2) ≡ Some (Path (Local 0 (e + 2)) [])
  pointer_loaded = at_other pointed.ids (e + 3) (Plain parameter) (e + 2) (λ e. absurd (omega arith)) ∙ at_same labelled.ids (e + 2) (Path (Local 0 (e + 2)) [])

  -- what stands for lower ids stays
  globals_loaded : (i : ℕ) → i < e + 2 → loaded.ids i ≡ m.globals.ids i
  globals_loaded i lt =
      at_other pointed.ids (e + 3) (Plain parameter) i (λ e. absurd (omega arith)) ∙ at_other labelled.ids (e + 2) (Path (Local 0 (e + 2)) []) i (λ e. absurd (omega arith))

  -- the run comes to where the statements begin
  prologue_runs : (w : World) → Comes m (start m) w ready_state w
  prologue_runs w =
      let has = has_entry home p in
      let input = at_other labelled.ids (e + 2) (Path (Local 0 (e + 2)) []) (b + 1) (λ e. absurd (omega arith)) ∙ input_found home p in
      let c1 = goes m (start m) w _ (ap (λ n. slice_get m.code n) (starts home p) ∙ has.1.0) labelled refl in
      let c2 = goes m labelled w _ (ap (λ n. slice_get m.code (n + 1)) (starts home p) ∙ has.1.1.0) pointed refl in
      let c3 = goes m pointed w _ (ap (λ n. slice_get m.code (n + 1 + 1)) (starts home p) ∙ has.1.1.1.0) loaded (load_input m pointed 9 (e + 3) (b + 1) 28 parameter input refl) in
      let c4 = goes m loaded w _ (ap (λ n. slice_get m.code (n + 1 + 1 + 1)) (starts home p) ∙ has.1.1.1.1.0) ready_state (store_acts m loaded (e + 2) (e + 3) 0 (e + 2) parameter pointer_loaded (at_same pointed.ids (e + 3) (Plain parameter))) in
      comes_on m (start m) labelled ready_state w w w c1 (comes_on m labelled pointed ready_state w w w c2 (comes_on m pointed loaded ready_state w w w c3 c4))

  -- the entry as a call that runs, with a clock of n
  abbrev context : ℕ → Context
  context n = record {
    m = m;
    t = tables p;
    base = e + 4;
    ids = loaded.ids;
    temps = 0;
    level = 0;
    count = 1;
    at_level = λ i. 0;
    at_variable = λ i. e + 2 + i;
    lent = λ k x. false;
    used = used home p;
    depth = suc n;
  }

  context_ready : (n : ℕ) → IsReady (context n)
  context_ready n = record {
    linked = linked home p ids lengths;
    buffer = globals_loaded b (omega arith) ∙ buffer_found home p;
    buffer_low = omega arith;
    constant = λ c u. globals_loaded ((tables p).constant c) (omega (arith, constant_below home p c u)) ∙ constant_found home p c u;
    constant_low = λ c u. omega (arith, constant_below home p c u);
    local_is = elim [
      | zero ↦ λ lt. subst (λ y. loaded.ids y ≡ Some (Path (Local 0 y) [])) (omega arith) pointer_loaded
      | suc i ↦ λ lt. absurd (omega arith)
    ];
    local_low = λ i lt. omega arith;
    temporary_is = λ k lt. absurd (omega arith);
    temporaries_low = omega arith;
    apart = λ i j li lj ne. inr (λ e. ne (omega arith));
    apart_temporary = λ i k lt. inr (λ e. absurd (omega arith));
    levels = λ i lt. omega arith;
    lent_is = λ i lt low. absurd (omega arith);
  }

  parameter_sound : (n : ℕ) → Sound (context n) ready_state (parameter ∷ [])
  parameter_sound n = record {
    known = λ i lt. refl;
    level = refl;
    count = refl;
    locals = elim [
      | zero ↦ λ v is. ap (λ x. ready_state.memory 0 x) (omega arith) ∙ put_same loaded.memory 0 (e + 2) parameter ∙ some_is is
      | suc i ↦ λ v is. absurd cc
    ];
  }

  -- the words end as the source does, after at least as many steps as the clock has units
  pub entry_over : (answers : List ℕ) (n : ℕ) → (source p ids lengths answers n).ending ≢ Stuck → Over m (start m) (record { answers = answers; events = []; clock = n }) (source p ids lengths answers n).events (source p ids lengths answers n).ending
  entry_over answers n ok =
      let w : World = record { answers = answers; events = []; clock = n } in
      -- no statement jumps to these
      let x : Exits = record { broken = 0; continued = 0 } in
      let c = context n in
      let from = q + 1 + 1 + 1 + 1 + 1 in
      let has = (has_entry home p).1.1.1.1.1 in
      let back = ins Return [] ∷ ins FunctionEnd [] ∷ [] in
      let names = statements_used (used home p) p.statements [] (λ c h. h) in
      let runs = (statements_run c (context_ready n) p.statements names).runs x (e + 4) 0 from ready_state w (parameter ∷ [])
      (record { place = ap (λ n. n + 1 + 1 + 1 + 1) (starts home p); low = omega arith; sound = parameter_sound n; time = omega arith })
      (has_front m.code from body back has) (omega (arith, statements_need_none (tables p) p.statements (e + 4) 0)) in
      ended c (start m) ready_state w (e + 4) (from + length body) x (prologue_runs w) refl (has_back m.code from body back has).0
      (statements_mean lengths p.statements (parameter ∷ []) w) runs ok
