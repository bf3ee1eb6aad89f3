-- A run begins in a typed state.
use Rattle.std.proofs.Common.{ℕ, List, refl, sym, subst}
use Rattle.behavior.specs.Meanings.{Ids}
use Rattle.spirv_words.specs.declared.images.Instruction.{Instruction}
use Rattle.spirv_words.specs.Machine.{Local}
use Rattle.spirv_words.specs.Runs.{setting, start, start_place}
use Rattle.image_facts.specs.Alike.{IsLike}
use Rattle.image_facts.specs.Operands.{globals_of, root_shape, type_id, StandsFor}
use Rattle.image_facts.proofs.Likes.{zero-like}
use Rattle.typed_runs.specs.States.{AreNamed, AreHeld, IsTyped}
use Rattle.typed_runs.proofs.Facts.{Facts}
use Rattle.typed_runs.proofs.Going.{stands_for}
use Rattle.typed_runs.proofs.Memory.{match_some}

module _ (code : List Instruction) (facts : Facts code) (ids : Ids) (lengths : ℕ → ℕ → ℕ) where
  named : AreNamed code (start_place code) (globals_of code).ids
  named x q =
      let o = facts.global x (facts.entry.seen x q) in
      subst (λ y. StandsFor code y x) (sym o.1) (stands_for code o.0 x (type_id code x) refl o.2)

  begins_held : AreHeld code (λ level x. (setting code ids lengths).initial x)
  begins_held level x local =
      let f = facts.local x local in
      match_some (root_shape code (Local level x)) f.form (λ s. IsLike ((setting code ids lengths).initial x) s) (f.is level)
      (subst (λ v. IsLike v f.form) (sym f.begins) (zero-like f.form f.plain))

  pub start_is_typed : IsTyped code (start (setting code ids lengths))
  start_is_typed = record {
    run = facts.entry.run;
    named = named;
    declared = λ x g. refl;
    held = begins_held;
    frames = (facts.entry.id, facts.entry.place, facts.entry.is_entry, facts.entry.there, facts.entry.in_it);
  }
