-- Both directions of the theorem, from the simulation.
use Rattle.std.proofs.Common.{◌≡◌, ⊎_elim, ℕ, ◌≤◌, List, [], sym, ap, ◌∙◌, subst}
use Rattle.behavior.specs.Meanings.{Out, Stuck, Ids, Outcome, ReachedBy, Agree}
use Rattle.spirv_words.specs.Runs.{setting, start, words}
use Rattle.first_form.specs.declared.shader.Shader.{Shader}
use Rattle.first_image.specs.Source.{source}
use Rattle.first_image.specs.Image.{image_code, image_of}
use Rattle.first_image.proofs.Both.{longer}
use Rattle.first_image.proofs.NeverStuck.{never_stuck}
use Rattle.first_image.proofs.Entry.{entry_over}

module _ (home : List ℕ) (p : Shader) where
  -- the words end as the source does, after at least n steps
  follows : (ids : Ids) (lengths : ℕ → ℕ → ℕ) (answers : List ℕ) (n : ℕ) → (m : ℕ) × (n ≤ m) × (words (image_of home p) ids lengths answers m ≡ source p ids lengths answers n)
  follows ids lengths answers n =
      let o = entry_over home p ids lengths answers n (never_stuck p ids lengths answers n) in
      (o.steps, o.enough, o.is)

  -- with fewer steps the words have not come as far
  reached : (ids : Ids) (lengths : ℕ → ℕ → ℕ) (answers : List ℕ) (m : ℕ) → ReachedBy (words (image_of home p) ids lengths answers m) (source p ids lengths answers m)
  reached ids lengths answers m =
      let f = follows ids lengths answers m in
      let s = setting (image_code home p) ids lengths in
      subst (λ (o : Outcome). ReachedBy (words (image_of home p) ids lengths answers m) o) f.2 (longer s m f.0 f.1 (start s) answers [])

  pub agreement : Agree (source p) (words (image_of home p))
  agreement = record {
    follow = λ ids lengths answers n. let f = follows ids lengths answers n in (f.0, f.2);
    are_followed = λ ids lengths answers m. (m, reached ids lengths answers m);
    never_stuck = λ ids lengths answers m stuck. ⊎_elim
        (λ same. never_stuck p ids lengths answers m (sym (ap (λ (o : Outcome). o.ending) same) ∙ stuck))
        (λ out. absurd (let e : Stuck ≡ Out = sym stuck ∙ out.0 in cc))
        (reached ids lengths answers m);
  }
