use Rattle.std.proofs.Common.{◌≡◌, ◌∷◌, [], ℕ, map, sym, refl, ap, ◌∙◌, subst}
use Rattle.spirv_words.specs.Runs.{start_place}
use Rattle.run_plans.specs.declared.base.Ground.{Ground}
use Rattle.run_plans.specs.Plans.{AreBuffers}
use Rattle.run_plans.specs.Ground.{rooms_of, pair_of}
use Rattle.run_plans.proofs.Ordered.{buffers_are, need_is}
use Rattle.run_plans.proofs.plan.plan_on.Goals as goal

buffers_same : (g : Ground) → (rooms_of g).buffers ≡ map pair_of g.buffers
unfolding rooms_of
buffers_same g = refl

four_same : (a b c d e f g h : ℕ) → a ≡ e → b ≡ f → c ≡ g → d ≡ h → a ∷ b ∷ c ∷ d ∷ [] ≡ e ∷ f ∷ g ∷ h ∷ []
four_same a b c d e f g h p q r s =
    ap (λ a. a ∷ b ∷ c ∷ d ∷ []) p ∙ ap (λ b. e ∷ b ∷ c ∷ d ∷ []) q ∙ ap (λ c. e ∷ f ∷ c ∷ d ∷ []) r ∙ ap (λ d. e ∷ f ∷ g ∷ d ∷ []) s

pub returns : goal.returns
returns c =
    let g = c.args.base in
    let code = g.places.code in
    let L = rooms_of g in
    let place : c.start_place-place.result ≡ start_place code = c.start_place-place.ensures ∙ ap start_place c.declarations.ensures in
    record {
      rooms = c.requires.ground.rooms;
      actions = c.in_ok-actions.ensures;
      words = c.in_ok-words.ensures;
      buffers = subst (AreBuffers code) (sym (buffers_same g)) (buffers_are code g.buffers c.requires.bounds);
      pairs = sym (buffers_same g);
      ascending = c.requires.bounds.ascending;
      need = need_is code g.buffers c.requires.bounds;
      place = place;
      first = c.rooms-first.ensures ∙ ap L.rooms place;
      count = c.rooms_count-count.ensures ∙ ap L.rooms_count place;
      inputs = four_same _ _ _ _ _ _ _ _ c.input.ensures c.input-2.ensures c.input-3.ensures c.input-4.ensures;
    }
