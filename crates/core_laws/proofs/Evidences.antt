-- The tree of evidence tells the evidence.
use Rattle.std.proofs.Common.{◌≡◌, sym, ap, subst, ◌∙◌}
use Rattle.slang_core.specs.declared.evidence.Evidence.{Evidence, roll-Evidence, out-Evidence, map-Evidence, roll-out-Evidence, ind-Evidence, fold-roll-Evidence}
use Rattle.slang_core.specs.declared.evidence.Evidence.TheOpen.{Evidence-F}
use Rattle.slang_core.specs.declared.evidence.Evidence.TheOpen as evidence
use Rattle.slang_core.specs.TypeTrees.{arg_tree}
use Rattle.slang_core.specs.EvidenceTrees.{evidence_tree, evidence_layer, evidence_part}
use Rattle.form_grammar.specs.Trees.{Tree}
use Rattle.core_laws.proofs.Parts.{Tells, Told, un_nested, told_nested, list_tells, ref_tells}
use Rattle.core_laws.proofs.Types.{arg_tells}

abbrev firsts : Evidence-F (Told evidence_tree) → Evidence-F Evidence
firsts y = map-Evidence (Told evidence_tree) Evidence (λ e. e.0) y

abbrev shown : Evidence-F Evidence → Tree
shown x = evidence_layer (map-Evidence Evidence Tree evidence_tree x)

layer_tells : (y : Evidence-F (Told evidence_tree)) (w : Evidence-F Evidence) → shown (firsts y) ≡ shown w → firsts y ≡ w
layer_tells (evidence.Constraint n) (evidence.Constraint m) e = cc
layer_tells (evidence.Bound t r n) (evidence.Bound u s m) e = let a = t.1 u cc in let b = ref_tells r s cc in cc
layer_tells (evidence.Conformance r q xs es) (evidence.Conformance s p ys fs) e =
    let a = ref_tells r s cc in
    let b = ref_tells q p cc in
    let c = list_tells arg_tree arg_tells xs ys cc in
    let d = told_nested evidence_tree es fs cc in
    cc
layer_tells _ _ e = absurd cc

abbrev EvidenceTells : Evidence → Type 0
EvidenceTells t = Tells evidence_tree t

step : (y : Evidence-F (Told evidence_tree)) → EvidenceTells (roll-Evidence (firsts y))
step y u e =
    let rolled = fold-roll-Evidence Tree evidence_layer in
    ap roll-Evidence (layer_tells y (out-Evidence u) (sym (rolled (firsts y)) ∙ (e ∙ (ap evidence_tree (sym (roll-out-Evidence u)) ∙ rolled (out-Evidence u))))) ∙ roll-out-Evidence u

pub evidence_tells : (t : Evidence) → EvidenceTells t
evidence_tells = ind-Evidence EvidenceTells (λ x y is. subst (λ z. EvidenceTells (roll-Evidence z)) is (step y))

pub evidence_part_tells : (t : Evidence) → Tells evidence_part t
evidence_part_tells t u e = evidence_tells t u (un_nested e)
