-- Types and evidence are of the form exactly where they are plain.
use Rattle.std.proofs.Common.{◌≡◌, ℕ, refl, sym, subst, arith}
use Rattle.slang_core.specs.declared.types.Scalar.{Scalar}
use Rattle.slang_core.specs.declared.types.TypeTerm.{TypeTerm, roll-TypeTerm, map-TypeTerm, ind-TypeTerm, fold-roll-TypeTerm}
use Rattle.slang_core.specs.declared.types.Arg.{Arg, roll-Arg, map-Arg, ind-Arg, fold-roll-Arg}
use Rattle.slang_core.specs.declared.types.Arg.TheOpen.{TypeTerm-F, Arg-F}
use Rattle.slang_core.specs.declared.types.Arg.TheOpen as term
use Rattle.slang_core.specs.declared.evidence.Evidence.{Evidence, roll-Evidence, map-Evidence, ind-Evidence, fold-roll-Evidence}
use Rattle.slang_core.specs.declared.evidence.Evidence.TheOpen.{Evidence-F}
use Rattle.slang_core.specs.declared.evidence.Evidence.TheOpen as evidence
use Rattle.slang_core.specs.TypeTrees.{type_tree, arg_tree, arg_layer, term_layer, scalar_tree}
use Rattle.slang_core.specs.EvidenceTrees.{evidence_tree, evidence_layer, evidence_part}
use Rattle.slang_core.specs.DeclarationTrees.{term_tree}
use Rattle.form_grammar.specs.Trees.{Tree, byte, ◌▸◌, tagged, nested}
use Rattle.form_grammar.specs.Grammar.{Class, part, arg, type_form, evidence_form}
use Rattle.core_laws.proofs.Agrees.{Agrees, Fine, nothing_is, num_is, name_is, pair_is, part_is, tag_is, chain_is, fine_each, fine_parts, list_is, ref_is, value_is, value_lanes, before_value, scalar_is}

abbrev firsts : TypeTerm-F (Fine arg_tree arg) (Fine type_tree type_form) → TypeTerm-F Arg TypeTerm
firsts y = map-TypeTerm (Fine arg_tree arg) (Fine type_tree type_form) Arg TypeTerm (λ e. e.0) (λ e. e.0) y

abbrev arg_firsts : Arg-F (Fine arg_tree arg) (Fine type_tree type_form) → Arg-F Arg TypeTerm
arg_firsts y = map-Arg (Fine arg_tree arg) (Fine type_tree type_form) Arg TypeTerm (λ e. e.0) (λ e. e.0) y

abbrev shown : TypeTerm-F Arg TypeTerm → Tree
shown x = term_layer (map-TypeTerm Arg TypeTerm Tree Tree arg_tree type_tree x)

abbrev arg_shown : Arg-F Arg TypeTerm → Tree
arg_shown x = arg_layer (map-Arg Arg TypeTerm Tree Tree arg_tree type_tree x)

vector_is : (s : Scalar) (n : ℕ) → Agrees (tagged 4 (scalar_tree s ▸ byte n)) type_form
vector_is s n = record { to = λ p. (p.1, ((scalar_is s).to p.0, omega (arith, p.1.1))); from = λ p. ((scalar_is s).from p.1.0, p.0) }

term_layer_is : (y : TypeTerm-F (Fine arg_tree arg) (Fine type_tree type_form)) → Agrees (shown (firsts y)) type_form
term_layer_is term.Void = tag_is tt refl nothing_is
term_layer_is term.Bool = tag_is tt refl nothing_is
term_layer_is term.Int = tag_is tt refl nothing_is
term_layer_is term.Uint = tag_is tt refl nothing_is
term_layer_is (term.Vector s n) = vector_is s n
term_layer_is (term.Array t v) = tag_is (before_value (nested (type_tree t.0)) v) refl (pair_is (part_is t.1) (value_is v))
term_layer_is (term.Struct r xs) = tag_is tt refl (pair_is (ref_is r) (chain_is arg _ (fine_each arg_tree arg xs)))
term_layer_is (term.Parameter n) = tag_is tt refl (num_is n)
term_layer_is (term.Projection t r n) = tag_is tt refl (pair_is (part_is t.1) (pair_is (ref_is r) (name_is n)))
term_layer_is (term.StructuredBuffer t) = tag_is tt refl (part_is t.1)
term_layer_is (term.RwStructuredBuffer t) = tag_is tt refl (part_is t.1)
term_layer_is (term.ConstantBuffer t) = tag_is tt refl (part_is t.1)
term_layer_is (term.ParameterBlock t) = tag_is tt refl (part_is t.1)

arg_layer_is : (y : Arg-F (Fine arg_tree arg) (Fine type_tree type_form)) → Agrees (arg_shown (arg_firsts y)) arg
arg_layer_is (term.Term t) = tag_is tt refl (part_is t.1)
arg_layer_is (term.Fixed v) = tag_is (value_lanes v) refl (value_is v)

abbrev ArgIs : Arg → Type 0
ArgIs t = Agrees (arg_tree t) arg

abbrev TypeIs : TypeTerm → Type 0
TypeIs t = Agrees (type_tree t) type_form

term_case : (x : TypeTerm-F Arg TypeTerm) (y : TypeTerm-F (Fine arg_tree arg) (Fine type_tree type_form)) → firsts y ≡ x → TypeIs (roll-TypeTerm x)
term_case x y is = subst (λ z. Agrees z type_form) (sym (fold-roll-TypeTerm Tree Tree arg_layer term_layer x)) (subst (λ z. Agrees (shown z) type_form) is (term_layer_is y))

arg_case : (x : Arg-F Arg TypeTerm) (y : Arg-F (Fine arg_tree arg) (Fine type_tree type_form)) → arg_firsts y ≡ x → ArgIs (roll-Arg x)
arg_case x y is = subst (λ z. Agrees z arg) (sym (fold-roll-Arg Tree Tree arg_layer term_layer x)) (subst (λ z. Agrees (arg_shown z) arg) is (arg_layer_is y))

pub type_is : (t : TypeTerm) → TypeIs t
type_is = ind-TypeTerm ArgIs TypeIs (λ x y is. arg_case x y is) (λ x y is. term_case x y is)

pub arg_is : (t : Arg) → ArgIs t
arg_is = ind-Arg ArgIs TypeIs (λ x y is. arg_case x y is) (λ x y is. term_case x y is)

pub term_is : (t : TypeTerm) → Agrees (term_tree t) (part Class.Term)
term_is t = part_is (type_is t)

-- ---- evidence

abbrev evidence_firsts : Evidence-F (Fine evidence_tree evidence_form) → Evidence-F Evidence
evidence_firsts y = map-Evidence (Fine evidence_tree evidence_form) Evidence (λ e. e.0) y

abbrev evidence_shown : Evidence-F Evidence → Tree
evidence_shown x = evidence_layer (map-Evidence Evidence Tree evidence_tree x)

evidence_layer_is : (y : Evidence-F (Fine evidence_tree evidence_form)) → Agrees (evidence_shown (evidence_firsts y)) evidence_form
evidence_layer_is (evidence.Constraint n) = tag_is tt refl (num_is n)
evidence_layer_is (evidence.Bound t r n) = tag_is tt refl (pair_is (part_is t.1) (pair_is (ref_is r) (name_is n)))
evidence_layer_is (evidence.Conformance r s xs es) =
    tag_is tt refl (pair_is (ref_is r) (pair_is (ref_is s) (pair_is (list_is arg_tree arg arg_is xs) (chain_is (part Class.Evidence) _ (fine_parts evidence_tree Class.Evidence es)))))

abbrev EvidenceIs : Evidence → Type 0
EvidenceIs t = Agrees (evidence_tree t) evidence_form

evidence_case : (x : Evidence-F Evidence) (y : Evidence-F (Fine evidence_tree evidence_form)) → evidence_firsts y ≡ x → EvidenceIs (roll-Evidence x)
evidence_case x y is = subst (λ z. Agrees z evidence_form) (sym (fold-roll-Evidence Tree evidence_layer x)) (subst (λ z. Agrees (evidence_shown z) evidence_form) is (evidence_layer_is y))

evidence_is : (t : Evidence) → EvidenceIs t
evidence_is = ind-Evidence EvidenceIs (λ x y is. evidence_case x y is)

pub evidence_part_is : (t : Evidence) → Agrees (evidence_part t) (part Class.Evidence)
evidence_part_is t = part_is (evidence_is t)
