-- The tree of a conformance.
use Rattle.std.proofs.Common.{◌≡◌, List, map, ◌∙◌, ap, rules}
use Rattle.slang_names.specs.declared.names.Ref.{Ref}
use Rattle.slang_core.specs.declared.types.Arg.{Arg}
use Rattle.slang_core.specs.declared.evidence.Evidence.{Evidence, the_lemmas}
use Rattle.slang_core.specs.declared.evidence.Evidence.TheVariants as evidence
use Rattle.slang_core.specs.TypeTrees.{ref_tree, arg_tree}
use Rattle.slang_core.specs.EvidenceTrees.{evidence_tree, evidence_part}
use Rattle.form_grammar.specs.Trees.{Tree, nested, ◌▸◌, tagged, many, chain, list_of}
use Rattle.form_grammar.proofs.Chains.{chain_nested}

pub conformance_tree : (s i : Ref) (args : List Arg) (bounds : List Evidence) →
    evidence_tree (evidence.Conformance s i args bounds) ≡ tagged 2 (ref_tree s ▸ ref_tree i ▸ list_of arg_tree args ▸ list_of evidence_part bounds)
conformance_tree s i args bounds =
    let e : evidence_tree (evidence.Conformance s i args bounds) ≡ tagged 2 (ref_tree s ▸ ref_tree i ▸ list_of arg_tree args ▸ many (chain (map (λ t. nested t) (map evidence_tree bounds)))) = search (rules, the_lemmas) in
    e ∙ ap (λ t. tagged 2 (ref_tree s ▸ ref_tree i ▸ list_of arg_tree args ▸ many t)) (chain_nested evidence_tree bounds)
