-- What evidence spells, as trees.
use Rattle.std.specs.Prelude.{map}
use Rattle.slang_core.specs.declared.evidence.Evidence.{Evidence, fold-Evidence}
use Rattle.slang_core.specs.declared.evidence.Evidence.TheOpen.{Evidence-F}
use Rattle.slang_core.specs.declared.evidence.Evidence.TheOpen as evidence
use Rattle.slang_core.specs.TypeTrees.{ref_tree, arg_tree}
use Rattle.form_grammar.specs.Trees.{Tree, number, text, ◌▸◌, tagged, nested, many, chain, list_of}

abbrev pub evidence_layer : Evidence-F Tree → Tree
evidence_layer (evidence.Constraint n) = tagged 0 (number n)
evidence_layer (evidence.Bound e r name) = tagged 1 (nested e ▸ ref_tree r ▸ text name)
evidence_layer (evidence.Conformance s i args bounds) = tagged 2 (ref_tree s ▸ ref_tree i ▸ list_of arg_tree args ▸ list_of (λ e. nested e) bounds)

-- what evidence spells
abbrev pub evidence_tree : Evidence → Tree
evidence_tree = fold-Evidence Tree evidence_layer

-- evidence where it stands in another production
abbrev pub evidence_part : Evidence → Tree
evidence_part e = nested (evidence_tree e)
