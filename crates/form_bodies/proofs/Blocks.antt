-- The tree of a block.
use Rattle.std.proofs.Common.{◌≡◌, List, map, ◌∙◌, ap, rules}
use Rattle.slang_core.specs.declared.bodies.Stat.{Stat, the_lemmas}
use Rattle.slang_core.specs.declared.bodies.Stat.TheVariants as stat
use Rattle.slang_core.specs.BodyTrees.{stat_tree}
use Rattle.form_grammar.specs.Trees.{tagged, nested, many, chain, list_of}
use Rattle.form_grammar.proofs.Chains.{chain_nested}

pub block_tree : (statements : List Stat) → stat_tree (stat.Block statements) ≡ tagged 0 (list_of (λ s. nested (stat_tree s)) statements)
block_tree statements =
    let e : stat_tree (stat.Block statements) ≡ tagged 0 (many (chain (map (λ t. nested t) (map stat_tree statements)))) = search (rules, the_lemmas) in
    e ∙ ap (λ t. tagged 0 (many t)) (chain_nested stat_tree statements)
