-- The trees of what holds a list of expressions, or of what parameters are given.
use Rattle.std.proofs.Common.{◌≡◌, List, ◌∙◌, ap, rules}
use Rattle.slang_names.specs.declared.names.Ref.{Ref}
use Rattle.slang_core.specs.declared.types.Arg.{Arg}
use Rattle.slang_core.specs.declared.types.TypeTerm.{TypeTerm}
use Rattle.slang_core.specs.declared.evidence.Evidence.{Evidence}
use Rattle.slang_core.specs.declared.bodies.Call.TheVariants as call
use Rattle.slang_core.specs.declared.bodies.Given.{Given}
use Rattle.slang_core.specs.declared.bodies.Expr.{Expr, the_lemmas}
use Rattle.slang_core.specs.declared.bodies.Expr.TheVariants as expr
use Rattle.slang_core.specs.DeclarationTrees.{term_tree}
use Rattle.slang_core.specs.TypeTrees.{ref_tree, arg_tree}
use Rattle.slang_core.specs.EvidenceTrees.{evidence_part}
use Rattle.slang_core.specs.BodyTrees.{expr_tree, call_tree, given_tree}
use Rattle.form_grammar.specs.Trees.{Tree, ◌▸◌, tagged, nested, many, chain, list_of}
use Rattle.form_grammar.proofs.Chains.{chain_nested}
use Rattle.std.specs.Prelude.{map}

pub vector_tree : (of : TypeTerm) (items : List Expr) → expr_tree (expr.Vector of items) ≡ tagged 11 (term_tree of ▸ list_of (λ x. nested (expr_tree x)) items)
vector_tree of items =
    let e : expr_tree (expr.Vector of items) ≡ tagged 11 (term_tree of ▸ many (chain (map (λ t. nested t) (map expr_tree items)))) = search (rules, the_lemmas) in
    e ∙ ap (λ t. tagged 11 (term_tree of ▸ many t)) (chain_nested expr_tree items)

pub array_tree : (of : TypeTerm) (items : List Expr) → expr_tree (expr.List of items) ≡ tagged 17 (term_tree of ▸ list_of (λ x. nested (expr_tree x)) items)
array_tree of items =
    let e : expr_tree (expr.List of items) ≡ tagged 17 (term_tree of ▸ many (chain (map (λ t. nested t) (map expr_tree items)))) = search (rules, the_lemmas) in
    e ∙ ap (λ t. tagged 17 (term_tree of ▸ many t)) (chain_nested expr_tree items)

pub direct_tree : (function : Ref) (args : List Arg) (bounds : List Evidence) (given : List Given) →
    call_tree (call.Direct function args bounds given) ≡ tagged 0 (ref_tree function ▸ list_of arg_tree args ▸ list_of evidence_part bounds ▸ list_of given_tree given)
direct_tree function args bounds given = search (rules, the_lemmas)
