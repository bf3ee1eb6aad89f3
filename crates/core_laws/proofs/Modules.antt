-- The tree of a module tells the module.
use Rattle.slang_core.specs.declared.declarations.CoreModule.{CoreModule}
use Rattle.slang_core.specs.DeclarationTrees.{interface_tree}
use Rattle.slang_core.specs.BodyTrees.{body_tree}
use Rattle.slang_core.specs.ModuleTrees.{module_tree}
use Rattle.core_laws.proofs.Parts.{Tells, left, right, list_tells}
use Rattle.core_laws.proofs.Decls.{interface_tells}
use Rattle.core_laws.proofs.Bodies.{body_tells}

pub module_tells : (m : CoreModule) → Tells module_tree m
module_tells m n e =
    let r = right (right (right (right (right e)))) in
    let a = list_tells interface_tree interface_tells m.reached n.reached (left r) in
    let b = interface_tells m.own n.own (left (right r)) in
    let c = list_tells body_tree body_tells m.bodies n.bodies (right (right r)) in
    λ i. record { reached = a i; own = b i; bodies = c i }
