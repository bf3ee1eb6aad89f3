-- Modules are of the form exactly where they are plain.
use Rattle.std.proofs.Common.{ℕ, ◌<◌, refl, arith}
use Rattle.slang_names.specs.declared.form_codes.FormCode.{FormCode}
use Rattle.slang_core.specs.declared.declarations.CoreModule.{CoreModule}
use Rattle.slang_core.specs.DeclarationTrees.{interface_tree}
use Rattle.slang_core.specs.BodyTrees.{body_tree}
use Rattle.slang_core.specs.ModuleTrees.{module_tree}
use Rattle.form_grammar.specs.Trees.{byte}
use Rattle.form_grammar.specs.Grammar.{exactly, module_form}
use Rattle.core_laws.proofs.Agrees.{Agrees, pair_is, list_is}
use Rattle.core_laws.proofs.PlainDecls.{interface_is}
use Rattle.core_laws.proofs.PlainBodies.{body_is}

exactly_is : (c : FormCode) (n : ℕ) → n < 256 → Agrees (byte n) (exactly c n)
exactly_is c n h = record { to = λ p. h; from = λ p. refl }

pub module_is : (m : CoreModule) → Agrees (module_tree m) module_form
module_is m =
    pair_is (exactly_is _ 0x53 (omega arith)) (pair_is (exactly_is _ 0x4C (omega arith)) (pair_is (exactly_is _ 0x4D (omega arith)) (pair_is (exactly_is _ 0x4F (omega arith)) (pair_is (exactly_is _ 1 (omega arith))
    (pair_is (list_is interface_tree _ interface_is m.reached) (pair_is (interface_is m.own) (list_is body_tree _ body_is m.bodies)))))))
