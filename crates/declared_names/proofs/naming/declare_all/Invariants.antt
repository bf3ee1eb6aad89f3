use Rattle.std.proofs.Common.{◌≡◌, drop, fold}
use Rattle.declared_names.specs.Declares.{declare}
use Rattle.declared_names.specs.Views.{declarations_of}
use Rattle.declared_names.specs.Inside.{naming_of}
use Rattle.declared_names.proofs.naming.declare_all.Given as goal

abbrev pub invariant-loop-declaration : goal.invariant-loop-declaration
invariant-loop-declaration l = fold declare (naming_of l.naming) (declarations_of (drop l.declaration-index l.list)) ≡ fold declare (naming_of l.initial.naming) (declarations_of l.list)
