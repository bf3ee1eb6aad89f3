use Rattle.std.proofs.Common.{◌≡◌, drop}
use Rattle.declared_names.specs.Declares.{fields_from}
use Rattle.declared_names.specs.Inside.{naming_of}
use Rattle.declared_names.proofs.naming.add_fields.Given as goal

abbrev pub invariant-loop-name : goal.invariant-loop-name
invariant-loop-name l = record {
  at_index : l.at ≡ l.name-index;
  left : fields_from l.owner l.access l.number l.at (drop l.name-index l.names) (naming_of l.naming) ≡ fields_from l.owner l.access l.number 0 l.names (naming_of l.initial.naming);
}
