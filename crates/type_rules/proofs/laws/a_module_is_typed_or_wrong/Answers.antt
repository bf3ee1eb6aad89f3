use Rattle.type_rules.proofs.Told.{either, one_core, one_place, never_both, never_open}
use Rattle.type_rules.proofs.laws.a_module_is_typed_or_wrong.Goals as goal

pub returns-clause-either : goal.returns-clause-either
returns-clause-either c = either

pub returns-clause-one_core : goal.returns-clause-one_core
returns-clause-one_core c = one_core

pub returns-clause-one_place : goal.returns-clause-one_place
returns-clause-one_place c = one_place

pub returns-clause-never_both : goal.returns-clause-never_both
returns-clause-never_both c = never_both

pub returns-clause-never_open : goal.returns-clause-never_open
returns-clause-never_open c = never_open
