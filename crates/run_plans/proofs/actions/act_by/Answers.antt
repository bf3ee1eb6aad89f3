use Rattle.std.proofs.Common.{sym, subst, IfOk, ◌≡◌}
use Rattle.run_actions.specs.declared.actions.Action.{Action}
use Rattle.run_plans.specs.declared.kinds.Kind.{Kind}
use Rattle.run_plans.specs.declared.kinds.Kind.TheVariants.{Variable as DoVariable, Load as DoLoad, Store as DoStore, Extract as DoExtract, Same as DoSame, One as DoOne, Two as DoTwo, Turned as DoTurned, Branch as DoBranch, Condition as DoCondition, Unreachable as DoUnreachable}
use Rattle.run_plans.specs.Ground.{rooms_of}
use Rattle.run_plans.specs.Actions.{act_by}
use Rattle.run_plans.proofs.Acting.{acts_so}
use Rattle.run_plans.proofs.actions.act_by.Goals as goal

pub returns-in-Chain : goal.returns-in-Chain
returns-in-Chain c =
    let code = c.args.places.now.places.code in
    subst (λ (kind : Kind). IfOk c.chain.result (λ (a : Action). a ≡ act_by code (rooms_of c.args.places.now) c.args.number kind c.args.operands.now)) (sym c.in-Chain.is)
    (c.chain.ensures c.args.number)

pub returns-in-Construct : goal.returns-in-Construct
returns-in-Construct c =
    let code = c.args.places.now.places.code in
    subst (λ (kind : Kind). IfOk c.construct.result (λ (a : Action). a ≡ act_by code (rooms_of c.args.places.now) c.args.number kind c.args.operands.now)) (sym c.in-Construct.is)
    (c.construct.ensures c.args.number)

pub returns-in-Variable : goal.returns-in-Variable
returns-in-Variable c =
    acts_so c.args.places.now.places.code (rooms_of c.args.places.now) c.args.number c.args.operands.now c.args.kind DoVariable c.put.result c.in-Variable.is
    (c.put.ensures c.args.number)

pub returns-in-Load : goal.returns-in-Load
returns-in-Load c =
    acts_so c.args.places.now.places.code (rooms_of c.args.places.now) c.args.number c.args.operands.now c.args.kind DoLoad c.load.result c.in-Load.is
    (c.load.ensures c.args.number)

pub returns-in-Store : goal.returns-in-Store
returns-in-Store c =
    acts_so c.args.places.now.places.code (rooms_of c.args.places.now) c.args.number c.args.operands.now c.args.kind DoStore c.store.result c.in-Store.is
    (c.store.ensures c.args.number)

pub returns-in-Extract : goal.returns-in-Extract
returns-in-Extract c =
    acts_so c.args.places.now.places.code (rooms_of c.args.places.now) c.args.number c.args.operands.now c.args.kind DoExtract c.extract.result c.in-Extract.is
    (c.extract.ensures c.args.number)

pub returns-in-Same : goal.returns-in-Same
returns-in-Same c =
    acts_so c.args.places.now.places.code (rooms_of c.args.places.now) c.args.number c.args.operands.now c.args.kind DoSame c.same.result c.in-Same.is
    (c.same.ensures c.args.number)

pub returns-in-Branch : goal.returns-in-Branch
returns-in-Branch c =
    acts_so c.args.places.now.places.code (rooms_of c.args.places.now) c.args.number c.args.operands.now c.args.kind DoBranch c.jump.result c.in-Branch.is
    (c.jump.ensures c.args.number)

pub returns-in-Condition : goal.returns-in-Condition
returns-in-Condition c =
    acts_so c.args.places.now.places.code (rooms_of c.args.places.now) c.args.number c.args.operands.now c.args.kind DoCondition c.condition.result c.in-Condition.is
    (c.condition.ensures c.args.number)

pub returns-in-Unreachable : goal.returns-in-Unreachable
returns-in-Unreachable c =
    acts_so c.args.places.now.places.code (rooms_of c.args.places.now) c.args.number c.args.operands.now c.args.kind DoUnreachable c.unreached.result c.in-Unreachable.is
    (c.unreached.ensures c.args.places.now.places.code (rooms_of c.args.places.now) c.args.number)

pub returns-in-One : goal.returns-in-One
returns-in-One c =
    acts_so c.args.places.now.places.code (rooms_of c.args.places.now) c.args.number c.args.operands.now c.args.kind (DoOne c.in-One.op) c.one.result c.in-One.is
    (c.one.ensures c.args.number)

pub returns-in-Two : goal.returns-in-Two
returns-in-Two c =
    acts_so c.args.places.now.places.code (rooms_of c.args.places.now) c.args.number c.args.operands.now c.args.kind (DoTwo c.in-Two.op) c.two.result c.in-Two.is
    (c.two.ensures c.args.number)

pub returns-in-Turned : goal.returns-in-Turned
returns-in-Turned c =
    acts_so c.args.places.now.places.code (rooms_of c.args.places.now) c.args.number c.args.operands.now c.args.kind (DoTurned c.in-Turned.op) c.turned.result c.in-Turned.is
    (c.turned.ensures c.args.number)
