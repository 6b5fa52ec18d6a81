use Rattle.lx_desk.proofs.Imports.{arith, slice_get_within}
use Rattle.lx_desk.proofs.ToldFaults.{none_up_to}
use Rattle.lx_desk.proofs.crew.status_of_operators.Goals as goal

pub loop-fault-init : goal.loop-fault-init
loop-fault-init c = λ lower other none at. absurd (omega (arith, none))

pub loop-fault-preserved : goal.loop-fault-preserved
loop-fault-preserved c = none_up_to c.args.faults.now c.loop-fault.fault-index c.loop-fault.invariant c.in-None.is

pub returns : goal.returns
returns c = λ place fault at.
    let within = slice_get_within c.args.faults.now place fault at in
    c.loop-fault.invariant place fault (omega (arith, within, c.loop-fault-test.false)) at
