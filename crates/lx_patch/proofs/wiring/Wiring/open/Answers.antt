use Rattle.lx_patch.proofs.Rows.{wired_none}
use Rattle.lx_patch.proofs.wiring.Wiring.open.Goals as goal

pub invariant_of-result : goal.invariant_of-result
invariant_of-result g c = wired_none c.in_ok-filled.field-0.items c.in_ok-filled-2.field-0.items c.in_ok-filled.ensures.items
    c.in_ok-filled-2.ensures.items
