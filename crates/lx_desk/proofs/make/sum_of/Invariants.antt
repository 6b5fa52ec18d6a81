use Rattle.lx_desk.proofs.Imports.{◌≡◌, ◌≤◌, ◌*◌, sum, take}
use Rattle.lx_desk.proofs.make.sum_of.Given as goal

abbrev pub invariant-loop-slot : goal.invariant-loop-slot
invariant-loop-slot l = (l.total ≡ sum (take l.slot-index l.slots)) × (l.total ≤ 255 * l.slot-index)
