use Rattle.lx_base.specs.Rows.{Agree}
use Rattle.lx_base.proofs.change.next_by_one.Given as goal

abbrev pub invariant-loop-at : goal.invariant-loop-at
invariant-loop-at l = Agree l.old l.new l.from l.at
