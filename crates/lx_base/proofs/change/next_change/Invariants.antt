use Rattle.std.proofs.Common.{◌+◌, ◌*◌}
use Rattle.lx_base.specs.Rows.{Agree}
use Rattle.lx_base.proofs.change.next_change.Given as goal

abbrev pub invariant-loop-i : goal.invariant-loop-i
invariant-loop-i l = Agree l.old l.new l.from (l.from + 32 * l.i)
