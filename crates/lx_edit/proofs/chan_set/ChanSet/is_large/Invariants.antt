use Rattle.lx_edit.proofs.Imports.{◌≤◌, ◌*◌}
use Rattle.lx_edit.proofs.chan_set.ChanSet.is_large.Given as goal

abbrev pub invariant-loop-word : goal.invariant-loop-word
invariant-loop-word l = l.count ≤ 64 * l.word-index
