use Rattle.lx_sheet.proofs.Imports.{ℕ, ◌<◌, ◌≤◌, IsBitOf}
use Rattle.lx_sheet.proofs.marks.gather.Given as goal

abbrev pub invariant-loop-end : goal.invariant-loop-end
invariant-loop-end l = (k : ℕ) → l.from ≤ k → k < l.end → IsBitOf l.moves l.from l.bits k
