use Rattle.lx_levels.proofs.Imports.{◌≡◌, true, AreAt}
use Rattle.lx_levels.proofs.levels.block_is_at.Given as goal

abbrev pub invariant-loop-i : goal.invariant-loop-i
invariant-loop-i l = l.same ≡ true → AreAt l.levels l.holds l.row l.at l.i
