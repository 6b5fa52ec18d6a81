use Rattle.lx_edit.proofs.CueLevels.{valid_without_moves}
use Rattle.lx_edit.proofs.MoveMarks.{released_outside}
use Rattle.lx_edit.proofs.levels.release.Goals as goal

pub place-requires-clause-valid : goal.place-requires-clause-valid
place-requires-clause-valid g c = rw c.in_ok-cue.ensures.cue
    (valid_without_moves c.args.show.now.channels c.in_ok-old.old.now c.args.range c.in_ok-old.ensures.valid)

pub place-requires-clause-within : goal.place-requires-clause-within
place-requires-clause-within g c = rw c.in_ok-cue.ensures.cue (released_outside c.args.range c.in_ok-old.old.now)
