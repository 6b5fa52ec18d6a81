use Rattle.lx_edit.proofs.CueLevels.{moves_fit}
use Rattle.lx_edit.proofs.moves.with_levels.Goals as goal

pub with_moves-requires-clause-fits : goal.with_moves-requires-clause-fits
with_moves-requires-clause-fits g c = rw (c.as_slice.ensures.value, c.in_ok-moves.ensures.items)
    (moves_fit c.args.channels c.args.cue.now c.args.part c.args.members.now c.requires.valid c.requires.part c.requires.channels)
