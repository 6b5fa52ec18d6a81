use Rattle.lx_edit.proofs.CueLevels.{chosen_fit}
use Rattle.lx_edit.proofs.blocks.block.Goals as goal

pub with_moves-requires-clause-fits : goal.with_moves-requires-clause-fits
with_moves-requires-clause-fits g c = rw (c.channels.ensures.channels, c.as_slice.ensures.value, c.in_ok-moves.ensures.items)
    (chosen_fit c.args.show.now c.in_ok-old.old.now.parts _ _ c.in_ok-old.ensures.valid.first_part)
