use Rattle.lx_record.proofs.Imports.{chosen_fit}
use Rattle.lx_record.proofs.kept.keeping.Goals as goal

pub with_moves-requires-clause-fits : goal.with_moves-requires-clause-fits
with_moves-requires-clause-fits g c = rw (c.channels.ensures.channels, c.show.ensures, c.as_slice.ensures.value, c.in_ok-moves.ensures.moves)
    (chosen_fit c.args.console.now.show c.args.above.now.parts _ _ c.requires.first_part)
