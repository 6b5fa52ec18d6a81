use Rattle.lx_console.proofs.RunChanges.{tick_told}
use Rattle.lx_console.proofs.ticks.tick_of.Goals as goal

pub after_tick-requires-clause-ticked : goal.after_tick-requires-clause-ticked
after_tick-requires-clause-ticked c =
    tick_told c.args.show.now c.in_ok-ticked.ensures.ok c.in_ok-ticked.ensures.rested c.requires.levels
