use Rattle.lx_levels.proofs.Imports.{subst, sym, ValidTimes}
use Rattle.lx_levels.proofs.Entries.{entry_holds}
use Rattle.lx_levels.proofs.channel.times_for.Goals as goal

pub returns-clause-times : goal.returns-clause-times
returns-clause-times c = subst ValidTimes (sym c.entry_for.ensures)
    (entry_holds ValidTimes c.args.show.now c.args.run.now c.args.c c.requires.run.entry c.requires.run.times)
