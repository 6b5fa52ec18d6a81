use Rattle.lx_console.proofs.Imports.{sym, Some, None}
use Rattle.lx_console.proofs.TakenRows.{row_taken}
use Rattle.lx_console.proofs.kept_output.mend_row.Goals as goal

pub returns-in-Some : goal.returns-in-Some
returns-in-Some c = row_taken c.args.show.now.patch c.requires.before c.args.dimmer (Some c.in-Some.row) c.set.new.self
    (sym c.in-Some.ensures.row) c.requires.others (c.set.ensures c.requires.before c.requires.stands)

pub returns-in-None : goal.returns-in-None
returns-in-None c = row_taken c.args.show.now.patch c.requires.before c.args.dimmer None c.clear.new.self
    (sym c.in-None.ensures.row) c.requires.others (c.clear.ensures c.requires.before c.requires.stands)
