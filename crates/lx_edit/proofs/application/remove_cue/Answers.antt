use Rattle.lx_edit.proofs.Imports.{None}
use Rattle.lx_edit.proofs.ChangedColumns.{others_changed}
use Rattle.lx_edit.proofs.application.remove_cue.Goals as goal

pub returns-clause-others : goal.returns-clause-others
returns-clause-others c = others_changed c.args.show.now c.exchange_cue-old.new.self c.args.n None c.mark_change.new.chans
    c.exchange_cue-old.ensures.before c.exchange_cue-old.ensures.show c.requires.number tt c.mark_change.ensures.same
