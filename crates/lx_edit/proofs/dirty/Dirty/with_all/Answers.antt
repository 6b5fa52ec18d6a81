use Rattle.lx_edit.proofs.ChanBits.{no_channel}
use Rattle.lx_edit.proofs.dirty.Dirty.with_all.Goals as goal

pub returns-clause-grows : goal.returns-clause-grows
returns-clause-grows c = no_channel c.all.result c.args.self.chans c.all.ensures
