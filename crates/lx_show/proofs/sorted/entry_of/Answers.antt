use Rattle.lx_show.proofs.Imports.{refl, sym}
use Rattle.lx_show.proofs.Indexes.{stands_entry}
use Rattle.lx_show.proofs.sorted.entry_of.Goals as goal

pub returns-in-Ok : goal.returns-in-Ok
returns-in-Ok g c = sym (stands_entry g.T.Keyed.key c.args.n c.in-Ok.at _ _ c.index-xs-at.result refl c.in-Ok.ensures.stands c.index-xs-at.is)

pub returns-in-Err : goal.returns-in-Err
returns-in-Err g c = sym c.in-Err.ensures.goes.absent
