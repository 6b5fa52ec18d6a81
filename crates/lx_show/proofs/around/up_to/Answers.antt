use Rattle.lx_show.proofs.Indexes.{up_to_there, up_to_absent}
use Rattle.lx_show.proofs.around.up_to.Goals as goal

pub returns-in-Ok : goal.returns-in-Ok
returns-in-Ok g c = up_to_there g.T.Keyed.key c.args.n c.args.xs.now c.in-Ok.at c.requires c.in-Ok.ensures.stands

pub returns-in-Err : goal.returns-in-Err
returns-in-Err g c = up_to_absent g.T.Keyed.key c.args.n c.args.xs.now c.in-Err.at c.requires c.in-Err.ensures.goes
