use Rattle.lx_writer.proofs.Imports.{Puts-stops}
use Rattle.lx_writer.proofs.cue.put_follow_time.Goals as goal

pub returns-in_err-put_all : goal.returns-in_err-put_all
returns-in_err-put_all g c = Puts-stops _ c.in_err-put_all.ensures c.from_residual.ensures
