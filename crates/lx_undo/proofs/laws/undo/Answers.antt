use Rattle.lx_undo.proofs.Histories.{law_of_undo}
use Rattle.lx_undo.proofs.laws.undo.Goals as goal

pub returns : goal.returns
returns c = law_of_undo
