use Rattle.lx_reader.proofs.OpenMoves.{none_there}
use Rattle.lx_reader.proofs.open_moves.MoveRow.clear.Goals as goal

pub returns : goal.returns
returns c = none_there c.self.inside.moves 4096
