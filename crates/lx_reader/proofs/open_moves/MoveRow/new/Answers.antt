use Rattle.lx_reader.proofs.OpenMoves.{none_there}
use Rattle.lx_reader.proofs.open_moves.MoveRow.new.Goals as goal

pub returns : goal.returns
returns c = none_there c.loop-index.moves 4096
