use Rattle.lx_edit.proofs.Imports.{WORDS}
use Rattle.lx_edit.proofs.ChanBits.{has_chan-empty}
use Rattle.lx_edit.proofs.chan_set.ChanSet.empty.Goals as goal

pub returns : goal.returns
returns c = λ x. has_chan-empty WORDS x
