use Rattle.lx_edit.proofs.Imports.{arith, WORDS}
use Rattle.lx_edit.proofs.ChanBits.{has_chan-full}
use Rattle.lx_edit.proofs.chan_set.ChanSet.all.Goals as goal

pub returns : goal.returns
returns c = λ x least most. has_chan-full WORDS x least most (omega arith)
