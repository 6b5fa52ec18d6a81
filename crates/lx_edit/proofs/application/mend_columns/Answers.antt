use Rattle.lx_edit.proofs.Imports.{arith, nat_tests}
use Rattle.lx_edit.proofs.ChanBits.{has_chan-none}
use Rattle.lx_edit.proofs.application.mend_columns.Goals as goal

pub returns : goal.returns
returns c =
    let left = c.loop-c.invariant.left in
    record {
      channels = left.channels;
      numbers = left.numbers;
      columns = λ x n. grind (arith, nat_tests, has_chan-none, c.loop-c.invariant.done, left.others, c.in_default.ensures.none);
      marks = left.marks;
    }
