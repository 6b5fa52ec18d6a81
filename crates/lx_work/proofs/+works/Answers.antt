use Rattle.std.proofs.Common.{◌/◌, length}
use Rattle.lx_work.proofs.Zip.{AllZip-halves}
use Rattle.lx_work.proofs.+works.Goals as goal

pub run_all-returns-in_default : goal.run_all-returns-in_default
run_all-returns-in_default g t c = AllZip-halves _ (length c.args.works.now / 2) _ _ _ _ _ c.split_at_mut-left.ensures.front
    c.split_at_mut-left.ensures.back c.run_both.ensures.left c.run_both.ensures.right
