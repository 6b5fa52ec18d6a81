use Rattle.lx_io.proofs.Imports.{arith, length-drop, take_all, common_steps}
use Rattle.lx_io.proofs.Steps.{put_on}
use Rattle.lx_io.proofs.buffered.pass_on.Goals as goal

pub rest-preserved : goal.rest-preserved
rest-preserved g c =
    let left = length-drop c.rest.taken c.args.bytes.now in
    let done = c.in-Ok.ensures in (
      grind (arith, common_steps),
      put_on _ _ _ _ c.rest.invariant.1 done.bytes (take_all _ _ (omega (arith, left))) done.cause,
    )
