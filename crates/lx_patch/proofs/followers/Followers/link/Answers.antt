use Rattle.lx_patch.proofs.Imports.{◌-◌, ◌<◌, arith, refl, get_or, CHANNELS, get_or_read}
use Rattle.lx_patch.proofs.Chains.{chained_dark, chained_lit}
use Rattle.lx_patch.proofs.followers.Followers.link.Goals as goal

pub loop-e-preserved-then-levels-e-gt0 : goal.loop-e-preserved-then-levels-e-gt0
loop-e-preserved-then-levels-e-gt0 c =
    let e = c.loop-e.e - 1 in
    let k = get_or c.args.places.now e 0 in
    let chained = c.loop-e.invariant.chained in
    let within : k < CHANNELS = c.requires.reach e (omega (arith, c.loop-e-test.true, c.loop-e.invariant.within)) in
    record {
      within = omega (arith, c.loop-e.invariant.within);
      top = c.loop-e.invariant.top;
      top_most = c.loop-e.invariant.top_most;
      chained = chained_lit chained (omega (arith, c.loop-e-test.true)) k c.index.result.now c.loop-e.invariant.within refl within
          (omega (arith, c.if-levels-e-gt0.true))
          (get_or_read c.loop-e.self.first.items k c.index.result.now (omega (arith, within, chained.first_reach)) c.index.ensures 0);
    }

pub loop-e-preserved : goal.loop-e-preserved
loop-e-preserved c = record {
  within = omega (arith, c.loop-e.invariant.within);
  top = c.loop-e.invariant.top;
  top_most = c.loop-e.invariant.top_most;
  chained = chained_dark c.loop-e.invariant.chained (omega (arith, c.loop-e-test.true)) (omega (arith, c.if-levels-e-gt0.false));
}
