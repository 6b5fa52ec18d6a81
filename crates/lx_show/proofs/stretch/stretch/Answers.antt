use Rattle.lx_show.proofs.Imports.{◌∙◌, arith}
use Rattle.lx_show.proofs.Stretches.{one_fits, more_fit}
use Rattle.lx_show.proofs.stretch.stretch.Goals as goal

pub loop-count-init : goal.loop-count-init
loop-count-init g c = record {
  some = omega arith;
  most = omega (arith, c.requires.some);
  fits = one_fits c.args.more.now c.requires.some c.index-more-0.is (c.from-least.ensures ∙ c.key.ensures) c.requires.goes;
}

pub loop-count-preserved : goal.loop-count-preserved
loop-count-preserved g c = record {
  some = omega arith;
  most = omega (arith, c.loop-count-test.true);
  fits = more_fit c.args.more.now _ c.loop-count.invariant.fits c.end_of_gap-end.ensures c.loop-count-test.true c.index-more-count.is
      (c.from-number.ensures ∙ c.key-in-loop-count.ensures) c.if-number-least.false c.if-end-number.false;
}
