use Rattle.lx_show.proofs.Imports.{◌∙◌, refl, arith, length-set}
use Rattle.lx_show.proofs.Indexes.{placed_sorted, replaced}
use Rattle.lx_show.proofs.Stretches.{placed_more}
use Rattle.lx_show.proofs.stretch.put_over.Goals as goal

pub loop-count-preserved : goal.loop-count-preserved
loop-count-preserved g c =
    let is = replaced c.index-more-count.result c.key.ensures c.as_slice.ensures.value (c.if-stands_at.ensures refl) in
    record {
      most = omega (arith, c.loop-count-test.true);
      items = is ∙ placed_more g.T.Keyed.key c.args.more.now c.args.xs.now.items c.loop-count.count c.index-more-count.result c.loop-count-test.true c.index-more-count.is c.loop-count.invariant.items;
      sorted = placed_sorted _ c.index-more-count.result _ is c.loop-count.invariant.sorted;
      same = length-set _ _ _ ∙ c.loop-count.invariant.same;
      capacity = c.loop-count.invariant.capacity;
    }
