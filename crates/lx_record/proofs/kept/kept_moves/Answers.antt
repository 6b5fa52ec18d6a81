use Rattle.lx_record.proofs.Imports.{◌∙◌, tracked, level_now, chosen_next, comes_out_changed}
use Rattle.lx_record.proofs.kept.kept_moves.Goals as goal

pub loop-k-preserved : goal.loop-k-preserved
loop-k-preserved g c =
    let show = c.args.console.now.show in
    let above = c.args.above.now in
    record {
      items = chosen_next (comes_out_changed (level_now c.args.console.now) show above) (λ x. tracked show above.number x) c.loop-k.auto.k
          c.loop-k.invariant.items c.channel-c.ensures c.kept_level-level.ensures c.in_ok-add.ensures.items;
      count = c.in_ok-add.ensures.cause.kept ∙ c.loop-k.invariant.count;
    }
