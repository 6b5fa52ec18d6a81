use Rattle.lx_record.proofs.Imports.{◌∙◌, not, ◌==◌, tracked, level_now}
use Rattle.lx_record.proofs.ChosenChannels.{member_next}
use Rattle.lx_record.proofs.staged.untracked.Goals as goal

pub loop-k-preserved : goal.loop-k-preserved
loop-k-preserved g c =
    let console = c.args.console.now in
    record {
      items = member_next (λ x. not (level_now console x == tracked console.show c.args.n x)) (level_now console) c.loop-k.auto.k
          c.loop-k.invariant.items c.channel-c.ensures c.in_ok-add_untracked.ensures.members;
      count = c.in_ok-add_untracked.ensures.cause.kept ∙ c.loop-k.invariant.count;
    }
