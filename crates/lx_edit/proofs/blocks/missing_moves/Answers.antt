use Rattle.lx_edit.proofs.Imports.{◌∙◌, ◌-◌, is_none, not, ◌&&◌, ◌==◌, if◌then◌else◌, move_in, tracked}
use Rattle.lx_edit.proofs.CueLevels.{chosen_next}
use Rattle.lx_edit.proofs.blocks.missing_moves.Goals as goal

pub loop-k-preserved : goal.loop-k-preserved
loop-k-preserved g c =
    let cue = c.args.cue.now in
    let here = c.args.here in
    let tracks = tracked c.args.show.now in
    record {
      items = chosen_next (λ x. is_none (move_in cue x) && not (tracks (if here then cue.number else cue.number - 1) x == 0))
          (λ x. if here then tracks cue.number x else 0) c.loop-k.auto.k c.loop-k.invariant.items c.channel-c.ensures
          c.missing_level-level.ensures c.in_ok-add.ensures.items;
      count = c.in_ok-add.ensures.cause.kept ∙ c.loop-k.invariant.count;
    }
