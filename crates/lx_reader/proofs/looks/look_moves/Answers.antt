use Rattle.lx_reader.proofs.Imports.{◌∙◌, last_look}
use Rattle.lx_reader.proofs.LookMoves.{put_next}
use Rattle.lx_reader.proofs.looks.look_moves.Goals as goal

pub loop-n-preserved : goal.loop-n-preserved
loop-n-preserved g c = record {
  moves = put_next (last_look c.args.front.now) c.args.cue.now c.loop-n.n c.at-chan.ensures.value c.last_look.ensures c.loop-n.invariant.moves
      c.in_ok-put_move.ensures.moves;
  count = c.in_ok-put_move.ensures.cause.kept ∙ c.loop-n.invariant.count;
}
