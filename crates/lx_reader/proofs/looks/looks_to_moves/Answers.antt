use Rattle.lx_reader.proofs.Imports.{◌≡◌, ◌-◌, ◌∙◌, suc, subst, arith}
use Rattle.lx_reader.proofs.LookMoves.{IsLooked, looked_next}
use Rattle.lx_reader.proofs.looks.looks_to_moves.Goals as goal

pub loop-left-preserved : goal.loop-left-preserved
loop-left-preserved g c =
    let at : c.loop-left.left ≡ suc (c.loop-left.left - 1) = omega (arith, c.loop-left-test.true) in
    record {
      looked = looked_next (c.loop-left.left - 1) (subst (λ k. IsLooked k c.args.show.now c.loop-left.show) at c.loop-left.invariant.looked)
          c.in_ok-change_cue.ensures.moves;
      count = c.in_ok-change_cue.ensures.cause.kept ∙ c.loop-left.invariant.count;
    }
