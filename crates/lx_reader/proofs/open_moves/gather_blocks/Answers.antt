use Rattle.lx_reader.proofs.Imports.{◌+◌, ◌*◌, ◌∙◌, ◌++◌, ap, arith, drop, take, moves_there}
use Rattle.lx_reader.proofs.OpenMoves.{block_then, none_left_over}
use Rattle.lx_reader.proofs.open_moves.gather_blocks.Goals as goal

pub loop-block-preserved : goal.loop-block-preserved
loop-block-preserved c =
    let from = c.loop-block.block * 64 in
    let moves = c.args.moves.now in
    let there = c.args.there.now in
    record {
      long = c.gather_block-len.ensures.long ∙ c.loop-block.invariant.long;
      few = omega (arith, c.gather_block-len.ensures.most, c.loop-block.invariant.few, c.requires.moves);
      list = ap (λ xs. xs ++ moves_there (drop ((c.loop-block.block + 1) * 64) moves) (drop ((c.loop-block.block + 1) * 64) there))
          c.gather_block-len.ensures.list
          ∙ block_then from ((c.loop-block.block + 1) * 64) (from + 64) moves there (take c.loop-block.len c.loop-block.list) (omega arith) (omega arith)
          ∙ c.loop-block.invariant.list;
    }

pub returns-clause-list : goal.returns-clause-list
returns-clause-list c =
    none_left_over (c.loop-block.block * 64) c.args.moves.now c.args.there.now _
    (omega (arith, c.loop-block-test.false, c.requires.moves)) ∙ c.loop-block.invariant.list
