use Rattle.lx_reader.proofs.Imports.{arith, length, ap, left}
use Rattle.lx_reader.proofs.OpenMoves.{level_alone, levels_none, levels_then}
use Rattle.lx_reader.proofs.Pairs.{member_first}
use Rattle.lx_reader.proofs.open_moves.put_near.Goals as goal

pub loop-member-init : goal.loop-member-init
loop-member-init c = record {
  levels = λ i. levels_none i c.args.part c.args.least (left c.args.tokens) c.args.row.now;
  fewer = omega arith;
}

pub loop-member-preserved : goal.loop-member-preserved
loop-member-preserved c =
    let m = c.in-Some.ensures in
    let put = c.put-greatest.ensures in
    record {
      levels = λ i. levels_then (c.loop-member.invariant.levels i)
          (level_alone (member_first i _ _ c.in-Some.member m) put.valid put.moves put.greater);
      fewer = omega (arith, c.loop-member.invariant.fewer, ap length m.first);
    }
