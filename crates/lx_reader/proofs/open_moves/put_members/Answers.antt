use Rattle.lx_reader.proofs.Imports.{◌∙◌, ap, sym, take, List, arith, take_all, fold_more, Member, Move}
use Rattle.lx_reader.proofs.PlacedOver.{level_placed, levels_are_placed, levels_placed}
use Rattle.lx_reader.proofs.open_moves.put_members.Goals as goal

pub loop-entry-preserved : goal.loop-entry-preserved
loop-entry-preserved g c =
    let start = c.args.list.now in
    let moves = c.args.moves.now in
    let i = c.loop-entry.entry-index in
    record {
      list = c.in_ok-put.ensures.ok
          ∙ ap (λ (ms : List Member). level_placed ms c.entry-item.result) c.loop-entry.invariant.list
          ∙ ap (λ (m : Move). level_placed (levels_placed start (take i moves)) m) c.entry-item.is
          ∙ sym (fold_more level_placed start moves i c.entry-item.result c.loop-entry-test.true);
      count = c.in_ok-put.ensures.cause.kept ∙ c.loop-entry.invariant.count;
    }

pub returns-clause-list : goal.returns-clause-list
returns-clause-list g c = c.loop-entry.invariant.list
    ∙ ap (levels_placed c.args.list.now) (take_all c.loop-entry.entry-index c.args.moves.now (omega (arith, c.loop-entry-test.false)))
    ∙ levels_are_placed c.args.list.now c.args.moves.now
