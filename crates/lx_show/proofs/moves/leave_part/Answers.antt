use Rattle.lx_show.proofs.Imports.{◌∙◌, ap, sym, set, Move, out_of_part}
use Rattle.std.proofs.lemmas.List.Edits.{map_over_more}
use Rattle.lx_show.proofs.moves.leave_part.Goals as goal

pub loop-entry-preserved : goal.loop-entry-preserved
loop-entry-preserved c =
    ap (λ (m : Move). set c.loop-entry.moves c.loop-entry.entry-index m)
    (c.out_of_part.ensures ∙ ap (out_of_part c.args.part) (sym c.entry-item.is))
    ∙ map_over_more (out_of_part c.args.part) c.args.moves.now c.loop-entry.moves c.loop-entry.entry-index c.entry-item.result
    c.loop-entry-test.true c.loop-entry.invariant c.entry-item.is
