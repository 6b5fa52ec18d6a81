use Rattle.lx_sheet.proofs.Imports.{◌<◌, subst, get_or-map, CUES, Place}
use Rattle.lx_sheet.proofs.RowPool.{row_within}
use Rattle.lx_sheet.proofs.block.own_row.Goals as goal

pub returns-clause-within : goal.returns-clause-within
returns-clause-within c =
    subst (λ r. r < CUES) (get_or-map (λ (p : Place). p.row) c.args.order.now c.args.place c.index-order-place.result 0 c.requires.place)
    (row_within c.args.order.now c.args.place c.requires.rows c.requires.place)
