use Rattle.lx_sheet.proofs.Imports.{◌≡◌, ◌+◌, ◌-◌, ◌*◌, get_or, ap, sym, ◌∙◌, arith, cell, cue_level, width}
use Rattle.lx_sheet.proofs.Cells.{cell_is, last_value_some}
use Rattle.lx_sheet.proofs.block.level_before.Goals as goal

pub returns-else-cues-eq0 : goal.returns-else-cues-eq0
returns-else-cues-eq0 c =
    let at : c.args.at + 1 - 1 ≡ c.args.at = omega arith in
    sym (last_value_some c.args.cues (λ k. cue_level c.args.channels c.args.order.now c.args.levels.now k (c.args.at + 1))
    c.if-cues-eq0.false
    ∙ ap (λ r. cell c.args.channels c.args.levels.now r (c.args.at + 1)) (sym c.own_row.ensures.row)
    ∙ cell_is c.args.channels c.args.levels.now c.own_row.result (c.args.at + 1) (omega arith) (omega arith)
    ∙ ap (λ n. get_or c.args.levels.now (c.own_row.result * width c.args.channels + n) 0) at)
