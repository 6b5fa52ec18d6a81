use Rattle.lx_sheet.proofs.Imports.{◌∙◌, arith}
use Rattle.lx_sheet.proofs.Cells.{width_of, within_block}
use Rattle.lx_sheet.proofs.Found.{row_found, row_absent, row_stands}
use Rattle.lx_sheet.proofs.sheet.Sheet.row.Goals as goal

pub index_of-requires : goal.index_of-requires
index_of-requires c = rw c.as_slice-order.ensures.value c.self.invariant.kept.sorted

pub own_row-row-requires-clause-rows : goal.own_row-row-requires-clause-rows
own_row-row-requires-clause-rows c = rw c.as_slice-order.ensures.value c.self.invariant.block.apart

pub returns-in-Ok-clause-row : goal.returns-in-Ok-clause-row
returns-in-Ok-clause-row c =
    let place = rw (c.get.ensures.value, c.as_slice-order.ensures.value) at c.in-Ok.ensures.stands in
    rw (width_of c.own_row-row.result c.self.inside.channels, c.deref.ensures.value, c.own_row-row.ensures.row)
    (rw (c.as_slice-order.ensures.value, ← c.self.view_is) (row_found c.self.inside.channels c.self.inside.levels.items place))

pub returns-in-Ok-clause-stands : goal.returns-in-Ok-clause-stands
returns-in-Ok-clause-stands c = λ show stands. returns-in-Ok-clause-row c
    ∙ row_stands _ _ c.args.n c.self.view_is c.self.invariant.block c.self.invariant.kept.sorted stands

pub returns-in-Err-clause-row : goal.returns-in-Err-clause-row
returns-in-Err-clause-row c = rw (← c.self.view_is) (row_absent c.self.inside.channels c.self.inside.order.items c.self.inside.levels.items
    c.args.n (rw (c.get.ensures.value, c.as_slice-order.ensures.value) at c.in-Err.ensures.goes.absent))

pub returns-in-Err-clause-stands : goal.returns-in-Err-clause-stands
returns-in-Err-clause-stands c = λ show stands. returns-in-Err-clause-row c
    ∙ row_stands _ _ c.args.n c.self.view_is c.self.invariant.block c.self.invariant.kept.sorted stands

pub overflow_mul-start : goal.overflow_mul-start
overflow_mul-start c = omega (arith, within_block c.own_row-row.result c.self.inside.channels c.own_row-row.ensures.within)
