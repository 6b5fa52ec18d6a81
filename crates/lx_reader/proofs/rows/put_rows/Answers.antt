use Rattle.lx_reader.proofs.Imports.{left}
use Rattle.lx_reader.proofs.SectionLevels.{rows_begin, rows_more}
use Rattle.lx_reader.proofs.rows.put_rows.Goals as goal

pub loop-row-init : goal.loop-row-init
loop-row-init c = rows_begin c.args.i c.args.show.now (left c.args.tokens)

pub loop-row-preserved : goal.loop-row-preserved
loop-row-preserved c =
    let next = rw c.in-Ok-Some.field-0-is at c.in-Ok-Some.ensures.list in
    rows_more c.args.i c.args.show.now c.loop-row.show c.put_patch_row.new.show (left c.args.tokens) (left c.loop-row.tokens)
    (left c.next_row.new.tokens) c.in-Ok-Some.row c.loop-row.invariant next c.put_patch_row.ensures
