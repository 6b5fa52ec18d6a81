use Rattle.lx_sheet.proofs.Imports.{length, ap, sym, refl, arith}
use Rattle.lx_sheet.proofs.BlockReach.{covered_at}
use Rattle.lx_sheet.proofs.MarkedRows.{marked_absent, marked_anew, marked_others, rows_held}
use Rattle.lx_sheet.proofs.sheet.Sheet.mark.Goals as goal

pub index_of-requires : goal.index_of-requires
index_of-requires c = rw c.as_slice.ensures.value c.self.invariant.kept.sorted

pub own_row-requires-clause-rows : goal.own_row-requires-clause-rows
own_row-requires-clause-rows c = rw c.deref.ensures.value c.self.invariant.block.apart

pub write-requires-clause-reach : goal.write-requires-clause-reach
write-requires-clause-reach c = c.self.invariant.marked.reached c.own_row.result (rw (c.own_row.ensures.row, c.deref.ensures.value)
    (covered_at c.in-Ok.place c.self.invariant.block (omega (arith, c.in-Ok.ensures.stands.within, ap length c.as_slice.ensures.value))))

pub returns-in-Ok-clause-others : goal.returns-in-Ok-clause-others
returns-in-Ok-clause-others c = λ m chan other.
    let place = rw (c.get.ensures.value, c.as_slice.ensures.value) at c.in-Ok.ensures.stands in
    let others = rw (c.own_row.ensures.row, c.deref.ensures.value) at c.write.ensures.others in
    rw (← c.self.view_is) (marked_others c.self.inside.marks c.write.new.self c.self.invariant.block place
    (λ r x apart least most. others r x apart least (omega (arith, most, c.self.invariant.marked.table.groups))) m chan other)

pub returns-in-Ok-clause-marks : goal.returns-in-Ok-clause-marks
returns-in-Ok-clause-marks c =
    let place = rw (c.get.ensures.value, c.as_slice.ensures.value) at c.in-Ok.ensures.stands in
    let here = rw (c.own_row.ensures.row, c.deref.ensures.value) at c.write.ensures.here in
    marked_anew c.args.show.now c.self.inside.levels.items c.write.new.self place (sym c.in-Some.ensures.cue)
    (λ x least most. here x least (omega (arith, most, c.self.invariant.marked.table.groups)))

pub returns-in_default-index_of-clause-marks : goal.returns-in_default-index_of-clause-marks
returns-in_default-index_of-clause-marks c = rw (← c.self.view_is) (marked_absent c.args.show.now c.self.inside.channels c.args.n
    c.self.inside.order.items c.self.inside.levels.items c.self.inside.marks
    (rw (c.get.ensures.value, c.as_slice.ensures.value) at c.in_default-index_of.ensures.goes.absent))

pub invariant_of-self : goal.invariant_of-self
invariant_of-self c = rows_held c.self.invariant c.write.ensures.table refl refl
