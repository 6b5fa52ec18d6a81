use Rattle.lx_sheet.proofs.Imports.{◌≡◌, ℕ, ◌<◌, List, length, map, refl, ap, sym, ◌∙◌, arith, length-map, with_items_is, IfSome_then, Cue, Place}
use Rattle.lx_sheet.proofs.Imports.{count_under, row_at_place, cue_numbers}
use Rattle.lx_sheet.proofs.FilledColumns.{FillsColumn, column_filled}
use Rattle.lx_sheet.proofs.MarkedRows.{grown_none, has_places, rows_held, tells}
use Rattle.lx_sheet.proofs.Numbers.{count_under-map, count_under_within, count_up_to}
use Rattle.lx_sheet.proofs.Past.{level_of_past, tracked_past}
use Rattle.lx_sheet.proofs.RightRows.{order_length, order_of}
use Rattle.lx_sheet.proofs.Rows.{last_value_same, level_of_block, numbers-rows_of}
use Rattle.lx_sheet.proofs.sheet.Sheet.fill.Goals as goal

pub below-first-requires : goal.below-first-requires
below-first-requires c = rw c.cues-cues.ensures.cues c.cues-cues.ensures.valid.cues_sorted

pub fill_column-requires-clause-places : goal.fill_column-requires-clause-places
fill_column-requires-clause-places c = rw (c.deref_mut.ensures.value, c.deref.ensures.value, c.cues-cues.ensures.cues)
    (has_places c.cues-cues.ensures.valid (rw (← c.self.view_is) at c.requires.channels) c.self.invariant.block (order_length
    (order_of c.args.show.now _ _ c.self.view_is c.self.invariant.kept.sorted c.requires.numbers)))

pub fill_column-requires-clause-from : goal.fill_column-requires-clause-from
fill_column-requires-clause-from c = omega (
  arith,
  ap length c.below-first.ensures,
  count_under-map (λ (cue : Cue). cue.number) c.get.result
      c.cues-cues.result.now,
  count_under_within,
  length-map c.cues-cues.result.now (λ (cue : Cue). cue.number),
)

pub fill_column-requires-clause-marks : goal.fill_column-requires-clause-marks
fill_column-requires-clause-marks c = IfSome_then c.among-marks.result c.among-marks.ensures (λ m same.
    rw (same.0, c.cues-cues.ensures.cues, c.deref.ensures.value)
    (tells c.args.chan (order_of c.args.show.now _ _ c.self.view_is c.self.invariant.kept.sorted c.requires.numbers)
    c.self.invariant.block c.self.invariant.marked (rw (← c.self.view_is) at (c.requires.marks same.1))
    (omega (arith, c.get-2.ensures.value, c.get-2.ensures.least)) (omega (arith, c.get-2.ensures.value, c.if-get-self.true))))

pub returns-then-get-self-clause-column : goal.returns-then-get-self-clause-column
returns-then-get-self-clause-column c =
    let show = c.args.show.now in
    let order : List Place = c.self.inside.order.items in
    let first : ℕ = length c.below-first.result.now in
    let of_first : first ≡ count_under c.args.from (cue_numbers show) =
    ap length c.below-first.ensures ∙ count_under-map (λ (cue : Cue). cue.number) c.get.result c.cues-cues.result.now
    ∙ rw (c.get.ensures.value, c.cues-cues.ensures.cues) refl in
    let ends = rw (of_first, c.cues-cues.ensures.cues) at c.fill_column.ensures.end in
    let fills : FillsColumn c.self.inside.channels order show.cues c.self.inside.levels.items c.fill_column.new.levels c.args.chan first
    c.fill_column.result = rw (← c.cues-cues.ensures.cues, ← c.deref.ensures.value, ← c.deref_mut.ensures.value)
    (record { front = c.fill_column.ensures.front; back = c.fill_column.ensures.back; rows = c.fill_column.ensures.rows }) in
    rw (with_items_is c.self.inside.levels c.fill_column.new.levels (omega arith))
    (column_filled c.args.from (order_of c.args.show.now _ _ c.self.view_is c.self.invariant.kept.sorted c.requires.numbers)
    of_first (rw (← c.self.view_is) at c.requires.below)
    (rw (← c.self.view_is) at (c.requires.above c.fill_column.result ends)) fills)

pub returns-then-get-self-clause-others : goal.returns-then-get-self-clause-others
returns-then-get-self-clause-others c = λ n chan other.
    rw (with_items_is c.self.inside.levels c.fill_column.new.levels (omega arith), ← c.self.view_is)
    (level_of_block c.self.inside.channels c.self.inside.order.items c.fill_column.new.levels n chan c.self.invariant.kept.sorted
    ∙ last_value_same (count_up_to n (map (λ (p : Place). p.cue) c.self.inside.order.items)) _ _
    (λ k less. (rw c.deref_mut.ensures.value at c.fill_column.ensures.others) (row_at_place c.self.inside.order.items k) chan other)
    ∙ sym (level_of_block c.self.inside.channels c.self.inside.order.items c.self.inside.levels.items n chan c.self.invariant.kept.sorted))

pub returns-then-get-self-clause-numbers : goal.returns-then-get-self-clause-numbers
returns-then-get-self-clause-numbers c = rw (← c.self.view_is) (simp numbers-rows_of)

pub returns-else-get-self-clause-column : goal.returns-else-get-self-clause-column
returns-else-get-self-clause-column c = λ n.
    let past : c.self.inside.channels < c.args.chan = omega (arith, c.get-2.ensures.value) in
    rw (← c.self.view_is) (level_of_past c.self.inside.channels c.self.inside.order.items c.self.inside.levels.items n c.args.chan
    c.self.invariant.kept.sorted past ∙ sym (tracked_past c.args.show.now n c.args.chan c.cues-cues.ensures.valid
    (omega (arith, rw (← c.self.view_is) at c.requires.channels, past))))

pub invariant_of-self : goal.invariant_of-self
invariant_of-self c = rows_held c.self.invariant (grown_none c.self.inside.marks)
    (ap length (with_items_is c.self.inside.levels c.fill_column.new.levels (omega arith)) ∙ omega arith) refl
