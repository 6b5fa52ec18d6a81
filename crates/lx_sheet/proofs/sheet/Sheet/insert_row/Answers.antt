use Rattle.lx_sheet.proofs.Imports.{◌≡◌, ◌+◌, ℕ, List, [], ◌∷◌, length, refl, ap, sym, ◌∙◌, arith, insert, length_refill, ◌≤◌, with_items_is}
use Rattle.lx_sheet.proofs.Imports.{IsStrictlySorted, GoesAt, Cue, Show, with_cue, Marks, Place, row_at_place}
use Rattle.std.proofs.lemmas.List.Edits.{length-insert}
use Rattle.lx_sheet.proofs.MarkedRows.{AtPlaces, at_places, grown_places, has_places, remarked, row_came, rows_held, stands_of}
use Rattle.lx_sheet.proofs.Numbers.{absent_alike}
use Rattle.lx_sheet.proofs.RightRows.{order_length}
use Rattle.lx_sheet.proofs.RowPool.{own_apart}
use Rattle.lx_sheet.proofs.ShiftedRows.{IsShifted, one_more, passed, placed_there, places_shifted, shifted}
use Rattle.lx_sheet.proofs.sheet.Sheet.insert_row.Goals as goal

came : {before show : Show} {old new : List Place} {at n channels : ℕ} {levels : List ℕ} {marks : Marks} (row : ℕ) (cue : Cue)
    → AtPlaces before channels old levels marks → IsStrictlySorted (λ p. p.cue) new → IsStrictlySorted (λ c. c.number) show.cues
    → GoesAt (λ p. p.cue) n old at → new ≡ insert old at (record { cue = n; row = row }) → cue.number ≡ n → show ≡ with_cue before cue
    → IsShifted before show old new at at (at + 1)
came {before} {at = at} {n} row cue stood sorted cues_sorted goes added number now =
    shifted n at (at + 1) (record { cue = n; row = row } ∷ []) (cue ∷ []) stood.is sorted cues_sorted goes.before goes.within
    (added ∙ rw (goes.before, goes.after) refl) (ap (λ (s : Show). s.cues) now ∙ placed_there before cue number) (λ i. sym number i ∷ [])
    (rw goes.absent (omega arith)) refl

grew : (old : List Place) {new : List Place} (at : ℕ) (p : Place) → new ≡ insert old at p → at ≤ length old → length new ≡ length old + 1
grew old at p added within = ap length added ∙ length-insert old at p within

pub own_row-row-requires-clause-rows : goal.own_row-row-requires-clause-rows
own_row-row-requires-clause-rows c = rw c.deref.ensures.value (own_apart c.add_place.ensures.kept.pool)

pub own_row-row-requires-clause-place : goal.own_row-row-requires-clause-place
own_row-row-requires-clause-place c =
    let more = grew c.self.inside.order.items c.in-Some.at _ c.in-Some.ensures.added c.in-Some.ensures.goes.within in
    omega (arith, ap length c.deref.ensures.value, more, c.in-Some.ensures.goes.within)

pub fill_inserted-requires-clause-places : goal.fill_inserted-requires-clause-places
fill_inserted-requires-clause-places c =
    rw (ap length c.deref_mut-then-len-cues.ensures.value ∙ c.self.invariant.look_room, c.deref_mut.ensures.value)
    (rw (c.deref-then-len-cues.ensures.value, c.cues-cues.ensures.cues)
    (has_places c.cues-cues.ensures.valid (rw (← c.self.view_is) at c.requires)
    (row_came c.in-Some.at c.args.n c.self.invariant c.add_place.ensures.kept c.in-Some.ensures.added c.deref.ensures.value
    c.own_row-row.ensures.row c.reach.ensures.length c.reach.ensures.room c.reach-in-Some.ensures.table c.reach-in-Some.ensures.reach).block
    (omega (arith, c.if-len-cues.true, c.len.ensures, c.add_place.new.order.ok, ap length c.cues-cues.ensures.cues))))

pub returns-then-len-cues : goal.returns-then-len-cues
returns-then-len-cues c = λ before cue stands number absent now.
    let held = row_came c.in-Some.at c.args.n c.self.invariant c.add_place.ensures.kept c.in-Some.ensures.added c.deref.ensures.value
    c.own_row-row.ensures.row c.reach.ensures.length c.reach.ensures.room c.reach-in-Some.ensures.table c.reach-in-Some.ensures.reach in
    let was = at_places _ _ c.self.view_is c.self.invariant.kept.sorted stands in
    let stood = grown_places was c.reach.ensures.same in
    let s = came _ cue stood c.add_place.ensures.kept.sorted c.cues-cues.ensures.valid.cues_sorted c.in-Some.ensures.goes
    c.in-Some.ensures.added number now in
    let fills = rw (c.deref-then-len-cues.ensures.value, c.cues-cues.ensures.cues, c.deref_mut.ensures.value) at
    (rw (ap length c.deref_mut-then-len-cues.ensures.value ∙ c.self.invariant.look_room) at c.fill_inserted.ensures) in
    rw (with_items_is c.reach.new.levels c.fill_inserted.new.levels (omega arith))
    (stands_of (places_shifted s stood (fills (passed s stood))
    (remarked held.block (omega (arith, order_length s.now, s.cues.long, order_length stood.is, c.in-Some.ensures.goes.within))
    (c.own_row-row.ensures.row ∙ ap (λ (xs : List Place). row_at_place xs c.in-Some.at) c.deref.ensures.value)
    (rw c.cues-cues.ensures.cues at c.index-cues-at.is)
    (omega (arith, c.self.invariant.marked.table.groups, c.reach-in-Some.ensures.table.groups)) c.write.ensures.here
    (λ r x apart least most. c.write.ensures.others r x apart least most ∙ c.reach-in-Some.ensures.same r x))
    (rw (← c.self.view_is) at c.requires)))

pub returns-else-len-cues : goal.returns-else-len-cues
returns-else-len-cues c = λ before cue stands number absent now.
    let was = at_places _ _ c.self.view_is c.self.invariant.kept.sorted stands in
    let more = grew c.self.inside.order.items c.in-Some.at _ c.in-Some.ensures.added c.in-Some.ensures.goes.within in
    absurd (c.if-len-cues.false (omega
    (arith, c.add_place.new.order.ok, one_more cue was.is number absent now, more, ap length c.cues-cues.ensures.cues)))

pub returns-in_default : goal.returns-in_default
returns-in_default c = λ before cue stands number absent now.
    let was = at_places _ _ c.self.view_is c.self.invariant.kept.sorted stands in
    let full = c.add_place.ensures.none c.in_default.is (absent_alike (λ (x : Cue). x.number) (λ (p : Place). p.cue) c.args.n before.cues
    c.self.inside.order.items (sym was.is.numbers) absent) in
    absurd (omega (arith, full, one_more cue was.is number absent now, c.cues-cues.ensures.valid.few_cues))

pub invariant_of-self : goal.invariant_of-self
invariant_of-self c = rows_held
    (row_came c.in-Some.at c.args.n c.self.invariant c.add_place.ensures.kept c.in-Some.ensures.added c.deref.ensures.value
    c.own_row-row.ensures.row c.reach.ensures.length c.reach.ensures.room c.reach-in-Some.ensures.table c.reach-in-Some.ensures.reach)
    c.write.ensures.table (ap length (with_items_is c.reach.new.levels c.fill_inserted.new.levels (omega arith)) ∙ omega arith)
    (omega (arith, length_refill c.self.inside.look.len c.self.inside.look.items c.fill_inserted.new.look (omega arith)))

pub invariant_of-self-else-len-cues : goal.invariant_of-self-else-len-cues
invariant_of-self-else-len-cues c =
    row_came c.in-Some.at c.args.n c.self.invariant c.add_place.ensures.kept c.in-Some.ensures.added c.deref.ensures.value
    c.own_row-row.ensures.row c.reach.ensures.length c.reach.ensures.room c.reach-in-Some.ensures.table c.reach-in-Some.ensures.reach

pub invariant_of-self-in_default : goal.invariant_of-self-in_default
invariant_of-self-in_default c =
    assumption (c.self.invariant, c.add_place.ensures.kept, rw (← c.add_place.ensures.same c.in_default.is) at c.self.invariant.block)

pub bounds-cues-at : goal.bounds-cues-at
bounds-cues-at c =
    let more = grew c.self.inside.order.items c.in-Some.at _ c.in-Some.ensures.added c.in-Some.ensures.goes.within in
    omega (arith, c.if-len-cues.true, c.len.ensures, c.add_place.new.order.ok, more, c.in-Some.ensures.goes.within)
