use Rattle.lx_sheet.proofs.Imports.{◌≡◌, ◌+◌, ℕ, List, [], ◌∷◌, length, map, ap, sym, ◌∙◌, arith, is_some, false≢true, length_refill, with_items_is}
use Rattle.lx_sheet.proofs.Imports.{IsStrictlySorted, StandsAt, Cue, Show, with_cue, Marks, Place, row_at_place}
use Rattle.lx_sheet.proofs.BlockReach.{covered_at}
use Rattle.lx_sheet.proofs.Found.{stands_number}
use Rattle.lx_sheet.proofs.MarkedRows.{AtPlaces, at_places, has_places, remarked, rows_held, stands_of}
use Rattle.lx_sheet.proofs.Numbers.{same_numbers}
use Rattle.lx_sheet.proofs.RightRows.{order_length}
use Rattle.lx_sheet.proofs.ShiftedRows.{IsShifted, cut, own, own_there, placed_there, places_shifted, shifted}
use Rattle.lx_sheet.proofs.sheet.Sheet.replace_row.Goals as goal

exchanged : {before show : Show} {old : List Place} {at n channels : ℕ} {levels : List ℕ} {marks : Marks} (cue : Cue)
    → AtPlaces before channels old levels marks → IsStrictlySorted (λ c. c.number) show.cues → StandsAt (λ p. p.cue) n old at
    → cue.number ≡ n
    → show ≡ with_cue before cue → IsShifted before show old old at (at + 1) (at + 1)
exchanged {before} {old = old} {at} {n} cue stood cues_sorted stands number now =
    let d : Place = record { cue = 0; row = 0 } in
    let one : at + length (own (λ (p : Place). p.cue) n old) ≡ at + 1 = ap (λ (xs : List Place). at + length xs) (own_there d stands) in
    shifted n (at + 1) (at + 1) (own (λ p. p.cue) n old) (cue ∷ []) stood.is stood.is.sorted cues_sorted stands.before
    (omega (arith, stands.within)) (cut (λ (p : Place). p.cue) n old stood.is.sorted)
    (ap (λ (s : Show). s.cues) now ∙ placed_there before cue number)
    (ap (map (λ (p : Place). p.cue)) (own_there d stands) ∙ (λ i. (stands_number d stands ∙ sym number) i ∷ [])) one one

pub index_of-requires : goal.index_of-requires
index_of-requires c = rw c.as_slice-order.ensures.value c.self.invariant.kept.sorted

pub own_row-requires-clause-rows : goal.own_row-requires-clause-rows
own_row-requires-clause-rows c = rw c.as_slice-order.ensures.value c.self.invariant.block.apart

pub write-requires-clause-reach : goal.write-requires-clause-reach
write-requires-clause-reach c = c.self.invariant.marked.reached c.own_row.result (rw (c.own_row.ensures.row, c.as_slice-order.ensures.value)
    (covered_at c.in-Ok.place c.self.invariant.block (rw c.as_slice-order.ensures.value at c.in-Ok.ensures.stands.within)))

pub fill_from-requires-clause-places : goal.fill_from-requires-clause-places
fill_from-requires-clause-places c =
    rw (ap length c.deref_mut-then-order-cues.ensures.value ∙ c.self.invariant.look_room, c.deref_mut.ensures.value)
    (rw (c.as_slice-order.ensures.value, c.cues-cues.ensures.cues) (has_places c.cues-cues.ensures.valid
    (rw (← c.self.view_is) at c.requires) c.self.invariant.block
    (omega (arith, c.if-order-cues.true, ap length c.as_slice-order.ensures.value, ap length c.cues-cues.ensures.cues))))

pub returns-then-order-cues : goal.returns-then-order-cues
returns-then-order-cues c = λ before cue stands number there now.
    let stood = at_places _ _ c.self.view_is c.self.invariant.kept.sorted stands in
    let place = rw (c.get.ensures.value, c.as_slice-order.ensures.value) at c.in-Ok.ensures.stands in
    let s = exchanged cue stood c.cues-cues.ensures.valid.cues_sorted place number now in
    let fills = rw (c.as_slice-order.ensures.value, c.cues-cues.ensures.cues, c.deref_mut.ensures.value) at
    (rw (ap length c.deref_mut-then-order-cues.ensures.value ∙ c.self.invariant.look_room) at c.fill_from.ensures) in
    rw (with_items_is c.self.inside.levels c.fill_from.new.levels (omega arith))
    (stands_of (places_shifted s stood fills (remarked c.self.invariant.block place.within
    (c.own_row.ensures.row ∙ ap (λ (xs : List Place). row_at_place xs c.in-Ok.place) c.as_slice-order.ensures.value)
    (rw c.cues-cues.ensures.cues at c.index-cues-place.is) c.self.invariant.marked.table.groups c.write.ensures.here
    c.write.ensures.others) (rw (← c.self.view_is) at c.requires)))

pub returns-else-order-cues : goal.returns-else-order-cues
returns-else-order-cues c = λ before cue stands number there now.
    let s = exchanged cue (at_places _ _ c.self.view_is c.self.invariant.kept.sorted stands) c.cues-cues.ensures.valid.cues_sorted
    (rw (c.get.ensures.value, c.as_slice-order.ensures.value) at c.in-Ok.ensures.stands) number now in
    absurd (c.if-order-cues.false (omega
    (arith, order_length s.now, ap length c.as_slice-order.ensures.value, ap length c.cues-cues.ensures.cues)))

pub returns-in_default : goal.returns-in_default
returns-in_default c = λ before cue stands number there now.
    let stood = at_places _ _ c.self.view_is c.self.invariant.kept.sorted stands in
    let absent = rw (c.get.ensures.value, c.as_slice-order.ensures.value) at c.in_default.ensures.goes.absent in
    absurd (false≢true (sym (ap is_some absent) ∙ same_numbers (λ (p : Place). p.cue) (λ (cue : Cue). cue.number) c.args.n
    c.self.inside.order.items before.cues stood.is.numbers ∙ there))

pub invariant_of-self : goal.invariant_of-self
invariant_of-self c = rows_held c.self.invariant c.write.ensures.table
    (ap length (with_items_is c.self.inside.levels c.fill_from.new.levels (omega arith)) ∙ omega arith)
    (omega (arith, length_refill c.self.inside.look.len c.self.inside.look.items c.fill_from.new.look (omega arith)))
