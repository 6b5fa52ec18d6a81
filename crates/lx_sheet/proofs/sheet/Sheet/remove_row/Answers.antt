use Rattle.lx_sheet.proofs.Imports.{◌≡◌, ◌+◌, ℕ, List, [], length, refl, ap, sym, ◌∙◌, arith, add-one, remove, length_refill, with_items_is}
use Rattle.lx_sheet.proofs.Imports.{IsStrictlySorted, StandsAt, below_and_above, Cue, Show, without_cue, Marks, Place}
use Rattle.lx_sheet.proofs.BlockReach.{covered_at}
use Rattle.lx_sheet.proofs.MarkedRows.{AtPlaces, at_places, grown_none, has_places, row_gone, rows_held, stands_of, unmarked}
use Rattle.lx_sheet.proofs.Numbers.{absent_alike}
use Rattle.lx_sheet.proofs.RightRows.{order_length}
use Rattle.lx_sheet.proofs.RowPool.{row_within}
use Rattle.lx_sheet.proofs.ShiftedRows.{IsShifted, left_behind, own_there, places_shifted, shifted, taken_absent}
use Rattle.lx_sheet.proofs.sheet.Sheet.remove_row.Goals as goal

gone : {before show : Show} {old new : List Place} {at n channels : ℕ} {levels : List ℕ} {marks : Marks}
    → AtPlaces before channels old levels marks → IsStrictlySorted (λ p. p.cue) new → IsStrictlySorted (λ c. c.number) show.cues
    → StandsAt (λ p. p.cue) n old at → new ≡ remove old at → show ≡ without_cue before n → IsShifted before show old new at (at + 1) at
gone {before} {at = at} {n} stood sorted cues_sorted stands dropped now =
    shifted n (at + 1) at [] [] stood.is sorted cues_sorted stands.before (omega (arith, stands.within))
    (dropped ∙ rw (stands.before, ← add-one, stands.after) refl)
    (ap (λ (s : Show). s.cues) now ∙ sym (below_and_above (λ (c : Cue). c.number) n before.cues stood.is.cues_sorted)) refl
    (ap (λ (xs : List Place). at + length xs) (own_there (record { cue = 0; row = 0 }) stands)) (omega arith)

pub fill_removed-requires-clause-places : goal.fill_removed-requires-clause-places
fill_removed-requires-clause-places c =
    rw (ap length c.deref_mut-then-len-cues.ensures.value ∙ c.self.invariant.look_room, c.deref_mut.ensures.value, c.deref.ensures.value)
    (rw c.cues-cues.ensures.cues (has_places c.cues-cues.ensures.valid (rw (← c.self.view_is) at c.requires)
    (row_gone _ c.self.invariant c.drop_place.ensures.kept c.in-Some.ensures.dropped c.in-Some.ensures.stands.within).block
    (omega (arith, c.if-len-cues.true, c.len.ensures, c.drop_place.new.order.ok, ap length c.cues-cues.ensures.cues))))

pub fill_removed-requires-clause-row : goal.fill_removed-requires-clause-row
fill_removed-requires-clause-row c =
    rw c.in-Some.ensures.row (row_within c.self.inside.order.items c.in-Some.freed.at c.self.invariant.block.apart
    c.in-Some.ensures.stands.within)

pub fill_removed-requires-clause-left : goal.fill_removed-requires-clause-left
fill_removed-requires-clause-left c =
    rw (ap length c.deref_mut-then-len-cues.ensures.value ∙ c.self.invariant.look_room, c.deref_mut.ensures.value, c.in-Some.ensures.row)
    (covered_at c.in-Some.freed.at c.self.invariant.block c.in-Some.ensures.stands.within)

pub returns-then-len-cues : goal.returns-then-len-cues
returns-then-len-cues c = λ before stands now.
    let stood = at_places _ _ c.self.view_is c.self.invariant.kept.sorted stands in
    let s = gone stood c.drop_place.ensures.kept.sorted c.cues-cues.ensures.valid.cues_sorted c.in-Some.ensures.stands
    c.in-Some.ensures.dropped now in
    let fills = rw (c.cues-cues.ensures.cues, c.deref_mut.ensures.value) at
    (rw (ap length c.deref_mut-then-len-cues.ensures.value ∙ c.self.invariant.look_room, c.deref.ensures.value) at c.fill_removed.ensures) in
    rw (with_items_is c.self.inside.levels c.fill_removed.new.levels (omega arith))
    (stands_of (places_shifted s stood (fills (left_behind s stood c.in-Some.ensures.row)) unmarked (rw (← c.self.view_is) at c.requires)))

pub returns-else-len-cues : goal.returns-else-len-cues
returns-else-len-cues c = λ before stands now.
    let s = gone (at_places _ _ c.self.view_is c.self.invariant.kept.sorted stands) c.drop_place.ensures.kept.sorted
    c.cues-cues.ensures.valid.cues_sorted c.in-Some.ensures.stands c.in-Some.ensures.dropped now in
    absurd (c.if-len-cues.false (omega (arith, c.drop_place.new.order.ok, order_length s.now, ap length c.cues-cues.ensures.cues)))

pub returns-in_default : goal.returns-in_default
returns-in_default c = λ before stands now.
    let stood = at_places _ _ c.self.view_is c.self.invariant.kept.sorted stands in
    let absent = absent_alike (λ (p : Place). p.cue) (λ (x : Cue). x.number) c.args.n c.self.inside.order.items before.cues stood.is.numbers
    (c.drop_place.ensures.absent c.in_default.is) in
    rw (now, taken_absent (λ (x : Cue). x.number) c.args.n before.cues absent, c.drop_place.ensures.none c.in_default.is) (stands_of stood)

pub invariant_of-self : goal.invariant_of-self
invariant_of-self c = rows_held
    (row_gone _ c.self.invariant c.drop_place.ensures.kept c.in-Some.ensures.dropped c.in-Some.ensures.stands.within) (grown_none _)
    (ap length (with_items_is c.self.inside.levels c.fill_removed.new.levels (omega arith)) ∙ omega arith)
    (omega (arith, length_refill c.self.inside.look.len c.self.inside.look.items c.fill_removed.new.look (omega arith)))

pub invariant_of-self-else-len-cues : goal.invariant_of-self-else-len-cues
invariant_of-self-else-len-cues c =
    row_gone _ c.self.invariant c.drop_place.ensures.kept c.in-Some.ensures.dropped c.in-Some.ensures.stands.within

pub invariant_of-self-in_default : goal.invariant_of-self-in_default
invariant_of-self-in_default c =
    assumption (c.self.invariant, c.drop_place.ensures.kept, rw (← c.drop_place.ensures.none c.in_default.is) at c.self.invariant.block)
