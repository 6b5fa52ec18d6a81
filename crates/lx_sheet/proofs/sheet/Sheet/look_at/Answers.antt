use Rattle.lx_sheet.proofs.Imports.{◌≡◌, ◌-◌, ◌<◌, length, map, ap, sym, ◌∙◌, arith, Place, Sheet}
use Rattle.lx_sheet.proofs.Cells.{width_of}
use Rattle.lx_sheet.proofs.BlockReach.{covered_at}
use Rattle.lx_sheet.proofs.Found.{look_found, look_none}
use Rattle.lx_sheet.proofs.Numbers.{count_up_to, count_up_to-map}
use Rattle.lx_sheet.proofs.sheet.Sheet.look_at.Goals as goal

pub returns-then-cues-eq0-clause-none : goal.returns-then-cues-eq0-clause-none
returns-then-cues-eq0-clause-none c = λ none chan.
    let count = (rw c.as_slice-order.ensures.value at c.count_near-cues.ensures.count)
    ∙ count_up_to-map (λ (p : Place). p.cue) c.args.n c.self.inside.order.items in
    rw (← c.self.view_is) (look_none c.self.inside.channels c.self.inside.order.items c.self.inside.levels.items c.args.n chan
    c.self.invariant.kept.sorted (sym count ∙ c.if-cues-eq0.true))

pub own_row-last-requires-clause-rows : goal.own_row-last-requires-clause-rows
own_row-last-requires-clause-rows c = rw c.as_slice-order.ensures.value c.self.invariant.block.apart

pub slice_bounds-result-end : goal.slice_bounds-result-end
slice_bounds-result-end c =
    let last = c.count_near-cues.result - 1 in
    let there : last < length c.self.inside.order.items = rw c.as_slice-order.ensures.value at
    (let less : last < length c.as_slice-order.result.now = omega (arith, c.if-cues-eq0.false, c.count_near-cues.ensures.within) in less) in
    rw (c.own_row-last.ensures.row, c.as_slice-order.ensures.value)
    (omega (arith, covered_at last c.self.invariant.block there, ap length c.deref.ensures.value))

pub returns-clause-levels : goal.returns-clause-levels
returns-clause-levels c = λ k less.
    let order = c.self.inside.order.items in
    let channels = c.self.inside.channels in
    let count : c.count_near-cues.result ≡ count_up_to c.args.n (map (λ (p : Place). p.cue) order) =
    (rw c.as_slice-order.ensures.value at c.count_near-cues.ensures.count) ∙ count_up_to-map (λ (p : Place). p.cue) c.args.n order in
    rw (width_of c.own_row-last.result channels, c.deref.ensures.value, c.own_row-last.ensures.row, c.as_slice-order.ensures.value, count)
    (rw (← c.self.view_is) (look_found channels order c.self.inside.levels.items c.args.n k c.self.invariant.kept.sorted
    (omega (arith, less, ap (λ (s : Sheet). s.channels) c.self.view_is)) (λ none. c.if-cues-eq0.false (count ∙ none))))
