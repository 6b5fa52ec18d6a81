use Rattle.lx_sheet.proofs.Imports.{◌≡◌, ◌≢◌, ℕ, ◌+◌, ◌*◌, ◌-◌, ◌<◌, ◌≤◌, false, List, length, take, set, Some, ap, sym, ◌∙◌, inl, inr, refl, arith}
use Rattle.lx_sheet.proofs.Imports.{IfSome, slice_get, cases_eq, get_or_default, slice_get-get_or, Cue, decides, level_in, Place, cue_level}
use Rattle.lx_sheet.proofs.Imports.{row_at_place, last_value, width, level_after, tracked_on}
use Rattle.lx_sheet.proofs.Cells.{cell-set_here, cell-set_other, within_block}
use Rattle.lx_sheet.proofs.BlockReach.{covered_at}
use Rattle.lx_sheet.proofs.LevelsAfter.{level_after-take}
use Rattle.lx_sheet.proofs.RowPool.{rows_differ}
use Rattle.lx_sheet.proofs.block.fill_column.Goals as goal
use Rattle.lx_sheet.proofs.block.fill_column.Goals.{then-decides_at+else-place-sure, else-decides_at}

pub loop-place-preserved : goal.loop-place-preserved
loop-place-preserved c =
    let place : ℕ = c.loop-place.place in
    let n : ℕ = c.args.channels in
    let chan : ℕ = c.args.chan in
    let order : List Place = c.args.order.now in
    let cues : List Cue = c.args.cues.now in
    let cue : Cue = c.index-cues-place.result in
    let level : ℕ = c.if-decides_at.level in
    let row : ℕ = c.own_row-row.result in
    let of_row : row ≡ row_at_place order place = c.own_row-row.ensures.row in
    let is : c.get.result ≡ chan = c.get.ensures.value in
    let least : 1 ≤ c.get.result = c.get.ensures.least in
    let most : c.get.result ≤ n = omega (arith, c.requires.within) in
    let within : place < length cues = omega (arith, c.loop-place-test.true, c.requires.to) in
    let there : place < length order = omega (arith, c.requires.places.places, within) in
    let end : row * width n + n ≤ length c.loop-place.levels =
    rw of_row (omega (arith, covered_at place c.requires.places.block there)) in
    let new = set c.loop-place.levels (row * width n + (c.get.result - 1)) level in
    let here : cue_level n order new place chan ≡ level =
    rw (← of_row, ← is) (cell-set_here n c.loop-place.levels row c.get.result level least most (omega arith)) in
    let others : (k : ℕ) → k ≢ place → k < length order
    → cue_level n order new k chan ≡ cue_level n order c.loop-place.levels k chan = λ k other inside.
    cell-set_other n c.loop-place.levels row (row_at_place order k) c.get.result chan level least most
    (λ e _. rows_differ k place c.requires.places.block inside there other (e ∙ of_row)) in
    let step : level ≡ tracked_on cue chan c.loop-place.level = elim c.if-decides_at.branch [
      | then-decides_at+else-place-sure w ↦
          let same : w.index-cues-place-then-decides_at.result ≡ cue = w.index-cues-place-then-decides_at.is
          ∙ get_or_default cues place _ cue within ∙ sym c.index-cues-place.is in
          w.level-is ∙ w.level_of-level.ensures ∙ ap (λ (x : Cue). level_in x chan) same
          ∙ rw (← c.decides_at.ensures, w.if-decides_at.true) refl
      | else-decides_at w ↦ rw (← c.decides_at.ensures, w.if-decides_at.false) w.level-is
    ] in
    let tracks : last_value c.args.from (λ k. cue_level n order c.args.levels.now k chan)
    ≡ level_after (take c.args.from cues) chan → level ≡ level_after (take (place + 1) cues) chan =
    λ start. step ∙ ap (tracked_on cue chan) (c.loop-place.invariant.level start)
    ∙ sym (level_after-take cues place cue chan within c.index-cues-place.is) in
    let passes : c.args.sure ≤ place → IfSome (slice_get cues place) (λ x. decides x chan ≡ false) = λ sure.
    rw (slice_get-get_or cues place cue within ∙ ap Some (sym c.index-cues-place.is))
    (elim c.if-decides_at.branch [
      | then-decides_at+else-place-sure w ↦ absurd (omega (arith, w.if-place-sure.false, sure))
      | else-decides_at w ↦ sym c.decides_at.ensures ∙ w.if-decides_at.false
    ]) in
    record {
      level = tracks;
      passed = λ k from sure below. elim (cases_eq k place) [
        | inl e ↦ rw e (passes (omega (arith, e, sure)))
        | inr apart ↦ c.loop-place.invariant.passed k from sure (omega arith)
      ];
      others = λ r x other. cell-set_other n c.loop-place.levels row r c.get.result x level least most
          (λ _ e. other (e ∙ is)) ∙ c.loop-place.invariant.others r x other;
      front = λ k less. others k (λ e. omega arith) (omega arith) ∙ c.loop-place.invariant.front k less;
      back = λ k more inside. others k (λ e. omega (arith, e, more, c.loop-place-test.true))
          (omega (arith, c.requires.places.places, inside))
          ∙ c.loop-place.invariant.back k (omega (arith, more, c.loop-place-test.true)) inside;
      rows = λ start k from below. elim (cases_eq k place) [
        | inl e ↦ rw e (here ∙ tracks start)
        | inr apart ↦ others k apart (omega arith) ∙ c.loop-place.invariant.rows start k from (omega arith)
      ];
    }

pub overflow_mul-levels : goal.overflow_mul-levels
overflow_mul-levels c = omega (arith, within_block c.own_row-row.result c.args.channels c.own_row-row.ensures.within)

pub bounds-levels-row : goal.bounds-levels-row
bounds-levels-row c =
    let there : c.loop-place.place < length c.args.order.now = omega (arith, c.loop-place-test.true, c.requires) in
    let end : (c.own_row-row.result + 1) * width c.args.channels ≤ length c.args.levels.now =
    rw c.own_row-row.ensures.row (covered_at c.loop-place.place c.requires.places.block there) in
    omega (arith, end, c.loop-place.auto.levels, c.get.ensures.value, c.get.ensures.least, c.requires.within)
