use Rattle.lx_sheet.proofs.Imports.{◌≡◌, ◌≢◌, ℕ, ◌+◌, ◌<◌, List, length, take, ap, sym, ◌∙◌, inl, inr, arith, cases_eq, cases_lt, Cue, Place}
use Rattle.lx_sheet.proofs.Imports.{cue_level, row_at_place, level_in_look, level_after, tracked_on, IsRight}
use Rattle.lx_sheet.proofs.LevelsAfter.{level_after-take}
use Rattle.lx_sheet.proofs.RightRows.{right_on}
use Rattle.lx_sheet.proofs.RowPool.{rows_differ}
use Rattle.lx_sheet.proofs.block.fill_rows.Goals as goal

pub returns-then-holds-clause-rows : goal.returns-then-holds-clause-rows
returns-then-holds-clause-rows c = λ start follows k chan least within.
    let n : ℕ = length c.args.look.now in
    let order : List Place = c.args.order.now in
    let cues : List Cue = c.args.cues.now in
    let place : ℕ = c.loop-place.place in
    let same : length c.track.new.look ≡ n = omega arith in
    let held = rw (same, c.own_row-row.ensures.row) at (c.holds.ensures c.if-holds.true) in
    let tracks : level_in_look c.track.new.look chan ≡ level_after (take (place + 1) cues) chan =
    c.track.ensures chan ∙ ap (tracked_on c.index-cues-place.result chan) (c.loop-place.invariant.look start chan)
    ∙ sym (level_after-take cues place c.index-cues-place.result chan c.loop-place-test.true c.index-cues-place.is) in
    let there : place < length order = omega (arith, c.requires.places.places) in
    elim (cases_lt k place) [
      | inl below ↦ c.loop-place.invariant.rows start k chan least below
      | inr past ↦
          let first : IsRight n order cues c.args.levels.now place chan =
          sym (c.loop-place.invariant.back place chan (omega arith) there) ∙ held chan ∙ tracks in
          c.loop-place.invariant.back k chan past (omega (arith, c.requires.places.places))
          ∙ right_on n order cues c.args.levels.now c.args.sure place chan follows (omega arith) first k past within
    ]

pub loop-place-preserved : goal.loop-place-preserved
loop-place-preserved c =
    let n : ℕ = length c.args.look.now in
    let order : List Place = c.args.order.now in
    let cues : List Cue = c.args.cues.now in
    let place : ℕ = c.loop-place.place in
    let there : place < length order = omega (arith, c.requires.places.places) in
    let same : length c.track.new.look ≡ n = omega arith in
    let here = rw (same, c.own_row-row.ensures.row) at c.write_row.ensures.here in
    let others : (k x : ℕ) → k ≢ place → k < length order
    → cue_level n order c.write_row.new.levels k x ≡ cue_level n order c.loop-place.levels k x = λ k x other within.
    (rw (same, c.own_row-row.ensures.row) at c.write_row.ensures.others) (row_at_place order k) x
    (rows_differ k place c.requires.places.block within there other) in
    let tracks : ((x : ℕ) → level_in_look c.args.look.now x ≡ level_after (take c.args.from cues) x) → (x : ℕ)
    → level_in_look c.track.new.look x ≡ level_after (take (place + 1) cues) x =
    λ start x. c.track.ensures x ∙ ap (tracked_on c.index-cues-place.result x) (c.loop-place.invariant.look start x)
    ∙ sym (level_after-take cues place c.index-cues-place.result x c.loop-place-test.true c.index-cues-place.is) in
    record {
      look = tracks;
      front = λ k x less within. others k x (λ e. omega arith) within ∙ c.loop-place.invariant.front k x less within;
      rows = λ start k x least below. elim (cases_eq k place) [
        | inl e ↦ rw e (here x ∙ tracks start x)
        | inr apart ↦ others k x apart (omega arith) ∙ c.loop-place.invariant.rows start k x least (omega arith)
      ];
      back = λ k x least within. others k x (λ e. omega arith) within ∙ c.loop-place.invariant.back k x (omega arith) within;
    }
