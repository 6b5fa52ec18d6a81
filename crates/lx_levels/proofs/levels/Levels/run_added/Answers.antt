use Rattle.lx_levels.proofs.Imports.{◌≡◌, ◌+◌, ◌<◌, ◌≤◌, ℕ, ◌∙◌, ap, sym, arith, slice_index, option_map_or, tracked, Run, refl}
use Rattle.lx_levels.proofs.AddedRuns.{added_next, added_row, same_run_copied, stands_on, stands_off, stands_still}
use Rattle.lx_levels.proofs.Looks.{tracked_in_look}
use Rattle.lx_levels.proofs.levels.Levels.run_added.Goals as goal
use Rattle.lx_levels.proofs.levels.Levels.run_added.Goals.{in-Some-act_of, in_default-act_of}

pub act_of-requires-clause-target : goal.act_of-requires-clause-target
act_of-requires-clause-target c =
    let show = c.args.show.now in
    let within : c.loop-k.k < show.channels = omega (arith, c.loop-k-test.true, c.channels-channels.ensures.channels) in
    c.level_on-target.ensures
    ∙ tracked_in_look (λ row. row.now) show c.args.sheet.now c.run.inside.cue c.loop-k.k c.look_at-to.result c.look_at-to.ensures.levels
    c.look_at-to.ensures.none c.requires.rows within
    ∙ ap (λ n. tracked show c.run.inside.cue n) (sym c.at-c.ensures.value)
    ∙ ap (λ (r : Run). tracked show r.cue c.at-c.result) c.run.view_is

pub add_run-requires-clause-valid : goal.add_run-requires-clause-valid
add_run-requires-clause-valid c = c.in-Some-act_of.ensures.valid

pub add_run-requires-clause-started : goal.add_run-requires-clause-started
add_run-requires-clause-started c = omega
    (arith, c.in-Some-act_of.ensures.start, c.in-Some.ensures.started, c.loop-k.invariant.added.moment, c.requires.stood.stands)

pub loop-k-preserved-then-still-gt0 : goal.loop-k-preserved-then-still-gt0
loop-k-preserved-then-still-gt0 c =
    let show = c.args.show.now in
    let stood = c.requires.stood in
    let old = c.loop-k.invariant in
    let k = c.loop-k.k in
    let within : k + c.count_still-still.result ≤ show.channels =
    omega (arith, c.count_still-still.ensures.most, old.added.reach, stood.stands.reach) in
    let run_is = same_run_copied c.in-Some.run'.now stood.last (c.in-Some.ensures.last stood.last stood.older stood.live_is) in
    let looks = λ (i : ℕ). option_map_or (λ row. slice_index row.now i) c.look_at-to.result 0 in
    record {
      within = omega (arith, within, c.channels-channels.ensures.channels);
      added = added_row c.count_still-still.result old.added (λ i from below.
          let less : i < show.channels = omega (arith, below, within) in
          stands_still c.loop-k.self stood less (old.added.left i from) (looks i)
          (rw (← run_is, ← c.run.view_is) (sym (tracked_in_look (λ row. row.now) show c.args.sheet.now c.run.inside.cue i
          c.look_at-to.result c.look_at-to.ensures.levels c.look_at-to.ensures.none c.requires.rows less)))
          (rw (old.added.moment ∙ stood.stands.moment) at (c.count_still-still.ensures.still i from below)));
    }

pub loop-k-preserved : goal.loop-k-preserved
loop-k-preserved c =
    let show = c.args.show.now in
    let stood = c.requires.stood in
    let added = c.loop-k.invariant.added in
    let k = c.loop-k.k in
    let run = c.in-Some.run'.now in
    let less : k < show.channels = omega (arith, c.loop-k-test.true, c.channels-channels.ensures.channels) in
    let looks : c.level_on.result ≡ tracked show c.before_last.result c.at-c.result =
    c.level_on.ensures
    ∙ tracked_in_look (λ row. row.now) show c.args.sheet.now c.before_last.result k c.look_at-from.result c.look_at-from.ensures.levels
    c.look_at-from.ensures.none c.requires.rows less ∙ ap (λ n. tracked show c.before_last.result n) (sym c.at-c.ensures.value) in
    let run_is = same_run_copied run stood.last (c.in-Some.ensures.last stood.last stood.older stood.live_is) in
    let known = rw (c.before_last.ensures stood.last stood.older stood.live_is, run_is, c.at-c.ensures.value)
    at (c.act_of.ensures.known c.before_last.result looks) in
    record {
      within = omega (arith, c.loop-k-test.true);
      added = elim c.match-act_of.branch [
        | in-Some-act_of w ↦ rw w.self-is (added_next added w.add_run.ensures.others (stands_on c.loop-k.self stood less
            (added.left k (omega arith)) (rw w.in-Some-act_of.is at known)
            (λ x from. w.add_run.ensures.level x (omega (arith, from, added.moment, stood.stands.moment))) w.add_run.ensures.few))
        | in_default-act_of w ↦ rw w.self-is (added_next added (record { moment = refl; reach = refl; others = λ _ _. refl })
            (stands_off c.loop-k.self stood less (added.left k (omega arith)) (rw w.in_default-act_of.is at known)))
      ];
    }
