use Rattle.lx_levels.proofs.Imports.{◌≡◌, ◌+◌, ◌-◌, ◌<◌, ℕ, List, length, take, reverse, sym, subst, arith, Run, last_cue, ValidRun}
use Rattle.lx_levels.proofs.RunsInTurn.{target_of, known_more, later_more, begun_more, hidden, all_valid}
use Rattle.lx_levels.proofs.replay.ground_of.Goals as goal

pub act_of-act-requires-clause-target : goal.act_of-act-requires-clause-target
act_of-act-requires-clause-target c =
    target_of c.args.show.now c.args.base c.args.live.now c.args.c (omega (arith, c.loop-left-test.true))
    (omega (arith, c.loop-left-test.true, c.loop-left.invariant.within)) c.index-live-i.is c.loop-left.invariant.at

pub act_of-act-requires-clause-run : goal.act_of-act-requires-clause-run
act_of-act-requires-clause-run c =
    let lt : c.loop-left.left - 1 < length c.args.live.now = omega (arith, c.loop-left-test.true, c.loop-left.invariant.within) in
    let valid = subst (ValidRun c.args.from) (sym c.index-live-i.is) (c.requires.runs (c.loop-left.left - 1) c.index-live-i.result lt) in
    record { started = omega (arith, valid.started, c.requires.end); entry = valid.entry; times = valid.times }

pub loop-left-preserved : goal.loop-left-preserved
loop-left-preserved c =
    let show = c.args.show.now in
    let base = c.args.base in
    let live : List Run = c.args.live.now in
    let i : ℕ = c.loop-left.left - 1 in
    let is = c.index-live-i.is in
    let known = c.loop-left.acts_of in
    let act = c.act_of-act.result in
    let old = c.loop-left.invariant in
    let next : c.loop-left.left ≡ i + 1 = omega (arith, c.loop-left-test.true) in
    let lt : i < length live = omega (arith, c.loop-left-test.true, old.within) in
    let within : i < length known = omega (arith, lt, c.requires.few, c.requires.acts, c.loop-left.auto.acts_of) in
    let this = c.act_of-act.ensures.known (last_cue base (reverse (take i live))) c.level_there-looks.ensures in
    let started = subst (ValidRun c.args.from) (sym is) (c.requires.runs i c.index-live-i.result lt) in
    record {
      within = omega (arith, lt);
      at = c.level_there-looks.ensures;
      known = known_more show base live c.args.c next lt is known act old.known this within;
      later = later_more show base live c.args.c next lt is known act c.loop-left.since c.requires.order old.known this old.later
          c.in-Some.ensures.since within;
      begun = begun_more show base live c.args.c next lt is act this c.in-Some.ensures.since old.begun started.started;
    }

pub returns-in_default-clause-ground : goal.returns-in_default-clause-ground
returns-in_default-clause-ground c =
    let base = c.args.base in
    let live : List Run = c.args.live.now in
    let old = c.loop-left.invariant in
    let i : ℕ = c.loop-left.left - 1 in
    let next : c.loop-left.left ≡ i + 1 = omega (arith, c.loop-left-test.true) in
    let lt : i < length live = omega (arith, c.loop-left-test.true, old.within) in
    let this = c.act_of-act.ensures.known (last_cue base (reverse (take i live))) c.level_there-looks.ensures in
    record {
      stays = record {
        since = c.loop-left.since;
        gives = hidden c.args.show.now base live c.args.c next lt c.index-live-i.is c.act_of-act.result old.at this
            (c.since_before.ensures.over c.in_default.is);
        later = old.later;
        begun = old.begun;
      };
      known_are = old.known;
      started = λ j d less. (c.requires.runs j d less).started;
    }

pub returns-in_default-clause-valid : goal.returns-in_default-clause-valid
returns-in_default-clause-valid c =
    all_valid c.args.show.now c.args.base c.args.live.now c.args.c c.loop-left.left c.loop-left.acts_of c.loop-left.invariant.known

pub returns-clause-valid : goal.returns-clause-valid
returns-clause-valid c = λ i least.
    all_valid c.args.show.now c.args.base c.args.live.now c.args.c c.loop-left.left c.loop-left.acts_of c.loop-left.invariant.known i
    (omega (arith, c.loop-left-test.false))
