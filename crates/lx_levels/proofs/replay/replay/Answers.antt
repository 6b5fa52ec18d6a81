use Rattle.lx_levels.proofs.Imports.{◌≡◌, ◌<◌, ◌≤◌, ◌∙◌, ℕ, List, length, take, reverse, get_or, ap, sym, arith, Option, None, length-set}
use Rattle.lx_levels.proofs.Imports.{get_or_default, common_steps, Run, level, Stack, no_stack, Act}
use Rattle.lx_levels.proofs.Written.{set_again, set_here, set_there}
use Rattle.lx_levels.proofs.RunsInTurn.{no_run, replayed_on, replayed_off}
use Rattle.lx_levels.proofs.replay.replay.Goals as goal
use Rattle.lx_levels.proofs.replay.replay.Goals.{in-Some, in_default}

pub loop-i-init : goal.loop-i-init
loop-i-init c =
    let here = set_here c.args.stacks.now c.args.k _ no_stack c.requires.place c.restart.ensures in
    record {
      gives = λ show base x from ground. rw here ground.stays;
      few = omega (arith, ap (λ (s : Stack). length s.fades) here);
      others = set_there c.args.stacks.now c.args.k _ no_stack c.requires.place c.restart.ensures;
    }

pub returns-clause-level : goal.returns-clause-level
returns-clause-level c = λ show base x from ground m late.
    let live : List Run = c.args.live.now in
    let so_far = c.loop-i.invariant.gives show base x from ground in
    let end : length live ≤ c.loop-i.i = omega (arith, c.loop-i-test.false) in
    let all : take c.loop-i.i live ≡ live = grind (arith, common_steps) in
    so_far.gives m (omega (arith, so_far.begun, late)) ∙ ap (λ (runs : List Run). level show base (reverse runs) x m) all

pub push_act-requires-clause-within : goal.push_act-requires-clause-within
push_act-requires-clause-within c =
    omega (arith, c.requires.place, ap length c.loop-i.invariant.others, length-set c.args.stacks.now c.args.k (get_or c.loop-i.stacks c.args.k no_stack))

pub loop-i-preserved : goal.loop-i-preserved
loop-i-preserved c =
    let live : List Run = c.args.live.now in
    let known : List (Option Act) = c.args.acts_of.now in
    let i : ℕ = c.loop-i.i in
    let old = c.loop-i.invariant in
    let lt : i < length live = c.loop-i-test.true in
    let is : get_or live i no_run ≡ get_or live i (get_or live i no_run) = get_or_default live i no_run (get_or live i no_run) lt in
    let here : get_or known i None ≡ c.index-acts_of-i.result =
    get_or_default known i None c.index-acts_of-i.result (omega (arith, lt, c.requires.few, c.requires.acts)) ∙ sym c.index-acts_of-i.is in
    elim c.match-acts_of-i.branch [
      | in-Some w ↦ rw w.stacks-is (record {
        gives = λ show base x from ground. replayed_on ground c.loop-i.auto.i lt is (old.gives show base x from ground) c.requires.order
            (here ∙ w.in-Some.is) w.push_act.ensures.level;
        few = omega (arith, w.push_act.ensures.few, old.few);
        others = set_again c.args.stacks.now c.args.k _ _ old.others w.push_act.ensures.others;
      })
      | in_default w ↦ rw w.stacks-is (record {
        gives = λ show base x from ground. replayed_off ground c.loop-i.auto.i lt is (old.gives show base x from ground)
            (here ∙ w.in_default.is);
        few = omega (arith, old.few);
        others = old.others;
      })
    ]
