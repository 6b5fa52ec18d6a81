use Rattle.lx_workers.proofs.Imports.{rules, ◌≡◌, ◌-◌, ◌<◌, ◌++◌, [], Some, length, vec_len, refl, sym, ap, ◌∙◌, arith, slice_get_within}
use Rattle.lx_workers.proofs.Imports.{append-nil, HasAccepted, Published, opened}
use Rattle.lx_workers.proofs.PlacesKept.{full_at, is_back}
use Rattle.lx_work.proofs.Places.{get_within, zip_at}
use Rattle.lx_session.proofs.Stood.{stood_since}
use Rattle.lx_session.proofs.Refusals.{known_since}
use Rattle.lx_workers.proofs.Runs.{in_step_at, outcomes_as}
use Rattle.lx_workers.proofs.playing.play_over.Goals as goal

pub fill_lanes-lanes-requires-clause-full : goal.fill_lanes-lanes-requires-clause-full
fill_lanes-lanes-requires-clause-full g c = full_at _ c.requires.full

pub perform-lanes-requires-clause-in_step : goal.perform-lanes-requires-clause-in_step
perform-lanes-requires-clause-in_step g c = λ κs bounds. in_step_at _ _ _ _ c.in_ok-gate.ensures.gate refl c.requires.opened

pub returns-clause-same_source : goal.returns-clause-same_source
returns-clause-same_source g c = (rw c.in-Some.is at c.perform-lanes.ensures.engine).same_source

pub returns-clause-limit : goal.returns-clause-limit
returns-clause-limit g c = (rw c.in-Some.is at c.perform-lanes.ensures.engine).limit

pub returns-clause-cause : goal.returns-clause-cause
returns-clause-cause g c = (rw c.in-Some.is at c.perform-lanes.ensures.engine).cause

pub returns-clause-handed_on : goal.returns-clause-handed_on
returns-clause-handed_on g c = (rw c.in-Some.is at c.perform-lanes.ensures.engine).handed_on

pub returns-clause-sent : goal.returns-clause-sent
returns-clause-sent g c = λ stood.
    let run = rw c.in-Some.is at c.perform-lanes.ensures.engine in
    c.len.ensures ∙ ap length (run.sends.sent (stood_since _ _ _ c.in_ok-gate.ensures.writers_later stood))

pub returns-clause-later : goal.returns-clause-later
returns-clause-later g c =
    let room = c.in_ok-lanes.ensures.cause.later in
    let opened = c.in_ok-gate.ensures.later in
    let later = (rw c.in-Some.is at c.perform-lanes.ensures.engine).later in
    omega (arith, room, opened, later)

pub returns-clause-writers_later : goal.returns-clause-writers_later
returns-clause-writers_later g c =
    let opened = c.in_ok-gate.ensures.writers_later in
    let later = (rw c.in-Some.is at c.perform-lanes.ensures.engine).sends.later in
    omega (arith, opened, later)

pub returns-clause-played : goal.returns-clause-played
returns-clause-played g c = λ most known.
    let room = c.in_ok-lanes.ensures.cause.later in
    let before = c.in_ok-gate.ensures.later in
    let run = rw c.in-Some.is at c.perform-lanes.ensures.engine in
    record {
      published = c.in-Some.gate.published;
      held_back = c.perform-lanes.new.unsent;
      unsent_is = c.len.ensures;
      stands = run.in_step.stands;
      session_is =
          let none : c.in_ok-gate.gate.published ++ [] ≡ [] = append-nil _ ∙ ap (λ (g : Published). g.published) c.in_ok-gate.ensures.gate in
          let gate = c.in-Some.gate in
          let unsent = c.perform-lanes.new.unsent in
          outcomes_as most _ _ refl (HasAccepted c.in_ok-gate.gate [] gate unsent) (λ commands. commands ≡ gate.published ++ unsent)
          (λ commands accepted. sym (accepted ∙ ap (λ l. l ++ commands) none)) _ (opened g.G.Origin.show) _ _ _ _ _ _ _
          (run.outcome most (known_since most _ _ _ (omega (arith, room, before)) known) (opened g.G.Origin.show) c.requires.opened);
      outlets_are = record {
        same_places = c.give_back-faults.ensures.same ∙ c.fill_lanes-lanes.ensures.same;
        each = λ place start is.
            let within : place < length c.args.outlets.now = slice_get_within c.args.outlets.now place (Some start) is in
            let count : vec_len c.perform-lanes.result.0 ≡ length c.args.outlets.now = c.perform-lanes.ensures.count
            ∙ c.fill_lanes-lanes.ensures.count in
            let items : vec_len c.perform-lanes.result.0 ≡ length c.perform-lanes.result.0.items = search rules in
            let y = get_within c.perform-lanes.result.0.items (length c.args.outlets.now - 1 - place)
            (omega (arith, within, count, items)) in
            let x = zip_at _ c.fill_lanes-lanes.result.items c.perform-lanes.result.0.items (length c.args.outlets.now - 1 - place) y.0
            c.perform-lanes.ensures.lanes y.1 in
            is_back g.K.Sink g.G.Origin.show c.args.outlets.now c.give_back-faults.new.outlets
            c.give_back-faults.result c.in-Some.gate.published place (length c.args.outlets.now - 1 - place) (length c.args.outlets.now)
            (length c.fill_lanes-lanes.new.outlets) start x.0.tap y.0.tap x.0.sink y.0.sink y.0.served is within refl c.fill_lanes-lanes.ensures.same
            (c.fill_lanes-lanes.ensures.lanes (length c.args.outlets.now - 1 - place) x.0 x.1) x.2.0
            (c.give_back-faults.ensures.back (length c.args.outlets.now - 1 - place) y.0 y.1);
        others = λ place fault is. rw (sym c.fill_lanes-lanes.ensures.same) (c.give_back-faults.ensures.others place fault is);
      };
    }
