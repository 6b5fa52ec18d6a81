use Rattle.lx_reader.proofs.Imports.{left, HasUp, HasDown, refl}
use Rattle.lx_reader.proofs.LineSteps.{times_are}
use Rattle.lx_reader.proofs.OpenSteps.{cue_stops, times_say}
use Rattle.lx_reader.proofs.record_lines.line_of_cue.Goals as goal

pub returns-in_err-time-in-Up : goal.returns-in_err-time-in-Up
returns-in_err-time-in-Up c =
    rw c.in-Up.is (cue_stops c.args.cue.now c.args.cue.now c.args.part.now c.args.part.now c.from_residual-in_err-time-in-Up.result _
    c.in_err-time-in-Up.field-0.0 c.from_residual-in_err-time-in-Up.ensures.1
    (times_are c.args.i (λ t d. HasUp t d) (left c.args.tokens) c.in_err-time-in-Up.ensures.numbers))

pub returns-in_ok-time-in-Up : goal.returns-in_ok-time-in-Up
returns-in_ok-time-in-Up c =
    let e = c.in_ok-time-in-Up.ensures in
    rw c.in-Up.is (times_say (λ t d. HasUp t d) c.args.i (left c.args.tokens) (c.in_ok-time-in-Up.time, c.in_ok-time-in-Up.delay)
    c.args.cue.now
    c.set_up.new.cue c.args.part.now e.numbers (record { own = refl; cue = c.set_up.ensures; part = refl; ranges = e.times }))

pub returns-in_err-time-in-Down : goal.returns-in_err-time-in-Down
returns-in_err-time-in-Down c =
    rw c.in-Down.is (cue_stops c.args.cue.now c.args.cue.now c.args.part.now c.args.part.now c.from_residual-in_err-time-in-Down.result _
    c.in_err-time-in-Down.field-0.0 c.from_residual-in_err-time-in-Down.ensures.1
    (times_are c.args.i (λ t d. HasDown t d) (left c.args.tokens) c.in_err-time-in-Down.ensures.numbers))

pub returns-in_ok-time-in-Down : goal.returns-in_ok-time-in-Down
returns-in_ok-time-in-Down c =
    let e = c.in_ok-time-in-Down.ensures in
    rw c.in-Down.is (times_say (λ t d. HasDown t d) c.args.i (left c.args.tokens) (c.in_ok-time-in-Down.time, c.in_ok-time-in-Down.delay)
    c.args.cue.now
    c.set_down.new.cue c.args.part.now e.numbers (record { own = refl; cue = c.set_down.ensures; part = refl; ranges = e.times }))
