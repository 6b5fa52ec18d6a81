use Rattle.lx_gate.proofs.Imports.{◌∙◌, ap}
use Rattle.lx_spec.specs.Kept.{Kept}
use Rattle.lx_gate.specs.Frames.{AreFramesOf, frame_after, moment_after}
use Rattle.lx_gate.proofs.DeskSteps.{in_step_over, answered_same}
use Rattle.lx_gate.proofs.desk.Gate+G+GateWriter+G.publish_desk.Goals as goal

pub publish-requires-clause-frames : goal.publish-requires-clause-frames
unfolding AreFramesOf frame_after
publish-requires-clause-frames g c = λ u low high. c.frames.ensures.frames _ u c.requires.stands low high

pub publish-requires-clause-moment : goal.publish-requires-clause-moment
unfolding moment_after
publish-requires-clause-moment g c = c.moment.ensures ∙ ap (λ (k : Kept). k.playback.moment) c.requires.stands.same

pub returns-clause-in_step : goal.returns-clause-in_step
returns-clause-in_step g c =
    let old = c.args.unsent.now in
    let new = c.publish.new.unsent in
    in_step_over g.G.Origin.show c.args.self.now c.publish.new.self old new c.args.console.now c.requires
    (answered_same c.publish.result c.args.self.now c.publish.new.self old new c.publish.ensures.ok c.publish.ensures.err)
    c.publish.ensures.entered
