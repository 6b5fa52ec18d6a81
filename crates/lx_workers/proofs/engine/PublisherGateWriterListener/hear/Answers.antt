use Rattle.lx_workers.proofs.Imports.{arith, sym, ap, ◌++◌, ◌∷◌, [], ◌∙◌, append_assoc}
use Rattle.lx_workers.proofs.EngineSteps.{in_step_heard, left_room}
use Rattle.lx_workers.proofs.engine.PublisherGateWriterListener.hear.Goals as goal

pub publish-requires : goal.publish-requires
publish-requires g c =
    in_step_heard _ _ _ _ c.args.command.now c.requires.0 c.args.console.now c.requires.1.0.0 c.requires.1.1.0 c.requires.1.1.1 c.push.ensures

pub returns-clause-heard : goal.returns-clause-heard
returns-clause-heard g c = (
  c.publish.ensures.same ∙ (ap (λ l. c.args.self.now.gate.published ++ l) c.push.ensures
      ∙ sym (append_assoc c.args.self.now.gate.published c.args.self.now.unsent (c.args.command.now ∷ []))),
  record { later = c.publish.ensures.sends.later; sent = λ stood. c.publish.ensures.sends.sent stood },
)

pub returns-clause-all : goal.returns-clause-all
returns-clause-all g c =
    left_room _ _ c.args.command.now (c.publish.ensures.same ∙ (ap (λ l. c.args.self.now.gate.published ++ l) c.push.ensures
    ∙ sym (append_assoc c.args.self.now.gate.published c.args.self.now.unsent (c.args.command.now ∷ []))))

pub returns-clause-keeps : goal.returns-clause-keeps
returns-clause-keeps g c =
    (c.publish.ensures.in_step, let later = c.publish.ensures.sends.later in let before = c.requires.1.0.1 in omega (arith, later, before))
