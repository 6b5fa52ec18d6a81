use Rattle.lx_gate.proofs.Imports.{◌++◌, sym, ap, ◌∙◌}
use Rattle.lx_gate.proofs.UnsentCommands.{entered_all}
use Rattle.lx_gate.proofs.gate.Gate+G+GateWriter+G.publish.Goals as goal

pub returns-in_err-send-clause-entered : goal.returns-in_err-send-clause-entered
returns-in_err-send-clause-entered g c =
    entered_all c.self.inside.published c.args.unsent.now c.again.result
    (c.again.ensures ∙ (c.enter-entered.ensures ∙ ap (λ v. v.published ++ c.args.unsent.now) (sym c.self.view_is)))

pub invariant_of-self : goal.invariant_of-self
invariant_of-self g c = c.in_err-send.ensures.err c.self.inside.published c.self.invariant
