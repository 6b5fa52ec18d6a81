use Rattle.lx_record.proofs.Imports.{◌∙◌, sym}
use Rattle.lx_record.proofs.RecordAnswer.{of_stage}
use Rattle.lx_record.proofs.record.plan_record_in.Goals as goal

pub returns-clause-plans : goal.returns-clause-plans
returns-clause-plans g c = λ d stands.
    rw c.plan_of.ensures (sym (of_stage d c.args.console.now c.args.n c.args.only stands) ∙ c.in_ok-cues.ensures.records)
