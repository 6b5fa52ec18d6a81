use Rattle.lx_record.proofs.RecordAnswer.{of_stage}
use Rattle.lx_record.proofs.record.recorded_in.Goals as goal

pub returns-clause-records : goal.returns-clause-records
returns-clause-records g c = λ d stands. rw (← of_stage d c.args.console.now c.args.n c.args.only stands) c.recorded_now.ensures.records
