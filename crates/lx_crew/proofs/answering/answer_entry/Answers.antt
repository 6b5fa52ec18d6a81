use Rattle.lx_crew.proofs.Imports.{Some, ap, ◌∙◌, option_copied}
use Rattle.lx_crew.proofs.AnswerProgress.{IsSaid, said_text, said_long, none_is, answered_entry, thrown_away}
use Rattle.lx_crew.proofs.answering.answer_entry.Goals as goal
use Rattle.lx_crew.proofs.answering.answer_entry.Goals.{in-Line, in-LongLine}

pub returns-then-is_some-clause-answered : goal.returns-then-is_some-clause-answered
returns-then-is_some-clause-answered g c = λ before d popped start so_far.
    thrown_away before _ g.K.Sink d popped start _ _ _ c.args.entry.now c.args.output.now c.if-is_some.ensures so_far

pub returns-clause-answered : goal.returns-clause-answered
returns-clause-answered g c =
    let said : IsSaid c.args.entry.now (option_copied c.match-entry.line) =
    elim c.match-entry.branch [
      | in-Line w ↦ said_text c.args.entry.now w.in-Line.line _ w.in-Line.is (ap option_copied w.line-is ∙ ap Some w.bytes.ensures.text)
      | in-LongLine w ↦ said_long c.args.entry.now _ w.in-LongLine.is (ap option_copied w.line-is)
    ] in
    λ before d popped start so_far.
    answered_entry before (g.H.Heap.refusals c.args.heap.now) (g.H.Heap.refusals c.answer_line.new.heap) g.K.Sink c.args.sink.now
    c.answer_line.new.sink d popped start _ _ c.args.tally.now c.answer_line.new.tally said
    (none_is c.args.output.now c.if-is_some.ensures) c.err.ensures.value c.answer_line.ensures.later c.answer_line.ensures.answered so_far
