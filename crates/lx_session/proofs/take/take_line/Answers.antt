use Rattle.lx_session.proofs.Imports.{◌∙◌, ap, inl, inr, Bool, false, Ok, refl, arith, option_copied, handed_one, Keeps-trans, MayTake, spared}
use Rattle.lx_session.proofs.LineOutcomes.{TakenLine, LineIsAnswered, failed_as, replied, ended, unflushed, unwritten, end_unflushed}
use Rattle.lx_session.proofs.LineOutcomes.{kept_then, sink_cause, kept_cause}
use Rattle.lx_session.proofs.Stood.{spared_lawful}
use Rattle.lx_session.proofs.take.take_line.Goals as goal
use Rattle.lx_session.proofs.take.take_line.Goals.{After-answer_beside, in-Line, in-LongLine}

-- the line that was taken
taken : (g : _) (c : After-answer_beside g) → TakenLine g.S.Source c.args.lines.now c.advance.new.self (option_copied c.given_line-line.result)
taken g c = elim c.match-advance.branch [
  | in-Line w ↦ let e = w.in-Line.ensures in record {
    raw = e.step.0;
    handed = handed_one _ _ _ e.step.0 e.step.1 e.counted.1 e.counted.0 e.same_reference e.cause.kept;
    is = rw (c.given_line-line.ensures, w.whole-is) e.step.2;
  }
  | in-LongLine w ↦ let e = w.in-LongLine.ensures in record {
    raw = e.step.0;
    handed = handed_one _ _ _ e.step.0 e.step.1 e.counted.1 e.counted.0 e.same_reference e.cause.kept;
    is = rw (c.given_line-line.ensures, w.whole-is) e.step.3;
  }
]

-- and how it was answered
answered : (g : _) (c : After-answer_beside g) (all ample : Bool)
    → MayTake all ample (g.A.AnswersBeside.admitted_all c.answer_beside.new.self) (g.H.Heap.refusals c.args.heap.now)
    (g.H.Heap.refusals c.answer_beside.new.heap)
    → LineIsAnswered (spared ample (g.A.AnswersBeside.by all))
    (λ since state. g.A.AnswersBeside.stands since all state c.args.answerer.now c.args.lent.now)
    (λ since state. g.A.AnswersBeside.stands since all state c.answer_beside.new.self c.answer_beside.new.lent) g.S.Source c.args.lines.now
    c.advance.new.self g.K.Sink c.args.sink.now c.flush_before_wait.new.sink c.answer_beside.new.sink c.answer_beside.result
    c.args.tally.now c.answer_beside.new.tally
answered g c all ample may =
    let t = taken g c in record {
      raw = t.raw;
      handed = t.handed;
      lawful = spared_lawful ample (g.A.AnswersBeside.by all) (c.answer_beside.ensures.lawful all);
      kept = c.flush_before_wait.ensures.holds;
      answered = λ since s stands counts. c.answer_beside.ensures.answered all ample may since s _ stands counts t.is;
      ends = c.answer_beside.ensures.quit _ t.is;
    }

pub answer_beside-requires-clause-room : goal.answer_beside-requires-clause-room
answer_beside-requires-clause-room g c = record {
  ok = omega (arith, c.requires.few.ok, c.args.lines.now.counted, c.args.lines.now.few);
  refused = omega (arith, c.requires.few.refused, c.args.lines.now.counted, c.args.lines.now.few);
  bad = omega (arith, c.requires.few.bad, c.args.lines.now.counted, c.args.lines.now.few);
}

pub returns-in_err-answer_beside-clause-outcome : goal.returns-in_err-answer_beside-clause-outcome
returns-in_err-answer_beside-clause-outcome g c = λ all ample may.
    let t = answered g (goal.at.returns-in_err-answer_beside-clause-outcome g c).After-answer_beside all ample may in
    rw (failed_as c.from_residual-in_err-answer_beside.result c.from_residual-in_err-answer_beside.ensures)
    (unwritten t c.in_err-answer_beside.field-0.0 c.in_err-answer_beside.was)

pub returns-then-branch-clause-outcome : goal.returns-then-branch-clause-outcome
returns-then-branch-clause-outcome g c = λ all ample may.
    let t = answered g (goal.at.returns-then-branch-clause-outcome g c).After-answer_beside all ample may in
    replied t (c.in_ok-answer_beside.was ∙ ap Ok c.if-branch.true)

pub returns-in_err-flush-clause-outcome : goal.returns-in_err-flush-clause-outcome
returns-in_err-flush-clause-outcome g c = λ all ample may.
    let t = answered g (goal.at.returns-in_err-flush-clause-outcome g c).After-answer_beside all ample may in
    rw (failed_as c.from_residual-in_err-flush.result c.from_residual-in_err-flush.ensures)
    (unflushed t _ c.in_err-flush.field-0.0 (c.in_ok-answer_beside.was ∙ ap Ok c.if-branch.false) c.flush-2.ensures.holds)

pub returns-clause-outcome : goal.returns-clause-outcome
returns-clause-outcome g c = λ all ample may.
    let t = answered g (goal.at.returns-clause-outcome g c).After-answer_beside all ample may in
    ended t _ (c.in_ok-answer_beside.was ∙ ap Ok c.if-branch.false) c.flush-2.ensures.holds

pub returns-in_err-answer_beside-clause-cause : goal.returns-in_err-answer_beside-clause-cause
returns-in_err-answer_beside-clause-cause g c =
    let t = taken g (goal.at.returns-in_err-answer_beside-clause-cause g c).After-answer_beside in
    rw (failed_as c.from_residual-in_err-answer_beside.result c.from_residual-in_err-answer_beside.ensures)
    (sink_cause t.handed.kept c.in_ok-flush_before_wait.ensures.cause.kept c.in_err-answer_beside.ensures.cause)

pub returns-then-branch-clause-cause : goal.returns-then-branch-clause-cause
returns-then-branch-clause-cause g c =
    let t = taken g (goal.at.returns-then-branch-clause-cause g c).After-answer_beside in
    kept_cause t.handed.kept (kept_then c.in_ok-flush_before_wait.ensures.cause.kept c.in_ok-answer_beside.ensures.cause.kept)

pub returns-in_err-flush-clause-cause : goal.returns-in_err-flush-clause-cause
returns-in_err-flush-clause-cause g c =
    let t = taken g (goal.at.returns-in_err-flush-clause-cause g c).After-answer_beside in
    rw (failed_as c.from_residual-in_err-flush.result c.from_residual-in_err-flush.ensures)
    (sink_cause t.handed.kept (kept_then c.in_ok-flush_before_wait.ensures.cause.kept c.in_ok-answer_beside.ensures.cause.kept)
    c.in_err-flush.ensures.cause)

pub returns-clause-cause : goal.returns-clause-cause
returns-clause-cause g c =
    let t = taken g (goal.at.returns-clause-cause g c).After-answer_beside in
    kept_cause t.handed.kept (kept_then (kept_then c.in_ok-flush_before_wait.ensures.cause.kept c.in_ok-answer_beside.ensures.cause.kept)
    c.in_ok-flush.ensures.cause.kept)

pub returns-in_err-flush_before_wait-clause-cause : goal.returns-in_err-flush_before_wait-clause-cause
returns-in_err-flush_before_wait-clause-cause g c = rw (failed_as c.from_residual.result c.from_residual.ensures)
    (sink_cause refl (refl, refl) c.in_err-flush_before_wait.ensures.cause)

pub returns-in_err-flush-in-End-clause-outcome : goal.returns-in_err-flush-in-End-clause-outcome
returns-in_err-flush-in-End-clause-outcome g c = λ all ample may.
    rw (failed_as c.from_residual-in_err-flush-in-End.result c.from_residual-in_err-flush-in-End.ensures)
    (end_unflushed _ (λ since state. g.A.AnswersBeside.stands since all state c.args.answerer.now c.args.lent.now) g.S.Source
    c.args.lines.now c.advance.new.self (g.K.Sink.holds c.args.sink.now) (g.K.Sink.holds c.flush.new.self) c.args.tally.now
    c.in_err-flush-in-End.field-0.0 (Keeps-trans _ _ _ c.flush_before_wait.ensures.holds c.flush.ensures.holds) c.in-End.ensures.step.0
    c.in-End.ensures.ended)

pub returns-in_err-flush-in-End-clause-cause : goal.returns-in_err-flush-in-End-clause-cause
returns-in_err-flush-in-End-clause-cause g c =
    rw (failed_as c.from_residual-in_err-flush-in-End.result c.from_residual-in_err-flush-in-End.ensures)
    (sink_cause c.in-End.ensures.cause.kept c.in_ok-flush_before_wait.ensures.cause.kept c.in_err-flush-in-End.ensures.cause)

pub returns-in-End-clause-cause : goal.returns-in-End-clause-cause
returns-in-End-clause-cause g c =
    kept_cause c.in-End.ensures.cause.kept (kept_then c.in_ok-flush_before_wait.ensures.cause.kept c.in_ok-flush-in-End.ensures.cause.kept)

pub returns-in-ReadFault-clause-outcome : goal.returns-in-ReadFault-clause-outcome
returns-in-ReadFault-clause-outcome g c = λ all ample may.
    let e = c.in-ReadFault.ensures in record {
      cut = record { raw = e.step.0; fed = false; took = e.step.1; stop = inr (refl, e.none_held refl) };
      same = λ since s stands counts. record { kept = c.flush_before_wait.ensures.holds; stands = stands };
    }

pub returns-in-ReadFault-clause-cause : goal.returns-in-ReadFault-clause-cause
returns-in-ReadFault-clause-cause g c =
    let kept = c.in_ok-flush_before_wait.ensures.cause.kept in
    record {
      later = c.in-ReadFault.ensures.cause.later;
      sink_later = omega (arith, kept.0);
      wants_later = omega (arith, kept.1);
      failed = c.in-ReadFault.ensures.cause.failed refl;
      alone = kept;
      kept = tt;
    }

pub returns-in-InputTooLong-clause-outcome : goal.returns-in-InputTooLong-clause-outcome
returns-in-InputTooLong-clause-outcome g c = λ all ample may.
    let e = c.in-InputTooLong.ensures in (
      record {
        cut = record { raw = e.step.0; fed = e.step.1; took = e.step.2; stop = inl e.step.3 };
        same = λ since s stands counts. record { kept = c.flush_before_wait.ensures.holds; stands = stands };
      },
      e.step,
    )

pub returns-in-InputTooLong-clause-cause : goal.returns-in-InputTooLong-clause-cause
returns-in-InputTooLong-clause-cause g c =
    let kept = c.in_ok-flush_before_wait.ensures.cause.kept in
    record {
      later = c.in-InputTooLong.ensures.cause.later;
      sink_later = omega (arith, kept.0);
      wants_later = omega (arith, kept.1);
      failed = tt;
      alone = (c.in-InputTooLong.ensures.cause.kept, kept);
      kept = tt;
    }
