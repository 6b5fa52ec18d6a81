use Rattle.lx_session.proofs.Imports.{◌≡◌, ◌≤◌, ◌-◌, Bool, true, INPUT_BYTES, IsUpTo}
use Rattle.lx_session.proofs.Refusals.{Pays}
use Rattle.lx_session.proofs.SoFar.{SoFar, Passed}
use Rattle.lx_session.proofs.script.answer_each.Given as goal

abbrev pub invariant-script : goal.invariant-script
invariant-script g l = record {
  keeps : g.A.AnswersBeside.keeps l.answerer l.lent;
  passed : Passed g.S.Source l.fn.lines l.lines;
  later : g.H.Heap.refusals l.fn.heap ≤ g.H.Heap.refusals l.heap;
  so_far : (all : Bool) → (all ≡ true → g.A.AnswersBeside.admitted_all l.answerer ≡ true)
      → (since : g.A.AnswersBeside.Since) (state : (g.A.AnswersBeside.by all).State)
      → g.A.AnswersBeside.stands since all state l.fn.answerer l.fn.lent
      → SoFar (g.A.AnswersBeside.by all)
      (Pays (g.A.AnswersBeside.admitted_all l.answerer) (g.H.Heap.refusals l.fn.heap) (g.H.Heap.refusals l.heap))
      (λ s. g.A.AnswersBeside.stands since all s l.answerer l.lent) g.S.Source l.fn.lines l.lines state l.tally
      (g.K.Sink.holds l.fn.sink) (g.K.Sink.holds l.sink);
  few : IsUpTo l.lines.number l.tally;
  sink_kept : g.K.Sink.faults l.sink ≡ g.K.Sink.faults l.fn.sink;
  wants_kept : g.K.Sink.wants l.sink ≡ g.K.Sink.wants l.fn.sink;
}

abbrev pub decreases-script : goal.decreases-script
decreases-script g l = INPUT_BYTES - l.lines.number
