use Rattle.lx_session.proofs.Imports.{[], ◌++◌, ◌∙◌, ◌∷◌, Bool, true, false, ap, arith, refl, spared}
use Rattle.lx_session.proofs.SoFar.{PaysMore, so_far_none, so_far_more, passed_none, passed_more, fits}
use Rattle.lx_session.proofs.LineOutcomes.{failed_as}
use Rattle.lx_session.proofs.ScriptEnds.{so_far_ends, so_far_fails, fails_by_limit}
use Rattle.lx_session.proofs.Stood.{take_none}
use Rattle.lx_session.proofs.Refusals.{Pays, ample_at, few_at, pays_on, take_at}
use Rattle.lx_session.proofs.script.answer_each.Goals as goal
use Rattle.lx_session.proofs.script.answer_each.Goals.{After-take_line}

-- whether memory was ample for the line
abbrev is_ample : (g : _) → After-take_line g → Bool
is_ample g c = ample_at (g.A.AnswersBeside.admitted_all c.take_line.new.answerer) (g.H.Heap.refusals c.script.heap)
    (g.H.Heap.refusals c.take_line.new.heap)

-- what was paid for the lines so far is paid with this one, too
pays : (g : _) (c : After-take_line g) (failures : _)
    → Pays (g.A.AnswersBeside.admitted_all c.script.answerer) (g.H.Heap.refusals c.args.heap.now) (g.H.Heap.refusals c.script.heap) failures
    → PaysMore (is_ample g c) failures
    (Pays (g.A.AnswersBeside.admitted_all c.take_line.new.answerer) (g.H.Heap.refusals c.args.heap.now) (g.H.Heap.refusals c.take_line.new.heap))
pays g c failures before = λ failed none. pays_on _ _ _ _ _ failures failed c.take_line.ensures.all c.take_line.ensures.later none before

pub script-init : goal.script-init
script-init g c = record {
  keeps = c.requires.keeps;
  passed = passed_none c.requires.going;
  later = omega arith;
  so_far = λ all admitted since state stands. so_far_none c.requires.going (λ is. omega arith) stands c.new-tally.ensures;
  few = record {
    ok = let e = ap (λ t. t.ok) c.new-tally.ensures in omega (arith, e);
    refused = let e = ap (λ t. t.refused) c.new-tally.ensures in omega (arith, e);
    bad = let e = ap (λ t. t.bad) c.new-tally.ensures in omega (arith, e);
  };
  sink_kept = refl;
  wants_kept = refl;
}

pub script-preserved : goal.script-preserved
script-preserved g c =
    let i = c.script.invariant in
    let e = c.take_line.ensures in
    let one = rw c.if-branch.true at (c.in_ok-take_line.ensures.outcome false false take_none) in
    let number = one.0.handed.number in
    let after = (goal.at.script-preserved g c).After-take_line in
    record {
      keeps = e.keeps;
      passed = passed_more i.passed one.0;
      later = omega (arith, i.later, e.later);
      so_far = λ all admitted since state stood_at.
          let ample = is_ample g after in
          let o = rw c.if-branch.true at (c.in_ok-take_line.ensures.outcome all ample (take_at _ _ _ admitted)) in
          let s = i.so_far all (λ is. e.all (admitted is)) since state stood_at in
          so_far_more ample s (pays g after s.failures s.paid) (o.1 since s.now s.stands s.counts);
      few = record {
        ok = omega (arith, number, i.few.ok, e.more.ok);
        refused = omega (arith, number, i.few.refused, e.more.refused);
        bad = omega (arith, number, i.few.bad, e.more.bad);
      };
      sink_kept = c.in_ok-take_line.ensures.cause.kept.1 ∙ i.sink_kept;
      wants_kept = c.in_ok-take_line.ensures.cause.kept.2 ∙ i.wants_kept;
    }

pub returns-in_err-take_line-clause-outcome : goal.returns-in_err-take_line-clause-outcome
returns-in_err-take_line-clause-outcome g c = λ all most admitted known since state stood_at.
    let after = (goal.at.returns-in_err-take_line-clause-outcome g c).After-take_line in
    let ample = is_ample g after in
    let s = c.script.invariant.so_far all (λ is. c.take_line.ensures.all (admitted is)) since state stood_at in
    rw (failed_as c.from_residual.result c.from_residual.ensures)
    (so_far_fails (λ since s. g.A.AnswersBeside.stands since all s c.script.answerer c.script.lent)
    (λ since s. g.A.AnswersBeside.stands since all s c.take_line.new.answerer c.take_line.new.lent) since c.take_line.new.lines
    c.take_line.new.tally (g.K.Sink.holds c.take_line.new.sink) c.in_err-take_line.field-0.0 s ample most
    (λ failed none. few_at most _ _ _ (s.failures ++ failed ∷ []) known (pays g after s.failures s.paid failed none))
    (c.in_err-take_line.ensures.outcome all ample (take_at _ _ _ admitted)))

pub returns-in_err-take_line-clause-limit : goal.returns-in_err-take_line-clause-limit
returns-in_err-take_line-clause-limit g c = rw (failed_as c.from_residual.result c.from_residual.ensures)
    (fails_by_limit (spared false (g.A.AnswersBeside.by false)) (λ since s. g.A.AnswersBeside.stands since false s c.script.answerer c.script.lent)
    (λ since s. g.A.AnswersBeside.stands since false s c.take_line.new.answerer c.take_line.new.lent) g.S.Source c.args.lines.now
    c.script.lines c.take_line.new.lines c.script.tally c.take_line.new.tally (g.K.Sink.holds c.script.sink)
    (g.K.Sink.holds c.take_line.new.sink) c.in_err-take_line.field-0.0 c.script.invariant.passed
    (c.in_err-take_line.ensures.outcome false false take_none))

pub returns-clause-outcome : goal.returns-clause-outcome
returns-clause-outcome g c = λ all most admitted known since state stood_at.
    let after = (goal.at.returns-clause-outcome g c).After-take_line in
    let ample = is_ample g after in
    let o = rw c.if-branch.false at (c.in_ok-take_line.ensures.outcome all ample (take_at _ _ _ admitted)) in
    let s = c.script.invariant.so_far all (λ is. c.take_line.ensures.all (admitted is)) since state stood_at in
    so_far_ends s ample most (λ failed none. few_at most _ _ _ (s.failures ++ failed ∷ []) known (pays g after s.failures s.paid failed none))
    (λ s. g.A.AnswersBeside.stands since all s c.take_line.new.answerer c.take_line.new.lent) c.take_line.new.lines
    (g.K.Sink.holds c.take_line.new.sink) (o.1 since s.now s.stands s.counts) o.0

pub returns-clause-limit : goal.returns-clause-limit
returns-clause-limit g c =
    let o = rw c.if-branch.false at (c.in_ok-take_line.ensures.outcome false false take_none) in
    fits g.S.Source c.args.lines.now c.script.lines c.take_line.new.lines c.script.invariant.passed o.0

pub script-smaller : goal.script-smaller
script-smaller g c =
    let o = rw c.if-branch.true at (c.in_ok-take_line.ensures.outcome false false take_none) in
    let number = o.0.handed.number in
    let within = c.take_line.new.lines.fewer o.0.handed.going in
    omega (arith, number, c.take_line.new.lines.counted, within)
