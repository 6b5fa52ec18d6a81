use Rattle.lx_crew.proofs.Imports.{rules, [], ◌∷◌, ◌++◌, slice_get, ap, sym, ◌∙◌, arith, Counts}
use Rattle.lx_crew.proofs.AnswerProgress.{answered_later, answered_none}
use Rattle.lx_crew.proofs.EngineSteps.{ended_on, cause_none, cause_then, answered_same}
use Rattle.lx_crew.proofs.engine.serve.Goals as goal

pub loop-init : goal.loop-init
loop-init g c =
    let none = c.requires.none in record {
      can = tt;
      finite = tt;
      same = search rules;
      popped = [];
      view = c.requires.view;
      ended = search rules;
      later = omega arith;
      answered = λ d stands. answered_none (g.H.Heap.refusals c.args.heap.now) g.K.Sink d c.args.sink.now _ c.args.tally.now stands none;
      cause = cause_none _ _ _;
      ok = omega (arith, ap (λ (n : Counts). n.ok) none);
      refused = omega (arith, ap (λ (n : Counts). n.refused) none);
      bad = omega (arith, ap (λ (n : Counts). n.bad) none);
    }

pub returns-then-all_of-clause-served : goal.returns-then-all_of-clause-served
returns-then-all_of-clause-served g c =
    let i = c.loop.invariant in record {
      popped = i.popped;
      view = i.view;
      ended = λ k below. i.ended k (c.all_of.ensures c.if-all_of.true k below);
      later = i.later;
      answered = λ d stands. c.flush.ensures.answered _ _ d i.popped _ _ _ (i.answered d stands);
      cause = cause_then _ _ _ _ _ _ _ i.cause c.flush.ensures.cause;
      handed_on = c.flush.ensures.handed_on;
    }

pub loop-preserved-then-not-take_one : goal.loop-preserved-then-not-take_one
loop-preserved-then-not-take_one g c =
    let i = c.loop.invariant in
    let n = c.take_one.ensures.none c.if-not-take_one.true in record {
      can = tt;
      finite = tt;
      same = search rules;
      popped = i.popped;
      view = n.0 ∙ i.view;
      ended = λ k is. i.ended k (ap (λ marks. slice_get marks k) (sym n.1.1.1.1.1) ∙ is);
      later = omega (arith, i.later, c.take_one.ensures.later);
      answered = λ d stands. c.flush-then-not-take_one.ensures.answered _ _ d i.popped _ _ _
          (answered_same g.K.Sink _ _ _ _ d i.popped _ _ _ _ _ _ _ n.1.0 n.1.1.0 n.1.1.1.0 n.1.1.1.1.0
          (answered_later _ _ _ g.K.Sink d i.popped _ _ _ _ _ c.take_one.ensures.later (i.answered d stands)));
      cause = cause_then _ _ _ _ _ _ _ (cause_then _ _ _ _ _ _ _ i.cause c.take_one.ensures.cause) c.flush-then-not-take_one.ensures.cause;
      ok = search rules;
      refused = search rules;
      bad = search rules;
    }

pub loop-preserved : goal.loop-preserved
loop-preserved g c =
    let i = c.loop.invariant in
    let t = c.take_one.ensures.some c.if-not-take_one.false in record {
      can = tt;
      finite = tt;
      same = search rules;
      popped = i.popped ++ t.entry ∷ [];
      view = rw i.view at t.takes;
      ended = ended_on _ _ _ _ t.marked i.ended;
      later = omega (arith, i.later, c.take_one.ensures.later);
      answered = λ d stands. t.answered _ d i.popped _ (i.answered d stands);
      cause = cause_then _ _ _ _ _ _ _ i.cause c.take_one.ensures.cause;
      ok = search rules;
      refused = search rules;
      bad = search rules;
    }
