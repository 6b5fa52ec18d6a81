use Rattle.lx_workers.proofs.Imports.{rules, ◌∙◌, refl, ap, inl, inr, ⊎_elim}
use Rattle.lx_workers.proofs.TapSteps.{rose_on}
use Rattle.lx_workers.proofs.WorkerSteps.{served_none}
use Rattle.lx_workers.proofs.worker.serve.Goals as goal

pub loop-init : goal.loop-init
loop-init g c = record {
  can = tt;
  finite = tt;
  served = rw c.none-served.ensures (served_none _ _ c.args.tap.now c.args.sink.now);
  learnt = refl;
  none = ap (λ s. s.fault) c.none-served.ensures;
}

pub loop-preserved : goal.loop-preserved
loop-preserved g c = record {
  can = tt;
  finite = tt;
  served = c.step-in-loop.ensures.stepped.serves c.args.tap.now c.args.sink.now c.loop.invariant.served;
  learnt = c.step-in-loop.ensures.stepped.same_learnt ∙ c.loop.invariant.learnt;
  none = search rules;
}

pub returns-then-is_set-clause-served : goal.returns-then-is_set-clause-served
returns-then-is_set-clause-served g c = c.step.ensures.stepped.serves c.args.tap.now c.args.sink.now c.loop.invariant.served

pub returns-then-is_set-clause-seen : goal.returns-then-is_set-clause-seen
returns-then-is_set-clause-seen g c = (c.step.ensures.stepped.serves c.args.tap.now c.args.sink.now c.loop.invariant.served).seen

pub returns-then-is_set-clause-last : goal.returns-then-is_set-clause-last
returns-then-is_set-clause-last g c = c.step.ensures.stepped.last c.args.tap.now c.args.sink.now c.loop.invariant.served

pub returns-then-is_set-clause-looked : goal.returns-then-is_set-clause-looked
returns-then-is_set-clause-looked g c = λ none.
    let before = c.loop.invariant.served in
    ⊎_elim (λ r. inl (rose_on _ _ _ before.reads r)) (λ r. inr (rose_on _ _ _ before.misses r)) c.step.ensures.looked

pub returns-then-is_set-clause-handed_on : goal.returns-then-is_set-clause-handed_on
returns-then-is_set-clause-handed_on g c = λ none.
    (c.step.ensures.stepped.serves c.args.tap.now c.args.sink.now c.loop.invariant.served).handed_on _ none
    (c.step.ensures.stepped.last c.args.tap.now c.args.sink.now c.loop.invariant.served none)

pub returns-then-is_some-clause-served : goal.returns-then-is_some-clause-served
returns-then-is_some-clause-served g c = c.step-in-loop.ensures.stepped.serves c.args.tap.now c.args.sink.now c.loop.invariant.served

pub returns-then-is_some-clause-seen : goal.returns-then-is_some-clause-seen
returns-then-is_some-clause-seen g c = (c.step-in-loop.ensures.stepped.serves c.args.tap.now c.args.sink.now c.loop.invariant.served).seen
