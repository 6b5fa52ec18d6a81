use Rattle.lx_lists.proofs.Imports.{◌≡◌, ◌∙◌, None, refl, sym, ap, arith, LineState}
use Rattle.lx_session.proofs.Stood.{stood_since}
use Rattle.lx_session.proofs.ValidNext.{valid_next}
use Rattle.lx_session.proofs.AttemptSteps.{nothing_yet}
use Rattle.lx_lists.proofs.NextAttempt.{one_more}
use Rattle.lx_lists.proofs.attempts.attempt_all.Goals as goal

pub commands-init : goal.commands-init
commands-init g c = record {
  meaning = refl;
  later = omega arith;
  memory = λ stood is. let none : c.args.turn.now.refusal ≡ None = ap (λ (t : LineState). t.refusal) c.requires.start in cc;
  progress = λ s stands. nothing_yet stands.first (ap (λ (t : LineState). t.refusal) c.requires.start) stands.second;
}

pub attempt-refusal-requires : goal.attempt-refusal-requires
attempt-refusal-requires g c =
    valid_next c.args.turn.now c.commands.turn c.in-Some.command.now c.requires.valid c.commands.invariant.meaning (sym c.in-Some.ensures)

pub commands-preserved : goal.commands-preserved
commands-preserved g c = record {
  meaning = ap (λ (t : LineState). t.meaning) c.attempted.ensures ∙ c.commands.invariant.meaning;
  later = omega (arith, c.commands.invariant.later, c.attempt-refusal.ensures.later);
  memory = λ stood is.
      c.attempt-refusal.ensures.memory (stood_since (g.H.Heap.refusals c.args.heap.now) (g.H.Heap.refusals c.commands.heap)
      (g.H.Heap.refusals c.attempt-refusal.new.heap) c.commands.invariant.later stood)
      (sym (ap (λ (t : LineState). t.refusal) c.attempted.ensures) ∙ is);
  progress = λ s stands.
      one_more (sym c.in-Some.ensures) c.attempt-refusal.ensures.first c.attempt-refusal.ensures.second
      c.attempted.ensures (c.commands.invariant.progress s stands);
}
