use Rattle.lx_undo.proofs.Imports.{◌≡◌, ◌-◌, ◌∙◌, arith, None, Option, refl, sym, ap, Refusal, LineState}
use Rattle.lx_session.proofs.Commands.{wants_none}
use Rattle.lx_session.proofs.Stood.{stood_since}
use Rattle.lx_session.proofs.ValidNext.{valid_next}
use Rattle.lx_session.proofs.AttemptSteps.{nothing_yet}
use Rattle.lx_undo.proofs.LineProgress.{one_more}
use Rattle.lx_undo.proofs.session.attempt_all.Goals as goal

pub commands-init : goal.commands-init
commands-init g c = record {
  meaning = refl;
  later = omega arith;
  memory = λ stood is. let none : c.args.turn.now.refusal ≡ None = ap (λ (t : LineState). t.refusal) c.requires.start in cc;
  progress = λ s stands.
      nothing_yet stands.desk (ap (λ (t : LineState). t.refusal) c.requires.start) (record { few = omega arith; stands = stands });
}

pub command_in-requires : goal.command_in-requires
command_in-requires g c =
    valid_next c.args.turn.now c.commands.turn c.in-Some.command.now c.requires.valid c.commands.invariant.meaning (sym c.in-Some.ensures)

pub commands-preserved : goal.commands-preserved
commands-preserved g c = record {
  meaning = ap (λ (t : LineState). t.meaning) c.attempted.ensures ∙ c.commands.invariant.meaning;
  later = omega (arith, c.commands.invariant.later, c.command_in.ensures.cause.later);
  memory = λ stood is. wants_none c.err-refusal.ensures.value c.command_in.ensures.cause
      (stood_since (g.H.Heap.refusals c.args.heap.now) (g.H.Heap.refusals c.commands.heap) (g.H.Heap.refusals c.command_in.new.heap)
      c.commands.invariant.later stood) (sym (ap (λ (t : LineState). t.refusal) c.attempted.ensures) ∙ is);
  progress = λ s stands.
      one_more c.command_in.result c.requires.start (sym c.in-Some.ensures) c.command_in.ensures.steps c.command_in.ensures.unchanged
      (c.attempted.ensures
      ∙ ap (λ (r : Option Refusal). record c.commands.turn { left = c.commands.turn.left - 1; refusal = r }) c.err-refusal.ensures.value)
      (c.commands.invariant.progress s stands);
}
