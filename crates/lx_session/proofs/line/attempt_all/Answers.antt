use Rattle.lx_session.proofs.Imports.{◌≡◌, ◌∙◌, ap, sym, arith, None, Some, [], ◌∷◌, heard_of, next_of}
use Rattle.lx_spec.specs.declared.Command.TheVariants as commands
use Rattle.lx_session.proofs.AttemptSteps.{nothing_yet, attempted, passed}
use Rattle.lx_session.proofs.Stood.{ample_since}
use Rattle.lx_session.proofs.ValidNext.{valid_next}
use Rattle.lx_session.proofs.line.attempt_all.Goals as goal

pub commands-init : goal.commands-init
commands-init g c =
    let here = c.args.listener.now in
    record {
      keeps = c.pass_ticks.ensures.keeps;
      all = λ every. every;
      meaning = ap (λ t. t.meaning) c.pass_ticks.ensures.passed.turn;
      later = omega arith;
      memory = λ ample is.
          let none : c.pass_ticks.new.turn.refusal ≡ None = ap (λ t. t.refusal) c.pass_ticks.ensures.passed.turn ∙ c.requires.start in cc;
      progress = λ s stands.
          passed (nothing_yet stands c.requires.start (g.met.L.Listener.nothing here)) c.pass_ticks.ensures.passed
          (λ done h one. g.met.L.Listener.both here here here done (commands.Tick ∷ []) h one);
    }

pub commands-preserved : goal.commands-preserved
commands-preserved g c =
    let command = c.in-Some.command.now in
    let next : next_of c.commands.turn ≡ Some command = sym c.in-Some.ensures in
    let first = c.args.listener.now in
    let here = c.attempt_one-refusal.new.listener in
    record {
      keeps = c.pass_ticks-in-Some.ensures.keeps;
      all = λ every. c.commands.invariant.all (c.attempt_one-refusal.ensures.all every);
      meaning = ap (λ t. t.meaning) c.pass_ticks-in-Some.ensures.passed.turn ∙ ap (λ t. t.meaning) c.attempted.ensures
          ∙ c.commands.invariant.meaning;
      later = omega (arith, c.commands.invariant.later, c.attempt_one-refusal.ensures.later);
      memory = λ ample is.
          let same : c.pass_ticks-in-Some.new.turn.refusal ≡ c.attempt_one-refusal.result = ap (λ t. t.refusal) c.pass_ticks-in-Some.ensures.passed.turn
          ∙ ap (λ t. t.refusal) c.attempted.ensures in
          c.attempt_one-refusal.ensures.memory (ample_since c.commands.invariant.later ample) (sym same ∙ is);
      progress = λ s stands.
          passed (attempted (c.commands.invariant.progress s stands) next c.attempt_one-refusal.ensures.attempted
          (λ commands h. g.met.L.Listener.both first c.commands.listener here commands
          (heard_of command c.attempt_one-refusal.result) h c.attempt_one-refusal.ensures.heard) c.attempted.ensures)
          c.pass_ticks-in-Some.ensures.passed
          (λ done h one. g.met.L.Listener.both first here here done (commands.Tick ∷ []) h one);
    }

pub attempt_one-refusal-requires-clause-valid : goal.attempt_one-refusal-requires-clause-valid
attempt_one-refusal-requires-clause-valid g c =
    valid_next c.args.turn.now c.commands.turn c.in-Some.command.now c.requires.valid c.commands.invariant.meaning (sym c.in-Some.ensures)
