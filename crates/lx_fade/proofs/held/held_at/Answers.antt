use Rattle.lx_fade.proofs.Imports.{arith}
use Rattle.lx_fade.proofs.held.held_at.Goals as goal

pub returns-then-fade-2-clause-later : goal.returns-then-fade-2-clause-later
returns-then-fade-2-clause-later c = c.moment_of.ensures.least c.args.m (omega (arith, c.step_of-step.ensures.later)) c.requires.end

pub returns-else-fade-2-clause-later : goal.returns-else-fade-2-clause-later
returns-else-fade-2-clause-later c =
    c.moment_of-else-fade-2.ensures.least c.args.m (omega (arith, c.step_of-step-else-fade-2.ensures.later)) c.requires.end
