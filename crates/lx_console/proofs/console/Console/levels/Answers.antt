use Rattle.lx_console.proofs.Imports.{subst, sym, StandsFor}
use Rattle.lx_console.proofs.console.Console.levels.Goals as goal

pub returns-clause-all : goal.returns-clause-all
returns-clause-all c = λ d stands. c.levels.ensures.all d (subst (StandsFor d) (sym c.self.view_is) stands)
