use Rattle.lx_session.proofs.Imports.{rules}
use Rattle.lx_session.proofs.line.pass_ticks.Goals as goal

pub returns-clause-keeps : goal.returns-clause-keeps
returns-clause-keeps g c = c.hears_ticks.ensures.keeps (search rules) c.args.console.now c.pass_ticks.new.console c.requires.keeps

pub returns-clause-passed : goal.returns-clause-passed
returns-clause-passed g c = record {
  ticks = c.pass_ticks.result;
  within = c.pass_ticks.ensures.within;
  tick = c.pass_ticks.ensures.tick;
  listened = λ some. c.hears_ticks.ensures.heard (search rules);
  turn = c.pass_ticks.ensures.turn;
  stands = c.pass_ticks.ensures.stands;
}
