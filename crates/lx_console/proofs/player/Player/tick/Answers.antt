use Rattle.lx_console.proofs.Imports.{refl, tick}
use Rattle.lx_spec.specs.declared.Command.TheVariants as commands
use Rattle.lx_console.proofs.NoMemory.{tick_never}
use Rattle.lx_console.proofs.Obedience.{obeys_played}
use Rattle.lx_console.proofs.player.Player.tick.Goals as goal

pub returns-clause-obeys : goal.returns-clause-obeys
returns-clause-obeys c = λ d stands.
    obeys_played commands.Tick (λ k. tick k.show k.playback) c.advance.result stands refl c.advance.ensures.ok c.advance.ensures.err

pub returns-clause-memory : goal.returns-clause-memory
returns-clause-memory c = tick_never c.args.self.now.show c.args.self.now.playback c.advance.result c.advance.ensures.err
