use Rattle.lx_console.proofs.Imports.{ap, refl, Kept, press}
use Rattle.lx_spec.specs.declared.Command.TheVariants as commands
use Rattle.lx_spec.specs.declared.Key.TheVariants.{Play}
use Rattle.lx_console.proofs.NoMemory.{key_never, fader_never}
use Rattle.lx_console.proofs.Obedience.{obeys_played, obeys_fader, obeys_master}
use Rattle.lx_console.proofs.player.Player.press.Goals as goal

pub returns-in-Play-clause-obeys : goal.returns-in-Play-clause-obeys
returns-in-Play-clause-obeys c = λ d stands.
    rw c.in-Play.is (obeys_played (commands.Key (Play c.in-Play.key)) (λ k. press k.show k.playback c.in-Play.key) c.play.result stands refl
    c.play.ensures.ok c.play.ensures.err)

pub returns-in-Fader-clause-obeys : goal.returns-in-Fader-clause-obeys
returns-in-Fader-clause-obeys c = λ d stands.
    rw c.in-Fader.is (obeys_fader c.in-Fader.sub c.in-Fader.level c.set_fader.result stands c.set_fader.ensures.ok
    c.set_fader.ensures.state c.set_fader.ensures.err c.set_fader.ensures.absent)

pub returns-in-Master-clause-obeys : goal.returns-in-Master-clause-obeys
returns-in-Master-clause-obeys c = λ d stands.
    record {
      ok = rw c.in-Master.is (obeys_master c.in-Master.level stands (ap (λ (k : Kept). record k { master = c.in-Master.level }) c.self.view_is));
      err = tt;
    }

pub returns-in-Play-clause-memory : goal.returns-in-Play-clause-memory
returns-in-Play-clause-memory c =
    key_never c.args.self.now.show c.args.self.now.playback c.in-Play.key c.play.result c.play.ensures.err

pub returns-in-Fader-clause-memory : goal.returns-in-Fader-clause-memory
returns-in-Fader-clause-memory c = fader_never c.in-Fader.sub c.set_fader.result c.set_fader.ensures.err
