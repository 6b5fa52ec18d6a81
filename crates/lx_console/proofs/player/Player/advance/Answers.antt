use Rattle.lx_console.proofs.OutputChanges.{kept_in, played_changes}
use Rattle.lx_console.proofs.player.Player.advance.Goals as goal

pub returns-clause-changes : goal.returns-clause-changes
returns-clause-changes c = rw (c.of_levels.ensures, ← c.self.view_is)
    (played_changes (kept_in c.self.inside) c.tick_of.new.playback c.self.inside.levels c.tick_of.new.levels c.in_ok-changed.changed
    c.self.invariant.levels_stand c.in_ok-changed.ensures.levels c.in_ok-changed.ensures.same)
