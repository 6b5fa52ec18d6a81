use Rattle.lx_console.proofs.AllRuns.{levels_of_all}
use Rattle.lx_console.proofs.player.Player.levels.Goals as goal

pub returns-clause-live : goal.returns-clause-live
returns-clause-live c =
    rw (← c.self.view_is) (c.row.ensures.stands c.self.inside.show c.self.inside.playback c.self.invariant.levels_stand)

pub returns-clause-all : goal.returns-clause-all
returns-clause-all c = λ d stands. levels_of_all d c.args.self.now c.row.result.now stands
    (rw (← c.self.view_is) (c.row.ensures.stands c.self.inside.show c.self.inside.playback c.self.invariant.levels_stand))
