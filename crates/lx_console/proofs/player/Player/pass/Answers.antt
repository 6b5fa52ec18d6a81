use Rattle.lx_console.proofs.Imports.{ap, sym, subst, ◌∙◌, Playback, Kept, LevelsStandFor}
use Rattle.lx_console.proofs.Imports.{StandsFor}
use Rattle.lx_console.proofs.OutputChanges.{kept_in, played_changes}
use Rattle.lx_console.proofs.PassedTicks.{ticks_passed}
use Rattle.lx_console.proofs.player.Player.pass.Goals as goal

-- the levels stand for the playback that passed the ticks
stands : (c : goal.After-of_levels)
    → LevelsStandFor c.self.inside.show c.pass-ticks.new.self c.to_moment-changed.new.self
stands c = rw c.pass-ticks.ensures.state (rw (c.moment.ensures.moment ∙ ap (λ (q : Playback). q.moment) c.pass-ticks.ensures.state)
    at (c.to_moment-changed.ensures.stands c.self.inside.show c.self.inside.playback c.self.invariant.levels_stand))

pub invariant_of-self : goal.invariant_of-self
invariant_of-self c = record {
  valid = c.self.invariant.valid;
  rows = c.self.invariant.rows;
  subs = c.self.invariant.subs;
  levels_stand = stands c;
}

pub returns-clause-ticks : goal.returns-clause-ticks
returns-clause-ticks c = λ d stands.
    let k : Kept = kept_in c.self.inside in
    ticks_passed c.pass-ticks.result d k (record k { playback = c.pass-ticks.new.self })
    (subst (StandsFor d) (sym c.self.view_is) stands) c.pass-ticks.ensures.ticks
    (ap (λ (p : Playback). record k { playback = p }) c.pass-ticks.ensures.state)

pub returns-clause-changes : goal.returns-clause-changes
returns-clause-changes c = rw (c.of_levels.ensures, ← c.self.view_is)
    (played_changes (kept_in c.self.inside) c.pass-ticks.new.self c.self.inside.levels c.to_moment-changed.new.self c.to_moment-changed.result
    c.self.invariant.levels_stand (stands c)
    (λ still. rw c.self.invariant.levels_stand.reach at c.to_moment-changed.ensures.unchanged still))
