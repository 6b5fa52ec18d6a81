use Rattle.lx_playback.proofs.Imports.{arith, ap, ◌≡◌, ◌≤◌, ◌-◌, ◌*◌, TICK_STEP, Playback}
use Rattle.lx_playback.proofs.QuietTicks.{ticks_pass}
use Rattle.lx_playback.proofs.playback.Playback.pass.Goals as goal

pub returns-clause-ticks : goal.returns-clause-ticks
returns-clause-ticks c =
    let moment : c.self.inside.moment ≡ c.args.self.now.moment = ap (λ (p : Playback). p.moment) c.self.view_is in
    let within : c.min-ticks.result * TICK_STEP ≤ c.still_until.result - c.args.self.now.moment =
    omega (arith, moment, c.min-ticks.ensures, c.saturating_sub-left.ensures) in
    ticks_pass c.args.self.now c.min-ticks.result c.still_until.result c.still_until.ensures.end c.still_until.ensures.still within
