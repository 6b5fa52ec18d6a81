-- Ticks at which nothing but the moment changes.
use Rattle.std.specs.Prelude.{◌≡◌, ℕ, ◌+◌, ◌*◌, ◌<◌, false, Ok}
use Rattle.lx_base.specs.declared.TheConstants.{TICK_STEP}
use Rattle.lx_spec.specs.Show.{Show}
use Rattle.lx_spec.specs.Playback.{Playback, no_run, is_due, is_over, tick}

-- the playback this many ticks later, if nothing but the moment changes
abbrev pub moments_later : Playback → ℕ → Playback
moments_later p ticks = record p { moment = p.moment + ticks * TICK_STEP }

-- each of this many ticks is accepted, and changes nothing but the moment
abbrev pub TicksPass : Playback → ℕ → Type 0
TicksPass p ticks = (show : Show) (n : ℕ) → n < ticks → tick show (moments_later p n) ≡ Ok (no_run (moments_later p (n + 1)))

-- at the moment no follow is due, and the playback doesn't come to rest
pub record IsStillAt (p : Playback) (moment : ℕ) : Type 0 where
  pub due : is_due (record p { moment = moment }) ≡ false
  pub over : is_over (record p { moment = moment }) ≡ false
