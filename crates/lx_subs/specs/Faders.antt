-- What a rack of faders holds, and the show for whose submasters it stands.
use Rattle.std.specs.Prelude.{ℕ, List}
use Rattle.lx_spec.specs.Show.{Show}
use Rattle.lx_spec.specs.Output.{contribution}
use Rattle.lx_mixer.specs.Table.{IsTable}

-- a fader for each submaster number, and what the submasters give each channel
pub record Faders : Type 0 where
  pub faders : List ℕ
  pub contributions : List ℕ

-- the rack has what the show's submasters give each channel, at its faders
abbrev pub StandsForSubs : Show → Faders → Type 0
StandsForSubs show rack = IsTable show.channels (contribution show rack.faders) rack.contributions
