-- A show in finer cue numbers, and the limits of texts that came to have them.
use Rattle.std.specs.Prelude.{◌≡◌, ℕ, ◌*◌, ◌^◌, ◌≤◌, map, option_map}
use Rattle.lx_spec.specs.Limits.{Limits}
use Rattle.lx_spec.specs.Show.{Cue}
use Rattle.lx_spec.specs.Reading.{Reading}

-- the limits now are those before with one decimal more to a cue number, and none of them is lower
pub record HasOneDecimalMore (now before : Limits) : Type 0 where
  pub decimals : ℕ
  pub unit_before : before.cue_unit ≡ 10 ^ decimals
  pub unit : now.cue_unit ≡ 10 * before.cue_unit
  pub cue_most : 10 * before.cue_most ≤ now.cue_most
  pub cues : before.cues ≤ now.cues
  pub channels : before.channels ≤ now.channels
  pub dimmers : before.dimmers ≤ now.dimmers

-- the limits of the texts from when a cue number had two decimals
abbrev pub hundredths : Limits
hundredths = record { cue_unit = 100; cue_most = 999999; cues = 2000; channels = 2048; dimmers = 8192 }

-- the same cue, its number and its link in steps a tenth as great
abbrev pub finer_cue : Cue → Cue
finer_cue cue = record cue { number = 10 * cue.number; link = option_map (λ n. 10 * n) cue.link }

-- the same show and the same skipped lines
abbrev pub finer : Reading → Reading
finer reading = record reading { show = record reading.show { cues = map finer_cue reading.show.cues } }
