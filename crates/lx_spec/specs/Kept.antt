-- What the console keeps of the desk: everything but the list of all runs.
use Rattle.std.specs.Prelude.{ℕ, List}
use Rattle.lx_spec.specs.Show.{Show}
use Rattle.lx_spec.specs.Playback.{Playback}
use Rattle.lx_spec.specs.Desk.{Desk}

pub record Kept : Type 0 where
  pub show : Show
  pub playback : Playback
  pub faders : List ℕ
  pub master : ℕ

abbrev pub kept : Desk → Kept
kept d = record { show = d.show; playback = d.playback; faders = d.faders; master = d.master }
