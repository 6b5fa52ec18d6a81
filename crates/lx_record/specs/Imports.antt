-- What the contracts import, of this crate and of others. Nothing is defined here.
pub use Rattle.lx_io.specs.Causes.{HasCause, HasCauseOf}
pub use Rattle.lx_spec.specs.Show.{ValidCue}
pub use Rattle.lx_spec.specs.TrackedLevel.{tracked, decides, cue_above}
pub use Rattle.lx_spec.specs.EditedShow.{with_moves, moves_for, with_cue, with_levels}
pub use Rattle.lx_console.specs.ConsoleMeaning.{level_now, StandsFor}
pub use Rattle.lx_spec.specs.RecordedLevels.{recorded, with_recorded, untracked}
pub use Rattle.lx_spec.specs.Desk.{Desk}
pub use Rattle.lx_edit.specs.PlanMeaning.{CanPlace, IsReady, with_above}
pub use Rattle.lx_record.specs.Cues.{comes_out_changed, kept_cue, cue_or_new}
pub use Rattle.lx_record.specs.Records.{Records, PlansRecord, IsRefused}
