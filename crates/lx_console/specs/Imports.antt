-- What the contracts import, of this crate and of others. Nothing is defined here.
pub use Rattle.std.specs.Option.{IsSomeAnd}
pub use Rattle.std.specs.List.{All}
pub use Rattle.lx_io.specs.Causes.{HasCause}
pub use Rattle.lx_spec.specs.Playback.{press, tick}
pub use Rattle.lx_spec.specs.TrackedLevel.{decides}
pub use Rattle.lx_edit.specs.PlanMeaning.{IsReady, planned}
pub use Rattle.lx_patch.specs.DimmerTable.{StandsForPatch}
pub use Rattle.lx_spec.specs.Show.{Valid, InRange}
pub use Rattle.lx_sheet.specs.SheetMeaning.{RowsStandFor}
pub use Rattle.lx_edit.specs.ChanSet.{has_chan}
pub use Rattle.lx_levels.specs.Stacks.{level_at}
pub use Rattle.lx_levels.specs.LevelsMeaning.{LevelsStandFor, StackStandsAt, StandsBefore}
pub use Rattle.lx_console.specs.Changes.{is_nothing, of_levels}
pub use Rattle.lx_console.specs.KeptOutput.{IsChangeOf, Reaches, SlotsStand, IsMixedOutput, ShowsPlayer, ShowedPlayer, IsPatchedBut}
pub use Rattle.lx_console.specs.RunChanges.{IsTicked}
pub use Rattle.lx_console.specs.UnseenEdits.{IsUnseen, IsFrom, PlacesCue, decided_at}
