-- What the contracts import, of this crate and of others. Nothing is defined here.
pub use Rattle.std.specs.Option.{option_copied, option_map_or}
pub use Rattle.std.specs.List.{All}
pub use Rattle.lx_spec.specs.TrackedLevel.{tracked, asserts, cue_of, move_of}
pub use Rattle.lx_spec.specs.Run.{entry_for, acts, first_entry}
pub use Rattle.lx_spec.specs.Level.{last_cue, level}
pub use Rattle.lx_sheet.specs.SheetMeaning.{RowsStandFor}
pub use Rattle.lx_playback.specs.Valid.{ValidRun, ValidTimes, OldestFirst}
pub use Rattle.lx_fade.specs.Fades.{fade_at}
pub use Rattle.lx_spec.specs.Show.{IsTime}
pub use Rattle.lx_spec.specs.SortedList.{entry_at}
pub use Rattle.lx_levels.specs.Stacks.{stack_level, no_stack}
pub use Rattle.lx_levels.specs.Acts.{IsValid, act_over, IsKnown, IsOver}
pub use Rattle.lx_levels.specs.CurrentFades.{Governs, StaysUntil, LevelsReach, IsHeld, IsTold, IsRightAt, IsRightBut, IsWritten, place_of}
pub use Rattle.lx_levels.specs.RunsInTurn.{EachAct, IsGround}
