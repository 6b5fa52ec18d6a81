-- What the contracts import, of this crate and of others. Nothing is defined here.
pub use Rattle.std.specs.Option.{option_copied, option_map_or, IsSomeAnd}
pub use Rattle.std.specs.List.{AllByRecursion}
pub use Rattle.lx_spec.specs.Show.{ValidGroup, Valid, IsTime, ValidCue, InRange, IsLevel, ValidMembers, ValidSub}
pub use Rattle.lx_spec.specs.SortedList.{entry_at, has_entry, IsStrictlySorted}
pub use Rattle.lx_spec.specs.TrackedLevel.{move_in, cue_of, tracked, cue_above, decides, asserts}
pub use Rattle.lx_spec.specs.EditedShow.{the_cue, the_part, the_given_part, the_channels, the_group, the_moves, channels_in, with_cue}
pub use Rattle.lx_spec.specs.EditedShow.{without_cue, moves_for, with_time, cue_only, with_moves, part_for, without_moves, with_members}
pub use Rattle.lx_spec.specs.EditedShow.{set_or_new, all_at, in_proportion, with_levels, missing_moves}
pub use Rattle.lx_sheet.specs.SheetMeaning.{RowsStandFor}
pub use Rattle.lx_io.specs.Causes.{HasCause, HasCauseOf}
pub use Rattle.lx_sheet.specs.Rows.{level_of}
pub use Rattle.lx_spec.specs.ValidEdit.{ValidEdit}
pub use Rattle.lx_spec.specs.WantedMemory.{takes_memory}
pub use Rattle.lx_edit.specs.Found.{FoundCue, GivenPart, IsAbsence, IsWithin, Fits}
pub use Rattle.lx_edit.specs.CueChanges.{CanMend, Grows, KeepsLevels, KeepsOthers, Replaced, AreAmong, move_by, moves_of_cue, is_block}
pub use Rattle.lx_edit.specs.CueChanges.{SameEntry}
pub use Rattle.lx_edit.specs.PlanMeaning.{changed_show, planned, with_above, CanExchange, CanPlace, KeepsAbove, IsReady, dimmer_planned}
pub use Rattle.lx_edit.specs.PlanMeaning.{plans_sub, Plans, PlansCues, IsAbove, SameOutside, covers}
pub use Rattle.lx_edit.specs.Undone.{TakesBack, cue_instead}
pub use Rattle.lx_edit.specs.ChanSet.{has_chan}
pub use Rattle.lx_edit.specs.Kept.{DecidesOutside, decided, decided_by, base_moves}
