-- What the contracts import, of this crate and of others. Nothing is defined here.
pub use Rattle.std.specs.Option.{IsSomeAnd, option_copied}
pub use Rattle.std.specs.List.{AllByRecursion}
pub use Rattle.lx_spec.specs.SortedList.{IsStrictlySorted, entries_below, entries_above, has_entry, placed, entry_at, taken_out, all_placed}
pub use Rattle.lx_spec.specs.Show.{Valid, ValidMove, ValidCue, InRange, IsLabel, IsLevel, ValidGroup, ValidSub, ValidPatchRow}
pub use Rattle.lx_spec.specs.TrackedLevel.{cue_of, move_in, decides, move_of, tracked, deciding_cue, cue_above, cue_below, next_cue}
pub use Rattle.lx_spec.specs.TrackedLevel.{cue_before}
pub use Rattle.lx_io.specs.Causes.{HasCause}
pub use Rattle.lx_show.specs.Around.{entries_up_to}
pub use Rattle.lx_show.specs.ChangedEntry.{changed, exchanged_at}
pub use Rattle.lx_show.specs.Indexes.{GoesAt}
