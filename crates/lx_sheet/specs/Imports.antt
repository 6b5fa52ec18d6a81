-- What the contracts import, of this crate and of others. Nothing is defined here.
pub use Rattle.std.specs.Option.{option_map_or}
pub use Rattle.std.specs.List.{AllByRecursion, All, range_with_len}
pub use Rattle.std.specs.Int.{bit_at}
pub use Rattle.lx_spec.specs.TrackedLevel.{decides, cue_of, tracked}
pub use Rattle.lx_spec.specs.SortedList.{IsStrictlySorted, entry_at, has_entry}
pub use Rattle.lx_spec.specs.EditedShow.{with_cue, without_cue}
pub use Rattle.lx_spec.specs.Show.{InRange, ValidCue}
pub use Rattle.lx_io.specs.Causes.{HasCause}
pub use Rattle.lx_show.specs.Indexes.{StandsAt, GoesAt}
pub use Rattle.lx_sheet.specs.Block.{AreApart, HasPlaces, IsBlock, own_rows, row_at_place, cell, cue_level, last_value, level_in_look}
pub use Rattle.lx_sheet.specs.Block.{width, count_under, IsOrder, placed_from}
pub use Rattle.lx_sheet.specs.Marks.{Tells, IsGrown, IsMarkTable, IsMarkedFor, IsReached}
pub use Rattle.lx_sheet.specs.After.{level_after, IsEnd, IsRight, RowsFollow, FillsRows, IsPassed, IsLeft, tracked_on}
pub use Rattle.lx_sheet.specs.Rows.{numbers_of, level_of, is_marked}
pub use Rattle.lx_sheet.specs.SheetMeaning.{IsMarked, IsMarkedAt, RowsStandFor, StandsFrom, StandsIn, cue_numbers, next_decision}
pub use Rattle.lx_sheet.specs.WordPlaces.{IsBitOf, MovesWithin, bit_of, group_of, word_place, row_bit, words_over}
