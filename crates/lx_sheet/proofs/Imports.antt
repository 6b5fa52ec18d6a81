-- What the proofs of this crate import from its specs and from other crates. It declares nothing.
pub use Rattle.std.proofs.Common.{[], ℕ, ◌%◌, ◌&&◌, ◌*◌, ◌++◌, ◌+◌, ◌-◌, ◌/◌, ◌<◌, ◌==◌, ◌∙◌, ◌∷◌, ◌≡◌, ◌≢◌, ◌≤◌, add-one, ap, append_assoc, arith}
pub use Rattle.std.proofs.Common.{below_more, below_none, bit_or, Bool, cond, drop, drop_at, false, filter, find, get_or, get_or-drop}
pub use Rattle.std.proofs.Common.{get_or-set_other, get_or-set_same, get_or-take, IfSome, inl, inr, insert, is_some, length, length-append}
pub use Rattle.std.proofs.Common.{length-drop, length-take, length-take-le, List, map, max, min, nat_le, nat_lt, None, not, Option, option_map, refl}
pub use Rattle.std.proofs.Common.{remove, replicate, reverse, rules, set, slice_get, slice_index, slice_index_or, Some, subst, suc, sym, take}
pub use Rattle.std.proofs.Common.{take-take, take_all, take_at, true, vec_capacity, vec_len, w64, zero}
pub use Rattle.lx_base.specs.Rows.{Agree}
pub use Rattle.lx_base.specs.declared.TheConstants.{CHANNELS, CUES}
pub use Rattle.lx_sheet.specs.After.{FillsRows, IsEnd, IsLeft, IsPassed, IsRight, level_after, RowsFollow, tracked_on}
pub use Rattle.lx_sheet.specs.Block.{AreApart, AreMarked, cell, count_under, cue_level, HasPlaces, HoldsMarks, HoldsRows, IsBlock, IsOrder, IsPool}
pub use Rattle.lx_sheet.specs.Block.{last_value, level_in_look, marks_of, own_rows, placed_from, row_at_place, rows_of, width}
pub use Rattle.lx_sheet.specs.Marks.{has_mark, IsGrown, IsMarkedFor, IsMarkTable, IsReached, Tells}
pub use Rattle.lx_sheet.specs.Rows.{CueMarks, level_by, level_in_row, level_of, numbers_of, Row, row_at, Sheet}
pub use Rattle.lx_sheet.specs.SheetMeaning.{cue_numbers, IsMarked, IsMarkedAt, next_decision, RowsStandFor, StandsFrom}
pub use Rattle.lx_sheet.specs.WordPlaces.{bit_of, chan_at, group_of, IsBitOf, MovesWithin, row_bit, word_place}
pub use Rattle.lx_sheet.specs.declared.marks.Marks.{Marks}
pub use Rattle.lx_sheet.specs.declared.sheet.Place.{Place}
pub use Rattle.lx_show.proofs.Indexes.{sorted_added, stands_where, up_to_absent, up_to_there, without}
pub use Rattle.lx_show.specs.Around.{entries_up_to}
pub use Rattle.lx_show.specs.Indexes.{GoesAt, StandsAt}
pub use Rattle.lx_spec.proofs.Comparisons.{eq_above, eq_below, eq_other, eq_true, le_false, le_true, lt_false, lt_true}
pub use Rattle.lx_spec.proofs.Lists.{all_reverse, each, filter_none, find_both_last, find_last, find_mapped, find_none, found_has, map_or_mapped}
pub use Rattle.lx_spec.proofs.Lists.{none_differs, shorter}
pub use Rattle.lx_spec.proofs.SortedLists.{below_and_above, found_number, IsStrictlySorted-drop, IsStrictlySorted-filter, split_there}
pub use Rattle.lx_spec.specs.EditedShow.{new_cue, with_cue, without_cue}
pub use Rattle.lx_spec.specs.Replies.{row_of}
pub use Rattle.lx_spec.specs.Show.{Cue, InRange, Show, Valid, ValidCue}
pub use Rattle.lx_spec.specs.SortedList.{entries_above, entries_below, entry_at, has_entry, IsStrictlySorted, taken_out}
pub use Rattle.lx_spec.specs.TrackedLevel.{cue_of, decides, level_in, move_in, tracked}
pub use Rattle.lx_spec.specs.declared.Move.{Move}
pub use Rattle.std.proofs.Math.Nat.{mul-le-mul_right}
pub use Rattle.std.proofs.lemmas.Bool.{cases_eq, cases_lt, cases_order, false≢true}
pub use Rattle.std.proofs.lemmas.List.{drop-map, drop-take, drop_more, get_or-append_right, get_or-map, get_or-replicate, get_or_append_left}
pub use Rattle.std.proofs.lemmas.List.{get_or_default, get_or_past, get_or_read, length-map, length-replicate, map-append, reverse-append, same_lists}
pub use Rattle.std.proofs.lemmas.List.{take-map, take_more, with_items_is}
pub use Rattle.std.proofs.lemmas.List.Elements.{All-from_recursion, All-map}
pub use Rattle.std.proofs.lemmas.List.FromFn.{get_or-map-range_with_len, get_or-range_with_len, length-map-range_with_len, length-range_with_len}
pub use Rattle.std.proofs.lemmas.List.Sorted.{All-permutation, IsPermutation-append_left, IsPermutation-append_right, IsPermutation-insert}
pub use Rattle.std.proofs.lemmas.List.Sorted.{IsPermutation-remove, IsPermutation-reverse, IsPermutation-sym, IsPermutation-to_front}
pub use Rattle.std.proofs.lemmas.List.Sorted.{IsPermutation-trans, length_permutation}
pub use Rattle.std.proofs.lemmas.Nat.Bits.{bit_at-lt, bit_at_ones, bit_at_or, bit_at_set_same, shr_and_one}
pub use Rattle.std.proofs.lemmas.Option.{get_or_from_slice_get, IfSome_then, slice_get-get_or, slice_get_within}
pub use Rattle.std.specs.Int.{bit_at}
pub use Rattle.std.specs.List.{All, AllByRecursion, length_refill, range_with_len}
pub use Rattle.std.specs.Option.{option_map_or}
