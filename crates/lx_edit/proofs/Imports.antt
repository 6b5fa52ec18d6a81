-- What the proofs of this crate import from its specs and from other crates. It declares nothing.
pub use Rattle.std.proofs.Common.{[], ℕ, ◌%◌, ◌&&◌, ◌*◌, ◌++◌, ◌+◌, ◌-◌, ◌/◌, ◌<◌, ◌==◌, ◌^◌, ◌||◌, ◌∙◌, append-nil, option_to_list, ◌⊎◌}
pub use Rattle.std.proofs.Common.{◌∷◌, ◌≡◌, ◌≢◌, ◌≤◌, ap, arith, bit_or, Bool, cond, drop, Err, false, filter, find}
pub use Rattle.std.proofs.Common.{fold, get_or, get_or-set_other, get_or-set_same, IfOk, IfSome, if◌then◌else◌, inl, inr, is_none, is_some, IsTrue}
pub use Rattle.std.proofs.Common.{length, length-append, List, map, nat_le, nat_lt, None, not, Ok, Option, option_map, refl, replicate, Result, reverse, rules}
pub use Rattle.std.proofs.Common.{set, slice_get, slice_index, Some, subst, suc, sym, take, take-append-drop, take_all, true, unwrap_or, vec_capacity, w64, zero}
pub use Rattle.lx_base.specs.Numbers.{Span}
pub use Rattle.lx_base.specs.declared.TheConstants.{CHANNELS, CUES, PARTS}
pub use Rattle.lx_edit.specs.ChanSet.{has_chan, is_chan}
pub use Rattle.lx_edit.specs.CueChanges.{AreAmong, CanMend, Grows, is_block, IsPast, KeepsLevels, level_from, move_by, moves_of_cue, Replaced, SameEntry}
pub use Rattle.lx_edit.specs.CueChanges.{SameLevels}
pub use Rattle.lx_edit.specs.Found.{Fits, FoundCue, GivenPart, IsWithin}
pub use Rattle.lx_edit.specs.Kept.{DecidesOutside, base_moves, decided, decided_by}
pub use Rattle.lx_edit.specs.PlanMeaning.{CanExchange, CanMove, CanPlace, CanReplace, changed_show, covers, dimmer_edited, edits_sub, IsAbove, IsPlan}
pub use Rattle.lx_edit.specs.PlanMeaning.{IsReady, KeepsAbove, SameOutside, with_above, with_move, with_move_in, with_moves_in}
pub use Rattle.lx_edit.specs.Undone.{cue_instead, TakesBack}
pub use Rattle.lx_edit.specs.declared.chan_set.ChanSet.{ChanSet}
pub use Rattle.lx_edit.specs.declared.chan_set.TheConstants.{WORDS}
pub use Rattle.lx_sheet.specs.Rows.{is_marked, level_of, numbers_of, Sheet}
pub use Rattle.lx_sheet.specs.SheetMeaning.{cue_numbers, IsMarked, IsMarkedAt, StandsIn, RowsStandFor}
pub use Rattle.lx_show.proofs.ChangedCues.{with_member, with_other_moves, with_placed_part}
pub use Rattle.lx_show.proofs.Indexes.{stands_entry, stands_where}
pub use Rattle.lx_show.proofs.SameLists.{first_here, first_other, same_lists, some_same}
pub use Rattle.lx_show.proofs.Stretches.{All-all_placed, IsStrictlySorted-all_placed, rest_of_slice}
pub use Rattle.lx_show.specs.Around.{entries_up_to}
pub use Rattle.lx_show.specs.ChangedEntry.{exchanged_at}
pub use Rattle.lx_spec.proofs.Comparisons.{and_known, eq_from, eq_other, eq_true, le_false, le_true, lt_from, lt_true, lt_false}
pub use Rattle.lx_spec.proofs.Lists.{all_append, all_reverse, each, filter_all, filter_none, find_both_last, find_first, find_has, find_in_filter, find_none}
pub use Rattle.lx_spec.proofs.Lists.{find_passes, found_has, kept_by, none_differs, passes}
pub use Rattle.lx_spec.proofs.SortedLists.{all_above, all_below, below_and_above, entry_at-placed_here, entry_at-placed_other, found_number}
pub use Rattle.lx_spec.proofs.SortedLists.{found_valid, has_placed, IsStrictlySorted-drop, IsStrictlySorted-filter, IsStrictlySorted-map}
pub use Rattle.lx_spec.proofs.SortedLists.{IsStrictlySorted-placed, length-placed_there, one_between, placed_same, split_there}
pub use Rattle.lx_spec.specs.EditedShow.{all_at, channels_in, channels_of, cue_only, edited, in_proportion, kept_above, moves_for, new_part, out_of_part}
pub use Rattle.lx_spec.specs.EditedShow.{part_for, with_cue, with_levels, with_members, with_moves, with_part, with_time, without_moves}
pub use Rattle.lx_spec.specs.EditedShow.{without_part}
pub use Rattle.lx_spec.specs.Show.{Cue, Group, InRange, IsLevel, IsTime, Show, Sub, Valid, ValidCue, ValidGroup, ValidMember, ValidMembers, ValidMove}
pub use Rattle.lx_spec.specs.Show.{MemberSet, ValidPart, ValidPatchRow, ValidSub}
pub use Rattle.lx_spec.specs.SortedList.{all_placed, entries_above, entries_below, entry_at, has_entry, IsStrictlySorted, placed, taken_out}
pub use Rattle.lx_spec.specs.TrackedLevel.{asserts, cue_above, cue_of, decides, level_in, move_in, move_of, tracked}
pub use Rattle.lx_spec.specs.declared.Edit.TheVariants.{AddPart, DeletePart, Set, Time}
pub use Rattle.lx_spec.specs.declared.Member.{Member}
pub use Rattle.lx_spec.specs.declared.Move.{Move}
pub use Rattle.lx_spec.specs.declared.Part.{Part}
pub use Rattle.std.proofs.lemmas.Bool.{cases_eq, cases_lt, false≢true, or_left, cases_Bool, not-true}
pub use Rattle.std.proofs.lemmas.Bool.Decides.{nat_tests}
pub use Rattle.std.proofs.lemmas.List.{get_or-replicate, get_or_default, map_more, nil_from_length, take_more, map-append}
pub use Rattle.std.proofs.lemmas.List.Elements.{filter-append, filter_agree}
pub use Rattle.std.proofs.lemmas.List.Folds.{find-append}
pub use Rattle.std.proofs.lemmas.List.FromFn.{map-range_with_len_more}
pub use Rattle.std.proofs.lemmas.List.Sums.{fold-append}
pub use Rattle.std.proofs.lemmas.Nat.{shr-shr, shr_le}
pub use Rattle.std.proofs.lemmas.Nat.Bits.{bit_at-trailing_zeros, bit_at-zero, bit_at_above, bit_at_ones, bit_at_set_other, bit_at_set_same}
pub use Rattle.std.specs.Int.{bit_at, trailing_zeros}
pub use Rattle.std.specs.List.{AllByRecursion, range_with_len}
pub use Rattle.std.specs.Option.{IsSomeAnd, option_copied, option_map_or, option_or}
