-- What the proofs of this crate import from its specs and from other crates. It declares nothing.
pub use Rattle.std.proofs.Common.{[], ℕ, ◌%◌, ◌&&◌, ◌*◌, ◌++◌, ◌+◌, ◌-◌, ◌/◌, ◌<◌, ◌==◌, ◌^◌, ◌||◌, ◌∙◌, ◌∷◌, ◌≡◌, ◌≤◌, ◌⊎◌, ap, append-nil}
pub use Rattle.std.proofs.Common.{append_assoc, arith, Bool, codes, cond, count_by, decimal, drop, eqb-true, Err, false, filter, filter_map, find}
pub use Rattle.std.proofs.Common.{flat_map, fold, IfErr, IfOk, IfSome, if◌then◌else◌, inl, inr, is_some, length, length-append, length-take, List}
pub use Rattle.std.proofs.Common.{map, max, nat_le, nat_lt, None, not, Ok, Option, option_and_then, option_map, position, refl, Result, reverse, Some}
pub use Rattle.std.proofs.Common.{subst, suc, sym, take, true, unwrap_or, zero}
pub use Rattle.lx_base.specs.declared.TheConstants.{CHANNELS, CUE_MAX, CUE_UNIT, CUES, DEFAULT_CHANNELS, DEFAULT_TIME, DIMMERS, GROUPS, INPUT_BYTES}
pub use Rattle.lx_base.specs.declared.TheConstants.{LABEL_BYTES, LINE_BYTES, PARTS, SUBS, TIME_MAX}
pub use Rattle.lx_io.specs.Memory.{PlainBytes}
pub use Rattle.lx_spec.proofs.Comparisons.{eq_above, eq_other, eq_true, lt_false, lt_true}
pub use Rattle.lx_spec.proofs.Lists.{all_append, each, filter_all, find_none, kept_by, map_reversed, passes}
pub use Rattle.lx_spec.specs.CutInput.{first_lines}
pub use Rattle.lx_spec.specs.Entry.{Asserts, Begins, Blocks, blocks, channels_set, clears_all, ClearsAll, cue_in, down_in, Entry, follow_in, Follows}
pub use Rattle.lx_spec.specs.Entry.{group_in, HasChannels, HasDown, HasLevels, HasUp, Identifies, is_assert, is_end, is_skipped, IsLabelled, label_in}
pub use Rattle.lx_spec.specs.Entry.{levels_in, link_in, Links, NamesPart, part_named, Patches, PlacedEntry, rows_in, section_begun, Skipped, sub_in}
pub use Rattle.lx_spec.specs.Entry.{up_in}
pub use Rattle.lx_spec.specs.Facts.{Facts, facts_after, first_facts, with_cue_named}
pub use Rattle.lx_spec.specs.Fields.{channels_entry, delay_at, levels, number, numbered, pairs, patch_entry, record_entry, times, triples}
pub use Rattle.lx_spec.specs.Fields.{is_page_one}
pub use Rattle.lx_spec.specs.Finer.{finer, finer_cue, HasOneDecimalMore, hundredths}
pub use Rattle.lx_spec.specs.FirstRefusal.{◌>>=◌}
pub use Rattle.lx_spec.specs.Limits.{desk_limits, Limits}
pub use Rattle.lx_spec.specs.LineRules.{cue_entry, entry_by_tokens, entry_by_word, entry_of, if_few, inner_entry, is_makers_line, is_next}
pub use Rattle.lx_spec.specs.LineRules.{is_passed_over, members_entry, outer_entry, stray_entry, is_makers_record, is_too_long, is_unidentified}
pub use Rattle.lx_spec.specs.LineRules.{is_unknown}
pub use Rattle.lx_spec.specs.Looks.{by_form, from_looks, look_moves}
pub use Rattle.lx_spec.specs.Numerals.{decimal_text, decimal_value, decimals, decimals_of, has_point, is_colon, is_decimal, is_digit, is_number}
pub use Rattle.lx_spec.specs.Numerals.{is_point, level_text, number_of, ranged, read_cue_no, read_level, read_minutes, read_seconds, read_time}
pub use Rattle.lx_spec.specs.Numerals.{read_whole, time_text, whole_part}
pub use Rattle.lx_spec.specs.Reading.{channels_named, count_read, cue_from, each_record, entries, group_from, label_from, last_in, last_of_each}
pub use Rattle.lx_spec.specs.Reading.{lines_read, moves_in, numbers_begun, part_from, parts_from, Reading, reading_from, reads, reads_under}
pub use Rattle.lx_spec.specs.Reading.{show_from, stands_in, reads_lines}
pub use Rattle.lx_spec.specs.Show.{Cue, InRange, IsLabel, IsLevel, IsTime, MemberSet, Show, Valid, ValidCue, ValidGroup, ValidMember, ValidMove}
pub use Rattle.lx_spec.specs.Show.{ValidPart, ValidPatchRow, ValidSet, ValidSub}
pub use Rattle.lx_spec.specs.ShowText.{assert_text, at_text, block_text, cue_number_text, cue_text, follow_text, group_text, label_text, line}
pub use Rattle.lx_spec.specs.ShowText.{link_text, member_text, move_text, part_text, patch_text, show_text, spaced, sub_text}
pub use Rattle.lx_spec.specs.SortedList.{entry_at, IsStrictlySorted, placed, all_placed, has_entry}
pub use Rattle.lx_spec.specs.Text.{after_all, begins_comment, cut_lines, is_blank, is_filled, is_separator, label_of, lines_of, rest_after, tokens}
pub use Rattle.lx_spec.specs.Text.{without_cr, is_word}
pub use Rattle.lx_spec.specs.TrackedLevel.{cue_of, level_in, move_in, tracked}
pub use Rattle.lx_spec.specs.declared.Bad.{Bad}
pub use Rattle.lx_spec.specs.declared.Bad.TheVariants.{Range, Shape}
pub use Rattle.lx_spec.specs.declared.Form.{Form}
pub use Rattle.lx_spec.specs.declared.Form.TheVariants.{Moves, States}
pub use Rattle.lx_spec.specs.declared.Member.{Member}
pub use Rattle.lx_spec.specs.declared.Move.{Move}
pub use Rattle.lx_spec.specs.declared.Part.{Part}
pub use Rattle.lx_spec.specs.declared.PatchRow.{PatchRow}
pub use Rattle.lx_spec.specs.declared.Section.{Section}
pub use Rattle.lx_spec.specs.declared.Section.TheVariants.{InCue, InGroup, InSub, NoRecord, Skipping}
pub use Rattle.lx_spec.specs.declared.TextFault.{TextFault}
pub use Rattle.lx_spec.specs.declared.TextFault.TheVariants.{OutOfRange}
pub use Rattle.lx_text_laws.specs.OldTexts.{ReadsFiner}
pub use Rattle.std.proofs.lemmas.Bool.{and_parts, cases_Bool, cases_eq, not-true, or_right}
pub use Rattle.std.proofs.lemmas.Bool.Decides.{nat_tests}
pub use Rattle.std.proofs.lemmas.Fmt.{decimal_is_IsNumeral, length-decimal-le}
pub use Rattle.std.proofs.lemmas.Grind.{common_steps}
pub use Rattle.std.proofs.lemmas.List.{drop-map, length-map, map-append}
pub use Rattle.std.proofs.lemmas.List.Sums.{fold-append}
pub use Rattle.std.specs.List.{after_first, after_last, AllByRecursion, before_first, cons_option, last_or, list_all, list_any, onto_first}
pub use Rattle.std.specs.List.{prefix_len}
pub use Rattle.std.specs.Option.{option_map_or}
pub use Rattle.std.proofs.lemmas.List.Folds.{flat_map-map}
pub use Rattle.lx_reader.proofs.ReadLines.{ReadSoFar, are_read, read_ended, read_more, read_none}
pub use Rattle.lx_reader.specs.ReadingState.{ReadingState, cue_with, facts_in, first_state, new_set, set_with, state_after, with_down, with_set}
pub use Rattle.lx_reader.specs.ReadingState.{with_up}
pub use Rattle.lx_spec.specs.EditedShow.{new_cue, new_part}
