-- What the proofs of this crate import from its specs and from other crates. It declares nothing.
pub use Rattle.std.proofs.Common.{[], ℕ, ◌&&◌, ◌*◌, ◌++◌, ◌+◌, ◌-◌, ◌/◌, ◌<◌, ◌==◌, ◌^◌, ◌||◌, ◌∙◌, ◌∷◌}
pub use Rattle.std.proofs.Common.{◌≡◌, ◌≢◌, ◌≤◌, ap, append-nil, append_assoc, arith, Bool, Bor, codes, cond, drop, Err, false, filter, find}
pub use Rattle.std.proofs.Common.{flat_map, fold, get_or, IfOk, IfSome, if◌then◌else◌, inl, inr, is_none, is_some, IsTrue, length, length-append}
pub use Rattle.std.proofs.Common.{length-take, List, map, max, mul_assoc, nat_le, nat_lt, None, not, Ok, Option, option_and_then, option_map, option_to_list}
pub use Rattle.std.proofs.Common.{refl, replicate, Result, reverse, slice_get, slice_set, Some, subst, suc, sym, take, take-append-drop, take-take, take_all}
pub use Rattle.std.proofs.Common.{true, unwrap_or, zero}
pub use Rattle.lx_base.specs.declared.TheConstants.{BACK_TIME, CUE_MAX, CUE_UNIT, CUES, DIMMERS, GROUPS, LABEL_BYTES, LINE_BYTES, PARTS, SUBS, TICK_END}
pub use Rattle.lx_base.specs.declared.TheConstants.{TICK_STEP, TICKS, TIME_MAX, UNIVERSES}
pub use Rattle.lx_spec.specs.CheckOutput.{check_output}
pub use Rattle.lx_spec.specs.Desk.{after_command, after_play, Desk, opened, replay, step}
pub use Rattle.lx_spec.specs.EditedShow.{all_at, blocked, channels_of, cue_only, edited, in_proportion, kept_above, moves_for, new_cue, new_part, the_channels}
pub use Rattle.lx_spec.specs.EditedShow.{the_cue, the_given_part, the_group, the_moves, unblocked, with_cue, with_levels, with_moves, without_cue}
pub use Rattle.lx_spec.specs.EditedShow.{without_moves}
pub use Rattle.lx_spec.specs.FirstRefusal.{◌>>=◌}
pub use Rattle.lx_spec.specs.Job.{output_of}
pub use Rattle.lx_spec.specs.Laws.{cue_alone, HasNoTimes, is_block_edit, IsInstant, KeepsRest, SameColumn}
pub use Rattle.lx_spec.specs.Level.{fade_over, faded, last_cue, level, rises_to, run_over}
pub use Rattle.lx_spec.specs.Limits.{desk_limits}
pub use Rattle.lx_spec.specs.Numerals.{decimal_text, decimal_value, decimals, has_point, is_colon, is_decimal, is_digit, is_minutes, is_number, is_point}
pub use Rattle.lx_spec.specs.Numerals.{level_text, number_of, ranged, read_cue_no, read_level, read_minutes, read_seconds, read_time, read_whole, time_text}
pub use Rattle.lx_spec.specs.Numerals.{whole_part}
pub use Rattle.lx_spec.specs.Playback.{appended, at_opening, at_rest, follow_of, followed, has_room, if_room, is_due, is_over, Playback, Played, position_of}
pub use Rattle.lx_spec.specs.Playback.{no_run, press, rested, run_of, run_whole, start_above, tick, ticked}
pub use Rattle.lx_spec.specs.Reading.{Reading, reads, reads_under}
pub use Rattle.lx_spec.specs.Run.{acts, delay_of, entry_extent, entry_for, extent, first_entry, Run, time_of}
pub use Rattle.lx_spec.specs.Script.{alone, cue_edit, cue_number, delete_line, fader_line, follow_line, frame_line, goto_line, group_line, label_line, line_of}
pub use Rattle.lx_spec.specs.Script.{master_line, meaning, part_edit, patch_line, release_line, sentences, set_channels, set_group, set_line, sheet_line}
pub use Rattle.lx_spec.specs.Script.{sub_line, tick_line, time, time_edit, time_line, unpatch_line}
pub use Rattle.lx_spec.specs.ScriptOutput.{script_output, script_session}
pub use Rattle.lx_spec.specs.SheetOutput.{sheet_output}
pub use Rattle.lx_spec.specs.Show.{Cue, InRange, IsTime, Show, Valid, ValidCue}
pub use Rattle.lx_spec.specs.SortedList.{entries_above, entries_below, entry_at, has_entry, IsStrictlySorted, placed, taken_out}
pub use Rattle.lx_spec.specs.Text.{after_all, is_blank, is_filled, is_word, label_of, tokens}
pub use Rattle.lx_spec.specs.TrackedLevel.{asserts, column, ColumnEntry, cue_above, cue_below, cue_of, decides, level_in, move_in, move_of, tracked}
pub use Rattle.lx_spec.specs.declared.Bad.TheVariants.{Range, Shape}
pub use Rattle.lx_spec.specs.declared.Command.{Command}
pub use Rattle.lx_spec.specs.declared.Edit.{Edit}
pub use Rattle.lx_spec.specs.declared.Edit.TheVariants.{Block, DeleteCue, MakeCue, Release, Set, SetGroup, SubMember, Unblock}
pub use Rattle.lx_spec.specs.declared.Form.TheVariants.{Moves, States}
pub use Rattle.lx_spec.specs.declared.Job.TheVariants.{Script}
pub use Rattle.lx_spec.specs.declared.Key.TheVariants.{Fader, Master, Play}
pub use Rattle.lx_spec.specs.declared.Move.{Move}
pub use Rattle.lx_spec.specs.declared.PartTimes.{PartTimes}
pub use Rattle.lx_spec.specs.declared.PlayKey.TheVariants.{Back, Go, Goto, Settle}
pub use Rattle.lx_spec.specs.declared.Refusal.{Refusal}
pub use Rattle.lx_spec.specs.declared.Refusal.TheVariants.{AbsentCue, AbsentSub, CueLimit, NoCueAfter, NoCueBefore, PlaybackFull, TickLimit}
pub use Rattle.lx_spec.specs.declared.ScriptKind.TheVariants.{Render, Two, Undo}
pub use Rattle.std.proofs.lemmas.Bool.{cases_Bool, cases_lt, cases_order, false≢true}
pub use Rattle.std.proofs.lemmas.Bool.Decides.{nat_tests}
pub use Rattle.std.proofs.lemmas.List.{drop_all, drop_more, get_or-reverse, length-reverse, map-append, reverse-append, take-append-le}
pub use Rattle.std.proofs.lemmas.List.Elements.{All-from_recursion, filter-append}
pub use Rattle.std.proofs.lemmas.List.Folds.{find-append}
pub use Rattle.std.specs.List.{after_first, AllByRecursion, before_first, list_all, list_any, position_or_len, range_with_len, refill}
pub use Rattle.std.specs.Option.{option_copied, option_map_or, option_or}
pub use Rattle.std.specs.Result.{result_unwrap_or}
pub use mathlib.Core.List.{reverse-cons}
