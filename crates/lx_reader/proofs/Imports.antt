-- What the proofs of this crate import from its specs and from other crates. It declares nothing.
pub use Rattle.std.proofs.Common.{[], ℕ, ◌%◌, ◌&&◌, ◌*◌, ◌++◌, ◌+◌, ◌-◌, ◌<◌, ◌==◌, ◌||◌, ◌∙◌, ◌∷◌, ◌≡◌, ◌≤◌, add-one, ap, append-nil, append_assoc}
pub use Rattle.std.proofs.Common.{arith, Bool, codes, cond, count_by, drop, drop-drop, eqb-true, Err, false, filter, filter_map, find, flat_map, fold}
pub use Rattle.std.proofs.Common.{get_or, IfErr, IfOk, IfSome, inl, inr, is_ok, is_some, IsTrue, length, length-append, List, map, max, nat_lt, None}
pub use Rattle.std.proofs.Common.{not, Ok, OnOk, Option, option_and_then, option_map, position, refl, replicate, Result, slice_get, slice_set, Some}
pub use Rattle.std.proofs.Common.{subst, suc, sym, take, take_all, true, unwrap_or, zero}
pub use Rattle.lx_base.specs.declared.TheConstants.{CHANNELS, CUES, DEFAULT_CHANNELS, DEFAULT_TIME, GROUPS, INPUT_BYTES, LINE_BYTES, PARTS, SUBS}
pub use Rattle.lx_lex.proofs.CuttingOff.{cut_off, not_read, too_long}
pub use Rattle.lx_lex.proofs.HandingOut.{handed_none, handed_one, handed_then}
pub use Rattle.lx_lex.specs.CutOff.{NotTaken}
pub use Rattle.lx_lex.specs.Left.{left}
pub use Rattle.lx_lex.specs.Lines.{LinesBetween}
pub use Rattle.lx_lex.specs.LinesHandedOut.{HandedOut}
pub use Rattle.lx_lex.specs.Unread.{current_line, unread}
pub use Rattle.lx_lex.specs.declared.lines.Lines.{Lines}
pub use Rattle.lx_reader.specs.Answer.{AnswerOf, IsLoaded, TurnOf}
pub use Rattle.lx_reader.specs.FieldLists.{all_pairs, all_triples, FirstIsMember, FirstIsRow, FirstIsWord, next_times, onto, record_number}
pub use Rattle.lx_reader.specs.HandedLines.{IsCutShort, IsPastLimit, MeansFault, MeansShow}
pub use Rattle.lx_reader.specs.LineOfCue.{ChangesCue, CueSays, facts_at, HasParts, HasRanges, is_own, LabelSays}
pub use Rattle.lx_reader.specs.LineOutcome.{CanGoOn, facts_of, IsStep, new_reader, Outcome, Said, state_of}
pub use Rattle.lx_reader.specs.LookMoves.{last_look, look_changes, look_move, moves_up_to, with_look}
pub use Rattle.lx_reader.specs.OpenMoves.{AreNumbered, members_of, moves_there, ReadsLevels}
pub use Rattle.lx_reader.specs.OpenRecord.{HasPartIn, IsOpen}
pub use Rattle.lx_reader.specs.ReadingState.{change_by, changed_in, cue_with, facts_in, final_reading, first_state, later, moves_of, new_set}
pub use Rattle.lx_reader.specs.ReadingState.{number_begun, part_with_entry, parts_with, placed_in, ReadingState, set_with, show_with, speaks}
pub use Rattle.lx_reader.specs.ReadingState.{state_after, with_down, with_entry, with_named, with_rows, with_up}
pub use Rattle.lx_reader.specs.Settled.{CueFits, filled_cue, filled_set, is_open, is_record, IsBetween, IsReady, OpenFits, PassFits, SetFits, settled}
pub use Rattle.lx_reader.specs.Settled.{with_open}
pub use Rattle.lx_reader.specs.declared.fault.ShowFault.{ShowFault}
pub use Rattle.lx_reader.specs.declared.open_record.Open.{Open}
pub use Rattle.lx_reader.specs.declared.reader.Reader.{Reader}
pub use Rattle.lx_show.proofs.ChangedCues.{with_other_moves, with_settings}
pub use Rattle.lx_show.proofs.Stretches.{All-all_placed, IsStrictlySorted-all_placed}
pub use Rattle.lx_show.proofs.ValidShows.{wider, wider_cue, wider_members, wider_move}
pub use Rattle.lx_show.specs.ChangedEntry.{changed}
pub use Rattle.lx_spec.proofs.Comparisons.{above_is_other, below_is_other, eq_above, eq_from, eq_true, lt_false, lt_true}
pub use Rattle.lx_spec.proofs.Lists.{all_append, each, find_has, kept_by}
pub use Rattle.lx_spec.proofs.SortedLists.{above_seam, all_at_seam, below_seam, entry_at-placed_here, entry_at-placed_other, entry_number}
pub use Rattle.lx_spec.proofs.SortedLists.{found_valid, goes_between, has_placed, IsStrictlySorted-placed, placed_again, placed_same, seam}
pub use Rattle.lx_spec.proofs.SortedLists.{stands_between}
pub use Rattle.lx_spec.specs.EditedShow.{new_cue, new_part}
pub use Rattle.lx_spec.specs.Entry.{Asserts, Begins, Blocks, blocks, channels_set, clears_all, ClearsAll, cue_in, down_in, Ends, Entry, follow_in}
pub use Rattle.lx_spec.specs.Entry.{Follows, group_in, HasChannels, HasDown, HasLevels, HasUp, Identifies, is_assert, is_end, is_skipped, IsLabelled}
pub use Rattle.lx_spec.specs.Entry.{label_in, levels_in, link_in, Links, NamesPart, part_named, Patches, PlacedEntry, rows_in, section_begun, Skipped}
pub use Rattle.lx_spec.specs.Entry.{sub_in, up_in}
pub use Rattle.lx_spec.specs.Facts.{Facts, facts_after, first_facts, with_cue_named}
pub use Rattle.lx_spec.specs.Fields.{delay_at, is_page_one, levels, number, pairs, record_entry, times, triples}
pub use Rattle.lx_spec.specs.FirstRefusal.{◌>>=◌}
pub use Rattle.lx_spec.specs.Limits.{desk_limits}
pub use Rattle.lx_spec.specs.LineRules.{cue_entry, entry_by_tokens, entry_by_word, entry_of, if_few, inner_entry, members_entry}
pub use Rattle.lx_spec.specs.Looks.{by_form, from_looks}
pub use Rattle.lx_spec.specs.Numerals.{read_cue_no, read_time, read_whole}
pub use Rattle.lx_spec.specs.Reading.{channels_named, count_read, cue_from, each_record, entries, group_from, label_from, last_in, last_of_each}
pub use Rattle.lx_spec.specs.Reading.{lines_read, moves_in, numbers_begun, part_from, parts_from, reading_from, reads_lines, script_of, show_from}
pub use Rattle.lx_spec.specs.Reading.{stands_in, sub_from}
pub use Rattle.lx_spec.specs.Show.{Cue, InRange, IsTime, MemberSet, Show, Valid, ValidCue, ValidGroup, ValidMember, ValidMove, ValidPart, ValidSet}
pub use Rattle.lx_spec.specs.Show.{ValidSub}
pub use Rattle.lx_spec.specs.SortedList.{all_placed, entries_above, entries_below, entry_at, has_entry, IsStrictlySorted, placed}
pub use Rattle.lx_spec.specs.Text.{is_word, lines_of, tokens, without_cr}
pub use Rattle.lx_spec.specs.TrackedLevel.{cue_of, level_in, move_in}
pub use Rattle.lx_spec.specs.declared.Form.{Form}
pub use Rattle.lx_spec.specs.declared.Member.{Member}
pub use Rattle.lx_spec.specs.declared.Move.{Move}
pub use Rattle.lx_spec.specs.declared.Part.{Part}
pub use Rattle.lx_spec.specs.declared.PatchRow.{PatchRow}
pub use Rattle.lx_spec.specs.declared.Section.{Section}
pub use Rattle.lx_spec.specs.declared.Section.TheVariants.{InCue, InGroup, InSub, NoRecord, Skipping}
pub use Rattle.lx_spec.specs.declared.TextFault.{TextFault}
pub use Rattle.lx_spec.specs.declared.TextFault.TheVariants.{LineTooLong, NoEndData, NoIdent, OutOfRange, ShortList}
pub use Rattle.lx_spec.specs.declared.Word.{Word}
pub use Rattle.std.proofs.Math.Seq.{take-append_seam}
pub use Rattle.std.proofs.lemmas.Bool.{and_right, cases_Bool, cases_eq, cond_both, false_from_ne_true, false≢true, true≢false}
pub use Rattle.std.proofs.lemmas.Bool.Decides.{nat_tests}
pub use Rattle.std.proofs.lemmas.Grind.{flat_map-append}
pub use Rattle.std.proofs.lemmas.List.{drop-append-le, drop_all, length-map, map-append, reverse-append}
pub use Rattle.std.proofs.lemmas.List.Elements.{filter-append, filter_map-append}
pub use Rattle.std.proofs.lemmas.Iterator.Adapters.{position_from-zero}
pub use Rattle.std.proofs.lemmas.List.Folds.{list_any-append}
pub use Rattle.std.proofs.lemmas.List.Sums.{count_by-le-length, fold-append, fold_more}
pub use Rattle.std.specs.List.{after_last, AllByRecursion, cons_option, last_or, list_any, position_from, prefix_len, range_with_len, suffix_len}
pub use Rattle.std.specs.Option.{IsSomeAnd, option_map_or}
pub use Rattle.std.specs.Result.{IsErrAnd, IsOkAnd}
pub use Rattle.lx_io.specs.Told.{ToldBySource}
