-- What the proofs of this crate import from its specs and from other crates. It declares nothing.
pub use Rattle.std.proofs.Common.{[], ℕ, ◌%◌, ◌*◌, ◌++◌, ◌+◌, ◌-◌, ◌/◌, ◌<◌, ◌||◌, ◌∙◌, ◌∷◌, ◌≡◌, ◌≢◌}
pub use Rattle.std.proofs.Common.{◌≤◌, ◌⊎◌, ap, append-nil, append_assoc, ap₂, arith, Bool, codes, cond, decimal, drop, drop_at, eqb, Err, false}
pub use Rattle.std.proofs.Common.{flat_map, IfSome, if◌then◌else◌, inl, inr, IsErr, IsOk, IsSome, length, length-append, length-drop, List, None, Ok}
pub use Rattle.std.proofs.Common.{Option, refl, Result, slice_get, Some, subst, suc, sum, sym, take, take-append-drop, take_all, true, zero}
pub use Rattle.lx_base.specs.Places.{EachAt}
pub use Rattle.lx_base.specs.declared.TheConstants.{INPUT_BYTES, UNDO_DEPTH}
pub use Rattle.lx_console.specs.ConsoleMeaning.{StandsFor}
pub use Rattle.lx_crew.specs.declared.fault.OperatorFault.{OperatorFault}
pub use Rattle.lx_desk.specs.Crew.{HandsOn, HasCrewCause, HasCrewEnded, IsLowest, KeepsPlaces, NoOperatorFailed, OperatorFailed, Serves, ServesOrWants, ServesOver, TellsCrew}
pub use Rattle.lx_desk.specs.Crew.{TellsOperators, WritesCrewFront, WritesFirstLines, WritesLines, WritesTranscript}
pub use Rattle.lx_desk.specs.Endings.{AnswersJob, at_once, EndsJob, EndsScript, HasCauseOf, HasEnded, HasEndedBy, HasPlayed}
pub use Rattle.lx_desk.specs.Done.{Accounts, Does, Refuses, Tells}
pub use Rattle.lx_desk.specs.Faults.{status_for, status_of_sink}
pub use Rattle.lx_desk.specs.Finished.{Finishes, HasWanted, IsDone, IsOfInput}
pub use Rattle.lx_desk.specs.Generator.{after_cue, after_setting, after_turn, chan_text, drawn_cue, drawn_cue_text, made_show, set_text, setting_from}
pub use Rattle.lx_desk.specs.Generator.{turn_from, turn_text}
pub use Rattle.lx_desk.specs.Live.{LiveMemory, any_memory, AreServed, DecidesInOrder, HasFailedOutlet, HasLiveCause, HasLived, HasPlayedLive, HaveGot, HaveVersions}
pub use Rattle.lx_desk.specs.Live.{LacksMemory, live_session, LiveAllows, LivesInFront, LivesTaken, LivesToEnd, OutletFailed, PlaysInFront}
pub use Rattle.lx_desk.specs.Live.{OutletsFinish, OutletWanted, PlaysLive, PlaysScript, PlaysTaken, PlaysToEnd, TellsOutlets, TellsRun, WantsLive}
pub use Rattle.lx_desk.specs.Output.{AnswersInFront, AnswersScript, AnswersTaken, JobFailures, NothingOfCut, RepliesToTaken, ScriptFailures, WritesAll}
pub use Rattle.lx_desk.specs.Output.{WritesFront, WritesPrefix, WritesTaken}
pub use Rattle.lx_desk.specs.Plays.{Plays}
pub use Rattle.lx_desk.specs.ShowRefusal.{RefusedBy, RefusesText, status_kept}
pub use Rattle.lx_desk.specs.declared.desk.Status.{Status}
pub use Rattle.lx_io.proofs.Chain.{AppendsFront-from, Puts-fails, Puts-is, Puts-stops, Puts-then}
pub use Rattle.lx_io.specs.Causes.{Rose}
pub use Rattle.lx_io.specs.Puts.{AppendsFront, Puts}
pub use Rattle.lx_io.specs.declared.sink.SinkFault.{SinkFault}
pub use Rattle.lx_io.specs.Told.{ToldBySink, ToldBySource}
pub use Rattle.lx_lex.proofs.FirstLines.{first_lines-longer, first_lines-more}
pub use Rattle.lx_lex.specs.Lines.{LinesBetween}
pub use Rattle.lx_lex.specs.Unread.{bytes_taken, source_faults, source_left, unread}
pub use Rattle.lx_lex.specs.declared.lines.Lines.{Lines}
pub use Rattle.lx_reader.specs.Answer.{CutShort, HasRead, OfText, reading_of}
pub use Rattle.lx_reader.specs.declared.fault.ShowFault.{ShowFault}
pub use Rattle.lx_reader.specs.declared.loaded.Loaded.{Loaded}
pub use Rattle.lx_session.proofs.HeardLines.{desk_lawful}
pub use Rattle.lx_session.proofs.ScriptEnds.{first_of_whole, front_of_whole, more_of_whole}
pub use Rattle.lx_session.proofs.Refusals.{known_since}
pub use Rattle.lx_session.specs.Known.{AppendsAtLeast}
pub use Rattle.lx_session.specs.Listening.{HasDone}
pub use Rattle.lx_session.specs.ScriptAnswer.{AnsweredPrefix, AnsweredTaken, AnsweredWhole, ScriptAnswered}
pub use Rattle.lx_session.specs.SessionOutcome.{HasSessionCause, KeepsLimit}
pub use Rattle.lx_session.specs.Spared.{ByRefusals, failed_count, HasStood, IsAtMost}
pub use Rattle.lx_session.specs.Waits.{HandsOnReplies}
pub use Rattle.lx_session.specs.declared.fault.SessionFault.{SessionFault}
pub use Rattle.lx_session.specs.declared.tally.Tally.{Tally}
pub use Rattle.lx_spec.specs.CheckOutput.{check_text}
pub use Rattle.lx_spec.specs.CutInput.{feeds, first_lines, HasNoFeed}
pub use Rattle.lx_spec.specs.Desk.{Desk, opened}
pub use Rattle.lx_spec.specs.DeskSession.{after_line, begun, desk_answering, DeskState}
pub use Rattle.lx_spec.specs.FaultLine.{fault_text, over_show}
pub use Rattle.lx_spec.specs.Job.{JobAllows, output_of, show_of, show_wanted, wanted_of}
pub use Rattle.lx_spec.specs.Kept.{Kept}
pub use Rattle.lx_spec.specs.MakeOutput.{chan_line, drawn_from, made_cue, made_input, made_patch, made_text, made_turn, make_output}
pub use Rattle.lx_spec.specs.Reading.{lines_read, Reading, reads, script_of}
pub use Rattle.lx_spec.specs.ScriptKinds.{answering_of, opening_of}
pub use Rattle.lx_spec.specs.ScriptOutput.{first_replies, input_lines_wanted, input_wanted, script_session, ScriptAllows}
pub use Rattle.lx_spec.specs.Session.{after_each, Allows, answered_lines, Answering, AreAllowed, begin_at, bytes_wanted, Counts, ends_script, lines_wanted}
pub use Rattle.lx_spec.specs.Session.{Session, session_after, whole_session}
pub use Rattle.lx_spec.specs.SheetOutput.{sheet_text}
pub use Rattle.lx_spec.specs.Show.{Show}
pub use Rattle.lx_spec.specs.ShowText.{line}
pub use Rattle.lx_spec.specs.Text.{lines_of}
pub use Rattle.lx_spec.specs.declared.Command.{Command}
pub use Rattle.lx_spec.specs.declared.Form.{Form}
pub use Rattle.lx_spec.specs.declared.Form.TheVariants.{Moves}
pub use Rattle.lx_spec.specs.declared.Job.{Job}
pub use Rattle.lx_spec.specs.declared.Job.TheVariants.{Check, Crew, Make, Script, Sheet}
pub use Rattle.lx_spec.specs.declared.ScriptKind.{ScriptKind}
pub use Rattle.lx_spec.specs.declared.ScriptKind.TheVariants.{Live, Render, Two, Undo}
pub use Rattle.lx_spec.specs.declared.TextFault.{TextFault}
pub use Rattle.lx_workers.specs.Places.{IsFull}
pub use Rattle.std.proofs.lemmas.Option.{same_Some, slice_get_within}
pub use Rattle.std.specs.Io.KnownBytes.{Appends, IsAtEnd}
pub use Rattle.std.specs.List.{AllByRecursion, list_any, position_or_len, range_with_len}
