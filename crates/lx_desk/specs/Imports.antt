-- What the contracts import, of this crate and of others. Nothing is defined here.
pub use Rattle.std.specs.List.{range_with_len}
pub use Rattle.lx_base.specs.Places.{EachAt}
pub use Rattle.lx_console.specs.ConsoleMeaning.{StandsFor}
pub use Rattle.lx_console.specs.Slots.{universe}
pub use Rattle.lx_io.specs.Causes.{HasCause}
pub use Rattle.lx_io.specs.Puts.{Puts}
pub use Rattle.lx_lex.specs.Unread.{bytes_taken, CanAdvance, SameSource}
pub use Rattle.lx_reader.specs.Answer.{reading_of}
pub use Rattle.lx_session.specs.Spared.{ByRefusals}
pub use Rattle.lx_spec.specs.CheckOutput.{check_text}
pub use Rattle.lx_spec.specs.Desk.{Desk, opened}
pub use Rattle.lx_spec.specs.FaultLine.{fault_text}
pub use Rattle.lx_spec.specs.Job.{given_to}
pub use Rattle.lx_spec.specs.MakeOutput.{drawn_from, made_cue, made_input, made_patch, made_turn}
pub use Rattle.lx_spec.specs.Output.{frame}
pub use Rattle.lx_spec.specs.Reading.{reads}
pub use Rattle.lx_spec.specs.ScriptKinds.{answering_of, opening_of}
pub use Rattle.lx_spec.specs.SheetOutput.{cue_lines}
pub use Rattle.lx_spec.specs.ShowText.{line}
pub use Rattle.lx_workers.specs.Places.{IsFull}
pub use Rattle.lx_desk.specs.Crew.{HandsOn, HasCrewCause, HasCrewEnded, KeepsOperators, ServesOver, TakesNoneOrWants, TellsCrew, TellsOperators}
pub use Rattle.lx_desk.specs.Crew.{WantsCrew, WritesCrewFront}
pub use Rattle.lx_desk.specs.Done.{Does, Refuses, Tells}
pub use Rattle.lx_desk.specs.Endings.{AnswersJob, HasCauseOf, HasEnded, HasEndedBy, is_live}
pub use Rattle.lx_desk.specs.Faults.{status_for, status_of_sink}
pub use Rattle.lx_desk.specs.Finished.{Finishes, HasWanted, IsDone, WantsMemory}
pub use Rattle.lx_desk.specs.Generator.{chan_text, cue_head, drawn_cue_text, go_text, made_show, patched_text, set_text, turn_text}
pub use Rattle.lx_desk.specs.Live.{ByLiveMemory, DecidesInOrder, HasLiveCause, HasLived, KeepsOutlets, LivesToEnd, PlaysLive, TellsOutlets, TellsRun}
pub use Rattle.lx_desk.specs.Live.{WantsLive}
pub use Rattle.lx_desk.specs.Made.{report_of, report_text, TellsScript}
pub use Rattle.lx_desk.specs.Output.{WritesPrefix}
pub use Rattle.lx_desk.specs.Plays.{Plays}
