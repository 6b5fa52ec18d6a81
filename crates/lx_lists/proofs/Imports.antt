-- What the proofs of this crate import from its specs and from other crates. It declares nothing.
pub use Rattle.std.proofs.Common.{[], ℕ, ◌*◌, ◌++◌, ◌+◌, ◌-◌, ◌<◌, ◌==◌, ◌∙◌, ◌∷◌, ◌≡◌, ◌≢◌, ◌≤◌}
pub use Rattle.std.proofs.Common.{◌⊎◌, ap, append-nil, arith, Bool, codes, cond, Err, false, filter, fold, IfOk, IfSome, if◌then◌else◌, inl, inr}
pub use Rattle.std.proofs.Common.{is_some, IsOk, IsOkAnd, IsTrue, length, List, map, max, nat_le, nat_lt, None, not, Ok, OnErr, OnOk, Option, option_copied}
pub use Rattle.std.proofs.Common.{refl, Result, slice_get, Some, subst, suc, sym, true, zero}
pub use Rattle.lx_base.specs.Numbers.{scaled}
pub use Rattle.lx_base.specs.declared.TheConstants.{LINE_BYTES, SECOND_LIST, SLOTS, TICK_END, TICK_STEP, UNIVERSE_SLOTS, UNIVERSES}
pub use Rattle.lx_console.specs.ConsoleMeaning.{Answers, level_now, Obeys, Refuses, StandsFor}
pub use Rattle.lx_console.specs.Slots.{universe}
pub use Rattle.lx_io.specs.declared.sink.SinkFault.{SinkFault}
pub use Rattle.lx_lists.specs.KeptLists.{AreKept, HasRoomForFrames, IsFilled}
pub use Rattle.lx_lists.specs.OtherList.{Stays, TicksReach}
pub use Rattle.lx_lists.specs.TwoListsMeaning.{out_of_both, Steps, TakesStep, TwoKept, TwoStand, TwoWantMemory}
pub use Rattle.lx_lists.specs.declared.output.Output.{Output}
pub use Rattle.lx_mixer.specs.Table.{IsTable}
pub use Rattle.lx_session.proofs.AnsweredLines.{line_answered, turn_answered, TurnAnswer, with_reply_is}
pub use Rattle.lx_session.proofs.HeardLines.{meaning_is}
pub use Rattle.lx_session.specs.Attempts.{Attempted, heard_of}
pub use Rattle.lx_session.specs.LineProgress.{LineProgress}
pub use Rattle.lx_session.specs.LineState.{frame_of, LineState, meaning_of, next_of, unattempted}
pub use Rattle.lx_session.specs.OneAnswer.{ExtendsText, IsLawful, IsLine, OneAnswer}
pub use Rattle.lx_spec.specs.Desk.{after_command, after_play, Desk, opened, step}
pub use Rattle.lx_spec.specs.DeskSession.{after_attempts, Attempt, begun, command_of, DeskState, tried}
pub use Rattle.lx_spec.specs.FirstRefusal.{◌>>=◌}
pub use Rattle.lx_spec.specs.Kept.{Kept, kept}
pub use Rattle.lx_spec.specs.Output.{contribution, dimmer_value}
pub use Rattle.lx_spec.specs.Replies.{frame_text}
pub use Rattle.lx_spec.specs.Script.{line_of, meaning}
pub use Rattle.lx_spec.specs.Session.{ends_script, is_quit, Session, with_text}
pub use Rattle.lx_spec.specs.Show.{Cue, Show}
pub use Rattle.lx_spec.specs.SortedList.{entry_at, has_entry, IsStrictlySorted, taken_out}
pub use Rattle.lx_spec.specs.TwoLists.{commands_second, first_answer, first_show, first_step, frame_of_two, is_for_second, is_of_second, is_tick}
pub use Rattle.lx_spec.specs.TwoLists.{leads_with_two, opened_two, out_of_two, second_answer, second_meaning, second_show, second_step, tick_step, two_answer}
pub use Rattle.lx_spec.specs.TwoLists.{two_answering, TwoDesks, TwoMayFail, where_of_second}
pub use Rattle.lx_spec.specs.WantedMemory.{may_lack_memory}
pub use Rattle.lx_spec.specs.declared.Command.{Command}
pub use Rattle.lx_spec.specs.declared.Line.{Line}
pub use Rattle.lx_spec.specs.declared.Refusal.{Refusal}
pub use Rattle.lx_spec.specs.declared.Refusal.TheVariants.{Memory, TickLimit}
pub use Rattle.std.proofs.lemmas.List.Sums.{fold-append}
pub use Rattle.std.proofs.lemmas.Result.{IfOk-weaker, on_err_weaker}
pub use Rattle.std.specs.List.{AllByRecursion}
pub use Rattle.std.specs.Result.{result_err, result_unwrap_or}
