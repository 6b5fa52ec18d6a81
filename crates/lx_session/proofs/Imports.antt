-- What the proofs of this crate import from its specs and from other crates. It declares nothing.
pub use Rattle.std.proofs.Common.{[], ℕ, ◌++◌, ◌+◌, ◌-◌, ◌<◌, ◌==◌, ◌∙◌, ◌∷◌, ◌≡◌, ◌≤◌, ◌⊎◌, ap, append-nil, ◌≢◌}
pub use Rattle.std.proofs.Common.{append_assoc, arith, Bool, cond, drop, eqb, Err, false, IfErr, IfOk, IfSome, if◌then◌else◌, inl, inr, is_none, is_some, IsErr}
pub use Rattle.std.proofs.Common.{IsOk, IsOkAnd, IsTrue, length, length-append, List, map, nat_lt, None, not, Ok, OnErr, OnOk, Option, option_copied}
pub use Rattle.std.proofs.Common.{option_map, refl, Result, rules, Some, subst, suc, sym, take, take-append-drop, take_all, true, zero}
pub use Rattle.lx_base.specs.declared.TheConstants.{INPUT_BYTES, LINE_BYTES, UNIVERSES}
pub use Rattle.lx_console.specs.ConsoleMeaning.{Answers, Obeys, StandsFor}
pub use Rattle.lx_io.proofs.Chain.{AppendsFront-from, AppendsFront-is, Puts-is, Puts-ok, Puts-stops}
pub use Rattle.lx_io.specs.Puts.{AppendsFront, Puts}
pub use Rattle.lx_io.specs.declared.sink.SinkFault.{SinkFault}
pub use Rattle.lx_io.specs.Told.{ToldBySink, ToldBySource}
pub use Rattle.lx_lex.proofs.HandingOut.{handed_none, handed_one, handed_then}
pub use Rattle.lx_lex.proofs.TakenLines.{all_texts, lines_within, next_too_long, texts}
pub use Rattle.lx_lex.specs.CutOff.{NotTaken}
pub use Rattle.lx_lex.specs.Lines.{LinesBetween, StepOf}
pub use Rattle.lx_lex.specs.LinesHandedOut.{HandedOut}
pub use Rattle.lx_lex.specs.Unread.{current_line, unread}
pub use Rattle.lx_lex.specs.declared.lines.Lines.{Lines}
pub use Rattle.lx_session.specs.Attempts.{AcceptedStep, after_commands, Attempted, heard_of, ListenedAttempt}
pub use Rattle.lx_session.specs.Known.{AppendsAtLeast, Known}
pub use Rattle.lx_session.specs.LineAnswer.{LineAnswer, SparedAnswer}
pub use Rattle.lx_session.specs.LineOutcome.{AnsweredLine, DoneLine, FromSession, HalfAnsweredLine, LineOutcome, PassedLine, QuitLine}
pub use Rattle.lx_session.specs.LineOutcome.{ReplyPrefix, ScriptEnd, SinkStop, UnreadLine, Untouched, WholeReply}
pub use Rattle.lx_session.specs.LineProgress.{CommandHasFailed, HasPassed, LineProgress, resumed}
pub use Rattle.lx_session.specs.LineReply.{counted, counts_after, counts_in, IsUpTo, reply_for, reply_to, stateless}
pub use Rattle.lx_session.specs.LineState.{frame_of, LineState, meaning_of, next_of, unattempted}
pub use Rattle.lx_session.specs.Listening.{Beginning, HasDone, HasHeard}
pub use Rattle.lx_session.specs.OneAnswer.{ExtendsText, GoesOnBy, GoesOnUnless, IsLawful, IsLine, OneAnswer}
pub use Rattle.lx_session.specs.Spared.{failed_count, HasStood, IsAmple, IsAtMost, IsMost, MayFailUnless, MayTake, RoseAtMost, RoseBy, spared}
pub use Rattle.lx_session.specs.ScriptAnswer.{AnsweredPrefix, AnsweredTaken, AnsweredWhole, ScriptAnswered}
pub use Rattle.lx_session.specs.SessionOutcome.{KeepsLimit}
pub use Rattle.lx_session.specs.declared.fault.SessionFault.{SessionFault}
pub use Rattle.lx_session.specs.declared.tally.Tally.{Tally}
pub use Rattle.lx_spec.specs.CutInput.{first_lines}
pub use Rattle.lx_spec.specs.Desk.{after_command, Desk, opened, replay, step}
pub use Rattle.lx_spec.specs.DeskSession.{after_attempts, after_meaning, and_then, answered, Attempt, attempt, attempts_for, attempts_of, begun, command_of}
pub use Rattle.lx_spec.specs.DeskSession.{count_of, desk_answering, DeskState, IsAcceptedEdit, MayFailAt, tried, with_reply}
pub use Rattle.lx_spec.specs.Kept.{Kept, kept}
pub use Rattle.lx_spec.specs.Output.{frame}
pub use Rattle.lx_spec.specs.Replies.{frame_text, refused_text, row_of, row_text}
pub use Rattle.lx_spec.specs.Session.{after_each, Allows, answered_lines, Answering, AreAllowed, bad_reply, begin_at, bytes_wanted, Counts, ends_script}
pub use Rattle.lx_spec.specs.Session.{is_quit, lines_wanted, refused_reply, Session, session_after, whole_session, with_text}
pub use Rattle.lx_spec.specs.Show.{Cue, InRange, Show}
pub use Rattle.lx_spec.specs.ShowText.{show_text}
pub use Rattle.lx_spec.specs.Text.{lines_of, tokens, without_cr}
pub use Rattle.lx_spec.specs.TrackedLevel.{cue_of}
pub use Rattle.lx_spec.specs.WantedMemory.{may_lack_memory}
pub use Rattle.lx_spec.specs.declared.Command.{Command}
pub use Rattle.lx_spec.specs.declared.Line.{Line}
pub use Rattle.lx_spec.specs.declared.Refusal.{Refusal}
pub use Rattle.lx_spec.specs.declared.Refusal.TheVariants.{AbsentCue, Memory}
pub use Rattle.std.proofs.KnownBytes.{Appends-kept, Appends-nil, Appends-trans, Keeps-trans}
pub use Rattle.std.proofs.lemmas.Bool.Decides.{nat_tests}
pub use Rattle.std.proofs.lemmas.List.{length-map, map-append}
pub use Rattle.std.proofs.lemmas.List.Sums.{fold-append}
pub use Rattle.std.proofs.lemmas.Result.{IfErr-at_err, IfOk-at_ok}
pub use Rattle.std.specs.Io.KnownBytes.{Appends, IsAtEnd, Keeps}
pub use Rattle.std.specs.List.{AllByRecursion, before_first, position_or_len}
pub use Rattle.std.specs.Result.{IsErrAnd, result_err, result_unwrap_or}
