-- What the contracts import, of this crate and of others. Nothing is defined here.
pub use Rattle.std.specs.Io.KnownBytes.{Keeps}
pub use Rattle.lx_io.specs.Puts.{HasSinkCause, Puts}
pub use Rattle.lx_spec.specs.Session.{is_quit}
pub use Rattle.lx_spec.specs.Desk.{Desk}
pub use Rattle.lx_spec.specs.Replies.{frame_text, row_text}
pub use Rattle.lx_spec.specs.Output.{frame}
pub use Rattle.lx_spec.specs.ShowText.{show_text}
pub use Rattle.lx_script.specs.ReplyTexts.{reply_text}
pub use Rattle.lx_console.specs.ConsoleMeaning.{StandsFor}
pub use Rattle.lx_spec.specs.DeskSession.{DeskState, begun, desk_answering}
pub use Rattle.lx_spec.specs.ValidEdit.{ValidCommand, ValidLine}
pub use Rattle.lx_lex.specs.Unread.{CanAdvance, SameSource, bytes_taken, source_left, unread, held, has_feed, lines_handed}
pub use Rattle.lx_session.specs.LineReply.{TallyHasRoom, HasOneMore, counts_in, reply_to, reply_for, counts_after, counted, IsUpTo}
pub use Rattle.lx_session.specs.Spared.{HasStood, spared, MayTake, IsAmple, ByRefusals, IsMost}
pub use Rattle.lx_session.specs.LineState.{next_of, frame_of, meaning_of}
pub use Rattle.lx_session.specs.Attempts.{Attempted, ListenedAttempt, heard_of}
pub use Rattle.lx_session.specs.LineAnswer.{SparedAnswer, FromDesk, LineAnswer}
pub use Rattle.lx_session.specs.OneAnswer.{GoesOnUnless}
pub use Rattle.lx_session.specs.LineProgress.{HasPassed, LineProgress}
pub use Rattle.lx_session.specs.ScriptAnswer.{ScriptAnswered}
pub use Rattle.lx_session.specs.Listening.{HasDone}
pub use Rattle.lx_session.specs.SessionOutcome.{HasSessionCause, KeepsLimit}
pub use Rattle.lx_session.specs.Waits.{HandsOnReplies, WaitsFlushed}
pub use Rattle.lx_session.specs.LineOutcome.{LineOutcome}
