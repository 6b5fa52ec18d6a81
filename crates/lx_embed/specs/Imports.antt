-- What the contracts import, of this crate and of others. Nothing is defined here.
pub use Rattle.std.specs.Result.{IsErr, IsOkAnd}
pub use Rattle.lx_io.specs.Causes.{HasCauseOf, Rose, HasCause}
pub use Rattle.lx_spec.specs.Desk.{Desk, step}
pub use Rattle.lx_spec.specs.Output.{fader, frame}
pub use Rattle.lx_spec.specs.RecordedLevels.{on_stage}
pub use Rattle.lx_spec.specs.TrackedLevel.{tracked}
pub use Rattle.lx_console.specs.ConsoleMeaning.{StandsFor}
pub use Rattle.lx_session.specs.Spared.{ByMemory, spared}
pub use Rattle.lx_spec.specs.Undo.{UndoState}
pub use Rattle.lx_spec.specs.DeskSession.{begun, desk_answering}
pub use Rattle.lx_spec.specs.UndoSession.{undo_answering}
pub use Rattle.lx_undo.specs.UndoDeskMeaning.{UndoStands}
pub use Rattle.lx_console.specs.Ticks.{after_ticks}
pub use Rattle.lx_embed.specs.Answered.{Answered, AnswersLine, is_bare}
pub use Rattle.lx_embed.specs.Engines.{console_of, OpenedAs}
pub use Rattle.lx_embed.specs.Opened.{IsUntouched, OpensText, RefusesShow}
pub use Rattle.lx_embed.specs.ReplyBytes.{reply_bytes, wants_of}
pub use Rattle.lx_embed.specs.TakenSlots.{taken_of}
pub use Rattle.lx_embed.specs.Told.{Stands, AcceptedTicks}
pub use Rattle.lx_embed.specs.LineEnds.{ends_line, TellsEnd}
