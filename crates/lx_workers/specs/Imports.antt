-- What the contracts import, of this crate and of others. Nothing is defined here.
pub use Rattle.std.specs.List.{AllZip}
pub use Rattle.lx_gate.specs.Desks.{IsInStep}
pub use mathlib.Core.List.{IsPrefix}
pub use Rattle.lx_gate.specs.Readings.{IsNewTap, newest}
pub use Rattle.lx_lex.specs.Unread.{CanAdvance, SameSource, bytes_taken, unread}
pub use Rattle.lx_spec.specs.Desk.{opened}
pub use Rattle.lx_console.specs.ConsoleMeaning.{StandsFor}
pub use Rattle.lx_session.specs.SessionOutcome.{HasSessionCause, KeepsLimit}
pub use Rattle.lx_session.specs.Spared.{ByRefusals, HasStood}
pub use Rattle.lx_session.specs.Waits.{HandsOnReplies}
pub use Rattle.lx_gate.specs.Gates.{Published}
pub use Rattle.lx_base.specs.Places.{EachAt}
pub use Rattle.lx_io.specs.Causes.{Rose}
pub use Rattle.lx_io.specs.Puts.{Puts}
pub use Rattle.lx_gate.specs.Frames.{IsFrame}
pub use Rattle.lx_workers.specs.Engines.{HasRunFrom}
pub use Rattle.lx_workers.specs.Works.{HasServed, HasStepped, HasPutNewest, HasLooked, HasEnded}
pub use Rattle.lx_workers.specs.Places.{IsFull, IsTaken, IsGiven}
pub use Rattle.lx_workers.specs.LiveOutcome.{HasPlayedScript}
pub use Rattle.lx_workers.specs.Lines.{stamped_line}
