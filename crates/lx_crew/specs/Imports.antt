-- What the contracts import, of this crate and of others. Nothing is defined here.
pub use Rattle.std.specs.List.{All, AllZip}
pub use Rattle.lx_io.specs.Puts.{Puts, HasSinkCause}
pub use Rattle.lx_spec.specs.CrewText.{op_text}
pub use Rattle.lx_spec.specs.Desk.{Desk}
pub use Rattle.lx_session.specs.LineState.{meaning_of}
pub use Rattle.lx_session.specs.LineReply.{TallyHasRoom, HasOneMore}
pub use Rattle.lx_session.specs.LineAnswer.{FromDesk}
pub use Rattle.lx_session.specs.Spared.{ByRefusals}
pub use Rattle.crossbeam_queue.specs.Passes.{view, IsPassOf, IsSamePass}
pub use Rattle.lx_io.specs.Causes.{Rose}
pub use Rattle.lx_console.specs.ConsoleMeaning.{StandsFor}
pub use Rattle.lx_base.specs.Places.{EachAt}
pub use Rattle.lx_crew.specs.EngineAnswers.{AnswersNamed, HasAnswered, OutputCause, named_line, HasServedEntries}
pub use Rattle.lx_crew.specs.Rule.{engine_view}
pub use Rattle.lx_crew.specs.CrewOutcome.{HasCrewed}
pub use Rattle.lx_crew.specs.OperatorWorks.{HasRunOperator, Hired, HasSentNothing, Works, owned}
