-- What the contracts import, of this crate and of others. Nothing is defined here.
pub use Rattle.lx_io.specs.Puts.{Puts}
pub use Rattle.lx_spec.specs.Undo.{UndoState}
pub use Rattle.lx_spec.specs.UndoSession.{after_asking}
pub use Rattle.lx_session.specs.OneAnswer.{GoesOnUnless}
pub use Rattle.lx_session.specs.Spared.{HasStood}
pub use Rattle.lx_session.specs.LineReply.{TallyHasRoom, HasOneMore, counts_in}
pub use Rattle.lx_script.specs.UndoLines.{NamesCue}
pub use Rattle.lx_undo.specs.UndoDeskMeaning.{UndoStands}
pub use Rattle.lx_undo.specs.HistoryLines.{HasAsked, answer_text, counted_denial, denial_text}
