-- What the contracts import, of this crate and of others. Nothing is defined here.
pub use Rattle.lx_spec.specs.DeskSession.{begun, command_of}
pub use Rattle.lx_spec.specs.TwoLists.{TwoDesks, commands_second, second_show, frame_of_two, first_show}
pub use Rattle.lx_spec.specs.ValidEdit.{ValidCommand, ValidLine}
pub use Rattle.lx_session.specs.Attempts.{Attempted, heard_of}
pub use Rattle.lx_session.specs.OneAnswer.{GoesOnUnless}
pub use Rattle.lx_session.specs.LineProgress.{LineProgress}
pub use Rattle.lx_session.specs.Spared.{HasStood}
pub use Rattle.lx_session.specs.LineState.{next_of, unattempted}
pub use Rattle.lx_io.specs.Causes.{HasCause}
pub use Rattle.lx_io.specs.Puts.{Puts, HasSinkCause}
pub use Rattle.lx_spec.specs.Replies.{frame_text}
pub use Rattle.lx_patch.specs.DimmerTable.{StandsForPatch}
pub use Rattle.lx_console.specs.KeptOutput.{IsPatchedBut, SlotsStand}
pub use Rattle.lx_spec.specs.SortedList.{has_entry}
pub use Rattle.lx_lists.specs.TwoListsMeaning.{TwoStand}
pub use Rattle.lx_lists.specs.OtherList.{TicksReach, Stays}
pub use Rattle.lx_lists.specs.KeptLists.{HasRoomForFrames, IsFilled, WasFilled}
