-- What the proofs of this crate import from its specs and from other crates. It declares nothing.
pub use Rattle.std.proofs.Common.{[], ℕ, ◌++◌, ◌+◌, ◌-◌, ◌<◌, ◌==◌, ◌||◌, ◌∙◌, ◌∷◌, ◌≡◌, ◌≤◌, ◌≢◌, ◌⊎◌, ap}
pub use Rattle.std.proofs.Common.{append-nil, arith, Bool, codes, drop, Err, false, find, IfOk, IfSome, if◌then◌else◌, inl, inr, is_some, IsOk, length}
pub use Rattle.std.proofs.Common.{length-append, List, nat_lt, None, not, Ok, OnErr, OnOk, Option, option_copied, refl, Result, slice_get, Some, subst, suc}
pub use Rattle.std.proofs.Common.{sym, take, take_at, true, true≢false, zero}
pub use Rattle.lx_console.specs.ConsoleMeaning.{Answers, Refuses, StandsFor}
pub use Rattle.lx_edit.specs.PlanMeaning.{IsReady, planned}
pub use Rattle.lx_session.proofs.AnsweredLines.{allowed_some, line_answered, turn_answered, TurnAnswer, with_reply_is}
pub use Rattle.lx_session.specs.Attempts.{after_commands}
pub use Rattle.lx_session.specs.LineProgress.{LineProgress}
pub use Rattle.lx_session.specs.LineReply.{counts_after, counts_in, reply_to}
pub use Rattle.lx_session.specs.LineState.{LineState, meaning_of, next_of, unattempted}
pub use Rattle.lx_session.specs.OneAnswer.{ExtendsText, IsLawful, IsLine, OneAnswer}
pub use Rattle.lx_spec.specs.Desk.{after_command, Desk, is_edit, step}
pub use Rattle.lx_spec.specs.DeskSession.{after_attempts, Attempt, begun, command_of, count_of, DeskState, tried}
pub use Rattle.lx_spec.specs.FirstRefusal.{◌>>=◌}
pub use Rattle.lx_spec.specs.Kept.{Kept}
pub use Rattle.lx_spec.specs.Replies.{ok_text, refused_text}
pub use Rattle.lx_spec.specs.Script.{line_of, meaning, sentences}
pub use Rattle.lx_spec.specs.Session.{ends_script, is_quit, Session}
pub use Rattle.lx_spec.specs.Show.{Show}
pub use Rattle.lx_spec.specs.Undo.{back_to, forth_to, last_of, record_step, redo, replaced, undo, undo_step, UndoState, with_show}
pub use Rattle.lx_spec.specs.UndoSession.{after_asking, after_plain, asked, attempted, MayFailAsked, plain, undo_answer, undo_answering, undo_line_of}
pub use Rattle.lx_spec.specs.UndoSession.{undo_meaning, UndoMayFail}
pub use Rattle.lx_spec.specs.ValidEdit.{ValidLine}
pub use Rattle.lx_spec.specs.WantedMemory.{may_lack_memory}
pub use Rattle.lx_spec.specs.declared.Command.{Command}
pub use Rattle.lx_spec.specs.declared.Edit.{Edit}
pub use Rattle.lx_spec.specs.declared.Line.{Line}
pub use Rattle.lx_spec.specs.declared.Refusal.{Refusal}
pub use Rattle.lx_spec.specs.declared.Refusal.TheVariants.{Memory}
pub use Rattle.lx_spec.specs.declared.UndoFault.{UndoFault}
pub use Rattle.lx_spec.specs.declared.UndoFault.TheVariants.{NothingToRedo, NothingToUndo}
pub use Rattle.lx_spec.specs.declared.UndoLine.{UndoLine}
pub use Rattle.lx_undo.specs.CommandProgress.{HasReached, reached}
pub use Rattle.lx_undo.specs.Shows.{AllReady, KeptPlans, led_back, ReadyBack, ReadyForth, shows_after, shows_before}
pub use Rattle.lx_undo.specs.UndoDeskMeaning.{seen, TakesUndoStep, UndoKept, UndoStands, UndoSteps, UndoWantsMemory}
pub use Rattle.std.proofs.lemmas.Bool.{cases_Bool}
pub use Rattle.std.proofs.lemmas.Result.{IfOk-weaker}
pub use Rattle.std.specs.List.{AllByRecursion, list_any}
pub use Rattle.std.specs.Option.{option_map_or}
pub use Rattle.std.specs.Result.{IsOkAnd, result_err, result_unwrap_or}
