-- What the proofs of this crate import from its specs and from other crates. It declares nothing.
pub use Rattle.std.proofs.Common.{[], ℕ, ◌++◌, ◌+◌, ◌-◌, ◌<◌, ◌==◌, ◌∙◌, ◌∷◌, ◌≡◌, ◌≤◌, ◌⊎◌, ap, arith}
pub use Rattle.std.proofs.Common.{Bool, cond, Err, ext_get_or, false, get_or, IfOk, IfSome, inl, inr, is_some, length, List, None, not, Ok, OnErr, OnOk, Option}
pub use Rattle.std.proofs.Common.{option_and_then, refl, replicate, Result, rules, slice_get, Some, subst, suc, sym, true, unwrap_or, zero}
pub use Rattle.lx_console.specs.ConsoleMeaning.{StandsFor}
pub use Rattle.lx_console.specs.Ticks.{after_ticks}
pub use Rattle.lx_reader.specs.Answer.{AnswerOf, reading_of}
pub use Rattle.lx_spec.specs.Desk.{Desk, step}
pub use Rattle.lx_spec.specs.DeskSession.{begun, desk_answering}
pub use Rattle.lx_spec.specs.Kept.{Kept}
pub use Rattle.lx_spec.specs.Session.{Answering, begin_at, ends_script}
pub use Rattle.lx_spec.specs.Undo.{undo_step, UndoState}
pub use Rattle.lx_undo.specs.UndoDeskMeaning.{UndoKept, UndoStands, UndoWantsMemory}
pub use Rattle.std.specs.Result.{IfErr, is_err, IsErr, IsOkAnd}
