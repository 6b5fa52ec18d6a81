-- What the proofs of this crate import from its specs and from other crates. It declares nothing.
pub use Rattle.std.proofs.Common.{[], ℕ, ◌*◌, ◌++◌, ◌+◌, ◌-◌, ◌/◌, ◌<◌, ◌==◌, ◌^◌, ◌∙◌, ◌∷◌, ◌≡◌, ◌≢◌}
pub use Rattle.std.proofs.Common.{◌≤◌, ap, append-nil, append_assoc, arith, Bool, cond, drop, Err, false, fold, get_or, inl, inr, IsOkAnd, length}
pub use Rattle.std.proofs.Common.{length-append, length-drop, List, ltb, map, MatchBool, max, nat_le, None, Ok, OnErr, OnOk, refl, replicate, Result, rules}
pub use Rattle.std.proofs.Common.{slice_get, Some, subst, suc, sym, take, true, vec_capacity, vec_len, zero}
pub use Rattle.lx_base.specs.declared.TheConstants.{SLOTS, SUBS, UNIVERSES}
pub use Rattle.lx_console.specs.Slots.{universe}
pub use Rattle.lx_gate.specs.CommandLists.{flat, IsChained, IsLonger, longest}
pub use Rattle.lx_gate.specs.Gates.{HasSent, HasSentNone, IsEntered, Published}
pub use Rattle.lx_gate.specs.Readings.{IsNewTap, nothing_told}
pub use Rattle.lx_spec.specs.Desk.{after_command, Desk, opened, replay, step}
pub use Rattle.lx_spec.specs.Output.{contribution, dimmer_value, dimmers_of, frame, level_among, out}
pub use Rattle.lx_spec.specs.Show.{Cue, Show, Valid, ValidCue}
pub use Rattle.lx_spec.specs.declared.Command.{Command}
pub use Rattle.std.proofs.lemmas.Bool.Decides.{nat_tests}
pub use Rattle.std.proofs.lemmas.List.{drop-replicate, take-replicate}
pub use Rattle.std.specs.List.{AllByRecursion, slice_range}
pub use mathlib.Core.List.{IsPrefix}
