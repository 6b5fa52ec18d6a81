-- What the proofs of this crate import from its specs and from other crates. It declares nothing.
pub use Rattle.std.proofs.Common.{[], ℕ, ⊎_elim, ◌++◌, ◌+◌, ◌-◌, ◌<◌, ◌^◌, ◌∙◌, ◌∷◌, ◌≡◌, ◌≢◌, ◌≤◌}
pub use Rattle.std.proofs.Common.{◌⊎◌, ◌&&◌, ap, append-nil, append_assoc, arith, Bool, cond, Err, false, IfSome, inl, inr, is_some, IsSome, IsSomeAnd, length}
pub use Rattle.std.proofs.Common.{length-append, length-set, List, ltb, min, None, Ok, OnErr, OnOk, Option, refl, replicate, Result, reverse, rules, set, slice_get, Some}
pub use Rattle.std.proofs.Common.{subst, suc, sym, take, true, vec_capacity, vec_len, zero}
pub use Rattle.lx_base.specs.Places.{EachAt}
pub use Rattle.lx_gate.proofs.Prefixes.{prefix_length, prefix_self, prefix_trans, prefix_whole}
pub use Rattle.lx_gate.specs.CommandLists.{IsChained, longest}
pub use Rattle.lx_gate.specs.Desks.{IsInStep}
pub use Rattle.lx_gate.specs.Frames.{IsFrame}
pub use Rattle.lx_gate.specs.Gates.{Published}
pub use Rattle.lx_gate.specs.Readings.{HasLearnt, HasMissed, HasReadOn, IsNewTap, newest, Tapped, Told}
pub use Rattle.lx_gate.specs.declared.stamp.Stamp.{Stamp}
pub use Rattle.lx_io.specs.Causes.{HasCause, one_more, Rose}
pub use Rattle.lx_io.specs.Puts.{AppendsFront, HasSinkCause, Puts}
pub use Rattle.lx_io.specs.declared.sink.SinkFault.{SinkFault}
pub use Rattle.lx_io.specs.Told.{ToldBySink}
pub use Rattle.lx_session.specs.Spared.{HasStood, IsMost, RoseAtMost}
pub use Rattle.lx_spec.specs.Desk.{Desk, opened, replay}
pub use Rattle.lx_spec.specs.Kept.{Kept}
pub use Rattle.lx_spec.specs.Show.{Show}
pub use Rattle.lx_spec.specs.Versions.{Falling, Older, outlet_text, version_text, versions_text}
pub use Rattle.lx_spec.specs.declared.Command.{Command}
pub use Rattle.lx_workers.specs.Engines.{accepted_of, engine_answering, HasAccepted, HasRun, HasSentOn, leaves_room, most_of, SendsAll}
pub use Rattle.lx_workers.specs.Lines.{HasFault, HasWritten, HasWrittenPart, newest_count, stamped_line}
pub use Rattle.lx_workers.specs.Places.{IsFull, IsGiven, IsTaken, OutletIsBack}
pub use Rattle.lx_workers.specs.Works.{Delivered, HasAll, HasLooked, HasPutNewest, HasServed, HasStepped, HasTakenTimes, RoseOrSame}
pub use Rattle.lx_workers.specs.declared.playing.TheConstants.{OUTLETS}
pub use Rattle.lx_workers.specs.declared.worker.Served.{Served}
pub use Rattle.std.proofs.lemmas.Option.{same_Some, slice_get_within}
pub use Rattle.std.specs.Io.KnownBytes.{Appends, Keeps}
pub use mathlib.Core.List.{IsPrefix, reverse-cons}
