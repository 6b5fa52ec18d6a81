-- What the proofs of this crate import from its specs and from other crates. It declares nothing.
pub use Rattle.std.proofs.Common.{[], ℕ, ◌++◌, ◌+◌, ◌-◌, ◌<◌, ◌∙◌, ◌∷◌, ◌≡◌, ◌≤◌, add-one, ap, append-nil}
pub use Rattle.std.proofs.Common.{append_assoc, arith, Bool, drop, drop-cons, Err, filter, flat_map, get_or, length, length-append, length-drop, length-take}
pub use Rattle.std.proofs.Common.{length-take-le, List, None, Ok, refl, Result, Some, subst, sym, take, take-append-drop, take_all}
pub use Rattle.lx_io.specs.Kept.{with_kept}
pub use Rattle.lx_io.specs.SinkCalls.{AppendsFront, HasSinkCauseBy, PutsBy}
pub use Rattle.std.proofs.Math.Seq.{take-add, take-append-add}
pub use Rattle.std.proofs.lemmas.Grind.{common_steps, flat_map-append}
pub use Rattle.std.proofs.lemmas.List.{take-append-le}
pub use Rattle.std.specs.Io.KnownBytes.{Appends, Keeps}
pub use Rattle.std.specs.declared.option.Option.{Option}
