-- What the proofs of this crate import from its specs and from other crates. It declares nothing.
pub use Rattle.std.proofs.Common.{[], ℕ, ◌*◌, ◌++◌, ◌+◌, ◌-◌, ◌<◌, ◌==◌, ◌∙◌, ◌∷◌, ◌≡◌, ◌≤◌, ap, append-nil}
pub use Rattle.std.proofs.Common.{append_assoc, arith, Bool, codes, cond, decimal, drop, false, filter, flat_map, get_or, length, length-append, length-take-le}
pub use Rattle.std.proofs.Common.{List, map, Ok, refl, slice_range, sym, take, take-append-drop, take-take, true}
pub use Rattle.lx_io.proofs.Chain.{Puts-fails, Puts-is, Puts-stops, Puts-then}
pub use Rattle.lx_io.specs.Puts.{Puts}
pub use Rattle.lx_spec.specs.Numerals.{level_text}
pub use Rattle.lx_spec.specs.ShowText.{at_text, cue_text, group_text, label_text, line, member_text, move_text, part_text, patch_text, sub_text}
pub use Rattle.lx_spec.specs.declared.Member.{Member}
pub use Rattle.lx_spec.specs.declared.Move.{Move}
pub use Rattle.lx_spec.specs.declared.PatchRow.{PatchRow}
pub use Rattle.lx_writer.specs.ShiftedLines.{shifted_line, shifted_lines}
