-- What the proofs of this crate import from its specs and from other crates. It declares nothing.
pub use Rattle.std.proofs.Common.{ℕ, ◌%◌, ◌&&◌, ◌*◌, ◌+◌, ◌-◌, ◌<◌, ◌==◌, ◌^◌, ◌∙◌, ◌∷◌, ◌≡◌, ◌≢◌, ◌≤◌, ◌⊎◌, ap, arith, Bool, cond, drop, eqb}
pub use Rattle.std.proofs.Common.{eqb-true, false, find, get_or, get_or-set_other, inl, inr, length, List, map, None, not, Option, refl, replicate}
pub use Rattle.std.proofs.Common.{rules, set, slice_index, Some, subst, sym, true, w16}
pub use Rattle.lx_base.proofs.Lanes.{apart, loaded, stored_at, stored_below}
pub use Rattle.lx_base.specs.Numbers.{scaled}
pub use Rattle.lx_base.specs.Rows.{Agree, HasLanes}
pub use Rattle.lx_base.specs.declared.TheConstants.{CHANNELS, SLOTS}
pub use Rattle.lx_mixer.proofs.Tables.{table-set, table_of_same, told}
pub use Rattle.lx_mixer.specs.Table.{IsTable}
pub use Rattle.lx_patch.specs.DimmerTable.{DimmerTable, IsWired, place_of, proportion_of, ReachTable, StandsForPatch}
pub use Rattle.lx_patch.specs.FollowerChains.{AreDarkFrom, AreDimmersChained, FollowsChannel}
pub use Rattle.lx_patch.specs.Slots.{AreInARow, AreSlots, IsFollowed}
pub use Rattle.lx_spec.specs.Output.{dimmer_value}
pub use Rattle.lx_spec.specs.SortedList.{entry_at, placed, taken_out}
pub use Rattle.lx_spec.specs.declared.PatchRow.{PatchRow}
pub use Rattle.std.proofs.Math.ListN.{length-set}
pub use Rattle.std.proofs.lemmas.Bool.{cases_eq, cases_lt, not-false, not-true}
pub use Rattle.std.proofs.lemmas.Grind.{get_or-set_at}
pub use Rattle.std.proofs.lemmas.List.{get_or-replicate, get_or_read, length-replicate}
pub use Rattle.std.proofs.lemmas.Simd.{get_or-chunk, get_or-put_chunk_above, get_or-zip2, leading_from_mask_l, length-chunk, length-zip2, mask_l-mod}
pub use Rattle.std.proofs.lemmas.Simd.{tops_compared}
pub use Rattle.std.specs.List.{AllByRecursion, range_with_len}
pub use Rattle.std.specs.Option.{option_map_or}
