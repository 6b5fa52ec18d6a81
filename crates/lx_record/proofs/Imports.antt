-- What the proofs of this crate import from its specs and from other crates. It declares nothing.
pub use Rattle.std.proofs.Common.{[], ℕ, ◌&&◌, ◌++◌, ◌+◌, ◌-◌, ◌<◌, ◌==◌, ◌||◌, ◌∙◌, ◌∷◌, ◌≡◌, ◌≢◌}
pub use Rattle.std.proofs.Common.{◌≤◌, ap, arith, Bool, cond, Err, false, filter, fold, IfSome, if◌then◌else◌, inl, inr}
pub use Rattle.std.proofs.Common.{is_some, IsTrue, length, List, map, MatchResult, nat_lt, None, not, Ok, Option, option_and_then, option_map, refl}
pub use Rattle.std.proofs.Common.{Result, Some, subst, suc, sym, true, unwrap_or, zero}
pub use Rattle.lx_base.specs.declared.TheConstants.{CUES}
pub use Rattle.lx_console.specs.ConsoleMeaning.{level_now, StandsFor}
pub use Rattle.lx_edit.proofs.CueLevels.{chosen_fit, chosen_next}
pub use Rattle.lx_edit.proofs.KeptLevels.{above_fits, above_higher, above_is, above-tracked, cue_above-changed, cue_only_is}
pub use Rattle.lx_edit.proofs.KeptRows.{around, around_number}
pub use Rattle.lx_edit.proofs.Walks.{into, through, tracked_at, tracked_below, tracked_here}
pub use Rattle.lx_edit.specs.CueChanges.{level_from}
pub use Rattle.lx_edit.specs.PlanMeaning.{CanPlace, IsAbove, with_above}
pub use Rattle.lx_record.specs.Cues.{comes_out_changed, cue_or_new, kept_cue}
pub use Rattle.lx_record.specs.Records.{IsRefused}
pub use Rattle.lx_spec.proofs.CueOnly.{kept, kept_alone}
pub use Rattle.lx_spec.proofs.EditedCues.{ok_is}
pub use Rattle.lx_spec.proofs.Lists.{each, kept_by}
pub use Rattle.lx_spec.proofs.SortedLists.{entry_at-placed_here, entry_at-placed_other, entry_number, IsStrictlySorted-placed, placed_again}
pub use Rattle.lx_spec.specs.EditedShow.{channels_of, cue_only, kept_above, new_cue, part_for, with_cue, with_levels, with_moves}
pub use Rattle.lx_spec.specs.RecordedLevels.{on_stage, recorded, untracked, with_recorded}
pub use Rattle.lx_spec.specs.Show.{Cue, InRange, Show, Valid, ValidCue}
pub use Rattle.lx_spec.specs.SortedList.{entry_at, IsStrictlySorted, placed}
pub use Rattle.lx_spec.specs.TrackedLevel.{cue_above, cue_of, decides, level_in, move_in, move_of, tracked}
pub use Rattle.lx_spec.specs.declared.Member.{Member}
pub use Rattle.lx_spec.specs.declared.Move.{Move}
pub use Rattle.lx_spec.specs.declared.Refusal.{Refusal}
pub use Rattle.lx_spec.specs.declared.Refusal.TheVariants.{CueLimit, Memory}
pub use Rattle.std.proofs.lemmas.Bool.{cases_Bool, false≢true, or_parts}
pub use Rattle.std.proofs.lemmas.Bool.Decides.{nat_tests}
pub use Rattle.std.specs.List.{AllByRecursion, range_with_len}
pub use Rattle.std.specs.Option.{option_map_or}
