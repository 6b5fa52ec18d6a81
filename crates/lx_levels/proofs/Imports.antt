-- What the proofs of this crate import from its specs and from other crates. It declares nothing.
pub use Rattle.std.proofs.Common.{[], ℕ, ◌*◌, ◌++◌, ◌+◌, ◌-◌, ◌/◌, ◌<◌, ◌==◌, ◌||◌, ◌∙◌, ◌∷◌, ◌≡◌, ◌≢◌, ◌≤◌, ◌⊎◌, add-one, ap, arith, Bool, cond}
pub use Rattle.std.proofs.Common.{drop, false, get_or, get_or-set_other, get_or-set_same, IfSome, inl, inr, length, length-drop, List, lit<, min}
pub use Rattle.std.proofs.Common.{nat_le, nat_lt, None, Option, option_and_then, refl, replicate, reverse, rules, set, set-set, slice_index}
pub use Rattle.std.proofs.Common.{slice_index_or, slice_set, Some, subst, suc, sym, take, true, unwrap_or, zero}
pub use Rattle.lx_fade.proofs.Rows.{drop-stack_column, in_block, newest_begun, newest_waits, read_is}
pub use Rattle.lx_fade.specs.Fades.{Fade, pushed, stack_at}
pub use Rattle.lx_fade.specs.Row.{no_fade, stack_column}
pub use Rattle.lx_fade.specs.declared.held.TheConstants.{NEVER}
pub use Rattle.lx_levels.specs.CurrentFades.{AreAt, Governs, IsAdvanced, IsHeld, IsRight, IsRightAt, IsRightBut, IsStill, IsTold, IsWritten}
pub use Rattle.lx_levels.specs.CurrentFades.{LevelsReach, no_current, Place, place_of, StaysUntil}
pub use Rattle.lx_levels.specs.LevelsMeaning.{IsAdded, IsElsewhere, LevelsStandFor, StackStandsAt, StandsBefore}
pub use Rattle.lx_levels.specs.Acts.{act_over, IsKnown, IsOf, IsValid}
pub use Rattle.lx_levels.specs.RunsInTurn.{AreKnown, EachAct, IsGround, IsReplayed}
pub use Rattle.lx_levels.specs.Stacks.{kept_stack, KeptLevels, level_at, no_stack, Stack, stack_level}
pub use Rattle.lx_levels.specs.declared.motion.Motion.{Motion}
pub use Rattle.lx_levels.specs.declared.replay.Act.{Act}
pub use Rattle.lx_playback.specs.Valid.{OldestFirst, ValidRun, ValidTimes}
pub use Rattle.lx_sheet.specs.Rows.{level_of, Sheet}
pub use Rattle.lx_spec.proofs.Rest.{same_run}
pub use Rattle.lx_spec.specs.Level.{fade_over, faded, last_cue, level, moved_towards, rises_to, run_over}
pub use Rattle.lx_spec.specs.Playback.{Playback}
pub use Rattle.lx_spec.specs.Run.{acts, delay_of, entry_extent, entry_for, first_entry, Run, time_of}
pub use Rattle.lx_spec.specs.Show.{Cue, Show}
pub use Rattle.lx_spec.specs.SortedList.{entry_at}
pub use Rattle.lx_spec.specs.TrackedLevel.{move_of, tracked}
pub use Rattle.std.proofs.Math.ListN.{length-set}
pub use Rattle.std.proofs.lemmas.Bool.{cases_eq, cases_lt}
pub use Rattle.std.proofs.lemmas.Grind.{common_steps}
pub use Rattle.std.proofs.lemmas.List.{get_or-replicate, get_or-reverse, get_or_default, get_or_past, get_or_read, length-reverse, same_lists}
pub use Rattle.std.specs.List.{All, AllByRecursion}
pub use Rattle.std.specs.Option.{option_map_or}
