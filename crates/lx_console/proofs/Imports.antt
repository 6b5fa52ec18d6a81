-- What the proofs of this crate import from its specs and from other crates. It declares nothing.
pub use Rattle.std.proofs.Common.{[], ℕ, ◌*◌, ◌++◌, ◌+◌, ◌-◌, ◌<◌, ◌==◌, ◌||◌, ◌∙◌, ◌∷◌, ◌≡◌, ◌≢◌}
pub use Rattle.std.proofs.Common.{◌≤◌, ◌⊎◌, ap, arith, Bool, cond, drop, Err, ext_get_or, false, find, get_or, IfErr, IfOk, IfSome}
pub use Rattle.std.proofs.Common.{if◌then◌else◌, inl, inr, is_some, IsFalse, IsOk, IsOkAnd, IsTrue, length, List, map, MatchResult, max, nat_lt, None}
pub use Rattle.std.proofs.Common.{not, Ok, OnErr, OnOk, Option, option_and_then, option_map, refl, replicate, Result, rules, slice_index_or, slice_set, Some}
pub use Rattle.std.proofs.Common.{subst, suc, sym, take, true, unwrap_or, zero}
pub use Rattle.lx_base.specs.Numbers.{scaled}
pub use Rattle.lx_base.specs.declared.TheConstants.{BACK_TIME, SLOTS, SUBS, TICK_END, TICK_STEP, UNIVERSE_SLOTS, UNIVERSES}
pub use Rattle.lx_console.specs.Changes.{Changes, of_levels, SameOutputs, SamePatch}
pub use Rattle.lx_console.specs.ConsoleMeaning.{Answers, level_now, Obeys, out_now, Refuses, StandsFor}
pub use Rattle.lx_console.specs.KeptOutput.{IsChangeOf, IsMixedOutput, PatchesOwnChannels, Reaches, ShowsPlayer, SlotsStand}
pub use Rattle.lx_console.specs.UnseenEdits.{decided_at, IsApart, IsFrom, IsUnseen, PlacesCue}
pub use Rattle.lx_console.specs.declared.change.Change.{Change}
pub use Rattle.lx_edit.specs.ChanSet.{has_chan}
pub use Rattle.lx_edit.specs.CueChanges.{IsPast, KeepsOthers}
pub use Rattle.lx_edit.specs.PlanMeaning.{dimmer_planned, IsReady, IsRefusal, planned, plans_sub}
pub use Rattle.lx_edit.specs.declared.plans.Plan.{Plan}
pub use Rattle.lx_levels.proofs.Stands.{kept_level, stands_over}
pub use Rattle.lx_levels.specs.LevelsMeaning.{LevelsStandFor, StackStandsAt, StandsBefore}
pub use Rattle.lx_levels.specs.Stacks.{KeptLevels, level_at}
pub use Rattle.lx_mixer.specs.Table.{IsTable}
pub use Rattle.lx_patch.proofs.Frames.{patched, reaches}
pub use Rattle.lx_patch.proofs.Rows.{others_stay, stands_alike}
pub use Rattle.lx_patch.specs.DimmerTable.{DimmerTable, StandsForPatch}
pub use Rattle.lx_playback.specs.QuietTicks.{moments_later, TicksPass}
pub use Rattle.lx_playback.specs.Told.{comes_to_rest, run_made}
pub use Rattle.lx_spec.proofs.RestKept.{kept-opened, kept-replay, kept-step}
pub use Rattle.lx_spec.proofs.SortedLists.{entry_at-placed_other}
pub use Rattle.lx_spec.specs.Desk.{after_command, after_play, Desk, opened, replay, step}
pub use Rattle.lx_spec.specs.EditedShow.{edited, with_cue}
pub use Rattle.lx_spec.specs.FirstRefusal.{◌>>=◌}
pub use Rattle.lx_spec.specs.Kept.{Kept, kept}
pub use Rattle.lx_spec.specs.Laws.{KeepsRest}
pub use Rattle.lx_spec.specs.Level.{last_cue, level}
pub use Rattle.lx_spec.specs.Output.{contribution, dimmer_value, frame, out}
pub use Rattle.lx_spec.specs.Playback.{appended, at_rest, follow_of, followed, has_room, if_room, is_due, is_over, no_run, Playback, Played, position_of, press}
pub use Rattle.lx_spec.specs.Playback.{run_of, run_whole, start_above, tick, ticked}
pub use Rattle.lx_spec.specs.Run.{first_entry, Run}
pub use Rattle.lx_spec.specs.Show.{Cue, InRange, Show, Sub, Valid, ValidPatchRow}
pub use Rattle.lx_spec.specs.SortedList.{entries_above, entry_at, has_entry, placed}
pub use Rattle.lx_spec.specs.TrackedLevel.{cue_above, cue_below, cue_of, decides, move_in, tracked}
pub use Rattle.lx_spec.specs.declared.Command.{Command}
pub use Rattle.lx_spec.specs.declared.Move.{Move}
pub use Rattle.lx_spec.specs.declared.PatchRow.{PatchRow}
pub use Rattle.lx_spec.specs.declared.PlayKey.{PlayKey}
pub use Rattle.lx_spec.specs.declared.Refusal.{Refusal}
pub use Rattle.lx_spec.specs.declared.Refusal.TheVariants.{AbsentSub, NoCueAfter, NoCueBefore, PlaybackFull, TickLimit}
pub use Rattle.std.proofs.lemmas.Grind.{common_steps}
pub use Rattle.std.specs.List.{All, AllByRecursion, range_with_len}
pub use Rattle.std.specs.Option.{IsSomeAnd, option_map_or}
