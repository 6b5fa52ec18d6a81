-- What the proofs of this crate import from its specs and from other crates. It declares nothing.
pub use Rattle.std.proofs.Common.{[], ℕ, ◌&&◌, ◌*◌, ◌+◌, ◌-◌, ◌<◌, ◌==◌, ◌∙◌, ◌∷◌, ◌≡◌, ◌≤◌, ap, arith, Bool}
pub use Rattle.std.proofs.Common.{cond, Err, false, get_or, is_none, IsTrue, length, List, map, nat_le, nat_lt, None, Ok, Option, refl, reverse, rules, Some}
pub use Rattle.std.proofs.Common.{subst, suc, sym, take, true, zero}
pub use Rattle.lx_base.specs.declared.TheConstants.{TICK_END, TICK_STEP, TIME_MAX}
pub use Rattle.lx_playback.specs.Valid.{NewestFirst, OldestFirst, ValidRun, ValidTimes}
pub use Rattle.lx_spec.specs.Playback.{at_rest, followed, is_over, no_run, Playback, Played, start_above, tick, ticked}
pub use Rattle.lx_spec.specs.Run.{captured, entry_extent, extent, greatest, Run}
pub use Rattle.lx_spec.specs.Show.{Cue, Show, ValidPart}
pub use Rattle.std.specs.List.{All, AllByRecursion, list_all}
