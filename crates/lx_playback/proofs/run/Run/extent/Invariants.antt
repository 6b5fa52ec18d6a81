use Rattle.lx_playback.proofs.Imports.{◌*◌, ◌≡◌, ◌≤◌, map, take, TIME_MAX, entry_extent, greatest}
use Rattle.lx_playback.proofs.run.Run.extent.Given as goal

abbrev pub invariant-loop-entry : goal.invariant-loop-entry
invariant-loop-entry l = record {
  extent : l.most ≡ greatest (map entry_extent (take l.entry-index l.entry-items));
  most : l.most ≤ 2 * TIME_MAX;
}
