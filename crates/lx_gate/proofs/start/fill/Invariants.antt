use Rattle.lx_gate.proofs.Imports.{◌≡◌, ◌≤◌, length, vec_len, vec_capacity, IsNewTap}
use Rattle.lx_base.specs.Places.{EachAt}
use Rattle.lx_gate.proofs.start.fill.Given as goal

abbrev pub invariant-loop-place : goal.invariant-loop-place
invariant-loop-place g l = record {
  len : vec_len l.taps ≡ l.place;
  count : length l.taps.items ≡ l.place;
  room : l.universes ≤ vec_capacity l.taps;
  each : EachAt IsNewTap l.taps.items;
}
