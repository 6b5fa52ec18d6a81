use Rattle.lx_crew.proofs.Imports.{◌≡◌, ◌≤◌, ℕ, [], length, slice_get, vec_len, vec_capacity, view, IsPassOf, IsSamePass, engine_view, EachAt}
use Rattle.lx_crew.proofs.Imports.{Hired}
use Rattle.lx_crew.proofs.running.hire.Given as goal

abbrev pub invariant-loop-place : goal.invariant-loop-place
invariant-loop-place g l = record {
  same : IsSamePass l.initial.pass l.pass;
  knows : view l.pass ≡ engine_view l.place [] [];
  len : vec_len l.works ≡ l.place;
  count : length l.works.items ≡ l.place;
  room : length l.initial.operators ≤ vec_capacity l.works;
  all : length l.operators ≡ length l.initial.operators;
  each : EachAt (Hired (IsPassOf l.queue) l.initial.operators) l.works.items;
  rest : (k : ℕ) → l.place ≤ k → slice_get l.operators k ≡ slice_get l.initial.operators k;
}
