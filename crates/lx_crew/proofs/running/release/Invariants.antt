use Rattle.lx_crew.proofs.Imports.{◌≡◌, ◌≤◌, ◌<◌, ℕ, List, ◌++◌, length, map, slice_get, Some, vec_len, view, IsPassOf, IsSamePass, Message}
use Rattle.lx_crew.proofs.Imports.{EachAt, Works, owned}
use Rattle.lx_crew.proofs.running.release.Given as goal

abbrev pub invariant-loop-work : goal.invariant-loop-work
invariant-loop-work g l = record {
  same : IsSamePass l.initial.pass l.pass;
  kept : List (ℕ × List Message);
  knows : view l.pass ≡ record (view l.initial.pass) { kept = kept };
  lists : map owned l.works.items ++ kept ≡ map owned l.initial.works.items ++ (view l.initial.pass).kept;
  works : EachAt (Works (IsPassOf l.queue)) l.works.items;
  left : EachAt (λ k work. slice_get l.initial.works.items k ≡ Some work) l.works.items;
  all : length l.operators ≡ length l.initial.operators;
  four : length l.faults ≡ 4;
  count : length l.works.items ≤ length l.operators;
  back : EachAt (λ k work. length l.works.items ≤ k → slice_get l.operators k ≡ Some (Some work.source)) l.initial.works.items;
  faults : EachAt (λ k work. length l.works.items ≤ k → slice_get l.faults k ≡ Some work.fault) l.initial.works.items;
  others : (place : ℕ) (fault : _) → slice_get l.faults place ≡ Some (Some fault) → place < length l.initial.operators;
}

abbrev pub decreases-loop-work : goal.decreases-loop-work
decreases-loop-work g l = vec_len l.works
