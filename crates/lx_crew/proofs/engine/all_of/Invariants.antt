use Rattle.lx_crew.proofs.Imports.{◌≡◌, ◌<◌, ℕ, true, slice_get, Some}
use Rattle.lx_crew.proofs.engine.all_of.Given as goal

abbrev pub invariant-loop-place : goal.invariant-loop-place
invariant-loop-place l = (k : ℕ) → k < l.place → slice_get l.ended k ≡ Some true
