use Rattle.std.proofs.Common.{◌≡◌, ℕ, ◌≤◌, ◌<◌, slice_index}
use Rattle.lx_base.specs.Numbers.{scaled}
use Rattle.lx_base.proofs.rows.scale_rest.Given as goal

abbrev pub invariant-loop-i : goal.invariant-loop-i
invariant-loop-i l = record {
  before : (k : ℕ) → k < l.from → slice_index l.out k ≡ slice_index l.initial.out k;
  rest : (k : ℕ) → l.from ≤ k → k < l.i → slice_index l.out k ≡ scaled (slice_index l.levels k) (slice_index l.by k);
}
