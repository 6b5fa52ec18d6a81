use Rattle.std.proofs.Common.{◌≡◌, ℕ, ◌<◌, ◌*◌, slice_index}
use Rattle.lx_base.specs.Numbers.{scaled}
use Rattle.lx_base.proofs.rows.scale_into.Given as goal

abbrev pub invariant-loop-i : goal.invariant-loop-i
invariant-loop-i l = (k : ℕ) → k < 32 * l.i → slice_index l.out k ≡ scaled (slice_index l.levels k) (slice_index l.by k)
