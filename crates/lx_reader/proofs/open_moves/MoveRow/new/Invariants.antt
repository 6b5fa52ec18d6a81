use Rattle.lx_reader.proofs.Imports.{◌≡◌, ℕ, ◌+◌, ◌<◌, length, IfSome, slice_get}
use Rattle.lx_reader.proofs.open_moves.MoveRow.new.Given as goal

abbrev pub invariant-loop-index : goal.invariant-loop-index
invariant-loop-index l = record {
  long : length l.moves ≡ 4096;
  numbered : (k : ℕ) → k < l.index → IfSome (slice_get l.moves k) (λ m. m.chan ≡ 1 + k);
}
