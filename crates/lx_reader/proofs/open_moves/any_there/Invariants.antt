use Rattle.lx_reader.proofs.Imports.{◌≡◌, ℕ, ◌<◌, false, IfSome, slice_get}
use Rattle.lx_reader.proofs.open_moves.any_there.Given as goal

abbrev pub invariant-loop-there : goal.invariant-loop-there
invariant-loop-there l = l.any ≡ false → (k : ℕ) → k < l.there-index → IfSome (slice_get l.flags k) (λ there. there ≡ false)
