use Rattle.lx_reader.proofs.Imports.{◌≡◌, ℕ, ◌<◌, true, IfSome, slice_get}
use Rattle.lx_reader.proofs.open_moves.are_there.Given as goal

abbrev pub invariant-loop-there : goal.invariant-loop-there
invariant-loop-there l = l.all ≡ true → (k : ℕ) → k < l.there-index → IfSome (slice_get l.flags k) (λ there. there ≡ true)
