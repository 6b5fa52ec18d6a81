use Rattle.lx_console.proofs.Imports.{ℕ, ◌<◌, slice_index_or, IsFrom}
use Rattle.lx_console.proofs.Apart.{no_run}
use Rattle.lx_console.proofs.unseen.first_from.Given as goal

abbrev pub invariant-loop-k : goal.invariant-loop-k
invariant-loop-k l = record {
  base : IsFrom l.first l.n l.playback.base;
  runs : (i : ℕ) → i < l.k → IsFrom l.first l.n (slice_index_or l.live i no_run).cue;
}
