use Rattle.lx_mixer.proofs.Imports.{◌≡◌, ℕ, ◌<◌, slice_index, IsMixed}
use Rattle.lx_mixer.proofs.mix.mix_rest.Given as goal

abbrev pub invariant-loop-i : goal.invariant-loop-i
invariant-loop-i l = record {
  before : (k : ℕ) → k < l.from → slice_index l.out k ≡ slice_index l.initial.out k;
  rest : IsMixed l.playback l.subs l.master l.out l.from l.i;
}
