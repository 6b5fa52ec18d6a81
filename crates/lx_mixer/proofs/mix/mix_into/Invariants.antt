use Rattle.lx_mixer.proofs.Imports.{◌*◌, IsMixed}
use Rattle.lx_mixer.proofs.mix.mix_into.Given as goal

abbrev pub invariant-loop-i : goal.invariant-loop-i
invariant-loop-i l = IsMixed l.playback l.subs l.master l.out 0 (128 * l.i)
