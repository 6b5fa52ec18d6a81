use Rattle.std.proofs.Common.{map, take}
use Rattle.lx_base.specs.Numbers.{scaled}
use Rattle.lx_spec.specs.Run.{greatest}
use Rattle.lx_spec.specs.Output.{level_among, fader}
use Rattle.lx_mixer.specs.Table.{IsTable}
use Rattle.lx_subs.proofs.contributions.fill.Given as goal

abbrev pub invariant-loop-sub : goal.invariant-loop-sub
invariant-loop-sub l = IsTable l.show.channels
    (λ c. greatest (map (λ sub. scaled (level_among sub.members c) (fader l.faders sub.number)) (take l.sub-index l.subs))) l.contributions
