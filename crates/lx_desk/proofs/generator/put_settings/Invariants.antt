use Rattle.lx_desk.proofs.Imports.{Ok, take, flat_map, Puts, chan_text}
use Rattle.lx_desk.proofs.generator.put_settings.Given as goal

abbrev pub invariant-loop-setting : goal.invariant-loop-setting
invariant-loop-setting g l = Puts {T = Unit {0}} g.K.Sink l.initial.sink l.sink (Ok tt) (flat_map chan_text (take l.setting-index l.settings))
