use Rattle.std.proofs.Common.{take, Ok}
use Rattle.std.specs.Prelude.{flat_map}
use Rattle.lx_io.specs.Puts.{Puts}
use Rattle.lx_spec.specs.SheetOutput.{cue_lines}
use Rattle.lx_report.proofs.cue_list.put_cue_list.Given as goal

abbrev pub invariant-loop-cue : goal.invariant-loop-cue
invariant-loop-cue g l = Puts {T = Unit {0}} g.K.Sink l.initial.sink l.sink (Ok tt) (flat_map (cue_lines l.show) (take l.cue-index l.show.cues))
