use Rattle.lx_playback.proofs.Imports.{◌≡◌, map, take, captured}
use Rattle.lx_playback.proofs.run.captured_all.Given as goal

abbrev pub invariant-loop-part : goal.invariant-loop-part
invariant-loop-part l = l.entries.items ≡ map captured (take l.part-index l.part-items)
