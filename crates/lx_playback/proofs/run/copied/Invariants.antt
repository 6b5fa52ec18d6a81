use Rattle.lx_playback.proofs.Imports.{◌≡◌, take}
use Rattle.lx_playback.proofs.run.copied.Given as goal

abbrev pub invariant-loop-entry : goal.invariant-loop-entry
invariant-loop-entry l = l.copies.items ≡ take l.entry-index l.entry-items
