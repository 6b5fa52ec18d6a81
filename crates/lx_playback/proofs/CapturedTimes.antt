-- A run captures its times from a valid cue: at least one entry, and no time above the longest.
use Rattle.lx_playback.proofs.Imports.{◌≤◌, List, [], ◌∷◌, length, map, IsTrue, AllByRecursion, arith, ValidPart, captured, ValidTimes}
use Rattle.lx_spec.specs.declared.Part.{Part}
use Rattle.lx_spec.specs.SortedList.{has_entry}

pub captured_valid : (parts : List Part) → AllByRecursion ValidPart parts → AllByRecursion ValidTimes (map captured parts)
captured_valid [] all = tt
captured_valid (part ∷ parts) all = (
  record { up = all.0.up; up_delay = all.0.up_delay; down = all.0.down; down_delay = all.0.down_delay },
  captured_valid parts all.1,
)

pub some_captured : (parts : List Part) → IsTrue (has_entry (λ p. p.number) 1 parts) → 1 ≤ length (map captured parts)
some_captured [] has = absurd cc
some_captured (part ∷ parts) has = omega arith
