-- What a section is of is in the show.
use Rattle.std.specs.Prelude.{ℕ, IsTrue}
use Rattle.std.specs.Option.{IsSomeAnd}
use Rattle.lx_spec.specs.SortedList.{has_entry}
use Rattle.lx_spec.specs.Show.{Show}
use Rattle.lx_spec.specs.TrackedLevel.{cue_of}
use Rattle.lx_spec.specs.declared.Section.{Section}
use Rattle.lx_spec.specs.declared.Section.TheVariants.{NoRecord, InCue, InGroup, InSub, Skipping}

-- the show has the cue, and the cue the part
abbrev pub HasPartIn : Show → ℕ → ℕ → Type 0
HasPartIn show n p = IsSomeAnd (cue_of show n) (λ cue. IsTrue (has_entry (λ part. part.number) p cue.parts))

-- the show has what the section is of: the cue with the open part, the group or the submaster
abbrev pub IsOpen : Show → Section → ℕ → Type 0
IsOpen show (InCue n) p = HasPartIn show n p
IsOpen show (InGroup g) p = IsTrue (has_entry (λ group. group.number) g show.groups)
IsOpen show (InSub s) p = IsTrue (has_entry (λ sub. sub.number) s show.subs)
IsOpen show NoRecord p = Unit {0}
IsOpen show Skipping p = Unit {0}
