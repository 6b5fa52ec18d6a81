-- What a port and a tap tell of a reading, and of what they learnt.
use Rattle.std.specs.Prelude.{◌≡◌, ℕ, ◌+◌, List, []}
use mathlib.Core.List.{IsPrefix}
use Rattle.lx_io.specs.Causes.{one_more}
use Rattle.lx_spec.specs.Show.{Show}
use Rattle.lx_spec.specs.declared.Command.{Command}
use Rattle.lx_gate.specs.declared.stamp.Stamp.{Stamp}
use Rattle.lx_gate.specs.CommandLists.{longest}
use Rattle.lx_gate.specs.Frames.{IsFrame}

-- the list that was read last, the longest of those learnt by notes, and how often there was a reading and none
pub record Told : Type 0 where
  pub seen : List Command
  pub learnt : List Command
  pub reads : ℕ
  pub misses : ℕ

-- what contracts see of a tap
pub record Tapped : Type 0 where
  pub universe : ℕ
  pub told : Told

-- a tap of the universe that has taken and learnt nothing
abbrev pub nothing_told : ℕ → Tapped
nothing_told u = record { universe = u; told = record { seen = []; learnt = []; reads = 0; misses = 0 } }

-- the tap at place k is that of universe k + 1, and has taken and learnt nothing
abbrev pub IsNewTap : ℕ → Tapped → Type 0
IsNewTap k tap = tap ≡ nothing_told (k + 1)

-- the longer of the list seen and the list learnt
abbrev pub newest : Told → List Command
newest told = longest told.seen told.learnt

-- a reading is the version of one list, which begins with the list seen before and with that learnt; it is then the list seen
pub record IsReading (show : Show) (universe : ℕ) (before now : Told) (slots : List ℕ) (stamp : Stamp) : Type 0 where
  pub frame : IsFrame show now.seen universe slots stamp
  pub goes_on : IsPrefix before.seen now.seen
  pub heard : IsPrefix before.learnt now.seen
  pub rose : now.reads ≡ one_more before.reads
  pub rest : now ≡ record before { seen = now.seen; reads = now.reads }

-- there was a reading, and it is counted once: its list is now seen, and none that was learnt is longer
pub record HasReadOn (before now : Told) : Type 0 where
  pub newest_is : newest now ≡ now.seen
  pub rose : now.reads ≡ one_more before.reads
  pub rest : now ≡ record before { seen = now.seen; reads = now.reads }

-- there was none: it is counted once as a miss, and all else is as before
pub record HasMissed (before now : Told) : Type 0 where
  pub rose : now.misses ≡ one_more before.misses
  pub rest : now ≡ record before { misses = now.misses }

-- the list of a note was learnt, and all else is as before
pub record HasLearnt (before now : Told) (list : List Command) : Type 0 where
  pub earlier : IsPrefix before.learnt now.learnt
  pub note : IsPrefix list now.learnt
  pub rest : now ≡ record before { learnt = longest before.learnt list }
