-- What a worker promises, and what an outlet has at the end.
use Rattle.std.specs.Prelude.{◌≡◌, ℕ, ◌+◌, ◌-◌, ◌^◌, ◌⊎◌, List, [], ◌∷◌, length, min, Some, None}
use Rattle.std.specs.declared.option.Option.{Option}
use Rattle.std.specs.Io.KnownBytes.{Appends}
use mathlib.Core.List.{IsPrefix}
use Rattle.lx_io.specs.declared.sink.SinkFault.{SinkFault}
use Rattle.lx_io.specs.Causes.{Rose, one_more}
use Rattle.lx_io.specs.Told.{ToldBySink}
use Rattle.lx_spec.specs.declared.Command.{Command}
use Rattle.lx_spec.specs.Show.{Show}
use Rattle.lx_gate.specs.Readings.{Tapped, Told, newest}
use Rattle.lx_workers.specs.declared.worker.Served.{Served}
use Rattle.lx_spec.specs.Versions.{outlet_text, Older}
use Rattle.lx_workers.specs.Lines.{HasWritten, HasWrittenPart, HasFault}

-- a count rose, or is as before
abbrev pub RoseOrSame : ℕ → ℕ → Type 0
RoseOrSame before now = (now ≡ before) ⊎ Rose before now

-- the port had exactly this many readings and misses, as far as they can be counted
abbrev pub HasTakenTimes : Told → Told → ℕ → Type 0
HasTakenTimes before now takes = min (now.reads + now.misses) (2 ^ 64 - 1) ≡ min (before.reads + before.misses + takes) (2 ^ 64 - 1)

-- From the tap and the sink before to those after a worker's run. Behind a line without a fault the sink keeps nothing back. What the port
-- has seen never falls.
pub record HasServed {K : Type 0} (told : ToldBySink K) (show : Show) (tap tap' : Tapped) (sink sink' : K) (served : Served) : Type 0 where
  pub written : served.fault ≡ None → HasWritten show tap.universe (told.holds sink) (told.holds sink') (newest tap'.told) served.taken served.last
  pub part : (f : SinkFault) → served.fault ≡ Some f → HasWrittenPart told show tap.universe sink sink' (newest tap'.told) f
  pub cause : HasFault told sink sink' served.fault
  pub handed_on : (count : ℕ) → served.fault ≡ None → served.last ≡ Some count → told.back sink' ≡ []
  pub goes_on : IsPrefix (newest tap.told) (newest tap'.told)
  pub seen : IsPrefix tap.told.seen tap'.told.seen
  pub takes : HasTakenTimes tap.told tap'.told served.takes
  pub same_universe : tap'.universe ≡ tap.universe
  pub reads : RoseOrSame tap.told.reads tap'.told.reads
  pub misses : RoseOrSame tap.told.misses tap'.told.misses

-- a step of a worker that had no fault: what was served up to it is served up to its end
pub record HasStepped {K : Type 0} (told : ToldBySink K) (show : Show) (tap tap' : Tapped) (sink sink' : K) (served served' : Served) : Type 0 where
  pub serves : (start : Tapped) (from : K) → HasServed told show start tap from sink served → HasServed told show start tap' from sink' served'
  pub goes_on : IsPrefix (newest tap.told) (newest tap'.told)
  pub seen : IsPrefix tap.told.seen tap'.told.seen
  pub same_learnt : tap'.told.learnt ≡ tap.told.learnt
  pub takes : served'.takes ≡ one_more served.takes
  pub last : (start : Tapped) (from : K) → HasServed told show start tap from sink served → served'.fault ≡ None
      → served'.last ≡ Some (length (newest tap'.told))

-- The line of what a tap keeps is the last one, unless the sink failed in it: what was served before is served so.
pub record HasPutNewest {K : Type 0} (told : ToldBySink K) (show : Show) (tap : Tapped) (sink sink' : K) (served served' : Served) : Type 0 where
  pub serves : (start : Tapped) (from : K) → HasServed told show start tap from sink served → HasServed told show start tap from sink' served'
  pub takes : served'.takes ≡ served.takes
  pub last : (start : Tapped) (from : K) → HasServed told show start tap from sink served → served'.fault ≡ None
      → served'.last ≡ Some (length (newest tap.told))

-- the tap's port had a reading or a miss
abbrev pub HasLooked : Told → Told → Type 0
HasLooked before now = Rose before.reads now.reads ⊎ Rose before.misses now.misses

-- a worker that had no fault: its last line is that of the newest list, and its port had a reading or a miss
pub record HasEnded (before now : Told) (served : Served) : Type 0 where
  pub last : served.fault ≡ None → served.last ≡ Some (length (newest now))
  pub looked : served.fault ≡ None → HasLooked before now

-- an outlet has the lines of rising prefixes of what was published, of which the last is all that was published
pub record HasAll (show : Show) (universe : ℕ) (before after : Option (List ℕ)) (published : List Command) : Type 0 where
  pub earlier : List (List Command)
  pub chain : Older published earlier
  pub text : Appends before after (outlet_text show universe (published ∷ earlier))

-- What an outlet got, and its fault. With one, lines of rising prefixes of what was published, and a part of one more. Without one it keeps
-- nothing back.
pub record Delivered {K : Type 0} (told : ToldBySink K) (show : Show) (universe : ℕ)
    (sink sink' : K) (published : List Command) (fault : Option SinkFault) : Type 0 where
  pub whole : fault ≡ None → HasAll show universe (told.holds sink) (told.holds sink') published
  pub part : (f : SinkFault) → fault ≡ Some f → HasWrittenPart told show universe sink sink' published f
  pub cause : HasFault told sink sink' fault
  pub handed_on : fault ≡ None → told.back sink' ≡ []
