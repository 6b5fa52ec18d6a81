-- A show that wasn't read: its line was written where its text has a fault, and else nothing.
use Rattle.std.specs.Prelude.{◌≡◌, ◌⊎◌, Option, List, ℕ}
use Rattle.std.specs.Io.KnownBytes.{Appends}
use Rattle.lx_io.specs.Puts.{AppendsFront}
use Rattle.lx_spec.specs.declared.TextFault.{TextFault}
use Rattle.lx_spec.specs.FaultLine.{fault_text}
use Rattle.lx_reader.specs.declared.fault.ShowFault.{ShowFault}
use Rattle.lx_reader.specs.declared.fault.ShowFault.TheVariants as faults
use Rattle.lx_desk.specs.declared.desk.Status.{Status}
use Rattle.lx_desk.specs.declared.desk.Status.TheVariants as status

-- the status of a fault that isn't one of the text
abbrev pub status_kept : ShowFault → Status → Type 0
status_kept faults.ReadFault s = s ≡ status.ReadFault
status_kept faults.InputTooLong s = s ≡ status.InputTooLong
status_kept faults.Memory s = s ≡ status.Memory
status_kept (faults.Text text) s = ⊥

-- the line of a fault of the text was written, or a front of it
pub record RefusesText (held held' : Option (List ℕ)) (fault : ShowFault) (s : Status) : Type 0 where
  pub text : TextFault
  pub told : fault ≡ faults.Text text
  pub whole : s ≡ status.ShowRefused → Appends held held' (fault_text text)
  pub front : AppendsFront held held' (fault_text text)
  pub kinds : (s ≡ status.ShowRefused) ⊎ ((s ≡ status.WriteFault) ⊎ (s ≡ status.Memory))

-- nothing was written
pub record TellsOther (held held' : Option (List ℕ)) (fault : ShowFault) (s : Status) : Type 0 where
  pub kept : held' ≡ held
  pub is : status_kept fault s

abbrev pub RefusedBy : Option (List ℕ) → Option (List ℕ) → ShowFault → Status → Type 0
RefusedBy held held' fault s = RefusesText held held' fault s ⊎ TellsOther held held' fault s
