-- What telling a text comes to, what refusing a show does, and what a whole job does, each by its status.
use Rattle.std.specs.Prelude.{◌≡◌, ◌⊎◌, ◌≤◌, ℕ, IfSome, List, Option}
use Rattle.std.specs.Io.KnownBytes.{Appends}
use Rattle.lx_io.specs.Causes.{Rose}
use Rattle.lx_io.specs.Puts.{AppendsFront}
use Rattle.lx_io.specs.Told.{ToldBySink}
use Rattle.lx_spec.specs.declared.Job.{Job}
use Rattle.lx_reader.specs.declared.fault.ShowFault.{ShowFault}
use Rattle.lx_reader.specs.declared.fault.ShowFault.TheVariants as faults
use Rattle.lx_session.specs.Spared.{ByRefusals}
use Rattle.lx_desk.specs.declared.desk.Status.{Status}
use Rattle.lx_desk.specs.declared.desk.Status.TheVariants as status
use Rattle.lx_desk.specs.Output.{WritesPrefix}
use Rattle.lx_desk.specs.Endings.{EndsJob, HasEndedBy, HasCauseOf}
use Rattle.lx_desk.specs.Finished.{Finishes, HasWanted, WantsMemory}
use Rattle.lx_desk.specs.ShowRefusal.{RefusedBy}

-- What a status tells of the counts: a fault of the outside comes only where its count rose, what was done passed over none and is handed
-- on, and memory is told only where a heap refused some or the output was out of it. The reads failed from one count to another, and a
-- heap's count of refusals went from one number to another.
pub record Accounts {K : Type 0} (told : ToldBySink K) (refusals refusals' reads reads' : ℕ) (output output' : K) (s : Status) : Type 0 where
  pub cause : HasCauseOf s reads reads' (told.faults output) (told.faults output')
  pub finished : Finishes reads reads' told output output' s
  pub memory : HasWanted told output output' s
  pub wanted : WantsMemory told refusals refusals' output output' s
  pub later : refusals ≤ refusals'

-- A text was appended and handed on, and the status is the good one; or a front of it was, and a write failed or memory was short.
pub record Tells {K : Type 0} (told : ToldBySink K) (refusals refusals' : ℕ) (good : Status) (text : List ℕ) (output output' : K) (s : Status)
    : Type 0 where
  pub whole : s ≡ good → Appends (told.holds output) (told.holds output') text
  pub front : AppendsFront (told.holds output) (told.holds output') text
  pub kinds : (s ≡ good) ⊎ ((s ≡ status.WriteFault) ⊎ (s ≡ status.Memory))
  pub accounts : (reads : ℕ) → Accounts told refusals refusals' reads reads output output' s

-- A show was refused for this fault, or couldn't be read.
pub record Refuses {K : Type 0} (told : ToldBySink K) (fault : ShowFault) (output output' : K) (s : Status) : Type 0 where
  pub refused : RefusedBy (told.holds output) (told.holds output') fault s
  pub write : s ≡ status.WriteFault → Rose (told.faults output) (told.faults output')
  pub finished : (reads : ℕ) → Finishes reads reads told output output' s
  pub memory : HasWanted told output output' s
  pub wanted : s ≡ status.Memory → (fault ≡ faults.Memory) ⊎ Rose (told.wants output) (told.wants output')
  pub untouched : (s ≡ status.ReadFault) ⊎ (s ≡ status.InputTooLong) → output' ≡ output

-- A job was done over the bytes that were given, of which so much is left.
pub record Does {K : Type 0} (told : ToldBySink K) (refusals refusals' : ℕ) (job : Job) (given left : Option (List ℕ)) (reads reads' : ℕ)
    (output output' : K) (s : Status) : Type 0 where
  pub works : EndsJob s
  pub ended : ByRefusals refusals refusals'
      (λ most. IfSome given (λ bytes. HasEndedBy most s job bytes left (told.holds output) (told.holds output')))
  pub prefix : IfSome given (λ bytes. WritesPrefix job bytes (told.holds output) (told.holds output'))
  pub accounts : Accounts told refusals refusals' reads reads' output output' s
  pub open accounts use *
