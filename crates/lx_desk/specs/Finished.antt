-- What a status tells of the counts of faults, and of what is kept back.
use Rattle.std.specs.Prelude.{◌≡◌, ◌⊎◌, ℕ, []}
use Rattle.lx_io.specs.Causes.{Rose}
use Rattle.lx_io.specs.Told.{ToldBySink}
use Rattle.lx_desk.specs.declared.desk.Status.{Status}
use Rattle.lx_desk.specs.declared.desk.Status.TheVariants as status

-- a job was done to its end: its text was written, or the line of a show that is refused
abbrev pub IsDone : Status → Type 0
IsDone status.Ok = Unit {0}
IsDone status.ShowRefused = Unit {0}
IsDone other = ⊥

-- the input couldn't be read on
abbrev pub IsOfInput : Status → Type 0
IsOfInput status.ReadFault = Unit {0}
IsOfInput status.InputTooLong = Unit {0}
IsOfInput other = ⊥

-- A job that was done passed over no fault, and all that it wrote is handed on. Where a read failed, nothing was written or all of it is
-- handed on; and a fault of the input comes only where the output wasn't out of memory.
pub record Finishes {K : Type 0} (reads reads' : ℕ) (told : ToldBySink K) (output output' : K) (s : Status) : Type 0 where
  pub reads_kept : IsDone s → reads' ≡ reads
  pub writes_kept : IsDone s → told.faults output' ≡ told.faults output
  pub wants_kept : IsDone s → told.wants output' ≡ told.wants output
  pub handed_on : IsDone s → told.back output' ≡ []
  pub waited : s ≡ status.ReadFault → (output' ≡ output) ⊎ (told.back output' ≡ [])
  pub wants_alone : IsOfInput s → told.wants output' ≡ told.wants output

-- Out of memory: the heap refused some, or the output itself was.
abbrev pub WantsMemory : {K : Type 0} → ToldBySink K → (refusals refusals' : ℕ) → (output output' : K) → Status → Type 0
WantsMemory told refusals refusals' output output' s =
    s ≡ status.Memory → Rose refusals refusals' ⊎ Rose (told.wants output) (told.wants output')

-- Out of memory: before anything was written, or the output itself was.
abbrev pub HasWanted : {K : Type 0} → ToldBySink K → (output output' : K) → Status → Type 0
HasWanted told output output' s = s ≡ status.Memory → (output' ≡ output) ⊎ Rose (told.wants output) (told.wants output')
