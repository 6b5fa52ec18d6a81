-- The limit of the input, and the causes of a session's faults.
use Rattle.std.specs.Prelude.{◌≡◌, ◌≤◌, ◌<◌, ℕ, ◌+◌, IfErr, OnOk, Result, Ok, Err, List, length}
use Rattle.lx_base.specs.declared.TheConstants.{INPUT_BYTES}
use Rattle.lx_io.specs.Causes.{Rose}
use Rattle.lx_io.specs.Told.{ToldBySink, ToldBySource}
use Rattle.lx_lex.specs.declared.lines.Lines.{Lines}
use Rattle.lx_spec.specs.Session.{bytes_wanted}
use Rattle.lx_session.specs.declared.fault.SessionFault.{SessionFault}
use Rattle.lx_session.specs.declared.fault.SessionFault.TheVariants.{ReadFault, WriteFault, InputTooLong, Memory}
use Rattle.lx_session.specs.declared.tally.Tally.{Tally}

-- a session that ends well wants no byte past the limit of the input, and `InputTooLong` is told only where it wants one
abbrev pub KeepsLimit : ℕ → List ℕ → Result Tally SessionFault → Type 0
KeepsLimit before bytes (Ok tally) = before + length (bytes_wanted bytes) ≤ INPUT_BYTES
KeepsLimit before bytes (Err InputTooLong) = INPUT_BYTES < before + length (bytes_wanted bytes)
KeepsLimit before bytes (Err other) = Unit {0}

-- the count that a fault stands for: failed reads, failed writes, or times that the sink was out of memory
abbrev pub HasRisen : SessionFault → (reads reads' faults faults' wants wants' : ℕ) → Type 0
HasRisen ReadFault reads reads' faults faults' wants wants' = Rose reads reads'
HasRisen WriteFault reads reads' faults faults' wants wants' = Rose faults faults'
HasRisen InputTooLong reads reads' faults faults' wants wants' = Unit {0}
HasRisen Memory reads reads' faults faults' wants wants' = Rose wants wants'

-- no other fault is passed over: one of the input comes only where the output had none, and one of the output only where the input had none
abbrev pub IsAlone : SessionFault → (reads reads' faults faults' wants wants' : ℕ) → Type 0
IsAlone ReadFault reads reads' faults faults' wants wants' = (faults' ≡ faults) × (wants' ≡ wants)
IsAlone WriteFault reads reads' faults faults' wants wants' = reads' ≡ reads
IsAlone InputTooLong reads reads' faults faults' wants wants' = (reads' ≡ reads) × ((faults' ≡ faults) × (wants' ≡ wants))
IsAlone Memory reads reads' faults faults' wants wants' = reads' ≡ reads

-- no count has fallen, a fault comes only where its own count rose and the other side had none, and an Ok only where all stand
-- as they were
pub record HasSessionCause {S K T : Type 0} (told_in : ToldBySource S) (told_out : ToldBySink K) (old new : Lines S) (sink sink' : K)
    (result : Result T SessionFault) : Type 0 where
  pub later : told_in.faults old.source.now ≤ told_in.faults new.source.now
  pub sink_later : told_out.faults sink ≤ told_out.faults sink'
  pub wants_later : told_out.wants sink ≤ told_out.wants sink'
  pub failed : IfErr result
      (λ fault. HasRisen fault (told_in.faults old.source.now) (told_in.faults new.source.now) (told_out.faults sink) (told_out.faults sink')
      (told_out.wants sink) (told_out.wants sink'))
  pub alone : IfErr result
      (λ fault. IsAlone fault (told_in.faults old.source.now) (told_in.faults new.source.now) (told_out.faults sink) (told_out.faults sink')
      (told_out.wants sink) (told_out.wants sink'))
  pub kept : OnOk result ((told_in.faults new.source.now ≡ told_in.faults old.source.now) × (told_out.faults sink' ≡ told_out.faults sink)
      × (told_out.wants sink' ≡ told_out.wants sink))
