-- What a write, and a call that appends a text to a sink, do, by what the sink tells: what it holds, and its two counts.
use Rattle.std.specs.Prelude.{ℕ, ◌≤◌, ◌≡◌, List, ◌++◌, length, Result, OnOk, OnErr, IfErr, Some, None, ⊤}
use Rattle.std.specs.declared.option.Option.{Option}
use Rattle.std.specs.Io.{StartsWith}
use Rattle.std.specs.Io.KnownBytes.{Appends}
use Rattle.lx_io.specs.declared.sink.SinkFault.{SinkFault}
use Rattle.lx_io.specs.declared.sink.SinkFault.TheVariants.{Failed, Memory}
use Rattle.lx_io.specs.Causes.{Rose}

-- neither count of a sink has fallen, each fault comes only where its own count rose, and an Ok only where both stand as they were
pub record HasSinkCauseBy {S T : Type 0} (faults wants : S → ℕ) (old new : S) (result : Result T SinkFault) : Type 0 where
  pub later : faults old ≤ faults new
  pub wants_later : wants old ≤ wants new
  pub failed : IfErr result (λ e. e ≡ Failed → Rose (faults old) (faults new))
  pub memory : IfErr result (λ e. e ≡ Memory → Rose (wants old) (wants new))
  pub kept : OnOk result ((faults new ≡ faults old) × (wants new ≡ wants old))

-- a front of the text was appended: nothing that was held is lost, and what was held with the text behind it begins with what is held now
abbrev pub AppendsFront : Option (List ℕ) → Option (List ℕ) → List ℕ → Type 0
AppendsFront None new text = ⊤
AppendsFront (Some xs) None text = ⊥
AppendsFront (Some xs) (Some ys) text = (length xs ≤ length ys) × StartsWith (xs ++ text) ys

-- Ok: the text was appended. On a fault a front of it was, and the fault is the sink's own.
pub record PutsBy {S T : Type 0} (holds : S → Option (List ℕ)) (faults wants : S → ℕ) (old new : S) (result : Result T SinkFault)
    (text : List ℕ) : Type 0 where
  pub whole : OnOk result (Appends (holds old) (holds new) text)
  pub part : OnErr result (AppendsFront (holds old) (holds new) text)
  pub cause : HasSinkCauseBy faults wants old new result
