-- The works of the operators.
use Rattle.std.specs.Prelude.{◌≡◌, ℕ, true, List, [], Option, Some, slice_get}
use Rattle.lx_io.specs.Told.{ToldBySource}
use Rattle.crossbeam_queue.specs.Passes.{view, IsPassOf, IsSamePass, Pass}
use Rattle.lx_crew.specs.declared.entry.Message.{Message}
use Rattle.lx_crew.specs.declared.rule.View.{View}
use Rattle.lx_crew.specs.declared.operator.Operator.{Operator}
use Rattle.lx_crew.specs.Rule.{operator_view}
use Rattle.lx_crew.specs.SentLines.{HasSentLines}

-- the work at place k is that of the operator there, over the source of that place, and has pushed nothing
pub record Hired {S : Type 0} (Its : Pass Message View → Type 0) (places : List (Option S)) (k : ℕ) (w : Operator S) : Type 0 where
  pub its : Its w.pass
  pub own_queue : IsPassOf w.queue.now w.pass
  pub fresh : view w.pass ≡ operator_view k []
  pub place : w.place ≡ k
  pub source : slice_get places k ≡ Some (Some w.source)

-- it may run: its pass has pushed nothing
abbrev pub HasSentNothing : {S : Type 0} → Operator S → Type 0
HasSentNothing w = IsPassOf w.queue.now w.pass × (view w.pass ≡ operator_view w.place [])

-- what a work does: it stays at its place, and pushed its lines
abbrev pub HasRunOperator : {S : Type 0} → ToldBySource S → Operator S → Operator S → Type 0
HasRunOperator told x y =
    (y.place ≡ x.place) × (IsSamePass x.pass y.pass × HasSentLines told x.place x.source y.source (view y.pass) y.fault)

-- what its pass pushed
abbrev pub owned : {S : Type 0} → Operator S → ℕ × List Message
owned w = ((view w.pass).place, (view w.pass).pushed)

-- it has the pass of an operator
abbrev pub Works : {S : Type 0} → (Pass Message View → Type 0) → ℕ → Operator S → Type 0
Works Its k w = Its w.pass × ((view w.pass).pushes ≡ true)

-- it pushed all its lines and its last entry, from its source before on
pub record Retired {S : Type 0} (told : ToldBySource S) (Its : Pass Message View → Type 0) (places : List (Option S))
    (k : ℕ) (w : Operator S) : Type 0 where
  pub its : Its w.pass
  pub start : S
  pub source : slice_get places k ≡ Some (Some start)
  pub sent : HasSentLines told k start w.source (view w.pass) w.fault
