-- The entry that a run takes for a channel is one of its own.
use Rattle.lx_levels.proofs.Imports.{◌≤◌, List, [], ◌∷◌, length, unwrap_or, option_and_then, ◌==◌, Some, None, ℕ, AllByRecursion, arith, entry_at}
use Rattle.lx_levels.proofs.Imports.{Show, move_of, Run, first_entry, entry_for}
use Rattle.lx_spec.specs.declared.PartTimes.{PartTimes}
use Rattle.lx_spec.proofs.Instant.{All-find}

first_holds : (P : PartTimes → Type 0) (entries : List PartTimes) → 1 ≤ length entries → AllByRecursion P entries → P (first_entry entries)
first_holds P [] some all = absurd (omega arith)
first_holds P (entry ∷ entries) some all = all.0

pub entry_holds : (P : PartTimes → Type 0) (show : Show) (run : Run) (c : ℕ) → 1 ≤ length run.parts → AllByRecursion P run.parts
    → P (entry_for show run c)
entry_holds P show run c some all =
    let first = first_holds P run.parts some all in
    elim (move_of show run.cue c) as (λ o. P
    (unwrap_or (option_and_then (λ m. entry_at (λ e. e.part) m.part run.parts) o) (first_entry run.parts))) [
      | None ↦ first
      | Some m ↦ All-find P (λ e. e.part == m.part) (first_entry run.parts) run.parts all first
    ]
