-- What a desk with a history stands for, and how it answers.
use Rattle.std.specs.Prelude.{◌≡◌, ◌⊎◌, ℕ, Bool, true, Result, Err, List, OnOk, IfErr, IsOk}
use Rattle.std.specs.Result.{IsOkAnd}
use Rattle.lx_spec.specs.declared.Refusal.{Refusal}
use Rattle.lx_spec.specs.declared.Refusal.TheVariants.{Memory}
use Rattle.lx_spec.specs.Show.{Show}
use Rattle.lx_spec.specs.Kept.{Kept}
use Rattle.lx_spec.specs.Undo.{UndoState}
use Rattle.lx_console.specs.ConsoleMeaning.{StandsFor}
use Rattle.lx_undo.specs.Shows.{KeptPlans, shows_before, shows_after}

-- what is kept of the state: all but the list of all runs
pub record UndoKept : Type 0 where
  pub console : Kept
  pub back : List Show
  pub forth : List Show
  pub depth : ℕ

-- the shows are those that the plans make in turn, from the console's own
abbrev pub seen : Kept → KeptPlans → UndoKept
seen k plans = record {
  console = k;
  back = shows_before k.show plans.back;
  forth = shows_after k.show plans.forth;
  depth = plans.depth;
}

-- the console stands for the desk, and the shows are those of the state
pub record UndoStands (s : UndoState) (u : UndoKept) : Type 0 where
  pub desk : StandsFor s.desk u.console
  pub back : u.back ≡ s.back
  pub forth : u.forth ≡ s.forth
  pub depth : u.depth ≡ s.depth

-- The answer to a step: Ok where it isn't refused, and then what is kept stands for the state after it. A refusal is the step's own.
pub record UndoSteps {A E : Type 0} (step : Result UndoState E) (answer : Result A E) (u : UndoKept) : Type 0 where
  pub ok : OnOk answer (IsOkAnd step (λ next. UndoStands next u))
  pub err : IfErr answer (λ fault. step ≡ Err fault)

-- memory ran out at a step that takes some, and isn't refused
pub record UndoWantsMemory (takes : Bool) (step : Result UndoState Refusal) (refusal : Refusal) : Type 0 where
  pub takes_some : takes ≡ true
  pub memory : refusal ≡ Memory
  pub accepted : IsOk step

-- As `UndoSteps`, but that out of memory may refuse a step that takes some.
pub record TakesUndoStep {A : Type 0} (takes : Bool) (step : Result UndoState Refusal) (answer : Result A Refusal) (u : UndoKept) : Type 0 where
  pub ok : OnOk answer (IsOkAnd step (λ next. UndoStands next u))
  pub err : IfErr answer (λ refusal. (step ≡ Err refusal) ⊎ UndoWantsMemory takes step refusal)
