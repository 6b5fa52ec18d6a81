-- What two lists stand for, and how they answer.
use Rattle.std.specs.Prelude.{◌≡◌, ◌⊎◌, ℕ, Bool, true, max, Result, Err, OnOk, IfErr, IsOk, if◌then◌else◌}
use Rattle.std.specs.Result.{IsOkAnd}
use Rattle.lx_base.specs.Numbers.{scaled}
use Rattle.lx_spec.specs.declared.Refusal.{Refusal}
use Rattle.lx_spec.specs.declared.Refusal.TheVariants.{Memory}
use Rattle.lx_spec.specs.Output.{contribution}
use Rattle.lx_spec.specs.Kept.{Kept}
use Rattle.lx_spec.specs.TwoLists.{TwoDesks}
use Rattle.lx_console.specs.ConsoleMeaning.{StandsFor, level_now}

-- what is kept of both desks: all but their lists of all runs
pub record TwoKept : Type 0 where
  pub first : Kept
  pub second : Kept

abbrev pub list_of : TwoKept → Bool → Kept
list_of t second = if second then t.second else t.first

-- each console stands for its desk
pub record TwoStand (s : TwoDesks) (t : TwoKept) : Type 0 where
  pub first : StandsFor s.first t.first
  pub second : StandsFor s.second t.second

-- the output of a channel: the greatest of both playbacks and of the first list's submasters, under its master
abbrev pub out_of_both : TwoKept → ℕ → ℕ
out_of_both t c =
    scaled (max (max (level_now t.first c) (level_now t.second c)) (contribution t.first.show t.first.faders c)) t.first.master

-- The answer to a step: Ok where it isn't refused, and then what is kept stands for the state after it. A refusal is the step's own.
pub record Steps {A : Type 0} (step : Result TwoDesks Refusal) (answer : Result A Refusal) (t : TwoKept) : Type 0 where
  pub ok : OnOk answer (IsOkAnd step (λ next. TwoStand next t))
  pub err : IfErr answer (λ refusal. step ≡ Err refusal)

-- memory ran out at a step that takes some, and isn't refused
pub record TwoWantMemory (takes : Bool) (step : Result TwoDesks Refusal) (refusal : Refusal) : Type 0 where
  pub takes_some : takes ≡ true
  pub memory : refusal ≡ Memory
  pub accepted : IsOk step

-- As `Steps`, but that out of memory may refuse a step that takes some.
pub record TakesStep {A : Type 0} (takes : Bool) (step : Result TwoDesks Refusal) (answer : Result A Refusal) (t : TwoKept) : Type 0 where
  pub ok : OnOk answer (IsOkAnd step (λ next. TwoStand next t))
  pub err : IfErr answer (λ refusal. (step ≡ Err refusal) ⊎ TwoWantMemory takes step refusal)
