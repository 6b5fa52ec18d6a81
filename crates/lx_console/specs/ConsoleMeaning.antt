-- What a console stands for, and what it has to tell of it.
use Rattle.std.specs.Prelude.{◌≡◌, ◌⊎◌, ℕ, true, max, Result, Err, OnOk, IfErr, IsOk}
use Rattle.std.specs.Result.{IsOkAnd}
use Rattle.lx_base.specs.Numbers.{scaled}
use Rattle.lx_spec.specs.declared.Command.{Command}
use Rattle.lx_spec.specs.declared.Refusal.{Refusal}
use Rattle.lx_spec.specs.declared.Refusal.TheVariants.{Memory}
use Rattle.lx_spec.specs.Level.{level}
use Rattle.lx_spec.specs.Desk.{Desk, step}
use Rattle.lx_spec.specs.WantedMemory.{may_lack_memory}
use Rattle.lx_spec.specs.Output.{contribution}
use Rattle.lx_spec.specs.Kept.{Kept, kept}
use Rattle.lx_spec.specs.Laws.{KeepsRest}

-- the level of a channel at the present moment, over the base and the live runs
abbrev pub level_now : Kept → ℕ → ℕ
level_now console c = level console.show console.playback.base console.playback.live c console.playback.moment

-- the output of a channel at the present moment
abbrev pub out_now : Kept → ℕ → ℕ
out_now console c = scaled (max (level_now console c) (contribution console.show console.faders c)) console.master

-- The console is all of a desk but its list of all runs, of which those before the live ones may be forgotten.
pub record StandsFor (d : Desk) (console : Kept) : Type 0 where
  pub same : console ≡ kept d
  pub rest : KeepsRest d

-- The answer to a command of the desk: where it is Ok, the desk accepts the command and the console then stands for the desk after it. A
-- refusal is the desk's own.
pub record Obeys {A : Type 0} (d : Desk) (command : Command) (answer : Result A Refusal) (console : Kept) : Type 0 where
  pub ok : OnOk answer (IsOkAnd (step d command) (λ next. StandsFor next console))
  pub err : IfErr answer (λ refusal. step d command ≡ Err refusal)

-- out of memory refuses an edit that may take some, and that the desk accepts
pub record WantsMemory (d : Desk) (command : Command) (refusal : Refusal) : Type 0 where
  pub takes_some : may_lack_memory command ≡ true
  pub memory : refusal ≡ Memory
  pub accepted : IsOk (step d command)

-- a refusal is the desk's own, or out of memory at an edit that may take some
abbrev pub Refuses : Desk → Command → Refusal → Type 0
Refuses d command refusal = (step d command ≡ Err refusal) ⊎ WantsMemory d command refusal

-- As `Obeys`, but that an edit that may take memory may be refused for lack of it.
pub record Answers {A : Type 0} (d : Desk) (command : Command) (answer : Result A Refusal) (console : Kept) : Type 0 where
  pub ok : OnOk answer (IsOkAnd (step d command) (λ next. StandsFor next console))
  pub err : IfErr answer (Refuses d command)
