-- Laws of two lists over replays: what holds after every list of calls.
use Rattle.std.specs.Prelude.{◌≡◌, ◌≢◌, ℕ, ◌≤◌, ⊤, Result, Ok, Err, List, [], ◌∷◌, ◌++◌, map, fold, OnErr}
use Rattle.std.specs.List.{AllByRecursion}
use Rattle.std.specs.Result.{result_unwrap_or}
use Rattle.lx_base.specs.declared.TheConstants.{SLOTS, UNIVERSES}
use Rattle.lx_spec.specs.declared.Command.{Command}
use Rattle.lx_spec.specs.declared.Refusal.{Refusal}
use Rattle.lx_spec.specs.declared.Refusal.TheVariants.{Memory}
use Rattle.lx_spec.specs.Show.{Show}
use Rattle.lx_spec.specs.Output.{dimmer_value}
use Rattle.lx_spec.specs.WantedMemory.{may_lack_memory}
use Rattle.lx_spec.specs.TwoLists.{TwoDesks, opened_two, first_step, second_step, tick_step, frame_of_two}
use Rattle.lx_mixer.specs.Table.{IsTable}
use Rattle.lx_console.specs.Slots.{universe}
use Rattle.lx_lists.specs.TwoListsMeaning.{TwoKept, TwoStand, Steps, TakesStep, out_of_both}

-- a call of two lists: a command of one of them, or a tick of both
pub data Call : Type 0 where
  First : Command → Call
  Second : Command → Call
  TickBoth : Call

-- the state after a call, or its refusal
abbrev pub call_step : TwoDesks → Call → Result TwoDesks Refusal
call_step s (First command) = first_step s command
call_step s (Second command) = second_step s command
call_step s TickBoth = tick_step s

-- the state after a call that may be refused, and then changes nothing
abbrev pub after_call : TwoDesks → Call → TwoDesks
after_call s call = result_unwrap_or (call_step s call) s

-- the state after the calls from the opening on, in order
abbrev pub replay_two : Show → List Call → TwoDesks
replay_two show calls = fold after_call (opened_two show) calls

-- a call that was done, its answer, and what is kept after it
pub record Done : Type 0 where
  pub call : Call
  pub answer : Result (Unit {0}) Refusal
  pub after : TwoKept

-- the call was answered as the calls of two lists promise
abbrev pub IsAnswered : TwoKept → Call → Result (Unit {0}) Refusal → TwoKept → Type 0
IsAnswered before (First command) answer after =
    (s : TwoDesks) → TwoStand s before → TakesStep (may_lack_memory command) (first_step s command) answer after
IsAnswered before (Second command) answer after =
    (s : TwoDesks) → TwoStand s before → TakesStep (may_lack_memory command) (second_step s command) answer after
IsAnswered before TickBoth answer after = (s : TwoDesks) → TwoStand s before → Steps (tick_step s) answer after

-- and a refusal left what is kept
pub record CommandIsDone (before : TwoKept) (d : Done) : Type 0 where
  pub answered : IsAnswered before d.call d.answer d.after
  pub unchanged : OnErr d.answer (d.after ≡ before)

-- the calls were done one after another
abbrev pub AreDone : TwoKept → List Done → Type 0
AreDone before [] = ⊤
AreDone before (d ∷ ds) = CommandIsDone before d × AreDone d.after ds

-- what is kept after the calls
abbrev pub kept_after : TwoKept → List Done → TwoKept
kept_after before [] = before
kept_after before (d ∷ ds) = kept_after d.after ds

-- the calls that were answered with Ok
abbrev pub if_accepted : Result (Unit {0}) Refusal → Call → List Call
if_accepted (Ok x) call = call ∷ []
if_accepted (Err refusal) call = []

abbrev pub accepted : List Done → List Call
accepted [] = []
accepted (d ∷ ds) = if_accepted d.answer d.call ++ accepted ds

-- From the opening on, after every list of calls, what is kept stands for the replay of those that were accepted; where none was
-- refused as out of memory, for the replay of all of them. The slots are the frames of both desks of that replay.
pub record LawOfTwoReplays : Type 0 where
  pub accepts : (show : Show) (opened : TwoKept) (done : List Done) → TwoStand (opened_two show) opened → AreDone opened done
      → TwoStand (replay_two show (accepted done)) (kept_after opened done)
  pub all : (show : Show) (opened : TwoKept) (done : List Done) → TwoStand (opened_two show) opened → AreDone opened done
      → AllByRecursion (λ d. d.answer ≢ Err Memory) done
      → TwoStand (replay_two show (map (λ d. d.call) done)) (kept_after opened done)
  pub frames : (show : Show) (opened : TwoKept) (done : List Done) (slots : List ℕ) (u : ℕ) → TwoStand (opened_two show) opened
      → AreDone opened done
      → IsTable SLOTS (dimmer_value (kept_after opened done).first.show.patch (out_of_both (kept_after opened done))) slots
      → 1 ≤ u → u ≤ UNIVERSES → universe u slots ≡ frame_of_two (replay_two show (accepted done)) u
