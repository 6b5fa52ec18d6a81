-- Calls of two lists one after another, from the opening on.
use Rattle.lx_lists.proofs.Imports.{◌≡◌, ◌≢◌, ℕ, ◌≤◌, Bool, false, Result, Ok, Err, List, [], ◌∷◌, map, fold, OnErr, IsOkAnd}
use Rattle.lx_lists.proofs.Imports.{AllByRecursion, result_unwrap_or, ap, sym, subst, inl, inr, fold-append, SLOTS, UNIVERSES, Refusal, Memory, Show}
use Rattle.lx_lists.proofs.Imports.{dimmer_value, may_lack_memory, TwoDesks, opened_two, tick_step, frame_of_two, IsTable, universe, TwoKept, TwoStand, Steps}
use Rattle.lx_lists.proofs.Imports.{TakesStep, out_of_both}
use Rattle.lx_lists.specs.Laws.{Call, First, Second, TickBoth, Done, IsAnswered, AreDone, after_call, call_step, replay_two}
use Rattle.lx_lists.specs.Laws.{kept_after, accepted, if_accepted}
use Rattle.lx_lists.proofs.TwoFrames.{frame_of_both}

stands_next : (r : Result TwoDesks Refusal) (s : TwoDesks) (t : TwoKept) → IsOkAnd r (λ next. TwoStand next t)
    → TwoStand (result_unwrap_or r s) t
stands_next (Ok next) s t ok = ok
stands_next (Err refusal) s t ok = absurd ok

stands_still : (s : TwoDesks) (before after : TwoKept) → TwoStand s before → after ≡ before → TwoStand s after
stands_still s before after stands same = subst (TwoStand s) (sym same) stands

-- a tick takes no memory
no_memory : {A : Type 0} (takes : Bool) (r : Result TwoDesks Refusal) (answer : Result A Refusal) (t : TwoKept) → Steps r answer t
    → TakesStep takes r answer t
no_memory takes r (Ok x) t steps = record { ok = steps.ok; err = tt }
no_memory takes r (Err refusal) t steps = record { ok = tt; err = inl steps.err }

abbrev wants : Call → Bool
wants (First command) = may_lack_memory command
wants (Second command) = may_lack_memory command
wants TickBoth = false

-- each call takes its step
takes_step : (call : Call) (answer : Result (Unit {0}) Refusal) (s : TwoDesks) (before after : TwoKept) → TwoStand s before
    → IsAnswered before call answer after → TakesStep (wants call) (call_step s call) answer after
takes_step (First command) answer s before after stands is = is s stands
takes_step (Second command) answer s before after stands is = is s stands
takes_step TickBoth answer s before after stands is = no_memory false (tick_step s) answer after (is s stands)

one_accepted : (call : Call) (answer : Result (Unit {0}) Refusal) (s : TwoDesks) (before after : TwoKept) → TwoStand s before
    → TakesStep (wants call) (call_step s call) answer after → OnErr answer (after ≡ before)
    → TwoStand (fold after_call s (if_accepted answer call)) after
one_accepted call (Ok x) s before after stands step same = stands_next (call_step s call) s after step.ok
one_accepted call (Err refusal) s before after stands step same = stands_still s before after stands same

one_done : (call : Call) (answer : Result (Unit {0}) Refusal) (s : TwoDesks) (before after : TwoKept) → TwoStand s before
    → TakesStep (wants call) (call_step s call) answer after → OnErr answer (after ≡ before) → answer ≢ Err Memory
    → TwoStand (after_call s call) after
one_done call (Ok x) s before after stands step same own = stands_next (call_step s call) s after step.ok
one_done call (Err refusal) s before after stands step same own = elim step.err as (λ e. TwoStand (after_call s call) after) [
  | inl refused ↦
      subst (λ (r : Result TwoDesks Refusal). TwoStand (result_unwrap_or r s) after) (sym refused) (stands_still s before after stands same)
  | inr want ↦ absurd (own (ap Err want.memory))
]

-- the calls that were accepted
all_accepted : (done : List Done) (s : TwoDesks) (before : TwoKept) → TwoStand s before → AreDone before done
    → TwoStand (fold after_call s (accepted done)) (kept_after before done)
all_accepted [] s before stands are = stands
all_accepted (d ∷ ds) s before stands are =
    subst (λ (next : TwoDesks). TwoStand next (kept_after d.after ds))
    (sym (fold-append after_call s (if_accepted d.answer d.call) (accepted ds)))
    (all_accepted ds (fold after_call s (if_accepted d.answer d.call)) d.after
    (one_accepted d.call d.answer s before d.after stands (takes_step d.call d.answer s before d.after stands are.0.answered)
    are.0.unchanged) are.1)

-- all calls, where no memory ran out
all_done : (done : List Done) (s : TwoDesks) (before : TwoKept) → TwoStand s before → AreDone before done
    → AllByRecursion (λ d. d.answer ≢ Err Memory) done
    → TwoStand (fold after_call s (map (λ d. d.call) done)) (kept_after before done)
all_done [] s before stands are own = stands
all_done (d ∷ ds) s before stands are own =
    all_done ds (after_call s d.call) d.after
    (one_done d.call d.answer s before d.after stands (takes_step d.call d.answer s before d.after stands are.0.answered)
    are.0.unchanged own.0) are.1 own.1

pub stands_accepted : (show : Show) (opened : TwoKept) (done : List Done) → TwoStand (opened_two show) opened → AreDone opened done
    → TwoStand (replay_two show (accepted done)) (kept_after opened done)
stands_accepted show opened done stands are = all_accepted done (opened_two show) opened stands are

pub stands_all : (show : Show) (opened : TwoKept) (done : List Done) → TwoStand (opened_two show) opened → AreDone opened done
    → AllByRecursion (λ d. d.answer ≢ Err Memory) done → TwoStand (replay_two show (map (λ d. d.call) done)) (kept_after opened done)
stands_all show opened done stands are own = all_done done (opened_two show) opened stands are own

pub frames_shown : (show : Show) (opened : TwoKept) (done : List Done) (slots : List ℕ) (u : ℕ) → TwoStand (opened_two show) opened
    → AreDone opened done
    → IsTable SLOTS (dimmer_value (kept_after opened done).first.show.patch (out_of_both (kept_after opened done))) slots
    → 1 ≤ u → u ≤ UNIVERSES → universe u slots ≡ frame_of_two (replay_two show (accepted done)) u
frames_shown show opened done slots u stands are table least most =
    frame_of_both (replay_two show (accepted done)) (kept_after opened done) slots u (stands_accepted show opened done stands are) table least
    most
