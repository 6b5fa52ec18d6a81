-- Every command keeps what lets the runs before the last rest be forgotten.
use Rattle.lx_spec.proofs.Imports.{◌≡◌, ℕ, ◌+◌, ◌-◌, ◌≤◌, max, Bool, true, false, ◌==◌, nat_le, Option, Some}
use Rattle.lx_spec.proofs.Imports.{None, Result, Ok, Err, List, [], ◌∷◌, refl, map, fold, is_some, if◌then◌else◌}
use Rattle.lx_spec.proofs.Imports.{IfOk, slice_set, AllByRecursion, list_all, option_map_or, result_unwrap_or, arith, ap, ◌∙◌, nat_tests}
use Rattle.lx_spec.proofs.Imports.{PartTimes, Go, Back, Goto, Settle, Play, Fader, Master, Command, Refusal, PlaybackFull, TickLimit}
use Rattle.lx_spec.proofs.Imports.{AbsentSub, BACK_TIME, TICK_STEP, TICK_END, ◌>>=◌, has_entry, Show, Cue, tracked, move_of, asserts, cue_above}
use Rattle.lx_spec.proofs.Imports.{cue_below, Run, first_entry, entry_for, entry_extent, extent, time_of, delay_of, acts, level, last_cue, run_over, fade_over}
use Rattle.lx_spec.proofs.Imports.{rises_to, edited, the_cue, Played, press, tick, ticked, followed, start_above, rested, at_rest, is_over, is_due}
use Rattle.lx_spec.proofs.Imports.{has_room, no_run, appended, if_room, run_of, run_whole, follow_of, position_of, Desk, opened, step, after_play, after_command}
use Rattle.lx_spec.proofs.Imports.{replay, KeepsRest, IsInstant}
use Rattle.lx_spec.specs.declared.PlayKey.{PlayKey}
use Rattle.lx_spec.specs.declared.Command.TheVariants as commands
use Rattle.lx_spec.proofs.Instant.{entry_has, same_level, either, run_at_once}
use Rattle.lx_spec.proofs.Lists.{decided, each}
use Rattle.lx_spec.proofs.Rest.{level-rest, last_cue-over}

-- A run that is over gives its target, whatever the show.
fold_reaches : (xs : List ℕ) (a : ℕ) → a ≤ fold max a xs
fold_reaches [] a = omega arith
fold_reaches (x ∷ xs) a = omega (arith, fold_reaches xs (max a x))

-- each number is at most the greatest
greatest_is : (P : PartTimes → ℕ) (xs : List PartTimes) (a : ℕ) → AllByRecursion (λ x. P x ≤ fold max a (map P xs)) xs
greatest_is P [] a = tt
greatest_is P (x ∷ xs) a =
    let first : P x ≤ fold max (max a (P x)) (map P xs) = omega (arith, fold_reaches (map P xs) (max a (P x))) in
    (first, greatest_is P xs (max a (P x)))

first_within : (n : ℕ) (parts : List PartTimes) → AllByRecursion (λ e. entry_extent e ≤ n) parts → entry_extent (first_entry parts) ≤ n
first_within n [] all = omega arith
first_within n (part ∷ parts) all = all.0

-- the times that a run takes are within its extent
entry_within : (show : Show) (run : Run) (c : ℕ) → entry_extent (entry_for show run c) ≤ extent run
entry_within show run c =
    let all : AllByRecursion (λ e. entry_extent e ≤ extent run) run.parts = greatest_is entry_extent run.parts 0 in
    entry_has (λ e. entry_extent e ≤ extent run) show run c all (first_within (extent run) run.parts all)

times_within : (show : Show) (run : Run) (c : ℕ) (rising : Bool) → delay_of show run c rising + time_of show run c rising ≤ extent run
times_within show run c true = omega (arith, entry_within show run c)
times_within show run c false = omega (arith, entry_within show run c)

-- the run is over by the moment
abbrev pub IsOver : ℕ → Run → Type 0
IsOver m run = run.start + extent run ≤ m

over_by : (before : ℕ → ℕ) (start time target m : ℕ) → start + time ≤ m → fade_over before start time target m ≡ target
over_by before start time target m late = grind (arith, nat_tests)

run_over_by : (show : Show) (before : ℕ → ℕ) (run : Run) (c m : ℕ) → IsOver m run → run_over show before run c m ≡ tracked show run.cue c
run_over_by show before run c m over =
    let rising = rises_to show before run c in
    let within : delay_of show run c rising + time_of show run c rising ≤ extent run = times_within show run c rising in
    let late : run.start + delay_of show run c rising + time_of show run c rising ≤ m = omega (arith, within, over) in
    over_by before (run.start + delay_of show run c rising) (time_of show run c rising) (tracked show run.cue c) m late

-- runs that are over give the tracked level at the position
pub level-over : (show : Show) (base : ℕ) (runs : List Run) (c m : ℕ) → AllByRecursion (IsOver m) runs
    → level show base runs c m ≡ tracked show (last_cue base runs) c
level-over show base [] c m all = refl
level-over show base (run ∷ older) c m all =
    either (acts show (last_cue base older) run c) _ _ _ (run_over_by show (level show base older c) run c m all.0)
    (λ e. level-over show base older c m all.1 ∙ same_level run.whole (asserts show run.cue) (is_some (move_of show run.cue c)) _ _ e)

-- a test that holds of each run is a fact of each run
each-over : (m : ℕ) (runs : List Run) → list_all (λ run. nat_le (run.start + extent run) m) runs ≡ true → AllByRecursion (IsOver m) runs
each-over m [] all = tt
each-over m (run ∷ runs) all = (grind (arith, nat_tests, all), each-over m runs (grind (arith, all)))

-- What is made of an answer that isn't a refusal.
after_ok : {A B : Type 0} (r : Result A Refusal) (f : A → Result B Refusal) (Q : B → Type 0) → IfOk r (λ x. IfOk (f x) Q) → IfOk (r >>= f) Q
after_ok (Ok x) f Q ok = ok
after_ok (Err refusal) f Q ok = tt

if_found : {B : Type 0} (o : Option Cue) (f : Cue → Result B Refusal) (why : Refusal) (Q : B → Type 0) → ((cue : Cue) → IfOk (f cue) Q)
    → IfOk (option_map_or f o (Err why)) Q
if_found None f why Q each = tt
if_found (Some cue) f why Q each = each cue

each_ok : {A : Type 0} (r : Result A Refusal) (P : A → Type 0) → ((x : A) → P x) → IfOk r P
each_ok (Ok x) P each = each x
each_ok (Err refusal) P each = tt

-- what a key or a tick makes of the desk's playback is kept
abbrev Keeps : Desk → Played → Type 0
Keeps d played = KeepsRest (after_play d played)

-- each step of a command keeps it
module _ (d : Desk) (k : KeepsRest d) where
  kept-added : (run : Run) (pending : Option ℕ) → d.playback.moment ≤ run.start → Keeps d (appended d.playback run pending)
  kept-added run pending starts = record {
    from = k.from;
    older = k.older;
    all_is = ap (λ runs. run ∷ runs) k.all_is;
    base_is = k.base_is;
    still = k.still;
    later = (omega (arith, k.begun, starts), k.later);
    begun = k.begun;
  }

  -- it says nothing of the show, the faders, the master and the pending follow, and the moment may grow
  kept-beside : (show : Show) (m : ℕ) (pending : Option ℕ) (faders : List ℕ) (master : ℕ) → d.playback.moment ≤ m
      → KeepsRest (record d { show = show; playback = record d.playback { moment = m; pending = pending }; faders = faders; master = master })
  kept-beside show m pending faders master later = record {
    from = k.from;
    older = k.older;
    all_is = k.all_is;
    base_is = k.base_is;
    still = k.still;
    later = k.later;
    begun = omega (arith, k.begun, later);
  }

  -- one more run, where there is room for it
  kept-if_room : (run : Run) (pending : Option ℕ) → d.playback.moment ≤ run.start → IfOk (if_room d.playback run pending) (Keeps d)
  kept-if_room run pending starts = decided (λ r. IfOk r (Keeps d)) (has_room d.playback) (Ok (appended d.playback run pending))
      (Err PlaybackFull) (λ room. kept-added run pending starts) (λ full. tt)

  -- settled: the run that ends every fade is the front's last
  kept-settled : IfOk (press d.show d.playback Settle) (Keeps d)
  kept-settled =
      let run = run_whole d.playback (position_of d.playback) 0 in
      let no_times : (m : ℕ) → d.playback.moment ≤ m → IsInstant m run = λ m late.
      record { started = late; parts = (record { up = refl; up_delay = refl; down = refl; down_delay = refl }, tt) } in
      record {
        from = d.playback.moment;
        older = run ∷ d.all;
        all_is = refl;
        base_is = refl;
        still = λ show c y late. run_at_once show (level show 0 d.all c) run c y (no_times y late);
        later = tt;
        begun = omega arith;
      }

  kept-press : (key : PlayKey) → IfOk (press d.show d.playback key) (Keeps d)
  kept-press Go = if_found (cue_above d.show (position_of d.playback)) _ _ (Keeps d)
      (λ cue. kept-if_room (run_of d.playback cue false) (follow_of d.playback cue) (omega arith))
  kept-press Back = if_found (cue_below d.show (position_of d.playback)) _ _ (Keeps d)
      (λ cue. kept-if_room (run_whole d.playback cue.number BACK_TIME) None (omega arith))
  kept-press (Goto n) = after_ok (the_cue d.show n) _ (Keeps d)
      (each_ok (the_cue d.show n) _ (λ cue. kept-if_room (run_of d.playback cue true) (follow_of d.playback cue) (omega arith)))
  kept-press Settle = kept-settled

  kept-start_above : Keeps d (start_above d.show d.playback)
  kept-start_above = elim (cue_above d.show (position_of d.playback)) as
      (λ o. Keeps d (option_map_or
      (λ cue. if has_room d.playback then appended d.playback (run_of d.playback cue false) (follow_of d.playback cue) else
      no_run d.playback) o (no_run d.playback))) [
        | None ↦ k
        | Some cue ↦ decided (Keeps d) (has_room d.playback) _ (no_run d.playback)
            (λ room. kept-added (run_of d.playback cue false) (follow_of d.playback cue) (omega arith)) (λ full. k)
      ]

  -- the live runs over the base give the level that all runs give
  forgotten : (show : Show) (c y : ℕ) → d.playback.moment ≤ y → level show 0 d.all c y ≡ level show d.playback.base d.playback.live c y
  forgotten show c y late = ap (λ runs. level show 0 runs c y) k.all_is
      ∙ level-rest show d.playback.base k.from d.playback.live k.older c y k.base_is (k.still show c) k.later (omega (arith, k.begun, late))

  -- rest: all runs are the front, since each live one is over
  kept-at_rest : AllByRecursion (IsOver d.playback.moment) d.playback.live → KeepsRest (record d { playback = at_rest d.playback })
  kept-at_rest over = record {
    from = d.playback.moment;
    older = d.all;
    all_is = refl;
    base_is = ap (λ runs. last_cue 0 runs) k.all_is ∙ last_cue-over d.playback.base d.playback.live k.older k.base_is;
    still = λ show c y late. forgotten show c y late
        ∙ level-over show d.playback.base d.playback.live c y (each _ _ d.playback.live (λ run is. omega (arith, is, late)) over);
    later = tt;
    begun = omega arith;
  }

  kept-rested : KeepsRest (record d { playback = rested d.playback })
  kept-rested = decided (λ p. KeepsRest (record d { playback = p })) (is_over d.playback) (at_rest d.playback) d.playback
      (λ over. kept-at_rest (each-over d.playback.moment d.playback.live (grind (arith, over)))) (λ on. k)

kept-followed : (d : Desk) → KeepsRest d → Keeps d (followed d.show d.playback)
kept-followed d k = decided (Keeps d) (is_due d.playback) _ (no_run d.playback)
    (λ due. kept-start_above (record d { playback = record d.playback { pending = None } })
    (kept-beside d k d.show d.playback.moment None d.faders d.master (omega arith))) (λ not_due. k)

kept-tick : (d : Desk) → KeepsRest d → IfOk (tick d.show d.playback) (Keeps d)
kept-tick d k =
    let m = d.playback.moment + TICK_STEP in
    let later : Desk = record d { playback = record d.playback { moment = m } } in
    decided (λ r. IfOk r (Keeps d)) (d.playback.moment == TICK_END) (Err (TickLimit TICK_END)) (Ok (ticked d.show d.playback)) (λ last. tt)
    (λ on. kept-rested (after_play later (followed d.show later.playback))
    (kept-followed later (kept-beside d k d.show m d.playback.pending d.faders d.master (omega arith))))

pub kept-step : (d : Desk) (command : Command) → KeepsRest d → IfOk (step d command) KeepsRest
kept-step d (commands.Edit edit) k = after_ok (edited d.show edit) _ KeepsRest
    (each_ok (edited d.show edit) _ (λ show. kept-beside d k show d.playback.moment d.playback.pending d.faders d.master (omega arith)))
kept-step d (commands.Key (Play key)) k = after_ok (press d.show d.playback key) _ KeepsRest (kept-press d k key)
kept-step d (commands.Key (Fader s level)) k =
    let moved : List ℕ = slice_set d.faders (s - 1) level in
    decided (λ r. IfOk r KeepsRest) (has_entry (λ x. x.number) s d.show.subs) (Ok (record d { faders = moved })) (Err (AbsentSub s))
    (λ there. kept-beside d k d.show d.playback.moment d.playback.pending moved d.master (omega arith)) (λ absent. tt)
kept-step d (commands.Key (Master level)) k = kept-beside d k d.show d.playback.moment d.playback.pending d.faders level (omega arith)
kept-step d commands.Tick k = after_ok (tick d.show d.playback) _ KeepsRest (kept-tick d k)

pub kept-opened : (show : Show) → KeepsRest (opened show)
kept-opened show = record {
  from = 0;
  older = [];
  all_is = refl;
  base_is = refl;
  still = λ x c y late. refl;
  later = tt;
  begun =
      omega arith;
}

kept-after : (d : Desk) (r : Result Desk Refusal) → KeepsRest d → IfOk r KeepsRest → KeepsRest (result_unwrap_or r d)
kept-after d (Ok next) k kept = kept
kept-after d (Err refusal) k kept = k

kept-fold : (d : Desk) (done : List Command) → KeepsRest d → KeepsRest (fold after_command d done)
kept-fold d [] k = k
kept-fold d (command ∷ done) k = kept-fold (after_command d command) done (kept-after d (step d command) k (kept-step d command k))

pub kept-replay : (show : Show) (done : List Command) → KeepsRest (replay show done)
kept-replay show done = kept-fold (opened show) done (kept-opened show)

-- After every list of commands, the live runs over the base give the level that all runs give.
pub level-replay : (opening : Show) (done : List Command) (show : Show) (c y : ℕ) → (replay opening done).playback.moment ≤ y
    → level show 0 (replay opening done).all c y ≡ level show (replay opening done).playback.base (replay opening done).playback.live c y
level-replay opening done show c y late = forgotten (replay opening done) (kept-replay opening done) show c y late
