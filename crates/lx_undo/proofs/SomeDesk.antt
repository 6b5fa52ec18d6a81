-- Whatever a console keeps, it stands for some desk: one where the base was come to by a run without times.
use Rattle.lx_undo.proofs.Imports.{◌≡◌, ℕ, ◌≤◌, List, [], ◌∷◌, ◌++◌, Ok, Err, refl, ◌∙◌, ap, arith, Bool, true, false, Result}
use Rattle.lx_undo.proofs.Imports.{OnErr, IfOk, if◌then◌else◌, AllByRecursion, Command, Refusal, ◌>>=◌, is_edit, Show, Desk, step, Kept, StandsFor}
use Rattle.lx_undo.proofs.Imports.{Answers}
use Rattle.std.specs.Prelude.{IsOkAnd}
use Rattle.lx_spec.specs.declared.Command.TheVariants as commands
use Rattle.lx_spec.specs.declared.Key.TheVariants.{Play, Fader, Master}
use Rattle.lx_spec.specs.SortedList.{has_entry}
use Rattle.lx_spec.specs.Playback.{press, tick}
use Rattle.lx_spec.specs.Run.{Run, no_times}
use Rattle.lx_spec.specs.Laws.{IsInstant}
use Rattle.lx_spec.proofs.Instant.{level-instant}

abbrev past : ℕ → Run
past base = record { start = 0; cue = base; parts = no_times ∷ []; whole = true }

abbrev pub some_desk : Kept → Desk
some_desk k = record {
  show = k.show;
  playback = k.playback;
  all = k.playback.live ++ past k.playback.base ∷ [];
  faders = k.faders;
  master = k.master;
}

at_once : (base m : ℕ) → AllByRecursion (IsInstant m) (past base ∷ [])
at_once base m = (record { started = omega arith; parts = (record { up = refl; up_delay = refl; down = refl; down_delay = refl }, tt) }, tt)

from_the_opening : (runs : List Run) → AllByRecursion (λ run. 0 ≤ run.start) runs
from_the_opening [] = tt
from_the_opening (run ∷ runs) = (omega arith, from_the_opening runs)

pub stands_some : (k : Kept) → StandsFor (some_desk k) k
stands_some k = record {
  same = refl;
  rest = record {
    from = 0;
    older = past k.playback.base ∷ [];
    all_is = refl;
    base_is = refl;
    still = λ show c y h. level-instant show 0 (past k.playback.base ∷ []) c y (at_once k.playback.base y);
    later = from_the_opening k.playback.live;
    begun = omega arith;
  };
}

on_playback : {A : Type 0} (show : Show) (r : Result A Refusal) (next : A → Desk) → ((x : A) → (next x).show ≡ show)
    → IfOk (r >>= (λ x. Ok (next x))) (λ d. d.show ≡ show)
on_playback show (Ok x) next same = same x
on_playback show (Err refusal) next same = tt

either : (b : Bool) (d : Desk) (refusal : Refusal) (show : Show) → d.show ≡ show → IfOk (if b then Ok d else Err refusal) (λ x. x.show ≡ show)
either true d refusal show same = same
either false d refusal show same = tt

-- keys and ticks leave the show
step_leaves : (d : Desk) (command : Command) → is_edit command ≡ false → IfOk (step d command) (λ next. next.show ≡ d.show)
step_leaves d (commands.Edit edit) other = cc
step_leaves d (commands.Key (Play key)) other = on_playback d.show (press d.show d.playback key) _ (λ played. refl)
step_leaves d (commands.Key (Fader s level)) other = either (has_entry (λ x. x.number) s d.show.subs) _ _ d.show refl
step_leaves d (commands.Key (Master level)) other = refl
step_leaves d commands.Tick other = on_playback d.show (tick d.show d.playback) _ (λ played. refl)

step_and : (r : Result Desk Refusal) (show : Show) (now : Kept) → IfOk r (λ d. d.show ≡ show) → IsOkAnd r (λ next. StandsFor next now)
    → now.show ≡ show
step_and (Ok next) show now leaves stands = ap (λ (k : Kept). k.show) stands.same ∙ leaves
step_and (Err refusal) show now leaves stands = absurd stands

-- a command that is answered and is no edit leaves the show
pub answered_leaves : {A : Type 0} (before now : Kept) (command : Command) (answer : Result A Refusal) → is_edit command ≡ false
    → ((d : Desk) → StandsFor d before → Answers d command answer now) → OnErr answer (now ≡ before) → now.show ≡ before.show
answered_leaves before now command (Ok x) other answers same =
    step_and (step (some_desk before) command) before.show now (step_leaves (some_desk before) command other)
    (answers (some_desk before) (stands_some before)).ok
answered_leaves before now command (Err refusal) other answers same = ap (λ (k : Kept). k.show) same
