-- What a record answers, from what it places.
use Rattle.lx_record.proofs.Imports.{◌≡◌, ℕ, Bool, true, false, Some, None, Ok, Err, refl, ◌∙◌, sym, ap, inr, Option, Result, IfSome}
use Rattle.lx_record.proofs.Imports.{IsTrue, MatchResult, is_some, ◌||◌, nat_lt, length, option_map, CUES, Refusal, Memory, IsStrictlySorted}
use Rattle.lx_record.proofs.Imports.{Cue, Show, Valid, ValidCue, cue_of, cue_above, with_cue, recorded, with_recorded, CanPlace, IsAbove, with_above}
use Rattle.lx_record.proofs.Imports.{StandsFor, level_now, kept_cue, IsRefused, above_fits, above_is}
use Rattle.std.specs.Result.{IsErrAnd}
use Rattle.lx_spec.specs.Desk.{Desk}
use Rattle.lx_spec.specs.Kept.{Kept}
use Rattle.lx_console.proofs.AllRuns.{over_all}
use Rattle.lx_record.proofs.RecordedCues.{recorded_cue, recorded_is}
use Rattle.lx_record.proofs.KeptCues.{above_kept, only_is}

-- there is room for the cue, by the show that was asked for it
pub record HasRoom (show : Show) (n : ℕ) : Type 0 where
  pub sorted : IsStrictlySorted (λ x. x.number) show.cues
  pub room : IsTrue (is_some (cue_of show n) || nat_lt (length show.cues) CUES)

pub has_room : {before show : Show} {n : ℕ} {fits : Bool} → before ≡ show → Valid before
    → fits ≡ (is_some (cue_of before n) || nat_lt (length before.cues) CUES) → fits ≡ true → HasRoom show n
has_room same valid asked fits = rw (← same) (record { sorted = valid.cues_sorted; room = sym asked ∙ fits })

-- the show in which both cues are placed then
pub accepted : (levels : ℕ → ℕ) {show : Show} {n : ℕ} (only : Bool) → HasRoom show n
    → with_recorded levels show n only ≡ Ok (with_above (above_kept levels show n only) (with_cue show (recorded_cue levels show n)))
accepted levels {show} {n} only r = recorded_is levels show n only r.sorted r.room ∙ ap Ok (only_is levels show n only r.sorted)

-- the cue above, where it is placed, fits, and stands above the recorded one
pub record Goes (show : Show) (n : ℕ) (cue kept : Cue) : Type 0 where
  pub fits : CanPlace (with_cue show cue) kept
  pub higher : IsAbove show n kept

above_step : (levels : ℕ → ℕ) (show : Show) (n : ℕ) (cue : Cue) (o : Option Cue) → IsStrictlySorted (λ x. x.number) show.cues → cue.number ≡ n
    → cue_above show n ≡ o → IfSome (option_map (kept_cue levels show) o) (ValidCue show.channels)
    → IfSome (option_map (kept_cue levels show) o) (Goes show n cue)
above_step levels show n cue None sorted number is valid = tt
above_step levels show n cue (Some x) sorted number is valid = record {
  fits = above_fits show n (Some cue) x (kept_cue levels show x) sorted number is refl valid;
  higher = above_is show n x (kept_cue levels show x) sorted refl is;
}

pub above_goes : (levels : ℕ → ℕ) (show : Show) (n : ℕ) (only : Bool) (cue : Cue) → IsStrictlySorted (λ x. x.number) show.cues → cue.number ≡ n
    → IfSome (above_kept levels show n only) (ValidCue show.channels) → IfSome (above_kept levels show n only) (Goes show n cue)
above_goes levels show n true cue sorted number valid = above_step levels show n cue (cue_above show n) sorted number refl valid
above_goes levels show n false cue sorted number valid = tt

-- the live runs over the base give the levels on stage
pub of_stage : (d : Desk) (console : Kept) (n : ℕ) (only : Bool) → StandsFor d console
    → with_recorded (level_now console) console.show n only ≡ recorded d n only
of_stage d console n only stands =
    ap (λ (k : Kept). with_recorded (level_now k) k.show n only) stands.same
    ∙ ap (λ (f : ℕ → ℕ). with_recorded f d.show n only) (λ i c. over_all d stands.rest c i)

-- memory ran out
pub wants : {A : Type 0} (meant : Result Show Refusal) (P : A → Type 0) (answer : Result A Refusal) (show : Show) → meant ≡ Ok show
    → IsErrAnd answer (λ refusal. refusal ≡ Memory) → MatchResult answer P (IsRefused meant)
wants meant P (Ok x) show is memory = absurd memory
wants meant P (Err refusal) show is memory = inr (memory, rw is refl)
