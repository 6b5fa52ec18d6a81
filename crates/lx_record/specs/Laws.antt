-- Laws of records: what holds of the show after each.
use Rattle.std.specs.Prelude.{◌≡◌, ◌≢◌, ℕ, Bool, true, Ok, IsTrue, is_some}
use Rattle.lx_spec.specs.Show.{Show, Valid, InRange}
use Rattle.lx_spec.specs.TrackedLevel.{cue_of, tracked, move_of}
use Rattle.lx_spec.specs.RecordedLevels.{on_stage, recorded}
use Rattle.lx_spec.specs.Desk.{Desk}

-- At the recorded cue each channel's tracked level is its level on stage. A channel that was at it already has the move that it had, or
-- none. With `only` each other cue of the show keeps its tracked levels.
pub record LawOfRecords : Type 0 where
  pub levels : (d : Desk) (n c : ℕ) (only : Bool) (show : Show) → Valid d.show → recorded d n only ≡ Ok show → InRange d.show.channels c
      → tracked show n c ≡ on_stage d c
  pub moves : (d : Desk) (n c : ℕ) (only : Bool) (show : Show) → Valid d.show → recorded d n only ≡ Ok show → InRange d.show.channels c
      → on_stage d c ≡ tracked d.show n c → move_of show n c ≡ move_of d.show n c
  pub alone : (d : Desk) (n k c : ℕ) (show : Show) → Valid d.show → recorded d n true ≡ Ok show → IsTrue (is_some (cue_of d.show k))
      → k ≢ n → InRange d.show.channels c → tracked show k c ≡ tracked d.show k c
