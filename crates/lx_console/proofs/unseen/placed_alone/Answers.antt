use Rattle.lx_console.proofs.Imports.{ℕ, List, Move, placed, Show, PlacesCue}
use Rattle.lx_edit.specs.PlanMeaning.{with_moves_in}
use Rattle.lx_edit.proofs.PlacedMoves.{Moved, changed_is, moved, moved_all}
use Rattle.lx_console.proofs.unseen.placed_alone.Goals as goal

places : (show : Show) (n : ℕ) (change : List Move → List Move) → Moved show n → PlacesCue show (with_moves_in show n change) n
places show n change m = record {
  cue = record m.cue { moves = change m.cue.moves };
  number = m.number;
  least = rw (← m.number) m.least;
  after_is = changed_is show n change m.cue m.found;
}

pub returns-in-Move : goal.returns-in-Move
returns-in-Move c = rw c.in-Move.is (λ show valid ready.
    places show c.in-Move.cue (placed (λ (m : Move). m.chan) c.in-Move.to) (moved show c.in-Move.cue c.in-Move.to valid ready))

pub returns-in-Moves : goal.returns-in-Moves
returns-in-Moves c = rw c.in-Moves.is (λ show valid ready.
    places show c.in-Moves.cue (λ _. c.in-Moves.to) (moved_all show c.in-Moves.cue c.in-Moves.to c.in-Moves.within valid ready))
