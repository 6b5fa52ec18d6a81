use Rattle.lx_console.proofs.Obedience.{stands_replay, stands_next, stands_answered}
use Rattle.lx_console.proofs.laws.replays.Goals as goal

pub returns : goal.returns
returns _ = record { stands = stands_replay; obeys = stands_next; answers = stands_answered }
