use Rattle.lx_lists.proofs.Replays.{stands_accepted, stands_all, frames_shown}
use Rattle.lx_lists.proofs.laws.replays.Goals as goal

pub returns : goal.returns
returns _ = record { accepts = stands_accepted; all = stands_all; frames = frames_shown }
