-- What the answers to a key and a tick tell.
use Rattle.std.specs.Prelude.{◌+◌, Bool, Option, Some, if◌then◌else◌}
use Rattle.lx_base.specs.declared.TheConstants.{TICK_STEP}
use Rattle.lx_spec.specs.Show.{Show}
use Rattle.lx_spec.specs.Run.{Run}
use Rattle.lx_spec.specs.Playback.{Playback, position_of, run_whole, followed, is_over}
use Rattle.lx_playback.specs.declared.keys.Pressed.{Pressed}

-- the run that a key adds to all runs: the one that it started, or after Settle one of the position that takes no time
abbrev pub run_made : Playback → Pressed → Option Run
run_made before pressed = if pressed.settled then Some (run_whole before (position_of before) 0) else pressed.run

-- the tick comes to rest: all is over when the moment has grown and a follow that is due has fired
abbrev pub comes_to_rest : Show → Playback → Bool
comes_to_rest show p = is_over (followed show (record p { moment = p.moment + TICK_STEP })).playback
