use Rattle.lx_mixer.proofs.Greatest.{greater_lanes}
use Rattle.lx_mixer.proofs.mix.greater.Goals as goal

pub returns : goal.returns
returns c = greater_lanes c.args.playback c.args.subs c.fits-playback.0 c.fits-subs.0
