use Rattle.lx_show.proofs.Imports.{arith, ap, Show}
use Rattle.lx_show.proofs.ValidShows.{with_channels}
use Rattle.lx_show.proofs.show.Show.widen.Goals as goal

pub invariant_of-self : goal.invariant_of-self
invariant_of-self c =
    let valid = with_channels _ c.args.channels c.self.invariant.valid (omega (arith, ap (λ (s : Show). s.channels) c.self.view_is)) c.requires.most in
    search
