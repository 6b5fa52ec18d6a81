use Rattle.lx_show.proofs.Imports.{◌∙◌}
use Rattle.lx_show.proofs.Stretches.{behind_gap}
use Rattle.lx_show.proofs.stretch.end_of_gap.Goals as goal

pub returns-then-at-xs : goal.returns-then-at-xs
returns-then-at-xs g c = rw (c.from.ensures ∙ c.key.ensures) (behind_gap g.T.Keyed.key _ _ c.index-xs-at.result c.requires c.if-at-xs.true c.index-xs-at.is)
