use Rattle.lx_embed.proofs.Imports.{◌∙◌}
use Rattle.lx_embed.proofs.shown.frame_of.Goals as goal

pub returns-clause-frame : goal.returns-clause-frame
returns-clause-frame c = λ d stands.
    c.slots_of.ensures.slots ∙ c.frames.ensures.frames d c.args.universe stands c.requires.least c.requires.most
