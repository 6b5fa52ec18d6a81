use Rattle.lx_levels.proofs.Imports.{◌∙◌, ap, arith, Run}
use Rattle.lx_levels.proofs.AddedRuns.{cue_before}
use Rattle.lx_levels.proofs.levels.before_last.Goals as goal

pub returns : goal.returns
returns c = λ last older is.
    ap (λ (r : Run). r.cue) c.run.view_is
    ∙ cue_before c.args.playback.now.base c.live-live.result.now older last c.index-live-live.result (c.live-live.ensures.live ∙ is)
    (omega (arith, c.if-live-lt2.false)) c.index-live-live.is
