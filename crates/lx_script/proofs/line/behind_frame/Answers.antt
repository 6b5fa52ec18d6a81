use Rattle.lx_script.proofs.Imports.{◌∷◌, ◌∙◌, ap, sym, codes}
use Rattle.lx_script.proofs.FirstWords.{frame_first}
use Rattle.lx_script.proofs.line.behind_frame.Goals as goal

pub returns : goal.returns
returns c = frame_first c.args.line.now (sym c.starts_with.ensures.value ∙ c.if-not-starts_with.false)
    ∙ ap (λ rest. codes "frame" ∷ rest) (sym c.tokens.ensures)
