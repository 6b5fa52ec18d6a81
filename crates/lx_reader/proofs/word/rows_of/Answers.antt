use Rattle.lx_reader.proofs.Imports.{◌∷◌, ◌∙◌, ap, codes, sym}
use Rattle.lx_reader.proofs.LevelsLines.{rows_tokens}
use Rattle.lx_reader.proofs.word.rows_of.Goals as goal

pub returns-then-starts_with : goal.returns-then-starts_with
returns-then-starts_with c =
    rows_tokens c.args.line.now (sym c.starts_with.ensures.value ∙ c.if-starts_with.true)
    ∙ ap (λ ts. codes "PATCH" ∷ ts) (sym c.tokens.ensures)
