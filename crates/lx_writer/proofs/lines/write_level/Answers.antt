use Rattle.lx_writer.proofs.Imports.{[], ◌++◌, ◌∙◌, take, ap, arith}
use Rattle.lx_writer.proofs.ReadyParts.{level_row}
use Rattle.lx_writer.proofs.lines.write_level.Goals as goal

pub returns-clause-text : goal.returns-clause-text
returns-clause-text c =
    c.write_words.ensures.text ∙ ap (λ row. take c.args.at c.args.text.now ++ row) (level_row c.args.level [] (omega arith))
