use Rattle.lx_writer.proofs.Imports.{◌++◌, ◌∙◌, take, ap}
use Rattle.lx_writer.proofs.lines.write_number.Goals as goal

pub returns-clause-text : goal.returns-clause-text
returns-clause-text c =
    c.write_row.ensures.text
    ∙ ap (λ digits. take c.args.at c.args.text.now ++ digits) (ap (λ k. take k c.ready_number.result.now) c.ready_digits.ensures.digits ∙ c.ready_number.ensures)
