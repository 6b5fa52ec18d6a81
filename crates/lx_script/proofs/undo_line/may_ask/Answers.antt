use Rattle.lx_script.proofs.Imports.{◌∙◌, sym}
use Rattle.lx_script.proofs.UndoLines.{begins_otherwise, of_not}
use Rattle.lx_script.proofs.undo_line.may_ask.Goals as goal

pub returns-in-len1-up : goal.returns-in-len1-up
returns-in-len1-up c = λ no.
    begins_otherwise c.args.line.now c.in-len1-up.len_at_least (sym c.is_other_letter.ensures ∙ of_not c.is_other_letter.result no)
