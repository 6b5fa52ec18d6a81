use Rattle.lx_lex.proofs.Imports.{is_separator, begins_comment}
use Rattle.lx_lex.proofs.LineCuts.{tokens_by-skip}
use Rattle.lx_lex.proofs.Separators.{apart}
use Rattle.lx_lex.proofs.PlainNumbers.{number_first}
use Rattle.lx_lex.proofs.plain.number_behind.Goals as goal

pub returns : goal.returns
returns c = rw (tokens_by-skip is_separator begins_comment apart c.args.line.now, ← c.past_separators.ensures)
    (number_first c.in_ok-number.ensures.digits c.in_ok-number.ensures.some c.in_ok-others.ensures)
