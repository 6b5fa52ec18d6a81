use Rattle.lx_lex.proofs.Imports.{◌∙◌}
use Rattle.lx_lex.proofs.PlainNumbers.{digit_taken}
use Rattle.lx_lex.proofs.plain.digit_more.Goals as goal

pub returns-clause-digits : goal.returns-clause-digits
returns-clause-digits c = λ line so. digit_taken c.args.text.now so c.in-len1-up.len_at_least c.in_ok-digit.ensures.0
    (c.from.ensures ∙ c.in_ok-digit.ensures.1)
