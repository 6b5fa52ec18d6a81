use Rattle.lx_lex.proofs.LetterCases.{same_letters}
use Rattle.lx_lex.proofs.word.word_is.Goals as goal

pub returns-then-begins_alike : goal.returns-then-begins_alike
returns-then-begins_alike c = same_letters c.args.token.now c.args.word.now c.eq_ignore_ascii_case.result c.eq_ignore_ascii_case.ensures.test
