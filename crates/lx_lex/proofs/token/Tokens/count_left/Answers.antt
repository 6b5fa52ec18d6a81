use Rattle.lx_lex.proofs.Imports.{inl, arith, is_separator, begins_comment}
use Rattle.lx_lex.specs.Left.{left}
use Rattle.lx_lex.proofs.LineCuts.{tokens_few}
use Rattle.lx_lex.proofs.token.Tokens.count_left.Goals as goal

pub count-requires-clause-fits : goal.count-requires-clause-fits
unfolding left
count-requires-clause-fits c =
    let h = tokens_few is_separator begins_comment c.args.self.now.rest.now in
    inl (omega (arith, h))
