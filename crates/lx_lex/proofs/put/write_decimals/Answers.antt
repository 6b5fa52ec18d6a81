use Rattle.lx_lex.proofs.Imports.{sym, ap, ◌∙◌, ◌++◌, take, inl, arith}
use Rattle.lx_lex.proofs.Decimals.{decimals_text-some, goes_on, ended}
use Rattle.lx_lex.proofs.put.write_decimals.Goals as goal

pub loop-rest-preserved : goal.loop-rest-preserved
loop-rest-preserved c = goes_on c.loop-rest.room c.loop-rest.end _ c.args.unit c.loop-rest.rest _ c.loop-rest.invariant (omega arith)
    c.loop-rest-test.true c.if-end-last.true

pub returns-after-loop-rest-clause-text : goal.returns-after-loop-rest-clause-text
returns-after-loop-rest-clause-text c =
    ended c.loop-rest.room c.loop-rest.end _ c.args.unit c.loop-rest.rest _ c.loop-rest.invariant (inl c.loop-rest-test.false)
    ∙ ap (λ v. take c.args.at c.args.room.now ++ v) (sym (decimals_text-some c.args.unit c.args.rest c.if-rest-eq0.false))
