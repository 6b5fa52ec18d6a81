use Rattle.lx_lex.proofs.Imports.{◌∙◌, sym, arith}
use Rattle.lx_lex.proofs.ReadyNumbers.{three_first, four_first}
use Rattle.lx_lex.proofs.ready.past_channel.Goals as goal

pub returns-then-number-lt1000 : goal.returns-then-number-lt1000
returns-then-number-lt1000 c = rw (← c.get-number.ensures.value)
    (three_first _ c.args.line.now c.if-number-lt100.false c.if-number-lt1000.true (sym c.starts_with.ensures.value ∙ c.if-not-starts_with.false))

pub returns : goal.returns
returns c = rw (← c.get-number.ensures.value)
    (four_first _ c.args.line.now c.in_ok-others.others.now c.if-number-lt1000.false (omega arith)
    (sym c.starts_with.ensures.value ∙ c.if-not-starts_with.false) c.in_ok-others.ensures)
