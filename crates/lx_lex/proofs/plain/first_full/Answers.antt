use Rattle.lx_lex.proofs.HexLevels.{full_first}
use Rattle.lx_lex.proofs.plain.first_full.Goals as goal

pub returns : goal.returns
returns c = full_first c.args.line.now c.in_ok-others.others.now c.in-len2-up.len_at_least c.if-first-ne70.false c.if-second-ne76.false
    c.in_ok-others.ensures
