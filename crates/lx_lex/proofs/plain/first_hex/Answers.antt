use Rattle.lx_lex.proofs.Imports.{sym, ◌∙◌}
use Rattle.lx_lex.proofs.HexLevels.{hex_first}
use Rattle.lx_lex.proofs.plain.first_hex.Goals as goal

pub returns : goal.returns
returns c = hex_first c.args.line.now c.in_ok-others.others.now c.in-len3-up.len_at_least c.if-first-ne72.false
    (sym c.hex_value.ensures.value ∙ c.in_ok-high.was) (sym c.hex_value-2.ensures.value ∙ c.in_ok-low.was) c.in_ok-others.ensures
