use Rattle.lx_sheet.proofs.Imports.{ap, ◌∙◌, arith, bit_at, bit_at_ones, bit_of, group_of}
use Rattle.lx_sheet.proofs.marks.write_row.Goals as goal

pub returns-then-cue-clause-here : goal.returns-then-cue-clause-here
returns-then-cue-clause-here c = λ chan least most is.
    ap (λ w. bit_at w (bit_of chan)) (c.fill.ensures.here (group_of chan) (omega (arith, least, most)))
    ∙ bit_at_ones 64 (bit_of chan) (omega arith)
