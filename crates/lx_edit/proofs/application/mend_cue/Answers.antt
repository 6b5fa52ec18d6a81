use Rattle.lx_edit.proofs.Imports.{◌∙◌, ap, sym, Show}
use Rattle.lx_edit.proofs.MendedSheets.{left_replaced, marked_with}
use Rattle.lx_edit.proofs.application.mend_cue.Goals as goal

pub replace_row-requires : goal.replace_row-requires
replace_row-requires c = c.requires.stood.channels ∙ sym (ap (λ (s : Show). s.channels) c.requires.is)

pub returns-then-is_large : goal.returns-then-is_large
returns-then-is_large c =
    let w = c.requires in
    c.replace_row.ensures w.before w.cue w.stood w.number w.there w.is

pub mark-requires : goal.mark-requires
mark-requires c = c.requires.stood.channels ∙ sym (ap (λ (s : Show). s.channels) c.requires.is)

pub mend_columns-requires : goal.mend_columns-requires
mend_columns-requires c =
    let w = c.requires in
    left_replaced c.args.show.now c.args.sheet.now c.mark.new.self c.args.n c.args.chans.now w c.mark.ensures.levels c.mark.ensures.numbers
    c.mark.ensures.channels
    (marked_with w.before c.args.show.now c.args.sheet.now c.mark.new.self w.cue c.args.n w.is w.number w.stood.marks c.mark.ensures.others
    c.mark.ensures.marks)
