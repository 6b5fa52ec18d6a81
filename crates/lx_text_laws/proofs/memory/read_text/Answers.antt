use Rattle.lx_text_laws.proofs.Imports.{◌∙◌, ap, Some, arith, PlainBytes, hundredths}
use Rattle.lx_spec.proofs.FinerNumbers.{one_decimal_more}
use Rattle.lx_text_laws.proofs.ReadBack.{text_read, old_text_read}
use Rattle.lx_text_laws.proofs.memory.read_text.Goals as goal

pub returns-clause-answer : goal.returns-clause-answer
returns-clause-answer g c =
    let is = c.new-lines.ensures.unread ∙ ap (λ (s : PlainBytes). Some s.left) c.new-source.ensures in
    text_read c.args.text.items c.args.form _ c.new-lines.result c.read_show_in.new.lines is c.new-lines.ensures.taken
    c.read_show_in.result c.read_show_in.ensures.answer
    (λ failed. let rose = c.read_show_in.ensures.read failed in absurd (omega (arith, rose)))

pub returns-clause-old : goal.returns-clause-old
returns-clause-old g c =
    let is = c.new-lines.ensures.unread ∙ ap (λ (s : PlainBytes). Some s.left) c.new-source.ensures in
    old_text_read c.args.text.items c.args.form _ c.new-lines.result c.read_show_in.new.lines is c.new-lines.ensures.taken
    c.read_show_in.result c.read_show_in.ensures.answer
    (λ failed. let rose = c.read_show_in.ensures.read failed in absurd (omega (arith, rose))) hundredths one_decimal_more
