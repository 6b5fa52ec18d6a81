use Rattle.lx_embed.proofs.Imports.{ap, Err, arith}
use Rattle.lx_embed.proofs.ReadTexts.{opens, refuses}
use Rattle.lx_embed.proofs.open.open_text.Goals as goal

pub returns-in-Ok-open_in-clause-opens : goal.returns-in-Ok-open_in-clause-opens
returns-in-Ok-open_in-clause-opens g c =
    let l = c.new-lines.ensures in
    opens c.args.text.now c.args.form _ c.new-lines.result c.read_show_in.new.lines l.unread l.taken c.in-Ok.loaded c.in-Ok.ensures.answer
    c.in-Ok-open_in.ensures.opens

pub returns-in-Err-clause-refuses : goal.returns-in-Err-clause-refuses
returns-in-Err-clause-refuses g c =
    refuses c.args.text.now c.args.form _ c.new-lines.result c.read_show_in.new.lines c.new-lines.ensures.unread
    c.new-lines.ensures.taken c.in-Err.fault c.in-Err.ensures.answer
    (λ is. let rose = c.in-Err.ensures.read (ap Err is) in absurd (omega (arith, rose)))
