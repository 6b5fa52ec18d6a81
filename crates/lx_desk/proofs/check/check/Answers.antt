use Rattle.lx_desk.proofs.Imports.{sym, ap, ◌∙◌, Err}
use Rattle.lx_desk.proofs.Inputs.{check_tells, show_over}
use Rattle.lx_desk.proofs.Jobs.{told_does, refused_does}
use Rattle.lx_desk.proofs.check.check.Goals as goal

pub returns-in-Ok : goal.returns-in-Ok
returns-in-Ok g c =
    let l = c.new-lines.ensures in
    let r = c.in-Ok.ensures in
    told_does g.S.Source c.new-lines.result c.read_show_in.new.lines l.source l.unread l.taken (check_tells c.args.form) r.answer
    (c.input-1.given.1 (sym (r.same_reference ∙ l.same_reference))) (r.kept (λ odd. cc)) r.cause.later
    (c.finish.ensures (g.H.Heap.refusals c.read_show_in.new.heap) c.args.output.now _ c.put_size.ensures)

pub returns-in-Err : goal.returns-in-Err
returns-in-Err g c =
    let l = c.new-lines.ensures in
    let r = c.in-Err.ensures in
    refused_does g.S.Source c.new-lines.result c.read_show_in.new.lines l.source l.unread l.taken (show_over (check_tells c.args.form)) r.answer
    (c.input-1.given.1 (sym (r.same_reference ∙ l.same_reference))) (λ is. r.read (ap Err is)) (λ other. r.kept (λ is. other (cc)))
    r.cause.failed r.cause.later c.refuse.ensures
