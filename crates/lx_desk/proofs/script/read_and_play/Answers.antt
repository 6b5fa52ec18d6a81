use Rattle.lx_desk.proofs.Imports.{sym, ap, ◌∙◌, Err}
use Rattle.lx_desk.proofs.Inputs.{script_over}
use Rattle.lx_desk.proofs.Jobs.{played_does, refused_does}
use Rattle.lx_desk.proofs.script.read_and_play.Goals as goal

pub returns-in-Ok : goal.returns-in-Ok
returns-in-Ok g c =
    let l = c.new-lines.ensures in
    let r = c.in-Ok.ensures in
    played_does g.S.Source c.new-lines.result c.read_show_in.new.lines l.source l.unread l.taken r.answer
    (c.input-1.given.1 (sym (c.play_script.ensures.same_source ∙ r.same_reference ∙ l.same_reference))) (r.kept (λ odd. cc)) r.cause.later
    c.play_script.ensures.plays

pub returns-in-Err : goal.returns-in-Err
returns-in-Err g c =
    let l = c.new-lines.ensures in
    let r = c.in-Err.ensures in
    refused_does g.S.Source c.new-lines.result c.read_show_in.new.lines l.source l.unread l.taken (script_over c.args.form c.args.kind) r.answer
    (c.in-Err.input-in-Err-1-own.given.1 (sym (r.same_reference ∙ l.same_reference))) (λ is. r.read (ap Err is))
    (λ other. r.kept (λ is. other (cc))) r.cause.failed r.cause.later c.refuse.ensures
