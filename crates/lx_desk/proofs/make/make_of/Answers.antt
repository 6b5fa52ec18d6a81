use Rattle.lx_desk.proofs.Imports.{◌∙◌, ap, refl, Some, ℕ, List, Err}
use Rattle.lx_io.specs.Memory.{PlainBytes}
use Rattle.lx_desk.proofs.MadeEndings.{made_does, refused_makes}
use Rattle.lx_desk.proofs.make.make_of.Goals as goal

pub returns-in-Ok : goal.returns-in-Ok
returns-in-Ok g c = λ left reads.
    let is = c.new-lines.ensures.unread ∙ ap (λ (s : PlainBytes). Some s.left) c.new-input.ensures ∙ ap (λ (b : List ℕ). Some b) c.requires in
    made_does c.args.cues _ c.new-lines.result c.read_show_in.new.lines is c.new-lines.ensures.taken c.in-Ok.ensures.answer
    c.in-Ok.ensures.cause.later refl refl c.tell_session.ensures

pub returns : goal.returns
returns g c = λ left reads.
    let is = c.new-lines.ensures.unread ∙ ap (λ (s : PlainBytes). Some s.left) c.new-input.ensures ∙ ap (λ (b : List ℕ). Some b) c.requires in
    refused_makes c.args.cues _ c.new-lines.result c.read_show_in.new.lines is c.new-lines.ensures.taken c.in-Err.ensures.answer
    (λ is. c.in-Err.ensures.read (ap Err is)) c.in-Err.ensures.cause.failed c.in-Err.ensures.cause.later c.refuse.ensures
