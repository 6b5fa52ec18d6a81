use Rattle.lx_desk.proofs.Imports.{UNDO_DEPTH}
use Rattle.lx_spec.specs.Undo.{opened_with}
use Rattle.lx_undo.proofs.Lawful.{undo_lawful}
use Rattle.lx_desk.proofs.Played.{nothing_plays, session_plays}
use Rattle.lx_desk.proofs.undo.play_with_undo.Goals as goal

pub returns-in-Ok-clause-plays : goal.returns-in-Ok-clause-plays
returns-in-Ok-clause-plays g c =
    let s = c.undo_session_in.ensures in
    session_plays undo_lawful _ _ _ c.status_of.ensures c.in-Ok.ensures.cause.later s.later
    (λ most known. s.outcome most known (opened_with c.args.show UNDO_DEPTH) c.in-Ok.ensures.stands) s.limit s.cause s.handed_on

pub returns-in-Err-clause-plays : goal.returns-in-Err-clause-plays
returns-in-Err-clause-plays g c = nothing_plays c.in-Err.ensures.cause.later c.in-Err.ensures.cause.failed
