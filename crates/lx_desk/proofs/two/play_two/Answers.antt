use Rattle.lx_spec.specs.TwoLists.{opened_two}
use Rattle.lx_lists.proofs.TwoAnswers.{two_lawful}
use Rattle.lx_desk.proofs.Played.{nothing_plays, session_plays}
use Rattle.lx_desk.proofs.two.play_two.Goals as goal

pub returns-in-Ok-clause-plays : goal.returns-in-Ok-clause-plays
returns-in-Ok-clause-plays g c =
    let s = c.two_session_in.ensures in
    session_plays two_lawful _ _ _ c.status_of.ensures c.in-Ok.ensures.cause.later s.later
    (λ most known. s.outcome most known (opened_two c.args.show) c.in-Ok.ensures.stand) s.limit s.cause s.handed_on

pub returns-in-Err-clause-plays : goal.returns-in-Err-clause-plays
returns-in-Err-clause-plays g c = nothing_plays c.in-Err.ensures.cause.later c.in-Err.ensures.cause.failed
