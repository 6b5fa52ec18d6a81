use Rattle.lx_session.proofs.Imports.{option_copied}
use Rattle.lx_session.proofs.HeardLines.{answered_heard, desk_lawful, meaning_is}
use Rattle.lx_session.proofs.beside.AnyAnswersBesideConsole.answer_beside.Goals as goal

pub returns-clause-answered : goal.returns-clause-answered
returns-clause-answered g c = λ all ample may since s text h counts is.
    let first = c.args.self.now in
    let now = c.answer_in.new.listener in
    answered_heard g.L.Listener.heard since first now may.admitted may.memory
    (λ from done more one two. g.met.L.Listener.both from first now done more one two) h
    (rw (meaning_is (option_copied c.args.line) text is) at (c.answer_in.ensures.answered s h.stands counts))

pub returns-clause-lawful : goal.returns-clause-lawful
returns-clause-lawful g c = desk_lawful
