use Rattle.lx_undo.proofs.Lawful.{undo_lawful}
use Rattle.lx_undo.proofs.Lines.{goes_on}
use Rattle.lx_undo.proofs.session.UndoDeskAnswers.answer_in.Goals as goal

pub returns-in-OfHistory-clause-answered : goal.returns-in-OfHistory-clause-answered
returns-in-OfHistory-clause-answered g c = λ ample stood s text stands counted is.
    c.answer_asked.ensures.answered ample stood s text stands counted (c.in-OfHistory.ensures.meaning text is).0

pub returns-in-OfHistory-clause-quit : goal.returns-in-OfHistory-clause-quit
returns-in-OfHistory-clause-quit g c = λ text line.
    rw (goes_on text c.in-OfHistory.what (c.in-OfHistory.ensures.meaning text line).0) c.answer_asked.ensures.more

pub returns-in-OfHistory-clause-lawful : goal.returns-in-OfHistory-clause-lawful
returns-in-OfHistory-clause-lawful g c = undo_lawful

pub returns-in-OfDesk-clause-answered : goal.returns-in-OfDesk-clause-answered
returns-in-OfDesk-clause-answered g c = λ ample stood s text stands counted is.
    let read = c.in-OfDesk.ensures.meaning text is in
    c.answer_plain.ensures.answered ample stood s text stands counted read.1 read.0

pub returns-in-OfDesk-clause-quit : goal.returns-in-OfDesk-clause-quit
returns-in-OfDesk-clause-quit g c = λ text line. c.answer_plain.ensures.quit text (c.in-OfDesk.ensures.meaning text line).1

pub returns-in-OfDesk-clause-lawful : goal.returns-in-OfDesk-clause-lawful
returns-in-OfDesk-clause-lawful g c = undo_lawful
