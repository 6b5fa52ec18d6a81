use Rattle.lx_lists.proofs.SecondLines.{goes_on}
use Rattle.lx_lists.proofs.TwoAnswers.{two_lawful}
use Rattle.lx_lists.proofs.session.TwoListsAnswers.answer_in.Goals as goal

pub returns-in-Some-clause-answered : goal.returns-in-Some-clause-answered
returns-in-Some-clause-answered g c = λ ample stood s text stands counted is.
    c.answer_second.ensures.answered ample stood s text stands counted (c.in-Some.ensures.second text is)

pub returns-in-Some-clause-quit : goal.returns-in-Some-clause-quit
returns-in-Some-clause-quit g c = λ text line. rw (goes_on text (c.in-Some.ensures.second text line).second) c.answer_second.ensures.more

pub returns-in-Some-clause-lawful : goal.returns-in-Some-clause-lawful
returns-in-Some-clause-lawful g c = two_lawful

pub returns-in-None-clause-answered : goal.returns-in-None-clause-answered
returns-in-None-clause-answered g c = λ ample stood s text stands counted is.
    c.answer_first.ensures.answered ample stood s text stands counted is (c.rest_for_second.ensures.first c.in-None.is text is)

pub returns-in-None-clause-lawful : goal.returns-in-None-clause-lawful
returns-in-None-clause-lawful g c = two_lawful
