use Rattle.lx_session.proofs.AnsweredLines.{one_command}
use Rattle.lx_session.proofs.key.answer_key.Goals as goal

pub returns-clause-answered : goal.returns-clause-answered
returns-clause-answered g c = λ s stands counted.
    one_command c.attempt_key-refusal.ensures.memory stands counted c.attempt_key-refusal.ensures.attempted c.attempt_key-refusal.ensures.heard
    c.reply_of.ensures c.give.ensures.text c.give.ensures.counts
