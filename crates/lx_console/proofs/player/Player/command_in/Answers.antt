use Rattle.lx_console.proofs.Obedience.{answers, answers_edit}
use Rattle.lx_console.proofs.player.Player.command_in.Goals as goal

pub returns-in-Edit-clause-answers : goal.returns-in-Edit-clause-answers
returns-in-Edit-clause-answers g c = λ d stands.
    rw c.in-Edit.is (answers_edit _ c.edit.result stands c.edit.ensures.ok c.edit.ensures.err c.edit.ensures.memory)

pub returns-in-Key-clause-answers : goal.returns-in-Key-clause-answers
returns-in-Key-clause-answers g c = λ d stands. rw c.in-Key.is (answers c.press.result (c.press.ensures.obeys d stands))

pub returns-in-Tick-clause-answers : goal.returns-in-Tick-clause-answers
returns-in-Tick-clause-answers g c = λ d stands. rw c.in-Tick.is (answers c.tick.result (c.tick.ensures.obeys d stands))
