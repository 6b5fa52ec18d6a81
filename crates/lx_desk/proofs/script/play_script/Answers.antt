use Rattle.lx_desk.proofs.script.play_script.Goals as goal

pub returns-in-Render-clause-plays : goal.returns-in-Render-clause-plays
returns-in-Render-clause-plays g c = rw c.in-Render.is c.play.ensures.plays

pub returns-in-Undo-clause-plays : goal.returns-in-Undo-clause-plays
returns-in-Undo-clause-plays g c = rw c.in-Undo.is c.play_with_undo.ensures.plays

pub returns-in-Two-clause-plays : goal.returns-in-Two-clause-plays
returns-in-Two-clause-plays g c = rw c.in-Two.is c.play_two.ensures.plays
