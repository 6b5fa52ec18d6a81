use Rattle.lx_session.proofs.Imports.{Puts-is}
use Rattle.lx_session.proofs.Rows.{absent_reply}
use Rattle.lx_session.proofs.finish.put_sheet.Goals as goal

pub returns-in-None-clause-text : goal.returns-in-None-clause-text
returns-in-None-clause-text g c = λ d stands. Puts-is c.give.ensures.text (absent_reply d _ _ c.args.refusal stands c.in-None.ensures)
