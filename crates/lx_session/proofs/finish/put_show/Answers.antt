use Rattle.lx_session.proofs.Imports.{◌∙◌, true, append-nil, [], Puts-is, Puts-ok, Puts-stops}
use Rattle.lx_session.proofs.ShownDesk.{show_saved}
use Rattle.lx_session.proofs.finish.put_show.Goals as goal

pub returns-in_err-write_show-clause-text : goal.returns-in_err-write_show-clause-text
returns-in_err-write_show-clause-text g c = λ d stands.
    Puts-is (Puts-stops [] c.in_err-write_show.ensures.text c.from_residual.ensures) (append-nil _ ∙ show_saved d _ _ stands c.show.ensures)

pub returns-clause-text : goal.returns-clause-text
returns-clause-text g c = λ d stands. Puts-is (Puts-ok true c.in_ok-write_show.ensures.text) (show_saved d _ _ stands c.show.ensures)
