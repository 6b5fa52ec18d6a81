use Rattle.lx_session.proofs.Imports.{◌∙◌, true, append-nil, [], Puts-is, Puts-ok, Puts-stops}
use Rattle.lx_session.proofs.ShownDesk.{frame_shown}
use Rattle.lx_session.proofs.finish.put_universe.Goals as goal

pub returns-in_err-put_frame-clause-text : goal.returns-in_err-put_frame-clause-text
returns-in_err-put_frame-clause-text g c = λ d stands.
    let is = frame_shown d _ _ c.args.universe _ stands c.moment.ensures
    (c.slots_of-slots.ensures.slots ∙ c.frames.ensures.frames d c.args.universe stands c.requires.least c.requires.most) in
    Puts-is (Puts-stops [] c.in_err-put_frame.ensures c.from_residual.ensures) (append-nil _ ∙ is)

pub returns-clause-text : goal.returns-clause-text
returns-clause-text g c = λ d stands.
    let is = frame_shown d _ _ c.args.universe _ stands c.moment.ensures
    (c.slots_of-slots.ensures.slots ∙ c.frames.ensures.frames d c.args.universe stands c.requires.least c.requires.most) in
    Puts-is (Puts-ok true c.in_ok-put_frame.ensures) is
