use Rattle.lx_lists.proofs.Imports.{◌∙◌, true, append-nil, []}
use Rattle.lx_io.proofs.Chain.{Puts-is, Puts-ok, Puts-stops}
use Rattle.lx_lists.proofs.TwoFrames.{frame_shown}
use Rattle.lx_lists.proofs.frame.put_universe.Goals as goal

pub returns-in_err-put_frame-clause-text : goal.returns-in_err-put_frame-clause-text
returns-in_err-put_frame-clause-text g c = λ s stands.
    let is = frame_shown s c.args.desk.now _ c.args.universe _ stands c.moment.ensures.first
    (c.slots_of-slots.ensures.slots ∙ c.frames.ensures.frames s c.args.universe stands c.requires.least c.requires.most) in
    Puts-is (Puts-stops [] c.in_err-put_frame.ensures c.from_residual.ensures) (append-nil _ ∙ is)

pub returns-clause-text : goal.returns-clause-text
returns-clause-text g c = λ s stands.
    let is = frame_shown s c.args.desk.now _ c.args.universe _ stands c.moment.ensures.first
    (c.slots_of-slots.ensures.slots ∙ c.frames.ensures.frames s c.args.universe stands c.requires.least c.requires.most) in
    Puts-is (Puts-ok true c.in_ok-put_frame.ensures) is
