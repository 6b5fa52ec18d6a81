use Rattle.lx_edit.proofs.Imports.{Move, placed, CanExchange}
use Rattle.lx_edit.proofs.AssertedCues.{asserts_above, asserts_changed}
use Rattle.lx_edit.proofs.PlacedMoves.{asserts_moved}
use Rattle.lx_edit.proofs.marks.changes_asserts.Goals as goal

pub returns-else-changes_at-clause-same : goal.returns-else-changes_at-clause-same
returns-else-changes_at-clause-same c = λ same n.
    let show = c.args.show.now in
    let number = c.in-Cue.number in
    let ready : CanExchange show number c.in-Cue.to c.in-Cue.above _ = rw c.in-Cue.is at c.requires in
    rw c.in-Cue.is (asserts_above show _ c.in-Cue.above n (λ k. asserts_changed show number k c.in-Cue.to ready.number
    (c.changes_at.ensures.same c.if-changes_at.false)) (c.changes_above.ensures same))

pub returns-in-Move-clause-same : goal.returns-in-Move-clause-same
returns-in-Move-clause-same c = λ same n. rw c.in-Move.is
    (asserts_moved c.args.show.now c.in-Move.cue n (placed (λ (m : Move). m.chan) c.in-Move.to))

pub returns-in-Moves-clause-same : goal.returns-in-Moves-clause-same
returns-in-Moves-clause-same c = λ same n. rw c.in-Moves.is (asserts_moved c.args.show.now c.in-Moves.cue n (λ _. c.in-Moves.to))
