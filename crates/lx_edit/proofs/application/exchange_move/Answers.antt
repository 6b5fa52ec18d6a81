use Rattle.lx_edit.proofs.Imports.{refl, Move, placed, Replaced}
use Rattle.lx_edit.proofs.MendedSheets.{left_replaced, marked_moved, others_replaced}
use Rattle.lx_edit.proofs.PlacedMoves.{moved, move_back, replaced, sees_moved}
use Rattle.lx_edit.proofs.application.exchange_move.Goals as goal
use Rattle.lx_edit.proofs.application.exchange_move.Goals.{After-mark_move}

abbrev changed : (c : After-mark_move) → Replaced c.exchange_move_in-old.new.self c.args.sheet.now c.args.n c.mark_move.new.chans
changed c =
    let show = c.args.show.now in
    let call = c.exchange_move_in-old in
    let m = moved show c.args.n c.args.entry.now call.ensures.valid c.requires.ready in
    replaced show call.new.self c.args.sheet.now c.args.n (placed (λ (x : Move). x.chan) c.args.entry.now) c.mark_move.new.chans m
    call.ensures.valid c.requires.sheet call.ensures.show
    (sees_moved show c.args.n c.args.entry.now call.result c.mark_move.new.chans m call.ensures.replaced c.mark_move.ensures.marked)

pub mend_columns-requires : goal.mend_columns-requires
mend_columns-requires c =
    let show = c.args.show.now in
    let call = c.exchange_move_in-old in
    left_replaced call.new.self c.args.sheet.now c.args.sheet.now c.args.n c.mark_move.new.chans
    (changed (goal.at.mend_columns-requires c).After-mark_move) (λ k x. refl) refl refl
    (marked_moved show call.new.self c.args.sheet.now c.args.n c.args.entry.now call.result
    (moved show c.args.n c.args.entry.now call.ensures.valid c.requires.ready) call.ensures.show call.ensures.replaced c.requires.sheet.marks)

pub returns-clause-others : goal.returns-clause-others
returns-clause-others c = rw c.of_cues.ensures.chans
    (others_replaced _ _ _ _ (changed (goal.at.returns-clause-others c).After-mark_move))

pub returns-clause-undo : goal.returns-clause-undo
returns-clause-undo c =
    let show = c.args.show.now in
    let call = c.exchange_move_in-old in
    move_back show call.new.self c.args.n c.args.entry.now call.result
    (moved show c.args.n c.args.entry.now call.ensures.valid c.requires.ready) call.ensures.valid call.ensures.show call.ensures.replaced
