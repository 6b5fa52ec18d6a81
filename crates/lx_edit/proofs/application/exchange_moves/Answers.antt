use Rattle.lx_edit.proofs.Imports.{Replaced}
use Rattle.lx_edit.proofs.MendedSheets.{others_replaced}
use Rattle.lx_edit.proofs.PlacedMoves.{moved_all, moves_back, replaced}
use Rattle.lx_edit.proofs.application.exchange_moves.Goals as goal
use Rattle.lx_edit.proofs.application.exchange_moves.Goals.{After-replace_moves-old}

abbrev changed : (c : After-replace_moves-old) → Replaced c.replace_moves-old.new.self c.args.sheet.now c.args.n c.mark_within.new.chans
changed c =
    let show = c.args.show.now in
    let call = c.replace_moves-old in
    replaced show call.new.self c.args.sheet.now c.args.n (λ _. c.args.moves) c.mark_within.new.chans
    (moved_all show c.args.n c.args.moves c.args.within call.ensures.valid c.requires.ready) call.ensures.valid c.requires.sheet
    call.ensures.after (rw c.as_slice.ensures.entries at c.mark_within.ensures)

pub mend_cue-requires : goal.mend_cue-requires
mend_cue-requires c = changed (goal.at.mend_cue-requires c).After-replace_moves-old

pub returns-clause-others : goal.returns-clause-others
returns-clause-others c = rw c.of_cues.ensures.chans
    (others_replaced _ _ _ _ (changed (goal.at.returns-clause-others c).After-replace_moves-old))

pub returns-clause-undo : goal.returns-clause-undo
returns-clause-undo c =
    let show = c.args.show.now in
    let call = c.replace_moves-old in
    moves_back show call.new.self c.args.n c.args.moves call.result c.args.within
    (moved_all show c.args.n c.args.moves c.args.within call.ensures.valid c.requires.ready) call.ensures.valid call.ensures.after
    c.requires.ready call.ensures.before
