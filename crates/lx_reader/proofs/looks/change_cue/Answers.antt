use Rattle.lx_reader.proofs.LookMoves.{is_made, fit_at, changed_at}
use Rattle.lx_reader.proofs.looks.change_cue.Goals as goal

pub replace_moves-requires : goal.replace_moves-requires
replace_moves-requires g c =
    let cues = c.cues-cues.ensures in
    fit_at (is_made cues.valid cues.cues c.index-cues-at.is c.channels-channels.ensures.channels c.in_ok-moves.ensures.moves) (cc) c.requires

pub returns-clause-moves : goal.returns-clause-moves
returns-clause-moves g c =
    let cues = c.cues-cues.ensures in
    changed_at (is_made cues.valid cues.cues c.index-cues-at.is c.channels-channels.ensures.channels c.in_ok-moves.ensures.moves) (cc)
    c.replace_moves.ensures.after
