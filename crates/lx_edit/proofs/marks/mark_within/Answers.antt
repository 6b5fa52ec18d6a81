use Rattle.lx_edit.proofs.Imports.{◌≡◌, ◌∙◌, ap, List, Some, rules, Move, entry_at, Cue, cue_of}
use Rattle.lx_edit.proofs.MoveMarks.{same_within}
use Rattle.lx_edit.proofs.marks.mark_within.Goals as goal

pub returns-in-Some : goal.returns-in-Some
returns-in-Some c =
    let show = c.args.show.now in
    let moves : List Move = c.args.moves.now in
    let cue : Cue = c.in-Some.before.now in
    let chans = c.mark_moves.new.chans in
    let there : cue_of show c.args.n ≡ Some cue = search rules in
    let own : c.as_slice.result.now ≡ cue.moves = c.as_slice.ensures.entries ∙ ap (λ (q : Cue). q.moves) c.before-in-Some.view_is in
    rw there (same_within c.args.within cue.moves moves c.part_of-old.result.now c.part_of.result.now chans (rw there at c.requires.same)
    (λ k within. c.part_of-old.ensures.part k within ∙ ap (λ (ms : List Move). entry_at (λ m. m.chan) k ms) own)
    c.part_of.ensures.part c.mark_moves.ensures.same)
