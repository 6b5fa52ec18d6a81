use Rattle.lx_edit.proofs.Imports.{◌≡◌, ◌-◌, ◌∙◌, ap, sym, subst, None, List, Option, option_copied, Move, entry_at, Cue, tracked, move_by}
use Rattle.lx_edit.proofs.Imports.{SameEntry}
use Rattle.lx_edit.proofs.ChangedColumns.{same_entry, nothing_tracks}
use Rattle.lx_edit.proofs.MoveMarks.{move_by-moves}
use Rattle.lx_edit.proofs.marks.mark_change.Goals as goal

pub returns-then-is_block-clause-same : goal.returns-then-is_block-clause-same
returns-then-is_block-clause-same c =
    let show = c.args.show.now in
    let n = c.args.n in
    let old = option_copied c.cue-old.result in
    let new = option_copied c.args.new in
    λ x out.
    let among = λ (ms : List Move). entry_at (λ (m : Move). m.chan) x ms in
    let moves : move_by old x ≡ move_by new x =
    move_by-moves old x ∙ sym (ap among c.moves_of.ensures.moves)
    ∙ c.mark_moves.ensures.same x (c.mark_tracked.ensures.grows x out)
    ∙ ap among c.moves_of-2.ensures.moves ∙ sym (move_by-moves new x) in
    let none : move_by new x ≡ None → tracked show (n - 1) x ≡ 0 =
    λ absent. nothing_tracks show (n - 1) x c.cue-old.ensures.show
    (λ least most. sym (c.requires.columns x (n - 1)) ∙ c.mark_tracked.ensures.marked x least most out absent) in
    subst (λ (o : Option Cue). SameEntry o new x (tracked show (n - 1) x)) c.cue-old.ensures.cue
    (same_entry old new x (tracked show (n - 1) x) moves none)
