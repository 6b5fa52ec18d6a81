use Rattle.lx_edit.proofs.Imports.{◌≡◌, ℕ, ◌∙◌, Some, ap, sym, arith, ◌||◌, ◌==◌, Move, entry_at, has_chan}
use Rattle.lx_edit.proofs.MoveMarks.{among_more, is_in, one_more}
use Rattle.lx_edit.proofs.marks.mark_below.Goals as goal

pub loop-next-preserved : goal.loop-next-preserved
loop-next-preserved c =
    let before = c.loop-next.chans in
    let chans = c.insert.new.self in
    let moves = c.args.moves.now in
    let m = c.index-moves-next-in-loop-next.result in
    let added : (x : ℕ) → has_chan chans x ≡ (x == m.chan || has_chan before x) =
    λ x. c.insert.ensures x ∙ ap (λ (q : Move). x == q.chan || has_chan before x) (sym c.index-moves-next-in-loop-next.is) in
    let grows = one_more before chans m.chan added in
    record {
      grows = λ x out. c.loop-next.invariant.grows x (grows x out);
      within = omega arith;
      marked = λ others all. among_more before chans moves others c.loop-next.next m c.loop-next-test.true
          c.index-moves-next-in-loop-next.is grows
          (is_in before chans m.chan (entry_at (λ (x : Move). x.chan) m.chan others ≡ Some m) added)
          (c.loop-next.invariant.marked others all);
    }
