use Rattle.lx_sheet.proofs.Imports.{◌≡◌, ◌+◌, ◌∷◌, [], ◌++◌, ℕ, List, length, take, sym, ap, ◌∙◌, arith, length-take, take_more, Cue, placed_from}
use Rattle.lx_sheet.proofs.ListedRows.{length-placed_from, placed_from-more}
use Rattle.lx_sheet.proofs.pool.list_cues.Goals as goal

pub push_reserved-requires : goal.push_reserved-requires
push_reserved-requires c =
    let row : ℕ = c.loop-row.row in
    omega (arith, c.loop-row.order.ok, ap length c.loop-row.invariant.order, length-placed_from, length-take row c.args.cues.now)

pub loop-row-preserved : goal.loop-row-preserved
loop-row-preserved c =
    let row : ℕ = c.loop-row.row in
    let cues : List Cue = c.args.cues.now in
    let cue : Cue = c.index-cues-row.result in
    let number : c.cue.inside.number ≡ cue.number = ap (λ (q : Cue). q.number) c.cue.view_is in
    let at : row ≡ 0 + length (take row cues) = omega (arith, length-take row cues) in
    let more : take (row + 1) cues ≡ take row cues ++ cue ∷ [] = take_more cues row cue c.loop-row-test.true
    ∙ ap (λ (x : Cue). take row cues ++ x ∷ []) (sym c.index-cues-row.is) in
    record {
      order =
          c.push_reserved.ensures.items
          ∙ rw (c.loop-row.invariant.order, number, more, placed_from-more 0 (take row cues) cue)
          (ap (λ (r : ℕ). placed_from 0 (take row cues) ++ record { cue = cue.number; row = r } ∷ []) at);
      room = omega (arith, c.push_reserved.ensures.capacity, c.loop-row.invariant.room);
    }
