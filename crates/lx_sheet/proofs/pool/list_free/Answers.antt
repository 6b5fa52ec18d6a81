use Rattle.lx_sheet.proofs.Imports.{◌≡◌, ◌+◌, ◌-◌, ◌∷◌, [], ◌++◌, ℕ, List, length, ap, ◌∙◌, arith, reverse, range_with_len, length-range_with_len}
use Rattle.lx_sheet.proofs.Imports.{CUES}
use Rattle.lx_sheet.proofs.RowPool.{range_append}
use Rattle.lx_sheet.proofs.pool.list_free.Goals as goal

pub push_reserved-requires : goal.push_reserved-requires
push_reserved-requires c =
    omega (arith, c.loop-row.free.ok, ap length c.loop-row.invariant.free, length-range_with_len c.args.from (c.loop-row.row - c.args.from))

pub loop-row-preserved : goal.loop-row-preserved
loop-row-preserved c =
    let from : ℕ = c.args.from in
    let row : ℕ = c.loop-row.row in
    let at : row ≡ from + (row - from) = omega arith in
    let more : row - from + 1 ≡ row + 1 - from = omega arith in
    record {
      free =
          c.push_reserved.ensures.items
          ∙ ap (λ (xs : List ℕ). xs ++ row ∷ []) c.loop-row.invariant.free
          ∙ ap (λ (r : ℕ). range_with_len from (row - from) ++ r ∷ []) at
          ∙ range_append from (row - from) 1
          ∙ ap (range_with_len from) more;
      room = omega (arith, c.push_reserved.ensures.capacity, c.loop-row.invariant.room);
    }

pub returns-clause-free : goal.returns-clause-free
returns-clause-free c =
    let all : c.loop-row.row - c.args.from ≡ CUES - c.args.from = omega arith in
    c.reverse.ensures.items ∙ ap reverse (c.loop-row.invariant.free ∙ ap (range_with_len c.args.from) all)
