use Rattle.lx_reader.proofs.Imports.{ap, ◌∙◌, left, onto}
use Rattle.lx_reader.proofs.OpenMoves.{level_alone, levels_none, levels_then}
use Rattle.lx_reader.proofs.open_moves.put_line.Goals as goal

pub loop-tokens-init : goal.loop-tokens-init
loop-tokens-init c = levels_none c.args.i c.args.part c.args.least (left c.args.tokens) c.args.row.now

pub loop-tokens-preserved : goal.loop-tokens-preserved
loop-tokens-preserved c =
    let next = rw c.in-Ok-Some.field-0-is at c.in-Ok-Some.ensures.list in
    let put = c.put-greatest.ensures in
    levels_then (levels_then c.loop-tokens.invariant (c.put_near.ensures.levels c.args.i))
    (level_alone next put.valid put.moves put.greater)

pub returns-in-Ok-None-clause-levels : goal.returns-in-Ok-None-clause-levels
returns-in-Ok-None-clause-levels c =
    let none = rw c.in-Ok-None.field-0-is at c.in-Ok-None.ensures.list in
    rw none at (levels_then c.loop-tokens.invariant (c.put_near.ensures.levels c.args.i))

pub returns-in-Err-clause-fault : goal.returns-in-Err-clause-fault
returns-in-Err-clause-fault c =
    let so_far = levels_then c.loop-tokens.invariant (c.put_near.ensures.levels c.args.i) in
    so_far.list ∙ ap (onto so_far.members) c.in-Err.ensures.list

pub returns-then-is_at_end-clause-levels : goal.returns-then-is_at_end-clause-levels
returns-then-is_at_end-clause-levels c =
    rw (c.is_at_end.ensures c.if-is_at_end.true) at (levels_then c.loop-tokens.invariant (c.put_near.ensures.levels c.args.i))
