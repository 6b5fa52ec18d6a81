use Rattle.lx_levels.proofs.Imports.{sym, arith, Cue}
use Rattle.lx_show.proofs.Indexes.{stands_entry, stands_where}
use Rattle.lx_levels.proofs.hints.cue_near.Goals as goal

pub returns-then-is_of : goal.returns-then-is_of
returns-then-is_of c =
    let stands = stands_where (λ (q : Cue). q.number) c.args.n c.cues-cues.result.now c.args.near.now c.index-cues-at.result
    (rw c.cues-cues.ensures.cues c.cues-cues.ensures.valid.cues_sorted) (omega (arith, c.if-at-cues.true)) c.index-cues-at.is
    (c.is_of.ensures c.if-is_of.true) in
    sym (stands_entry (λ (q : Cue). q.number) c.args.n c.args.near.now c.cues-cues.result.now c.args.show.now.cues c.index-cues-at.result
    c.cues-cues.ensures.cues stands (rw (← c.cues-cues.ensures.cues) c.index-cues-at.is))

pub returns-in-Ok : goal.returns-in-Ok
returns-in-Ok c = rw (← c.get.ensures.value) (sym (stands_entry (λ (q : Cue). q.number) c.get.result c.in-Ok.at c.cues-cues.result.now
    c.args.show.now.cues c.index-cues-at-in-Ok.result c.cues-cues.ensures.cues c.in-Ok.ensures.stands
    (rw (← c.cues-cues.ensures.cues) c.index-cues-at-in-Ok.is)))
