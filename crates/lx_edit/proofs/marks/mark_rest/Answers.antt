use Rattle.lx_edit.proofs.Imports.{List, refl, subst, arith, take_all, Move, stands_entry, stands_where, AreAmong}
use Rattle.lx_edit.proofs.MoveMarks.{among_grown, among_more, same_moves}
use Rattle.lx_edit.proofs.marks.mark_rest.Goals as goal

pub loop-entry-preserved : goal.loop-entry-preserved
loop-entry-preserved c =
    let old : List Move = c.args.old.now in
    let new : List Move = c.args.new.now in
    let inv = c.loop-entry.invariant in
    let entry : Move = c.entry-item.result in
    record {
      grows = λ x out. inv.grows x (c.mark_below.ensures.grows x (c.mark_beside.ensures.grows x out));
      within = c.mark_beside.ensures.within;
      old = c.mark_beside.ensures.marked new
          (stands_entry (λ (m : Move). m.chan) entry.chan c.loop-entry.entry-index new new entry refl
          (stands_where (λ (m : Move). m.chan) entry.chan new c.loop-entry.entry-index entry c.requires.new c.loop-entry-test.true
          c.entry-item.is refl) c.entry-item.is)
          (c.mark_below.ensures.marked new inv.old);
      new = among_more c.loop-entry.chans c.mark_beside.new.chans new old c.loop-entry.entry-index entry c.loop-entry-test.true
          c.entry-item.is (λ x out. c.mark_below.ensures.grows x (c.mark_beside.ensures.grows x out)) c.mark_beside.ensures.here inv.new;
    }

pub returns-clause-same : goal.returns-clause-same
returns-clause-same c =
    let old : List Move = c.args.old.now in
    let new : List Move = c.args.new.now in
    let inv = c.loop-entry.invariant in
    let chans = c.mark_below-2.new.chans in
    same_moves chans old new
    (subst (λ (ms : List Move). AreAmong chans ms new) (take_all c.mark_below-2.new.next old (omega (arith, c.mark_below-2.ensures.all refl)))
    (c.mark_below-2.ensures.marked new inv.old))
    (among_grown c.loop-entry.chans chans new old c.mark_below-2.ensures.grows
    (subst (λ (ms : List Move). AreAmong c.loop-entry.chans ms old)
    (take_all c.loop-entry.entry-index new (omega (arith, c.loop-entry-test.false))) inv.new))
