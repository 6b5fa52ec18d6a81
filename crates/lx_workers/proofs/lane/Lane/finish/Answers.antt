use Rattle.lx_workers.proofs.Imports.{rules, List, ap, subst, IsPrefix, Command, Told, prefix_self}
use Rattle.lx_workers.proofs.LastLines.{served_learnt, delivered_part, delivered_newest}
use Rattle.lx_workers.proofs.lane.Lane.finish.Goals as goal

pub returns-then-is_some-clause-delivered : goal.returns-then-is_some-clause-delivered
returns-then-is_some-clause-delivered g c = λ start from h.
    let l = c.learn_last.ensures in
    rw (← l.all) (delivered_part (served_learnt h _ l.learnt l.chained l.universe) (search rules))

pub returns-clause-delivered : goal.returns-clause-delivered
returns-clause-delivered g c = λ start from h.
    let l = c.learn_last.ensures in
    rw (← l.all) (delivered_newest (served_learnt h _ l.learnt l.chained l.universe) c.put_newest.ensures)

pub returns-clause-seen : goal.returns-clause-seen
returns-clause-seen g c =
    subst (λ (l : List Command). IsPrefix l c.learn_last.new.self.told.seen) (ap (λ (t : Told). t.seen) c.learn_last.ensures.learnt.rest) (prefix_self _)
