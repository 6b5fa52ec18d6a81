use Rattle.lx_edit.proofs.Imports.{Sub}
use Rattle.lx_edit.proofs.Lists.{numbered}
use Rattle.lx_edit.proofs.members.sub_or_new.Goals as goal

pub returns-in-Some-clause-number : goal.returns-in-Some-clause-number
returns-in-Some-clause-number g c =
    numbered (λ (x : Sub). x.number) c.copy.result c.in-Some.sub.now c.args.s c.args.show.now.subs c.copy.ensures.set c.in-Some.ensures.sub
