use Rattle.lx_edit.proofs.Imports.{Group}
use Rattle.lx_edit.proofs.Lists.{numbered}
use Rattle.lx_edit.proofs.members.group_or_new.Goals as goal

pub returns-in-Some-clause-number : goal.returns-in-Some-clause-number
returns-in-Some-clause-number g c =
    numbered (λ (x : Group). x.number) c.copy.result c.in-Some.group.now c.args.g c.args.show.now.groups c.copy.ensures.set c.in-Some.ensures.group
