use Rattle.lx_gate.proofs.Imports.{ap, subst, List, IsPrefix, Command}
use Rattle.lx_gate.proofs.BatchAddition.{flat_prefix}
use Rattle.lx_gate.proofs.LongestList.{chained}
use Rattle.lx_gate.proofs.history.Prefix.chain.Goals as goal

pub returns : goal.returns
returns g c =
    let both = c.learn.new.self.log in
    let this : IsPrefix c.self.inside.seen.log both =
    subst (λ (l : List (List Command)). IsPrefix l both) (ap (λ s. s.log) c.again-both.ensures) c.learn.ensures.2 in
    rw (← c.self.view_is, ← c.other.view_is) (chained _ _ _ (flat_prefix _ _ this) (flat_prefix _ _ c.learn.ensures.3))
