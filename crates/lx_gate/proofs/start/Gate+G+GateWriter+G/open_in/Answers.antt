use Rattle.lx_gate.proofs.Imports.{subst, Valid}
use Rattle.lx_gate.proofs.DarkDesk.{dark}
use Rattle.lx_gate.proofs.FirstVersion.{first_is}
use Rattle.lx_gate.proofs.start.Gate+G+GateWriter+G.open_in.Goals as goal

pub writer-requires-clause-version : goal.writer-requires-clause-version
writer-requires-clause-version g c = rw (c.first_version.ensures, c.again.ensures, c.named-history.ensures)
    (first_is _ (dark _ (subst Valid c.requires.show c.channels-channels.ensures.valid)))

pub invariant_of-gate : goal.invariant_of-gate
invariant_of-gate g c = record {
  list_is = rw (c.in_ok-writer.ensures.writer.0, c.first_version.ensures) c.again.ensures;
  version = rw (c.in_ok-writer.ensures.writer.0, c.first_version.ensures, c.again.ensures, c.named-history.ensures)
      (first_is _ (dark _ (subst Valid c.requires.show c.channels-channels.ensures.valid)));
  none = c.in_ok-writer.ensures.writer.1;
}
