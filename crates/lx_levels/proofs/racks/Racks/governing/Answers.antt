use Rattle.lx_levels.proofs.Imports.{arith}
use Rattle.lx_levels.proofs.Columns.{place_within, reads}
use Rattle.lx_levels.proofs.racks.Racks.governing.Goals as goal

pub index-foot-requires : goal.index-foot-requires
index-foot-requires c =
    omega (arith, place_within c.self.inside c.self.view_is c.requires.within, c.self.invariant.of_feet, c.self.inside.feet.ok)

pub governing_in-requires-clause-within : goal.governing_in-requires-clause-within
governing_in-requires-clause-within c = place_within c.self.inside c.self.view_is c.requires.within

pub governing_in-requires-clause-reach : goal.governing_in-requires-clause-reach
governing_in-requires-clause-reach c =
    (reads c.self.inside c.self.view_is c.self.invariant c.requires.within c.index-foot.ensures c.deref.ensures.value).reach

pub returns-clause-governs : goal.returns-clause-governs
returns-clause-governs c =
    rw (reads c.self.inside c.self.view_is c.self.invariant c.requires.within c.index-foot.ensures c.deref.ensures.value).stack
    c.governing_in.ensures.governs
