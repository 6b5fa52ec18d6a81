use Rattle.lx_levels.proofs.Imports.{arith}
use Rattle.lx_levels.proofs.Columns.{place_within, reads}
use Rattle.lx_levels.proofs.racks.Racks.value.Goals as goal

pub index-foot-requires : goal.index-foot-requires
index-foot-requires c =
    omega (arith, place_within c.self.inside c.self.view_is c.requires, c.self.invariant.of_feet, c.self.inside.feet.ok)

pub value_in-requires : goal.value_in-requires
value_in-requires c =
    let read = reads c.self.inside c.self.view_is c.self.invariant c.requires c.index-foot.ensures c.deref.ensures.value in
    record { within = read.within; reach = read.reach }

pub returns : goal.returns
returns c = rw (reads c.self.inside c.self.view_is c.self.invariant c.requires c.index-foot.ensures c.deref.ensures.value).stack c.value_in.ensures
