use Rattle.lx_levels.proofs.Imports.{◌∙◌, List, ap, set, refl, [], arith, get_or-set_other, get_or-set_same, Stack}
use Rattle.lx_levels.specs.declared.racks.Foot.{Foot}
use Rattle.lx_levels.proofs.Columns.{place_within, stacks_set}
use Rattle.lx_levels.proofs.racks.Racks.restart.Goals as goal

pub index_mut-requires : goal.index_mut-requires
index_mut-requires c =
    omega (arith, place_within c.self.inside c.self.view_is c.requires, c.self.invariant.of_feet, c.self.inside.feet.ok)

pub returns : goal.returns
returns c =
    let r = c.self.inside in
    let k = c.args.k in
    let foot : Foot = record { bottom = c.args.bottom; count = 0 } in
    let none : Foot = record { bottom = 0; count = 0 } in
    let within = place_within r c.self.view_is c.requires in
    rw (← c.self.view_is) (stacks_set r.channels r.feet.items (set r.feet.items k foot) r.fades.items r.fades.items k _ within
    (rw (get_or-set_same r.feet.items k foot none (omega (arith, within, c.self.invariant.of_feet))) refl)
    (λ i less apart. rw (get_or-set_other r.feet.items k i foot none apart) refl))
