use Rattle.lx_levels.proofs.Imports.{◌+◌, ◌-◌, ◌∷◌, drop, length, no_stack, ◌∙◌, List, ap, set, refl, arith, get_or, get_or-set_other}
use Rattle.lx_levels.proofs.Imports.{get_or-set_same, length-set, Stack}
use Rattle.lx_levels.specs.Columns.{FootReaches, foot_at}
use Rattle.lx_levels.specs.declared.racks.Foot.{Foot}
use Rattle.lx_levels.proofs.Columns.{place_within, stacks_set, reads, kept_below}
use Rattle.lx_levels.proofs.Written.{after_set}
use Rattle.lx_levels.proofs.racks.Racks.put.Goals as goal

pub write-requires-clause-within : goal.write-requires-clause-within
write-requires-clause-within c = place_within c.self.inside c.self.view_is c.requires.within

pub index_mut-requires : goal.index_mut-requires
index_mut-requires c =
    omega (arith, place_within c.self.inside c.self.view_is c.requires.within, c.self.invariant.of_feet, c.self.inside.feet.ok)

pub invariant_of-self : goal.invariant_of-self
invariant_of-self c =
    let r = c.self.inside in
    let old = c.self.invariant in
    let foot : Foot = record { bottom = c.index_mut.result.now.bottom; count = c.args.kept + 1 } in
    let within = place_within r c.self.view_is c.requires.within in
    record {
      few = old.few;
      of_feet = length-set r.feet.items c.args.k foot ∙ old.of_feet;
      each = λ i less. after_set (λ _ f. FootReaches r.channels c.write.new.block.items f) r.feet.items c.args.k foot
          (record { bottom = 0; count = 0 }) i (omega (arith, within, old.of_feet))
          (record { most = omega (arith, c.requires.room); reach = c.write.ensures.reach }) (λ apart.
          record { most = (old.each i less).most; reach = omega (arith, (old.each i less).reach, c.write.ensures.longer) });
      begin = c.write.ensures.begin old.begin;
      room_is = omega (arith, c.write.ensures.room, old.room_is);
    }

pub returns : goal.returns
returns c =
    let r = c.self.inside in
    let k = c.args.k in
    let new = c.write.new.block.items in
    let foot : Foot = record { bottom = c.index_mut.result.now.bottom; count = c.args.kept + 1 } in
    let none : Foot = record { bottom = 0; count = 0 } in
    let within = place_within r c.self.view_is c.requires.within in
    let was = get_or c.args.self.now k no_stack in
    let stack : Stack = record { bottom = was.bottom; fades = c.args.fade ∷ drop (length was.fades - c.args.kept) was.fades } in
    let read = reads r c.self.view_is c.self.invariant c.requires.within c.index_mut.ensures.value refl in
    stacks_set r.channels r.feet.items (set r.feet.items k foot) r.fades.items new k stack within
    (rw (
      get_or-set_same r.feet.items k foot none (omega (arith, within, c.self.invariant.of_feet)),
      c.write.ensures.here,
      kept_below read c.args.kept (omega (arith, read.long, c.requires.kept)),
      read.stack,
    ) refl)
    (λ i less apart.
    rw (get_or-set_other r.feet.items k i foot none apart, c.write.ensures.others i (foot_at r.feet.items i).count less apart) refl)
    ∙ ap (λ (ss : List Stack). set ss k stack) c.self.view_is
