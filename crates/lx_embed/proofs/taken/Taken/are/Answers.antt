use Rattle.lx_embed.proofs.Imports.{rules, false, [], ◌-◌, arith}
use Rattle.lx_embed.proofs.TakenLists.{taken_are, untaken_are}
use Rattle.lx_embed.proofs.taken.Taken.are.Goals as goal

pub returns-then-it : goal.returns-then-it
returns-then-it c =
    taken_are c.args.self.now.universes (record { is_taken = false; slots = [] }) (c.args.universe - 1) c.args.slots.now c.next_change.result
    c.is_none.result (omega (arith, c.type_inv.self)) c.if-it.true c.is_none.ensures (search rules) c.next_change.ensures.some c.next_change.ensures.none

pub returns-else-it : goal.returns-else-it
returns-else-it c =
    untaken_are c.args.self.now.universes (record { is_taken = false; slots = [] }) (c.args.universe - 1) c.args.slots.now
    (omega (arith, c.type_inv.self)) c.if-it.false
