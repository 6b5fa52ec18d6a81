use Rattle.lx_console.proofs.Imports.{◌≡◌, ◌-◌, ◌+◌, ◌*◌, ap, arith, take, drop}
use Rattle.lx_console.proofs.slots.slots_of.Goals as goal

pub returns-clause-slots : goal.returns-clause-slots
returns-clause-slots c =
    let start = 512 * (c.args.universe - 1) in
    let wide : start + 512 - start ≡ 512 = omega arith in
    ap (λ n. take n (drop start c.args.slots.now)) wide
