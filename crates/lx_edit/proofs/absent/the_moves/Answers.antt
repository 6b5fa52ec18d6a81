use Rattle.lx_edit.proofs.Imports.{◌≡◌, ◌+◌, ◌-◌, ◌∙◌, ap, sym, false, suc, ℕ, arith, rules, is_none, move_in}
use Rattle.lx_edit.proofs.Lists.{find_next}
use Rattle.lx_edit.proofs.absent.the_moves.Goals as goal

pub loop-n-preserved : goal.loop-n-preserved
loop-n-preserved c =
    let cue = c.args.cue.now in
    let n = c.loop-n.n in
    let last = c.get-last.result in
    let found : is_none c.move_of.result ≡ false = search rules in
    let has : is_none (move_in cue n) ≡ false = ap (λ (k : ℕ). is_none (move_in cue k)) (sym c.channel-c.ensures)
    ∙ ap is_none (sym c.move_of.ensures) ∙ found in
    let within : last + 1 - n ≡ suc (last + 1 - (n + 1)) = omega (arith, c.loop-n-test.true) in
    c.loop-n.invariant ∙ find_next (λ k. is_none (move_in cue k)) n (last + 1 - n) (last + 1 - (n + 1)) has within
