use Rattle.lx_embed.proofs.Imports.{◌+◌, ◌-◌, length, refl, arith}
use Rattle.lx_embed.proofs.LineEndRuns.{runs_on}
use Rattle.lx_embed.proofs.one_line.has_end_in_quarters.Goals as goal

pub returns : goal.returns
returns c =
    let bytes = c.args.bytes.now in
    let n = length bytes in
    let second = c.min.result in
    let third = c.min-2.result in
    let low = c.requires.low in
    let high = c.requires.high in
    let x = c.min.ensures in
    let y = c.min-2.ensures in
    let two = runs_on bytes _ _ 8 second (second + 8) (second + 8) (omega (arith, x)) (omega arith) refl c.has_end.ensures c.has_end-2.ensures in
    let three = runs_on bytes _ _ (second + 8) third (third + 8) (third + 8) (omega (arith, x, y)) (omega (arith, x, y)) refl two
    c.has_end-3.ensures in
    runs_on bytes _ _ (third + 8) (n - 8) (n - 8 + 8) n (omega (arith, y, high)) (omega (arith, y, low)) (omega (arith, low)) three
    c.has_end-4.ensures
