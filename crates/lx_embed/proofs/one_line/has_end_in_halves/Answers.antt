use Rattle.lx_embed.proofs.Imports.{◌+◌, ◌-◌, length, arith}
use Rattle.lx_embed.proofs.LineEndRuns.{runs_on}
use Rattle.lx_embed.proofs.one_line.has_end_in_halves.Goals as goal

pub returns : goal.returns
returns c =
    let n = length c.args.bytes.now in
    let half = c.args.half in
    let low = c.requires.low in
    runs_on c.args.bytes.now _ _ (0 + half) (n - half) (n - half + half) n (omega (arith, c.requires.high)) (omega (arith, low))
    (omega (arith, low)) c.has_end.ensures c.has_end-2.ensures
