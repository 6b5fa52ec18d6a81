use Rattle.lx_fade.proofs.Imports.{◌<◌, ◌≤◌, ◌∙◌, sym, ap, arith, Fade}
use Rattle.lx_fade.proofs.Rows.{newest_begun, read_is}
use Rattle.lx_fade.proofs.stack.newest_at.Goals as goal

pub returns : goal.returns
returns c =
    let at = c.args.at in
    let some : 0 < c.args.kept = omega (arith, c.if-kept-eq0.false) in
    let is = read_is at.step at.first at.used c.args.kept c.args.row.now c.index-row-kept.result c.requires.within c.requires.reach
    c.requires.kept some c.index-row-kept.is in
    let begun : c.index-row-kept.result.start ≤ c.args.m = omega (arith, c.requires.begun some, ap (λ (f : Fade). f.start) is) in
    c.value_at.ensures
    ∙ sym (newest_begun c.args.row.now at.step at.first c.args.kept c.index-row-kept.result some is c.args.bottom c.args.m begun)
