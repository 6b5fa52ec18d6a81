use Rattle.lx_fade.proofs.Imports.{◌≤◌, ◌∙◌, sym, ap, arith, nat_tests, Fade}
use Rattle.lx_fade.proofs.Rows.{newest_kept, newest_left, read_is}
use Rattle.lx_fade.proofs.stack.begun_in.Goals as goal

pub returns-then-has_begun : goal.returns-then-has_begun
returns-then-has_begun c =
    let at = c.args.at in
    let is = read_is at.step at.first at.used c.loop-kept.kept c.args.row.now c.index-row-kept.result c.requires.within
    c.requires.reach c.loop-kept.invariant.within c.loop-kept-test.true c.index-row-kept.is in
    let begun : c.index-row-kept.result.start ≤ c.args.m = grind (arith, nat_tests, c.has_begun.ensures, c.if-has_begun.true) in
    record {
      count = c.loop-kept.invariant.within;
      stack = sym (newest_kept c.args.row.now at.step at.first c.loop-kept.kept c.index-row-kept.result c.loop-kept-test.true is
          c.args.m begun)
          ∙ c.loop-kept.invariant.same;
      begun = λ some. omega (arith, begun, ap (λ (f : Fade). f.start) is);
    }

pub loop-kept-preserved : goal.loop-kept-preserved
loop-kept-preserved c =
    let at = c.args.at in
    let is = read_is at.step at.first at.used c.loop-kept.kept c.args.row.now c.index-row-kept.result c.requires.within
    c.requires.reach c.loop-kept.invariant.within c.loop-kept-test.true c.index-row-kept.is in
    record {
      within = omega (arith, c.loop-kept.invariant.within);
      same = sym (newest_left c.args.row.now at.step at.first c.loop-kept.kept c.index-row-kept.result c.loop-kept-test.true is
          c.args.m (grind (arith, nat_tests, c.has_begun.ensures, c.if-has_begun.false)))
          ∙ c.loop-kept.invariant.same;
    }
