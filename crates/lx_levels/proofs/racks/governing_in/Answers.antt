use Rattle.lx_levels.proofs.Imports.{◌≡◌, ◌≤◌, ◌<◌, ◌⊎◌, ◌∙◌, sym, ap, subst, arith, Fade, stack_at, stack_column, NEVER, newest_begun, newest_waits}
use Rattle.lx_levels.proofs.Columns.{before_lesser, newest_read}
use Rattle.lx_levels.proofs.racks.governing_in.Goals as goal

pub returns-then-newest-m-clause-governs : goal.returns-then-newest-m-clause-governs
returns-then-newest-m-clause-governs c =
    let read = newest_read c.args.channels c.args.k c.args.count c.loop-left.left c.args.block.now c.index-block-left.result
    c.requires.within c.requires.reach c.loop-left.invariant.within c.loop-left-test.true c.requires.begin c.index-block-left.is in
    let begun : c.index-block-left.result.start ≤ c.args.m =
    omega (arith, c.if-newest-m.true, ap (λ (f : Fade). f.start) c.newest.view_is) in
    record {
      begun = begun;
      gives = λ x from until.
          c.loop-left.invariant.same x from until
          ∙ newest_begun c.args.block.now c.args.channels c.args.k c.loop-left.left c.index-block-left.result c.loop-left-test.true read.0
          c.args.bottom x (omega (arith, begun, from));
    }

pub loop-left-preserved : goal.loop-left-preserved
loop-left-preserved c =
    let read = newest_read c.args.channels c.args.k c.args.count c.loop-left.left c.args.block.now c.index-block-left.result
    c.requires.within c.requires.reach c.loop-left.invariant.within c.loop-left-test.true c.requires.begin c.index-block-left.is in
    let start : c.newest.inside.start ≡ c.index-block-left.result.start = ap (λ (f : Fade). f.start) c.newest.view_is in
    record {
      within = omega (arith, c.loop-left.invariant.within);
      wake = omega (arith, c.loop-left.invariant.wake, c.if-newest-m.false, c.min-wake.ensures, start);
      most = omega (arith, c.loop-left.invariant.most, c.min-wake.ensures);
      same = λ x from until.
          let both = before_lesser c.min-wake.ensures (omega (arith, read.1, start)) until in
          c.loop-left.invariant.same x from both.0
          ∙ newest_waits c.args.block.now c.args.channels c.args.k c.loop-left.left c.index-block-left.result c.loop-left-test.true read.0
          c.args.bottom x (omega (arith, both.1, start));
    }

pub returns-clause-governs : goal.returns-clause-governs
returns-clause-governs c = record {
  begun = omega (arith, c.still.ensures.begun);
  gives = λ x from until.
      c.loop-left.invariant.same x from (subst (λ w. (x < w) ⊎ (w ≡ NEVER)) c.still.ensures.wake until)
      ∙ ap (λ n. stack_at c.args.bottom (stack_column c.args.block.now c.args.channels c.args.k n) x)
      (let e : c.loop-left.left ≡ 0 = omega (arith, c.loop-left-test.false) in e)
      ∙ sym (c.still.ensures.level x);
}
