use Rattle.lx_lex.proofs.Imports.{◌≡◌, suc, ◌+◌, ◌-◌, length, ap, ◌∙◌, arith, tokens, after_tokens}
use Rattle.lx_lex.proofs.Imports.{after_all, is_blank}
use Rattle.lx_spec.proofs.Comparisons.{le_true}
use Rattle.lx_lex.proofs.cut.rest_after.Goals as goal

pub loop-preserved : goal.loop-preserved
loop-preserved c =
    let e : c.args.count - c.loop.counter ≡ suc (c.args.count - (c.loop.counter + 1)) = omega arith in
    (rw c.in-Some.ensures.1 (rw e at c.loop.invariant.0), omega (arith, ap length c.in-Some.ensures.0, c.loop.invariant.1))

pub returns : goal.returns
returns c =
    let z : c.args.count - c.loop.counter ≡ 0 = omega arith in
    let r : c.loop.rest.now ≡ after_tokens c.args.count c.args.line.now = rw z at c.loop.invariant.0 in
    let t = le_true c.args.count (length (tokens c.args.line.now)) (omega arith) in
    rw (t, ← r) (c.past_blanks.ensures ∙ ap (after_all is_blank) c.past_separator.ensures)
