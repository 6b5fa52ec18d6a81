use Rattle.lx_lex.proofs.Imports.{◌≡◌, ◌+◌, ◌-◌, ◌*◌, ◌/◌, ◌≤◌, refl, take, get_or, ap, sym, ◌∙◌, arith, mul-le-mul_right}
use Rattle.lx_lex.proofs.Imports.{common_steps, list_all_more, fold_more, number_of}
use Rattle.lx_lex.proofs.Fractions.{fraction-more, step-more, ten_pos}
use Rattle.lx_lex.proofs.decimal.fraction.Goals as goal

pub loop-b-init : goal.loop-b-init
loop-b-init c = record {
  digits = refl;
  part = omega arith;
  step = omega arith;
  room = omega arith;
  less = rw c.requires.1 (ten_pos c.requires.0);
}

pub loop-b-preserved : goal.loop-b-preserved
loop-b-preserved c =
    let ds = c.args.digits.now in
    let i = c.loop-b.b-index in
    let e = c.in_ok-digit.ensures in
    let d : c.from.result ≡ get_or ds i 0 - 48 = c.from.ensures ∙ e.1 in
    let nine : c.from.result ≤ 9 = omega (arith, c.from.ensures, e.2) in
    let n : number_of (take (i + 1) ds) ≡ 10 * number_of (take i ds) + c.from.result =
    fold_more (λ n b. 10 * n + (b - 48)) 0 ds i 0 (omega arith) ∙ ap (λ x. 10 * number_of (take i ds) + x) (sym d) in
    let k : c.from.result * (c.loop-b.step / 10) ≤ 9 * (c.loop-b.step / 10) = mul-le-mul_right (c.loop-b.step / 10) nine in
    record {
      digits = grind (arith, common_steps, list_all_more);
      part = rw (c.loop-b.invariant.part, c.loop-b.invariant.step, n)
          (fraction-more c.args.unit c.requires.0 i (number_of (take i ds)) c.from.result c.requires.1 nine);
      step = rw c.loop-b.invariant.step (step-more c.args.unit i);
      room = omega arith;
      less = omega arith;
    }
