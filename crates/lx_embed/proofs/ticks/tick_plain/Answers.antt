use Rattle.lx_embed.proofs.Imports.{◌≡◌, ℕ, ◌+◌, ◌-◌, ◌∙◌, sym, subst, arith, IsOkAnd, Desk, step, Kept, StandsFor, after_ticks}
use Rattle.lx_spec.specs.declared.Command.TheVariants as commands
use Rattle.lx_embed.proofs.TicksMore.{ticks_more, ticks_one, if_refused, if_accepted, refused_by}
use Rattle.lx_embed.proofs.ticks.tick_plain.Goals as goal

pub returns-then-is_err-clause-ticks : goal.returns-then-is_err-clause-ticks
returns-then-is_err-clause-ticks c = λ d stands.
    let more = ticks_more (c.args.n - c.ticks.left) c.pass-left.result d (λ x. StandsFor x c.ticks.console)
    (λ x. StandsFor x c.pass-left.new.self) (c.ticks.invariant.ticks d stands) c.pass-left.ensures.ticks in
    let count : c.args.n - c.ticks.left + c.pass-left.result ≡ c.args.n - (c.ticks.left - c.pass-left.result) =
    omega (arith, c.ticks.invariant.most, c.pass-left.ensures.most) in
    let same : c.tick.new.self ≡ c.pass-left.new.self =
    if_refused c.tick.result (sym c.is_err.ensures.value ∙ c.if-is_err.true) c.tick.ensures.unchanged in
    rw (← count, same) more

pub ticks-preserved-then-left-gt0 : goal.ticks-preserved-then-left-gt0
ticks-preserved-then-left-gt0 c = record {
  most = omega (arith, c.ticks.invariant.most);
  ticks = λ d stands.
      let more = ticks_more (c.args.n - c.ticks.left) c.pass-left.result d (λ x. StandsFor x c.ticks.console)
      (λ x. StandsFor x c.pass-left.new.self) (c.ticks.invariant.ticks d stands) c.pass-left.ensures.ticks in
      let one : (x : Desk) → StandsFor x c.pass-left.new.self → IsOkAnd (after_ticks 1 x) (λ y. StandsFor y c.tick.new.self) =
      λ x stood. ticks_one x (λ y. StandsFor y c.tick.new.self)
      (if_accepted c.tick.result (sym c.is_err.ensures.value ∙ c.if-is_err.false) ((c.tick.ensures.obeys x stood).ok)) in
      let both = ticks_more (c.args.n - c.ticks.left + c.pass-left.result) 1 d (λ x. StandsFor x c.pass-left.new.self)
      (λ y. StandsFor y c.tick.new.self) more one in
      let count : c.args.n - c.ticks.left + c.pass-left.result + 1 ≡ c.args.n - (c.ticks.left - c.pass-left.result - 1) =
      omega (arith, c.ticks.invariant.most, c.pass-left.ensures.most, c.if-left-gt0.true) in
      subst (λ (m : ℕ). IsOkAnd (after_ticks m d) (λ next. StandsFor next c.tick.new.self)) count both;
}

pub ticks-preserved : goal.ticks-preserved
ticks-preserved c = record {
  most = omega (arith, c.ticks.invariant.most);
  ticks = λ d stands.
      let more = ticks_more (c.args.n - c.ticks.left) c.pass-left.result d (λ x. StandsFor x c.ticks.console)
      (λ x. StandsFor x c.pass-left.new.self) (c.ticks.invariant.ticks d stands) c.pass-left.ensures.ticks in
      let count : c.args.n - c.ticks.left + c.pass-left.result ≡ c.args.n - (c.ticks.left - c.pass-left.result) =
      omega (arith, c.ticks.invariant.most, c.pass-left.ensures.most) in
      subst (λ (m : ℕ). IsOkAnd (after_ticks m d) (λ next. StandsFor next c.pass-left.new.self)) count more;
}

pub returns-then-is_err-clause-end : goal.returns-then-is_err-clause-end
returns-then-is_err-clause-end c = λ fewer d stands.
    let same : c.tick.new.self ≡ c.pass-left.new.self =
    if_refused c.tick.result (sym c.is_err.ensures.value ∙ c.if-is_err.true) c.tick.ensures.unchanged in
    refused_by c.tick.result (step d commands.Tick) (sym c.is_err.ensures.value ∙ c.if-is_err.true)
    ((c.tick.ensures.obeys d (subst (λ (k : Kept). StandsFor d k) same stands)).err)
