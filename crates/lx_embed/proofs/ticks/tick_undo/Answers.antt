use Rattle.lx_embed.proofs.Imports.{◌≡◌, ℕ, ◌+◌, ◌-◌, ◌∙◌, sym, subst, arith, IsOkAnd, Desk, after_ticks, UndoKept, UndoStands}
use Rattle.lx_embed.proofs.TicksMore.{ticks_more, undo_one, if_refused, if_accepted, undo_refused}
use Rattle.lx_embed.proofs.ticks.tick_undo.Goals as goal

pub returns-then-is_err-clause-ticks : goal.returns-then-is_err-clause-ticks
returns-then-is_err-clause-ticks c = λ s stands.
    let same : c.command.new.self ≡ c.ticks.desk =
    if_refused c.command.result (sym c.is_err.ensures.value ∙ c.if-is_err.true) c.command.ensures.unchanged in
    subst (λ (u : UndoKept). IsOkAnd (after_ticks (c.args.n - c.ticks.left) s.desk) (λ next. UndoStands (record s { desk = next }) u)) (sym same)
    (c.ticks.invariant.ticks s stands)

pub ticks-preserved : goal.ticks-preserved
ticks-preserved c = record {
  most = omega (arith, c.ticks.invariant.most);
  ticks = λ s stands.
      let one : (x : Desk) → UndoStands (record s { desk = x }) c.ticks.desk
      → IsOkAnd (after_ticks 1 x) (λ y. UndoStands (record s { desk = y }) c.command.new.self) =
      λ x stood. undo_one (record s { desk = x }) c.command.new.self
      (if_accepted c.command.result (sym c.is_err.ensures.value ∙ c.if-is_err.false) ((c.command.ensures.steps (record s { desk = x }) stood).ok)) in
      let both = ticks_more (c.args.n - c.ticks.left) 1 s.desk (λ x. UndoStands (record s { desk = x }) c.ticks.desk)
      (λ y. UndoStands (record s { desk = y }) c.command.new.self) (c.ticks.invariant.ticks s stands) one in
      let count : c.args.n - c.ticks.left + 1 ≡ c.args.n - (c.ticks.left - 1) = omega (arith, c.ticks.invariant.most, c.ticks-test.true) in
      subst (λ (m : ℕ). IsOkAnd (after_ticks m s.desk) (λ next. UndoStands (record s { desk = next }) c.command.new.self)) count both;
}

pub returns-then-is_err-clause-end : goal.returns-then-is_err-clause-end
returns-then-is_err-clause-end c = λ fewer s stands.
    let same : c.command.new.self ≡ c.ticks.desk =
    if_refused c.command.result (sym c.is_err.ensures.value ∙ c.if-is_err.true) c.command.ensures.unchanged in
    undo_refused c.command.result s (sym c.is_err.ensures.value ∙ c.if-is_err.true)
    ((c.command.ensures.steps s (subst (λ (u : UndoKept). UndoStands s u) same stands)).err)
