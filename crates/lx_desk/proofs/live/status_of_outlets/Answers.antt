use Rattle.lx_desk.proofs.Imports.{inl, inr, sym, ◌∙◌, refl, arith}
use Rattle.lx_desk.proofs.ToldFaults.{failed_outlet, wanting_outlet, no_failed_outlet, no_fault}
use Rattle.lx_desk.proofs.live.status_of_outlets.Goals as goal
use Rattle.lx_desk.proofs.live.status_of_outlets.Goals.{then-unsent-gt0-via-then-unsent-gt0, then-unsent-gt0-via-else-unsent-gt0+then-contains-2}

pub returns-then-contains : goal.returns-then-contains
returns-then-contains c = failed_outlet _ c.args.faults.now (sym c.contains.ensures.value ∙ c.if-contains.true) refl refl

pub returns-then-unsent-gt0 : goal.returns-then-unsent-gt0
returns-then-unsent-gt0 c = record {
  none_failed = no_failed_outlet _ c.args.faults.now (sym c.contains.ensures.value ∙ c.if-contains.false) refl;
  wanted = elim c.then-unsent-gt0.branch [
    | then-unsent-gt0-via-then-unsent-gt0 w ↦ inr w.if-unsent-gt0.true
    | then-unsent-gt0-via-else-unsent-gt0+then-contains-2 w ↦
        inl (wanting_outlet _ c.args.faults.now (sym w.contains-else-unsent-gt0.ensures.value ∙ w.if-contains-2.true) refl refl)
  ];
}

pub returns : goal.returns
returns c = (
  omega (arith, c.if-unsent-gt0.false),
  no_fault _ _ c.args.faults.now (sym c.contains.ensures.value ∙ c.if-contains.false)
      (sym c.contains-else-unsent-gt0.ensures.value ∙ c.if-contains-2.false) refl refl,
)
