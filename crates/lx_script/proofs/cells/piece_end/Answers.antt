use Rattle.lx_script.proofs.Imports.{inl, inr, arith, refl}
use Rattle.lx_script.proofs.Ready.{same_digits}
use Rattle.lx_script.proofs.cells.piece_end.Goals as goal
use Rattle.lx_script.proofs.cells.piece_end.Goals.{then-from-lt9, else-from-lt9+then-from-lt99, else-from-lt9+else-from-lt99+then-from-lt999, else-from-lt9+else-from-lt99+else-from-lt999+then-from-lt-NEAR, else-from-lt9+else-from-lt99+else-from-lt999+else-from-lt-NEAR}

pub returns-clause-near : goal.returns-clause-near
returns-clause-near c = λ near n more within.
    elim c.if-from-lt9.branch [
      | then-from-lt9 w ↦ (omega arith, same_digits c.args.from n 9 more (omega arith) (inl (inl refl)))
      | else-from-lt9+then-from-lt99 w ↦ (omega arith, same_digits c.args.from n 99 more (omega arith) (inl (inr (omega arith, refl))))
      | else-from-lt9+else-from-lt99+then-from-lt999 w ↦
          (omega arith, same_digits c.args.from n 999 more (omega arith) (inr (inl (omega arith, refl))))
      | else-from-lt9+else-from-lt99+else-from-lt999+then-from-lt-NEAR w ↦
          (omega arith, same_digits c.args.from n 9999 more (omega arith) (inr (inr (omega arith, refl))))
      | else-from-lt9+else-from-lt99+else-from-lt999+else-from-lt-NEAR w ↦ absurd (omega arith)
    ]
