use Rattle.lx_sheet.proofs.Imports.{List, ℕ, length, ap, ◌∙◌, arith, level_in_look}
use Rattle.lx_sheet.specs.Block.{cell}
use Rattle.lx_sheet.proofs.Cells.{row_here, row_other, width_of}
use Rattle.lx_sheet.proofs.block.write_row.Goals as goal

pub returns-clause-here : goal.returns-clause-here
unfolding cell
returns-clause-here c = λ chan.
    ap (λ (xs : List ℕ). level_in_look xs chan) (row_here _ c.args.levels.now _ c.args.row (omega arith) (omega (
      arith,
      ap length
          c.copy_from_slice.ensures.after,
    )) ∙ c.copy_from_slice.ensures.after)

pub returns-clause-others : goal.returns-clause-others
unfolding cell
returns-clause-others c = λ k chan other.
    ap (λ (xs : List ℕ). level_in_look xs chan) (row_other _ c.args.levels.now _ k c.args.row (width_of c.args.row _) (omega arith)
    (omega (arith, ap length c.copy_from_slice.ensures.after)) other)
