use Rattle.lx_script.proofs.Imports.{◌++◌, ◌+◌, ◌∙◌, ap, sym, get_or, arith, cell_text}
use Rattle.lx_script.proofs.Texts.{cells_next}
use Rattle.lx_script.proofs.cells.write_cells.Goals as goal

pub loop-at-preserved : goal.loop-at-preserved
loop-at-preserved c = record {
  room = omega arith;
  text = c.write_cell-end.ensures.text
      ∙ ap (λ text. text ++ cell_text (c.args.number + c.loop-at.at) (get_or c.args.levels.now c.loop-at.at 0)) c.loop-at.invariant.text
      ∙ sym (cells_next c.args.number c.loop-at.at c.args.levels.now c.loop-at-test.true);
}
