use Rattle.lx_sheet.proofs.Imports.{◌*◌, List, ℕ, length, take, drop, ap, ◌∙◌, level_in_look, width}
use Rattle.lx_sheet.specs.Block.{cell}
use Rattle.lx_sheet.proofs.Cells.{width_of}
use Rattle.lx_sheet.proofs.block.read_row.Goals as goal

pub returns : goal.returns
unfolding cell
returns c = λ chan.
    let len : ℕ = length c.args.look.now in
    ap (λ (xs : List ℕ). level_in_look xs chan)
    (c.copy_from_slice.ensures.after ∙ ap (λ n. take n (drop (c.args.row * width len) c.args.levels.now)) (width_of c.args.row len))
