use Rattle.lx_sheet.proofs.Imports.{◌≡◌, ◌≤◌, ◌+◌, ◌-◌, ◌*◌, List, ℕ, length, take, drop, ap, ◌∙◌, subst, arith, not, length-take, length-drop, Agree}
use Rattle.lx_sheet.proofs.Imports.{width}
use Rattle.lx_sheet.specs.Block.{cell}
use Rattle.lx_sheet.proofs.Cells.{width_of, same_look}
use Rattle.lx_sheet.proofs.Numbers.{none_of}
use Rattle.lx_sheet.proofs.block.holds.Goals as goal

pub returns : goal.returns
unfolding cell
returns c = λ same chan.
    let len : ℕ = length c.args.look.now in
    let row : List ℕ = take len (drop (c.args.row * width len) c.args.levels.now) in
    let most : (c.args.row + 1) * width len ≤ length c.args.levels.now = c.requires.room in
    let long : length row ≡ len = omega (arith, length-take {A = ℕ}, length-drop {A = ℕ}) in
    let part : take (c.args.row * width len + len - c.args.row * width len) (drop (c.args.row * width len) c.args.levels.now) ≡ row =
    ap (λ n. take n (drop (c.args.row * width len) c.args.levels.now)) (width_of c.args.row len) in
    same_look row c.args.look.now long (subst (λ (xs : List ℕ). Agree xs c.args.look.now 0 (length xs)) part
    (c.next_change.ensures.none (none_of c.next_change.result (c.is_none.ensures ∙ ap not same)))) chan
