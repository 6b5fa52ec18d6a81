use Rattle.lx_script.proofs.Imports.{◌≡◌, ◌+◌, List, ℕ, ◌∷◌, ◌++◌, ◌∙◌, ap, sym, append_assoc, decimal, length, take, arith}
use Rattle.lx_script.proofs.Texts.{cell_is}
use Rattle.lx_script.proofs.cells.write_cell.Goals as goal

pub returns-clause-text : goal.returns-clause-text
returns-clause-text c =
    let before : List ℕ = take c.args.at c.args.text.now in
    let number : List ℕ = 32 ∷ decimal c.args.number in
    let level : List ℕ = 61 ∷ decimal c.args.level in
    let size : ℕ = length (decimal c.args.level) + 1 in
    let put : take (c.args.at + c.args.width + size) c.write_level.new.text ≡ before ++ (number ++ level)
    = ap (λ m. take (m + size) c.write_level.new.text) (sym c.write_number-middle.ensures.end) ∙ c.write_level.ensures
    ∙ ap (λ text. text ++ level) c.write_number-middle.ensures.text ∙ append_assoc before number level in
    cell_is c.args.number c.args.level c.args.width c.args.at c.count_of.result c.args.text.now c.write_level.new.text (omega arith) put
    c.count_of.ensures.count
