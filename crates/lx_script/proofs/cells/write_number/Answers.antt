use Rattle.lx_script.proofs.Imports.{◌≡◌, ◌∷◌, ◌++◌, ◌∙◌, ◌/◌, ◌%◌, List, ℕ, [], ap, sym, append_assoc, decimal, take, get_or}
use Rattle.lx_script.proofs.Imports.{arith, decimal_pair, length_two, pair, NUMBERS}
use Rattle.lx_script.proofs.Ready.{number_row, pair_row, ready_front, three_at_most, four_at_least}
use Rattle.lx_script.proofs.cells.write_number.Goals as goal

pub bounds-number : goal.bounds-number
bounds-number c = three_at_most c.args.number c.requires.near (omega arith)

pub returns-then-width-lt5-clause-text : goal.returns-then-width-lt5-clause-text
returns-then-width-lt5-clause-text c =
    let low = three_at_most c.args.number c.requires.near (omega arith) in
    let row : take c.args.width (get_or NUMBERS c.args.number []) ≡ 32 ∷ decimal c.args.number
    = ap (take c.args.width) (number_row c.args.number [] low) ∙ ready_front 32 c.args.number c.args.width low c.requires.width in
    c.write_row.ensures.text ∙ ap (λ r. take c.args.at c.args.text.now ++ r) row

pub returns-clause-text : goal.returns-clause-text
returns-clause-text c =
    let from = four_at_least c.args.number c.requires.near (omega arith) in
    let front = c.args.number / 100 in
    let last = c.args.number % 100 in
    let before : List ℕ = take c.args.at c.args.text.now in
    let row : take 3 (get_or NUMBERS front []) ≡ 32 ∷ decimal front
    = ap (take 3) (number_row front [] (omega arith))
    ∙ ready_front 32 front 3 (omega arith) (omega (arith, length_two front (omega arith) (omega arith))) in
    c.write_pair.ensures.text
    ∙ ap (λ p. take c.write_row-middle.result c.write_row-middle.new.text ++ p) (pair_row last [] (omega arith))
    ∙ ap (λ text. text ++ pair last) (c.write_row-middle.ensures.text ∙ ap (λ r. before ++ r) row)
    ∙ append_assoc before (32 ∷ decimal front) (pair last)
    ∙ ap (λ text. before ++ 32 ∷ text) (sym (decimal_pair c.args.number (omega arith) (omega arith)))
