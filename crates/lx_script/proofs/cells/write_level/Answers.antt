use Rattle.lx_script.proofs.Imports.{◌≡◌, ◌+◌, ◌<◌, ◌∷◌, ◌++◌, ◌∙◌, [], ap, decimal, length, refl, take, get_or, arith}
use Rattle.lx_script.proofs.Imports.{length-decimal-le, LEVELS}
use Rattle.lx_script.proofs.Ready.{level_row, ready_front}
use Rattle.lx_script.proofs.Texts.{front_of}
use Rattle.lx_script.proofs.cells.write_level.Goals as goal

pub returns : goal.returns
returns c =
    let level : c.args.level < 256 = omega arith in
    let digits = length-decimal-le 3 c.args.level (omega arith) (omega arith) (omega arith) in
    let count = length (decimal c.args.level) + 1 in
    let row : take count (get_or LEVELS c.args.level []) ≡ 61 ∷ decimal c.args.level
    = ap (take count) (level_row c.args.level [] level) ∙ ready_front 61 c.args.level count (omega arith) refl in
    front_of (c.args.at + 4) c.args.at count c.args.text.now c.write_all.new.text (get_or LEVELS c.args.level []) (omega arith)
    (omega (arith, digits)) c.write_all.ensures
    ∙ ap (λ r. take c.args.at c.args.text.now ++ r) row
