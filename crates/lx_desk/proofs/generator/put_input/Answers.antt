use Rattle.lx_desk.proofs.Imports.{[], ◌∷◌, sym, append_assoc, codes, flat_map, range_with_len, Puts-then, Puts-fails, Puts-stops, Puts-is, line}
use Rattle.lx_desk.proofs.Imports.{made_turn, made_show}
use Rattle.lx_desk.proofs.generator.put_input.Goals as goal

pub returns-in_err-put_show : goal.returns-in_err-put_show
returns-in_err-put_show g c =
    Puts-stops (line (codes "quit" ∷ [])) (Puts-fails {U = Unit {0}} (flat_map (made_turn c.args.cues) (range_with_len 1 c.args.cues))
    c.in_err-put_show.ensures.text) c.from_residual.ensures

pub returns : goal.returns
returns g c =
    let n = c.args.cues in
    Puts-is (Puts-then c.in_ok-put_show.ensures.text c.put_script.ensures)
    (sym (append_assoc (made_show n) (flat_map (made_turn n) (range_with_len 1 n)) (line (codes "quit" ∷ []))))
