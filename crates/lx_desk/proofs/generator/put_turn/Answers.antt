use Rattle.lx_desk.proofs.Imports.{[], ◌∷◌, codes, Puts-then, Puts-fails, Puts-stops, line, set_text}
use Rattle.lx_desk.proofs.generator.put_turn.Goals as goal

pub returns-in_err-put_go : goal.returns-in_err-put_go
returns-in_err-put_go g c = Puts-stops (line (codes "frame" ∷ []))
    (Puts-fails {U = Unit {0}} (set_text c.args.number c.args.turn.now.setting) c.in_err-put_go.ensures) c.from_residual.ensures

pub returns-in_err-put_set : goal.returns-in_err-put_set
returns-in_err-put_set g c = Puts-stops (line (codes "frame" ∷ [])) (Puts-then c.in_ok-put_go.ensures c.in_err-put_set.ensures)
    c.from_residual-in_err-put_set.ensures

pub returns : goal.returns
returns g c = Puts-then (Puts-then c.in_ok-put_go.ensures c.in_ok-put_set.ensures) c.put_all.ensures
