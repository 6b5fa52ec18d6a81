use Rattle.lx_edit.proofs.Imports.{◌≡◌, sym, subst, rules, ValidCue, with_moves}
use Rattle.lx_edit.proofs.CueLevels.{valid_with_moves}
use Rattle.lx_edit.proofs.moves.with_moves.Goals as goal

pub returns-clause-valid : goal.returns-clause-valid
returns-clause-valid g c =
    let is : c.with.result ≡ with_moves c.args.cue.now c.args.moves.now = search rules in
    subst (ValidCue c.args.channels) (sym is)
    (valid_with_moves c.args.channels c.args.cue.now c.args.moves.now c.requires.valid c.requires.fits c.of_moves.ensures)
