use Rattle.lx_script.proofs.Imports.{◌≡◌, length, subst, sym, le-ltb, LINE_BYTES, tokens, line_of, meaning, undo_meaning, IsReadOf}
use Rattle.lx_script.proofs.ReadLines.{valid_with_undo}
use Rattle.lx_script.proofs.undo_line.read_line_with_undo.Goals as goal

pub returns-clause-valid : goal.returns-clause-valid
returns-clause-valid c =
    let line = c.args.line.now in
    let is : line_of line ≡ meaning line (tokens line) = rw (le-ltb LINE_BYTES (length line) c.if-line-gt-LINE_BYTES.false) in
    valid_with_undo c.any_line.result line (undo_meaning (tokens line))
    (subst (λ told. IsReadOf c.any_line.result (undo_meaning (tokens line)) told) (sym is) c.any_line.ensures)
