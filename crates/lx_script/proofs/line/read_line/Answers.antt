use Rattle.lx_script.proofs.Imports.{◌≡◌, length, sym, ◌∙◌, subst, IfSome, Some, le-ltb, LINE_BYTES, tokens, line_of, meaning, ValidLine}
use Rattle.lx_script.proofs.Imports.{line_of-valid}
use Rattle.lx_spec.specs.declared.Command.TheVariants as commands
use Rattle.lx_spec.specs.declared.Key.TheVariants as keys
use Rattle.lx_spec.specs.declared.Line.TheVariants as lines
use Rattle.lx_script.proofs.ReadLines.{valid_meaning}
use Rattle.lx_script.proofs.line.read_line.Goals as goal

pub returns-in-Some-clause-valid : goal.returns-in-Some-clause-valid
returns-in-Some-clause-valid c =
    valid_meaning c.args.line.now (Some (lines.Command (commands.Key (keys.Play c.in-Some.key)))) c.in-Some.ensures.meaning

pub returns-in-Some-lone_word-clause-valid : goal.returns-in-Some-lone_word-clause-valid
returns-in-Some-lone_word-clause-valid c = valid_meaning c.args.line.now (Some c.in-Some-lone_word.lone) c.in-Some-lone_word.ensures

pub returns-clause-valid : goal.returns-clause-valid
returns-clause-valid c =
    let line = c.args.line.now in
    let is : line_of line ≡ meaning line (tokens line) = rw (le-ltb LINE_BYTES (length line) c.if-line-gt-LINE_BYTES.false) in
    subst (λ o. IfSome o ValidLine) (is ∙ sym c.any_line.ensures) (line_of-valid line)
