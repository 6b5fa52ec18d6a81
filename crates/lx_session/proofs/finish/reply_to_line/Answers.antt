use Rattle.lx_session.proofs.Imports.{rules, ◌≡◌, Some}
use Rattle.lx_spec.specs.declared.Line.TheVariants as lines
use Rattle.lx_session.proofs.finish.reply_to_line.Goals as goal

pub returns-in-Some-Save-clause-text : goal.returns-in-Some-Save-clause-text
returns-in-Some-Save-clause-text g c = λ d stands.
    let is : c.args.line.now ≡ Some lines.Save = search rules in rw is (c.put_show.ensures.text d stands)

pub returns-in-Some-SheetOf-clause-text : goal.returns-in-Some-SheetOf-clause-text
returns-in-Some-SheetOf-clause-text g c = λ d stands.
    let is : c.args.line.now ≡ Some (lines.SheetOf c.in-Some-SheetOf.n) = search rules in rw is (c.put_sheet.ensures.text d stands)

pub returns-in-Some-SheetOf-clause-counts : goal.returns-in-Some-SheetOf-clause-counts
returns-in-Some-SheetOf-clause-counts g c = λ d stands.
    let is : c.args.line.now ≡ Some (lines.SheetOf c.in-Some-SheetOf.n) = search rules in rw is (c.put_sheet.ensures.counts d stands)
