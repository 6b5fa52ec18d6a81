use Rattle.lx_reader.proofs.Imports.{◌∙◌, left}
use Rattle.lx_reader.proofs.LineSteps.{rows_took}
use Rattle.lx_reader.proofs.reader.Reader.patch_line.Goals as goal

pub returns-clause-outcome : goal.returns-clause-outcome
returns-clause-outcome c =
    let page = c.in-Some.ensures in
    let shown = rw c.enter.ensures at c.put_rows.ensures.show in
    rw c.enter.ensures (rows_took c.args.self.now c.put_rows.new.show c.args.i page.token (left c.args.tokens)
    (left c.take_page.new.tokens) c.put_rows.result page.first c.requires.ready.going c.requires.identified
    (page.is_one ∙ c.if-not-one.false) shown c.put_rows.ensures.stop)
