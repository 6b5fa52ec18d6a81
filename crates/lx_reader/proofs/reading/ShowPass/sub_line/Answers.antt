use Rattle.lx_reader.proofs.Imports.{◌∙◌, ap, settled, with_open, InSub, SUBS, read_whole, filled_set, placed, left}
use Rattle.lx_reader.specs.declared.open_record.Open.TheVariants as open_records
use Rattle.lx_reader.proofs.LineSteps.{stops, record_says, read_as, other_page, begins, opened}
use Rattle.lx_reader.proofs.reading.ShowPass.sub_line.Goals as goal

pub returns-in_err-s-clause-outcome : goal.returns-in_err-s-clause-outcome
returns-in_err-s-clause-outcome g c =
    stops c.args.self.now.reader (settled c.args.self.now) c.args.i c.from_residual.result
    (record_says c.requires (λ said. said) InSub (read_whole 1 SUBS) (left c.args.tokens) c.in_err-s.ensures) c.from_residual.ensures.1

pub returns-in_default-clause-outcome : goal.returns-in_default-clause-outcome
returns-in_default-clause-outcome g c =
    other_page c.requires (record_says c.requires (λ said. said) InSub (read_whole 1 SUBS) (left c.args.tokens)
    (read_as c.in_ok-s.ensures c.in_default.is))
    c.skip_record.ensures

pub returns-clause-outcome : goal.returns-clause-outcome
returns-clause-outcome g c =
    let g = c.args.self.now in
    let it = c.open_sub.result in
    let others = c.open_sub.new.show in
    begins c.requires {show = with_open (open_records.Sub it) g.moves others}
    (record_says c.requires (λ said. said) InSub (read_whole 1 SUBS) (left c.args.tokens) (read_as c.in_ok-s.ensures c.in-Some.is))
    ((λ j. record (c.open_sub.ensures.show j) { subs = placed (λ x. x.number) (filled_set (c.requires.empty j) it) others.subs })
    ∙ (λ j. record g.reader.show { subs = c.open_sub.ensures.subs j }))
    (ap (λ r. opened r (open_records.Sub it) g.moves) c.enter.ensures)
