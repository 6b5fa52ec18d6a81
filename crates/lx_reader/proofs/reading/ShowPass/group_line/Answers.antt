use Rattle.lx_reader.proofs.Imports.{◌∙◌, ap, settled, with_open, InGroup, GROUPS, read_whole, filled_set, placed, left}
use Rattle.lx_reader.specs.declared.open_record.Open.TheVariants as open_records
use Rattle.lx_reader.proofs.LineSteps.{stops, record_says, read_as, other_page, begins, opened}
use Rattle.lx_reader.proofs.reading.ShowPass.group_line.Goals as goal

pub returns-in_err-g-clause-outcome : goal.returns-in_err-g-clause-outcome
returns-in_err-g-clause-outcome g c =
    stops c.args.self.now.reader (settled c.args.self.now) c.args.i c.from_residual.result
    (record_says c.requires (λ said. said) InGroup (read_whole 1 GROUPS) (left c.args.tokens) c.in_err-g.ensures) c.from_residual.ensures.1

pub returns-in_default-clause-outcome : goal.returns-in_default-clause-outcome
returns-in_default-clause-outcome g c =
    other_page c.requires (record_says c.requires (λ said. said) InGroup (read_whole 1 GROUPS) (left c.args.tokens)
    (read_as c.in_ok-g.ensures c.in_default.is))
    c.skip_record.ensures

pub returns-clause-outcome : goal.returns-clause-outcome
returns-clause-outcome g c =
    let g = c.args.self.now in
    let it = c.open_group.result in
    let others = c.open_group.new.show in
    begins c.requires {show = with_open (open_records.Group it) g.moves others}
    (record_says c.requires (λ said. said) InGroup (read_whole 1 GROUPS) (left c.args.tokens) (read_as c.in_ok-g.ensures c.in-Some.is))
    ((λ j. record (c.open_group.ensures.show j) { groups = placed (λ x. x.number) (filled_set (c.requires.empty j) it) others.groups })
    ∙ (λ j. record g.reader.show { groups = c.open_group.ensures.groups j }))
    (ap (λ r. opened r (open_records.Group it) g.moves) c.enter.ensures)
