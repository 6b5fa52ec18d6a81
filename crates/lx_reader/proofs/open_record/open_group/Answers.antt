use Rattle.lx_reader.proofs.Imports.{ap, new_set, ValidGroup}
use Rattle.lx_reader.proofs.OpenRecords.{number_there, put_back, valid_there}
use Rattle.lx_reader.proofs.open_record.open_group.Goals as goal

pub returns-clause-valid : goal.returns-clause-valid
returns-clause-valid c = rw c.exchange_group.ensures.show
    (valid_there (λ x. x.number) c.args.g c.args.show.now.groups c.exchange_group.ensures.replaced c.in-Some.is
    (ValidGroup c.args.show.now.channels) c.groups.ensures.valid.groups)

pub returns-clause-number : goal.returns-clause-number
returns-clause-number c = number_there (λ x. x.number) c.args.g c.args.show.now.groups c.exchange_group.ensures.replaced c.in-Some.is

pub returns-clause-groups : goal.returns-clause-groups
returns-clause-groups c = put_back (λ x. x.number) c.args.g c.args.show.now.groups c.exchange_group.ensures.replaced c.in-Some.is new_set
    c.new-2.result
    c.groups.ensures.valid.groups_sorted (ap (λ x. x.number) c.new-2.ensures.group) (ap (λ s. s.groups) c.exchange_group.ensures.show)
