use Rattle.lx_reader.proofs.Imports.{ap, new_set, ValidSub}
use Rattle.lx_reader.proofs.OpenRecords.{number_there, put_back, valid_there}
use Rattle.lx_reader.proofs.open_record.open_sub.Goals as goal

pub returns-clause-valid : goal.returns-clause-valid
returns-clause-valid c = rw c.exchange_sub.ensures.show
    (valid_there (λ x. x.number) c.args.s c.args.show.now.subs c.exchange_sub.ensures.replaced c.in-Some.is
    (ValidSub c.args.show.now.channels) c.subs.ensures.valid.subs)

pub returns-clause-number : goal.returns-clause-number
returns-clause-number c = number_there (λ x. x.number) c.args.s c.args.show.now.subs c.exchange_sub.ensures.replaced c.in-Some.is

pub returns-clause-subs : goal.returns-clause-subs
returns-clause-subs c = put_back (λ x. x.number) c.args.s c.args.show.now.subs c.exchange_sub.ensures.replaced c.in-Some.is new_set
    c.new-2.result
    c.subs.ensures.valid.subs_sorted (ap (λ x. x.number) c.new-2.ensures.submaster) (ap (λ s. s.subs) c.exchange_sub.ensures.show)
