use Rattle.lx_reader.proofs.Imports.{ap, new_cue, ValidCue}
use Rattle.lx_reader.proofs.OpenRecords.{number_there, put_back, valid_there, room_kept}
use Rattle.lx_reader.proofs.open_record.open_cue.Goals as goal

pub returns-clause-valid : goal.returns-clause-valid
returns-clause-valid c = rw c.exchange_cue.ensures.show
    (valid_there (λ x. x.number) c.args.n c.args.show.now.cues c.exchange_cue.ensures.replaced c.in-Some.is
    (ValidCue c.args.show.now.channels) c.cues.ensures.valid.cues)

pub returns-clause-number : goal.returns-clause-number
returns-clause-number c = number_there (λ x. x.number) c.args.n c.args.show.now.cues c.exchange_cue.ensures.replaced c.in-Some.is

pub returns-clause-room : goal.returns-clause-room
returns-clause-room c = room_kept c.new-2.result c.args.n c.args.show.now.cues _ (ap (λ x. x.number) c.new-2.ensures.cue)
    (ap (λ s. s.cues) c.exchange_cue.ensures.show)

pub returns-clause-cues : goal.returns-clause-cues
returns-clause-cues c = put_back (λ x. x.number) c.args.n c.args.show.now.cues c.exchange_cue.ensures.replaced c.in-Some.is new_cue
    c.new-2.result
    c.cues.ensures.valid.cues_sorted (ap (λ x. x.number) c.new-2.ensures.cue) (ap (λ s. s.cues) c.exchange_cue.ensures.show)
