use Rattle.lx_reader.proofs.Imports.{◌∙◌, ap, settled, with_open, true, false, InCue, desk_limits, read_cue_no, filled_cue, placed, left}
use Rattle.lx_reader.specs.declared.open_record.Open.TheVariants as open_records
use Rattle.lx_reader.proofs.LineSteps.{stops, record_says, read_as, other_page, begins, opened, if_room, room_says}
use Rattle.lx_reader.proofs.reading.ShowPass.cue_line.Goals as goal

pub returns-in_err-n-clause-outcome : goal.returns-in_err-n-clause-outcome
returns-in_err-n-clause-outcome g c =
    stops c.args.self.now.reader (settled c.args.self.now) c.args.i c.from_residual.result
    (record_says c.requires (if_room c.args.self.now.reader c.args.i) InCue (read_cue_no desk_limits)
    (left c.args.tokens) c.in_err-n.ensures) c.from_residual.ensures.1

pub returns-in_default-clause-outcome : goal.returns-in_default-clause-outcome
returns-in_default-clause-outcome g c =
    other_page c.requires (record_says c.requires (if_room c.args.self.now.reader c.args.i) InCue (read_cue_no desk_limits)
    (left c.args.tokens) (read_as c.in_ok-n.ensures c.in_default.is))
    c.skip_record.ensures

pub returns-then-not-has_room_for-clause-outcome : goal.returns-then-not-has_room_for-clause-outcome
returns-then-not-has_room_for-clause-outcome g c =
    record_says c.requires (if_room c.args.self.now.reader c.args.i) InCue (read_cue_no desk_limits) (left c.args.tokens)
    (read_as c.in_ok-n.ensures c.in-Some.is) ∙ room_says c.args.self.now.reader c.args.i c.in-Some.n false c.if-not-has_room_for.ensures.room

pub returns-clause-outcome : goal.returns-clause-outcome
returns-clause-outcome g c =
    let g = c.args.self.now in
    let it = c.open_cue.result in
    let others = c.open_cue.new.show in
    begins c.requires {show = with_open (open_records.Cue it) g.moves others}
    (record_says c.requires (if_room c.args.self.now.reader c.args.i) InCue (read_cue_no desk_limits) (left c.args.tokens)
    (read_as c.in_ok-n.ensures c.in-Some.is)
    ∙ room_says g.reader c.args.i c.in-Some.n true c.if-not-has_room_for.ensures.room)
    ((λ j. record (c.open_cue.ensures.show j) { cues = placed (λ x. x.number) (filled_cue (c.requires.empty j) it) others.cues })
    ∙ (λ j. record g.reader.show { cues = c.open_cue.ensures.cues j }))
    (ap (λ r. opened r (open_records.Cue it) g.moves) c.enter.ensures)
