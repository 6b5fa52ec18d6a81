use Rattle.lx_edit.proofs.TakenBack.{cues_back}
use Rattle.lx_edit.proofs.application.exchange_cues.Goals as goal

pub returns-clause-undo : goal.returns-clause-undo
returns-clause-undo c =
    cues_back c.args.show.now c.exchange_cue-old.new.show c.place_above-above.new.show c.args.n c.args.to c.args.above
    c.exchange_cue-old.result c.place_above-above.result c.exchange_cue-old.ensures.show c.place_above-above.ensures.show
    c.exchange_cue-old.ensures.replaced c.place_above-above.ensures.replaced c.exchange_cue-old.ensures.valid c.requires.ready
