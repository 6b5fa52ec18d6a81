use Rattle.lx_reader.proofs.Imports.{◌∙◌, arith, subst, sym, ValidCue, placed}
use Rattle.lx_reader.proofs.OpenCues.{cue_written, filled_valid, moves_within}
use Rattle.lx_reader.proofs.open_record.put_cue.Goals as goal

pub put_in_cue-requires-clause-most : goal.put_in_cue-requires-clause-most
put_in_cue-requires-clause-most g c = omega (arith, c.channels-channels.ensures.channels, c.channels-channels.ensures.valid.channels.most)

pub put_in_cue-requires-clause-within : goal.put_in_cue-requires-clause-within
put_in_cue-requires-clause-within g c = moves_within c.channels-channels.ensures.channels c.requires

pub put_cue-requires-clause-valid : goal.put_cue-requires-clause-valid
put_cue-requires-clause-valid g c = subst (ValidCue c.args.show.now.channels)
    (sym (cue_written c.args.moves.now c.cue.view_is c.in_ok-put_in_cue.ensures.list)) (filled_valid c.requires)

pub returns-clause-show : goal.returns-clause-show
returns-clause-show g c = let show = c.args.show.now in c.put_cue.ensures ∙ (λ j. record show {
  cues = placed (λ x. x.number) (cue_written c.args.moves.now c.cue.view_is c.in_ok-put_in_cue.ensures.list j) show.cues;
})
