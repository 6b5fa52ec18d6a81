use Rattle.lx_desk.proofs.Imports.{ℕ, ◌+◌, ◌-◌, ap, ◌∙◌, flat_map, range_with_len, Puts-then, Puts-stops, Puts-is, made_cue, drawn_cue_text}
use Rattle.lx_desk.proofs.MadeInputs.{range_more, range_around, cue_is, after_cue_is}
use Rattle.lx_desk.proofs.generator.put_cues.Goals as goal

pub loop-before-preserved : goal.loop-before-preserved
loop-before-preserved g c =
    let k : ℕ = c.loop-before.before in
    let is = ap (drawn_cue_text (k + 1)) c.cue.ensures.cue ∙ cue_is c.args.cues k _ c.loop-before.invariant.1 in (
      Puts-is (Puts-then c.loop-before.invariant.0 c.in_ok-put_cue.ensures) (range_more (made_cue c.args.cues) k _ is),
      c.cue.ensures.next ∙ after_cue_is c.args.cues k _ c.loop-before.invariant.1,
    )

pub returns-in_err-put_cue-clause-text : goal.returns-in_err-put_cue-clause-text
returns-in_err-put_cue-clause-text g c =
    let k : ℕ = c.loop-before.before in
    let is = ap (drawn_cue_text (k + 1)) c.cue.ensures.cue ∙ cue_is c.args.cues k _ c.loop-before.invariant.1 in
    Puts-is (Puts-stops (flat_map (made_cue c.args.cues) (range_with_len (1 + (k + 1)) (c.args.cues - (k + 1))))
    (Puts-then c.loop-before.invariant.0 c.in_err-put_cue.ensures) c.from_residual.ensures)
    (range_around (made_cue c.args.cues) k c.args.cues _ c.loop-before-test.true is)
