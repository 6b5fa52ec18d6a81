use Rattle.lx_desk.proofs.Imports.{ℕ, ◌+◌, ◌-◌, ap, ◌∙◌, flat_map, range_with_len, Puts-then, Puts-stops, Puts-is, made_turn, turn_text}
use Rattle.lx_desk.proofs.MadeInputs.{range_more, range_around, turn_is, after_turn_is}
use Rattle.lx_desk.proofs.generator.put_turns.Goals as goal

pub loop-before-preserved : goal.loop-before-preserved
loop-before-preserved g c =
    let k : ℕ = c.loop-before.before in
    let is = ap (turn_text (k + 1)) c.turn.ensures.turn ∙ turn_is c.args.cues k _ c.loop-before.invariant.1 in (
      Puts-is (Puts-then c.loop-before.invariant.0 c.in_ok-put_turn.ensures) (range_more (made_turn c.args.cues) k _ is),
      c.turn.ensures.next ∙ after_turn_is c.args.cues k _ c.loop-before.invariant.1,
    )

pub returns-in_err-put_turn : goal.returns-in_err-put_turn
returns-in_err-put_turn g c =
    let k : ℕ = c.loop-before.before in
    let is = ap (turn_text (k + 1)) c.turn.ensures.turn ∙ turn_is c.args.cues k _ c.loop-before.invariant.1 in
    Puts-is (Puts-stops (flat_map (made_turn c.args.cues) (range_with_len (1 + (k + 1)) (c.args.cues - (k + 1))))
    (Puts-then c.loop-before.invariant.0 c.in_err-put_turn.ensures) c.from_residual.ensures)
    (range_around (made_turn c.args.cues) k c.args.cues _ c.loop-before-test.true is)
