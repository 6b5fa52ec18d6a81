use Rattle.lx_console.proofs.Imports.{arith, ◌∙◌}
use Rattle.lx_console.proofs.kept_output.KeptOutput.open_in.Goals as goal

pub returns-clause-reaches : goal.returns-clause-reaches
returns-clause-reaches g c = record {
  outs_reach = omega (arith, c.in_ok-filled.ensures.long, c.channels-channels.ensures.channels);
  mixed_reach = omega (arith, c.in_ok-filled-2.ensures.long, c.channels-channels.ensures.channels);
  slots_reach = c.in_ok-filled-3.ensures.long;
}

pub returns-clause-cause : goal.returns-clause-cause
returns-clause-cause g c =
    let kept = c.in_ok-filled-3.ensures.cause.kept ∙ c.in_ok-open_in.ensures.cause.kept ∙ c.in_ok-filled-2.ensures.cause.kept
    ∙ c.in_ok-filled.ensures.cause.kept in
    record { later = omega (arith, kept); kept = kept; failed = tt }
