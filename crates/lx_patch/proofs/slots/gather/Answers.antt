use Rattle.lx_patch.proofs.Imports.{arith, rules}
use Rattle.lx_patch.proofs.PlaceRows.{run_lanes, own_lanes}
use Rattle.lx_patch.proofs.slots.gather.Goals.{then-first-outs+then-is_run, else-first-outs}
use Rattle.lx_patch.proofs.slots.gather.Goals as goal

pub returns : goal.returns
returns c =
    let places = c.args.places.now in
    let outs = c.args.outs.now in
    elim c.if-first-outs.branch [
      | then-first-outs+then-is_run w ↦
          run_lanes places outs c.if-first-outs.result c.args.at (omega (arith, w.if-first-outs.true))
          (w.is_run.ensures w.if-is_run.true) w.result-is
      | else-first-outs w ↦
          own_lanes places outs c.if-first-outs.result c.args.at w.gather_by_one-gathered.result (search rules)
          w.gather_by_one-gathered.ensures w.result-is
    ]
