use Rattle.lx_playback.proofs.Imports.{arith, ◌∙◌, ◌≡◌, ◌≤◌, ap, length, List, map, subst, sym, AllByRecursion, captured, Cue, ValidTimes}
use Rattle.lx_spec.specs.declared.PartTimes.{PartTimes}
use Rattle.lx_playback.proofs.CapturedTimes.{captured_valid, some_captured}
use Rattle.lx_playback.proofs.playback.Playback.start.Goals as goal

pub append-requires-clause-run : goal.append-requires-clause-run
append-requires-clause-run c =
    let is : c.captured_all.result.items ≡ map captured c.args.cue.now.parts = c.captured_all.ensures
    ∙ ap (λ (cue : Cue). map captured cue.parts) c.cue.view_is in
    record {
      started = omega (arith, c.moment-start.ensures.moment);
      entry = subst (λ (entries : List PartTimes). 1 ≤ length entries) (sym is) (some_captured c.args.cue.now.parts c.requires.first_part);
      times = subst (λ (entries : List PartTimes). AllByRecursion ValidTimes entries) (sym is)
          (captured_valid c.args.cue.now.parts c.requires.parts);
    }
