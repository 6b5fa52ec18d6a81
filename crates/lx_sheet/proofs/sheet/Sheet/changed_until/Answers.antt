use Rattle.lx_sheet.proofs.Imports.{◌≡◌, List, length, ap, ◌∙◌, arith, Cue}
use Rattle.lx_sheet.proofs.FilledColumns.{end_is}
use Rattle.lx_sheet.proofs.RightRows.{last_within, stands_from, until}
use Rattle.lx_sheet.proofs.sheet.Sheet.changed_until.Goals as goal

pub fill-requires-clause-to : goal.fill-requires-clause-to
fill-requires-clause-to c = omega (
  arith,
  last_within c.args.to c.cues.result.now c.count_below-last.result c.count_below-last.ensures,
  ap length c.cues.ensures.cues,
)

pub fill-requires-clause-above : goal.fill-requires-clause-above
fill-requires-clause-above c = λ end ends.
    let show = c.args.show.now in
    let last : c.count_below-last.result ≡ until c.args.to show.cues = c.count_below-last.ensures
    ∙ ap (λ (xs : List Cue). until c.args.to xs) c.cues.ensures.cues in
    stands_from show c.args.self.now c.args.to c.args.chan end c.cues.ensures.valid.cues_sorted
    (end_is show.cues c.args.chan _ c.count_below-last.result end ends ∙ last) c.requires.above
