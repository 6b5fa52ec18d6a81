use Rattle.lx_sheet.proofs.Imports.{length, ap, ◌∙◌, refl}
use Rattle.lx_sheet.proofs.FilledColumns.{stands_behind}
use Rattle.lx_sheet.proofs.sheet.Sheet.changed_on.Goals as goal

pub fill-requires-clause-above : goal.fill-requires-clause-above
fill-requires-clause-above c = λ end ends.
    stands_behind c.args.show.now c.args.self.now c.args.from c.cues-cues.ensures.valid.cues_sorted
    (ap length c.up_to-next.ensures ∙ rw (c.get.ensures.value, c.cues-cues.ensures.cues) refl) (ap length c.cues-cues.ensures.cues) ends
    c.requires.above
