use Rattle.lx_edit.proofs.Imports.{◌≤◌, ap, refl, ◌∙◌, sym, arith, Span, CHANNELS, covers}
use Rattle.lx_edit.proofs.MoveMarks.{not_covered}
use Rattle.lx_edit.proofs.kept.delete_cue.Goals as goal

pub kept_above-requires-clause-within : goal.kept_above-requires-clause-within
kept_above-requires-clause-within g c = λ x range out.
    let few : c.args.show.now.channels ≤ CHANNELS = c.in_ok-old.ensures.valid_show.channels.most in
    absurd (not_covered 1 CHANNELS x x (ap (λ (r : Span). covers r x) (sym c.all_channels.ensures) ∙ out) range.least
    (omega (arith, range.most, few)) refl)
