use Rattle.lx_edit.proofs.Imports.{◌≡◌, ◌∙◌, ap, sym, None, Some, List, [], length, nil_from_length, eq_from, option_copied, rules, Move, Cue}
use Rattle.lx_edit.proofs.Imports.{with_cue, with_moves, changed_show}
use Rattle.lx_edit.proofs.CueLevels.{chosen_fit}
use Rattle.lx_edit.proofs.KeptLevels.{cue_only_is}
use Rattle.lx_edit.proofs.KeptRows.{IsKept, kept_is}
use Rattle.lx_edit.proofs.NothingKept.{above_again}
use Rattle.lx_edit.proofs.kept.kept_above.Goals as goal

pub returns-in_default-clause-above : goal.returns-in_default-clause-above
returns-in_default-clause-above g c = rw c.if-not-only.false
    (sym (cue_only_is c.args.show.now c.args.n (option_copied c.args.new) None c.requires.number (sym c.in_default.ensures.above)))

pub returns-then-is_empty-clause-above : goal.returns-then-is_empty-clause-above
returns-then-is_empty-clause-above g c =
    let show = c.args.show.now in
    let new = option_copied c.args.new in
    let above : Cue = c.in-Some.above.now in
    let none : c.as_slice-moves.result.now ≡ [] = nil_from_length c.as_slice-moves.result.now
    (sym (eq_from (length c.as_slice-moves.result.now) 0 (sym c.if-is_empty.ensures))) in
    rw c.if-not-only.false (sym (cue_only_is show c.args.n new (Some above) c.requires.number (sym c.in-Some.ensures.above)
    ∙ ap (λ (ms : List Move). with_cue (changed_show show c.args.n new) (with_moves above ms))
    (sym (c.as_slice-moves.ensures.value ∙ c.in_ok-moves.ensures.items) ∙ none)
    ∙ above_again show c.args.n new above c.requires.there.valid_show.cues_sorted c.requires.number (sym c.in-Some.ensures.above)))

pub with_moves-requires-clause-fits : goal.with_moves-requires-clause-fits
with_moves-requires-clause-fits g c = rw (c.channels.ensures.channels, c.as_slice-moves.ensures.value, c.in_ok-moves.ensures.items)
    (chosen_fit c.args.show.now c.in-Some.above.now.parts _ _ c.in-Some.ensures.valid.first_part)

pub returns : goal.returns
returns g c =
    let kept : IsKept c.args.show.now c.args.n (option_copied c.args.new) c.in_ok-with_moves.field-0 =
    kept_is (option_copied c.args.new) c.in_ok-with_moves.field-0 c.requires.there c.requires.number (sym c.in-Some.ensures.above)
    (rw c.channels.ensures.channels at c.in_ok-with_moves.ensures.valid)
    (c.in_ok-with_moves.ensures.cue ∙ ap (with_moves c.in-Some.above.now) (c.as_slice-moves.ensures.value ∙ c.in_ok-moves.ensures.items)) in
    record {
      above = rw c.if-not-only.false kept.above;
      valid = kept.fits;
      higher = kept.higher;
      keeps = kept.keeps;
      cause = search rules;
    }
