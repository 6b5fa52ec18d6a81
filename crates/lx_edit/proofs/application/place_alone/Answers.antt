use Rattle.lx_edit.proofs.Imports.{◌≡◌, ◌∙◌, ℕ, ap, sym, subst, Cue, Show, Valid, tracked, with_cue, level_of, cue_numbers}
use Rattle.lx_edit.proofs.ChangedColumns.{IsAlone, alone_numbers, alone_below, alone_later, others_alone}
use Rattle.lx_edit.proofs.MendedSheets.{marked_with}
use Rattle.lx_edit.proofs.TakenBack.{alone_back}
use Rattle.lx_edit.proofs.application.place_alone.Goals as goal
use Rattle.lx_edit.proofs.application.place_alone.Goals.{After-exchange_cue-old}

alone : (c : After-exchange_cue-old) → IsAlone c.args.show.now c.args.cue c.args.above c.args.n c.above.inside.number
alone c = record {
  number = c.requires.number;
  end_is = sym (ap (λ (q : Cue). q.number) c.above.view_is);
  least = rw (← c.requires.number) c.requires.ready.valid.number.least;
  valid = c.exchange_cue-old.ensures.before;
  keeps = c.requires.keeps;
}

pub mend-requires : goal.mend-requires
mend-requires c =
    let show = c.args.show.now in
    let first = c.exchange_cue-old in
    let second = c.exchange_cue-old_above in
    let a = alone (goal.at.mend-requires c).After-exchange_cue-old in
    let is : second.new.self ≡ with_cue (with_cue show c.args.cue) c.args.above =
    second.ensures.show ∙ ap (λ (s : Show). with_cue s c.args.above) first.ensures.show in
    let stood : (x m : ℕ) → level_of c.mark-2.new.self m x ≡ tracked show m x = λ x m.
    c.mark-2.ensures.levels m x ∙ c.mark.ensures.levels m x ∙ c.requires.sheet.columns x m in
    record {
      channels = c.mark-2.ensures.channels ∙ c.mark.ensures.channels ∙ c.requires.sheet.channels ∙ sym (ap (λ (s : Show). s.channels) is);
      numbers = c.mark-2.ensures.numbers ∙ c.mark.ensures.numbers ∙ c.requires.sheet.numbers
          ∙ sym (ap cue_numbers is ∙ alone_numbers a (subst Valid first.ensures.show first.ensures.after));
      below = λ x m less. stood x m ∙ sym (ap (λ (s : Show). tracked s m x) is ∙ alone_below a m x less);
      later = λ x m past. stood x m
          ∙ sym (ap (λ (s : Show). tracked s m x) is ∙ alone_later a m x (subst Valid is second.ensures.after) past);
      others = λ x out m. stood x m ∙ (others_alone a _ _ second.ensures.after is c.mark_change-2.ensures.grows c.mark_change.ensures.same
          c.mark_change-2.ensures.same x out).levels m;
      marks = marked_with first.new.self second.new.self c.mark.new.self c.mark-2.new.self c.args.above c.above.inside.number
          second.ensures.show a.end_is
          (marked_with show first.new.self c.args.sheet.now c.mark.new.self c.args.cue c.args.n first.ensures.show c.requires.number
          c.requires.sheet.marks c.mark.ensures.others c.mark.ensures.marks)
          c.mark-2.ensures.others c.mark-2.ensures.marks;
    }

pub returns-clause-others : goal.returns-clause-others
returns-clause-others c = others_alone (alone (goal.at.returns-clause-others c).After-exchange_cue-old) _ _
    c.exchange_cue-old_above.ensures.after
    (c.exchange_cue-old_above.ensures.show ∙ ap (λ (s : Show). with_cue s c.args.above) c.exchange_cue-old.ensures.show)
    c.mark_change-2.ensures.grows c.mark_change.ensures.same c.mark_change-2.ensures.same

pub returns-clause-undo : goal.returns-clause-undo
returns-clause-undo c = alone_back (alone (goal.at.returns-clause-undo c).After-exchange_cue-old)
    c.exchange_cue-old.ensures.show c.exchange_cue-old_above.ensures.show
    c.exchange_cue-old.ensures.replaced c.exchange_cue-old_above.ensures.replaced
