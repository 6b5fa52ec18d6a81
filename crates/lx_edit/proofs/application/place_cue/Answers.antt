use Rattle.lx_edit.proofs.Imports.{◌≡◌, ap, sym, subst, ℕ, rules, IsTrue, is_some, Some, Cue, cue_of, KeepsLevels}
use Rattle.lx_edit.proofs.ChangedColumns.{others_changed}
use Rattle.lx_edit.proofs.application.place_cue.Goals as goal
use Rattle.lx_edit.proofs.application.place_cue.Goals.{After-exchange_cue-old}

pub mend_cue-requires : goal.mend_cue-requires
mend_cue-requires c =
    let show = c.args.show.now in
    let number : c.cue.inside.number ≡ c.args.cue.number = ap (λ (q : Cue). q.number) c.cue.view_is in
    let there : IsTrue (is_some (cue_of show c.args.cue.number)) = search rules in
    record {
      before = show;
      cue = c.args.cue;
      valid = c.exchange_cue-old.ensures.before;
      stood = c.requires.sheet;
      number = sym number;
      least = c.requires.ready.valid.number.least;
      there = subst (λ (k : ℕ). IsTrue (is_some (cue_of show k))) (sym number) there;
      is = c.exchange_cue-old.ensures.show;
      same = c.mark_change.ensures.same;
    }

others : (c : After-exchange_cue-old) → KeepsLevels c.args.show.now c.exchange_cue-old.new.self c.mark_change.new.chans
others c =
    let number : c.cue.inside.number ≡ c.args.cue.number = ap (λ (q : Cue). q.number) c.cue.view_is in
    others_changed c.args.show.now c.exchange_cue-old.new.self c.cue.inside.number (Some c.args.cue) c.mark_change.new.chans
    c.exchange_cue-old.ensures.before c.exchange_cue-old.ensures.show (rw number c.requires.ready.valid.number.least) (sym number)
    c.mark_change.ensures.same

pub returns-then-is_none-clause-others : goal.returns-then-is_none-clause-others
returns-then-is_none-clause-others c = others (goal.at.returns-then-is_none-clause-others c).After-exchange_cue-old

pub returns-else-is_none-clause-others : goal.returns-else-is_none-clause-others
returns-else-is_none-clause-others c = others (goal.at.returns-else-is_none-clause-others c).After-exchange_cue-old
