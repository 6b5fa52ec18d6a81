use Rattle.lx_undo.proofs.Imports.{◌≡◌, ap, sym, subst, refl, Show, AllReady, shows_before, shows_after, UndoStands, seen}
use Rattle.lx_undo.proofs.DeskSteps.{takes_key, no_edit, unchanged_with}
use Rattle.lx_undo.proofs.SomeDesk.{answered_leaves}
use Rattle.lx_undo.proofs.desk.UndoDesk.command_in.Goals as goal

pub invariant_of-self : goal.invariant_of-self
invariant_of-self g c =
    subst (λ (show : Show). AllReady show c.self.inside.history)
    (sym (answered_leaves c.self.inside.console c.command_in.new.self c.args.command.now c.command_in.result
    (no_edit c.args.command.now c.in_default.not-Edit) c.command_in.ensures.answers c.command_in.ensures.unchanged)) c.self.invariant

pub returns-in_default : goal.returns-in_default
returns-in_default g c =
    let plans = c.self.inside.history in
    let before = seen c.self.inside.console plans in
    let now = seen c.command_in.new.self plans in
    let same : c.command_in.new.self.show ≡ c.self.inside.console.show =
    answered_leaves c.self.inside.console c.command_in.new.self c.args.command.now c.command_in.result
    (no_edit c.args.command.now c.in_default.not-Edit) c.command_in.ensures.answers c.command_in.ensures.unchanged in
    record {
      steps = λ s stands.
          let stood = subst (UndoStands s) (sym c.self.view_is) stands in
          takes_key s c.args.command.now c.command_in.result before now (no_edit c.args.command.now c.in_default.not-Edit) stood
          (record {
            back = ap (λ (show : Show). shows_before show plans.back) same;
            forth = ap (λ (show : Show). shows_after show plans.forth) same;
            depth = refl;
          }) (c.command_in.ensures.answers s.desk stood.desk);
      unchanged = unchanged_with c.command_in.result c.self.inside.console c.command_in.new.self plans c.args.self.now
          c.command_in.ensures.unchanged c.self.view_is;
      memory = c.command_in.ensures.memory;
      cause = c.command_in.ensures.cause;
    }
