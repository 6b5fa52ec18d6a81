use Rattle.lx_edit.proofs.Imports.{◌∙◌, ap, sym, List, Move, entry_at}
use Rattle.lx_edit.proofs.MoveMarks.{rest_same}
use Rattle.lx_edit.proofs.marks.mark_moves.Goals as goal

pub returns-clause-same : goal.returns-clause-same
returns-clause-same c = λ x out.
    rest_same c.same_front-front.result x c.args.old.now c.args.new.now c.same_front-front.ensures.same
    (sym (ap (λ (ms : List Move). entry_at (λ m. m.chan) x ms) c.rest.ensures.rest) ∙ c.mark_rest.ensures.same x out
    ∙ ap (λ (ms : List Move). entry_at (λ m. m.chan) x ms) c.rest-2.ensures.rest)
