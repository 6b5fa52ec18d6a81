use Rattle.lx_edit.proofs.Imports.{◌≡◌, ◌∙◌, ap, sym, subst, refl, List, Option, AllByRecursion, Move, Part, Cue, ValidMove, with_cue}
use Rattle.lx_edit.proofs.Imports.{with_above}
use Rattle.lx_edit.proofs.MoveMarks.{decided_alike}
use Rattle.lx_edit.proofs.PlacedMoves.{changed_is}
use Rattle.lx_edit.proofs.kept.place.Goals as goal

pub returns-in-None-clause-plan : goal.returns-in-None-clause-plan
returns-in-None-clause-plan g c =
    let show = c.args.show.now in
    let old : Cue = c.args.old.now in
    let cue : Cue = c.args.cue in
    let moves : List Move = c.into_moves.result in
    let same : cue ≡ record old { moves = cue.moves } = c.requires.moves in
    record {
      makes = changed_is show c.args.n (λ _. moves) old c.requires.there.found
          ∙ ap (λ (ms : List Move). with_cue show (record old { moves = ms })) c.into_moves.ensures
          ∙ ap (with_cue show) (sym same)
          ∙ ap (λ (o : Option Cue). with_above o (with_cue show cue)) (sym c.in-None.is)
          ∙ c.in_ok-above.ensures.above;
      ready = record {
        valid = rw (c.requires.there.found, c.into_moves.ensures)
            (subst (λ (ps : List Part). AllByRecursion (ValidMove show.channels ps) cue.moves) (ap (λ (q : Cue). q.parts) same) c.requires.valid.moves);
        same = rw (c.requires.there.found, c.into_moves.ensures) c.requires.within;
      };
      dimmer = refl;
      subs = refl;
    }

pub kept_above-requires-clause-within : goal.kept_above-requires-clause-within
kept_above-requires-clause-within g c = λ x range out.
    decided_alike c.args.old.now c.args.cue x c.requires.moves (c.requires.within x out)
