use Rattle.lx_show.proofs.Imports.{refl}
use Rattle.lx_show.proofs.ChangedCues.{with_other_moves}
use Rattle.lx_show.proofs.StoredShows.{cue_at}
use Rattle.lx_show.proofs.show.Show.replace_moves.Goals as goal

pub invariant_of-self : goal.invariant_of-self
invariant_of-self c =
    let here = cue_at c.self.invariant c.self.view_is c.get.ensures.value c.as_slice-2.ensures.value c.place_of-at.ensures c.cue.view_is
    c.index_mut-cue.ensures.value in
    here.stored _ refl (rw c.replace.ensures.after
    (with_other_moves _ _ c.args.moves here.valid (rw here.found at c.requires) c.as_slice.ensures.sorted))

pub returns : goal.returns
returns c =
    let here = cue_at c.self.invariant c.self.view_is c.get.ensures.value c.as_slice-2.ensures.value c.place_of-at.ensures c.cue.view_is
    c.index_mut-cue.ensures.value in record {
      valid = here.before;
      before = rw here.found c.replace.ensures.value;
      after = rw (here.found, c.replace.ensures.after) (here.shown _ refl);
    }
