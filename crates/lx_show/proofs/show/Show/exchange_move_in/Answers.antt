use Rattle.lx_show.proofs.Imports.{refl}
use Rattle.lx_show.proofs.ChangedCues.{with_move}
use Rattle.lx_show.proofs.StoredShows.{cue_at}
use Rattle.lx_show.proofs.show.Show.exchange_move_in.Goals as goal

pub invariant_of-self : goal.invariant_of-self
invariant_of-self c =
    let here = cue_at c.self.invariant c.self.view_is c.get.ensures.value c.as_slice.ensures.value c.place_of-at.ensures c.cue.view_is
    c.index_mut-cue.ensures.value in
    here.stored _ refl (rw c.exchange.ensures.list (with_move _ _ c.args.entry here.valid (rw here.found at c.requires.valid)))

pub returns : goal.returns
returns c =
    let here = cue_at c.self.invariant c.self.view_is c.get.ensures.value c.as_slice.ensures.value c.place_of-at.ensures c.cue.view_is
    c.index_mut-cue.ensures.value in record {
      valid = here.before;
      replaced = rw here.found c.exchange.ensures.replaced;
      show = rw (here.found, c.exchange.ensures.list) (here.shown _ refl);
    }
