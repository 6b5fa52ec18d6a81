use Rattle.lx_edit.proofs.Imports.{◌≡◌, Some, sym, Cue, cue_of, found_number}
use Rattle.lx_edit.proofs.Walks.{same_show}
use Rattle.lx_edit.proofs.absent.the_cue.Goals as goal

pub returns-in-Some : goal.returns-in-Some
returns-in-Some c =
    let show = c.args.show.now in
    let found : cue_of show c.args.n ≡ Some c.in-Some.cue.now = sym c.in-Some.ensures.cue in
    record {
      found = found;
      number = sym (found_number (λ (x : Cue). x.number) c.args.n show.cues c.in-Some.cue.now found);
      valid = c.in-Some.ensures.valid;
      same = rw found at (same_show show c.args.n c.in-Some.ensures.show.cues_sorted);
      valid_show = c.in-Some.ensures.show;
    }
