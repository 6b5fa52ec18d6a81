use Rattle.lx_edit.proofs.Imports.{◌≡◌, ◌≤◌, ◌∙◌, ap, sym, refl, false, is_some, PARTS, Part, AddPart, has_entry, with_part, new_part}
use Rattle.lx_edit.proofs.Imports.{with_placed_part}
use Rattle.lx_edit.proofs.CuePlans.{places, valid_new_part}
use Rattle.lx_edit.proofs.cue_edits.add_part.Goals as goal

pub returns-clause-plan : goal.returns-clause-plan
returns-clause-plan g c =
    let show = c.args.show.now in
    let old = c.in_ok-old.old.now in
    let here = c.in_ok-old.ensures in
    let absent : has_entry (λ (x : Part). x.number) c.args.p old.parts ≡ false = ap is_some (sym c.part.ensures) ∙ sym c.is_some.ensures
    ∙ c.if-is_some.false in
    let least : 1 ≤ c.args.p = rw c.get.ensures.value at c.get.ensures.least in
    let most : c.args.p ≤ PARTS = rw c.get.ensures.value at c.get.ensures.most in
    rw (c.put_part.ensures, c.in_ok-cue.ensures.cue, c.new_part.ensures)
    (places show (AddPart c.args.n c.args.p) c.args.n old (with_part old (new_part c.args.p)) here refl
    (with_placed_part show.channels old (new_part c.args.p) here.valid (valid_new_part c.args.p least most)) (rw (here.found, absent) refl) refl refl)
