use Rattle.lx_edit.proofs.Imports.{◌≡◌, ◌∙◌, sym, refl, false, arith, ◌==◌, nat_tests, DeletePart, without_part}
use Rattle.lx_edit.proofs.CuePlans.{places, valid_without_part}
use Rattle.lx_edit.proofs.cue_edits.delete_part.Goals as goal

pub returns-clause-plan : goal.returns-clause-plan
returns-clause-plan g c =
    let old = c.in_ok-old.old.now in
    let here = c.in_ok-old.ensures in
    let other : 1 ≡ c.args.p → ⊥ = λ same. c.if-get-eq1.false (c.get.ensures.value ∙ sym same) in
    let not_base : (c.args.p == 1) ≡ false = grind (arith, nat_tests) in
    rw (c.drop_part.ensures.cue, c.in_ok-cue.ensures.cue)
    (places c.args.show.now (DeletePart c.args.n c.args.p) c.args.n old (without_part old c.args.p) here refl
    (valid_without_part c.args.show.now.channels c.args.p old other here.valid) (rw (here.found, c.in_ok-the_part.ensures, not_base) refl) refl refl)
