use Rattle.lx_lists.proofs.Imports.{◌≡◌, ℕ, ◌-◌, ap, sym, subst, arith, ◌∙◌, List, Some, length, IsTrue, slice_get, has_entry, Cue}
use Rattle.lx_lists.proofs.ListCues.{all_first, stands_there}
use Rattle.lx_lists.proofs.split.highest_of_second.Goals as goal

pub returns-then-get-lt-SECOND_LIST-clause-none : goal.returns-then-get-lt-SECOND_LIST-clause-none
returns-then-get-lt-SECOND_LIST-clause-none c = λ none.
    all_first c.args.show.now c.in-Some.cue.now c.cues.ensures.valid.cues_sorted
    (sym (ap (λ (xs : List Cue). slice_get xs (length xs - 1)) c.cues.ensures.cues) ∙ sym c.in-Some.ensures.value)
    (omega (arith, c.if-get-lt-SECOND_LIST.true, c.get.ensures.value, ap (λ (x : Cue). x.number) c.cue.view_is))

pub returns-else-get-lt-SECOND_LIST-clause-there :
    goal.returns-else-get-lt-SECOND_LIST-clause-there
returns-else-get-lt-SECOND_LIST-clause-there c =
    let last : slice_get c.args.show.now.cues (length c.args.show.now.cues - 1) ≡ Some c.in-Some.cue.now =
    sym (ap (λ (xs : List Cue). slice_get xs (length xs - 1)) c.cues.ensures.cues) ∙ sym c.in-Some.ensures.value in
    subst (λ (n : ℕ). IsTrue (has_entry (λ (x : Cue). x.number) n c.args.show.now.cues))
    (sym (ap (λ (x : Cue). x.number) c.cue.view_is))
    (stands_there (λ (x : Cue). x.number) c.args.show.now.cues (length c.args.show.now.cues - 1) c.in-Some.cue.now last)
