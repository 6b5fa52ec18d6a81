use Rattle.lx_lists.proofs.Imports.{ap, sym, arith, ◌∙◌, List, slice_get, Cue}
use Rattle.lx_lists.proofs.ListCues.{all_second}
use Rattle.lx_lists.proofs.split.lowest_of_first.Goals as goal

pub returns-else-get-lt-SECOND_LIST-clause-none : goal.returns-else-get-lt-SECOND_LIST-clause-none
returns-else-get-lt-SECOND_LIST-clause-none c = λ none.
    all_second c.args.show.now c.in-Some.cue.now c.cues.ensures.valid.cues_sorted
    (sym (ap (λ (xs : List Cue). slice_get xs 0) c.cues.ensures.cues) ∙ sym c.in-Some.ensures.value)
    (omega (arith, c.if-get-lt-SECOND_LIST.false, c.get.ensures.value, ap (λ (x : Cue). x.number) c.cue.view_is))
