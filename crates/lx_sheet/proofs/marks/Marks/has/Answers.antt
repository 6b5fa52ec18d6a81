use Rattle.lx_sheet.proofs.Imports.{◌<◌, ℕ, List, length, get_or, ap, sym, ◌∙◌, subst, arith, ◌==◌, bit_at, get_or_read, shr_and_one, bit_of}
use Rattle.lx_sheet.proofs.Imports.{group_of, row_bit}
use Rattle.lx_sheet.specs.Marks.{has_mark}
use Rattle.lx_sheet.proofs.MarkWords.{place_within}
use Rattle.lx_sheet.proofs.marks.Marks.has.Goals as goal

pub returns : goal.returns
unfolding has_mark
returns c =
    let groups : ℕ = c.args.self.now.groups in
    let words : List ℕ = c.args.self.now.words.items in
    let n : ℕ = c.get.result in
    let within : c.place_of.result < length words =
    subst (λ p. p < length words) (sym c.place_of.ensures)
    (place_within groups c.args.row (group_of n) (length words) (omega arith) c.requires.reach) in
    ap (λ (b : ℕ). b == 1) (shr_and_one c.index-word.result.now (bit_of n))
    ∙ ap (λ w. bit_at w (bit_of n) == 1) (get_or_read words c.place_of.result c.index-word.result.now within c.index-word.ensures 0)
    ∙ ap (λ p. bit_at (get_or words p 0) (bit_of n) == 1) c.place_of.ensures
    ∙ ap (λ k. row_bit groups words c.args.row k == 1) c.get.ensures.value
