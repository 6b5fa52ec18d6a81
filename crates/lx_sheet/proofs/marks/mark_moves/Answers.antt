use Rattle.lx_sheet.proofs.Imports.{◌≡◌, ℕ, ◌+◌, ◌*◌, ◌/◌, ◌<◌, ◌≤◌, List, length, get_or, ap, sym, ◌∙◌, subst, inl, inr, arith, cases_lt, Move}
use Rattle.lx_sheet.proofs.Imports.{chan_at, group_of, row_bit, word_place}
use Rattle.lx_sheet.proofs.MarkWords.{bit_added, bit_kept, chan_found, chan_is, group_within, word_other}
use Rattle.lx_sheet.proofs.marks.mark_moves.Goals as goal

-- the group that was read is that of the move at the index
of_move : (next group : ℕ) (moves : List Move) (m : Move) → next < length moves → group ≡ group_of (get_or moves next m).chan
    → group_of (chan_at moves next) ≡ group
of_move next group moves m within is = ap group_of (chan_is moves next m within) ∙ sym is

pub place_of-requires-clause-group : goal.place_of-requires-clause-group
place_of-requires-clause-group c =
    let moves : List Move = c.args.moves.now in
    let next : ℕ = c.loop-next.next in
    let there : next < length moves = omega (arith, c.loop-next-test.true) in
    subst (λ g. g < c.args.groups)
    (of_move next c.group_of-group.result moves c.index-moves-next.result there c.group_of-group.ensures)
    (group_within c.args.groups next moves there c.requires.within)

pub loop-next-preserved : goal.loop-next-preserved
loop-next-preserved c =
    let groups : ℕ = c.args.groups in
    let row : ℕ = c.args.row in
    let moves : List Move = c.args.moves.now in
    let words : List ℕ = c.loop-next.words in
    let next : ℕ = c.loop-next.next in
    let group : ℕ = c.group_of-group.result in
    let bits : ℕ = c.gather-stretch.result.bits in
    let at : c.place_of.result ≡ word_place groups row group = c.place_of.ensures in
    let there : next < length moves = omega (arith, c.loop-next-test.true) in
    let first = of_move next group moves c.index-moves-next.result there c.group_of-group.ensures in
    let within : group < groups = subst (λ g. g < groups) first (group_within groups next moves there c.requires.within) in
    let reach : (row / 64 + 1) * groups * 64 ≤ length words = omega (arith, c.requires.reach, c.loop-next.auto.words) in
    record {
      most = c.gather-stretch.ensures.most;
      here = λ k less. rw at (elim (cases_lt k next) [
        | inl before ↦
            bit_kept groups words row group bits (chan_at moves k) within reach
            (group_within groups k moves (omega arith) c.requires.within) (c.loop-next.invariant.here k before)
        | inr from ↦
            let is = c.gather-stretch.ensures.bits k from less in
            bit_added groups words row group bits (chan_at moves k) within reach (is.group ∙ first) is.bit
      ]);
      others = λ r g apart low.
          rw at (word_other groups words row group _ r g within low (λ e _. apart e))
          ∙ c.loop-next.invariant.others r g apart low;
    }

pub returns-clause-here : goal.returns-clause-here
returns-clause-here c = λ chan has.
    chan_found (λ x. row_bit c.args.groups c.loop-next.words c.args.row x ≡ 1) c.args.moves.now chan
    (λ k within. c.loop-next.invariant.here k (omega arith)) has
