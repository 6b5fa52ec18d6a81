use Rattle.lx_sheet.proofs.Imports.{◌≡◌, ◌≢◌, ℕ, ◌-◌, ◌<◌, ◌≤◌, length, slice_index, chan_at, row_bit, word_place}
use Rattle.lx_sheet.proofs.marks.mark_moves.Given as goal

abbrev pub invariant-loop-next : goal.invariant-loop-next
invariant-loop-next l = record {
  most : l.next ≤ length l.moves;
  here : (k : ℕ) → k < l.next → row_bit l.groups l.words l.row (chan_at l.moves k) ≡ 1;
  others : (r g : ℕ) → r ≢ l.row → g < l.groups
      → slice_index l.words (word_place l.groups r g) ≡ slice_index l.initial.words (word_place l.groups r g);
}

abbrev pub decreases-loop-next : goal.decreases-loop-next
decreases-loop-next l = length l.moves - l.next
