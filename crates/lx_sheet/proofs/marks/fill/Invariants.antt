use Rattle.lx_sheet.proofs.Imports.{◌≡◌, ◌≢◌, ℕ, ◌<◌, slice_index, word_place}
use Rattle.lx_sheet.proofs.marks.fill.Given as goal

abbrev pub invariant-loop-group : goal.invariant-loop-group
invariant-loop-group l = record {
  here : (g : ℕ) → g < l.group → slice_index l.words (word_place l.groups l.row g) ≡ l.word;
  others : (r g : ℕ) → r ≢ l.row → g < l.groups
      → slice_index l.words (word_place l.groups r g) ≡ slice_index l.initial.words (word_place l.groups r g);
}
