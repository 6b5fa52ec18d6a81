use Rattle.lx_sheet.proofs.Imports.{◌≡◌, ℕ, ◌+◌, ◌*◌, ◌<◌, ◌≤◌, length, max, take, vec_capacity, get_or, Cue, cell, level_in_look, width, IsGrown}
use Rattle.lx_sheet.proofs.Imports.{IsMarkedFor, IsReached, level_after}
use Rattle.lx_sheet.proofs.opening.fill_all.Given as goal

abbrev pub invariant-loop-place : goal.invariant-loop-place
invariant-loop-place l = record {
  look : (c : ℕ) → level_in_look l.look c ≡ level_after (take l.place l.cues) c;
  levels : (k : ℕ) → k < l.place → (c : ℕ) → cell (length l.fn.look) l.levels.items k c ≡ level_after (take (k + 1) l.cues) c;
  long : length l.levels.items ≡ max (length l.fn.levels.items) (l.place * width (length l.fn.look));
  room : vec_capacity l.fn.levels ≤ vec_capacity l.levels;
  table : IsGrown l.fn.marks l.marks;
  reach : (r : ℕ) → r < l.place → IsReached l.marks r;
  marks : (k : ℕ) (cue : Cue) → k < l.place → cue ≡ get_or l.cues k cue → IsMarkedFor (length l.fn.look) l.marks k cue;
}
