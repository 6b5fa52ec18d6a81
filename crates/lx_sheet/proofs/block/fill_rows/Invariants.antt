use Rattle.lx_sheet.proofs.Imports.{◌≡◌, ℕ, ◌<◌, ◌≤◌, length, take, cue_level, level_in_look, level_after, IsRight}
use Rattle.lx_sheet.proofs.block.fill_rows.Given as goal

abbrev pub invariant-loop-place : goal.invariant-loop-place
invariant-loop-place l = record {
  look : ((c : ℕ) → level_in_look l.initial.look c ≡ level_after (take l.from l.cues) c) → (c : ℕ)
      → level_in_look l.look c ≡ level_after (take l.place l.cues) c;
  front : (k c : ℕ) → k < l.from → k < length l.order
      → cue_level (length l.initial.look) l.order l.levels k c ≡ cue_level (length l.initial.look) l.order l.initial.levels k c;
  rows : ((c : ℕ) → level_in_look l.initial.look c ≡ level_after (take l.from l.cues) c) → (k c : ℕ) → l.from ≤ k → k < l.place
      → IsRight (length l.initial.look) l.order l.cues l.levels k c;
  back : (k c : ℕ) → l.place ≤ k → k < length l.order
      → cue_level (length l.initial.look) l.order l.levels k c ≡ cue_level (length l.initial.look) l.order l.initial.levels k c;
}
