use Rattle.lx_sheet.proofs.Imports.{◌≡◌, ◌≢◌, ℕ, ◌<◌, ◌≤◌, false, min, length, take, slice_get, IfSome, decides, cell, cue_level, last_value}
use Rattle.lx_sheet.proofs.Imports.{level_after, IsRight}
use Rattle.lx_sheet.proofs.block.fill_column.Given as goal

abbrev pub invariant-loop-place : goal.invariant-loop-place
invariant-loop-place l = record {
  level : last_value l.from (λ k. cue_level l.channels l.order l.initial.levels k l.chan) ≡ level_after (take l.from l.cues) l.chan
      → l.level ≡ level_after (take l.place l.cues) l.chan;
  passed : (k : ℕ) → l.from ≤ k → l.sure ≤ k → k < l.place → IfSome (slice_get l.cues k) (λ cue. decides cue l.chan ≡ false);
  others : (r c : ℕ) → c ≢ l.chan → cell l.channels l.levels r c ≡ cell l.channels l.initial.levels r c;
  front : (k : ℕ) → k < l.from → cue_level l.channels l.order l.levels k l.chan ≡ cue_level l.channels l.order l.initial.levels k l.chan;
  back : (k : ℕ) → min l.place l.to ≤ k → k < length l.cues
      → cue_level l.channels l.order l.levels k l.chan ≡ cue_level l.channels l.order l.initial.levels k l.chan;
  rows : last_value l.from (λ k. cue_level l.channels l.order l.initial.levels k l.chan) ≡ level_after (take l.from l.cues) l.chan → (k : ℕ)
      → l.from ≤ k → k < l.place → IsRight l.channels l.order l.cues l.levels k l.chan;
}
