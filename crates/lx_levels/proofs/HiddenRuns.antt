-- What a run does to the level over older runs, from a moment on.
use Rattle.lx_levels.proofs.Imports.{◌≡◌, ℕ, ◌+◌, ◌-◌, ◌≤◌, Bool, true, false, cond, nat_le, List, ◌∷◌, None, Some, refl, arith, ◌∙◌, sym, Show, Run}
use Rattle.lx_levels.proofs.Imports.{acts, entry_extent, level, last_cue, fade_over, run_over, same_run, Act, act_over, IsKnown, IsOf}
use Rattle.lx_spec.proofs.Comparisons.{lt_false, le_true}

-- an act is what its run does
pub act_is : {show : Show} {run : Run} {c : ℕ} {act : Act} (before : ℕ → ℕ) (m : ℕ) → IsOf show run c act
    → act_over act before m ≡ run_over show before run c m
act_is before m of = rw (of.entry, of.start, of.target) refl

-- one that is over
fade_done : (before : ℕ → ℕ) (s time target m : ℕ) → s + time ≤ m → fade_over before s time target m ≡ target
fade_done before s time target m over = rw (lt_false m s (omega arith), le_true time (m - s) (omega arith)) refl

pub act_done : (act : Act) (before : ℕ → ℕ) (m : ℕ) → act.start + entry_extent act.entry ≤ m → act_over act before m ≡ act.target
act_done act before m over = either (nat_le (before act.start) act.target) where
  either : (b : Bool) → fade_over before (act.start + cond b act.entry.up_delay act.entry.down_delay) (cond b act.entry.up act.entry.down)
      act.target m ≡ act.target
  either true = fade_done before (act.start + act.entry.up_delay) act.entry.up act.target m (omega arith)
  either false = fade_done before (act.start + act.entry.down_delay) act.entry.down act.target m (omega arith)

chosen : (b : Bool) {x v w : ℕ} → cond b v w ≡ x → (b ≡ true → v ≡ x) × (b ≡ false → w ≡ x)
chosen true is = (λ _. is, λ other. absurd cc)
chosen false is = (λ other. absurd cc, λ _. is)

-- the level over one more run, which acts on the channel or not
module _ {show : Show} {run : Run} {c : ℕ} (base : ℕ) (older : List Run) (m : ℕ) where
  pub level_passed : IsKnown show (last_cue base older) run c None → level show base older c m ≡ level show base (run ∷ older) c m
  level_passed known = (chosen (acts show (last_cue base older) run c) refl).1 known.acts_is

  pub level_acted : {act : Act} → IsKnown show (last_cue base older) run c (Some act)
      → run_over show (level show base older c) run c m ≡ level show base (run ∷ older) c m
  level_acted known = (chosen (acts show (last_cue base older) run c) refl).0 known.acts_is

  -- over levels that are known from its start on
  pub level_pushed : {act : Act} {low : ℕ} (before : ℕ → ℕ) → IsKnown show (last_cue base older) run c (Some act)
      → ((y : ℕ) → low ≤ y → before y ≡ level show base older c y) → low ≤ run.start → low ≤ m
      → act_over act before m ≡ level show base (run ∷ older) c m
  level_pushed {act} {low} before known same started late = act_is before m known.act
      ∙ same_run show before (level show base older c) run c low m same started late ∙ level_acted known

  -- where its act is over
  pub level_hidden : {act : Act} → IsKnown show (last_cue base older) run c (Some act) → act.start + entry_extent act.entry ≤ m
      → act.target ≡ level show base (run ∷ older) c m
  level_hidden {act} known over = sym (act_done act (level show base older c) m over) ∙ act_is (level show base older c) m known.act
      ∙ level_acted known
