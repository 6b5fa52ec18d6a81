-- A run that is added to levels which stood for the playback before it.
use Rattle.lx_levels.proofs.Imports.{◌≡◌, ℕ, ◌+◌, ◌-◌, ◌*◌, ◌/◌, ◌<◌, ◌≤◌, nat_lt, nat_le, Bool, true, false, cond, Some, None, List, [], ◌∷◌, length}
use Rattle.lx_levels.proofs.Imports.{reverse, refl, get_or-reverse, length-reverse, arith, get_or, ◌∙◌, ap, sym, subst, inl, inr, cases_eq, cases_lt}
use Rattle.lx_levels.proofs.Imports.{Show, tracked, Run, acts, delay_of, time_of, level, last_cue, run_over, fade_over, faded, moved_towards}
use Rattle.lx_levels.proofs.Imports.{rises_to, Playback, KeptLevels, stack_level, kept_stack, IsStill, StackStandsAt, StandsBefore, IsElsewhere}
use Rattle.lx_levels.proofs.Imports.{IsAdded, IsKnown, Act, act_over}
use Rattle.lx_spec.proofs.Comparisons.{le_true}
use Rattle.lx_levels.proofs.Stands.{same_stack}
use Rattle.lx_levels.proofs.HiddenRuns.{level_passed, level_pushed}

-- the channel at the next place stands for the playback too
pub added_next : {show : Show} {p : Playback} {k : ℕ} {before kept after : KeptLevels} → IsAdded show p k before kept → IsElsewhere k kept after
    → StackStandsAt show p after k → IsAdded show p (k + 1) before after
added_next {show} {p} {k} {before} {kept} {after} added elsewhere here = record {
  moment = elsewhere.moment ∙ added.moment;
  reach = elsewhere.reach ∙ added.reach;
  done = λ i below. elim (cases_eq i k) [
    | inl same ↦ subst (StackStandsAt show p after) (sym same) here
    | inr other ↦ same_stack show p i kept after (elsewhere.others i other) (added.done i (omega (arith, other)))
  ];
  left = λ i past. elsewhere.others i (λ same. absurd (omega (arith, same, past))) ∙ added.left i (omega arith);
}

-- and so do many in a row, whose stacks stay
pub added_row : {show : Show} {p : Playback} {k : ℕ} {before kept : KeptLevels} (n : ℕ) → IsAdded show p k before kept
    → ((i : ℕ) → k ≤ i → i < k + n → StackStandsAt show p kept i) → IsAdded show p (k + n) before kept
added_row {k = k} n added here = record {
  moment = added.moment;
  reach = added.reach;
  done = λ i below. elim (cases_lt i k) [
    | inl done ↦ added.done i done
    | inr left ↦ here i left below
  ];
  left = λ i past. added.left i (omega arith);
}

-- a channel that stays at a level does so over a run to that level
faded_nowhere : (v gone time : ℕ) → faded v v gone time ≡ v
faded_nowhere v gone time = elim (nat_le time gone) as (λ b. cond b v (moved_towards v v gone time) ≡ v) [
  | true ↦ refl
  | false ↦ rw (le_true v v (omega arith)) (omega (arith, none))
] where
  none : (v - v) * gone / time ≡ 0
  none = ap (λ d. d * gone / time) (let e : v - v ≡ 0 = omega arith in e) ∙ grind arith

run_nowhere : (show : Show) (before : ℕ → ℕ) (run : Run) (c from x v : ℕ) → ((y : ℕ) → from ≤ y → before y ≡ v) → from ≤ run.start
    → from ≤ x → tracked show run.cue c ≡ v → run_over show before run c x ≡ v
run_nowhere show before run c from x v still starts late target = over (rises_to show before run c) where
  over : (b : Bool) → fade_over before (run.start + delay_of show run c b) (time_of show run c b) (tracked show run.cue c) x ≡ v
  over b =
      let begins = run.start + delay_of show run c b in
      ap (λ (t : ℕ). fade_over before begins (time_of show run c b) t x) target
      ∙ elim (nat_lt x begins) as (λ t. cond t (before x) (faded (before begins) v (x - begins) (time_of show run c b)) ≡ v) [
        | true ↦ still x late
        | false ↦
            ap (λ l. faded l v (x - begins) (time_of show run c b)) (still begins (omega arith))
            ∙ faded_nowhere v (x - begins) (time_of show run c b)
      ]

pub same_run_copied : (run last : Run) → Some run ≡ Some last → run ≡ last
same_run_copied run last same = cc

-- a channel whose stack stood for the playback before its last run, and stands for it now
module _ {show : Show} {p : Playback} {before : KeptLevels} (kept : KeptLevels) {k : ℕ} (stood : StandsBefore show p before)
    (within : k < show.channels) (left : kept_stack kept k ≡ kept_stack before k) where
  old : StackStandsAt show (record p { live = stood.older }) kept k
  old = same_stack show (record p { live = stood.older }) k before kept left (stood.stands.each k within)

  stands_now : (after : KeptLevels)
      → ((x : ℕ) → p.moment ≤ x → stack_level (kept_stack after k) x ≡ level show p.base (stood.last ∷ stood.older) (k + 1) x)
      → length (kept_stack after k).fades ≤ length (kept_stack kept k).fades + 1 → StackStandsAt show p after k
  stands_now after gives few = record {
    later = λ x from. gives x from ∙ ap (λ (runs : List Run). level show p.base runs (k + 1) x) (sym stood.live_is);
    few = omega (arith, few, old.few, ap length stood.live_is);
  }

  -- where the run acts, and where it doesn't
  pub stands_on : {after : KeptLevels} {act : Act} → IsKnown show (last_cue p.base stood.older) stood.last (k + 1) (Some act)
      → ((x : ℕ) → p.moment ≤ x → stack_level (kept_stack after k) x ≡ act_over act (stack_level (kept_stack kept k)) x)
      → length (kept_stack after k).fades ≤ length (kept_stack kept k).fades + 1 → StackStandsAt show p after k
  stands_on {after} {act} known gives few = stands_now after (λ x from. gives x from
      ∙ level_pushed p.base stood.older x (stack_level (kept_stack kept k)) known old.later (omega (arith, stood.now)) from) few

  pub stands_off : IsKnown show (last_cue p.base stood.older) stood.last (k + 1) None → StackStandsAt show p kept k
  stands_off known = stands_now kept (λ x from. old.later x from ∙ level_passed p.base stood.older x known) (omega arith)

  -- where it stays at the level of the run
  pub stands_still : (v : ℕ) → tracked show stood.last.cue (k + 1) ≡ v → IsStill p.moment (kept_stack kept k) v → StackStandsAt show p kept k
  stands_still v target still = stands_now kept (λ x from. still x from ∙ sym (over x from)) (omega arith) where
    stays : (x : ℕ) → p.moment ≤ x → level show p.base stood.older (k + 1) x ≡ v
    stays x from = sym (old.later x from) ∙ still x from

    over : (x : ℕ) → p.moment ≤ x → level show p.base (stood.last ∷ stood.older) (k + 1) x ≡ v
    over x from = elim (acts show (last_cue p.base stood.older) stood.last (k + 1)) as (λ b. cond b
        (run_over show (level show p.base stood.older (k + 1)) stood.last (k + 1) x) (level show p.base stood.older (k + 1) x) ≡ v) [
          | true ↦ run_nowhere show (level show p.base stood.older (k + 1)) stood.last (k + 1) p.moment x v stays (omega (arith, stood.now)) from
              target
          | false ↦ stays x from
        ]

-- the cue of the last run but one, or the base
pub cue_before : (base : ℕ) (runs older : List Run) (last run : Run) → reverse runs ≡ last ∷ older → 2 ≤ length runs
    → run ≡ get_or runs (length runs - 2) run → run.cue ≡ last_cue base older
cue_before base runs [] last run is two read = let n : length (reverse runs) ≡ 1 =
    ap length is in absurd (omega (arith, length-reverse runs, n))
cue_before base runs (r ∷ older) last run is two read =
    let back : length runs - 2 ≡ length runs - 1 - 1 = omega arith in
    let here : run ≡ r = read ∙ ap (λ n. get_or runs n run) back ∙ sym (get_or-reverse runs 1 run (omega arith))
    ∙ ap (λ (xs : List Run). get_or xs 1 run) is in
    ap (λ (x : Run). x.cue) here
