-- A pushed fade is a fade over what the stack gave before.
use Rattle.lx_fade.proofs.Imports.{◌≡◌, ℕ, ◌<◌, ◌≤◌, ◌-◌, Bool, true, false, cond, nat_lt, List, [], ◌∷◌, refl, arith, ◌∙◌}
use Rattle.lx_fade.proofs.Imports.{nat_tests, faded, fade_over, Fade, stack_at, begun_by, pushed}

cut_step : (b : Bool) (bottom s m : ℕ) (fade : Fade) (older : List Fade) → nat_lt s fade.start ≡ b → m ≤ s
    → stack_at bottom (begun_by s older) m ≡ stack_at bottom older m
    → stack_at bottom (cond b (begun_by s older) (fade ∷ older)) m ≡ stack_at bottom (fade ∷ older) m
cut_step true bottom s m fade older later before rest = rest ∙ grind (arith, nat_tests)
cut_step false bottom s m fade older later before rest = refl

-- the fades that are left out begin after every moment up to the new start
pub before_start : (bottom s m : ℕ) (stack : List Fade) → m ≤ s → stack_at bottom (begun_by s stack) m ≡ stack_at bottom stack m
before_start bottom s m [] before = refl
before_start bottom s m (fade ∷ older) before =
    cut_step (nat_lt s fade.start) bottom s m fade older refl before (before_start bottom s m older before)

pushed_step : (b : Bool) (bottom : ℕ) (stack : List Fade) (s time target m : ℕ) → nat_lt m s ≡ b
    → cond b (stack_at bottom (begun_by s stack) m) (faded (stack_at bottom stack s) target (m - s) time)
    ≡ cond b (stack_at bottom stack m) (faded (stack_at bottom stack s) target (m - s) time)
pushed_step true bottom stack s time target m before = let lt : m < s = grind (arith, nat_tests) in before_start bottom s m stack (omega arith)
pushed_step false bottom stack s time target m before = refl

pub stack_at-pushed : (bottom : ℕ) (stack : List Fade) (s time target m : ℕ)
    → stack_at bottom (pushed bottom stack s time target) m ≡ fade_over (stack_at bottom stack) s time target m
stack_at-pushed bottom stack s time target m = pushed_step (nat_lt m s) bottom stack s time target m refl
