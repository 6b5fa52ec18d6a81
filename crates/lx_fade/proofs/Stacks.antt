-- A pushed fade begins last, and is the newest of a row.
use Rattle.lx_fade.proofs.Imports.{◌≡◌, ℕ, ◌+◌, ◌<◌, ◌≤◌, Bool, true, false, cond, nat_lt, List, [], ◌∷◌, length, slice_set, refl}
use Rattle.lx_fade.proofs.Imports.{arith, ◌∙◌, ap, sym, nat_tests, Fade, begun_by, pushed, StartsFall, stack_column, stack_in, common_steps}
use Rattle.std.specs.List.{AllByRecursion}
use Rattle.lx_spec.proofs.Lists.{each}
use Rattle.lx_fade.proofs.Rows.{column_whole}

-- a fade written at the end of the stack is its newest
pub stack_in-written : (row : List Fade) (kept : ℕ) (fade : Fade) → kept < length row
    → stack_in (slice_set row kept fade) (kept + 1) ≡ fade ∷ stack_in row kept
stack_in-written row kept fade room = grind (arith, common_steps)

Begun : ℕ → List Fade → Type 0
Begun s stack = AllByRecursion (λ f. f.start ≤ s) stack × StartsFall stack

falls_step : (b : Bool) (s : ℕ) (fade : Fade) (older : List Fade) → nat_lt s fade.start ≡ b → StartsFall (fade ∷ older)
    → Begun s (begun_by s older) → Begun s (cond b (begun_by s older) (fade ∷ older))
unfolding Begun
falls_step true s fade older h falls rest = rest
falls_step false s fade older h falls rest = let le : fade.start ≤ s =
    grind (arith, nat_tests) in ((le, each _ _ older (λ f h. omega (arith, le)) falls.0), falls)

falls : (s : ℕ) (stack : List Fade) → StartsFall stack → Begun s (begun_by s stack)
unfolding Begun
falls s [] h = (tt, tt)
falls s (fade ∷ older) h = falls_step (nat_lt s fade.start) s fade older refl h (falls s older h.1)

-- a pushed fade begins last
pub StartsFall-pushed : (bottom : ℕ) (stack : List Fade) (s time target : ℕ) → StartsFall stack
    → StartsFall (pushed bottom stack s time target)
unfolding Begun
StartsFall-pushed bottom stack s time target h = falls s stack h

-- written in a row after those that stay it makes the pushed stack
pub stack_in-pushed : (row : List Fade) (used kept bottom start time target : ℕ) (fade : Fade) → used < length row → kept ≤ used
    → fade ∷ stack_column row 1 0 kept ≡ pushed bottom (stack_column row 1 0 used) start time target
    → stack_in (slice_set row kept fade) (kept + 1) ≡ pushed bottom (stack_in row used) start time target
stack_in-pushed row used kept bottom start time target fade room le is =
    stack_in-written row kept fade (omega arith)
    ∙ ap (λ (fs : List Fade). fade ∷ fs) (sym (column_whole row kept (omega arith))) ∙ is
    ∙ ap (λ (fs : List Fade). pushed bottom fs start time target) (column_whole row used (omega arith))
