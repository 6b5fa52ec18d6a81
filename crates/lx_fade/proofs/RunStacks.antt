-- The stack of fades of a list of runs gives their level.
use Rattle.lx_fade.proofs.Imports.{◌≡◌, ℕ, ◌≤◌, Bool, true, false, cond, List, [], ◌∷◌, refl, arith, ◌∙◌, level, last_cue, Fade}
use Rattle.lx_fade.proofs.Imports.{stack_at}
use Rattle.lx_spec.specs.Show.{Show}
use Rattle.lx_spec.specs.TrackedLevel.{tracked}
use Rattle.lx_spec.specs.Run.{Run, acts}
use Rattle.lx_spec.proofs.Rest.{same_run}
use Rattle.lx_fade.specs.RunStack.{with_run, stack_of}
use Rattle.lx_fade.proofs.PushedFades.{stack_at-pushed}

either : (b : Bool) (bottom : ℕ) (one other : List Fade) (m v w : ℕ) → stack_at bottom one m ≡ v → stack_at bottom other m ≡ w
    → stack_at bottom (cond b one other) m ≡ cond b v w
either true bottom one other m v w first second = first
either false bottom one other m v w first second = second

-- The stack of the runs gives their level.
pub stack_at-stack_of : (show : Show) (base : ℕ) (runs : List Run) (c m : ℕ)
    → stack_at (tracked show base c) (stack_of show base runs c) m ≡ level show base runs c m
stack_at-stack_of show base [] c m = refl
stack_at-stack_of show base (run ∷ older) c m =
    let bottom = tracked show base c in
    let below = stack_of show base older c in
    let before : (z : ℕ) → 0 ≤ z → stack_at bottom below z ≡ level show base older c z = λ z h. stack_at-stack_of show base older c z in
    either (acts show (last_cue base older) run c) bottom (with_run show bottom below run c) below m _ _
    (stack_at-pushed bottom below _ _ _ m ∙ same_run show (stack_at bottom below) (level show base older c) run c 0 m before (omega arith)
    (omega arith))
    (before m (omega arith))
