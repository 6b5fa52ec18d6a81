-- The opening of a gate.
use Rattle.lx_gate.proofs.Imports.{◌≡◌, ℕ, ◌-◌, ◌*◌, ◌≤◌, List, [], take, drop, replicate, refl, sym, ap, ◌∙◌, arith, SLOTS, UNIVERSES, Show, Valid}
use Rattle.lx_gate.proofs.Imports.{Command, slice_range, nothing_told}
use Rattle.lx_gate.specs.Frames.{AreFramesOf, frame_after, moment_after, IsVersion, IsFrame}
use Rattle.lx_gate.proofs.DarkDesk.{dark_frame}

pub first_is : (show : Show) → AreFramesOf show [] (replicate SLOTS 0) → IsVersion show [] (replicate SLOTS 0) 0 0
unfolding moment_after
first_is show dark = record { slots_are = dark; count_is = refl; moment_is = refl }

-- the slots of one universe of a version, which begin at this place
pub frame_of_version : (show : Show) (list : List Command) (u from : ℕ) (slots : List ℕ) (count moment : ℕ) → 1 ≤ u → u ≤ UNIVERSES
    → from ≡ 512 * (u - 1) → IsVersion show list slots count moment
    → IsFrame show list u (slice_range {X = ℕ} slots from (512 * u)) (record { count = count; moment = moment })
unfolding AreFramesOf
frame_of_version show list u from slots count moment low high is v =
    let wide : 512 * u - from ≡ 512 = omega arith in
    record {
      slots_are = ap (λ (n : ℕ). take n (drop from slots)) wide ∙ ap (λ (n : ℕ). take 512 (drop n slots)) is ∙ v.slots_are u low high;
      count_is = v.count_is;
      moment_is = v.moment_is;
    }

pub first_frame : (show : Show) (u : ℕ) → Valid show → IsFrame show [] u (replicate 512 0) (record { count = 0; moment = 0 })
unfolding frame_after moment_after
first_frame show u valid = record { slots_are = sym (dark_frame show u valid); count_is = refl; moment_is = refl }

-- what is told of a tap that has taken and learnt nothing
pub new_tap : (u : ℕ) (seen learnt : List Command) (reads misses : ℕ) → seen ≡ [] → learnt ≡ [] → reads ≡ 0 → misses ≡ 0
    → record { universe = u; told = record { seen = seen; learnt = learnt; reads = reads; misses = misses } } ≡ nothing_told u
new_tap u seen learnt reads misses h k m n = cc (h, k, m, n)
