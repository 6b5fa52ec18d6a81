-- What is known of the runs on a channel, one after another: which of them are seen, and what each does.
use Rattle.std.specs.Prelude.{◌≡◌, ℕ, ◌≤◌, ◌<◌, [], List, length, take, reverse, Option, None, IfSome, slice_index_or}
use Rattle.std.specs.List.{All}
use Rattle.lx_spec.specs.Show.{Show}
use Rattle.lx_spec.specs.Run.{Run}
use Rattle.lx_spec.specs.Level.{level, last_cue}
use Rattle.lx_levels.specs.declared.replay.Act.{Act}
use Rattle.lx_levels.specs.Stacks.{Stack, stack_level}
use Rattle.lx_levels.specs.Acts.{IsKnown}

-- what each of the runs from a place on does is known
abbrev pub AreKnown : Show → ℕ → List Run → ℕ → ℕ → List (Option Act) → Type 0
AreKnown show base live c first known =
    (i : ℕ) (d : Run) → first ≤ i → i < length live
    → IsKnown show (last_cue base (reverse (take i live))) (slice_index_or live i d) c (slice_index_or known i None)

-- what holds of each act of the runs from a place on
abbrev pub EachAct : (Act → Type 0) → List Run → ℕ → List (Option Act) → Type 0
EachAct P live first known = (i : ℕ) → first ≤ i → i < length live → IfSome (slice_index_or known i None) P

-- a stack gives the level over the runs before a place since a moment, by which none of the others that act has started
pub record IsReplayed (show : Show) (base : ℕ) (live : List Run) (c from i : ℕ) (known : List (Option Act)) (stack : Stack) : Type 0 where
  pub since : ℕ
  pub gives : (m : ℕ) → since ≤ m → stack_level stack m ≡ level show base (reverse (take i live)) c m
  pub later : EachAct (λ a. since ≤ a.start) live i known
  pub begun : since ≤ from

-- The oldest runs, so many of them, leave the channel at a level; what the others do is known. All have started by a moment.
pub record IsGround (show : Show) (base : ℕ) (live : List Run) (c from first bottom : ℕ) (known : List (Option Act)) : Type 0 where
  pub stays : IsReplayed show base live c from first known (record { bottom = bottom; fades = [] })
  pub known_are : AreKnown show base live c first known
  pub started : All (λ r. r.start ≤ from) live
