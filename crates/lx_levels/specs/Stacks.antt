-- The stack of fades of each channel, as levels keep them.
use Rattle.std.specs.Prelude.{ℕ, List, [], slice_index_or}
use Rattle.lx_fade.specs.Fades.{Fade, stack_at}

-- fades, the newest first, over the level at which the channel is until one has begun
pub record Stack : Type 0 where
  pub bottom : ℕ
  pub fades : List Fade

-- the level at a moment
abbrev pub stack_level : Stack → ℕ → ℕ
stack_level stack m = stack_at stack.bottom stack.fades m

abbrev pub no_stack : Stack
no_stack = record { bottom = 0; fades = [] }

-- what levels keep: the moment, and the stack of channel c at place c - 1
pub record KeptLevels : Type 0 where
  pub moment : ℕ
  pub stacks : List Stack

abbrev pub kept_stack : KeptLevels → ℕ → Stack
kept_stack kept k = slice_index_or kept.stacks k no_stack

-- the level that is kept for the channel at a place
abbrev pub level_at : KeptLevels → ℕ → ℕ
level_at kept k = stack_level (kept_stack kept k) kept.moment
