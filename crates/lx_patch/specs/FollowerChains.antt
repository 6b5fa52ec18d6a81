-- Which dimmers follow each channel, in chains.
use Rattle.std.specs.Prelude.{◌≡◌, ℕ, ◌<◌, ◌≤◌, List, length, slice_index}
use Rattle.lx_base.specs.declared.TheConstants.{CHANNELS, SLOTS}
use Rattle.lx_patch.specs.declared.followers.Followers.{Followers}

-- the dimmer at a place follows the channel at a place, at more than 0
pub record FollowsChannel (places levels : List ℕ) (k e : ℕ) : Type 0 where
  pub channel : slice_index places e ≡ k
  pub lit : 0 < slice_index levels e

-- every dimmer from this place on is dark
abbrev pub AreDarkFrom : List ℕ → ℕ → Type 0
AreDarkFrom levels top = (e : ℕ) → top ≤ e → e < length levels → slice_index levels e ≡ 0

-- The chains of the dimmers from a place on: each channel's begins with the first of its dimmers there, and goes on from each dimmer to the
-- next one of its channel, or ends.
pub record AreDimmersChained (places levels first next : List ℕ) (from : ℕ) : Type 0 where
  pub first_reach : length first ≡ CHANNELS
  pub next_reach : length next ≡ SLOTS
  pub first_low : (k : ℕ) → k < CHANNELS → from ≤ slice_index first k
  pub first_own : (k : ℕ) → k < CHANNELS → slice_index first k < SLOTS → FollowsChannel places levels k (slice_index first k)
  pub first_all : (k e : ℕ) → k < CHANNELS → from ≤ e → e < SLOTS → FollowsChannel places levels k e → slice_index first k ≤ e
  pub next_later : (e : ℕ) → from ≤ e → e < SLOTS → 0 < slice_index levels e → e < slice_index next e
  pub next_own : (e : ℕ) → from ≤ e → e < SLOTS → 0 < slice_index levels e → slice_index next e < SLOTS
      → FollowsChannel places levels (slice_index places e) (slice_index next e)
  pub next_all : (e d : ℕ) → from ≤ e → e < SLOTS → 0 < slice_index levels e → e < d → d < SLOTS
      → FollowsChannel places levels (slice_index places e) d → slice_index next e ≤ d

-- the chains of all dimmers
pub record IsLinked (places levels : List ℕ) (followers : Followers) : Type 0 where
  pub chained : AreDimmersChained places levels followers.first.items followers.next.items 0
  pub top : AreDarkFrom levels followers.top
  pub top_most : followers.top ≤ SLOTS
