-- What a change of a desk leaves of what goes out.
use Rattle.std.specs.Prelude.{◌≡◌, ◌≢◌, ℕ, ◌+◌, ◌<◌, Bool, true, false}
use Rattle.lx_spec.specs.SortedList.{entry_at}
use Rattle.lx_spec.specs.Output.{contribution}
use Rattle.lx_spec.specs.Kept.{Kept}
use Rattle.lx_console.specs.declared.change.Change.{Change}
use Rattle.lx_console.specs.declared.change.Change.TheVariants.{Nothing, Levels, Row}
use Rattle.lx_console.specs.ConsoleMeaning.{level_now}

-- the same channels, and the same rows of the patch
pub record SamePatch (before after : Kept) : Type 0 where
  pub channels : after.show.channels ≡ before.show.channels
  pub patch : after.show.patch ≡ before.show.patch

-- the same channels, and the same rows of the patch but for that of the dimmer
pub record SameOtherRows (e : ℕ) (before after : Kept) : Type 0 where
  pub channels : after.show.channels ≡ before.show.channels
  pub rows : (f : ℕ) → f ≢ e → entry_at (λ row. row.dimmer) f after.show.patch ≡ entry_at (λ row. row.dimmer) f before.show.patch

-- the same patch, and of each channel the same level and the same from the submasters, under the same master
pub record SameOutputs (before after : Kept) : Type 0 where
  pub rows : SamePatch before after
  pub levels : (k : ℕ) → k < before.show.channels → level_now after (k + 1) ≡ level_now before (k + 1)
  pub contributions : (k : ℕ) → k < before.show.channels
      → contribution after.show after.faders (k + 1) ≡ contribution before.show before.faders (k + 1)
  pub master : after.master ≡ before.master

-- no more changed than this
abbrev pub Changes : Change → Kept → Kept → Type 0
Changes Nothing before after = SameOutputs before after
Changes Levels before after = SamePatch before after
Changes (Row e) before after = SameOtherRows e before after

-- no more changed than levels, if those did
abbrev pub of_levels : Bool → Change
of_levels true = Levels
of_levels false = Nothing

abbrev pub is_nothing : Change → Bool
is_nothing Nothing = true
is_nothing Levels = false
is_nothing (Row e) = false
