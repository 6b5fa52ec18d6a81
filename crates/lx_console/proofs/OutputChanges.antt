-- What commands change of what goes out.
use Rattle.lx_console.proofs.Imports.{◌≡◌, ℕ, ◌+◌, ◌<◌, refl, Bool, true, false, Some, List, ap, sym, ◌∙◌, arith, Show, Sub}
use Rattle.lx_console.proofs.Imports.{contribution, Playback, Kept, Plan, IsReady, planned, dimmer_planned, plans_sub, KeptLevels as Levels, level_at}
use Rattle.lx_console.proofs.Imports.{LevelsStandFor, kept_level, Change, SamePatch, Changes, of_levels, IsChangeOf}
use Rattle.lx_edit.specs.declared.dirty.Dirty.{Dirty}
use Rattle.lx_console.specs.declared.player.Player.TheInside.{Inside}
use Rattle.lx_console.specs.declared.change.Change.TheVariants as changes
use Rattle.lx_console.proofs.EditEffects.{same_channels, same_subs, same_patch, other_rows}

-- what is in a player, as what is kept of a desk
abbrev pub kept_in : Inside → Kept
kept_in player = record { show = player.show; playback = player.playback; faders = player.rack.faders; master = player.master }

-- the same show has the same channels and rows
pub same_show : (before after : Kept) → after.show ≡ before.show → SamePatch before after
same_show before after same = record {
  channels = ap (λ (s : Show). s.channels) same;
  patch = ap (λ (s : Show). s.patch) same;
}

-- a playback that moved on, and whether a level changed
pub played_changes : (k : Kept) (p : Playback) (before after : Levels) (changed : Bool) → LevelsStandFor k.show k.playback before
    → LevelsStandFor k.show p after → (changed ≡ false → (i : ℕ) → i < k.show.channels → level_at after i ≡ level_at before i)
    → Changes (of_levels changed) k (record k { playback = p })
played_changes k p before after true old new same = record { channels = refl; patch = refl }
played_changes k p before after false old new same = record {
  rows = record { channels = refl; patch = refl };
  levels = λ i within. sym (kept_level k.show p after i new within) ∙ same refl i within ∙ kept_level k.show k.playback before i old within;
  contributions = λ i within. refl;
  master = refl;
}

-- a plan, by what it touched and whether levels changed by it
pub planned_changes : (k : Kept) (plan : Plan) (dirty : Dirty) (old new : Levels) (leveled : Bool) (change : Change) → IsReady k.show plan
    → LevelsStandFor k.show k.playback old → LevelsStandFor (planned k.show plan) k.playback new → (leveled ≡ false → new ≡ old)
    → dirty.dimmer ≡ dimmer_planned plan → dirty.subs ≡ plans_sub plan → IsChangeOf dirty leveled change
    → Changes change k (record k { show = planned k.show plan })
planned_changes k plan dirty old new leveled changes.Nothing ready stood stands same dimmer subs none = record {
  rows = record { channels = same_channels k.show plan; patch = same_patch k.show plan (sym dimmer ∙ none.dimmer) };
  levels = λ i within.
      sym (kept_level (planned k.show plan) k.playback new i stands (omega (arith, same_channels k.show plan, within)))
      ∙ ap (λ (l : Levels). level_at l i) (same none.levels) ∙ kept_level k.show k.playback old i stood within;
  contributions = λ i within. ap (λ (s : List Sub). contribution (record k.show { subs = s }) k.faders (i + 1))
      (same_subs k.show plan (sym subs ∙ none.subs));
  master = refl;
}
planned_changes k plan dirty old new leveled changes.Levels ready stood stands same dimmer subs none = record {
  channels = same_channels k.show plan;
  patch = same_patch k.show plan (sym dimmer ∙ none);
}
planned_changes k plan dirty old new leveled (changes.Row e) ready stood stands same dimmer subs names = record {
  channels = same_channels k.show plan;
  rows = λ f other. other_rows k.show plan f ready (λ same. other (same_dimmer f e (sym same ∙ sym dimmer ∙ names)));
} where
  same_dimmer : (f e : ℕ) → Some f ≡ Some e → f ≡ e
  same_dimmer f e same = cc
