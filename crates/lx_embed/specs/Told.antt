-- What a host is told of a desk.
use Rattle.std.specs.Prelude.{◌≡◌, ℕ, ◌+◌, nat_le, length, option_map, slice_get}
use Rattle.std.specs.List.{list_all}
use Rattle.std.specs.Result.{IsOkAnd}
use Rattle.lx_spec.specs.Kept.{Kept}
use Rattle.lx_spec.specs.Desk.{Desk}
use Rattle.lx_spec.specs.Run.{Run, extent}
use Rattle.lx_spec.specs.Playback.{position_of}
use Rattle.lx_spec.specs.TrackedLevel.{next_cue}
use Rattle.lx_spec.specs.Undo.{UndoState}
use Rattle.lx_console.specs.ConsoleMeaning.{StandsFor}
use Rattle.lx_console.specs.Ticks.{after_ticks}
use Rattle.lx_undo.specs.UndoDeskMeaning.{UndoStands}
use Rattle.lx_embed.specs.declared.engine.Engine.{Engine}
use Rattle.lx_embed.specs.declared.engine.Engine.TheVariants.{Plain, Undo}
use Rattle.lx_embed.specs.declared.state.PlaybackState.{PlaybackState}
use Rattle.lx_embed.specs.declared.state.RunSpan.{RunSpan}

-- when a run began, and from when on it is over
abbrev pub span_of : Run → RunSpan
span_of run = record { began = run.start; ends = run.start + extent run }

-- where the playback stands: every live run is over from over_at on
pub record Stands (console : Kept) (state : PlaybackState) : Type 0 where
  pub moment : state.moment ≡ console.playback.moment
  pub position : state.position ≡ position_of console.playback
  pub next : state.next ≡ next_cue console.show (position_of console.playback)
  pub live : state.live ≡ length console.playback.live
  pub over : (m : ℕ) → list_all (λ run. nat_le (run.start + extent run) m) console.playback.live ≡ nat_le state.over_at m
  pub newest : state.newest ≡ option_map span_of (slice_get console.playback.live 0)
  pub follow : state.follow_at ≡ console.playback.pending
  pub master : state.master ≡ console.master
  pub channels : state.channels ≡ console.show.channels
  pub cues : state.cues ≡ length console.show.cues

-- each desk for which the engine stood accepted this many ticks
abbrev pub AcceptedTicks : Engine → ℕ → Engine → Type 0
AcceptedTicks (Plain before) n (Plain now) = (d : Desk) → StandsFor d before → IsOkAnd (after_ticks n d) (λ next. StandsFor next now)
AcceptedTicks (Undo before) n (Undo now) = (s : UndoState) → UndoStands s before
    → IsOkAnd (after_ticks n s.desk) (λ next. UndoStands (record s { desk = next }) now)
AcceptedTicks (Plain before) n (Undo now) = ⊥
AcceptedTicks (Undo before) n (Plain now) = ⊥
