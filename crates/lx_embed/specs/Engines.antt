-- What an engine stands for.
use Rattle.std.specs.Prelude.{ℕ, Option, Some, None}
use Rattle.lx_spec.specs.Show.{Show}
use Rattle.lx_spec.specs.Kept.{Kept}
use Rattle.lx_spec.specs.Desk.{opened}
use Rattle.lx_spec.specs.Undo.{opened_with}
use Rattle.lx_console.specs.ConsoleMeaning.{StandsFor}
use Rattle.lx_undo.specs.UndoDeskMeaning.{UndoStands}
use Rattle.lx_embed.specs.declared.engine.Engine.{Engine}
use Rattle.lx_embed.specs.declared.engine.Engine.TheVariants.{Plain, Undo}

-- what is kept of its desk
abbrev pub console_of : Engine → Kept
console_of (Plain console) = console
console_of (Undo desk) = desk.console

-- it stands for the desk that is opened over the show: a plain one, or one that keeps this many shows
abbrev pub OpenedAs : Option ℕ → Show → Engine → Type 0
OpenedAs None show (Plain console) = StandsFor (opened show) console
OpenedAs (Some depth) show (Undo desk) = UndoStands (opened_with show depth) desk
OpenedAs None show (Undo desk) = ⊥
OpenedAs (Some depth) show (Plain console) = ⊥
