-- The version of a list of commands, in the slots of all universes and in those of one.
use Rattle.std.specs.Prelude.{◌≡◌, ℕ, ◌≤◌, List, length}
use Rattle.lx_base.specs.declared.TheConstants.{UNIVERSES}
use Rattle.lx_spec.specs.declared.Command.{Command}
use Rattle.lx_spec.specs.Show.{Show}
use Rattle.lx_spec.specs.Versions.{version}
use Rattle.lx_gate.specs.declared.stamp.Stamp.{Stamp}
use Rattle.lx_console.specs.Slots.{universe as universe_in}

-- the slots of a universe after the commands
unfoldable pub frame_after : Show → List Command → ℕ → List ℕ
frame_after show list u = (version show list u).slots

-- the moment after the commands, which is the same in every universe
unfoldable pub moment_after : Show → List Command → ℕ
moment_after show list = (version show list 1).moment

-- these are the slots of all universes after the commands
unfoldable pub AreFramesOf : Show → List Command → List ℕ → Type 0
AreFramesOf show list slots = (u : ℕ) → 1 ≤ u → u ≤ UNIVERSES → universe_in u slots ≡ frame_after show list u

-- these slots of all universes, this count and this moment are the version of the commands
pub record IsVersion (show : Show) (list : List Command) (slots : List ℕ) (count moment : ℕ) : Type 0 where
  pub slots_are : AreFramesOf show list slots
  pub count_is : count ≡ length list
  pub moment_is : moment ≡ moment_after show list

-- these slots of one universe and this stamp are the version of the commands
pub record IsFrame (show : Show) (list : List Command) (universe : ℕ) (slots : List ℕ) (stamp : Stamp) : Type 0 where
  pub slots_are : slots ≡ frame_after show list universe
  pub count_is : stamp.count ≡ length list
  pub moment_is : stamp.moment ≡ moment_after show list
