-- Sinks that are moved out of their places, and back.
use Rattle.std.specs.Prelude.{◌≡◌, ℕ, ◌+◌, ◌-◌, ◌<◌, List, [], ◌∷◌, Some, slice_get, IsSome}
use Rattle.std.specs.declared.option.Option.{Option}
use Rattle.lx_io.specs.declared.sink.SinkFault.{SinkFault}
use Rattle.lx_io.specs.Told.{ToldBySink}
use Rattle.lx_spec.specs.declared.Command.{Command}
use Rattle.lx_spec.specs.Show.{Show}
use Rattle.lx_gate.specs.Readings.{Tapped}
use Rattle.lx_workers.specs.declared.worker.Served.{Served}
use Rattle.lx_workers.specs.Works.{HasServed, Delivered}

-- each place has a sink
abbrev pub IsFull : {K : Type 0} → List (Option K) → Type 0
IsFull [] = Unit {0}
IsFull (outlet ∷ outlets) = IsSome outlet × IsFull outlets

-- a lane's tap and sink: the last place comes first
pub record IsTaken {K : Type 0} (outlets : List (Option K)) (count k : ℕ) (tap : Tapped) (sink : K) : Type 0 where
  pub universe_is : tap.universe + k ≡ count
  pub low : 0 < tap.universe
  pub place : slice_get outlets (tap.universe - 1) ≡ Some (Some sink)

-- a lane's sink is back in its place, and it was told all that is published
pub record IsGiven {K : Type 0} (told : ToldBySink K) (show : Show) (outlets : List (Option K))
    (results : List (Option SinkFault)) (published : List Command)
    (place : ℕ) (tap : Tapped) (sink : K) (served : Served) : Type 0 where
  pub new : K
  pub fault : Option SinkFault
  pub place_is : slice_get outlets place ≡ Some (Some new)
  pub fault_is : slice_get results place ≡ Some fault
  pub delivered : (start : Tapped) (from : K) → HasServed told show start tap from sink served
      → Delivered told show start.universe from new published fault

-- a sink is back in its place, with what it was to get
pub record OutletIsBack {K : Type 0} (told : ToldBySink K) (show : Show) (outlets : List (Option K))
    (results : List (Option SinkFault)) (published : List Command)
    (place : ℕ) (start : K) : Type 0 where
  pub new : K
  pub fault : Option SinkFault
  pub place_is : slice_get outlets place ≡ Some (Some new)
  pub fault_is : slice_get results place ≡ Some fault
  pub delivered : Delivered told show (place + 1) start new published fault
