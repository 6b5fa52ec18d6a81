-- What a gate keeps between two calls.
use Rattle.std.specs.Prelude.{◌≡◌, ℕ, List, [], ◌++◌, IsSomeAnd}
use Rattle.std.specs.declared.option.Option.{Option}
use mathlib.Core.List.{IsPrefix}
use Rattle.lx_spec.specs.Show.{Show}
use Rattle.lx_spec.specs.declared.Command.{Command}
use Rattle.lx_gate.specs.Frames.{IsVersion}

-- the commands that a gate has published, and those that stand in its history
pub record Published : Type 0 where
  pub published : List Command
  pub entered : List Command

-- taps are shown the version of the list, and nothing else is on its way
pub record IsAtRest {A : Type 0} (show : Show) (list shown : List Command) (slots : List ℕ) (count moment : ℕ) (pending : List A)
    : Type 0 where
  pub list_is : shown ≡ list
  pub version : IsVersion show shown slots count moment
  pub none : pending ≡ []

-- the history has what is published and perhaps some of the unsent commands, those of publishes that failed
pub record IsEntered (gate : Published) (unsent : List Command) : Type 0 where
  pub begins : IsPrefix gate.published gate.entered
  pub rest : IsPrefix gate.entered (gate.published ++ unsent)

-- what a writer rested on before it rests on now
abbrev pub StillRests : {W : Type 0} → (W → Show → List Command → Type 0) → Show → Option W → Option W → Type 0
StillRests rests show old new =
    (list : List Command) → IsSomeAnd old (λ w. rests w show list) → IsSomeAnd new (λ w. rests w show list)

-- all unsent commands are published, and none is left unsent
abbrev pub HasSent : Published → List Command → Published → List Command → Type 0
HasSent gate unsent gate' unsent' = (gate'.published ≡ gate.published ++ unsent) × (unsent' ≡ [])

-- no command was published, and all unsent ones still are
abbrev pub HasSentNone : Published → List Command → Published → List Command → Type 0
HasSentNone gate unsent gate' unsent' = (gate'.published ≡ gate.published) × (unsent' ≡ unsent)
