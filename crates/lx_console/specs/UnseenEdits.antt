-- What an edit of one cue leaves as it was, as far as the playback looks.
use Rattle.std.specs.Prelude.{◌≡◌, ℕ, ◌≤◌, ◌<◌, ◌⊎◌, None, Option, List, find, option_map}
use Rattle.std.specs.Option.{IsSomeAnd}
use Rattle.std.specs.List.{All}
use Rattle.lx_spec.specs.Show.{Cue, Show}
use Rattle.lx_spec.specs.TrackedLevel.{decides}
use Rattle.lx_spec.specs.EditedShow.{with_cue}
use Rattle.lx_spec.specs.Playback.{Playback}
use Rattle.lx_edit.specs.CueChanges.{IsPast}

-- the second show is the first with a cue of the number
pub record PlacesCue (before after : Show) (n : ℕ) : Type 0 where
  pub cue : Cue
  pub number : cue.number ≡ n
  pub least : 1 ≤ n
  pub after_is : after ≡ with_cue before cue

-- the number is below the placed cue, or past the next one that decides the channel
abbrev pub IsApart : Show → ℕ → ℕ → ℕ → Type 0
IsApart show n c m = (m < n) ⊎ ((n < m) × IsPast None show n c m)

-- so is each number at which the playback looks
pub record IsUnseen (show : Show) (p : Playback) (n c : ℕ) : Type 0 where
  pub base : IsApart show n c p.base
  pub runs : All (λ run. IsApart show n c run.cue) p.live

-- the number is below n, or from the first one on
abbrev pub IsFrom : Option ℕ → ℕ → ℕ → Type 0
IsFrom first n m = (m < n) ⊎ IsSomeAnd first (λ f. f ≤ m)

-- the first of the cues that decides the channel has at most this number
abbrev pub decided_at : List Cue → ℕ → ℕ → Type 0
decided_at cues first c = IsSomeAnd (option_map (λ cue. cue.number) (find (λ cue. decides cue c) cues)) (λ end. end ≤ first)
