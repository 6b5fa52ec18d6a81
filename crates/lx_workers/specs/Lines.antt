-- The lines of an outlet.
use Rattle.std.specs.Prelude.{◌≡◌, ℕ, ◌≤◌, ◌⊎◌, List, [], ◌∷◌, length, decimal, min, ◌-◌, ◌^◌, Some, None, Err}
use Rattle.std.specs.declared.option.Option.{Option}
use Rattle.std.specs.Io.KnownBytes.{Appends}
use Rattle.lx_io.specs.declared.sink.SinkFault.{SinkFault}
use Rattle.lx_io.specs.declared.sink.SinkFault.TheVariants.{Failed, Memory}
use Rattle.lx_io.specs.Causes.{Rose}
use Rattle.lx_io.specs.Puts.{AppendsFront, Puts}
use Rattle.lx_io.specs.Told.{ToldBySink}
use Rattle.lx_spec.specs.declared.Command.{Command}
use Rattle.lx_spec.specs.Show.{Show}
use Rattle.lx_spec.specs.Replies.{frame_text}
use Rattle.lx_spec.specs.Versions.{outlet_text, version_text, Falling}
use Rattle.lx_gate.specs.declared.stamp.Stamp.{Stamp}

-- the line of these slots under this stamp
unfoldable pub stamped_line : ℕ → List ℕ → Stamp → List ℕ
stamped_line universe slots stamp = frame_text (decimal stamp.count ∷ []) stamp.moment universe slots

-- the number of commands of the newest list
abbrev pub newest_count : List (List Command) → Option ℕ
newest_count [] = None
newest_count (list ∷ lists) = Some (length list)

-- the lines of rising lists were appended, all prefixes of one list
pub record HasWritten (show : Show) (universe : ℕ) (before after : Option (List ℕ)) (top : List Command) (taken : ℕ) (last : Option ℕ)
    : Type 0 where
  pub lists : List (List Command)
  pub text : Appends before after (outlet_text show universe lists)
  pub chain : Falling top lists
  pub taken_is : taken ≡ min (length lists) (2 ^ 64 - 1)
  pub last_is : last ≡ newest_count lists

-- The lines of rising lists were appended, and then a part of one more, in which the sink answered the fault; nothing came after that. Up to
-- that line the sink had no fault, and it had handed on the lines before.
pub record HasWrittenPart {K : Type 0} (told : ToldBySink K) (show : Show) (universe : ℕ)
    (sink sink' : K) (top : List Command) (fault : SinkFault) : Type 0 where
  pub newest : List Command
  pub earlier : List (List Command)
  pub chain : Falling top (newest ∷ earlier)
  pub text : AppendsFront (told.holds sink) (told.holds sink') (outlet_text show universe (newest ∷ earlier))
  pub last : K
  pub whole : Appends (told.holds sink) (told.holds last) (outlet_text show universe earlier)
  pub unfailed : (told.faults last ≡ told.faults sink) × (told.wants last ≡ told.wants sink)
  pub handed : (earlier ≡ []) ⊎ (told.back last ≡ [])
  pub stopped : Puts {T = Unit {0}} told last sink' (Err fault) (version_text show universe newest)

-- neither count of a sink has fallen, a fault comes only where its own count rose, and without one both stand as they were
pub record HasFault {S : Type 0} (told : ToldBySink S) (old new : S) (fault : Option SinkFault) : Type 0 where
  pub later : told.faults old ≤ told.faults new
  pub wants_later : told.wants old ≤ told.wants new
  pub failed : fault ≡ Some Failed → Rose (told.faults old) (told.faults new)
  pub memory : fault ≡ Some Memory → Rose (told.wants old) (told.wants new)
  pub kept : fault ≡ None → (told.faults new ≡ told.faults old) × (told.wants new ≡ told.wants old)
