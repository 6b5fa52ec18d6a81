-- What the calls of a desk come to, from what its handle held before to what it holds now.
use Rattle.std.specs.Prelude.{◌≡◌, ◌≢◌, ◌≤◌, ◌↔◌, ◌⊎◌, ℕ, ◌-◌, min, Bool, true, false, Option, Some, None, Result, Ok, Err, List, length}
use Rattle.std.specs.Prelude.{◌++◌, take, drop, IfSome, OnErr}
use Rattle.std.specs.Result.{IsErr}
use Rattle.lx_io.specs.Causes.{Rose}
use Rattle.lx_io.specs.declared.sink.SinkFault.{SinkFault}
use Rattle.lx_spec.specs.declared.Command.TheVariants as commands
use Rattle.lx_spec.specs.declared.Form.{Form}
use Rattle.lx_spec.specs.declared.Form.TheVariants.{Moves, States}
use Rattle.lx_spec.specs.declared.TextFault.{TextFault}
use Rattle.lx_spec.specs.Desk.{Desk, step}
use Rattle.lx_spec.specs.Output.{fader, frame}
use Rattle.lx_spec.specs.RecordedLevels.{on_stage}
use Rattle.lx_spec.specs.TrackedLevel.{tracked}
use Rattle.lx_reader.specs.declared.fault.ShowFault.TheVariants.{Text}
use Rattle.lx_console.specs.ConsoleMeaning.{StandsFor}
use Rattle.lx_embed.specs.declared.desk.HostDesk.{HostDesk}
use Rattle.lx_embed.specs.declared.state.PlaybackState.{PlaybackState}
use Rattle.lx_embed.specs.Answered.{Answered}
use Rattle.lx_session.specs.Spared.{ByMemory}
use Rattle.lx_embed.specs.Engines.{console_of}
use Rattle.lx_embed.specs.Opened.{HasFault, IsUntouched, OpensText}
use Rattle.lx_embed.specs.ReplyBytes.{reply_bytes, wants_of}
use Rattle.lx_embed.specs.TakenSlots.{taken_of}
use Rattle.lx_embed.specs.Told.{Stands, AcceptedTicks}
use Rattle.lx_host.specs.declared.status.PlaybackReport.{PlaybackReport}
use Rattle.lx_host.specs.declared.status.ShowReport.{ShowReport}
use Rattle.lx_host.specs.declared.status.TheConstants.{OK, CLOSED, OPEN, MEMORY, SHOW_REFUSED, TOO_LONG, OUT_OF_RANGE, QUIT, MORE}
use Rattle.lx_host.specs.Told.{show_report, playback_of}

abbrev pub form_of_flag : Bool → Form
form_of_flag true = States
form_of_flag false = Moves

-- the desk is open, stands for the one that is opened over the show of the text, and nothing was done with it yet
pub record OpensDesk (form : Form) (depth : Option ℕ) (text : List ℕ) (host : HostDesk) : Type 0 where
  pub opens : OpensText form depth text host.engine
  pub untouched : IsUntouched host

abbrev pub Opens : Form → Option ℕ → List ℕ → Option HostDesk → Type 0
Opens form depth text None = ⊥
Opens form depth text (Some host) = OpensDesk form depth text host

-- the statuses of an opening
abbrev pub IsOpening : ℕ → Type 0
IsOpening status = (status ≡ OK) ⊎ ((status ≡ OPEN) ⊎ ((status ≡ SHOW_REFUSED) ⊎ ((status ≡ TOO_LONG) ⊎ (status ≡ MEMORY))))

-- The report is set where a closed desk wasn't opened: to a fault with SHOW_REFUSED, and else to none.
pub record SetsReport (status : ℕ) (before now : ShowReport) : Type 0 where
  pub unset : (status ≡ OK) ⊎ (status ≡ OPEN) → now ≡ before
  pub none : (status ≡ TOO_LONG) ⊎ (status ≡ MEMORY) → now ≡ record { fault = 0; line = 0 }

-- the report is of the text's own fault, up to which its lines are within the limit
pub record Refused (form : Form) (text : List ℕ) (report : ShowReport) : Type 0 where
  pub fault : TextFault
  pub has : HasFault form text fault
  pub told : report ≡ show_report (Text fault)

-- how a status tells that a line was done, or couldn't be answered whole, or is `quit`: a reply that is longer than the room is told by MORE
abbrev pub answer_status : Result Bool SinkFault → Bool → ℕ
answer_status (Ok true) true = OK
answer_status (Ok true) false = MORE
answer_status (Ok false) fits = QUIT
answer_status (Err fault) fits = MEMORY

-- the room with the bytes in its front, as many as fit; behind them it is as it was
abbrev pub put_in_front : List ℕ → List ℕ → List ℕ
put_in_front bytes room = take (length room) bytes ++ drop (length bytes) room

-- The line was answered by every desk for which the engine stood, and as much of the reply as fits was put into the front of the room; all the
-- rest is as it was. Where the desk's heap refused nothing no edit was refused as out of memory, and MEMORY comes only where the heap of
-- the reply refused some.
pub record DidLine (status : ℕ) (before now : HostDesk) (line room room' : List ℕ) (count : ℕ) : Type 0 where
  pub answer : Result Bool SinkFault
  pub fits : Bool
  pub told : status ≡ answer_status answer fits
  pub whole : (fits ≡ true) ↔ (length (reply_bytes now.reply) ≤ length room)
  pub answers : ByMemory before.heap.refusals now.heap.refusals
      (λ ample. Answered ample before.engine now.engine line answer (reply_bytes now.reply))
  pub wanted : OnErr answer (Rose (wants_of before.reply) (wants_of now.reply))
  pub taken : now.taken ≡ before.taken
  pub length_told : count ≡ length (reply_bytes now.reply)
  pub put : room' ≡ put_in_front (reply_bytes now.reply) room

-- the line was done on an open desk
abbrev pub Did : ℕ → Option HostDesk → List ℕ → Option HostDesk → (room room' : List ℕ) → ℕ → Type 0
Did status (Some before) line (Some now) room room' count = DidLine status before now line room room' count
Did status (Some before) line None room room' count = ⊥
Did status None line held room room' count = ⊥

-- nothing is put into the room, and that is told
pub record HasNone (room room' : List ℕ) (count : ℕ) : Type 0 where
  pub same : room' ≡ room
  pub none : count ≡ 0

-- the bytes from a place on were put into the front of the room, as many as there are and fit: this many of them
pub record HasPart (bytes : List ℕ) (from : ℕ) (room room' : List ℕ) (count : ℕ) : Type 0 where
  pub is : count ≡ min (length bytes - from) (length room)
  pub put : room' ≡ put_in_front (drop from bytes) room

-- no further tick is accepted by a desk that the engine stands for
abbrev pub IsOver : Option HostDesk → Type 0
IsOver held = IfSome held (λ host. (d : Desk) → StandsFor d (console_of host.engine) → IsErr (step d commands.Tick))

-- this many ticks were accepted by every desk for which the engine stood, and all the rest is as it was
pub record HasTicked (before : HostDesk) (n : ℕ) (now : HostDesk) : Type 0 where
  pub ticks : AcceptedTicks before.engine n now.engine
  pub reply : now.reply ≡ before.reply
  pub taken : now.taken ≡ before.taken
  pub heap : now.heap ≡ before.heap

abbrev pub Ticks : Option HostDesk → ℕ → Option HostDesk → Type 0
Ticks (Some before) n (Some now) = HasTicked before n now
Ticks None n None = n ≡ 0
Ticks (Some before) n None = ⊥
Ticks None n (Some now) = ⊥

-- The bytes are the frame of the universe, of every desk for which the engine stands. They are taken; all the rest is as it was.
pub record HandsOutFrame (before : HostDesk) (u : ℕ) (bytes : List ℕ) (now : HostDesk) : Type 0 where
  pub frame : (d : Desk) → StandsFor d (console_of before.engine) → bytes ≡ frame d u
  pub taken : taken_of now.taken u ≡ Some bytes
  pub others : (v : ℕ) → 1 ≤ v → v ≢ u → taken_of now.taken v ≡ taken_of before.taken v
  pub engine : now.engine ≡ before.engine
  pub reply : now.reply ≡ before.reply
  pub heap : now.heap ≡ before.heap

abbrev pub ShowsFrame : Option HostDesk → ℕ → List ℕ → Option HostDesk → Type 0
ShowsFrame (Some before) u bytes (Some now) = HandsOutFrame before u bytes now
ShowsFrame held u bytes now = ⊥

-- the statuses of a call that asks for what there may be none of
abbrev pub TellsRange : ℕ → Type 0
TellsRange status = (status ≡ OK) ⊎ ((status ≡ OUT_OF_RANGE) ⊎ (status ≡ CLOSED))

-- whether the frame of the universe isn't the one that was taken last
abbrev pub TellsChange : Option HostDesk → ℕ → Bool → Type 0
TellsChange held u changed = IfSome held (λ host. (d : Desk) → StandsFor d (console_of host.engine)
    → (changed ≡ false) ↔ (taken_of host.taken u ≡ Some (frame d u)))

-- the level of the channel on stage
abbrev pub TellsLevel : Option HostDesk → ℕ → ℕ → Type 0
TellsLevel held c level = IfSome held (λ host. (d : Desk) → StandsFor d (console_of host.engine) → level ≡ on_stage d c)

-- it is open, and the show has a channel of the number
abbrev pub IsChannel : Option HostDesk → ℕ → Type 0
IsChannel None c = ⊥
IsChannel (Some host) c = (1 ≤ c) × (c ≤ (console_of host.engine).show.channels)

-- the tracked level of the channel at the cue number
abbrev pub TellsTracked : Option HostDesk → ℕ → ℕ → ℕ → Type 0
TellsTracked held cue c level = IfSome held (λ host. level ≡ tracked (console_of host.engine).show cue c)

-- the fader of the submaster
abbrev pub TellsFader : Option HostDesk → ℕ → ℕ → Type 0
TellsFader held sub level = IfSome held (λ host. level ≡ fader (console_of host.engine).faders sub)

-- where the playback stands
pub record IsToldAs (host : HostDesk) (playback : PlaybackReport) : Type 0 where
  pub state : PlaybackState
  pub stands : Stands (console_of host.engine) state
  pub told : playback ≡ playback_of state

abbrev pub TellsState : Option HostDesk → PlaybackReport → Type 0
TellsState held playback = IfSome held (λ host. IsToldAs host playback)
