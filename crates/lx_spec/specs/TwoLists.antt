-- Two cue lists that play beside each other: the greatest governs, under the first list's patch, faders and master.
use Rattle.std.specs.Prelude.{ℕ, Bool, true, false, max, nat_lt, nat_le, Option, Some, None, Result, Ok, List, [], ◌∷◌, length, map}
use Rattle.std.specs.Prelude.{filter, fold, bytes_eq, codes, if◌then◌else◌}
use Rattle.lx_base.specs.Numbers.{scaled}
use Rattle.lx_base.specs.declared.TheConstants.{LINE_BYTES, SECOND_LIST}
use Rattle.lx_spec.specs.declared.Command.{Command}
use Rattle.lx_spec.specs.declared.Command.TheVariants as commands
use Rattle.lx_spec.specs.declared.Edit.{Edit}
use Rattle.lx_spec.specs.declared.Edit.TheVariants.{SubMember, Patch, Unpatch}
use Rattle.lx_spec.specs.declared.Key.TheVariants.{Play, Fader, Master}
use Rattle.lx_spec.specs.declared.Line.{Line}
use Rattle.lx_spec.specs.declared.Line.TheVariants as lines
use Rattle.lx_spec.specs.declared.Refusal.{Refusal}
use Rattle.lx_spec.specs.FirstRefusal.{◌>>=◌}
use Rattle.lx_spec.specs.Show.{Show}
use Rattle.lx_spec.specs.Text.{tokens, rest_after}
use Rattle.lx_spec.specs.Script.{line_of}
use Rattle.lx_spec.specs.Desk.{Desk, opened, step, after_command}
use Rattle.lx_spec.specs.Output.{contribution, dimmer_value, dimmers_of}
use Rattle.lx_spec.specs.RecordedLevels.{on_stage}
use Rattle.lx_spec.specs.Replies.{frame_text}
use Rattle.lx_spec.specs.Session.{Session, Answering, with_text}
use Rattle.lx_spec.specs.DeskSession.{begun, tried, after_attempts, IsAcceptedEdit}

pub record TwoDesks : Type 0 where
  pub first : Desk
  pub second : Desk

-- the first list has the cues below a number, the second those from it on; all else stands in both
abbrev pub first_show : Show → Show
first_show show = record show { cues = filter (λ cue. nat_lt cue.number SECOND_LIST) show.cues }

abbrev pub second_show : Show → Show
second_show show = record show { cues = filter (λ cue. nat_le SECOND_LIST cue.number) show.cues }

abbrev pub opened_two : Show → TwoDesks
opened_two show = record { first = opened (first_show show); second = opened (second_show show) }

-- the output of a channel: the greatest of both playbacks and of the first list's submasters, under its master
abbrev pub out_of_two : TwoDesks → ℕ → ℕ
out_of_two s c = scaled (max (max (on_stage s.first c) (on_stage s.second c)) (contribution s.first.show s.first.faders c)) s.first.master

-- the slots of a universe, by the first list's patch
abbrev pub frame_of_two : TwoDesks → ℕ → List ℕ
frame_of_two s u = map (dimmer_value s.first.show.patch (out_of_two s)) (dimmers_of u)

-- the state after a command of one list, or its refusal
abbrev pub first_step : TwoDesks → Command → Result TwoDesks Refusal
first_step s command = do
  d ← step s.first command
  Ok (record s { first = d })

abbrev pub second_step : TwoDesks → Command → Result TwoDesks Refusal
second_step s command = do
  d ← step s.second command
  Ok (record s { second = d })

-- a tick is of both
abbrev pub tick_step : TwoDesks → Result TwoDesks Refusal
tick_step s = do
  first ← step s.first commands.Tick
  second ← step s.second commands.Tick
  Ok (record { first = first; second = second })

-- the second list takes edits but those of submasters and the patch
abbrev pub edits_second : Edit → Bool
edits_second (SubMember s range level) = false
edits_second (Patch e c level) = false
edits_second (Unpatch e) = false
edits_second other = true

-- and keys of the playback
abbrev pub commands_second : Command → Bool
commands_second (commands.Edit edit) = edits_second edit
commands_second (commands.Key (Play key)) = true
commands_second (commands.Key (Fader s level)) = false
commands_second (commands.Key (Master level)) = false
commands_second commands.Tick = false

-- a line for it is a command that it takes, `save` or `sheet`
abbrev pub is_of_second : Line → Bool
is_of_second (lines.Command command) = commands_second command
is_of_second (lines.Ticks k) = false
is_of_second (lines.Frame u) = false
is_of_second lines.Save = true
is_of_second (lines.SheetOf n) = true
is_of_second lines.Quit = false
is_of_second lines.Blank = false

abbrev pub where_of_second : Option Line → Option Line
where_of_second None = None
where_of_second (Some meaning) = if is_of_second meaning then Some meaning else None

-- what the line means whose rest, after the token 2, is for the second list
abbrev pub second_meaning : List ℕ → Option Line
second_meaning line = where_of_second (line_of (rest_after line 1))

abbrev pub leads_with_two : List (List ℕ) → Bool
leads_with_two [] = false
leads_with_two (first ∷ rest) = bytes_eq first (codes "2")

-- the line is for the second list
abbrev pub is_for_second : List ℕ → Bool
is_for_second line = if nat_lt LINE_BYTES (length line) then false else leads_with_two (tokens line)

abbrev pub is_tick : Command → Bool
is_tick (commands.Edit edit) = false
is_tick (commands.Key key) = false
is_tick commands.Tick = true

-- the session after a line of the second list
abbrev pub second_answer : Option ℕ → Session TwoDesks → Option Line → Session TwoDesks
second_answer failed s meaning =
    let t = tried failed (begun s.state.second) meaning in
    after_attempts s meaning t (record s.state { second = t.state.desk })

-- and after one of the first: a frame is that of both, and each tick that is accepted is the second list's too
abbrev pub first_answer : Option ℕ → Session TwoDesks → Option Line → Session TwoDesks
first_answer failed s (Some (lines.Frame u)) = with_text s (frame_text [] s.state.first.playback.moment u (frame_of_two s.state u))
first_answer failed s meaning =
    let t = tried failed (begun s.state.first) meaning in
    after_attempts s meaning t
    (record { first = t.state.desk; second = fold after_command s.state.second (filter is_tick t.state.accepted) })

-- the session after a line
abbrev pub two_answer : Option ℕ → Session TwoDesks → List ℕ → Session TwoDesks
two_answer failed s line =
    if is_for_second line then second_answer failed s (second_meaning line) else first_answer failed s (line_of line)

-- an attempt may fail at an edit that may take memory and that its list accepts, the second or the first
abbrev pub TwoMayFail : TwoDesks → List ℕ → Bool → Type 0
TwoMayFail s line true = IsAcceptedEdit s.second (second_meaning line)
TwoMayFail s line false = IsAcceptedEdit s.first (line_of line)

-- two lists answer the lines of a script
abbrev pub two_answering : Answering (List ℕ)
two_answering = record { State = TwoDesks; answer = two_answer; MayFail = λ s line. TwoMayFail s line (is_for_second line) }
