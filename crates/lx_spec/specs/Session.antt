-- A session: lines are answered one after another, each from where those before it led. Whatever answers them is an instance: a desk, a
-- desk with a history, two desks, and a desk that several operators share.
use Rattle.std.specs.Prelude.{ℕ, ◌+◌, Bool, true, false, Option, Some, None, IfSome, List, [], ◌∷◌, ◌++◌, take}
use Rattle.std.specs.List.{before_first, position_or_len}
use Rattle.lx_spec.specs.declared.Line.{Line}
use Rattle.lx_spec.specs.declared.Line.TheVariants as lines
use Rattle.lx_spec.specs.Text.{lines_of}
use Rattle.lx_spec.specs.CutInput.{first_lines}
use Rattle.lx_spec.specs.Script.{line_of}
use Rattle.lx_spec.specs.Replies.{ok_text, bad_text}

-- how many replies there were of each kind
pub record Counts : Type 0 where
  pub ok : ℕ
  pub refused : ℕ
  pub bad : ℕ

-- as far as a session has come: the state that it stands at, the replies and their counts
pub record Session (S : Type 0) : Type 0 where
  pub state : S
  pub text : List ℕ
  pub counts : Counts

-- the session that begins at a state
abbrev pub begin_at : {S : Type 0} → S → Session S
begin_at state = record { state = state; text = []; counts = record { ok = 0; refused = 0; bad = 0 } }

abbrev pub with_text : {S : Type 0} → Session S → List ℕ → Session S
with_text s text = record s { text = s.text ++ text }

-- a reply, counted by its kind; a refusal comes with its text
abbrev pub ok_reply : {S : Type 0} → Session S → Session S
ok_reply s = record (with_text s ok_text) { counts = record s.counts { ok = s.counts.ok + 1 } }

abbrev pub refused_reply : {S : Type 0} → Session S → List ℕ → Session S
refused_reply s text = record (with_text s text) { counts = record s.counts { refused = s.counts.refused + 1 } }

abbrev pub bad_reply : {S : Type 0} → Session S → Session S
bad_reply s = record (with_text s bad_text) { counts = record s.counts { bad = s.counts.bad + 1 } }

-- How lines are answered: the states; the session after a line, of whose attempts this one failed, counted from 0, if one did, since memory
-- was short; and at which lines an attempt may fail. After the attempt that fails a line makes no more.
pub record Answering (A : Type 0) : Type 1 where
  pub State : Type 0
  pub answer : Option ℕ → Session State → A → Session State
  pub MayFail : State → A → Type 0

-- The session after lines. Of each it is told which attempt failed, if one did; of those past the last that is told none did.
abbrev pub after_each : {A : Type 0} → (by : Answering A) → List (Option ℕ) → Session by.State → List A → Session by.State
after_each by failures s [] = s
after_each by [] s (line ∷ rest) = after_each by [] (by.answer None s line) rest
after_each by (failed ∷ failures) s (line ∷ rest) = after_each by failures (by.answer failed s line) rest

-- attempts failed only at lines at which one may
abbrev pub AreAllowed : {A : Type 0} → (by : Answering A) → List (Option ℕ) → Session by.State → List A → Type 0
AreAllowed by [] s rest = Unit {0}
AreAllowed by (failed ∷ failures) s [] = Unit {0}
AreAllowed by (failed ∷ failures) s (line ∷ rest) =
    IfSome failed (λ attempt. by.MayFail s.state line) × AreAllowed by failures (by.answer failed s line) rest

abbrev pub is_quit : Option Line → Bool
is_quit None = false
is_quit (Some lines.Quit) = true
is_quit (Some other) = false

-- the line ends the script
abbrev pub ends_script : List ℕ → Bool
ends_script line = is_quit (line_of line)

-- the lines of a script that are answered: those before the one that ends it
abbrev pub answered_lines : List (List ℕ) → List (List ℕ)
answered_lines script = before_first ends_script script

-- the session of a whole script, from a state on
abbrev pub whole_session : (by : Answering (List ℕ)) → by.State → List (List ℕ) → List (Option ℕ) → Session by.State
whole_session by state script failures = after_each by failures (begin_at state) (answered_lines script)

-- the session of its first n lines
abbrev pub session_after : (by : Answering (List ℕ)) → by.State → List (List ℕ) → List (Option ℕ) → ℕ → Session by.State
session_after by state script failures done = after_each by failures (begin_at state) (take done (answered_lines script))

-- and in the session of a script attempts failed only where they may
abbrev pub Allows : (by : Answering (List ℕ)) → by.State → List (List ℕ) → List (Option ℕ) → Type 0
Allows by state script failures = AreAllowed by failures (begin_at state) (answered_lines script)

-- how many lines a script wants to be read: those up to the one that ends it, or one more than there are
abbrev pub lines_wanted : List (List ℕ) → ℕ
lines_wanted script = position_or_len ends_script script + 1

-- the bytes that a script wants to be read
abbrev pub bytes_wanted : List ℕ → List ℕ
bytes_wanted bytes = first_lines (lines_wanted (lines_of bytes)) bytes
