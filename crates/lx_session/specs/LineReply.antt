-- The reply to a line whose attempts are over, and how replies are counted.
use Rattle.std.specs.Prelude.{ℕ, ◌+◌, ◌-◌, ◌<◌, ◌≤◌, ◌^◌, Option, Some, None, List, []}
use Rattle.lx_spec.specs.declared.Line.{Line}
use Rattle.lx_spec.specs.declared.Refusal.{Refusal}
use Rattle.lx_spec.specs.Desk.{Desk}
use Rattle.lx_spec.specs.Session.{Counts, Session}
use Rattle.lx_spec.specs.DeskSession.{with_reply}
use Rattle.lx_script.specs.declared.reply.Reply.{Reply}
use Rattle.lx_script.specs.declared.reply.Reply.TheVariants as replies
use Rattle.lx_session.specs.declared.tally.Tally.{Tally}

-- a session of no state, for its text and counts
abbrev pub stateless : Counts → Session (Unit {0})
stateless counts = record { state = tt; text = []; counts = counts }

-- the text of the reply to a line of this meaning, whose attempts led to this desk
abbrev pub reply_to : Desk → Option Line → Option Refusal → List ℕ
reply_to d meaning refusal = (with_reply (stateless (record { ok = 0; refused = 0; bad = 0 })) meaning d refusal).text

-- the counts after it
abbrev pub counts_after : Desk → Counts → Option Line → Option Refusal → Counts
counts_after d counts meaning refusal = (with_reply (stateless counts) meaning d refusal).counts

-- the reply to what was accepted or refused
abbrev pub reply_for : Option Refusal → Reply
reply_for None = replies.Ok
reply_for (Some refusal) = replies.Refused refusal

abbrev pub counted : Reply → Counts → Counts
counted replies.Ok counts = record counts { ok = counts.ok + 1 }
counted replies.Bad counts = record counts { bad = counts.bad + 1 }
counted (replies.Refused refusal) counts = record counts { refused = counts.refused + 1 }

abbrev pub counts_in : Tally → Counts
counts_in tally = record { ok = tally.ok; refused = tally.refused; bad = tally.bad }

-- one more of each can be counted
pub record TallyHasRoom (tally : Tally) : Type 0 where
  pub ok : tally.ok < 2 ^ 64 - 1
  pub refused : tally.refused < 2 ^ 64 - 1
  pub bad : tally.bad < 2 ^ 64 - 1

-- none is above a number
pub record IsUpTo (n : ℕ) (tally : Tally) : Type 0 where
  pub ok : tally.ok ≤ n
  pub refused : tally.refused ≤ n
  pub bad : tally.bad ≤ n

-- at most one more of each was counted
pub record HasOneMore (old new : Tally) : Type 0 where
  pub ok : new.ok ≤ old.ok + 1
  pub refused : new.refused ≤ old.refused + 1
  pub bad : new.bad ≤ old.bad + 1
