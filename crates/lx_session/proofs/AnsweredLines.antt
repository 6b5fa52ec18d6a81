-- A line that was attempted and replied to was answered.
use Rattle.lx_session.proofs.Imports.{◌≡◌, ◌≤◌, IsOk, IfSome, ℕ, Bool, true, false, Option, Some, None, Result, OnOk, List, [], ◌++◌}
use Rattle.lx_session.proofs.Imports.{refl, sym, ap, ◌∙◌, subst, arith, is_some, SinkFault, Puts, Command, Line, Refusal, Desk, step, may_lack_memory}
use Rattle.lx_session.proofs.Imports.{Kept, Session, Counts, DeskState, Attempt, command_of, count_of, tried, after_attempts}
use Rattle.lx_session.proofs.Imports.{IsAcceptedEdit, MayFailAt, StandsFor, Tally, LineState, next_of, unattempted, LineProgress}
use Rattle.lx_session.proofs.Imports.{CommandHasFailed, resumed, reply_to, reply_for, counts_after, counts_in, counted as counted_in, ListenedAttempt, heard_of}
use Rattle.lx_session.proofs.Imports.{after_commands, SparedAnswer, ToldBySink, ◌≢◌, Puts-is, Memory, Answering, OneAnswer, spared}
use Rattle.lx_spec.specs.declared.Command.TheVariants as commands
use Rattle.lx_spec.specs.declared.Line.TheVariants as lines
use Rattle.lx_script.specs.declared.reply.Reply.{Reply}
use Rattle.lx_script.specs.ReplyTexts.{reply_text}
use Rattle.std.proofs.lemmas.Result.{on_ok_weaker}
use Rattle.lx_session.proofs.AttemptSteps.{attempted, nothing_yet}
use Rattle.lx_session.proofs.Replies.{on_ok}
use Rattle.lx_session.proofs.RepliedLines.{IsReplied, over, finished}
use Rattle.lx_session.proofs.Stood.{spares}

-- a command whose attempt failed is an edit, and so the one command of its line
edit_of_line : {d : Desk} (meaning : Option Line) (w : CommandHasFailed d (command_of meaning)) → meaning ≡ Some (lines.Command w.wanted)
edit_of_line (Some (lines.Command c)) w =
    let is = w.is in
    let command : w.wanted ≡ c = cc in ap (λ v. Some (lines.Command v)) (sym command)
edit_of_line (Some (lines.Ticks k)) w =
    let is = w.is in
    let tick : w.wanted ≡ commands.Tick = cc in
    let none : may_lack_memory commands.Tick ≡ true = ap may_lack_memory (sym tick) ∙ w.takes_some in cc
edit_of_line other w = let is = w.is in cc

-- at such a line it may
pub allowed_some : (failed : Option ℕ) (P : Type 0) → (is_some failed ≡ true → P) → IfSome failed (λ attempt. P)
allowed_some None P may = tt
allowed_some (Some k) P may = may refl

may_fail : (all : Bool) (d : Desk) (meaning : Option Line) → (all ≡ true → IsAcceptedEdit d meaning) → MayFailAt all d meaning
may_fail true d meaning edit = edit refl
may_fail false d meaning edit = tt

-- an attempt that didn't end in Memory didn't fail
unfailed : (failed : Option ℕ) (refusal : Option Refusal) → (is_some failed ≡ true → refusal ≡ Some Memory) → refusal ≢ Some Memory
    → failed ≡ None
unfailed None refusal memory other = refl
unfailed (Some k) refusal memory other = absurd (other (memory refl))

-- A line was attempted at a desk, in a session of any kind that had counted so, and replied to. Where memory was ample no attempt failed.
pub record TurnAnswer {K T : Type 0} (Ample : Type 0) (all : Bool) (heard : List Command → Type 0) (told : ToldBySink K)
    (sink sink' : K) (result : Result T SinkFault) (counted : Counts) (start : DeskState) (meaning : Option Line) (console : Kept)
    (tally : Tally) : Type 0 where
  pub failed : Option ℕ
  pub now : DeskState
  pub refusal : Option Refusal
  pub is : tried failed start meaning ≡ record { state = now; refusal = refusal }
  pub at_edit : is_some failed ≡ true → all ≡ true → IsAcceptedEdit start.desk meaning
  pub none : Ample → failed ≡ None
  pub commands : List Command
  pub accepted : now.accepted ≡ start.accepted ++ commands
  pub desk : now.desk ≡ after_commands start.desk commands
  pub listened : heard commands
  pub stands : StandsFor now.desk console
  pub puts : Puts told sink sink' result (reply_to now.desk meaning refusal)
  pub counts : OnOk result (counts_after now.desk counted meaning refusal ≡ counts_in tally)

-- The session with the reply: its state, text and counts.
pub with_reply_is : {S Q : Type 0} (s : Session S) (meaning : Option Line) (t : Attempt) (state : Q)
    → IsReplied (record { state = state; text = s.text; counts = s.counts }) meaning t.state.desk t.refusal (after_attempts s meaning t state)
with_reply_is s meaning t state = finished (record { state = state; text = s.text; counts = s.counts }) meaning t.state.desk t.refusal

module _ {K T Ample : Type 0} {all : Bool} {heard : List Command → Type 0} {told : ToldBySink K} {sink sink' : K} {result : Result T SinkFault}
    {meaning : Option Line} {turn : LineState} {console : Kept} {before after : Tally} where
  -- where all attempts were made, and the reply put and counted
  pub turn_answered : {own : Counts} {start : DeskState} → (Ample → turn.refusal ≢ Some Memory)
      → LineProgress all heard start (unattempted meaning) turn console → next_of turn ≡ None → own ≡ counts_in before
      → ((d : Desk) → StandsFor d console → Puts told sink sink' result (reply_to d turn.meaning turn.refusal))
      → ((d : Desk) → StandsFor d console → OnOk result (counts_in after ≡ counts_after d (counts_in before) turn.meaning turn.refusal))
      → TurnAnswer Ample all heard told sink sink' result own start meaning console after
  turn_answered {own} {start} other t done counted puts counts = record {
    failed = t.at None;
    now = t.now;
    refusal = turn.refusal;
    is = t.by None ∙ ap (λ m. resumed None (command_of m) turn.left turn.refusal t.now) (sym t.meaning) ∙ over turn t.now done;
    at_edit = λ is every.
        let w = t.at_edit is every in
        let edit = edit_of_line meaning w in
        let one : count_of meaning ≤ 1 = subst (λ (m : Option Line). count_of m ≤ 1) (sym edit) (omega arith) in
        record {
          command = w.wanted;
          means = edit;
          takes_some = w.takes_some;
          accepted = subst (λ v. IsOk (step v w.wanted)) (t.still one (ap is_some (t.by_memory is))) w.accepted;
        };
    none = λ ample. unfailed (t.at None) turn.refusal t.by_memory (other ample);
    commands = t.commands;
    accepted = t.accepted;
    desk = t.desk;
    listened = t.listened;
    stands = t.stands;
    puts = subst (λ m. Puts told sink sink' result (reply_to t.now.desk m turn.refusal)) t.meaning (puts t.now.desk t.stands);
    counts = on_ok_weaker result (λ (e : counts_in after ≡ counts_after t.now.desk (counts_in before) turn.meaning turn.refusal).
        rw (counted, ← t.meaning) (sym e)) (counts t.now.desk t.stands);
  }

  -- the same, of a line of the desk's own session
  pub answered : {s : Session DeskState} → (Ample → turn.refusal ≢ Some Memory)
      → LineProgress all heard s.state (unattempted meaning) turn console → next_of turn ≡ None → s.counts ≡ counts_in before
      → ((d : Desk) → StandsFor d console → Puts told sink sink' result (reply_to d turn.meaning turn.refusal))
      → ((d : Desk) → StandsFor d console → OnOk result (counts_in after ≡ counts_after d (counts_in before) turn.meaning turn.refusal))
      → SparedAnswer Ample all heard told sink sink' result s meaning console after
  answered {s} other t done counted puts counts =
      let a = turn_answered other t done counted puts counts in
      let now : Attempt = record { state = a.now; refusal = a.refusal } in
      let r = with_reply_is s meaning now a.now in
      record {
        answer = record {
          next = after_attempts s meaning now a.now;
          failed = a.failed;
          goes_on = record {
            is = ap (λ (v : Attempt). after_attempts s meaning v v.state) a.is;
            allowed = allowed_some a.failed (MayFailAt all s.state.desk meaning) (λ is. may_fail all s.state.desk meaning (a.at_edit is));
            commands = a.commands;
            accepted = ap (λ (v : DeskState). v.accepted) r.state ∙ a.accepted;
            desk = ap (λ (v : DeskState). v.desk) r.state ∙ a.desk;
            listened = a.listened;
          };
          stands = subst (λ (v : DeskState). StandsFor v.desk console) (sym r.state) a.stands;
          reply = reply_to a.now.desk meaning a.refusal;
          text = r.text;
          puts = a.puts;
          counts = on_ok_weaker result (λ (e : counts_after a.now.desk s.counts meaning a.refusal ≡ counts_in after). r.counts ∙ e) a.counts;
        };
        none = a.none;
      }

-- The same, of a line of any session: its answer is that of the attempts, which lead to a state by `after`.
pub line_answered : (by : Answering (List ℕ)) (ample : Bool) {K T : Type 0} {heard : List Command → Type 0} {told : ToldBySink K} {sink sink' : K}
    {result : Result T SinkFault} {s : Session by.State} {line : List ℕ} {start : DeskState} {meaning : Option Line} {console : Kept}
    {tally : Tally} (Stands : by.State → Type 0) (after : DeskState → by.State)
    (a : TurnAnswer (ample ≡ true) true heard told sink sink' result s.counts start meaning console tally)
    → by.answer a.failed s line ≡ (let t = tried a.failed start meaning in after_attempts s meaning t (after t.state))
    → (IsAcceptedEdit start.desk meaning → by.MayFail s.state line) → Stands (after a.now)
    → OneAnswer (spared ample by) told sink sink' result s line Stands tally
line_answered by ample {result} {s} {line} {meaning} {tally} Stands after a is may stands =
    let now : Attempt = record { state = a.now; refusal = a.refusal } in
    let r = with_reply_is s meaning now (after a.now) in
    record {
      next = after_attempts s meaning now (after a.now);
      failed = a.failed;
      goes_on = record {
        is = is ∙ ap (λ (v : Attempt). after_attempts s meaning v (after v.state)) a.is;
        allowed = spares ample a.failed (by.MayFail s.state line) a.none
            (allowed_some a.failed (by.MayFail s.state line) (λ failed. may (a.at_edit failed refl)));
      };
      stands = subst Stands (sym r.state) stands;
      reply = reply_to a.now.desk meaning a.refusal;
      text = r.text;
      puts = a.puts;
      counts = on_ok_weaker result (λ (e : counts_after a.now.desk s.counts meaning a.refusal ≡ counts_in tally). r.counts ∙ e) a.counts;
    }

-- the reply to one command, and what it counts; none is left
one_is : (d : Desk) (counts : Counts) (command : Command) (refusal : Option Refusal)
    → (reply_text (reply_for refusal) ≡ reply_to d (Some (lines.Command command)) refusal)
    × (counted_in (reply_for refusal) counts ≡ counts_after d counts (Some (lines.Command command)) refusal)
    × (next_of (record { meaning = Some (lines.Command command); left = 0; refusal = refusal }) ≡ None)
one_is d counts command None = (refl, refl, refl)
one_is d counts command (Some r) = (refl, refl, refl)

-- A line of one command, which was attempted and replied to.
pub one_command : {K T Ample : Type 0} {all : Bool} {heard : List Command → Type 0} {told : ToldBySink K} {sink sink' : K}
    {result : Result T SinkFault} {s : Session DeskState} {command : Command} {refusal : Option Refusal} {before_it after_it : Kept}
    {before after : Tally} {reply : Reply} → (Ample → refusal ≢ Some Memory) → StandsFor s.state.desk before_it → s.counts ≡ counts_in before
    → ((d : Desk) → StandsFor d before_it → ListenedAttempt all d command refusal after_it) → heard (heard_of command refusal)
    → reply ≡ reply_for refusal → Puts told sink sink' result (reply_text reply) → counts_in after ≡ counted_in reply (counts_in before)
    → SparedAnswer Ample all heard told sink sink' result s (Some (lines.Command command)) after_it after
one_command {all} {heard} {s = s} {command} {refusal} {before} other stands counted attempt h is puts counts =
    let turn : LineState = record { meaning = Some (lines.Command command); left = 0; refusal = refusal } in
    let one = λ (d : Desk). one_is d (counts_in before) command refusal in
    answered {turn = turn} other
    (attempted {all = all} {heard = λ done. done ≡ []} (nothing_yet stands refl refl) refl attempt
    (λ done none. rw none h) refl) (one s.state.desk).2 counted (λ d here. Puts-is puts (ap reply_text is ∙ (one d).0))
    (λ d here. on_ok _ _ (counts ∙ ap (λ r. counted_in r (counts_in before)) is ∙ (one d).1))
