-- A line that was done on one of the lists was answered for both.
use Rattle.lx_lists.proofs.Imports.{◌≡◌, ℕ, Bool, true, false, Option, Some, None, Result, List, [], refl, sym, ap, ◌∙◌, subst}
use Rattle.lx_lists.proofs.Imports.{filter, fold, if◌then◌else◌, SinkFault, Line, after_command, frame_text, line_of, Session, is_quit, with_text}
use Rattle.lx_lists.proofs.Imports.{DeskState, begun, tried, after_attempts, TwoDesks, is_tick, is_for_second, second_meaning, second_answer}
use Rattle.lx_lists.proofs.Imports.{first_answer, two_answer, frame_of_two, TwoMayFail, two_answering, frame_of, ExtendsText, IsLawful, OneAnswer, TurnAnswer}
use Rattle.lx_lists.proofs.Imports.{line_answered, with_reply_is, TwoKept, TwoStand, TicksReach, Stays}
use Rattle.lx_io.specs.Puts.{Puts}
use Rattle.lx_io.specs.Told.{ToldBySink}
use Rattle.lx_spec.specs.declared.Line.TheVariants as lines
use Rattle.lx_session.specs.declared.tally.Tally.{Tally}
use Rattle.lx_session.specs.LineReply.{reply_to, counts_in}
use Rattle.lx_session.specs.Spared.{spared}
use Rattle.lx_session.proofs.Replies.{on_ok}
use Rattle.lx_lists.proofs.SecondLines.{quit_is_first}

-- the state after the attempts of a line of the first list that asks for no frame, and of one of the second
abbrev first_after : TwoDesks → DeskState → TwoDesks
first_after s t = record { first = t.desk; second = fold after_command s.second (filter is_tick t.accepted) }

abbrev second_after : TwoDesks → DeskState → TwoDesks
second_after s t = record s { second = t.desk }

first_is : (failed : Option ℕ) (s : Session TwoDesks) (meaning : Option Line) → frame_of meaning ≡ None
    → first_answer failed s meaning
    ≡ (let t = tried failed (begun s.state.first) meaning in after_attempts s meaning t (first_after s.state t.state))
first_is failed s (Some (lines.Frame u)) none = cc
first_is failed s other none = refl

module _ (failed : Option ℕ) (s : Session TwoDesks) (line : List ℕ) where
  for_first : is_for_second line ≡ false → two_answer failed s line ≡ first_answer failed s (line_of line)
  for_first is = ap (λ (b : Bool). if b then second_answer failed s (second_meaning line) else first_answer failed s (line_of line)) is

  for_second : is_for_second line ≡ true → two_answer failed s line ≡ second_answer failed s (second_meaning line)
  for_second is = ap (λ (b : Bool). if b then second_answer failed s (second_meaning line) else first_answer failed s (line_of line)) is

module _ {K T : Type 0} {told : ToldBySink K} {sink sink' : K} {result : Result T SinkFault}
    {s : Session TwoDesks} {line : List ℕ} {t : TwoKept} {tally : Tally} (ample : Bool) where
  pub answered_second : is_for_second line ≡ true
      → TurnAnswer (ample ≡ true) true (Stays s.state.first t.first) told sink sink' result s.counts (begun s.state.second) (second_meaning line) t.second tally
      → OneAnswer (spared ample two_answering) told sink sink' result s line (λ (state : TwoDesks). TwoStand state t) tally
  answered_second is a = line_answered two_answering ample (λ (state : TwoDesks). TwoStand state t) (second_after s.state) a
      (for_second a.failed s line is) (λ edit. subst (TwoMayFail s.state line) (sym is) edit) (record { first = a.listened; second = a.stands })

  pub answered_first : is_for_second line ≡ false → frame_of (line_of line) ≡ None
      → TurnAnswer (ample ≡ true) true (TicksReach s.state.second t.second) told sink sink' result s.counts (begun s.state.first) (line_of line) t.first tally
      → OneAnswer (spared ample two_answering) told sink sink' result s line (λ (state : TwoDesks). TwoStand state t) tally
  answered_first is none a = line_answered two_answering ample (λ (state : TwoDesks). TwoStand state t) (first_after s.state) a
      (for_first a.failed s line is ∙ first_is a.failed s (line_of line) none) (λ edit. subst (TwoMayFail s.state line) (sym is) edit)
      (record { first = a.stands; second = subst (TicksReach s.state.second t.second) (sym a.accepted) a.listened })

  -- a frame of both
  pub answered_frame : (u : ℕ) → is_for_second line ≡ false → line_of line ≡ Some (lines.Frame u) → TwoStand s.state t
      → s.counts ≡ counts_in tally → Puts told sink sink' result (frame_text [] s.state.first.playback.moment u (frame_of_two s.state u))
      → OneAnswer (spared ample two_answering) told sink sink' result s line (λ (state : TwoDesks). TwoStand state t) tally
  answered_frame u is frame stand counts puts = record {
    next = with_text s (frame_text [] s.state.first.playback.moment u (frame_of_two s.state u));
    failed = None;
    goes_on = record { is = for_first None s line is ∙ ap (first_answer None s) frame; allowed = tt };
    stands = stand;
    reply = frame_text [] s.state.first.playback.moment u (frame_of_two s.state u);
    text = refl;
    puts = puts;
    counts = on_ok result _ counts;
  }

extends_plain : (failed : Option ℕ) (s : Session TwoDesks) (meaning : Option Line) → frame_of meaning ≡ None
    → ExtendsText s (first_answer failed s meaning)
extends_plain failed s meaning none =
    let t = tried failed (begun s.state.first) meaning in
    subst (ExtendsText s) (sym (first_is failed s meaning none))
    (record { more = reply_to t.state.desk meaning t.refusal; text = (with_reply_is s meaning t (first_after s.state t.state)).text })

extends_first : (failed : Option ℕ) (s : Session TwoDesks) (meaning : Option Line) → ExtendsText s (first_answer failed s meaning)
extends_first failed s (Some (lines.Frame u)) = record {
  more = frame_text [] s.state.first.playback.moment u (frame_of_two s.state u);
  text = refl;
}
extends_first failed s other = extends_plain failed s other refl

extends_by : (failed : Option ℕ) (s : Session TwoDesks) (line : List ℕ) (b : Bool)
    → ExtendsText s (if b then second_answer failed s (second_meaning line) else first_answer failed s (line_of line))
extends_by failed s line true =
    let t = tried failed (begun s.state.second) (second_meaning line) in record {
      more = reply_to t.state.desk (second_meaning line) t.refusal;
      text = (with_reply_is s (second_meaning line) t (second_after s.state t.state)).text;
    }
extends_by failed s line false = extends_first failed s (line_of line)

pub two_lawful : IsLawful two_answering
two_lawful = record {
  extends = λ failed s line. extends_by failed s line (is_for_second line);
  ends = λ failed s line quit. for_first failed s line (quit_is_first line quit) ∙ quits failed s (line_of line) quit;
} where
  quits : (failed : Option ℕ) (s : Session TwoDesks) (meaning : Option Line) → is_quit meaning ≡ true → first_answer failed s meaning ≡ s
  quits failed s (Some lines.Quit) quit = refl
  quits failed s other quit = cc
