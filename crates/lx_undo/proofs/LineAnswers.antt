-- A line that was done, and whose reply was put, was answered.
use Rattle.lx_undo.proofs.Imports.{◌≡◌, ℕ, Bool, true, false, Option, Some, None, Result, Ok, Err, OnOk, List, refl, sym, ap}
use Rattle.lx_undo.proofs.Imports.{◌∙◌, subst, inl, inr, ◌-◌, is_some, if◌then◌else◌, option_map_or, IsOkAnd, list_any}
use Rattle.lx_undo.proofs.Imports.{cases_Bool, Command, Line, Memory, UndoLine, Desk, Kept, is_edit, ok_text, refused_text, line_of, Session}
use Rattle.lx_undo.proofs.Imports.{DeskState, begun, UndoState, undo_line_of, undo_answer, undo_answering, asked, attempted}
use Rattle.lx_undo.proofs.Imports.{plain, after_asking, after_plain, UndoMayFail, MayFailAsked, after_commands, LineProgress, reply_to, counts_after, counts_in}
use Rattle.lx_undo.proofs.Imports.{LineState, next_of, unattempted, OneAnswer, StandsFor, allowed_some, line_answered, turn_answered}
use Rattle.lx_undo.proofs.Imports.{reached, HasReached, UndoKept, UndoStands, ◌≢◌, IfSome}
use Rattle.lx_io.specs.declared.sink.SinkFault.{SinkFault}
use Rattle.lx_io.specs.Puts.{Puts}
use Rattle.lx_io.specs.Told.{ToldBySink}
use Rattle.lx_session.specs.declared.tally.Tally.{Tally}
use Rattle.lx_session.specs.Spared.{spared}
use Rattle.lx_session.proofs.Replies.{on_ok}
use Rattle.lx_session.proofs.Stood.{spares}
use Rattle.lx_undo.specs.declared.asked.Denial.{Denial}
use Rattle.lx_undo.specs.HistoryLines.{HasAsked, denial_text, answer_text, counted_denial}

-- the state after the line's commands, with the history
plain_is : (s : UndoState) (t : DeskState) (done : List Command) → t.accepted ≡ done → t.desk ≡ after_commands s.desk done
    → after_plain s t ≡ reached s done
plain_is s t done accepted desk = elim (cases_Bool (list_any is_edit done)) [
  | inl some ↦ rw (accepted, desk, some) refl
  | inr none ↦ rw (accepted, desk, none) refl
]

pub plain_answer : (failed : Option ℕ) (s : Session UndoState) (line : List ℕ) → undo_line_of line ≡ None
    → undo_answer failed s line ≡ plain failed s (line_of line)
plain_answer failed s line none =
    ap (λ (o : Option UndoLine). option_map_or (asked failed s) o (plain failed s (line_of line))) none

asked_answer : (failed : Option ℕ) (s : Session UndoState) (line : List ℕ) (what : UndoLine) → undo_line_of line ≡ Some what
    → undo_answer failed s line ≡ asked failed s what
asked_answer failed s line what is =
    ap (λ (o : Option UndoLine). option_map_or (asked failed s) o (plain failed s (line_of line))) is

-- what was done
done_by : (s : UndoState) (what : UndoLine) (u : UndoKept) (r : Result UndoState (List ℕ)) → after_asking s what ≡ r
    → IsOkAnd r (λ next. UndoStands next u) → (next : UndoState) × (after_asking s what ≡ Ok next) × UndoStands next u
done_by s what u (Ok next) is stands = (next, is, stands)
done_by s what u (Err text) is stands = absurd stands

module _ {K T : Type 0} {told : ToldBySink K} {sink sink' : K} {result : Result T SinkFault}
    {s : Session UndoState} {line : List ℕ} {what : UndoLine} {u : UndoKept} (before : Tally) {after : Tally}
    (is : undo_line_of line ≡ Some what) (counted_so : s.counts ≡ counts_in before) (ample : Bool) where
  done : HasAsked s.state what None u → counts_in after ≡ counted_denial None (counts_in before)
      → Puts told sink sink' result (answer_text None)
      → OneAnswer (spared ample undo_answering) told sink sink' result s line (λ (state : UndoState). UndoStands state u) after
  done did counts puts =
      let n = done_by s.state what u (after_asking s.state what) refl did in
      record {
        next = attempted s (Ok n.0);
        failed = None;
        goes_on = record { is = asked_answer None s line what is ∙ ap (attempted s) n.1; allowed = tt };
        stands = n.2;
        reply = ok_text;
        text = refl;
        puts = puts;
        counts = on_ok result _ (ap (counted_denial None) counted_so ∙ sym counts);
      }

  refused : (denial : Denial) (failed : Option ℕ)
      → (if is_some failed then Err (refused_text Memory) else after_asking s.state what) ≡ Err (denial_text denial)
      → (ample ≡ true → failed ≡ None) → (is_some failed ≡ true → MayFailAsked s.state what) → UndoStands s.state u
      → counts_in after ≡ counted_denial (Some denial) (counts_in before) → Puts told sink sink' result (answer_text (Some denial))
      → OneAnswer (spared ample undo_answering) told sink sink' result s line (λ (state : UndoState). UndoStands state u) after
  refused denial failed comes none may stands counts puts = record {
    next = attempted s (Err (denial_text denial));
    failed = failed;
    goes_on = record {
      is = asked_answer failed s line what is ∙ ap (attempted s) comes;
      allowed = spares ample failed (UndoMayFail s.state line (undo_line_of line)) none
          (allowed_some failed (UndoMayFail s.state line (undo_line_of line)) (λ e. subst (UndoMayFail s.state line) (sym is) (may e)));
    };
    stands = stands;
    reply = denial_text denial;
    text = refl;
    puts = puts;
    counts = on_ok result _ (ap (counted_denial (Some denial)) counted_so ∙ sym counts);
  }

  denied : (b : Bool) → ample ≡ b → (denial : Denial) → HasAsked s.state what (Some denial) u
      → (ample ≡ true → after_asking s.state what ≡ Err (denial_text denial)) → counts_in after ≡ counted_denial (Some denial) (counts_in before)
      → Puts told sink sink' result (answer_text (Some denial))
      → OneAnswer (spared ample undo_answering) told sink sink' result s line (λ (state : UndoState). UndoStands state u) after
  denied true is_ample denial did own counts puts = refused denial None (own is_ample) (λ e. refl) (λ e. cc) did.0 counts puts
  denied false is_ample denial did own counts puts = elim did.1 [
    | inl mine ↦ refused denial None mine (λ e. refl) (λ e. cc) did.0 counts puts
    | inr want ↦ refused denial (Some 0) (ap Err (sym want.memory)) (λ e. let no : false ≡ true = sym is_ample ∙ e in absurd cc)
        (λ e. want.may) did.0 counts puts
  ]

  -- Of a line that asks something of the history.
  pub answered_asked : (denial : Option Denial) → HasAsked s.state what denial u
      → (ample ≡ true → IfSome denial (λ d. after_asking s.state what ≡ Err (denial_text d)))
      → counts_in after ≡ counted_denial denial (counts_in before) → Puts told sink sink' result (answer_text denial)
      → OneAnswer (spared ample undo_answering) told sink sink' result s line (λ (state : UndoState). UndoStands state u) after
  answered_asked None did own counts puts = done did counts puts
  answered_asked (Some denial) did own counts puts = denied ample refl denial did own counts puts

-- Of a line that asks nothing of the history, from its attempts and the reply that was put.
pub answered_line : {K T : Type 0} {told : ToldBySink K} {sink sink' : K} {result : Result T SinkFault}
    {s : Session UndoState} {text : List ℕ} {meaning : Option Line} {start turn : LineState} {u : UndoKept} {console : Kept}
    (before : Tally) {after : Tally} (ample : Bool) → (ample ≡ true → turn.refusal ≢ Some Memory) → start ≡ unattempted meaning
    → console ≡ u.console → meaning ≡ line_of text → undo_line_of text ≡ None → s.counts ≡ counts_in before
    → LineProgress true (HasReached s.state u (start.left - turn.left)) (begun s.state.desk) start turn u.console → next_of turn ≡ None
    → ((d : Desk) → StandsFor d console → Puts told sink sink' result (reply_to d turn.meaning turn.refusal))
    → ((d : Desk) → StandsFor d console → OnOk result (counts_in after ≡ counts_after d (counts_in before) turn.meaning turn.refusal))
    → OneAnswer (spared ample undo_answering) told sink sink' result s text (λ (state : UndoState). UndoStands state u) after
answered_line {s = s} {text} {turn = turn} {u} before ample other begun_so same is none counted_so t over puts counts =
    let a = turn_answered {turn = turn} {before = before} other (rw (begun_so, is) at t) over counted_so (rw same at puts) (rw same at counts) in
    line_answered undo_answering ample (λ (state : UndoState). UndoStands state u) (after_plain s.state) a (plain_answer a.failed s text none)
    (λ edit. subst (UndoMayFail s.state text) (sym none) edit)
    (subst (λ (x : UndoState). UndoStands x u) (sym (plain_is s.state a.now a.commands a.accepted a.desk)) a.listened.stands)
