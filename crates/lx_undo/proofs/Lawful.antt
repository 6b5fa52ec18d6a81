-- A line only adds to the text, and the line that ends the script leaves a session as it was.
use Rattle.lx_undo.proofs.Imports.{◌≡◌, ℕ, true, Option, Some, None, Result, Ok, Err, List, refl, ap, ◌∙◌, is_some, if◌then◌else◌}
use Rattle.lx_undo.proofs.Imports.{option_map_or, Line, Memory, UndoLine, ok_text, refused_text, line_of, Session, is_quit, begun, tried}
use Rattle.lx_undo.proofs.Imports.{UndoState, undo_line_of, undo_answering, asked, attempted, plain, after_asking, after_plain, reply_to}
use Rattle.lx_undo.proofs.Imports.{ExtendsText, IsLawful, with_reply_is}
use Rattle.lx_session.proofs.HeardLines.{quit_is}
use Rattle.lx_undo.proofs.Lines.{quit_asks_nothing}
use Rattle.lx_undo.proofs.LineAnswers.{plain_answer}

extends_attempt : (s : Session UndoState) (r : Result UndoState (List ℕ)) → ExtendsText s (attempted s r)
extends_attempt s (Ok state) = record { more = ok_text; text = refl }
extends_attempt s (Err text) = record { more = text; text = refl }

extends_by : (failed : Option ℕ) (s : Session UndoState) (meaning : Option Line) (o : Option UndoLine)
    → ExtendsText s (option_map_or (asked failed s) o (plain failed s meaning))
extends_by failed s meaning (Some what) =
    extends_attempt s (if is_some failed then Err (refused_text Memory) else after_asking s.state what)
extends_by failed s meaning None =
    let t = tried failed (begun s.state.desk) meaning in
    record { more = reply_to t.state.desk meaning t.refusal; text = (with_reply_is s meaning t (after_plain s.state t.state)).text }

quit_leaves : (failed : Option ℕ) (s : Session UndoState) (meaning : Option Line) → is_quit meaning ≡ true → plain failed s meaning ≡ s
quit_leaves failed s meaning quit = ap (plain failed s) (quit_is meaning quit)

pub undo_lawful : IsLawful undo_answering
undo_lawful = record {
  extends = λ failed s line. extends_by failed s (line_of line) (undo_line_of line);
  ends = λ failed s line quit. plain_answer failed s line (quit_asks_nothing line quit) ∙ quit_leaves failed s (line_of line) quit;
}
