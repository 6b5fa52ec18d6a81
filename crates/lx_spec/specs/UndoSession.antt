-- A session with undo: three lines more are known, and edits go into the history.
use Rattle.std.specs.Prelude.{ℕ, nat_lt, Option, Some, None, Result, Ok, Err, IsOk, List, [], ◌∷◌, length, find, codes}
use Rattle.std.specs.Prelude.{is_some, if◌then◌else◌}
use Rattle.std.specs.Option.{option_map_or}
use Rattle.std.specs.List.{list_any}
use Rattle.lx_base.specs.declared.TheConstants.{LINE_BYTES}
use Rattle.lx_spec.specs.declared.Line.{Line}
use Rattle.lx_spec.specs.declared.Refusal.TheVariants.{Memory}
use Rattle.lx_spec.specs.declared.UndoFault.{UndoFault}
use Rattle.lx_spec.specs.declared.UndoFault.TheVariants.{NothingToUndo, NothingToRedo}
use Rattle.lx_spec.specs.declared.UndoLine.{UndoLine}
use Rattle.lx_spec.specs.declared.UndoLine.TheVariants.{Undo, Redo, Record}
use Rattle.lx_spec.specs.Text.{tokens, is_word}
use Rattle.lx_spec.specs.ShowText.{line}
use Rattle.lx_spec.specs.Phrase.{Tokens, ◌>>=◌, ended, only_or_end}
use Rattle.lx_spec.specs.Script.{line_of, cue_number}
use Rattle.lx_spec.specs.Replies.{refused_text}
use Rattle.lx_spec.specs.Desk.{is_edit}
use Rattle.lx_spec.specs.Session.{Session, Answering, ok_reply, refused_reply}
use Rattle.lx_spec.specs.DeskSession.{DeskState, begun, tried, after_attempts, IsAcceptedEdit}
use Rattle.lx_spec.specs.Undo.{UndoState, record_step, undo, redo, replaced}

-- record n [only]
abbrev pub record_line : Tokens → Option UndoLine
record_line rest = do
  n ← cue_number rest
  only_or_end n.1 (Record n.0)

-- each first word, and what its line may be
abbrev pub undo_sentences : List (List ℕ × (Tokens → Option UndoLine))
undo_sentences = (codes "UNDO", λ rest. ended rest Undo) ∷ (codes "REDO", λ rest. ended rest Redo) ∷ (codes "RECORD", record_line) ∷ []

abbrev pub undo_meaning : Tokens → Option UndoLine
undo_meaning [] = None
undo_meaning (first ∷ rest) = option_map_or (λ s. s.1 rest) (find (λ s. is_word s.0 first) undo_sentences) None

-- what the line asks of the history, if it does
abbrev pub undo_line_of : List ℕ → Option UndoLine
undo_line_of line = if nat_lt LINE_BYTES (length line) then None else undo_meaning (tokens line)

abbrev pub undo_fault_text : UndoFault → List ℕ
undo_fault_text NothingToUndo = line (codes "refused" ∷ codes "NothingToUndo" ∷ [])
undo_fault_text NothingToRedo = line (codes "refused" ∷ codes "NothingToRedo" ∷ [])

-- a refusal by its text
abbrev pub told : {A E : Type 0} → (E → List ℕ) → Result A E → Result A (List ℕ)
told text (Ok x) = Ok x
told text (Err e) = Err (text e)

-- the state after such a line, or the text of its refusal
abbrev pub after_asking : UndoState → UndoLine → Result UndoState (List ℕ)
after_asking s Undo = told undo_fault_text (undo s)
after_asking s Redo = told undo_fault_text (redo s)
after_asking s (Record n only) = told refused_text (record_step s n only)

-- one attempt at it and its reply: `ok`, or the text of a refusal
abbrev pub attempted : Session UndoState → Result UndoState (List ℕ) → Session UndoState
attempted s (Ok state) = ok_reply (record s { state = state })
attempted s (Err text) = refused_reply s text

-- the attempt may fail
abbrev pub asked : Option ℕ → Session UndoState → UndoLine → Session UndoState
asked failed s what = attempted s (if is_some failed then Err (refused_text Memory) else after_asking s.state what)

-- the state after any other line, which led the desk so far: an edit that was accepted goes into the history
abbrev pub after_plain : UndoState → DeskState → UndoState
after_plain s t = if list_any is_edit t.accepted then replaced s t.desk else record s { desk = t.desk }

abbrev pub plain : Option ℕ → Session UndoState → Option Line → Session UndoState
plain failed s meaning = let t = tried failed (begun s.state.desk) meaning in after_attempts s meaning t (after_plain s.state t.state)

-- the session after a line
abbrev pub undo_answer : Option ℕ → Session UndoState → List ℕ → Session UndoState
undo_answer failed s line = option_map_or (asked failed s) (undo_line_of line) (plain failed s (line_of line))

-- an attempt may fail at records, and at edits that may take memory, that are accepted otherwise
abbrev pub MayFailAsked : UndoState → UndoLine → Type 0
MayFailAsked s Undo = ⊥
MayFailAsked s Redo = ⊥
MayFailAsked s (Record n only) = IsOk (record_step s n only)

abbrev pub UndoMayFail : UndoState → List ℕ → Option UndoLine → Type 0
UndoMayFail s line (Some what) = MayFailAsked s what
UndoMayFail s line None = IsAcceptedEdit s.desk (line_of line)

-- a desk with its history answers the lines of a script
abbrev pub undo_answering : Answering (List ℕ)
undo_answering = record { State = UndoState; answer = undo_answer; MayFail = λ s line. UndoMayFail s line (undo_line_of line) }
