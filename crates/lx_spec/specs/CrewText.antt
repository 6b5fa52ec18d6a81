-- The transcript of a crew: lines of several operators in the order in which they were taken, each named and then answered.
use Rattle.std.specs.Prelude.{◌≡◌, ℕ, ◌+◌, ◌==◌, Option, List, [], ◌∷◌, take, codes, decimal}
use Rattle.std.specs.List.{filter}
use Rattle.lx_spec.specs.ShowText.{line}
use Rattle.lx_spec.specs.Text.{lines_of}
use Rattle.lx_spec.specs.Script.{line_of}
use Rattle.lx_spec.specs.Desk.{Desk}
use Rattle.lx_spec.specs.Session.{Session, Answering, begin_at, with_text, after_each, AreAllowed, lines_wanted}
use Rattle.lx_spec.specs.DeskSession.{DeskState, begun, after_line, IsAcceptedEdit}

-- a line, by its operator and its number among that operator's lines, from 1
pub record CrewEntry : Type 0 where
  pub operator : ℕ
  pub number : ℕ
  pub line : List ℕ

-- the lines of a script of these bytes, up to `quit` or the end
abbrev pub lines_up_to_quit : List ℕ → List (List ℕ)
lines_up_to_quit bytes = take (lines_wanted (lines_of bytes)) (lines_of bytes)

-- an operator's entries, in order
abbrev pub of_operator : ℕ → List CrewEntry → List CrewEntry
of_operator operator entries = filter (λ (e : CrewEntry). e.operator == operator) entries

-- lines of an operator, numbered from n
abbrev pub numbered_from : ℕ → ℕ → List (List ℕ) → List CrewEntry
numbered_from operator n [] = []
numbered_from operator n (line ∷ lines) = record { operator = operator; number = n; line = line } ∷ numbered_from operator (n + 1) lines

-- the entries are the lines of each operator, each once, in its order, and no others
abbrev pub Merged : (ℕ → List (List ℕ)) → List CrewEntry → Type 0
Merged lines entries = (operator : ℕ) → of_operator operator entries ≡ numbered_from operator 1 (lines operator)

-- or the first lines of each operator
abbrev pub MergedSoFar : (ℕ → List (List ℕ)) → List CrewEntry → Type 0
MergedSoFar lines entries = (operator : ℕ) → (n : ℕ) × (of_operator operator entries ≡ numbered_from operator 1 (take n (lines operator)))

-- op K N
abbrev pub op_text : CrewEntry → List ℕ
op_text entry = line (codes "op" ∷ decimal entry.operator ∷ decimal entry.number ∷ [])

-- the session after an entry: its name, and then the replies to its line
abbrev pub named : Session DeskState → CrewEntry → Session DeskState
named s entry = with_text s (op_text entry)

abbrev pub after_entry : Option ℕ → Session DeskState → CrewEntry → Session DeskState
after_entry failed s entry = after_line failed (named s entry) entry.line

-- a desk answers the entries of a crew; an attempt may fail at an edit that may take memory and that it accepts
abbrev pub crew_answering : Answering CrewEntry
crew_answering = record { State = DeskState; answer = after_entry; MayFail = λ s entry. IsAcceptedEdit s.desk (line_of entry.line) }

abbrev pub crew_session : Desk → List CrewEntry → List (Option ℕ) → Session DeskState
crew_session d entries failures = after_each crew_answering failures (begin_at (begun d)) entries

abbrev pub crew_text : Desk → List CrewEntry → List (Option ℕ) → List ℕ
crew_text d entries failures = (crew_session d entries failures).text

-- in the session of a crew attempts failed only at edits that may take memory and that the desk accepts
abbrev pub CrewAllows : Desk → List CrewEntry → List (Option ℕ) → Type 0
CrewAllows d entries failures = AreAllowed crew_answering failures (begin_at (begun d)) entries
