-- What a line that asks something of the history comes to.
use Rattle.std.specs.Prelude.{◌≡◌, ◌⊎◌, ℕ, ◌+◌, Option, Some, None, Err, List}
use Rattle.std.specs.Result.{IsOkAnd}
use Rattle.lx_spec.specs.declared.Refusal.TheVariants.{Memory}
use Rattle.lx_spec.specs.declared.UndoLine.{UndoLine}
use Rattle.lx_spec.specs.Replies.{ok_text, refused_text}
use Rattle.lx_spec.specs.Session.{Counts}
use Rattle.lx_spec.specs.Undo.{UndoState}
use Rattle.lx_spec.specs.UndoSession.{undo_fault_text, after_asking, MayFailAsked}
use Rattle.lx_undo.specs.declared.asked.Denial.{Denial}
use Rattle.lx_undo.specs.declared.asked.Denial.TheVariants as denials
use Rattle.lx_undo.specs.UndoDeskMeaning.{UndoKept, UndoStands}

abbrev pub denial_text : Denial → List ℕ
denial_text (denials.History fault) = undo_fault_text fault
denial_text (denials.Desk refusal) = refused_text refusal

-- memory ran out where it may be
pub record WantsAsked (s : UndoState) (what : UndoLine) (denial : Denial) : Type 0 where
  pub memory : denial_text denial ≡ refused_text Memory
  pub may : MayFailAsked s what

-- It was done, and the desk stands for the state after it; or denied, and the desk stands for the same: as the state denies it, or out of
-- memory.
abbrev pub HasAsked : UndoState → UndoLine → Option Denial → UndoKept → Type 0
HasAsked s what None u = IsOkAnd (after_asking s what) (λ next. UndoStands next u)
HasAsked s what (Some denial) u =
    UndoStands s u × ((after_asking s what ≡ Err (denial_text denial)) ⊎ WantsAsked s what denial)

-- the reply to what was done or denied
abbrev pub answer_text : Option Denial → List ℕ
answer_text None = ok_text
answer_text (Some denial) = denial_text denial

abbrev pub counted_denial : Option Denial → Counts → Counts
counted_denial None counts = record counts { ok = counts.ok + 1 }
counted_denial (Some denial) counts = record counts { refused = counts.refused + 1 }
