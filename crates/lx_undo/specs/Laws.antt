-- Laws of undo and redo.
use Rattle.std.specs.Prelude.{◌≡◌, ℕ, ◌≤◌, Bool, true, Ok}
use Rattle.std.specs.Result.{IsOkAnd}
use Rattle.lx_spec.specs.declared.Command.{Command}
use Rattle.lx_spec.specs.Desk.{is_edit}
use Rattle.lx_spec.specs.Undo.{UndoState, undo_step, record_step, undo, redo}

-- After an accepted edit or record undo gives the desk before it, which also has the show before it. Redo after undo gives the state before
-- both, and undo after redo does.
pub record LawOfUndo : Type 0 where
  pub edit : (s next : UndoState) (command : Command) → 1 ≤ s.depth → is_edit command ≡ true → undo_step s command ≡ Ok next
      → IsOkAnd (undo next) (λ before. before.desk ≡ s.desk)
  pub records : (s next : UndoState) (n : ℕ) (only : Bool) → 1 ≤ s.depth → record_step s n only ≡ Ok next
      → IsOkAnd (undo next) (λ before. before.desk ≡ s.desk)
  pub redone : (s before : UndoState) → undo s ≡ Ok before → redo before ≡ Ok s
  pub undone : (s next : UndoState) → redo s ≡ Ok next → undo next ≡ Ok s
