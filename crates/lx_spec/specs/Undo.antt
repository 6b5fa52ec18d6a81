-- Undo and redo: a desk with the shows that edits and records replaced. Playback, faders and master go on untouched.
use Rattle.std.specs.Prelude.{ℕ, ◌-◌, Bool, Result, Ok, Err, List, [], ◌∷◌, ◌++◌, length, take, drop, slice_get, if◌then◌else◌}
use Rattle.std.specs.Option.{option_map_or}
use Rattle.lx_spec.specs.declared.Command.{Command}
use Rattle.lx_spec.specs.declared.Refusal.{Refusal}
use Rattle.lx_spec.specs.declared.UndoFault.{UndoFault}
use Rattle.lx_spec.specs.declared.UndoFault.TheVariants.{NothingToUndo, NothingToRedo}
use Rattle.lx_spec.specs.FirstRefusal.{◌>>=◌}
use Rattle.lx_spec.specs.Show.{Show}
use Rattle.lx_spec.specs.Desk.{Desk, opened, step, is_edit}
use Rattle.lx_spec.specs.RecordedLevels.{recorded}

-- back lists the shows before this one, the oldest first, at most depth of them; forth those that were taken back, the next one first
pub record UndoState : Type 0 where
  pub desk : Desk
  pub back : List Show
  pub forth : List Show
  pub depth : ℕ

-- a desk as it is opened over a show: nothing can be undone or redone
abbrev pub opened_with : Show → ℕ → UndoState
opened_with show depth = record { desk = opened show; back = []; forth = []; depth = depth }

-- the desk with another show under it
abbrev pub with_show : Desk → Show → Desk
with_show d show = record d { show = show }

-- the last n of a list
abbrev pub last_of : {A : Type 0} → ℕ → List A → List A
last_of n xs = drop (length xs - n) xs

-- the show was replaced, and the desk is then this one: the show before can be brought back, and what was taken back is gone
abbrev pub replaced : UndoState → Desk → UndoState
replaced s d = record s { desk = d; back = last_of s.depth (s.back ++ s.desk.show ∷ []); forth = [] }

-- the state after a command, or its refusal
abbrev pub undo_step : UndoState → Command → Result UndoState Refusal
undo_step s command = do
  d ← step s.desk command
  Ok (if is_edit command then replaced s d else record s { desk = d })

-- the state after a record at cue n, or its refusal
abbrev pub record_step : UndoState → ℕ → Bool → Result UndoState Refusal
record_step s n only = do
  show ← recorded s.desk n only
  Ok (replaced s (with_show s.desk show))

-- back to a show, the last of those before
abbrev pub back_to : UndoState → Show → UndoState
back_to s show = record s { desk = with_show s.desk show; back = take (length s.back - 1) s.back; forth = s.desk.show ∷ s.forth }

abbrev pub undo : UndoState → Result UndoState UndoFault
undo s = option_map_or (λ show. Ok (back_to s show)) (slice_get s.back (length s.back - 1)) (Err NothingToUndo)

-- forth to a show, the first of those that were taken back
abbrev pub forth_to : UndoState → Show → UndoState
forth_to s show = record s { desk = with_show s.desk show; back = s.back ++ s.desk.show ∷ []; forth = drop 1 s.forth }

abbrev pub redo : UndoState → Result UndoState UndoFault
redo s = option_map_or (λ show. Ok (forth_to s show)) (slice_get s.forth 0) (Err NothingToRedo)
