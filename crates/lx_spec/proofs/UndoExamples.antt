-- Examples of record, undo and redo, by computation: a rising fade that is half way is recorded as a cue, and taken back.
use Rattle.lx_spec.proofs.Imports.{◌≡◌, true, false, Ok, Err, List, [], ◌∷◌, fold, replicate, refl, result_unwrap_or, Move, Command, MakeCue, Block}
use Rattle.lx_spec.proofs.Imports.{Play, Go, AbsentCue, ◌>>=◌, Cue, Show, new_cue, new_part}
use Rattle.lx_spec.specs.declared.Command.TheVariants as commands
use Rattle.lx_spec.specs.declared.UndoFault.TheVariants.{NothingToUndo, NothingToRedo}
use Rattle.lx_spec.specs.RecordedLevels.{recorded}
use Rattle.lx_spec.specs.Undo.{UndoState, opened_with, with_show, undo_step, record_step, undo, redo}

-- a show of two channels
abbrev of_cues : List Cue → Show
of_cues cues = record { channels = 2; cues = cues; groups = []; subs = []; patch = [] }

-- cue 1 brings channel 1 up to full in 8 hundredths of a second, cue 3 brings it to 30, and cue 5 is where it stays so
abbrev first : Cue
first = record (new_cue 1000) { parts = record (new_part 1) { up = 8 } ∷ []; moves = record { chan = 1; part = 1; level = 255 } ∷ [] }

abbrev third : Cue
third = record (new_cue 3000) { parts = new_part 1 ∷ new_part 2 ∷ []; moves = record { chan = 1; part = 2; level = 30 } ∷ [] }

abbrev fifth : Cue
fifth = new_cue 5000

abbrev before : Show
before = of_cues (first ∷ third ∷ fifth ∷ [])

-- the state after a command, which is accepted or changes nothing
abbrev after : UndoState → Command → UndoState
after s command = result_unwrap_or (undo_step s command) s

-- two ticks after cue 1 was started
abbrev half_way : UndoState
half_way = fold after (opened_with before 2) (commands.Key (Play Go) ∷ commands.Tick ∷ commands.Tick ∷ [])

abbrev at_half : List Move
at_half = record { chan = 1; part = 1; level = 127 } ∷ []

-- a new cue takes the level that channel 1 has reached; channel 2 is at its tracked level, and isn't moved
abbrev after_record : Show
after_record = of_cues (first ∷ record (new_cue 2000) { moves = at_half } ∷ third ∷ fifth ∷ [])

recorded_anew : recorded half_way.desk 2000 false ≡ Ok after_record
recorded_anew = refl

-- a move that is there stays in its part, and what tracked from it changes
recorded_in_its_part : recorded half_way.desk 3000 false
    ≡ Ok (of_cues (first ∷ record third { moves = record { chan = 1; part = 2; level = 127 } ∷ [] } ∷ fifth ∷ []))
recorded_in_its_part = refl

-- unless the next cue is to keep its levels
recorded_alone : recorded half_way.desk 3000 true
    ≡ Ok (of_cues (first ∷ record third { moves = record { chan = 1; part = 2; level = 127 } ∷ [] }
    ∷ record fifth { moves = record { chan = 1; part = 1; level = 30 } ∷ [] } ∷ []))
recorded_alone = refl

-- the record is undone and redone while the fade stands where it stood
abbrev after_it : UndoState
after_it = record half_way { desk = with_show half_way.desk after_record; back = before ∷ [] }

record_enters : record_step half_way 2000 false ≡ Ok after_it
record_enters = refl

record_undone : undo after_it ≡ Ok (record half_way { forth = after_record ∷ [] })
record_undone = refl

record_redone : (undo after_it >>= redo) ≡ Ok after_it
record_redone = refl

-- a refused edit stays out of the history, and an accepted one leaves nothing to redo
refused_edit : undo_step after_it (commands.Edit (Block 4000)) ≡ Err (AbsentCue 4000)
refused_edit = refl

edit_ends_redo : redo (after (record half_way { forth = after_record ∷ [] }) (commands.Edit (MakeCue 1000))) ≡ Err NothingToRedo
edit_ends_redo = refl

-- of three edits the last two can be undone, and no more
undone_to_the_depth : (undo (fold after (opened_with before 2) (replicate 3 (commands.Edit (Block 1000)))) >>= undo >>= undo)
    ≡ Err NothingToUndo
undone_to_the_depth = refl
