-- The first words of script lines, and what a line may be after each.
use Rattle.std.specs.Prelude.{ℕ, true, false, Option, List, [], ◌∷◌, codes}
use Rattle.lx_spec.specs.declared.Edit.TheVariants.{MakeCue, AddPart, DeletePart}
use Rattle.lx_spec.specs.declared.Edit.TheVariants as edits
use Rattle.lx_spec.specs.declared.PlayKey.TheVariants as keys
use Rattle.lx_spec.specs.declared.Key.TheVariants.{Play}
use Rattle.lx_spec.specs.declared.Command.TheVariants as commands
use Rattle.lx_spec.specs.declared.Line.{Line}
use Rattle.lx_spec.specs.declared.Line.TheVariants as lines
use Rattle.lx_spec.specs.Phrase.{Tokens}
use Rattle.lx_spec.specs.Script.{alone, goto_line, fader_line, master_line, tick_line, cue_edit, delete_line, set_line, release_line}
use Rattle.lx_spec.specs.Script.{time_line, part_edit, follow_line, label_line, group_line, sub_line, patch_line, unpatch_line}
use Rattle.lx_spec.specs.Script.{frame_line, sheet_line}
use Rattle.lx_script.specs.declared.first_word.FirstWord.{FirstWord}
use Rattle.lx_script.specs.declared.first_word.FirstWord.TheVariants.{Go, Back, Goto, Settle, Fader, Master, Tick, Cue, Delete, Set}
use Rattle.lx_script.specs.declared.first_word.FirstWord.TheVariants.{Release, Time, Part, Unpart, Block, Unblock, Assert, Unassert, Follow}
use Rattle.lx_script.specs.declared.first_word.FirstWord.TheVariants.{Label, Group, Sub, Patch, Unpatch, Frame, Sheet, Save, Quit}

-- how they are spelled
abbrev pub first_words : List (List ℕ × FirstWord)
first_words =
    (codes "GO", Go) ∷ (codes "BACK", Back) ∷ (codes "GOTO", Goto) ∷ (codes "SETTLE", Settle)
    ∷ (codes "FADER", Fader) ∷ (codes "MASTER", Master) ∷ (codes "TICK", Tick) ∷ (codes "CUE", Cue)
    ∷ (codes "DELETE", Delete) ∷ (codes "SET", Set) ∷ (codes "RELEASE", Release) ∷ (codes "TIME", Time)
    ∷ (codes "PART", Part) ∷ (codes "UNPART", Unpart) ∷ (codes "BLOCK", Block) ∷ (codes "UNBLOCK", Unblock)
    ∷ (codes "ASSERT", Assert) ∷ (codes "UNASSERT", Unassert)
    ∷ (codes "FOLLOW", Follow) ∷ (codes "LABEL", Label) ∷ (codes "GROUP", Group) ∷ (codes "SUB", Sub)
    ∷ (codes "PATCH", Patch) ∷ (codes "UNPATCH", Unpatch) ∷ (codes "FRAME", Frame) ∷ (codes "SHEET", Sheet)
    ∷ (codes "SAVE", Save) ∷ (codes "QUIT", Quit) ∷ []

-- what a line with the word at its front may be, by the tokens after it
abbrev pub sentence_of : List ℕ → FirstWord → Tokens → Option Line
sentence_of line Go = alone (lines.Command (commands.Key (Play keys.Go)))
sentence_of line Back = alone (lines.Command (commands.Key (Play keys.Back)))
sentence_of line Goto = goto_line
sentence_of line Settle = alone (lines.Command (commands.Key (Play keys.Settle)))
sentence_of line Fader = fader_line
sentence_of line Master = master_line
sentence_of line Tick = tick_line
sentence_of line Cue = cue_edit MakeCue
sentence_of line Delete = delete_line
sentence_of line Set = set_line
sentence_of line Release = release_line
sentence_of line Time = time_line
sentence_of line Part = part_edit AddPart
sentence_of line Unpart = part_edit DeletePart
sentence_of line Block = cue_edit edits.Block
sentence_of line Unblock = cue_edit edits.Unblock
sentence_of line Assert = cue_edit (λ n. edits.Asserted n true)
sentence_of line Unassert = cue_edit (λ n. edits.Asserted n false)
sentence_of line Follow = follow_line
sentence_of line Label = label_line line
sentence_of line Group = group_line
sentence_of line Sub = sub_line
sentence_of line Patch = patch_line
sentence_of line Unpatch = unpatch_line
sentence_of line Frame = frame_line
sentence_of line Sheet = sheet_line
sentence_of line Save = alone lines.Save
sentence_of line Quit = alone lines.Quit
