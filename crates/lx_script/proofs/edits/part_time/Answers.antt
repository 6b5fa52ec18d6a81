use Rattle.lx_script.proofs.Imports.{true, false, sym, ◌∙◌, codes, option_and_then, word, time_edit, left}
use Rattle.lx_script.proofs.Phrases.{optional_there}
use Rattle.lx_script.proofs.edits.part_time.Goals as goal

pub returns-then-takes : goal.returns-then-takes
returns-then-takes c =
    let edit = time_edit c.in_ok-cue.cue c.unwrap_or-part.result in
    let rest = left c.in_part.new.rest in
    rw (sym c.in_ok-cue.ensures, sym c.in_ok-in_part.ensures, sym c.unwrap_or-part.ensures)
    (c.time_and_delay.ensures ∙ sym (optional_there (codes "UP") rest (left c.takes.new.rest) (edit true)
    (option_and_then (edit false) (word (codes "DOWN") rest)) c.if-takes.ensures.taken))
