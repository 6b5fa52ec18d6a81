use Rattle.lx_writer.proofs.Imports.{List, ap, ◌∙◌, flat_map, Puts-then, Puts-stops, Puts-fails, Puts-is, Move, label_text, part_text}
use Rattle.lx_spec.specs.declared.Part.{Part}
use Rattle.lx_writer.proofs.cue.CueWritten.write.Goals as goal

pub returns-in_err-put_block : goal.returns-in_err-put_block
returns-in_err-put_block g c = rw (← c.self.view_is)
    (Puts-stops _ (Puts-fails {U = Unit {0}} _ (Puts-fails {U = Unit {0}} _
    (Puts-fails {U = Unit {0}} _ (Puts-fails {U = Unit {0}} _ (Puts-then c.in_ok-put_cue_number.ensures c.in_err-put_block.ensures)))))
    c.from_residual-in_err-put_block.ensures)

pub returns-in_err-put_assert : goal.returns-in_err-put_assert
returns-in_err-put_assert g c = rw (← c.self.view_is)
    (Puts-stops _ (Puts-fails {U = Unit {0}} _ (Puts-fails {U = Unit {0}} _ (Puts-fails {U = Unit {0}} _
    (Puts-then (Puts-then c.in_ok-put_cue_number.ensures c.in_ok-put_block.ensures) c.in_err-put_assert.ensures))))
    c.from_residual-in_err-put_assert.ensures)

pub returns-in_err-put_label : goal.returns-in_err-put_label
returns-in_err-put_label g c = rw (← c.self.view_is)
    (Puts-stops _ (Puts-fails {U = Unit {0}} _ (Puts-fails {U = Unit {0}} _
    (Puts-then (Puts-then (Puts-then c.in_ok-put_cue_number.ensures c.in_ok-put_block.ensures) c.in_ok-put_assert.ensures)
    (Puts-is c.in_err-put_label.ensures (ap label_text c.as_slice.ensures.bytes))))) c.from_residual-in_err-put_label.ensures)

pub returns-in_err-put_follow : goal.returns-in_err-put_follow
returns-in_err-put_follow g c = rw (← c.self.view_is)
    (Puts-stops _ (Puts-fails {U = Unit {0}} _
    (Puts-then (Puts-then (Puts-then (Puts-then c.in_ok-put_cue_number.ensures c.in_ok-put_block.ensures) c.in_ok-put_assert.ensures)
    (Puts-is c.in_ok-put_label.ensures (ap label_text c.as_slice.ensures.bytes))) c.in_err-put_follow.ensures))
    c.from_residual-in_err-put_follow.ensures)

pub returns-in_err-put_link : goal.returns-in_err-put_link
returns-in_err-put_link g c = rw (← c.self.view_is)
    (Puts-stops _ (Puts-then (Puts-then (Puts-then (Puts-then (Puts-then c.in_ok-put_cue_number.ensures c.in_ok-put_block.ensures)
    c.in_ok-put_assert.ensures) (Puts-is c.in_ok-put_label.ensures (ap label_text c.as_slice.ensures.bytes))) c.in_ok-put_follow.ensures)
    c.in_err-put_link.ensures) c.from_residual-in_err-put_link.ensures)

pub returns : goal.returns
returns g c =
    rw (← c.self.view_is)
    (Puts-then (Puts-then (Puts-then (Puts-then (Puts-then (Puts-then c.in_ok-put_cue_number.ensures c.in_ok-put_block.ensures)
    c.in_ok-put_assert.ensures) (Puts-is c.in_ok-put_label.ensures (ap label_text c.as_slice.ensures.bytes))) c.in_ok-put_follow.ensures)
    c.in_ok-put_link.ensures)
    (Puts-is c.put_parts.ensures (ap (λ (moves : List Move). flat_map (part_text moves) c.as_slice-3.result.now)
    c.as_slice-2.ensures.entries ∙ ap (λ (parts : List Part). flat_map (part_text c.self.inside.moves) parts)
    c.as_slice-3.ensures.value)))
