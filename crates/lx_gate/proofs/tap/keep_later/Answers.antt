use Rattle.lx_gate.proofs.Imports.{arith}
use Rattle.lx_gate.specs.Notes.{commands_of_note}
use Rattle.lx_gate.proofs.LongestList.{longest_second}
use Rattle.lx_gate.proofs.FirstVersion.{frame_of_version}
use Rattle.lx_gate.proofs.tap.keep_later.Goals as goal

pub returns-then-stamp-note : goal.returns-then-stamp-note
returns-then-stamp-note c = λ show list v f.
    rw (
      longest_second list (commands_of_note c.args.note.now) (omega (arith, v.count_is, f.count_is, c.if-stamp-note.true)),
      c.copy_from_slice.ensures.after,
    ) (frame_of_version _ _ _ _ _ _ _ c.requires.low c.requires.high (omega (arith, c.requires.low)) v)
