use Rattle.lx_edit.proofs.Imports.{◌≤◌, length, take, AreAmong, Grows}
use Rattle.lx_edit.proofs.marks.mark_rest.Given as goal

abbrev pub invariant-loop-entry : goal.invariant-loop-entry
invariant-loop-entry l = record {
  grows : Grows l.initial.chans l.chans;
  within : l.next ≤ length l.old;
  old : AreAmong l.chans (take l.next l.old) l.new;
  new : AreAmong l.chans (take l.entry-index l.new) l.old;
}
