use Rattle.lx_reader.proofs.Imports.{◌≡◌, ◌-◌, PassFits, settled}
use Rattle.lx_reader.proofs.LinePass.{Passage}
use Rattle.lx_reader.proofs.pass.read_show_in.Given as goal

abbrev pub invariant-loop-reader : goal.invariant-loop-reader
invariant-loop-reader g l = record {
  passage : Passage g.S.Source l.fn.lines l.lines (settled l.reader);
  fits : PassFits l.reader;
  count : g.H.Heap.refusals l.heap ≡ g.H.Heap.refusals l.fn.heap;
}

abbrev pub decreases-loop-reader : goal.decreases-loop-reader
decreases-loop-reader g l = 67108864 - l.lines.number
