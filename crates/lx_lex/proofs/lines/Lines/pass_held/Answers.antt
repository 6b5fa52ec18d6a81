use Rattle.lx_lex.proofs.Imports.{sym, arith, inl, inr, refl}
use Rattle.lx_lex.proofs.HeldBytes.{passed}
use Rattle.lx_lex.proofs.Ranges.{has_feed-range}
use Rattle.lx_lex.proofs.lines.Lines.pass_held.Goals as goal
use Rattle.lx_lex.proofs.lines.Lines.pass_held.Goals.{then-found, else-found}

pub returns-clause-took : goal.returns-clause-took
returns-clause-took g c =
    let l = c.args.self.now in
    passed l.buffer l.start l.feed l.end c.if-found.next (g.S.Source.left l.source.now) l.taken _ l.ordered l.held (omega arith) l.unfed l.fed
    (elim c.if-found.branch [ then-found w ↦ inl (w.if-found.true, w.next-is) | else-found w ↦ inr (w.if-found.false, w.next-is) ]) refl

pub returns-clause-found : goal.returns-clause-found
returns-clause-found g c =
    let l = c.args.self.now in
    sym (has_feed-range l.buffer l.start l.feed l.end l.ordered (omega arith) l.held l.unfed l.fed)
