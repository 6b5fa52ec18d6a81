use Rattle.lx_lex.proofs.Imports.{sym, arith}
use Rattle.lx_lex.proofs.Ranges.{has_feed-range}
use Rattle.lx_lex.proofs.lines.Lines.holds_line.Goals as goal

pub returns : goal.returns
returns g c =
    let l = c.args.self.now in
    sym (has_feed-range l.buffer l.start l.feed l.end l.ordered (omega arith) l.held l.unfed l.fed)
