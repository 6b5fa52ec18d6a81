use Rattle.lx_reader.proofs.Imports.{sym, subst, left, Outcome, facts_of, settled}
use Rattle.lx_reader.proofs.LevelsLines.{entry_by_first}
use Rattle.lx_reader.proofs.reading.ShowPass.line_by_word.Goals as goal

pub returns-in-Some-clause-outcome : goal.returns-in-Some-clause-outcome
returns-in-Some-clause-outcome g c =
    let g = c.args.self.now in
    subst (Outcome (settled g) (settled c.line_of_word.new.self) c.args.i c.line_of_word.result)
    (sym (entry_by_first (facts_of (settled g) c.args.i) c.args.line.now c.in-Some.word (left c.in-Some.tokens) c.requires.short c.in-Some.ensures))
    c.line_of_word.ensures.outcome
