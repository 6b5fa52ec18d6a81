use Rattle.lx_reader.proofs.Imports.{◌∙◌, subst, sym, left, Outcome, facts_of, settled}
use Rattle.std.proofs.lemmas.Bool.{and_parts}
use Rattle.lx_reader.proofs.LevelsLines.{inside_record, levels_entry}
use Rattle.lx_reader.proofs.reading.ShowPass.step.Goals as goal

pub returns-in-Some-clause-outcome : goal.returns-in-Some-clause-outcome
returns-in-Some-clause-outcome g c =
    let g = c.args.self.now in
    let takes = and_parts _ _ (sym c.takes_levels.ensures ∙ c.if-takes_levels.true) in
    subst (Outcome (settled g) (settled c.levels_line.new.self) c.args.i c.levels_line.result)
    (sym (levels_entry (facts_of (settled g) c.args.i) c.args.line.now (left c.in-Some.levels) c.requires.short c.in-Some.ensures takes.0
    (inside_record g.reader.show g.reader.section g.moves g.held c.requires.pass.fits takes.1)))
    c.levels_line.ensures.outcome
