use Rattle.lx_reader.proofs.Imports.{◌∙◌, refl, not_read, handed_one, entry_of, facts_of, settled}
use Rattle.lx_reader.proofs.LinePass.{line_turn, long_turn, no_read_fault}
use Rattle.lx_reader.proofs.pass.read_line.Goals as goal

pub returns-in-Line-clause-turn : goal.returns-in-Line-clause-turn
returns-in-Line-clause-turn g c =
    let e = c.in-Line.ensures in
    line_turn (settled c.args.reader.now) (settled c.step.new.self)
    (handed_one g.S.Source c.args.lines.now c.advance.new.self e.step.0 e.step.1 e.counted.1 e.counted.0 e.same_reference e.cause.kept)
    (c.number.ensures ∙ e.counted.1) c.step.result (c.line.ensures.line ∙ e.step.2) c.step.ensures.outcome

pub returns-in-Line-clause-read : goal.returns-in-Line-clause-read
returns-in-Line-clause-read g c = λ read. no_read_fault (settled c.args.reader.now) (settled c.step.new.self) c.number.result c.step.result
    (entry_of (facts_of (settled c.args.reader.now) c.number.result) c.line.result.now) c.step.ensures.outcome read

pub returns-in-LongLine-clause-turn : goal.returns-in-LongLine-clause-turn
returns-in-LongLine-clause-turn g c =
    let e = c.in-LongLine.ensures in
    long_turn (settled c.args.reader.now) (settled c.args.reader.now)
    (handed_one g.S.Source c.args.lines.now c.advance.new.self e.step.0 e.step.1 e.counted.1 e.counted.0 e.same_reference e.cause.kept)
    (c.number-in-LongLine.ensures ∙ e.counted.1) e.step.3

pub returns-in-ReadFault-clause-turn : goal.returns-in-ReadFault-clause-turn
returns-in-ReadFault-clause-turn g c = let e =
    c.in-ReadFault.ensures in not_read g.S.Source c.args.lines.now c.advance.new.self e.step (e.none_held refl)
