use Rattle.lx_reader.proofs.Imports.{◌∙◌, settled}
use Rattle.lx_reader.proofs.LinePass.{passage_none, passage_ready, passage_more, passage_loaded, loaded_read, passage_fault, handed_on}
use Rattle.lx_reader.proofs.pass.read_show_in.Goals as goal

pub loop-reader-init : goal.loop-reader-init
loop-reader-init g c =
    let e = c.new-reader.ensures in
    record {
      passage = passage_none g.S.Source c.args.lines.now c.requires.first c.requires.going c.in-Ok.ensures.show e.reader;
      fits = e.fits;
      count = c.in-Ok.ensures.cause.kept;
    }

pub read_line-requires-clause-ready : goal.read_line-requires-clause-ready
read_line-requires-clause-ready g c = passage_ready c.loop-reader.invariant.passage

pub returns-in_err-read_line-clause-answer : goal.returns-in_err-read_line-clause-answer
returns-in_err-read_line-clause-answer g c =
    let fault = c.in_err-read_line.field-0.0 in
    handed_on g.S.Source c.args.lines.now c.read_line.new.lines c.args.form c.from_residual.result fault c.from_residual.ensures.1
    (passage_fault c.loop-reader.invariant.passage c.read_line.new.lines c.args.form (settled c.read_line.new.reader) fault
    c.in_err-read_line.ensures.turn)

pub returns-then-reader-clause-answer : goal.returns-then-reader-clause-answer
returns-then-reader-clause-answer g c = passage_loaded c.loop-reader.invariant.passage c.read_line.new.lines c.args.form
    (settled c.read_line.new.reader) c.loaded_by.result c.in_ok-read_line.ensures.turn c.if-reader.true c.loaded_by.ensures.loaded

pub returns-then-reader-clause-read : goal.returns-then-reader-clause-read
returns-then-reader-clause-read g c = λ read. loaded_read c.args.form (settled c.read_line.new.reader) c.loaded_by.result c.loaded_by.ensures.loaded read

pub loop-reader-preserved : goal.loop-reader-preserved
loop-reader-preserved g c =
    let e = c.in_ok-read_line.ensures in
    record {
      passage = passage_more c.loop-reader.invariant.passage c.read_line.new.lines c.args.form (settled c.read_line.new.reader) e.turn
          c.if-reader.false;
      fits = e.fits;
      count = e.cause.kept ∙ c.loop-reader.invariant.count;
    }
