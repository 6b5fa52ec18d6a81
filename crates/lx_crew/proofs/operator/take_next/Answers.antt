use Rattle.lx_crew.proofs.Imports.{◌∙◌, handed_one}
use Rattle.lx_crew.proofs.operator.take_next.Goals as goal

pub returns-in-Line-clause-took : goal.returns-in-Line-clause-took
returns-in-Line-clause-took g c =
    let e = c.in-Line.ensures in record {
      raw = e.step.0;
      handed = handed_one _ _ _ e.step.0 e.step.1 e.counted.1 e.counted.0 e.same_reference e.cause.kept;
      text = c.of.ensures ∙ (c.line.ensures.line ∙ e.step.2);
    }

pub returns-in-LongLine-clause-took : goal.returns-in-LongLine-clause-took
returns-in-LongLine-clause-took g c =
    let e = c.in-LongLine.ensures in record {
      raw = e.step.0;
      handed = handed_one _ _ _ e.step.0 e.step.1 e.counted.1 e.counted.0 e.same_reference e.cause.kept;
      text = e.step.3;
    }
