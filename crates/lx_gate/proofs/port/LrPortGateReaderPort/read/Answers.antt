use Rattle.lx_gate.proofs.Imports.{rules}
use Rattle.lx_gate.proofs.LongestList.{chained_before}
use Rattle.lx_gate.proofs.port.LrPortGateReaderPort.read.Goals as goal

pub returns-in-Some-answer-clause-chained : goal.returns-in-Some-answer-clause-chained
returns-in-Some-answer-clause-chained g c = chained_before c.again-list.result c.args.self.now.learnt (search rules)
