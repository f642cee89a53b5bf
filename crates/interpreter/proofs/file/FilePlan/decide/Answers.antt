use Rattle.std.proofs.Common.{arith}
use Rattle.interpreter.specs.Calls.{decides, beyond}
use Rattle.interpreter.proofs.file.FilePlan.decide.Goals as goal

pub returns-then-cell-count-clause-decides : goal.returns-then-cell-count-clause-decides
returns-then-cell-count-clause-decides c = beyond (omega arith)

pub returns-clause-decides : goal.returns-clause-decides
returns-clause-decides c = decides (omega arith) c.decide.result _ c.decide.ensures.called
