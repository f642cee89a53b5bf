use Rattle.interpreter.proofs.Reading.{read_is_call}
use Rattle.interpreter.proofs.read.plan_line.Goals as goal

pub returns-in_err-take-clause-tells : goal.returns-in_err-take-clause-tells
returns-in_err-take-clause-tells c = absurd (read_is_call _ _ _ _ c.in_ok-frame.ensures.1 c.in_err-take.ensures.tells.0)
