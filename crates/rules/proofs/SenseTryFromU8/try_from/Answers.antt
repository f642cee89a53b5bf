use Rattle.std.proofs.Common.{arith}
use Rattle.rules.specs.Senses.{no_sense}
use Rattle.rules.proofs.SenseTryFromU8.try_from.Goals as goal

pub returns-in_default : goal.returns-in_default
returns-in_default c = no_sense (omega arith)
