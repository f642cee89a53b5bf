use Rattle.std.proofs.Common.{rules}
use Rattle.wire.specs.Frames.{wrong_length}
use Rattle.wire.proofs.frame.map.Goals as goal

pub returns-in_default : goal.returns-in_default
returns-in_default c = wrong_length (search rules)
