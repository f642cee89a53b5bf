use Rattle.std.proofs.Common.{refl, rules}
use Rattle.std.proofs.lemmas.List.{take_rest}
use Rattle.wire.specs.Frames.{wrong_length}
use Rattle.wire.proofs.frame.parse.Goals as goal

pub returns-in-Table-len1-up : goal.returns-in-Table-len1-up
returns-in-Table-len1-up c = rw c.in-Table-len1-up.is-0 record { long = search rules; shows = (refl, refl, take_rest c.args.rest.now 1) }

pub returns-in_default : goal.returns-in_default
returns-in_default c = wrong_length (search rules)
