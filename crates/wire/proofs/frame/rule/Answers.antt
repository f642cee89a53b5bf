use Rattle.std.proofs.Common.{rules}
use Rattle.std.proofs.lemmas.List.{take_rest}
use Rattle.wire.specs.Frames.{wrong_length}
use Rattle.wire.proofs.frame.rule.Goals as goal

pub returns-in-len10-up : goal.returns-in-len10-up
returns-in-len10-up c = record { long = search rules; shows = search (rules, take_rest) }

pub returns-in_default : goal.returns-in_default
returns-in_default c = wrong_length (search rules)
