use Rattle.std.proofs.Common.{arith, rules}
use Rattle.words.specs.Faults.{wrong_length, no_duty}
use Rattle.words.proofs.check.Goals as goal

pub returns-then-duties-lt1 : goal.returns-then-duties-lt1
returns-then-duties-lt1 c = rw c.min.ensures (wrong_length (search rules))

pub returns-in-Some : goal.returns-in-Some
returns-in-Some c = no_duty (omega arith) (omega arith) c.in-Some.place (search rules)
