use Rattle.std.proofs.Common.{arith}
use Rattle.printing.proofs.Hexes.{sixteen_digits}
use Rattle.printing.proofs.RuleTextDisplay.fmt.Goals as goal

pub returns-in-Some-clause-writes : goal.returns-in-Some-clause-writes
returns-in-Some-clause-writes g c =
    rw c.in-Some.is (rw (sixteen_digits _ _ c.args.self.now.0.tally c.in_radix.ensures c.laid_out.ensures (omega arith)) at c.write.ensures.writes)

pub returns-in-None-clause-writes : goal.returns-in-None-clause-writes
returns-in-None-clause-writes g c =
    rw c.in-None.is (rw (sixteen_digits _ _ c.args.self.now.0.tally c.in_radix-in-None.ensures c.laid_out-in-None.ensures (omega arith)) at c.write-in-None.ensures.writes)
