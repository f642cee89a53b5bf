use Rattle.std.proofs.Common.{arith}
use Rattle.printing.proofs.Hexes.{four_digits}
use Rattle.printing.proofs.CellTextDisplay.fmt.Goals as goal

pub returns-clause-writes : goal.returns-clause-writes
returns-clause-writes g c = rw (four_digits _ _ c.args.self.now.0.mask c.in_radix.ensures c.laid_out.ensures (omega arith)) at c.write.ensures.writes
