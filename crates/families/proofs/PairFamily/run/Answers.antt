use Rattle.std.proofs.Common.{ℕ, ◌+◌, length, sym, ap, ap₂}
use Rattle.masks.proofs.Counting.{lost_nothing}
use Rattle.families.proofs.Losses.{values_lost_none}
use Rattle.families.proofs.PairFamily.run.Goals as goal

pub returns-in-Neither-clause-removed : goal.returns-in-Neither-clause-removed
returns-in-Neither-clause-removed g c = sym (ap₂ (λ (a b : ℕ). a + b) (values_lost_none c.args.cells.now) (ap length (lost_nothing 64 c.args.tally.now)))
