use Rattle.std.proofs.Common.{[]}
use Rattle.planning.proofs.plan.Roster.tally.Goals as goal

pub returns : goal.returns
returns g c w = c.tally.ensures [] w
